-- What a computed lemma unfolds: every definition of the machine that stays shut elsewhere.
use Rattle.std.specs.Prelude.{Bool, true}
use Rattle.room_model.specs.Calls.{call_in}
use Rattle.room_model.specs.ClosedIncidents.{incidents_found, show_closed}
use Rattle.room_model.specs.DayTimes.{show_class_times, show_times}
use Rattle.room_model.specs.Decisions.{refuse_if}
use Rattle.room_model.specs.Incidents.{change_needs, close, merge, show_incidents}
use Rattle.room_model.specs.Loans.{accept, decline, give_back, lend, recall, show_loans}
use Rattle.room_model.specs.Loans.{show_offers, withdraw}
use Rattle.room_model.specs.Points.{show_points}
use Rattle.room_model.specs.Proposals.{candidates, propose}
use Rattle.room_model.specs.Queries.{active_incidents, all_held, assignment_at, assignment_of}
use Rattle.room_model.specs.Queries.{borrowed, calls_of, held, holders, incident_of}
use Rattle.room_model.specs.Queries.{incidents_opened, incidents_over, is_attended, kept_call}
use Rattle.room_model.specs.Queries.{kept_report, last_number, lent, link_target, loan_at, loans_of}
use Rattle.room_model.specs.Queries.{offer_at, offered_by, offered_to, offers_of, open_turn}
use Rattle.room_model.specs.Queries.{point_of, points_of, report_of, reports_of, served, turns_by}
use Rattle.room_model.specs.Queries.{turns_of, vehicle_at}
use Rattle.room_model.specs.Queue.{clear, entries, show_queue, show_reports}
use Rattle.room_model.specs.Reports.{report_in}
use Rattle.room_model.specs.Vehicles.{duty, mobilise, off, show_vehicles, stand_down, standby}
use Rattle.room_place.specs.Places.{distance}
use Rattle.room_place.specs.Plans.{division_of}

unfoldable pub machine : Bool
unfolding accept active_incidents all_held assignment_at assignment_of borrowed call_in calls_of
    candidates change_needs clear close decline distance division_of duty entries give_back held
    holders incident_of incidents_found incidents_opened incidents_over is_attended kept_call kept_report last_number
    lend
    lent link_target loan_at loans_of merge mobilise off offer_at offered_by offered_to
    offers_of open_turn point_of points_of propose recall refuse_if report_in report_of
    reports_of served show_class_times show_closed show_incidents show_loans show_offers show_points show_queue
    show_reports
    show_times show_vehicles stand_down standby turns_by turns_of vehicle_at withdraw
machine = true
