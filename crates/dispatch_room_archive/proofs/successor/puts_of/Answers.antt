use Rattle.std.proofs.Common.{List, ap, filter, map, not, ◌++◌, ◌∙◌}
use Rattle.room_types.specs.declared.changes.Change.{Change}
use Rattle.room_types.specs.declared.changes.Change.TheVariants.{PutAssignment, PutCall}
use Rattle.room_types.specs.declared.changes.Change.TheVariants.{PutDivision, PutIncident, PutLoan}
use Rattle.room_types.specs.declared.changes.Change.TheVariants.{PutOffer, PutPoint, PutReport}
use Rattle.room_types.specs.declared.changes.Change.TheVariants.{PutTurn, PutVehicle}
use Rattle.room_model.specs.Room.{Room}
use Rattle.room_model.specs.RoomSlices.{room_of}
use Rattle.dispatch_room_archive.specs.Successor.{is_over}
use Rattle.dispatch_room_archive.specs.Leftovers.{is_call_over, is_report_over, is_turn_over}
use Rattle.dispatch_room_archive.proofs.PutLaws.{and_then}
use Rattle.dispatch_room_archive.proofs.successor.puts_of.Goals as goal

pub returns : goal.returns
returns c plan =
    let since = c.args.past.now.since in
    let r : Room = room_of plan c.args.past.now.rows.now in
    let from_reports : List Change = map PutReport (filter (λ x. not (is_report_over since r x)) r.reports) in
    let from_offers : List Change = map PutOffer r.offers ++ from_reports in
    let from_loans : List Change = map PutLoan r.loans ++ from_offers in
    let from_points : List Change = map PutPoint r.points ++ from_loans in
    let from_assignments : List Change = map PutAssignment r.assignments ++ from_points in
    let from_turns : List Change = map PutTurn (filter (λ t. not (is_turn_over since r t)) r.turns)
    ++ from_assignments in
    let from_vehicles : List Change = map PutVehicle r.vehicles ++ from_turns in
    let from_calls : List Change = map PutCall (filter (λ c. not (is_call_over since r c)) r.calls) ++ from_vehicles in
    let from_incidents : List Change = map PutIncident (filter (λ i. not (is_over since r i)) r.incidents)
    ++ from_calls in
    let last = c.put_kept-4.new.changes.items in
    and_then c.new-changes.result.items c.put_all.new.changes.items last (map PutDivision r.divisions) from_incidents
    (c.in_ok-put_all.ensures)
    (and_then c.put_all.new.changes.items c.put_kept.new.changes.items last
    (map PutIncident (filter (λ i. not (is_over since r i)) r.incidents)) from_calls (c.in_ok-put_kept.ensures plan)
    (and_then c.put_kept.new.changes.items c.put_kept-2.new.changes.items last
    (map PutCall (filter (λ c. not (is_call_over since r c)) r.calls)) from_vehicles (c.in_ok-put_kept-2.ensures plan)
    (and_then c.put_kept-2.new.changes.items c.put_all-2.new.changes.items last (map PutVehicle r.vehicles) from_turns
    (c.in_ok-put_all-2.ensures)
    (and_then c.put_all-2.new.changes.items c.put_kept-3.new.changes.items last
    (map PutTurn (filter (λ t. not (is_turn_over since r t)) r.turns)) from_assignments
    (c.in_ok-put_kept-3.ensures plan)
    (and_then c.put_kept-3.new.changes.items c.put_all-3.new.changes.items last (map PutAssignment r.assignments)
    from_points (c.in_ok-put_all-3.ensures)
    (and_then c.put_all-3.new.changes.items c.put_all-4.new.changes.items last (map PutPoint r.points) from_loans
    (c.in_ok-put_all-4.ensures)
    (and_then c.put_all-4.new.changes.items c.put_all-5.new.changes.items last (map PutLoan r.loans) from_offers
    (c.in_ok-put_all-5.ensures)
    (and_then c.put_all-5.new.changes.items c.put_all-6.new.changes.items last (map PutOffer r.offers) from_reports
    (c.in_ok-put_all-6.ensures)
    (c.in_ok-put_kept-4.ensures plan)))))))))
    ∙ ap (λ xs. xs ++ (map PutDivision r.divisions ++ from_incidents)) c.new-changes.ensures.items
