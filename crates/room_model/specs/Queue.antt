-- The queue of what needs an eye.
use Rattle.std.specs.Prelude.{Bool, Err, List, None, Option, Some, [], cond, filter_map, is_none}
use Rattle.std.specs.Prelude.{length, nat_le, nat_lt, not, true, ℕ, ◌&&◌, ◌++◌, ◌==◌, ◌||◌, ◌∷◌}
use Rattle.room_place.specs.Choice.{Among}
use Rattle.room_types.specs.KeyedRows.{IsKeyed, put_row}
use Rattle.room_types.specs.Keys.{entry_cmp, entry_key, owns_loan, owns_offer}
use Rattle.room_types.specs.declared.answers.QueueEntry.{QueueEntry}
use Rattle.room_types.specs.declared.changes.Change.TheVariants.{PutReport}
use Rattle.room_types.specs.declared.codes.Kind.TheVariants.{Ambulance, Car, Support}
use Rattle.room_types.specs.declared.tables.Incident.{Incident}
use Rattle.room_types.specs.declared.tables.Loan.{Loan}
use Rattle.room_types.specs.declared.tables.Offer.{Offer}
use Rattle.room_types.specs.declared.tables.Point.{Point}
use Rattle.room_types.specs.declared.tables.Report.{Report}
use Rattle.room_types.specs.declared.tables.Turn.{Turn}
use Rattle.room_types.specs.declared.tables.Vehicle.{Vehicle}
use Rattle.room_types.specs.Texts.{Callsign}
use Rattle.room_types.specs.Ranks.{is_past}
use Rattle.room_types.specs.Codes.{is_active, is_exception, is_mobilised, is_normal, is_off}
use Rattle.room_model.specs.Decisions.{Verdict, done, refuse_if, show}
use Rattle.room_model.specs.Moments.{age, scene_limit}
use Rattle.room_model.specs.Queries.{holders, incident_of, open_turn, report_of, reports_of, served}
use Rattle.room_model.specs.Room.{Room}
use Rattle.room_types.specs.declared.answers.Answer.TheVariants as answer
use Rattle.room_types.specs.declared.ranks.Rank.TheVariants as rank
use Rattle.room_types.specs.declared.refusal_statuses.Refusal.TheVariants as refusal

-- 1: an active incident that nobody serves
abbrev pub is_unserved : ℕ → ℕ → Room → Bool
is_unserved d n r =
    served d n Ambulance r == 0 && (served d n Car r == 0 && served d n Support r == 0)

abbrev pub unserved : ℕ → ℕ → Room → Incident → Option QueueEntry
unserved d at r i = cond
    (i.division == d
    && (is_active i.state && (is_unserved d i.number r && is_past rank.Unserved (age at i.opened))))
    (Some (record {
      rank = rank.Unserved;
      since = i.opened;
      number = i.number;
      callsign = None;
    })) None

-- 2: an order that is not acknowledged
abbrev pub unacknowledged_turn : ℕ → Vehicle → Option Turn → Option QueueEntry
unacknowledged_turn at v None = None
unacknowledged_turn at v (Some t) = cond (is_none t.acknowledged && is_past rank.Unacknowledged (age at t.ordered))
    (Some (record {
      rank = rank.Unacknowledged;
      since = t.ordered;
      number = t.incident;
      callsign = Some v.callsign;
    })) None

abbrev pub unacknowledged : ℕ → ℕ → Room → Vehicle → Option QueueEntry
unacknowledged d at r v = cond (v.holder == d && is_mobilised v.status)
    (unacknowledged_turn at v (open_turn d v.callsign r)) None

-- 3: a vehicle that is on its way for too long
abbrev pub late_incident : ℕ → Vehicle → Option Incident → Option QueueEntry
late_incident at v None = None
late_incident at v (Some i) = cond (nat_lt (scene_limit i.class) (age at i.opened))
    (Some (record {
      rank = rank.LateForScene;
      since = i.opened;
      number = i.number;
      callsign = Some v.callsign;
    })) None

abbrev pub late_turn : ℕ → ℕ → Room → Vehicle → Option Turn → Option QueueEntry
late_turn d at r v None = None
late_turn d at r v (Some t) = late_incident at v (incident_of d t.incident r)

abbrev pub late_for_scene : ℕ → ℕ → Room → Vehicle → Option QueueEntry
late_for_scene d at r v = cond (v.holder == d && is_mobilised v.status)
    (late_turn d at r v (open_turn d v.callsign r)) None

-- 4: a report out of turn
abbrev pub exception : ℕ → Report → Option QueueEntry
exception d x = cond (x.division == d && is_exception x)
    (Some (record {
      rank = rank.OutOfTurn;
      since = x.at;
      number = x.number;
      callsign = Some x.callsign;
    })) None

-- 5: a loan that is over
abbrev pub overdue : ℕ → ℕ → Loan → Option QueueEntry
overdue d at l = cond (owns_loan d l && nat_lt l.until at)
    (Some (record {
      rank = rank.Overdue;
      since = l.until;
      number = cond (l.lender == d) l.borrower l.lender;
      callsign = Some l.callsign;
    })) None

-- 6: a shift that is over
abbrev pub shift_over : ℕ → ℕ → Vehicle → Option QueueEntry
shift_over d at v = cond (v.holder == d && (not (is_off v.status) && nat_le v.shift_end at))
    (Some (record {
      rank = rank.ShiftOver;
      since = v.shift_end;
      number = 0;
      callsign = Some v.callsign;
    })) None

-- 7: a point with too few vehicles
abbrev pub uncovered : ℕ → ℕ → Room → Point → Option QueueEntry
uncovered d at r p = cond (p.division == d && nat_lt (length (holders d p.number at r)) p.cover)
    (Some (record {
      rank = rank.Uncovered;
      since = 0;
      number = p.number;
      callsign = None;
    })) None

-- 8: an offer that nobody answers
abbrev pub unanswered : ℕ → ℕ → Offer → Option QueueEntry
unanswered d at o = cond (owns_offer d o && is_past rank.Unanswered (age at o.since))
    (Some (record {
      rank = rank.Unanswered;
      since = o.since;
      number = cond (o.lender == d) o.borrower o.lender;
      callsign = Some o.callsign;
    })) None

-- all entries of the division
unfoldable pub entries : ℕ → ℕ → Room → List QueueEntry
entries d at r =
    filter_map (unserved d at r) r.incidents
    ++ (filter_map (unacknowledged d at r) r.vehicles
    ++ (filter_map (late_for_scene d at r) r.vehicles
    ++ (filter_map (exception d) r.reports
    ++ (filter_map (overdue d at) r.loans
    ++ (filter_map (shift_over d at) r.vehicles
    ++ (filter_map (uncovered d at r) r.points
    ++ filter_map (unanswered d at) r.offers))))))

-- each of xs put in its place
abbrev pub ordered_from : List QueueEntry → List QueueEntry → List QueueEntry
ordered_from q [] = q
ordered_from q (x ∷ xs) = ordered_from (put_row entry_cmp entry_key q x) xs

-- strictly increasing, and exactly these
pub record IsQueueOf (all q : List QueueEntry) : Type 0 where
  pub increasing : IsKeyed entry_cmp entry_key q
  pub there : (e : QueueEntry) → Among e all → Among e q
  pub only : (e : QueueEntry) → Among e q → Among e all

unfoldable pub show_queue : ℕ → ℕ → Room → Verdict
show_queue d at r = show (answer.Queue (ordered_from [] (entries d at r)))

-- ---- reports
-- those that came while the division held the vehicle
unfoldable pub show_reports : ℕ → Callsign → Room → Verdict
show_reports d c r = show (answer.Reports (reports_of d c r))

-- ---- clear
abbrev pub clear_found : Option Report → Verdict
clear_found None = Err refusal.NoSuchException
clear_found (Some x) = refuse_if (x.cleared || is_normal x.outcome) refusal.NoSuchException
    (done (PutReport (record x { cleared = true }) ∷ []))

unfoldable pub clear : ℕ → Callsign → ℕ → Room → Verdict
clear d c n r = clear_found (report_of d c n r)
