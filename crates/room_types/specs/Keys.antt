-- The key of each row, the order of keys, and who owns a row.
use Rattle.std.specs.Prelude.{ℕ, Bool, ◌==◌, ◌||◌, Option, Some, None}
use Rattle.std.specs.declared.cmp.Ordering.{Ordering}
use Rattle.std.specs.declared.cmp.Ordering.TheVariants.{Less, Equal, Greater}
use Rattle.std.specs.Ordering.{nat_cmp, ordering_then, is_eq}
use Rattle.std.specs.Cmp.Lexicographic.{slice_cmp}
use Rattle.room_types.specs.Ranks.{rank_cmp}
use Rattle.room_types.specs.Texts.{Callsign}
use Rattle.room_types.specs.declared.answers.QueueEntry.{QueueEntry}
use Rattle.room_types.specs.declared.tables.Division.{Division}
use Rattle.room_types.specs.declared.tables.Incident.{Incident}
use Rattle.room_types.specs.declared.tables.Call.{Call}
use Rattle.room_types.specs.declared.tables.Vehicle.{Vehicle}
use Rattle.room_types.specs.declared.tables.Turn.{Turn}
use Rattle.room_types.specs.declared.tables.Assignment.{Assignment}
use Rattle.room_types.specs.declared.tables.Point.{Point}
use Rattle.room_types.specs.declared.tables.Loan.{Loan}
use Rattle.room_types.specs.declared.tables.Offer.{Offer}
use Rattle.room_types.specs.declared.tables.Report.{Report}

abbrev pub callsign_cmp : Callsign → Callsign → Ordering
callsign_cmp a b = slice_cmp nat_cmp a b

-- none stands before any
abbrev pub option_callsign_cmp : Option Callsign → Option Callsign → Ordering
option_callsign_cmp None None = Equal
option_callsign_cmp None (Some c) = Less
option_callsign_cmp (Some c) None = Greater
option_callsign_cmp (Some c) (Some e) = callsign_cmp c e

-- by rank, since, number and callsign
abbrev pub entry_cmp : QueueEntry → QueueEntry → Ordering
entry_cmp a b = ordering_then (rank_cmp a.rank b.rank)
    (ordering_then (nat_cmp a.since b.since)
    (ordering_then (nat_cmp a.number b.number) (option_callsign_cmp a.callsign b.callsign)))

abbrev pub pair_cmp : ℕ × ℕ → ℕ × ℕ → Ordering
pair_cmp a b = ordering_then (nat_cmp a.0 b.0) (nat_cmp a.1 b.1)

abbrev pub numbered_cmp : Callsign × ℕ → Callsign × ℕ → Ordering
numbered_cmp a b = ordering_then (callsign_cmp a.0 b.0) (nat_cmp a.1 b.1)

abbrev pub same_callsign : Callsign → Callsign → Bool
same_callsign a b = is_eq (callsign_cmp a b)

abbrev pub division_key : Division → ℕ
division_key r = r.number

abbrev pub incident_key : Incident → ℕ × ℕ
incident_key r = (r.division, r.number)

abbrev pub call_key : Call → ℕ × ℕ
call_key r = (r.position, r.serial)

abbrev pub vehicle_key : Vehicle → Callsign
vehicle_key r = r.callsign

abbrev pub turn_key : Turn → Callsign × ℕ
turn_key r = (r.callsign, r.order)

abbrev pub assignment_key : Assignment → Callsign
assignment_key r = r.callsign

abbrev pub point_key : Point → ℕ × ℕ
point_key r = (r.division, r.number)

abbrev pub loan_key : Loan → Callsign
loan_key r = r.callsign

abbrev pub offer_key : Offer → Callsign
offer_key r = r.callsign

abbrev pub report_key : Report → Callsign × ℕ
report_key r = (r.callsign, r.number)

-- an entry is its own key
abbrev pub entry_key : QueueEntry → QueueEntry
entry_key e = e

-- the division lends or borrows
abbrev pub is_party : ℕ → ℕ → ℕ → Bool
is_party lender borrower d = lender == d || borrower == d

abbrev pub owns_division : ℕ → Division → Bool
owns_division d r = r.number == d

abbrev pub owns_incident : ℕ → Incident → Bool
owns_incident d r = r.division == d

abbrev pub owns_call : ℕ → Call → Bool
owns_call d r = r.division == d

abbrev pub owns_vehicle : ℕ → Vehicle → Bool
owns_vehicle d r = r.holder == d

abbrev pub owns_turn : ℕ → Turn → Bool
owns_turn d r = r.division == d

abbrev pub owns_assignment : ℕ → Assignment → Bool
owns_assignment d r = r.division == d

abbrev pub owns_point : ℕ → Point → Bool
owns_point d r = r.division == d

abbrev pub owns_loan : ℕ → Loan → Bool
owns_loan d r = is_party r.lender r.borrower d

abbrev pub owns_offer : ℕ → Offer → Bool
owns_offer d r = is_party r.lender r.borrower d

abbrev pub owns_report : ℕ → Report → Bool
owns_report d r = r.division == d
