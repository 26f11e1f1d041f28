-- The ranks of what needs an eye: their numbers and order, their limits, and what they are about.
use Rattle.std.specs.Prelude.{ℕ, Bool, true, false, Option, Some, None, nat_lt}
use Rattle.std.specs.declared.cmp.Ordering.{Ordering}
use Rattle.std.specs.Ordering.{nat_cmp}
use Rattle.room_types.specs.declared.ranks.Rank.{Rank}
use Rattle.room_types.specs.declared.ranks.Rank.TheVariants as rank
use Rattle.room_types.specs.declared.ranks.Subject.{Subject}
use Rattle.room_types.specs.declared.ranks.Subject.TheVariants as subject

abbrev pub rank_number : Rank → ℕ
rank_number rank.Unserved = 1
rank_number rank.Unacknowledged = 2
rank_number rank.LateForScene = 3
rank_number rank.OutOfTurn = 4
rank_number rank.Overdue = 5
rank_number rank.ShiftOver = 6
rank_number rank.Uncovered = 7
rank_number rank.Unanswered = 8

-- the lower number is the more urgent
abbrev pub rank_cmp : Rank → Rank → Ordering
rank_cmp a b = nat_cmp (rank_number a) (rank_number b)

-- After how many seconds it needs an eye, where that is the same for all of the rank. An incident's
-- class says how long a vehicle may take to its scene; the others need an eye at once.
abbrev pub limit_of : Rank → Option ℕ
limit_of rank.Unserved = Some 180
limit_of rank.Unacknowledged = Some 60
limit_of rank.LateForScene = None
limit_of rank.OutOfTurn = None
limit_of rank.Overdue = None
limit_of rank.ShiftOver = None
limit_of rank.Uncovered = None
limit_of rank.Unanswered = Some 300

abbrev pub exceeds : Option ℕ → ℕ → Bool
exceeds None seconds = false
exceeds (Some limit) seconds = nat_lt limit seconds

-- so many seconds are more than the rank's limit
abbrev pub is_past : Rank → ℕ → Bool
is_past r seconds = exceeds (limit_of r) seconds

-- what the number of an entry is of
abbrev pub subject_of : Rank → Subject
subject_of rank.Unserved = subject.Incident
subject_of rank.Unacknowledged = subject.Incident
subject_of rank.LateForScene = subject.Incident
subject_of rank.OutOfTurn = subject.Report
subject_of rank.Overdue = subject.Division
subject_of rank.ShiftOver = subject.Nothing
subject_of rank.Uncovered = subject.Point
subject_of rank.Unanswered = subject.Division

-- an entry has a moment that it counts from: since when a point is short is not known
abbrev pub is_timed : Rank → Bool
is_timed rank.Unserved = true
is_timed rank.Unacknowledged = true
is_timed rank.LateForScene = true
is_timed rank.OutOfTurn = true
is_timed rank.Overdue = true
is_timed rank.ShiftOver = true
is_timed rank.Uncovered = false
is_timed rank.Unanswered = true
