-- What each command does in the database of a room's file, over any storage.
use Rattle.std.specs.Global.{Global}
use Rattle.std.specs.Prelude.{IfOk, IsOk, List, MatchResult, OnOk, Option, Vec, option_map, ℕ, ◌≡◌}
use Rattle.std.specs.Prelude.{◌⊎◌}
use Rattle.sqlite.specs.Held.{state}
use Rattle.room_store_check_tables.specs.HeldRooms.{WritesNothing}
use Rattle.dispatch_room_disk.specs.RoomFiles.{Doing}
use Rattle.dispatch_room_exit.specs.declared.exit_status.Done.{Done}
use Rattle.dispatch_room_tasks.specs.OpenedRoom.{IsUnopened}
use Rattle.dispatch_room_cli.specs.declared.tasks.Replay.{Replay as How}
use Rattle.dispatch_room_journal.specs.Chains.{sha256_digits}
use Rattle.dispatch_room_journal.specs.RecordFronts.{list_says}
use Rattle.dispatch_room_journal.specs.declared.read_progress.Reach.TheVariants.{Segment}
use Rattle.dispatch_room_lists.specs.ReplayedLists.{HasReplayed, LosesReplayed}
use Rattle.dispatch_room_lists.specs.RoomDigests.{HasDigest}
use Rattle.dispatch_room_archive.specs.Examination as checked
use Rattle.dispatch_room_archive.specs.TimesReport.{HasReported}
use Rattle.dispatch_room_archive.specs.JoinedReports.{IsDayIn, JoinsDay, JoinsNone, LacksDay}
use Rattle.dispatch_room_archive.specs.declared.division_days.DivisionDay.{DivisionDay}
use Rattle.dispatch_room_tasks.specs.Migration.{IsMigrated, IsUnmoved}
use Rattle.dispatch_room_archive.specs.Renewal.{ExplainsUnmade, IsBegun, IsLeftBy, LeavesNone}
use Rattle.dispatch_room_archive.specs.Renewal as renewed
use Rattle.dispatch_room_archive.specs.declared.renewal.Successor.{Successor}
use Rattle.room_tables_schema.specs.FileConnections.{IsClean}

-- The room is moved from the first version to this one; or none is, for this. Nothing is printed.
abbrev pub Moves : Doing (Unit {0})
Moves = λ S g old before after worked.
    MatchResult worked (λ it. IsMigrated g old it.1 it.0) (IsUnmoved g old) × (after ≡ before)

-- What the room leaves to one that is made of it since a day is read; or it leaves nothing, for
-- this. Nothing is printed.
abbrev pub LeavesRows : List ℕ → Doing Successor
LeavesRows day = λ S g old before after worked. MatchResult worked
    (λ it. IsOk it.0 × (IsClean g it.1 → IfOk it.0 (IsLeftBy (state g old).now.trees day))
    × WritesNothing (state g old) (state g it.1))
    (LeavesNone g old day)
    × (after ≡ before)

-- The room of what was left is made, and how much it has is reported; or none is, and nothing is
-- printed: the file is not empty, or the machine fails.
abbrev pub Begins : Successor → Doing Done
Begins left = λ S g old before after worked. MatchResult worked
    (λ it. IsBegun g old it.1 left × renewed.PrintsRenewed left.changes.items before after it.0)
    (λ fault. ExplainsUnmade (state g old).now.schema fault × (after ≡ before))

-- How much the room has is reported, or what is wrong with its file: there is always something to
-- report. The file stays as it is.
abbrev pub Examines : Doing Done
Examines = λ S g old before after worked. MatchResult worked
    (λ it. checked.HasChecked g old it.1 before after it.0
    × OnOk it.0 (checked.PrintsSummary before after) × WritesNothing (state g old) (state g it.1))
    (λ fault. ⊥)

-- The digest of the room is printed, and the room stays as it is; or no room is opened, for this,
-- and nothing is printed.
abbrev pub Digests : Doing Done
Digests = λ S g old before after worked. MatchResult worked
    (λ it. HasDigest g old it.1 before after it.0)
    (λ fault. IsUnopened g old fault × (after ≡ before))

-- A division's day is reported, and the room stays as it is; or no room is opened, for this. Nothing
-- is printed.
abbrev pub Reports : ℕ → List ℕ → Doing (Vec ℕ Global)
Reports division day = λ S g old before after worked. MatchResult worked
    (λ it. IsClean g it.1 → HasReported g old it.1 division day it.0) (IsUnopened g old)
    × (after ≡ before)

-- A division's day is found in a room, and no row is written; or there is none, for this. Nothing is
-- printed.
abbrev pub FindsDay : ℕ → List ℕ → Doing DivisionDay
FindsDay division day = λ S g old before after worked. MatchResult worked
    (λ it. IsOk it.0 × (IsClean g it.1 → IfOk it.0 (IsDayIn (state g old).now.trees division day))
    × WritesNothing (state g old) (state g it.1))
    (LacksDay g old division day)
    × (after ≡ before)

-- That day is reported with an older room's incidents, and no row is written; or it is not, for
-- this. Nothing is printed.
abbrev pub ReportsBoth : DivisionDay → Doing (Vec ℕ Global)
ReportsBoth newer = λ S g old before after worked. MatchResult worked
    (λ it. IsOk it.0 × (IsClean g it.1
    → IfOk it.0 (λ report. JoinsDay (state g old).now.trees newer report.items))
    × WritesNothing (state g old) (state g it.1))
    (JoinsNone g old)
    × (after ≡ before)

-- what a list says segment by segment, by what is known of its bytes
abbrev pub said_by_legs : Option (List ℕ) → Option (List ℕ)
said_by_legs bytes = option_map (list_says sha256_digits Segment) bytes

-- The list of an input, of whose bytes this is known, is replayed to the room, or its messages are
-- answered; or no room is opened, and nothing is printed; or, behind a segment of a list, none is opened
-- again.
abbrev pub Replays : Option (List ℕ) → How → Doing Done
Replays bytes how = λ S g old before after worked. MatchResult worked
    (λ it. HasReplayed g old it.1 how (said_by_legs bytes) before after it.0)
    (λ fault. (IsUnopened g old fault × (after ≡ before))
    ⊎ LosesReplayed g old how (said_by_legs bytes) before after fault)
