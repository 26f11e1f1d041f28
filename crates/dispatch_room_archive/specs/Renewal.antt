-- What a room leaves to a new one, the new one that is made of it, and what is reported of it.
use Rattle.std.specs.Io.KnownBytes.{Appends}
use Rattle.std.specs.Prelude.{Bool, Err, IsSome, List, None, Ok, Option, Result, codes, decimal}
use Rattle.std.specs.Prelude.{false, filter, length, map, pos, true, ℕ, ℤ, ◌+◌, ◌++◌, ◌<ℤ◌, ◌<◌}
use Rattle.std.specs.Prelude.{◌≡◌, ◌≢◌, ◌≤◌, ◌⊎◌}
use Rattle.jiff.specs.Placed.{IsPosixZone}
use Rattle.jiff.specs.Words.{read_whole}
use Rattle.jiff_tz.specs.declared.timezone.TimeZone.{TimeZone}
use Rattle.sqlite.specs.Held.{Held, state}
use Rattle.sqlite.specs.State.{Survives}
use Rattle.sqlite_schema.specs.declared.schema.Schema.{Schema}
use Rattle.sqlite_trees.specs.Tree.{Trees}
use Rattle.sqlite_trees.specs.declared.store.Store.{Ghosts}
use Rattle.room_place.specs.Plans.{Layout}
use Rattle.room_types.specs.declared.changes.Change.{Change}
use Rattle.room_types.specs.declared.changes.Change.TheVariants.{PutCall, PutIncident, PutReport}
use Rattle.room_types.specs.declared.changes.Change.TheVariants.{PutTurn}
use Rattle.room_http_time.specs.Dates.{day_of}
use Rattle.room_model.specs.FleetRows.{AreTerminals}
use Rattle.room_model.specs.Room.{IsInOrder, Room}
use Rattle.room_model.specs.RoomAgreements.{IsWellFormed}
use Rattle.dispatch_room_archive.specs.Composition.{puts}
use Rattle.dispatch_room_archive.specs.Successor.{renewed}
use Rattle.room_store_check_rows.specs.Summaries.{latest}
use Rattle.room_store_check_rows.specs.declared.summaries.Summary.{Summary}
use Rattle.room_store_check_tables.specs.HeldRooms.{WritesNothing}
use Rattle.room_store_file.specs.ExaminedFile.{IsSummaryOf}
use Rattle.room_store_writes.specs.Configurations.{config_of}
use Rattle.room_store_writes.specs.Transactions.{StandsSettled}
use Rattle.room_tables.specs.RoomsInTables.{Stands}
use Rattle.room_tables_schema.specs.Schema.{no_schema}
use Rattle.dispatch_room_exit.specs.declared.exit_status.Done.{Done}
use Rattle.dispatch_room_exit.specs.declared.exit_status.Done.TheVariants.{Whole}
use Rattle.dispatch_room_exit.specs.declared.exit_status.Failure.{Failure}
use Rattle.dispatch_room_exit.specs.declared.exit_status.Failure.TheVariants.{Day, File, Memory}
use Rattle.dispatch_room_exit.specs.declared.exit_status.Failure.TheVariants.{Network, Storage}
use Rattle.dispatch_room_archive.specs.Examination.{HasFault}
use Rattle.dispatch_room_archive.specs.TimesReport.{IsSpanOf}
use Rattle.dispatch_room_archive.specs.declared.renewal.Successor.{Successor}
use Rattle.room_tables_schema.specs.FileConnections.{IsClean}

-- ---- since when
-- the moment of a second, 0 where that is before 1970
abbrev pub IsMomentOf : ℤ → ℕ → Type 0
IsMomentOf second moment = ((second <ℤ pos 0) × (moment ≡ 0)) ⊎ (second ≡ pos moment)

-- a day that a text writes begins at this moment
abbrev pub IsFirstMoment : TimeZone → List ℕ → ℕ → Type 0
IsFirstMoment zone text moment = (span : ℤ × ℤ) × IsSpanOf zone text span × IsMomentOf span.0 moment

-- and that is two days before the newest moment, or longer
abbrev pub IsStart : TimeZone → ℕ → List ℕ → ℕ → Type 0
IsStart zone newest text since = IsFirstMoment zone text since × (since + 172_800 ≤ newest)

-- the text writes no day, or one that begins later than that
abbrev pub IsNoStart : TimeZone → ℕ → List ℕ → Type 0
IsNoStart zone newest text =
    (day_of text ≡ None)
    ⊎ ((since : ℕ) × IsFirstMoment zone text since × (newest < since + 172_800))

-- ---- what is left
-- the newest moment of a call, an order or a report
abbrev pub last_moment : Room → ℕ
last_moment r =
    latest (latest (latest 0 (map (λ c. c.at) r.calls)) (map (λ t. t.ordered) r.turns))
    (map (λ x. x.at) r.reports)

-- By the rule of its zone and its newest moment, the changes put the rows of the room renewed since
-- a day.
pub record IsLeftSince (rule : List ℕ) (newest : ℕ) (day : List ℕ) (room : Room)
    (changes : List Change) : Type 0 where
  pub zone : TimeZone
  pub of_plan : IsPosixZone rule zone
  pub since : ℕ
  pub start : IsStart zone newest day since
  pub puts : IsInOrder room → changes ≡ puts (renewed since room)

-- It is what the well-formed room for which the tables stand leaves to one that is made of it since
-- a day.
pub record IsLeftBy (trees : Trees) (day : List ℕ) (left : Successor) : Type 0 where
  pub room : Room
  pub planned : room.plan ≡ left.config.plan.areas
  pub stands : Stands trees (config_of left.config.plan left.config.terminals.items) room
  pub formed : IsWellFormed room
  pub fits : AreTerminals room left.config.terminals.items
  pub of_day : IsLeftSince left.config.plan.zone (last_moment room) day room left.changes.items

-- why a room leaves nothing: its zone is no rule, it may not be renewed since this day, or memory
-- fails
abbrev pub ExplainsStay : List ℕ → ℕ → List ℕ → Failure → Type 0
ExplainsStay rule newest day File = ¬ IsSome (read_whole rule)
ExplainsStay rule newest day Day =
    (zone : TimeZone) × IsPosixZone rule zone × IsNoStart zone newest day
ExplainsStay rule newest day Memory = Unit {0}
ExplainsStay rule newest day other = ⊥

-- The file holds a room that leaves nothing.
pub record HoldsBack {S : Type 0} (g : Ghosts S) (old new : Held S) (day : List ℕ)
    (failure : Failure) : Type 0 where
  pub plan : Layout
  pub summary : Summary
  pub holds : IsClean g new → IsSummaryOf (state g old).now.trees plan summary
  pub why : ExplainsStay plan.zone summary.newest day failure

-- Why nothing is left by a file, of which nothing is written: something is wrong with it, or its
-- room leaves nothing.
pub record LeavesNone {S : Type 0} (g : Ghosts S) (old : Held S) (day : List ℕ)
    (failure : Failure) : Type 0 where
  pub released : Held S
  pub nothing : WritesNothing (state g old) (state g released)
  pub why : HasFault g old released failure ⊎ HoldsBack g old released day failure

-- ---- the new room
-- whatever room it was left by, since whatever day, the tables stand for that room renewed, with
-- its plan and its terminals
abbrev pub StandsRenewed : Successor → Trees → Type 0
StandsRenewed left trees =
    (old : Trees) (day : List ℕ) (was : IsLeftBy old day left)
    → Stands trees (config_of left.config.plan left.config.terminals.items)
    (renewed was.of_day.since was.room)

-- In a database that had nothing, that room is committed. What a stop may leave is what it could
-- leave before, or that room.
pub record IsBegun {S : Type 0} (g : Ghosts S) (old new : Held S) (left : Successor) : Type 0 where
  pub empty : (state g old).now.schema ≡ no_schema
  pub settled : StandsSettled g new
  pub stands : IsClean g new → StandsRenewed left (state g new).now.trees
  pub survives : Survives (state g old) (state g new) (StandsRenewed left)

-- why no room is made of what was left: the file is not empty, or else the machine fails
abbrev pub ExplainsUnmade : Schema → Failure → Type 0
ExplainsUnmade schema File = schema ≢ no_schema
ExplainsUnmade schema Memory = schema ≡ no_schema
ExplainsUnmade schema Storage = schema ≡ no_schema
ExplainsUnmade schema other = ⊥

-- ---- what is reported
abbrev pub puts_incident : Change → Bool
puts_incident (PutIncident i) = true
puts_incident other = false

abbrev pub puts_call : Change → Bool
puts_call (PutCall c) = true
puts_call other = false

abbrev pub puts_turn : Change → Bool
puts_turn (PutTurn t) = true
puts_turn other = false

abbrev pub puts_report : Change → Bool
puts_report (PutReport x) = true
puts_report other = false

-- the line of so many incidents, calls, turns and reports
abbrev pub amounts_text : ℕ → ℕ → ℕ → ℕ → List ℕ
amounts_text incidents calls turns reports =
    codes "renewed: incidents " ++ (decimal incidents
    ++ (codes ", calls " ++ (decimal calls
    ++ (codes ", turns " ++ (decimal turns
    ++ (codes ", reports " ++ (decimal reports ++ codes "\n")))))))

-- the line that says how much is put by some changes
abbrev pub renewed_text : List Change → List ℕ
renewed_text changes =
    amounts_text (length (filter puts_incident changes)) (length (filter puts_call changes))
    (length (filter puts_turn changes)) (length (filter puts_report changes))

-- it is written, unless the output fails
abbrev pub PrintsRenewed : List Change → Option (List ℕ) → Option (List ℕ) → Result Done Failure
    → Type 0
PrintsRenewed changes before after (Ok done) =
    Appends before after (renewed_text changes) × (done ≡ Whole)
PrintsRenewed changes before after (Err failure) = failure ≡ Network
