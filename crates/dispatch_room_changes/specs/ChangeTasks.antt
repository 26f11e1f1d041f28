-- What each command that changes a room as a file says does in its database, over any storage.
use Rattle.std.specs.Prelude.{IfOk, List, MatchResult, Option, false, ℕ, ◌≡◌, ◌⊎◌}
use Rattle.sqlite.specs.Held.{Held, state}
use Rattle.sqlite_trees.specs.declared.store.Store.{Ghosts}
use Rattle.dispatch_room_disk.specs.RoomFiles.{Doing}
use Rattle.dispatch_room_exit.specs.declared.exit_status.Done.{Done}
use Rattle.dispatch_room_exit.specs.declared.exit_status.Failure.{Failure}
use Rattle.dispatch_room_exit.specs.declared.exit_status.Failure.TheVariants.{Memory}
use Rattle.dispatch_room_csv.specs.declared.fleet_file.FleetLine.{FleetLine}
use Rattle.dispatch_room_csv.specs.declared.plan_file.PlanFile.{PlanFile}
use Rattle.dispatch_room_tasks.specs.OpenedRoom.{HoldsNone, IsUnopened}
use Rattle.dispatch_room_changes.specs.MadeChanges.{MakesKeptIn, OpensNoneKept}
use Rattle.dispatch_room_changes.specs.KeptImports.{ImportsKeptIn}
use Rattle.dispatch_room_changes.specs.declared.change_lists.ChangeList.{ChangeList}
use Rattle.dispatch_room_journal.specs.declared.list_ends.ListEnd.{ListEnd}
use Rattle.dispatch_room_lists.specs.RoomChanges.{Makes}
use Rattle.dispatch_room_lists.specs.declared.room_changes.RoomChange.{RoomChange}
use Rattle.dispatch_room_serving.specs.Journals.{shown_in}
use Rattle.dispatch_room_serving.specs.declared.journal_files.SystemFile.{SystemFile}
use Rattle.dispatch_room_tasks.specs.Creation as created
use Rattle.dispatch_room_tasks.specs.ListedTerminals.{HasListed}
use Rattle.dispatch_room_tasks.specs.Enrolment as imported
use Rattle.room_tables_schema.specs.FileConnections.{IsClean}

-- The room of a plan is created, and reported; or none is, for this, and nothing is printed.
abbrev pub Creates : PlanFile → Doing Done
Creates plan = λ S g old before after worked. MatchResult worked
    (λ it. created.IsCreated g old it.1 plan × created.PrintsCreated plan before after it.0)
    (λ fault. created.ExplainsNone (state g old).now.schema plan fault × (after ≡ before))

-- no fleet is enrolled: memory fails, or no room is opened; and nothing is printed
abbrev pub EnrolsNone : {S : Type 0} → Ghosts S → Held S → Option (List ℕ) → Option (List ℕ)
    → Failure → Type 0
EnrolsNone g old before after fault =
    ((fault ≡ Memory) ⊎ IsUnopened g old fault) × (after ≡ before)

-- the good rows of a fleet are enrolled, and what became of each line is reported; or none is
abbrev pub Enrols : List FleetLine → Doing Done
Enrols lines = λ S g old before after worked. MatchResult worked
    (λ it. (IsClean g it.1 → imported.HasImportedIn g old it.1 lines before after it.0)
    × IfOk it.0 (imported.PrintsFates lines before after))
    (EnrolsNone g old before after)

-- The list of a room, in the file that was opened for it. It goes on where that does, and no write
-- to it and no sync failed.
abbrev pub IsOpenedAs : {F : Type 0} → F × ListEnd → ChangeList (SystemFile F) → Type 0
IsOpenedAs opened list =
    (list.out.file.file ≡ opened.0) × (list.end ≡ opened.1) × (list.out.failed ≡ false)

-- A fleet is enrolled once it lasts in a list that was opened, and then the room's digest is kept;
-- or none is.
abbrev pub EnrolsKept : {F : Type 0} → (F → Option (List ℕ)) → (F → Option (List ℕ)) → F × ListEnd
    → List FleetLine → List ℕ → Doing Done
EnrolsKept {F} contents lasting opened lines text = λ S g old before after worked.
    MatchResult worked
    (λ it. (from to : ChangeList (SystemFile F)) × IsOpenedAs opened from
    × ImportsKeptIn g (shown_in contents) (shown_in lasting) old it.1 from to lines text
    before after it.0)
    (EnrolsNone g old before after)

-- Who has a terminal is listed, and the room stays as it is; or the file holds no room, for this,
-- and nothing is printed.
abbrev pub Lists : Doing Done
Lists = λ S g old before after worked. MatchResult worked
    (λ it. HasListed g old it.1 before after it.0)
    (λ fault. HoldsNone g old fault × (after ≡ before))

-- A change of its terminals or its plan is made; or the file holds no room, for this. Nothing is
-- printed.
abbrev pub Changes : RoomChange → Doing (Unit {0})
Changes change = λ S g old before after worked.
    MatchResult worked (λ it. Makes g old it.1 change it.0) (HoldsNone g old) × (after ≡ before)

-- The same once its text lasts in a list that was opened, and then the room's digest is kept; or no
-- room is opened for it, or none is opened again once the text was kept.
abbrev pub ChangesKept : {F : Type 0} → (F → Option (List ℕ)) → (F → Option (List ℕ)) → F × ListEnd
    → RoomChange → List ℕ → Doing (Unit {0})
ChangesKept {F} contents lasting opened change text = λ S g old before after worked.
    ((from : ChangeList (SystemFile F)) × IsOpenedAs opened from × MatchResult worked
    (λ it. (to : ChangeList (SystemFile F))
    × MakesKeptIn g (shown_in contents) (shown_in lasting) old it.1 from to change text it.0)
    (OpensNoneKept g (shown_in contents) (shown_in lasting) old from change text))
    × (after ≡ before)
