-- What came of the lines of a fleet in a room.
use Rattle.std.specs.Io.KnownBytes.{Appends}
use Rattle.std.specs.Prelude.{Err, List, Ok, OnOk, Option, Result, [], length, ℕ, ◌≡◌}
use Rattle.sqlite.specs.Held.{Held}
use Rattle.sqlite_trees.specs.declared.store.Store.{Ghosts}
use Rattle.room_types.specs.declared.fleet.RowFate.{RowFate}
use Rattle.room_types.specs.declared.fleet.Terminal.{Terminal}
use Rattle.room_model.specs.Room.{Room}
use Rattle.room_store.specs.FleetEnrolment.{HasEnrolled}
use Rattle.room_store.specs.declared.store.Store.{Store}
use Rattle.dispatch_room_exit.specs.declared.exit_status.Done.{Done}
use Rattle.dispatch_room_exit.specs.declared.exit_status.Failure.{Failure}
use Rattle.dispatch_room_exit.specs.declared.exit_status.Failure.TheVariants.{Memory, Network}
use Rattle.dispatch_room_exit.specs.declared.exit_status.Failure.TheVariants.{Storage}
use Rattle.dispatch_room_csv.specs.declared.fleet_file.FleetLine.{FleetLine}
use Rattle.dispatch_room_tasks.specs.RowOutcomes.{done_by, fates_text, good_rows, outcomes}
use Rattle.dispatch_room_tasks.specs.OpenedRoom.{IsOpened}

-- Written is what is said of these lines with these fates, unless the output fails. How much is
-- done is by them.
abbrev pub HasPrinted : List FleetLine → List RowFate → Option (List ℕ) → Option (List ℕ)
    → Result Done Failure → Type 0
HasPrinted lines fates before after (Ok done) =
    Appends before after (fates_text lines fates) × (done ≡ done_by (outcomes lines fates))
HasPrinted lines fates before after (Err Memory) = Appends before after (fates_text lines fates)
HasPrinted lines fates before after (Err Storage) = Appends before after (fates_text lines fates)
HasPrinted lines fates before after (Err Network) = Unit {0}
HasPrinted lines fates before after (Err other) = ⊥

-- What an import wrote, and how much of it is done, agree: both are by some fates of these lines.
abbrev pub PrintsFates : List FleetLine → Option (List ℕ) → Option (List ℕ) → Done → Type 0
PrintsFates lines before after done =
    (fates : List RowFate) × HasPrinted lines fates before after (Ok done)

-- Of a fleet's good rows the first ones were enrolled, all of them where nothing failed, and their
-- fates are reported.
pub record HasImported {S : Type 0} (g : Ghosts S) (old new : Store S) (lines : List FleetLine)
    (before after : Option (List ℕ)) (done : Result Done Failure) (terminals : List Terminal)
    (room : Room) : Type 0 where
  pub fates : List RowFate
  pub enrolled : HasEnrolled g old new (good_rows lines) [] fates terminals room
  pub whole : OnOk done (enrolled.count ≡ length (good_rows lines))
  pub printed : HasPrinted lines fates before after done

-- The lines were imported in the room of a database.
pub record HasImportedIn {S : Type 0} (g : Ghosts S) (old new : Held S) (lines : List FleetLine)
    (before after : Option (List ℕ)) (done : Result Done Failure) : Type 0 where
  pub opened : Store S
  pub closed : Store S
  pub conn : closed.conn ≡ new
  pub plan : closed.plan ≡ opened.plan
  pub terminals : List Terminal
  pub room : Room
  pub is : IsOpened g old opened terminals room
  pub imported : HasImported g opened closed lines before after done terminals room
