-- What came of a fleet's lines, by what a store did with their good rows.
use Rattle.std.proofs.Common.{List, OnOk, Option, Result, [], length, subst, ℕ, ◌≡◌}
use Rattle.sqlite_trees.specs.declared.store.Store.{Ghosts}
use Rattle.room_types.specs.declared.fleet.FleetRow.{FleetRow}
use Rattle.room_types.specs.declared.fleet.RowFate.{RowFate}
use Rattle.room_types.specs.declared.fleet.Terminal.{Terminal}
use Rattle.room_model.specs.Room.{Room}
use Rattle.room_store.specs.FleetEnrolment.{HasEnrolled}
use Rattle.room_store.specs.declared.store.Store.{Store}
use Rattle.dispatch_room_exit.specs.declared.exit_status.Done.{Done}
use Rattle.dispatch_room_exit.specs.declared.exit_status.Failure.{Failure}
use Rattle.dispatch_room_csv.specs.declared.fleet_file.FleetLine.{FleetLine}
use Rattle.dispatch_room_tasks.specs.RowOutcomes.{good_rows}
use Rattle.dispatch_room_tasks.specs.Enrolment.{HasImported, HasPrinted}

pub imported_by : {S : Type 0} (g : Ghosts S) (old new : Store S) (lines : List FleetLine)
    (before after : Option (List ℕ)) (done : Result Done Failure) (terminals : List Terminal)
    (room : Room)
    (rows : List FleetRow) (was is stated : List RowFate) → rows ≡ good_rows lines → was ≡ [] → stated ≡ is
    → (made : HasEnrolled g old new rows was is terminals room)
    → OnOk done (made.count ≡ length rows) → HasPrinted lines stated before after done
    → HasImported g old new lines before after done terminals room
imported_by g old new lines before after done terminals room rows was is stated r w t made whole said = record {
  fates = is;
  enrolled = record {
    count = made.count;
    within = rw r at made.within;
    added = rw (r, w) at made.added;
    stands = rw r at made.stands;
    left = rw r at made.left;
  };
  whole = subst (λ (l : List FleetRow). OnOk done (made.count ≡ length l)) r whole;
  printed = subst (λ (f : List RowFate). HasPrinted lines f before after done) t said;
}
