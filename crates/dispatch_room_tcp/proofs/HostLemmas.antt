-- Work in the database of a room's file, which is opened before and closed behind it.
use Rattle.std.proofs.Common.{List, Ok, Option, Result, [], refl, ℕ, ◌∷◌}
use Rattle.sqlite.specs.Files.{over_files}
use Rattle.sqlite.specs.Held.{Held}
use Rattle.sqlite_disk.specs.declared.Disk.{Ghosts as Disk}
use Rattle.sqlite_store.specs.declared.store.FileStore.{FileStore}
use Rattle.dispatch_room_exit.specs.declared.exit_status.Failure.{Failure}
use Rattle.dispatch_room_disk.specs.CommandSteps.{at}
use Rattle.dispatch_room_disk.specs.FileSteps.{Does}
use Rattle.dispatch_room_disk.specs.RoomFiles.{Closes, Doing, IsConnected, Place}
use Rattle.dispatch_room_tcp.specs.Hosts.{Effect, Works, closed, opened, tables_of}

-- it was done
pub works : {D F T : Type 0} {g : Disk D} {place : Place} {printed shown : Option (List ℕ)}
    {first new : Option (List (Effect F))} (does : Doing T) (old : Option (List (Effect F)))
    (conn : Held (FileStore D g))
    (worked : Result (Result T Failure × Held (FileStore D g)) Failure) (came : Result T Failure)
    → IsConnected conn → Does (opened place (Ok (tables_of conn)) ∷ []) first old
    → does (FileStore D g) over_files conn printed shown worked → Closes worked came
    → Does (closed place ∷ []) old new
    → Works g place does (at printed first) (at shown new) came
works {printed} {shown} {first} {new} does old conn worked came connected begins did closes ends = record {
  between = at printed old;
  found = Ok conn;
  is = (connected, begins, refl);
  rest = record {
    at = at shown old;
    worked = worked;
    did = (did, refl);
    closes = closes;
    done = ends;
    printed = refl;
  };
}
