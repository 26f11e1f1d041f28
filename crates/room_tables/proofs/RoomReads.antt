-- What a read leaves of the room that the tables stand for.
use Rattle.std.proofs.Common.{arith, subst, sym}
use Rattle.sqlite.specs.State.{HasCleanDisk, IsUnchanged, State, Survives}
use Rattle.sqlite_trees.specs.Tree.{Trees}
use Rattle.room_model.specs.Room.{Room}
use Rattle.room_tables_rows.specs.RoomsInTables.{Configuration, Stands}

-- a read leaves the room
pub kept : (old new : State) → IsUnchanged old new → (config : Configuration) (room : Room)
    → Stands old.now.trees config room → Stands new.now.trees config room
kept old new same config room h = subst (λ db. Stands db.trees config room) (sym same.0.now_is) h

-- a disk that is clean after a call was clean before it
pub was_clean : {old new : State} {Commits : Trees → Type 0} → Survives old new Commits
    → HasCleanDisk new → HasCleanDisk old
was_clean survives clean = omega (arith, survives.clean)
