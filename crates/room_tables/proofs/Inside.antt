-- Reads in a transaction, one after another.
use Rattle.std.proofs.Common.{Err, Ok, Result, ◌∙◌}
use Rattle.sqlite.specs.Held.{Held}
use Rattle.sqlite.specs.State.{IsUnchanged, State}
use Rattle.sqlite.proofs.Callers.{unchanged_then}
use Rattle.sqlite_trees.specs.declared.store.Store.{Ghosts}
use Rattle.room_tables_schema.proofs.ReadLaws.{still}
use Rattle.room_tables_schema.proofs.Refusals.{keeps_then}
use Rattle.room_tables.proofs.RoomReads.{was_clean}
use Rattle.room_tables_schema.specs.Outcomes.{ReadsInside}
use Rattle.room_tables_rows.specs.Writes.{RaisesVersion}

module _ {S : Type 0} {g : Ghosts S} {a b c : Held S} {T E U F : Type 0} {x : T} where
  -- a read after another, which succeeds or fails
  pub inside_then : ReadsInside {T = T} {E = E} g a b (Ok x) → (r : Result U F)
      → ReadsInside g b c r → ReadsInside g a c r
  inside_then before (Ok y) next = record {
    ok = λ clean. let early = was_clean next.survives clean in unchanged_then _ _ _ (before.ok early) (next.ok clean);
    err = λ clean. tt;
    survives = still before.survives next.survives;
  }
  inside_then before (Err e) next = record {
    ok = λ clean. tt;
    err = λ clean. let early = was_clean next.survives clean in keeps_then _ _ _ (before.ok early) (next.err clean);
    survives = still before.survives next.survives;
  }

-- what was read leaves a room that is renewed after it
pub read_raises : (old mid new : State) → IsUnchanged old mid → RaisesVersion mid new
    → RaisesVersion old new
read_raises old mid new same it =
    let now = same.0.now_is in
    record {
      inside = record {
        was_open = same.0.was_open;
        is_open = it.inside.is_open;
        now_is = it.inside.now_is;
        committed_is = it.inside.committed_is ∙ same.0.committed_is;
        mode = it.inside.mode;
      };
      schema = it.schema;
      only = rw now at it.only;
      zone = it.zone;
      was = rw now at it.was;
      is = it.is;
    }
