-- What is read and written in a transaction.
use Rattle.std.proofs.Common.{◌≡◌, not, Bool, true, false, Err, Ok, Result, List, inl, sym, subst}
use Rattle.std.proofs.Common.{ap, ◌∙◌}
use Rattle.sqlite.specs.Effect.{Database}
use Rattle.sqlite.specs.Held.{Held}
use Rattle.sqlite.specs.State.{IsUnchanged, State}
use Rattle.sqlite_trees.specs.declared.store.Store.{Ghosts}
use Rattle.room_types.specs.declared.changes.Change.{Change}
use Rattle.room_model.specs.Room.{apply}
use Rattle.room_tables.specs.RoomsInTables.{Stands}
use Rattle.room_tables_schema.specs.Outcomes.{CommitsNothing, ReadsInside}
use Rattle.room_store_writes.specs.Transactions.{MakesAll}
use Rattle.room_tables_schema.proofs.Refusals.{keeps_commit}

-- a read in a transaction commits nothing
pub reads_commit : {S T E : Type 0} {g : Ghosts S} {a b : Held S} (r : Result T E)
    → ReadsInside g a b r → CommitsNothing g a b
reads_commit (Ok x) h = record { kept = λ clean. keeps_commit _ _ (inl (h.ok clean)); survives = h.survives }
reads_commit (Err e) h = record { kept = λ clean. keeps_commit _ _ (h.err clean); survives = h.survives }

-- what is not, is not
pub never_both : (b : Bool) → b ≡ false → b ≡ true → ⊥
never_both b is_not is = cc

-- what was made is still there after a read
pub made_seen : {old mid new : State} {changes : List Change} → IsUnchanged mid new
    → MakesAll old mid changes → MakesAll old new changes
made_seen {changes = changes} same made = record {
  inside = same.0.mode ∙ made.inside;
  schema = ap (λ (db : Database). db.schema) same.0.now_is ∙ made.schema;
  stands =
      λ config room h.
      subst (λ (db : Database). Stands db.trees config (apply room changes)) (sym same.0.now_is)
      (made.stands config room h);
}
