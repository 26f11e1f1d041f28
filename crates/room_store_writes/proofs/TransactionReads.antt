-- What is read in a transaction.
use Rattle.std.proofs.Common.{Err, Ok, Result, inl}
use Rattle.sqlite.specs.Held.{Held}
use Rattle.sqlite_trees.specs.declared.store.Store.{Ghosts}
use Rattle.room_tables_schema.specs.Outcomes.{CommitsNothing, ReadsInside}
use Rattle.room_tables_schema.proofs.Refusals.{keeps_commit}

-- a read in a transaction commits nothing
pub reads_commit : {S T E : Type 0} {g : Ghosts S} {a b : Held S} (r : Result T E)
    → ReadsInside g a b r → CommitsNothing g a b
reads_commit (Ok x) h = record { kept = λ clean. keeps_commit _ _ (inl (h.ok clean)); survives = h.survives }
reads_commit (Err e) h = record { kept = λ clean. keeps_commit _ _ (h.err clean); survives = h.survives }
