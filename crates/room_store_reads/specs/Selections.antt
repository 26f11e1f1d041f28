-- How much of a table a request reads.
use Rattle.std.specs.Ordering.{is_eq}
use Rattle.std.specs.Prelude.{Bool, false, true}
use Rattle.std.specs.declared.cmp.Ordering.{Ordering}
use Rattle.room_store_reads.specs.declared.selections.Selection.{Selection}
use Rattle.room_store_reads.specs.declared.selections.Selection.TheVariants.{Everything, Nothing}
use Rattle.room_store_reads.specs.declared.selections.Selection.TheVariants.{One}

-- the row of this key is read
abbrev pub reaches : {K : Type 0} → (K → K → Ordering) → Selection K → K → Bool
reaches cmp Nothing k = false
reaches cmp (One j) k = is_eq (cmp j k)
reaches cmp Everything k = true
