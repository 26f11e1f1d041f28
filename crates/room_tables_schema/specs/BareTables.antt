-- The parts of a table beside its name, tree and columns.
use Rattle.std.specs.Prelude.{◌≡◌, ℕ, List, [], ◌∷◌, Some, None, false}
use Rattle.sqlite_value.specs.Keys.{plain}
use Rattle.sqlite_schema.specs.declared.schema.Table.{Table}

-- it has no rule but its key
pub record IsBare (table : Table) : Type 0 where
  pub checks : table.checks ≡ []
  pub references : table.references ≡ []
  pub computed : table.computed ≡ []
  pub stamps : table.stamps ≡ record { places = []; terms = []; formats = [] }
  pub uncounted : table.is_counted ≡ false

-- its key has these places, or is the rowid where there are none
abbrev pub HasKey : Table → List ℕ → Type 0
HasKey table [] =
    (table.key ≡ Some 0) × (table.primary ≡ 0 ∷ []) × (table.uniques ≡ []) × (table.orders ≡ [])
HasKey table (p ∷ ps) = (table.key ≡ None) × (table.primary ≡ p ∷ ps)
    × (table.uniques ≡ (p ∷ ps) ∷ []) × (table.orders ≡ plain ∷ [])
