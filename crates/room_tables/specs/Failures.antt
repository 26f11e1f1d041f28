-- What a fault says. Memory may run out at any time; storage is reported for a cause.
use Rattle.std.specs.Prelude.{IfErr, Result, ◌≡◌, ◌≤◌, ◌++◌, ◌⊎◌, ⊤, ℕ, suc, List, ◌∷◌, map, length}
use Rattle.std.specs.Prelude.{Bool, false, Err, Ok}
use Rattle.std.specs.declared.cmp.Ordering.{Ordering}
use Rattle.sqlite_value.specs.Order.{Row}
use Rattle.sqlite.specs.Held.{Held, state}
use Rattle.sqlite_trees.specs.declared.store.Store.{Ghosts}
use Rattle.sqlite.specs.State.{ExecutesInside, FailsToQuery, Shown, State}
use Rattle.sqlite.specs.declared.error.Error.{Error}
use Rattle.room_place.specs.declared.plans.Area.{Area}
use Rattle.room_types.specs.KeyedRows.{IsKeyed}
use Rattle.room_tables_schema.specs.Outcomes.{ReadsInside}
use Rattle.room_tables_rows.specs.AreaSql.{is_area_row, area_row}
use Rattle.room_tables_schema.specs.DatabaseFaults.{fault_of}
use Rattle.room_tables_schema.specs.declared.database_faults.Fault.{Fault}
use Rattle.room_tables_schema.specs.declared.database_faults.Fault.TheVariants.{Memory, Storage}
use Rattle.room_tables_schema.specs.FileConnections.{IsClean}

-- where storage is given, this is so
abbrev pub IfStorage : Type 0 → Fault → Type 0
IfStorage IsSo Memory = ⊤
IfStorage IsSo Storage = IsSo

module _ (text : List ℕ) (params : Row) (old new : State) where
  -- The query failed, and not for lack of memory; or what it showed is none of what is read.
  abbrev pub FailsToRead : (List Row → Type 0) → Type 0
  FailsToRead AreNone = ((e : Error) × FailsToQuery text params old new e × (fault_of e ≡ Storage))
      ⊎ ((shown : List Row) × Shown text params old new shown × AreNone shown)

  -- The statement failed, and not for lack of memory.
  abbrev pub FailsToWrite : Type 0
  FailsToWrite = (e : Error) × ExecutesInside 0 text params old new (Err e) × (fault_of e ≡ Storage)

-- why a read failed: storage is reported for one of these causes
abbrev pub ExplainsWhy : {S T : Type 0} → Ghosts S → Held S → Held S → Result T Fault → List ℕ → Row
    → (List Row → Type 0) → Type 0
ExplainsWhy g old new result text params AreNone =
    IsClean g new → IfErr result
    (IfStorage (FailsToRead text params (state g old) (state g new) AreNone))

-- No read was made yet, or those that were made went well and changed nothing.
abbrev pub WentWell : {S : Type 0} → Ghosts S → Held S → Held S → Type 0
WentWell g old new = (new ≡ old) ⊎ ReadsInside {T = Unit {0}} {E = Fault} g old new (Ok tt)

-- Of reads, one after another, the last failed so.
pub record FailsAtLast {S : Type 0} (g : Ghosts S) (Fails : State → State → Type 0)
    (old new : Held S) : Type 0 where
  pub before : Held S
  pub well : WentWell g old before
  pub fails : Fails (state g before) (state g new)

-- why the last of them failed: storage is reported for this cause
abbrev pub ExplainsWhyAtLast : {S T : Type 0} → Ghosts S → Held S → Held S → Result T Fault
    → (State → State → Type 0) → Type 0
ExplainsWhyAtLast g old new result Fails =
    IsClean g new → IfErr result (IfStorage (FailsAtLast g Fails old new))

-- why a write failed: storage is reported for this cause
abbrev pub ExplainsWhyUnwritten : {S T : Type 0} → Ghosts S → Held S → Held S → Result T Fault
    → List ℕ → Row → Type 0
ExplainsWhyUnwritten g old new result text params =
    IsClean g new → IfErr result
    (IfStorage (FailsToWrite text params (state g old) (state g new)))

-- one of them is none of the table's rows
abbrev pub HasStranger : (Row → Bool) → List Row → Type 0
HasStranger is_row shown = (before : List Row) × (r : Row) × (after : List Row)
    × (before ++ r ∷ after ≡ shown) × (is_row r ≡ false)

-- they begin with rows whose keys don't rise
abbrev pub AreOutOfOrder : {X K : Type 0} → (K → K → Ordering) → (X → K) → (X → Row) → List Row
    → Type 0
AreOutOfOrder {X} order key row shown =
    (xs : List X) × (after : List Row) × (map row xs ++ after ≡ shown) × ¬ (IsKeyed order key xs)

-- they are no rows of the table in the order of their keys
abbrev pub AreNoRows : {X K : Type 0} → (Row → Bool) → (K → K → Ordering) → (X → K) → (X → Row)
    → List Row → Type 0
AreNoRows is_row order key row shown = HasStranger is_row shown ⊎ AreOutOfOrder order key row shown

-- one is no row of the table, or there are more than one
abbrev pub AreMoreThanOne : (Row → Bool) → List Row → Type 0
AreMoreThanOne is_row shown = HasStranger is_row shown ⊎ (2 ≤ length shown)

-- one is no row of the table, or there is not just one
abbrev pub AreNotJustOne : (Row → Bool) → List Row → Type 0
AreNotJustOne is_row shown = HasStranger is_row shown ⊎ ¬ (length shown ≡ 1)

-- an area has another number than its place
abbrev pub HasMisnumbered : List Row → Type 0
HasMisnumbered shown = (before : List Row) × (area : ℕ × Area) × (after : List Row)
    × (before ++ area_row area ∷ after ≡ shown) × ¬ (area.0 ≡ suc (length before))

-- they are not the areas of a plan, numbered from 1 on
abbrev pub AreNoPlan : List Row → Type 0
AreNoPlan shown = HasStranger is_area_row shown ⊎ HasMisnumbered shown
