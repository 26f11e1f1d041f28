-- What is said of lack of memory, of a query whose rows are none of what is read, and the last of
-- some reads.
use Rattle.std.proofs.Common.{◌≡◌, Err, List, Ok, Result, inr, subst, sym, ℕ}
use Rattle.std.specs.Prelude.{IfErr}
use Rattle.std.specs.Result.{IsErrAnd}
use Rattle.sqlite.specs.Held.{Held, state}
use Rattle.sqlite.specs.State.{Shown, State}
use Rattle.sqlite_trees.specs.declared.store.Store.{Ghosts}
use Rattle.sqlite_value.specs.Order.{Row}
use Rattle.room_tables_schema.specs.declared.database_faults.Fault.{Fault}
use Rattle.room_tables_schema.specs.declared.database_faults.Fault.TheVariants.{Memory, Storage}
use Rattle.room_tables.specs.Failures.{FailsAtLast, FailsToRead, IfStorage, WentWell}

-- memory was unavailable
pub memory_fails : {T : Type 0} (IsSo : Type 0) (r : Result T Fault)
    → IsErrAnd r (λ fault. fault ≡ Memory) → IfErr r (IfStorage IsSo)
memory_fails IsSo (Ok x) is = tt
memory_fails IsSo (Err Memory) is = tt
memory_fails IsSo (Err Storage) is = absurd (cc)

-- rows that were shown and are none of what is read
pub shown_fails : (text : List ℕ) (params : Row) (old new : State) (AreNone : List Row → Type 0)
    (shown : List Row) → Shown text params old new shown → (fault : Fault)
    → IfStorage (AreNone shown) fault → IfStorage (FailsToRead text params old new AreNone) fault
shown_fails text params old new AreNone shown is Memory none = tt
shown_fails text params old new AreNone shown is Storage none = inr (shown, is, none)

-- what holds of a fault holds where it is given
pub holds_on : {T E : Type 0} (r : Result T E) (fault : E) (P : E → Type 0)
    → IsErrAnd r (λ e. e ≡ fault) → P fault → IfErr r P
holds_on (Ok x) fault P is h = tt
holds_on (Err e) fault P is h = subst P (sym is) h

-- what reports a cause reports what follows from it
pub if_storage : {P Q : Type 0} (fault : Fault) → IfStorage P fault → (P → Q) → IfStorage Q fault
if_storage Memory so follows = tt
if_storage Storage so follows = follows so

-- a read failed so, and those before it went well
pub fails_at_last : {S T : Type 0} {g : Ghosts S} {a b : Held S} {P : Type 0} (c : Held S)
    (Fails : State → State → Type 0) (r : Result T Fault) (fault : Fault)
    → IsErrAnd r (λ e. e ≡ fault) → WentWell g a b → IfStorage P fault
    → (P → Fails (state g b) (state g c)) → IfErr r (IfStorage (FailsAtLast g Fails a c))
fails_at_last c Fails r fault is well so fails =
    holds_on r fault _ is (if_storage fault so (λ p. record { before = _; well = well; fails = fails p }))
