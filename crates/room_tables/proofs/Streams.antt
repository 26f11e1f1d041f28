-- A table whose rows are read one at a time.
use Rattle.std.proofs.Common.{◌≡◌, ◌++◌, ◌-◌, ◌⊎◌, inl, inr, suc, List, [], ◌∷◌, map, length, Bool}
use Rattle.std.proofs.Common.{true, false, IsTrue, Option, Some, None, Result, Ok, Err, IfOk, IfErr}
use Rattle.std.proofs.Common.{refl, sym, ap, subst, ◌∙◌, true≢false, Ordering, Less, arith}
use Rattle.std.proofs.lemmas.List.{map-append, append_assoc}
use Rattle.std.specs.Cmp.{IsTotalOrder}
use Rattle.std.specs.List.{slice_get}
use Rattle.std.specs.Prelude.{OnOk}
use Rattle.std.specs.Result.{is_ok}
use Rattle.sqlite_value.specs.Order.{Row}
use Rattle.room_types.specs.KeyedRows.{IsBelowAll, IsKeyed, put_row}
use Rattle.room_types.proofs.KeyedLaws.{keyed_put}
use Rattle.room_tables_schema.specs.declared.database_faults.Fault.{Fault}
use Rattle.room_tables_schema.specs.declared.database_faults.Fault.TheVariants.{Memory, Storage}
use Rattle.room_tables.specs.Failures.{AreNoRows, IfStorage}
use Rattle.room_tables.specs.RowStreams.{AreRead, AreTaken, last_of}

pub last_end : {X : Type 0} (xs : List X) (x : X) → last_of (xs ++ x ∷ []) ≡ Some x
last_end [] x = refl
last_end (y ∷ []) x = refl
last_end (y ∷ z ∷ xs) x = last_end (z ∷ xs) x

pub none_last : {X : Type 0} (xs : List X) → None ≡ last_of xs → xs ≡ []
none_last [] e = refl
none_last (x ∷ []) e = cc
none_last (x ∷ y ∷ xs) e = let none : y ∷ xs ≡ [] = none_last (y ∷ xs) e in cc

-- the last of a slice
pub last_got : {X : Type 0} (xs : List X) → slice_get xs (length xs - 1) ≡ last_of xs
last_got [] = refl
last_got (x ∷ []) = refl
last_got (x ∷ y ∷ xs) =
    let past : length (x ∷ y ∷ xs) - 1 ≡ suc (length (y ∷ xs) - 1) = omega arith in
    ap (slice_get (x ∷ y ∷ xs)) past ∙ last_got (y ∷ xs)

module _ {X K T : Type 0} (is_row : Row → Bool) (order : K → K → Ordering) (key : X → K)
    (row : X → Row) (takes : T → List X → T → Type 0) where
  abbrev Taken : T → List Row → T → Option X → Result (Unit {0}) Fault → Type 0
  Taken = AreTaken is_row order key row takes

  -- one more is shown, and is taken
  pub taken_next : IsTotalOrder order
      → (first now : T) (shown : List Row) (r : Row) (x : X) (rows : List X) → map row rows ≡ shown
      → row x ≡ r → IsKeyed order key rows → put_row order key rows x ≡ rows ++ x ∷ []
      → takes first (rows ++ x ∷ []) now → Taken first (shown ++ r ∷ []) now (Some x) (Ok tt)
  taken_next total first now shown r x rows are is keyed put takes_it = (
    rows ++ x ∷ [],
    map-append row rows (x ∷ []) ∙ ap (λ l. l ++ row x ∷ []) are ∙ ap (λ y. shown ++ y ∷ []) is,
    subst (IsKeyed order key) put (keyed_put order key total rows x keyed),
    sym (last_end rows x),
    takes_it,
  )

  -- by what became of it
  pub by_result : (first now : T) (shown : List Row) (last : Option X) (P : Type 0)
      (result : Result (Unit {0}) Fault) → OnOk result P → (P → Taken first shown now last (Ok tt))
      → IfErr result (λ fault. fault ≡ Memory) → Taken first shown now last result
  by_result first now shown last P (Ok done) ok taken memory = taken ok
  by_result first now shown last P (Err fault) ok taken memory = rw memory tt

  -- after a fault nothing mends it
  pub stays : (first now : T) (shown : List Row) (r : Row) (last : Option X) (fault : Fault)
      → Taken first shown now last (Err fault) → Taken first (shown ++ r ∷ []) now last (Err fault)
  stays first now shown r last Memory h = tt
  stays first now shown r last Storage (inl h) =
      inl (h.0, h.1, h.2 ++ r ∷ [], sym (append_assoc h.0 (h.1 ∷ h.2) (r ∷ [])) ∙ ap (λ l. l ++ r ∷ []) h.3, h.4)
  stays first now shown r last Storage (inr h) =
      inr (h.0, h.1 ++ r ∷ [], sym (append_assoc (map row h.0) h.1 (r ∷ [])) ∙ ap (λ l. l ++ r ∷ []) h.2, h.3)

  -- so it is of a result that is none
  pub stays_failed : (first now : T) (shown : List Row) (r : Row) (last : Option X)
      (taken : Result (Unit {0}) Fault) → is_ok taken ≡ false → Taken first shown now last taken
      → Taken first (shown ++ r ∷ []) now last taken
  stays_failed first now shown r last (Ok done) e h = absurd (true≢false e)
  stays_failed first now shown r last (Err fault) e h = stays first now shown r last fault h

  -- what holds of all rows holds of those that were taken
  pub all_of : (first : T) (shown : List Row) (P : List X → Type 0) (result : Result T Fault)
      → AreRead is_row order key row takes first shown result
      → ((rows : List X) → map row rows ≡ shown → IsKeyed order key rows → P rows)
      → IfOk result (λ now. (rows : List X) × P rows × takes first rows now)
  all_of first shown P (Ok now) (last, (rows, are, keyed, is, taken)) all = (rows, all rows are keyed, taken)
  all_of first shown P (Err fault) h all = tt

  -- and a fault is about what was shown
  pub fault_of_all : (first : T) (shown : List Row) (P : Fault → Type 0) (result : Result T Fault)
      → AreRead is_row order key row takes first shown result
      → ((fault : Fault) → IfStorage (AreNoRows is_row order key row shown) fault → P fault)
      → IfErr result P
  fault_of_all first shown P (Ok now) h states = tt
  fault_of_all first shown P (Err fault) h states = states fault h

module _ {X K : Type 0} (is_row : Row → Bool) (order : K → K → Ordering) (key : X → K)
    (row : X → Row) where
  -- rows that keep all are what was shown
  pub of_rows : (shown : List Row) (result : Result (List X) Fault)
      → AreRead is_row order key row (λ first rows now. first ≡ [] → now ≡ rows) [] shown result
      → IfOk result (λ rows. map row rows ≡ shown) × IfOk result (IsKeyed order key)
      × IfErr result (IfStorage (AreNoRows is_row order key row shown))
  of_rows shown (Ok now) (last, (rows, are, keyed, is, taken)) =
      let all : now ≡ rows = taken refl in
      (subst (λ xs. map row xs ≡ shown) (sym all) are, subst (IsKeyed order key) (sym all) keyed, tt)
  of_rows shown (Err fault) h = (tt, tt, h)

pub well : (taken : Result (Unit {0}) Fault) → is_ok taken ≡ true → taken ≡ Ok tt
well (Ok done) e = refl
well (Err fault) e = absurd (true≢false (sym e))

module _ {X K : Type 0} (order : K → K → Ordering) (key : X → K) (total : IsTotalOrder order) where
  end_above : (k : K) (xs : List X) (x : X) → IsBelowAll order key k (xs ++ x ∷ [])
      → order k (key x) ≡ Less
  end_above k [] x h = h.0
  end_above k (y ∷ xs) x h = end_above k xs x h.1

  -- a row that is the last in order is put at the end
  pub put_end : (xs : List X) (x : X) → IsKeyed order key (xs ++ x ∷ [])
      → put_row order key xs x ≡ xs ++ x ∷ []
  put_end [] x h = refl
  put_end (y ∷ xs) x h =
      rw (total.antisymm (key x) (key y), end_above (key y) xs x h.0) (ap (λ ys. y ∷ ys) (put_end xs x h.1))
