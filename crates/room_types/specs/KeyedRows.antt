-- Rows in key order, no two of one key.
use Rattle.std.specs.Prelude.{◌≡◌, ℕ, zero, suc, Bool, List, [], ◌∷◌, Option, Some, None, cond}
use Rattle.std.specs.declared.cmp.Ordering.{Ordering}
use Rattle.std.specs.declared.cmp.Ordering.TheVariants.{Less, Equal, Greater}
use Rattle.std.specs.Ordering.{is_eq, match_ordering}

module _ {R K : Type 0} (cmp : K → K → Ordering) (key : R → K) where
  -- k is below the key of each row
  abbrev pub IsBelowAll : K → List R → Type 0
  IsBelowAll k [] = Unit {0}
  IsBelowAll k (x ∷ xs) = (cmp k (key x) ≡ Less) × IsBelowAll k xs

  -- each key is below all later keys
  abbrev pub IsKeyed : List R → Type 0
  IsKeyed [] = Unit {0}
  IsKeyed (x ∷ xs) = IsBelowAll (key x) xs × IsKeyed xs

  -- the row of a key
  abbrev pub row_at : List R → K → Option R
  row_at [] k = None
  row_at (x ∷ xs) k = cond (is_eq (cmp k (key x))) (Some x) (row_at xs k)

  -- the rows with this one in its key's place
  abbrev pub put_row : List R → R → List R
  put_row [] r = r ∷ []
  put_row (x ∷ xs) r = match_ordering (cmp (key r) (key x)) (r ∷ x ∷ xs) (r ∷ xs) (x ∷ put_row xs r)

  -- the rows without that of a key
  abbrev pub drop_row : List R → K → List R
  drop_row [] k = []
  drop_row (x ∷ xs) k = cond (is_eq (cmp k (key x))) xs (x ∷ drop_row xs k)

-- the row, where there is one
abbrev pub listed : {R : Type 0} → Option R → List R
listed None = []
listed (Some x) = x ∷ []

-- a row that passes
abbrev pub keep : {R : Type 0} → (R → Bool) → Option R → Option R
keep p None = None
keep p (Some x) = cond (p x) (Some x) None

module _ {R K : Type 0} (cmp : K → K → Ordering) (key : R → K) where
  -- the row at place i has the key, after rows of lower keys
  abbrev pub IsAt : List R → K → ℕ → Type 0
  IsAt [] k i = ⊥
  IsAt (x ∷ xs) k zero = cmp (key x) k ≡ Equal
  IsAt (x ∷ xs) k (suc i) = (cmp (key x) k ≡ Less) × IsAt xs k i

  -- the key would go at place i, after rows of lower keys and before one of a higher
  abbrev pub IsGapFor : List R → K → ℕ → Type 0
  IsGapFor [] k zero = Unit {0}
  IsGapFor [] k (suc i) = ⊥
  IsGapFor (x ∷ xs) k zero = cmp (key x) k ≡ Greater
  IsGapFor (x ∷ xs) k (suc i) = (cmp (key x) k ≡ Less) × IsGapFor xs k i
