-- The names of the files that a database uses beside its own.
use Rattle.std.specs.Prelude.{List, codes, length, slice_index, ℕ, ◌++◌, ◌<◌, ◌≡◌, ◌≢◌, ◌⊎◌, ◌∷◌}

-- the last name of a path: what stands behind its last slash, or all of it where it has none (47 is
-- the code of a slash)
pub record IsLastName (path name : List ℕ) : Type 0 where
  pub last : (k : ℕ) → k < length name → slice_index name k ≢ 47
  pub behind : (path ≡ name) ⊎ ((folder : List ℕ) × (path ≡ folder ++ 47 ∷ name))

-- the name is that of the database's own file and one of three ends
abbrev pub IsBeside : List ℕ → List ℕ → Type 0
IsBeside own name = (name ≡ own ++ codes "-journal")
    ⊎ ((name ≡ own ++ codes "-wal") ⊎ (name ≡ own ++ codes "-shm"))

-- the path has the name of a file that the database of another path uses, in whichever folder
pub record IsOfDatabase (file path : List ℕ) : Type 0 where
  pub own : List ℕ
  pub name : List ℕ
  pub own_is : IsLastName file own
  pub name_is : IsLastName path name
  pub beside : IsBeside own name

-- or it has another name
pub record IsApart (file path : List ℕ) : Type 0 where
  pub own : List ℕ
  pub name : List ℕ
  pub own_is : IsLastName file own
  pub name_is : IsLastName path name
  pub apart : ¬ IsBeside own name
