-- Words that ask that a failure be explained.
use Rattle.std.specs.Prelude.{List, Some, codes, slice_get, ℕ, ◌<◌, ◌≡◌, ◌≢◌}

-- the option stands among the words, and no `--` before it, behind which words name files
pub record Explains (words : List (List ℕ)) : Type 0 where
  pub place : ℕ
  pub option : slice_get words place ≡ Some (codes "--explain")
  pub before : (k : ℕ) → k < place → slice_get words k ≢ Some (codes "--")
