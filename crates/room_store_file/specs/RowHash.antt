-- What is added to a hash.
use Rattle.std.specs.Prelude.{ℕ, List, ◌++◌}
use Rattle.sha2.specs.Hashers.{Holds256}
use Rattle.sha2.specs.declared.Sha256.{Sha256}

-- After whatever the hash was of, these bytes were added.
pub record Adds (old new : Sha256) (bytes : List ℕ) : Type 0 where
  pub holds : (before : List ℕ) → Holds256 old before → Holds256 new (before ++ bytes)
