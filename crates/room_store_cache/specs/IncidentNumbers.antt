-- Numbers of incidents.
use Rattle.std.specs.Prelude.{Bool, List, [], false, ℕ, ◌==◌, ◌||◌, ◌∷◌}

-- it is one of these
abbrev pub contains : ℕ → List ℕ → Bool
contains n [] = false
contains n (m ∷ ms) = (m == n) || contains n ms
