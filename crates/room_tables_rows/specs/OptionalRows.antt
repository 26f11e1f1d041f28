-- What is found of the rows.
use Rattle.std.specs.Prelude.{List, [], ◌∷◌, Option, Some, None}

-- a row that may be absent, as a list
abbrev pub listed : {X : Type 0} → Option X → List X
listed None = []
listed (Some x) = x ∷ []
