-- What is written piece by piece.
use Rattle.std.proofs.Common.{List, None, Option, Some, ap, ℕ, ◌++◌, ◌∙◌}
use Rattle.std.proofs.lemmas.List.{append_assoc}
use Rattle.std.specs.Io.KnownBytes.{Appends}

pub appends_more : (a b c : Option (List ℕ)) (x y : List ℕ) → Appends a b x → Appends b c y
    → Appends a c (x ++ y)
appends_more None b c x y one two = tt
appends_more (Some p) None c x y one two = absurd one
appends_more (Some p) (Some q) None x y one two = absurd two
appends_more (Some p) (Some q) (Some r) x y one two = two ∙ ap (λ l. l ++ y) one ∙ append_assoc p x y
