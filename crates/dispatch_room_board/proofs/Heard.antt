-- Lemmas on what is heard.
use Rattle.std.proofs.Common.{sym, ℕ, List, ◌++◌, append_assoc, Option, None, Some}
use Rattle.std.specs.Io.KnownBytes.{Consumes}

pub consumes_more : (a b c : Option (List ℕ)) (xs ys : List ℕ) → Consumes a b xs → Consumes b c ys
    → Consumes a c (xs ++ ys)
consumes_more None b c xs ys p q = tt
consumes_more (Some a) None c xs ys p q = absurd p
consumes_more (Some a) (Some b) None xs ys p q = absurd q
consumes_more (Some a) (Some b) (Some c) xs ys p q = rw (p, q) (sym (append_assoc xs ys c))
