-- What a call does to known bytes after calls that did nothing to them.
use Rattle.std.specs.Prelude.{ℕ, List, ◌++◌, take, Option, None, Some, Result, Ok, Err}
use Rattle.std.proofs.Common.{sym, ap, ◌∙◌}
use Rattle.std.specs.Io.KnownBytes.{Appends, Consumes, Keeps, ReadConsumes, WriteAppends}
use Rattle.std.proofs.KnownBytes.{Keeps-trans}

pub kept-Consumes : (a b c : Option (List ℕ)) (bs : List ℕ) → Keeps a b → Consumes b c bs
    → Consumes a c bs
kept-Consumes None b c bs p q = tt
kept-Consumes (Some x) None c bs p q = absurd p
kept-Consumes (Some x) (Some y) None bs p q = absurd q
kept-Consumes (Some x) (Some y) (Some z) bs p q = sym p ∙ q

kept-Appends : (a b c : Option (List ℕ)) (bs : List ℕ) → Keeps a b → Appends b c bs → Appends a c bs
kept-Appends None b c bs p q = tt
kept-Appends (Some x) None c bs p q = absurd p
kept-Appends (Some x) (Some y) None bs p q = absurd q
kept-Appends (Some x) (Some y) (Some z) bs p q = q ∙ ap (λ l. l ++ bs) p

-- a read after reads that gave nothing
pub kept-ReadConsumes : {E : Type 0} (a b c : Option (List ℕ)) (r : Result ℕ E) (buf : List ℕ)
    → Keeps a b → ReadConsumes b c r buf → ReadConsumes a c r buf
kept-ReadConsumes a b c (Ok n) buf p q = (kept-Consumes a b c (take n buf) p q.0, q.1)
kept-ReadConsumes a b c (Err e) buf p q = Keeps-trans a b c p q

-- a write after writes that took nothing
pub kept-WriteAppends : {E : Type 0} (a b c : Option (List ℕ)) (r : Result ℕ E) (buf : List ℕ)
    → Keeps a b → WriteAppends b c r buf → WriteAppends a c r buf
kept-WriteAppends a b c (Ok n) buf p q = kept-Appends a b c (take n buf) p q
kept-WriteAppends a b c (Err e) buf p q = Keeps-trans a b c p q
