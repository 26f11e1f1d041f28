-- A text that is written over zeros, and one that is read back.
use Rattle.std.proofs.Common.{refl, ◌≡◌, ℕ, ◌-◌, ◌≤◌, List, ◌++◌, length, drop, replicate, arith}
use Rattle.std.proofs.Common.{◌∙◌}
use Rattle.std.specs.Prelude.{IsOk, MatchResult, Result, Ok, Err}
use Rattle.std.proofs.lemmas.List.{length-append, length-drop, length-replicate, drop-replicate}
use Rattle.std.proofs.Math.Seq.{drop-append_seam}

-- it fills the array
pub filled : (cap : ℕ) (text : List ℕ) → length text ≤ cap
    → length (text ++ drop (length text) (replicate cap 0)) ≡ cap
filled cap text fits = simp (length-append, length-drop, length-replicate) (omega arith)

-- and leaves zeros behind it
pub zeros_left : (cap : ℕ) (text : List ℕ)
    → drop (length text) (text ++ drop (length text) (replicate cap 0))
    ≡ replicate (cap - length text) 0
zeros_left cap text = drop-append_seam text (drop (length text) (replicate cap 0)) ∙ drop-replicate (length text) cap 0

-- a reading that fails at no text does not fail at a text
pub ok_if : {A E : Type 0} (P : A → Type 0) (U : Type 0) (Q : E → Type 0) (r : Result A E)
    → MatchResult r P (λ e. ¬ U × Q e) → U → IsOk r
ok_if P U Q (Ok s) read u = refl
ok_if P U Q (Err e) read u = absurd (read.0 u)
