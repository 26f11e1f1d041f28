-- Lemmas on a record that is written behind its line.
use Rattle.std.proofs.Common.{◌≡◌, subst, ℕ, List, ◌++◌, Bool, Option, Result, Ok}
use Rattle.room_http_messages.specs.Streams.{WritesAll}
use Rattle.dispatch_room_journal.proofs.WritingLemmas.{WritesAll-more}

module _ {W E : Type 0} (held : W → Option (List ℕ)) (failed : W → Bool) where
  pub wrote : (a b c : W) (line other body : List ℕ) (r : Result (Unit {0}) E) → line ≡ other
      → WritesAll {E = E} held failed a b line (Ok tt) → WritesAll held failed b c body r
      → WritesAll held failed a c (other ++ body) r
  wrote a b c line other body r same first second =
      subst (λ (t : List ℕ). WritesAll held failed a c (t ++ body) r) same
      (WritesAll-more held failed a b c line body r first second)

  pub wrote_cut : (a b : W) (line other body : List ℕ) (r : Result (Unit {0}) E) → line ≡ other
      → (WritesAll held failed a b (line ++ body) r) → WritesAll held failed a b (other ++ body) r
  wrote_cut a b line other body r same cut =
      subst (λ (t : List ℕ). WritesAll held failed a b (t ++ body) r) same cut
