-- What is printed as callers begin, one thing after another.
use Rattle.std.specs.Prelude.{is_err}
use Rattle.std.proofs.Common.{◌≡◌, ◌∙◌, ap, Bool, List, Option, Result, Ok, Err, false, inl, inr}
use Rattle.std.proofs.Common.{sym, subst, true, ℕ}
use Rattle.dispatch_room_exit.specs.declared.exit_status.Failure.{Failure}
use Rattle.dispatch_room_journal.proofs.FaultLemmas.{not_both}
use Rattle.dispatch_room_serving.specs.Callers.{MayCall, Printing, Prints, PrintsStart}

-- they may call, and then nothing is printed
pub called_on : {T : Type 0} (a b c : Printing) (result : Result T Failure) → MayCall a b → c ≡ b
    → Prints a c result
called_on a b c (Ok done) may same = subst (λ it. MayCall a it) (sym same) may
called_on a b c (Err fault) may same = inr (inl (subst (λ it. MayCall a it) (sym same) may))

-- that they may call is printed once
start_once : (first : Bool) (x y z : Option (List ℕ)) → PrintsStart first x y → PrintsStart true y z
    → PrintsStart first x z
start_once true x y z first same = same ∙ first
start_once false x y z first same = subst (λ it. PrintsStart false x it) (sym same) first

may_both : (a b c : Printing) → MayCall a b → MayCall b c → MayCall a c
may_both a b c one two = record {
  has_begun = two.has_begun;
  printed =
      start_once a.has_begun a.printed b.printed c.printed one.printed
      (subst (λ it. PrintsStart it b.printed c.printed) one.has_begun two.printed);
  output = two.output ∙ one.output;
}

-- they may call, and something else is done with them
pub printed_once : {T : Type 0} (a b c : Printing) (result : Result T Failure) → MayCall a b
    → Prints b c result → Prints a c result
printed_once a b c (Ok done) may then = may_both a b c may then
printed_once a b c (Err fault) may (inl same) = inr (inl (subst (λ it. MayCall a it) (sym same) may))
printed_once a b c (Err fault) may (inr (inl then)) = inr (inl (may_both a b c may then))
printed_once a b c (Err fault) may (inr (inr un)) = absurd (not_both b.has_begun un.first may.has_begun)

-- where it went well they may call
pub may_of : {T : Type 0} (a b : Printing) (result : Result T Failure) → is_err result ≡ false
    → Prints a b result → MayCall a b
may_of a b (Ok done) well may = may
may_of a b (Err fault) well prints = absurd (cc)

-- it stays the same output
pub same_output : {T : Type 0} (a b : Printing) (result : Result T Failure) → Prints a b result
    → b.output ≡ a.output
same_output a b (Ok done) may = may.output
same_output a b (Err fault) (inl same) = ap (λ it. it.output) same
same_output a b (Err fault) (inr (inl may)) = may.output
same_output a b (Err fault) (inr (inr un)) = un.output
