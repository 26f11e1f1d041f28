-- What clap's getters read of its matches.
use Rattle.std.proofs.Common.{Err, List, MatchOption, None, Ok, Option, Result, Some, ap, ap₂}
use Rattle.std.proofs.Common.{arith, codes, inl, inr, option_map, refl, subst, sym, ℕ, ◌^◌, ◌<◌}
use Rattle.std.proofs.Common.{◌∙◌, ◌≡◌, ◌≤◌}
use Rattle.std.specs.Prelude.{IfOk, MatchResult, SomeIff, ok_or, unwrap_or}
use Rattle.std.specs.Str.Parse.{ParsesUnsigned, digits_value, without_leading_plus}
use Rattle.clap.specs.Matches.{ReadsOne, found_of, one_text}
use Rattle.clap.specs.Simple.{App, HasMatchesOf, app_of, is_simple, subcommand_of}
use Rattle.clap.specs.Simple.{subcommand_rows_of}
use Rattle.clap.specs.Words.{Row, Text, one_of, subcommand_name_of}
use Rattle.clap.proofs.WalkLemmas.{one_text-rows}
use Rattle.clap.specs.declared.builder.command.Command.{Command}
use Rattle.clap.specs.declared.parser.matches.ArgMatches.{ArgMatches}
use Rattle.clap.specs.declared.parser.matches.ArgMatches.TheViews.{out-ArgMatches}
use Rattle.dispatch_room_cli.specs.AskedTasks.{HasNoNumber, HasNumber, IsAsked, IsCount, IsLimit}
use Rattle.dispatch_room_cli.specs.AskedTasks.{IsMatched, IsRead, Writes, given_in}
use Rattle.dispatch_room_cli.specs.CommandForms.{IsProgram}
use Rattle.dispatch_room_cli.specs.declared.argument_parser.Mistake.{Mistake}
use Rattle.dispatch_room_cli.specs.declared.tasks.Task.{Task}

-- a name has one number only
same_text : (o : Option Text) (a b : Text) → o ≡ Some a → o ≡ Some b → a ≡ b
same_text o a b one other = let both : Some a ≡ Some b = sym one ∙ other in cc

pub one_number : (given : List Row) (name : Text) (bits a b : ℕ) → HasNumber given bits name a
    → HasNumber given bits name b → a ≡ b
one_number given name bits a b first second =
    let same = same_text (one_of name given) first.0 second.0 first.1 second.1 in
    sym first.2.value ∙ subst (λ (t : Text). digits_value 10 (without_leading_plus t) ≡ b) (sym same) second.2.value

module _ {E : Type 0} (gives : Text → Result ℕ E → Type 0) (bits : ℕ)
    (parses : (text : Text) (r : Result ℕ E) → gives text r → ParsesUnsigned bits 10 text r) where
  by_text : (given : List Row) (name text : Text) (result : Option ℕ) → one_of name given ≡ Some text
      → ReadsOne gives text result → MatchOption result (HasNoNumber given bits name) (HasNumber given bits name)
  by_text given name text (Some number) is read =
      let parsed = parses text (Ok number) read in (
        text,
        is,
        record {
          digits = parsed.0.0;
          value = sym parsed.1;
          small = subst (λ k. k < 2 ^ bits) (sym parsed.1) parsed.0.1;
        },
      )
  by_text given name text None is read = λ number has.
      let parsed = parses text (Err read.0) read.1 in
      let same = same_text (one_of name given) has.0 text has.1 is in
      let writes = subst (λ (t : Text). Writes bits t number) same has.2 in
      parsed (writes.digits, subst (λ k. k < 2 ^ bits) (sym writes.value) writes.small)

  no_text : (given : List Row) (name : Text) (result : Option ℕ) → one_of name given ≡ None → result ≡ None
      → MatchOption result (HasNoNumber given bits name) (HasNumber given bits name)
  no_text given name None is none = λ number has. let bad : None ≡ Some has.0 = sym is ∙ has.1 in cc
  no_text given name (Some number) is none = cc

  by_case : (given : List Row) (name : Text) (result : Option ℕ) (o : Option Text) → one_of name given ≡ o
      → (one_of name given ≡ None → result ≡ None)
      → ((text : Text) → one_of name given ≡ Some text → ReadsOne gives text result)
      → MatchOption result (HasNoNumber given bits name) (HasNumber given bits name)
  by_case given name result None is none some = no_text given name result is (none is)
  by_case given name result (Some text) is none some = by_text given name text result is (some text is)

  -- what `get_one` reads, as a number
  pub number_read : (matches : ArgMatches) (name : Text) (result : Option ℕ)
      → (one_text (found_of matches) name ≡ None → result ≡ None)
      → ((text : Text) → one_text (found_of matches) name ≡ Some text → ReadsOne gives text result)
      → MatchOption result (HasNoNumber (given_in matches) bits name) (HasNumber (given_in matches) bits name)
  number_read matches name result none some =
      let rows = one_text-rows (found_of matches) name in
      by_case (given_in matches) name result (one_of name (given_in matches)) refl (λ is. none (rows ∙ is))
      (λ text is. some text (rows ∙ is))

pub counted : (given : List Row) (found : Option ℕ)
    → MatchOption found (HasNoNumber given 64 (codes "connections")) (HasNumber given 64 (codes "connections"))
    → IsCount given (unwrap_or found 18446744073709551615)
counted given None none = inr (none, refl)
counted given (Some number) has = inl has

-- a number that is outside is no limit
pub outside : (given : List Row) (name : Text) (least greatest number : ℕ) → HasNumber given 32 name number
    → ¬ ((least ≤ number) × (number ≤ greatest)) → IsLimit given name least greatest None
outside given name least greatest number has out other other_has = λ within.
    let same = one_number given name 32 other number other_has has in
    out (omega (arith, same, within.0), omega (arith, same, within.1))

pub limited : (given : List Row) (name : Text) (least greatest number : ℕ) (result : Option ℕ)
    → HasNumber given 32 name number → SomeIff result ((least ≤ number) × (number ≤ greatest)) number
    → IsLimit given name least greatest result
limited given name least greatest number None has out = outside given name least greatest number has out
limited given name least greatest number (Some limit) has within =
    subst (HasNumber given 32 name) (sym within.1) has

pub unlimited : (given : List Row) (name : Text) (least greatest : ℕ) → HasNoNumber given 32 name
    → IsLimit given name least greatest None
unlimited given name least greatest none = λ number has. absurd (none number has)

pub or_mistake : (given : List Row) (name : Text) (found : Option ℕ) (mistake : Mistake)
    → MatchOption found (HasNoNumber given 16 name) (HasNumber given 16 name)
    → MatchResult (ok_or found mistake) (HasNumber given 16 name) (λ m. (m ≡ mistake) × HasNoNumber given 16 name)
or_mistake given name None mistake none = (refl, none)
or_mistake given name (Some number) mistake has = has

-- ---- the command that clap found
fused : {A B C : Type 0} (h : A → B) (g : B → C) (o : Option A)
    → option_map g (option_map h o) ≡ option_map (λ a. g (h a)) o
fused h g None = refl
fused h g (Some a) = refl

name_first : (m : ArgMatches) → option_map (λ (p : Text × List Row). p.0) (subcommand_rows_of m) ≡ subcommand_name_of m
name_first m = fused _ _ (out-ArgMatches m).subcommand

joined : (o : Option (Text × List Row)) (name : Text) (given : List Row)
    → Some name ≡ option_map (λ (p : Text × List Row). p.0) o
    → Some given ≡ option_map (λ (p : Text × List Row). p.1) o → o ≡ Some (name, given)
joined None name given first second = cc
joined (Some p) name given first second =
    let name_is : p.0 ≡ name = cc in
    let given_is : p.1 ≡ given = cc in
    ap₂ (λ (x : Text) (y : List Row). Some (x, y)) name_is given_is

pub is_matched : (m : ArgMatches) (name : Text) (given : List Row) (result : Result Task Mistake)
    → Some name ≡ subcommand_name_of m
    → Some given ≡ option_map (λ (p : Text × List Row). p.1) (subcommand_rows_of m)
    → IfOk result (IsAsked given name) → IfOk result (IsMatched m)
is_matched m name given (Ok task) named rows asked = record {
  name = name;
  given = given;
  command = joined (subcommand_rows_of m) name given (named ∙ sym (name_first m)) rows;
  asked = asked;
}
is_matched m name given (Err mistake) named rows asked = tt

pub is_read : (command : Command) (words : List Text) (m : ArgMatches) (task : Task) → IsProgram command
    → HasMatchesOf (app_of command) words m → IsMatched m task → IsRead words task
is_read command words m task program has matched =
    let found = has (ap is_simple program.app ∙ program.are_forms.simple) in
    record {
      forms = program.forms;
      are_forms = program.are_forms;
      name = matched.name;
      given = matched.given;
      command = ap (λ (a : App). subcommand_of a words) (sym program.app) ∙ (sym found.1 ∙ matched.command);
      asked = matched.asked;
    }
