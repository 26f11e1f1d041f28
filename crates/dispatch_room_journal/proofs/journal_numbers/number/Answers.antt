use Rattle.std.proofs.Common.{◌≡◌, ◌∙◌, ap, sym, arith, decimal, not}
use Rattle.std.proofs.lemmas.Bool.{false≢true}
use Rattle.std.proofs.lemmas.Slice.Eq.{bytes_eq-Decides}
use Rattle.dispatch_room_journal.proofs.NumberLemmas.{digits_are_text, digits_are_some}
use Rattle.dispatch_room_journal.proofs.NumberLemmas.{digits_are_one}
use Rattle.dispatch_room_journal.proofs.journal_numbers.number.Goals.{then-number-least-via-then-number-least}
use Rattle.dispatch_room_journal.proofs.journal_numbers.number.Goals.{then-number-least-via-else-number-least+then-greatest-number}
use Rattle.dispatch_room_journal.proofs.journal_numbers.number.Goals as goal

pub returns-in_default : goal.returns-in_default
returns-in_default c =
    digits_are_text c.args.bytes.now c.args.least c.args.greatest (omega arith) c.in_default.ensures.cases.0

pub returns-in_default-parse : goal.returns-in_default-parse
returns-in_default-parse c =
    digits_are_some _ _ _ c.in_default-parse.field-0 c.args.least c.args.greatest (omega arith) c.in-Ok.ensures.cases.0
    c.in_default-parse.ensures.value.0

pub returns-then-ne : goal.returns-then-ne
returns-then-ne c = λ has.
    let same = digits_are_one c.in-Ok.text.now c.args.bytes.now c.in-Ok-parse.number c.args.least c.args.greatest
    (omega arith) c.in-Ok.ensures.cases.0 c.in-Ok-parse.ensures.value.0 has in
    let written : c.as_bytes.result.now
    ≡ c.args.bytes.now = c.as_bytes.ensures.value ∙ c.format.ensures.text ∙ ap decimal same ∙ sym has.3 in
    false≢true (sym (c.if-ne.ensures ∙ ap not ((bytes_eq-Decides c.as_bytes.result.now c.args.bytes.now).1 written)))

pub returns-then-number-least : goal.returns-then-number-least
returns-then-number-least c = λ has.
    let same = digits_are_one c.in-Ok.text.now c.args.bytes.now c.in-Ok-parse.number c.args.least c.args.greatest
    (omega arith) c.in-Ok.ensures.cases.0 c.in-Ok-parse.ensures.value.0 has in
    elim c.then-number-least.branch [
      | then-number-least-via-then-number-least w ↦ omega (arith, has, same, w.if-number-least)
      | then-number-least-via-else-number-least+then-greatest-number w ↦ omega (arith, has, same, w.if-greatest-number)
    ]
