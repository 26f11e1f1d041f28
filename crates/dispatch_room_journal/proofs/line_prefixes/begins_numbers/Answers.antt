use Rattle.std.proofs.Common.{sym, ◌∙◌}
use Rattle.std.proofs.lemmas.Bool.{false≢true}
use Rattle.dispatch_room_journal.proofs.PartLemmas.{moment_part, moment_begun, numbers_some}
use Rattle.dispatch_room_journal.proofs.PartLemmas.{numbers_none}
use Rattle.dispatch_room_journal.proofs.line_prefixes.begins_numbers.Goals as goal

pub returns-then-is_some : goal.returns-then-is_some
returns-then-is_some c =
    numbers_some c.args.bytes.now c.in-Some.at.now c.in-Some.size.now c.number.result c.begins_number.result
    c.in-Some.ensures.1 c.in-Some.ensures.0 c.number.ensures
    (sym c.if-is_some.ensures) c.begins_number.ensures

pub returns-else-is_some : goal.returns-else-is_some
returns-else-is_some c = (
  λ is. absurd (false≢true (sym c.if-is_some.false ∙ is)),
  λ has.
      absurd (numbers_none c.args.bytes.now c.in-Some.at.now c.in-Some.size.now c.number.result c.in-Some.ensures.1
      c.in-Some.ensures.0 c.number.ensures
      (sym c.if-is_some.ensures) has),
)

pub returns-in-None : goal.returns-in-None
returns-in-None c =
    let begun = c.begins_number-in-None.ensures in (
      λ is. moment_part c.args.bytes.now (begun.0 is),
      λ has. begun.1 (moment_begun c.args.bytes.now c.in-None.ensures has),
    )
