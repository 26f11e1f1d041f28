use Rattle.std.proofs.Common.{◌≢◌, ◌∙◌, length, sym, arith}
use Rattle.std.proofs.lemmas.Bool.{false≢true, eqb-true, eq-eqb}
use Rattle.dispatch_room_journal.proofs.NumberLemmas.{begins_empty, begins_some}
use Rattle.dispatch_room_journal.proofs.journal_numbers.begins_number.Goals as goal

pub returns-then-is_empty : goal.returns-then-is_empty
returns-then-is_empty c =
    let none = eqb-true (length c.args.bytes.now) 0 (sym c.if-is_empty.ensures) in (
      λ _. begins_empty c.args.bytes.now c.args.least c.args.greatest none (omega (arith, c.requires)),
      λ _. c.if-is_empty.true,
    )

pub returns-else-is_empty : goal.returns-else-is_empty
returns-else-is_empty c =
    let some : length c.args.bytes.now ≢ 0 = λ none.
    false≢true (c.if-is_empty.ensures ∙ eq-eqb (length c.args.bytes.now) 0 none) in
    begins_some c.args.bytes.now c.args.least c.args.greatest c.number.result c.is_some.result (omega arith)
    c.requires.low (omega (arith, some)) c.number.ensures c.is_some.ensures
