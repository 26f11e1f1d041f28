use Rattle.dispatch_room_journal.proofs.PartLemmas.{numbers_cut, numbers_uncut}
use Rattle.dispatch_room_journal.proofs.entry_lines.message_line.Goals as goal

pub returns-in_default : goal.returns-in_default
returns-in_default c = numbers_uncut c.args.numbers.now c.in_default.ensures

pub returns-in_default-number : goal.returns-in_default-number
returns-in_default-number c = λ has.
    c.in_default-number.ensures
    (numbers_cut c.args.numbers.now c.in-Some.at.now c.in-Some.size.now c.in-Some.ensures.1 c.in-Some.ensures.0 has).0

pub returns-in_default-number-2 : goal.returns-in_default-number-2
returns-in_default-number-2 c = λ has.
    c.in_default-number-2.ensures
    (numbers_cut c.args.numbers.now c.in-Some.at.now c.in-Some.size.now c.in-Some.ensures.1 c.in-Some.ensures.0 has).1
