use Rattle.std.proofs.Common.{refl}
use Rattle.std.proofs.lemmas.Bool.{false≢true}
use Rattle.dispatch_room_journal.proofs.EntryLemmas.{foreign_line, foreign_part, part_of_line}
use Rattle.dispatch_room_journal.proofs.entry_prefixes.look_at.Goals as goal

pub returns-in-None-line_in : goal.returns-in-None-line_in
returns-in-None-line_in c =
    foreign_line c.args.bytes.now c.in-Some.line.now c.in-Some.rest.now c.in-Some.ensures.0 c.in-Some.ensures.1
    c.in-None-line_in.ensures

pub returns-then-begins_line : goal.returns-then-begins_line
returns-then-begins_line c = part_of_line c.args.bytes.now (c.if-begins_line.ensures.0 refl)

pub returns-else-begins_line : goal.returns-else-begins_line
returns-else-begins_line c =
    foreign_part c.args.bytes.now c.in-None.ensures (λ has. false≢true (c.if-begins_line.ensures.1 has))
