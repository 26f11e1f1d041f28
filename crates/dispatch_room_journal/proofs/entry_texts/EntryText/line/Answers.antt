use Rattle.std.proofs.Common.{[], ◌∷◌, arith, length-append}
use Rattle.dispatch_room_journal.specs.Entries.{line_text}
use Rattle.dispatch_room_journal.proofs.WritingLemmas.{line_short}
use Rattle.dispatch_room_journal.proofs.entry_texts.EntryText.line.Goals as goal

pub append-requires : goal.append-requires
append-requires c = omega (arith, line_short c.args.line.now c.requires, c.add_line.ensures.len)

pub returns-clause-len : goal.returns-clause-len
returns-clause-len c =
    omega (arith, c.append.ensures.len, c.add_line.ensures.len, length-append (line_text c.args.line.now) (10 ∷ []))
