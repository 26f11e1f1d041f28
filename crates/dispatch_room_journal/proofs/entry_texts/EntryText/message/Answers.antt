use Rattle.std.proofs.Common.{[], ◌∷◌, ◌∙◌, ◌++◌, append_assoc, arith, length}
use Rattle.dispatch_room_journal.specs.Entries.{line_text}
use Rattle.dispatch_room_journal.specs.declared.entry_lines.EntryLine.TheVariants.{Message}
use Rattle.dispatch_room_journal.proofs.WritingLemmas.{message_fits}
use Rattle.dispatch_room_journal.proofs.entry_texts.EntryText.message.Goals as goal

pub append-requires : goal.append-requires
append-requires c =
    omega (arith, message_fits c.args.at c.args.bytes.now c.requires, c.line-entry.ensures.len)

pub append-requires-2 : goal.append-requires-2
append-requires-2 c =
    omega (
      arith,
      message_fits c.args.at c.args.bytes.now c.requires,
      c.line-entry.ensures.len,
      c.append.ensures.len,
    )

pub returns : goal.returns
returns c =
    let bytes = c.args.bytes.now in
    let line = line_text (Message c.args.at (length bytes)) in
    rw (c.append-2.ensures.items, c.append.ensures.items, c.line-entry.ensures.text)
    (append_assoc (line ++ 10 ∷ []) bytes (10 ∷ []) ∙ append_assoc line (10 ∷ []) (bytes ++ 10 ∷ []))
