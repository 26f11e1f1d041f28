use Rattle.std.proofs.Common.{ap, arith, refl, subst, ◌∙◌}
use Rattle.std.proofs.lemmas.Bool.{false≢true}
use Rattle.dispatch_room_journal.specs.declared.entry_lines.EntryLine.{EntryLine}
use Rattle.dispatch_room_journal.specs.Entries.{IsLine, line_text}
use Rattle.dispatch_room_journal.proofs.CutLemmas.{cut_message, cut_no_entry, line_cut, message_cut}
use Rattle.dispatch_room_journal.proofs.CutLemmas.{no_entry_cut, no_line_cut, other_cut}
use Rattle.dispatch_room_journal.proofs.cut_records.is_cut_body.Goals as goal

pub returns-then-begins_line : goal.returns-then-begins_line
returns-then-begins_line c = (
  λ _. line_cut c.args.size c.args.part.now c.in-None.ensures (c.if-begins_line.ensures.0 refl),
  λ _. c.if-begins_line.true,
)

pub returns-else-begins_line : goal.returns-else-begins_line
returns-else-begins_line c = (
  λ is. no_entry_cut c.args.size c.args.part.now c.in-None.ensures (c.begins_no_entry.ensures.0 is),
  λ cut.
      c.begins_no_entry.ensures.1
      (cut_no_entry c.args.size c.args.part.now c.in-None.ensures
      (λ has. false≢true (c.if-begins_line.ensures.1 has)) cut),
)

pub returns-then-rest-bytes : goal.returns-then-rest-bytes
returns-then-rest-bytes c =
    let m = c.in-Some-Message in (
      λ is.
          message_cut c.args.size c.args.part.now c.in-Some.line.now c.in-Some.rest.now c.in-Some.ensures.0
          c.in-Some.ensures.1 m.field-0-0 m.bytes
          (subst (λ (l : EntryLine). IsLine l) m.field-0-is m.ensures.0)
          (m.ensures.1 ∙ ap line_text m.field-0-is) c.if-rest-bytes.true (grind (arith, is)),
      λ cut.
          let fits = cut_message c.args.size c.args.part.now c.in-Some.line.now c.in-Some.rest.now c.in-Some.ensures.0
          c.in-Some.ensures.1 m.field-0-0 m.bytes
          (subst (λ (l : EntryLine). IsLine l) m.field-0-is m.ensures.0)
          (m.ensures.1 ∙ ap line_text m.field-0-is) cut in
          grind (arith, fits.1),
    )

pub returns-else-rest-bytes : goal.returns-else-rest-bytes
returns-else-rest-bytes c =
    let m = c.in-Some-Message in (
      λ is. absurd (grind (arith, is, c.if-rest-bytes.false)),
      λ cut.
          let fits = cut_message c.args.size c.args.part.now c.in-Some.line.now c.in-Some.rest.now c.in-Some.ensures.0
          c.in-Some.ensures.1 m.field-0-0 m.bytes
          (subst (λ (l : EntryLine). IsLine l) m.field-0-is m.ensures.0)
          (m.ensures.1 ∙ ap line_text m.field-0-is) cut in
          absurd (omega (arith, fits.0, c.if-rest-bytes.false)),
    )

pub returns-in-Some-Answer : goal.returns-in-Some-Answer
returns-in-Some-Answer c = (
  λ is. absurd (false≢true is),
  λ cut.
      absurd
      (other_cut c.args.size c.args.part.now c.in-Some.line.now c.in-Some.rest.now c.in-Some.ensures.0
      c.in-Some.ensures.1 _ c.in-Some-Answer.ensures.0 c.in-Some-Answer.ensures.1 (λ at bytes same. cc) cut),
)

pub returns-in-None-line_in : goal.returns-in-None-line_in
returns-in-None-line_in c = (
  λ is. absurd (false≢true is),
  λ cut.
      absurd
      (no_line_cut c.args.size c.args.part.now c.in-Some.line.now c.in-Some.rest.now c.in-Some.ensures.0
      c.in-Some.ensures.1 c.in-None-line_in.ensures cut),
)
