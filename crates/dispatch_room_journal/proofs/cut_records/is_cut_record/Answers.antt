use Rattle.std.proofs.Common.{ap, arith, drop, length, length-drop, refl, subst, sym, take}
use Rattle.std.proofs.Common.{take_all, ◌-◌, ◌∙◌, ◌≡◌}
use Rattle.dispatch_room_journal.specs.declared.record_headers.TheConstants.{HEADER}
use Rattle.dispatch_room_journal.specs.CutRecords.{IsCutBody}
use Rattle.dispatch_room_journal.specs.RecordFronts.{number_in}
use Rattle.dispatch_room_journal.proofs.CutLemmas.{short_cut}
use Rattle.dispatch_room_journal.proofs.cut_records.is_cut_record.Goals as goal

pub returns-then-text-lt-HEADER : goal.returns-then-text-lt-HEADER
returns-then-text-lt-HEADER c =
    short_cut c.args.text.now c.begins_record_line.result c.if-text-lt-HEADER.true c.begins_record_line.ensures

pub returns-then-begins_record_line : goal.returns-then-begins_record_line
returns-then-begins_record_line c =
    let text = c.args.text.now in
    let all : take (length text - HEADER) (drop HEADER text) ≡ drop HEADER text =
    take_all (length text - HEADER) (drop HEADER text) (omega (arith, length-drop HEADER text)) in
    let same : IsCutBody c.number_in.result (take (length text - HEADER) (drop HEADER text))
    ≡ IsCutBody (number_in text) (drop HEADER text) =
    ap (λ n. IsCutBody n (take (length text - HEADER) (drop HEADER text))) c.number_in.ensures
    ∙ ap (IsCutBody (number_in text)) all in (
      λ is. (
        c.if-begins_record_line.ensures.0 refl,
        λ long. subst (λ (X : Type 0). X) same (c.is_cut_body.ensures.0 is),
      ),
      λ cut. c.is_cut_body.ensures.1 (subst (λ (X : Type 0). X) (sym same) (cut.1 c.if-text-lt-HEADER.false)),
    )
