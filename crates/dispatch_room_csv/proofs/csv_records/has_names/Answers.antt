use Rattle.std.proofs.Common.{◌∙◌, ap, arith, below_more, get_or, map, refl, sym, []}
use Rattle.std.proofs.lemmas.List.{length-map}
use Rattle.csv.specs.Records.{fields_of}
use Rattle.dispatch_room_csv.proofs.FieldLemmas.{another, name_at, no_other, same_fields, text_is}
use Rattle.dispatch_room_csv.proofs.csv_records.has_names.Goals as goal

pub returns-then-ne : goal.returns-then-ne
returns-then-ne c = (
  λ yes. absurd (cc (yes)),
  λ same. absurd (another _ _ _ c.ne.ensures c.if-ne.true
      (c.text_at.ensures ∙ text_is _ _ ∙ ap (λ fields. get_or fields c.loop-at.at []) same
      ∙ name_at c.args.names.now c.loop-at.at _ c.loop-at-test.true)),
)

pub loop-at-preserved : goal.loop-at-preserved
loop-at-preserved c =
    below_more _ _ c.loop-at.invariant
    (sym c.text_at.ensures ∙ no_other _ _ _ c.ne.ensures c.if-ne.false
    ∙ sym (name_at c.args.names.now c.loop-at.at _ c.loop-at-test.true))

pub returns : goal.returns
returns c =
    let names = map (λ name. name.now) c.args.names.now in
    let long = length-map c.args.names.now (λ name. name.now) in (
      λ yes.
          same_fields (fields_of c.args.first.now) names (sym c.len.ensures ∙ c.if-len-names.false ∙ sym long)
          (λ at within. c.loop-at.invariant at (omega (arith, long))),
      λ same. refl,
    )
