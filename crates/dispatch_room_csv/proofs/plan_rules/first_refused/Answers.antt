use Rattle.std.proofs.Common.{◌≡◌, ◌∙◌, below_more, get_or, sym}
use Rattle.std.proofs.lemmas.List.{get_or_default}
use Rattle.dispatch_room_csv.specs.declared.plan_lines.PlanLine.TheVariants.{Bad}
use Rattle.dispatch_room_csv.proofs.plan_rules.first_refused.Goals as goal

pub loop-at-preserved : goal.loop-at-preserved
loop-at-preserved c =
    let here : get_or c.args.lines.now c.loop-at.at Bad ≡ c.index-lines-at.result =
    get_or_default c.args.lines.now c.loop-at.at _ _ c.loop-at-test.true ∙ sym c.index-lines-at.is in
    below_more _ _ c.loop-at.invariant (rw here (sym c.is_refused.ensures ∙ c.if-is_refused.false))
