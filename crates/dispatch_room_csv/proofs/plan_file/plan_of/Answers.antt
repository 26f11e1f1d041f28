use Rattle.std.proofs.Common.{◌∙◌, ap, arith, get_or, length, sym, ◌∷◌, []}
use Rattle.dispatch_room_csv.proofs.PlanLemmas.{kept_is_plan}
use Rattle.dispatch_room_csv.proofs.plan_file.plan_of.Goals as goal

pub index-requires : goal.index-requires
index-requires c =
    let counted = sym c.has_zone_and_areas.ensures ∙ c.if-not-has_zone_and_areas.false in
    let plan = kept_is_plan c.args.lines.now counted c.in_default.ensures in
    omega (arith, ap length (c.in_ok-rules.ensures ∙ plan.1))

pub sound_plan-requires : goal.sound_plan-requires
sound_plan-requires c =
    let counted = sym c.has_zone_and_areas.ensures ∙ c.if-not-has_zone_and_areas.false in
    let plan = kept_is_plan c.args.lines.now counted c.in_default.ensures in
    let first = c.as_str.ensures.text ∙ c.index.ensures
    ∙ ap (λ rules. get_or rules 0 c.index.result.now) (c.in_ok-rules.ensures ∙ plan.1) in
    rw (c.in_ok-areas.ensures, first) plan.2

pub returns-clause-plan : goal.returns-clause-plan
returns-clause-plan c =
    let counted = sym c.has_zone_and_areas.ensures ∙ c.if-not-has_zone_and_areas.false in
    let plan = kept_is_plan c.args.lines.now counted c.in_default.ensures in
    let first = c.as_str.ensures.text ∙ c.index.ensures
    ∙ ap (λ rules. get_or rules 0 c.index.result.now) (c.in_ok-rules.ensures ∙ plan.1) in
    record {
      counted = counted;
      kept = c.in_default.ensures;
      areas = c.in_ok-plan.ensures.0 ∙ c.in_ok-areas.ensures;
      zone = plan.1 ∙ ap (λ rule. rule ∷ []) (sym (c.in_ok-plan.ensures.1 ∙ first));
      terminals = c.in_ok-terminals.ensures;
    }
