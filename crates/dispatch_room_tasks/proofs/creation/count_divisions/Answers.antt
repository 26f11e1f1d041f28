use Rattle.std.proofs.Common.{ap, arith, ◌-◌, ◌∙◌, ◌≡◌}
use Rattle.room_place.specs.Plans.{has_division}
use Rattle.dispatch_room_tasks.proofs.CreatedLemmas.{passing_to}
use Rattle.dispatch_room_tasks.proofs.creation.count_divisions.Goals as goal

pub returns : goal.returns
returns c =
    let last : c.loop-number.number - 1 ≡ 9 = omega (arith, c.loop-number-test.false, c.loop-number.auto.number-end) in
    c.loop-number.invariant.counted ∙ ap (passing_to (has_division c.args.plan.now.areas)) last
