use Rattle.std.proofs.Common.{below_more, get_or, sym, ◌∙◌, ◌≡◌}
use Rattle.std.proofs.lemmas.List.{get_or_default}
use Rattle.dispatch_room_tasks.specs.ReplacedTerminals.{no_row}
use Rattle.dispatch_room_tasks.proofs.replacement_faults.first_refused.Goals as goal

pub loop-at-preserved : goal.loop-at-preserved
loop-at-preserved c =
    let here : get_or c.args.listed.now c.loop-at.at no_row ≡ c.index-listed-at.result =
    get_or_default c.args.listed.now c.loop-at.at _ _ c.loop-at-test.true ∙ sym c.index-listed-at.is in
    below_more _ _ c.loop-at.invariant (rw here (sym c.in_default.ensures))
