use Rattle.std.proofs.Common.{sym, ◌∙◌}
use Rattle.room_core.proofs.CallWork.{decided_by, decided_apart}
use Rattle.room_core.proofs.call_decisions.decide_call.Goals as goal

pub returns-clause-decides : goal.returns-clause-decides
returns-clause-decides c r f formed same none placed read =
    c.take_call.ensures.decides r.plan
    ∙ sym (decided_by c.args.slice.now.division c.args.new.now r f _ formed same none placed read)

pub returns-clause-apart : goal.returns-clause-apart
returns-clause-apart c r other f formed same none placed read good nor shares =
    returns-clause-decides c r f formed same none placed read
    ∙ decided_apart c.args.slice.now.division c.args.new.now r other f formed good same shares none nor placed
