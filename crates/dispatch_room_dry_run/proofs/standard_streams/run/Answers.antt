use Rattle.std.proofs.Common.{ap, ◌∙◌}
use Rattle.dispatch_room_exit.specs.ExitStatus.{status_after}
use Rattle.dispatch_room_dry_run.proofs.standard_streams.run.Goals as goal

pub returns : goal.returns
returns c =
    let is = c.over_streams-done.ensures in
    record {
      old = _;
      new = _;
      served = is.0;
      is = is.2;
      exits = c.end.ensures.status ∙ ap status_after is.1;
    }
