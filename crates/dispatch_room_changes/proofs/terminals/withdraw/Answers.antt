use Rattle.std.proofs.Common.{Ok, false, refl, sym, true, ◌≡◌, ◌∙◌}
use Rattle.dispatch_room_disk.proofs.WorkLemmas.{stops}
use Rattle.dispatch_room_changes.specs.ChangeSteps.{is_a_crew}
use Rattle.dispatch_room_changes.proofs.terminals.withdraw.Goals as goal

pub returns-in_err-renew : goal.returns-in_err-renew
returns-in_err-renew g c printed =
    let crew : is_a_crew c.args.who ≡ true = sym c.is_a_crew.ensures ∙ c.if-is_a_crew.true in
    rw crew
    (stops _ _ _ _ c.from_residual.result _ c.from_residual.ensures.1
    (λ fault is. rw is (c.in_err-renew.ensures printed)))

pub returns-then-is_a_crew : goal.returns-then-is_a_crew
returns-then-is_a_crew g c printed =
    let crew : is_a_crew c.args.who ≡ true = sym c.is_a_crew.ensures ∙ c.if-is_a_crew.true in
    rw crew
    record {
      between = record { printed = _; done = _ };
      found = Ok _;
      is = c.in_ok-renew.ensures printed;
      rest = (refl, refl);
    }

pub returns : goal.returns
returns g c printed =
    let none : is_a_crew c.args.who ≡ false = sym c.is_a_crew.ensures ∙ c.if-is_a_crew.false in
    rw none (c.reissue.ensures printed)
