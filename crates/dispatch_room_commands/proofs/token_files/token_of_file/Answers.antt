use Rattle.std.proofs.Common.{Ok, refl}
use Rattle.dispatch_room_disk.proofs.WorkLemmas.{stops}
use Rattle.dispatch_room_commands.proofs.token_files.token_of_file.Goals as goal

pub returns-in_err-text : goal.returns-in_err-text
returns-in_err-text g c printed =
    stops _ _ _ _ c.from_residual.result _ c.from_residual.ensures.1
    (λ fault is. rw is (c.in_err-text.ensures.fault, c.in_err-text.ensures.done, refl))

pub returns : goal.returns
returns g c printed = record {
  between = record { printed = printed; done = _ };
  found = Ok _;
  is = (tt, c.in_ok-text.ensures.done, refl);
  rest = (rw c.as_slice.ensures.value at c.token_of_text.ensures, refl);
}
