use Rattle.std.proofs.Common.{◌∙◌, append_assoc}
use Rattle.std.proofs.lemmas.Result.{on_ok_weaker}
use Rattle.dispatch_room_board.specs.Requests.{get}
use Rattle.dispatch_room_board.proofs.requests.put_proposals.Goals as goal

pub returns : goal.returns
unfolding get
returns c =
    on_ok_weaker c.write.result (λ h. h ∙ rw c.get-number.ensures.value (simp append_assoc)) c.write.ensures.bytes
