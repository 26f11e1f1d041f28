use Rattle.std.proofs.Common.{ap, arith, deque_len, length, not, ◌==◌, ◌≡◌, ◌∙◌}
use Rattle.dispatch_room_sockets.proofs.waiting_callers.Waiting.is_awaited.Goals as goal

pub returns : goal.returns
returns g c =
    let same : deque_len c.args.self.now.ready ≡ length c.args.self.now.ready.items = omega arith in
    ap not (c.is_empty.ensures ∙ ap (λ n. n == 0) same)
