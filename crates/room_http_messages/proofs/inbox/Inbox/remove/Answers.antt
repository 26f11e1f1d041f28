use Rattle.std.proofs.Common.{ap, length, arith, length-take}
use Rattle.room_http_messages.proofs.InboxLemmas.{used-removed}
use Rattle.room_http_messages.proofs.inbox.Inbox.remove.Goals as goal

pub returns : goal.returns
returns c =
    let gone = c.args.layout.now.body.end in
    rw (c.copy_within.ensures.items, ← c.self.view_is)
    (used-removed c.self.inside.room.items gone c.self.inside.len
    (omega (arith, length-take c.self.inside.len c.self.inside.room.items, ap length c.self.view_is)) (omega arith))
