use Rattle.std.proofs.Common.{ap, length, arith, length-take}
use Rattle.room_http_messages.proofs.InboxLemmas.{used-removed}
use Rattle.dispatch_room_journal.proofs.record_inbox.RecordInbox.remove.Goals as goal

pub returns : goal.returns
returns c =
    let gone = c.args.gone in
    let len = c.self.inside.len in
    rw (c.copy_within.ensures.after, ← c.self.view_is)
    (used-removed c.self.inside.room gone len
    (omega (arith, c.requires, length-take len c.self.inside.room, ap length c.self.view_is)) (omega arith))
