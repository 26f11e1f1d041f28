use Rattle.std.proofs.Common.{◌≤◌, ap, length, arith, length-take}
use Rattle.room_http_messages.proofs.InboxLemmas.{used-removed}
use Rattle.dispatch_room_journal.proofs.ReadingLemmas.{layout_fits}
use Rattle.dispatch_room_journal.proofs.journal_inbox.JournalInbox.remove.Goals as goal

pub returns-clause-kept : goal.returns-clause-kept
returns-clause-kept c =
    let gone = c.args.layout.now.end in
    let len = c.self.inside.len in
    let fits : gone
    ≤ length c.args.self.now.kept = layout_fits c.args.self.now.kept c.args.layout.now c.requires.0 c.requires.1 in
    rw (c.copy_within.ensures.items, ← ap (λ v. v.kept) c.self.view_is)
    (used-removed c.self.inside.room.items gone len
    (omega (arith, fits, length-take len c.self.inside.room.items, ap (λ v. length v.kept) c.self.view_is))
    (omega arith))
