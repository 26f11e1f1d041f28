use Rattle.std.proofs.Common.{rules, ◌∙◌, ap, ℕ, ◌++◌, ◌+◌, ◌-◌, ◌<◌, ◌≤◌, take, length, arith}
use Rattle.std.proofs.Common.{length-take, length-take-le}
use Rattle.std.proofs.lemmas.List.{with_items_is, places}
use borrow.Rule.Slice.PartMut.{put_mid}
use Rattle.dispatch_room_journal.specs.declared.journal_inbox.TheConstants.{ENTRY_ROOM}
use Rattle.room_http_messages.proofs.InboxLemmas.{used-read, used-kept, ended_at_none}
use Rattle.dispatch_room_journal.proofs.journal_inbox.JournalInbox.fill.Goals as goal

pub returns-in-Ok-clause-read : goal.returns-in-Ok-clause-read
returns-in-Ok-clause-read g c =
    let inbox = c.self.inside in
    let n = c.in-Ok.count in
    let all = c.as_mut_slice.result.now in
    let piece = c.read.new.buf in
    let after = put_mid inbox.len (length all - inbox.len) all piece in
    let whole = with_items_is inbox.room after (search (rules, places)) in
    let within : inbox.len ≤ length all = omega arith in
    let bound : n ≤ length piece = c.in-Ok.ensures.bound in
    let full : inbox.len + n ≤ ENTRY_ROOM = omega arith in
    let used : inbox.len
    < ENTRY_ROOM =
    omega (arith, c.requires, ap (λ v. length v.kept) c.self.view_is, length-take inbox.len inbox.room.items) in
    let some : 0 < length piece = search (rules, places, used) in
    record {
      fits = omega (arith, full, length-take {A = ℕ});
      failed = c.in-Ok.ensures.failed;
      bytes = (
        take n piece,
        length-take-le n piece bound,
        ap (take (inbox.len + n)) whole
            ∙ used-read all piece inbox.len _ n within bound
            ∙ ap (λ t. t ++ take n piece)
            (ap (take inbox.len) c.as_mut_slice.ensures.value ∙ ap (λ v. v.kept) c.self.view_is),
        c.in-Ok.ensures.bytes.0,
        λ none. (ended_at_none _ _ n (length piece) c.in-Ok.ensures.ended none some, c.in-Ok.ensures.bytes.1 none some),
      );
    }

pub returns-in-Err-clause-read : goal.returns-in-Err-clause-read
returns-in-Err-clause-read g c =
    let inbox = c.self.inside in
    let all = c.as_mut_slice.result.now in
    let piece = c.read.new.buf in
    let after = put_mid inbox.len (length all - inbox.len) all piece in
    let whole = with_items_is inbox.room after (search (rules, places)) in
    let within : inbox.len ≤ length all = omega arith in
    record {
      fits = omega (arith, length-take {A = ℕ});
      failed = c.in-Err.ensures.failed;
      bytes = (
        ap (take inbox.len) whole
            ∙ used-kept all piece inbox.len _ within
            ∙ ap (take inbox.len) c.as_mut_slice.ensures.value ∙ ap (λ v. v.kept) c.self.view_is,
        c.in-Err.ensures.bytes,
      );
    }
