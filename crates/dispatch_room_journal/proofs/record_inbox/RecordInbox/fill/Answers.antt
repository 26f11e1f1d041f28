use Rattle.std.proofs.Common.{rules, ◌∙◌, ap, ℕ, ◌++◌, ◌+◌, ◌-◌, ◌<◌, ◌≤◌, take, length, arith}
use Rattle.std.proofs.Common.{length-take, length-take-le}
use Rattle.std.proofs.lemmas.List.{places}
use borrow.Rule.Slice.PartMut.{put_mid}
use Rattle.dispatch_room_journal.specs.declared.record_inbox.TheConstants.{RECORD_ROOM}
use Rattle.room_http_messages.proofs.InboxLemmas.{used-read, used-kept}
use Rattle.dispatch_room_journal.proofs.record_inbox.RecordInbox.fill.Goals as goal

pub returns-in-Ok : goal.returns-in-Ok
returns-in-Ok g c =
    let inbox = c.self.inside in
    let n = c.in-Ok.count in
    let all = inbox.room in
    let piece = c.read.new.buf in
    let after = put_mid inbox.len (length all - inbox.len) all piece in
    let within : inbox.len ≤ length all = omega arith in
    let bound : n ≤ length piece = c.in-Ok.ensures.bound in
    let full : inbox.len + n ≤ RECORD_ROOM = omega arith in
    let used : inbox.len
    < RECORD_ROOM = omega (arith, c.requires, ap length c.self.view_is, length-take inbox.len inbox.room) in
    let some : 0 < length piece = search (rules, places, used) in
    record {
      fits = omega (arith, full, length-take {A = ℕ});
      failed = c.in-Ok.ensures.failed;
      bytes = (
        take n piece,
        length-take-le n piece bound,
        used-read all piece inbox.len _ n within bound ∙ ap (λ t. t ++ take n piece) c.self.view_is,
        c.in-Ok.ensures.bytes.0,
        λ none. c.in-Ok.ensures.bytes.1 none some,
      );
    }

pub returns-in-Err : goal.returns-in-Err
returns-in-Err g c =
    let inbox = c.self.inside in
    let all = inbox.room in
    let piece = c.read.new.buf in
    let after = put_mid inbox.len (length all - inbox.len) all piece in
    let within : inbox.len ≤ length all = omega arith in
    record {
      fits = omega (arith, length-take {A = ℕ});
      failed = c.in-Err.ensures.failed;
      bytes = (
        used-kept all piece inbox.len _ within ∙ c.self.view_is,
        c.in-Err.ensures.bytes,
      );
    }
