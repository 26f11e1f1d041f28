use Rattle.std.proofs.Common.{rules, ◌∙◌, ap, ℕ, ◌++◌, ◌+◌, ◌-◌, ◌<◌, ◌≤◌, take, length, arith}
use Rattle.std.proofs.Common.{length-take}
use Rattle.std.proofs.lemmas.List.{with_items_is, places}
use borrow.Rule.Slice.PartMut.{put_mid}
use Rattle.room_http_messages.specs.declared.limits.TheConstants.{INBOX_ROOM}
use Rattle.room_http_messages.proofs.InboxLemmas.{used-read, used-kept, ended_at_none}
use Rattle.room_http_messages.proofs.ReadingLemmas.{Reads-more, Reads-nothing, Keeps-taken}
use Rattle.room_http_messages.proofs.inbox.Inbox.read_once.Goals as goal

-- at the end, within a message
pub returns-in-Ok-eq0-2 : goal.returns-in-Ok-eq0-2
returns-in-Ok-eq0-2 g c =
    let inbox = c.self.inside in
    let all = c.as_mut_slice.result.now in
    let piece = c.read.new.buf in
    let after = put_mid inbox.len (length all - inbox.len) all piece in
    let whole = with_items_is inbox.room after (search (rules, places)) in
    let within : inbox.len ≤ length all = omega arith in
    let used : inbox.len
    < INBOX_ROOM = omega (arith, c.requires.room, ap length c.self.view_is, length-take inbox.len inbox.room.items) in
    let some : 0 < length piece = search (rules, places, used) in
    let given = c.in-Ok-eq0.ensures in
    let none = c.in-Ok-eq0.field-0-test in
    let same =
    ap (take inbox.len) whole
    ∙ used-kept all piece inbox.len _ within
    ∙ ap (take inbox.len) c.as_mut_slice.ensures.value ∙ c.self.view_is in
    record {
      read =
          Reads-nothing _ _ _ _ _ _ _ _ (omega (arith, length-take {A = ℕ})) given.count same
          (Keeps-taken _ _ piece _ none given.bytes.0) (omega (arith, c.if-budget-eq0.false)) (omega arith);
      says = (
        (
          omega (
            arith,
            c.if-len-eq0.false,
            ap length same,
            ap length c.self.view_is,
            length-take inbox.len inbox.room.items,
          ),
          rw same c.requires.part,
        ),
        ended_at_none _ _ _ (length piece) given.ended none some,
        given.bytes.1 none some,
        rw c.requires.sound at given.failed,
      );
    }

pub returns-in-Ok : goal.returns-in-Ok
returns-in-Ok g c =
    let inbox = c.self.inside in
    let n = c.in-Ok.count in
    let all = c.as_mut_slice.result.now in
    let piece = c.read.new.buf in
    let after = put_mid inbox.len (length all - inbox.len) all piece in
    let whole = with_items_is inbox.room after (search (rules, places)) in
    let within : inbox.len ≤ length all = omega arith in
    let bound : n ≤ length piece = c.in-Ok.ensures.bound in
    let full : inbox.len + n ≤ INBOX_ROOM = omega arith in
    let joined =
    ap (take (inbox.len + n)) whole
    ∙ used-read all piece inbox.len _ n within bound
    ∙ ap (λ t. t ++ take n piece) (ap (take inbox.len) c.as_mut_slice.ensures.value ∙ c.self.view_is) in
    record {
      read =
          Reads-more _ _ _ _ _ _ (take n piece) _ _ (omega (arith, full, length-take {A = ℕ})) c.in-Ok.ensures.count
          joined c.in-Ok.ensures.bytes.0 (omega (arith, c.if-budget-eq0.false)) (omega arith);
      says =
          (omega (arith, c.if-budget-eq0.false), (take n piece, joined), rw c.requires.sound at c.in-Ok.ensures.failed);
    }

pub returns-in-Err : goal.returns-in-Err
returns-in-Err g c =
    let inbox = c.self.inside in
    let all = c.as_mut_slice.result.now in
    let piece = c.read.new.buf in
    let after = put_mid inbox.len (length all - inbox.len) all piece in
    let whole = with_items_is inbox.room after (search (rules, places)) in
    let within : inbox.len ≤ length all = omega arith in
    let same =
    ap (take inbox.len) whole
    ∙ used-kept all piece inbox.len _ within
    ∙ ap (take inbox.len) c.as_mut_slice.ensures.value ∙ c.self.view_is in
    record {
      read =
          Reads-nothing _ _ _ _ _ _ _ _ (omega (arith, length-take {A = ℕ})) c.in-Err.ensures.count same
          c.in-Err.ensures.bytes (omega (arith, c.if-budget-eq0.false)) (omega arith);
      says = (rw same c.requires.part, rw c.requires.sound at c.in-Err.ensures.failed);
    }
