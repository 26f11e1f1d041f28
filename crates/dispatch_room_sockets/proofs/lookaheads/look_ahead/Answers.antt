use Rattle.std.proofs.Common.{arith, inl, inr, length, sym, true≢false, ◌≡◌, ◌≤◌, ◌∙◌}
use Rattle.room_http_messages.specs.declared.limits.TheConstants.{INBOX_ROOM}
use Rattle.std.proofs.KnownBytes.{Keeps-trans}
use Rattle.dispatch_room_sockets.proofs.LookaheadLaws.{few_before, read_on, said_alike}
use Rattle.dispatch_room_sockets.proofs.lookaheads.look_ahead.Goals as goal

pub returns-then-not-may_grow-clause-seen : goal.returns-then-not-may_grow-clause-seen
returns-then-not-may_grow-clause-seen g c =
    inr (said_alike _ _ _ _ _ _ (λ ended. absurd (true≢false (sym ended)))
    (λ grows _. absurd (true≢false (sym grows ∙ sym c.if-not-may_grow.ensures)))
    (rw c.bytes.ensures.value at c.lookahead_of-ahead.ensures))

pub returns-in-Ok-eq0-clause-seen : goal.returns-in-Ok-eq0-clause-seen
returns-in-Ok-eq0-clause-seen g c =
    let none : c.in-Ok-eq0.field-0 ≡ 0 = omega (arith, c.in-Ok-eq0.field-0-test) in
    let fill = c.fill.ensures in
    let room = c.loop-read.auto.room in
    inr (said_alike _ _ _ _ _ _
    (λ _. (
      rw none at (rw c.in-Ok-eq0.is at fill.given),
      λ some few. (rw c.in-Ok-eq0.is at fill.end) none (omega (arith, some, room)) (few_before _ _ _ fill.front few),
    ))
    (λ _ no. absurd (true≢false no)) (rw c.bytes-in-Ok-eq0.ensures.value at c.lookahead_of.ensures))

pub returns-in-Err-Yet-clause-seen : goal.returns-in-Err-Yet-clause-seen
returns-in-Err-Yet-clause-seen g c =
    let fill = c.fill.ensures in
    let same = rw c.in-Err-Yet.is at fill.none in
    inr (said_alike _ _ _ _ _ _ (λ ended. absurd (true≢false (sym ended)))
    (λ _ _. inl (rw c.in-Err-Yet.field-0-is at (rw c.in-Err-Yet.is at fill.given)))
    (rw (c.bytes.ensures.value, sym same) at c.lookahead_of-ahead.ensures))

pub returns-clause-seen : goal.returns-clause-seen
returns-clause-seen g c =
    let full : INBOX_ROOM ≤ length c.loop-read.unserved
    = omega (arith, c.loop-read.invariant.grown, c.loop-read-test.false, c.loop-read.auto._read-end) in
    inr (said_alike _ _ _ _ _ _ (λ ended. absurd (true≢false (sym ended))) (λ _ _. inr full)
    (rw c.bytes-2.ensures.value at c.lookahead_of-2.ensures))

pub loop-read-preserved : goal.loop-read-preserved
loop-read-preserved g c =
    let i = c.loop-read.invariant in
    record {
      kept = Keeps-trans _ _ _ i.kept c.fill.ensures.bytes;
      front = read_on _ _ _ i.front c.fill.ensures.front;
      grown = omega (arith, i.grown, (rw c.in-Ok.is at c.fill.ensures.grown), c.in-Ok.field-0-test);
    }

pub returns-in-Ok-eq0-clause-kept : goal.returns-in-Ok-eq0-clause-kept
returns-in-Ok-eq0-clause-kept g c = Keeps-trans _ _ _ c.loop-read.invariant.kept c.fill.ensures.bytes

pub returns-in-Ok-eq0-clause-front : goal.returns-in-Ok-eq0-clause-front
returns-in-Ok-eq0-clause-front g c = read_on _ _ _ c.loop-read.invariant.front c.fill.ensures.front

pub returns-in-Err-Yet-clause-kept : goal.returns-in-Err-Yet-clause-kept
returns-in-Err-Yet-clause-kept g c = Keeps-trans _ _ _ c.loop-read.invariant.kept c.fill.ensures.bytes

pub returns-in-Err-Yet-clause-front : goal.returns-in-Err-Yet-clause-front
returns-in-Err-Yet-clause-front g c = read_on _ _ _ c.loop-read.invariant.front c.fill.ensures.front

pub returns-in-Err-Ever-clause-kept : goal.returns-in-Err-Ever-clause-kept
returns-in-Err-Ever-clause-kept g c = Keeps-trans _ _ _ c.loop-read.invariant.kept c.fill.ensures.bytes

pub returns-in-Err-Ever-clause-front : goal.returns-in-Err-Ever-clause-front
returns-in-Err-Ever-clause-front g c = read_on _ _ _ c.loop-read.invariant.front c.fill.ensures.front
