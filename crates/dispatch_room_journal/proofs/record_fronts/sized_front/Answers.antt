use Rattle.std.proofs.Common.{◌≡◌, ℕ, ◌+◌, ◌≤◌, List, ◌++◌, arith, length, length-append}
use Rattle.dispatch_room_journal.specs.declared.record_headers.TheConstants.{HEADER}
use Rattle.dispatch_room_journal.specs.Chains.{sha256_digits, next_check}
use Rattle.dispatch_room_journal.specs.RecordFronts.{body_in, sized_front, whole_front}
use Rattle.dispatch_room_journal.proofs.FrontLemmas.{sized_none, sized_wrong, sized_short}
use Rattle.dispatch_room_journal.proofs.FrontLemmas.{sized_whole, stays_by}
use Rattle.dispatch_room_journal.proofs.record_fronts.sized_front.Goals as goal

pub returns-then-size-lt1 : goal.returns-then-size-lt1
returns-then-size-lt1 c = λ more.
    sized_none sha256_digits c.args.link.now.check c.args.link.now.has_ended (c.args.bytes.now ++ more) c.args.size
    c.if-size-lt1.true

pub returns-then-size-gt-ENTRY_ROOM : goal.returns-then-size-gt-ENTRY_ROOM
returns-then-size-gt-ENTRY_ROOM c = λ more.
    sized_wrong sha256_digits c.args.link.now.check c.args.link.now.has_ended (c.args.bytes.now ++ more) c.args.size
    c.if-size-lt1.false c.if-size-gt-ENTRY_ROOM.true

pub returns-then-bytes-size : goal.returns-then-bytes-size
returns-then-bytes-size c = (
  omega (arith, c.requires),
  omega (arith, c.if-bytes-size.true, c.if-size-gt-ENTRY_ROOM.false),
  sized_short sha256_digits c.args.link.now.check c.args.link.now.has_ended c.args.bytes.now c.args.size
      c.if-size-lt1.false c.if-size-gt-ENTRY_ROOM.false c.if-bytes-size.true,
)

pub returns : goal.returns
returns c =
    let text = c.args.bytes.now in
    let link = c.args.link.now in
    let whole : (t : List ℕ) → HEADER + c.args.size ≤ length t
    → sized_front sha256_digits link.check link.has_ended t c.args.size
    ≡ whole_front link.has_ended t c.args.size (next_check sha256_digits link.check (body_in c.args.size t)) =
    λ t long.
    sized_whole sha256_digits link.check link.has_ended t c.args.size c.if-size-lt1.false c.if-size-gt-ENTRY_ROOM.false
    long in
    stays_by (λ t. sized_front sha256_digits link.check link.has_ended t c.args.size)
    (λ t. whole_front link.has_ended t c.args.size (next_check sha256_digits link.check (body_in c.args.size t)))
    link.has_ended text c.whole_front.result
    (λ more. whole (text ++ more) (omega (arith, c.if-bytes-size.false, length-append text more)))
    (whole text c.if-bytes-size.false)
    c.whole_front.ensures
