use Rattle.std.proofs.Common.{◌∙◌, refl, sym, ap, arith, length, ◌++◌, cond, false, true}
use Rattle.dispatch_room_journal.specs.Chains.{is_row, sha256_digits}
use Rattle.dispatch_room_journal.specs.RecordFronts.{body_in, stops_at}
use Rattle.dispatch_room_journal.specs.declared.record_fronts.Front.TheVariants.{Short, Whole}
use Rattle.dispatch_room_journal.specs.declared.record_fronts.Front.TheVariants.{Wrong}
use Rattle.dispatch_room_journal.proofs.SaysLemmas.{says_wrong}
use Rattle.dispatch_room_journal.proofs.ReadStepLemmas.{empty_rest, front_now, no_row, no_row_empty}
use Rattle.dispatch_room_journal.proofs.ReadStepLemmas.{one_row, passed, short_rest, stopped, took}
use Rattle.dispatch_room_journal.proofs.read_progress.JournalCursor.follow.Goals as goal

pub returns-in-Empty-clause-step : goal.returns-in-Empty-clause-step
returns-in-Empty-clause-step c =
    let kept = c.args.self.now.inbox in
    let none = (rw c.bytes.ensures.value at c.in-Empty.ensures) in
    rw c.requires.chain
    (refl, c.requires.none, refl, omega (arith, none), empty_rest c.args.reach c.args.link.now kept none)

pub returns-in-Empty-clause-rows : goal.returns-in-Empty-clause-rows
returns-in-Empty-clause-rows c =
    let none = (rw c.bytes.ensures.value at c.in-Empty.ensures) in
    rw c.requires.chain (sym (no_row_empty c.args.reach c.args.link.now c.args.self.now.inbox none))

pub returns-in-Short-clause-step : goal.returns-in-Short-clause-step
returns-in-Short-clause-step c =
    let kept = c.args.self.now.inbox in
    let short = (rw c.bytes.ensures.value at c.in-Short.ensures) in
    rw c.requires.chain
    (refl, c.requires.none, refl, short.1, short_rest c.args.reach c.args.link.now kept short.0 short.2)

pub returns-in-Short-clause-rows : goal.returns-in-Short-clause-rows
returns-in-Short-clause-rows c =
    let short = (rw c.bytes.ensures.value at c.in-Short.ensures) in
    rw c.requires.chain (sym (no_row c.args.reach c.args.link.now c.args.self.now.inbox Short short.2 refl))

pub returns-in-Wrong-clause-step : goal.returns-in-Wrong-clause-step
returns-in-Wrong-clause-step c =
    let kept = c.args.self.now.inbox in
    let wrong = (rw c.bytes.ensures.value at c.in-Wrong.ensures) in
    let link = c.args.link.now in
    rw c.requires.chain (
      c.requires.none,
      λ more. says_wrong sha256_digits c.args.reach link.check link.has_ended (kept ++ more) (wrong more),
    )

pub returns-in-Wrong-clause-rows : goal.returns-in-Wrong-clause-rows
returns-in-Wrong-clause-rows c =
    let kept = c.args.self.now.inbox in
    let wrong = (rw c.bytes.ensures.value at c.in-Wrong.ensures) in
    let link = c.args.link.now in
    rw c.requires.chain (sym (no_row c.args.reach link kept Wrong (front_now link kept Wrong wrong) refl))

pub take-requires-clause-whole : goal.take-requires-clause-whole
take-requires-clause-whole c = (rw c.bytes.ensures.value at c.in-Whole.ensures).0

pub returns-then-not-is_row-clause-step : goal.returns-then-not-is_row-clause-step
returns-then-not-is_row-clause-step c =
    let kept = c.args.self.now.inbox in
    let whole = (rw c.bytes.ensures.value at c.in-Whole.ensures) in
    let body = c.body_of.ensures ∙ ap (body_in c.in-Whole.size) c.bytes-in-Whole.ensures.value in
    let none = ap is_row (sym body) ∙ sym c.is_row.ensures ∙ c.if-not-is_row.true in
    rw c.requires.chain
    (took c.args.reach c.args.link.now kept c.in-Whole.size c.in-Whole.check whole c.take.new.self.mode
    c.take.new.self.vouched c.take.new.self.inbox c.take.ensures.mode c.take.ensures.says c.take.ensures.no_entry
    (omega (arith, ap length c.bytes.ensures.value, c.bytes.ensures.fits)) none)

pub returns-then-not-is_row-clause-rows : goal.returns-then-not-is_row-clause-rows
returns-then-not-is_row-clause-rows c =
    let kept = c.args.self.now.inbox in
    let link = c.args.link.now in
    let whole = (rw c.bytes.ensures.value at c.in-Whole.ensures) in
    let body = c.body_of.ensures ∙ ap (body_in c.in-Whole.size) c.bytes-in-Whole.ensures.value in
    let none = ap is_row (sym body) ∙ sym c.is_row.ensures ∙ c.if-not-is_row.true in
    let front = Whole c.in-Whole.size c.in-Whole.check in
    rw c.requires.chain
    (sym (no_row c.args.reach link kept front (front_now link kept front whole.3) (ap (λ b. cond b 1 0) none)))

pub returns-in-Full-clause-step : goal.returns-in-Full-clause-step
returns-in-Full-clause-step c =
    let kept = c.args.self.now.inbox in
    let whole = (rw c.bytes.ensures.value at c.in-Whole.ensures) in
    let body = c.body_of.ensures ∙ ap (body_in c.in-Whole.size) c.bytes-in-Whole.ensures.value in
    let row = ap is_row (sym body) ∙ sym c.is_row.ensures ∙ c.if-not-is_row.false in
    let took = c.take-in-Full in
    rw c.requires.chain
    (passed c.args.reach c.args.link.now kept c.in-Whole.size c.in-Whole.check whole took.new.self.mode
    took.new.self.vouched took.new.self.inbox took.ensures.mode took.ensures.says took.ensures.no_entry
    (ap (λ r. stops_at r (body_in c.in-Whole.size kept)) c.in-Full.is) row)

pub returns-in-Full-clause-rows : goal.returns-in-Full-clause-rows
returns-in-Full-clause-rows c =
    let kept = c.args.self.now.inbox in
    let link = c.args.link.now in
    let whole = (rw c.bytes.ensures.value at c.in-Whole.ensures) in
    let body = c.body_of.ensures ∙ ap (body_in c.in-Whole.size) c.bytes-in-Whole.ensures.value in
    let row = ap is_row (sym body) ∙ sym c.is_row.ensures ∙ c.if-not-is_row.false in
    let front = Whole c.in-Whole.size c.in-Whole.check in
    rw (c.requires.chain, c.in-Full.is)
    (sym (one_row link kept c.in-Whole.size c.in-Whole.check (front_now link kept front whole.3) row))

pub returns-in-Segment-clause-step : goal.returns-in-Segment-clause-step
returns-in-Segment-clause-step c =
    let kept = c.args.self.now.inbox in
    let size = c.in-Whole.size in
    let whole = (rw c.bytes.ensures.value at c.in-Whole.ensures) in
    let body = c.body_of.ensures ∙ ap (body_in size) c.bytes-in-Whole.ensures.value in
    let row = ap is_row (sym body) ∙ sym c.is_row.ensures ∙ c.if-not-is_row.false in
    let stops = ap (λ r. stops_at r (body_in size kept)) c.in-Segment.is ∙ row in
    let none = stopped c.args.reach c.args.link.now kept size c.in-Whole.check whole stops in
    rw (c.requires.chain, c.requires.none) (none, none)
