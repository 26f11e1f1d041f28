use Rattle.std.proofs.Common.{refl, [], drop, inl, None}
use Rattle.dispatch_room_journal.specs.Entries.{room, answer}
use Rattle.dispatch_room_journal.specs.ReplayFaults.{broken, unasked, headless}
use Rattle.dispatch_room_journal.proofs.FaultLemmas.{unless_known, not_both, read_explains}
use Rattle.dispatch_room_journal.proofs.FaultLemmas.{read_due, unavailable_explains}
use Rattle.dispatch_room_journal.proofs.FaultLemmas.{unavailable_due}
use Rattle.dispatch_room_journal.proofs.NextEntryLemmas.{layout_of_room, layout_of_message}
use Rattle.dispatch_room_journal.proofs.NextEntryLemmas.{layout_of_mark, taken, by_not_after}
use Rattle.dispatch_room_journal.proofs.NextEntryLemmas.{ends_before}
use Rattle.dispatch_room_journal.proofs.next_entry.next_entry.Goals as goal

pub returns-in-Ok-true-clause-next : goal.returns-in-Ok-true-clause-next
returns-in-Ok-true-clause-next g c =
    let read = rw c.in-Ok-Some.field-0-is at c.in-Ok-Some.ensures.read in
    let front = layout_of_room _ c.in-Ok-Some.layout read.says.0.0 c.in-Room.head read.says.0.1 c.in-Room.is in (
      c.in-Room.head,
      front.begins.0,
      taken _ _ _ _ c.in-Ok-Some.layout _ front read.same c.remove.ensures.kept,
      read.says.1,
      λ trust terminals held stood. (
        (c.in-Ok-true.ensures.says trust terminals held stood).0 c.in-Ok-true.field-0-test,
        c.is_at.ensures.same trust terminals held stood,
      ),
    )

pub returns-then-is_after-clause-next : goal.returns-then-is_after-clause-next
returns-then-is_after-clause-next g c =
    let read = rw c.in-Ok-Some.field-0-is at c.in-Ok-Some.ensures.read in (
      read.same,
      λ text is. let first = read.first text is in (
        text,
        refl,
        ends_before c.args.until.now text c.in-Ok-Some.layout first.0 c.in-Message.at c.in-Message.size first.1
            c.in-Message.is (c.is_after.ensures.0 c.if-is_after.true),
      ),
      λ trust terminals room stood. stood,
    )

pub returns-in-Err-clause-next : goal.returns-in-Err-clause-next
returns-in-Err-clause-next g c =
    let read = c.in-Err.ensures.read in
    rw c.read_fault.ensures (
      λ trust terminals room stood. stood,
      λ waits text known. (
        text,
        refl,
        read_explains waits _ ⊥ _ [] c.in-Err.fault text text (read.first text known) (λ b. broken (λ _. refl) b),
      ),
      read_due _ _ _ _ c.in-Err.fault read.says,
    )

pub returns-in-Ok-false-clause-next : goal.returns-in-Ok-false-clause-next
returns-in-Ok-false-clause-next g c =
    let read = rw c.in-Ok-Some.field-0-is at c.in-Ok-Some.ensures.read in (
      c.is_at.ensures.same,
      λ waits text known.
          let first = read.first text known in
          let front = layout_of_room text c.in-Ok-Some.layout first.0 c.in-Room.head first.1 c.in-Room.is in (
            text,
            refl,
            (
              refl,
              None,
              c.in-Room.head,
              (drop c.in-Ok-Some.layout.end text, front.begins),
              (
                refl,
                λ trust terminals held stood.
                    let says = c.in-Ok-false.ensures.says trust terminals held stood in (
                      λ same. not_both _ c.in-Ok-false.field-0-test (says.1 same),
                      c.is_at.ensures.same trust terminals held stood,
                    ),
              ),
            ),
          ),
      (read.says.1, refl),
    )

pub returns-in-Err-is_at-clause-next : goal.returns-in-Err-is_at-clause-next
returns-in-Err-is_at-clause-next g c =
    let read = rw c.in-Ok-Some.field-0-is at c.in-Ok-Some.ensures.read in
    let cause = c.in-Err-is_at.ensures.unavailable in (
      c.is_at.ensures.same,
      λ waits text known. (text, refl, unavailable_explains waits _ ⊥ _ [] c.in-Err-is_at.fault text cause),
      unavailable_due _ _ c.in-Err-is_at.fault read.says.1 refl cause,
    )

pub returns-then-not-is_begun-clause-next : goal.returns-then-not-is_begun-clause-next
returns-then-not-is_begun-clause-next g c =
    let read = rw c.in-Ok-Some.field-0-is at c.in-Ok-Some.ensures.read in (
      λ trust terminals room stood. stood,
      λ waits text known.
          let first = read.first text known in
          let front = layout_of_message text c.in-Ok-Some.layout first.0 c.in-Message.at c.in-Message.size first.1
          c.in-Message.is in (
            text,
            refl,
            headless c.in-Message.at front.0 (drop c.in-Ok-Some.layout.end text) refl front.1.begins
                c.if-not-is_begun.true,
          ),
      (read.says.1, refl),
    )

pub returns-in-Answer-clause-next : goal.returns-in-Answer-clause-next
returns-in-Answer-clause-next g c =
    let read = rw c.in-Ok-Some.field-0-is at c.in-Ok-Some.ensures.read in (
      λ trust terminals room stood. stood,
      λ waits text known.
          let first = read.first text known in
          let front = layout_of_mark text c.in-Ok-Some.layout first.0 (answer c.in-Answer.field-0) first.1 tt
          c.in-Answer.is in
          (text, refl, unasked c.in-Answer.field-0 (drop c.in-Ok-Some.layout.end text) refl front.begins),
      (read.says.1, refl),
    )

pub returns-in-Ok-None-clause-next : goal.returns-in-Ok-None-clause-next
returns-in-Ok-None-clause-next g c =
    let read = rw c.in-Ok-None.field-0-is at c.in-Ok-None.ensures.read in
    (read.same, λ text known. (text, refl, inl (read.first text known)), λ trust terminals room stood. stood)

pub returns-else-is_after-clause-next : goal.returns-else-is_after-clause-next
returns-else-is_after-clause-next g c =
    let read = rw c.in-Ok-Some.field-0-is at c.in-Ok-Some.ensures.read in
    let front = layout_of_message _ c.in-Ok-Some.layout read.says.0.0 c.in-Message.at c.in-Message.size read.says.0.1
    c.in-Message.is in (
      front.0,
      front.1,
      by_not_after c.args.until.now c.in-Message.at front.0
          (λ late. not_both _ c.if-is_after.false (c.is_after.ensures.1 late)),
      read.same,
      c.if-not-is_begun.false,
      read.says.1,
      λ trust terminals room stood. stood,
    )

pub returns-in-Err-clause-kept : goal.returns-in-Err-clause-kept
returns-in-Err-clause-kept g c =
    λ trust.
    unless_known c.read_fault.result (g.M.Room.is_kept c.args.room.now → g.M.Room.is_kept c.args.room.now) (λ was. was)

pub returns-in-Ok-None-clause-ended : goal.returns-in-Ok-None-clause-ended
returns-in-Ok-None-clause-ended g c =
    λ none is. (rw c.in-Ok-None.field-0-is at c.in-Ok-None.ensures.read).says.1

pub returns-then-is_after-clause-ended : goal.returns-then-is_after-clause-ended
returns-then-is_after-clause-ended g c =
    λ none _. absurd (rw none at c.is_after.ensures.0 c.if-is_after.true)
