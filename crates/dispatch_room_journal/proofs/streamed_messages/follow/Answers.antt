use Rattle.std.proofs.Common.{◌∙◌, refl, sym, ap, drop, false}
use Rattle.dispatch_room_journal.specs.Entries.{answer}
use Rattle.dispatch_room_journal.specs.ReplayFaults.{broken}
use Rattle.dispatch_room_journal.specs.JournalRecords.{status_in}
use Rattle.dispatch_room_journal.proofs.NextEntryLemmas.{layout_of_mark, at_end, no_status_front}
use Rattle.dispatch_room_journal.proofs.NextEntryLemmas.{no_status_end}
use Rattle.dispatch_room_journal.proofs.FaultLemmas.{not_both, read_explains, read_due}
use Rattle.dispatch_room_journal.proofs.streamed_messages.follow.Goals as goal

pub returns-in-Err : goal.returns-in-Err
returns-in-Err g c =
    let read = c.in-Err.ensures.read in
    rw c.read_fault.ensures (
      λ p response text known. (
        text,
        refl,
        read_explains false ⊥ ⊥ _ _ c.in-Err.fault text text (read.first text known)
            (λ b. broken (λ never. absurd (cc)) b),
      ),
      read_due _ _ _ _ c.in-Err.fault read.says,
    )

pub returns-else-has_status : goal.returns-else-has_status
returns-else-has_status g c =
    let read = rw c.in-Ok-Some.field-0-is at c.in-Ok-Some.ensures.read in (
      λ p response text known.
          let first = read.first text known in
          let front = layout_of_mark text c.in-Ok-Some.next first.0 (answer c.in-Answer.status) first.1 tt
          c.in-Answer.is in (
            text,
            refl,
            (
              p,
              c.in-Answer.status,
              drop c.in-Ok-Some.next.end text,
              refl,
              front.begins,
              λ same. not_both _ c.if-has_status.false (c.has_status.ensures.1 (sym (ap status_in response) ∙ same)),
            ),
          ),
      (read.says.1, refl),
    )

pub returns-in-Ok-None : goal.returns-in-Ok-None
returns-in-Ok-None g c =
    let read = rw c.in-Ok-None.field-0-is at c.in-Ok-None.ensures.read in
    (read.same, read.says.3, no_status_end _ (at_end _ _ read.says.0 read.says.2))

pub returns-in_default : goal.returns-in_default
returns-in_default g c =
    let read = rw c.in-Ok-Some.field-0-is at c.in-Ok-Some.ensures.read in (
      read.same,
      read.says.1,
      no_status_front _ _ c.in-Ok-Some.next read.says.0.0 read.says.0.1 (λ status. c.in_default.not-Answer status),
    )
