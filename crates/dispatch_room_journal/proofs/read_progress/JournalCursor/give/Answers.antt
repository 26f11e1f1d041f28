use Rattle.std.proofs.Common.{◌∙◌, ◌-◌, ◌++◌, ◌≤◌, sym, ap, arith, drop, take, rules}
use Rattle.std.proofs.lemmas.List.{take_at}
use Rattle.dispatch_room_journal.specs.ReadSteps.{left_of}
use Rattle.dispatch_room_journal.proofs.ReadStepLemmas.{given}
use Rattle.dispatch_room_journal.proofs.read_progress.JournalCursor.give.Goals as goal

pub returns-clause-given : goal.returns-clause-given
returns-clause-given c = λ more.
    let cursor = c.args.self.now in
    let n = c.min-count.result in
    let fits : n ≤ cursor.vouched = omega (arith, c.min-count.ensures) in
    let piece = take_at c.copy_from_slice.new.self _ n (search rules) ∙ c.copy_from_slice.ensures.after
    ∙ ap (take n) c.bytes.ensures.value in
    rw c.remove.ensures
    (given cursor.mode cursor.vouched n cursor.inbox more fits cursor.fits
    ∙ ap (λ t. t ++ left_of cursor.mode (cursor.vouched - n) (drop n cursor.inbox ++ more)) (sym piece))
