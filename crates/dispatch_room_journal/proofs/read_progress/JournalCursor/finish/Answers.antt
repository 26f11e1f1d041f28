use Rattle.std.proofs.Common.{ap, arith, length}
use Rattle.dispatch_room_journal.proofs.ReadStepLemmas.{none_left}
use Rattle.dispatch_room_journal.proofs.read_progress.JournalCursor.finish.Goals as goal

pub returns-then-len-lt1-clause-step : goal.returns-then-len-lt1-clause-step
returns-then-len-lt1-clause-step c =
    rw c.requires.none
    (none_left c.args.self.now.mode c.args.self.now.inbox
    (omega (arith, ap length c.bytes-len.ensures.value, c.if-len-lt1.true)))
