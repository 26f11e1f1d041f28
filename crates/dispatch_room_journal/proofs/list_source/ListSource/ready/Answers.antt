use Rattle.std.proofs.Common.{arith}
use Rattle.std.specs.Prelude.{◌==◌}
use Rattle.dispatch_room_journal.specs.ReadSteps.{most_rows}
use Rattle.dispatch_room_journal.proofs.AdvanceLemmas.{failed_last}
use Rattle.dispatch_room_journal.proofs.list_source.ListSource.ready.Goals as goal

pub returns-clause-failed : goal.returns-clause-failed
returns-clause-failed g c =
    failed_last (g.R.Source.has_failed c.steps.self.reader) (g.R.Source.has_failed c.args.self.now.reader)
    (c.args.self.now.passed == most_rows) c.steps.self.passed
    (omega (arith, c.steps-test.false, c.steps.self.fits))
