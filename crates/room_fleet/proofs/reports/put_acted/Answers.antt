use Rattle.std.proofs.Common.{◌∙◌}
use Rattle.room_fleet.proofs.ReportLaws.{acted_so}
use Rattle.room_fleet.proofs.reports.put_acted.Goals as goal

pub returns : goal.returns
returns c press at acting same =
    acted_so c.args.before.now c.args.after.now press at _ _ acting same (c.few.ensures ∙ c.changes_acted.ensures)
    c.answer_of.ensures
