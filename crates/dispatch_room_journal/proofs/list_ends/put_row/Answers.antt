use Rattle.std.proofs.Common.{◌∙◌}
use Rattle.dispatch_room_journal.proofs.TextLemmas.{row_said}
use Rattle.dispatch_room_journal.proofs.list_ends.put_row.Goals as goal

pub returns-clause-put : goal.returns-clause-put
returns-clause-put g c =
    let body = c.as_slice.ensures.value ∙ c.row_of-body.ensures in
    (rw body at c.put_after.ensures.put)

pub returns-clause-says : goal.returns-clause-says
returns-clause-says g c = row_said c.args.line.now c.requires.line
