use Rattle.std.proofs.Common.{◌∙◌, sym, ap}
use Rattle.dispatch_room_journal.specs.Chains.{is_whole_line}
use Rattle.dispatch_room_journal.proofs.TextLemmas.{cut_line, lacks_line}
use Rattle.dispatch_room_journal.proofs.record_fronts.is_whole_line.Goals as goal

pub returns-in-Some : goal.returns-in-Some
returns-in-Some c =
    let cut = c.in-Some.ensures in
    c.is_empty.ensures
    ∙ sym (ap is_whole_line cut.1 ∙ cut_line c.in-Some.field-0-0.now c.in-Some.rest.now cut.0)

pub returns-in-None : goal.returns-in-None
returns-in-None c = sym (lacks_line c.args.bytes.now c.in-None.ensures)
