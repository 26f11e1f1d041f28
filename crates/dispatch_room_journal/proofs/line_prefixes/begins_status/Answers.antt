use Rattle.dispatch_room_journal.proofs.PartLemmas.{status_part, status_begun}
use Rattle.dispatch_room_journal.proofs.line_prefixes.begins_status.Goals as goal

pub returns : goal.returns
returns c =
    let begun = c.begins_number.ensures in
    (λ is. status_part c.args.bytes.now (begun.0 is), λ has. begun.1 (status_begun c.args.bytes.now has))
