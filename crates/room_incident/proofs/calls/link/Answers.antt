use Rattle.std.proofs.Common.{ap}
use Rattle.room_types.specs.declared.decisions.Decision.{Decision}
use Rattle.room_incident.proofs.CallLaws.{linked_covers}
use Rattle.room_incident.proofs.calls.link.Goals as goal

pub returns-clause-covers : goal.returns-clause-covers
returns-clause-covers c =
    linked_covers c.args.division c.args.new.now c.args.incident.now _ _ _ c.requires.active c.requires.division
    c.with_call.ensures c.call_row.ensures (ap (λ (x : Decision). x.changes) c.with_changes.ensures)
