use Rattle.std.proofs.Common.{ap}
use Rattle.room_types.specs.declared.decisions.Decision.{Decision}
use Rattle.room_incident.proofs.CallLaws.{opened_covers}
use Rattle.room_incident.proofs.calls.open_incident.Goals as goal

pub returns-clause-covers : goal.returns-clause-covers
returns-clause-covers c =
    opened_covers c.args.slice.now.division _ c.args.new.now _ _ _ _ c.new_incident.ensures c.call_row.ensures
    (ap (λ (x : Decision). x.changes) c.with_changes.ensures)
