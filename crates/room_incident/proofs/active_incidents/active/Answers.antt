use Rattle.room_incident.proofs.RowLaws.{found_division, found_number}
use Rattle.room_incident.proofs.active_incidents.active.Goals as goal

pub returns-in-Some-clause-division : goal.returns-in-Some-clause-division
returns-in-Some-clause-division c = found_division c.args.slice.now.rows.incidents _ c.args.number _ c.in-Some.ensures

pub returns-in-Some-clause-number : goal.returns-in-Some-clause-number
returns-in-Some-clause-number c =
    found_number c.args.slice.now.rows.incidents c.args.slice.now.division _ _ c.in-Some.ensures
