use Rattle.std.proofs.Common.{ap, subst, sym, ◌∙◌, ◌≤◌}
use Rattle.room_place.specs.Choice.{Among}
use Rattle.room_types.specs.Needs.{need_of}
use Rattle.room_types.specs.declared.changes.Change.TheVariants.{PutIncident}
use Rattle.room_types.specs.declared.decisions.Decision.{Decision}
use Rattle.room_types.specs.declared.tables.Incident.{Incident}
use Rattle.room_model.specs.Queries.{served}
use Rattle.room_model.specs.RoomSlices.{room_of}
use Rattle.room_incident.proofs.PutLaws.{one_put}
use Rattle.room_incident.proofs.ServedLaws.{not_below}
use Rattle.room_incident.proofs.incident_needs.change_needs.Goals as goal

pub returns-clause-served : goal.returns-clause-served
returns-clause-served c i plan k among =
    let slice = c.args.slice.now in
    subst (λ (y : Incident). served slice.division c.args.number k (room_of plan slice.rows) ≤ need_of y.needs k)
    (one_put i _ (subst (Among (PutIncident i)) (ap (λ (y : Decision). y.changes) c.done.ensures) among))
    (not_below c.args.needs (λ j. served slice.division c.args.number j (room_of plan slice.rows))
    (sym (c.is_below.ensures plan) ∙ c.if-is_below.false) k)
