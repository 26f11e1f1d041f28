use Rattle.std.proofs.Common.{refl, ◌∙◌}
use Rattle.room_incident.proofs.LinkLaws.{target_active, target_division, target_is, target_so}
use Rattle.room_incident.proofs.RowLaws.{owned_incidents}
use Rattle.room_incident.proofs.call_links.link_target.Goals as goal

pub returns-clause-target : goal.returns-clause-target
returns-clause-target c plan =
    c.nearest.ensures ∙ target_so _ _ _ _ _ refl (owned_incidents _ c.args.slice.now.rows c.args.slice.now.agrees)

pub returns-clause-nearest : goal.returns-clause-nearest
returns-clause-nearest c =
    let slice = c.args.slice.now in
    target_is slice.division c.args.place.now c.args.at slice.rows.incidents _ c.nearest.ensures
    (owned_incidents _ slice.rows slice.agrees)

pub returns-clause-active : goal.returns-clause-active
returns-clause-active c =
    let slice = c.args.slice.now in
    target_active slice.division c.args.place.now c.args.at slice.rows.incidents _ c.nearest.ensures
    (owned_incidents _ slice.rows slice.agrees)

pub returns-clause-division : goal.returns-clause-division
returns-clause-division c =
    let slice = c.args.slice.now in
    target_division slice.division c.args.place.now c.args.at slice.rows.incidents _ c.nearest.ensures
    (owned_incidents _ slice.rows slice.agrees)
