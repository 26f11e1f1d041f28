use Rattle.std.proofs.Common.{rules, ◌∙◌}
use Rattle.room_model.specs.RoomSlices.{room_of}
use Rattle.room_alloc.proofs.ProposedLaws.{all_proposals, for_incident}
use Rattle.room_alloc.proofs.proposals.propose.Goals as goal

pub returns-clause-decides : goal.returns-clause-decides
returns-clause-decides c plan =
    let slice = c.args.slice.now in
    all_proposals slice.division c.args.number c.args.at plan slice.rows c.in_ok-incident.incident.now
    (c.in_ok-incident.ensures.decided plan) ∙ search rules

pub returns-clause-first : goal.returns-clause-first
returns-clause-first c plan i there =
    let slice = c.args.slice.now in
    for_incident slice.division c.args.number c.args.at (room_of plan slice.rows) (c.lemma_in_order.ensures plan) i
    c.show.result there (returns-clause-decides c plan)
