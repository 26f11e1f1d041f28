use Rattle.std.proofs.Common.{[], refl, sym, ◌∙◌}
use Rattle.room_model.specs.RoomSlices.{room_of}
use Rattle.room_incident.proofs.ServedLaws.{all_ended}
use Rattle.room_incident.proofs.incident_closing.close.Goals as goal

pub returns-clause-ended : goal.returns-clause-ended
returns-clause-ended c =
    let slice = c.args.slice.now in
    let room = room_of [] slice.rows in
    all_ended slice.division c.args.number room (sym (c.is_attended.ensures room refl) ∙ c.if-is_attended.false)
