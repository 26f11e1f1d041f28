use Rattle.std.proofs.Common.{length, refl, ◌-◌, ◌∙◌, ◌≡◌}
use Rattle.room_types.specs.declared.codes.Kind.TheVariants.{Ambulance, Car, Support}
use Rattle.room_model.specs.Incidents.{lacking}
use Rattle.room_model.specs.Queries.{calls_of, served}
use Rattle.room_model.specs.RoomSlices.{room_of}
use Rattle.room_incident.specs.Tallies.{call_numbers, served_numbers, times}
use Rattle.room_incident.proofs.TallyLaws.{at_place, calls_tallied, turns_tallied}
use Rattle.room_incident.proofs.incident_list.incident_line.Goals as goal

pub returns : goal.returns
unfolding calls_of served
returns c plan =
    let d = c.args.slice.now.division in
    let s = c.args.slice.now.rows in
    let i = c.args.incident.now in
    let room = room_of plan s in
    let t = c.requires.tallies in
    let own = c.requires.division in
    let one : c.lacking.result ≡ lacking d i room Ambulance =
    c.lacking.ensures
    ∙ (λ j.
    c.of.ensures j
    - (c.index.ensures
    ∙ (at_place (times d (served_numbers d Ambulance s.turns)) _ s.incidents c.args.at _ i t.ambulances c.requires.place
    c.requires.incident ∙ turns_tallied d Ambulance i s.turns own)) j) in
    let two : c.lacking-2.result ≡ lacking d i room Car =
    c.lacking-2.ensures
    ∙ (λ j.
    c.of-2.ensures j
    - (c.index-2.ensures
    ∙ (at_place (times d (served_numbers d Car s.turns)) _ s.incidents c.args.at _ i t.cars c.requires.place
    c.requires.incident ∙ turns_tallied d Car i s.turns own)) j) in
    let three : c.lacking-3.result ≡ lacking d i room Support =
    c.lacking-3.ensures
    ∙ (λ j.
    c.of-3.ensures j
    - (c.index-3.ensures
    ∙ (at_place (times d (served_numbers d Support s.turns)) _ s.incidents c.args.at _ i t.support c.requires.place
    c.requires.incident ∙ turns_tallied d Support i s.turns own)) j) in
    let calls : c.index-4.result.now ≡ length (calls_of d i.number room) =
    c.index-4.ensures
    ∙ (at_place (times d (call_numbers d s.calls)) _ s.incidents c.args.at _ i t.calls c.requires.place
    c.requires.incident ∙ calls_tallied d i s.calls own) in
    rw (one, two, three, calls) refl
