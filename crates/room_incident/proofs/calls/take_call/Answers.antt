use Rattle.std.proofs.Common.{Option, ap, sym, ◌∙◌}
use Rattle.room_types.specs.declared.tables.Incident.{Incident}
use Rattle.room_model.specs.Calls.{call_in, call_taken}
use Rattle.room_model.specs.Queries.{last_number}
use Rattle.room_model.specs.RoomSlices.{room_of}
use Rattle.room_incident.proofs.calls.take_call.Goals as goal

pub returns-in-Some-clause-decides : goal.returns-in-Some-clause-decides
unfolding call_in
returns-in-Some-clause-decides c plan =
    let slice = c.args.slice.now in
    let last = last_number slice.division (room_of plan slice.rows) in
    sym (c.link.ensures.decides last)
    ∙ ap (λ (o : Option Incident). call_taken slice.division c.args.new.now o last) (c.in-Some.ensures.target plan)

pub returns-in-None-clause-decides : goal.returns-in-None-clause-decides
unfolding call_in
returns-in-None-clause-decides c plan =
    let slice = c.args.slice.now in
    let last = last_number slice.division (room_of plan slice.rows) in
    c.open_incident.ensures.decides plan
    ∙ ap (λ (o : Option Incident). call_taken slice.division c.args.new.now o last) (c.in-None.ensures.target plan)
