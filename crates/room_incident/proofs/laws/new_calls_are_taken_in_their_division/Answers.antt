use Rattle.room_incident.proofs.CallLaws.{taken_in}
use Rattle.room_incident.proofs.laws.new_calls_are_taken_in_their_division.Goals as goal

pub returns : goal.returns
returns c = taken_in
