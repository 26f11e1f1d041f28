use Rattle.std.proofs.Common.{ap}
use Rattle.room_model.specs.Decisions.{answer_of}
use Rattle.room_model.proofs.CrewLaws.{crew_alike, mine_equal}
use Rattle.room_model.proofs.crew_laws.equal_vehicles_get_equal_answers.Goals as goal

pub returns-clause-answers : goal.returns-clause-answers
returns-clause-answers g c r s a at one two agree = ap answer_of (crew_alike c r s one two a at agree)

pub returns-clause-rows : goal.returns-clause-rows
returns-clause-rows g c r s a at one two same = mine_equal c a at r s one two same
