use Rattle.std.proofs.Common.{ap}
use Rattle.room_model.proofs.RefusalLaws.{refusals_of_room, wrong_role}
use Rattle.room_model.specs.Decisions.{answer_of}
use Rattle.room_model.proofs.refusal_laws.a_refusal_is_of_the_room.Goals as goal

pub returns-clause-own : goal.returns-clause-own
returns-clause-own g e r own = refusals_of_room e r own

pub returns-clause-others : goal.returns-clause-others
returns-clause-others g e r other = ap answer_of (wrong_role r e.who e.ask e.at other)
