use Rattle.room_model.proofs.RefusedAgain.{only_number, report_answered_again}
use Rattle.room_model.proofs.repeat_laws.a_repeated_report_gets_its_first_answer.Goals as goal

pub returns-clause-refused : goal.returns-clause-refused
returns-clause-refused g c p at r there = only_number c p at r there

pub returns-clause-again : goal.returns-clause-again
returns-clause-again g c p at later r es order there = report_answered_again c p at r es order there later
