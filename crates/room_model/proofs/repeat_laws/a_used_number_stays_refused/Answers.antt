use Rattle.room_model.proofs.RefusedAgain.{reused_again, serial_again}
use Rattle.room_model.proofs.repeat_laws.a_used_number_stays_refused.Goals as goal

pub returns-clause-report : goal.returns-clause-report
returns-clause-report g c p at later r es order answered = reused_again c p at r es order answered later

pub returns-clause-call : goal.returns-clause-call
returns-clause-call g p f at later r es order answered = serial_again p f at r es order answered later
