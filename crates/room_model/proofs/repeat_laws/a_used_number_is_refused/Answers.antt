use Rattle.room_model.proofs.RepeatLaws.{number_used, serial_used}
use Rattle.room_model.proofs.repeat_laws.a_used_number_is_refused.Goals as goal

pub returns-clause-report : goal.returns-clause-report
returns-clause-report h c p q at later r es order ok number other =
    number_used c p at r es order ok q later number other

pub returns-clause-call : goal.returns-clause-call
returns-clause-call h p f g at later r es order ok serial other = serial_used p f at r es order ok g later serial other
