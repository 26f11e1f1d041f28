use Rattle.dispatch_room_journal.proofs.FaultLemmas.{look_none, longer_none}
use Rattle.dispatch_room_journal.proofs.played_message.message_in.Goals as goal

pub returns-in_default : goal.returns-in_default
returns-in_default c = look_none _ c.look_at.result c.look_at.ensures c.in_default.not-Whole

pub returns-then-layout-bytes : goal.returns-then-layout-bytes
returns-then-layout-bytes c = longer_none _ c.in-Whole.layout c.in-Whole.ensures c.if-layout-bytes.true
