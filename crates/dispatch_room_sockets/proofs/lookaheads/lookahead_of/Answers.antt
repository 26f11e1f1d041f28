use Rattle.std.proofs.Common.{inr}
use Rattle.dispatch_room_sockets.proofs.LookaheadLaws.{is_part}
use Rattle.dispatch_room_sockets.proofs.lookaheads.lookahead_of.Goals as goal

pub returns-in-Needs : goal.returns-in-Needs
returns-in-Needs c = inr (c.if-has_ended-2.true, is_part c.args.bytes.now _ _ c.look_at.ensures c.in-Needs.is)

pub returns-in-Needs-2 : goal.returns-in-Needs-2
returns-in-Needs-2 c = (c.if-has_ended-2.false, is_part c.args.bytes.now _ _ c.look_at.ensures c.in-Needs-2.is)
