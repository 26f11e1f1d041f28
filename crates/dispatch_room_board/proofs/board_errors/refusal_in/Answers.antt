use Rattle.serde_json.specs.View.{view}
use Rattle.dispatch_room_board.proofs.Readings.{none_read, read_both}
use Rattle.dispatch_room_board.proofs.board_errors.refusal_in.Goals as goal

pub returns-in-None : goal.returns-in-None
returns-in-None c =
    none_read (view c.args.value.now) (rw c.in-None.is at (read_both c.zip.ensures c.member.ensures c.member-2.ensures))
