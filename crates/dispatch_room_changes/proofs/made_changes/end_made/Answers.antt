use Rattle.std.proofs.Common.{sym}
use Rattle.dispatch_room_changes.proofs.made_changes.end_made.Goals as goal

pub returns : goal.returns
returns g c = record { closed = c.end_kept-done.new.room; ends = c.end_kept-done.ensures; conn = sym c.close.ensures }
