use Rattle.std.proofs.Common.{sym}
use Rattle.dispatch_room_changes.proofs.kept_enrolments.import_in.Goals as goal

pub returns-clause-imported : goal.returns-clause-imported
returns-clause-imported g c = record {
  opened = c.in_ok-room.room;
  closed = c.keep_and_enrol-done.new.room;
  opens = c.in_ok-room.ensures.room;
  is = c.keep_and_enrol-done.ensures;
  conn = sym c.close.ensures;
}
