use Rattle.std.proofs.Common.{OnOk, length, true, ◌+◌, ◌≡◌}
use Rattle.room_http.specs.Settings.{IsSetting}
use Rattle.room_store.specs.StoredRoom.{IsReady}
use Rattle.dispatch_room_lists.specs.ReplayedLegs.{EndsLeg, ReadsAll, StandsBehind, begins_leg}
use Rattle.room_tables_schema.specs.FileConnections.{IsClean}
use Rattle.dispatch_room_lists.proofs.replayed_segments.replay_legs.Given as goal

abbrev pub invariant-loop-segment : goal.invariant-loop-segment
invariant-loop-segment g l = record {
  same_reference : l.out.output.ghost_name ≡ l.fn.out.output.ghost_name;
  ready : IsReady g.S.Store l.stage.room;
  set : IsSetting l.stage.room.plan.zone l.course.replay.now.history l.stage.setting;
  trusted : IsClean g.S.Store l.stage.room.conn → IsClean g.S.Store l.fn.first.room.conn;
  segments : EndsLeg g.S.Store l.course.replay.now
      (StandsBehind g.L.Source.left g.L.Source.has_ended g.L.Segments.takes l.course.replay.now)
      (begins_leg l.fn.first.room l.fn.first.setting (g.L.Source.left l.fn.list)
      (g.O.Write.contents l.fn.out.output.now))
      l.stage.room (g.O.Write.contents l.out.output.now)
      (g.L.Source.has_failed l.list) l.out.failed l.before l.came;
  read : ReadsAll l.course.replay.now → OnOk l.came (g.L.Source.has_ended l.list ≡ true);
  many : length segments.earlier + 1 ≡ l._segment;
}
