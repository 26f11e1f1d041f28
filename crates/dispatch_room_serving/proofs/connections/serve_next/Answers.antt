use Rattle.std.proofs.Common.{refl, None, Some}
use Rattle.dispatch_room_serving.specs.Connections.{Conversation, stage_after}
use Rattle.dispatch_room_serving.proofs.ConnectionLaws.{attended_nothing, attended_one}
use Rattle.dispatch_room_serving.proofs.ConnectionLaws.{attends_next}
use Rattle.dispatch_room_serving.proofs.connections.serve_next.Goals as goal

pub returns-in_default-clause-attended : goal.returns-in_default-clause-attended
returns-in_default-clause-attended g c =
    attends_next g.S.Store c.args.handler.now.setting _ _ None _ _ _
    (attended_nothing g.S.Store c.args.handler.now.setting _ _ _ _ c.in_default.ensures.heard
    c.in_default.ensures.written refl)
    refl

pub returns-clause-attended : goal.returns-clause-attended
returns-clause-attended g c =
    let dialogue : Conversation g.row.S.Denot = record {
      before = record {
        left = g.P.Reader.Source.left c.in-Some.reader;
        reads = g.P.Reader.Source.reads c.in-Some.reader;
        held = g.P.Writer.Sink.held c.in-Some.writer;
        given = g.C.Clock.given c.args.clock.now;
      };
      after = record {
        reads = g.P.Reader.Source.reads c.serve-end.new.connection.reader;
        held = g.P.Writer.Sink.held c.serve-end.new.connection.writer;
        given = g.C.Clock.given c.serve-end.new.clock;
        read_failed = g.P.Reader.Source.has_failed c.serve-end.new.connection.reader;
        read_ended = g.P.Reader.Source.has_ended c.serve-end.new.connection.reader;
        write_failed = g.P.Writer.Sink.has_failed c.serve-end.new.connection.writer;
        was_none = g.C.Clock.was_none c.serve-end.new.clock;
        observer_failed = g.N.Observer.has_failed c.serve-end.new.observer;
      };
      course = c.serve-end.ensures.run.course;
      unread = g.P.Reader.Source.left c.serve-end.new.connection.reader;
      end = c.serve-end.result;
      from = c.args.room.now;
      store = c.serve-end.new.room;
      kept = g.N.Observer.held c.args.observer.now;
      keeps = g.N.Observer.held c.serve-end.new.observer;
      had_failed = g.N.Observer.has_failed c.args.observer.now;
    } in
    attends_next g.S.Store c.args.handler.now.setting _ _ (Some dialogue) _ _ _
    (attended_one g.S.Store c.args.handler.now.setting _ _ dialogue _ _
    (rw c.done.ensures.heard c.in-Some.ensures.heard)
    (rw c.in-Some.ensures.written at c.done.ensures.written) (refl {a = stage_after dialogue})
    (record {
      begins = refl;
      reads = c.serve-end.ensures.reads;
      dialogue = c.serve-end.ensures.run.dialogue;
      none_missed = c.serve-end.ensures.none_missed;
      observed = c.serve-end.ensures.run.observed;
      failed = c.serve-end.ensures.failed;
      same_zone = c.serve-end.ensures.zone;
      trusted = c.serve-end.ensures.trusted;
      kept = c.serve-end.ensures.kept;
    })
    c.serve-end.ensures.trusted (c.serve-end.ensures.run.promised refl))
    (rw c.is_sound.ensures.value at c.goes_on.ensures)
