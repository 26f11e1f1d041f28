use Rattle.std.proofs.Common.{◌≡◌, ◌≤◌, false, ◌+◌, ◌-◌, ◌*◌, length, List, ℕ}
use Rattle.std.specs.Io.KnownBytes.{prepend_known}
use Rattle.room_http_messages.specs.declared.limits.TheConstants.{INBOX_ROOM}
use Rattle.room_http_messages.specs.Streams.{CountsBy}
use Rattle.room_http.specs.Dialogues.{Stays, Timed}
use Rattle.room_http.proofs.KeptLemmas.{Noted}
use Rattle.room_http.proofs.ServeLemmas.{Going}
use Rattle.room_http.proofs.session.serve.Given as goal

abbrev pub invariant-messages : goal.invariant-messages
invariant-messages g l = record {
  run : (outs : List Timed) × (answers : List (List ℕ)) × Going g.M.Room.step l.handler.setting
      (record {
        left = g.R.Source.left l.initial.connection.reader;
        reads = g.R.Source.reads l.initial.connection.reader;
        held = g.W.Sink.held l.initial.connection.writer;
        given = g.C.Clock.given l.initial.clock;
      })
      (prepend_known l.inbox (g.R.Source.left l.connection.reader)) (g.W.Sink.held l.connection.writer)
      (g.C.Clock.given l.clock)
      (g.M.Room.is_trusted l.room) (g.M.Room.stands l.initial.room)
      (Stays (g.M.Room.is_kept l.initial.room) (g.M.Room.stands l.room) (g.M.Room.leaves_one_of l.room)) outs
      × Noted g.N.Observer.came g.N.Observer.response g.M.Room.step l.handler.setting
      (g.R.Source.left l.initial.connection.reader)
      (record {
        given = g.C.Clock.given l.initial.clock;
        kept = g.N.Observer.held l.initial.observer;
        held = g.W.Sink.held l.initial.connection.writer;
      })
      (prepend_known l.inbox (g.R.Source.left l.connection.reader))
      (record {
        given = g.C.Clock.given l.clock;
        kept = g.N.Observer.held l.observer;
        held = g.W.Sink.held l.connection.writer;
      })
      (g.M.Room.is_trusted l.room) (g.M.Room.stands l.initial.room) (g.M.Room.stands l.room) outs answers;
  trusted : g.M.Room.is_trusted l.room → g.M.Room.is_trusted l.initial.room;
  kept : g.M.Room.is_trusted l.room → g.M.Room.is_kept l.initial.room → g.M.Room.is_kept l.room;
  spent : l.left ≤ l.budget;
  reads : CountsBy (l.budget - l.left) (g.R.Source.reads l.initial.connection.reader)
      (g.R.Source.reads l.connection.reader);
  reader : g.R.Source.has_failed l.connection.reader ≡ false;
  writer : g.W.Sink.has_failed l.connection.writer ≡ false;
  ready : g.M.Room.is_ready l.room;
  zone : g.M.Room.zone l.room ≡ g.M.Room.zone l.initial.room;
  unfailed : g.N.Observer.has_failed l.observer ≡ g.N.Observer.has_failed l.initial.observer;
}

abbrev pub decreases-messages : goal.decreases-messages
decreases-messages g l = length l.inbox + INBOX_ROOM * l.left
