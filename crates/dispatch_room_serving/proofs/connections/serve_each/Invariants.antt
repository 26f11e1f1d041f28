use Rattle.std.specs.Prelude.{◌≡◌, None}
use Rattle.room_store.specs.StoredRoom.{IsReady}
use Rattle.dispatch_room_serving.specs.Connections.{HasServed}
use Rattle.dispatch_room_serving.proofs.connections.serve_each.Given as goal

abbrev pub invariant-loop-connection : goal.invariant-loop-connection
invariant-loop-connection g l = record {
  ready : IsReady g.S.Store l.room;
  served : HasServed g.S.Store l.handler.setting g.N.Observer.came g.N.Observer.response
      (record {
        heard = g.P.Callers.heard l.initial.callers;
        written = g.P.Callers.written l.initial.callers;
        stage = record {
          given = g.C.Clock.given l.initial.clock;
          kept = g.N.Observer.held l.initial.observer;
          has_failed = g.N.Observer.has_failed l.initial.observer;
          store = l.initial.room;
        };
      })
      (record {
        heard = g.P.Callers.heard l.callers;
        written = g.P.Callers.written l.callers;
        stage = record {
          given = g.C.Clock.given l.clock;
          kept = g.N.Observer.held l.observer;
          has_failed = g.N.Observer.has_failed l.observer;
          store = l.room;
        };
      })
      l._connection;
  prints : g.P.Callers.prints l.callers ≡ g.P.Callers.prints l.initial.callers;
  none : l.initial.part.place ≡ None → l.part.place ≡ None;
}
