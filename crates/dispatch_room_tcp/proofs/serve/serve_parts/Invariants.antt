use Rattle.std.specs.Prelude.{◌≡◌, ◌≤◌, ◌+◌, false, is_some, length}
use Rattle.dispatch_room_serving.specs.Callers.{Prints}
use Rattle.dispatch_room_tcp.specs.Hosts.{Effect}
use Rattle.dispatch_room_tcp.specs.ServedFiles.{manner_of, limits_of, watch_of}
use Rattle.dispatch_room_tcp.specs.ServedParts.{EndsPart, IsPart, Standing}
use Rattle.dispatch_room_tcp.proofs.serve.serve_parts.Given as goal

-- wherever the first part began
abbrev pub invariant-loop-part : goal.invariant-loop-part
invariant-loop-part g l = record {
  outside : l.conn.in_transaction ≡ false;
  listed : l.has_journal ≡ is_some l.fn.list;
  served : (first : Standing g.row.S.Denot (Effect _))
      → first.done ≡ g.M.Machine.done l.initial.machine
      → IsPart g.S.Store
      (watch_of g.M.File.Write.contents (is_some l.fn.list) l.run.service)
      (limits_of l.run.service) l.fn.list first.interval
      (record {
        conn = l.initial.conn;
        heard = g.P.Callers.heard l.initial.callers;
        written = g.P.Callers.written l.initial.callers;
        given = g.C.Clock.given l.initial.clock;
      })
      l.initial.done
      → (part : EndsPart g.S.Store
      (manner_of g.M.File.Write.contents l.run.service l.fn.list) first
      (record {
        interval = record {
          conn = l.conn;
          heard = g.P.Callers.heard l.callers;
          written = g.P.Callers.written l.callers;
          given = g.C.Clock.given l.clock;
        };
        done = g.M.Machine.done l.machine;
      })
      l.done) × (length part.before.earlier + 1 ≡ l._part);
  few : l._part ≤ 18446744073709551615;
  prints : Prints (g.P.Callers.prints l.fn.callers) (g.P.Callers.prints l.callers) l.done;
}
