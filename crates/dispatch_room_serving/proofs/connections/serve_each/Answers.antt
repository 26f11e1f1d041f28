use Rattle.std.proofs.Common.{◌∙◌, ◌≡◌, ◌<◌, arith, length, refl, rules, sym, [], ◌∷◌, ◌++◌}
use Rattle.dispatch_room_serving.proofs.ConnectionLaws.{attended_more, ends_after, kept_ending}
use Rattle.dispatch_room_serving.proofs.ConnectionLaws.{served_none}
use Rattle.dispatch_room_serving.proofs.connections.serve_each.Goals as goal

pub loop-connection-init : goal.loop-connection-init
loop-connection-init g c = record {
  ready = c.requires.ready;
  served = served_none g.S.Store c.args.handler.now.setting _ _ _;
  prints = refl;
  none = λ none. none;
}

pub returns-in-Err-clause-served : goal.returns-in-Err-clause-served
returns-in-Err-clause-served g c =
    let before = c.loop-connection.invariant.served in
    let next = c.serve_next.ensures.attended in
    let within : length before.calls
    < c.args.part.now.limits.connections = omega (arith, before.counted, c.loop-connection-test.true) in
    record {
      calls = before.calls ++ next.call ∷ [];
      attended =
          attended_more g.S.Store c.args.handler.now.setting _ _ before.calls (next.call ∷ []) _ _ _ before.attended
          next.attended;
      ends =
          ends_after before.calls next.call c.args.part.now.limits.renews c.args.part.now.limits.connections
          c.in-Err.fault before.go_on
          within (sym c.in-Err.is ∙ next.ends);
      kept = kept_ending g.S.Store c.args.handler.now.setting _ _ next.call _ _ _ _ before next.attended;
    }

pub loop-connection-preserved : goal.loop-connection-preserved
loop-connection-preserved g c =
    record {
      ready = c.serve_next.ensures.ready;
      served = c.serve_next.ensures.attended.longer c.in_default.is _ _ c.loop-connection.invariant.served;
      prints = c.serve_next.ensures.prints ∙ c.loop-connection.invariant.prints;
      none = search rules;
    }

pub returns-clause-served : goal.returns-clause-served
returns-clause-served g c =
    let before = c.loop-connection.invariant.served in
    let all : length before.calls ≡ c.args.part.now.limits.connections =
    omega (arith, before.counted, c.loop-connection-test.false, c.loop-connection.auto._connection-end) in
    record {
      calls = before.calls;
      attended = before.attended;
      ends = (refl, omega (arith, all), λ renews. all, before.go_on);
      kept = before.kept;
    }
