use Rattle.std.proofs.Common.{◌≡◌, arith, min, sym, ◌-◌}
use Rattle.std.specs.Duration.{as_nanos}
use Rattle.dispatch_room_sockets.specs.Pauses.{leaver_limit}
use Rattle.dispatch_room_sockets.proofs.PauseLaws.{last_stands, leaver_stands, no_leavers}
use Rattle.dispatch_room_sockets.proofs.PauseLaws.{no_waiters, second_stands, unwatched_stands}
use Rattle.dispatch_room_sockets.proofs.PauseLaws.{watched_stands}
use Rattle.dispatch_room_sockets.proofs.waiting_callers.Waiting.pause.Goals as goal

pub loop-kept-init : goal.loop-kept-init
loop-kept-init g c = record {
  bound = omega (arith, c.from_secs-pause.ensures);
  least =
      second_stands c.args.now _ _ _ _ _ c.from_secs-pause.ensures
      c.into_iter-kept-iterator.ensures.into_iter_gives.0;
}

pub loop-kept-preserved-then-not-is_watched : goal.loop-kept-preserved-then-not-is_watched
loop-kept-preserved-then-not-is_watched g c =
    let i = c.loop-kept.invariant in
    let left = c.saturating_sub.ensures in
    let lesser : as_nanos c.earlier-pause-then-not-is_watched.result
    ≡ min (min (as_nanos c.loop-kept.pause) (as_nanos c.in-Some.kept.now.until - as_nanos c.args.now)) 2000000
    = rw (sym left, sym c.earlier-pause.ensures, sym c.from_millis.ensures)
    c.earlier-pause-then-not-is_watched.ensures in
    record {
      bound = omega (arith, i.bound, lesser);
      least =
          unwatched_stands c.args.now _ c.in-Some.kept.now _ _ _ _ _ _ c.in-Some.ensures.steps
          (sym c.if-not-is_watched.ensures) lesser i.least;
    }

pub loop-kept-preserved : goal.loop-kept-preserved
loop-kept-preserved g c =
    let i = c.loop-kept.invariant in
    let lesser : as_nanos c.earlier-pause.result
    ≡ min (as_nanos c.loop-kept.pause) (as_nanos c.in-Some.kept.now.until - as_nanos c.args.now)
    = rw (sym c.saturating_sub.ensures) c.earlier-pause.ensures in
    record {
      bound = omega (arith, i.bound, lesser);
      least =
          watched_stands c.args.now _ c.in-Some.kept.now _ _ _ _ _ _ c.in-Some.ensures.steps
          (sym c.if-not-is_watched.ensures) lesser i.least;
    }

pub loop-leaver-init : goal.loop-leaver-init
loop-leaver-init g c =
    let i = c.loop-kept.invariant in
    record {
      bound = i.bound;
      least =
          no_waiters c.args.now _ _ _ _ _ _ c.in-None.ensures.steps.0
          c.into_iter-leaver-iterator.ensures.into_iter_gives.0 i.least;
    }

pub loop-leaver-preserved : goal.loop-leaver-preserved
loop-leaver-preserved g c =
    let i = c.loop-leaver.invariant in
    let lesser : as_nanos c.earlier-pause-in-loop-leaver.result
    ≡ min (as_nanos c.loop-leaver.pause) (leaver_limit c.args.now c.in-Some-leaver.leaver.now)
    = rw (sym c.next-in-loop-leaver-2.ensures, sym c.saturating_sub-in-loop-leaver.ensures)
    c.earlier-pause-in-loop-leaver.ensures in
    record {
      bound = omega (arith, i.bound, lesser);
      least =
          leaver_stands c.args.now c.in-Some-leaver.leaver.now _ _ _ _ _ c.in-Some-leaver.ensures.steps lesser
          i.least;
    }

pub returns : goal.returns
returns g c =
    let i = c.loop-leaver.invariant in
    record {
      bound = i.bound;
      least = last_stands _ _ (no_leavers c.args.now _ _ _ c.in-None-leaver.ensures.steps.0 i.least);
    }
