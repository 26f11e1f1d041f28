use Rattle.std.proofs.Common.{ap, sym}
use Rattle.dispatch_room_sockets.proofs.RoundLaws.{round_of}
use Rattle.dispatch_room_sockets.proofs.waiting_callers.Waiting.wait.Goals as goal

pub returns-in-Some : goal.returns-in-Some
returns-in-Some g c = record {
  before = c.now-now.result;
  shown = c.now-now.ensures;
  in_time = rw c.look.ensures.closing_connections c.throw_away.ensures.in_time;
  rest = rw c.look.ensures.closing_connections c.throw_away.ensures.rest;
  after = c.wait.result;
  noted = rw (c.look.ensures.waits, sym c.throw_away.ensures.waits) c.wait.ensures.waits;
  round =
      rw c.in-Some.is
      (round_of _ _ _ _ c.look.ensures.round
      (rw (ap (λ s. s.came) c.wait.ensures.same, ap (λ s. s.heard) c.wait.ensures.same)
      c.throw_away.ensures.same));
}

pub returns-in_default : goal.returns-in_default
returns-in_default g c = record {
  before = c.now-now.result;
  shown = c.now-now.ensures;
  in_time = c.throw_away.ensures.in_time;
  rest = c.throw_away.ensures.rest;
  after = c.wait.result;
  noted = rw (sym c.throw_away.ensures.waits) c.wait.ensures.waits;
  round =
      rw c.in_default.is
      (rw (ap (λ s. s.came) c.wait.ensures.same, ap (λ s. s.heard) c.wait.ensures.same)
      c.throw_away.ensures.same);
}
