use Rattle.dispatch_room_sockets.proofs.waiting_callers.Waiting.longest_pause.Goals as goal

pub returns-in-Some : goal.returns-in-Some
returns-in-Some g c = record {
  now = c.now.result;
  shown = c.now.ensures;
  least = rw c.in-Some.is c.pause.ensures.least;
}

pub returns-in-None : goal.returns-in-None
returns-in-None g c = record {
  now = c.now.result;
  shown = c.now.ensures;
  least = rw c.in-None.is c.from_secs.ensures;
}
