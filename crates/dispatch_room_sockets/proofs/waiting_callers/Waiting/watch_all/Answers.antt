use Rattle.std.proofs.Common.{◌∙◌, refl, sym, true≢false}
use Rattle.dispatch_room_sockets.proofs.waiting_callers.Waiting.watch_all.Goals as goal

pub returns-then-not-are_watched : goal.returns-then-not-are_watched
returns-then-not-are_watched g c = record {
  same = λ all. absurd (true≢false (sym (c.if-not-are_watched.ensures ∙ all)));
  waited = λ _. (_, refl, c.wait.ensures);
}

pub returns-else-not-are_watched : goal.returns-else-not-are_watched
returns-else-not-are_watched g c = record {
  same = λ _. refl;
  waited = λ some. absurd (true≢false (c.if-not-are_watched.ensures ∙ some));
}
