use Rattle.std.proofs.Common.{◌∙◌, refl, sym, true≢false}
use Rattle.dispatch_room_sockets.proofs.waiting_callers.Waiting.look_around.Goals as goal

pub returns-then-is_empty : goal.returns-then-is_empty
returns-then-is_empty g c = record {
  mid = c.watch_all.new.self;
  watched = c.watch_all.ensures;
  waited = λ _. (c.longest_pause-pause.result, c.longest_pause-pause.ensures, c.wait.ensures);
  same = λ some. absurd (true≢false (c.if-is_empty.ensures ∙ some));
}

pub returns-else-is_empty : goal.returns-else-is_empty
returns-else-is_empty g c = record {
  mid = c.watch_all.new.self;
  watched = c.watch_all.ensures;
  waited = λ none. absurd (true≢false (sym (c.if-is_empty.ensures ∙ none)));
  same = λ _. refl;
}
