use Rattle.std.proofs.Common.{◌≡◌}
use Rattle.std.specs.List.{list_all}
use Rattle.std.specs.VecDeque.Iter.{deque_iter_rest}
use Rattle.dispatch_room_sockets.proofs.waiting_callers.Waiting.are_watched.Given as goal

abbrev pub invariant-loop-kept : goal.invariant-loop-kept
invariant-loop-kept g l =
    let watched = g.E.Entrance.is_watched l.self.entrance in
    record {
      all : list_all (λ k. watched k.caller) (deque_iter_rest l.kept-iterator)
          ≡ list_all (λ k. watched k.caller) l.self.line.items;
    }
