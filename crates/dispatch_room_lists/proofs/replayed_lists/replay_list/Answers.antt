use Rattle.std.proofs.Common.{inr, refl}
use Rattle.room_tables.proofs.ReadFailures.{holds_on}
use Rattle.dispatch_room_lists.proofs.replayed_lists.replay_list.Goals as goal

pub returns-in_err-came-clause-lost : goal.returns-in_err-came-clause-lost
returns-in_err-came-clause-lost g c =
    holds_on c.from_residual-in_err-came.result _ _ c.from_residual-in_err-came.ensures.1
    (inr (record {
      first = c.in_ok-room.room;
      setting = record { zone = c.in_ok-room.zone; history = c.args.course.now.replay.now.history };
      opens = c.in_ok-room.ensures.room;
      is_set = record { zone = c.in_ok-room.ensures.zone; history = refl };
      loses = c.in_err-came.ensures.lost;
    }))

pub returns-clause-replayed : goal.returns-clause-replayed
returns-clause-replayed g c =
    let said = c.in_ok-came.ensures.played in
    record {
      first = c.in_ok-room.room;
      last = c.in_ok-came.room;
      setting = record { zone = c.in_ok-room.zone; history = c.args.course.now.replay.now.history };
      opens = c.in_ok-room.ensures.room;
      is_set = record { zone = c.in_ok-room.ensures.zone; history = refl };
      came = c.in_ok-came.came;
      between = _;
      replayed = said.replayed;
      answered = said.answered;
      ended = c.conclude-done.new.room;
      ends = rw c.has_found_end.ensures at c.conclude-done.ensures;
      closed = c.close.ensures;
    }
