use Rattle.std.proofs.Common.{inl, inr, refl}
use Rattle.dispatch_room_exit.specs.declared.exit_status.Failure.TheVariants.{Memory}
use Rattle.dispatch_room_serving.proofs.ConnectionLaws.{looks_same}
use Rattle.dispatch_room_serving.proofs.served_room.serve_in.Goals as goal

pub returns-in-Ok-clause-served : goal.returns-in-Ok-clause-served
returns-in-Ok-clause-served g c = record {
  first = c.in_ok-room.room;
  last = c.begin_and_serve-served.new.room;
  setting = record { zone = c.in_ok-room.zone; history = c.args.part.now.limits.history };
  opens = c.in_ok-room.ensures.room;
  is_set = record { zone = c.in_ok-room.ensures.zone; history = refl };
  attended = rw c.in-Ok.ensures.setting at c.begin_and_serve-served.ensures.attends;
  closed = c.close.ensures;
}

-- memory lacks for what is handled with, and nobody is heard
pub returns-in-Err-clause-served : goal.returns-in-Err-clause-served
returns-in-Err-clause-served g c = record {
  first = c.in_ok-room.room;
  last = c.in_ok-room.room;
  setting = record { zone = c.in_ok-room.zone; history = c.args.part.now.limits.history };
  opens = c.in_ok-room.ensures.room;
  is_set = record { zone = c.in_ok-room.ensures.zone; history = refl };
  attended = inl (record {
    fault = Memory;
    why = inr (inl refl);
    result_is = refl;
    failed = λ is. absurd (cc);
    unheard = (refl, refl, refl);
    looks = looks_same g.S.Store c.in_ok-room.room;
    head = inl refl;
  });
  closed = c.close-in-Err.ensures;
}
