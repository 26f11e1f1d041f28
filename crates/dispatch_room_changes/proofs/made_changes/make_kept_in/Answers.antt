use Rattle.std.proofs.Common.{inl, inr, refl, sym}
use Rattle.dispatch_room_disk.proofs.WorkLemmas.{handed_on}
use Rattle.dispatch_room_changes.proofs.made_changes.make_kept_in.Goals as goal

pub returns-in_err-room-clause-fault : goal.returns-in_err-room-clause-fault
returns-in_err-room-clause-fault g c =
    handed_on c.from_residual.result _ c.from_residual.ensures.1 (λ fault is. inl (rw is c.in_err-room.ensures.fault))

pub returns-in-Err-clause-made : goal.returns-in-Err-clause-made
returns-in-Err-clause-made g c = record {
  opened = c.in_ok-room.room;
  closed = c.keep_text.new.room;
  opens = c.in_ok-room.ensures.room;
  is = inl (record {
    stays = c.keep_text.ensures.stays;
    fault = c.in-Err.fault;
    failed = refl;
    why = c.in-Err.ensures.fault;
  });
  conn = sym c.close.ensures;
}

pub returns-in_err-remade-clause-fault : goal.returns-in_err-remade-clause-fault
returns-in_err-remade-clause-fault g c =
    handed_on c.from_residual-in_err-remade.result _ c.from_residual-in_err-remade.ensures.1
    (λ fault is. inr (record {
      opened = c.in_ok-room.room;
      begun = c.keep_text.new.room;
      opens = c.in_ok-room.ensures.room;
      to = c.keep_text.new.list;
      keeps = c.in-Ok.ensures.kept;
      loses = rw is c.in_err-remade.ensures.fault;
    }))

pub returns-clause-made : goal.returns-clause-made
returns-clause-made g c = record {
  opened = c.in_ok-room.room;
  closed = c.end_made.ensures.closed;
  opens = c.in_ok-room.ensures.room;
  is = inr (record {
    begun = c.keep_text.new.room;
    kept = c.keep_text.new.list;
    keeps = c.in-Ok.ensures.kept;
    again = c.in_ok-remade.remade.room;
    came = c.in_ok-remade.remade.done;
    remakes = c.in_ok-remade.ensures.made;
    ends = c.end_made.ensures.ends;
  });
  conn = c.end_made.ensures.conn;
}
