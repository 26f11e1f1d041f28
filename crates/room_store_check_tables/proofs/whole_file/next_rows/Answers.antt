use Rattle.std.proofs.Common.{refl, subst}
use Rattle.std.specs.Prelude.{OnOk}
use Rattle.room_tables_schema.specs.FileConnections.{HasRoomSchema}
use Rattle.room_store_check_tables.proofs.RowLaws.{next_failed, next_found, next_none, room_after}
use Rattle.room_store_check_tables.proofs.whole_file.next_rows.Goals as goal

pub all_rows-requires : goal.all_rows-requires
all_rows-requires g c =
    record { room = subst (λ r. OnOk r (HasRoomSchema g.S.Store c.args.tx.now.conn.now)) c.in-Ok.is c.requires.room }

pub returns-in-Ok-all_rows : goal.returns-in-Ok-all_rows
returns-in-Ok-all_rows g c =
    let read = c.in-Ok-all_rows.ensures in
    record {
      room = room_after c.in-Ok.is read.reads c.requires.room;
      next = next_found c.in-Ok.is read.reads read.found;
      same_reference = c.all_rows.ensures.same_reference;
    }

pub returns-in-Err-all_rows : goal.returns-in-Err-all_rows
returns-in-Err-all_rows g c = record {
  room = tt;
  next = next_failed c.in-Ok.is c.in-Err-all_rows.ensures.reads c.in-Err-all_rows.ensures.why;
  same_reference = c.all_rows.ensures.same_reference;
}

pub returns-in-Err : goal.returns-in-Err
returns-in-Err g c = record { room = c.requires.room; next = next_none c.in-Err.is; same_reference = refl }
