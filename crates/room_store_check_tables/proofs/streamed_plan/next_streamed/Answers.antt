use Rattle.std.proofs.Common.{subst}
use Rattle.std.specs.Prelude.{OnOk}
use Rattle.room_tables_schema.specs.FileConnections.{HasRoomSchema}
use Rattle.room_store_check_tables.proofs.RowLaws.{next_failed, next_found, next_none, room_after}
use Rattle.room_store_check_tables.proofs.StreamLaws.{all_taken, inside_of}
use Rattle.room_store_check_tables.proofs.streamed_plan.next_streamed.Goals as goal

pub each_row-requires : goal.each_row-requires
each_row-requires g c =
    record { room = subst (λ r. OnOk r (HasRoomSchema g.S.Store c.args.conn.now)) c.in-Ok.is c.requires.room }

pub returns-in-Ok-each_row : goal.returns-in-Ok-each_row
returns-in-Ok-each_row g c =
    let read = c.in-Ok-each_row.ensures in
    let inside = inside_of read.reads in
    record {
      room = room_after {b = c.each_row.new.conn} c.in-Ok.is inside c.requires.room;
      next = next_found c.in-Ok.is inside (λ clean. all_taken c.new.ensures (read.taken clean));
      mode = read.reads.mode;
    }

pub returns-in-Err-each_row : goal.returns-in-Err-each_row
returns-in-Err-each_row g c =
    let read = c.in-Err-each_row.ensures in
    record { room = tt; next = next_failed c.in-Ok.is (inside_of read.reads) read.why; mode = read.reads.mode }

pub returns-in-Err : goal.returns-in-Err
returns-in-Err g c = record { room = c.requires.room; next = next_none c.in-Err.is; mode = λ outside. outside }
