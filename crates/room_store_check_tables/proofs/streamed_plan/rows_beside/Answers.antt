use Rattle.std.proofs.Common.{false, refl, ◌≡◌}
use Rattle.sqlite.specs.Held.{state}
use Rattle.room_tables_schema.proofs.ReadLaws.{ends_inside, fails_inside}
use Rattle.room_store_check_tables.proofs.RowLaws.{and_read, became, first_read}
use Rattle.room_store_check_tables.proofs.StreamLaws.{found_beside, outside_of}
use Rattle.room_store_check_tables.specs.ReadCauses.{assignments_fail, divisions_fail}
use Rattle.room_store_check_tables.specs.ReadCauses.{incidents_fail, loans_fail, offers_fail}
use Rattle.room_store_check_tables.specs.ReadCauses.{points_fail, vehicles_fail}
use Rattle.room_store_check_tables.proofs.streamed_plan.rows_beside.Goals as goal

pub returns-in-Ok : goal.returns-in-Ok
returns-in-Ok g c =
    let four = and_read
    (and_read
    (and_read (first_read c.next_streamed.ensures.next divisions_fail) c.next_streamed-2.ensures.next incidents_fail)
    c.next_streamed-3.ensures.next vehicles_fail) c.next_streamed-4.ensures.next assignments_fail in
    let seven = and_read
    (and_read (and_read four c.next_streamed-5.ensures.next points_fail) c.next_streamed-6.ensures.next loans_fail)
    c.next_streamed-7.ensures.next offers_fail in
    let all = became c.in-Ok.is seven in
    let mode = λ (outside : c.args.conn.now.in_transaction ≡ false).
    c.next_streamed-7.ensures.mode
    (c.next_streamed-6.ensures.mode (c.next_streamed-5.ensures.mode
    (c.next_streamed-4.ensures.mode
    (c.next_streamed-3.ensures.mode (c.next_streamed-2.ensures.mode (c.next_streamed.ensures.mode outside)))))) in
    record {
      beside = λ clean.
          rw (c.own.ensures, c.own-2.ensures, c.own-3.ensures, c.own-4.ensures, c.own-5.ensures, c.own-6.ensures)
          (found_beside (state g.S.Store c.args.conn.now).now.trees _ c.new.ensures (all.found clean));
      why = λ clean. tt;
      reads = outside_of mode (ends_inside _ all.reads);
    }

pub returns-in-Err : goal.returns-in-Err
returns-in-Err g c =
    let four = and_read
    (and_read
    (and_read (first_read c.next_streamed.ensures.next divisions_fail) c.next_streamed-2.ensures.next incidents_fail)
    c.next_streamed-3.ensures.next vehicles_fail) c.next_streamed-4.ensures.next assignments_fail in
    let seven = and_read
    (and_read (and_read four c.next_streamed-5.ensures.next points_fail) c.next_streamed-6.ensures.next loans_fail)
    c.next_streamed-7.ensures.next offers_fail in
    let all = became c.in-Err.is seven in
    let mode = λ (outside : c.args.conn.now.in_transaction ≡ false).
    c.next_streamed-7.ensures.mode
    (c.next_streamed-6.ensures.mode (c.next_streamed-5.ensures.mode
    (c.next_streamed-4.ensures.mode
    (c.next_streamed-3.ensures.mode (c.next_streamed-2.ensures.mode (c.next_streamed.ensures.mode outside)))))) in
    record { beside = λ clean. tt; why = all.why; reads = outside_of mode (fails_inside refl all.reads) }
