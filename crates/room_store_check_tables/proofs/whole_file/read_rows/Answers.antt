use Rattle.std.proofs.Common.{refl}
use Rattle.sqlite.specs.Held.{state}
use Rattle.room_tables_schema.proofs.ReadLaws.{ends_inside, fails_inside}
use Rattle.room_store_check_tables.proofs.RowLaws.{and_read, became, first_read, found_rows}
use Rattle.room_store_check_tables.specs.ReadCauses.{assignments_fail, calls_fail, divisions_fail}
use Rattle.room_store_check_tables.specs.ReadCauses.{incidents_fail, loans_fail, offers_fail}
use Rattle.room_store_check_tables.specs.ReadCauses.{points_fail, reports_fail, turns_fail}
use Rattle.room_store_check_tables.specs.ReadCauses.{vehicles_fail}
use Rattle.room_store_check_tables.proofs.whole_file.read_rows.Goals as goal

pub returns-in-Ok-clause-found : goal.returns-in-Ok-clause-found
returns-in-Ok-clause-found g c clean all =
    let five = and_read
    (and_read
    (and_read (and_read (first_read c.next_rows.ensures.next reports_fail) c.next_rows-2.ensures.next divisions_fail)
    c.next_rows-3.ensures.next incidents_fail) c.next_rows-4.ensures.next calls_fail) c.next_rows-5.ensures.next
    vehicles_fail in
    let ten = and_read
    (and_read
    (and_read
    (and_read (and_read five c.next_rows-6.ensures.next turns_fail) c.next_rows-7.ensures.next assignments_fail)
    c.next_rows-8.ensures.next points_fail) c.next_rows-9.ensures.next loans_fail) c.next_rows-10.ensures.next
    offers_fail in
    rw (c.own.ensures, c.own-2.ensures, c.own-3.ensures, c.own-4.ensures, c.own-5.ensures, c.own-6.ensures)
    (found_rows (state g.S.Store c.args.tx.now.conn.now).now.trees _ all ((became c.in-Ok.is ten).found clean))

pub returns-in-Ok-clause-reads : goal.returns-in-Ok-clause-reads
returns-in-Ok-clause-reads g c =
    let five = and_read
    (and_read
    (and_read (and_read (first_read c.next_rows.ensures.next reports_fail) c.next_rows-2.ensures.next divisions_fail)
    c.next_rows-3.ensures.next incidents_fail) c.next_rows-4.ensures.next calls_fail) c.next_rows-5.ensures.next
    vehicles_fail in
    let ten = and_read
    (and_read
    (and_read
    (and_read (and_read five c.next_rows-6.ensures.next turns_fail) c.next_rows-7.ensures.next assignments_fail)
    c.next_rows-8.ensures.next points_fail) c.next_rows-9.ensures.next loans_fail) c.next_rows-10.ensures.next
    offers_fail in
    ends_inside _ (became c.in-Ok.is ten).reads

pub returns-in-Err-clause-reads : goal.returns-in-Err-clause-reads
returns-in-Err-clause-reads g c =
    let five = and_read
    (and_read
    (and_read (and_read (first_read c.next_rows.ensures.next reports_fail) c.next_rows-2.ensures.next divisions_fail)
    c.next_rows-3.ensures.next incidents_fail) c.next_rows-4.ensures.next calls_fail) c.next_rows-5.ensures.next
    vehicles_fail in
    let ten = and_read
    (and_read
    (and_read
    (and_read (and_read five c.next_rows-6.ensures.next turns_fail) c.next_rows-7.ensures.next assignments_fail)
    c.next_rows-8.ensures.next points_fail) c.next_rows-9.ensures.next loans_fail) c.next_rows-10.ensures.next
    offers_fail in
    fails_inside refl (became c.in-Err.is ten).reads

pub returns-in-Err-clause-why : goal.returns-in-Err-clause-why
returns-in-Err-clause-why g c =
    let five = and_read
    (and_read
    (and_read (and_read (first_read c.next_rows.ensures.next reports_fail) c.next_rows-2.ensures.next divisions_fail)
    c.next_rows-3.ensures.next incidents_fail) c.next_rows-4.ensures.next calls_fail) c.next_rows-5.ensures.next
    vehicles_fail in
    let ten = and_read
    (and_read
    (and_read
    (and_read (and_read five c.next_rows-6.ensures.next turns_fail) c.next_rows-7.ensures.next assignments_fail)
    c.next_rows-8.ensures.next points_fail) c.next_rows-9.ensures.next loans_fail) c.next_rows-10.ensures.next
    offers_fail in
    (became c.in-Err.is ten).why
