use Rattle.std.proofs.lemmas.Result.{IfOk-weaker}
use Rattle.room_tables_schema.proofs.ReadLaws.{and, but, fails, looked, then_any}
use Rattle.room_tables.proofs.RoomReads.{was_clean}
use Rattle.room_store_cache.proofs.StillRooms.{still_room, still_stands}
use Rattle.room_store_cache.proofs.fleets.FleetRows.read.Goals as goal

pub read_all-requires-2 : goal.read_all-requires-2
read_all-requires-2 g c = record { room = still_room (looked c.in_ok-read_all.ensures.reads) c.requires.room }

pub read_all-requires-3 : goal.read_all-requires-3
read_all-requires-3 g c =
    let one = looked c.in_ok-read_all.ensures.reads in
    record { room = still_room (and one c.in_ok-read_all-2.ensures.reads) c.requires.room }

pub read_all-requires-4 : goal.read_all-requires-4
read_all-requires-4 g c =
    let one = looked c.in_ok-read_all.ensures.reads in
    let two = and one c.in_ok-read_all-2.ensures.reads in
    record { room = still_room (and two c.in_ok-read_all-3.ensures.reads) c.requires.room }

pub read_all-requires-5 : goal.read_all-requires-5
read_all-requires-5 g c =
    let one = looked c.in_ok-read_all.ensures.reads in
    let two = and one c.in_ok-read_all-2.ensures.reads in
    let three = and two c.in_ok-read_all-3.ensures.reads in
    record { room = still_room (and three c.in_ok-read_all-4.ensures.reads) c.requires.room }

pub read_all-requires-6 : goal.read_all-requires-6
read_all-requires-6 g c =
    let one = looked c.in_ok-read_all.ensures.reads in
    let two = and one c.in_ok-read_all-2.ensures.reads in
    let three = and two c.in_ok-read_all-3.ensures.reads in
    let four = and three c.in_ok-read_all-4.ensures.reads in
    record { room = still_room (and four c.in_ok-read_all-5.ensures.reads) c.requires.room }

pub returns-clause-rows : goal.returns-clause-rows
returns-clause-rows g c clean =
    let one = looked c.in_ok-read_all.ensures.reads in
    let two = and one c.in_ok-read_all-2.ensures.reads in
    let three = and two c.in_ok-read_all-3.ensures.reads in
    let four = and three c.in_ok-read_all-4.ensures.reads in
    let five = and four c.in_ok-read_all-5.ensures.reads in
    let fifth = was_clean c.read_all-6.ensures.reads.survives clean in
    let fourth = was_clean c.in_ok-read_all-5.ensures.reads.survives fifth in
    let third = was_clean c.in_ok-read_all-4.ensures.reads.survives fourth in
    let second = was_clean c.in_ok-read_all-3.ensures.reads.survives third in
    let first = was_clean c.in_ok-read_all-2.ensures.reads.survives second in
    IfOk-weaker c.read_all-6.result _ _ (λ x offers config room h. record {
      divisions = c.in_ok-read_all.ensures.rows first config room h;
      vehicles = c.in_ok-read_all-2.ensures.rows second config room (still_stands one first config room h);
      assignments = c.in_ok-read_all-3.ensures.rows third config room (still_stands two second config room h);
      points = c.in_ok-read_all-4.ensures.rows fourth config room (still_stands three third config room h);
      loans = c.in_ok-read_all-5.ensures.rows fifth config room (still_stands four fourth config room h);
      offers = offers config room (still_stands five fifth config room h);
    }) (c.read_all-6.ensures.rows clean)

pub returns-in_err-read_all-clause-reads : goal.returns-in_err-read_all-clause-reads
returns-in_err-read_all-clause-reads g c = fails c.from_residual.ensures.0 c.in_err-read_all.ensures.reads

pub returns-in_err-read_all-2-clause-reads : goal.returns-in_err-read_all-2-clause-reads
returns-in_err-read_all-2-clause-reads g c =
    but (looked c.in_ok-read_all.ensures.reads) c.from_residual-in_err-read_all-2.ensures.0
    c.in_err-read_all-2.ensures.reads

pub returns-in_err-read_all-3-clause-reads : goal.returns-in_err-read_all-3-clause-reads
returns-in_err-read_all-3-clause-reads g c =
    let one = looked c.in_ok-read_all.ensures.reads in
    but (and one c.in_ok-read_all-2.ensures.reads) c.from_residual-in_err-read_all-3.ensures.0
    c.in_err-read_all-3.ensures.reads

pub returns-in_err-read_all-4-clause-reads : goal.returns-in_err-read_all-4-clause-reads
returns-in_err-read_all-4-clause-reads g c =
    let one = looked c.in_ok-read_all.ensures.reads in
    let two = and one c.in_ok-read_all-2.ensures.reads in
    but (and two c.in_ok-read_all-3.ensures.reads) c.from_residual-in_err-read_all-4.ensures.0
    c.in_err-read_all-4.ensures.reads

pub returns-in_err-read_all-5-clause-reads : goal.returns-in_err-read_all-5-clause-reads
returns-in_err-read_all-5-clause-reads g c =
    let one = looked c.in_ok-read_all.ensures.reads in
    let two = and one c.in_ok-read_all-2.ensures.reads in
    let three = and two c.in_ok-read_all-3.ensures.reads in
    but (and three c.in_ok-read_all-4.ensures.reads) c.from_residual-in_err-read_all-5.ensures.0
    c.in_err-read_all-5.ensures.reads

pub returns-clause-reads : goal.returns-clause-reads
returns-clause-reads g c =
    let one = looked c.in_ok-read_all.ensures.reads in
    let two = and one c.in_ok-read_all-2.ensures.reads in
    let three = and two c.in_ok-read_all-3.ensures.reads in
    let four = and three c.in_ok-read_all-4.ensures.reads in
    then_any (and four c.in_ok-read_all-5.ensures.reads) c.read_all-6.result c.read_all-6.ensures.reads
