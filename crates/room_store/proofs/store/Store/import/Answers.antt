use Rattle.std.proofs.Common.{List, [], arith, inl, length, subst, sym, take, ◌++◌, ◌+◌, ◌∙◌, ◌∷◌}
use Rattle.std.proofs.Common.{◌≡◌}
use Rattle.std.proofs.lemmas.List.{take_more}
use Rattle.sqlite.specs.Held.{state}
use Rattle.sqlite.specs.State.{HasCleanDisk}
use Rattle.room_types.specs.declared.fleet.Terminal.{Terminal}
use Rattle.room_model.specs.Room.{Room}
use Rattle.room_store.proofs.EnrolledLaws.{enrolled_more, fates_more, rows_left, rows_survive}
use Rattle.room_store.proofs.StoreLaws.{kept_stands, room_left}
use Rattle.room_store.specs.FleetEnrolment.{room_after_rows, terminals_after_rows}
use Rattle.room_store.specs.StoredRoom.{IsRoom}
use Rattle.room_tables_schema.specs.FileConnections.{IsClean}
use Rattle.room_store.proofs.store.Store.import.Goals as goal

pub loop-row-preserved : goal.loop-row-preserved
loop-row-preserved g c =
    let first = c.args.self.now in
    let mid = c.loop-row.self in
    let new = c.enrol.new.self in
    let before = c.loop-row.invariant in
    let rows = c.args.rows.now in
    let i = c.loop-row.row-index in
    let row = c.row-item.result in
    let more : take (i + 1) rows
    ≡ take i rows ++ row ∷ [] = rw c.row-item.is (take_more rows i _ c.loop-row-test.true) in
    let early = λ (clean : IsClean g.S.Store new.conn).
    let h : IsClean g.S.Store mid.conn = omega (arith, c.enrol.ensures.survives.clean) in h in
    record {
      ready = c.enrol.ensures.ready;
      plan = c.enrol.ensures.plan ∙ before.plan;
      still_open = λ clean is_open. (c.in-Ok.ensures.settled clean).is_open;
      kept =
          λ clean kept.
          record { is_open = (c.in-Ok.ensures.settled clean).is_open; only_left = c.in-Ok.ensures.only_left clean };
      done = λ clean terminals room is.
          let done = before.done (early clean) terminals room is in
          let now = terminals_after_rows (take i rows) room terminals in
          let at = room_after_rows (take i rows) room terminals in (
            subst (λ (p : Room × List Terminal). IsRoom g.S.Store new p.1 p.0)
                (sym (enrolled_more rows i row more room terminals)) (c.in-Ok.ensures.ok clean now at done.0),
            fates_more rows i row more room terminals _ _ _ done.1 (c.in-Ok.ensures.fate clean now at done.0),
          );
      survives =
          rows_survive rows i row more g.S.Store first mid new before.plan before.still_open
          (λ clean terminals room is. (before.done clean terminals room is).0) before.survives c.enrol.ensures.survives;
    }

pub returns-in-Err-clause-enrolled : goal.returns-in-Err-clause-enrolled
returns-in-Err-clause-enrolled g c clean terminals room is =
    let early : HasCleanDisk (state g.S.Store c.loop-row.self.conn) = omega (arith, c.enrol.ensures.survives.clean) in
    let done = c.loop-row.invariant.done early terminals room is in
    let rows = c.args.rows.now in
    let i = c.loop-row.row-index in
    let row = c.row-item.result in
    let more : take (i + 1) rows
    ≡ take i rows ++ row ∷ [] = rw c.row-item.is (take_more rows i _ c.loop-row-test.true) in (
      record {
        count = c.loop-row.row-index;
        within = omega (arith, c.loop-row-test.true);
        added = rw c.in-Err.ensures.kept done.1;
        stands =
            room_left g.S.Store c.loop-row.self c.enrol.new.self _ _ (c.in-Err.ensures.err clean) c.enrol.ensures.plan
            (rw c.enrol.ensures.known done.0.known)
            (c.enrol.ensures.cache (room_after_rows (take i rows) room terminals) done.0.cache) done.0;
        left =
            λ kept.
            rows_left rows i row more g.S.Store c.args.self.now c.loop-row.self c.enrol.new.self terminals room
            c.loop-row.invariant.plan (c.loop-row.invariant.kept early kept) done.0 clean c.enrol.ensures.survives;
      },
      tt,
    )

pub returns-in-Err-clause-survives : goal.returns-in-Err-clause-survives
returns-in-Err-clause-survives g c =
    let before = c.loop-row.invariant in
    let rows = c.args.rows.now in
    let i = c.loop-row.row-index in
    let row = c.row-item.result in
    let more : take (i + 1) rows
    ≡ take i rows ++ row ∷ [] = rw c.row-item.is (take_more rows i _ c.loop-row-test.true) in
    rows_survive rows i row more g.S.Store c.args.self.now c.loop-row.self c.enrol.new.self before.plan
    before.still_open (λ clean terminals room is. (before.done clean terminals room is).0) before.survives
    c.enrol.ensures.survives

pub returns-clause-enrolled : goal.returns-clause-enrolled
returns-clause-enrolled g c clean terminals room is =
    let done = c.loop-row.invariant.done clean terminals room is in
    let whole : c.loop-row.row-index
    ≡ length c.args.rows.now = omega (arith, c.loop-row-test.false, c.loop-row.auto.row-index-end) in (
      record {
        count = c.loop-row.row-index;
        within = omega (arith, whole);
        added = done.1;
        stands = done.0;
        left =
            λ kept db left.
            inl (rw (sym c.loop-row.invariant.plan)
            (kept_stands g.S.Store c.loop-row.self _ _ (c.loop-row.invariant.kept clean kept) done.0 db left));
      },
      whole,
    )
