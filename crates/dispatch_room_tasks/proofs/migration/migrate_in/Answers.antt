use Rattle.std.specs.Prelude.{refl}
use Rattle.room_tables_rows.proofs.Moves.{no_offers}
use Rattle.room_store_writes.specs.Configurations.{config_of}
use Rattle.dispatch_room_tasks.proofs.migration.migrate_in.Goals as goal

pub returns-in-Ok-clause-migrated : goal.returns-in-Ok-clause-migrated
returns-in-Ok-clause-migrated g c =
    let made = c.in-Ok.ensures in
    rw c.close.ensures
    (record {
      whole = refl;
      was_old = made.old_room;
      same = λ clean.
          let is = made.room clean in (
            config_of c.in-Ok.room.plan is.0,
            is.1,
            record {
              stood = is.3;
              unoffered = no_offers _ _ _ is.3;
              stands = is.2.tables (made.kept clean).is_open;
              formed = is.2.formed;
              fits = is.2.fits;
            },
          );
      moved = made.moved;
      kept = λ clean. (made.kept clean).only_left;
      survives = made.survives;
    })

pub returns-in-Err-clause-fault : goal.returns-in-Err-clause-fault
returns-in-Err-clause-fault g c = record {
  fault = c.in-Err.fault;
  failed = c.of_opening.ensures;
  released = c.in-Err._conn;
  left = c.in-Err.ensures.same_fault;
  untouched = c.in-Err.ensures.untouched;
  version = c.in-Err.ensures.not_old;
  no_room = c.in-Err.ensures.no_room;
  survives = c.in-Err.ensures.survives_fault;
}
