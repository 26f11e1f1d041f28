use Rattle.std.proofs.Common.{refl, true}
use Rattle.room_store_writes.specs.Configurations.{config_of}
use Rattle.room_store.proofs.KnownLaws.{knows_none, knows_nothing}
use Rattle.room_store.proofs.StoreLaws.{ready_sound, settled_kept}
use Rattle.room_store.proofs.store.Store.migrate.Goals as goal

pub returns-in-Ok-clause-room : goal.returns-in-Ok-clause-room
returns-in-Ok-clause-room g c clean =
    let it = c.in-Ok.ensures.room clean in
    let first = ((c.in-Ok.ensures.moves clean).moved.moved.stands (config_of c.in-Ok.plan it.0) it.1).1 it.5 in (
      it.0,
      it.1,
      record {
        formed = it.2;
        fits = it.3;
        plan = it.4;
        known = knows_none it.0 _ c.new.ensures;
        cache = knows_nothing c.new-in-Ok.result it.1 c.new-in-Ok.ensures;
        tables = λ _. it.5;
      },
      first,
    )

pub returns-in-Ok-clause-schema : goal.returns-in-Ok-clause-schema
returns-in-Ok-clause-schema g c clean = (c.in-Ok.ensures.moves clean).schema

pub returns-in-Ok-clause-moved : goal.returns-in-Ok-clause-moved
returns-in-Ok-clause-moved g c clean = (c.in-Ok.ensures.moves clean).moved

pub returns-in-Ok-clause-kept : goal.returns-in-Ok-clause-kept
returns-in-Ok-clause-kept g c clean =
    settled_kept g.S.Store
    (record {
      conn = c.migrate_in.new.conn;
      plan = c.in-Ok.plan;
      terminals = c.new.result;
      cache = c.new-in-Ok.result;
      is_sound = true;
    }) (g.met.S.Store.settled c.migrate_in.new.conn.store) (c.in-Ok.ensures.moves clean).settled

pub returns-in-Ok-clause-ready : goal.returns-in-Ok-clause-ready
returns-in-Ok-clause-ready g c =
    ready_sound g.S.Store
    (record {
      conn = c.migrate_in.new.conn;
      plan = c.in-Ok.plan;
      terminals = c.new.result;
      cache = c.new-in-Ok.result;
      is_sound = true;
    }) c.migrate_in.ensures.ended refl
    (λ clean. record { schema = (c.in-Ok.ensures.moves clean).schema; settled = (c.in-Ok.ensures.moves clean).settled })

pub returns-in-Ok-clause-survives : goal.returns-in-Ok-clause-survives
returns-in-Ok-clause-survives g c = c.migrate_in.ensures.survives

pub returns-in-Err-clause-survives_fault : goal.returns-in-Err-clause-survives_fault
returns-in-Err-clause-survives_fault g c = c.migrate_in.ensures.survives
