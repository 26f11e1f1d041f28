use Rattle.std.proofs.Common.{◌≡◌, ap, arith, false, inl, inr, refl, rules, subst, sym, true, List}
use Rattle.std.proofs.Common.{ℕ}
use Rattle.std.specs.Prelude.{IsSome, IsTrue}
use Rattle.jiff.specs.Words.{read_whole}
use Rattle.sqlite.specs.Held.{Held, state}
use Rattle.sqlite_trees.specs.declared.store.Store.{Ghosts}
use Rattle.room_types.specs.declared.fleet.Terminal.{Terminal}
use Rattle.room_model.specs.Room.{Room}
use Rattle.room_tables.specs.RoomsInTables.{Configuration, Stands}
use Rattle.room_tables_rows.proofs.OneRoom.{one_config, one_room}
use Rattle.room_store_writes.specs.Configurations.{config_of}
use Rattle.room_store_file.proofs.FileLaws.{stands_before}
use Rattle.room_store_file.specs.OpenedFile.{KeepsFile}
use Rattle.room_tables_schema.specs.Schema.{room_schema}
use Rattle.dispatch_room_tasks.specs.OpenedRoom.{OpensRoom}
use Rattle.room_store.specs.StoredRoom.{IsKept, IsRoom}
use Rattle.room_store.specs.declared.store.Store.{Store}
use Rattle.dispatch_room_tasks.proofs.opened_room.open_room.Goals as goal

-- whatever room the tables of a store stand for is the one that the store is known to stand for
module _ {S : Type 0} (g : Ghosts S) (store : Store S) (is_open : IsTrue (state g store.conn).is_open)
    (terminals : List Terminal) (room : Room) (is : IsRoom g store terminals room)
    (config : Configuration) (same : Room) (stands : Stands (state g store.conn).now.trees config same) where
  config_is : config ≡ config_of store.plan terminals
  config_is =
      one_config (state g store.conn).now.trees config (config_of store.plan terminals) same room stands
      (is.tables is_open)

  room_is : same ≡ room
  room_is =
      one_room (state g store.conn).now.trees config (config_of store.plan terminals) same room stands
      (is.tables is_open)

  stands_for_same : (config.zone ≡ store.plan.zone) × IsRoom g store config.terminals same
  stands_for_same = (
    ap (λ (h : Configuration). h.zone) config_is,
    subst (λ ts. IsRoom g store ts same) (sym (ap (λ (h : Configuration). h.terminals) config_is))
        (subst (IsRoom g store terminals) (sym room_is) is),
  )

-- so the room that is opened is the one that the file held
opens : {S : Type 0} (g : Ghosts S) (old : Held S) (store : Store S)
    → (terminals : List Terminal) × (room : Room) × IsRoom g store terminals room
    → (state g store.conn).now.schema ≡ room_schema → KeepsFile (state g old) (state g store.conn) → IsKept g store
    → OpensRoom g old store
opens g old store is schema file kept = (
  is.0,
  is.1,
  record {
    is = is.2;
    same =
        λ config room stands.
        stands_for_same g store kept.is_open is.0 is.1 is.2 config room
        (stands_before (state g old).now (state g store.conn).now schema (file.rows kept.is_open) config room stands);
    kept = kept;
    rows = file;
  },
)

pub returns-in-Ok-read-clause-room : goal.returns-in-Ok-read-clause-room
returns-in-Ok-read-clause-room g c clean =
    let made = c.in-Ok.ensures in
    opens g.S.Store c.args.conn c.in-Ok.room (made.room clean) (made.schema clean) (made.same clean) (made.kept clean)

pub returns-in-Ok-read-clause-trusted : goal.returns-in-Ok-read-clause-trusted
returns-in-Ok-read-clause-trusted g c clean = omega (arith, c.in-Ok.ensures.survives.clean, clean)

pub returns-in-Err-clause-fault : goal.returns-in-Err-clause-fault
returns-in-Err-clause-fault g c =
    inl (record {
      fault = c.in-Err.fault;
      failed = c.of_opening.ensures;
      released = c.in-Err._conn;
      left = c.in-Err.ensures.same_fault;
      untouched = c.in-Err.ensures.untouched;
      version = c.in-Err.ensures.old_room;
      no_room = c.in-Err.ensures.no_room;
      why = c.in-Err.ensures.why;
      survives = c.in-Err.ensures.survives_fault;
    })

pub returns-in-Err-read-clause-fault : goal.returns-in-Err-read-clause-fault
returns-in-Err-read-clause-fault g c =
    let made = c.in-Ok.ensures in
    let text : c.zone.result.now ≡ c.in-Ok.room.plan.zone = search rules in
    inr (record {
      failed = refl;
      opened = c.in-Ok.room;
      opens =
          λ clean.
          opens g.S.Store c.args.conn c.in-Ok.room (made.room clean) (made.schema clean) (made.same clean)
          (made.kept clean);
      no_rule =
          λ some.
          let no : false
          ≡ true = c.in-Err-read.ensures.read.1 (subst (λ (t : List ℕ). IsSome (read_whole t)) (sym text) some) in
          cc;
    })
