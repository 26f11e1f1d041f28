-- A store's room, before and after an event.
use Rattle.std.proofs.Common.{Err, IsTrue, List, Ok, Result, [], ap, false, inl, inr, subst, sym}
use Rattle.std.proofs.Common.{true, ◌∙◌, ◌∷◌, ◌≡◌}
use Rattle.std.specs.Prelude.{OnErr, OnOk}
use Rattle.sqlite.specs.Effect.{Database}
use Rattle.sqlite.specs.Held.{state}
use Rattle.sqlite.specs.State.{State, Survives}
use Rattle.sqlite.proofs.StateLemmas.{survives_weaker}
use Rattle.sqlite_trees.specs.Tree.{Trees}
use Rattle.sqlite_trees.specs.declared.store.Store.{Ghosts}
use Rattle.room_types.specs.declared.asks.Event.{Event}
use Rattle.room_types.specs.declared.fleet.Terminal.{Terminal}
use Rattle.room_model.proofs.FleetStays.{plan_run, terminals_run}
use Rattle.room_model.proofs.KeptEvents.{event_kept}
use Rattle.room_model.specs.Events.{IsNumbered}
use Rattle.room_model.specs.Room.{Room}
use Rattle.room_model.specs.Step.{IsAddressed, room_after}
use Rattle.room_tables.specs.RoomsInTables.{Configuration, Stands}
use Rattle.room_tables_schema.specs.FileConnections.{HasRoomSchema, IsClean}
use Rattle.room_store_writes.specs.Transactions.{Commits, IsSettled, Leaves}
use Rattle.room_store_cache.specs.Cache.{IsCacheOf}
use Rattle.room_store.specs.ActedEvents.{IsFor}
use Rattle.room_store_cache.specs.KnownTerminals.{AreTerminalsOf}
use Rattle.room_store.specs.StoredRoom.{IsKept, IsReady, IsRoom, LeavesOneOf, ShowsRoom}
use Rattle.room_store_writes.specs.Configurations.{config_of}
use Rattle.room_store.specs.declared.store.Store.{Store}

-- a store may be called whose connection shows a room
pub ready_sound : {S : Type 0} (g : Ghosts S) (held : Store S) → held.conn.in_transaction ≡ false
    → held.is_sound ≡ true → (IsClean g held.conn → ShowsRoom (state g held.conn))
    → IsReady g held
ready_sound g held outside sound shows = record {
  outside = outside;
  sound = λ _ clean. shows clean;
  unsound = λ unsound. let never : false ≡ true = sym unsound ∙ sound in cc;
  cause = λ unsound. let never : false ≡ true = sym unsound ∙ sound in cc;
}

-- and it sees a room's schema, where it is sound
pub ready_schema : {S : Type 0} (g : Ghosts S) (held : Store S) → IsReady g held
    → held.is_sound ≡ true → HasRoomSchema g held.conn
ready_schema g held ready sound clean = (ready.sound sound clean).schema

-- tables that were left stand for the room that they stood for
pub room_left : {S : Type 0} (g : Ghosts S) (old new : Store S) (terminals : List Terminal)
    (room : Room) → Leaves (state g old.conn) (state g new.conn) → new.plan ≡ old.plan
    → AreTerminalsOf new.terminals.kept.items terminals → IsCacheOf new.cache room
    → IsRoom g old terminals room → IsRoom g new terminals room
room_left g old new terminals room left same known cache is = record {
  formed = is.formed;
  fits = is.fits;
  plan = rw same is.plan;
  known = known;
  cache = cache;
  tables =
      λ is_open.
      rw same (subst (λ (db : Database). Stands db.trees (config_of old.plan terminals) room)
      (sym (left.now_is is_open)) (is.tables (left.was_open is_open)));
}

module _ {S : Type 0} (g : Ghosts S) (old new : Store S) (event : Event)
    (terminals : List Terminal) (room : Room) (is : IsRoom g old terminals room)
    (addressed : IsAddressed event room) where
  -- while the connection is open, the event is for the room in the tables
  pub for_room : IsTrue (state g old.conn).is_open
      → IsFor (state g old.conn).now.trees old.plan old.cache event (config_of old.plan terminals)
      room
  for_room is_open =
      record { stands = is.tables is_open; formed = is.formed; plan = is.plan; cache = is.cache; addressed = addressed }

  pub room_moved : IsNumbered event.ask → new.plan ≡ old.plan → new.terminals ≡ old.terminals
      → IsCacheOf new.cache (room_after event room)
      → Commits (state g old.conn) (state g new.conn)
      (IsFor (state g old.conn).now.trees old.plan old.cache event) (room_after event)
      → IsRoom g new terminals (room_after event room)
  room_moved is_numbered same same_known cache wrote = record {
    formed = event_kept event room is.formed addressed is_numbered;
    fits = terminals_run (event ∷ []) room terminals is.fits;
    plan = rw same (plan_run (event ∷ []) room ∙ is.plan);
    known = rw same_known is.known;
    cache = cache;
    tables = λ _. rw same (wrote.stands (config_of old.plan terminals) room (for_room wrote.was_open));
  }

-- what a stop leaves of the event in the tables, it leaves of the store
pub event_survives : {S : Type 0} (g : Ghosts S) (old : Store S) (new : State) (event : Event)
    → Survives (state g old.conn) new
    (λ db. (config : Configuration) (room : Room)
    → IsFor (state g old.conn).now.trees old.plan old.cache event config room
    → Stands db config (room_after event room))
    → Survives (state g old.conn) new
    (λ db. IsTrue (state g old.conn).is_open → (terminals : List Terminal) (room : Room)
    → IsRoom g old terminals room → IsAddressed event room
    → Stands db (config_of old.plan terminals) (room_after event room))
event_survives g old new event =
    survives_weaker (state g old.conn) new _ _ (λ _ db left is_open terminals room is addressed.
    left (config_of old.plan terminals) room (for_room g old old event terminals room is addressed is_open))

-- a failed call left two things
pub err_both : {T E : Type 0} (r : Result T E) (P Q : Type 0) → OnErr r P → OnErr r Q
    → OnErr r (P × Q)
err_both (Ok done) P Q p q = tt
err_both (Err error) P Q p q = (p, q)

-- what is kept of a settled connection
pub kept_settled : {S T E : Type 0} (g : Ghosts S) (held : Store S) (r : Result T E)
    → OnOk r (IsSettled (state g held.conn))
    → OnOk r ((db : Trees) → (state g held.conn).may_leave db → db ≡ (state g held.conn).now.trees)
    → OnOk r (IsKept g held)
kept_settled g held (Ok x) settled only_left = record { is_open = settled.is_open; only_left = only_left }
kept_settled g held (Err e) settled only_left = tt

-- a settled connection keeps what it holds, since a stop of an open one leaves what was committed
pub settled_kept : {S : Type 0} (g : Ghosts S) (held : Store S)
    → ((db : Trees) → IsTrue (state g held.conn).is_open → (state g held.conn).may_leave db
    → db ≡ (state g held.conn).committed.trees)
    → IsSettled (state g held.conn) → IsKept g held
settled_kept g held leaves settled = record {
  is_open = settled.is_open;
  only_left = λ db left. leaves db settled.is_open left ∙ ap (λ (b : Database). b.trees) settled.committed;
}

-- what is kept, a stop leaves
pub kept_stands : {S : Type 0} (g : Ghosts S) (held : Store S) (terminals : List Terminal)
    (room : Room) → IsKept g held → IsRoom g held terminals room
    → (db : Trees) → (state g held.conn).may_leave db
    → Stands db (config_of held.plan terminals) room
kept_stands g held terminals room kept is db left =
    subst (λ (trees : Trees). Stands trees (config_of held.plan terminals) room) (sym (kept.only_left db left))
    (is.tables kept.is_open)

module _ {S : Type 0} (g : Ghosts S) (old new : Store S) (same : new.plan ≡ old.plan)
    (clean : IsClean g new.conn) (kept : IsKept g old) where
  -- A call that looked leaves what is kept as it was,
  pub looked_kept : Leaves (state g old.conn) (state g new.conn)
      → Survives (state g old.conn) (state g new.conn) (λ _. ⊥) → IsTrue (state g new.conn).is_open
      → IsKept g new
  looked_kept looked survives is_open = record {
    is_open = is_open;
    only_left = λ db left. elim (survives.crash clean db left) [
      | inl before ↦ kept.only_left db before ∙ sym (ap (λ (b : Database). b.trees) (looked.now_is is_open))
      | inr none ↦ absurd none
    ];
  }

  -- and also where it fails, a stop leaves the room as it was.
  pub looked_left : (terminals : List Terminal) (room : Room) → IsRoom g old terminals room
      → Survives (state g old.conn) (state g new.conn) (λ _. ⊥)
      → LeavesOneOf g new terminals (room ∷ [])
  looked_left terminals room is survives db left =
      let before : (state g old.conn).may_leave db = elim (survives.crash clean db left)
      [ inl before ↦ before | inr none ↦ absurd none ] in
      inl (rw same (kept_stands g old terminals room kept is db before))

  -- Where an event was acted on, a stop leaves the room before it or after it.
  pub acted_left : (event : Event) (terminals : List Terminal) (room : Room)
      → IsRoom g old terminals room → IsAddressed event room
      → Survives (state g old.conn) (state g new.conn)
      (λ db. IsTrue (state g old.conn).is_open → (terminals : List Terminal) (room : Room)
      → IsRoom g old terminals room → IsAddressed event room
      → Stands db (config_of old.plan terminals) (room_after event room))
      → LeavesOneOf g new terminals (room ∷ room_after event room ∷ [])
  acted_left event terminals room is addressed survives db left =
      elim (survives.crash clean db left) [
        | inl before ↦ inl (rw same (kept_stands g old terminals room kept is db before))
        | inr after ↦ inr (inl (rw same (after kept.is_open terminals room is addressed)))
      ]
