-- Fleet rows enrolled: one whose fate was found by reads and then written, one in a store, and one
-- more after others.
use Rattle.std.proofs.Common.{IsTrue, List, ap, arith, inl, inr, refl, subst, sym, take, ℕ, []}
use Rattle.std.proofs.Common.{◌++◌, ◌+◌, ◌∙◌, ◌∷◌, ◌≡◌}
use Rattle.std.specs.Prelude.{◌⊎◌}
use Rattle.std.proofs.lemmas.List.{append_assoc}
use Rattle.sqlite.specs.Held.{state}
use Rattle.sqlite.specs.State.{HasCleanDisk, IsUnchanged, State, Survives}
use Rattle.sqlite.proofs.StateLemmas.{survives_then, survives_weaker}
use Rattle.sqlite_trees.specs.Tree.{Trees}
use Rattle.sqlite_trees.specs.declared.store.Store.{Ghosts}
use Rattle.room_place.specs.Plans.{Layout}
use Rattle.room_types.specs.declared.fleet.FleetRow.{FleetRow}
use Rattle.room_types.specs.declared.fleet.RowFate.{RowFate}
use Rattle.room_types.specs.declared.fleet.RowFate.TheVariants.{Added, Refused, Same}
use Rattle.room_types.specs.declared.fleet.Terminal.{Terminal}
use Rattle.room_model.proofs.EnrolLaws.{enrolled_kept, terminals_kept}
use Rattle.room_model.specs.FleetRows.{fate_of, room_by, room_enrolled, terminals_enrolled}
use Rattle.room_model.specs.Room.{Room}
use Rattle.room_tables.specs.RoomsInTables.{Configuration, Stands}
use Rattle.room_tables.proofs.RoomReads.{kept}
use Rattle.room_store_writes.specs.EnrolledRows.{Enrols, StandsAfter}
use Rattle.room_store_cache.specs.Cache.{KnowsNothing}
use Rattle.room_model.specs.Fleets.{enrolled, fates_of}
use Rattle.room_store.specs.FleetEnrolment.{MayBeEnrolled, StandsAfterRows, StandsInPlan, fate_in}
use Rattle.room_store.specs.FleetEnrolment.{room_after_rows, terminals_after_rows}
use Rattle.room_store.specs.StoredRoom.{IsKept, IsRoom}
use Rattle.room_store.proofs.KnownLaws.{knows_nothing, still_known}
use Rattle.room_store.proofs.StoreLaws.{kept_stands}
use Rattle.room_store_writes.specs.Configurations.{config_of}
use Rattle.room_store.specs.declared.store.Store.{Store}
use Rattle.room_tables_schema.specs.FileConnections.{IsClean}

-- before the reads, after them, after the write
module _ (old mid new : State) (layout : Layout) (row : FleetRow) (fate : RowFate)
    (same : HasCleanDisk mid → IsUnchanged old mid)
    (is : HasCleanDisk mid → (config : Configuration) (room : Room) → StandsInPlan old.now.trees layout config room
    → fate ≡ fate_in row config room) where
  -- what was written is what the row's fate says
  made : HasCleanDisk mid → (config : Configuration) (room : Room) (trees : Trees)
      → StandsInPlan old.now.trees layout config room
      → (Stands mid.now.trees config room → StandsAfter fate row config room trees)
      → StandsAfter (fate_in row config room) row config room trees
  made clean config room trees h wrote =
      subst (λ f. StandsAfter f row config room trees) (is clean config room h)
      (wrote (kept old mid (same clean) config room h.stands))

  pub row_enrolled : HasCleanDisk mid → Enrols mid new row (Stands mid.now.trees) (λ _ _. fate)
      → Enrols old new row (StandsInPlan old.now.trees layout) (fate_in row)
  row_enrolled clean wrote = record {
    was_open = (same clean).0.was_open;
    settled = wrote.settled;
    schema = wrote.schema;
    stands = λ config room h. made clean config room new.now.trees h (wrote.stands config room);
  }

  pub row_survives : Survives old mid (λ _. ⊥)
      → Survives mid new (λ db. (config : Configuration) (room : Room) → Stands mid.now.trees config room
      → StandsAfter fate row config room db)
      → Survives old new (λ db. (config : Configuration) (room : Room)
      → StandsInPlan old.now.trees layout config room
      → StandsAfter (fate_in row config room) row config room db)
  row_survives read wrote =
      survives_then old mid new _ _ (λ db.
      (config : Configuration) (room : Room) → StandsInPlan old.now.trees layout config room
      → StandsAfter (fate_in row config room) row config room db)
      (λ _ db none. absurd none)
      (λ clean db left config room h.
      let early : HasCleanDisk mid = omega (arith, wrote.clean) in
      made early config room db h (left config room))
      read wrote

plan_by : (fate : RowFate) (row : FleetRow) (room : Room) → (room_by fate row room).plan ≡ room.plan
plan_by Added row room = refl
plan_by Same row room = refl
plan_by (Refused e) row room = refl

module _ {S : Type 0} (g : Ghosts S) (old new : Store S) (row : FleetRow)
    (terminals : List Terminal) (room : Room) (is : IsRoom g old terminals room) where
  -- while the connection is open, the tables are those of the room
  pub in_plan : IsTrue (state g old.conn).is_open
      → StandsInPlan (state g old.conn).now.trees old.plan (config_of old.plan terminals) room
  in_plan is_open = record { stands = is.tables is_open; plan = is.plan }

  pub room_after_row : new.plan ≡ old.plan → new.terminals ≡ old.terminals → KnowsNothing new.cache
      → Enrols (state g old.conn) (state g new.conn) row
      (StandsInPlan (state g old.conn).now.trees old.plan) (fate_in row)
      → IsRoom g new (terminals_enrolled room terminals row) (room_enrolled room terminals row)
  room_after_row same same_known nothing wrote = record {
    formed = enrolled_kept room terminals row is.formed;
    fits = terminals_kept room terminals row is.fits;
    plan = rw same (plan_by (fate_of room terminals row) row room ∙ is.plan);
    known = rw same_known (still_known room terminals row old.terminals.kept.items is.known);
    cache = knows_nothing new.cache (room_enrolled room terminals row) nothing;
    tables = λ _. rw same (wrote.stands (config_of old.plan terminals) room (in_plan wrote.was_open));
  }

-- what a stop leaves of the row in the tables, it leaves of the store
pub store_survives : {S : Type 0} (g : Ghosts S) (old : Store S) (new : State) (row : FleetRow)
    → Survives (state g old.conn) new
    (λ db. (config : Configuration) (room : Room)
    → StandsInPlan (state g old.conn).now.trees old.plan config room
    → StandsAfter (fate_in row config room) row config room db)
    → Survives (state g old.conn) new
    (λ db. IsTrue (state g old.conn).is_open → (terminals : List Terminal) (room : Room)
    → IsRoom g old terminals room
    → Stands db (config_of old.plan (terminals_enrolled room terminals row))
    (room_enrolled room terminals row))
store_survives g old new row =
    survives_weaker (state g old.conn) new _ _ (λ _ db left is_open terminals room is.
    left (config_of old.plan terminals) room (in_plan g old old row terminals room is is_open))

-- the room and its terminals after a row
abbrev pub after_row : FleetRow → Room × List Terminal → Room × List Terminal
after_row row p = (room_enrolled p.0 p.1 row, terminals_enrolled p.0 p.1 row)

enrolled_then : (rows : List FleetRow) (row : FleetRow) (r : Room) (ts : List Terminal)
    → enrolled (rows ++ row ∷ []) r ts ≡ after_row row (enrolled rows r ts)
enrolled_then [] row r ts = refl
enrolled_then (x ∷ rows) row r ts = enrolled_then rows row (room_enrolled r ts x) (terminals_enrolled r ts x)

fates_then : (rows : List FleetRow) (row : FleetRow) (r : Room) (ts : List Terminal)
    → fates_of (rows ++ row ∷ []) r ts ≡ fates_of rows r ts
    ++ fate_of (room_after_rows rows r ts) (terminals_after_rows rows r ts) row ∷ []
fates_then [] row r ts = refl
fates_then (x ∷ rows) row r ts =
    ap (λ l. fate_of r ts x ∷ l) (fates_then rows row (room_enrolled r ts x) (terminals_enrolled r ts x))

-- the first rows, and the one after them
module _ (rows : List FleetRow) (i : ℕ) (row : FleetRow)
    (more : take (i + 1) rows ≡ take i rows ++ row ∷ []) where
  pub enrolled_more : (r : Room) (ts : List Terminal)
      → enrolled (take (i + 1) rows) r ts ≡ after_row row (enrolled (take i rows) r ts)
  enrolled_more r ts = ap (λ l. enrolled l r ts) more ∙ enrolled_then (take i rows) row r ts

  pub fates_more : (r : Room) (ts : List Terminal) (was mid new : List RowFate)
      → mid ≡ was ++ fates_of (take i rows) r ts
      → new ≡ mid ++ fate_of (room_after_rows (take i rows) r ts)
      (terminals_after_rows (take i rows) r ts) row ∷ []
      → new ≡ was ++ fates_of (take (i + 1) rows) r ts
  fates_more r ts was mid new before pushed =
      let one = fate_of (room_after_rows (take i rows) r ts) (terminals_after_rows (take i rows) r ts) row ∷ [] in
      pushed ∙ ap (λ l. l ++ one) before ∙ append_assoc was (fates_of (take i rows) r ts) one
      ∙ ap (λ l. was ++ l) (sym (ap (λ l. fates_of l r ts) more ∙ fates_then (take i rows) row r ts))

  -- A stop in the row after the first ones leaves what is there after some of the first rows, or
  -- after this one too.
  pub rows_survive : {S : Type 0} (g : Ghosts S) (first mid new : Store S) → mid.plan ≡ first.plan
      → (IsClean g mid.conn → IsTrue (state g first.conn).is_open
      → IsTrue (state g mid.conn).is_open)
      → (IsClean g mid.conn → (ts : List Terminal) (r : Room) → IsRoom g first ts r
      → IsRoom g mid (terminals_after_rows (take i rows) r ts)
      (room_after_rows (take i rows) r ts))
      → Survives (state g first.conn) (state g mid.conn) (MayBeEnrolled g first rows)
      → Survives (state g mid.conn) (state g new.conn)
      (λ db. IsTrue (state g mid.conn).is_open → (ts : List Terminal) (r : Room)
      → IsRoom g mid ts r → Stands db (config_of mid.plan (terminals_enrolled r ts row))
      (room_enrolled r ts row))
      → Survives (state g first.conn) (state g new.conn) (MayBeEnrolled g first rows)
  rows_survive g first mid new same still done before last =
      survives_then (state g first.conn) (state g mid.conn) (state g new.conn) _ _ (MayBeEnrolled g first rows)
      (λ _ db left. left)
      (λ clean db left is_open ts r is.
      let early : IsClean g mid.conn = omega (arith, last.clean) in
      let there = left (still early is_open) (terminals_after_rows (take i rows) r ts)
      (room_after_rows (take i rows) r ts) (done early ts r is) in (
        i + 1,
        subst (λ (p : Room × List Terminal). Stands db (config_of first.plan p.1) p.0) (sym (enrolled_more r ts))
            (rw same at there),
      ))
      before last

  -- What a stop leaves in that row, where what the first ones made was kept.
  pub rows_left : {S : Type 0} (g : Ghosts S) (first mid new : Store S) (ts : List Terminal)
      (r : Room) → mid.plan ≡ first.plan → IsKept g mid
      → IsRoom g mid (terminals_after_rows (take i rows) r ts) (room_after_rows (take i rows) r ts)
      → IsClean g new.conn
      → Survives (state g mid.conn) (state g new.conn)
      (λ db. IsTrue (state g mid.conn).is_open → (ts : List Terminal) (r : Room)
      → IsRoom g mid ts r → Stands db (config_of mid.plan (terminals_enrolled r ts row))
      (room_enrolled r ts row))
      → (db : Trees) → (state g new.conn).may_leave db
      → StandsAfterRows db first.plan rows ts r i ⊎ StandsAfterRows db first.plan rows ts r (i + 1)
  rows_left g first mid new ts r same kept is clean last db left = elim (last.crash clean db left) [
    | inl before ↦
        inl (rw same at (kept_stands g mid (terminals_after_rows (take i rows) r ts)
        (room_after_rows (take i rows) r ts) kept is db before))
    | inr after ↦
        inr (subst (λ (p : Room × List Terminal). Stands db (config_of first.plan p.1) p.0) (sym (enrolled_more r ts))
        (rw same at
        (after kept.is_open (terminals_after_rows (take i rows) r ts) (room_after_rows (take i rows) r ts) is)))
  ]
