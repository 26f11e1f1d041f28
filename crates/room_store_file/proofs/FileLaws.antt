-- A file whose tables were taken, or that was read, holds the room that it held.
use Rattle.std.proofs.Common.{IsTrue, List, [], ap, arith, inl, inr, refl, subst, sym, ◌⊎◌, ◌∙◌}
use Rattle.std.proofs.Common.{◌∷◌, ◌≡◌}
use Rattle.sqlite.specs.Effect.{Database}
use Rattle.sqlite.specs.State.{HasCleanDisk, State}
use Rattle.sqlite_schema.specs.declared.schema.Schema.{Schema}
use Rattle.sqlite_schema.specs.declared.schema.Table.{Table}
use Rattle.sqlite_catalog.specs.Change.{KeepsRows}
use Rattle.sqlite_trees.specs.Tree.{Trees}
use Rattle.room_tables_schema.proofs.Standing.{holds_still}
use Rattle.room_model.specs.Room.{Room}
use Rattle.room_tables_schema.specs.Schema.{room_schema, room_tables, tables_schema}
use Rattle.room_tables.specs.RoomsInTables.{Configuration, Stands}
use Rattle.room_store_writes.specs.Transactions.{Leaves}
use Rattle.room_store_file.specs.OpenedFile.{KeepsAllRows, KeepsFile, MayBeIndexed, MayBeMoved}
use Rattle.room_store_file.specs.OpenedFile.{MayBecome, Moves, Opens, Takes, schema_of}
use Rattle.room_store_check_tables.specs.HeldRooms.{WritesNothing}
use Rattle.room_store_file.specs.declared.room_in_tables.Tables.{Tables}
use Rattle.room_store_file.specs.declared.room_in_tables.Tables.TheVariants.{First, FirstUnindexed}
use Rattle.room_store_file.specs.declared.room_in_tables.Tables.TheVariants.{Unindexed, Whole}

module _ (old new : Trees) where
  -- tables that keep their rows stand for the same room
  pub rows_kept : KeepsRows room_tables old new → (config : Configuration) (room : Room)
      → Stands old config room → Stands new config room
  rows_kept k config room h = record {
    meta = holds_still _ _ _ _ _ k.0 h.meta;
    areas = holds_still _ _ _ _ _ k.1.0 h.areas;
    terminals = holds_still _ _ _ _ _ k.1.1.0 h.terminals;
    divisions = holds_still _ _ _ _ _ k.1.1.1.0 h.divisions;
    incidents = holds_still _ _ _ _ _ k.1.1.1.1.0 h.incidents;
    calls = holds_still _ _ _ _ _ k.1.1.1.1.1.0 h.calls;
    vehicles = holds_still _ _ _ _ _ k.1.1.1.1.1.1.0 h.vehicles;
    turns = holds_still _ _ _ _ _ k.1.1.1.1.1.1.1.0 h.turns;
    assignments = holds_still _ _ _ _ _ k.1.1.1.1.1.1.1.1.0 h.assignments;
    points = holds_still _ _ _ _ _ k.1.1.1.1.1.1.1.1.1.0 h.points;
    loans = holds_still _ _ _ _ _ k.1.1.1.1.1.1.1.1.1.1.0 h.loans;
    reports = holds_still _ _ _ _ _ k.1.1.1.1.1.1.1.1.1.1.1.0 h.reports;
    offers = holds_still _ _ _ _ _ k.1.1.1.1.1.1.1.1.1.1.1.1.0 h.offers;
  }

keeps_none : (tables : List Table) (trees : Trees) → KeepsRows tables trees trees
keeps_none [] trees = tt
keeps_none (t ∷ ts) trees = (refl, keeps_none ts trees)

-- tables that are as they were have all their rows
pub all_rows : (before after : Database) → after ≡ before → KeepsAllRows before after
all_rows before after same =
    subst (KeepsAllRows before) (sym same)
    (record { tables = refl; rows = keeps_none before.schema.tables before.trees })

rows_indexed : (before after : Database) → before.schema ≡ tables_schema
    → after.schema ≡ room_schema → KeepsRows room_tables before.trees after.trees
    → KeepsAllRows before after
rows_indexed before after only_tables made rows =
    let tables = ap (λ (s : Schema). s.tables) only_tables in
    record {
      tables = ap (λ (s : Schema). s.tables) made ∙ sym tables;
      rows = subst (λ ts. KeepsRows ts before.trees after.trees) (sym tables) rows;
    }

-- tables that keep all rows, and are a room's afterwards, stand for what they stood for
pub stands_before : (before after : Database) → after.schema ≡ room_schema
    → KeepsAllRows before after → (config : Configuration) (room : Room) → Stands before.trees config room
    → Stands after.trees config room
stands_before before after is kept =
    rows_kept before.trees after.trees
    (subst (λ ts. KeepsRows ts before.trees after.trees) (sym kept.tables ∙ ap (λ (s : Schema). s.tables) is) kept.rows)

same_database : (a b : Database) → a.schema ≡ b.schema → a.trees ≡ b.trees → a ≡ b
same_database a b schema trees i = record { schema = schema i; trees = trees i }

module _ (old new : State) where
  -- what leaves all opens the file
  left_opens : Leaves old new → KeepsFile old new
  left_opens left = record {
    was_open = left.was_open;
    rows = λ is_open. all_rows old.now new.now (left.now_is is_open);
    committed_rows = λ is_open. all_rows old.committed new.committed (left.committed_is is_open);
    untouched = λ _. left;
  }

  -- a file that is taken with a room's tables is opened
  pub takes_opens : (tables : Tables) → old.now.schema ≡ schema_of tables
      → (tables ≡ Whole) ⊎ (tables ≡ Unindexed) → (IsTrue old.is_open → old.now ≡ old.committed)
      → Takes tables old new → Opens old new
  takes_opens Whole has is settled it =
      let now : new.now ≡ old.now = same_database new.now old.now (it.schema ∙ sym has) it.becomes in
      record {
        settled = it.settled;
        schema = it.schema;
        kept = left_opens (record {
          was_open = λ _. it.was_open;
          now_is = λ _. now;
          committed_is =
              λ _. it.settled.committed ∙ now ∙ settled it.was_open;
        });
      }
  takes_opens Unindexed has is settled it =
      let rows = rows_indexed old.now new.now has it.schema it.becomes in
      record {
        settled = it.settled;
        schema = it.schema;
        kept = record {
          was_open = λ _. it.was_open;
          rows = λ _. rows;
          committed_rows =
              λ _.
              subst (KeepsAllRows old.committed) (sym it.settled.committed)
              (subst (λ (db : Database). KeepsAllRows db new.now) (settled it.was_open) rows);
          untouched = λ other. absurd (other has);
        };
      }
  takes_opens First has is settled it = absurd (elim is [ inl e ↦ (let x = e in cc) | inr e ↦ (let x = e in cc) ])
  takes_opens FirstUnindexed has is settled it =
      absurd (elim is [ inl e ↦ (let x = e in cc) | inr e ↦ (let x = e in cc) ])

  -- and one that is taken with the first version's is moved
  pub takes_moves : (tables : Tables) → old.now.schema ≡ schema_of tables
      → (tables ≡ First) ⊎ (tables ≡ FirstUnindexed) → Takes tables old new → Moves old new
  takes_moves Whole has is it = absurd (elim is [ inl e ↦ (let x = e in cc) | inr e ↦ (let x = e in cc) ])
  takes_moves Unindexed has is it = absurd (elim is [ inl e ↦ (let x = e in cc) | inr e ↦ (let x = e in cc) ])
  takes_moves First has is it =
      record { settled = it.settled; schema = it.schema; moved = record { first = inl has; moved = it.becomes } }
  takes_moves FirstUnindexed has is it =
      record { settled = it.settled; schema = it.schema; moved = record { first = inr has; moved = it.becomes } }

-- what a stop may leave of a file that is opened
pub may_be_indexed : (tables : Tables) (before : Database) (trees : Trees)
    → before.schema ≡ schema_of tables → (tables ≡ Whole) ⊎ (tables ≡ Unindexed)
    → MayBecome tables before.trees trees → MayBeIndexed before trees
may_be_indexed Whole before trees has is none = absurd none
may_be_indexed Unindexed before trees has is rows = record {
  only_tables = has;
  rows = subst (λ ts. KeepsRows ts before.trees trees) (sym (ap (λ (s : Schema). s.tables) has)) rows;
}
may_be_indexed First before trees has is b = absurd (elim is [ inl e ↦ (let x = e in cc) | inr e ↦ (let x = e in cc) ])
may_be_indexed FirstUnindexed before trees has is b =
    absurd (elim is [ inl e ↦ (let x = e in cc) | inr e ↦ (let x = e in cc) ])

-- and of one that is moved
pub may_be_moved : (tables : Tables) (before : Database) (trees : Trees)
    → before.schema ≡ schema_of tables → (tables ≡ First) ⊎ (tables ≡ FirstUnindexed)
    → MayBecome tables before.trees trees → MayBeMoved before trees
may_be_moved Whole before trees has is b = absurd (elim is [ inl e ↦ (let x = e in cc) | inr e ↦ (let x = e in cc) ])
may_be_moved Unindexed before trees has is b =
    absurd (elim is [ inl e ↦ (let x = e in cc) | inr e ↦ (let x = e in cc) ])
may_be_moved First before trees has is b = record { first = inl has; moved = b }
may_be_moved FirstUnindexed before trees has is b = record { first = inr has; moved = b }

module _ (old mid new : State) where
  pub left_left : Leaves old mid → Leaves mid new → Leaves old new
  left_left one two = record {
    was_open = λ is_open. one.was_open (two.was_open is_open);
    now_is = λ is_open. two.now_is is_open ∙ one.now_is (two.was_open is_open);
    committed_is = λ is_open. two.committed_is is_open ∙ one.committed_is (two.was_open is_open);
  }

  -- what is left and then opened is opened
  pub left_then_opens : mid.now ≡ old.now → Leaves old mid → KeepsFile mid new → KeepsFile old new
  left_then_opens same left opens = record {
    was_open = λ is_open. left.was_open (opens.was_open is_open);
    rows = λ is_open. subst (λ (db : Database). KeepsAllRows db new.now) same (opens.rows is_open);
    committed_rows =
        λ is_open.
        subst (λ (db : Database). KeepsAllRows db new.committed) (left.committed_is (opens.was_open is_open))
        (opens.committed_rows is_open);
    untouched = λ other.
        let two = opens.untouched
        (λ only_tables. other (subst (λ (db : Database). db.schema ≡ tables_schema) same only_tables)) in
        left_left left two;
  }

  -- what is looked at and then moved is moved
  pub moves_before : mid.now ≡ old.now → Moves mid new → Moves old new
  moves_before same it = record {
    settled = it.settled;
    schema = it.schema;
    moved = subst (λ (db : Database). MayBeMoved db new.now.trees) same it.moved;
  }

  -- after one look and another the tables are as they were
  pub looked_on : WritesNothing mid new → (HasCleanDisk mid → mid.now ≡ old.now)
      → (HasCleanDisk new → new.now ≡ mid.now) → HasCleanDisk new → new.now ≡ old.now
  looked_on nothing one two clean =
      let early : HasCleanDisk mid = omega (arith, nothing.survives.clean) in two clean ∙ one early
