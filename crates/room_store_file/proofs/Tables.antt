-- Whole tables read, one after another.
use Rattle.std.proofs.Common.{◌≡◌, ◌+◌, ◌<◌, ◌⊎◌, inl, inr, ℕ, List, [], ◌∷◌, Bool, true, Ok}
use Rattle.std.proofs.Common.{Result, refl, sym, subst, ap, ◌∙◌, arith, []}
use Rattle.std.specs.List.{flat_map}
use Rattle.sha2.specs.declared.Sha256.{Sha256}
use Rattle.sqlite.specs.Held.{Held, state}
use Rattle.sqlite.specs.State.{Shown, State}
use Rattle.sqlite_trees.specs.Tree.{Trees}
use Rattle.sqlite_trees.specs.declared.store.Store.{Ghosts}
use Rattle.sqlite_trees.proofs.ListLemmas.{all_of, filter_all}
use Rattle.sqlite_value.specs.Order.{Row}
use Rattle.room_tables_schema.specs.FileConnections.{HasRoomSchema, IsClean}
use Rattle.room_tables_schema.specs.Schema.{room_schema}
use Rattle.room_tables_schema.specs.Outcomes.{ReadsInside}
use Rattle.room_tables_schema.proofs.ReadLaws.{ends_inside}
use Rattle.room_tables_schema.proofs.Selections.{selected}
use Rattle.room_tables.proofs.Inside.{inside_then}
use Rattle.room_store_file.specs.RowHash.{Adds}
use Rattle.room_store_file.specs.WholeTableTexts.{ReadEach, ReadsTable}
use Rattle.room_store_file.specs.DigestTexts.{table_text}
use Rattle.room_store_file.proofs.Added.{Adding, all_left, less_left, none_left}

-- what a text shows is the table that it reads
pub shown_is : (text : List ℕ) (old new : State) (shown rows : List Row)
    → old.now.schema ≡ room_schema → Shown text [] old new shown
    → ReadsTable text old.now.trees rows → shown ≡ rows
shown_is text old new shown rows has shows it =
    let every : Row → Bool = λ r. true in
    selected room_schema text it.tree it.key it.more [] it.selects old new [] shown has shows rows every it.stands
    (λ r. refl) ∙ filter_all every rows (all_of _ (λ r. refl) rows)

-- ---- what was read

-- all was read as it was to be
abbrev pub Looked : {S : Type 0} → Ghosts S → Held S → Held S → Type 0
Looked g old new = ReadsInside {T = Unit {0}} {E = Unit {0}} g old new (Ok tt)

-- after so many reads: there was none yet, or all was read as it was to be
abbrev pub SoFar : {S : Type 0} → Ghosts S → Held S → ℕ → Held S → Type 0
SoFar g start reads now = ((reads ≡ 0) × (now ≡ start)) ⊎ Looked g start now

module _ {S : Type 0} {g : Ghosts S} {a b : Held S} {reads : ℕ} where
  pub still_room : HasRoomSchema g a → SoFar g a reads b → HasRoomSchema g b
  still_room room (inl none) clean = subst (HasRoomSchema g) (sym none.1) room clean
  still_room room (inr it) clean =
      let early : IsClean g a = omega (arith, it.survives.clean) in
      ap (λ db. db.schema) (it.ok clean).0.now_is ∙ room early

  pub trees_stay : SoFar g a reads b → IsClean g b
      → (state g b).now.trees ≡ (state g a).now.trees
  trees_stay (inl none) clean = ap (λ h. (state g h).now.trees) none.1
  trees_stay (inr it) clean = ap (λ db. db.trees) (it.ok clean).0.now_is

  pub read_through : {T E : Type 0} {x : T} → 0 < reads → SoFar g a reads b
      → ReadsInside {T = T} {E = E} g a b (Ok x)
  read_through some (inl none) = absurd (omega arith)
  read_through some (inr it) = ends_inside (Ok _) it

module _ {S : Type 0} {g : Ghosts S} {a b c : Held S} {reads : ℕ} {T E : Type 0} where
  -- the next read succeeds or fails
  pub read_on : SoFar g a reads b → (r : Result T E) → ReadsInside g b c r → ReadsInside g a c r
  read_on (inl none) r next = subst (λ h. ReadsInside g h c r) none.1 next
  read_on (inr it) r next = inside_then it r next

  pub one_more : {x : T} → SoFar g a reads b → ReadsInside {T = T} {E = E} g b c (Ok x)
      → SoFar g a (reads + 1) c
  one_more before next = inr (ends_inside (Ok tt) (read_on before (Ok _) next))

-- ---- what was added

-- the tables that are left are those that these texts read, and what was read before them was added
abbrev pub Left : List (List ℕ) → Trees → Sha256 → Sha256 → List ℕ → Type 0
Left texts trees old now all =
    (tables : List (List Row)) × ReadEach texts trees tables × Adding old now all (flat_map table_text tables)

module _ (trees : Trees) where
  pub left_all : (a : Sha256) (texts : List (List ℕ)) (tables : List (List Row))
      → ReadEach texts trees tables → Left texts trees a a (flat_map table_text tables)
  left_all a texts tables h = (tables, h, all_left)

  pub left_next : {a b c : Sha256} {all : List ℕ} (text : List ℕ) (texts : List (List ℕ))
      → Left (text ∷ texts) trees a b all
      → ((rows : List Row) → ReadsTable text trees rows → Adds b c (table_text rows))
      → Left texts trees a c all
  left_next text texts ([], reads, adding) next = absurd reads
  left_next text texts (rows ∷ tables, reads, adding) next =
      (tables, reads.1, less_left refl adding (next rows reads.0))

  pub left_none : {a b : Sha256} {all : List ℕ} → Left [] trees a b all → Adds a b all
  left_none ([], reads, adding) = none_left refl adding
  left_none (rows ∷ tables, reads, adding) = absurd reads
