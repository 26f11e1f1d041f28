-- Which version a file gives, going only by its table `meta`, and its zone.
use Rattle.std.proofs.Common.{◌≡◌, ℕ, List, [], ◌∷◌, map, true, Some, ap, refl, IsPermutation}
use Rattle.std.proofs.Common.{slice_get}
use Rattle.std.proofs.lemmas.List.Sorted.{IsPermutation-sym}
use Rattle.sqlite_tied.specs.Compute.{everything}
use Rattle.sqlite_value.specs.Order.{Row, column}
use Rattle.sqlite_schema.specs.declared.schema.Table.{Table}
use Rattle.sqlite_schema.specs.declared.schema.Index.{Index}
use Rattle.sqlite_schema.specs.declared.schema.View.{View}
use Rattle.sqlite_schema.specs.declared.schema.Schema.{Schema}
use Rattle.sqlite_trees.specs.Tree.{Trees, rowid}
use Rattle.sqlite_trees.specs.View.{is_int}
use Rattle.sqlite.specs.Listing.{understood}
use Rattle.sqlite.specs.State.{State, Shown}
use Rattle.sqlite.proofs.Callers.{one_permutation}
use Rattle.room_tables_schema.specs.Statements.{Selects}
use Rattle.room_tables_schema.specs.TableTrees.{cells}
use Rattle.room_tables_schema.proofs.Selections.{shows_all}
use Rattle.room_tables_schema.specs.Schema.{meta_table}
use Rattle.room_tables_schema.specs.Versions.{BeginsAsRoom}
use Rattle.room_tables_rows.specs.MetaSql.{version_row}
use Rattle.room_tables_rows.specs.RoomsInTables.{StandsFor}
use Rattle.room_tables_rows.specs.MetaVersions.{IsOfVersion, OneShows}
use Rattle.room_tables_rows.specs.declared.meta_sql.TheConstants.{ALL_META}

-- The text selects all of `meta`, whatever tables and indexes stand behind it ..
behind : (others : List Table) (indexes : List Index)
    → Selects (record { tables = meta_table ∷ others; indexes = indexes; views = [] }) ALL_META.now
    0 (0 ∷ 2 ∷ 3 ∷ []) (0 ∷ []) []
unfolding understood everything
behind others indexes = record { names = _; command = refl; plain = (refl, refl); unlisted = refl }

-- .. so it does in each schema that begins as a room's
pub all_meta_begins : (schema : Schema) → BeginsAsRoom schema
    → Selects schema ALL_META.now 0 (0 ∷ 2 ∷ 3 ∷ []) (0 ∷ []) []
all_meta_begins schema begins = go schema.tables schema.indexes schema.views begins.0 begins.1
  where
    go : (tables : List Table) (indexes : List Index) (views : List View)
        → slice_get tables 0 ≡ Some meta_table → views ≡ []
        → Selects (record { tables = tables; indexes = indexes; views = views }) ALL_META.now 0
        (0 ∷ 2 ∷ 3 ∷ []) (0 ∷ []) []
    go [] indexes views first none = cc
    go (t ∷ others) indexes views first none =
        let is : t ≡ meta_table = cc in
        rw (is, none) (behind others indexes)

-- a tree that shows one row has one
one_held : (tree : List Row) (shown : Row) → map (cells (0 ∷ 2 ∷ 3 ∷ [])) tree ≡ shown ∷ []
    → (row : Row) × (tree ≡ row ∷ []) × (cells (0 ∷ 2 ∷ 3 ∷ []) row ≡ shown)
one_held [] shown is = cc
one_held (r ∷ []) shown is = (r, refl, cc)
one_held (r ∷ s ∷ more) shown is = cc

-- tables that hold the row of a version give it
pub held_shown : (version : ℕ) (zone : List ℕ) (trees : Trees)
    → StandsFor trees meta_table (version_row version) (zone ∷ []) → IsOfVersion version trees
held_shown version zone trees h =
    let one = one_held (trees 0) (version_row version zone) (one_permutation _ _ (IsPermutation-sym _ _ h.same)) in
    record { row = one.0; only_row = one.1; version_is = ap (λ (r : Row). column r 1) one.2 }

module _ (old new : State) (shown : List Row) (begins : BeginsAsRoom old.now.schema)
    (shows : Shown ALL_META.now [] old new shown) where
  all_are : IsPermutation (map (cells (0 ∷ 2 ∷ 3 ∷ [])) (old.now.trees 0)) shown
  all_are =
      (shows_all old.now.schema ALL_META.now old new 0 (0 ∷ []) (2 ∷ 3 ∷ []) [] shown
      (all_meta_begins old.now.schema begins) refl shows).0

  module _ (version : ℕ) where
    pub shows_version : IsOfVersion version old.now.trees → OneShows version shown
    shows_version is =
        let same : IsPermutation (cells (0 ∷ 2 ∷ 3 ∷ []) is.row ∷ []) shown = rw is.only_row at all_are in
        rw (one_permutation _ _ same) is.version_is

    pub version_shown : OneShows version shown → IsOfVersion version old.now.trees
    version_shown = go shown all_are
      where
        go : (rows : List Row) → IsPermutation
            (map (cells (0 ∷ 2 ∷ 3 ∷ [])) (old.now.trees 0)) rows → OneShows version rows
            → IsOfVersion version old.now.trees
        go [] same none = absurd none
        go (row ∷ []) same version_is =
            let one = one_held (old.now.trees 0) row (one_permutation row _ (IsPermutation-sym _ _ same)) in
            record { row = one.0; only_row = one.1; version_is = rw (← one.2) at version_is }
        go (r ∷ s ∷ more) same none = absurd none

  -- one row that gives a version and a zone is what the table holds
  pub version_found : (version : ℕ) (zone : List ℕ) → version_row version zone ∷ [] ≡ shown
      → StandsFor old.now.trees meta_table (version_row version) (zone ∷ [])
  version_found version zone is =
      let all : IsPermutation (map (cells (0 ∷ 2 ∷ 3 ∷ [])) (old.now.trees 0)) (version_row version zone ∷ []) = rw is
      all_are in
      let one = one_held (old.now.trees 0) (version_row version zone)
      (one_permutation _ _ (IsPermutation-sym _ _ all)) in
      let numbered : is_int (rowid one.0) ≡ true = ap (λ (r : Row). is_int (column r 0)) one.2 in
      record { numbered = rw one.1 ((tt, tt), (numbered, tt)); same = all; rises = (tt, tt) }
