-- What stands before the rows: the version and the zone, and the areas of the plan one after
-- another.
use Rattle.std.proofs.Common.{◌≡◌, ◌++◌, ℕ, List, [], ◌∷◌, map, Ok, sym, subst, arith}
use Rattle.std.specs.Ordering.{nat_cmp}
use Rattle.sqlite_value.specs.Order.{Row}
use Rattle.sqlite.specs.State.{State, Executes, Shown}
use Rattle.room_tables_schema.specs.Outcomes.{Inside, Only}
use Rattle.room_tables_schema.specs.TableTrees.{AreNumbered}
use Rattle.room_tables_schema.specs.Statements.{rowid_values, rowid_update}
use Rattle.room_tables_schema.proofs.Standing.{holds_none}
use Rattle.room_tables_schema.proofs.TypedTables.{upsert_puts}
use Rattle.room_tables_schema.proofs.Upserts.{upserted_schema}
use Rattle.room_place.specs.declared.plans.Area.{Area}
use Rattle.room_tables_rows.specs.MetaSql.{meta_key, meta_row, version_row}
use Rattle.room_tables_rows.specs.AreaSql.{area_key, area_row}
use Rattle.room_tables_rows.proofs.RowLaws.{meta_faithful, pair_faithful, pair_row, area_faithful}
use Rattle.room_model.specs.Room.{Room}
use Rattle.room_tables_schema.specs.Definitions.{IsBlank}
use Rattle.room_tables_schema.specs.Schema.{room_schema, meta_table, areas_table}
use Rattle.room_tables_rows.specs.declared.meta_sql.TheConstants.{PUT_META}
use Rattle.room_tables_rows.specs.declared.area_sql.TheConstants.{ALL_AREAS, PUT_AREA}
use Rattle.room_tables_rows.specs.RoomsInTables.{Configuration, Stands, StandsFor, numbered}
use Rattle.room_tables_rows.specs.RoomsInTables.{empty_room}
use Rattle.room_tables_rows.specs.Writes.{Changes, AppendsArea}
use Rattle.room_tables_rows.proofs.Kept.{with_meta, with_areas, with_first}
use Rattle.room_tables_rows.proofs.Puts.{put_changes}
use Rattle.room_tables_rows.proofs.PlanLaws.{numbered-keyed, numbered-injective, put_row-numbered}
use Rattle.room_tables_rows.proofs.MetaTable.{meta_apart, meta_held, meta_puts, put_meta_means}
use Rattle.room_tables_rows.proofs.MetaTable.{meta_stores}
use Rattle.room_tables_rows.proofs.AreasTable.{all_areas_are, areas_apart, put_area_means}
use Rattle.room_tables_rows.proofs.AreasTable.{area_stores}

module _ (zone : List ℕ) (old new : State) (count : ℕ) (has : old.now.schema ≡ room_schema)
    (inside : Inside old new) (ran : Executes PUT_META.now (meta_row zone) old new (Ok count)) where
  pub put_meta_makes : Changes old new (λ config. record config { zone = zone }) (λ room. room)
  put_meta_makes =
      put_changes meta_held PUT_META.now meta_puts zone (λ config. record config { zone = zone }) (λ room. room)
      (λ old new config room h only is. with_meta old new config room h only zone is) old new count has inside ran

  pub put_meta_begins : IsBlank old.now.trees
      → Stands new.now.trees (record { zone = zone; terminals = [] }) empty_room
  put_meta_begins blank =
      let it = upsert_puts nat_cmp meta_key meta_row room_schema PUT_META.now old new 0 meta_table (0 ∷ 2 ∷ 3 ∷ [])
      (0 ∷ []) 3 (rowid_values 3) (rowid_update 3) count zone [] meta_apart put_meta_means meta_faithful
      (meta_stores zone) has ran
      (holds_none (0 ∷ 2 ∷ 3 ∷ []) (0 ∷ []) (old.now.trees 0) blank.meta) in
      with_first old.now new.now blank it.0 zone it.1

-- whichever version and zone were given, this version and this zone are given instead, and nothing
-- else changes
pub put_meta_renews : (version : ℕ) (was zone : List ℕ) (old new : State) (count : ℕ)
    → old.now.schema ≡ room_schema → Executes PUT_META.now (meta_row zone) old new (Ok count)
    → StandsFor old.now.trees meta_table (version_row version) (was ∷ [])
    → Only room_schema 0 old.now new.now × StandsFor new.now.trees meta_table meta_row (zone ∷ [])
put_meta_renews version was zone old new count has ran h =
    upsert_puts nat_cmp _ pair_row room_schema PUT_META.now old new 0 meta_table (0 ∷ 2 ∷ 3 ∷ []) (0 ∷ []) 3
    (rowid_values 3) (rowid_update 3) count (2, zone) ((version, was) ∷ []) meta_apart put_meta_means pair_faithful
    (meta_stores zone) has ran h

pub put_area_makes : (at : ℕ) (area : Area) (old new : State) (count : ℕ)
    → old.now.schema ≡ room_schema → Inside old new
    → Executes PUT_AREA.now (area_row (at, area)) old new (Ok count) → AppendsArea old new at area
put_area_makes at area old new count has inside ran = record {
  inside = inside;
  schema =
      upserted_schema room_schema PUT_AREA.now 1 areas_table areas_apart (0 ∷ 2 ∷ 3 ∷ 4 ∷ 5 ∷ 6 ∷ []) (0 ∷ []) 6
      (rowid_values 6) (rowid_update 6) put_area_means (area_row (at, area)) (area_stores (at, area)) old new count has
      ran;
  stands = λ config room h next.
      let it = upsert_puts nat_cmp area_key area_row room_schema PUT_AREA.now old new 1 areas_table
      (0 ∷ 2 ∷ 3 ∷ 4 ∷ 5 ∷ 6 ∷ []) (0 ∷ []) 6 (rowid_values 6) (rowid_update 6) count (at, area) (numbered 1 room.plan)
      areas_apart put_area_means area_faithful (area_stores (at, area)) has ran h.areas in
      with_areas old.now new.now config room h it.0 (room.plan ++ area ∷ [])
      (subst (λ xs. StandsFor new.now.trees areas_table area_row xs)
      (put_row-numbered 1 at room.plan area (omega arith)) it.1);
}

module _ (areas : List Area) (old new : State) (shown : List Row)
    (has : old.now.schema ≡ room_schema) (shows : Shown ALL_AREAS.now [] old new shown)
    (is : map area_row (numbered 1 areas) ≡ shown) where
  -- the areas that were read are in the rows ..
  pub areas_found : AreNumbered (old.now.trees 1)
      → StandsFor old.now.trees areas_table area_row (numbered 1 areas)
  areas_found =
      (all_areas_are old new (numbered 1 areas) has (subst (Shown ALL_AREAS.now [] old new) (sym is) shows)
      (numbered-keyed 1 areas)).0

  -- .. and are the plan's
  pub areas_are : (config : Configuration) (room : Room) → Stands old.now.trees config room
      → areas ≡ room.plan
  areas_are config room h =
      numbered-injective 1 areas room.plan ((all_areas_are old new (numbered 1 areas) has
      (subst (Shown ALL_AREAS.now [] old new) (sym is) shows) (numbered-keyed 1 areas)).1 config room h)
