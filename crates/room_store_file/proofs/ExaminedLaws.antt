-- What was found of rows and terminals is reported of their file.
use Rattle.std.proofs.Common.{List, [], inl, inr, refl, subst, sym, ◌∷◌, ◌≡◌, ◌⊎◌}
use Rattle.std.specs.List.{AllByRecursion}
use Rattle.sqlite.specs.Effect.{Database}
use Rattle.sqlite_catalog.specs.Change.{KeepsRows}
use Rattle.sqlite_schema.specs.declared.schema.Table.{Table}
use Rattle.sqlite_trees.specs.Tree.{Trees}
use Rattle.room_place.specs.Plans.{Layout}
use Rattle.room_types.specs.declared.fleet.Terminal.{Terminal}
use Rattle.room_types.specs.declared.slices.DivisionRows.{DivisionRows}
use Rattle.room_model.specs.Room.{Room}
use Rattle.room_model.specs.RoomSlices.{room_of}
use Rattle.room_tables.specs.RoomsInTables.{Configuration, Stands}
use Rattle.room_tables_schema.specs.Schema.{room_tables}
use Rattle.room_tables_schema.specs.Versions.{HasTables}
use Rattle.room_tables_schema.proofs.Standing.{holds_still}
use Rattle.room_tables_schema.specs.TableTrees.{AreNumbered}
use Rattle.room_store_writes.specs.Configurations.{config_of}
use Rattle.room_store_file.specs.ExaminedFile.{Explains, IsReportedFirst, Weighs, wrong_of}
use Rattle.room_store_file.specs.OpenedFile.{HasNoPlanBy, IsOldRoom, StandsBy}
use Rattle.room_store_check_tables.specs.HeldRooms.{HasNoPlan}
use Rattle.room_store_file.specs.declared.examined_file.Wrong.{Wrong}
use Rattle.room_store_file.specs.declared.examined_file.Wrong.TheVariants as wrong
use Rattle.room_store_file.specs.declared.room_in_tables.Tables.{Tables}
use Rattle.room_store_file.specs.declared.room_in_tables.Tables.TheVariants.{Unindexed, Whole}
use Rattle.room_store_check_tables.specs.declared.file_faults.FileFault.{FileFault}
use Rattle.room_store_check_tables.specs.declared.file_faults.FileFault.TheVariants.{Memory}
use Rattle.room_store_check_tables.specs.declared.file_faults.FileFault.TheVariants.{NotARoom}
use Rattle.room_store_check_tables.specs.declared.file_faults.FileFault.TheVariants.{Storage}

pub weighed : (now : Database) → HasTables now.schema → (plan : Layout) (rows : DivisionRows)
    (terminals : List Terminal)
    → Stands now.trees (config_of plan terminals) (room_of plan.areas rows) → (e : Wrong)
    → Weighs plan.areas rows terminals e → Explains now e
weighed now has plan rows terminals stands (wrong.Rows x) h =
    (has, (plan, record { rows = rows; terminals = terminals; stands = stands; says = h }))
weighed now has plan rows terminals stands (wrong.Terminals x) h =
    (has, (plan, record { rows = rows; terminals = terminals; stands = stands; says = h }))
weighed now has plan rows terminals stands wrong.Memory h = tt
weighed now has plan rows terminals stands wrong.Storage h = absurd h
weighed now has plan rows terminals stands wrong.OldRoom h = absurd h
weighed now has plan rows terminals stands wrong.Tables h = absurd h
weighed now has plan rows terminals stands wrong.NoPlan h = absurd h

pub read_fault : (now : Database) → HasTables now.schema → (e : FileFault)
    → (e ≡ NotARoom → HasNoPlan now.trees) → Explains now (wrong_of e)
read_fault now has NotARoom none = (has, none refl)
read_fault now has Memory none = tt
read_fault now has Storage none = has

-- whatever is reported of what is no old room may be reported of it first
pub not_older : (now : Database) → ¬ IsOldRoom now → (e : Wrong) → IsReportedFirst now e
not_older now none wrong.OldRoom = tt
not_older now none wrong.Memory = tt
not_older now none wrong.Tables = none
not_older now none wrong.NoPlan = none
not_older now none (wrong.Rows x) = none
not_older now none (wrong.Terminals x) = none
not_older now none wrong.Storage = none

-- storage is reported where it was met
pub storage_reported : (e : FileFault) → wrong_of e ≡ wrong.Storage → e ≡ Storage
storage_reported NotARoom is = cc
storage_reported Memory is = cc
storage_reported Storage is = refl

-- tables that keep their rows number them as before
still_numbered : (tables : List Table) (old new : Trees) → KeepsRows tables old new
    → AllByRecursion (λ t. AreNumbered (old t.tree)) tables
    → AllByRecursion (λ t. AreNumbered (new t.tree)) tables
still_numbered [] old new rows all = tt
still_numbered (t ∷ ts) old new rows all =
    (subst AreNumbered (sym rows.0) all.0, still_numbered ts old new rows.1 all.1)

-- and make no plan if they made none
still_planless : (old new : Trees) → KeepsRows room_tables old new → HasNoPlan new → HasNoPlan old
still_planless old new rows (inl not) = inl (λ all. not (still_numbered room_tables old new rows all))
still_planless old new rows (inr none) = inr (record {
  areas = none.areas;
  zone = none.zone;
  areas_are = holds_still _ _ _ _ _ (sym rows.1.0) none.areas_are;
  meta = holds_still _ _ _ _ _ (sym rows.0) none.meta;
  no_plan = none.no_plan;
})

-- so tables of this version make no plan where what they become makes none
pub no_plan_new : (tables : Tables) (trees : Trees) → (tables ≡ Whole) ⊎ (tables ≡ Unindexed)
    → HasNoPlanBy tables trees → HasNoPlan trees
no_plan_new tables trees (inl is) none = let h = subst (λ t. HasNoPlanBy t trees) is none in subst HasNoPlan h.1 h.2
no_plan_new tables trees (inr is) none =
    let h = subst (λ t. HasNoPlanBy t trees) is none in still_planless trees h.0 h.1 h.2

-- tables of this version stand for what a room's tables do
pub stands_new : (tables : Tables) (trees : Trees) (config : Configuration) (room : Room)
    → (tables ≡ Whole) ⊎ (tables ≡ Unindexed) → StandsBy tables trees config room
    → Stands trees config room
stands_new tables trees config room (inl is) h = subst (λ t. StandsBy t trees config room) is h
stands_new tables trees config room (inr is) h = subst (λ t. StandsBy t trees config room) is h
