-- What was found of a file, and what a fault says of it.
use Rattle.std.proofs.Common.{Err, List, Ok, Result, ap, inl, inr, rules, subst, sym, true≢false}
use Rattle.std.proofs.Common.{◌∙◌, ◌≡◌, ◌⊎◌}
use Rattle.std.proofs.lemmas.Result.{IfErr-weaker}
use Rattle.std.specs.Prelude.{IfErr, IfOk, OnOk}
use Rattle.std.specs.Result.{IsErr, IsErrAnd}
use Rattle.sqlite_trees.specs.Tree.{Trees}
use Rattle.room_model.specs.Room.{Room}
use Rattle.room_tables_schema.specs.declared.database_faults.Fault.{Fault}
use Rattle.room_tables_schema.specs.declared.database_faults.Fault.TheVariants as faults
use Rattle.room_tables.specs.Failures.{IfStorage}
use Rattle.room_tables.specs.Rowids.{AreAllNumbered}
use Rattle.room_tables.specs.RoomsInTables.{Configuration, Stands}
use Rattle.room_store_check_tables.specs.HeldRooms.{HasConfiguration, HasRows, HoldsRoom}
use Rattle.room_store_check_tables.specs.HeldRooms.{MakesNoPlan, take_fault}
use Rattle.room_store_check_tables.specs.declared.file_faults.FileFault.{FileFault}
use Rattle.room_store_check_tables.specs.declared.file_faults.FileFault.TheVariants.{Memory}
use Rattle.room_store_check_tables.specs.declared.file_faults.FileFault.TheVariants.{NotARoom}
use Rattle.room_store_check_tables.specs.declared.file_faults.FileFault.TheVariants.{Storage}
use Rattle.room_place.specs.Plans.{Layout}
use Rattle.room_types.specs.declared.fleet.Terminal.{Terminal}
use Rattle.room_types.specs.declared.slices.DivisionRows.{DivisionRows}
use Rattle.room_model.specs.FleetRows.{AreTerminals}
use Rattle.room_model.specs.RoomSlices.{room_of}
use Rattle.room_model.specs.RoomAgreements.{IsWellFormed}
use Rattle.room_tables_rows.proofs.Moves.{one_zone}
use Rattle.room_tables_rows.proofs.OneRoom.{one_config, one_room}
use Rattle.room_tables_rows.proofs.PlanLaws.{numbered-injective}
use Rattle.room_tables_rows.proofs.RowLaws.{area_faithful}
use Rattle.room_tables_schema.proofs.TypedTables.{stands_for_one}
use Rattle.room_store_writes.specs.Configurations.{config_of}

-- what failed gave nothing
pub none_found : {T E : Type 0} (r : Result T E) (P : T → Type 0) → IsErr r → IfOk r P
none_found (Ok x) P is = absurd cc
none_found (Err e) P is = tt

pub none_ok : {T E : Type 0} (r : Result T E) (P : Type 0) → IsErr r → OnOk r P
none_ok (Ok x) P is = absurd cc
none_ok (Err e) P is = tt

-- and a fault of the database says nothing of a room
pub not_reported : {T : Type 0} (r : Result T FileFault) (fault : Fault) (P : Type 0)
    → IsErrAnd r (λ why. why ≡ take_fault fault) → IfErr r (λ e. e ≡ NotARoom → P)
not_reported (Ok x) fault P is = tt
not_reported (Err e) faults.Memory P is = λ none. cc
not_reported (Err e) faults.Storage P is = λ none. cc

-- why the database failed is why storage is reported
pub storage_reported : {T : Type 0} (r : Result T FileFault) (fault : Fault) (P : Type 0)
    → IsErrAnd r (λ why. why ≡ take_fault fault) → IfStorage P fault
    → IfErr r (λ e. e ≡ Storage → P)
storage_reported (Ok x) fault P is why = tt
storage_reported (Err e) faults.Memory P is why = λ storage. cc
storage_reported (Err e) faults.Storage P is why = λ storage. why

pub stored : {P : Type 0} (fault : Fault) → IfStorage P fault → take_fault fault ≡ Storage → P
stored faults.Memory why is = cc
stored faults.Storage why is = why

-- which it isn't where the rows are weighed
pub none_stored : {T : Type 0} (r : Result T FileFault) (P : Type 0)
    → IfErr r (λ e. (e ≡ Memory) ⊎ (e ≡ NotARoom)) → IfErr r (λ e. e ≡ Storage → P)
none_stored r P cause = IfErr-weaker r _ _ (λ e one storage. elim one [ inl is ↦ cc | inr is ↦ cc ]) cause

-- a room that some tables hold is the one that they were read as
pub held_is : (trees : Trees) (plan : Layout) (terminals : List Terminal) (room : Room)
    → Stands trees (config_of plan terminals) room → HoldsRoom trees
    → IsWellFormed room × AreTerminals room terminals
held_is trees plan terminals room stands h =
    let same = one_room trees (config_of h.layout h.terminals) (config_of plan terminals) h.room room h.stands stands in
    let config = one_config trees (config_of h.layout h.terminals) (config_of plan terminals) h.room room h.stands
    stands in
    let theirs : h.terminals ≡ terminals = ap (λ (x : Configuration). x.terminals) config in (
      subst IsWellFormed same h.formed,
      subst (λ r. AreTerminals r terminals) same (subst (AreTerminals h.room) theirs h.fits),
    )

-- a room that tables hold numbers its rows
pub held_numbered : (trees : Trees) → HoldsRoom trees → AreAllNumbered trees
held_numbered trees holds = let h = holds.stands in search rules

-- and its areas and its zone are a plan
pub planless : (trees : Trees) → (AreAllNumbered trees → MakesNoPlan trees) → ¬ HoldsRoom trees
planless trees none h =
    let found = none (held_numbered trees h) in
    let areas : found.areas
    ≡ h.layout.areas =
    numbered-injective 1 found.areas h.room.plan
    (stands_for_one _ _ _ _ _ _ _ _ area_faithful found.areas_are h.stands.areas).0 ∙ h.planned in
    let zone : found.zone ≡ h.layout.zone = one_zone 2 trees found.zone h.layout.zone found.meta h.stands.meta in
    true≢false (sym h.layout.sound ∙ rw (areas, zone) at found.no_plan)

-- a configuration and rows that tables hold are the room that the tables stand for
pub stands_with : (trees : Trees) (layout : Layout) (terminals : List Terminal) (x : DivisionRows)
    → HasConfiguration trees layout.areas layout.zone terminals → HasRows trees x
    → Stands trees (config_of layout terminals) (room_of layout.areas x)
stands_with trees layout terminals x config rows = record {
  meta = config.meta;
  areas = config.areas_are;
  terminals = config.terminals_are;
  divisions = rows.divisions;
  incidents = rows.incidents;
  calls = rows.calls;
  vehicles = rows.vehicles;
  turns = rows.turns;
  assignments = rows.assignments;
  points = rows.points;
  loans = rows.loans;
  reports = rows.reports;
  offers = rows.offers;
}
