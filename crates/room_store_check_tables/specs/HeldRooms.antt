-- What a file holds that is read: a room, and of which plan.
use Rattle.std.specs.Prelude.{IfErr, List, OnErr, OnOk, Result, [], false, ℕ, ◌≡◌, ◌∷◌, ◌⊎◌}
use Rattle.sqlite.specs.Held.{Held, state}
use Rattle.sqlite.specs.State.{HasCleanDisk, State, Survives}
use Rattle.sqlite_trees.specs.Tree.{Trees}
use Rattle.sqlite_trees.specs.declared.store.Store.{Ghosts}
use Rattle.room_place.specs.Plans.{Layout, is_plan}
use Rattle.room_place.specs.declared.plans.Area.{Area}
use Rattle.room_types.specs.declared.fleet.Terminal.{Terminal}
use Rattle.room_types.specs.declared.slices.DivisionRows.{DivisionRows}
use Rattle.room_model.specs.FleetRows.{AreTerminals}
use Rattle.room_model.specs.Room.{Room}
use Rattle.room_model.specs.RoomAgreements.{IsWellFormed}
use Rattle.room_tables_rows.specs.AreaSql.{area_row}
use Rattle.room_tables_rows.specs.AssignmentSql.{assignment_row}
use Rattle.room_tables_rows.specs.CallSql.{call_row}
use Rattle.room_tables_rows.specs.DivisionSql.{division_row}
use Rattle.room_tables_rows.specs.IncidentSql.{incident_row}
use Rattle.room_tables_rows.specs.LoanSql.{loan_row}
use Rattle.room_tables_rows.specs.MetaSql.{meta_row}
use Rattle.room_tables_rows.specs.OfferSql.{offer_row}
use Rattle.room_tables_rows.specs.PointSql.{point_row}
use Rattle.room_tables_rows.specs.ReportSql.{report_row}
use Rattle.room_tables_rows.specs.TerminalSql.{terminal_row}
use Rattle.room_tables_rows.specs.TurnSql.{turn_row}
use Rattle.room_tables_rows.specs.VehicleSql.{vehicle_row}
use Rattle.room_tables_schema.specs.Outcomes.{ReadsInside}
use Rattle.room_tables_schema.specs.Schema.{areas_table, assignments_table, calls_table}
use Rattle.room_tables_schema.specs.Schema.{divisions_table, incidents_table, loans_table}
use Rattle.room_tables_schema.specs.Schema.{meta_table, offers_table, points_table, reports_table}
use Rattle.room_tables_schema.specs.Schema.{terminals_table, turns_table, vehicles_table}
use Rattle.room_tables_schema.specs.declared.database_faults.Fault.{Fault}
use Rattle.room_tables_schema.specs.declared.database_faults.Fault.TheVariants as fault
use Rattle.room_tables.specs.Failures.{IfStorage}
use Rattle.room_tables.specs.Rowids.{AreAllNumbered}
use Rattle.room_tables.specs.RoomsInTables.{Configuration, Stands, StandsFor, numbered}
use Rattle.room_store_writes.specs.Configurations.{config_of}
use Rattle.room_store_writes.specs.Transactions.{Leaves}
use Rattle.room_store_check_tables.specs.declared.file_faults.FileFault.{FileFault}
use Rattle.room_store_check_tables.specs.declared.file_faults.FileFault.TheVariants.{Memory}
use Rattle.room_store_check_tables.specs.declared.file_faults.FileFault.TheVariants.{Storage}
use Rattle.room_tables_schema.specs.FileConnections.{IsClean}

-- Some well-formed room with terminals that fit it is stood for.
pub record Holds (AreFor : Configuration → Room → Type 0) : Type 0 where
  pub layout : Layout
  pub terminals : List Terminal
  pub room : Room
  pub planned : room.plan ≡ layout.areas
  pub stands : AreFor (config_of layout terminals) room
  pub formed : IsWellFormed room
  pub fits : AreTerminals room terminals

-- by the tables of a room
abbrev pub HoldsRoom : Trees → Type 0
HoldsRoom trees = Holds (Stands trees)

-- The tables have areas and a zone that make no plan.
pub record MakesNoPlan (trees : Trees) : Type 0 where
  pub areas : List Area
  pub zone : List ℕ
  pub areas_are : StandsFor trees areas_table area_row (numbered 1 areas)
  pub meta : StandsFor trees meta_table meta_row (zone ∷ [])
  pub no_plan : is_plan areas zone ≡ false

-- Some table doesn't give each of its rows a number of its own, or the areas and the zone make no
-- plan.
abbrev pub HasNoPlan : Trees → Type 0
HasNoPlan trees = ¬ AreAllNumbered trees ⊎ MakesNoPlan trees

-- The tables stand for a well-formed room of this plan, with terminals that fit it.
abbrev pub IsPlanOf : Trees → Layout → Type 0
IsPlanOf trees plan = (terminals : List Terminal) × (room : Room) × IsWellFormed room
    × AreTerminals room terminals × (room.plan ≡ plan.areas)
    × Stands trees (config_of plan terminals) room

-- The call wrote nothing: all is as it was, unless the connection is shut, and a stop leaves what
-- it could before.
pub record WritesNothing (old new : State) : Type 0 where
  pub left : HasCleanDisk new → Leaves old new
  pub survives : Survives old new (λ _. ⊥)

-- how a fault of the database is reported
abbrev pub take_fault : Fault → FileFault
take_fault fault.Memory = Memory
take_fault fault.Storage = Storage

-- ---- what was read

-- the tables of all rows but the plan's and the terminals' hold these rows
pub record HasRows (trees : Trees) (x : DivisionRows) : Type 0 where
  pub divisions : StandsFor trees divisions_table division_row x.divisions
  pub incidents : StandsFor trees incidents_table incident_row x.incidents
  pub calls : StandsFor trees calls_table call_row x.calls
  pub vehicles : StandsFor trees vehicles_table vehicle_row x.vehicles
  pub turns : StandsFor trees turns_table turn_row x.turns
  pub assignments : StandsFor trees assignments_table assignment_row x.assignments
  pub points : StandsFor trees points_table point_row x.points
  pub loans : StandsFor trees loans_table loan_row x.loans
  pub offers : StandsFor trees offers_table offer_row x.offers
  pub reports : StandsFor trees reports_table report_row x.reports

-- the tables of the plan, the zone and the terminals do
pub record HasConfiguration (trees : Trees) (areas : List Area) (zone : List ℕ)
    (terminals : List Terminal) : Type 0 where
  pub meta : StandsFor trees meta_table meta_row (zone ∷ [])
  pub areas_are : StandsFor trees areas_table area_row (numbered 1 areas)
  pub terminals_are : StandsFor trees terminals_table terminal_row terminals

-- The next of some reads in a transaction: one where all before it went well, and none where not.
-- `Is` holds of the tables where it went well, and `Fails` where storage is reported for it.
pub record ReadsNext {S : Type 0} (g : Ghosts S) (old new : Held S)
    (before after : Result (Unit {0}) Fault) (Is : Trees → Type 0)
    (Fails : State → State → Type 0) : Type 0 where
  pub found : IsClean g new → OnOk after (Is (state g old).now.trees)
  pub reads : OnOk before (ReadsInside g old new after)
  pub why : OnOk before (IsClean g new
      → IfErr after (IfStorage (Fails (state g old) (state g new))))
  pub stays : OnErr before ((new ≡ old) × (after ≡ before))
