-- Which room the tables of a file stand for.
use Rattle.std.specs.Prelude.{◌-◌, ◌==◌, if◌then◌else◌, ℕ, zero, suc, List, [], ◌∷◌, map, length}
use Rattle.std.specs.Prelude.{Option, Some, None}
use Rattle.sqlite_value.specs.Order.{Row}
use Rattle.sqlite_trees.specs.Tree.{Trees}
use Rattle.sqlite_schema.specs.declared.schema.Table.{Table}
use Rattle.room_tables_schema.specs.TableTrees.{Holds}
use Rattle.room_place.specs.declared.plans.Area.{Area}
use Rattle.room_types.specs.declared.fleet.Terminal.{Terminal}
use Rattle.room_model.specs.Room.{Room}
use Rattle.room_tables_schema.specs.Schema.{meta_table, areas_table, terminals_table}
use Rattle.room_tables_schema.specs.Schema.{divisions_table, incidents_table, calls_table}
use Rattle.room_tables_schema.specs.Schema.{vehicles_table, turns_table, assignments_table}
use Rattle.room_tables_schema.specs.Schema.{points_table, loans_table, reports_table, offers_table}
use Rattle.room_tables_rows.specs.MetaSql.{version_row}
use Rattle.room_tables_rows.specs.AreaSql.{area_row}
use Rattle.room_tables_rows.specs.TerminalSql.{terminal_row}
use Rattle.room_tables_rows.specs.DivisionSql.{division_row}
use Rattle.room_tables_rows.specs.IncidentSql.{incident_row}
use Rattle.room_tables_rows.specs.CallSql.{call_row}
use Rattle.room_tables_rows.specs.VehicleSql.{vehicle_row}
use Rattle.room_tables_rows.specs.TurnSql.{turn_row}
use Rattle.room_tables_rows.specs.AssignmentSql.{assignment_row}
use Rattle.room_tables_rows.specs.PointSql.{point_row}
use Rattle.room_tables_rows.specs.LoanSql.{loan_row}
use Rattle.room_tables_rows.specs.ReportSql.{report_row}
use Rattle.room_tables_rows.specs.OfferSql.{offer_row}

-- so many places, from one on
abbrev pub places_from : ℕ → ℕ → List ℕ
places_from at zero = []
places_from at (suc n) = at ∷ places_from (suc at) n

-- a column that is the rowid is read at place 0, the others at their own
abbrev pub places_by : Option ℕ → ℕ → List ℕ
places_by None n = places_from 1 n
places_by (Some key) n = 0 ∷ places_from 2 (n - 1)

-- the places of a table's columns in the rows of its tree
abbrev pub places : Table → List ℕ
places table = places_by table.key (length table.columns)

-- the table's tree holds these rows, in the order of their keys
abbrev pub StandsFor : {X : Type 0} → Trees → Table → (X → Row) → List X → Type 0
StandsFor trees table row xs = Holds (places table) table.primary (trees table.tree) (map row xs)

-- the areas with their places in the plan, from this one on
abbrev pub numbered : ℕ → List Area → List (ℕ × Area)
numbered n [] = []
numbered n (area ∷ plan) = (n, area) ∷ numbered (suc n) plan

-- what the tables keep beside the room: the zone of its days, and the terminals in the order of
-- their tokens
pub record Configuration : Type 0 where
  pub zone : List ℕ
  pub terminals : List Terminal

-- The tables, which give this version, stand for this configuration and this room. No index is
-- looked at.
pub record StandsIn (version : ℕ) (trees : Trees) (config : Configuration)
    (room : Room) : Type 0 where
  pub meta : StandsFor trees meta_table (version_row version) (config.zone ∷ [])
  pub areas : StandsFor trees areas_table area_row (numbered 1 room.plan)
  pub terminals : StandsFor trees terminals_table terminal_row config.terminals
  pub divisions : StandsFor trees divisions_table division_row room.divisions
  pub incidents : StandsFor trees incidents_table incident_row room.incidents
  pub calls : StandsFor trees calls_table call_row room.calls
  pub vehicles : StandsFor trees vehicles_table vehicle_row room.vehicles
  pub turns : StandsFor trees turns_table turn_row room.turns
  pub assignments : StandsFor trees assignments_table assignment_row room.assignments
  pub points : StandsFor trees points_table point_row room.points
  pub loans : StandsFor trees loans_table loan_row room.loans
  pub reports : StandsFor trees reports_table report_row room.reports
  pub offers : StandsFor trees offers_table offer_row room.offers

-- The tables of a room stand for this configuration and this room.
abbrev pub Stands : Trees → Configuration → Room → Type 0
Stands = StandsIn 2

-- the tables, with no offers
abbrev pub without_offers : Trees → Trees
without_offers trees tree = if tree == offers_table.tree then [] else trees tree

-- The tables of the first version stand for this configuration and this room. They had no offers.
abbrev pub StandsInFirst : Trees → Configuration → Room → Type 0
StandsInFirst trees = StandsIn 1 (without_offers trees)

-- no plan and no rows
abbrev pub empty_room : Room
empty_room = record {
  plan = [];
  divisions = [];
  incidents = [];
  calls = [];
  vehicles = [];
  turns = [];
  assignments = [];
  points = [];
  loans = [];
  offers = [];
  reports = [];
}
