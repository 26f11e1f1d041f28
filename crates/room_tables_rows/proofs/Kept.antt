-- Where only one table changed, the tables stand for the room with that table's rows. (Written by tools/tables.py.)
use Rattle.room_model.specs.Room.{Room}
use Rattle.room_place.specs.declared.plans.Area.{Area}
use Rattle.room_tables_rows.specs.AreaSql.{area_row}
use Rattle.room_tables_rows.specs.AssignmentSql.{assignment_row}
use Rattle.room_tables_rows.specs.CallSql.{call_row}
use Rattle.room_tables_rows.specs.DivisionSql.{division_row}
use Rattle.room_tables_rows.specs.IncidentSql.{incident_row}
use Rattle.room_tables_rows.specs.LoanSql.{loan_row}
use Rattle.room_tables_rows.specs.MetaSql.{meta_row}
use Rattle.room_tables_rows.specs.OfferSql.{offer_row}
use Rattle.room_tables_rows.specs.PointSql.{point_row}
use Rattle.room_tables_rows.specs.ReportSql.{report_row}
use Rattle.room_tables_rows.specs.RoomsInTables.{Configuration, Stands, StandsFor, empty_room}
use Rattle.room_tables_rows.specs.RoomsInTables.{numbered}
use Rattle.room_tables_rows.specs.TerminalSql.{terminal_row}
use Rattle.room_tables_rows.specs.TurnSql.{turn_row}
use Rattle.room_tables_rows.specs.VehicleSql.{vehicle_row}
use Rattle.room_tables_schema.proofs.Standing.{holds_none, holds_still}
use Rattle.room_tables_schema.specs.Definitions.{IsBlank}
use Rattle.room_tables_schema.specs.Outcomes.{Only}
use Rattle.room_tables_schema.specs.Schema.{areas_table, assignments_table, calls_table}
use Rattle.room_tables_schema.specs.Schema.{divisions_table, incidents_table, loans_table}
use Rattle.room_tables_schema.specs.Schema.{meta_table, offers_table, points_table, reports_table}
use Rattle.room_tables_schema.specs.Schema.{room_schema, terminals_table, turns_table}
use Rattle.room_tables_schema.specs.Schema.{vehicles_table}
use Rattle.room_types.specs.declared.fleet.Terminal.{Terminal}
use Rattle.room_types.specs.declared.tables.Assignment.{Assignment}
use Rattle.room_types.specs.declared.tables.Call.{Call}
use Rattle.room_types.specs.declared.tables.Division.{Division}
use Rattle.room_types.specs.declared.tables.Incident.{Incident}
use Rattle.room_types.specs.declared.tables.Loan.{Loan}
use Rattle.room_types.specs.declared.tables.Offer.{Offer}
use Rattle.room_types.specs.declared.tables.Point.{Point}
use Rattle.room_types.specs.declared.tables.Report.{Report}
use Rattle.room_types.specs.declared.tables.Turn.{Turn}
use Rattle.room_types.specs.declared.tables.Vehicle.{Vehicle}
use Rattle.sqlite.specs.Effect.{Database}
use Rattle.std.proofs.Common.{List, [], refl, ℕ, ◌∙◌, ◌∷◌}
use Rattle.std.proofs.lemmas.Bool.{eqb-false}

module _ (old new : Database) (config : Configuration) (room : Room) (h : Stands old.trees config room) where
  pub with_meta : Only room_schema 0 old new → (zone : List ℕ) → StandsFor new.trees meta_table meta_row (zone ∷ [])
      → Stands new.trees (record config { zone = zone }) room
  with_meta only zone is =
      let at = only.tables in record {
        meta = is;
        areas = holds_still _ _ _ _ _ (at.1.0 (eqb-false _ _ refl)) h.areas;
        terminals = holds_still _ _ _ _ _ (at.1.1.0 (eqb-false _ _ refl)) h.terminals;
        divisions = holds_still _ _ _ _ _ (at.1.1.1.0 (eqb-false _ _ refl)) h.divisions;
        incidents = holds_still _ _ _ _ _ (at.1.1.1.1.0 (eqb-false _ _ refl)) h.incidents;
        calls = holds_still _ _ _ _ _ (at.1.1.1.1.1.0 (eqb-false _ _ refl)) h.calls;
        vehicles = holds_still _ _ _ _ _ (at.1.1.1.1.1.1.0 (eqb-false _ _ refl)) h.vehicles;
        turns = holds_still _ _ _ _ _ (at.1.1.1.1.1.1.1.0 (eqb-false _ _ refl)) h.turns;
        assignments = holds_still _ _ _ _ _ (at.1.1.1.1.1.1.1.1.0 (eqb-false _ _ refl)) h.assignments;
        points = holds_still _ _ _ _ _ (at.1.1.1.1.1.1.1.1.1.0 (eqb-false _ _ refl)) h.points;
        loans = holds_still _ _ _ _ _ (at.1.1.1.1.1.1.1.1.1.1.0 (eqb-false _ _ refl)) h.loans;
        reports = holds_still _ _ _ _ _ (at.1.1.1.1.1.1.1.1.1.1.1.0 (eqb-false _ _ refl)) h.reports;
        offers = holds_still _ _ _ _ _ (at.1.1.1.1.1.1.1.1.1.1.1.1.0 (eqb-false _ _ refl)) h.offers;
      }

  pub with_areas : Only room_schema 1 old new → (plan : List Area)
      → StandsFor new.trees areas_table area_row (numbered 1 plan)
      → Stands new.trees config (record room { plan = plan })
  with_areas only plan is =
      let at = only.tables in record {
        meta = holds_still _ _ _ _ _ (at.0 (eqb-false _ _ refl)) h.meta;
        areas = is;
        terminals = holds_still _ _ _ _ _ (at.1.1.0 (eqb-false _ _ refl)) h.terminals;
        divisions = holds_still _ _ _ _ _ (at.1.1.1.0 (eqb-false _ _ refl)) h.divisions;
        incidents = holds_still _ _ _ _ _ (at.1.1.1.1.0 (eqb-false _ _ refl)) h.incidents;
        calls = holds_still _ _ _ _ _ (at.1.1.1.1.1.0 (eqb-false _ _ refl)) h.calls;
        vehicles = holds_still _ _ _ _ _ (at.1.1.1.1.1.1.0 (eqb-false _ _ refl)) h.vehicles;
        turns = holds_still _ _ _ _ _ (at.1.1.1.1.1.1.1.0 (eqb-false _ _ refl)) h.turns;
        assignments = holds_still _ _ _ _ _ (at.1.1.1.1.1.1.1.1.0 (eqb-false _ _ refl)) h.assignments;
        points = holds_still _ _ _ _ _ (at.1.1.1.1.1.1.1.1.1.0 (eqb-false _ _ refl)) h.points;
        loans = holds_still _ _ _ _ _ (at.1.1.1.1.1.1.1.1.1.1.0 (eqb-false _ _ refl)) h.loans;
        reports = holds_still _ _ _ _ _ (at.1.1.1.1.1.1.1.1.1.1.1.0 (eqb-false _ _ refl)) h.reports;
        offers = holds_still _ _ _ _ _ (at.1.1.1.1.1.1.1.1.1.1.1.1.0 (eqb-false _ _ refl)) h.offers;
      }

  pub with_terminals : Only room_schema 2 old new → (terminals : List Terminal)
      → StandsFor new.trees terminals_table terminal_row terminals
      → Stands new.trees (record config { terminals = terminals }) room
  with_terminals only terminals is =
      let at = only.tables in record {
        meta = holds_still _ _ _ _ _ (at.0 (eqb-false _ _ refl)) h.meta;
        areas = holds_still _ _ _ _ _ (at.1.0 (eqb-false _ _ refl)) h.areas;
        terminals = is;
        divisions = holds_still _ _ _ _ _ (at.1.1.1.0 (eqb-false _ _ refl)) h.divisions;
        incidents = holds_still _ _ _ _ _ (at.1.1.1.1.0 (eqb-false _ _ refl)) h.incidents;
        calls = holds_still _ _ _ _ _ (at.1.1.1.1.1.0 (eqb-false _ _ refl)) h.calls;
        vehicles = holds_still _ _ _ _ _ (at.1.1.1.1.1.1.0 (eqb-false _ _ refl)) h.vehicles;
        turns = holds_still _ _ _ _ _ (at.1.1.1.1.1.1.1.0 (eqb-false _ _ refl)) h.turns;
        assignments = holds_still _ _ _ _ _ (at.1.1.1.1.1.1.1.1.0 (eqb-false _ _ refl)) h.assignments;
        points = holds_still _ _ _ _ _ (at.1.1.1.1.1.1.1.1.1.0 (eqb-false _ _ refl)) h.points;
        loans = holds_still _ _ _ _ _ (at.1.1.1.1.1.1.1.1.1.1.0 (eqb-false _ _ refl)) h.loans;
        reports = holds_still _ _ _ _ _ (at.1.1.1.1.1.1.1.1.1.1.1.0 (eqb-false _ _ refl)) h.reports;
        offers = holds_still _ _ _ _ _ (at.1.1.1.1.1.1.1.1.1.1.1.1.0 (eqb-false _ _ refl)) h.offers;
      }

  pub with_divisions : Only room_schema 4 old new → (divisions : List Division)
      → StandsFor new.trees divisions_table division_row divisions
      → Stands new.trees config (record room { divisions = divisions })
  with_divisions only divisions is =
      let at = only.tables in record {
        meta = holds_still _ _ _ _ _ (at.0 (eqb-false _ _ refl)) h.meta;
        areas = holds_still _ _ _ _ _ (at.1.0 (eqb-false _ _ refl)) h.areas;
        terminals = holds_still _ _ _ _ _ (at.1.1.0 (eqb-false _ _ refl)) h.terminals;
        divisions = is;
        incidents = holds_still _ _ _ _ _ (at.1.1.1.1.0 (eqb-false _ _ refl)) h.incidents;
        calls = holds_still _ _ _ _ _ (at.1.1.1.1.1.0 (eqb-false _ _ refl)) h.calls;
        vehicles = holds_still _ _ _ _ _ (at.1.1.1.1.1.1.0 (eqb-false _ _ refl)) h.vehicles;
        turns = holds_still _ _ _ _ _ (at.1.1.1.1.1.1.1.0 (eqb-false _ _ refl)) h.turns;
        assignments = holds_still _ _ _ _ _ (at.1.1.1.1.1.1.1.1.0 (eqb-false _ _ refl)) h.assignments;
        points = holds_still _ _ _ _ _ (at.1.1.1.1.1.1.1.1.1.0 (eqb-false _ _ refl)) h.points;
        loans = holds_still _ _ _ _ _ (at.1.1.1.1.1.1.1.1.1.1.0 (eqb-false _ _ refl)) h.loans;
        reports = holds_still _ _ _ _ _ (at.1.1.1.1.1.1.1.1.1.1.1.0 (eqb-false _ _ refl)) h.reports;
        offers = holds_still _ _ _ _ _ (at.1.1.1.1.1.1.1.1.1.1.1.1.0 (eqb-false _ _ refl)) h.offers;
      }

  pub with_incidents : Only room_schema 5 old new → (incidents : List Incident)
      → StandsFor new.trees incidents_table incident_row incidents
      → Stands new.trees config (record room { incidents = incidents })
  with_incidents only incidents is =
      let at = only.tables in record {
        meta = holds_still _ _ _ _ _ (at.0 (eqb-false _ _ refl)) h.meta;
        areas = holds_still _ _ _ _ _ (at.1.0 (eqb-false _ _ refl)) h.areas;
        terminals = holds_still _ _ _ _ _ (at.1.1.0 (eqb-false _ _ refl)) h.terminals;
        divisions = holds_still _ _ _ _ _ (at.1.1.1.0 (eqb-false _ _ refl)) h.divisions;
        incidents = is;
        calls = holds_still _ _ _ _ _ (at.1.1.1.1.1.0 (eqb-false _ _ refl)) h.calls;
        vehicles = holds_still _ _ _ _ _ (at.1.1.1.1.1.1.0 (eqb-false _ _ refl)) h.vehicles;
        turns = holds_still _ _ _ _ _ (at.1.1.1.1.1.1.1.0 (eqb-false _ _ refl)) h.turns;
        assignments = holds_still _ _ _ _ _ (at.1.1.1.1.1.1.1.1.0 (eqb-false _ _ refl)) h.assignments;
        points = holds_still _ _ _ _ _ (at.1.1.1.1.1.1.1.1.1.0 (eqb-false _ _ refl)) h.points;
        loans = holds_still _ _ _ _ _ (at.1.1.1.1.1.1.1.1.1.1.0 (eqb-false _ _ refl)) h.loans;
        reports = holds_still _ _ _ _ _ (at.1.1.1.1.1.1.1.1.1.1.1.0 (eqb-false _ _ refl)) h.reports;
        offers = holds_still _ _ _ _ _ (at.1.1.1.1.1.1.1.1.1.1.1.1.0 (eqb-false _ _ refl)) h.offers;
      }

  pub with_calls : Only room_schema 7 old new → (calls : List Call) → StandsFor new.trees calls_table call_row calls
      → Stands new.trees config (record room { calls = calls })
  with_calls only calls is =
      let at = only.tables in record {
        meta = holds_still _ _ _ _ _ (at.0 (eqb-false _ _ refl)) h.meta;
        areas = holds_still _ _ _ _ _ (at.1.0 (eqb-false _ _ refl)) h.areas;
        terminals = holds_still _ _ _ _ _ (at.1.1.0 (eqb-false _ _ refl)) h.terminals;
        divisions = holds_still _ _ _ _ _ (at.1.1.1.0 (eqb-false _ _ refl)) h.divisions;
        incidents = holds_still _ _ _ _ _ (at.1.1.1.1.0 (eqb-false _ _ refl)) h.incidents;
        calls = is;
        vehicles = holds_still _ _ _ _ _ (at.1.1.1.1.1.1.0 (eqb-false _ _ refl)) h.vehicles;
        turns = holds_still _ _ _ _ _ (at.1.1.1.1.1.1.1.0 (eqb-false _ _ refl)) h.turns;
        assignments = holds_still _ _ _ _ _ (at.1.1.1.1.1.1.1.1.0 (eqb-false _ _ refl)) h.assignments;
        points = holds_still _ _ _ _ _ (at.1.1.1.1.1.1.1.1.1.0 (eqb-false _ _ refl)) h.points;
        loans = holds_still _ _ _ _ _ (at.1.1.1.1.1.1.1.1.1.1.0 (eqb-false _ _ refl)) h.loans;
        reports = holds_still _ _ _ _ _ (at.1.1.1.1.1.1.1.1.1.1.1.0 (eqb-false _ _ refl)) h.reports;
        offers = holds_still _ _ _ _ _ (at.1.1.1.1.1.1.1.1.1.1.1.1.0 (eqb-false _ _ refl)) h.offers;
      }

  pub with_vehicles : Only room_schema 9 old new → (vehicles : List Vehicle)
      → StandsFor new.trees vehicles_table vehicle_row vehicles
      → Stands new.trees config (record room { vehicles = vehicles })
  with_vehicles only vehicles is =
      let at = only.tables in record {
        meta = holds_still _ _ _ _ _ (at.0 (eqb-false _ _ refl)) h.meta;
        areas = holds_still _ _ _ _ _ (at.1.0 (eqb-false _ _ refl)) h.areas;
        terminals = holds_still _ _ _ _ _ (at.1.1.0 (eqb-false _ _ refl)) h.terminals;
        divisions = holds_still _ _ _ _ _ (at.1.1.1.0 (eqb-false _ _ refl)) h.divisions;
        incidents = holds_still _ _ _ _ _ (at.1.1.1.1.0 (eqb-false _ _ refl)) h.incidents;
        calls = holds_still _ _ _ _ _ (at.1.1.1.1.1.0 (eqb-false _ _ refl)) h.calls;
        vehicles = is;
        turns = holds_still _ _ _ _ _ (at.1.1.1.1.1.1.1.0 (eqb-false _ _ refl)) h.turns;
        assignments = holds_still _ _ _ _ _ (at.1.1.1.1.1.1.1.1.0 (eqb-false _ _ refl)) h.assignments;
        points = holds_still _ _ _ _ _ (at.1.1.1.1.1.1.1.1.1.0 (eqb-false _ _ refl)) h.points;
        loans = holds_still _ _ _ _ _ (at.1.1.1.1.1.1.1.1.1.1.0 (eqb-false _ _ refl)) h.loans;
        reports = holds_still _ _ _ _ _ (at.1.1.1.1.1.1.1.1.1.1.1.0 (eqb-false _ _ refl)) h.reports;
        offers = holds_still _ _ _ _ _ (at.1.1.1.1.1.1.1.1.1.1.1.1.0 (eqb-false _ _ refl)) h.offers;
      }

  pub with_turns : Only room_schema 11 old new → (turns : List Turn) → StandsFor new.trees turns_table turn_row turns
      → Stands new.trees config (record room { turns = turns })
  with_turns only turns is =
      let at = only.tables in record {
        meta = holds_still _ _ _ _ _ (at.0 (eqb-false _ _ refl)) h.meta;
        areas = holds_still _ _ _ _ _ (at.1.0 (eqb-false _ _ refl)) h.areas;
        terminals = holds_still _ _ _ _ _ (at.1.1.0 (eqb-false _ _ refl)) h.terminals;
        divisions = holds_still _ _ _ _ _ (at.1.1.1.0 (eqb-false _ _ refl)) h.divisions;
        incidents = holds_still _ _ _ _ _ (at.1.1.1.1.0 (eqb-false _ _ refl)) h.incidents;
        calls = holds_still _ _ _ _ _ (at.1.1.1.1.1.0 (eqb-false _ _ refl)) h.calls;
        vehicles = holds_still _ _ _ _ _ (at.1.1.1.1.1.1.0 (eqb-false _ _ refl)) h.vehicles;
        turns = is;
        assignments = holds_still _ _ _ _ _ (at.1.1.1.1.1.1.1.1.0 (eqb-false _ _ refl)) h.assignments;
        points = holds_still _ _ _ _ _ (at.1.1.1.1.1.1.1.1.1.0 (eqb-false _ _ refl)) h.points;
        loans = holds_still _ _ _ _ _ (at.1.1.1.1.1.1.1.1.1.1.0 (eqb-false _ _ refl)) h.loans;
        reports = holds_still _ _ _ _ _ (at.1.1.1.1.1.1.1.1.1.1.1.0 (eqb-false _ _ refl)) h.reports;
        offers = holds_still _ _ _ _ _ (at.1.1.1.1.1.1.1.1.1.1.1.1.0 (eqb-false _ _ refl)) h.offers;
      }

  pub with_assignments : Only room_schema 13 old new → (assignments : List Assignment)
      → StandsFor new.trees assignments_table assignment_row assignments
      → Stands new.trees config (record room { assignments = assignments })
  with_assignments only assignments is =
      let at = only.tables in record {
        meta = holds_still _ _ _ _ _ (at.0 (eqb-false _ _ refl)) h.meta;
        areas = holds_still _ _ _ _ _ (at.1.0 (eqb-false _ _ refl)) h.areas;
        terminals = holds_still _ _ _ _ _ (at.1.1.0 (eqb-false _ _ refl)) h.terminals;
        divisions = holds_still _ _ _ _ _ (at.1.1.1.0 (eqb-false _ _ refl)) h.divisions;
        incidents = holds_still _ _ _ _ _ (at.1.1.1.1.0 (eqb-false _ _ refl)) h.incidents;
        calls = holds_still _ _ _ _ _ (at.1.1.1.1.1.0 (eqb-false _ _ refl)) h.calls;
        vehicles = holds_still _ _ _ _ _ (at.1.1.1.1.1.1.0 (eqb-false _ _ refl)) h.vehicles;
        turns = holds_still _ _ _ _ _ (at.1.1.1.1.1.1.1.0 (eqb-false _ _ refl)) h.turns;
        assignments = is;
        points = holds_still _ _ _ _ _ (at.1.1.1.1.1.1.1.1.1.0 (eqb-false _ _ refl)) h.points;
        loans = holds_still _ _ _ _ _ (at.1.1.1.1.1.1.1.1.1.1.0 (eqb-false _ _ refl)) h.loans;
        reports = holds_still _ _ _ _ _ (at.1.1.1.1.1.1.1.1.1.1.1.0 (eqb-false _ _ refl)) h.reports;
        offers = holds_still _ _ _ _ _ (at.1.1.1.1.1.1.1.1.1.1.1.1.0 (eqb-false _ _ refl)) h.offers;
      }

  pub with_points : Only room_schema 15 old new → (points : List Point)
      → StandsFor new.trees points_table point_row points → Stands new.trees config (record room { points = points })
  with_points only points is =
      let at = only.tables in record {
        meta = holds_still _ _ _ _ _ (at.0 (eqb-false _ _ refl)) h.meta;
        areas = holds_still _ _ _ _ _ (at.1.0 (eqb-false _ _ refl)) h.areas;
        terminals = holds_still _ _ _ _ _ (at.1.1.0 (eqb-false _ _ refl)) h.terminals;
        divisions = holds_still _ _ _ _ _ (at.1.1.1.0 (eqb-false _ _ refl)) h.divisions;
        incidents = holds_still _ _ _ _ _ (at.1.1.1.1.0 (eqb-false _ _ refl)) h.incidents;
        calls = holds_still _ _ _ _ _ (at.1.1.1.1.1.0 (eqb-false _ _ refl)) h.calls;
        vehicles = holds_still _ _ _ _ _ (at.1.1.1.1.1.1.0 (eqb-false _ _ refl)) h.vehicles;
        turns = holds_still _ _ _ _ _ (at.1.1.1.1.1.1.1.0 (eqb-false _ _ refl)) h.turns;
        assignments = holds_still _ _ _ _ _ (at.1.1.1.1.1.1.1.1.0 (eqb-false _ _ refl)) h.assignments;
        points = is;
        loans = holds_still _ _ _ _ _ (at.1.1.1.1.1.1.1.1.1.1.0 (eqb-false _ _ refl)) h.loans;
        reports = holds_still _ _ _ _ _ (at.1.1.1.1.1.1.1.1.1.1.1.0 (eqb-false _ _ refl)) h.reports;
        offers = holds_still _ _ _ _ _ (at.1.1.1.1.1.1.1.1.1.1.1.1.0 (eqb-false _ _ refl)) h.offers;
      }

  pub with_loans : Only room_schema 17 old new → (loans : List Loan) → StandsFor new.trees loans_table loan_row loans
      → Stands new.trees config (record room { loans = loans })
  with_loans only loans is =
      let at = only.tables in record {
        meta = holds_still _ _ _ _ _ (at.0 (eqb-false _ _ refl)) h.meta;
        areas = holds_still _ _ _ _ _ (at.1.0 (eqb-false _ _ refl)) h.areas;
        terminals = holds_still _ _ _ _ _ (at.1.1.0 (eqb-false _ _ refl)) h.terminals;
        divisions = holds_still _ _ _ _ _ (at.1.1.1.0 (eqb-false _ _ refl)) h.divisions;
        incidents = holds_still _ _ _ _ _ (at.1.1.1.1.0 (eqb-false _ _ refl)) h.incidents;
        calls = holds_still _ _ _ _ _ (at.1.1.1.1.1.0 (eqb-false _ _ refl)) h.calls;
        vehicles = holds_still _ _ _ _ _ (at.1.1.1.1.1.1.0 (eqb-false _ _ refl)) h.vehicles;
        turns = holds_still _ _ _ _ _ (at.1.1.1.1.1.1.1.0 (eqb-false _ _ refl)) h.turns;
        assignments = holds_still _ _ _ _ _ (at.1.1.1.1.1.1.1.1.0 (eqb-false _ _ refl)) h.assignments;
        points = holds_still _ _ _ _ _ (at.1.1.1.1.1.1.1.1.1.0 (eqb-false _ _ refl)) h.points;
        loans = is;
        reports = holds_still _ _ _ _ _ (at.1.1.1.1.1.1.1.1.1.1.1.0 (eqb-false _ _ refl)) h.reports;
        offers = holds_still _ _ _ _ _ (at.1.1.1.1.1.1.1.1.1.1.1.1.0 (eqb-false _ _ refl)) h.offers;
      }

  pub with_reports : Only room_schema 19 old new → (reports : List Report)
      → StandsFor new.trees reports_table report_row reports
      → Stands new.trees config (record room { reports = reports })
  with_reports only reports is =
      let at = only.tables in record {
        meta = holds_still _ _ _ _ _ (at.0 (eqb-false _ _ refl)) h.meta;
        areas = holds_still _ _ _ _ _ (at.1.0 (eqb-false _ _ refl)) h.areas;
        terminals = holds_still _ _ _ _ _ (at.1.1.0 (eqb-false _ _ refl)) h.terminals;
        divisions = holds_still _ _ _ _ _ (at.1.1.1.0 (eqb-false _ _ refl)) h.divisions;
        incidents = holds_still _ _ _ _ _ (at.1.1.1.1.0 (eqb-false _ _ refl)) h.incidents;
        calls = holds_still _ _ _ _ _ (at.1.1.1.1.1.0 (eqb-false _ _ refl)) h.calls;
        vehicles = holds_still _ _ _ _ _ (at.1.1.1.1.1.1.0 (eqb-false _ _ refl)) h.vehicles;
        turns = holds_still _ _ _ _ _ (at.1.1.1.1.1.1.1.0 (eqb-false _ _ refl)) h.turns;
        assignments = holds_still _ _ _ _ _ (at.1.1.1.1.1.1.1.1.0 (eqb-false _ _ refl)) h.assignments;
        points = holds_still _ _ _ _ _ (at.1.1.1.1.1.1.1.1.1.0 (eqb-false _ _ refl)) h.points;
        loans = holds_still _ _ _ _ _ (at.1.1.1.1.1.1.1.1.1.1.0 (eqb-false _ _ refl)) h.loans;
        reports = is;
        offers = holds_still _ _ _ _ _ (at.1.1.1.1.1.1.1.1.1.1.1.1.0 (eqb-false _ _ refl)) h.offers;
      }

  pub with_offers : Only room_schema 21 old new → (offers : List Offer)
      → StandsFor new.trees offers_table offer_row offers → Stands new.trees config (record room { offers = offers })
  with_offers only offers is =
      let at = only.tables in record {
        meta = holds_still _ _ _ _ _ (at.0 (eqb-false _ _ refl)) h.meta;
        areas = holds_still _ _ _ _ _ (at.1.0 (eqb-false _ _ refl)) h.areas;
        terminals = holds_still _ _ _ _ _ (at.1.1.0 (eqb-false _ _ refl)) h.terminals;
        divisions = holds_still _ _ _ _ _ (at.1.1.1.0 (eqb-false _ _ refl)) h.divisions;
        incidents = holds_still _ _ _ _ _ (at.1.1.1.1.0 (eqb-false _ _ refl)) h.incidents;
        calls = holds_still _ _ _ _ _ (at.1.1.1.1.1.0 (eqb-false _ _ refl)) h.calls;
        vehicles = holds_still _ _ _ _ _ (at.1.1.1.1.1.1.0 (eqb-false _ _ refl)) h.vehicles;
        turns = holds_still _ _ _ _ _ (at.1.1.1.1.1.1.1.0 (eqb-false _ _ refl)) h.turns;
        assignments = holds_still _ _ _ _ _ (at.1.1.1.1.1.1.1.1.0 (eqb-false _ _ refl)) h.assignments;
        points = holds_still _ _ _ _ _ (at.1.1.1.1.1.1.1.1.1.0 (eqb-false _ _ refl)) h.points;
        loans = holds_still _ _ _ _ _ (at.1.1.1.1.1.1.1.1.1.1.0 (eqb-false _ _ refl)) h.loans;
        reports = holds_still _ _ _ _ _ (at.1.1.1.1.1.1.1.1.1.1.1.0 (eqb-false _ _ refl)) h.reports;
        offers = is;
      }

-- tables without rows, of which the first was written: a room without rows
pub with_first : (old new : Database) → IsBlank old.trees → Only room_schema 0 old new → (zone : List ℕ)
    → StandsFor new.trees meta_table meta_row (zone ∷ [])
    → Stands new.trees (record { zone = zone; terminals = [] }) empty_room
with_first old new blank only zone is =
    let at = only.tables in record {
      meta = is;
      areas = holds_none _ _ _ (at.1.0 (eqb-false _ _ refl) ∙ blank.areas);
      terminals = holds_none _ _ _ (at.1.1.0 (eqb-false _ _ refl) ∙ blank.terminals);
      divisions = holds_none _ _ _ (at.1.1.1.0 (eqb-false _ _ refl) ∙ blank.divisions);
      incidents = holds_none _ _ _ (at.1.1.1.1.0 (eqb-false _ _ refl) ∙ blank.incidents);
      calls = holds_none _ _ _ (at.1.1.1.1.1.0 (eqb-false _ _ refl) ∙ blank.calls);
      vehicles = holds_none _ _ _ (at.1.1.1.1.1.1.0 (eqb-false _ _ refl) ∙ blank.vehicles);
      turns = holds_none _ _ _ (at.1.1.1.1.1.1.1.0 (eqb-false _ _ refl) ∙ blank.turns);
      assignments = holds_none _ _ _ (at.1.1.1.1.1.1.1.1.0 (eqb-false _ _ refl) ∙ blank.assignments);
      points = holds_none _ _ _ (at.1.1.1.1.1.1.1.1.1.0 (eqb-false _ _ refl) ∙ blank.points);
      loans = holds_none _ _ _ (at.1.1.1.1.1.1.1.1.1.1.0 (eqb-false _ _ refl) ∙ blank.loans);
      reports = holds_none _ _ _ (at.1.1.1.1.1.1.1.1.1.1.1.0 (eqb-false _ _ refl) ∙ blank.reports);
      offers = holds_none _ _ _ (at.1.1.1.1.1.1.1.1.1.1.1.1.0 (eqb-false _ _ refl) ∙ blank.offers);
    }
