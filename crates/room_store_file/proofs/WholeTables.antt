-- The texts that read the tables of a room.
use Rattle.std.proofs.Common.{List, [], ◌∷◌, ℕ, drop, map, subst}
use Rattle.std.specs.List.{AllByRecursion}
use Rattle.std.specs.declared.cmp.Ordering.{Ordering}
use Rattle.sqlite_schema.specs.declared.schema.Table.{Table}
use Rattle.sqlite_trees.specs.Tree.{Trees}
use Rattle.sqlite_value.specs.Order.{Row}
use Rattle.room_model.specs.Room.{Room}
use Rattle.room_model.specs.declared.digests.Version.TheVariants.{First, Second}
use Rattle.room_tables_schema.specs.Schema.{room_schema}
use Rattle.room_tables_schema.specs.Statements.{Selects}
use Rattle.room_tables_schema.specs.TableTrees.{Holds}
use Rattle.room_tables_rows.specs.RoomsInTables.{Configuration, Stands, StandsFor, numbered, places}
use Rattle.room_tables_rows.specs.Tables.{IsHeld}
use Rattle.room_tables_rows.proofs.AreasTable.{all_areas_means, areas_held}
use Rattle.room_tables_rows.proofs.AssignmentsTable.{all_assignments_means, assignments_held}
use Rattle.room_tables_rows.proofs.CallsTable.{all_calls_means, calls_held}
use Rattle.room_tables_rows.proofs.DivisionsTable.{all_divisions_means, divisions_held}
use Rattle.room_tables_rows.proofs.IncidentsTable.{all_incidents_means, incidents_held}
use Rattle.room_tables_rows.proofs.LoansTable.{all_loans_means, loans_held}
use Rattle.room_tables_rows.proofs.MetaTable.{all_meta_means, meta_held}
use Rattle.room_tables_rows.proofs.OffersTable.{all_offers_means, offers_held}
use Rattle.room_tables_rows.proofs.PointsTable.{all_points_means, points_held}
use Rattle.room_tables_rows.proofs.ReportsTable.{all_reports_means, reports_held}
use Rattle.room_tables_rows.proofs.TerminalsTable.{all_terminals_means, terminals_held}
use Rattle.room_tables_rows.proofs.TurnsTable.{all_turns_means, turns_held}
use Rattle.room_tables_rows.proofs.VehiclesTable.{all_vehicles_means, vehicles_held}
use Rattle.room_tables_rows.specs.declared.area_sql.TheConstants.{ALL_AREAS}
use Rattle.room_tables_rows.specs.declared.assignment_sql.TheConstants.{ALL_ASSIGNMENTS}
use Rattle.room_tables_rows.specs.declared.call_sql.TheConstants.{ALL_CALLS}
use Rattle.room_tables_rows.specs.declared.division_sql.TheConstants.{ALL_DIVISIONS}
use Rattle.room_tables_rows.specs.declared.incident_sql.TheConstants.{ALL_INCIDENTS}
use Rattle.room_tables_rows.specs.declared.loan_sql.TheConstants.{ALL_LOANS}
use Rattle.room_tables_rows.specs.declared.meta_sql.TheConstants.{ALL_META}
use Rattle.room_tables_rows.specs.declared.offer_sql.TheConstants.{ALL_OFFERS}
use Rattle.room_tables_rows.specs.declared.point_sql.TheConstants.{ALL_POINTS}
use Rattle.room_tables_rows.specs.declared.report_sql.TheConstants.{ALL_REPORTS}
use Rattle.room_tables_rows.specs.declared.terminal_sql.TheConstants.{ALL_TERMINALS}
use Rattle.room_tables_rows.specs.declared.turn_sql.TheConstants.{ALL_TURNS}
use Rattle.room_tables_rows.specs.declared.vehicle_sql.TheConstants.{ALL_VEHICLES}
use Rattle.room_store_file.specs.WholeTableTexts.{IsKnown, ReadEach, ReadsTable}
use Rattle.room_store_file.specs.DigestTexts.{tables_in}
use Rattle.room_store_file.specs.declared.room_digest.TheConstants.{WHOLE_TABLES}

-- ---- the tables but that of the zone

pub first_known : AllByRecursion IsKnown (map (λ text. text.now) (drop 1 WHOLE_TABLES))
first_known = (
  all_areas_means.plain,
  (
    all_terminals_means.plain,
    (
      all_divisions_means.plain,
      (
        all_incidents_means.plain,
        (
          all_calls_means.plain,
          (
            all_vehicles_means.plain,
            (
              all_turns_means.plain,
              (
                all_assignments_means.plain,
                (
                  all_points_means.plain,
                  (all_loans_means.plain, (all_reports_means.plain, (all_offers_means.plain, tt))),
                ),
              ),
            ),
          ),
        ),
      ),
    ),
  ),
)

-- the text of a whole table reads what the table stands for
reads_whole : {X K : Type 0} {order : K → K → Ordering} {key : X → K} {row : X → Row}
    {table : Table} {rows : Configuration → Room → List X} → IsHeld order key row table rows
    → (text : List ℕ) → Selects room_schema text table.tree (places table) table.primary []
    → (trees : Trees) (xs : List X) → StandsFor trees table row xs
    → ReadsTable text trees (map row xs)
reads_whole {row = row} {table = table} is text selects trees xs stands = record {
  tree = table.tree;
  key = table.primary;
  more = is.others;
  selects = subst (λ p. Selects room_schema text table.tree p table.primary []) is.places_are selects;
  stands = subst (λ p. Holds p table.primary (trees table.tree) (map row xs)) is.places_are stands;
}

-- the texts of these tables read what they stand for
pub first_read : (trees : Trees) (config : Configuration) (room : Room) → Stands trees config room
    → ReadEach (map (λ text. text.now) (drop 1 WHOLE_TABLES)) trees
    (tables_in First config.zone config.terminals room)
first_read trees config room h = (
  reads_whole areas_held ALL_AREAS.now all_areas_means trees (numbered 1 room.plan) h.areas,
  (
    reads_whole terminals_held ALL_TERMINALS.now all_terminals_means trees config.terminals h.terminals,
    (
      reads_whole divisions_held ALL_DIVISIONS.now all_divisions_means trees room.divisions h.divisions,
      (
        reads_whole incidents_held ALL_INCIDENTS.now all_incidents_means trees room.incidents h.incidents,
        (
          reads_whole calls_held ALL_CALLS.now all_calls_means trees room.calls h.calls,
          (
            reads_whole vehicles_held ALL_VEHICLES.now all_vehicles_means trees room.vehicles h.vehicles,
            (
              reads_whole turns_held ALL_TURNS.now all_turns_means trees room.turns h.turns,
              (
                reads_whole assignments_held ALL_ASSIGNMENTS.now all_assignments_means trees room.assignments
                    h.assignments,
                (
                  reads_whole points_held ALL_POINTS.now all_points_means trees room.points h.points,
                  (
                    reads_whole loans_held ALL_LOANS.now all_loans_means trees room.loans h.loans,
                    (
                      reads_whole reports_held ALL_REPORTS.now all_reports_means trees room.reports h.reports,
                      (
                        reads_whole offers_held ALL_OFFERS.now all_offers_means trees room.offers h.offers,
                        tt,
                      ),
                    ),
                  ),
                ),
              ),
            ),
          ),
        ),
      ),
    ),
  ),
)

-- ---- and all tables

pub second_known : AllByRecursion IsKnown (map (λ text. text.now) WHOLE_TABLES)
second_known = (all_meta_means.plain, first_known)

pub second_read : (trees : Trees) (config : Configuration) (room : Room) → Stands trees config room
    → ReadEach (map (λ text. text.now) WHOLE_TABLES) trees
    (tables_in Second config.zone config.terminals room)
second_read trees config room h = (
  reads_whole meta_held ALL_META.now all_meta_means trees (config.zone ∷ []) h.meta,
  first_read trees config room h,
)
