-- The tables stand for only one configuration and room.
use Rattle.std.proofs.Common.{◌≡◌, [], ◌∷◌}
use Rattle.sqlite_trees.specs.Tree.{Trees}
use Rattle.room_tables_schema.proofs.TypedTables.{stands_for_one}
use Rattle.room_model.specs.Room.{Room}
use Rattle.room_tables_rows.proofs.RowLaws.{meta_faithful, area_faithful, terminal_faithful}
use Rattle.room_tables_rows.proofs.RowLaws.{division_faithful, incident_faithful, call_faithful}
use Rattle.room_tables_rows.proofs.RowLaws.{vehicle_faithful, turn_faithful, assignment_faithful}
use Rattle.room_tables_rows.proofs.RowLaws.{point_faithful, loan_faithful, report_faithful}
use Rattle.room_tables_rows.proofs.RowLaws.{offer_faithful}
use Rattle.room_tables_rows.specs.RoomsInTables.{Configuration, Stands}
use Rattle.room_tables_rows.proofs.PlanLaws.{numbered-injective}

module _ (trees : Trees) (config other : Configuration) (room another : Room) (h : Stands trees config room)
    (k : Stands trees other another) where
  same_zone : config.zone ≡ other.zone
  same_zone =
      let listed : config.zone ∷ []
      ≡ other.zone ∷ [] = (stands_for_one _ _ _ _ _ _ _ _ meta_faithful h.meta k.meta).0 in
      cc

  pub one_config : config ≡ other
  one_config i = record {
    zone = same_zone i;
    terminals = (stands_for_one _ _ _ _ _ _ _ _ terminal_faithful h.terminals k.terminals).0 i;
  }

  pub one_room : room ≡ another
  one_room i = record {
    plan =
        numbered-injective 1 room.plan another.plan (stands_for_one _ _ _ _ _ _ _ _ area_faithful h.areas k.areas).0 i;
    divisions = (stands_for_one _ _ _ _ _ _ _ _ division_faithful h.divisions k.divisions).0 i;
    incidents = (stands_for_one _ _ _ _ _ _ _ _ incident_faithful h.incidents k.incidents).0 i;
    calls = (stands_for_one _ _ _ _ _ _ _ _ call_faithful h.calls k.calls).0 i;
    vehicles = (stands_for_one _ _ _ _ _ _ _ _ vehicle_faithful h.vehicles k.vehicles).0 i;
    turns = (stands_for_one _ _ _ _ _ _ _ _ turn_faithful h.turns k.turns).0 i;
    assignments = (stands_for_one _ _ _ _ _ _ _ _ assignment_faithful h.assignments k.assignments).0 i;
    points = (stands_for_one _ _ _ _ _ _ _ _ point_faithful h.points k.points).0 i;
    loans = (stands_for_one _ _ _ _ _ _ _ _ loan_faithful h.loans k.loans).0 i;
    offers = (stands_for_one _ _ _ _ _ _ _ _ offer_faithful h.offers k.offers).0 i;
    reports = (stands_for_one _ _ _ _ _ _ _ _ report_faithful h.reports k.reports).0 i;
  }
