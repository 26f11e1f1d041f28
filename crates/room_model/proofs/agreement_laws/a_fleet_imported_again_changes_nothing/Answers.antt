use Rattle.room_model.proofs.FleetAgain.{fleet_again}
use Rattle.room_model.proofs.agreement_laws.a_fleet_imported_again_changes_nothing.Goals as goal

pub returns : goal.returns
returns g xs between r ts are = fleet_again xs between r ts are
