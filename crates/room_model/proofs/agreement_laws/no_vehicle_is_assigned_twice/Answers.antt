use Rattle.room_model.specs.Run.{room_run}
use Rattle.room_model.proofs.AssignedOnce.{of_one_order, one_assignment, one_open_turn}
use Rattle.room_model.proofs.KeptEvents.{run_kept}
use Rattle.room_model.proofs.agreement_laws.no_vehicle_is_assigned_twice.Goals as goal

pub returns-clause-assignments : goal.returns-clause-assignments
returns-clause-assignments g es r w addressed a b here there same =
    one_assignment (room_run es r) (run_kept es r w addressed) a b here there same

pub returns-clause-turns : goal.returns-clause-turns
returns-clause-turns g es r w addressed t u here there e f same =
    one_open_turn (room_run es r) (run_kept es r w addressed) t u here there e f same

pub returns-clause-together : goal.returns-clause-together
returns-clause-together g es r w addressed a t here there e same =
    of_one_order (room_run es r) (run_kept es r w addressed) a t here there e same
