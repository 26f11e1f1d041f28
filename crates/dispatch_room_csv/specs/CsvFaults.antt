-- What a fault of a file is to the program.
use Rattle.dispatch_room_exit.specs.declared.exit_status.Failure.{Failure}
use Rattle.dispatch_room_exit.specs.declared.exit_status.Failure.TheVariants.{Input, Memory}
use Rattle.dispatch_room_exit.specs.declared.exit_status.Failure.TheVariants.{PlanRow}
use Rattle.dispatch_room_csv.specs.declared.fleet_file.FleetFileFault.{FleetFileFault}
use Rattle.dispatch_room_csv.specs.declared.fleet_file.FleetFileFault.TheVariants as fleet
use Rattle.dispatch_room_csv.specs.declared.plan_file.PlanFileFault.{PlanFileFault}
use Rattle.dispatch_room_csv.specs.declared.plan_file.PlanFileFault.TheVariants as plan

-- of a plan's
abbrev pub plan_failure : PlanFileFault → Failure
plan_failure plan.Input = Input
plan_failure (plan.Row row) = PlanRow row
plan_failure plan.Memory = Memory

-- of a fleet's
abbrev pub fleet_failure : FleetFileFault → Failure
fleet_failure fleet.Input = Input
fleet_failure fleet.Memory = Memory
