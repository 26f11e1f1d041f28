use Rattle.room_model.proofs.FleetStays.{fate_run, fleet_run, terminals_run}
use Rattle.room_model.proofs.agreement_laws.the_fleet_stays.Goals as goal

pub returns-clause-fleet : goal.returns-clause-fleet
returns-clause-fleet g es r c = fleet_run c es r

pub returns-clause-fates : goal.returns-clause-fates
returns-clause-fates g es r ts row = fate_run es r ts row

pub returns-clause-terminals : goal.returns-clause-terminals
returns-clause-terminals g es r ts are = terminals_run es r ts are
