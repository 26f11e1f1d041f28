-- What is answered to a desk that asks for proposals.
use Rattle.std.specs.Prelude.{List, ℕ, ◌++◌, ◌≡◌}
use Rattle.room_types.specs.declared.answers.Answer.{Answer}
use Rattle.room_types.specs.declared.answers.Answer.TheVariants.{Proposals}
use Rattle.room_types.specs.declared.answers.Proposal.{Proposal}
use Rattle.room_types.specs.declared.codes.Kind.TheVariants.{Ambulance, Car, Support}
use Rattle.room_types.specs.declared.tables.Incident.{Incident}
use Rattle.room_model.specs.Proposals.{AreProposed}
use Rattle.room_model.specs.Room.{Room}

-- the answer is the proposals for an incident: those of each kind, one kind after another
pub record AreForIncident (d : ℕ) (i : Incident) (at : ℕ) (r : Room) (a : Answer) : Type 0 where
  pub ambulances : List Proposal
  pub cars : List Proposal
  pub support : List Proposal
  pub ambulances_first : AreProposed d i at r Ambulance ambulances
  pub cars_first : AreProposed d i at r Car cars
  pub support_first : AreProposed d i at r Support support
  pub joined : a ≡ Proposals (ambulances ++ (cars ++ support))
