use Rattle.room_model.proofs.SliceLookUps.{all_held_is, assignment_is, held_is, loans_is, offers_is}
use Rattle.room_model.proofs.SliceLookUps.{open_turn_is, points_is}
use Rattle.room_model.proofs.slice_laws.slices_answer.Goals as goal

pub returns-clause-held : goal.returns-clause-held
returns-clause-held c d plan s k h = held_is d plan s h k

pub returns-clause-assignment : goal.returns-clause-assignment
returns-clause-assignment c d plan s k h = assignment_is d plan s h k

pub returns-clause-open_turn : goal.returns-clause-open_turn
returns-clause-open_turn c d plan s k v h in_order there = open_turn_is d plan s h k v there in_order

pub returns-clause-vehicles : goal.returns-clause-vehicles
returns-clause-vehicles c = all_held_is

pub returns-clause-points : goal.returns-clause-points
returns-clause-points c = points_is

pub returns-clause-loans : goal.returns-clause-loans
returns-clause-loans c = loans_is

pub returns-clause-offers : goal.returns-clause-offers
returns-clause-offers c = offers_is
