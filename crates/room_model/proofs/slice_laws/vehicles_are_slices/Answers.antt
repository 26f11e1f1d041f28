use Rattle.room_model.proofs.CrewSliceLaws.{rows_are_crew, rows_of_mine}
use Rattle.room_model.proofs.slice_laws.vehicles_are_slices.Goals as goal

pub returns-clause-crew : goal.returns-clause-crew
returns-clause-crew c = rows_are_crew

pub returns-clause-mine : goal.returns-clause-mine
returns-clause-mine c k r x in_order = rows_of_mine k r in_order x
