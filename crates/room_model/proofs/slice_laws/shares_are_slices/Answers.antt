use Rattle.room_model.proofs.SliceLaws.{share_is_slice, working_is_slice}
use Rattle.room_model.proofs.slice_laws.shares_are_slices.Goals as goal

pub returns-clause-share : goal.returns-clause-share
returns-clause-share c = share_is_slice

pub returns-clause-working : goal.returns-clause-working
returns-clause-working c = working_is_slice
