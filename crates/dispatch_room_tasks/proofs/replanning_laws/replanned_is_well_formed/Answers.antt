use Rattle.dispatch_room_tasks.proofs.ReplannedLemmas.{still_fit, still_formed}
use Rattle.dispatch_room_tasks.proofs.replanning_laws.replanned_is_well_formed.Goals as goal

pub returns : goal.returns
returns c = record {
  formed = λ plan room formed agrees. still_formed plan room agrees formed;
  fits = λ plan room ts fit agrees. still_fit plan room agrees ts fit;
}
