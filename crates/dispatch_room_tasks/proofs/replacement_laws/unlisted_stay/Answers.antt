use Rattle.dispatch_room_tasks.proofs.ReplacedLemmas.{unlisted_stay, unlisted_were}
use Rattle.dispatch_room_tasks.proofs.replacement_laws.unlisted_stay.Goals as goal

pub returns : goal.returns
returns c = record {
  stay = λ room ts listed who k are free apart e. unlisted_stay room ts listed are free k who apart e;
  come = λ room ts listed who k are free apart e. unlisted_were room ts listed are free k who apart e;
}
