use Rattle.dispatch_room_tasks.proofs.ReplacedLemmas.{replaced_fit}
use Rattle.dispatch_room_tasks.proofs.replacement_laws.replaced_terminals_fit.Goals as goal

pub returns : goal.returns
returns c = λ room ts listed are free. replaced_fit room ts listed are free
