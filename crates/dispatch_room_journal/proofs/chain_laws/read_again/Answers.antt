use Rattle.dispatch_room_journal.proofs.AgainLemmas.{read_again_law}
use Rattle.dispatch_room_journal.proofs.chain_laws.read_again.Goals as goal

pub returns : goal.returns
returns c = read_again_law
