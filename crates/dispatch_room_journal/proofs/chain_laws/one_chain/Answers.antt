use Rattle.dispatch_room_journal.proofs.ChainLemmas.{one_chain_law}
use Rattle.dispatch_room_journal.proofs.chain_laws.one_chain.Goals as goal

pub returns : goal.returns
returns c = one_chain_law
