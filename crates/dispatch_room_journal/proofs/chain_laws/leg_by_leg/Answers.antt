use Rattle.dispatch_room_journal.proofs.LegLemmas.{leg_by_leg_law}
use Rattle.dispatch_room_journal.proofs.chain_laws.leg_by_leg.Goals as goal

pub returns : goal.returns
returns c = leg_by_leg_law
