use Rattle.std.proofs.Common.{inr, refl}
use Rattle.room_store.proofs.store.Store.after_test.Goals as goal

pub returns-else-self-clause-missed : goal.returns-else-self-clause-missed
returns-else-self-clause-missed g c is = inr (_, refl, inr refl)

pub returns-else-self-clause-same : goal.returns-else-self-clause-same
returns-else-self-clause-same g c is = absurd (cc is)

pub returns-else-self-clause-sound : goal.returns-else-self-clause-sound
returns-else-self-clause-sound g c is = absurd (cc is)
