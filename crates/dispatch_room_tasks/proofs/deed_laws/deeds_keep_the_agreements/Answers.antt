use Rattle.dispatch_room_tasks.proofs.DeedLaws.{sound_after}
use Rattle.dispatch_room_tasks.proofs.deed_laws.deeds_keep_the_agreements.Goals as goal

pub returns : goal.returns
returns c = λ deeds now sound heard. sound_after deeds now sound heard
