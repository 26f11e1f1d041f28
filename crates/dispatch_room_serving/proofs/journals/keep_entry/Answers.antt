use Rattle.dispatch_room_serving.proofs.KeeperLemmas.{keeps_whole, or_failed}
use Rattle.dispatch_room_serving.proofs.journals.keep_entry.Goals as goal

pub returns-in-Ok-clause-kept : goal.returns-in-Ok-clause-kept
returns-in-Ok-clause-kept g c =
    rw c.make_last.ensures.held (keeps_whole {E = _} _ _ _ _ (rw c.bytes.ensures at c.in-Ok.ensures.kept))

pub returns-in-Err-clause-cause : goal.returns-in-Err-clause-cause
returns-in-Err-clause-cause g c = or_failed _ _ c.in-Err.ensures.failed
