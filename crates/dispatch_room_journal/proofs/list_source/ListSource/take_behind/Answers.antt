use Rattle.std.proofs.Common.{refl}
use Rattle.std.proofs.lemmas.Bool.{or_from, or_parts}
use Rattle.dispatch_room_journal.proofs.AdvanceLemmas.{or_none}
use Rattle.dispatch_room_journal.proofs.list_source.ListSource.take_behind.Goals as goal

pub returns-in-Ok-clause-failed : goal.returns-in-Ok-clause-failed
returns-in-Ok-clause-failed g c = or_from _ _ c.in-Ok.ensures.failed (or_parts _ _ c.requires.sound).1

pub returns-in-Ok-clause-taken : goal.returns-in-Ok-clause-taken
returns-in-Ok-clause-taken g c = (_, refl, c.in-Ok.ensures.taken)

pub returns-in-Err-clause-failed : goal.returns-in-Err-clause-failed
returns-in-Err-clause-failed g c = or_none _ _ _ c.in-Err.ensures.failed (or_parts _ _ c.requires.sound).1
