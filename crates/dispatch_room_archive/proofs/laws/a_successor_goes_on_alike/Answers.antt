use Rattle.std.proofs.Common.{ap}
use Rattle.room_model.specs.Decisions.{answer_of}
use Rattle.dispatch_room_archive.proofs.GoingOn.{decided_same, goes_on}
use Rattle.dispatch_room_archive.proofs.laws.a_successor_goes_on_alike.Goals as goal

pub returns-clause-answer : goal.returns-clause-answer
returns-clause-answer g since b old new e w is now once = ap answer_of (decided_same since b old new w is e now once)

pub returns-clause-afterwards : goal.returns-clause-afterwards
returns-clause-afterwards g since b old new e w is once = goes_on since b old new w is e once
