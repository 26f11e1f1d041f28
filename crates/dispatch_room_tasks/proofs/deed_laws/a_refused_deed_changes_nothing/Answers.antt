use Rattle.dispatch_room_tasks.proofs.DeedLaws.{refused_nothing}
use Rattle.dispatch_room_tasks.proofs.deed_laws.a_refused_deed_changes_nothing.Goals as goal

pub returns : goal.returns
returns c = λ deed now refused. refused_nothing deed now refused
