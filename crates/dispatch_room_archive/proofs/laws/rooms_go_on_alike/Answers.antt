use Rattle.dispatch_room_archive.proofs.GoingOn.{run_on}
use Rattle.dispatch_room_archive.proofs.LeftBehind.{left_successor}
use Rattle.dispatch_room_archive.specs.Successor.{left_behind, renewed}
use Rattle.dispatch_room_archive.proofs.laws.rooms_go_on_alike.Goals as goal

pub returns-clause-renewed : goal.returns-clause-renewed
returns-clause-renewed g since r es w known once =
    run_on since (left_behind since r) es r (renewed since r) w (left_successor since r w) known once

pub returns-clause-successors : goal.returns-clause-successors
returns-clause-successors g since b old new es w is known once = run_on since b es old new w is known once
