use Rattle.std.proofs.lemmas.Result.{IfOk-weaker}
use Rattle.dispatch_room_disk.proofs.room_files.open.Goals as goal

pub returns-clause-connected : goal.returns-clause-connected
returns-clause-connected c =
    IfOk-weaker c.connection.result _ _ (λ conn found. (c.in_ok-files.files, found)) c.connection.ensures.found
