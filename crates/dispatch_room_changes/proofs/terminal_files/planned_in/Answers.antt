use Rattle.std.proofs.Common.{refl}
use Rattle.dispatch_room_disk.proofs.WorkLemmas.{handed_on}
use Rattle.dispatch_room_changes.proofs.terminal_files.planned_in.Goals as goal

pub returns-clause-given : goal.returns-clause-given
returns-clause-given c = (c.in_ok-file.file, c.in_ok-file.ensures.plan, refl)

pub returns-in_err-file-clause-none : goal.returns-in_err-file-clause-none
returns-in_err-file-clause-none c =
    handed_on c.from_residual.result _ c.from_residual.ensures.1 (λ fault is. rw is c.in_err-file.ensures.none)
