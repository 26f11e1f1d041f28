use Rattle.std.proofs.lemmas.Result.{IfOk-weaker}
use Rattle.room_store_writes.proofs.CommitLaws.{ok_then}
use Rattle.room_store_file.proofs.opened_file.is_room_of.Goals as goal

pub returns-clause-ok : goal.returns-clause-ok
returns-clause-ok g c clean =
    ok_then c.is_of_version.result _ _ (λ same. same.0.now_is) (c.is_of_version.ensures.reads.ok clean)

pub returns-clause-is_open : goal.returns-clause-is_open
returns-clause-is_open g c clean =
    IfOk-weaker c.is_of_version.result _ _ (λ yes same _. same.0.is_open) (c.is_of_version.ensures.reads.ok clean)

pub returns-clause-ended : goal.returns-clause-ended
returns-clause-ended g c = c.is_of_version.ensures.reads.mode c.requires.outside
