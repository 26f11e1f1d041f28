use Rattle.std.proofs.lemmas.Result.{on_ok_weaker}
use Rattle.dispatch_room_serving.proofs.KeeperLemmas.{flag_failed}
use Rattle.dispatch_room_changes.proofs.change_lists.keep_place.Goals as goal

pub returns-clause-unkept : goal.returns-clause-unkept
returns-clause-unkept g c =
    flag_failed c.keep_head.new.list.out.failed c.make_last.new.list.out.failed c.make_last.result
    c.make_last.ensures.failed

pub returns-clause-marked : goal.returns-clause-marked
returns-clause-marked g c =
    on_ok_weaker c.make_last.result (λ lasts. c.in_ok-keep_head.ensures.marked)
    c.make_last.ensures.lasts
