use Rattle.dispatch_room_serving.proofs.KeeperLemmas.{of_keeper}
use Rattle.dispatch_room_serving.proofs.journals.Journal.begin.Goals as goal

pub returns-clause-cause : goal.returns-clause-cause
returns-clause-cause g c =
    of_keeper g.W.Keeper.has_failed c.args.self.now c.noted.new.self c.keep_room-kept.new.out c.keep_room-kept.result
    c.noted.result c.noted.ensures.same_result c.noted.ensures.out c.keep_room-kept.ensures.cause
