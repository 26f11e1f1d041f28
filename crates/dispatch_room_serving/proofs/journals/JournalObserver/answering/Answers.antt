use Rattle.dispatch_room_serving.proofs.KeeperLemmas.{of_keeper_or}
use Rattle.dispatch_room_serving.proofs.journals.JournalObserver.answering.Goals as goal
use Rattle.dispatch_room_serving.proofs.journals.JournalObserver.answering.Goals.{in-Message}
use Rattle.dispatch_room_serving.proofs.journals.JournalObserver.answering.Goals.{in_default-2}
use Rattle.dispatch_room_serving.proofs.journals.JournalObserver.answering.Goals.{in_default}

pub returns-clause-cause : goal.returns-clause-cause
returns-clause-cause g c =
    of_keeper_or g.W.Keeper.has_failed c.args.self.now c.noted.new.self c.match-arrived.self.out _ c.match-arrived.kept
    c.noted.result c.noted.ensures.same_result c.noted.ensures.out (elim c.match-arrived.branch [
      | in-Message w ↦ rw (w.self-is, w.kept-is) w.keep_answer-kept.ensures.cause
      | in_default-2 w ↦ rw (w.self-is, w.kept-is) tt
      | in_default w ↦ rw (w.self-is, w.kept-is) tt
    ])
