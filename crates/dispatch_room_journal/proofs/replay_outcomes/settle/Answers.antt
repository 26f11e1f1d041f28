use Rattle.dispatch_room_journal.proofs.StepLemmas.{left_turn, settles_line}
use Rattle.dispatch_room_journal.proofs.replay_outcomes.settle.Goals as goal

pub returns-in-Message-clause-turn : goal.returns-in-Message-clause-turn
returns-in-Message-clause-turn g c = (
  left_turn _ _ _ _ _ _ _ _ (λ trust terminals room stood. stood),
  λ status is. absurd (cc (c.in-Message.is, is)),
  λ head is. absurd (cc (c.in-Message.is, is)),
)

pub returns-in-Answer-clause-turn : goal.returns-in-Answer-clause-turn
returns-in-Answer-clause-turn g c = settles_line _ _ _ _ _ _ _ _ _ _ _ c.in-Answer.is c.play_answered.ensures.turn
