use Rattle.std.proofs.Common.{inl, inr}
use Rattle.dispatch_room_journal.proofs.FaultLemmas.{not_both}
use Rattle.dispatch_room_lists.proofs.replayed_segments.replay_leg.Goals as goal

pub returns-then-not-replay-clause-segment : goal.returns-then-not-replay-clause-segment
returns-then-not-replay-clause-segment g c before = record {
  replayed = λ no. c.replay.ensures.replay;
  answered = λ yes. absurd (not_both _ c.if-not-replay.true yes);
}

pub returns-in-Ok-clause-segment : goal.returns-in-Ok-clause-segment
returns-in-Ok-clause-segment g c before = record {
  replayed = λ no. absurd (not_both c.args.course.now.replay.now.answers no c.if-not-replay.false);
  answered = λ yes. rw c.begin.ensures.output at c.in-Ok.ensures.answers;
}

pub returns-in-Err-clause-segment : goal.returns-in-Err-clause-segment
returns-in-Err-clause-segment g c before = record {
  replayed = λ no. absurd (not_both c.args.course.now.replay.now.answers no c.if-not-replay.false);
  answered = λ yes. rw c.begin.ensures.output at c.in-Err.ensures.answers;
}

pub returns-then-not-replay-clause-goes : goal.returns-then-not-replay-clause-goes
returns-then-not-replay-clause-goes g c = record {
  ready = c.replay.ensures.ready;
  zone = c.replay.ensures.zone;
  trusted = c.replay.ensures.trusted;
}

pub returns-in-Ok-clause-goes : goal.returns-in-Ok-clause-goes
returns-in-Ok-clause-goes g c = record {
  ready = c.answer_each.ensures.ready;
  zone = c.answer_each.ensures.zone;
  trusted = c.answer_each.ensures.trusted;
}

pub returns-in-Err-clause-goes : goal.returns-in-Err-clause-goes
returns-in-Err-clause-goes g c = record {
  ready = c.answer_each.ensures.ready;
  zone = c.answer_each.ensures.zone;
  trusted = c.answer_each.ensures.trusted;
}

pub returns-then-not-replay-clause-ended : goal.returns-then-not-replay-clause-ended
returns-then-not-replay-clause-ended g c = λ all. elim all [
  | inl answers ↦ absurd (not_both _ c.if-not-replay.true answers)
  | inr none ↦ c.replay.ensures.ended none
]

pub returns-in-Ok-clause-ended : goal.returns-in-Ok-clause-ended
returns-in-Ok-clause-ended g c = λ all. c.in-Ok.ensures.ended
