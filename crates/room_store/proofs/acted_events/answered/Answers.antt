use Rattle.std.proofs.Common.{ap}
use Rattle.room_model.specs.Decisions.{answer_of, changes_of}
use Rattle.room_store.proofs.Unavailable.{in_parts_of, kept_in_parts, reads_in_parts}
use Rattle.room_store.proofs.Unavailable.{unavailable_in_parts}
use Rattle.room_store.specs.EventDecisions.{unless_unavailable}
use Rattle.room_store.proofs.acted_events.answered.Goals as goal

pub returns-clause-changes : goal.returns-clause-changes
returns-clause-changes g c clean =
    rw c.parts.ensures (in_parts_of (unless_unavailable c.decide-decision.result) _ _
    (c.decide-decision.ensures.decided clean) (λ d is config room h. ap changes_of (is config room h)))

pub returns-clause-answer : goal.returns-clause-answer
returns-clause-answer g c clean =
    rw c.parts.ensures (in_parts_of (unless_unavailable c.decide-decision.result) _ _
    (c.decide-decision.ensures.decided clean) (λ d is config room h. ap answer_of (is config room h)))

pub returns-clause-cache : goal.returns-clause-cache
returns-clause-cache g c clean =
    rw c.parts.ensures
    (kept_in_parts (unless_unavailable c.decide-decision.result) _ (c.decide-decision.ensures.cache clean))

pub returns-clause-reads : goal.returns-clause-reads
returns-clause-reads g c =
    rw c.parts.ensures
    (reads_in_parts (unless_unavailable c.decide-decision.result) c.decide-decision.ensures.reads)

pub returns-clause-unavailable : goal.returns-clause-unavailable
returns-clause-unavailable g c = rw c.parts.ensures (unavailable_in_parts c.decide-decision.result)

pub decide-decision-requires-clause-room : goal.decide-decision-requires-clause-room
decide-decision-requires-clause-room g c = c.requires.room

pub decide-decision-requires-clause-open : goal.decide-decision-requires-clause-open
decide-decision-requires-clause-open g c = c.requires.open
