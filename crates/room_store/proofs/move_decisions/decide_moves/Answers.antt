use Rattle.std.proofs.lemmas.Result.{IfOk-weaker}
use Rattle.room_store.proofs.KnownLaws.{knows_nothing}
use Rattle.room_store.proofs.Unavailable.{failed, unsaid}
use Rattle.room_store.specs.EventDecisions.{unless_unavailable}
use Rattle.room_tables_schema.proofs.ReadLaws.{ends_any, fails, looked}
use Rattle.room_store.proofs.move_decisions.decide_moves.Goals as goal

pub returns-in-Ok-clause-decided : goal.returns-in-Ok-clause-decided
returns-in-Ok-clause-decided g c clean =
    IfOk-weaker (unless_unavailable c.decide_course.result) _ _ (λ x is config room h formed.
    is room formed
    (c.in-Ok.ensures.known clean config room h formed (knows_nothing _ room c.new-known.ensures)).all)
    c.decide_course.ensures

pub returns-in-Ok-clause-reads : goal.returns-in-Ok-clause-reads
returns-in-Ok-clause-reads g c =
    ends_any (unless_unavailable c.decide_course.result) (looked c.in-Ok.ensures.reads)

pub returns-in-Err-clause-decided : goal.returns-in-Err-clause-decided
returns-in-Err-clause-decided g c clean = unsaid c.in-Err.fault c.refusal_of.ensures _

pub returns-in-Err-clause-reads : goal.returns-in-Err-clause-reads
returns-in-Err-clause-reads g c = fails (failed c.in-Err.fault c.refusal_of.ensures) c.in-Err.ensures.reads
