use Rattle.std.proofs.Common.{inl}
use Rattle.std.proofs.lemmas.Result.{IfOk-weaker}
use Rattle.room_model.specs.Step.{single_asks}
use Rattle.room_tables_schema.proofs.ReadLaws.{ends_any, fails, looked}
use Rattle.room_store.proofs.Unavailable.{failed, machines, says, unsaid}
use Rattle.room_store.specs.EventDecisions.{unless_unavailable}
use Rattle.room_store.proofs.event_decisions.for_ask.Goals as goal

pub returns-clause-decided : goal.returns-clause-decided
returns-clause-decided g c clean =
    IfOk-weaker (unless_unavailable c.decide_desk-decision.result) _ _
    (λ x answered config room h formed planned known.
    let ask = c.args.ask.now in
    let at = c.args.at in
    let selects = c.reads_of-reads.ensures in
    let read = c.in-Ok.ensures.rows clean config room h ask formed.order known selects in
    let rows = c.in-Ok-working_slice.ensures.rows room ask at formed.order (rw c.get.ensures read.1.rows) selects read.0
    in
    let decides = rw c.in-Ok-working_slice.ensures.division at
    c.decide_desk-decision.ensures.decides room formed planned in
    answered (single_asks c.args.division ask at room) (decides (inl rows)).0)
    (machines c.decide_desk-decision.result)

pub returns-clause-known : goal.returns-clause-known
returns-clause-known g c clean =
    says c.decide_desk-decision.result _ (λ config room h formed known.
    (c.in-Ok.ensures.rows clean config room h c.args.ask.now formed.order known c.reads_of-reads.ensures).1)

pub returns-clause-reads : goal.returns-clause-reads
returns-clause-reads g c = ends_any (unless_unavailable c.decide_desk-decision.result) (looked c.in-Ok.ensures.reads)

pub returns-in-Err-clause-decided : goal.returns-in-Err-clause-decided
returns-in-Err-clause-decided g c clean = unsaid c.in-Err.fault c.refusal_of.ensures _

pub returns-in-Err-clause-known : goal.returns-in-Err-clause-known
returns-in-Err-clause-known g c clean = unsaid c.in-Err.fault c.refusal_of.ensures _

pub returns-in-Err-clause-reads : goal.returns-in-Err-clause-reads
returns-in-Err-clause-reads g c = fails (failed c.in-Err.fault c.refusal_of.ensures) c.in-Err.ensures.reads

pub returns-in-Err-working_slice-clause-decided : goal.returns-in-Err-working_slice-clause-decided
returns-in-Err-working_slice-clause-decided g c clean =
    unsaid c.in-Err-working_slice.fault c.refusal_of-in-Err-working_slice.ensures _

pub returns-in-Err-working_slice-clause-known : goal.returns-in-Err-working_slice-clause-known
returns-in-Err-working_slice-clause-known g c clean =
    unsaid c.in-Err-working_slice.fault c.refusal_of-in-Err-working_slice.ensures _

pub returns-in-Err-working_slice-clause-reads : goal.returns-in-Err-working_slice-clause-reads
returns-in-Err-working_slice-clause-reads g c = ends_any _ (looked c.in-Ok.ensures.reads)
