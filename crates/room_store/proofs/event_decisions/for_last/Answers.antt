use Rattle.std.proofs.Common.{ap, ◌∙◌}
use Rattle.room_types.specs.declared.answers.Answer.TheVariants.{LastSerial}
use Rattle.room_model.specs.Decisions.{show}
use Rattle.room_tables_schema.proofs.ReadLaws.{fails, looked, succeeds}
use Rattle.room_store.proofs.Unavailable.{failed, unsaid}
use Rattle.room_store.proofs.event_decisions.for_last.Goals as goal

pub returns-in-Ok-clause-decided : goal.returns-in-Ok-clause-decided
returns-in-Ok-clause-decided g c clean config room h =
    c.decide_last_serial.ensures ∙ ap (λ n. show (LastSerial n)) (c.in-Ok.ensures.serial clean config room h)

pub returns-in-Err-clause-decided : goal.returns-in-Err-clause-decided
returns-in-Err-clause-decided g c clean = unsaid c.in-Err.fault c.refusal_of.ensures _

pub returns-in-Ok-clause-reads : goal.returns-in-Ok-clause-reads
returns-in-Ok-clause-reads g c = succeeds (looked c.in-Ok.ensures.reads)

pub returns-in-Err-clause-reads : goal.returns-in-Err-clause-reads
returns-in-Err-clause-reads g c = fails (failed c.in-Err.fault c.refusal_of.ensures) c.in-Err.ensures.reads
