use Rattle.std.proofs.Common.{None, arith, sym, ◌∙◌, ◌≡◌}
use Rattle.std.proofs.lemmas.Result.{IfOk-weaker}
use Rattle.sqlite.specs.Held.{state}
use Rattle.sqlite.specs.State.{HasCleanDisk}
use Rattle.room_model.specs.Queries.{kept_report}
use Rattle.room_tables_schema.proofs.ReadLaws.{ends_any, fails, looked, then_any}
use Rattle.room_tables.proofs.RoomReads.{kept}
use Rattle.room_store.proofs.Unavailable.{failed, says, unsaid}
use Rattle.room_store.specs.EventDecisions.{unless_unavailable}
use Rattle.room_store.proofs.event_decisions.for_report.Goals as goal

pub by_rows-requires-clause-open : goal.by_rows-requires-clause-open
by_rows-requires-clause-open g c clean = (c.in-Ok-None.ensures.reads.ok clean).0.is_open

pub returns-in-Ok-Some-clause-decided : goal.returns-in-Ok-Some-clause-decided
unfolding kept_report
returns-in-Ok-Some-clause-decided g c clean =
    says c.decide_repeated_report.result _ (λ config room h formed fleet there.
    sym
    (rw (c.requires.report, c.in-Ok-Some.ensures.row clean config room h formed there, c.in-Ok-Some.field-0-is)
    (sym c.decide_repeated_report.ensures)))

pub returns-in-Ok-Some-clause-known : goal.returns-in-Ok-Some-clause-known
returns-in-Ok-Some-clause-known g c clean = says c.decide_repeated_report.result _ (λ config room h fleet. fleet)

pub returns-in-Ok-Some-clause-reads : goal.returns-in-Ok-Some-clause-reads
returns-in-Ok-Some-clause-reads g c =
    ends_any (unless_unavailable c.decide_repeated_report.result) (looked c.in-Ok-Some.ensures.reads)

pub returns-in-Ok-None-clause-decided : goal.returns-in-Ok-None-clause-decided
unfolding kept_report
returns-in-Ok-None-clause-decided g c clean =
    IfOk-weaker (unless_unavailable c.by_rows.result) _ _ (λ x answered config room h formed fleet there.
    let first = state g.S.Store c.args.conn.now in
    let second = state g.S.Store c.load_report.new.conn in
    let clean_second : HasCleanDisk second = omega (arith, c.by_rows.ensures.reads.survives.clean) in
    let new : kept_report c.args.vehicle.now.callsign c.args.press.now.number room
    ≡ None = c.in-Ok-None.ensures.row clean_second config room h formed there ∙ c.in-Ok-None.field-0-is in
    answered config room (kept first second (c.in-Ok-None.ensures.reads.ok clean_second) config room h) formed fleet
    there (rw c.requires.report new)) (c.by_rows.ensures.decided clean)

pub returns-in-Ok-None-clause-known : goal.returns-in-Ok-None-clause-known
returns-in-Ok-None-clause-known g c clean =
    IfOk-weaker (unless_unavailable c.by_rows.result) _ _ (λ x known config room h.
    let first = state g.S.Store c.args.conn.now in
    let second = state g.S.Store c.load_report.new.conn in
    let clean_second : HasCleanDisk second = omega (arith, c.by_rows.ensures.reads.survives.clean) in
    known config room (kept first second (c.in-Ok-None.ensures.reads.ok clean_second) config room h))
    (c.by_rows.ensures.known clean)

pub returns-in-Ok-None-clause-reads : goal.returns-in-Ok-None-clause-reads
returns-in-Ok-None-clause-reads g c =
    then_any (looked c.in-Ok-None.ensures.reads) (unless_unavailable c.by_rows.result) c.by_rows.ensures.reads

pub returns-in-Err-clause-reads : goal.returns-in-Err-clause-reads
returns-in-Err-clause-reads g c = fails (failed c.in-Err.fault c.refusal_of.ensures) c.in-Err.ensures.reads

pub returns-in-Err-clause-decided : goal.returns-in-Err-clause-decided
returns-in-Err-clause-decided g c clean = unsaid c.in-Err.fault c.refusal_of.ensures _

pub returns-in-Err-clause-known : goal.returns-in-Err-clause-known
returns-in-Err-clause-known g c clean = unsaid c.in-Err.fault c.refusal_of.ensures _
