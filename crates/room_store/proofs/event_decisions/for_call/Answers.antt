use Rattle.std.proofs.Common.{arith, inl, refl}
use Rattle.std.proofs.lemmas.Result.{IfOk-weaker}
use Rattle.room_core.proofs.DecidedLaws.{decides}
use Rattle.room_model.specs.Calls.{take_call}
use Rattle.room_tables_schema.proofs.ReadLaws.{and, but, ends_any, fails, looked, succeeds}
use Rattle.room_store.proofs.CallReads.{answered_again, is_new, nowhere, placed_in}
use Rattle.room_store.proofs.Unavailable.{all_known, failed, machines, says, still_known, unsaid}
use Rattle.room_store.specs.EventDecisions.{unless_unavailable}
use Rattle.room_tables.proofs.RoomReads.{kept}
use Rattle.room_tables_schema.specs.FileConnections.{IsClean}
use Rattle.room_store.proofs.event_decisions.for_call.Goals as goal

pub returns-in-Some-clause-decided : goal.returns-in-Some-clause-decided
returns-in-Some-clause-decided g c clean =
    says c.decide_repeated_call.result _ (λ config room h _ _ _ formed planned made ask _ _.
    answered_again c.args.call.now c.args.plan.now.areas room planned c.in-Ok.found
    (c.in-Ok.ensures.row clean config room h)
    c.in-Some.kept c.decide_repeated_call.result c.in-Some.is c.decide_repeated_call.ensures)

pub returns-in-Some-clause-cache : goal.returns-in-Some-clause-cache
returns-in-Some-clause-cache g c clean = says c.decide_repeated_call.result _ (λ config room h formed fleet is. is)

pub returns-in-Some-clause-reads : goal.returns-in-Some-clause-reads
returns-in-Some-clause-reads g c =
    ends_any (unless_unavailable c.decide_repeated_call.result) (looked c.in-Ok.ensures.reads)

pub returns-in_default-division_of-clause-decided : goal.returns-in_default-division_of-clause-decided
returns-in_default-division_of-clause-decided g c clean config room h _ _ _ formed planned made ask _ _ =
    nowhere c.args.call.now c.args.plan.now.areas room planned c.in-Ok.found (c.in-Ok.ensures.row clean config room h)
    c.division_of.result c.division_of.ensures.value c.in_default.is c.in_default-division_of.is

pub returns-in_default-division_of-clause-reads : goal.returns-in_default-division_of-clause-reads
returns-in_default-division_of-clause-reads g c = succeeds (looked c.in-Ok.ensures.reads)

pub load_history_rows-requires-clause-open : goal.load_history_rows-requires-clause-open
load_history_rows-requires-clause-open g c clean = (c.in-Ok.ensures.reads.ok clean).0.is_open

pub returns-clause-decided : goal.returns-clause-decided
returns-clause-decided g c clean =
    let first : IsClean g.S.Store c.row_at.new.conn = omega
    (arith, c.load_history_rows.ensures.reads.survives.clean) in
    IfOk-weaker (unless_unavailable c.decide_call-decision.result) _ _
    (λ x answered config room h position at form formed planned made asked fleet is.
    let call = c.args.call.now in
    let areas = c.args.plan.now.areas in
    let row = c.in-Ok.ensures.row first config room h in
    let ask = c.args.ask.now in
    let selects = c.reads_of-reads.ensures in
    let read = c.in-Ok-load_history_rows.ensures.rows clean config room
    (kept _ _ (c.in-Ok.ensures.reads.ok first) config room h) ask formed.order (all_known fleet is) selects in
    let rows = c.in-Ok-working_slice.ensures.rows room ask call.at formed.order (rw c.get.ensures read.1.rows) selects
    read.0 in
    let new = is_new call areas room planned c.in-Ok.found row c.division_of.result c.division_of.ensures.value
    c.in_default.is in
    let placed = placed_in call areas room planned c.in-Ok.found row c.division_of.result c.division_of.ensures.value
    c.in-Some-division_of.division c.in-Some-division_of.is in
    let asks = rw (made, c.in-Ok-working_slice.ensures.division) at
    c.decide_call-decision.ensures.decides room form formed in
    answered (take_call call room)
    (decides _ _ (rw made (asks refl (rw made at new) (rw made at placed) (inl (rw (made, asked) at rows))))))
    (machines c.decide_call-decision.result)

pub returns-clause-cache : goal.returns-clause-cache
returns-clause-cache g c clean =
    let first : IsClean g.S.Store c.row_at.new.conn = omega
    (arith, c.load_history_rows.ensures.reads.survives.clean) in
    says c.decide_call-decision.result _ (λ config room h formed fleet is.
    let read = c.in-Ok-load_history_rows.ensures.rows clean config room
    (kept _ _ (c.in-Ok.ensures.reads.ok first) config room h) c.args.ask.now formed.order (all_known fleet is)
    c.reads_of-reads.ensures in
    still_known fleet read.1 c.load_history_rows.ensures.fleet)

pub returns-clause-reads : goal.returns-clause-reads
returns-clause-reads g c =
    ends_any (unless_unavailable c.decide_call-decision.result)
    (and (looked c.in-Ok.ensures.reads) c.in-Ok-load_history_rows.ensures.reads)

pub returns-in-Err-clause-decided : goal.returns-in-Err-clause-decided
returns-in-Err-clause-decided g c clean = unsaid c.in-Err.fault c.refusal_of.ensures _

pub returns-in-Err-clause-cache : goal.returns-in-Err-clause-cache
returns-in-Err-clause-cache g c clean = unsaid c.in-Err.fault c.refusal_of.ensures _

pub returns-in-Err-clause-reads : goal.returns-in-Err-clause-reads
returns-in-Err-clause-reads g c = fails (failed c.in-Err.fault c.refusal_of.ensures) c.in-Err.ensures.reads

pub returns-in-Err-load_history_rows-clause-decided : goal.returns-in-Err-load_history_rows-clause-decided
returns-in-Err-load_history_rows-clause-decided g c clean =
    unsaid c.in-Err-load_history_rows.fault c.refusal_of-in-Err-load_history_rows.ensures _

pub returns-in-Err-load_history_rows-clause-cache : goal.returns-in-Err-load_history_rows-clause-cache
returns-in-Err-load_history_rows-clause-cache g c clean =
    unsaid c.in-Err-load_history_rows.fault c.refusal_of-in-Err-load_history_rows.ensures _

pub returns-in-Err-load_history_rows-clause-reads : goal.returns-in-Err-load_history_rows-clause-reads
returns-in-Err-load_history_rows-clause-reads g c =
    but (looked c.in-Ok.ensures.reads)
    (failed c.in-Err-load_history_rows.fault c.refusal_of-in-Err-load_history_rows.ensures)
    c.in-Err-load_history_rows.ensures.reads

pub returns-in-Err-working_slice-clause-decided : goal.returns-in-Err-working_slice-clause-decided
returns-in-Err-working_slice-clause-decided g c clean =
    unsaid c.in-Err-working_slice.fault c.refusal_of-in-Err-working_slice.ensures _

pub returns-in-Err-working_slice-clause-cache : goal.returns-in-Err-working_slice-clause-cache
returns-in-Err-working_slice-clause-cache g c clean =
    unsaid c.in-Err-working_slice.fault c.refusal_of-in-Err-working_slice.ensures _

pub returns-in-Err-working_slice-clause-reads : goal.returns-in-Err-working_slice-clause-reads
returns-in-Err-working_slice-clause-reads g c =
    ends_any _ (and (looked c.in-Ok.ensures.reads) c.in-Ok-load_history_rows.ensures.reads)
