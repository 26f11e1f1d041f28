use Rattle.std.proofs.Common.{ap, refl, subst, ◌≡◌}
use Rattle.std.proofs.lemmas.Result.{IfOk-weaker}
use Rattle.room_core.proofs.DecidedLaws.{decides}
use Rattle.room_core.specs.DecisionRows.{IsUnsent}
use Rattle.room_model.specs.RoomSlices.{AreCrewRows}
use Rattle.room_model.specs.Step.{crew_asks}
use Rattle.room_types.specs.declared.tables.Vehicle.{Vehicle}
use Rattle.room_tables_schema.proofs.ReadLaws.{ends_any, fails, lacks_memory, looked}
use Rattle.room_store.proofs.Unavailable.{failed, machines, says, unsaid}
use Rattle.room_store.specs.EventDecisions.{unless_unavailable}
use Rattle.room_store.proofs.event_decisions.by_rows.Goals as goal

pub returns-in-Some-clause-decided : goal.returns-in-Some-clause-decided
returns-in-Some-clause-decided g c clean =
    IfOk-weaker (unless_unavailable c.decide_crew.result) _ _ (λ x is config room h formed fleet there unsent.
    let v = c.args.vehicle.now in
    let ask = c.args.ask.now in
    let rows = c.in-Ok.ensures.rows clean config room h formed fleet there in
    let asked = rw c.in-Some.ensures.rows at c.decide_crew.ensures.decides room formed in
    let named = subst
    (λ k.
    AreCrewRows k room c.in-Ok.rows → IsUnsent k ask room
    → c.decide_crew.result ≡ crew_asks k ask c.args.at room) (ap (λ (w : Vehicle). w.callsign) rows.0) asked in
    is (crew_asks v.callsign ask c.args.at room) (decides _ _ (named rows.1 unsent))) (machines c.decide_crew.result)

pub returns-in-Some-clause-known : goal.returns-in-Some-clause-known
returns-in-Some-clause-known g c clean = says c.decide_crew.result _ (c.in-Ok.ensures.known clean)

pub returns-in-Some-clause-reads : goal.returns-in-Some-clause-reads
returns-in-Some-clause-reads g c = ends_any (unless_unavailable c.decide_crew.result) (looked c.in-Ok.ensures.reads)

pub returns-in-None-clause-reads : goal.returns-in-None-clause-reads
returns-in-None-clause-reads g c = lacks_memory refl (looked c.in-Ok.ensures.reads)

pub returns-in-Err-clause-reads : goal.returns-in-Err-clause-reads
returns-in-Err-clause-reads g c = fails (failed c.in-Err.fault c.refusal_of.ensures) c.in-Err.ensures.reads

pub returns-in-Err-clause-decided : goal.returns-in-Err-clause-decided
returns-in-Err-clause-decided g c clean = unsaid c.in-Err.fault c.refusal_of.ensures _

pub returns-in-Err-clause-known : goal.returns-in-Err-clause-known
returns-in-Err-clause-known g c clean = unsaid c.in-Err.fault c.refusal_of.ensures _
