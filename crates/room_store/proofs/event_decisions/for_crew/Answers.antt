use Rattle.std.proofs.Common.{Some, ap, refl, sym, ◌∙◌, ◌≡◌}
use Rattle.std.proofs.lemmas.Result.{IfOk-weaker}
use Rattle.room_types.specs.KeyedRows.{row_at}
use Rattle.room_types.specs.Keys.{callsign_cmp, vehicle_key}
use Rattle.room_tables_schema.proofs.ReadLaws.{begins, lacks_memory, succeeds}
use Rattle.room_store_cache.specs.declared.fleets.FleetRows.{FleetRows}
use Rattle.room_store_reads.proofs.CrewReads.{found_here}
use Rattle.room_store.specs.EventDecisions.{unless_unavailable}
use Rattle.room_store.proofs.Unavailable.{filled}
use Rattle.room_store.proofs.event_decisions.for_crew.Goals as goal

pub returns-in-Report-clause-decided : goal.returns-in-Report-clause-decided
returns-in-Report-clause-decided g c clean =
    IfOk-weaker (unless_unavailable c.for_report.result) _ _ (λ x answered config room h formed fleet is.
    let k = c.args.callsign.now in
    let there : row_at callsign_cmp vehicle_key room.vehicles k
    ≡ Some c.in-Some.vehicle =
    ap (λ xs. row_at callsign_cmp vehicle_key xs k)
    (sym (ap (λ (r : FleetRows). r.vehicles) c.get.ensures ∙ fleet.rows.vehicles))
    ∙ sym (c.copied.ensures ∙ c.get-2.ensures) ∙ c.in-Some.is in
    let here = found_here k c.in-Some.vehicle room there in
    rw c.in-Report.is (rw (here.0, c.in-Report.is) at (answered config room h formed fleet here.1)))
    (c.for_report.ensures.decided clean)

pub returns-in-Order-clause-decided : goal.returns-in-Order-clause-decided
returns-in-Order-clause-decided g c clean =
    IfOk-weaker (unless_unavailable c.by_rows.result) _ _ (λ x answered config room h formed fleet is.
    let k = c.args.callsign.now in
    let there : row_at callsign_cmp vehicle_key room.vehicles k
    ≡ Some c.in-Some.vehicle =
    ap (λ xs. row_at callsign_cmp vehicle_key xs k)
    (sym (ap (λ (r : FleetRows). r.vehicles) c.get.ensures ∙ fleet.rows.vehicles))
    ∙ sym (c.copied.ensures ∙ c.get-2.ensures) ∙ c.in-Some.is in
    let here = found_here k c.in-Some.vehicle room there in
    rw c.in-Order.is
    (rw (here.0, c.in-Order.is) at (answered config room h formed fleet here.1 (rw c.in-Order.is tt))))
    (c.by_rows.ensures.decided clean)

pub returns-in-Job-clause-decided : goal.returns-in-Job-clause-decided
returns-in-Job-clause-decided g c clean =
    IfOk-weaker (unless_unavailable c.for_job.result) _ _ (λ x answered config room h formed fleet is.
    let k = c.args.callsign.now in
    let there : row_at callsign_cmp vehicle_key room.vehicles k
    ≡ Some c.in-Some.vehicle =
    ap (λ xs. row_at callsign_cmp vehicle_key xs k)
    (sym (ap (λ (r : FleetRows). r.vehicles) c.get.ensures ∙ fleet.rows.vehicles))
    ∙ sym (c.copied.ensures ∙ c.get-2.ensures) ∙ c.in-Some.is in
    let here = found_here k c.in-Some.vehicle room there in
    rw c.in-Job.is (rw here.0 at (answered config room h formed fleet is here.1))) (c.for_job.ensures.decided clean)

pub returns-in-Last-clause-decided : goal.returns-in-Last-clause-decided
returns-in-Last-clause-decided g c clean =
    IfOk-weaker (unless_unavailable c.by_rows-in-Last.result) _ _ (λ x answered config room h formed fleet is.
    let k = c.args.callsign.now in
    let there : row_at callsign_cmp vehicle_key room.vehicles k
    ≡ Some c.in-Some.vehicle =
    ap (λ xs. row_at callsign_cmp vehicle_key xs k)
    (sym (ap (λ (r : FleetRows). r.vehicles) c.get.ensures ∙ fleet.rows.vehicles))
    ∙ sym (c.copied.ensures ∙ c.get-2.ensures) ∙ c.in-Some.is in
    let here = found_here k c.in-Some.vehicle room there in
    rw c.in-Last.is (rw (here.0, c.in-Last.is) at (answered config room h formed fleet here.1 (rw c.in-Last.is tt))))
    (c.by_rows-in-Last.ensures.decided clean)

pub returns-in-Report-clause-cache : goal.returns-in-Report-clause-cache
returns-in-Report-clause-cache g c clean =
    IfOk-weaker (unless_unavailable c.for_report.result) _ _ (λ x known config room h formed fleet is.
    filled _ (known config room h fleet) is) (c.for_report.ensures.known clean)

pub returns-in-Order-clause-cache : goal.returns-in-Order-clause-cache
returns-in-Order-clause-cache g c clean =
    IfOk-weaker (unless_unavailable c.by_rows.result) _ _ (λ x known config room h formed fleet is.
    filled _ (known config room h fleet) is) (c.by_rows.ensures.known clean)

pub returns-in-Last-clause-cache : goal.returns-in-Last-clause-cache
returns-in-Last-clause-cache g c clean =
    IfOk-weaker (unless_unavailable c.by_rows-in-Last.result) _ _ (λ x known config room h formed fleet is.
    filled _ (known config room h fleet) is) (c.by_rows-in-Last.ensures.known clean)

pub returns-in-Report-clause-reads : goal.returns-in-Report-clause-reads
returns-in-Report-clause-reads g c = c.for_report.ensures.reads

pub returns-in_default-clause-reads : goal.returns-in_default-clause-reads
returns-in_default-clause-reads g c = lacks_memory refl (begins c.requires.open)

pub returns-in-Order-clause-reads : goal.returns-in-Order-clause-reads
returns-in-Order-clause-reads g c = c.by_rows.ensures.reads

pub returns-in-Job-clause-reads : goal.returns-in-Job-clause-reads
returns-in-Job-clause-reads g c = c.for_job.ensures.reads

pub returns-in-Last-clause-reads : goal.returns-in-Last-clause-reads
returns-in-Last-clause-reads g c = c.by_rows-in-Last.ensures.reads

pub returns-in_default-ask-clause-reads : goal.returns-in_default-ask-clause-reads
returns-in_default-ask-clause-reads g c = succeeds (begins c.requires.open)
