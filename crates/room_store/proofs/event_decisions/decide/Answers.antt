use Rattle.std.proofs.Common.{ap, arith, refl, ◌∙◌}
use Rattle.std.proofs.lemmas.Result.{IfOk-weaker}
use Rattle.room_model.specs.Calls.{take_call}
use Rattle.room_tables_schema.proofs.ReadLaws.{fails, lacks_memory, looked, then_any}
use Rattle.room_tables.proofs.RoomReads.{kept}
use Rattle.room_store.proofs.Unavailable.{all_known, failed, filled, still_known, unsaid}
use Rattle.room_store.specs.EventDecisions.{unless_unavailable}
use Rattle.room_tables_schema.specs.FileConnections.{IsClean}
use Rattle.room_store.proofs.event_decisions.decide.Goals as goal

pub for_desk-requires-clause-open : goal.for_desk-requires-clause-open
for_desk-requires-clause-open g c clean = (c.in-Ok.ensures.reads.ok clean).0.is_open

pub for_crew-requires-clause-open : goal.for_crew-requires-clause-open
for_crew-requires-clause-open g c clean = (c.in-Ok.ensures.reads.ok clean).0.is_open

pub returns-in-Desk-clause-decided : goal.returns-in-Desk-clause-decided
returns-in-Desk-clause-decided g c clean =
    let first : IsClean g.S.Store c.fill.new.conn = omega
    (arith, c.for_desk.ensures.reads.survives.clean) in
    IfOk-weaker (unless_unavailable c.for_desk.result) _ _ (λ x answered config room h.
    let fleet = c.in-Ok.ensures.known first config room h.stands h.cache.fleet in
    rw c.in-Desk.is
    (answered config room (kept _ _ (c.in-Ok.ensures.reads.ok first) config room h.stands) h.formed h.plan
    (all_known fleet (filled _ fleet h.cache)))) (c.for_desk.ensures.decided clean)

pub returns-in-Desk-clause-cache : goal.returns-in-Desk-clause-cache
returns-in-Desk-clause-cache g c clean =
    let first : IsClean g.S.Store c.fill.new.conn = omega
    (arith, c.for_desk.ensures.reads.survives.clean) in
    IfOk-weaker (unless_unavailable c.for_desk.result) _ _ (λ x known config room h.
    let fleet = c.in-Ok.ensures.known first config room h.stands h.cache.fleet in
    still_known fleet
    (known config room (kept _ _ (c.in-Ok.ensures.reads.ok first) config room h.stands) h.formed
    (all_known fleet (filled _ fleet h.cache))) c.for_desk.ensures.fleet) (c.for_desk.ensures.known clean)

pub returns-in-Desk-clause-reads : goal.returns-in-Desk-clause-reads
returns-in-Desk-clause-reads g c =
    then_any (looked c.in-Ok.ensures.reads) (unless_unavailable c.for_desk.result) c.for_desk.ensures.reads

pub returns-in-Crew-clause-decided : goal.returns-in-Crew-clause-decided
returns-in-Crew-clause-decided g c clean =
    let first : IsClean g.S.Store c.fill.new.conn = omega
    (arith, c.for_crew.ensures.reads.survives.clean) in
    IfOk-weaker (unless_unavailable c.for_crew.result) _ _ (λ x answered config room h.
    let fleet = c.in-Ok.ensures.known first config room h.stands h.cache.fleet in
    rw c.in-Crew.is
    (answered config room (kept _ _ (c.in-Ok.ensures.reads.ok first) config room h.stands) h.formed fleet
    (filled _ fleet h.cache)))
    (c.for_crew.ensures.decided clean)

pub returns-in-Crew-clause-cache : goal.returns-in-Crew-clause-cache
returns-in-Crew-clause-cache g c clean =
    let first : IsClean g.S.Store c.fill.new.conn = omega
    (arith, c.for_crew.ensures.reads.survives.clean) in
    IfOk-weaker (unless_unavailable c.for_crew.result) _ _ (λ x known config room h.
    let fleet = c.in-Ok.ensures.known first config room h.stands h.cache.fleet in
    known config room (kept _ _ (c.in-Ok.ensures.reads.ok first) config room h.stands) h.formed fleet
    (filled _ fleet h.cache)) (c.for_crew.ensures.cache clean)

pub returns-in-Crew-clause-reads : goal.returns-in-Crew-clause-reads
returns-in-Crew-clause-reads g c =
    then_any (looked c.in-Ok.ensures.reads) (unless_unavailable c.for_crew.result) c.for_crew.ensures.reads

pub returns-in-Call-clause-decided : goal.returns-in-Call-clause-decided
returns-in-Call-clause-decided g c clean =
    let first : IsClean g.S.Store c.fill.new.conn = omega
    (arith, c.for_call.ensures.reads.survives.clean) in
    IfOk-weaker (unless_unavailable c.for_call.result) _ _ (λ x answered config room h.
    let fleet = c.in-Ok.ensures.known first config room h.stands h.cache.fleet in
    answered config room (kept _ _ (c.in-Ok.ensures.reads.ok first) config room h.stands) _ _ _ h.formed h.plan
    c.new_call-call.ensures c.in-Call.is fleet (filled _ fleet h.cache)
    ∙ ap (λ call. take_call call room) c.new_call-call.ensures ∙ rw (c.in-Position.is, c.in-Call.is) refl)
    (c.for_call.ensures.decided clean)

pub returns-in-Call-clause-cache : goal.returns-in-Call-clause-cache
returns-in-Call-clause-cache g c clean =
    let first : IsClean g.S.Store c.fill.new.conn = omega
    (arith, c.for_call.ensures.reads.survives.clean) in
    IfOk-weaker (unless_unavailable c.for_call.result) _ _ (λ x now config room h.
    let fleet = c.in-Ok.ensures.known first config room h.stands h.cache.fleet in
    now config room (kept _ _ (c.in-Ok.ensures.reads.ok first) config room h.stands) h.formed fleet
    (filled _ fleet h.cache)) (c.for_call.ensures.cache clean)

pub returns-in-Call-clause-reads : goal.returns-in-Call-clause-reads
returns-in-Call-clause-reads g c =
    then_any (looked c.in-Ok.ensures.reads) (unless_unavailable c.for_call.result) c.for_call.ensures.reads

pub returns-in-Last-clause-decided : goal.returns-in-Last-clause-decided
returns-in-Last-clause-decided g c clean =
    let first : IsClean g.S.Store c.fill.new.conn = omega
    (arith, c.for_last.ensures.reads.survives.clean) in
    IfOk-weaker (unless_unavailable c.for_last.result) _ _ (λ x answered config room h.
    rw (c.in-Position.is, c.in-Last.is)
    (answered config room (kept _ _ (c.in-Ok.ensures.reads.ok first) config room h.stands)))
    (c.for_last.ensures.decided clean)

pub returns-in-Last-clause-cache : goal.returns-in-Last-clause-cache
returns-in-Last-clause-cache g c clean =
    let first : IsClean g.S.Store c.fill.new.conn = omega
    (arith, c.for_last.ensures.reads.survives.clean) in
    IfOk-weaker (unless_unavailable c.for_last.result) _ _ (λ x answered config room h.
    filled _ (c.in-Ok.ensures.known first config room h.stands h.cache.fleet) h.cache)
    (c.for_last.ensures.decided clean)

pub returns-in-Last-clause-reads : goal.returns-in-Last-clause-reads
returns-in-Last-clause-reads g c =
    then_any (looked c.in-Ok.ensures.reads) (unless_unavailable c.for_last.result) c.for_last.ensures.reads

pub returns-in_default-clause-reads : goal.returns-in_default-clause-reads
returns-in_default-clause-reads g c = lacks_memory refl (looked c.in-Ok.ensures.reads)

pub returns-in-Err-clause-decided : goal.returns-in-Err-clause-decided
returns-in-Err-clause-decided g c clean = unsaid c.in-Err.fault c.refusal_of.ensures _

pub returns-in-Err-clause-cache : goal.returns-in-Err-clause-cache
returns-in-Err-clause-cache g c clean = unsaid c.in-Err.fault c.refusal_of.ensures _

pub returns-in-Err-clause-reads : goal.returns-in-Err-clause-reads
returns-in-Err-clause-reads g c = fails (failed c.in-Err.fault c.refusal_of.ensures) c.in-Err.ensures.reads
