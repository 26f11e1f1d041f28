use Rattle.std.proofs.Common.{arith, of_z, pos, subst, to_z, w64, ◌∙◌, ◌-◌, ◌≡◌, ◌≤◌}
use Rattle.std.proofs.lemmas.Int.{ints}
use Rattle.std.proofs.lemmas.Result.{IfOk-weaker}
use Rattle.std.specs.Prelude.{filter, int_le}
use Rattle.room_tables_schema.proofs.ReadLaws.{begins, ends_any, fails, looked}
use Rattle.room_store_cache.proofs.RecentLaws.{known_near}
use Rattle.room_store_cache.proofs.recent_incidents.RecentIncidents.near.Goals as goal

pub returns-in-Some-clause-rows : goal.returns-in-Some-clause-rows
returns-in-Some-clause-rows g c clean =
    IfOk-weaker c.around.result _ _
    (λ x are config room h recent.
    are
    ∙ known_near c.in-Some.known.now.from _ room.incidents c.args.division c.args.form.now c.args.at
    c.in-Some.ensures.reach (c.in-Some.ensures.so room recent)) c.around.ensures.rows

pub returns-clause-rows : goal.returns-clause-rows
returns-clause-rows g c clean =
    let from = c.first_linked-from.result in
    let is = c.from.ensures in
    let same : to_z w64 (of_z w64 c.from.result) ≡ pos from = omega (arith, ints) in
    let reach : from ≤ c.args.at - 900 = rw c.first_linked-from.ensures (omega arith) in
    IfOk-weaker c.around-near.result _ _
    (λ x are config room h recent.
    are
    ∙ known_near from _ room.incidents c.args.division c.args.form.now c.args.at reach
    (subst (λ z. c.in_ok-since.since ≡ filter (λ i. int_le z (pos i.opened)) room.incidents) same
    (c.in_ok-since.ensures.rows clean config room h))) c.around-near.ensures.rows

pub returns-clause-kept : goal.returns-clause-kept
returns-clause-kept g c clean =
    let from = c.first_linked-from.result in
    let is = c.from.ensures in
    let same : to_z w64 (of_z w64 c.from.result) ≡ pos from = omega (arith, ints) in
    IfOk-weaker c.around-near.result _ _
    (λ x are config room h recent.
    c.fill.ensures.so room (subst (λ z. c.in_ok-since.since ≡ filter (λ i. int_le z (pos i.opened)) room.incidents) same
    (c.in_ok-since.ensures.rows clean config room h))) c.around-near.ensures.rows

pub returns-in-Some-clause-kept : goal.returns-in-Some-clause-kept
returns-in-Some-clause-kept g c clean =
    IfOk-weaker c.around.result _ _ (λ x are config room h recent. recent) c.around.ensures.rows

pub returns-in-Some-clause-reads : goal.returns-in-Some-clause-reads
returns-in-Some-clause-reads g c = ends_any c.around.result (begins c.requires.open)

pub returns-in_err-since-clause-reads : goal.returns-in_err-since-clause-reads
returns-in_err-since-clause-reads g c = fails c.from_residual.ensures.0 c.in_err-since.ensures.reads

pub returns-clause-reads : goal.returns-clause-reads
returns-clause-reads g c = ends_any c.around-near.result (looked c.in_ok-since.ensures.reads)
