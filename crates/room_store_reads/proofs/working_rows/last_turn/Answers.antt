use Rattle.std.proofs.Common.{ap, refl, sym, ◌∙◌, ◌≡◌}
use Rattle.std.proofs.lemmas.Result.{IfOk-weaker}
use Rattle.room_types.specs.Keys.{owns_turn}
use Rattle.room_model.specs.Queries.{held}
use Rattle.room_model.specs.WorkingRows.{is_last_turn}
use Rattle.room_tables_schema.proofs.ReadLaws.{begins, succeeds}
use Rattle.room_store_reads.proofs.ReadFilters.{filter_never, filter_own}
use Rattle.room_store_reads.proofs.working_rows.last_turn.Goals as goal

pub returns-in-Some-clause-rows : goal.returns-in-Some-clause-rows
unfolding held
returns-in-Some-clause-rows g c clean =
    IfOk-weaker c.load_one.result _ _ (λ x found config room h in_order are.
    let own : c.owned_row.result
    ≡ held c.args.division c.args.callsign.now room =
    rw (c.copied-vehicle.ensures ∙ c.get.ensures, are.vehicles) at c.owned_row.ensures in
    found config room h in_order.turns
    ∙ filter_own _ _ _ room.turns
    (λ t owned. sym (c.last_key.ensures t ∙ rw c.in-Some.is refl) ∙ ap (λ o. is_last_turn o t) own))
    (c.load_one.ensures.rows clean)

pub returns-in-None-clause-rows : goal.returns-in-None-clause-rows
unfolding held
returns-in-None-clause-rows g c clean config room h in_order are =
    let own : c.owned_row.result
    ≡ held c.args.division c.args.callsign.now room =
    rw (c.copied-vehicle.ensures ∙ c.get.ensures, are.vehicles) at c.owned_row.ensures in
    c.new.ensures
    ∙ sym (filter_never (owns_turn c.args.division) _ room.turns
    (λ t. ap (λ o. is_last_turn o t) (sym own) ∙ c.last_key.ensures t ∙ rw c.in-None.is refl))

pub returns-in-None-clause-reads : goal.returns-in-None-clause-reads
returns-in-None-clause-reads g c = succeeds (begins c.requires.open)
