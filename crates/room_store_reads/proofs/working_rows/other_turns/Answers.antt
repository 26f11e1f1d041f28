use Rattle.std.proofs.Common.{ap, false, refl, sym, ℕ, ◌&&◌, ◌∙◌, ◌≡◌}
use Rattle.std.proofs.lemmas.Result.{IfOk-weaker}
use Rattle.std.specs.Prelude.{IfOk, Result, ◌==◌}
use Rattle.room_types.specs.Keys.{owns_turn}
use Rattle.room_tables_schema.proofs.ReadLaws.{begins, lacks_memory, succeeds}
use Rattle.room_store_cache.proofs.Filters.{filter_as}
use Rattle.room_store_cache.specs.IncidentNumbers.{contains}
use Rattle.room_store_reads.proofs.ReadFilters.{and_swapped, filter_never, filter_none}
use Rattle.room_store_reads.proofs.Selected.{own_contains}
use Rattle.room_store_reads.specs.RequestReads.{is_merged}
use Rattle.room_store_reads.proofs.working_rows.other_turns.Goals as goal

pub returns-in-Nothing-clause-rows : goal.returns-in-Nothing-clause-rows
returns-in-Nothing-clause-rows g c clean config room h in_order are calls =
    rw c.in-Nothing.is
    (c.new.ensures ∙ sym (filter_never (owns_turn c.args.division) (λ t. false) room.turns (λ t. refl)))

pub returns-in-Nothing-clause-reads : goal.returns-in-Nothing-clause-reads
returns-in-Nothing-clause-reads g c = succeeds (begins c.requires.open)

pub returns-in-Last-clause-rows : goal.returns-in-Last-clause-rows
returns-in-Last-clause-rows g c clean =
    IfOk-weaker c.last_turn.result _ _ (λ x found config room h in_order are calls.
    rw c.in-Last.is (found config room h in_order (rw c.get.ensures are.rows))) (c.last_turn.ensures.rows clean)

pub returns-in_err-numbers-in-Merged-clause-reads : goal.returns-in_err-numbers-in-Merged-clause-reads
returns-in_err-numbers-in-Merged-clause-reads g c = lacks_memory c.from_residual.ensures.0 (begins c.requires.open)

-- what was loaded is known before it is looked at
loaded_as : {A E : Type 0} {P Q : A → Type 0} (came : Result A E) → IfOk came P
    → ((x : A) → P x → Q x) → IfOk came Q
loaded_as came loaded as_well = IfOk-weaker came _ _ as_well loaded

pub returns-in_ok-numbers-in-Merged-clause-rows : goal.returns-in_ok-numbers-in-Merged-clause-rows
returns-in_ok-numbers-in-Merged-clause-rows g c clean =
    loaded_as c.load_parts.result (c.load_parts.ensures.rows clean)
    (λ x found config room h in_order are calls.
    let merged : (n : ℕ) → contains n c.as_slice.result.now ≡ is_merged c.in-Merged.number c.args.calls.now n =
    rw c.as_slice.ensures.value c.in_ok-numbers-in-Merged.ensures.ok in
    rw c.in-Merged.is (found config room h (λ t. false) are in_order.turns
    (c.new-none.ensures ∙ sym (filter_none room.turns))
    ∙ filter_as _ _ room.turns (λ t.
    own_contains (owns_turn c.args.division t) t.incident c.as_slice.result.now
    ∙ ap (λ b. owns_turn c.args.division t && b) (merged t.incident
    ∙ ap (λ cs. is_merged c.in-Merged.number cs t.incident) (rw c.in-Merged.is at calls)))))

pub returns-in-Of-clause-rows : goal.returns-in-Of-clause-rows
returns-in-Of-clause-rows g c clean =
    IfOk-weaker c.vehicle_turns.result _ _ (λ x found config room h in_order are calls.
    rw c.in-Of.is (found config room h
    ∙ filter_as _ _ room.turns (λ t. and_swapped _ (owns_turn c.args.division t))))
    (c.vehicle_turns.ensures.rows clean)
