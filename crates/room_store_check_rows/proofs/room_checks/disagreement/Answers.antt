use Rattle.std.proofs.Common.{ap, subst, sym, ◌∙◌}
use Rattle.std.specs.Option.{option_or}
use Rattle.room_model.specs.RoomSlices.{room_of}
use Rattle.room_store_check_rows.specs.FirstFaults.{rows_disagreement}
use Rattle.room_store_check_rows.specs.Disagreements.{Detects}
use Rattle.room_store_check_rows.proofs.RowFaults.{search_detects}
use Rattle.room_store_check_rows.proofs.room_checks.disagreement.Goals as goal

pub returns-clause-first : goal.returns-clause-first
returns-clause-first c =
    c.or.ensures
    ∙ ap (λ o. option_or o c.in_ok-unopened.unopened) c.rows_disagreement.ensures
    ∙ ap (option_or (rows_disagreement c.args.plan.now.areas c.args.rows.now)) c.in_ok-unopened.ensures.first

pub returns-clause-detected : goal.returns-clause-detected
returns-clause-detected c =
    subst (Detects (room_of c.args.plan.now.areas c.args.rows.now)) (sym (returns-clause-first c))
    (search_detects c.args.plan.now c.args.rows.now c.are_in_order.ensures)
