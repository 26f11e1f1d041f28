use Rattle.std.specs.Prelude.{is_some, not, ◌&&◌}
use Rattle.std.proofs.Common.{Bool, ap, false, refl, sym, true, ◌∙◌, ◌≡◌}
use Rattle.room_store_check_rows.proofs.HistoryLaws.{room_decides}
use Rattle.room_store_check_rows.proofs.history_checks.is_room_well_formed.Goals as goal

both : (fits wrong none : Bool) → fits ≡ true → wrong ≡ not none → none ≡ (fits && not wrong)
both fits wrong true h e = rw (h, e) refl
both fits wrong false h e = rw (h, e) refl

neither : (fits b : Bool) → fits ≡ false → fits ≡ (fits && b)
neither fits b h = rw h refl

pub returns-then-do_histories_fit : goal.returns-then-do_histories_fit
returns-then-do_histories_fit c = λ s in_order same are_openings fits.
    room_decides c.args.plan.now s in_order c.args.rows.now c.args.openings.now c.args.do_histories_fit c.is_none.result
    same are_openings fits
    (both _ _ _ c.if-do_histories_fit.true (ap is_some (sym c.kept_disagreement.ensures) ∙ c.is_none.ensures))

pub returns-else-do_histories_fit : goal.returns-else-do_histories_fit
returns-else-do_histories_fit c = λ s in_order same are_openings fits.
    room_decides c.args.plan.now s in_order c.args.rows.now c.args.openings.now c.args.do_histories_fit
    c.args.do_histories_fit same are_openings fits
    (neither _ _ c.if-do_histories_fit.false)
