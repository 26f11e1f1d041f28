use Rattle.std.proofs.Common.{ap, subst, ◌∙◌}
use Rattle.room_store_check_rows.specs.FirstFaults.{first_of, uncalled_fault}
use Rattle.room_store_check_rows.specs.HistoryChecks.{AreOpenings}
use Rattle.room_store_check_rows.proofs.OpeningLaws.{uncalled_unopened}
use Rattle.room_store_check_rows.proofs.opening_calls.unopened.Goals as goal

pub returns-clause-first : goal.returns-clause-first
returns-clause-first c =
    let called = c.in_ok-openings.openings in
    c.first_uncalled.ensures
    ∙ ap (first_of (uncalled_fault called)) c.as_slice-2.ensures.all
    ∙ uncalled_unopened c.args.rows.now called
    (subst (λ calls. AreOpenings calls called) c.as_slice.ensures.all c.in_ok-openings.ensures)
