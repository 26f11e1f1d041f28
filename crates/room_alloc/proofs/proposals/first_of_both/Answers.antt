use Rattle.std.proofs.Common.{ap, subst, sym, ◌∙◌, ◌-◌, ◌≡◌, None, length, map, true}
use Rattle.std.specs.Prelude.{filter}
use Rattle.room_place.specs.Choice.{AreFirst}
use Rattle.room_model.specs.Proposals.{is_before}
use Rattle.room_alloc.specs.Rings.{is_breaking, proposal_at}
use Rattle.room_alloc.proofs.RoundLaws.{first_of_both}
use Rattle.room_alloc.proofs.proposals.first_of_both.Goals as goal

pub returns-clause-ok : goal.returns-clause-ok
returns-clause-ok c =
    let i = c.args.incident.now in
    let xs = c.args.candidates.now in
    let left : c.saturating_sub-left.result
    ≡ c.args.count - length c.in_ok-few.few =
    c.saturating_sub-left.ensures ∙ ap (λ n. c.args.count - n) c.len.ensures in
    subst (AreFirst is_before c.args.count None (map (proposal_at i) xs)) (sym c.in_ok-append.ensures)
    (first_of_both i c.args.count xs c.in_ok-few.few c.in_ok-others.others c.in_ok-few.ensures.ok
    (subst (λ n. AreFirst is_before n None (map (proposal_at i) (filter (is_breaking true) xs)) c.in_ok-others.others)
    left c.in_ok-others.ensures.ok))
