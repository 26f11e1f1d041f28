use Rattle.std.proofs.Common.{ap, arith, drop, subst, sym, true, ◌+◌, ◌∙◌, ◌≡◌}
use Rattle.std.specs.List.{list_all}
use Rattle.room_types.specs.Keys.{incident_key, owns_incident, pair_cmp}
use Rattle.dispatch_room_tasks.proofs.PutRows.{put_each}
use Rattle.dispatch_room_archive.proofs.JoinedLemmas.{all_each, next_row, none_left, of_both}
use Rattle.dispatch_room_archive.proofs.joined_reports.joined.Goals as goal

pub loop-incident-preserved : goal.loop-incident-preserved
loop-incident-preserved c =
    let newer = c.args.newer.now in
    let older = c.args.older in
    let rest = next_row newer c.as_slice-incident-items.result.now c.loop-incident.incident-index c.incident-item.result
    c.as_slice-incident-items.ensures.all c.loop-incident-test.true c.incident-item.is in
    let so_far = subst
    (λ ys. put_each pair_cmp incident_key c.loop-incident.both ys ≡ put_each pair_cmp incident_key older newer) rest
    c.loop-incident.invariant in
    ap (λ ys. put_each pair_cmp incident_key ys (drop (c.loop-incident.incident-index + 1) newer))
    c.in_ok-put.ensures.ok ∙ so_far

pub returns-clause-both : goal.returns-clause-both
returns-clause-both c =
    let newer = c.args.newer.now in
    let items = c.as_slice-incident-items in
    let none = none_left newer items.result.now c.loop-incident.incident-index items.ensures.all
    (omega (arith, c.loop-incident-test.false)) in
    λ keyed. of_both newer c.args.older c.loop-incident.both items.ensures.keyed keyed
    (subst
    (λ ys. put_each pair_cmp incident_key c.loop-incident.both ys ≡ put_each pair_cmp incident_key c.args.older newer)
    none c.loop-incident.invariant)

pub returns-clause-own : goal.returns-clause-own
returns-clause-own c d older newer =
    let items = c.as_slice-incident-items in
    let none = none_left c.args.newer.now items.result.now c.loop-incident.incident-index items.ensures.all
    (omega (arith, c.loop-incident-test.false)) in
    let both = subst
    (λ ys.
    put_each pair_cmp incident_key c.loop-incident.both ys
    ≡ put_each pair_cmp incident_key c.args.older c.args.newer.now) none c.loop-incident.invariant in
    subst (λ xs. list_all (owns_incident d) xs ≡ true) (sym both)
    (all_each pair_cmp incident_key (owns_incident d) c.args.older c.args.newer.now older newer)
