use Rattle.std.proofs.Common.{get_or, length, sym, ◌<◌, ◌∙◌, ◌≡◌}
use Rattle.room_store_cache.proofs.KeptLaws.{put_passing}
use Rattle.room_store_cache.proofs.RecentLaws.{may_have}
use Rattle.room_types.specs.Keys.{incident_key, pair_cmp}
use Rattle.room_types.specs.KeyLemmas.{pairs_total}
use Rattle.room_types.proofs.KeyedLaws.{without_failing}
use Rattle.room_store_cache.proofs.recent_incidents.around.Goals as goal
use Rattle.room_store_cache.proofs.recent_incidents.around.Goals.{then-may_link+in_ok-put}
use Rattle.room_store_cache.proofs.recent_incidents.around.Goals.{else-may_link}

pub loop-incident-preserved : goal.loop-incident-preserved
loop-incident-preserved c =
    let p = may_have c.args.division c.args.form.now c.args.at in
    let xs = c.args.incidents.now in
    let x = c.incident-item.result in
    let inside : c.loop-incident.incident-index
    < length xs = rw c.as_slice-incident-items.ensures.all at c.loop-incident-test.true in
    let here : x
    ≡ get_or xs c.loop-incident.incident-index x = rw c.as_slice-incident-items.ensures.all at c.incident-item.is in
    elim c.if-may_link.branch [
      | then-may_link+in_ok-put w ↦
          w.near-is
          ∙ (w.in_ok-put.ensures.put
          ∙ put_passing pair_cmp incident_key pairs_total p xs c.loop-incident.near c.loop-incident.incident-index x
          c.as_slice-incident-items.ensures.keyed inside here c.loop-incident.invariant
          (sym c.may_link.ensures ∙ w.if-may_link.true))
      | else-may_link w ↦
          w.near-is
          ∙ without_failing p xs c.loop-incident.near c.loop-incident.incident-index x inside here
          c.loop-incident.invariant (sym c.may_link.ensures ∙ w.if-may_link.false)
    ]
