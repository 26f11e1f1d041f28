use Rattle.std.proofs.Common.{ap, arith, get_or, length, sym, take_all, ◌<◌, ◌∙◌, ◌≡◌, ◌≤◌}
use Rattle.std.specs.Prelude.{filter, ◌==◌}
use Rattle.room_types.specs.Keys.{incident_key, numbered_cmp, pair_cmp, turn_key}
use Rattle.room_types.specs.KeyLemmas.{numbered_total}
use Rattle.room_types.specs.declared.tables.Turn.{Turn}
use Rattle.room_types.proofs.KeyedLaws.{without_failing}
use Rattle.room_types.specs.KeyedRows.{row_at}
use Rattle.room_store_cache.proofs.KeptLaws.{put_passing}
use Rattle.room_store_cache.proofs.OneIncident.{incident_read, turns_read}
use Rattle.room_store_cache.proofs.incident_views.incident_view_of.Goals as goal
use Rattle.room_store_cache.proofs.incident_views.incident_view_of.Goals.{then-eq+in_ok-put}
use Rattle.room_store_cache.proofs.incident_views.incident_view_of.Goals.{else-eq}

pub loop-turn-preserved : goal.loop-turn-preserved
loop-turn-preserved c =
    let p = λ (t : Turn). t.incident == c.args.number in
    let ts = c.args.rows.now.turns in
    let i = c.loop-turn.turn-index in
    let t = c.turn-item.result in
    let inside : i < length ts = rw c.as_slice-turn-items.ensures.all at c.loop-turn-test.true in
    let here : t ≡ get_or ts i t = rw c.as_slice-turn-items.ensures.all at c.turn-item.is in
    elim c.if-eq.branch [
      | then-eq+in_ok-put w ↦
          w.turns-is
          ∙ (w.in_ok-put.ensures.put
          ∙ put_passing numbered_cmp turn_key numbered_total p ts c.loop-turn.turns i t
          c.as_slice-turn-items.ensures.keyed inside here c.loop-turn.invariant (sym c.eq.ensures ∙ w.if-eq.true))
      | else-eq w ↦
          w.turns-is
          ∙ without_failing p ts c.loop-turn.turns i t inside here c.loop-turn.invariant
          (sym c.eq.ensures ∙ w.if-eq.false)
    ]

pub returns-clause-incident_view : goal.returns-clause-incident_view
returns-clause-incident_view c room ask at in_order reads read =
    let d = c.args.division in
    let n = c.args.number in
    let past : length c.as_slice-turn-items.result.now
    ≤ c.loop-turn.turn-index = omega (arith, c.loop-turn-test.false) in
    let all = take_all c.loop-turn.turn-index c.args.rows.now.turns (rw c.as_slice-turn-items.ensures.all at past) in
    record {
      incident = c.copied.ensures ∙ c.get.ensures
          ∙ ap (λ is. row_at pair_cmp incident_key is (d, n)) read.incidents
          ∙ incident_read ask n d at room reads in_order.incidents;
      turns = rw all at c.loop-turn.invariant
          ∙ ap (filter (λ t. t.incident == n)) read.turns
          ∙ turns_read ask n d at room reads;
    }
