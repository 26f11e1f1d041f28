use Rattle.std.proofs.Common.{ap, arith, get_or, length, sym, take_all, ◌<◌, ◌∙◌, ◌≡◌, ◌≤◌}
use Rattle.room_types.proofs.KeyedLaws.{without_failing}
use Rattle.room_store_cache.specs.ShownLists.{is_among}
use Rattle.room_store_cache.proofs.KeptLaws.{put_passing}
use Rattle.room_store_reads.proofs.known_parts.rows_of.Goals as goal
use Rattle.room_store_reads.proofs.known_parts.rows_of.Goals.{then-is_among+in_ok-put}
use Rattle.room_store_reads.proofs.known_parts.rows_of.Goals.{else-is_among}

pub loop-row-preserved : goal.loop-row-preserved
loop-row-preserved g c =
    let shown = is_among c.args.division c.args.incidents.now in
    let p = λ (y : g.row.R.Denot). shown (g.R.OfIncident.incident_of y) in
    let ys = c.args.rows.now in
    let i = c.loop-row.row-index in
    let y = c.row-item.result in
    let inside : i < length ys = rw c.as_slice-row-items.ensures.all at c.loop-row-test.true in
    let here : y ≡ get_or ys i y = rw c.as_slice-row-items.ensures.all at c.row-item.is in
    let is = sym (c.is_among.ensures ∙ ap shown c.incident.ensures) in
    elim c.if-is_among.branch [
      | then-is_among+in_ok-put w ↦
          w.found-is
          ∙ (w.in_ok-put.ensures.put
          ∙ put_passing g.R.Key.Ord.cmp g.R.Row.key_of g.met.R.Key.Ord.total p ys c.loop-row.found i y
          c.as_slice-row-items.ensures.keyed inside here c.loop-row.invariant (is ∙ w.if-is_among.true))
      | else-is_among w ↦
          w.found-is
          ∙ without_failing p ys c.loop-row.found i y inside here c.loop-row.invariant (is ∙ w.if-is_among.false)
    ]

pub returns-clause-rows : goal.returns-clause-rows
returns-clause-rows g c =
    let past : length c.as_slice-row-items.result.now ≤ c.loop-row.row-index = omega (arith, c.loop-row-test.false) in
    let all = take_all c.loop-row.row-index c.args.rows.now (rw c.as_slice-row-items.ensures.all at past) in
    rw all at c.loop-row.invariant
