use Rattle.std.proofs.Common.{◌∙◌}
use Rattle.room_types.specs.declared.asks.Ask.TheVariants.{Queue}
use Rattle.room_store_cache.proofs.QueueReads.{shown_read}
use Rattle.room_store_cache.proofs.incident_views.Entries+IncidentView.fill_shown.Goals as goal

pub loop-incident-preserved : goal.loop-incident-preserved
loop-incident-preserved c room at in_order read before =
    let i = c.loop-incident.incident-index in
    let x = c.incident-item.result in
    let same = c.as_slice-incident-items.ensures.all ∙ read.incidents in
    let inside = rw same at c.loop-incident-test.true in
    let here = rw same at c.incident-item.is in
    c.fill.ensures room Queue at in_order (shown_read c.args.division at room in_order.incidents i x inside here) read
    (c.loop-incident.invariant room at in_order read before)
