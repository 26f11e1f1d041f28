use Rattle.std.proofs.Common.{refl, true, ◌∙◌, ◌≡◌}
use Rattle.std.proofs.lemmas.Bool.{eq-eqb}
use Rattle.room_model.proofs.Tests.{or_right}
use Rattle.room_model.specs.WorkingRows.{names_incident}
use Rattle.room_store_reads.proofs.KnownRows.{list_only}
use Rattle.room_store_reads.proofs.Selected.{queue_only}
use Rattle.room_store_reads.proofs.filled_views.fill_views.Goals as goal

pub returns-in-Uncleared-clause-queue_views : goal.returns-in-Uncleared-clause-queue_views
returns-in-Uncleared-clause-queue_views c room ask at selects read =
    c.fill.ensures room at (rw (queue_only ask (rw c.in-Uncleared.is at selects.exceptions)) at read)

pub returns-in-Uncleared-clause-incident_views : goal.returns-in-Uncleared-clause-incident_views
returns-in-Uncleared-clause-incident_views c room ask at in_order selects read =
    c.fill_shown.ensures room at in_order (rw (queue_only ask (rw c.in-Uncleared.is at selects.exceptions)) at read)

pub returns-in-One-clause-incident_views : goal.returns-in-One-clause-incident_views
returns-in-One-clause-incident_views c room ask at in_order selects read =
    let n = c.in-One.number in
    let named : names_incident ask n ≡ true = selects.named n ∙ rw c.in-One.is (eq-eqb n n refl) in
    c.fill-in-One.ensures room ask at in_order (or_right _ _ named) read

pub returns-then-reads-clause-shown_lists : goal.returns-then-reads-clause-shown_lists
returns-then-reads-clause-shown_lists c room ask at in_order selects read =
    let active = selects.active ∙ rw c.in-Active.is refl in
    c.fill-then-reads.ensures room at in_order (rw (list_only ask active (selects.calls ∙ c.if-reads.true)) at read)
