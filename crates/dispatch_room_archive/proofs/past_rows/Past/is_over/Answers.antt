use Rattle.std.proofs.Common.{Bool, ap, not, sym, ◌&&◌, ◌∙◌}
use Rattle.std.specs.BTreeSet.{contains}
use Rattle.room_types.specs.Keys.{pair_cmp}
use Rattle.dispatch_room_archive.proofs.PastLaws.{over_is}
use Rattle.dispatch_room_archive.proofs.past_rows.Past.is_over.Goals as goal

pub returns-then-is_done_before : goal.returns-then-is_done_before
returns-then-is_done_before c plan =
    let past = c.args.self.now in
    let i = c.args.incident.now in
    ap not c.has-is_called.ensures
    ∙ (ap (λ (y : Bool). y && not (contains pair_cmp past.called (i.division, i.number)))
    (sym (sym c.is_done_before.ensures ∙ c.if-is_done_before.true))
    ∙ over_is past.since past.rows.now plan past.called i past.calls)
