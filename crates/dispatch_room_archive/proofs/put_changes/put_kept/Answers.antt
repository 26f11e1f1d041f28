use Rattle.std.proofs.Common.{[], ap, arith, filter, get_or, length, map, not, subst, sym, ◌++◌}
use Rattle.std.proofs.Common.{◌<◌, ◌∙◌, ◌∷◌, ◌≡◌, ◌≤◌}
use Rattle.std.proofs.lemmas.List.{take_all}
use Rattle.room_model.specs.RoomSlices.{room_of}
use Rattle.dispatch_room_archive.proofs.PutLaws.{leave_one, put_kept_one}
use Rattle.dispatch_room_archive.proofs.put_changes.put_kept.Goals as goal
use Rattle.dispatch_room_archive.proofs.put_changes.put_kept.Goals.{then-not-stays_behind+in_ok-push}
use Rattle.dispatch_room_archive.proofs.put_changes.put_kept.Goals.{else-not-stays_behind}

pub loop-row-preserved : goal.loop-row-preserved
loop-row-preserved g c plan =
    let xs = c.args.rows.now in
    let x = c.row-item.result in
    let at = c.loop-row.row-index in
    let past = c.args.past.now in
    let stays_behind = g.R.Leaves.stays_behind past.since (room_of plan past.rows.now) in
    let same = c.as_slice-row-items.ensures.all in
    let inside : at < length xs = subst (λ ys. at < length ys) same (omega (arith, c.loop-row-test.true)) in
    let here : x ≡ get_or xs at x = c.row-item.is ∙ ap (λ ys. get_or ys at x) same in
    elim c.if-not-stays_behind.branch [
      | then-not-stays_behind+in_ok-push w ↦
          ap (λ v. v.items) w.changes-is
          ∙ (w.in_ok-push.ensures.items
          ∙ (ap (λ y. c.loop-row.changes.items ++ y ∷ []) w.put.ensures
          ∙ put_kept_one g.R.Put.put_of _ _ stays_behind xs at x inside here (c.loop-row.invariant plan)
          (sym (c.stays_behind.ensures plan) ∙ w.if-not-stays_behind.true)))
      | else-not-stays_behind w ↦
          ap (λ v. v.items) w.changes-is
          ∙ leave_one g.R.Put.put_of _ _ stays_behind xs at x inside here (c.loop-row.invariant plan)
          (sym (c.stays_behind.ensures plan) ∙ w.if-not-stays_behind.false)
    ]

pub returns : goal.returns
returns g c plan =
    let xs = c.args.rows.now in
    let past : length xs
    ≤ c.loop-row.row-index =
    subst (λ ys. length ys ≤ c.loop-row.row-index) c.as_slice-row-items.ensures.all c.loop-row-test.false in
    c.loop-row.invariant plan
    ∙ ap (λ ys.
    c.args.changes.now.items
    ++ map g.R.Put.put_of
    (filter (λ y. not (g.R.Leaves.stays_behind c.args.past.now.since (room_of plan c.args.past.now.rows.now) y)) ys))
    (take_all c.loop-row.row-index xs past)
