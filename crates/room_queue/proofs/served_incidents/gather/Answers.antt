use Rattle.std.proofs.Common.{drop, refl, subst, sym, ◌+◌, ◌∙◌, ◌≡◌}
use Rattle.std.specs.List.{list_any}
use Rattle.std.specs.Ordering.{is_eq, nat_cmp}
use Rattle.std.specs.Prelude.{◌&&◌, ◌||◌}
use Rattle.room_types.specs.declared.tables.Turn.{Turn}
use Rattle.room_alloc.proofs.CandidateLaws.{drop_item}
use Rattle.room_queue.specs.ServedIncidents.{is_served, serves}
use Rattle.room_queue.proofs.ServedLaws.{counted, left}
use Rattle.room_queue.proofs.served_incidents.gather.Goals as goal
use Rattle.room_queue.proofs.served_incidents.gather.Goals.{then-serves+in_ok-put, else-serves}

pub loop-turn-preserved : goal.loop-turn-preserved
loop-turn-preserved c = λ n.
    let d = c.args.division in
    let turns = c.args.turns.now in
    let test = λ (t : Turn). is_eq (nat_cmp n t.incident) && serves d t in
    let after = drop (c.loop-turn.turn-index + 1) turns in
    let rest = drop_item turns c.as_slice-turn-items.result.now c.loop-turn.turn-index c.turn-item.result
    c.as_slice-turn-items.ensures.all c.loop-turn-test.true c.turn-item.is in
    let so_far = subst (λ ys. is_served c.loop-turn.served n || list_any test ys ≡ list_any test turns) rest
    (c.loop-turn.invariant n) in
    elim c.if-serves.branch [
      | then-serves+in_ok-put w ↦
          subst (λ q. is_served q n || list_any test after ≡ list_any test turns)
          (sym (w.served-is ∙ w.in_ok-put.ensures.ok))
          (counted d n c.loop-turn.served c.turn-item.result (list_any test after) _ refl
          (sym c.serves.ensures ∙ w.if-serves.true) ∙ so_far)
      | else-serves w ↦
          subst (λ q. is_served q n || list_any test after ≡ list_any test turns) (sym w.served-is)
          (left d n c.loop-turn.served c.turn-item.result (list_any test after)
          (sym c.serves.ensures ∙ w.if-serves.false) ∙ so_far)
    ]
