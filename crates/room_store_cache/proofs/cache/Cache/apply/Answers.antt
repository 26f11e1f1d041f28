use Rattle.std.proofs.Common.{List, [], ap, refl, subst, sym, take, ◌+◌, ◌++◌, ◌∙◌, ◌∷◌, ◌≡◌}
use Rattle.std.proofs.lemmas.List.{take_more}
use Rattle.room_types.specs.declared.changes.Change.{Change}
use Rattle.room_model.proofs.OwnChanges.{in_order_apply}
use Rattle.room_model.specs.Room.{Room, apply, apply_one}
use Rattle.room_store_cache.specs.Cache.{IsCacheOf}
use Rattle.room_store_cache.proofs.cache.Cache.apply.Goals as goal

-- one change more
apply_last : (r : Room) (cs : List Change) (c : Change)
    → apply r (cs ++ c ∷ []) ≡ apply_one (apply r cs) c
apply_last r [] c = refl
apply_last r (x ∷ cs) c = apply_last (apply_one r x) cs c

pub loop-change-preserved : goal.loop-change-preserved
loop-change-preserved c room in_order known =
    let cs = c.args.changes.now in
    let i = c.loop-change.change-index in
    let x = c.change-item.result in
    let more : take (i + 1) cs ≡ take i cs ++ x ∷ [] = rw c.change-item.is (take_more cs i _ c.loop-change-test.true) in
    let before = c.loop-change.invariant room in_order known in
    let then = in_order_apply room (take i cs) in_order in
    subst (IsCacheOf _) (sym (ap (apply room) more ∙ apply_last room (take i cs) x)) (record {
      fleet = c.apply.ensures _ then before.fleet;
      queue_views = c.apply-in-loop-change.ensures _ then before.queue_views;
      incident_views = c.apply-in-loop-change-2.ensures _ then before.incident_views;
      recent_incidents = c.apply-in-loop-change-3.ensures _ then before.recent_incidents;
      shown_lists = c.apply-in-loop-change-4.ensures _ then before.shown_lists;
    })
