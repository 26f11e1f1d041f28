-- One entry more has its change, and those after it stay.
use Rattle.std.proofs.Common.{ap, length, length-set, subst, sym, ◌<◌, ◌∙◌}
use Rattle.std.proofs.Math.Seq.{map-set_same}
use Rattle.std.specs.Prelude.{AllPairs, ◌≢◌}
use Rattle.room_model.specs.Room.{apply_one}
use Rattle.room_store_cache.proofs.KeptLaws.{one_follows, others_stay}
use Rattle.room_store_cache.proofs.RecentLaws.{where_ok}
use Rattle.room_store_cache.proofs.entries.EntriesView.apply.Goals as goal

pub invariant_of-self-else-is_err-clause-apart : goal.invariant_of-self-else-is_err-clause-apart
invariant_of-self-else-is_err-clause-apart g c =
    let f = g.E.Entry.key_of in
    subst (AllPairs (λ k l. k ≢ l))
    (sym
    (map-set_same f c.loop-at.self.kept.items c.loop-at.at _ _ (c.apply.ensures.key ∙ ap f c.index_mut.ensures.value)))
    c.loop-at.self.apart

pub loop-at-preserved : goal.loop-at-preserved
loop-at-preserved g c =
    let xs = c.loop-at.self.kept.items in
    let at = c.loop-at.at in
    let kept = c.loop-at.invariant in
    let inside : at < length xs = rw kept.as_many c.loop-at-test.true in
    let made = where_ok c.apply.result (sym c.is_err.ensures.value ∙ c.if-is_err.false) c.apply.ensures.so in
    record {
      as_many = length-set xs at _ ∙ kept.as_many;
      made =
          λ room in_order are.
          one_follows (λ x. g.E.Entry.is_so x room) (λ x. g.E.Entry.is_so x (apply_one room c.args.change.now)) xs at _
          _ _ inside c.loop-at-test.true c.index_mut.ensures.value (made room in_order) (kept.left room are)
          (kept.made room in_order are);
      left = λ room are. others_stay (λ x. g.E.Entry.is_so x room) xs at _ _ (kept.left room are);
    }
