use Rattle.std.proofs.Common.{ap, arith, length, subst, sym, ◌∙◌, ◌≤◌}
use Rattle.std.proofs.Math.Seq.{map-set_same}
use Rattle.std.proofs.lemmas.List.Elements.{All-from_all_within}
use Rattle.std.specs.Prelude.{AllPairs, ◌≢◌}
use Rattle.room_store_cache.proofs.KeptLaws.{apart_push}
use Rattle.room_store_cache.proofs.entries.Entries.put.Goals as goal

pub invariant_of-self-clause-apart : goal.invariant_of-self-clause-apart
invariant_of-self-clause-apart g c =
    let f = g.E.Entry.key_of in
    let same = sym c.key.ensures ∙ g.met.E.Entry.exact _ _ (sym c.eq.ensures ∙ c.if-eq.true)
    ∙ c.key-in-loop-at.ensures in
    subst (AllPairs (λ k l. k ≢ l))
    (sym (map-set_same f c.loop-at.self.kept.items c.loop-at.at _ _ (sym same ∙ ap f c.index.ensures)))
    c.loop-at.self.apart

pub invariant_of-self-2-clause-apart : goal.invariant_of-self-2-clause-apart
invariant_of-self-2-clause-apart g c =
    let f = g.E.Entry.key_of in
    let xs = c.loop-at.self.kept.items in
    let past : length xs ≤ c.loop-at.at = omega (arith, c.loop-at-test.false, c.loop-at.invariant.as_many) in
    let others = All-from_all_within (λ x. f x ≢ f c.args.entry) xs
    (λ k d low high. c.loop-at.invariant.others k d low (omega (arith, high, past))) in
    let left = c.drop_oldest_if_full.new.self in
    rw c.push.ensures.items
    (apart_push f left.kept.items c.args.entry _ (c.drop_oldest_if_full.ensures.others (f c.args.entry) others)
    left.apart)
