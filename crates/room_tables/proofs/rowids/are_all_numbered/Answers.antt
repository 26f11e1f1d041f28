use Rattle.std.proofs.Common.{map, inr, refl, sym, subst, ◌∙◌, true≢false, arith}
use Rattle.std.proofs.lemmas.List.{at_drop_more, at_drop_all}
use Rattle.sqlite.specs.Held.{state}
use Rattle.sqlite.specs.State.{HasCleanDisk}
use Rattle.sqlite.proofs.StateLemmas.{survives_then}
use Rattle.room_tables.proofs.Repeats.{trees_stay, unchanged_after, well_so_far}
use Rattle.room_tables.proofs.RowidLemmas.{Left, none_left, next_selects, less_left, one_numbered}
use Rattle.room_tables.proofs.ReadFailures.{fails_at_last}
use Rattle.room_tables.specs.Rowids.{FailsAtRowids}
use Rattle.room_tables.proofs.rowids.are_all_numbered.Goals as goal

pub is_numbered-requires-clause-selects : goal.is_numbered-requires-clause-selects
is_numbered-requires-clause-selects g c clean =
    let left = subst (Left (state g.S.Store c.args.tx.now.conn.now).now.trees)
    (at_drop_more (map (λ text. text.now)) c.args.texts.now c.loop-text.text-index _ c.loop-text-test.true)
    (c.loop-text.invariant.left clean) in
    next_selects _ _ _ left

pub loop-text-preserved : goal.loop-text-preserved
loop-text-preserved g c =
    let old = state g.S.Store c.args.tx.now.conn.now in
    let mid = state g.S.Store c.loop-text.tx.conn.now in
    let new = state g.S.Store c.is_numbered.new.tx.conn.now in
    let before = c.loop-text.invariant in
    let early = λ (clean : HasCleanDisk new).
    let e : HasCleanDisk mid = omega (arith, c.is_numbered.ensures.reads.survives.clean) in e in
    record {
      survives =
          survives_then old mid new (λ _. ⊥) (λ _. ⊥) (λ _. ⊥) (λ _ db none. none) (λ _ db none. none) before.survives
          c.is_numbered.ensures.reads.survives;
      stays =
          λ clean. record {
            so_far =
                inr (unchanged_after (before.stays (early clean)) c.is_numbered.new.tx.conn.now
                (c.in_ok-is_numbered.ensures.reads.ok clean));
          };
      same_reference = c.is_numbered.ensures.same_reference ∙ before.same_reference;
      left = λ clean.
          less_left old.now.trees _ _ _
          (rw (trees_stay (before.stays (early clean))) at (c.in_ok-is_numbered.ensures.numbered clean))
          (subst (Left old.now.trees)
          (at_drop_more (map (λ text. text.now)) c.args.texts.now c.loop-text.text-index _ c.loop-text-test.true)
          (before.left (early clean))) c.if-not-branch.false;
    }

pub returns-in_err-is_numbered-clause-why : goal.returns-in_err-is_numbered-clause-why
returns-in_err-is_numbered-clause-why g c clean =
    let before = c.loop-text.invariant in
    let early : HasCleanDisk (state g.S.Store c.loop-text.tx.conn.now) = omega
    (arith, c.is_numbered.ensures.reads.survives.clean) in
    let left = subst (Left (state g.S.Store c.args.tx.now.conn.now).now.trees)
    (at_drop_more (map (λ text. text.now)) c.args.texts.now c.loop-text.text-index _ c.loop-text-test.true)
    (before.left early) in
    let selects = next_selects _ _ _ left in
    fails_at_last c.is_numbered.new.tx.conn.now FailsAtRowids _ c.in_err-is_numbered.field-0.0 c.from_residual.ensures.1
    (well_so_far (before.stays early) before.survives) (c.in_err-is_numbered.ensures.why clean)
    (λ fails. (_, selects.0, selects.1, fails))

pub returns-then-not-branch-clause-numbered : goal.returns-then-not-branch-clause-numbered
returns-then-not-branch-clause-numbered g c clean =
    let old = state g.S.Store c.args.tx.now.conn.now in
    let before = c.loop-text.invariant in
    let early : HasCleanDisk (state g.S.Store c.loop-text.tx.conn.now) = omega
    (arith, c.is_numbered.ensures.reads.survives.clean) in
    let one = one_numbered old.now.trees _ _ _
    (rw (trees_stay (before.stays early)) at (c.in_ok-is_numbered.ensures.numbered clean))
    (subst (Left old.now.trees)
    (at_drop_more (map (λ text. text.now)) c.args.texts.now c.loop-text.text-index _ c.loop-text-test.true)
    (before.left early)) in
    (λ yes. absurd (true≢false (sym yes)), λ numbered. sym c.if-not-branch.true ∙ one numbered)

pub returns-clause-numbered : goal.returns-clause-numbered
returns-clause-numbered g c clean =
    let trees = (state g.S.Store c.args.tx.now.conn.now).now.trees in
    let none = at_drop_all (map (λ text. text.now)) c.args.texts.now c.loop-text.text-index c.loop-text-test.false in
    (λ yes. none_left trees (subst (Left trees) none (c.loop-text.invariant.left clean)), λ numbered. refl)
