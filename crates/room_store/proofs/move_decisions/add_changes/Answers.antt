use Rattle.std.proofs.Common.{ap, append_assoc, arith, length, sym, take}
use Rattle.std.proofs.Common.{take_all, ◌+◌, ◌++◌, ◌∙◌, ◌∷◌}
use Rattle.std.proofs.Common.{◌≡◌, ◌≤◌, []}
use Rattle.std.proofs.lemmas.List.{take_more}
use Rattle.room_store.proofs.move_decisions.add_changes.Goals as goal

pub loop-change-preserved : goal.loop-change-preserved
loop-change-preserved c =
    let cs = c.args.added.now in
    let i = c.loop-change.change-index in
    let x = c.change-item.result in
    let more : take (i + 1) cs ≡ take i cs ++ x ∷ [] = rw c.change-item.is (take_more cs i _ c.loop-change-test.true) in
    c.in_ok-push.ensures.ok ∙ ap (λ l. l ++ x ∷ []) c.loop-change.invariant
    ∙ append_assoc c.args.changes.now (take i cs) (x ∷ [])
    ∙ ap (λ l. c.args.changes.now ++ l) (sym more)

pub returns-clause-added : goal.returns-clause-added
returns-clause-added c =
    let past : length c.args.added.now ≤ c.loop-change.change-index = omega (arith, c.loop-change-test.false) in
    rw (take_all c.loop-change.change-index c.args.added.now past) at c.loop-change.invariant
