use Rattle.std.proofs.Common.{[], ◌∷◌, false, inl, inr, refl, true}
use Rattle.dispatch_room_serving.specs.OpenedLists.{copied, cut, unmarked}
use Rattle.dispatch_room_serving.proofs.ConnectionLaws.{grows_more}
use Rattle.dispatch_room_serving.proofs.OpeningLemmas.{unclear}
use Rattle.dispatch_room_serving.proofs.opened_lists.clear.Goals as goal

pub returns-in_err-cut-clause-clears : goal.returns-in_err-cut-clause-clears
returns-in_err-cut-clause-clears g c =
    let list = c.args.list in
    unclear g.F.ListFile.tried _ _ list _ _ c.from_residual-in_err-cut.ensures.1 _ (inr (inl refl))
    (grows_more _ _ _ (copied list.whole list.rest true ∷ []) (cut list.whole false ∷ [])
    c.in_ok-aside.ensures.tried c.in_err-cut.ensures.tried)

pub returns-in_err-unmark-clause-clears : goal.returns-in_err-unmark-clause-clears
returns-in_err-unmark-clause-clears g c =
    let list = c.args.list in
    unclear g.F.ListFile.tried _ _ list _ _ c.from_residual-in_err-unmark.ensures.1 _ (inr (inr refl))
    (grows_more _ _ _ (copied list.whole list.rest true ∷ cut list.whole true ∷ [])
    (unmarked false ∷ [])
    (grows_more _ _ _ (copied list.whole list.rest true ∷ []) (cut list.whole true ∷ [])
    c.in_ok-aside.ensures.tried c.in_ok-cut.ensures.tried) c.in_err-unmark.ensures.tried)

pub returns-clause-clears : goal.returns-clause-clears
returns-clause-clears g c =
    let list = c.args.list in
    grows_more _ _ _ (copied list.whole list.rest true ∷ cut list.whole true ∷ [])
    (unmarked true ∷ [])
    (grows_more _ _ _ (copied list.whole list.rest true ∷ []) (cut list.whole true ∷ [])
    c.in_ok-aside.ensures.tried c.in_ok-cut.ensures.tried) c.in_ok-unmark.ensures.tried
