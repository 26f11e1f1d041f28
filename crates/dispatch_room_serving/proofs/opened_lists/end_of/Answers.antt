use Rattle.std.proofs.Common.{◌∙◌, sym, [], ◌∷◌, Some, None, true, false, inl, inr, refl}
use Rattle.dispatch_room_serving.specs.OpenedLists.{begun, clearing}
use Rattle.dispatch_room_serving.proofs.ConnectionLaws.{grows_more}
use Rattle.dispatch_room_serving.proofs.OpeningLemmas.{broken_off, left_as_it_was, opened}
use Rattle.dispatch_room_serving.proofs.opened_lists.end_of.Goals as goal

pub returns-in_err-mark-clause-opens : goal.returns-in_err-mark-clause-opens
returns-in_err-mark-clause-opens g c =
    left_as_it_was g.F.ListFile.tried g.F.ListFile.text g.F.ListFile.marks g.F.ListFile.is_unread
    _ _ _ _ c.in_ok-settle.ensures.tried c.from_residual-in_err-mark.result _
    c.from_residual-in_err-mark.ensures.1
    (λ fault is. rw is (elim c.in_err-mark.ensures.fault [
      | inl memory ↦ inl memory
      | inr other ↦ inr (other.0, inl other.1)
    ]))

pub returns-in_err-list-clause-opens : goal.returns-in_err-list-clause-opens
returns-in_err-list-clause-opens g c =
    left_as_it_was g.F.ListFile.tried g.F.ListFile.text g.F.ListFile.marks g.F.ListFile.is_unread
    _ _ _ _ c.in_ok-settle.ensures.tried c.from_residual-in_err-list.result _
    c.from_residual-in_err-list.ensures.1
    (λ fault is. rw is (elim c.in_err-list.ensures.unfound [
      | inl memory ↦ inl memory
      | inr other ↦ inr (
        other.0,
        elim other.1 [
          | inl unread ↦ inl unread
          | inr unfound ↦ inr (c.in_ok-mark.mark, c.in_ok-mark.ensures.marks, unfound)
        ],
      )
    ]))

pub returns-in-Some-clause-opens : goal.returns-in-Some-clause-opens
returns-in-Some-clause-opens g c =
    opened g.F.ListFile.tried g.F.ListFile.text g.F.ListFile.marks g.F.ListFile.is_unread _ _ _ _ _
    c.in_ok-mark.mark c.in_ok-list.list c.in_ok-settle.ensures.tried c.in_ok-mark.ensures.marks
    c.in_ok-list.ensures.found (Some c.in-Some.end) (sym c.goes_on_at.ensures ∙ c.in-Some.is)
    c.in_ok-clear.ensures.clears

pub returns-in_ok-begin-in-None-clause-opens : goal.returns-in_ok-begin-in-None-clause-opens
returns-in_ok-begin-in-None-clause-opens g c =
    opened g.F.ListFile.tried g.F.ListFile.text g.F.ListFile.marks g.F.ListFile.is_unread _ _ _ _ _
    c.in_ok-mark.mark c.in_ok-list.list c.in_ok-settle.ensures.tried c.in_ok-mark.ensures.marks
    c.in_ok-list.ensures.found None (sym c.goes_on_at.ensures ∙ c.in-None.is)
    (grows_more _ _ _ (clearing c.in_ok-list.list) (begun true ∷ []) c.in_ok-clear.ensures.clears
    c.in_ok-begin-in-None.ensures.tried)

pub returns-in_err-begin-in-None-clause-opens : goal.returns-in_err-begin-in-None-clause-opens
returns-in_err-begin-in-None-clause-opens g c =
    broken_off g.F.ListFile.tried g.F.ListFile.text g.F.ListFile.marks g.F.ListFile.is_unread
    _ _ _ _ _ c.in_ok-mark.mark c.in_ok-list.list c.in_ok-settle.ensures.tried
    c.in_ok-mark.ensures.marks c.in_ok-list.ensures.found _ _
    c.from_residual-in_err-begin-in-None.ensures.1 _
    (inr (sym c.goes_on_at.ensures ∙ c.in-None.is, refl))
    (grows_more _ _ _ (clearing c.in_ok-list.list) (begun false ∷ []) c.in_ok-clear.ensures.clears
    c.in_err-begin-in-None.ensures.tried)
