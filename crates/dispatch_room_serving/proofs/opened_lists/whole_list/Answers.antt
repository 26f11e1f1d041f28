use Rattle.std.proofs.Common.{inl, inr, refl}
use Rattle.dispatch_room_serving.proofs.OpeningLemmas.{foreign, found_marked, lost, unfound_marked}
use Rattle.dispatch_room_serving.proofs.opened_lists.whole_list.Goals as goal

pub returns-in-Some-clause-found : goal.returns-in-Some-clause-found
returns-in-Some-clause-found g c =
    found_marked _ _ _ _ _
    (foreign _ _ _ _ c.in_ok-reader.ensures.left c.in-Err-Foreign.field-0-is
    c.in-Err-Foreign.ensures) c.in-Some.is c.in_ok-list-in-Err-Foreign.ensures.found

pub returns-in-Err-Foreign-clause-unfound : goal.returns-in-Err-Foreign-clause-unfound
returns-in-Err-Foreign-clause-unfound g c =
    inr (
      refl,
      inr (unfound_marked _ _ _ _ _
          (foreign _ _ _ _ c.in_ok-reader.ensures.left c.in-Err-Foreign.field-0-is
          c.in-Err-Foreign.ensures) c.in-None.is c.in_ok-list-in-Err-Foreign.ensures.found),
    )

pub returns-in-Err-Read-clause-unfound : goal.returns-in-Err-Read-clause-unfound
returns-in-Err-Read-clause-unfound g c =
    inr (
      refl,
      inr (inl (
        c.look_through.new.reader,
        lost _ _ _ _ c.in_ok-reader.ensures.left (inl c.in-Err-Read.field-0-is)
            c.in-Err-Read.ensures,
      )),
    )

pub returns-clause-unfound : goal.returns-clause-unfound
returns-clause-unfound g c =
    inr (
      refl,
      inr (inl (
        c.look_through.new.reader,
        lost _ _ _ _ c.in_ok-reader.ensures.left (inr c.in-Err-Cut.field-0-is)
            c.in-Err-Cut.ensures,
      )),
    )
