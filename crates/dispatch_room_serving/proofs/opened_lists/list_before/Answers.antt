use Rattle.dispatch_room_serving.proofs.OpeningLemmas.{none_before}
use Rattle.dispatch_room_serving.proofs.opened_lists.list_before.Goals as goal

pub returns-clause-found : goal.returns-clause-found
returns-clause-found g c =
    rw c.in-Some.is (none_before _ _ _ c.in-Some.bytes c.look_through.new.reader c.in-Err.field-0
    c.in_ok-part.ensures.left c.in-Err.ensures)
