use Rattle.dispatch_room_lists.proofs.listed_changes.listed_in.Goals as goal

pub returns-in-None-clause-none : goal.returns-in-None-clause-none
returns-in-None-clause-none c = record {
  no_fleet = rw c.in-Err-Input.field-0-is at c.in-Err-Input.ensures.fault;
  no_change = rw c.in-None.is at c.in_ok-change-in-Err-Input.ensures.none;
}
