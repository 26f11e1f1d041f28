use Rattle.std.proofs.Common.{◌-◌, ◌≤◌, ◌≡◌}
use Rattle.room_place.specs.Plans.{has_division}
use Rattle.dispatch_room_tasks.proofs.CreatedLemmas.{passing_to}
use Rattle.dispatch_room_tasks.proofs.creation.count_divisions.Given as goal

abbrev pub invariant-loop-number : goal.invariant-loop-number
invariant-loop-number l = record {
  few : l.count ≤ l.number - 1;
  counted : l.count ≡ passing_to (has_division l.plan.areas) (l.number - 1);
}
