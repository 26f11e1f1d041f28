use Rattle.dispatch_room_csv.specs.PlanRules.{AreKept}
use Rattle.dispatch_room_csv.proofs.plan_rules.first_refused.Given as goal

abbrev pub invariant-loop-at : goal.invariant-loop-at
invariant-loop-at l = AreKept l.lines l.at
