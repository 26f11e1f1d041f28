use Rattle.std.proofs.Common.{Err, List, Ok, Option, Result, map, refl, ℕ, ◌≡◌}
use Rattle.std.specs.Prelude.{MatchResult}
use Rattle.dispatch_room_exit.specs.declared.exit_status.Failure.{Failure}
use Rattle.dispatch_room_disk.specs.FileSteps.{Does, FollowsFor, StopsFor}
use Rattle.dispatch_room_disk.specs.ReplacingSteps.{Step as Call}
use Rattle.dispatch_room_commands.proofs.restore.replace.Goals as goal

-- what was done by calls that were given was done by who takes them back
module _ {D T : Type 0} (effect : Call → D) (may_have : Call → Failure → Type 0)
    (begun given : Option (List Call)) (old new : Option (List D))
    (taken : (calls : List Call) → Does calls begun given → Does (map effect calls) old new) where
  done_by : (calls : List Call) (came : Result T Failure) → FollowsFor may_have calls begun given came
      → MatchResult came (λ _. Does (map effect calls) old new)
      (StopsFor may_have (λ first. Does (map effect first) old new) calls)
  done_by calls (Ok it) all = taken calls all
  done_by calls (Err fault) stops = record {
    first = stops.first;
    failed = stops.failed;
    rest = stops.rest;
    are = stops.are;
    done = taken stops.first stops.done;
    why = stops.why;
  }

pub returns : goal.returns
returns g c printed =
    let put = c.put_in_place-put.ensures in
    let taken = rw c.calls-calls.ensures.same at c.release.ensures in
    let follows = rw (c.calls-calls.ensures.begun, c.calls-calls.ensures.same) at put.2 in
    ((put.0, put.1, done_by _ _ _ _ _ _ taken _ c.put_in_place-put.result follows), refl)
