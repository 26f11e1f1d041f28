-- What was done to part from a peer, step after step.
use Rattle.std.proofs.Common.{◌≡◌, arith, length-append, inr, ℕ, ◌+◌, ◌≤◌, List, ◌∷◌, ◌++◌, true}
use Rattle.std.proofs.Common.{Option, None, Some, refl}
use Rattle.std.proofs.KnownBytes.{Consumes-trans}
use Rattle.std.specs.declared.time.Duration.{Duration}
use Rattle.dispatch_room_sockets.specs.LingeringClose.{IsDrained, IsParted, Step, ThrowsAway, shut}

pub Throws-more : (a b c : Option (List ℕ)) (few more most : ℕ) → ThrowsAway few a b
    → ThrowsAway more b c → few + more ≤ most → ThrowsAway most a c
Throws-more a b c few more most first second small = (
  first.0 ++ second.0,
  Consumes-trans _ _ _ _ _ first.1 second.1,
  omega (arith, length-append first.0 second.0, first.2, second.2),
)

-- the writing side was shut, and then a peer was read from
pub parted_by : (until : Option Duration) (moment : Duration) (steps : List Step) → until ≡ Some moment
    → IsDrained moment steps → IsParted until (shut true ∷ steps)
parted_by None moment steps is drained = cc
parted_by (Some other) moment steps is drained = inr (steps, refl, rw (same is) drained)
  where
    same : Some other ≡ Some moment → other ≡ moment
    same is = cc
