-- How the callers of a listener are parted from.
use Rattle.std.specs.Prelude.{[], ◌∷◌, Bool, List, Option}
use Rattle.std.specs.declared.time.Duration.{Duration}
use Rattle.room_http_messages.specs.Streams.{Grows}
use Rattle.dispatch_room_sockets.specs.LingeringClose.{IsParted, Step, drains_until}

-- A peer was parted from, and then it was released. The listener states what was done to part from
-- it and from others.
pub record PartsFrom {P : Type 0} (done : P → Option (List Step)) (is_open : P → Bool)
    (answered : P → Option Duration) (peer : P) (old new : Option (List (Option (List Step))))
    : Type 0 where
  pub last : P
  pub steps : List Step
  pub does : Grows (done peer) (done last) steps
  pub is : IsParted (drains_until (is_open peer) (answered peer)) steps
  pub gone : Grows old new (done last ∷ [])
