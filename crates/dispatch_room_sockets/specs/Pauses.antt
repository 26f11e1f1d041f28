-- How long it is waited for someone to move.
use Rattle.std.specs.Prelude.{◌≡◌, ◌+◌, ◌-◌, ◌≤◌, ℕ, List, [], ◌∷◌, ◌++◌, Bool, All, min, map}
use Rattle.std.specs.Prelude.{flat_map, Option, None, Some, if◌then◌else◌}
use Rattle.std.specs.Duration.{as_nanos, max_nanos}
use Rattle.std.specs.declared.time.Duration.{Duration}
use Rattle.dispatch_room_sockets.specs.declared.kept_callers.Heard.{Heard}
use Rattle.dispatch_room_sockets.specs.declared.kept_callers.Kept.{Kept}
use Rattle.dispatch_room_sockets.specs.declared.closing_connections.ClosingConnection.{ClosingConnection}

-- it was waited for someone to move, so long at most, and this was the moment after it, where it is
-- known
pub record Wait : Type 0 where
  pub most : Duration
  pub after : Option Duration

-- who came to an entrance so far, what each look found there, and each wait, in their order, where
-- that is known
pub record Seen (C : Type 0) : Type 0 where
  pub came : Option (List C)
  pub heard : Option (List Heard)
  pub waits : Option (List Wait)

-- n is one of these, and none of them is less
pub record IsLeast (n : ℕ) (all : List ℕ) : Type 0 where
  pub before : List ℕ
  pub after : List ℕ
  pub one : all ≡ before ++ n ∷ after
  pub least : All (λ m. n ≤ m) all

-- When one who leaves is looked at at the latest: as its time is over, and where it rests still,
-- 100 milliseconds after that.
abbrev pub looked_at_by : Option Duration → Duration → ℕ
looked_at_by None until = as_nanos until
looked_at_by (Some rests) until =
    min (min (as_nanos rests + 100000000) max_nanos) (as_nanos until)

module _ {C : Type 0} where
  -- So long it may be waited from now on for the sake of one who waits: until its time is over, and
  -- two milliseconds, where it isn't reported that it moves.
  abbrev pub waiter_limits : Duration → (C → Bool) → Kept C → List ℕ
  waiter_limits now is_watched k =
      (as_nanos k.until - as_nanos now) ∷ (if is_watched k.caller then [] else 2000000 ∷ [])

  abbrev pub leaver_limit : Duration → ClosingConnection C → ℕ
  leaver_limit now l = looked_at_by l.rests l.until - as_nanos now

  -- so long it may be waited: a second, and as each of those allows who wait or leave
  abbrev pub limits : Duration → (C → Bool) → List (Kept C) → List (ClosingConnection C) → List ℕ
  limits now is_watched line closing_connections =
      1000000000
      ∷ flat_map (waiter_limits now is_watched) line ++ map (leaver_limit now) closing_connections
