-- How long it is until a moment, by what a clock shows.
use Rattle.std.specs.Prelude.{◌≡◌, ◌+◌, ◌-◌, ◌*◌, ◌/◌, ◌<◌, ◌≤◌, min, Option, None, Some, IfSome}
use Rattle.std.specs.Prelude.{IsSomeAnd}
use Rattle.std.specs.Duration.{as_nanos, max_nanos}
use Rattle.std.specs.declared.time.Duration.{Duration}

-- From now until a moment it is so long, in whole milliseconds where it is one at least: none where
-- the moment has come.
pub record IsLeft (now moment : Duration) (left : Option Duration) : Type 0 where
  pub come : as_nanos moment ≤ as_nanos now → left ≡ None
  pub whole : 1000000 ≤ as_nanos moment - as_nanos now → IsSomeAnd left (λ left.
      as_nanos left ≡ (as_nanos moment - as_nanos now) / 1000000 * 1000000)
  pub short : as_nanos now < as_nanos moment → as_nanos moment - as_nanos now < 1000000
      → IsSomeAnd left (λ left. as_nanos left ≡ as_nanos moment - as_nanos now)

-- so long it is from what a clock shows until a moment: none where it can't be read
pub record IsTimeUntil (shows : Option Duration → Type 0) (moment : Duration)
    (left : Option Duration) : Type 0
  where
    pub now : Option Duration
    pub shown : shows now
    pub none : now ≡ None → left ≡ None
    pub is : IfSome now (λ now. IsLeft now moment left)

-- it was waited until a moment at most, from one on that a clock showed
abbrev pub WaitsUntil : (Option Duration → Type 0) → Duration → Option Duration → Type 0
WaitsUntil shows moment left =
    (now : Duration) × shows (Some now) × (as_nanos now < as_nanos moment) × IsLeft now moment left

-- it was waited for the next piece of what is thrown away: as long as a connection may idle from a
-- moment on that a clock showed, but not after another
pub record IsAwaited (shows : Option Duration → Type 0) (idle moment : Duration)
    (left : Option Duration) : Type 0
  where
    pub now : Duration
    pub shown : shows (Some now)
    pub until : Duration
    pub silent : as_nanos until
        ≡ min (min (as_nanos now + as_nanos idle) max_nanos) (as_nanos moment)
    pub waits : WaitsUntil shows until left
