-- What is heard on a connection on which something is asked.
use Rattle.std.specs.Io.KnownBytes.{Consumes, IsAtEnd}
use Rattle.std.specs.Prelude.{Bool, List, None, Option, Result, Some, [], false, length, ℕ, ◌<◌}
use Rattle.std.specs.Prelude.{◌≡◌}
use Rattle.room_http_messages.specs.Streams.{WritesAll}

-- by the sides of a connection: what is left to be read, and whether a read failed; and what was
-- written, and whether a write failed
module _ {R W : Type 0} (left : R → Option (List ℕ)) (read_failed : R → Bool)
    (held : W → Option (List ℕ)) (write_failed : W → Bool) where
  -- All that is asked was written, or the beginning of it before a write failed. What was heard is
  -- what was said next: all of it, unless a read failed or it is as much as is heard at most.
  pub record IsAnswered (sides : R × W) (asked : List ℕ) (most : ℕ) (heard : List ℕ) : Type 0 where
    pub after : R × W
    pub sent : Result (Unit {0}) (Unit {0})
    pub asks : WritesAll held write_failed sides.1 after.1 asked sent
    pub said : Consumes (left sides.0) (left after.0) heard
    pub all : length heard < most → read_failed after.0 ≡ false → IsAtEnd (left after.0)

  -- what is heard where this is asked on a connection: nothing where there is none
  abbrev pub IsHeard : Option (R × W) → List ℕ → ℕ → List ℕ → Type 0
  IsHeard None asked most heard = heard ≡ []
  IsHeard (Some sides) asked most heard = IsAnswered sides asked most heard
