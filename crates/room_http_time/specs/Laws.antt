-- What a zone or its text, and a day, decide by themselves.
use Rattle.std.specs.Prelude.{◌≡◌, ℕ, ℤ, List}
use Rattle.jiff.specs.Placed.{IsPosixZone}
use Rattle.jiff_tz.specs.declared.timezone.TimeZone.{TimeZone}
use Rattle.room_http_time.specs.Days.{IsSpan, zone_of}
use Rattle.room_http_time.specs.declared.zones.Zone.{Zone}

-- a day begins and ends at one second in a zone
abbrev pub IsOneSpan : Type 0
IsOneSpan = (zone : TimeZone) (day : ℤ) (span other : ℤ × ℤ) → IsSpan zone day span
    → IsSpan zone day other → span ≡ other

-- two zones that one text gives have the same days
abbrev pub IsOneZone : Type 0
IsOneZone = (text : List ℕ) (a b : Zone) → IsPosixZone text (zone_of a)
    → IsPosixZone text (zone_of b) → (day : ℤ) (span : ℤ × ℤ) → IsSpan (zone_of a) day span
    → IsSpan (zone_of b) day span
