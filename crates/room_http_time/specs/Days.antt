-- The days of a time zone.
use Rattle.std.specs.Prelude.{◌≡◌, ℕ, ◌≤◌, ℤ, pos, ◌+ℤ◌, ◌*ℤ◌, int_div, neg_ℤ}
use Rattle.jiff.specs.Words.{civil_nanos, days_in_month, picked_instant, IsBetween}
use Rattle.jiff_core.specs.declared.civil.datetime.DateTime.{DateTime}
use Rattle.jiff_tz.specs.declared.timezone.TimeZone.{TimeZone}
use Rattle.jiff_tz.specs.declared.timezone.TimeZone.TheVariants.{Posix}
use Rattle.room_http_time.specs.declared.zones.Zone.{Zone}

-- the zone in the terms of the crate that works it out
abbrev pub zone_of : Zone → TimeZone
zone_of zone = Posix zone.rule

-- the numbers are a day of the Gregorian calendar, from 1970-01-01 to 2099-12-31
pub record IsDay (year month day : ℕ) : Type 0 where
  pub since : 1970 ≤ year
  pub until : year ≤ 2099
  pub month_least : 1 ≤ month
  pub month_greatest : month ≤ 12
  pub day_least : 1 ≤ day
  pub day_greatest : day ≤ days_in_month (pos year) month

-- The second of UTC, counted from 1970, at which a day begins in a zone: when its clock shows
-- 00:00, by the offset before a transition where it shows it never or twice. Days are counted
-- from 1970-01-01.
abbrev pub IsMidnight : TimeZone → ℤ → ℤ → Type 0
IsMidnight zone day second =
    (at : DateTime) × (civil_nanos at ≡ day *ℤ pos 86_400_000_000_000)
    × (second ≡ int_div (picked_instant zone at) (pos 1_000_000_000))

-- a day goes from its midnight to that of the next day
abbrev pub IsSpan : TimeZone → ℤ → ℤ × ℤ → Type 0
IsSpan zone day span = IsMidnight zone day span.0 × IsMidnight zone (day +ℤ pos 1) span.1

-- none of the first and last three days that jiff has, so that their midnights are instants that it
-- has, whatever the offset
abbrev pub IsInner : ℤ → Type 0
IsInner day = IsBetween (neg_ℤ (pos 4_371_584)) (pos 2_932_893) day
