-- Days lie well within the calendar that jiff has, and so their midnights within its instants.
use Rattle.std.proofs.Common.{FitsSigned, arith, w64, ℕ, ℤ, neg_ℤ, pos, ◌+ℤ◌, ◌*ℤ◌, ◌<◌, ◌≡◌, ◌∙◌}
use Rattle.std.proofs.Common.{ap}
use Rattle.jiff.specs.Words.{ambiguous_at, civil_nanos, compatible_offset, epoch_day, instant_of}
use Rattle.jiff.specs.Words.{time_nanos, IsTimestampNanos}
use Rattle.jiff_core.specs.Calendar.{day_count, days_from_civil, IsCivilDate}
use Rattle.jiff_core.specs.declared.civil.date.Date.{Date}
use Rattle.jiff_core.specs.declared.civil.datetime.DateTime.{DateTime}
use Rattle.jiff_core.specs.declared.offset.Offset.{Offset}
use Rattle.jiff_core.proofs.CalendarLemmas.{day_count-day_of_year, day_count-later_year}
use Rattle.jiff_core.proofs.CalendarLemmas.{day_count-lt_year, day_count-min, day_count-year_bounds}
use Rattle.jiff_core.proofs.CalendarLemmas.{days_from_civil-day_count, days_in_year_bounds}
use Rattle.jiff_core.proofs.DateTimeLemmas.{civil_nanos-parts}
use Rattle.jiff_core.proofs.SignedLemmas.{signed_arith}
use Rattle.jiff_tz.specs.declared.timezone.TimeZone.{TimeZone}
use Rattle.room_http_time.specs.Days.{IsDay, IsInner, IsMidnight}

civil_date : (year month day : ℕ) → IsDay year month day → IsCivilDate (pos year) month day
civil_date year month day h =
    let since = h.since in
    let until = h.until in (
      (omega (arith, signed_arith), omega (arith, signed_arith)),
      (h.month_least, h.month_greatest),
      (h.day_least, h.day_greatest),
    )

-- fewer days come before it than before the year 9999
below_last_year : (year month day : ℕ) → IsDay year month day
    → day_count (pos year) month day < 7_304_485
below_last_year year month day h =
    let until = h.until in
    omega (
      arith,
      day_count-lt_year (pos year) month day (pos 9999) 1 1 (civil_date year month day h) (omega arith)
          (omega (arith, signed_arith)),
      day_count-year_bounds (pos 9999) (omega (arith, signed_arith), omega (arith, signed_arith)),
      days_in_year_bounds (pos 9999),
    )

-- and at least those of the year -9999
above_first_year : (year month day : ℕ) → IsDay year month day
    → 730 < day_count (pos year) month day
above_first_year year month day h =
    let since = h.since in
    omega (
      arith,
      day_count-later_year (neg_ℤ (pos 9999)) (pos year) (omega (arith, signed_arith)) (omega (arith, signed_arith)),
      day_count-min,
      days_in_year_bounds (neg_ℤ (pos 9999)),
      day_count-day_of_year (pos year) month day h.day_least,
      h.day_least,
    )

-- the day and the next one
pub inner_days : (at : ℤ) (year month day : ℕ) → at ≡ days_from_civil (pos year) month day
    → IsDay year month day → IsInner at × IsInner (at +ℤ pos 1)
inner_days at year month day e h =
    let count = days_from_civil-day_count (pos year) month day in
    let below = below_last_year year month day h in
    let above = above_first_year year month day h in (
      (omega (arith, signed_arith), omega (arith, signed_arith)),
      (omega (arith, signed_arith), omega (arith, signed_arith)),
    )

add-zero_z : (z : ℤ) → z +ℤ pos 0 ≡ z
add-zero_z z = omega (arith, signed_arith)

pub civil_nanos-midnight : (at : DateTime) (date : Date) → at.date ≡ date → time_nanos at.time ≡ 0
    → civil_nanos at ≡ epoch_day date *ℤ pos 86_400_000_000_000
civil_nanos-midnight at date same zero_time =
    civil_nanos-parts at ∙ rw (zero_time, ap epoch_day same) (add-zero_z (epoch_day date *ℤ pos 86_400_000_000_000))

pub midnight_is_instant : (at : DateTime) (offset : Offset) (day : ℤ)
    → civil_nanos at ≡ day *ℤ pos 86_400_000_000_000 → IsInner day
    → IsTimestampNanos (instant_of at offset)
midnight_is_instant at offset day is inner =
    let range = offset.in_range in
    (omega (arith, signed_arith), omega (arith, signed_arith))

pub midnight_fits : (zone : TimeZone) (day second : ℤ) → IsMidnight zone day second → IsInner day
    → FitsSigned w64 second
midnight_fits zone day second (at, is, e) inner =
    let range = midnight_is_instant at (compatible_offset (ambiguous_at zone at)) day is inner in
    rw e (omega (arith, signed_arith, range))
