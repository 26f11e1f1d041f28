use Rattle.std.proofs.Common.{IfSome, List, None, Option, Some, pos, sym, ℕ, ℤ, ◌∙◌, ◌≡◌}
use Rattle.jiff_core.specs.Calendar.{days_from_civil}
use Rattle.jiff_tz.specs.declared.timezone.TimeZone.{TimeZone}
use Rattle.room_http_time.specs.Dates.{Date, day_of}
use Rattle.room_http_time.specs.Days.{IsSpan, zone_of}
use Rattle.dispatch_room_archive.specs.TimesReport.{IsSpanOf}
use Rattle.dispatch_room_archive.proofs.times_report.span.Goals as goal

-- the seconds are those of the day by its numbers
span_of : (zone : TimeZone) (text : List ℕ) (date : Date) (year month day : ℕ) (span : Option (ℤ × ℤ))
    → day_of text ≡ Some date → year ≡ date.year → month ≡ date.month → day ≡ date.day
    → IfSome span (IsSpan zone (days_from_civil (pos year) month day)) → IfSome span (IsSpanOf zone text)
span_of zone text date year month day None written y m d is = tt
span_of zone text date year month day (Some span) written y m d is = (date, written, rw (y, m, d) at is)

pub returns-clause-span : goal.returns-clause-span
returns-clause-span c =
    let day = c.in_ok-day.day in
    span_of (zone_of c.args.zone.now) c.args.day.now day c.year.result c.month.result c.day.result c.day-2.result
    (sym c.parse.ensures ∙ c.in_ok-day.was) c.year.ensures.value c.month.ensures.value c.day.ensures.value
    c.day-2.ensures.span
