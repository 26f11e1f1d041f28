-- Two zones that one text gives have the same days: an instant that is picked goes by what the
-- text says and by nothing else.
use Rattle.std.proofs.Common.{ap, int_div, pos, sym, ℤ, IsTrue, None, Option, Some, option_map}
use Rattle.std.proofs.Common.{◌+ℤ◌, ◌≡◌, ◌∙◌}
use Rattle.std.proofs.Props.{props}
use Rattle.std.proofs.lemmas.Option.{none-some, same_Some}
use mathlib.Core.HLevel.{is_prop→PathP}
use Rattle.jiff.specs.Words.{civil_nanos, picked_instant}
use Rattle.jiff_core.specs.Calendar.{IsWithin}
use Rattle.jiff_core.specs.Timestamp.{IsOffsetSeconds}
use Rattle.jiff_core.specs.declared.civil.datetime.DateTime.{DateTime}
use Rattle.jiff_core.specs.declared.offset.Offset.{Offset}
use Rattle.jiff_tz.specs.Ambiguous.{compatible_offset, instant_of}
use Rattle.jiff_tz.specs.PosixDay.{is_rule_day}
use Rattle.jiff_tz.specs.PosixRule.{ambiguous_at_by, ambiguous_by, rule_nanos}
use Rattle.jiff_tz.specs.PosixText.{day_time_view, dst_view, tz_view}
use Rattle.jiff_tz.specs.Zone.{ambiguous_at}
use Rattle.jiff_tz.specs.declared.ambiguous.AmbiguousOffset.TheVariants.{Unambiguous}
use Rattle.jiff_tz.specs.declared.posix.DayTime.{DayTime}
use Rattle.jiff_tz.specs.declared.posix.Dst.{Dst}
use Rattle.jiff_tz.specs.declared.posix.TimeZone.{TimeZone as Rule}
use Rattle.jiff_tz.specs.declared.timezone.TimeZone.TheVariants.{Posix}
use Rattle.room_http_time.specs.Days.{IsMidnight}
use Rattle.room_http_time.specs.Laws.{IsOneZone}

-- offsets of the same seconds are the same
same-offset : (a b : Offset) → a.seconds ≡ b.seconds → a ≡ b
same-offset a b e = λ i. record {
  seconds = e i;
  in_range = is_prop→PathP (λ j. IsOffsetSeconds (e j)) (λ j. hlevel props) a.in_range b.in_range i;
}

-- times of the same day and seconds are the same
same-time : (a b : DayTime) → day_time_view a ≡ day_time_view b → a ≡ b
same-time a b e = λ i. record {
  date = (e i).0;
  time = (e i).1;
  date_in = is_prop→PathP (λ j. IsTrue (is_rule_day (e j).0)) (λ j. hlevel props) a.date_in b.date_in i;
  time_in = is_prop→PathP (λ j. IsWithin 604_799 (e j).1) (λ j. hlevel props) a.time_in b.time_in i;
}

-- the offsets of a datetime go by what the text says of daylight saving time
same-offsets : (std other : Offset) (a b : Option Dst) (at : DateTime) → std ≡ other
    → option_map dst_view a ≡ option_map dst_view b
    → ambiguous_at_by std a at ≡ ambiguous_at_by other b at
same-offsets std other None None at same e = ap Unambiguous same
same-offsets std other None (Some d) at same e = absurd (none-some _ e)
same-offsets std other (Some d) None at same e = absurd (none-some _ (sym e))
same-offsets std other (Some c) (Some d) at same e =
    let view = same_Some (dst_view c) (dst_view d) e in
    let offset = same-offset c.offset d.offset (λ i. (view i).seconds) in
    let start = same-time c.rule.start d.rule.start (λ i. (view i).start) in
    let finish = same-time c.rule.end d.rule.end (λ i. (view i).finish) in
    λ i.
    ambiguous_by (same i) (offset i)
    (rule_nanos at.date.year (start i) (pos 0), rule_nanos at.date.year (finish i) (pos 0)) (civil_nanos at)

-- the instant that is picked goes by what the text says
same-instant : (a b : Rule) (at : DateTime) → tz_view a ≡ tz_view b
    → picked_instant (Posix a) at ≡ picked_instant (Posix b) at
unfolding ambiguous_at
same-instant a b at e =
    let std = same-offset a.std_offset b.std_offset (λ i. (e i).std_seconds) in
    let offsets = same-offsets a.std_offset b.std_offset a.dst b.dst at std (λ i. (e i).dst) in
    λ i. instant_of at (compatible_offset (offsets i))

-- so does the second at which a day begins
same-midnight : (a b : Rule) (day second : ℤ) → tz_view a ≡ tz_view b → IsMidnight (Posix a) day second
    → IsMidnight (Posix b) day second
same-midnight a b day second e (at, nanos, is) =
    (at, nanos, is ∙ ap (λ (n : ℤ). int_div n (pos 1_000_000_000)) (same-instant a b at e))

pub one_zone_law : IsOneZone
one_zone_law text a b first_is second_is day span (from, to) =
    let e = same_Some (tz_view a.rule) (tz_view b.rule) (sym first_is ∙ second_is) in
    (same-midnight a.rule b.rule day _ e from, same-midnight a.rule b.rule (day +ℤ pos 1) _ e to)
