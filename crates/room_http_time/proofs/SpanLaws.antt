-- A day begins and ends at one second.
use Rattle.std.proofs.Common.{ap, int_div, pos, sym, ℤ, ◌+ℤ◌, ◌≡◌, ◌∙◌}
use Rattle.jiff.specs.Words.{picked_instant}
use Rattle.jiff_core.specs.declared.civil.datetime.DateTime.{DateTime}
use Rattle.jiff_tz.specs.declared.timezone.TimeZone.{TimeZone}
use Rattle.jiff_zoned.proofs.SameLemmas.{same_datetime}
use Rattle.room_http_time.specs.Days.{IsMidnight}
use Rattle.room_http_time.specs.Laws.{IsOneSpan}

midnight-one : (zone : TimeZone) (day second other : ℤ) → IsMidnight zone day second
    → IsMidnight zone day other → second ≡ other
midnight-one zone day second other (at, nanos, is) (there, nanos_there, is_other) =
    is
    ∙ ap (λ (d : DateTime). int_div (picked_instant zone d) (pos 1_000_000_000))
    (same_datetime at there (nanos ∙ sym nanos_there)) ∙ sym is_other

pub one_span_law : IsOneSpan
one_span_law zone day span other (from, to) (other_from, other_to) =
    let first = midnight-one zone day _ _ from other_from in
    let last = midnight-one zone (day +ℤ pos 1) _ _ to other_to in
    λ i. (first i, last i)
