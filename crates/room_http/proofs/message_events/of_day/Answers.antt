use Rattle.std.proofs.Common.{refl, pos, w64, ◌+ℤ◌}
use Rattle.std.proofs.lemmas.Int.{to_z-of_z}
use Rattle.jiff_core.specs.Calendar.{days_from_civil}
use Rattle.room_http_time.proofs.DayLemmas.{inner_days, midnight_fits}
use Rattle.room_http_time.specs.Days.{zone_of}
use Rattle.room_http.proofs.message_events.of_day.Goals as goal

pub returns : goal.returns
returns c =
    let zone = zone_of c.args.setting.now.zone in
    let day = days_from_civil (pos c.year.result) c.month.result c.day.result in
    let span = (rw c.unwrap-from.ensures at c.day-2.ensures.span) in
    let found = (rw c.unwrap-from.ensures at c.day-2.ensures.found) in
    let inner = inner_days day c.year.result c.month.result c.day.result refl (found.0 refl) in
    let from = midnight_fits zone day c.unwrap-from.result.0 span.0 inner.0 in
    let to = midnight_fits zone (day +ℤ pos 1) c.unwrap-from.result.1 span.1 inner.1 in (
      c.unwrap-from.result,
      rw (c.year.ensures.value, c.month.ensures.value, c.day.ensures.value) at span,
      rw (to_z-of_z w64 c.unwrap-from.result.0 from, to_z-of_z w64 c.unwrap-from.result.1 to) at c.between.ensures,
    )
