use Rattle.std.proofs.Common.{FitsSigned, ap, arith, int_div, pos, w64, ℤ, ◌∙◌}
use Rattle.std.proofs.lemmas.Int.{to_z-of_z}
use Rattle.jiff.specs.Words.{ambiguous_at, compatible_offset, epoch_day}
use Rattle.jiff_core.specs.declared.timestamp.Timestamp.{Timestamp}
use Rattle.jiff_core.proofs.SignedLemmas.{signed_arith}
use Rattle.room_http_time.specs.Days.{zone_of}
use Rattle.room_http_time.proofs.DayLemmas.{civil_nanos-midnight, midnight_is_instant}
use Rattle.room_http_time.proofs.zones.Zone.midnight.Goals as goal

pub unwrap-requires : goal.unwrap-requires
unwrap-requires c =
    let zoned = rw c.from_plain-zone.ensures at c.to_zoned.ensures in
    let offset = compatible_offset (ambiguous_at (zone_of c.args.self.now) zoned.0) in
    zoned.3.succeeds.1 (midnight_is_instant zoned.0 offset (epoch_day c.args.date)
    (civil_nanos-midnight zoned.0 c.args.date zoned.1 zoned.2) c.requires)

pub returns : goal.returns
returns c =
    let zoned = rw c.from_plain-zone.ensures at c.to_zoned.ensures in
    let instant = rw c.unwrap.ensures at zoned.3.value in
    let fits : FitsSigned w64 c.as_second.result = let r = c.as_second.type_inv in omega (arith, signed_arith, r) in (
      zoned.0,
      civil_nanos-midnight zoned.0 c.args.date zoned.1 zoned.2,
      rw (to_z-of_z w64 c.as_second.result fits)
          (c.as_second.ensures
          ∙ ap (λ (n : ℤ). int_div n (pos 1_000_000_000))
          (ap (λ (t : Timestamp). t.nanosecond) c.timestamp.ensures ∙ instant)),
    )
