use Rattle.std.proofs.Common.{ap, arith, pos, refl, w64, ℤ, ◌+ℤ◌, ◌∙◌}
use Rattle.std.proofs.lemmas.Int.{to_z-of_z}
use Rattle.jiff.specs.Words.{epoch_day}
use Rattle.jiff_core.proofs.SignedLemmas.{signed_arith}
use Rattle.room_http_time.specs.Days.{zone_of}
use Rattle.room_http_time.proofs.DayLemmas.{inner_days, midnight_fits}
use Rattle.room_http_time.proofs.zones.Zone.day.Goals as goal

pub unwrap-next-requires : goal.unwrap-next-requires
unwrap-next-requires c =
    let date = c.in_ok-date.ensures in
    let inner = inner_days (epoch_day c.in_ok-date.date) _ _ _ date.date (date.found.0 refl) in
    c.tomorrow.ensures.succeeds.1 (omega (arith, signed_arith, inner.0))

pub midnight-requires : goal.midnight-requires
midnight-requires c =
    let date = c.in_ok-date.ensures in
    (inner_days (epoch_day c.in_ok-date.date) _ _ _ date.date (date.found.0 refl)).0

pub midnight-requires-2 : goal.midnight-requires-2
midnight-requires-2 c =
    let date = c.in_ok-date.ensures in
    let next = rw c.unwrap-next.ensures at c.tomorrow.ensures.value in
    rw next (inner_days (epoch_day c.in_ok-date.date) _ _ _ date.date (date.found.0 refl)).1

pub returns-clause-span : goal.returns-clause-span
returns-clause-span c =
    let zone = zone_of c.args.self.now in
    let date = c.in_ok-date.ensures in
    let next = (rw c.unwrap-next.ensures at c.tomorrow.ensures.value) ∙ ap (λ (n : ℤ). n +ℤ pos 1) date.date in
    let inner = inner_days _ _ _ _ refl (date.found.0 refl) in
    let first = rw date.date at c.midnight.ensures in
    let second = rw next at c.midnight-2.ensures in
    let first_fits = midnight_fits zone _ _ first inner.0 in
    let second_fits = midnight_fits zone _ _ second inner.1 in
    rw (to_z-of_z w64 c.midnight.result first_fits, to_z-of_z w64 c.midnight-2.result second_fits) (first, second)
