-- Lemmas: the order by nearness (`Nearness`) is total, and only equal ones tie.
use Rattle.std.proofs.Common.{ap, ℕ}
use Rattle.std.proofs.lemmas.Cmp.{nat_cmp_total, on_total, then_total}
use Rattle.std.proofs.lemmas.Map.Lookups.{CmpEqualImpliesEq, exact_pairs, exact_unsigned}
use Rattle.std.specs.Cmp.{IsTotalOrder}
use Rattle.std.specs.Ordering.{nat_cmp}
use Rattle.room_types.specs.Keys.{callsign_cmp}
use Rattle.room_types.specs.KeyLemmas.{callsigns_total, exact_callsigns}
use Rattle.room_types.specs.Texts.{Callsign}
use Rattle.room_alloc.specs.Nearness.{nearness_cmp}
use Rattle.room_alloc.specs.declared.nearness.Nearness.{Nearness}

pub nearness_total : IsTotalOrder nearness_cmp
nearness_total = then_total (on_total (λ (n : Nearness). n.distance) nat_cmp_total)
    (on_total (λ (n : Nearness). n.callsign) callsigns_total)

pub exact_nearness : CmpEqualImpliesEq nearness_cmp
exact_nearness a b h =
    ap (λ (p : ℕ × Callsign). record { distance = p.0; callsign = p.1 })
    (exact_pairs nat_cmp callsign_cmp exact_unsigned exact_callsigns (a.distance, a.callsign)
    (b.distance, b.callsign) h)
