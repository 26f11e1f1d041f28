-- What a slice's rows agree in, for one that decides on them.
use Rattle.std.proofs.Common.{false, ◌≡◌, ℕ, true, Some, None, subst}
use Rattle.std.specs.Prelude.{IfSome}
use Rattle.room_types.specs.Keys.{callsign_cmp, vehicle_key}
use Rattle.room_types.specs.KeyLemmas.{callsigns_total, exact_callsigns}
use Rattle.room_types.specs.Texts.{Callsign}
use Rattle.room_types.specs.SentVehicles.{PartsAgree}
use Rattle.room_types.specs.Codes.{is_busy}
use Rattle.room_types.specs.Slices.{IsShare, assignment_at, is_share, open_turn, vehicle_at}
use Rattle.room_types.specs.declared.slices.DivisionRows.{DivisionRows}
use Rattle.room_types.specs.declared.tables.Vehicle.{Vehicle}
use Rattle.room_types.proofs.EachRow.{row_key}
use Rattle.room_types.proofs.SentLaws as sent
use Rattle.room_types.proofs.ShareLaws.{share_agrees}

module _ (d : ℕ) (s : DivisionRows) (agrees : is_share d s ≡ true) where
  share : IsShare d s
  share = share_agrees d s agrees

  pub vehicle_named : (c : Callsign) (v : Vehicle) → vehicle_at c s ≡ Some v → v.callsign ≡ c
  vehicle_named c v e =
      subst (λ o. IfSome o (λ x. x.callsign ≡ c)) e
      (row_key callsign_cmp vehicle_key callsigns_total exact_callsigns s.vehicles c)

  -- ---- a vehicle that is there
  pub vehicle_parts : (c : Callsign) (v : Vehicle) → vehicle_at c s ≡ Some v
      → PartsAgree v (assignment_at c s) (open_turn v s)
  vehicle_parts c v e =
      subst (λ o. IfSome o (λ v. PartsAgree v (assignment_at c s) (open_turn v s))) e (share.vehicles c)

  pub idle_unassigned : (c : Callsign) (v : Vehicle) → vehicle_at c s ≡ Some v
      → is_busy v.status ≡ false → assignment_at c s ≡ None
  idle_unassigned c v e idle = sent.idle_apart v _ _ (vehicle_parts c v e) idle
