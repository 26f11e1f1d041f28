-- What the statuses of vehicles and what incidents lack imply.
use Rattle.std.proofs.Common.{◌≡◌, ◌-◌, ℕ, true, false, refl, arith, ◌==◌}
use Rattle.std.specs.Prelude.{nat_le}
use Rattle.room_types.specs.Codes.{is_busy, is_free}
use Rattle.room_types.specs.declared.codes.Status.TheVariants.{AtHospital, AtScene, Available}
use Rattle.room_types.specs.declared.codes.Status.TheVariants.{Leaving, Mobilised, OffDuty, Offered}
use Rattle.room_types.specs.declared.codes.Status.TheVariants.{Returning}
use Rattle.room_types.specs.declared.codes.Status.{Status}

pub free_idle : (s : Status) → is_free s ≡ true → is_busy s ≡ false
free_idle OffDuty e = refl
free_idle Available e = refl
free_idle Mobilised e = cc
free_idle AtScene e = cc
free_idle Leaving e = cc
free_idle AtHospital e = cc
free_idle Returning e = refl
free_idle Offered e = refl

-- nothing is lacking where as many were got
pub met : (need got lack : ℕ) → lack ≡ need - got → (lack == 0) ≡ nat_le need got
met need got lack e = grind (arith, e)
