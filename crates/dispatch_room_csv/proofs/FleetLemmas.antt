-- The kind of a number.
use Rattle.std.proofs.Common.{◌≡◌, ℕ, Option, Some, None, refl}
use Rattle.std.proofs.lemmas.Bool.{ne_eqb}
use Rattle.room_types.specs.Codes.{Decodes, kind_number}
use Rattle.room_types.specs.declared.codes.Kind.{Kind}
use Rattle.room_types.specs.declared.codes.Kind.TheVariants.{Ambulance, Car, Support}
use Rattle.dispatch_room_csv.specs.FleetFile.{kind_by}

-- the kind whose number it is
pub kind_found : (n : ℕ) (kind : Option Kind) → Decodes kind_number n kind → kind ≡ kind_by n
kind_found n (Some Ambulance) decodes = rw (← decodes.has_it) refl
kind_found n (Some Car) decodes = rw (← decodes.has_it) refl
kind_found n (Some Support) decodes = rw (← decodes.has_it) refl
kind_found n None decodes =
    rw (
      ne_eqb 1 n (λ e. cc (decodes.only_one Ambulance e)),
      ne_eqb 2 n (λ e. cc (decodes.only_one Car e)),
      ne_eqb 3 n (λ e. cc (decodes.only_one Support e)),
    ) refl
