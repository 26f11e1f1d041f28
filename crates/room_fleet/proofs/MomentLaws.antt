-- A turn keeps the moments that it has.
use Rattle.std.proofs.Common.{None, Option, Some, refl, ℕ}
use Rattle.std.specs.Prelude.{option_map}
use Rattle.room_types.specs.declared.codes.Button.{Button}
use Rattle.room_types.specs.declared.codes.Button.TheVariants.{Home, Hospital, Leave, Mobile}
use Rattle.room_types.specs.declared.codes.Button.TheVariants.{Position, Return, Scene}
use Rattle.room_types.specs.declared.tables.Turn.{Turn}
use Rattle.room_model.specs.Moments.{first_of}
use Rattle.room_model.specs.Reports.{turn_after}
use Rattle.room_fleet.specs.ReportedRows.{KeepsMoments, Stays, TurnKeepsMoments}

stays : (m : Option ℕ) → Stays m m
stays None = tt
stays (Some at) = refl

first_stays : (m : Option ℕ) (at : ℕ) → Stays m (first_of m at)
first_stays None at = tt
first_stays (Some t) at = refl

keeps : (b : Button) (at : ℕ) (t : Turn) → KeepsMoments t (turn_after b at t)
keeps Position at t = search stays
keeps Mobile at t = search (stays, first_stays)
keeps Scene at t = search (stays, first_stays)
keeps Leave at t = search (stays, first_stays)
keeps Hospital at t = search (stays, first_stays)
keeps Return at t = search stays
keeps Home at t = search stays

pub same_turn_keeps : (t : Option Turn) → TurnKeepsMoments t t
same_turn_keeps None = refl
same_turn_keeps (Some t) = search stays

pub turn_keeps : (b : Button) (at : ℕ) (t : Option Turn)
    → TurnKeepsMoments t (option_map (turn_after b at) t)
turn_keeps b at None = refl
turn_keeps b at (Some t) = keeps b at t
