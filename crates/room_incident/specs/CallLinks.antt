-- The incident that a call is linked to.
use Rattle.std.specs.Prelude.{Bool, List, None, Option, Some, false, nat_le, true, ℕ, ◌&&◌, ◌≡◌}
use Rattle.room_place.specs.Choice.{Among}
use Rattle.room_place.specs.Places.{distance}
use Rattle.room_place.specs.declared.places.Place.{Place}
use Rattle.room_types.specs.Codes.{is_active}
use Rattle.room_types.specs.declared.tables.Incident.{Incident}
use Rattle.room_model.specs.Moments.{age, link_metres, link_seconds}
use Rattle.room_model.specs.Queries.{is_candidate, is_nearer}

-- a candidate, whichever division's it is
abbrev pub is_open_near : Place → ℕ → Incident → Bool
is_open_near p at i =
    is_active i.state
    && (nat_le (distance i.place p) link_metres && nat_le (age at i.opened) link_seconds)

-- a candidate, and no candidate is nearer
pub record IsNearest (d : ℕ) (p : Place) (at : ℕ) (xs : List Incident) (t : Incident) : Type 0 where
  pub among : Among t xs
  pub candidate : is_candidate d p at t ≡ true
  pub nearest : (i : Incident) → Among i xs → is_candidate d p at i ≡ true
      → is_nearer p i t ≡ false

-- one of the candidates to which no other is preferred; none only where there is no candidate
abbrev pub IsLinkTarget : ℕ → Place → ℕ → List Incident → Option Incident → Type 0
IsLinkTarget d p at xs None = (i : Incident) → Among i xs → is_candidate d p at i ≡ false
IsLinkTarget d p at xs (Some t) = IsNearest d p at xs t
