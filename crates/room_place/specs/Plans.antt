-- The areas of divisions, and what makes a plan of them.
use Rattle.std.specs.List.{list_all, list_any}
use Rattle.std.specs.Prelude.{Bool, List, None, Option, Some, filter, if◌then◌else◌, is_none}
use Rattle.std.specs.Prelude.{length, map, nat_le, nat_lt, not, true, ℕ, ◌&&◌, ◌==◌, ◌≡◌}
use Rattle.room_place.specs.Choice.{least}
use Rattle.room_place.specs.Squares.{is_in_squares}
use Rattle.room_place.specs.declared.places.Place.{Place}
use Rattle.room_place.specs.declared.plans.Area.{Area}
use Rattle.room_place.specs.declared.plans.PlanFault.{PlanFault}
use Rattle.room_place.specs.declared.plans.PlanFault.TheVariants.{Count, Memory, Number, Rectangle}
use Rattle.room_place.specs.declared.plans.PlanFault.TheVariants.{Zone}
use Rattle.room_place.specs.declared.plans.Rect.{Rect}

-- a rectangle has the places on its edges too
abbrev pub has_place : Place → Rect → Bool
has_place p r = nat_le r.west p.east
    && (nat_le p.east r.east && (nat_le r.south p.north && nat_le p.north r.north))

-- the divisions of the areas that have the place
abbrev pub divisions_with : Place → List Area → List ℕ
divisions_with p areas = map (λ a. a.division) (filter (λ a. has_place p a.rect) areas)

-- the lowest division whose area has the place
unfoldable pub division_of : List Area → Place → Option ℕ
division_of areas p = least nat_lt (divisions_with p areas)

-- some area is of the division
abbrev pub has_division : List Area → ℕ → Bool
has_division areas d = list_any (λ a. a.division == d) areas

-- divisions are numbered 1 to 9
abbrev pub is_division : ℕ → Bool
is_division d = nat_le 1 d && nat_le d 9

-- west not above east, south not above north, and the corners in the squares
abbrev pub is_rectangle : Rect → Bool
is_rectangle r = nat_le r.west r.east
    && (nat_le r.south r.north && (is_in_squares r.west r.south && is_in_squares r.east r.north))

abbrev pub is_ascii : List ℕ → Bool
is_ascii bs = list_all (λ b. nat_lt b 128) bs

-- a plan has at most so many areas
abbrev pub most_areas : ℕ
most_areas = 64

-- its zone is at most so many bytes long
abbrev pub longest_zone : ℕ
longest_zone = 64

-- one area at least, and not too many
abbrev pub has_sound_count : List Area → Bool
has_sound_count areas = nat_le 1 (length areas) && nat_le (length areas) most_areas

-- each area is of a division
abbrev pub are_of_divisions : List Area → Bool
are_of_divisions areas = list_all (λ a. is_division a.division) areas

-- each area is such a rectangle
abbrev pub are_rectangles : List Area → Bool
are_rectangles areas = list_all (λ a. is_rectangle a.rect) areas

-- one byte at least, not too many, and all ASCII
abbrev pub is_zone : List ℕ → Bool
is_zone zone = nat_le 1 (length zone) && (nat_le (length zone) longest_zone && is_ascii zone)

-- the first fault of a plan, each tested over the whole list before the next
abbrev pub plan_fault : List Area → List ℕ → Option PlanFault
plan_fault areas zone =
    if not (has_sound_count areas) then Some Count else
    (if not (are_of_divisions areas) then Some Number else
    (if not (are_rectangles areas) then Some Rectangle else
    (if not (is_zone zone) then Some Zone else None)))

-- areas and a zone without a fault
abbrev pub is_plan : List Area → List ℕ → Bool
is_plan areas zone = is_none (plan_fault areas zone)

-- a plan: areas and the bytes of a zone, without a fault
pub record Layout : Type 0 where
  pub areas : List Area
  pub zone : List ℕ
  pub sound : is_plan areas zone ≡ true

-- a plan is refused for its first fault, and for memory where it has none
abbrev pub Explains : List Area → List ℕ → PlanFault → Type 0
Explains areas zone Memory = plan_fault areas zone ≡ None
Explains areas zone fault = plan_fault areas zone ≡ Some fault
