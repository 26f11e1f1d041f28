-- The rules of a plan's file, and which row breaks one first.
use Rattle.std.specs.Cmp.Lexicographic.{slice_cmp}
use Rattle.std.specs.List.{list_any}
use Rattle.std.specs.Ordering.{is_eq, nat_cmp}
use Rattle.std.specs.Prelude.{◌≡◌, ◌<◌, ℕ, List, length, take, slice_index_or, filter, Bool, true}
use Rattle.std.specs.Prelude.{false, not, nat_le, ◌==◌, ◌&&◌, ◌||◌, is_some, Option, Some, None}
use Rattle.jiff.specs.Words.{read_whole}
use Rattle.room_place.specs.Plans.{is_division, is_rectangle, is_zone, most_areas}
use Rattle.room_place.specs.declared.plans.Area.{Area}
use Rattle.room_types.specs.Texts.{Token}
use Rattle.room_types.specs.declared.asks.Who.{Who}
use Rattle.room_types.specs.declared.asks.Who.TheVariants.{Desk, Crew, Position}
use Rattle.dispatch_room_csv.specs.declared.plan_lines.PlanLine.{PlanLine}
use Rattle.dispatch_room_csv.specs.declared.plan_lines.PlanLine.TheVariants as line

-- a row for the zone, of its form or not
abbrev pub is_zone_line : PlanLine → Bool
is_zone_line (line.Zone rule) = true
is_zone_line line.BadZone = true
is_zone_line other = false

-- a row for an area, of its form or not
abbrev pub is_area_line : PlanLine → Bool
is_area_line (line.Area area) = true
is_area_line (line.BadArea division) = true
is_area_line other = false

abbrev pub is_number : ℕ → Option ℕ → Bool
is_number n None = false
is_number n (Some m) = m == n

-- a row for an area of the division, of its form or not
abbrev pub is_area_of : ℕ → PlanLine → Bool
is_area_of division (line.Area area) = area.division == division
is_area_of division (line.BadArea named) = is_number division named
is_area_of division other = false

abbrev pub has_token : Token → PlanLine → Bool
has_token token (line.Terminal terminal) = is_eq (slice_cmp nat_cmp terminal.token token)
has_token token other = false

abbrev pub area_count : List PlanLine → ℕ
area_count lines = length (filter is_area_line lines)

-- there are a zone and areas, and not too many of these; rows that break a rule count too
abbrev pub has_zone_and_areas : List PlanLine → Bool
has_zone_and_areas lines =
    list_any is_zone_line lines && (nat_le 1 (area_count lines)
    && nat_le (area_count lines) most_areas)

-- a plan can have the zone, and the zone can be read
abbrev pub is_rule : List ℕ → Bool
is_rule text = is_zone text && is_some (read_whole text)

abbrev pub is_sound : Area → Bool
is_sound area = is_division area.division && is_rectangle area.rect

-- a desk's division has an area; other terminals need none
abbrev pub has_area : List PlanLine → Who → Bool
has_area lines (Desk division) = list_any (is_area_of division) lines
has_area lines (Crew callsign) = true
has_area lines (Position number) = true

-- a row breaks a rule, seen beside all rows and those before it
abbrev pub is_refused : List PlanLine → List PlanLine → PlanLine → Bool
is_refused lines earlier (line.Zone rule) = not (is_rule rule) || list_any is_zone_line earlier
is_refused lines earlier (line.Area area) = not (is_sound area)
is_refused lines earlier (line.Terminal terminal) =
    not (has_area lines terminal.who) || list_any (has_token terminal.token) earlier
is_refused lines earlier line.BadZone = true
is_refused lines earlier (line.BadArea division) = true
is_refused lines earlier line.Bad = true

-- the row at a place breaks a rule; places are counted from 0
abbrev pub is_refused_at : List PlanLine → ℕ → Bool
is_refused_at lines at = is_refused lines (take at lines) (slice_index_or lines at line.Bad)

-- no row before the place breaks a rule
abbrev pub AreKept : List PlanLine → ℕ → Type 0
AreKept lines n = (at : ℕ) → at < n → is_refused_at lines at ≡ false

-- the first row that breaks a rule
pub record IsFirstRefused (lines : List PlanLine) (at : ℕ) : Type 0 where
  pub there : at < length lines
  pub refused : is_refused_at lines at ≡ true
  pub earlier : AreKept lines at
