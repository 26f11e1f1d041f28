-- What each row of a plan's file says, by its fields.
use Rattle.std.specs.Prelude.{ℕ, List, codes, length, Bool, bytes_eq, nat_le, ◌==◌, ◌&&◌}
use Rattle.std.specs.Prelude.{if◌then◌else◌, Option, Some, None, option_map, option_and_then}
use Rattle.room_place.specs.declared.plans.Rect.{Rect}
use Rattle.room_types.specs.declared.asks.Who.{Who}
use Rattle.room_types.specs.declared.asks.Who.TheVariants as who
use Rattle.room_types.specs.declared.fleet.Terminal.{Terminal}
use Rattle.dispatch_room_csv.specs.RowFields.{number_of, text_at, token_of, whole_of}
use Rattle.dispatch_room_csv.specs.Records.{Fields}
use Rattle.dispatch_room_csv.specs.declared.plan_lines.PlanLine.{PlanLine}
use Rattle.dispatch_room_csv.specs.declared.plan_lines.PlanLine.TheVariants as line

-- a field of a row is empty
abbrev pub is_empty_at : Fields → ℕ → Bool
is_empty_at row at = length (text_at row at) == 0

-- the last three fields are empty, of those that only areas use
abbrev pub has_unused : Fields → Bool
has_unused row = is_empty_at row 3 && (is_empty_at row 4 && is_empty_at row 5)

-- a text that is short enough for a zone's rule
abbrev pub rule_of : List ℕ → Option (List ℕ)
rule_of text = if nat_le (length text) 64 then Some text else None

-- the rule of a zone's row, whose number is 0
abbrev pub zone_of : Fields → Option (List ℕ)
zone_of row =
    option_and_then (λ number. if (number == 0)
    && has_unused row then rule_of (text_at row 2) else None) (number_of (text_at row 1))

abbrev pub zone_line : Option (List ℕ) → PlanLine
zone_line (Some rule) = line.Zone rule
zone_line None = line.BadZone

-- the rectangle of an area's row: west, south, east and north
abbrev pub rect_of : Fields → Option Rect
rect_of row =
    option_and_then (λ west. option_and_then
    (λ south. option_and_then (λ east. option_and_then (λ north.
    Some (record { west = west; south = south; east = east; north = north }))
    (number_of (text_at row 5))) (number_of (text_at row 4))) (number_of (text_at row 3)))
    (number_of (text_at row 2))

-- an area's row, by the number of its division and its rectangle
abbrev pub area_line : Option ℕ → Option Rect → PlanLine
area_line (Some division) (Some rect) = line.Area (record { division = division; rect = rect })
area_line (Some division) None = line.BadArea (Some division)
area_line None rect = line.BadArea None

-- the terminal of a desk or a position, with the token after its number
abbrev pub terminal_of : Option Who → Fields → Option Terminal
terminal_of who row =
    option_and_then (λ w. option_and_then (λ token.
    if has_unused row then Some (record { token = token; who = w }) else None)
    (token_of (text_at row 2))) who

abbrev pub terminal_line : Option Terminal → PlanLine
terminal_line (Some terminal) = line.Terminal terminal
terminal_line None = line.Bad

-- what a row says, by its first field
abbrev pub plan_line_of : Fields → PlanLine
plan_line_of row =
    if bytes_eq (text_at row 0) (codes "zone") then zone_line (zone_of row) else
    (if bytes_eq (text_at row 0) (codes "area") then area_line (number_of (text_at row 1))
    (rect_of row) else
    (if bytes_eq (text_at row 0) (codes "desk") then terminal_line
    (terminal_of (option_map who.Desk (whole_of 1 9 (text_at row 1))) row) else
    (if bytes_eq (text_at row 0) (codes "position") then terminal_line
    (terminal_of (option_map who.Position (whole_of 1 99 (text_at row 1))) row) else
    line.Bad)))
