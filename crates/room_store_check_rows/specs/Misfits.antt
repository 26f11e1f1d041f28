-- What each fault of terminals says of them and their room.
use Rattle.std.specs.Prelude.{List, None, Option, Some, [], false, is_some, true, ◌≡◌, ◌∷◌, ◌⊎◌}
use Rattle.room_place.specs.Choice.{Among}
use Rattle.room_place.specs.Plans.{has_division}
use Rattle.room_types.specs.KeyedRows.{IsKeyed, row_at}
use Rattle.room_types.specs.Keys.{callsign_cmp, vehicle_key}
use Rattle.room_types.specs.Texts.{Callsign}
use Rattle.room_types.specs.declared.asks.Who.TheVariants.{Crew, Desk}
use Rattle.room_types.specs.declared.asks.Who.{Who}
use Rattle.room_types.specs.declared.fleet.Terminal.{Terminal}
use Rattle.room_model.specs.FleetRows.{AreTerminals, terminal_key, token_cmp}
use Rattle.room_model.specs.Room.{Room}
use Rattle.room_store_check_rows.specs.Disagreements.{IsOfNone}
use Rattle.room_store_check_rows.specs.declared.disagreements.TerminalFault.TheVariants as wrong
use Rattle.room_store_check_rows.specs.declared.disagreements.TerminalFault.{TerminalFault}

-- some terminal is of these
pub record HasTerminal (who : Who) (ts : List Terminal) : Type 0 where
  pub terminal : Terminal
  pub there : Among terminal ts
  pub is : terminal.who ≡ who

-- one terminal is the vehicle's crew's, and a later one
abbrev pub HasTwoCrews : Callsign → List Terminal → Type 0
HasTwoCrews c [] = ⊥
HasTwoCrews c (t ∷ ts) = ((t.who ≡ Crew c) × HasTerminal (Crew c) ts) ⊎ HasTwoCrews c ts

abbrev pub IsMisfit : Room → List Terminal → TerminalFault → Type 0
IsMisfit r ts wrong.Token = ¬ IsKeyed token_cmp terminal_key ts
IsMisfit r ts (wrong.TwoCrews c) = HasTwoCrews c ts
IsMisfit r ts (wrong.NoCrew c) =
    (is_some (row_at callsign_cmp vehicle_key r.vehicles c) ≡ true) × ¬ HasTerminal (Crew c) ts
IsMisfit r ts (wrong.Crew c) = HasTerminal (Crew c) ts × IsOfNone r c
IsMisfit r ts (wrong.Desk d) = HasTerminal (Desk d) ts × (has_division r.plan d ≡ false)

-- Nothing is reported of terminals that fit the room, and of others what holds of them.
abbrev pub DetectsOf : Room → List Terminal → Option TerminalFault → Type 0
DetectsOf r ts None = AreTerminals r ts
DetectsOf r ts (Some found) = IsMisfit r ts found × ¬ AreTerminals r ts
