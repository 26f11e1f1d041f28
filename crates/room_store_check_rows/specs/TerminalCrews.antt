-- The crews among terminals, and whether a terminal's subject is there, as tests; and what a search
-- reports of them.
use Rattle.std.specs.BTreeSet.{BTreeSet, btree_set_len, contains}
use Rattle.std.specs.List.{filter_map, list_all, list_any}
use Rattle.std.specs.Option.{option_or}
use Rattle.std.specs.Prelude.{Bool, List, None, Option, Some, [], cond, length, not, true, ◌&&◌}
use Rattle.std.specs.Prelude.{◌==◌, ◌∷◌}
use Rattle.room_place.specs.Plans.{has_division}
use Rattle.room_place.specs.declared.plans.Area.{Area}
use Rattle.room_types.specs.Keys.{callsign_cmp}
use Rattle.room_types.specs.Texts.{Callsign}
use Rattle.room_types.specs.declared.asks.Who.TheVariants.{Crew, Desk, Position}
use Rattle.room_types.specs.declared.asks.Who.{Who}
use Rattle.room_types.specs.declared.fleet.Terminal.{Terminal}
use Rattle.room_types.specs.declared.slices.DivisionRows.{DivisionRows}
use Rattle.room_types.specs.declared.tables.Vehicle.{Vehicle}
use Rattle.room_model.specs.FleetRows.{is_crew}
use Rattle.room_store_check_rows.specs.declared.disagreements.TerminalFault.{TerminalFault}
use Rattle.room_store_check_rows.specs.declared.disagreements.TerminalFault.TheVariants as wrong
use Rattle.room_store_check_rows.specs.FirstFaults.{first_of, unless}
use Rattle.room_store_check_rows.specs.RowTests.{has_vehicle}

-- the vehicle whose crew it is
abbrev pub crew_of : Who → Option Callsign
crew_of (Crew c) = Some c
crew_of (Desk d) = None
crew_of (Position p) = None

-- the vehicles of all crews
abbrev pub crews_of : List Terminal → List Callsign
crews_of ts = filter_map (λ t. crew_of t.who) ts

-- a crew's vehicle is there, and a desk's division is in the plan
abbrev pub has_subject : List Area → DivisionRows → Who → Bool
has_subject plan s (Crew c) = has_vehicle s c
has_subject plan s (Desk d) = has_division plan d
has_subject plan s (Position p) = true

-- as many vehicles as crews, each vehicle among them, and no subject missing
abbrev pub crews_fit : List Area → DivisionRows → List Terminal → BTreeSet Callsign → Bool
crews_fit plan s ts crews =
    btree_set_len crews == length (crews_of ts)
    && (list_all (λ v. contains callsign_cmp crews v.callsign) s.vehicles
    && list_all (λ t. has_subject plan s t.who) ts)

-- ---- the first of these that fails, and where
-- a later terminal is of the same vehicle's crew
abbrev pub crew_again : Who → List Terminal → Option TerminalFault
crew_again (Crew c) ts = unless (not (list_any (λ t. is_crew c t.who) ts)) (wrong.TwoCrews c)
crew_again (Desk d) ts = None
crew_again (Position p) ts = None

abbrev pub second_crew : List Terminal → Option TerminalFault
second_crew [] = None
second_crew (t ∷ ts) = option_or (crew_again t.who ts) (second_crew ts)

abbrev pub two_crews : List Terminal → BTreeSet Callsign → Option TerminalFault
two_crews ts crews = cond (btree_set_len crews == length (crews_of ts)) None (second_crew ts)

abbrev pub uncrewed : BTreeSet Callsign → Vehicle → Option TerminalFault
uncrewed crews v = unless (contains callsign_cmp crews v.callsign) (wrong.NoCrew v.callsign)

abbrev pub subject_fault : List Area → DivisionRows → Who → Option TerminalFault
subject_fault plan s (Crew c) = unless (has_vehicle s c) (wrong.Crew c)
subject_fault plan s (Desk d) = unless (has_division plan d) (wrong.Desk d)
subject_fault plan s (Position p) = None

abbrev pub terminals_fault : List Area → DivisionRows → List Terminal → BTreeSet Callsign
    → Option TerminalFault
terminals_fault plan s ts crews = option_or (option_or
    (two_crews ts crews)
    (first_of (uncrewed crews) s.vehicles))
    (first_of (λ t. subject_fault plan s t.who) ts)
