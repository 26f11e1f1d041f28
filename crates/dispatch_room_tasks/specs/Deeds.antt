-- What may change a room: its deeds, one after another, and what its file holds then.
use Rattle.std.specs.Prelude.{Bool, Err, List, None, Option, Some, [], cond, is_none, length, suc}
use Rattle.std.specs.Prelude.{true, zero, ℕ, ◌&&◌, ◌∷◌, ◌≡◌, ◌⊎◌}
use Rattle.room_place.specs.declared.plans.Area.{Area}
use Rattle.room_types.specs.Texts.{Token}
use Rattle.room_types.specs.declared.asks.Event.{Event}
use Rattle.room_types.specs.declared.asks.Who.{Who}
use Rattle.room_types.specs.declared.fleet.FleetRow.{FleetRow}
use Rattle.room_types.specs.declared.fleet.RowFate.TheVariants.{Refused}
use Rattle.room_types.specs.declared.fleet.Terminal.{Terminal}
use Rattle.room_types.specs.declared.refusal_statuses.Refusal.{Refusal}
use Rattle.room_model.specs.Events.{IsNumbered}
use Rattle.room_model.specs.FleetRows.{AreTerminals, fate_of, room_enrolled, terminals_enrolled}
use Rattle.room_model.specs.Room.{Room}
use Rattle.room_model.specs.RoomAgreements.{IsWellFormed}
use Rattle.room_model.specs.Step.{IsAddressed, answer_to, room_after}
use Rattle.room_tables_rows.specs.RoomsInTables.{Configuration}
use Rattle.room_store_writes.specs.Configurations.{config_of}
use Rattle.room_store_writes.specs.TerminalChanges.{config_by, fault_in}
use Rattle.room_store_writes.specs.declared.change_faults.ChangeFault.{ChangeFault}
use Rattle.dispatch_room_csv.specs.declared.plan_file.PlanFile.{PlanFile}
use Rattle.dispatch_room_tasks.specs.ReplacedTerminals.{AreFree, config_replaced, fault_at}
use Rattle.dispatch_room_tasks.specs.ReplacedTerminals.{replaced_by}
use Rattle.dispatch_room_tasks.specs.ReplannedRoom.{first_lacking, replanned}

-- what a file holds: the zone of its room's days, its terminals, and the room with its plan
pub record Contents : Type 0 where
  pub config : Configuration
  pub room : Room

-- A deed: a message reached the room; a fleet's row was enrolled; a desk, position or crew got only
-- this token, or none; all that a list names got the terminals that it gives them; the room got the
-- plan of a file, and its terminals.
pub data Deed : Type 0 where
  Sent : Event → Deed
  Enrolled : FleetRow → Deed
  Given : Who → Option Token → Deed
  Listed : List Terminal → Deed
  Planned : PlanFile → Deed

-- whether no row before this place of a list is refused
abbrev pub are_free : List Area → List Terminal → List Terminal → ℕ → Bool
are_free areas ts listed zero = true
are_free areas ts listed (suc n) =
    are_free areas ts listed n && is_none (fault_at areas ts listed n)

-- what a file holds once its room got another plan
abbrev pub contents_planned : PlanFile → Contents → Contents
contents_planned file now = record {
  config = config_of file.plan (replaced_by file.terminals.items now.config.terminals);
  room = replanned file.plan.areas now.room;
}

-- what a file holds after a deed: where it is refused, what it held
abbrev pub contents_by : Deed → Contents → Contents
contents_by (Sent e) now = record now { room = room_after e now.room }
contents_by (Enrolled row) now = record {
  config = record now.config {
    terminals = terminals_enrolled now.room now.config.terminals row;
  };
  room = room_enrolled now.room now.config.terminals row;
}
contents_by (Given who token) now =
    cond (is_none (fault_in now.room.plan now.config.terminals who token))
    (record now { config = config_by who token now.config }) now
contents_by (Listed listed) now =
    cond (are_free now.room.plan now.config.terminals listed (length listed))
    (record now { config = config_replaced listed now.config }) now
contents_by (Planned file) now =
    cond (is_none (first_lacking now.room.plan file.plan.areas)
    && are_free file.plan.areas now.config.terminals file.terminals.items
    (length file.terminals.items))
    (contents_planned file now) now

-- after deeds, one after another
abbrev pub contents_after : List Deed → Contents → Contents
contents_after [] now = now
contents_after (deed ∷ deeds) now = contents_after deeds (contents_by deed now)

-- the room answers the message by a refusal, or the row, the terminals or the plan are refused
abbrev pub IsRefused : Deed → Contents → Type 0
IsRefused (Sent e) now = (why : Refusal) × (answer_to e now.room ≡ Err why)
IsRefused (Enrolled row) now =
    (why : Refusal) × (fate_of now.room now.config.terminals row ≡ Refused why)
IsRefused (Given who token) now =
    (why : ChangeFault) × (fault_in now.room.plan now.config.terminals who token ≡ Some why)
IsRefused (Listed listed) now =
    ¬ AreFree now.room.plan now.config.terminals listed (length listed)
IsRefused (Planned file) now =
    ((d : ℕ) × (first_lacking now.room.plan file.plan.areas ≡ Some d))
    ⊎ (¬ AreFree file.plan.areas now.config.terminals file.terminals.items
    (length file.terminals.items))

-- a message is of someone whom the room knows
abbrev pub IsHeard : Deed → Contents → Type 0
IsHeard (Sent e) now = IsAddressed e now.room × IsNumbered e.ask
IsHeard deed now = Unit {0}

-- each of these is, where it comes
abbrev pub AreHeard : List Deed → Contents → Type 0
AreHeard [] now = Unit {0}
AreHeard (deed ∷ deeds) now = IsHeard deed now × AreHeard deeds (contents_by deed now)

-- the room is well-formed, and the terminals fit it
pub record AreSound (now : Contents) : Type 0 where
  pub formed : IsWellFormed now.room
  pub fits : AreTerminals now.room now.config.terminals
