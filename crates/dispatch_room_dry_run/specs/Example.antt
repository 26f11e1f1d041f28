-- The example room: its plan, its terminals, its fleet, where it begins, and what a connection to
-- it is served.
use Rattle.std.specs.Prelude.{◌≡◌, ℕ, Bool, false, List, [], ◌∷◌, codes, refl, ⊤}
use Rattle.room_place.specs.Plans.{Layout}
use Rattle.room_types.specs.declared.asks.Who.TheVariants.{Desk, Position}
use Rattle.room_types.specs.declared.codes.Kind.TheVariants.{Ambulance, Car}
use Rattle.room_types.specs.declared.fleet.FleetRow.{FleetRow}
use Rattle.room_types.specs.declared.fleet.Terminal.{Terminal}
use Rattle.room_model.specs.Room.{Room}
use Rattle.room_http.specs.Settings.{IsSetting}
use Rattle.room_http.specs.declared.settings.HttpSettings.{HttpSettings}
use Rattle.room_model.specs.Rooms.{machine}
use Rattle.room_store_writes.specs.NewRoom.{in_order, new_room}
use Rattle.room_store.specs.FleetEnrolment.{room_after_rows, terminals_after_rows}
use Rattle.room_http.specs.ServedTrace.{ServedTrace}
use Rattle.room_http.specs.Session.{Finish, ServeIs, Sides}
use Rattle.room_http.specs.declared.session.ServeEnd.{ServeEnd}
use Rattle.dispatch_room_dry_run.specs.DryRun.{most_reads}

-- divisions 1 and 2, side by side, and the rule of the United Kingdom's time
abbrev pub example_plan : Layout
example_plan = record {
  areas =
      record {
        division = 1;
        rect = record {
          west = 500_000;
          south = 100_000;
          east =
              549_999;
          north = 199_999;
        };
      }
      ∷ record {
        division = 2;
        rect = record {
          west = 550_000;
          south = 100_000;
          east =
              599_999;
          north = 199_999;
        };
      }
      ∷ [];
  zone = codes "GMT0BST,M3.5.0/1,M10.5.0";
  sound = refl;
}

-- a desk for each division, and position 1
abbrev pub example_terminals : List Terminal
example_terminals =
    record { token = codes "deskone1"; who = Desk 1 }
    ∷ record { token = codes "desktwo2"; who = Desk 2 }
    ∷ record { token = codes "takerone"; who = Position 1 }
    ∷ []

-- three ambulances and a car of division 1, and an ambulance of division 2
abbrev pub example_fleet : List FleetRow
example_fleet =
    record {
      callsign = codes "A1";
      division = 1;
      kind = Ambulance;
      place =
          record { east = 530_300; north = 180_400 };
      token = codes "crewofa1";
    }
    ∷ record {
      callsign = codes "A2";
      division = 1;
      kind = Ambulance;
      place =
          record { east = 530_400; north = 180_300 };
      token = codes "crewofa2";
    }
    ∷ record {
      callsign = codes "A3";
      division = 1;
      kind = Ambulance;
      place =
          record { east = 530_000; north = 180_100 };
      token = codes "crewofa3";
    }
    ∷ record {
      callsign = codes "B1";
      division = 2;
      kind = Ambulance;
      place =
          record { east = 560_000; north = 180_000 };
      token = codes "crewofb1";
    }
    ∷ record {
      callsign = codes "C1";
      division = 1;
      kind = Car;
      place =
          record { east = 530_000; north = 180_000 };
      token = codes "crewofc1";
    }
    ∷ []

-- the new room of the plan, and then the rows of the fleet enrolled one after another
abbrev pub room_with_fleet : Room
room_with_fleet = room_after_rows example_fleet (new_room example_plan) (in_order example_terminals)

-- its terminals, those of the crews among them
abbrev pub terminals_with_crews : List Terminal
terminals_with_crews =
    terminals_after_rows example_fleet (new_room example_plan) (in_order example_terminals)

-- the example room: five vehicles off duty, no call and no incident
abbrev pub IsExample : List Terminal → Room → Type 0
IsExample terminals room = (terminals ≡ terminals_with_crews) × (room ≡ room_with_fleet)

-- the zone of its plan, and no history
abbrev pub IsExampleSetting : HttpSettings → Type 0
IsExampleSetting = IsSetting example_plan.zone false

-- of the room afterwards, and of what a stop leaves, nothing is stated
abbrev pub unstated : List Terminal → Room → Type 0
unstated terminals room = ⊤

-- what is written is the dialogue of the example room with the messages that are read, in so many
-- reads at most
abbrev pub IsExampleDialogue : Sides → Finish → ℕ → ServeEnd → Type 0
IsExampleDialogue old new budget end = (setting : HttpSettings) × IsExampleSetting setting
    × ((course : ServedTrace)
    × ServeIs machine setting old new ⊤ IsExample unstated (λ x. unstated) ⊤ course budget end)

-- the example room was served so, in as many reads as the dry run makes at most; how its clock was
-- left is given by how often it was asked
abbrev pub IsDryRun : Sides → (ℕ → Bool → Finish) → ServeEnd → Type 0
IsDryRun old new end =
    (count : ℕ) × (was_none : Bool) × IsExampleDialogue old (new count was_none) most_reads end
