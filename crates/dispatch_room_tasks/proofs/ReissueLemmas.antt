-- A room whose terminals were changed is the same room.
use Rattle.std.proofs.Common.{List, None, Option, ◌≡◌}
use Rattle.sqlite_trees.specs.Tree.{Trees}
use Rattle.room_place.specs.Plans.{Layout}
use Rattle.room_types.specs.Texts.{Token}
use Rattle.room_types.specs.declared.asks.Who.{Who}
use Rattle.room_types.specs.declared.fleet.Terminal.{Terminal}
use Rattle.room_model.specs.Room.{Room}
use Rattle.room_store_check_tables.specs.HeldRooms.{IsPlanOf}
use Rattle.room_store_writes.proofs.FitLaws.{fit}
use Rattle.room_store_writes.specs.TerminalChanges.{Gives, fault_in}
use Rattle.room_store_writes.specs.Configurations.{config_of}
use Rattle.dispatch_room_tasks.specs.ChangedTerminals.{IsSameRoom}

pub same_room : (before after : Trees) (plan : Layout) (who : Who) (token : Option Token)
    (Settled : Type 0) → IsPlanOf before plan → Gives plan.areas who token before after × Settled
    → (terminals : List Terminal) × (room : Room)
    × IsSameRoom before after plan who token terminals room × Settled
same_room before after plan who token Settled it made =
    let done = made.0 (config_of plan it.0) it.1 it.5 in
    let nothing : fault_in it.1.plan it.0 who token ≡ None = rw it.4 done.0 in (
      it.0,
      it.1,
      record {
        formed = it.2;
        planned = it.4;
        fitted = it.3;
        stood = it.5;
        nothing_against = nothing;
        fit = fit it.1 it.0 it.3 who token nothing;
        stands = done.1;
      },
      made.1,
    )
