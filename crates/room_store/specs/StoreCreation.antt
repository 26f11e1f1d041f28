-- A room that begins: what its tables stand for, and why it may not begin.
use Rattle.std.specs.List.{list_all}
use Rattle.std.specs.Prelude.{Bool, List, [], false, not, true, ◌&&◌, ◌≡◌, ◌≢◌, ◌∷◌}
use Rattle.sqlite_schema.specs.declared.schema.Schema.{Schema}
use Rattle.room_place.specs.Plans.{Layout, has_division}
use Rattle.room_place.specs.declared.plans.Area.{Area}
use Rattle.room_types.specs.declared.asks.Who.{Who}
use Rattle.room_types.specs.declared.asks.Who.TheVariants.{Crew, Desk, Position}
use Rattle.room_types.specs.declared.fleet.Terminal.{Terminal}
use Rattle.room_tables_schema.specs.Schema.{no_schema}
use Rattle.room_tables_schema.specs.declared.database_faults.Fault.{Fault}
use Rattle.room_tables_schema.specs.declared.database_faults.Fault.TheVariants as fault
use Rattle.room_store_writes.specs.TerminalHolders.{has_token}
use Rattle.room_store.specs.declared.store_creation.CreateFault.{CreateFault}
use Rattle.room_store.specs.declared.store_creation.CreateFault.TheVariants.{BadTerminal, Memory}
use Rattle.room_store.specs.declared.store_creation.CreateFault.TheVariants.{NotEmpty, Storage}

-- a new room has no vehicle, so it has no crew's terminal; a desk's division is in the plan
abbrev pub may_use : List Area → Who → Bool
may_use areas (Position p) = true
may_use areas (Desk d) = has_division areas d
may_use areas (Crew c) = false

-- no two terminals have one token
abbrev pub have_own_tokens : List Terminal → Bool
have_own_tokens [] = true
have_own_tokens (t ∷ ts) = not (has_token t.token ts) && have_own_tokens ts

-- the terminals that a new room may have
pub record AreNewTerminals (plan : Layout) (ts : List Terminal) : Type 0 where
  pub users : list_all (λ t. may_use plan.areas t.who) ts ≡ true
  pub tokens : have_own_tokens ts ≡ true

-- a room may begin in a file that has nothing, with such terminals
pub record MayBegin (schema : Schema) (plan : Layout) (ts : List Terminal) : Type 0 where
  pub empty : schema ≡ no_schema
  pub terminals : AreNewTerminals plan ts

-- the file is reported first, then the terminals, and a failing machine only where a room may begin
abbrev pub Explains : Schema → Layout → List Terminal → CreateFault → Type 0
Explains schema plan ts NotEmpty = schema ≢ no_schema
Explains schema plan ts BadTerminal = (schema ≡ no_schema) × (¬ AreNewTerminals plan ts)
Explains schema plan ts Memory = MayBegin schema plan ts
Explains schema plan ts Storage = MayBegin schema plan ts

-- how a failing machine is reported
abbrev pub create_fault : Fault → CreateFault
create_fault fault.Memory = Memory
create_fault fault.Storage = Storage
