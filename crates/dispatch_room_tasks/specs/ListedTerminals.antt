-- Who has a terminal in a room, and what is written of that.
use Rattle.std.specs.Io.KnownBytes.{Appends}
use Rattle.std.specs.List.{flat_map}
use Rattle.std.specs.Ordering.{nat_cmp}
use Rattle.std.specs.Prelude.{IfErr, IfOk, IsPermutation, IsSorted, List, OnOk, Option, Result}
use Rattle.std.specs.Prelude.{codes, decimal, map, ℕ, ◌++◌, ◌≡◌, ◌⊎◌}
use Rattle.std.specs.declared.cmp.Ordering.{Ordering}
use Rattle.std.specs.declared.cmp.Ordering.TheVariants.{Greater, Less}
use Rattle.sqlite.specs.Held.{Held, state}
use Rattle.sqlite.specs.State.{Survives}
use Rattle.sqlite_trees.specs.declared.store.Store.{Ghosts}
use Rattle.room_place.specs.Plans.{Layout}
use Rattle.room_types.specs.Keys.{callsign_cmp}
use Rattle.room_types.specs.declared.asks.Who.{Who}
use Rattle.room_types.specs.declared.asks.Who.TheVariants as who
use Rattle.room_types.specs.declared.fleet.Terminal.{Terminal}
use Rattle.room_model.specs.FleetRows.{AreTerminals}
use Rattle.room_model.specs.Room.{Room}
use Rattle.room_tables.specs.RoomsInTables.{Stands}
use Rattle.room_store_writes.specs.Configurations.{config_of}
use Rattle.room_store_writes.specs.Transactions.{Leaves}
use Rattle.room_store_file.specs.OpenedFile.{KeepsFile, MayBeIndexed}
use Rattle.dispatch_room_exit.specs.declared.exit_status.Done.{Done}
use Rattle.dispatch_room_exit.specs.declared.exit_status.Done.TheVariants.{Whole}
use Rattle.dispatch_room_exit.specs.declared.exit_status.Failure.{Failure}
use Rattle.dispatch_room_exit.specs.declared.exit_status.Failure.TheVariants.{Memory, Network}
use Rattle.dispatch_room_exit.specs.declared.exit_status.Failure.TheVariants.{Storage}
use Rattle.dispatch_room_tasks.specs.declared.listed_terminals.Listed.{Listed}
use Rattle.dispatch_room_tasks.specs.declared.listed_terminals.Listed.TheVariants.{Crew, Desk}
use Rattle.dispatch_room_tasks.specs.declared.listed_terminals.Listed.TheVariants.{Position}
use Rattle.room_tables_schema.specs.FileConnections.{IsClean}

abbrev pub listed_of : Who → Listed
listed_of (who.Desk d) = Desk d
listed_of (who.Position p) = Position p
listed_of (who.Crew c) = Crew c

abbrev pub line_text : Listed → List ℕ
line_text (Desk d) = codes "desk " ++ decimal d ++ codes "\n"
line_text (Position p) = codes "position " ++ decimal p ++ codes "\n"
line_text (Crew c) = codes "crew " ++ c ++ codes "\n"

abbrev pub lines_text : List Listed → List ℕ
lines_text listed = flat_map line_text listed

-- the desks first, then the positions, then the crews; each by number or by callsign
abbrev pub listed_cmp : Listed → Listed → Ordering
listed_cmp (Desk d) (Desk e) = nat_cmp d e
listed_cmp (Desk d) other = Less
listed_cmp (Position p) (Desk d) = Greater
listed_cmp (Position p) (Position q) = nat_cmp p q
listed_cmp (Position p) (Crew c) = Less
listed_cmp (Crew c) (Crew e) = callsign_cmp c e
listed_cmp (Crew c) other = Greater

-- each terminal is listed once, in this order
abbrev pub IsListing : List Terminal → List Listed → Type 0
IsListing ts listed =
    IsPermutation (map (λ t. listed_of t.who) ts) listed × IsSorted listed_cmp listed

-- a line of each of these terminals is written, in order, and nothing else
abbrev pub Prints : List Terminal → Option (List ℕ) → Option (List ℕ) → Type 0
Prints ts before after =
    (listed : List Listed) × IsListing ts listed × Appends before after (lines_text listed)

-- memory, storage or the output fails
abbrev pub IsMachines : Failure → Type 0
IsMachines fault = (fault ≡ Memory) ⊎ (fault ≡ Storage) ⊎ (fault ≡ Network)

-- The file of a database was opened, which keeps all of its rows, and nothing is written to it. It
-- is listed who has the terminals of its room, unless something fails.
pub record HasListed {S : Type 0} (g : Ghosts S) (old new : Held S)
    (before after : Option (List ℕ)) (done : Result Done Failure) : Type 0 where
  pub plan : Layout
  pub opened : Held S
  pub rows : IsClean g opened → KeepsFile (state g old) (state g opened)
  pub whole : IfOk done (λ it. it ≡ Whole)
  pub fault : IfErr done IsMachines
  pub printed : IsClean g new
      → OnOk done ((terminals : List Terminal) × (room : Room) × AreTerminals room terminals
      × Stands (state g opened).now.trees (config_of plan terminals) room
      × Prints terminals before after)
  pub left : IsClean g new → Leaves (state g opened) (state g new)
  pub opening : Survives (state g old) (state g opened) (MayBeIndexed (state g old).now)
  pub survives : Survives (state g opened) (state g new) (λ _. ⊥)
