-- What is done by the rows of a list when it is replayed. The head behind them decides: of a fleet,
-- as many rows are enrolled as lead to its digest, and any other change is made or not.
use Rattle.std.specs.Prelude.{Bool, Err, List, Ok, false, length, take, true, ℕ, ◌<◌, ◌≤◌, ◌≡◌, ◌⊎◌}
use Rattle.sqlite_trees.specs.declared.store.Store.{Ghosts}
use Rattle.room_types.specs.declared.refusal_statuses.Refusal.TheVariants as refusal
use Rattle.room_types.specs.declared.fleet.FleetRow.{FleetRow}
use Rattle.room_types.specs.declared.fleet.Terminal.{Terminal}
use Rattle.room_model.specs.Digests.{DigitsOf, IsHeadOf}
use Rattle.room_model.specs.Room.{Room}
use Rattle.room_model.specs.declared.digests.StartDigest.{StartDigest}
use Rattle.room_store.specs.FleetEnrolment.{room_after_rows, terminals_after_rows}
use Rattle.room_store.specs.StoredRoom.{IsRoom}
use Rattle.room_store.specs.declared.store.Store.{Store}
use Rattle.dispatch_room_csv.specs.FleetFile.{ExplainsFleet, IsFleetText}
use Rattle.dispatch_room_csv.specs.PlanFile.{ExplainsPlan}
use Rattle.dispatch_room_csv.specs.declared.fleet_file.FleetLine.{FleetLine}
use Rattle.dispatch_room_csv.specs.declared.fleet_file.FleetFileFault.TheVariants as fleet
use Rattle.dispatch_room_csv.specs.declared.plan_file.PlanFileFault.TheVariants as plan
use Rattle.dispatch_room_exit.specs.declared.exit_status.Failure.{Failure}
use Rattle.dispatch_room_exit.specs.declared.exit_status.Failure.TheVariants as failure
use Rattle.dispatch_room_journal.specs.ReplayFaults.{IsUnavailableFault}
use Rattle.dispatch_room_journal.specs.declared.replay_faults.ReplayFault.{ReplayFault}
use Rattle.dispatch_room_journal.specs.declared.replay_faults.ReplayFault.TheVariants.{Bad}
use Rattle.dispatch_room_journal.specs.declared.replay_faults.ReplayFault.TheVariants.{OtherRoom}
use Rattle.dispatch_room_journal.specs.declared.replay_faults.ReplayFault.TheVariants.{Unavailable}
use Rattle.dispatch_room_tasks.specs.RowOutcomes.{good_rows}
use Rattle.dispatch_room_lists.specs.RoomChanges.{IsNoTerminals, IsTextOf, LosesRoom, Remakes}
use Rattle.dispatch_room_lists.specs.StoodRooms.{Stays, digits_in}
use Rattle.dispatch_room_lists.specs.declared.listed_changes.ListedChange.{ListedChange}
use Rattle.dispatch_room_lists.specs.declared.listed_changes.ListedChange.TheVariants.{Change}
use Rattle.dispatch_room_lists.specs.declared.listed_changes.ListedChange.TheVariants.{Fleet}
use Rattle.dispatch_room_lists.specs.declared.room_changes.RoomChange.{RoomChange}
use Rattle.room_tables_schema.specs.FileConnections.{IsClean}

-- ---- what a text is
-- the good rows of a fleet's text
abbrev pub AreRowsIn : List ℕ → List FleetRow → Type 0
AreRowsIn text rows = (lines : List FleetLine) × IsFleetText text lines × (rows ≡ good_rows lines)

-- a text is that of a fleet with these good rows, or of this change
abbrev pub IsListed : List ℕ → ListedChange → Type 0
IsListed text (Fleet rows) = AreRowsIn text rows.items
IsListed text (Change change) = IsTextOf change text

-- a text is no plan's: it is no table under the names of one, or a row of it breaks a rule of plans
abbrev pub IsNoPlan : List ℕ → Type 0
IsNoPlan text = ExplainsPlan text plan.Input ⊎ ((row : ℕ) × ExplainsPlan text (plan.Row row))

-- a text is no change's: it is no plan's, and that of no change of terminals
pub record IsNoChange (text : List ℕ) : Type 0 where
  pub no_plan : IsNoPlan text
  pub no_terminals : IsNoTerminals text

-- a text is no file's: it is no table under the names of a fleet, and no change's
pub record IsNoFile (text : List ℕ) : Type 0 where
  pub no_fleet : ExplainsFleet text fleet.Input
  pub no_change : IsNoChange text

-- ---- a fleet's rows
module _ (digits : DigitsOf) (head : StartDigest) (rows : List FleetRow) (terminals : List Terminal)
    (room : Room) where
  -- after the first rows, this many, the room has the head's digest
  abbrev pub IsMetAfter : ℕ → Type 0
  IsMetAfter count = IsHeadOf digits head (terminals_after_rows (take count rows) room terminals)
      (room_after_rows (take count rows) room terminals)

  -- So many are no more than are due: no fewer lead to the head's digest.
  pub record IsNoMore (count : ℕ) : Type 0 where
    pub within : count ≤ length rows
    pub fewest : (fewer : ℕ) → fewer < count → ¬ IsMetAfter fewer

  -- So many are due: no fewer lead to the head's digest, and these do, or they are all.
  pub record IsDue (count : ℕ) : Type 0 where
    pub no_more : IsNoMore count
    pub met : IsMetAfter count ⊎ (count ≡ length rows)

module _ {S : Type 0} (g : Ghosts S) (old new : Store S) where
  -- the store has the room and the terminals after so many of the rows
  abbrev pub HasFirstRows : List FleetRow → List Terminal → Room → ℕ → Type 0
  HasFirstRows rows terminals room count =
      IsRoom g new (terminals_after_rows (take count rows) room terminals)
      (room_after_rows (take count rows) room terminals)

  -- it has them after as many rows as are due
  abbrev pub EnrolsDue : List FleetRow → StartDigest → Type 0
  EnrolsDue rows head = IsClean g new.conn → (terminals : List Terminal) (room : Room)
      → IsRoom g old terminals room
      → (count : ℕ) × IsDue (digits_in old) head rows terminals room count
      × HasFirstRows rows terminals room count

  -- after some of them, no more than are due
  abbrev pub EnrolsSome : List FleetRow → StartDigest → Type 0
  EnrolsSome rows head = IsClean g new.conn → (terminals : List Terminal) (room : Room)
      → IsRoom g old terminals room
      → (count : ℕ) × IsNoMore (digits_in old) head rows terminals room count
      × HasFirstRows rows terminals room count

  -- the same of the rows in a text
  abbrev pub EnrolsDueIn : List ℕ → StartDigest → Type 0
  EnrolsDueIn text head = (rows : List FleetRow) × AreRowsIn text rows × EnrolsDue rows head

  abbrev pub EnrolsSomeIn : List ℕ → StartDigest → Type 0
  EnrolsSomeIn text head = (rows : List FleetRow) × AreRowsIn text rows × EnrolsSome rows head

-- ---- whether the room is the head's
module _ {S : Type 0} (g : Ghosts S) (old new : Store S) where
  -- The room is found to have the digest of the head, or not to have it. One that has not changed
  -- since it had another digest does not have it, and isn't looked at.
  pub record FindsHead (head : StartDigest) (is_changed is : Bool) : Type 0 where
    pub met : IsClean g new.conn → is ≡ true → (terminals : List Terminal)
        (room : Room) → IsRoom g old terminals room → IsHeadOf (digits_in old) head terminals room
    pub unmet : IsClean g new.conn → is ≡ false → is_changed ≡ true
        → (terminals : List Terminal) (room : Room) → IsRoom g old terminals room
        → ¬ IsHeadOf (digits_in old) head terminals room

  -- The room has the digest of the head, and stays as it is: a change before it was not made, or it
  -- changed nothing; or a stop left only some rows of a change, which was not made then.
  pub record IsThere (head : StartDigest) : Type 0 where
    pub stays : Stays g old new
    pub met : IsClean g new.conn → (terminals : List Terminal) (room : Room)
        → IsRoom g old terminals room → IsHeadOf (digits_in old) head terminals room

  -- the room has another digest than the head's, and stays as it is
  pub record IsElsewhere (head : StartDigest) : Type 0 where
    pub stays : Stays g old new
    pub unmet : IsClean g new.conn → (terminals : List Terminal) (room : Room)
        → IsRoom g old terminals room → ¬ IsHeadOf (digits_in old) head terminals room

  -- memory or storage fails before anything is done, and the room stays as it is
  abbrev pub IsUnread : ReplayFault → Type 0
  IsUnread fault = IsUnavailableFault fault × Stays g old new

-- ---- a change that is no fleet
-- The fault that reports that a change was not made: memory or storage failed; or else the room
-- does not allow it, so the list is that of another room.
abbrev pub unmade_fault : Failure → ReplayFault
unmade_fault failure.Memory = Unavailable refusal.Memory
unmade_fault failure.Storage = Unavailable refusal.Storage
unmade_fault other = OtherRoom

module _ {S : Type 0} (g : Ghosts S) (old new : Store S) (change : RoomChange) (head : StartDigest) where
  -- The room has another digest, and the change is made.
  pub record IsMadeTowards : Type 0 where
    pub begun : Store S
    pub elsewhere : IsElsewhere g old begun head
    pub remakes : Remakes g begun new change (Ok tt)

  -- The room has another digest, and the change is not made, for this.
  pub record IsUnmadeTowards (fault : ReplayFault) : Type 0 where
    pub begun : Store S
    pub elsewhere : IsElsewhere g old begun head
    pub failure : Failure
    pub remakes : Remakes g begun new change (Err failure)
    pub failed : fault ≡ unmade_fault failure

-- The room has another digest, and can't be opened again, before the change or after it, for this.
pub record LosesStage {S : Type 0} (g : Ghosts S) (old : Store S) (change : RoomChange)
    (head : StartDigest) (fault : Failure) : Type 0 where
  pub begun : Store S
  pub elsewhere : IsElsewhere g old begun head
  pub loses : LosesRoom g begun change fault

-- the same of the change of a text
abbrev pub LosesText : {S : Type 0} → Ghosts S → Store S → List ℕ → StartDigest → Failure → Type 0
LosesText g old text head fault =
    (change : RoomChange) × IsTextOf change text × LosesStage g old change head fault

-- ---- what is done
module _ {S : Type 0} (g : Ghosts S) (old new : Store S) (text : List ℕ) (head : StartDigest) where
  -- what the rows of a text say is done, as far as the head behind them says
  abbrev pub Follows : Type 0
  Follows = IsThere g old new head ⊎ EnrolsDueIn g old new text head
      ⊎ ((change : RoomChange) × IsTextOf change text × IsMadeTowards g old new change head)

  -- a row of a fleet can't be enrolled, for memory or storage: the room has some of those before it
  abbrev pub IsPart : ReplayFault → Type 0
  IsPart fault = IsUnavailableFault fault × EnrolsSomeIn g old new text head

  -- the text is of no change, and the room is another than the head's: the list is bad
  abbrev pub IsOfNone : ReplayFault → Type 0
  IsOfNone fault = (fault ≡ Bad) × IsNoFile text × IsElsewhere g old new head

  -- the room is another than the head's, and the change of the text is not made in it: for memory
  -- or storage, or since the room does not allow it
  abbrev pub IsUnmade : ReplayFault → Type 0
  IsUnmade fault = (change : RoomChange) × IsTextOf change text
      × IsUnmadeTowards g old new change head fault

  -- why they are not followed, and what the room is then
  abbrev pub IsUnfollowed : ReplayFault → Type 0
  IsUnfollowed fault = IsUnread g old new fault ⊎ IsPart fault ⊎ IsOfNone fault ⊎ IsUnmade fault
