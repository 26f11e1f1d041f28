-- What becomes of rows that stand behind a segment, and of the room.
use Rattle.std.proofs.Common.{Bool, IfErr, List, None, Ok, Option, Result, Some, false, inl, inr}
use Rattle.std.proofs.Common.{refl, true, ℕ, ◌≡◌}
use Rattle.std.specs.Prelude.{Err, IfNone, IfOk, OnErr}
use Rattle.sqlite_trees.specs.declared.store.Store.{Ghosts}
use Rattle.room_types.specs.declared.fleet.FleetRow.{FleetRow}
use Rattle.room_model.specs.declared.digests.StartDigest.{StartDigest}
use Rattle.room_store.specs.declared.store.Store.{Store}
use Rattle.dispatch_room_journal.specs.ReplayFaults.{IsUnavailableFault}
use Rattle.dispatch_room_journal.specs.declared.replay_faults.ReplayFault.{ReplayFault}
use Rattle.dispatch_room_lists.specs.ListedRows.{AreRowsIn, EnrolsSome, FindsHead, IsElsewhere}
use Rattle.dispatch_room_lists.specs.ListedRows.{IsNoChange, IsNoPlan, IsUnfollowed}
use Rattle.dispatch_room_lists.specs.RoomChanges.{IsNoTerminals}
use Rattle.dispatch_room_lists.specs.StoodRooms.{Stays}

-- a text that is no plan's, and that of no change of terminals, is no change's
pub no_change : {T E : Type 0} (found : Result (Option T) E) (text : List ℕ) → IsNoPlan text
    → IfOk found (λ it. IfNone it (IsNoTerminals text)) → IfOk found (λ it. IfNone it (IsNoChange text))
no_change (Ok (Some x)) text no_plan no_terminals = tt
no_change (Ok None) text no_plan no_terminals = record { no_plan = no_plan; no_terminals = no_terminals }
no_change (Err e) text no_plan no_terminals = tt

-- a store that was not looked at
pub stays_same : {S : Type 0} (g : Ghosts S) (store : Store S) → Stays g store store
stays_same g store = record { clean = λ clean. clean; same = λ clean terminals room is. is }

module _ {S : Type 0} (g : Ghosts S) (old new : Store S) where
  pub elsewhere : (head : StartDigest) (is : Bool) → Stays g old new → FindsHead g old new head true is → is ≡ false
      → IsElsewhere g old new head
  elsewhere head is stays finds not = record { stays = stays; unmet = λ clean. finds.unmet clean not refl }

  -- rows of a fleet that were enrolled in part
  pub in_part : (text : List ℕ) (head : StartDigest) (rows : List FleetRow) (done : Result (Unit {0}) ReplayFault)
      → AreRowsIn text rows → OnErr done (EnrolsSome g old new rows head) → IfErr done IsUnavailableFault
      → IfErr done (IsUnfollowed g old new text head)
  in_part text head rows (Ok well) its some wants = tt
  in_part text head rows (Err fault) its some wants = inr (inl (wants, (rows, its, some)))
