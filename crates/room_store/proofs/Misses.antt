-- Events that are to lead to a digest.
use Rattle.std.proofs.Common.{◌≡◌, inl, inr, refl, List}
use Rattle.sqlite.specs.State.{State, Survives}
use Rattle.sqlite.proofs.StateLemmas.{survives_weaker}
use Rattle.sqlite_trees.specs.Tree.{Trees}
use Rattle.room_types.specs.declared.changes.Change.{Change}
use Rattle.room_model.specs.Room.{Room, apply}
use Rattle.room_tables.specs.RoomsInTables.{Configuration, Stands}
use Rattle.room_tables_schema.specs.declared.database_faults.Fault.TheVariants.{Memory, Storage}
use Rattle.room_model.specs.Digests.{IsMiss}
use Rattle.room_model.specs.declared.digests.StartDigest.{StartDigest}
use Rattle.room_model.specs.declared.digests.DigestMismatch.TheVariants as miss
use Rattle.room_store_file.specs.DigestChanges.{Reaches}
use Rattle.room_store_file.specs.declared.digest_changes.FailedStep.{FailedStep}
use Rattle.room_store_file.specs.declared.digest_changes.FailedStep.TheVariants.{OtherDigest}
use Rattle.room_store_file.specs.declared.digest_changes.FailedStep.TheVariants.{Unavailable}
use Rattle.room_store.specs.StoreFaults.{miss_of}

-- what is reported of changes that were undone
pub miss_is : (undone : FailedStep) → IsMiss (miss_of undone)
miss_is OtherDigest = inl refl
miss_is (Unavailable Memory) = inr (_, refl, inl refl)
miss_is (Unavailable Storage) = inr (_, refl, inr refl)

-- another digest is reported where it was found
pub another_reported : (undone : FailedStep) → miss_of undone ≡ miss.OtherDigest → undone ≡ OtherDigest
another_reported OtherDigest is = refl
another_reported (Unavailable fault) is = absurd (cc)

-- a stop leaves the room after the changes
pub reaches_weaker : (changes : List Change) (head : StartDigest) (old new : State) (from : Trees)
    → Survives old new (Reaches changes head from)
    → Survives old new (λ db. (config : Configuration) (room : Room) → Stands from config room
    → Stands db config (apply room changes))
reaches_weaker changes head old new from =
    survives_weaker old new (Reaches changes head from)
    (λ db. (config : Configuration) (room : Room) → Stands from config room → Stands db config (apply room changes))
    (λ _ db left config room h. (left config room h).0)
