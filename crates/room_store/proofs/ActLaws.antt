-- An event that was decided by reads, and whose changes were then written.
use Rattle.std.proofs.Common.{List, arith, subst, ◌≡◌}
use Rattle.sqlite.specs.State.{HasCleanDisk, IsUnchanged, State, Survives}
use Rattle.sqlite.proofs.StateLemmas.{survives_then}
use Rattle.room_place.specs.Plans.{Layout}
use Rattle.room_types.specs.declared.asks.Event.{Event}
use Rattle.room_types.specs.declared.changes.Change.{Change}
use Rattle.room_model.specs.Decisions.{changes_of}
use Rattle.room_model.specs.Room.{Room, apply}
use Rattle.room_model.specs.Step.{decided, room_after}
use Rattle.room_model.specs.Digests.{IsHeadOf, digits_of}
use Rattle.room_model.specs.declared.digests.StartDigest.{StartDigest}
use Rattle.room_tables.specs.RoomsInTables.{Configuration, Stands}
use Rattle.room_tables.proofs.RoomReads.{kept}
use Rattle.room_store_writes.specs.Transactions.{Commits}
use Rattle.room_store_cache.specs.declared.cache.Cache.{Cache}
use Rattle.room_store.specs.ActedEvents.{IsFor}
use Rattle.room_store.specs.DigestEvents.{IsHeadAfter}
use Rattle.room_store_file.specs.DigestTexts.{digest_of}
use Rattle.room_store_file.specs.DigestChanges.{Misses, Reaches}
use Rattle.sqlite_trees.specs.Tree.{Trees}

-- before the reads, after them, after the write
module _ (old mid new : State) (layout : Layout) (known : Cache) (event : Event)
    (changes : List Change)
    (same : HasCleanDisk mid → IsUnchanged old mid)
    (is : HasCleanDisk mid → (config : Configuration) (room : Room) → IsFor old.now.trees layout known event config room
    → changes ≡ changes_of (decided event room)) where
  -- what was written is the room after the event
  made : HasCleanDisk mid → (config : Configuration) (room : Room)
      → IsFor old.now.trees layout known event config room
      → ((r : Room) → Stands mid.now.trees config r → Stands new.now.trees config (apply r changes))
      → Stands new.now.trees config (room_after event room)
  made clean config room h wrote =
      subst (λ cs. Stands new.now.trees config (apply room cs)) (is clean config room h)
      (wrote room (kept old mid (same clean) config room h.stands))

  pub acted : HasCleanDisk mid → Commits mid new (Stands mid.now.trees)
      (λ room. apply room changes) → Commits old new (IsFor old.now.trees layout known event)
      (room_after event)
  acted clean wrote = record {
    was_open = (same clean).0.was_open;
    settled = wrote.settled;
    schema = wrote.schema;
    stands = λ config room h. made clean config room h (wrote.stands config);
  }

  pub acted_survives : Survives old mid (λ _. ⊥)
      → Survives mid new (λ db. (config : Configuration) (room : Room) → Stands mid.now.trees config room
      → Stands db config (apply room changes))
      → Survives old new (λ db. (config : Configuration) (room : Room)
      → IsFor old.now.trees layout known event config room → Stands db config (room_after event room))
  acted_survives read wrote =
      survives_then old mid new _ _ (λ db.
      (config : Configuration) (room : Room) → IsFor old.now.trees layout known event config room
      → Stands db config (room_after event room))
      (λ _ db none. absurd none)
      (λ clean db left config room h.
      let early : HasCleanDisk mid = omega (arith, wrote.clean) in
      subst (λ cs. Stands db config (apply room cs)) (is early config room h)
      (left config room (kept old mid (same early) config room h.stands)))
      read wrote

-- before the reads and after them: what the changes lead to, the event leads to
module _ (old mid : State) (layout : Layout) (known : Cache) (event : Event)
    (changes : List Change) (head : StartDigest)
    (same : HasCleanDisk mid → IsUnchanged old mid)
    (is : HasCleanDisk mid → (config : Configuration) (room : Room) → IsFor old.now.trees layout known event config room
    → changes ≡ changes_of (decided event room)) where
  pub reached : {db : Trees} → HasCleanDisk mid → (config : Configuration) (room : Room)
      → IsFor old.now.trees layout known event config room → Reaches changes head mid.now.trees db
      → IsHeadAfter event config.zone config.terminals room head
  reached clean config room h reaches =
      subst (λ cs. IsHeadOf (digits_of digest_of config.zone) head config.terminals (apply room cs))
      (is clean config room h) (reaches config room (kept old mid (same clean) config room h.stands)).1

  pub missed : HasCleanDisk mid → (config : Configuration) (room : Room)
      → IsFor old.now.trees layout known event config room → Misses changes head mid.now.trees
      → ¬ (IsHeadAfter event config.zone config.terminals room head)
  missed clean config room h misses =
      subst (λ cs. ¬ (IsHeadOf (digits_of digest_of config.zone) head config.terminals (apply room cs)))
      (is clean config room h) (misses config room (kept old mid (same clean) config room h.stands))
