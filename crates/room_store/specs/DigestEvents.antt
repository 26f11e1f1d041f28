-- The digest that an event leads to.
use Rattle.std.specs.Prelude.{ℕ, List}
use Rattle.room_types.specs.declared.asks.Event.{Event}
use Rattle.room_types.specs.declared.fleet.Terminal.{Terminal}
use Rattle.room_model.specs.Room.{Room}
use Rattle.room_model.specs.Step.{room_after}
use Rattle.room_model.specs.Digests.{IsHeadOf, digits_of}
use Rattle.room_model.specs.declared.digests.StartDigest.{StartDigest}
use Rattle.room_store_file.specs.DigestTexts.{digest_of}

-- the head is of the room after this event, in this zone
abbrev pub IsHeadAfter : Event → List ℕ → List Terminal → Room → StartDigest → Type 0
IsHeadAfter event zone terminals room head =
    IsHeadOf (digits_of digest_of zone) head terminals (room_after event room)
