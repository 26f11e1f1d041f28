-- The digests of a room in digits, what a head says of a room, and why a room does not come to one.
use Rattle.std.specs.Prelude.{◌≡◌, ◌⊎◌, ℕ, List}
use Rattle.hex.specs.Hex.{encode_lower}
use Rattle.room_types.specs.declared.fleet.Terminal.{Terminal}
use Rattle.room_types.specs.declared.refusal_statuses.Refusal.{Refusal}
use Rattle.room_model.specs.Room.{Room}
use Rattle.room_model.specs.Rooms.{IsUnavailable}
use Rattle.room_model.specs.declared.digests.StartDigest.{StartDigest}
use Rattle.room_model.specs.declared.digests.DigestMismatch.{DigestMismatch}
use Rattle.room_model.specs.declared.digests.DigestMismatch.TheVariants.{OtherDigest, Unavailable}
use Rattle.room_model.specs.declared.digests.Version.{Version}

-- the digests of a room's rows, with its terminals, in digits, one of each version
abbrev pub DigitsOf : Type 0
DigitsOf = Version → List Terminal → Room → List ℕ

-- the digests that a room gives, in this zone, in digits
abbrev pub digits_of : (Version → List ℕ → List Terminal → Room → List ℕ) → List ℕ → DigitsOf
digits_of digest_of zone version terminals room =
    encode_lower (digest_of version zone terminals room)

-- the head says of this room: its digits are those of the room's digest of its version
abbrev pub IsHeadOf : DigitsOf → StartDigest → List Terminal → Room → Type 0
IsHeadOf digits_of head terminals room = digits_of head.version terminals room ≡ head.digits

-- it would come to another one, or memory or storage fails
abbrev pub IsMiss : DigestMismatch → Type 0
IsMiss miss = (miss ≡ OtherDigest) ⊎ ((r : Refusal) × (miss ≡ Unavailable r) × IsUnavailable r)
