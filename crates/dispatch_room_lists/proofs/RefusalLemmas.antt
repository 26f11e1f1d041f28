-- How a room that can't be read is reported.
use Rattle.std.proofs.Common.{inl, inr, refl, ◌≡◌, ◌⊎◌}
use Rattle.room_types.specs.declared.refusal_statuses.Refusal.{Refusal}
use Rattle.room_model.specs.Rooms.{IsUnavailable}
use Rattle.dispatch_room_exit.specs.ExitStatus.{refused}
use Rattle.dispatch_room_exit.specs.declared.exit_status.Failure.TheVariants.{Memory, Storage}

-- a store refuses for memory or for storage only
pub refused_by : (refusal : Refusal) → IsUnavailable refusal
    → (refused refusal ≡ Memory) ⊎ (refused refusal ≡ Storage)
refused_by refusal (inl memory) = inl (rw memory refl)
refused_by refusal (inr storage) = inr (rw storage refl)
