-- What a fault of the database is to who asks: a refusal.
use Rattle.room_model.specs.declared.digests.DigestMismatch.{DigestMismatch}
use Rattle.room_model.specs.declared.digests.DigestMismatch.TheVariants as miss
use Rattle.room_store_file.specs.declared.digest_changes.FailedStep.{FailedStep}
use Rattle.room_store_file.specs.declared.digest_changes.FailedStep.TheVariants as undone
use Rattle.room_types.specs.declared.refusal_statuses.Refusal.{Refusal}
use Rattle.room_types.specs.declared.refusal_statuses.Refusal.TheVariants as refusal
use Rattle.room_tables_schema.specs.declared.database_faults.Fault.{Fault}
use Rattle.room_tables_schema.specs.declared.database_faults.Fault.TheVariants.{Memory, Storage}

abbrev pub refusal_of : Fault → Refusal
refusal_of Memory = refusal.Memory
refusal_of Storage = refusal.Storage

-- the miss that reports that changes were undone which were to lead to a digest
abbrev pub miss_of : FailedStep → DigestMismatch
miss_of undone.OtherDigest = miss.OtherDigest
miss_of (undone.Unavailable fault) = miss.Unavailable (refusal_of fault)
