-- Why changes were undone.
use Rattle.std.proofs.Common.{◌≡◌, ◌⊎◌, inl, inr, Err, Ok, Result, sym, ◌∙◌}
use Rattle.std.specs.Prelude.{IfErr}
use Rattle.sqlite.specs.declared.error.Error.{Error}
use Rattle.room_tables_schema.specs.DatabaseFaults.{fault_of}
use Rattle.room_store_file.specs.declared.digest_changes.FailedStep.{FailedStep}
use Rattle.room_store_file.specs.declared.digest_changes.FailedStep.TheVariants.{OtherDigest}
use Rattle.room_store_file.specs.declared.digest_changes.FailedStep.TheVariants.{Unavailable}

-- that there is another digest is reported where it was found
pub another_reported : {T U : Type 0} (result : Result T FailedStep) (done : Result U FailedStep) (P : Type 0)
    → IfErr result (λ e. (done ≡ Err e) ⊎ ((cause : Error) × (e ≡ Unavailable (fault_of cause))))
    → IfErr done (λ e. e ≡ OtherDigest → P) → IfErr result (λ e. e ≡ OtherDigest → P)
another_reported (Ok x) done P why found = tt
another_reported (Err e) (Ok y) P (inl is) found = absurd (cc)
another_reported (Err e) (Err d) P (inl is) found = λ another. let same : d ≡ e = cc in found (same ∙ another)
another_reported (Err e) done P (inr caused) found =
    λ another. let never : Unavailable (fault_of caused.0) ≡ OtherDigest = sym caused.1 ∙ another in absurd (cc)
