-- What a call gives, said by two of its clauses, and what is handed on where it fails.
use Rattle.std.proofs.Common.{Err, IfErr, IfOk, MatchResult, Ok, Result, false, refl, ◌≡◌}
use Rattle.std.specs.Prelude.{OnErr, OnOk, is_err}
use Rattle.dispatch_room_exit.specs.declared.exit_status.Failure.{Failure}
use Rattle.dispatch_room_disk.specs.CommandSteps.{Step, Then}
use Rattle.std.specs.Result.{IsErrAnd}

pub both : {T E : Type 0} (r : Result T E) (P Q : T → Type 0) → IfOk r P → IfOk r Q → IfOk r (λ x. P x × Q x)
both (Ok x) P Q first second = (first, second)
both (Err e) P Q first second = tt

pub either_way : {T E : Type 0} (r : Result T E) (P : T → Type 0) (Q : E → Type 0) → IfOk r P → IfErr r Q
    → MatchResult r P Q
either_way (Ok x) P Q good bad = good
either_way (Err e) P Q good bad = bad

pub handed_on : {T E : Type 0} {P : E → Type 0} (r : Result T E) (Q : E → Type 0) → IsErrAnd r P → ((e : E) → P e → Q e)
    → IfErr r Q
handed_on (Ok x) Q is by = tt
handed_on (Err e) Q is by = by e is

-- what holds where a call went well, once it is known that it did
pub where_well : {T E : Type 0} (r : Result T E) (P : Type 0) → is_err r ≡ false → OnOk r P → P
where_well (Ok x) P well holds = holds
where_well (Err e) P well holds = absurd (cc)

-- what holds where a call went well whose result says no more
pub once_done : {E : Type 0} (r : Result (Unit {0}) E) (P : Unit {0} → Type 0) (Q : Type 0) → IfOk r P → (P tt → Q)
    → OnOk r Q
once_done (Ok done) P Q is by = by is
once_done (Err e) P Q is by = tt

-- what holds where a call failed, of why and beside
pub failed_so : {T E : Type 0} (r : Result T E) (P : E → Type 0) (Q : Type 0) → IfErr r P → OnErr r Q
    → IfErr r (λ e. P e × Q)
failed_so (Ok x) P Q why beside = tt
failed_so (Err e) P Q why beside = (why, beside)

-- a step that fails is the last
pub stops : {X T U : Type 0} (first : Step X T) (next : T → Step X U) (before after : X)
    (r : Result U Failure) (P : Failure → Type 0) → IsErrAnd r P → ((e : Failure) → P e → first before after (Err e))
    → Then first next before after r
stops first next before after (Ok x) P is by = absurd is
stops first next before after (Err e) P is by =
    record { between = after; found = Err e; is = by e is; rest = (refl, refl) }
