-- What a decision is.
use Rattle.std.specs.Prelude.{Bool, Err, List, None, Ok, Option, Result, Some, [], cond, is_ok, not}
use Rattle.std.specs.Prelude.{true, ◌≡◌, ◌⊎◌}
use Rattle.room_types.specs.declared.answers.Answer.{Answer}
use Rattle.room_types.specs.declared.changes.Change.{Change}
use Rattle.room_types.specs.declared.decisions.Decision.{Decision}
use Rattle.room_types.specs.declared.refusal_statuses.Refusal.{Refusal}
use Rattle.room_types.specs.declared.tables.Incident.{Incident}
use Rattle.room_types.specs.declared.tables.Loan.{Loan}
use Rattle.room_types.specs.declared.tables.Vehicle.{Vehicle}
use Rattle.room_types.specs.Codes.{is_active}
use Rattle.room_types.specs.declared.answers.Answer.TheVariants as answer
use Rattle.room_types.specs.declared.refusal_statuses.Refusal.TheVariants as refusal

-- a decision, or why there is none
abbrev pub Verdict : Type 0
Verdict = Result Decision Refusal

abbrev pub with_changes : Answer → List Change → Verdict
with_changes a cs = Ok (record { changes = cs; answer = a })

-- an answer that changes nothing
abbrev pub show : Answer → Verdict
show a = with_changes a []

abbrev pub done : List Change → Verdict
done cs = with_changes answer.Done cs

-- a refusal, where its condition holds
unfoldable pub refuse_if : Bool → Refusal → Verdict → Verdict
refuse_if b e x = cond b (Err e) x

-- why a vehicle that the desk does not hold is refused
abbrev pub not_held : Option Loan → Refusal
not_held None = refusal.NoSuchVehicle
not_held (Some l) = refusal.VehicleLent

-- what is decided of a row that is looked up
abbrev pub where_found : {X : Type 0} → Option X → Refusal → (X → Verdict) → Verdict
where_found None why f = Err why
where_found (Some x) why f = f x

-- what is decided of a vehicle that the desk holds
abbrev pub where_held : Option Vehicle → Option Loan → (Vehicle → Verdict) → Verdict
where_held None l f = Err (not_held l)
where_held (Some v) l f = f v

-- what is decided of an active incident
abbrev pub where_active : Option Incident → (Incident → Verdict) → Verdict
where_active None f = Err refusal.NoSuchIncident
where_active (Some i) f = refuse_if (not (is_active i.state)) refusal.IncidentNotOpen (f i)

abbrev pub changes_of : Verdict → List Change
changes_of (Ok x) = x.changes
changes_of (Err e) = []

abbrev pub answer_of : Verdict → Result Answer Refusal
answer_of (Ok x) = Ok x.answer
answer_of (Err e) = Err e

-- what a code gives that makes a list is the machine's; in place of a decision, and of nothing
-- else, memory may be refused, and then nothing is decided
abbrev pub Decides : Verdict → Result Decision Refusal → Type 0
Decides verdict (Ok x) = verdict ≡ Ok x
Decides verdict (Err e) = (verdict ≡ Err e) ⊎ ((e ≡ refusal.Memory) × (is_ok verdict ≡ true))
