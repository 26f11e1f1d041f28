-- What holds of a decision, by what holds of its refusal and of what is decided else.
use Rattle.std.specs.Prelude.{Bool, Err, Option, [], false, refl, true, ℕ, ◌&&◌, ◌∷◌, ◌≡◌}
use Rattle.room_types.specs.declared.asks.Press.{Press}
use Rattle.room_types.specs.declared.changes.Change.TheVariants.{PutReport, PutVehicle}
use Rattle.room_types.specs.declared.codes.Outcome.{Outcome}
use Rattle.room_types.specs.declared.codes.Outcome.TheVariants.{Late, Normal, Skipped, Stale, Wrong}
use Rattle.room_types.specs.declared.refusal_statuses.Refusal.{Refusal}
use Rattle.room_types.specs.declared.tables.Loan.{Loan}
use Rattle.room_types.specs.declared.tables.Turn.{Turn}
use Rattle.room_types.specs.declared.tables.Vehicle.{Vehicle}
use Rattle.room_model.specs.Decisions.{Verdict, refuse_if, with_changes}
use Rattle.room_model.specs.Reports.{is_due, is_home, report_acts, report_made, report_row}
use Rattle.room_model.specs.Reports.{status_after, with_report}
use Rattle.room_types.specs.declared.answers.Answer.TheVariants as answer

pub by_refuse : (P : Verdict → Type 0) (b : Bool) (e : Refusal) (x : Verdict) → P (Err e)
    → (b ≡ false → P x) → P (refuse_if b e x)
unfolding refuse_if
by_refuse P true e x f g = f
by_refuse P false e x f g = g refl

-- what holds of a report that acts, and of one that doesn't
pub by_report : (P : Verdict → Type 0) (v : Vehicle) (t : Option Turn) (l : Option Loan)
    (p : Press) (at : ℕ) →
    ((o : Outcome)
    → P (with_changes (answer.Reported p.number o (status_after v.status p.button))
    (report_acts v t l p at o (is_home p.button && is_due at l)))) →
    ((o : Outcome)
    → P (with_changes (answer.Reported p.number o v.status)
    (PutReport (report_row v p at o v.status) ∷ PutVehicle (with_report v p) ∷ []))) →
    (o : Outcome) → P (report_made v t l p at o)
by_report P v t l p at f g Normal = f Normal
by_report P v t l p at f g Skipped = f Skipped
by_report P v t l p at f g Wrong = g Wrong
by_report P v t l p at f g Late = g Late
by_report P v t l p at f g Stale = g Stale
