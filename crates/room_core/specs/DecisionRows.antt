-- What a request is decided on, and a report that is sent again.
use Rattle.std.specs.Prelude.{None, not, ℕ, ◌≡◌, ◌⊎◌}
use Rattle.room_types.specs.Texts.{Callsign}
use Rattle.room_types.specs.declared.asks.Ask.{Ask}
use Rattle.room_types.specs.declared.asks.Press.{Press}
use Rattle.room_types.specs.declared.tables.Report.{Report}
use Rattle.room_model.specs.Decisions.{Verdict, refuse_if, show}
use Rattle.room_model.specs.Queries.{calls_of, incident_of, kept_report}
use Rattle.room_model.specs.Reports.{same_press}
use Rattle.room_model.specs.Room.{Room}
use Rattle.room_model.specs.Shares.{own}
use Rattle.room_model.specs.WorkingRows.{working}
use Rattle.room_types.specs.declared.answers.Answer.TheVariants as answer
use Rattle.room_types.specs.declared.asks.Ask.TheVariants as ask
use Rattle.room_types.specs.declared.refusal_statuses.Refusal.TheVariants as refusal

-- The rows are those of division d's that the ask reads at this moment, or all of them.
abbrev pub AreRead : ℕ → Ask → ℕ → Room → Room → Type 0
AreRead d a at rows r = (rows ≡ working d a at r) ⊎ (rows ≡ own d r)

-- The rows have just what the room has of an incident: its row, and its calls.
pub record HasIncident (d n : ℕ) (rows r : Room) : Type 0 where
  pub incident : incident_of d n rows ≡ incident_of d n r
  pub calls : calls_of d n rows ≡ calls_of d n r

-- a report that is asked for has a number that the vehicle did not send before
abbrev pub IsUnsent : Callsign → Ask → Room → Type 0
IsUnsent c (ask.Report p) r = kept_report c p.number r ≡ None
IsUnsent c a r = Unit {0}

-- a kept report gets its kept answer, and its number no other content
abbrev pub again : Report → Press → Verdict
again k p = refuse_if (not (same_press k p)) refusal.NumberReused
    (show (answer.Reported k.number k.outcome k.status))
