-- What comes of an ask that names an incident which isn't there, or isn't active.
use Rattle.std.proofs.Common.{ap, eqb-true, inl, inr, subst, sym, ◌∙◌}
use Rattle.std.specs.Prelude.{Bool, Err, IfSome, List, None, Option, Some, false, not, refl, true}
use Rattle.std.specs.Prelude.{ℕ, ◌==◌, ◌≡◌, ◌⊎◌}
use Rattle.room_types.specs.Codes.{is_active}
use Rattle.room_types.specs.declared.asks.Ask.{Ask}
use Rattle.room_types.specs.declared.asks.Who.TheVariants.{Desk}
use Rattle.room_types.specs.declared.tables.Call.{Call}
use Rattle.room_types.specs.declared.tables.Incident.{Incident}
use Rattle.room_model.proofs.DecisionLaws.{by_refuse}
use Rattle.room_model.proofs.Questions.{ChangesNothing, quiet_shows}
use Rattle.room_model.proofs.Tests.{either_true}
use Rattle.room_model.specs.Decisions.{Verdict, where_active}
use Rattle.room_model.specs.Incidents.{change_needs, close, close_active, merge, merge_of}
use Rattle.room_model.specs.Incidents.{needs_changed, show_incident}
use Rattle.room_model.specs.Proposals.{propose}
use Rattle.room_model.specs.Queries.{calls_of, held, incident_of, is_attended, lent, served}
use Rattle.room_model.specs.Room.{Room}
use Rattle.room_model.specs.Step.{desk_asks}
use Rattle.room_model.specs.Vehicles.{mobilise, mobilise_held}
use Rattle.room_model.specs.WorkingRows.{names_incident}
use Rattle.room_types.specs.declared.asks.Ask.TheVariants as ask
use Rattle.room_types.specs.declared.refusal_statuses.Refusal.TheVariants as refusal

abbrev pub IsIdle : Option Incident → Type 0
IsIdle o = IfSome o (λ i. is_active i.state ≡ false)

where_idle : (o : Option Incident) (f : Incident → Verdict) → IsIdle o
    → ChangesNothing (where_active o f)
where_idle None f idle = refl
where_idle (Some i) f idle =
    by_refuse ChangesNothing (not (is_active i.state)) refusal.IncidentNotOpen (f i) refl
    (λ e. let active : not (is_active i.state) ≡ true = ap not idle in cc)

merge_idle : (x y : Option Incident) (attended : Bool) (calls : List Call) → IsIdle x ⊎ IsIdle y
    → ChangesNothing (merge_of x y attended calls)
merge_idle None y attended calls h = refl
merge_idle (Some i) None attended calls h = refl
merge_idle (Some i) (Some j) attended calls h =
    by_refuse ChangesNothing _ _ _ refl (λ other.
    by_refuse ChangesNothing _ _ _ refl
    (λ first. by_refuse ChangesNothing _ _ _ refl (λ second. absurd (none first second))))
  where
    none : not (is_active i.state) ≡ false → not (is_active j.state) ≡ false → ⊥
    none first second = elim h [
      | inl idle ↦ let stands : not (is_active i.state) ≡ true = ap not idle in cc
      | inr idle ↦ let stands : not (is_active j.state) ≡ true = ap not idle in cc
    ]

merge_none : (o : Option Incident) (attended : Bool) (calls : List Call)
    → merge_of o None attended calls ≡ Err refusal.NoSuchIncident
merge_none None attended calls = refl
merge_none (Some i) attended calls = refl

module _ (d : ℕ) (r : Room) (n : ℕ) where
  -- the named number is this one
  at_number : (P : Option Incident → Type 0) (m : ℕ) → m == n ≡ true → P (incident_of d n r)
      → P (incident_of d m r)
  at_number P m e = subst (λ k. P (incident_of d k r)) (sym (eqb-true m n e))

  -- one that is not active: nothing changes
  pub idle_changes_nothing : (a : Ask) (at : ℕ) → names_incident a n ≡ true
      → IsIdle (incident_of d n r) → ChangesNothing (desk_asks d a at r)
  unfolding mobilise change_needs merge close
  idle_changes_nothing (ask.Incident m) at e idle = quiet_shows at r (Desk d) (ask.Incident m) refl
  idle_changes_nothing (ask.Propose m) at e idle = quiet_shows at r (Desk d) (ask.Propose m) refl
  idle_changes_nothing (ask.Mobilise m c) at e idle =
      where_idle (incident_of d m r) (mobilise_held d (held d c r) (lent d c r) at (λ k. served d m k r))
      (at_number IsIdle m e idle)
  idle_changes_nothing (ask.Needs m needs) at e idle =
      where_idle (incident_of d m r) (needs_changed needs (λ k. served d m k r)) (at_number IsIdle m e idle)
  idle_changes_nothing (ask.Merge m k) at e idle =
      merge_idle (incident_of d m r) (incident_of d k r) (is_attended d m r) (calls_of d m r)
      (elim (either_true (m == n) (k == n) e) [
        | inl f ↦ inl (at_number IsIdle m f idle)
        | inr f ↦ inr (at_number IsIdle k f idle)
      ])
  idle_changes_nothing (ask.Close m) at e idle =
      where_idle (incident_of d m r) (close_active (is_attended d m r)) (at_number IsIdle m e idle)
  idle_changes_nothing a at e idle = cc

  -- one that is not there: it is refused
  pub absent_is_refused : (a : Ask) (at : ℕ) → names_incident a n ≡ true
      → incident_of d n r ≡ None → desk_asks d a at r ≡ Err refusal.NoSuchIncident
  unfolding mobilise change_needs merge close show_incident propose
  absent_is_refused (ask.Incident m) at e none = rw (at_number (λ o. o ≡ None) m e none) refl
  absent_is_refused (ask.Propose m) at e none = rw (at_number (λ o. o ≡ None) m e none) refl
  absent_is_refused (ask.Mobilise m c) at e none = rw (at_number (λ o. o ≡ None) m e none) refl
  absent_is_refused (ask.Needs m needs) at e none = rw (at_number (λ o. o ≡ None) m e none) refl
  absent_is_refused (ask.Merge m k) at e none = elim (either_true (m == n) (k == n) e) [
    | inl f ↦ rw (at_number (λ o. o ≡ None) m f none) refl
    | inr f ↦
        ap (λ o. merge_of (incident_of d m r) o (is_attended d m r) (calls_of d m r))
        (at_number (λ o. o ≡ None) k f none)
        ∙ merge_none (incident_of d m r) (is_attended d m r) (calls_of d m r)
  ]
  absent_is_refused (ask.Close m) at e none = rw (at_number (λ o. o ≡ None) m e none) refl
  absent_is_refused a at e none = cc
