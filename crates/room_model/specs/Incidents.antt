-- A desk's asks about incidents.
use Rattle.std.specs.Prelude.{Bool, Err, List, None, Option, Some, [], length, map, min, nat_lt}
use Rattle.std.specs.Prelude.{not, ℕ, ◌-◌, ◌==◌, ◌||◌, ◌∷◌}
use Rattle.room_types.specs.declared.answers.IncidentLine.{IncidentLine}
use Rattle.room_types.specs.declared.answers.Served.{Served}
use Rattle.room_types.specs.declared.changes.Change.{Change}
use Rattle.room_types.specs.declared.changes.Change.TheVariants.{PutCall, PutIncident}
use Rattle.room_types.specs.declared.codes.Kind.{Kind}
use Rattle.room_types.specs.declared.codes.Kind.TheVariants.{Ambulance, Car, Support}
use Rattle.room_types.specs.declared.needs.Counts.{Counts}
use Rattle.room_types.specs.declared.codes.State.TheVariants.{Closed, Merged}
use Rattle.room_types.specs.declared.tables.Call.{Call}
use Rattle.room_types.specs.declared.tables.Incident.{Incident}
use Rattle.room_types.specs.declared.tables.Turn.{Turn}
use Rattle.room_types.specs.Codes.{is_active}
use Rattle.room_types.specs.Needs.{larger, need_of, needs_by}
use Rattle.room_model.specs.Decisions.{Verdict, done, refuse_if, show, where_active, where_found}
use Rattle.room_model.specs.Moments.{earlier}
use Rattle.room_model.specs.Queries.{active_incidents, calls_of, incident_of, is_attended, served}
use Rattle.room_model.specs.Queries.{turns_of}
use Rattle.room_model.specs.Room.{Room}
use Rattle.room_types.specs.declared.answers.Answer.TheVariants as answer
use Rattle.room_types.specs.declared.refusal_statuses.Refusal.TheVariants as refusal

-- what an incident lacks of a kind
abbrev pub lacking : ℕ → Incident → Room → Kind → ℕ
lacking d i r k = need_of i.needs k - served d i.number k r

-- ---- incidents
abbrev pub incident_line : ℕ → Room → Incident → IncidentLine
incident_line d r i = record {
  number = i.number;
  place = i.place;
  class = i.class;
  needs = i.needs;
  lack = needs_by (lacking d i r);
  opened = i.opened;
  calls = length (calls_of d i.number r);
}

unfoldable pub show_incidents : ℕ → Room → Verdict
show_incidents d r = show (answer.Incidents (map (incident_line d r) (active_incidents d r)))

-- ---- one incident
-- how many vehicles of each kind serve it
abbrev pub all_served : ℕ → ℕ → Room → Served
all_served d n r = record {
  ambulances = served d n Ambulance r;
  cars = served d n Car r;
  support = served d n Support r;
}

abbrev pub history_of : Option Incident → Served → List Call → List Turn → Verdict
history_of found serving calls turns = where_found found refusal.NoSuchIncident
    (λ i. show (answer.Incident (record {
      incident = i;
      served = serving;
      calls = calls;
      turns = turns;
    })))

-- active, closed and merged ones alike
unfoldable pub show_incident : ℕ → ℕ → Room → Verdict
show_incident d n r =
    history_of (incident_of d n r) (all_served d n r) (calls_of d n r) (turns_of d n r)

-- ---- needs
abbrev pub is_below : Counts → (Kind → ℕ) → Bool
is_below n got =
    nat_lt n.ambulances (got Ambulance)
    || (nat_lt n.cars (got Car) || nat_lt n.support (got Support))

abbrev pub needs_changed : Counts → (Kind → ℕ) → Incident → Verdict
needs_changed n got i = refuse_if (is_below n got) refusal.BelowServed
    (done (PutIncident (record i { needs = n }) ∷ []))

unfoldable pub change_needs : ℕ → ℕ → Counts → Room → Verdict
change_needs d n needs r =
    where_active (incident_of d n r) (needs_changed needs (λ k. served d n k r))

-- ---- merge
-- the incident that another goes into
abbrev pub joined : Incident → Incident → Incident
joined n m = record m {
  class = min n.class m.class;
  needs = larger n.needs m.needs;
  opened = min n.opened m.opened;
  first_order = earlier n.first_order m.first_order;
}

abbrev pub moved_call : ℕ → Call → Change
moved_call m c = PutCall (record c { incident = m })

abbrev pub merge_both : Incident → Incident → Bool → List Call → Verdict
merge_both n m attended calls =
    refuse_if (n.number == m.number) refusal.SameIncident
    (refuse_if (not (is_active n.state)) refusal.IncidentNotOpen
    (refuse_if (not (is_active m.state)) refusal.IncidentNotOpen
    (refuse_if attended refusal.StillAssigned
    (done (PutIncident (joined n m)
    ∷ PutIncident (record n { state = Merged m.number })
    ∷ map (moved_call m.number) calls)))))

abbrev pub merge_of : Option Incident → Option Incident → Bool → List Call → Verdict
merge_of None m attended calls = Err refusal.NoSuchIncident
merge_of (Some n) None attended calls = Err refusal.NoSuchIncident
merge_of (Some n) (Some m) attended calls = merge_both n m attended calls

unfoldable pub merge : ℕ → ℕ → ℕ → Room → Verdict
merge d n m r =
    merge_of (incident_of d n r) (incident_of d m r) (is_attended d n r) (calls_of d n r)

-- ---- close
abbrev pub close_active : Bool → Incident → Verdict
close_active attended i = refuse_if attended refusal.StillAssigned
    (done (PutIncident (record i { state = Closed }) ∷ []))

unfoldable pub close : ℕ → ℕ → Room → Verdict
close d n r = where_active (incident_of d n r) (close_active (is_attended d n r))
