-- The queue is the same without what stays behind.
use Rattle.std.proofs.Common.{ap, eqb-true, sym, ◌∙◌}
use Rattle.std.specs.Prelude.{Bool, None, Option, Some, cond, false, filter_map, not, refl, true, ℕ}
use Rattle.std.specs.Prelude.{◌&&◌, ◌++◌, ◌==◌, ◌||◌, ◌≡◌}
use Rattle.room_types.specs.Codes.{is_active, is_mobilised, is_normal}
use Rattle.room_types.specs.declared.answers.QueueEntry.{QueueEntry}
use Rattle.room_types.specs.declared.codes.Kind.{Kind}
use Rattle.room_types.specs.declared.codes.Kind.TheVariants.{Ambulance, Car, Support}
use Rattle.room_types.specs.declared.tables.Incident.{Incident}
use Rattle.room_types.specs.declared.tables.Turn.{Turn}
use Rattle.room_types.specs.declared.tables.Vehicle.{Vehicle}
use Rattle.room_model.proofs.Tests.{among_filter, and_same, filter_map_among}
use Rattle.room_model.specs.Moments.{age}
use Rattle.room_model.specs.Queries.{holders, open_turn}
use Rattle.room_model.specs.Queue.{entries, exception, overdue, shift_over, late_for_scene}
use Rattle.room_model.specs.Queue.{late_incident, late_turn, unanswered, uncovered, unacknowledged}
use Rattle.room_model.specs.Queue.{unacknowledged_turn, unserved}
use Rattle.room_model.specs.Room.{Room}
use Rattle.room_model.specs.RoomAgreements.{IsWellFormed}
use Rattle.dispatch_room_archive.proofs.AskedAlike.{active_among, filter_map_passing, found_stays}
use Rattle.dispatch_room_archive.proofs.AskedAlike.{incident_same, open_turn_same, report_settled}
use Rattle.dispatch_room_archive.proofs.AskedAlike.{served_same}
use Rattle.dispatch_room_archive.proofs.LeftBehind.{from_left, from_not, not_true}
use Rattle.dispatch_room_archive.specs.Continuation.{StaysBehind}
use Rattle.dispatch_room_archive.specs.Successor.{Behind, without}
use Rattle.room_types.specs.Ranks.{is_past}
use Rattle.room_types.specs.declared.ranks.Rank.TheVariants as rank

-- what is not active is not unserved
idle_none : (mine active more : Bool) (e : QueueEntry) → active ≡ false
    → cond (mine && (active && more)) (Some e) None ≡ None
idle_none true active more e f = ap (λ (b : Bool). cond (b && more) (Some e) None) f
idle_none false active more e f = refl

-- what is settled is no exception
settled_none : (mine cleared normal : Bool) (e : QueueEntry) → cleared || normal ≡ true
    → cond (mine && (not normal && not cleared)) (Some e) None ≡ None
settled_none true true true e f = refl
settled_none true true false e f = refl
settled_none true false true e f = refl
settled_none true false false e f = cc
settled_none false cleared normal e f = refl

module _ (since : ℕ) (b : Behind) (r : Room) (w : IsWellFormed r) (h : StaysBehind since b r)
    (d at : ℕ) where
  abbrev new : Room
  new = without b r

  unserved_by : (i : Incident) → b.incident i.division i.number ≡ false
      → unserved d at new i ≡ unserved d at r i
  unserved_by i spared =
      ap (λ (x : Bool).
      cond x (Some (record { rank = rank.Unserved; since = i.opened; number = i.number; callsign = None })) None)
      (and_same (i.division == d) _ _ (λ mine.
      ap (λ (n : Kind → ℕ).
      is_active i.state
      && ((n Ambulance == 0 && (n Car == 0 && n Support == 0)) && is_past rank.Unserved (age at i.opened)))
      (λ j k.
      served_same since b r w h d i.number (ap (λ x. b.incident x i.number) (sym (eqb-true i.division d mine)) ∙ spared)
      k j)))

  unserved_same : filter_map (unserved d at new) new.incidents
      ≡ filter_map (unserved d at r) r.incidents
  unserved_same =
      filter_map_among (unserved d at new) (unserved d at r) new.incidents
      (λ i m. unserved_by i (from_not _ (among_filter (λ i. not (b.incident i.division i.number)) r.incidents i m).1))
      ∙ filter_map_passing (unserved d at r) (λ i. not (b.incident i.division i.number)) r.incidents
      (λ i m e.
      idle_none (i.division == d) (is_active i.state) _ _ (not_true (is_active i.state)
      (λ f.
      let spared = active_among since b r w h i m f in
      let stayed : not (b.incident i.division i.number) ≡ true = ap not spared in cc)))

  unacknowledged_same : filter_map (unacknowledged d at new) r.vehicles ≡ filter_map (unacknowledged d at r) r.vehicles
  unacknowledged_same =
      ap (λ (f : Vehicle → Option QueueEntry). filter_map f r.vehicles)
      (λ j v.
      cond (v.holder == d && is_mobilised v.status)
      (unacknowledged_turn at v (open_turn_same since b r w h d v.callsign j))
      None)

  late_turn_same : (v : Vehicle) (o : Option Turn)
      → ((t : Turn) → o ≡ Some t → b.incident d t.incident ≡ false)
      → late_turn d at new v o ≡ late_turn d at r v o
  late_turn_same v None f = refl
  late_turn_same v (Some t) f = ap (late_incident at v) (incident_same since b r w h d t.incident (f t refl))

  late_by : (v : Vehicle) → late_for_scene d at new v ≡ late_for_scene d at r v
  late_by v =
      ap (λ o. cond (v.holder == d && is_mobilised v.status) (late_turn d at new v o) None)
      (open_turn_same since b r w h d v.callsign)
      ∙ ap (λ o. cond (v.holder == d && is_mobilised v.status) o None)
      (late_turn_same v (open_turn d v.callsign r) (found_stays since b r w h d v.callsign))

  exception_same : filter_map (exception d) new.reports ≡ filter_map (exception d) r.reports
  exception_same =
      filter_map_passing (exception d) (λ x. not (b.report x.callsign x.number)) r.reports
      (λ x m e.
      settled_none (x.division == d) x.cleared (is_normal x.outcome) _
      (report_settled since b r w h x m (from_left _ e)))

  uncovered_same : filter_map (uncovered d at new) r.points ≡ filter_map (uncovered d at r) r.points
  unfolding holders
  uncovered_same = refl

  pub entries_same : entries d at new ≡ entries d at r
  unfolding entries
  entries_same i =
      unserved_same i
      ++ (unacknowledged_same i
      ++ (filter_map_among (late_for_scene d at new) (late_for_scene d at r) r.vehicles (λ v m. late_by v) i
      ++ (exception_same i
      ++ (filter_map (overdue d at) r.loans
      ++ (filter_map (shift_over d at) r.vehicles
      ++ (uncovered_same i
      ++ filter_map (unanswered d at) r.offers))))))
