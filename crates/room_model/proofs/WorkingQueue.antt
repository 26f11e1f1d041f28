-- The queue is made by the rows that it reads.
use Rattle.std.proofs.Common.{ap, ◌∙◌}
use Rattle.std.specs.Prelude.{Bool, None, Option, Some, cond, false, filter, filter_map, length}
use Rattle.std.specs.Prelude.{nat_lt, not, refl, true, ℕ, ◌&&◌, ◌++◌, ◌==◌, ◌||◌, ◌≡◌}
use Rattle.room_types.specs.Codes.{is_active, is_mobilised, is_normal}
use Rattle.room_types.specs.Keys.{owns_loan, owns_offer, owns_point, owns_vehicle}
use Rattle.room_types.specs.Slices.{IsActive}
use Rattle.room_types.specs.declared.answers.QueueEntry.{QueueEntry}
use Rattle.room_types.specs.declared.codes.Kind.{Kind}
use Rattle.room_types.specs.declared.codes.Kind.TheVariants.{Ambulance, Car, Support}
use Rattle.room_types.specs.declared.tables.Incident.{Incident}
use Rattle.room_types.specs.declared.tables.Point.{Point}
use Rattle.room_types.specs.declared.tables.Turn.{Turn}
use Rattle.room_types.specs.declared.tables.Vehicle.{Vehicle}
use Rattle.room_model.proofs.Sights.{SeesIncident}
use Rattle.room_model.proofs.Tests.{among_filter, and_same, filter_map_among, filter_map_filter}
use Rattle.room_model.proofs.Tests.{guard_none, guarded_none}
use Rattle.room_model.proofs.WorkingDesk.{found_active, holders_read, incident_active}
use Rattle.room_model.proofs.WorkingDesk.{open_turn_read, sees_active}
use Rattle.room_model.specs.Moments.{age}
use Rattle.room_model.specs.Queries.{incident_of, open_turn}
use Rattle.room_model.specs.Queue.{entries, exception, overdue, shift_over, late_for_scene}
use Rattle.room_model.specs.Queue.{late_incident, late_turn, unanswered, uncovered, unacknowledged}
use Rattle.room_model.specs.Queue.{unacknowledged_turn, unserved}
use Rattle.room_model.specs.Room.{Room}
use Rattle.room_model.specs.RoomAgreements.{IsWellFormed}
use Rattle.room_model.specs.WorkingRows.{names_report, reads_incident, reads_report, working}
use Rattle.room_types.specs.declared.asks.Ask.TheVariants as ask
use Rattle.room_types.specs.Ranks.{is_past}
use Rattle.room_types.specs.declared.ranks.Rank.TheVariants as rank

off_share : {X : Type 0} (b c : Bool) (o : Option X) → b && true ≡ false
    → cond (b && c) o None ≡ None
off_share true c o h = cc
off_share false c o h = refl

module _ (d at : ℕ) (r : Room) (formed : IsWellFormed r) where
  abbrev seen : Room
  seen = working d ask.Queue at r

  unserved_by : (i : Incident) → ((h : i.division == d ≡ true) (g : is_active i.state ≡ true)
      → SeesIncident d i.number seen r) → unserved d at seen i ≡ unserved d at r i
  unserved_by i f =
      ap (λ (b : Bool).
      cond b (Some (record { rank = rank.Unserved; since = i.opened; number = i.number; callsign = None })) None)
      (and_same (i.division == d) _ _ (λ h. and_same (is_active i.state) _ _ (λ g. let see = f h g in
      ap (λ (n : Kind → ℕ).
      (n Ambulance == 0 && (n Car == 0 && n Support == 0)) && is_past rank.Unserved (age at i.opened))
      (λ j k. see.same_served k j))))

  unserved_read : filter_map (unserved d at seen) seen.incidents
      ≡ filter_map (unserved d at r) r.incidents
  unserved_read =
      filter_map_among (unserved d at seen) (unserved d at r) _
      (λ i m.
      unserved_by i (λ h g.
      sees_active d ask.Queue at r formed refl i
      (among_filter (λ i. i.division == d && reads_incident ask.Queue at i) r.incidents i m).0 h g))
      ∙ filter_map_filter (unserved d at r) (λ i. i.division == d && reads_incident ask.Queue at i) r.incidents
      (λ i h. guard_none (i.division == d) (is_active i.state) (false || false) _ _ h)

  unacknowledged_read : filter_map (unacknowledged d at seen) seen.vehicles
      ≡ filter_map (unacknowledged d at r) r.vehicles
  unacknowledged_read =
      ap (λ (f : Vehicle → Option QueueEntry). filter_map f (filter (λ v. owns_vehicle d v && true) r.vehicles))
      (λ j v.
      cond (v.holder == d && is_mobilised v.status)
      (unacknowledged_turn at v (open_turn_read d ask.Queue at r formed refl v.callsign j)) None)
      ∙ filter_map_filter (unacknowledged d at r) (λ v. owns_vehicle d v && true) r.vehicles
      (λ v h. off_share (v.holder == d) _ _ h)

  late_turn_same : (v : Vehicle) (o : Option Turn)
      → ((t : Turn) → o ≡ Some t → IsActive (incident_of d t.incident r))
      → late_turn d at seen v o ≡ late_turn d at r v o
  late_turn_same v None h = refl
  late_turn_same v (Some t) h =
      ap (late_incident at v) (incident_active d ask.Queue at r formed refl t.incident (h t refl))

  late_same : (v : Vehicle) → late_for_scene d at seen v ≡ late_for_scene d at r v
  late_same v =
      ap (λ o. cond (v.holder == d && is_mobilised v.status) (late_turn d at seen v o) None)
      (open_turn_read d ask.Queue at r formed refl v.callsign)
      ∙ ap (λ o. cond (v.holder == d && is_mobilised v.status) o None)
      (late_turn_same v (open_turn d v.callsign r) (found_active d ask.Queue at r formed refl v.callsign))

  late_read : filter_map (late_for_scene d at seen) seen.vehicles ≡ filter_map (late_for_scene d at r) r.vehicles
  late_read =
      filter_map_among (late_for_scene d at seen) (late_for_scene d at r)
      (filter (λ v. owns_vehicle d v && true) r.vehicles)
      (λ v m. late_same v)
      ∙ filter_map_filter (late_for_scene d at r) (λ v. owns_vehicle d v && true) r.vehicles
      (λ v h. off_share (v.holder == d) _ _ h)

  exception_read : filter_map (exception d) seen.reports ≡ filter_map (exception d) r.reports
  exception_read =
      filter_map_filter (exception d) (λ x. x.division == d && reads_report ask.Queue x) r.reports
      (λ x h.
      guarded_none (x.division == d) (not (is_normal x.outcome) && not x.cleared)
      (names_report ask.Queue x.callsign x.number) _ h)

  uncovered_read : filter_map (uncovered d at seen) seen.points
      ≡ filter_map (uncovered d at r) r.points
  uncovered_read =
      ap (λ (f : Point → Option QueueEntry). filter_map f (filter (λ p. owns_point d p && true) r.points))
      (λ j p.
      cond (p.division == d && nat_lt (length (holders_read d ask.Queue at r formed (λ k. refl) p.number at j)) p.cover)
      (Some (record { rank = rank.Uncovered; since = 0; number = p.number; callsign = None })) None)
      ∙ filter_map_filter (uncovered d at r) (λ p. owns_point d p && true) r.points
      (λ p h. off_share (p.division == d) _ _ h)

  pub entries_read : entries d at seen ≡ entries d at r
  unfolding entries
  entries_read i =
      unserved_read i ++ (unacknowledged_read i ++ (late_read i ++ (exception_read i
      ++ (filter_map_filter (overdue d at) (λ l. owns_loan d l && true) r.loans (λ l h. off_share (owns_loan d l) _ _ h)
      i
      ++ (filter_map_filter (shift_over d at) (λ v. owns_vehicle d v && true) r.vehicles
      (λ v h. off_share (v.holder == d) _ _ h) i
      ++ (uncovered_read i
      ++ filter_map_filter (unanswered d at) (λ o. owns_offer d o && true) r.offers
      (λ o h. off_share (owns_offer d o) _ _ h) i))))))
