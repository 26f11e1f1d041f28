-- A desk's decision is made by its share.
use Rattle.std.proofs.Common.{ap, eq-eqb, sym, ◌∙◌}
use Rattle.std.proofs.lemmas.Cmp.{nat_cmp_total}
use Rattle.std.proofs.lemmas.Map.Lookups.{exact_unsigned}
use Rattle.std.specs.Ordering.{nat_cmp}
use Rattle.std.specs.Prelude.{Bool, List, None, Option, Some, [], cond, false, filter, filter_map}
use Rattle.std.specs.Prelude.{length, nat_lt, refl, ℕ, ℤ, ◌&&◌, ◌++◌, ◌==◌, ◌||◌, ◌∷◌, ◌≡◌}
use Rattle.room_place.specs.Choice.{first, least}
use Rattle.room_place.specs.declared.places.Place.{Place}
use Rattle.room_types.proofs.KeyedLaws.{row_filter}
use Rattle.room_types.specs.KeyedRows.{keep}
use Rattle.room_types.specs.Keys.{division_key, incident_key, numbered_cmp, owns_call}
use Rattle.room_types.specs.Keys.{owns_division, owns_incident, owns_loan, owns_offer, owns_point}
use Rattle.room_types.specs.Keys.{owns_report, owns_turn, owns_vehicle, pair_cmp, report_key}
use Rattle.room_types.specs.KeyLemmas.{exact_pair, numbered_total, pairs_total}
use Rattle.room_types.specs.declared.answers.QueueEntry.{QueueEntry}
use Rattle.room_types.specs.declared.asks.Move.{Move}
use Rattle.room_types.specs.declared.asks.Ask.{Ask}
use Rattle.room_types.specs.declared.asks.NewCall.{NewCall}
use Rattle.room_types.specs.declared.asks.Press.{Press}
use Rattle.room_types.specs.declared.codes.Kind.{Kind}
use Rattle.room_types.specs.declared.codes.Kind.TheVariants.{Ambulance, Car, Support}
use Rattle.room_types.specs.declared.tables.Incident.{Incident}
use Rattle.room_types.specs.declared.tables.Point.{Point}
use Rattle.room_types.specs.declared.tables.Turn.{Turn}
use Rattle.room_types.specs.declared.tables.Vehicle.{Vehicle}
use Rattle.room_types.specs.Texts.{Callsign}
use Rattle.room_model.proofs.AskLaws.{asked_same, clear_same}
use Rattle.room_model.proofs.FoundIncidents.{found_alike}
use Rattle.room_model.proofs.MoveFolds.{then_alike}
use Rattle.room_model.proofs.OwnChanges.{in_order_apply, in_order_own, own_apply_own}
use Rattle.room_model.proofs.PlainChanges.{move_plain}
use Rattle.room_model.proofs.Sights.{SeesAsked, SeesCover, SeesIncident, SeesVehicle, SeesVehicles}
use Rattle.room_model.proofs.Sights.{sees_beside}
use Rattle.room_model.proofs.Tests.{any_filter, filter_filter, filter_map_among, filter_map_filter}
use Rattle.room_model.proofs.Tests.{is_equal, keep_keep, keep_row, left_true}
use Rattle.room_model.specs.Decisions.{changes_of}
use Rattle.room_model.specs.Calls.{call_in, call_taken}
use Rattle.room_types.specs.Codes.{is_active, is_mobilised}
use Rattle.room_model.specs.Moments.{age}
use Rattle.room_model.specs.Queries.{active_incidents, borrowed, calls_of, held, incident_of}
use Rattle.room_model.specs.Queries.{incidents_opened, incidents_over, is_attended, is_candidate}
use Rattle.room_model.specs.Queries.{is_given, is_nearer, last_number, link_target, open_turn}
use Rattle.room_model.specs.Queries.{report_of, reports_of, served, turns_by, turns_of}
use Rattle.room_model.specs.Queue.{entries, exception, overdue, shift_over, late_for_scene}
use Rattle.room_model.specs.Queue.{late_incident, late_turn, unanswered, uncovered, unacknowledged}
use Rattle.room_model.specs.Queue.{unacknowledged_turn, unserved}
use Rattle.room_model.specs.Reports.{report_held, report_in}
use Rattle.room_model.specs.Room.{IsInOrder, Room, apply}
use Rattle.room_model.specs.Shares.{own}
use Rattle.room_model.specs.Step.{and_then, ask_of, course, desk_asks, moves_in, single_asks}
use Rattle.room_model.specs.Step.{verdict_of}
use Rattle.room_types.specs.Ranks.{is_past}
use Rattle.room_types.specs.declared.asks.Ask.TheVariants as ask
use Rattle.room_types.specs.declared.ranks.Rank.TheVariants as rank

module _ (d : ℕ) (r : Room) (in_order : IsInOrder r) where
  pub sees_own : SeesVehicles d (own d r) r
  sees_own =
      sees_beside d r in_order (filter (owns_incident d) r.incidents) (filter (owns_call d) r.calls)
      (filter (owns_turn d) r.turns) (filter (owns_report d) r.reports)

  pub incident_own : (n : ℕ) → incident_of d n (own d r) ≡ incident_of d n r
  unfolding incident_of
  incident_own n =
      row_filter pair_cmp incident_key pairs_total (owns_incident d) r.incidents (d, n) in_order.incidents
      ∙ keep_row pair_cmp incident_key (owns_incident d) r.incidents (d, n)
      (λ x h. eq-eqb x.division d (sym (ap (λ (p : ℕ × ℕ). p.0) (exact_pair (d, n) (incident_key x) (is_equal _ h)))))

  pub served_own : (n : ℕ) (k : Kind) → served d n k (own d r) ≡ served d n k r
  unfolding served
  served_own n k = ap length (filter_filter _ (owns_turn d) r.turns (λ x h. left_true _ _ h))

  pub attended_own : (n : ℕ) → is_attended d n (own d r) ≡ is_attended d n r
  unfolding is_attended
  attended_own n = any_filter _ (owns_turn d) r.turns (λ x h. left_true _ _ h)

  pub calls_own : (n : ℕ) → calls_of d n (own d r) ≡ calls_of d n r
  unfolding calls_of
  calls_own n = filter_filter _ (owns_call d) r.calls (λ x h. left_true _ _ h)

  turns_own : (n : ℕ) → turns_of d n (own d r) ≡ turns_of d n r
  unfolding turns_of
  turns_own n =
      ap (λ cs. filter (λ (t : Turn). t.division == d && (t.incident == n || is_given cs t.incident))
      (filter (owns_turn d) r.turns)) (calls_own n)
      ∙ filter_filter _ (owns_turn d) r.turns (λ x h. left_true _ _ h)

  pub sees_incident_own : (n : ℕ) → SeesIncident d n (own d r) r
  sees_incident_own n =
      record { same_incident = incident_own n; same_served = served_own n; same_attended = attended_own n }

  sees_vehicle_own : (c : Callsign) → SeesVehicle d c (own d r) r
  sees_vehicle_own c = record { same_held = sees_own.same_held c; same_lent = sees_own.same_lent c }

  sees_cover_own : SeesCover d (own d r) r
  sees_cover_own = record { same_point = sees_own.same_point; same_holders = sees_own.same_holders }

  pub active_own : active_incidents d (own d r) ≡ active_incidents d r
  unfolding active_incidents
  active_own = filter_filter _ (owns_incident d) r.incidents (λ x h. left_true _ _ h)

  pub opened_own : (from to : ℤ) → incidents_opened d from to (own d r)
      ≡ incidents_opened d from to r
  unfolding incidents_opened
  opened_own from to = filter_filter _ (owns_incident d) r.incidents (λ x h. left_true _ _ h)

  over_own : (from to : ℤ) → incidents_over d from to (own d r) ≡ incidents_over d from to r
  unfolding incidents_over
  over_own from to = filter_filter _ (owns_incident d) r.incidents (λ x h. left_true _ _ h)

  turns_by_own : (c : Callsign) → turns_by d c (own d r) ≡ turns_by d c r
  unfolding turns_by
  turns_by_own c = filter_filter _ (owns_turn d) r.turns (λ x h. left_true _ _ h)

  pub turn_own : (c : Callsign) → open_turn d c (own d r) ≡ open_turn d c r
  unfolding open_turn
  turn_own c = ap first (filter_filter _ (owns_turn d) r.turns (λ x h. left_true _ _ h))

  pub report_own : (c : Callsign) (n : ℕ) → report_of d c n (own d r) ≡ report_of d c n r
  unfolding report_of
  report_own c n =
      ap (keep (λ x. x.division == d))
      (row_filter numbered_cmp report_key numbered_total (owns_report d) r.reports (c, n) in_order.reports)
      ∙ keep_keep (λ x. x.division == d) (owns_report d) _ (λ x h. h)

  reports_own : (c : Callsign) → reports_of d c (own d r) ≡ reports_of d c r
  unfolding reports_of
  reports_own c = filter_filter _ (owns_report d) r.reports (λ x h. left_true _ _ h)

  pub last_number_own : last_number d (own d r) ≡ last_number d r
  unfolding last_number
  last_number_own =
      row_filter nat_cmp division_key nat_cmp_total (owns_division d) r.divisions d in_order.divisions
      ∙ keep_row nat_cmp division_key (owns_division d) r.divisions d
      (λ x h. eq-eqb x.number d (sym (exact_unsigned d x.number (is_equal _ h))))

  pub target_own : (p : Place) (at : ℕ) → link_target d p at (own d r) ≡ link_target d p at r
  unfolding link_target
  target_own p at =
      ap (least (is_nearer p))
      (filter_filter (is_candidate d p at) (owns_incident d) r.incidents (λ x h. left_true _ _ h))

  -- ---- the queue
  -- a test that fails for another division's rows
  off_division : {X : Type 0} (a b : Bool) (x : X) → a ≡ false → cond (a && b) (Some x) None ≡ None
  off_division a b x h = rw h refl

  off_share : {X : Type 0} (a b : Bool) (o : Option X) → a ≡ false → cond (a && b) o None ≡ None
  off_share a b o h = rw h refl

  unserved_own : (at : ℕ) → filter_map (unserved d at (own d r))
      (filter (owns_incident d) r.incidents) ≡ filter_map (unserved d at r) r.incidents
  unserved_own at =
      ap (λ (f : Incident → Option QueueEntry). filter_map f (filter (owns_incident d) r.incidents))
      (λ j i.
      cond (i.division == d
      && (is_active i.state
      && ((served_own i.number Ambulance j == 0
      && (served_own i.number Car j == 0 && served_own i.number Support j == 0))
      && is_past rank.Unserved (age at i.opened))))
      (Some (record { rank = rank.Unserved; since = i.opened; number = i.number; callsign = None })) None)
      ∙ filter_map_filter (unserved d at r) (owns_incident d) r.incidents (λ i h. off_share (i.division == d) _ _ h)

  unacknowledged_own : (at : ℕ) → filter_map (unacknowledged d at (own d r)) (filter (owns_vehicle d) r.vehicles)
      ≡ filter_map (unacknowledged d at r) r.vehicles
  unacknowledged_own at =
      ap (λ (f : Vehicle → Option QueueEntry). filter_map f (filter (owns_vehicle d) r.vehicles))
      (λ j v. cond (v.holder == d && is_mobilised v.status) (unacknowledged_turn at v (turn_own v.callsign j)) None)
      ∙ filter_map_filter (unacknowledged d at r) (owns_vehicle d) r.vehicles (λ v h. off_share (v.holder == d) _ _ h)

  late_same : (at : ℕ) (v : Vehicle) → late_for_scene d at (own d r) v ≡ late_for_scene d at r v
  late_same at v =
      ap (λ o. cond (v.holder == d && is_mobilised v.status) (late_turn d at (own d r) v o) None) (turn_own v.callsign)
      ∙ ap (λ o. cond (v.holder == d && is_mobilised v.status) o None) (late_turn_same (open_turn d v.callsign r))
    where
      late_turn_same : (o : Option Turn) → late_turn d at (own d r) v o ≡ late_turn d at r v o
      late_turn_same None = refl
      late_turn_same (Some t) = ap (late_incident at v) (incident_own t.incident)

  late_own : (at : ℕ) → filter_map (late_for_scene d at (own d r)) (filter (owns_vehicle d) r.vehicles)
      ≡ filter_map (late_for_scene d at r) r.vehicles
  late_own at =
      filter_map_among (late_for_scene d at (own d r)) (late_for_scene d at r) (filter (owns_vehicle d) r.vehicles)
      (λ v m. late_same at v)
      ∙ filter_map_filter (late_for_scene d at r) (owns_vehicle d) r.vehicles (λ v h. off_share (v.holder == d) _ _ h)

  exception_own : filter_map (exception d) (filter (owns_report d) r.reports)
      ≡ filter_map (exception d) r.reports
  exception_own = filter_map_filter (exception d) (owns_report d) r.reports (λ x h. off_share (x.division == d) _ _ h)

  overdue_own : (at : ℕ) → filter_map (overdue d at) (filter (owns_loan d) r.loans)
      ≡ filter_map (overdue d at) r.loans
  overdue_own at = filter_map_filter (overdue d at) (owns_loan d) r.loans (λ l h. off_share (owns_loan d l) _ _ h)

  shift_own : (at : ℕ) → filter_map (shift_over d at) (filter (owns_vehicle d) r.vehicles)
      ≡ filter_map (shift_over d at) r.vehicles
  shift_own at =
      filter_map_filter (shift_over d at) (owns_vehicle d) r.vehicles (λ v h. off_share (v.holder == d) _ _ h)

  uncovered_own : (at : ℕ) → filter_map (uncovered d at (own d r)) (filter (owns_point d) r.points)
      ≡ filter_map (uncovered d at r) r.points
  uncovered_own at =
      ap (λ (f : Point → Option QueueEntry). filter_map f (filter (owns_point d) r.points))
      (λ j p.
      cond (p.division == d && nat_lt (length (sees_own.same_holders p.number at j)) p.cover)
      (Some (record { rank = rank.Uncovered; since = 0; number = p.number; callsign = None })) None)
      ∙ filter_map_filter (uncovered d at r) (owns_point d) r.points (λ p h. off_share (p.division == d) _ _ h)

  unanswered_own : (at : ℕ) → filter_map (unanswered d at) (filter (owns_offer d) r.offers)
      ≡ filter_map (unanswered d at) r.offers
  unanswered_own at =
      filter_map_filter (unanswered d at) (owns_offer d) r.offers (λ o h. off_share (owns_offer d o) _ _ h)

  pub entries_own : (at : ℕ) → entries d at (own d r) ≡ entries d at r
  unfolding entries
  entries_own at i =
      unserved_own at i
      ++ (unacknowledged_own at i
      ++ (late_own at i
      ++ (exception_own i ++ (overdue_own at i ++ (shift_own at i ++ (uncovered_own at i ++ unanswered_own at i))))))

  -- ---- the decisions
  asked_own : (a : Ask) (at : ℕ) → SeesAsked d a at (own d r) r
  asked_own a at = record {
    same_plan = refl;
    vehicle = λ c e f. sees_vehicle_own c;
    same_borrowed = λ c e. sees_own.same_borrowed c;
    same_offered_by = λ c e. sees_own.same_offered_by c;
    same_offered_to = λ c e. sees_own.same_offered_to c;
    same_point = λ n e. sees_own.same_point n;
    same_last_turn = λ c v e f. turn_own c;
    cleared_alike = λ c n e. clear_same d (own d r) r c n (report_own c n);
    same_reports = λ c e. reports_own c;
    incident = λ n e. sees_incident_own n;
    same_calls = λ n e f. calls_own n;
    same_turns = λ n e. turns_own n;
    same_active = λ e. active_own;
    active = λ e i m. sees_incident_own i.number;
    same_active_calls = λ e f i m. calls_own i.number;
    same_opened = λ from to e. opened_own from to;
    same_classes = λ from to e. opened_own from to;
    same_found = λ from to x e. found_alike d (own d r) r from to x.sought (over_own from to) (λ c f. turns_by_own c);
    same_entries = λ e. entries_own at;
    same_all_held = λ e. sees_own.same_all_held;
    same_assignment = λ e. sees_own.same_assignment;
    same_eligible = λ e k. sees_own.same_eligible k at;
    cover = λ e f. sees_cover_own;
    same_points = λ e. sees_own.same_points;
    same_loans = λ e. sees_own.same_loans;
    same_offers = λ e. sees_own.same_offers;
  }

  pub single_own : (a : Ask) (at : ℕ) → single_asks d a at (own d r) ≡ single_asks d a at r
  single_own a at = asked_same d (own d r) r a at (asked_own a at)

  -- a call in the division, and a report of a vehicle that it holds
  pub call_own : (new : NewCall) → call_in d new (own d r) ≡ call_in d new r
  unfolding call_in
  call_own new =
      ap (λ t. call_taken d new t (last_number d (own d r))) (target_own new.place new.at)
      ∙ ap (call_taken d new (link_target d new.place new.at r)) last_number_own

  pub report_in_own : (c : Callsign) (p : Press) (at : ℕ)
      → report_in d c p at (own d r) ≡ report_in d c p at r
  unfolding report_in
  report_in_own c p at =
      ap (λ v. report_held v (open_turn d c (own d r)) (borrowed d c (own d r)) p at) (sees_own.same_held c)
      ∙ ap (λ t. report_held (held d c r) t (borrowed d c (own d r)) p at) (turn_own c)
      ∙ ap (λ l. report_held (held d c r) (open_turn d c r) l p at) (sees_own.same_borrowed c)

-- each move by the share of the room that it meets
course_own : (d : ℕ) (ms : List Move) (at : ℕ) (r : Room) → IsInOrder r
    → course d ms at (own d r) ≡ course d ms at r
course_own d [] at r order = refl
course_own d (m ∷ ms) at r order =
    let cs = changes_of (single_asks d (ask_of m) at r) in
    ap (λ x. and_then m x (λ cs. course d ms at (apply (own d r) cs))) (single_own d r order (ask_of m) at)
    ∙ then_alike m (single_asks d (ask_of m) at r) _ _
    (sym (course_own d ms at (apply (own d r) cs) (in_order_apply (own d r) cs (in_order_own d r order)))
    ∙ ap (course d ms at) (sym (own_apply_own d r cs order (move_plain d m at r)))
    ∙ course_own d ms at (apply r cs) (in_order_apply r cs order))

pub desk_own : (d : ℕ) (r : Room) → IsInOrder r → (a : Ask) (at : ℕ)
    → desk_asks d a at (own d r) ≡ desk_asks d a at r
desk_own d r order (ask.Moves ms) at = ap verdict_of (course_own d (moves_in ms) at r order)
desk_own d r order a at = single_own d r order a at

-- in two rooms with equal shares a desk's request is decided alike
pub single_equal : (d : ℕ) (a : Ask) (at : ℕ) (r s : Room) → IsInOrder r → IsInOrder s
    → own d r ≡ own d s → single_asks d a at r ≡ single_asks d a at s
single_equal d a at r s x y same =
    sym (single_own d r x a at) ∙ ap (single_asks d a at) same ∙ single_own d s y a at

pub desk_equal : (d : ℕ) (a : Ask) (at : ℕ) (r s : Room) → IsInOrder r → IsInOrder s
    → own d r ≡ own d s → desk_asks d a at r ≡ desk_asks d a at s
desk_equal d a at r s x y same = sym (desk_own d r x a at) ∙ ap (desk_asks d a at) same ∙ desk_own d s y a at
