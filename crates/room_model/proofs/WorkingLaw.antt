-- For each ask of a desk: decided by the rows that it reads, as by the whole room.
use Rattle.std.proofs.Common.{ap, eq-eqb, subst, sym}
use Rattle.std.specs.Ordering.{is_eq}
use Rattle.std.specs.Prelude.{Some, not, refl, true, ℕ, ℤ, ◌&&◌, ◌==◌, ◌≡◌}
use Rattle.room_types.specs.Codes.{is_active, is_merged}
use Rattle.room_types.specs.Keys.{numbered_cmp, report_key, same_callsign}
use Rattle.room_types.specs.KeyLemmas.{exact_numbered}
use Rattle.room_types.specs.declared.asks.Ask.{Ask}
use Rattle.room_types.specs.declared.asks.Search.{Search}
use Rattle.room_types.specs.declared.asks.Sought.TheVariants.{Sent}
use Rattle.room_types.specs.declared.tables.Report.{Report}
use Rattle.room_types.specs.declared.tables.Vehicle.{Vehicle}
use Rattle.room_types.specs.Texts.{Callsign}
use Rattle.room_model.proofs.AskLaws.{asked_same, clear_same, same_self}
use Rattle.room_model.proofs.FoundIncidents.{found_alike}
use Rattle.room_model.proofs.Sights.{SeesAsked}
use Rattle.room_model.proofs.Tests.{both_true, filter_filter, is_equal, left_true, right_true}
use Rattle.room_model.proofs.WorkingDesk.{active_incidents_read, all_held_read, assignment_read}
use Rattle.room_model.proofs.WorkingDesk.{borrowed_named, calls_read, calls_shown, eligible_read}
use Rattle.room_model.proofs.WorkingDesk.{last_turn_read, loans_read, number_named}
use Rattle.room_model.proofs.WorkingDesk.{offered_by_named, offered_to_named, offers_read}
use Rattle.room_model.proofs.WorkingDesk.{point_named, points_read, report_named, sees_cover}
use Rattle.room_model.proofs.WorkingDesk.{sees_named, sees_shown, sees_vehicle, turns_read}
use Rattle.room_model.proofs.WorkingQueue.{entries_read}
use Rattle.room_model.specs.ClosedIncidents.{incidents_found}
use Rattle.room_model.specs.Queries.{held, incidents_opened, incidents_over, open_turn, reports_of}
use Rattle.room_model.specs.Queries.{turns_by, turns_of}
use Rattle.room_model.specs.Queue.{clear, entries}
use Rattle.room_model.specs.Room.{Room}
use Rattle.room_model.specs.Step.{single_asks}
use Rattle.room_model.specs.RoomAgreements.{IsWellFormed}
use Rattle.room_model.specs.WorkingRows.{is_sought_by, reads_incident, reads_report, working}
use Rattle.room_types.specs.declared.asks.Ask.TheVariants as ask

opened_read : (d : ℕ) (from to : ℤ) (at : ℕ) (r : Room)
    → incidents_opened d from to (working d (ask.Times from to) at r) ≡ incidents_opened d from to r
unfolding incidents_opened
opened_read d from to at r =
    filter_filter _ (λ i. i.division == d && reads_incident (ask.Times from to) at i) r.incidents
    (λ i g. both_true _ _ (left_true _ _ g) (right_true (not (is_merged i.state)) _ (right_true _ _ g)))

classes_read : (d : ℕ) (from to : ℤ) (at : ℕ) (r : Room)
    → incidents_opened d from to (working d (ask.ClassTimes from to) at r) ≡ incidents_opened d from to r
unfolding incidents_opened
classes_read d from to at r =
    filter_filter _ (λ i. i.division == d && reads_incident (ask.ClassTimes from to) at i) r.incidents
    (λ i g. both_true _ _ (left_true _ _ g) (right_true (not (is_merged i.state)) _ (right_true _ _ g)))

-- ---- a search, by the incidents of its seconds and the turns of its vehicle
module _ (d : ℕ) (from to : ℤ) (x : Search) (at : ℕ) (r : Room) where
  over_read : incidents_over d from to (working d (ask.Closed from to x) at r) ≡ incidents_over d from to r
  unfolding incidents_over
  over_read =
      filter_filter _ (λ i. i.division == d && reads_incident (ask.Closed from to x) at i) r.incidents
      (λ i g. both_true _ _ (left_true _ _ g) (right_true (not (is_active i.state)) _ (right_true _ _ g)))

  turns_by_read : (c : Callsign) → x.sought ≡ Sent c
      → turns_by d c (working d (ask.Closed from to x) at r) ≡ turns_by d c r
  unfolding turns_by
  turns_by_read c e =
      filter_filter _ (λ t. t.division == d && is_sought_by x.sought t) r.turns
      (λ t g. subst (λ y. (t.division == d && is_sought_by y t) ≡ true) (sym e) g)

  found_read : incidents_found d from to x.sought (working d (ask.Closed from to x) at r)
      ≡ incidents_found d from to x.sought r
  found_read = found_alike d (working d (ask.Closed from to x) at r) r from to x.sought over_read turns_by_read

reports_read : (d : ℕ) (c : Callsign) (at : ℕ) (r : Room)
    → reports_of d c (working d (ask.Reports c) at r) ≡ reports_of d c r
unfolding reports_of
reports_read d c at r =
    filter_filter _ (λ x. x.division == d && reads_report (ask.Reports c) x) r.reports (λ x g. g)

report_read : (c : Callsign) (n : ℕ) (x : Report)
    → is_eq (numbered_cmp (c, n) (report_key x)) ≡ true → reads_report (ask.Clear c n) x ≡ true
report_read c n x e =
    let key : (c, n) ≡ report_key x = exact_numbered (c, n) (report_key x) (is_equal _ e) in
    both_true _ _ (subst (λ k. same_callsign c k ≡ true) (ap (λ (p : Callsign × ℕ). p.0) key) (same_self c))
    (eq-eqb n x.number (ap (λ (p : Callsign × ℕ). p.1) key))

module _ (d at : ℕ) (r : Room) (formed : IsWellFormed r) where
  cleared_read : (c : Callsign) (n : ℕ)
      → clear d c n (working d (ask.Clear c n) at r) ≡ clear d c n r
  cleared_read c n =
      clear_same d _ r c n (report_named d (ask.Clear c n) at r formed c n (report_read c n))

  -- what holds for one ask, of any that is this one
  turn_of : (a : Ask) (c : Callsign) (v : Vehicle) → a ≡ ask.StandDown c → held d c r ≡ Some v
      → open_turn d c (working d a at r) ≡ open_turn d c r
  turn_of a c v e there =
      subst (λ x. open_turn d c (working d x at r) ≡ open_turn d c r) (sym e)
      (last_turn_read d at r formed c v there)

  asked_read : (a : Ask) → SeesAsked d a at (working d a at r) r
  asked_read a = record {
    same_plan = refl;
    vehicle = sees_vehicle d a at r formed;
    same_borrowed = borrowed_named d a at r formed;
    same_offered_by = offered_by_named d a at r formed;
    same_offered_to = offered_to_named d a at r formed;
    same_point = point_named d a at r formed;
    same_last_turn = turn_of a;
    cleared_alike = λ c n e. subst (λ x. clear d c n (working d x at r) ≡ clear d c n r) (sym e) (cleared_read c n);
    same_reports = λ c e.
        subst (λ x. reports_of d c (working d x at r) ≡ reports_of d c r) (sym e) (reports_read d c at r);
    incident = sees_named d a at r formed;
    same_calls = λ n e calls. calls_read d a at r formed n calls (number_named d a at r formed n e);
    same_turns =
        λ n e. subst (λ x. turns_of d n (working d x at r) ≡ turns_of d n r) (sym e) (turns_read d at r formed n);
    same_active = active_incidents_read d a at r formed;
    active = sees_shown d a at r formed;
    same_active_calls = calls_shown d a at r formed;
    same_opened = λ from to e.
        subst (λ x. incidents_opened d from to (working d x at r) ≡ incidents_opened d from to r) (sym e)
        (opened_read d from to at r);
    same_classes = λ from to e.
        subst (λ x. incidents_opened d from to (working d x at r) ≡ incidents_opened d from to r) (sym e)
        (classes_read d from to at r);
    same_found = λ from to x e.
        subst (λ y. incidents_found d from to x.sought (working d y at r) ≡ incidents_found d from to x.sought r)
        (sym e)
        (found_read d from to x at r);
    same_entries = λ e.
        subst (λ x. entries d at (working d x at r) ≡ entries d at r) (sym e) (entries_read d at r formed);
    same_all_held = all_held_read d a at r formed;
    same_assignment = λ e c. assignment_read d a at r formed c e;
    same_eligible = λ all k. eligible_read d a at r formed all k at;
    cover = sees_cover d a at r formed;
    same_points = points_read d a at r formed;
    same_loans = loans_read d a at r formed;
    same_offers = offers_read d a at r formed;
  }

pub desk_working : (d : ℕ) (r : Room) → IsWellFormed r → (a : Ask) (at : ℕ)
    → single_asks d a at (working d a at r) ≡ single_asks d a at r
desk_working d r formed a at = asked_same d _ r a at (asked_read d at r formed a)
