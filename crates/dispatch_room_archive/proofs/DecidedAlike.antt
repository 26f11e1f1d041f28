-- An event that doesn't speak of what stayed behind is decided alike without it.
use Rattle.std.proofs.Common.{ap, eq-eqb, eqb-true, inl, inr, subst, sym, ◌∙◌}
use Rattle.std.specs.List.{list_any}
use Rattle.std.specs.Prelude.{Bool, Err, None, Option, Some, cond, false, not, refl, true, ℕ, ◌&&◌}
use Rattle.std.specs.Prelude.{◌==◌, ◌≡◌}
use Rattle.room_place.specs.Plans.{division_of}
use Rattle.room_types.specs.KeyedRows.{keep, row_at}
use Rattle.room_types.specs.Keys.{numbered_cmp, report_key, same_callsign}
use Rattle.room_types.specs.Texts.{Callsign}
use Rattle.room_types.specs.declared.asks.Ask.{Ask}
use Rattle.room_types.specs.declared.asks.NewCall.{NewCall}
use Rattle.room_types.specs.declared.asks.Press.{Press}
use Rattle.room_types.specs.declared.asks.Who.TheVariants.{Crew, Position}
use Rattle.room_types.specs.declared.tables.Assignment.{Assignment}
use Rattle.room_types.specs.declared.tables.Call.{Call}
use Rattle.room_types.specs.declared.tables.Report.{Report}
use Rattle.room_types.specs.declared.tables.Vehicle.{Vehicle}
use Rattle.room_model.proofs.AskLaws.{asked_same}
use Rattle.room_model.proofs.Tests.{either_true, filter_among}
use Rattle.room_model.proofs.Sights.{SeesAsked}
use Rattle.room_model.proofs.SliceLaws.{order_active}
use Rattle.room_model.specs.Calls.{call_in, call_kept, call_somewhere, call_taken, new_call}
use Rattle.room_model.specs.Calls.{take_call}
use Rattle.room_model.specs.CrewJobs.{job_in, job_of, show_job}
use Rattle.room_model.specs.Decisions.{refuse_if, show, where_found}
use Rattle.room_model.specs.Queries.{all_held, assignment_at, assignment_of, borrowed, held}
use Rattle.room_model.specs.Queries.{kept_call, kept_report, last_number, loans_of, offered_by}
use Rattle.room_model.specs.Queries.{offered_to, offers_of, point_of, points_of, report_of}
use Rattle.room_model.specs.Queries.{reports_of, vehicle_at}
use Rattle.room_model.specs.Queue.{clear, clear_found}
use Rattle.room_model.specs.Reports.{report_held, report_in, report_kept, report_somewhere}
use Rattle.room_model.specs.Reports.{take_report}
use Rattle.room_model.specs.Room.{Room}
use Rattle.room_model.specs.Step.{position_asks, single_asks, who_asks}
use Rattle.room_model.specs.RoomAgreements.{IsWellFormed}
use Rattle.room_model.specs.WorkingRows.{NamedIncidents, NoIncident, OneIncident, TwoIncidents}
use Rattle.room_model.specs.WorkingRows.{incidents_named, is_among}
use Rattle.dispatch_room_archive.proofs.AskedAlike.{actives_same, calls_same, cover_same}
use Rattle.dispatch_room_archive.proofs.AskedAlike.{eligible_same, found_same, incident_same}
use Rattle.dispatch_room_archive.proofs.AskedAlike.{kept_call_same, kept_report_same, left_false}
use Rattle.dispatch_room_archive.proofs.AskedAlike.{none_passes, of_both, open_turn_same}
use Rattle.dispatch_room_archive.proofs.AskedAlike.{opened_same, right_false, sees_same}
use Rattle.dispatch_room_archive.proofs.AskedAlike.{shown_stays, target_same, turns_same}
use Rattle.dispatch_room_archive.proofs.AskedAlike.{vehicle_same}
use Rattle.dispatch_room_archive.proofs.QueueAlike.{entries_same}
use Rattle.dispatch_room_archive.proofs.RenewedAgreements.{active_stays}
use Rattle.dispatch_room_archive.proofs.RowsLeft.{report_gone}
use Rattle.dispatch_room_archive.specs.Continuation.{IsSettled, StaysBehind, looks_back}
use Rattle.dispatch_room_archive.specs.Continuation.{sends_again, stayed_behind}
use Rattle.dispatch_room_archive.specs.Successor.{Behind, without}
use Rattle.room_types.specs.declared.answers.Answer.TheVariants as answer
use Rattle.room_types.specs.declared.asks.Ask.TheVariants as ask
use Rattle.room_types.specs.declared.refusal_statuses.Refusal.TheVariants as refusal

module _ (since : ℕ) (b : Behind) (r : Room) (w : IsWellFormed r) (h : StaysBehind since b r) where
  abbrev new : Room
  new = without b r

  clear_settled : (v : Option Vehicle) (d n : ℕ) (o : Option Report) → IsSettled v n o
      → clear_found (keep (λ x. x.division == d) o) ≡ Err refusal.NoSuchException
  unfolding refuse_if
  clear_settled v d n None g = absurd g
  clear_settled None d n (Some x) g = absurd g
  clear_settled (Some v) d n (Some x) g = of (x.division == d)
    where
      of : (mine : Bool) → clear_found (cond mine (Some x) None) ≡ Err refusal.NoSuchException
      of true = rw g.0 refl
      of false = refl

  cleared_same : (d : ℕ) (c : Callsign) (n : ℕ) → clear d c n new ≡ clear d c n r
  unfolding clear report_of kept_report
  cleared_same d c n = (elim (b.report c n) as (λ (x : Bool). b.report c n ≡ x → clear d c n new ≡ clear d c n r) [
    | true ↦
        λ e.
        ap (λ o. clear_found (keep (λ (x : Report). x.division == d) o)) (report_gone b r w.order c n e)
        ∙ sym (clear_settled (vehicle_at c r) d n (row_at numbered_cmp report_key r.reports (c, n)) (h.reports c n e))
    | false ↦
        λ e. ap (λ o. clear_found (keep (λ (x : Report). x.division == d) o)) (kept_report_same since b r w h c n e)
  ]) refl

  -- a vehicle's reports, where none of them stayed behind
  reports_same : (d : ℕ) (c : Callsign)
      → list_any (λ x. (x.division == d && same_callsign c x.callsign) && b.report x.callsign x.number) r.reports
      ≡ false → reports_of d c new ≡ reports_of d c r
  unfolding reports_of
  reports_same d c none =
      filter_among _ (λ x. not (b.report x.callsign x.number)) r.reports
      (λ x m g.
      ap not (of_both (x.division == d && same_callsign c x.callsign) _ g
      (none_passes (λ x. (x.division == d && same_callsign c x.callsign) && b.report x.callsign x.number) r.reports x
      none m)))

  -- an incident that is named is there, where none that stayed behind is named
  spared : (d n : ℕ) (named : NamedIncidents) → stayed_behind b d named ≡ false
      → is_among named n ≡ true → b.incident d n ≡ false
  spared d n NoIncident e there = cc
  spared d n (OneIncident m) e there = subst (λ k. b.incident d k ≡ false) (eqb-true m n there) e
  spared d n (TwoIncidents m k) e there = elim (either_true (m == n) (k == n) there) [
    | inl f ↦ subst (λ k. b.incident d k ≡ false) (eqb-true m n f) (left_false (b.incident d m) _ e)
    | inr f ↦ subst (λ k. b.incident d k ≡ false) (eqb-true k n f) (right_false (b.incident d m) _ e)
  ]

  sees_new : (d : ℕ) (a : Ask) (at : ℕ) → stayed_behind b d (incidents_named a) ≡ false
      → looks_back since b d r a ≡ false
      → SeesAsked d a at new r
  unfolding all_held assignment_of point_of points_of offered_by offered_to offers_of loans_of borrowed
  sees_new d a at e g =
      record {
        same_plan = refl;
        vehicle = λ c f k. vehicle_same since b r w h d c;
        same_borrowed = λ c f. refl;
        same_offered_by = λ c f. refl;
        same_offered_to = λ c f. refl;
        same_point = λ n f. refl;
        same_last_turn = λ c v f k. open_turn_same since b r w h d c;
        cleared_alike = λ c n f. cleared_same d c n;
        same_reports = λ c f. reports_same d c (rw f at g);
        incident = λ n f. sees_same since b r w h d n (spared d n (incidents_named a) e f);
        same_calls = λ n f k. calls_same since b r w h d n (spared d n (incidents_named a) e f);
        same_turns = λ n f. turns_same since b r w h d n
            (spared d n (incidents_named a) e (rw f (eq-eqb n n refl))) (rw f at g);
        same_active = λ f. actives_same since b r w h d;
        active = λ f i m. sees_same since b r w h d i.number (shown_stays since b r w h d i m);
        same_active_calls = λ f k i m. calls_same since b r w h d i.number (shown_stays since b r w h d i m);
        same_opened = λ from to f.
            opened_same since b r w h d from to (subst (λ x. looks_back since b d r x ≡ false) f g);
        same_classes = λ from to f.
            opened_same since b r w h d from to (subst (λ x. looks_back since b d r x ≡ false) f g);
        same_found = λ from to x f.
            found_same since b r w h d from to x.sought (subst (λ y. looks_back since b d r y ≡ false) f g);
        same_entries = λ f. entries_same since b r w h d at;
        same_all_held = λ f. refl;
        same_assignment = λ f c. refl;
        same_eligible = λ f k. eligible_same since b r w h d k at;
        cover = λ f k. cover_same since b r w h d;
        same_points = λ f. refl;
        same_loans = λ f. refl;
        same_offers = λ f. refl;
      }

  pub single_same : (d : ℕ) (a : Ask) (at : ℕ) → stayed_behind b d (incidents_named a) ≡ false
      → looks_back since b d r a ≡ false → single_asks d a at new ≡ single_asks d a at r
  single_same d a at e g = asked_same d new r a at (sees_new d a at e g)

  -- ---- a call
  somewhere_same : (o : Option ℕ) (x : NewCall) → call_somewhere o x new ≡ call_somewhere o x r
  unfolding call_in last_number
  somewhere_same None x = refl
  somewhere_same (Some d) x = ap (λ i. call_taken d x i (last_number d r)) (target_same since b r w h d x.place x.at)

  call_same : (x : NewCall) → b.call x.position x.serial ≡ false → take_call x new ≡ take_call x r
  call_same x e =
      ap (λ o. call_kept o x new) (kept_call_same since b r w h x.position x.serial e)
      ∙ of (kept_call x.position x.serial r)
    where
      of : (o : Option Call) → call_kept o x new ≡ call_kept o x r
      of (Some k) = refl
      of None = somewhere_same (division_of r.plan x.place) x

  pub position_same : (p : ℕ) (a : Ask) (at : ℕ) → sends_again b (Position p) a ≡ false
      → position_asks p a at new ≡ position_asks p a at r
  position_same p (ask.Call f) at e = call_same (new_call p f at) e
  position_same p ask.Last at e = ap (λ n. show (answer.LastSerial n)) (h.serials p)
  position_same p a at e = refl

  -- ---- a crew's asks
  report_in_same : (d : ℕ) (c : Callsign) (p : Press) (at : ℕ)
      → report_in d c p at new ≡ report_in d c p at r
  unfolding report_in held borrowed
  report_in_same d c p at =
      ap (λ t. report_held (held d c r) t (borrowed d c r) p at) (open_turn_same since b r w h d c)

  report_same : (c : Callsign) (p : Press) (at : ℕ) → b.report c p.number ≡ false
      → take_report c p at new ≡ take_report c p at r
  unfolding vehicle_at
  report_same c p at e =
      ap (λ o. report_kept o c p at new) (kept_report_same since b r w h c p.number e) ∙ of (kept_report c p.number r)
    where
      placed : (v : Option Vehicle) → report_somewhere v c p at new ≡ report_somewhere v c p at r
      placed None = refl
      placed (Some v) = report_in_same v.holder c p at

      of : (o : Option Report) → report_kept o c p at new ≡ report_kept o c p at r
      of (Some k) = refl
      of None = placed (vehicle_at c r)

  -- its order's incident is active, so it is there with its calls
  order_same : (c : Callsign) (o : Option Assignment) → assignment_at c r ≡ o
      → job_in new o ≡ job_in r o
  unfolding assignment_at
  order_same c None e = refl
  order_same c (Some a) e =
      let spared = active_stays since b r w h a.division a.incident (order_active r w c a e) in
      λ i v.
      job_of v a (incident_same since b r w h a.division a.incident spared i)
      (calls_same since b r w h a.division a.incident spared i)

  job_same : (c : Callsign) → show_job c new ≡ show_job c r
  unfolding vehicle_at assignment_at
  job_same c =
      ap (where_found (vehicle_at c r) refusal.NoSuchVehicle) (order_same c (assignment_at c r) refl)

  pub crew_same : (c : Callsign) (a : Ask) (at : ℕ) → sends_again b (Crew c) a ≡ false
      → who_asks (Crew c) a at new ≡ who_asks (Crew c) a at r
  unfolding vehicle_at assignment_at
  crew_same c ask.Order at e = refl
  crew_same c ask.Job at e = job_same c
  crew_same c (ask.Report p) at e = report_same c p at e
  crew_same c ask.Last at e = refl
  crew_same c a at e = refl
