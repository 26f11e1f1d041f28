-- What doesn't speak of offers needs none.
use Rattle.std.proofs.Common.{ap, append_assoc, subst, sym, ◌∙◌}
use Rattle.std.specs.Prelude.{Bool, Err, List, None, Option, Some, [], cond, false, filter}
use Rattle.std.specs.Prelude.{filter_map, is_ok, map, refl, ℕ, ◌&&◌, ◌++◌, ◌==◌, ◌∷◌, ◌≡◌, ◌↔◌}
use Rattle.room_place.specs.Choice.{chosen}
use Rattle.room_types.specs.Codes.{is_mobilised}
use Rattle.room_types.specs.KeyedRows.{keep, row_at}
use Rattle.room_types.specs.Keys.{callsign_cmp, offer_key, owns_offer, vehicle_key}
use Rattle.room_types.specs.KeyLemmas.{callsigns_total}
use Rattle.room_types.specs.Texts.{Callsign}
use Rattle.room_types.specs.declared.answers.QueueEntry.{QueueEntry}
use Rattle.room_types.specs.declared.answers.Proposal.{Proposal}
use Rattle.room_types.specs.declared.asks.Move.{Move}
use Rattle.room_types.specs.declared.asks.Ask.{Ask}
use Rattle.room_types.specs.declared.asks.CallForm.{CallForm}
use Rattle.room_types.specs.declared.asks.Event.{Event}
use Rattle.room_types.specs.declared.asks.NewCall.{NewCall}
use Rattle.room_types.specs.declared.asks.Press.{Press}
use Rattle.room_types.specs.declared.asks.Who.{Who}
use Rattle.room_types.specs.declared.asks.Who.TheVariants.{Crew, Desk, Position}
use Rattle.room_types.specs.declared.changes.Change.{Change}
use Rattle.room_types.specs.declared.changes.Change.TheVariants.{PutOffer}
use Rattle.room_types.specs.declared.codes.Kind.{Kind}
use Rattle.room_types.specs.declared.codes.Kind.TheVariants.{Ambulance, Car, Support}
use Rattle.room_types.specs.declared.refusal_statuses.Refusal.TheVariants.{NoSuchOffer}
use Rattle.room_types.specs.declared.refusal_statuses.Refusal.TheVariants.{NoSuchVehicle}
use Rattle.room_types.specs.declared.tables.Assignment.{Assignment}
use Rattle.room_types.specs.declared.tables.Call.{Call}
use Rattle.room_types.specs.declared.tables.Incident.{Incident}
use Rattle.room_types.specs.declared.tables.Offer.{Offer}
use Rattle.room_types.specs.declared.tables.Report.{Report}
use Rattle.room_types.specs.declared.tables.Turn.{Turn}
use Rattle.room_types.specs.declared.tables.Vehicle.{Vehicle}
use Rattle.room_model.proofs.MoveFolds.{by_ask, then_alike}
use Rattle.room_model.proofs.OffersMade.{AllMakeNone, MakesNone, move_none, none_made}
use Rattle.room_model.proofs.OpenTurns.{row_there}
use Rattle.room_model.proofs.Tests.{row_among}
use Rattle.room_model.specs.Calls.{call_in, call_kept, call_somewhere, new_call}
use Rattle.room_model.specs.CrewJobs.{job_in}
use Rattle.room_model.specs.Crossing.{Crossing, cross, cross_call, cross_crew, cross_desk}
use Rattle.room_model.specs.Crossing.{cross_other, cross_own, cross_position, cross_report}
use Rattle.room_model.specs.Crossing.{cross_who}
use Rattle.room_model.specs.ClosedIncidents.{incidents_found, show_closed}
use Rattle.room_model.specs.DayTimes.{show_class_times, show_times}
use Rattle.room_model.specs.Decisions.{Verdict, changes_of, show, where_active, where_found}
use Rattle.room_model.specs.Decisions.{where_held}
use Rattle.room_model.specs.Events.{by_desk, is_lend}
use Rattle.room_model.specs.Incidents.{change_needs, close, lacking, merge, show_incident}
use Rattle.room_model.specs.Incidents.{show_incidents}
use Rattle.room_model.specs.Loans.{accept, accepted, decline, declined, give_back, recall}
use Rattle.room_model.specs.Loans.{show_loans, show_offers, withdraw, withdrawn}
use Rattle.room_model.specs.UnofferedRooms.{IsUnoffered, NoneIsReserved, OffersAgree}
use Rattle.room_model.specs.UnofferedRooms.{speaks_of_offers, without_offers}
use Rattle.room_model.specs.Points.{breaks_post, show_points}
use Rattle.room_model.specs.Proposals.{all_proposed, candidates, eligible, is_before, proposal_of}
use Rattle.room_model.specs.Proposals.{propose, proposed}
use Rattle.room_model.specs.Queries.{active_incidents, all_held, assignment_at, assignment_of}
use Rattle.room_model.specs.Queries.{borrowed, calls_of, held, holders, incident_of}
use Rattle.room_model.specs.Queries.{incidents_opened, incidents_over, is_attended, is_eligible}
use Rattle.room_model.specs.Queries.{kept_call, kept_report, last_number, last_serial, lent}
use Rattle.room_model.specs.Queries.{link_target, loan_at, loans_of, offered_by, offered_to}
use Rattle.room_model.specs.Queries.{offers_of, open_turn, point_of, points_of, report_of}
use Rattle.room_model.specs.Queries.{reports_of, served, turns_by, turns_of, vehicle_at}
use Rattle.room_model.specs.Queue.{clear, entries, exception, overdue, shift_over, show_reports}
use Rattle.room_model.specs.Queue.{late_for_scene, late_turn, unanswered, uncovered, unacknowledged}
use Rattle.room_model.specs.Queue.{unserved}
use Rattle.room_model.specs.Reports.{report_in, report_kept, report_somewhere}
use Rattle.room_model.specs.Room.{IsInOrder, Room, apply, apply_one}
use Rattle.room_model.specs.Step.{and_then, ask_of, course, decided, desk_asks, moves_in}
use Rattle.room_model.specs.Step.{position_asks, room_after, single_asks, verdict_of, who_asks}
use Rattle.room_model.specs.Vehicles.{duty, mobilise, off, show_vehicles, stand_down, standby}
use Rattle.room_model.specs.RoomAgreements.{OfferAgrees}
use Rattle.room_types.specs.declared.answers.Answer.TheVariants as answer
use Rattle.room_types.specs.declared.asks.Ask.TheVariants as ask

-- changes that make none
apply_one_without : (r : Room) (x : Change) → MakesNone x
    → apply_one (without_offers r) x ≡ without_offers (apply_one r x)
apply_one_without r (PutOffer x) h = absurd h
apply_one_without r x h = refl

apply_without : (r : Room) (xs : List Change) → AllMakeNone xs
    → apply (without_offers r) xs ≡ without_offers (apply r xs)
apply_without r [] h = refl
apply_without r (x ∷ xs) h = ap (λ s. apply s xs) (apply_one_without r x h.0) ∙ apply_without (apply_one r x) xs h.1

-- moves, one after another
move_alike : (d : ℕ) (m : Move) (at : ℕ) (r : Room)
    → single_asks d (ask_of m) at (without_offers r) ≡ single_asks d (ask_of m) at r
unfolding mobilise stand_down held incident_of lent open_turn served
move_alike d m at r =
    by_ask (λ a. single_asks d a at (without_offers r) ≡ single_asks d a at r) (λ c. refl)
    (λ n c. refl) m

course_alike : (d : ℕ) (ms : List Move) (at : ℕ) (r : Room)
    → course d ms at (without_offers r) ≡ course d ms at r
course_alike d [] at r = refl
course_alike d (m ∷ ms) at r =
    let cs = changes_of (single_asks d (ask_of m) at r) in
    ap (λ x. and_then m x (λ cs. course d ms at (apply (without_offers r) cs))) (move_alike d m at r)
    ∙ then_alike m (single_asks d (ask_of m) at r) _ _
    (ap (course d ms at) (apply_without r cs (move_none d m at r)) ∙ course_alike d ms at (apply r cs))

module _ (r : Room) where
  -- ---- proposals
  breaks_alike : (d at : ℕ) (p : Option ℕ)
      → breaks_post d at (without_offers r) p ≡ breaks_post d at r p
  unfolding holders point_of
  breaks_alike d at None = refl
  breaks_alike d at (Some n) = refl

  candidates_alike : (d : ℕ) (i : Incident) (k : Kind) (at : ℕ)
      → candidates d i k at (without_offers r) ≡ candidates d i k at r
  unfolding candidates
  candidates_alike d i k at =
      ap (λ (f : Vehicle → Proposal). map f (eligible d k at r))
      (λ j v. record (proposal_of d i at r v) { breaks = is_eligible d at v && breaks_alike d at v.post j })

  proposed_alike : (d : ℕ) (i : Incident) (at : ℕ) (k : Kind)
      → proposed d i at (without_offers r) k ≡ proposed d i at r k
  unfolding served
  proposed_alike d i at k = ap (λ ps. chosen is_before (lacking d i r k) None ps) (candidates_alike d i k at)

  all_alike : (d : ℕ) (i : Incident) (at : ℕ)
      → all_proposed d i at (without_offers r) ≡ all_proposed d i at r
  all_alike d i at =
      λ j. proposed_alike d i at Ambulance j ++ (proposed_alike d i at Car j ++ proposed_alike d i at Support j)

  -- ---- a desk's asks
  desk_alike : (d : ℕ) (a : Ask) (at : ℕ) → speaks_of_offers a ≡ false
      → desk_asks d a at (without_offers r) ≡ desk_asks d a at r
  unfolding show_incidents show_incident propose mobilise change_needs merge close show_vehicles stand_down standby duty
      off recall give_back clear show_reports show_points show_loans show_times show_class_times show_closed
      active_incidents
      all_held assignment_of borrowed calls_of held holders incident_of incidents_found incidents_opened incidents_over
      is_attended lent loans_of open_turn point_of points_of report_of reports_of served turns_by turns_of
  desk_alike d (ask.Propose n) at h =
      λ j. where_active (incident_of d n r) (λ i. show (answer.Proposals (all_alike d i at j)))
  desk_alike d (ask.Lend c to until) at h = cc
  desk_alike d (ask.Withdraw c) at h = cc
  desk_alike d (ask.Decline c) at h = cc
  desk_alike d (ask.Accept c) at h = cc
  desk_alike d (ask.Moves ms) at h = ap verdict_of (course_alike d (moves_in ms) at r)
  desk_alike d ask.Queue at h = cc
  desk_alike d ask.Offers at h = cc
  desk_alike d a at h = refl

  -- ---- a call taker's and a crew's
  somewhere_alike : (o : Option ℕ) (new : NewCall)
      → call_somewhere o new (without_offers r) ≡ call_somewhere o new r
  unfolding call_in last_number link_target
  somewhere_alike None new = refl
  somewhere_alike (Some d) new = refl

  call_alike : (o : Option Call) (new : NewCall)
      → call_kept o new (without_offers r) ≡ call_kept o new r
  call_alike None new = somewhere_alike _ new
  call_alike (Some k) new = refl

  position_alike : (p : ℕ) (a : Ask) (at : ℕ)
      → position_asks p a at (without_offers r) ≡ position_asks p a at r
  unfolding kept_call last_serial
  position_alike p (ask.Call f) at = call_alike (kept_call p f.serial r) (new_call p f at)
  position_alike p a at = refl

  reported_alike : (o : Option Vehicle) (c : Callsign) (p : Press) (at : ℕ)
      → report_somewhere o c p at (without_offers r) ≡ report_somewhere o c p at r
  unfolding report_in held open_turn borrowed
  reported_alike None c p at = refl
  reported_alike (Some v) c p at = refl

  kept_alike : (o : Option Report) (c : Callsign) (p : Press) (at : ℕ)
      → report_kept o c p at (without_offers r) ≡ report_kept o c p at r
  unfolding vehicle_at
  kept_alike None c p at = reported_alike (vehicle_at c r) c p at
  kept_alike (Some k) c p at = refl

  job_alike : (o : Option Assignment) → job_in (without_offers r) o ≡ job_in r o
  unfolding calls_of incident_of
  job_alike None = refl
  job_alike (Some a) = refl

  crew_alike : (c : Callsign) (a : Ask) (at : ℕ)
      → who_asks (Crew c) a at (without_offers r) ≡ who_asks (Crew c) a at r
  unfolding kept_report vehicle_at assignment_at
  crew_alike c ask.Order at = refl
  crew_alike c ask.Job at =
      ap (where_found (vehicle_at c r) NoSuchVehicle) (job_alike (assignment_at c r))
  crew_alike c (ask.Report p) at = kept_alike (kept_report c p.number r) c p at
  crew_alike c a at = refl

  who_alike : (w : Who) (a : Ask) (at : ℕ) → speaks_of_offers a ≡ false
      → who_asks w a at (without_offers r) ≡ who_asks w a at r
  who_alike (Desk d) a at h = desk_alike d a at h
  who_alike (Position p) a at h = position_alike p a at
  who_alike (Crew c) a at h = crew_alike c a at

pub decided_alike : (e : Event) (r : Room) → speaks_of_offers e.ask ≡ false
    → decided e (without_offers r) ≡ decided e r
decided_alike e r h = who_alike r e.who e.ask e.at h

-- ---- afterwards
no_lend : (a : Ask) → speaks_of_offers a ≡ false → is_lend a ≡ false
no_lend (ask.Lend c to until) h = cc
no_lend a h = refl

pub after_alike : (e : Event) (r : Room) → speaks_of_offers e.ask ≡ false
    → room_after e (without_offers r) ≡ without_offers (room_after e r)
after_alike e r h =
    ap (λ v. apply (without_offers r) (changes_of v)) (decided_alike e r h)
    ∙ apply_without r (changes_of (decided e r)) (none_made e.who e.ask e.at r (no_lend e.ask h))

-- ---- what is handed on
own_alike : (done : Bool) (e : Event) (a : Ask) (r : Room) → speaks_of_offers a ≡ false
    → cross_own done e a (without_offers r) ≡ cross_own done e a r
own_alike done e (ask.Accept c) r h = cc
own_alike done e a r h = refl

other_alike : (d h : ℕ) (a : Ask) (r after : Room) → speaks_of_offers a ≡ false
    → cross_other d h a (without_offers r) (without_offers after) ≡ cross_other d h a r after
unfolding lent loan_at vehicle_at
other_alike d h (ask.Lend c to until) r after f = cc
other_alike d h (ask.Withdraw c) r after f = cc
other_alike d h (ask.Decline c) r after f = cc
other_alike d h (ask.Accept c) r after f = cc
other_alike d h a r after f = refl

report_alike : (d : ℕ) (e : Event) (c : Callsign) (o : Option Report) (r after : Room)
    → cross_report d e c o (without_offers r) (without_offers after) ≡ cross_report d e c o r after
unfolding vehicle_at loan_at
report_alike d e c None r after = refl
report_alike d e c (Some k) r after = refl

call_crosses_alike : (d : ℕ) (e : Event) (f : CallForm) (o : Option Call) (r : Room)
    → cross_call d e f o (without_offers r) ≡ cross_call d e f o r
call_crosses_alike d e f None r = refl
call_crosses_alike d e f (Some k) r = refl

desk_crosses_alike : (d h : ℕ) (e : Event) (r : Room) → speaks_of_offers e.ask ≡ false
    → cross_desk d h e (without_offers r) ≡ cross_desk d h e r
desk_crosses_alike d h e r f =
    ap (λ (v : Verdict).
    cond (h == d) (Some (cross_own (is_ok v) e e.ask (without_offers r)))
    (cond (is_ok v) (cross_other d h e.ask (without_offers r) (room_after e (without_offers r))) None))
    (decided_alike e r f)
    ∙ ap (λ (x : Crossing).
    cond (h == d) (Some x)
    (cond (is_ok (decided e r)) (cross_other d h e.ask (without_offers r) (room_after e (without_offers r))) None))
    (own_alike (is_ok (decided e r)) e e.ask r f)
    ∙ ap (λ (after : Room).
    cond (h == d) (Some (cross_own (is_ok (decided e r)) e e.ask r))
    (cond (is_ok (decided e r)) (cross_other d h e.ask (without_offers r) after) None)) (after_alike e r f)
    ∙ ap (λ (x : Option Crossing).
    cond (h == d) (Some (cross_own (is_ok (decided e r)) e e.ask r)) (cond (is_ok (decided e r)) x None))
    (other_alike d h e.ask r (room_after e r) f)

position_crosses_alike : (d p : ℕ) (e : Event) (a : Ask) (r : Room)
    → cross_position d p e a (without_offers r) ≡ cross_position d p e a r
unfolding kept_call
position_crosses_alike d p e (ask.Call f) r = call_crosses_alike d e f (kept_call p f.serial r) r
position_crosses_alike d p e a r = refl

crew_crosses_alike : (d : ℕ) (c : Callsign) (e : Event) (a : Ask) (r : Room)
    → room_after e (without_offers r) ≡ without_offers (room_after e r)
    → cross_crew d c e a (without_offers r) ≡ cross_crew d c e a r
unfolding kept_report
crew_crosses_alike d c e (ask.Report p) r f =
    ap (λ (after : Room). cross_report d e c (kept_report c p.number r) (without_offers r) after) f
    ∙ report_alike d e c (kept_report c p.number r) r (room_after e r)
crew_crosses_alike d c e a r f = refl

who_crosses_alike : (d : ℕ) (e : Event) (w : Who) (r : Room) → speaks_of_offers e.ask ≡ false
    → cross_who d e w (without_offers r) ≡ cross_who d e w r
who_crosses_alike d e (Desk h) r f = desk_crosses_alike d h e r f
who_crosses_alike d e (Position p) r f = position_crosses_alike d p e e.ask r
who_crosses_alike d e (Crew c) r f = crew_crosses_alike d c e e.ask r (after_alike e r f)

pub cross_alike : (d : ℕ) (e : Event) (r : Room) → speaks_of_offers e.ask ≡ false
    → cross d (without_offers r) e ≡ cross d r e
cross_alike d e r f = who_crosses_alike d e e.who r f

-- ---- the queue
turn_alike : (d at : ℕ) (r : Room) (v : Vehicle) (t : Option Turn)
    → late_turn d at (without_offers r) v t ≡ late_turn d at r v t
unfolding incident_of
turn_alike d at r v None = refl
turn_alike d at r v (Some t) = refl

late_alike : (d at : ℕ) (r : Room)
    → filter_map (late_for_scene d at (without_offers r)) r.vehicles ≡ filter_map (late_for_scene d at r) r.vehicles
unfolding open_turn
late_alike d at r =
    ap (λ (f : Vehicle → Option QueueEntry). filter_map f r.vehicles)
    (λ j v. cond (v.holder == d && is_mobilised v.status) (turn_alike d at r v (open_turn d v.callsign r) j) None)

more : (xs ys zs ws : List QueueEntry) → ys ≡ zs ++ ws → xs ++ ys ≡ (xs ++ zs) ++ ws
more xs ys zs ws h = ap (λ t. xs ++ t) h ∙ sym (append_assoc xs zs ws)

pub entries_alike : (d at : ℕ) (r : Room)
    → entries d at r ≡ entries d at (without_offers r) ++ filter_map (unanswered d at) r.offers
unfolding entries served open_turn holders
entries_alike d at r =
    let os : List QueueEntry = filter_map (unanswered d at) r.offers in
    more (filter_map (unserved d at r) r.incidents) _ _ os
    (more (filter_map (unacknowledged d at r) r.vehicles) _ _ os
    (ap (λ (xs : List QueueEntry).
    xs
    ++ (filter_map (exception d) r.reports
    ++ (filter_map (overdue d at) r.loans
    ++ (filter_map (shift_over d at) r.vehicles ++ (filter_map (uncovered d at r) r.points ++ os)))))
    (sym (late_alike d at r))
    ∙ more (filter_map (late_for_scene d at (without_offers r)) r.vehicles) _ _ os
    (more (filter_map (exception d) r.reports) _ _ os
    (more (filter_map (overdue d at) r.loans) _ _ os
    (more (filter_map (shift_over d at) r.vehicles) _ _ os
    (more (filter_map (uncovered d at r) r.points) os [] os refl))))))

-- ---- where nothing is offered
pub no_accept : (d at : ℕ) (c : Callsign) (r : Room) → IsUnoffered r
    → decided (by_desk d (ask.Accept c) at) r ≡ Err NoSuchOffer
unfolding accept offered_to
no_accept d at c r h =
    ap (λ (os : List Offer). accepted (keep (λ o. o.borrower == d) (row_at callsign_cmp offer_key os c)) at) h

pub no_decline : (d at : ℕ) (c : Callsign) (r : Room) → IsUnoffered r
    → decided (by_desk d (ask.Decline c) at) r ≡ Err NoSuchOffer
unfolding decline offered_to
no_decline d at c r h =
    ap (λ (os : List Offer). declined (keep (λ o. o.borrower == d) (row_at callsign_cmp offer_key os c))) h

pub no_withdrawal : (d at : ℕ) (c : Callsign) (r : Room) → IsUnoffered r
    → decided (by_desk d (ask.Withdraw c) at) r
    ≡ where_held (held d c r) (lent d c r) (λ v. Err NoSuchOffer)
unfolding withdraw offered_by
no_withdrawal d at c r h =
    ap (λ (os : List Offer).
    where_held (held d c r) (lent d c r) (withdrawn (keep (λ o. o.lender == d) (row_at callsign_cmp offer_key os c)))) h

pub none_shown : (d at : ℕ) (r : Room) → IsUnoffered r
    → decided (by_desk d ask.Offers at) r ≡ show (answer.Offers [])
unfolding show_offers offers_of
none_shown d at r h = ap (λ (os : List Offer). show (answer.Offers (filter (owns_offer d) os))) h

reserved_agrees : (r : Room) (c : Callsign) (o : Option Vehicle)
    → row_at callsign_cmp vehicle_key r.vehicles c ≡ o → NoneIsReserved r
    → OfferAgrees r.plan o None
reserved_agrees r c None e h = tt
reserved_agrees r c (Some v) e h = h v (row_there callsign_cmp vehicle_key r.vehicles c v e)

pub unoffered_agrees : (r : Room) → IsInOrder r → IsUnoffered r → (OffersAgree r ↔ NoneIsReserved r)
unoffered_agrees r order n = (
  λ agree v here.
      let there : row_at callsign_cmp vehicle_key r.vehicles v.callsign
      ≡ Some v = row_among callsign_cmp vehicle_key callsigns_total r.vehicles v order.vehicles here in
      subst (λ (o : Option Vehicle). OfferAgrees r.plan o None) there
      (subst (λ (os : List Offer).
      OfferAgrees r.plan (row_at callsign_cmp vehicle_key r.vehicles v.callsign)
      (row_at callsign_cmp offer_key os v.callsign)) n (agree v.callsign)),
  λ none c.
      subst (λ (os : List Offer).
      OfferAgrees r.plan (row_at callsign_cmp vehicle_key r.vehicles c) (row_at callsign_cmp offer_key os c)) (sym n)
      (reserved_agrees r c _ refl none),
)
