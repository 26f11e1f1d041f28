-- Any event, and runs of events, seen by one division.
use Rattle.std.proofs.Common.{ap, eqb-true, subst, sym, ◌∙◌}
use Rattle.std.specs.List.{list_all}
use Rattle.std.specs.Prelude.{Bool, Err, List, None, Ok, Option, Some, [], cond, false, is_err}
use Rattle.std.specs.Prelude.{is_ok, map, not, option_map, refl, true, ℕ, ◌&&◌, ◌++◌, ◌==◌, ◌||◌}
use Rattle.std.specs.Prelude.{◌∷◌, ◌≡◌}
use Rattle.room_place.specs.Plans.{division_of}
use Rattle.room_types.specs.KeyedRows.{row_at}
use Rattle.room_types.specs.Keys.{callsign_cmp, loan_key}
use Rattle.room_types.specs.Texts.{Callsign}
use Rattle.room_types.specs.declared.asks.Ask.{Ask}
use Rattle.room_types.specs.declared.asks.CallForm.{CallForm}
use Rattle.room_types.specs.declared.asks.Event.{Event}
use Rattle.room_types.specs.declared.asks.Who.{Who}
use Rattle.room_types.specs.declared.asks.Who.TheVariants.{Crew, Desk, Position}
use Rattle.room_types.specs.declared.tables.Call.{Call}
use Rattle.room_types.specs.declared.tables.Loan.{Loan}
use Rattle.room_types.specs.declared.tables.Offer.{Offer}
use Rattle.room_types.specs.declared.tables.Report.{Report}
use Rattle.room_types.specs.declared.tables.Vehicle.{Vehicle}
use Rattle.room_model.proofs.CallsApart.{answers_position, position_event}
use Rattle.room_model.proofs.KeptEvents.{addressed_still, event_kept}
use Rattle.room_model.proofs.OneEvent.{other_desk}
use Rattle.room_model.proofs.OwnRequests.{answers_request, own_request}
use Rattle.room_model.proofs.ReportsApart.{answers_crew, crew_event, not_ended}
use Rattle.room_model.proofs.Tests.{both_true}
use Rattle.room_model.specs.Isolation.{answers_by, share_answers, share_by, share_run}
use Rattle.room_model.specs.Crossing.{Arrive, CallIn, Crossing, Declined, Left, OfferIn, Recalled}
use Rattle.room_model.specs.Crossing.{ReportIn, Withdrawn, cross, cross_call, cross_crew}
use Rattle.room_model.specs.Crossing.{cross_other, cross_own, cross_position, cross_report}
use Rattle.room_model.specs.Crossing.{cross_who, crossings, is_division_of, is_held_by}
use Rattle.room_model.specs.Crossing.{is_loan_ended, is_local, is_offered_by, is_offered_to}
use Rattle.room_model.specs.Crossing.{newly_recalled}
use Rattle.room_model.specs.Events.{AreAddressed, AreLocal, is_everyday, received}
use Rattle.room_model.specs.Decisions.{Verdict, answer_of, changes_of}
use Rattle.room_model.specs.Queries.{kept_call, kept_report, lent, loan_at, offer_at, vehicle_at}
use Rattle.room_model.specs.Room.{Room, apply}
use Rattle.room_model.specs.Run.{desk_answers, is_desk, room_run}
use Rattle.room_model.specs.Shares.{own}
use Rattle.room_model.specs.Step.{answer_to, decided, desk_asks, room_after}
use Rattle.room_model.specs.RoomAgreements.{IsWellFormed}
use Rattle.room_types.specs.declared.asks.Ask.TheVariants as ask

-- ---- a request of another desk gives this one no answer
module _ (s : Room) where
  quiet_if : (b : Bool) (x : Option Crossing) → answers_by s x ≡ [] → answers_by s (cond b x None) ≡ []
  quiet_if true x e = e
  quiet_if false x e = refl

  quiet_offer : (o : Option Offer) → answers_by s (option_map OfferIn o) ≡ []
  quiet_offer None = refl
  quiet_offer (Some o) = refl

  quiet_loan : (l : Option Loan) → answers_by s (option_map Left l) ≡ []
  quiet_loan None = refl
  quiet_loan (Some l) = refl

  quiet_vehicle : (v : Option Vehicle) → answers_by s (option_map Arrive v) ≡ []
  quiet_vehicle None = refl
  quiet_vehicle (Some v) = refl

  quiet_recall : (d : ℕ) (c : Callsign) (l : Option Loan) → answers_by s (newly_recalled d c l) ≡ []
  quiet_recall d c None = refl
  quiet_recall d c (Some l) = quiet_if (l.borrower == d && not l.recalled) (Some (Recalled c)) refl

  quiet_other : (d h : ℕ) (a : Ask) (r after : Room) → answers_by s (cross_other d h a r after) ≡ []
  quiet_other d h (ask.Lend c to until) r after =
      quiet_if (to == d) (option_map OfferIn (offer_at c after)) (quiet_offer (offer_at c after))
  quiet_other d h (ask.Withdraw c) r after = quiet_if (is_offered_to d (offer_at c r)) (Some (Withdrawn c)) refl
  quiet_other d h (ask.Decline c) r after = quiet_if (is_offered_by d (offer_at c r)) (Some (Declined c)) refl
  quiet_other d h (ask.Accept c) r after =
      quiet_if (is_offered_by d (offer_at c r)) (option_map Left (loan_at c after)) (quiet_loan (loan_at c after))
  quiet_other d h (ask.Recall c) r after = quiet_recall d c (lent h c r)
  quiet_other d h (ask.GiveBack c) r after =
      quiet_if (is_loan_ended d (loan_at c r) (loan_at c after)) (option_map Arrive (vehicle_at c after))
      (quiet_vehicle (vehicle_at c after))
  quiet_other d h a r after = refl

-- ---- one event
module _ (d : ℕ) (r : Room) (w : IsWellFormed r) where
  abbrev by_desk : ℕ → Ask → ℕ → Event
  by_desk h a at = record { who = Desk h; ask = a; at = at }

  -- what the request hands over, by whether it is the desk's own
  abbrev handed : Bool → ℕ → Ask → ℕ → Option Crossing
  handed b h a at =
      cond b (Some (cross_own (is_ok (desk_asks h a at r)) (by_desk h a at) a r))
      (cond (is_ok (desk_asks h a at r)) (cross_other d h a r (apply r (changes_of (desk_asks h a at r)))) None)

  desk_event : (h : ℕ) (a : Ask) (at : ℕ) (b : Bool) → h == d ≡ b
      → own d (apply r (changes_of (desk_asks h a at r))) ≡ share_by d (own d r) (handed b h a at)
  desk_event h a at true e =
      subst (λ k. own d (apply r (changes_of (desk_asks k a at r))) ≡ share_by d (own d r) (handed true k a at))
      (sym (eqb-true h d e)) (own_request d r w a at)
  desk_event h a at false e = other_desk d h r a at w e ∙ ap (λ b. share_by d (own d r) (handed b h a at)) e

  answers_desk : (h : ℕ) (a : Ask) (at : ℕ) (b : Bool) → h == d ≡ b
      → answers_by (own d r) (handed b h a at) ≡ cond b (answer_to (by_desk h a at) r ∷ []) []
  answers_desk h a at true e =
      subst (λ k. answers_by (own d r) (handed true k a at) ≡ answer_to (by_desk k a at) r ∷ []) (sym (eqb-true h d e))
      (answers_request d r w a at)
  answers_desk h a at false e =
      quiet_if (own d r) (is_ok (desk_asks h a at r)) (cross_other d h a r (apply r (changes_of (desk_asks h a at r))))
      (quiet_other (own d r) d h a r (apply r (changes_of (desk_asks h a at r))))

  who_event : (who : Who) (a : Ask) (at : ℕ)
      → own d (room_after (record { who = who; ask = a; at = at }) r)
      ≡ share_by d (own d r) (cross d r (record { who = who; ask = a; at = at }))
  who_event (Desk h) a at = desk_event h a at (h == d) refl
  who_event (Position p) a at = position_event d r w p at a
  who_event (Crew c) a at = crew_event d r w c at a

  answers_who : (who : Who) (a : Ask) (at : ℕ)
      → answers_by (own d r) (cross d r (record { who = who; ask = a; at = at }))
      ≡ cond (is_desk d who) (answer_to (record { who = who; ask = a; at = at }) r ∷ []) []
  answers_who (Desk h) a at = answers_desk h a at (h == d) refl
  answers_who (Position p) a at = answers_position d r w p at a
  answers_who (Crew c) a at = answers_crew d r w c at a

  -- the share after an event is what becomes of it by what it is handed
  pub one_event : (e : Event) → own d (room_after e r) ≡ share_by d (own d r) (cross d r e)
  one_event e = who_event e.who e.ask e.at

  -- and its desk is given the answer to its own requests, and nothing else
  pub one_answer : (e : Event) → answers_by (own d r) (cross d r e)
      ≡ cond (is_desk d e.who) (answer_to e r ∷ []) []
  one_answer e = answers_who e.who e.ask e.at

-- ---- lists of events
-- each event of a run meets a well-formed room
abbrev pub AreWellFormed : List Event → Room → Type 0
AreWellFormed [] r = Unit {0}
AreWellFormed (e ∷ es) r = IsWellFormed r × AreWellFormed es (room_after e r)

pub meet_well_formed : (es : List Event) (r : Room) → IsWellFormed r → AreAddressed es r
    → AreWellFormed es r
meet_well_formed [] r w known = tt
meet_well_formed (e ∷ es) r w known = (
  w,
  meet_well_formed es (room_after e r) (event_kept e r w known.0 known.1)
      (addressed_still es r (changes_of (decided e r)) known.2),
)

pub run_share : (d : ℕ) (es : List Event) (r : Room) → AreWellFormed es r
    → own d (room_run es r) ≡ share_run d (crossings d es r) (own d r)
run_share d [] r w = refl
run_share d (e ∷ es) r w =
    run_share d es (room_after e r) w.1 ∙ ap (share_run d (crossings d es (room_after e r))) (one_event d r w.0 e)

answers_first : {X : Type 0} (b : Bool) (x : X) (xs : List X)
    → cond b (x ∷ xs) xs ≡ cond b (x ∷ []) [] ++ xs
answers_first true x xs = refl
answers_first false x xs = refl

pub run_answers : (d : ℕ) (es : List Event) (r : Room) → AreWellFormed es r
    → desk_answers d es r ≡ share_answers d (crossings d es r) (own d r)
run_answers d [] r w = refl
run_answers d (e ∷ es) r w =
    answers_first (is_desk d e.who) (answer_to e r) (desk_answers d es (room_after e r))
    ∙ ap (λ ts. ts ++ desk_answers d es (room_after e r)) (sym (one_answer d r w.0 e))
    ∙ ap (λ ts. answers_by (own d r) (cross d r e) ++ ts)
    (run_answers d es (room_after e r) w.1
    ∙ ap (share_answers d (crossings d es (room_after e r))) (one_event d r w.0 e))

-- ---- what is received, and no more, counts
only_received : (d : ℕ) (xs : List (Option Crossing)) (s : Room)
    → share_run d xs s ≡ share_run d (map Some (received xs)) s
only_received d [] s = refl
only_received d (None ∷ xs) s = only_received d xs s
only_received d (Some x ∷ xs) s = only_received d xs (share_by d s (Some x))

answers_received : (d : ℕ) (xs : List (Option Crossing)) (s : Room)
    → share_answers d xs s ≡ share_answers d (map Some (received xs)) s
answers_received d [] s = refl
answers_received d (None ∷ xs) s = answers_received d xs s
answers_received d (Some x ∷ xs) s =
    ap (λ ts. answers_by s (Some x) ++ ts) (answers_received d xs (share_by d s (Some x)))

module _ (d : ℕ) (es fs : List Event) (r s : Room) (w : AreWellFormed es r)
    (v : AreWellFormed fs s) (same : own d r ≡ own d s)
    (handed : received (crossings d es r) ≡ received (crossings d fs s)) where
  pub equal_shares : own d (room_run es r) ≡ own d (room_run fs s)
  equal_shares =
      run_share d es r w ∙ only_received d (crossings d es r) (own d r)
      ∙ ap (λ xs. share_run d (map Some xs) (own d r)) handed
      ∙ ap (share_run d (map Some (received (crossings d fs s)))) same
      ∙ sym (run_share d fs s v ∙ only_received d (crossings d fs s) (own d s))

  pub equal_answers : desk_answers d es r ≡ desk_answers d fs s
  equal_answers =
      run_answers d es r w ∙ answers_received d (crossings d es r) (own d r)
      ∙ ap (λ xs. share_answers d (map Some xs) (own d r)) handed
      ∙ ap (share_answers d (map Some (received (crossings d fs s)))) same
      ∙ sym (run_answers d fs s v ∙ answers_received d (crossings d fs s) (own d s))

-- ---- where nothing is lent
everyday_if : (b : Bool) (x y : Option Crossing) → is_everyday x ≡ true → is_everyday y ≡ true
    → is_everyday (cond b x y) ≡ true
everyday_if true x y e f = e
everyday_if false x y e f = f

-- what is done is not refused
not_refused : (b : Bool) (x : Verdict) → b || is_err (answer_of x) ≡ true → is_ok x ≡ true
    → b ≡ true
not_refused true x l h = refl
not_refused false (Ok x) l h = l
not_refused false (Err e) l h = h

module _ (d : ℕ) (r : Room) where
  everyday_own : (b : Bool) (e : Event) (a : Ask) → is_local a ≡ true
      → is_everyday (Some (cross_own b e a r)) ≡ true
  everyday_own b e (ask.Accept c) l = cc
  everyday_own b e a l = refl

  everyday_refused : (e : Event) (a : Ask) → is_everyday (Some (cross_own false e a r)) ≡ true
  everyday_refused e (ask.Accept c) = refl
  everyday_refused e a = refl

  everyday_other : (h : ℕ) (a : Ask) (after : Room) → is_local a ≡ true
      → is_everyday (cross_other d h a r after) ≡ true
  everyday_other h (ask.Lend c to until) after l = cc
  everyday_other h (ask.Withdraw c) after l = cc
  everyday_other h (ask.Decline c) after l = cc
  everyday_other h (ask.Accept c) after l = cc
  everyday_other h (ask.Recall c) after l = cc
  everyday_other h (ask.GiveBack c) after l = cc
  everyday_other h a after l = refl

  everyday_call : (e : Event) (f : CallForm) (o : Option Call)
      → is_everyday (cross_call d e f o r) ≡ true
  everyday_call e f (Some k) = refl
  everyday_call e f None = everyday_if (is_division_of d (division_of r.plan f.place)) (Some (CallIn e)) None refl refl

  everyday_report : (e : Event) (c : Callsign) (o : Option Report) (after : Room)
      → after.loans ≡ r.loans → is_everyday (cross_report d e c o r after) ≡ true
  unfolding loan_at
  everyday_report e c (Some k) after same = refl
  everyday_report e c None after same =
      everyday_if (is_held_by d (vehicle_at c r)) (Some (ReportIn e)) _ refl
      (ap (λ (b : Bool). is_everyday (cond b (option_map Arrive (vehicle_at c after)) None))
      (ap (λ ls. is_loan_ended d (row_at callsign_cmp loan_key r.loans c) (row_at callsign_cmp loan_key ls c)) same
      ∙ not_ended d (row_at callsign_cmp loan_key r.loans c)))

  everyday_position : (p : ℕ) (e : Event) (a : Ask) → is_everyday (cross_position d p e a r) ≡ true
  everyday_position p e (ask.Call f) = everyday_call e f (kept_call p f.serial r)
  everyday_position p e a = refl

  everyday_crew : (c : Callsign) (e : Event) (a : Ask) → (room_after e r).loans ≡ r.loans
      → is_everyday (cross_crew d c e a r) ≡ true
  everyday_crew c e (ask.Report p) same = everyday_report e c (kept_report c p.number r) (room_after e r) same
  everyday_crew c e a same = refl

  everyday_desk : (h : ℕ) (e : Event) (done : Bool) → (done ≡ true → is_local e.ask ≡ true)
      → is_everyday (cond (h == d) (Some (cross_own done e e.ask r))
      (cond done (cross_other d h e.ask r (room_after e r)) None)) ≡ true
  everyday_desk h e true l =
      everyday_if (h == d) _ _ (everyday_own true e e.ask (l refl)) (everyday_other h e.ask (room_after e r) (l refl))
  everyday_desk h e false l = everyday_if (h == d) _ None (everyday_refused e e.ask) refl

  everyday_who : (who : Who) (e : Event)
      → is_local e.ask || is_err (answer_of (decided e r)) ≡ true
      → (room_after e r).loans ≡ r.loans → is_everyday (cross_who d e who r) ≡ true
  everyday_who (Desk h) e l same =
      everyday_desk h e (is_ok (decided e r)) (not_refused (is_local e.ask) (decided e r) l)
  everyday_who (Position p) e l same = everyday_position p e e.ask
  everyday_who (Crew c) e l same = everyday_crew c e e.ask same

pub run_everyday : (d : ℕ) (es : List Event) (r : Room) → AreLocal es r
    → list_all is_everyday (crossings d es r) ≡ true
run_everyday d [] r l = refl
run_everyday d (e ∷ es) r l =
    both_true _ _ (everyday_who d r e.who e l.0.0 l.0.1) (run_everyday d es (room_after e r) l.1)
