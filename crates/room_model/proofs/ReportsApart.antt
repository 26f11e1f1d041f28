-- A report, and what a share becomes by it.
use Rattle.std.proofs.Common.{ap, eqb-true, subst, sym, ◌∙◌}
use Rattle.std.proofs.lemmas.List.{append_assoc}
use Rattle.std.specs.Prelude.{Bool, List, None, Option, Some, [], cond, false, is_none, option_map}
use Rattle.std.specs.Prelude.{refl, true, ℕ, ◌&&◌, ◌++◌, ◌==◌, ◌||◌, ◌∷◌, ◌≡◌}
use Rattle.room_place.specs.Choice.{Among}
use Rattle.room_types.proofs.KeyedLaws.{row_drop_same, row_filter}
use Rattle.room_types.specs.KeyedRows.{drop_row, keep, put_row, row_at}
use Rattle.room_types.specs.Keys.{callsign_cmp, loan_key, numbered_cmp, owns_loan, owns_report}
use Rattle.room_types.specs.Keys.{owns_vehicle, report_key, same_callsign, vehicle_key}
use Rattle.room_types.specs.KeyLemmas.{callsigns_total, numbered_total}
use Rattle.room_types.specs.Texts.{Callsign}
use Rattle.room_types.specs.declared.asks.Ask.{Ask}
use Rattle.room_types.specs.declared.asks.Event.{Event}
use Rattle.room_types.specs.declared.asks.Press.{Press}
use Rattle.room_types.specs.declared.asks.Who.TheVariants.{Crew}
use Rattle.room_types.specs.declared.changes.Change.{Change}
use Rattle.room_types.specs.declared.changes.Change.TheVariants.{DropLoan, PutReport, PutVehicle}
use Rattle.room_types.specs.declared.codes.Button.{Button}
use Rattle.room_types.specs.declared.codes.Outcome.{Outcome}
use Rattle.room_types.specs.declared.codes.Status.{Status}
use Rattle.room_types.specs.declared.tables.Loan.{Loan}
use Rattle.room_types.specs.declared.tables.Report.{Report}
use Rattle.room_types.specs.declared.tables.Turn.{Turn}
use Rattle.room_types.specs.declared.tables.Vehicle.{Vehicle}
use Rattle.room_model.proofs.Foreign.{AllForeign, IsForeign, foreign_append, own_foreign}
use Rattle.room_model.proofs.Foreign.{own_foreign_one}
use Rattle.room_model.proofs.Handed.{put_found}
use Rattle.room_model.proofs.Others.{IsHeld, apart_from, held_is, keep_some, none_own}
use Rattle.room_model.proofs.Others.{other_assignment, turn_foreign, vehicle_foreign}
use Rattle.room_model.proofs.Changes.{all_plain, plain_allowed, report_all}
use Rattle.room_model.proofs.DecisionLaws.{by_refuse, by_report}
use Rattle.room_model.proofs.OwnChanges.{in_order_one, own_apply, own_apply_own}
use Rattle.room_model.proofs.OwnDesk.{report_in_own}
use Rattle.room_model.proofs.Questions.{quiet_shows}
use Rattle.room_model.proofs.Tests.{among_filter, first_among, left_true, right_true}
use Rattle.room_model.specs.Isolation.{answers_by, share_by}
use Rattle.room_model.specs.Crossing.{Arrive, Crossing, ReportIn, arrival, cross_crew, cross_report}
use Rattle.room_model.specs.Crossing.{is_held_by, is_loan_ended}
use Rattle.room_model.specs.Decisions.{Verdict, changes_of, with_changes}
use Rattle.room_model.specs.Queries.{borrowed, held, kept_report, loan_at, open_turn, vehicle_at}
use Rattle.room_model.specs.Reports.{back_changes, drop_changes, ends_turn, is_due, is_home}
use Rattle.room_model.specs.Reports.{outcome_of, report_acts, report_held, report_in, report_kept}
use Rattle.room_model.specs.Reports.{report_row, report_somewhere, status_after, take_report}
use Rattle.room_model.specs.Reports.{turn_after, turn_changes, vehicle_after, with_report}
use Rattle.room_model.specs.Room.{IsInOrder, Room, apply, apply_one}
use Rattle.room_model.proofs.ShareChanges.{share_after}
use Rattle.room_model.specs.Shares.{ArePlain, IsPlain, own}
use Rattle.room_model.specs.Step.{room_after, who_asks}
use Rattle.room_model.specs.RoomAgreements.{IsWellFormed}
use Rattle.room_types.specs.declared.answers.Answer.TheVariants as answer
use Rattle.room_types.specs.declared.asks.Ask.TheVariants as ask
use Rattle.room_types.specs.declared.codes.Button.TheVariants as button

-- after changes that are none of the division's, it is the rest that counts
own_after : (d : ℕ) (r : Room) (cs bs : List Change) → IsInOrder r → AllForeign d (own d r) cs
    → ArePlain bs → own d (apply r (cs ++ bs)) ≡ share_after d (own d r) bs
own_after d r [] bs w f p = own_apply d r bs w p
own_after d r (c ∷ cs) bs w f p =
    let same = own_foreign_one d r c w f.0 in
    own_after d (apply_one r c) cs bs (in_order_one r c w) (subst (λ (s : Room). AllForeign d s cs) (sym same) f.1) p
    ∙ ap (λ s. share_after d s bs) same

-- ---- what a report's changes are
-- a turn keeps its key and its division
record KeepsTurn (t u : Turn) : Type 0 where
  callsign : u.callsign ≡ t.callsign
  order : u.order ≡ t.order
  division : u.division ≡ t.division

turn_keeps : (b : Button) (at : ℕ) (t : Turn) → KeepsTurn t (turn_after b at t)
turn_keeps button.Position at t = record { callsign = refl; order = refl; division = refl }
turn_keeps button.Mobile at t = record { callsign = refl; order = refl; division = refl }
turn_keeps button.Scene at t = record { callsign = refl; order = refl; division = refl }
turn_keeps button.Leave at t = record { callsign = refl; order = refl; division = refl }
turn_keeps button.Hospital at t = record { callsign = refl; order = refl; division = refl }
turn_keeps button.Return at t = record { callsign = refl; order = refl; division = refl }
turn_keeps button.Home at t = record { callsign = refl; order = refl; division = refl }

-- the loans, vehicles and reports after them
pub record IsLeft (r after : Room) (x : Report) (c : Callsign) (back : Bool)
    (v : Vehicle) : Type 0 where
  pub loans : after.loans ≡ cond back (drop_row callsign_cmp loan_key r.loans c) r.loans
  pub vehicles : after.vehicles ≡ put_row callsign_cmp vehicle_key r.vehicles v
  pub reports : after.reports ≡ put_row numbered_cmp report_key r.reports x

pub left_by : (r : Room) (x : Report) (b : Button) (at : ℕ) (t : Option Turn) (c : Callsign)
    (ends back : Bool) (v : Vehicle) → IsLeft r
    (apply r (PutReport x ∷ turn_changes b at t
    ++ (drop_changes c ends ++ (back_changes c back ++ PutVehicle v ∷ [])))) x c back v
left_by r x b at None c true true v = record { loans = refl; vehicles = refl; reports = refl }
left_by r x b at None c true false v = record { loans = refl; vehicles = refl; reports = refl }
left_by r x b at None c false true v = record { loans = refl; vehicles = refl; reports = refl }
left_by r x b at None c false false v = record { loans = refl; vehicles = refl; reports = refl }
left_by r x b at (Some t) c true true v = record { loans = refl; vehicles = refl; reports = refl }
left_by r x b at (Some t) c true false v = record { loans = refl; vehicles = refl; reports = refl }
left_by r x b at (Some t) c false true v = record { loans = refl; vehicles = refl; reports = refl }
left_by r x b at (Some t) c false false v = record { loans = refl; vehicles = refl; reports = refl }

-- a loan is not ended that is there as before
pub not_ended : (d : ℕ) (o : Option Loan) → is_loan_ended d o o ≡ false
not_ended d None = refl
not_ended d (Some l) = and_false (l.lender == d)
  where
    and_false : (b : Bool) → b && false ≡ false
    and_false true = refl
    and_false false = refl

-- ---- of a vehicle that another division holds
module _ (d h : ℕ) (r : Room) (w : IsWellFormed r) (apart : h == d ≡ false) (c : Callsign)
    (p : Press) (at : ℕ) (fresh : kept_report c p.number r ≡ None) where
  same_and : (b : Bool) → b && true ≡ b
  same_and true = refl
  same_and false = refl

  neither : (a b : Bool) → a ≡ false → b ≡ false → a || b ≡ false
  neither a b e f = rw e f

  open_is : (t : Turn) → open_turn h c r ≡ Some t → Among t r.turns × (t.division ≡ h)
  unfolding open_turn
  open_is t g =
      let parts = among_filter (λ t. t.division == h && (same_callsign t.callsign c && is_none t.ended)) r.turns t
      (first_among _ t g) in
      (parts.0, eqb-true t.division h (left_true _ _ parts.1))

  turns_foreign : (o : Option Turn) → open_turn h c r ≡ o
      → AllForeign d (own d r) (turn_changes p.button at o)
  turns_foreign None e = tt
  turns_foreign (Some t) e =
      let is = open_is t e in
      let keeps = turn_keeps p.button at t in (
        turn_foreign d h r w apart t is.0 is.1 (turn_after p.button at t) keeps.callsign keeps.order
            (keeps.division ∙ is.1),
        tt,
      )

  -- the loan that makes a vehicle due
  due_loan : (o : Option Loan) → is_due at o ≡ true → (l : Loan) × (o ≡ Some l)
  due_loan None e = cc
  due_loan (Some l) e = (l, refl)

  module _ (v : Vehicle) (is : IsHeld h c r v) where
    -- the share after it, by the room after it
    abbrev HandsOver : Verdict → Type 0
    HandsOver x = own d (apply r (changes_of x)) ≡ share_by d (own d r) (arrival d c r (apply r (changes_of x)))

    report_foreign : (o : Outcome) (s : Status)
        → IsForeign d (own d r) (PutReport (report_row v p at o s))
    unfolding kept_report
    report_foreign o s = (
      apart_from v.holder h d is.holder apart,
      ap (λ (k : Callsign). row_at numbered_cmp report_key (own d r).reports (k, p.number)) (sym is.key)
          ∙ none_own numbered_cmp report_key numbered_total (owns_report d) r.reports (c, p.number) w.order.reports
          (λ y f. let both : None ≡ Some y = sym fresh ∙ f in cc),
    )

    drop_foreign : (b : Bool) → AllForeign d (own d r) (drop_changes v.callsign b)
    drop_foreign false = tt
    drop_foreign true = (other_assignment d h r w apart c v is, tt)

    -- the report, the turn and the assignment
    first_foreign : (o : Outcome) (s : Status)
        → AllForeign d (own d r) (PutReport (report_row v p at o s)
        ∷ turn_changes p.button at (open_turn h c r)
        ++ drop_changes v.callsign (ends_turn p.button))
    first_foreign o s = (
      report_foreign o s,
      foreign_append d (own d r) _ _ (turns_foreign (open_turn h c r) refl) (drop_foreign (ends_turn p.button)),
    )

    -- where the loan stays as it is, nothing is handed over
    stays : (cs : List Change) → AllForeign d (own d r) cs → (apply r cs).loans ≡ r.loans
        → own d (apply r cs) ≡ share_by d (own d r) (arrival d c r (apply r cs))
    unfolding loan_at
    stays cs f same =
        own_foreign d r cs w.order f
        ∙ sym (ap (λ (b : Bool). share_by d (own d r) (cond b (option_map Arrive (vehicle_at c (apply r cs))) None))
        (ap (λ ls. is_loan_ended d (row_at callsign_cmp loan_key r.loans c) (row_at callsign_cmp loan_key ls c)) same
        ∙ not_ended d (row_at callsign_cmp loan_key r.loans c)))

    ignored : (o : Outcome) → HandsOver
        (with_changes (answer.Reported p.number o v.status)
        (PutReport (report_row v p at o v.status) ∷ PutVehicle (with_report v p) ∷ []))
    ignored o =
        stays (PutReport (report_row v p at o v.status) ∷ PutVehicle (with_report v p) ∷ [])
        (report_foreign o v.status, (vehicle_foreign d h r w apart c v is (with_report v p) refl is.holder, tt)) refl

    -- where the loan ends, its lender is handed the vehicle
    loan_found : (l : Loan) → borrowed h c r ≡ Some l
        → (row_at callsign_cmp loan_key r.loans c ≡ Some l) × (l.borrower ≡ h)
    unfolding borrowed
    loan_found l e =
        let parts = keep_some (λ (x : Loan). x.borrower == h) (row_at callsign_cmp loan_key r.loans c) l e in
        (parts.0, eqb-true l.borrower h parts.1)

    other_loan : (l : Loan) → row_at callsign_cmp loan_key r.loans c ≡ Some l
        → l.lender == d ≡ false → l.borrower ≡ h
        → row_at callsign_cmp loan_key (own d r).loans v.callsign ≡ None
    other_loan l there e f =
        ap (row_at callsign_cmp loan_key (own d r).loans) (sym is.key)
        ∙ none_own callsign_cmp loan_key callsigns_total (owns_loan d) r.loans c w.order.loans
        (λ y g.
        let both : Some l ≡ Some y = sym there ∙ g in
        let same : l ≡ y = cc in ap (owns_loan d) (sym same) ∙ neither _ _ e (apart_from l.borrower h d f apart))

    returned : (o : Outcome) (l : Loan) → borrowed h c r ≡ Some l
        → own d (apply r (report_acts v (open_turn h c r) (Some l) p at o true))
        ≡ share_by d (own d r) (arrival d c r
        (apply r (report_acts v (open_turn h c r) (Some l) p at o true)))
    unfolding loan_at vehicle_at
    returned o l e =
        let s = own d r in
        let t = open_turn h c r in
        let x = vehicle_after v (Some l) p true in
        let cs = report_acts v (open_turn h c r) (Some l) p at o true in
        let row = report_row v p at o (status_after v.status p.button) in
        let after = apply r (report_acts v (open_turn h c r) (Some l) p at o true) in
        let loan = loan_found l e in
        let left = left_by r (report_row v p at o (status_after v.status p.button)) p.button at (open_turn h c r)
        v.callsign (ends_turn p.button) true (vehicle_after v (Some l) p true) in
        let ended : row_at callsign_cmp loan_key after.loans c
        ≡ None =
        ap (λ ls. row_at callsign_cmp loan_key ls c) left.loans
        ∙ ap (row_at callsign_cmp loan_key (drop_row callsign_cmp loan_key r.loans v.callsign)) is.key
        ∙ row_drop_same callsign_cmp loan_key callsigns_total r.loans v.callsign w.order.loans in
        let became : row_at callsign_cmp vehicle_key after.vehicles c
        ≡ Some x =
        ap (λ vs. row_at callsign_cmp vehicle_key vs c) left.vehicles
        ∙ ap (row_at callsign_cmp vehicle_key (put_row callsign_cmp vehicle_key r.vehicles x)) is.key
        ∙ put_found callsign_cmp vehicle_key callsigns_total r.vehicles x in
        let first = first_foreign o (status_after v.status p.button) in
        (elim (l.lender
        == d) as (λ (b : Bool). l.lender == d ≡ b → own d after ≡ share_by d s (cond b (Some (Arrive x)) None)) [
          | true ↦ λ f.
              ap (λ us. own d (apply r (PutReport row ∷ us)))
              (sym (append_assoc (turn_changes p.button at t) (drop_changes v.callsign (ends_turn p.button))
              (DropLoan v.callsign ∷ PutVehicle x ∷ [])))
              ∙ own_after d r
              (PutReport row ∷ turn_changes p.button at t ++ drop_changes v.callsign (ends_turn p.button))
              (DropLoan v.callsign ∷ PutVehicle x ∷ []) w.order first (tt, (tt, tt))
              ∙ ap (λ (b : Bool). record s {
                loans = drop_row callsign_cmp loan_key s.loans v.callsign;
                vehicles =
                    cond b (put_row callsign_cmp vehicle_key s.vehicles x)
                    (drop_row callsign_cmp vehicle_key s.vehicles v.callsign);
              }) f
          | false ↦ λ f. own_foreign d r cs w.order (
            first.0,
            foreign_append d s _ _ (turns_foreign (open_turn h c r) refl)
                (foreign_append d s _ _ (drop_foreign (ends_turn p.button))
                (other_loan l loan.0 f loan.1, ((f, (vehicle_foreign d h r w apart c v is v refl is.holder).1), tt))),
          )
        ]) refl
        ∙ sym (
        ap (λ q.
        share_by d s (cond (is_loan_ended d q (row_at callsign_cmp loan_key after.loans c))
        (option_map Arrive (row_at callsign_cmp vehicle_key after.vehicles c)) None)) loan.0
        ∙ ap (λ q.
        share_by d s
        (cond (l.lender == d && is_none q) (option_map Arrive (row_at callsign_cmp vehicle_key after.vehicles c)) None))
        ended
        ∙ ap (λ b. share_by d s (cond b (option_map Arrive (row_at callsign_cmp vehicle_key after.vehicles c)) None))
        (same_and (l.lender == d))
        ∙ ap (λ q. share_by d s (cond (l.lender == d) (option_map Arrive q) None)) became
        )

    acted : (o : Outcome) (back : Bool) → is_home p.button && is_due at (borrowed h c r) ≡ back
        → own d (apply r (report_acts v (open_turn h c r) (borrowed h c r) p at o back))
        ≡ share_by d (own d r) (arrival d c r
        (apply r (report_acts v (open_turn h c r) (borrowed h c r) p at o back)))
    acted o false e =
        let x = vehicle_after v (borrowed h c r) p false in
        let first = first_foreign o (status_after v.status p.button) in
        stays (report_acts v (open_turn h c r) (borrowed h c r) p at o false) (
          first.0,
          foreign_append d (own d r) _ _ (turns_foreign (open_turn h c r) refl)
              (foreign_append d (own d r) _ _ (drop_foreign (ends_turn p.button))
              (vehicle_foreign d h r w apart c v is x refl is.holder, tt)),
        )
        (left_by r (report_row v p at o (status_after v.status p.button)) p.button at (open_turn h c r) v.callsign
        (ends_turn p.button) false x).loans
    acted o true e =
        let due = due_loan (borrowed h c r) (right_true (is_home p.button) _ e) in
        subst (λ l.
        own d (apply r (report_acts v (open_turn h c r) l p at o true))
        ≡ share_by d (own d r) (arrival d c r (apply r (report_acts v (open_turn h c r) l p at o true)))) (sym due.1)
        (returned o due.0 due.1)

    held_report : HandsOver (report_held (Some v) (open_turn h c r) (borrowed h c r) p at)
    held_report =
        by_report HandsOver v (open_turn h c r) (borrowed h c r) p at
        (λ o. acted o (is_home p.button && is_due at (borrowed h c r)) refl) ignored (outcome_of v (open_turn h c r) p)

  -- a report of a vehicle that h doesn't hold is refused
  unheld : arrival d c r r ≡ None
  unheld = ap (λ (b : Bool). cond b (option_map Arrive (vehicle_at c r)) None) (not_ended d (loan_at c r))

  by_held : (o : Option Vehicle) → held h c r ≡ o
      → own d (apply r (changes_of (report_held o (open_turn h c r) (borrowed h c r) p at)))
      ≡ share_by d (own d r) (arrival d c r
      (apply r (changes_of (report_held o (open_turn h c r) (borrowed h c r) p at))))
  by_held None e = sym (ap (share_by d (own d r)) unheld)
  by_held (Some v) e = held_report v (held_is h c r v e)

  report_hands : own d (apply r (changes_of (report_in h c p at r)))
      ≡ share_by d (own d r) (arrival d c r (apply r (changes_of (report_in h c p at r))))
  unfolding report_in
  report_hands = by_held (held h c r) refl

-- ---- of whichever vehicle
module _ (d : ℕ) (r : Room) (w : IsWellFormed r) (c : Callsign) (at : ℕ) where
  abbrev sent : Ask → Event
  sent a = record { who = Crew c; ask = a; at = at }

  kept_own : (n : ℕ) → kept_report c n r ≡ None → kept_report c n (own d r) ≡ None
  unfolding kept_report
  kept_own n e =
      row_filter numbered_cmp report_key numbered_total (owns_report d) r.reports (c, n) w.order.reports
      ∙ ap (keep (owns_report d)) e

  vehicle_own : (v : Vehicle) → vehicle_at c r ≡ Some v → v.holder == d ≡ true
      → vehicle_at c (own d r) ≡ Some v
  unfolding vehicle_at
  vehicle_own v e f =
      row_filter callsign_cmp vehicle_key callsigns_total (owns_vehicle d) r.vehicles c w.order.vehicles
      ∙ ap (keep (owns_vehicle d)) e ∙ ap (λ (b : Bool). cond b (Some v) None) f

  nothing_arrives : vehicle_at c r ≡ None → arrival d c r r ≡ None
  nothing_arrives e =
      ap (λ o. cond (is_loan_ended d (loan_at c r) (loan_at c r)) (option_map Arrive o) None) e
      ∙ either (is_loan_ended d (loan_at c r) (loan_at c r))
    where
      either : (b : Bool) → cond {A = Option Crossing} b None None ≡ None
      either true = refl
      either false = refl

  -- a report that is not kept is decided where the vehicle is held
  new_reported : (p : Press) (s : Room) (v : Vehicle) → kept_report c p.number s ≡ None
      → vehicle_at c s ≡ Some v → take_report c p at s ≡ report_in v.holder c p at s
  new_reported p s v k e = ap (λ q. report_kept q c p at s) k ∙ ap (λ q. report_somewhere q c p at s) e

  pub report_by_share : (p : Press) (v : Vehicle) → kept_report c p.number r ≡ None
      → vehicle_at c r ≡ Some v → v.holder == d ≡ true
      → take_report c p at (own d r) ≡ take_report c p at r
  report_by_share p v k e f =
      let same : v.holder ≡ d = eqb-true v.holder d f in
      new_reported p (own d r) v (kept_own p.number k) (vehicle_own v e f) ∙ ap (λ q. report_in q c p at (own d r)) same
      ∙ report_in_own d r w.order c p at ∙ ap (λ q. report_in q c p at r) (sym same) ∙ sym (new_reported p r v k e)

  placed : (p : Press) (o : Option Vehicle) → kept_report c p.number r ≡ None → vehicle_at c r ≡ o →
      own d (apply r (changes_of (report_somewhere o c p at r)))
      ≡ share_by d (own d r) (cond (is_held_by d o) (Some (ReportIn (sent (ask.Report p))))
      (arrival d c r (apply r (changes_of (report_somewhere o c p at r)))))
  placed p None k e = sym (ap (share_by d (own d r)) (nothing_arrives e))
  placed p (Some v) k e =
      (elim (v.holder
      == d) as (λ (b : Bool).
      v.holder == d ≡ b
      → own d (apply r (changes_of (report_in v.holder c p at r)))
      ≡ share_by d (own d r) (cond b (Some (ReportIn (sent (ask.Report p))))
      (arrival d c r (apply r (changes_of (report_in v.holder c p at r)))))) [
        | true ↦
            λ f.
            own_apply_own d r (changes_of (report_in v.holder c p at r)) w.order
            (all_plain (changes_of (report_in v.holder c p at r))
            (report_all r IsPlain (plain_allowed r) v.holder c p at k))
            ∙ ap (λ x. own d (apply (own d r) (changes_of x)))
            (sym (report_by_share p v k e f ∙ new_reported p r v k e))
        | false ↦ λ f. report_hands d v.holder r w f c p at k
      ]) refl

  report_event : (p : Press) (o : Option Report) → kept_report c p.number r ≡ o
      → own d (apply r (changes_of (report_kept o c p at r)))
      ≡ share_by d (own d r) (cross_report d (sent (ask.Report p)) c o r
      (apply r (changes_of (report_kept o c p at r))))
  report_event p None e = placed p (vehicle_at c r) e refl
  report_event p (Some k) e = by_refuse (λ x. own d (apply r (changes_of x)) ≡ own d r) _ _ _ refl (λ f. refl)

  pub crew_event : (a : Ask) → own d (apply r (changes_of (who_asks (Crew c) a at r)))
      ≡ share_by d (own d r) (cross_crew d c (sent a) a r)
  crew_event (ask.Report p) = report_event p (kept_report c p.number r) refl
  crew_event a = ap (λ cs. own d (apply r cs)) (quiet_shows at r (Crew c) a refl)

  -- no desk sees it
  quiet_arrival : (b : Bool) (o : Option Vehicle)
      → answers_by (own d r) (cond b (option_map Arrive o) None) ≡ []
  quiet_arrival true None = refl
  quiet_arrival true (Some v) = refl
  quiet_arrival false o = refl

  answers_report : (p : Press) (o : Option Report) (after : Room)
      → answers_by (own d r) (cross_report d (sent (ask.Report p)) c o r after) ≡ []
  answers_report p (Some k) after = refl
  answers_report p None after =
      (elim (is_held_by d (vehicle_at c r)) as (λ (b : Bool).
      answers_by (own d r) (cond b (Some (ReportIn (sent (ask.Report p)))) (arrival d c r after)) ≡ []) [
        | true ↦ refl
        | false ↦ quiet_arrival (is_loan_ended d (loan_at c r) (loan_at c after)) (vehicle_at c after)
      ])

  pub answers_crew : (a : Ask) → answers_by (own d r) (cross_crew d c (sent a) a r) ≡ []
  answers_crew (ask.Report p) = answers_report p (kept_report c p.number r) (room_after (sent (ask.Report p)) r)
  answers_crew a = refl
