-- The reported rows are what the room decides of a report.
use Rattle.std.proofs.Common.{Bool, None, Option, Some, eq-eqb, false, refl, true, ap, ◌∙◌, subst}
use Rattle.std.proofs.Common.{sym, cond, ℕ, ◌≡◌}
use Rattle.std.proofs.lemmas.Bool.{false≢true}
use Rattle.std.specs.Option.{option_to_list}
use Rattle.std.specs.Prelude.{List, [], is_none, is_some, IfSome, option_map, ◌&&◌, ◌++◌, ◌==◌, ◌∷◌}
use Rattle.room_types.proofs.EachRow.{row_key}
use Rattle.room_types.specs.KeyedRows.{keep, row_at}
use Rattle.room_types.specs.Keys.{callsign_cmp, loan_key, numbered_cmp, turn_key, vehicle_key}
use Rattle.room_types.specs.KeyLemmas.{callsigns_total, exact_callsigns}
use Rattle.room_types.specs.Texts.{Callsign}
use Rattle.room_types.specs.declared.answers.Answer.{Answer}
use Rattle.room_types.specs.declared.answers.Answer.TheVariants.{Reported}
use Rattle.room_types.specs.declared.asks.Press.{Press}
use Rattle.room_types.specs.Codes.{acts}
use Rattle.room_types.specs.declared.changes.Change.{Change}
use Rattle.room_types.specs.declared.changes.Change.TheVariants.{PutReport, PutTurn, PutVehicle}
use Rattle.room_types.specs.declared.codes.Button.{Button}
use Rattle.room_types.specs.declared.codes.Outcome.{Outcome}
use Rattle.room_types.specs.declared.codes.Outcome.TheVariants.{Late, Normal, Skipped, Stale, Wrong}
use Rattle.room_types.specs.declared.crews.CrewRows.{CrewRows}
use Rattle.room_types.specs.declared.tables.Loan.{Loan}
use Rattle.room_types.specs.declared.tables.Turn.{Turn}
use Rattle.room_types.specs.declared.tables.Vehicle.{Vehicle}
use Rattle.room_model.proofs.OpenTurns.{open_is, open_there}
use Rattle.room_model.proofs.Tests.{none_of}
use Rattle.room_model.specs.Decisions.{Verdict, with_changes}
use Rattle.room_model.specs.Queries.{borrowed, held, kept_report, open_turn, vehicle_at}
use Rattle.room_model.specs.Reports.{back_changes, drop_changes, ends_turn, is_due, is_home}
use Rattle.room_model.specs.Reports.{outcome_of, report_acts, report_held, report_in, report_kept}
use Rattle.room_model.specs.Reports.{report_made, report_somewhere, take_report, turn_after}
use Rattle.room_model.specs.Reports.{turn_changes}
use Rattle.room_model.specs.Room.{Room}
use Rattle.room_model.specs.RoomSlices.{AreCrewRows}
use Rattle.room_model.specs.RoomAgreements.{IsWellFormed, LoanAgrees, OpenAgrees, TurnAgrees}
use Rattle.room_fleet.specs.ReportedRows.{AreHolders, acted, goes_back, reported, reported_as}
use Rattle.room_fleet.specs.declared.reports.Reported.{Reported as Rows}

-- ---- the changes are those of the rows that differ
turn_put : (b : Button) (at : ℕ) (t : Option Turn)
    → option_to_list (option_map PutTurn (option_map (turn_after b at) t)) ≡ turn_changes b at t
turn_put b at None = refl
turn_put b at (Some t) = refl

loan_dropped : (b : Bool) (l : Loan) → is_none (cond b None (Some l)) ≡ b
loan_dropped false l = refl
loan_dropped true l = refl

loan_over : (home : Bool) (at : ℕ) (l : Option Loan)
    → is_some l && is_none (cond (home && is_due at l) None l) ≡ (home && is_due at l)
loan_over false at None = refl
loan_over true at None = refl
loan_over home at (Some l) = loan_dropped (home && is_due at (Some l)) l

-- as they are put one after another
abbrev pub put_one_by_one : CrewRows → Rows → List Change
put_one_by_one x y = PutReport y.report ∷ option_to_list (option_map PutTurn y.turn)
    ++ (drop_changes y.vehicle.callsign (ends_turn y.report.button)
    ++ (back_changes y.vehicle.callsign (is_some x.loan && is_none y.loan)
    ++ PutVehicle y.vehicle ∷ []))

acts_so : (x : CrewRows) (p : Press) (at : ℕ) (o : Outcome)
    → report_acts x.vehicle x.turn x.loan p at o (goes_back x p at)
    ≡ put_one_by_one x (acted x p at o)
acts_so x p at o = rw (turn_put p.button at x.turn) (rw (loan_over (is_home p.button) at x.loan) refl)

-- as it is answered
abbrev pub answer_of : Rows → Answer
answer_of y = Reported y.report.number y.report.outcome y.report.status

abbrev pub decided : CrewRows → Press → ℕ → Verdict
decided x p at = report_held (Some x.vehicle) x.turn x.loan p at

made_so : (x : CrewRows) (p : Press) (at : ℕ) (o : Outcome)
    → acts (reported_as x p at o).report.outcome ≡ true
    → report_made x.vehicle x.turn x.loan p at o
    ≡ with_changes (answer_of (reported_as x p at o)) (put_one_by_one x (reported_as x p at o))
made_so x p at Normal h = ap (with_changes (answer_of (acted x p at Normal))) (acts_so x p at Normal)
made_so x p at Skipped h = ap (with_changes (answer_of (acted x p at Skipped))) (acts_so x p at Skipped)
made_so x p at Wrong h = absurd (false≢true h)
made_so x p at Late h = absurd (false≢true h)
made_so x p at Stale h = absurd (false≢true h)

pub acted_so : (x : CrewRows) (y : Rows) (p : Press) (at : ℕ) (changes : List Change)
    (answer : Answer) → acts y.report.outcome ≡ true → y ≡ reported x p at
    → changes ≡ put_one_by_one x y → answer ≡ answer_of y → decided x p at ≡ with_changes answer changes
acted_so x y p at changes answer acting same are answered_so =
    subst
    (λ (z : Rows). acts z.report.outcome ≡ true → decided x p at ≡ with_changes (answer_of z) (put_one_by_one x z))
    (sym same) (made_so x p at (outcome_of x.vehicle x.turn p)) acting
    ∙ (ap (with_changes (answer_of y)) (sym are) ∙ ap (λ a. with_changes a changes) (sym answered_so))

-- ---- a room that has a vehicle's rows decides its report by them
pub decided_so : (x : CrewRows) (r : Room) (p : Press) (at : ℕ) → AreHolders r x
    → decided x p at ≡ report_in x.vehicle.holder x.vehicle.callsign p at r
unfolding report_in
decided_so x r p at rows = rw (rows.vehicle, rows.turn, rows.loan) refl

-- ---- a crew's rows of a well-formed room are its holder's
module _ (c : Callsign) (r : Room) (x : CrewRows) (formed : IsWellFormed r)
    (rows : AreCrewRows c r x) where
  named : x.vehicle.callsign ≡ c
  named =
      subst (λ o. IfSome o (λ v. v.callsign ≡ c)) rows.vehicle
      (row_key callsign_cmp vehicle_key callsigns_total exact_callsigns r.vehicles c)

  is_held : held x.vehicle.holder c r ≡ Some x.vehicle
  unfolding held
  is_held =
      ap (keep (λ v. v.holder == x.vehicle.holder)) rows.vehicle
      ∙ ap (λ b. cond b (Some x.vehicle) None) (eq-eqb x.vehicle.holder x.vehicle.holder refl)

  borrower_kept : (v : Vehicle) (l : Option Loan) → LoanAgrees (Some v) l
      → keep (λ k. k.borrower == v.holder) l ≡ l
  borrower_kept v None h = refl
  borrower_kept v (Some l) h = rw (eq-eqb l.borrower v.holder h.1) refl

  is_borrowed : borrowed x.vehicle.holder c r ≡ x.loan
  unfolding borrowed
  is_borrowed =
      borrower_kept x.vehicle _
      (subst (λ o. LoanAgrees o (row_at callsign_cmp loan_key r.loans c)) rows.vehicle (formed.loans c)) ∙ rows.loan

  abbrev turn_of : ℕ → Option Turn
  turn_of m = row_at numbered_cmp turn_key r.turns (c, m)

  agreed : (m : ℕ) → TurnAgrees (Some x.vehicle) m (turn_of m)
  agreed m = subst (λ o. TurnAgrees o m (turn_of m)) rows.vehicle (formed.turns c m)

  -- an open turn is of the last order, and the holder's
  open_last : (m : ℕ) (t : Turn) → turn_of m ≡ Some t → t.ended ≡ None
      → (m ≡ x.vehicle.last_order) × (t.division ≡ x.vehicle.holder)
  open_last m t there unended =
      let h = subst (OpenAgrees x.vehicle m t) unended (subst (TurnAgrees (Some x.vehicle) m) there (agreed m)).2 in
      (h.0, h.1)

  open_found : (o : Option Turn) → open_turn x.vehicle.holder c r ≡ o
      → keep (λ t. is_none t.ended) (turn_of x.vehicle.last_order) ≡ o
  open_found (Some t) e =
      let there = open_there x.vehicle.holder c r formed.order t e in
      let last = open_last t.order t there.0 there.1 in
      ap (keep (λ y. is_none y.ended)) (subst (λ m. turn_of m ≡ Some t) last.0 there.0)
      ∙ ap (λ m. cond (is_none m) (Some t) None) there.1
  open_found None e = none_kept (turn_of x.vehicle.last_order) refl
    where
      none_kept : (o : Option Turn) → turn_of x.vehicle.last_order ≡ o
          → keep (λ t. is_none t.ended) o ≡ None
      none_kept None there = refl
      none_kept (Some t) there = (elim (is_none t.ended) as (λ b. is_none t.ended ≡ b → cond b (Some t) None ≡ None) [
        | true ↦
            λ f.
            absurd (open_is x.vehicle.holder c r formed.order None e x.vehicle.last_order t there (none_of t.ended f)
            (open_last x.vehicle.last_order t there (none_of t.ended f)).1)
        | false ↦ λ f. refl
      ]) refl

  is_open : open_turn x.vehicle.holder c r ≡ x.turn
  is_open = sym (open_found _ refl) ∙ rows.turn

  are_holders : AreHolders r x
  are_holders = record {
    vehicle = subst (λ k. held x.vehicle.holder k r ≡ Some x.vehicle) (sym named) is_held;
    turn = subst (λ k. open_turn x.vehicle.holder k r ≡ x.turn) (sym named) is_open;
    loan = subst (λ k. borrowed x.vehicle.holder k r ≡ x.loan) (sym named) is_borrowed;
  }

pub asked_so : (c : Callsign) (r : Room) (x : CrewRows) (p : Press) (at : ℕ) → IsWellFormed r
    → AreCrewRows c r x → kept_report c p.number r ≡ None → decided x p at ≡ take_report c p at r
unfolding vehicle_at
asked_so c r x p at formed rows new =
    decided_so x r p at (are_holders c r x formed rows)
    ∙ (ap (λ k. report_in x.vehicle.holder k p at r) (named c r x formed rows)
    ∙ (ap (λ v. report_somewhere v c p at r) (sym rows.vehicle)
    ∙ ap (λ k. report_kept k c p at r) (sym new)))
