-- A report or a call that was answered is answered so again as long as its row is there.
use Rattle.std.proofs.Common.{ap, arith, inl, inr, subst, sym, ◌∙◌}
use Rattle.std.specs.Prelude.{Bool, Err, IfErr, None, Ok, Option, Result, Some, [], false, is_ok}
use Rattle.std.specs.Prelude.{not, refl, true, ℕ, ◌+◌, ◌∷◌, ◌≡◌, ◌⊎◌}
use Rattle.room_place.specs.Plans.{division_of}
use Rattle.room_types.specs.KeyedRows.{row_at}
use Rattle.room_types.specs.Keys.{call_key, numbered_cmp, pair_cmp, report_key}
use Rattle.room_types.specs.KeyLemmas.{exact_numbered, exact_pair, numbered_total, pairs_total}
use Rattle.room_types.specs.Texts.{Callsign}
use Rattle.room_types.specs.declared.answers.Answer.{Answer}
use Rattle.room_types.specs.declared.asks.CallForm.{CallForm}
use Rattle.room_types.specs.declared.asks.Event.{Event}
use Rattle.room_types.specs.declared.asks.Press.{Press}
use Rattle.room_types.specs.declared.refusal_statuses.Refusal.{Refusal}
use Rattle.room_types.specs.declared.tables.Call.{Call}
use Rattle.room_types.specs.declared.tables.Division.{Division}
use Rattle.room_types.specs.declared.tables.Incident.{Incident}
use Rattle.room_types.specs.declared.tables.Loan.{Loan}
use Rattle.room_types.specs.declared.tables.Report.{Report}
use Rattle.room_types.specs.declared.tables.Turn.{Turn}
use Rattle.room_types.specs.declared.tables.Vehicle.{Vehicle}
use Rattle.room_model.proofs.DecisionLaws.{by_refuse, by_report}
use Rattle.room_model.proofs.RefusedAgain.{only_number, report_answered_again, serial_again}
use Rattle.room_model.proofs.RepeatLaws.{CallThere, IsThere, ReportThere, call_lasts, call_later}
use Rattle.room_model.proofs.RepeatLaws.{call_repeated, number_used, only_answers, report_lasts}
use Rattle.room_model.proofs.RepeatLaws.{report_later, serial_used, with_cleared, with_incident}
use Rattle.room_model.proofs.Tests.{row_key}
use Rattle.room_model.specs.Calls.{call_in, call_kept, call_somewhere, call_taken, new_call}
use Rattle.room_model.specs.Calls.{same_call}
use Rattle.room_model.specs.Decisions.{Verdict, answer_of, changes_of, refuse_if, show}
use Rattle.room_model.specs.Events.{OnlyAnswers, by_crew, by_position}
use Rattle.room_model.specs.Queries.{borrowed, held, kept_call, kept_report, last_number}
use Rattle.room_model.specs.Queries.{link_target, open_turn, vehicle_at}
use Rattle.room_model.specs.Reports.{outcome_of, report_held, report_in, report_kept}
use Rattle.room_model.specs.Reports.{report_somewhere, same_press}
use Rattle.room_model.specs.Room.{IsInOrder, Room}
use Rattle.room_model.specs.Step.{IsAddressed, answer_to, room_after}
use Rattle.room_types.specs.declared.answers.Answer.TheVariants as answer
use Rattle.room_types.specs.declared.asks.Ask.TheVariants as ask
use Rattle.room_types.specs.declared.refusal_statuses.Refusal.TheVariants as refusal

abbrev IsQuiet : Verdict → Type 0
IsQuiet x = changes_of x ≡ []

quiet_if : (b : Bool) (e : Refusal) (a : Answer) → IsQuiet (refuse_if b e (show a))
quiet_if b e a = by_refuse IsQuiet b e (show a) refl (λ _. refl)

one_more : (n : ℕ) → n + 1 ≡ n → ⊥
one_more n e = omega (arith, e)

-- ---- a report
abbrev report_verdict : Report → Press → Verdict
report_verdict k p = refuse_if (not (same_press k p)) refusal.NumberReused
    (show (answer.Reported k.number k.outcome k.status))

-- a row has the report's number, and the report is answered so by it
pub record KeepsReport (c : Callsign) (p : Press) (a : Result Answer Refusal) (r : Room) : Type 0 where
  pub row : Report
  pub key : (c, p.number) ≡ report_key row
  pub there : ReportThere row r
  pub answered : answer_of (report_verdict row p) ≡ a

module _ (c : Callsign) (p : Press) (at : ℕ) (r : Room) where
  abbrev IsNumberless : Verdict → Type 0
  IsNumberless x = answer_of x ≡ Err refusal.NumberReused → ⊥

  held_numberless : (v : Option Vehicle) (t : Option Turn) (l : Option Loan)
      → IsNumberless (report_held v t l p at)
  held_numberless None t l answered = cc
  held_numberless (Some v) t l answered =
      by_report IsNumberless v t l p at (λ o g. cc) (λ o g. cc) (outcome_of v t p) answered

  in_numberless : (h : ℕ) → IsNumberless (report_in h c p at r)
  unfolding report_in
  in_numberless h = held_numberless (held h c r) (open_turn h c r) (borrowed h c r)

  somewhere_numberless : (v : Option Vehicle) → IsNumberless (report_somewhere v c p at r)
  somewhere_numberless None answered = cc
  somewhere_numberless (Some v) answered = in_numberless v.holder answered

  -- what is refused for its number has a row
  numbered : (o : Option Report) → kept_report c p.number r ≡ o
      → answer_of (report_kept o c p at r) ≡ Err refusal.NumberReused
      → (k : Report) × (kept_report c p.number r ≡ Some k)
  numbered None e answered = absurd (somewhere_numberless (vehicle_at c r) answered)
  numbered (Some k) e answered = (k, e)

module _ (c : Callsign) (p : Press) (a : Result Answer Refusal) where
  pub report_kept_by : (r s : Room) → s.reports ≡ r.reports → KeepsReport c p a r
      → KeepsReport c p a s
  report_kept_by r s same keeps = record {
    row = keeps.row;
    key = keeps.key;
    there =
        subst (IsThere numbered_cmp report_key numbered_total exact_numbered with_cleared keeps.row) (sym same)
        keeps.there;
    answered = keeps.answered;
  }

  pub report_kept_on : (e : Event) (r : Room) → IsInOrder r → KeepsReport c p a r
      → KeepsReport c p a (room_after e r)
  report_kept_on e r order keeps = record {
    row = keeps.row;
    key = keeps.key;
    there = report_lasts keeps.row (e ∷ []) r order keeps.there;
    answered = keeps.answered;
  }

  pub report_again : (r : Room) → KeepsReport c p a r → (later : ℕ)
      → OnlyAnswers (by_crew c (ask.Report p) later) r a
  report_again r keeps later =
      only_answers (by_crew c (ask.Report p) later) r (report_verdict keeps.row p) a
      (report_later c p later r keeps.row keeps.key keeps.there) (quiet_if _ _ _) keeps.answered

module _ (c : Callsign) (p : Press) (at : ℕ) (r : Room) (order : IsInOrder r)
    (there : IsAddressed (by_crew c (ask.Report p) at) r) where
  abbrev first_report : Event
  first_report = by_crew c (ask.Report p) at

  -- a report of its number with another order
  abbrev other_press : Press
  other_press = record p { order = p.order + 1 }

  row_after : (x : Result Answer Refusal) → answer_to first_report r ≡ x
      → IfErr x (λ why. why ≡ refusal.NumberReused)
      → (k : Report) × (kept_report c p.number (room_after first_report r) ≡ Some k)
  row_after (Ok x) e why =
      numbered c other_press 0 (room_after first_report r) _ refl
      (number_used c p at r [] order (ap is_ok e) other_press 0 refl
      (λ same. one_more p.order (ap (λ (q : Press). q.order) same))).1
  row_after (Err x) e why =
      numbered c p 0 (room_after first_report r) _ refl
      ((report_answered_again c p at r [] order there 0).1 ∙ e ∙ ap Err why)

  pub report_first : KeepsReport c p (answer_to first_report r) (room_after first_report r)
  unfolding kept_report
  report_first =
      let s = room_after first_report r in
      let found = row_after (answer_to first_report r) refl (only_number c p at r there) in
      let key : (c, p.number)
      ≡ report_key found.0 =
      row_key numbered_cmp report_key numbered_total exact_numbered s.reports (c, p.number) found.0 found.1 in
      let here : ReportThere found.0
      s = (
        found.0.cleared,
        subst (λ (z : Callsign × ℕ). row_at numbered_cmp report_key s.reports z ≡ Some found.0) key found.1,
      ) in
      record {
        row = found.0;
        key = key;
        there = here;
        answered =
            sym (ap answer_of (report_later c p 0 s found.0 key here))
            ∙ (report_answered_again c p at r [] order there 0).1;
      }

-- ---- a call
abbrev call_verdict : Call → ℕ → CallForm → Verdict
call_verdict k p f = refuse_if (not (same_call k (new_call p f 0))) refusal.SerialReused
    (show (answer.Called k.division k.given k.linked))

-- a row has the call's serial, and the call is answered so by it
pub record KeepsCall (p : ℕ) (f : CallForm) (a : Result Answer Refusal) (r : Room) : Type 0 where
  pub row : Call
  pub key : (p, f.serial) ≡ call_key row
  pub there : CallThere row r
  pub answered : answer_of (call_verdict row p f) ≡ a

module _ (p : ℕ) (f : CallForm) (at : ℕ) (r : Room) where
  abbrev IsSerialless : Verdict → Type 0
  IsSerialless x = answer_of x ≡ Err refusal.SerialReused → ⊥

  taken_serialless : (d : ℕ) (i : Option Incident) (v : Option Division)
      → IsSerialless (call_taken d (new_call p f at) i v)
  taken_serialless d (Some i) v answered = cc
  taken_serialless d None None answered = cc
  taken_serialless d None (Some v) answered = by_refuse IsSerialless _ _ _ (λ g. cc) (λ e g. cc) answered

  somewhere_serialless : (o : Option ℕ) → IsSerialless (call_somewhere o (new_call p f at) r)
  unfolding call_in
  somewhere_serialless None answered = cc
  somewhere_serialless (Some d) answered =
      taken_serialless d (link_target d f.place at r) (last_number d r) answered

  serialled : (o : Option Call) → kept_call p f.serial r ≡ o
      → answer_of (call_kept o (new_call p f at) r) ≡ Err refusal.SerialReused
      → (k : Call) × (kept_call p f.serial r ≡ Some k)
  serialled None e answered = absurd (somewhere_serialless (division_of r.plan f.place) answered)
  serialled (Some k) e answered = (k, e)

module _ (p : ℕ) (f : CallForm) (a : Result Answer Refusal) where
  pub call_kept_by : (r s : Room) → s.calls ≡ r.calls → KeepsCall p f a r → KeepsCall p f a s
  call_kept_by r s same keeps = record {
    row = keeps.row;
    key = keeps.key;
    there = subst (IsThere pair_cmp call_key pairs_total exact_pair with_incident keeps.row) (sym same) keeps.there;
    answered = keeps.answered;
  }

  pub call_kept_on : (e : Event) (r : Room) → IsInOrder r → KeepsCall p f a r
      → KeepsCall p f a (room_after e r)
  call_kept_on e r order keeps = record {
    row = keeps.row;
    key = keeps.key;
    there = call_lasts keeps.row (e ∷ []) r order keeps.there;
    answered = keeps.answered;
  }

  pub call_again : (r : Room) → KeepsCall p f a r → (later : ℕ)
      → OnlyAnswers (by_position p (ask.Call f) later) r a
  call_again r keeps later =
      only_answers (by_position p (ask.Call f) later) r (call_verdict keeps.row p f) a
      (call_later p f later r keeps.row keeps.key keeps.there) (quiet_if _ _ _) keeps.answered

-- accepted, or refused since its serial is another's
abbrev pub IsKept : Result Answer Refusal → Type 0
IsKept a = (is_ok a ≡ true) ⊎ (a ≡ Err refusal.SerialReused)

module _ (p : ℕ) (f : CallForm) (at : ℕ) (r : Room) (order : IsInOrder r) where
  abbrev first_call : Event
  first_call = by_position p (ask.Call f) at

  -- a call of its serial and another class
  abbrev other_form : CallForm
  other_form = record f { class = f.class + 1 }

  call_row_after : IsKept (answer_to first_call r)
      → (k : Call) × (kept_call p f.serial (room_after first_call r) ≡ Some k)
  call_row_after (inl ok) =
      serialled p other_form 0 (room_after first_call r) _ refl
      (serial_used p f at r [] order ok other_form 0 refl
      (λ same. one_more f.class (ap (λ (g : CallForm). g.class) same))).1
  call_row_after (inr reused) =
      serialled p f 0 (room_after first_call r) _ refl (serial_again p f at r [] order reused 0).1

  at_once : IsKept (answer_to first_call r)
      → answer_to (by_position p (ask.Call f) 0) (room_after first_call r) ≡ answer_to first_call r
  at_once (inl ok) = (call_repeated p f at r [] order ok 0).1
  at_once (inr reused) = (serial_again p f at r [] order reused 0).1 ∙ sym reused

  pub call_first : IsKept (answer_to first_call r)
      → KeepsCall p f (answer_to first_call r) (room_after first_call r)
  unfolding kept_call
  call_first is =
      let s = room_after first_call r in
      let found = call_row_after is in
      let key : (p, f.serial)
      ≡ call_key found.0 = row_key pair_cmp call_key pairs_total exact_pair s.calls (p, f.serial) found.0 found.1 in
      let here : CallThere found.0
      s = (
        found.0.incident,
        subst (λ (z : ℕ × ℕ). row_at pair_cmp call_key s.calls z ≡ Some found.0) key found.1,
      ) in
      record {
        row = found.0;
        key = key;
        there = here;
        answered = sym (ap answer_of (call_later p f 0 s found.0 key here)) ∙ at_once is;
      }
