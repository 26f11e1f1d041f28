-- A message that is sent again is answered again, and changes nothing.
use Rattle.std.proofs.Common.{ap, eq-eqb, eqb-true, inl, inr, subst, sym, ◌∙◌}
use Rattle.std.proofs.lemmas.Cmp.{tied_itself}
use Rattle.std.proofs.lemmas.Map.Lookups.{CmpEqualImpliesEq}
use Rattle.std.specs.Cmp.{IsTotalOrder}
use Rattle.std.specs.Ordering.{is_eq}
use Rattle.std.specs.Prelude.{Bool, Err, List, None, Ok, Option, Result, Some, [], cond, false}
use Rattle.std.specs.Prelude.{is_ok, not, refl, true, ℕ, ◌&&◌, ◌+◌, ◌==◌, ◌∷◌, ◌≡◌, ◌⊎◌}
use Rattle.std.specs.declared.cmp.Ordering.{Ordering}
use Rattle.room_place.specs.Places.{same_place}
use Rattle.room_place.specs.Plans.{division_of}
use Rattle.room_place.specs.declared.places.Place.{Place}
use Rattle.room_types.proofs.KeyedLaws.{row_put}
use Rattle.room_types.specs.KeyedRows.{put_row, row_at}
use Rattle.room_types.specs.Keys.{call_key, numbered_cmp, pair_cmp, report_key}
use Rattle.room_types.specs.KeyLemmas.{callsigns_total, exact_callsigns, exact_numbered, exact_pair}
use Rattle.room_types.specs.KeyLemmas.{numbered_total, pairs_total}
use Rattle.room_types.specs.Texts.{Callsign}
use Rattle.room_types.specs.declared.answers.Answer.{Answer}
use Rattle.room_types.specs.declared.asks.CallForm.{CallForm}
use Rattle.room_types.specs.declared.asks.Event.{Event}
use Rattle.room_types.specs.declared.asks.Press.{Press}
use Rattle.room_types.specs.declared.changes.Change.{Change}
use Rattle.room_types.specs.declared.changes.Change.TheVariants.{PutCall, PutDivision, PutIncident}
use Rattle.room_types.specs.declared.changes.Change.TheVariants.{PutReport, PutVehicle}
use Rattle.room_types.specs.declared.codes.Button.{Button}
use Rattle.room_types.specs.declared.codes.Button.TheVariants.{Home, Hospital, Leave, Mobile}
use Rattle.room_types.specs.declared.codes.Button.TheVariants.{Position, Return, Scene}
use Rattle.room_types.specs.declared.codes.Outcome.{Outcome}
use Rattle.room_types.specs.declared.codes.Status.{Status}
use Rattle.room_types.specs.declared.needs.Counts.{Counts}
use Rattle.room_types.specs.declared.refusal_statuses.Refusal.{Refusal}
use Rattle.room_types.specs.declared.tables.Call.{Call}
use Rattle.room_types.specs.declared.tables.Division.{Division}
use Rattle.room_types.specs.declared.tables.Incident.{Incident}
use Rattle.room_types.specs.declared.tables.Loan.{Loan}
use Rattle.room_types.specs.declared.tables.Report.{Report}
use Rattle.room_types.specs.declared.tables.Turn.{Turn}
use Rattle.room_types.specs.declared.tables.Vehicle.{Vehicle}
use Rattle.room_model.proofs.Changes.{AllOf, Allows, AllowsLending, event_all, is_silent}
use Rattle.room_model.proofs.Handed.{put_found}
use Rattle.room_model.proofs.Others.{held_is}
use Rattle.room_model.proofs.DecisionLaws.{by_refuse, by_report}
use Rattle.room_model.proofs.OwnChanges.{in_order_apply}
use Rattle.room_model.proofs.ReportsApart.{left_by}
use Rattle.room_model.proofs.Tests.{both_true, is_equal, left_true, right_true, row_among, row_key}
use Rattle.room_model.specs.Calls.{call_in, call_kept, call_row, call_somewhere, call_taken}
use Rattle.room_model.specs.Calls.{new_call, new_incident, same_call, take_call, with_call}
use Rattle.room_types.specs.Codes.{same_button}
use Rattle.room_types.specs.Needs.{same_needs}
use Rattle.room_model.specs.Decisions.{Verdict, answer_of, changes_of, refuse_if, show}
use Rattle.room_model.specs.Decisions.{with_changes}
use Rattle.room_model.specs.Events.{OnlyAnswers, by_crew, by_position}
use Rattle.room_model.specs.Queries.{borrowed, held, kept_call, kept_report, last_number}
use Rattle.room_model.specs.Queries.{link_target, open_turn, vehicle_at}
use Rattle.room_model.specs.Reports.{ends_turn, is_due, is_home, outcome_of, report_acts}
use Rattle.room_model.specs.Reports.{report_held, report_in, report_kept, report_row}
use Rattle.room_model.specs.Reports.{report_somewhere, same_press, status_after, vehicle_after}
use Rattle.room_model.specs.Reports.{with_report}
use Rattle.room_model.specs.Room.{IsInOrder, Room, apply, apply_one}
use Rattle.room_model.specs.Run.{room_run}
use Rattle.room_model.specs.Step.{answer_to, crew_asks, decided, room_after}
use Rattle.room_types.specs.declared.answers.Answer.TheVariants as answer
use Rattle.room_types.specs.declared.asks.Ask.TheVariants as ask
use Rattle.room_types.specs.declared.refusal_statuses.Refusal.TheVariants as refusal

-- ---- rows that stay at their keys, but for one field
module _ {R K F : Type 0} (cmp : K → K → Ordering) (key : R → K) (total : IsTotalOrder cmp)
    (exact : CmpEqualImpliesEq cmp) (with_field : R → F → R) where
  -- the row, but for the field, is at its key
  abbrev pub IsThere : R → List R → Type 0
  IsThere k xs = (f : F) × (row_at cmp key xs (key k) ≡ Some (with_field k f))

  -- a row of another key, or the row but for the field
  abbrev IsHarmless : R → R → Type 0
  IsHarmless k x = (is_eq (cmp (key k) (key x)) ≡ false) ⊎ ((f : F) × (x ≡ with_field k f))

  by_key : (k x : R) → (is_eq (cmp (key k) (key x)) ≡ true → (f : F) × (x ≡ with_field k f))
      → IsHarmless k x
  by_key k x g =
      (elim (is_eq (cmp (key k) (key x))) as (λ (b : Bool). is_eq (cmp (key k) (key x)) ≡ b → IsHarmless k x) [
        | true ↦ λ e. inr (g e)
        | false ↦ λ e. inl e
      ]) refl

  put_keeps : (k x : R) (xs : List R) → IsHarmless k x → IsThere k xs
      → IsThere k (put_row cmp key xs x)
  put_keeps k x xs harmless there =
      (elim (is_eq
      (cmp (key k) (key x))) as (λ (b : Bool). is_eq (cmp (key k) (key x)) ≡ b → IsThere k (put_row cmp key xs x)) [
        | true ↦ λ e. elim harmless [
          | inl f ↦ let clash : true ≡ false = sym e ∙ f in cc
          | inr f ↦ (
            f.0,
            row_put cmp key total xs x (key k) ∙ ap (λ (b : Bool). cond b (Some x) (row_at cmp key xs (key k))) e
                ∙ ap Some f.1,
          )
        ]
        | false ↦
            λ e. (
              there.0,
              row_put cmp key total xs x (key k) ∙ ap (λ (b : Bool). cond b (Some x) (row_at cmp key xs (key k))) e
                  ∙ there.1,
            )
      ]) refl

  -- a new row is harmless
  fresh_harmless : (k x : R) (xs : List R) → row_at cmp key xs (key x) ≡ None → IsThere k xs
      → IsHarmless k x
  fresh_harmless k x xs none there = by_key k x (λ e.
      let same : key k ≡ key x = exact (key k) (key x) (is_equal _ e) in
      let both : None ≡ Some (with_field k there.0) = sym none ∙ ap (row_at cmp key xs) (sym same) ∙ there.1 in
      absurd (let none_some : ⊥ = cc in none_some))

  -- and so is one that is there, with another value of the field
  found_harmless : (k x y : R) (f : F) (xs : List R) → y ≡ with_field x f → key y ≡ key x
      → row_at cmp key xs (key x) ≡ Some x → IsThere k xs
      → ((g : F) → with_field (with_field k g) f ≡ with_field k f) → IsHarmless k y
  found_harmless k x y f xs changed same_key found there twice = by_key k y (λ e.
      let same : key k ≡ key x = exact (key k) (key y) (is_equal _ e) ∙ same_key in
      let both : Some x ≡ Some (with_field k there.0) = sym found ∙ ap (row_at cmp key xs) (sym same) ∙ there.1 in
      let is : x ≡ with_field k there.0 = cc in
      (f, changed ∙ ap (λ z. with_field z f) is ∙ twice there.0))

  -- ---- in a room
  module _ (rows : Room → List R) (put_of : Change → Option R) where
    abbrev with_put : Option R → List R → List R
    with_put None xs = xs
    with_put (Some x) xs = put_row cmp key xs x

    abbrev Spares : R → Option R → Type 0
    Spares k None = Unit {0}
    Spares k (Some x) = IsHarmless k x

    module _ (only : (r : Room) (x : Change) → rows (apply_one r x) ≡ with_put (put_of x) (rows r))
        (k : R) where
      one_keeps : (o : Option R) (xs : List R) → Spares k o → IsThere k xs
          → IsThere k (with_put o xs)
      one_keeps None xs h there = there
      one_keeps (Some x) xs h there = put_keeps k x xs h there

      apply_keeps : (r : Room) (cs : List Change) → AllOf (λ x. Spares k (put_of x)) cs
          → IsThere k (rows r) → IsThere k (rows (apply r cs))
      apply_keeps r [] h there = there
      apply_keeps r (x ∷ cs) h there =
          apply_keeps (apply_one r x) cs h.1
          (subst (IsThere k) (sym (only r x)) (one_keeps (put_of x) (rows r) h.0 there))

      run_keeps : AllowsLending (λ x. Spares k (put_of x))
          → ((r : Room) → IsInOrder r → IsThere k (rows r) → Allows r (λ x. Spares k (put_of x)))
          → (es : List Event) (r : Room) → IsInOrder r → IsThere k (rows r)
          → IsThere k (rows (room_run es r))
      run_keeps lending allowed [] r order there = there
      run_keeps lending allowed (e ∷ es) r order there =
          run_keeps lending allowed es (room_after e r) (in_order_apply r (changes_of (decided e r)) order)
          (apply_keeps r (changes_of (decided e r))
          (event_all r (λ x. Spares k (put_of x)) (allowed r order there) lending e) there)

not_false : (b : Bool) → not b ≡ false → b ≡ true
not_false true e = refl
not_false false e = cc

-- ---- reports, but for the clearing
abbrev pub with_cleared : Report → Bool → Report
with_cleared x b = record x { cleared = b }

abbrev report_put : Change → Option Report
report_put (PutReport x) = Some x
report_put x = None

abbrev pub ReportThere : Report → Room → Type 0
ReportThere k r = IsThere numbered_cmp report_key numbered_total exact_numbered with_cleared k r.reports

reports_only : (r : Room) (x : Change)
    → (apply_one r x).reports ≡ with_put numbered_cmp report_key numbered_total exact_numbered
    with_cleared (λ r. r.reports) report_put (report_put x) r.reports
reports_only r (PutReport x) = refl
reports_only r x = refl

abbrev SparesReport : Report → Change → Type 0
SparesReport k x =
    Spares numbered_cmp report_key numbered_total exact_numbered with_cleared (λ r. r.reports) report_put k
    (report_put x)

report_spared : (k : Report) (r : Room) → IsInOrder r → ReportThere k r → Allows r (SparesReport k)
unfolding kept_report
report_spared k r order there = record {
  silent = silent_spared;
  new_call = λ x e placed. tt;
  moved = λ x a m. tt;
  new_report =
      λ x e. fresh_harmless numbered_cmp report_key numbered_total exact_numbered with_cleared k x r.reports e there;
  cleared =
      λ c n x e.
      found_harmless numbered_cmp report_key numbered_total exact_numbered with_cleared k x
      (record x { cleared = true }) true r.reports refl refl
      (subst (λ (z : Callsign × ℕ). row_at numbered_cmp report_key r.reports z ≡ Some x)
      (row_key numbered_cmp report_key numbered_total exact_numbered r.reports (c, n) x e) e) there (λ g. refl);
}
  where
    silent_spared : (x : Change) → is_silent x ≡ true → SparesReport k x
    silent_spared (PutReport x) e = cc
    silent_spared x e = tt

-- whatever happens
pub report_lasts : (k : Report) (es : List Event) (r : Room) → IsInOrder r → ReportThere k r
    → ReportThere k (room_run es r)
report_lasts k =
    run_keeps numbered_cmp report_key numbered_total exact_numbered with_cleared (λ r. r.reports) report_put
    reports_only k (record { offered = λ x. tt; settled = λ c d. tt; lent = λ x. tt }) (report_spared k)

-- ---- calls, but for the incident that they belong to
abbrev pub with_incident : Call → ℕ → Call
with_incident x n = record x { incident = n }

abbrev call_put : Change → Option Call
call_put (PutCall x) = Some x
call_put x = None

abbrev pub CallThere : Call → Room → Type 0
CallThere k r = IsThere pair_cmp call_key pairs_total exact_pair with_incident k r.calls

calls_only : (r : Room) (x : Change)
    → (apply_one r x).calls ≡ with_put pair_cmp call_key pairs_total exact_pair with_incident
    (λ r. r.calls) call_put (call_put x) r.calls
calls_only r (PutCall x) = refl
calls_only r x = refl

abbrev SparesCall : Call → Change → Type 0
SparesCall k x = Spares pair_cmp call_key pairs_total exact_pair with_incident (λ r. r.calls) call_put k (call_put x)

call_spared : (k : Call) (r : Room) → IsInOrder r → CallThere k r → Allows r (SparesCall k)
unfolding kept_call
call_spared k r order there = record {
  silent = silent_spared;
  new_call = λ x e placed. fresh_harmless pair_cmp call_key pairs_total exact_pair with_incident k x r.calls e there;
  moved =
      λ x a m.
      found_harmless pair_cmp call_key pairs_total exact_pair with_incident k x (record x { incident = m }) m r.calls
      refl refl (row_among pair_cmp call_key pairs_total r.calls x order.calls a) there (λ g. refl);
  new_report = λ x e. tt;
  cleared = λ c n x e. tt;
}
  where
    silent_spared : (x : Change) → is_silent x ≡ true → SparesCall k x
    silent_spared (PutCall x) e = cc
    silent_spared x e = tt

pub call_lasts : (k : Call) (es : List Event) (r : Room) → IsInOrder r → CallThere k r
    → CallThere k (room_run es r)
call_lasts k =
    run_keeps pair_cmp call_key pairs_total exact_pair with_incident (λ r. r.calls) call_put calls_only k
    (record { offered = λ x. tt; settled = λ c d. tt; lent = λ x. tt }) (call_spared k)

pub ok_of : (x : Verdict) → is_ok (answer_of x) ≡ true → is_ok x ≡ true
ok_of (Ok x) e = refl
ok_of (Err x) e = cc

-- ---- a report that was accepted
record WasReported (c : Callsign) (p : Press) (r : Room) (x : Verdict) : Type 0 where
  row : Report
  key : (c, p.number) ≡ report_key row
  content : same_press row p ≡ true
  answered : answer_of x ≡ Ok (answer.Reported row.number row.outcome row.status)
  there : ReportThere row (apply r (changes_of x))

same_button_self : (b : Button) → same_button b b ≡ true
same_button_self Position = refl
same_button_self Mobile = refl
same_button_self Scene = refl
same_button_self Leave = refl
same_button_self Hospital = refl
same_button_self Return = refl
same_button_self Home = refl

same_place_self : (p : Place) → same_place p p ≡ true
same_place_self p = both_true _ _ (eq-eqb p.east p.east refl) (eq-eqb p.north p.north refl)

module _ (c : Callsign) (p : Press) (at : ℕ) (r : Room) (order : IsInOrder r) where
  abbrev IfReported : Verdict → Type 0
  IfReported x = is_ok x ≡ true → WasReported c p r x

  new_row : (v : Vehicle) → c ≡ v.callsign → (o : Outcome) (s : Status) (cs : List Change)
      → (apply r cs).reports ≡ put_row numbered_cmp report_key r.reports (report_row v p at o s)
      → WasReported c p r (with_changes (answer.Reported p.number o s) cs)
  new_row v key o s cs reports = record {
    row = report_row v p at o s;
    key = ap (λ (k : Callsign). (k, p.number)) key;
    content =
        both_true _ _ (same_button_self p.button)
        (both_true _ _ (eq-eqb p.order p.order refl) (same_place_self p.place));
    answered = refl;
    there = (
      false,
      ap (λ xs. row_at numbered_cmp report_key xs (v.callsign, p.number)) reports
          ∙ put_found numbered_cmp report_key numbered_total r.reports (report_row v p at o s),
    );
  }

  held_reported : (h : ℕ) (v : Option Vehicle) → held h c r ≡ v
      → (t : Option Turn) (l : Option Loan) → IfReported (report_held v t l p at)
  held_reported h None e t l = λ ok. cc
  held_reported h (Some v) e t l =
      let key = (held_is h c r v e).key in
      let back = is_home p.button && is_due at l in
      by_report IfReported v t l p at
      (λ o ok.
      new_row v key o (status_after v.status p.button) (report_acts v t l p at o back)
      (left_by r (report_row v p at o (status_after v.status p.button)) p.button at t v.callsign (ends_turn p.button)
      back (vehicle_after v l p back)).reports)
      (λ o ok.
      new_row v key o v.status (PutReport (report_row v p at o v.status) ∷ PutVehicle (with_report v p) ∷ []) refl)
      (outcome_of v t p)

  in_reported : (h : ℕ) → IfReported (report_in h c p at r)
  unfolding report_in
  in_reported h = held_reported h (held h c r) refl (open_turn h c r) (borrowed h c r)

  somewhere_reported : (v : Option Vehicle) → IfReported (report_somewhere v c p at r)
  somewhere_reported None = λ ok. cc
  somewhere_reported (Some v) = in_reported v.holder

  was_reported : (o : Option Report) → kept_report c p.number r ≡ o
      → IfReported (report_kept o c p at r)
  unfolding kept_report
  was_reported None e = somewhere_reported (vehicle_at c r)
  was_reported (Some k) e =
      let key : (c, p.number)
      ≡ report_key k = row_key numbered_cmp report_key numbered_total exact_numbered r.reports (c, p.number) k e in
      by_refuse IfReported _ _ _ (λ ok. cc) (λ same ok. record {
        row = k;
        key = key;
        content = not_false (same_press k p) same;
        answered = refl;
        there = (k.cleared, subst (λ (z : Callsign × ℕ). row_at numbered_cmp report_key r.reports z ≡ Some k) key e);
      })

-- ---- what is decided of it later
decided_if : (b : Bool) (e : Refusal) (x : Verdict) → b ≡ true → refuse_if (not b) e x ≡ x
unfolding refuse_if
decided_if true e x h = refl
decided_if false e x h = cc

pub refused_if : (b : Bool) (e : Refusal) (x : Verdict) → (b ≡ true → ⊥) → refuse_if (not b) e x ≡ Err e
unfolding refuse_if
refused_if true e x h = absurd (h refl)
refused_if false e x h = refl

pub only_answers : (e : Event) (r : Room) (x : Verdict) (a : Result Answer Refusal) → decided e r ≡ x
    → changes_of x ≡ [] → answer_of x ≡ a → OnlyAnswers e r a
only_answers e r x a same none answered =
    (ap (λ y. apply r (changes_of y)) same ∙ ap (apply r) none, ap answer_of same ∙ answered)

pub report_later : (c : Callsign) (q : Press) (at : ℕ) (s : Room) (k : Report)
    → (c, q.number) ≡ report_key k → ReportThere k s
    → crew_asks c (ask.Report q) at s
    ≡ refuse_if (not (same_press k q)) refusal.NumberReused
    (show (answer.Reported k.number k.outcome k.status))
unfolding kept_report
report_later c q at s k key there =
    ap (λ o. report_kept o c q at s) (ap (row_at numbered_cmp report_key s.reports) key ∙ there.1)

exact_button : (a b : Button) → same_button a b ≡ true → a ≡ b
exact_button Position Position e = refl
exact_button Mobile Mobile e = refl
exact_button Scene Scene e = refl
exact_button Leave Leave e = refl
exact_button Hospital Hospital e = refl
exact_button Return Return e = refl
exact_button Home Home e = refl
exact_button a b e = cc

pub exact_place : (p q : Place) → same_place p q ≡ true → p ≡ q
exact_place p q e i = record {
  east = eqb-true p.east q.east (left_true _ _ e) i;
  north = eqb-true p.north q.north (right_true (p.east == q.east) _ e) i;
}

-- two reports of one number and one content are one
one_press : (k : Report) (p q : Press) → same_press k p ≡ true → same_press k q ≡ true
    → q.number ≡ p.number → q ≡ p
one_press k p q f g number =
    let rest_p = right_true (same_button k.button p.button) _ f in
    let rest_q = right_true (same_button k.button q.button) _ g in
    let button : q.button
    ≡ p.button =
    sym (exact_button k.button q.button (left_true _ _ g)) ∙ exact_button k.button p.button (left_true _ _ f) in
    let order : q.order
    ≡ p.order =
    sym (eqb-true k.order q.order (left_true _ _ rest_q)) ∙ eqb-true k.order p.order (left_true _ _ rest_p) in
    let place : q.place
    ≡ p.place =
    sym (exact_place k.place q.place (right_true (k.order == q.order) _ rest_q))
    ∙ exact_place k.place p.place (right_true (k.order == p.order) _ rest_p) in
    λ i. record { number = number i; button = button i; order = order i; place = place i }

module _ (c : Callsign) (p : Press) (at : ℕ) (r : Room) (es : List Event) (order : IsInOrder r)
    (ok : is_ok (answer_to (by_crew c (ask.Report p) at) r) ≡ true) where
  abbrev first_report : Event
  first_report = by_crew c (ask.Report p) at

  abbrev after_report : Room
  after_report = room_run es (room_after (by_crew c (ask.Report p) at) r)

  reported : WasReported c p r (crew_asks c (ask.Report p) at r)
  reported = was_reported c p at r order (kept_report c p.number r) refl (ok_of (crew_asks c (ask.Report p) at r) ok)

  report_stays : ReportThere reported.row after_report
  report_stays =
      report_lasts reported.row es (room_after first_report r)
      (in_order_apply r (changes_of (decided first_report r)) order) reported.there

  pub report_repeated : (later : ℕ)
      → OnlyAnswers (by_crew c (ask.Report p) later) after_report (answer_to first_report r)
  report_repeated later =
      only_answers (by_crew c (ask.Report p) later) after_report
      (show (answer.Reported reported.row.number reported.row.outcome reported.row.status)) _
      (report_later c p later after_report reported.row reported.key report_stays
      ∙ decided_if (same_press reported.row p) refusal.NumberReused _ reported.content) refl (sym reported.answered)

  pub number_used : (q : Press) (later : ℕ) → q.number ≡ p.number → (q ≡ p → ⊥)
      → OnlyAnswers (by_crew c (ask.Report q) later) after_report (Err refusal.NumberReused)
  number_used q later number other =
      only_answers (by_crew c (ask.Report q) later) after_report (Err refusal.NumberReused) _
      (report_later c q later after_report reported.row (ap (λ (n : ℕ). (c, n)) number ∙ reported.key) report_stays
      ∙ refused_if (same_press reported.row q) refusal.NumberReused _
      (λ same. other (one_press reported.row p q reported.content same number))) refl refl

-- ---- a call that was accepted
record WasTaken (p : ℕ) (f : CallForm) (at : ℕ) (r : Room) (x : Verdict) : Type 0 where
  row : Call
  key : (p, f.serial) ≡ call_key row
  content : same_call row (new_call p f at) ≡ true
  answered : answer_of x ≡ Ok (answer.Called row.division row.given row.linked)
  there : CallThere row (apply r (changes_of x))

module _ (p : ℕ) (f : CallForm) (at : ℕ) (r : Room) (order : IsInOrder r) where
  abbrev IfTaken : Verdict → Type 0
  IfTaken x = is_ok x ≡ true → WasTaken p f at r x

  call_content : (d n : ℕ) (linked : Bool)
      → same_call (call_row d n linked (new_call p f at)) (new_call p f at) ≡ true
  call_content d n linked =
      both_true _ _ (same_place_self f.place) (both_true _ _ (eq-eqb f.class f.class refl)
      (both_true _ _ (both_true _ _ (eq-eqb f.needs.ambulances f.needs.ambulances refl)
      (both_true _ _ (eq-eqb f.needs.cars f.needs.cars refl) (eq-eqb f.needs.support f.needs.support refl)))
      (ap is_eq (tied_itself callsigns_total f.note))))

  new_taken : (d n : ℕ) (linked : Bool) (cs : List Change)
      → (apply r cs).calls ≡ put_row pair_cmp call_key r.calls
      (call_row d n linked (new_call p f at))
      → WasTaken p f at r (with_changes (answer.Called d n linked) cs)
  new_taken d n linked cs calls = record {
    row = call_row d n linked (new_call p f at);
    key = refl;
    content = call_content d n linked;
    answered = refl;
    there = (
      n,
      ap (λ xs. row_at pair_cmp call_key xs (p, f.serial)) calls
          ∙ put_found pair_cmp call_key pairs_total r.calls (call_row d n linked (new_call p f at)),
    );
  }

  taken_in : (d : ℕ) (i : Option Incident) (v : Option Division)
      → IfTaken (call_taken d (new_call p f at) i v)
  taken_in d (Some i) v =
      λ ok.
      new_taken d i.number true
      (PutIncident (with_call (new_call p f at) i) ∷ PutCall (call_row d i.number true (new_call p f at)) ∷ []) refl
  taken_in d None None = λ ok. cc
  taken_in d None (Some v) = by_refuse IfTaken _ _ _ (λ ok. cc) (λ e ok.
      let n = v.last_incident + 1 in
      new_taken d n false
      (PutDivision (record v { last_incident = n }) ∷ PutIncident (new_incident d n (new_call p f at))
      ∷ PutCall (call_row d n false (new_call p f at)) ∷ []) refl)

  taken_somewhere : (o : Option ℕ) → IfTaken (call_somewhere o (new_call p f at) r)
  unfolding call_in
  taken_somewhere None = λ ok. cc
  taken_somewhere (Some d) = taken_in d (link_target d f.place at r) (last_number d r)

  was_taken : (o : Option Call) → kept_call p f.serial r ≡ o
      → IfTaken (call_kept o (new_call p f at) r)
  unfolding kept_call
  was_taken None e = taken_somewhere (division_of r.plan f.place)
  was_taken (Some k) e =
      let key : (p, f.serial)
      ≡ call_key k = row_key pair_cmp call_key pairs_total exact_pair r.calls (p, f.serial) k e in
      by_refuse IfTaken _ _ _ (λ ok. cc) (λ same ok. record {
        row = k;
        key = key;
        content = not_false (same_call k (new_call p f at)) same;
        answered = refl;
        there = (k.incident, subst (λ (z : ℕ × ℕ). row_at pair_cmp call_key r.calls z ≡ Some k) key e);
      })

pub call_later : (p : ℕ) (f : CallForm) (at : ℕ) (s : Room) (k : Call) → (p, f.serial) ≡ call_key k
    → CallThere k s → take_call (new_call p f at) s
    ≡ refuse_if (not (same_call k (new_call p f at))) refusal.SerialReused
    (show (answer.Called k.division k.given k.linked))
unfolding kept_call
call_later p f at s k key there =
    ap (λ o. call_kept o (new_call p f at) s) (ap (row_at pair_cmp call_key s.calls) key ∙ there.1)

exact_needs : (a b : Counts) → same_needs a b ≡ true → a ≡ b
exact_needs a b e =
    let rest = right_true (a.ambulances == b.ambulances) _ e in
    λ i. record {
      ambulances = eqb-true a.ambulances b.ambulances (left_true _ _ e) i;
      cars = eqb-true a.cars b.cars (left_true _ _ rest) i;
      support = eqb-true a.support b.support (right_true (a.cars == b.cars) _ rest) i;
    }

-- a call's content is that of its form
record HasContent (k : Call) (f : CallForm) : Type 0 where
  place : k.place ≡ f.place
  class : k.class ≡ f.class
  needs : k.needs ≡ f.needs
  note : k.note ≡ f.note

has_content : (k : Call) (p : ℕ) (f : CallForm) (at : ℕ) → same_call k (new_call p f at) ≡ true
    → HasContent k f
has_content k p f at e =
    let after_place = right_true (same_place k.place f.place) _ e in
    let after_class = right_true (k.class == f.class) _ after_place in
    record {
      place = exact_place k.place f.place (left_true _ _ e);
      class = eqb-true k.class f.class (left_true _ _ after_place);
      needs = exact_needs k.needs f.needs (left_true _ _ after_class);
      note = exact_callsigns k.note f.note (is_equal _ (right_true (same_needs k.needs f.needs) _ after_class));
    }

one_form : (k : Call) (f g : CallForm) → HasContent k f → HasContent k g → g.serial ≡ f.serial
    → g ≡ f
one_form k f g h j serial i = record {
  serial = serial i;
  place = (sym j.place ∙ h.place) i;
  class = (sym j.class ∙ h.class) i;
  needs = (sym j.needs ∙ h.needs) i;
  note = (sym j.note ∙ h.note) i;
}

module _ (p : ℕ) (f : CallForm) (at : ℕ) (r : Room) (es : List Event) (order : IsInOrder r)
    (ok : is_ok (answer_to (by_position p (ask.Call f) at) r) ≡ true) where
  abbrev first_call : Event
  first_call = by_position p (ask.Call f) at

  abbrev after_call : Room
  after_call = room_run es (room_after (by_position p (ask.Call f) at) r)

  taken : WasTaken p f at r (take_call (new_call p f at) r)
  taken = was_taken p f at r order (kept_call p f.serial r) refl (ok_of (take_call (new_call p f at) r) ok)

  call_stays : CallThere taken.row after_call
  call_stays =
      call_lasts taken.row es (room_after first_call r) (in_order_apply r (changes_of (decided first_call r)) order)
      taken.there

  pub call_repeated : (later : ℕ) → OnlyAnswers (by_position p (ask.Call f) later) after_call
      (answer_to first_call r)
  call_repeated later =
      only_answers (by_position p (ask.Call f) later) after_call
      (show (answer.Called taken.row.division taken.row.given taken.row.linked)) _
      (call_later p f later after_call taken.row taken.key call_stays
      ∙ decided_if (same_call taken.row (new_call p f later)) refusal.SerialReused _ taken.content) refl
      (sym taken.answered)

  pub serial_used : (g : CallForm) (later : ℕ) → g.serial ≡ f.serial → (g ≡ f → ⊥)
      → OnlyAnswers (by_position p (ask.Call g) later) after_call (Err refusal.SerialReused)
  serial_used g later serial other =
      only_answers (by_position p (ask.Call g) later) after_call (Err refusal.SerialReused) _
      (call_later p g later after_call taken.row (ap (λ (n : ℕ). (p, n)) serial ∙ taken.key) call_stays
      ∙ refused_if (same_call taken.row (new_call p g later)) refusal.SerialReused _
      (λ same.
      other (one_form taken.row f g (has_content taken.row p f at taken.content) (has_content taken.row p g later same)
      serial))) refl refl
