-- A report or a call that was refused for its number, its serial or its place is refused again.
use Rattle.std.proofs.Common.{ap, eq-eqb, subst, sym, ◌∙◌}
use Rattle.std.specs.Ordering.{is_eq}
use Rattle.std.specs.Prelude.{Bool, Err, IfErr, IfSome, List, None, Ok, Option, Result, Some, []}
use Rattle.std.specs.Prelude.{cond, false, is_ok, is_some, not, refl, true, ℕ, ◌==◌, ◌∷◌, ◌≡◌}
use Rattle.room_place.specs.Plans.{division_of}
use Rattle.room_place.specs.declared.plans.Area.{Area}
use Rattle.room_types.proofs.KeyedLaws.{row_put}
use Rattle.room_types.specs.KeyedRows.{keep, row_at}
use Rattle.room_types.specs.Keys.{call_key, numbered_cmp, pair_cmp, report_key}
use Rattle.room_types.specs.KeyLemmas.{exact_numbered, exact_pair, numbered_total, pairs_total}
use Rattle.room_types.specs.Texts.{Callsign}
use Rattle.room_types.specs.declared.answers.Answer.{Answer}
use Rattle.room_types.specs.declared.asks.CallForm.{CallForm}
use Rattle.room_types.specs.declared.asks.Event.{Event}
use Rattle.room_types.specs.declared.asks.NewCall.{NewCall}
use Rattle.room_types.specs.declared.asks.Press.{Press}
use Rattle.room_types.specs.declared.changes.Change.{Change}
use Rattle.room_types.specs.declared.changes.Change.TheVariants.{PutCall}
use Rattle.room_types.specs.declared.refusal_statuses.Refusal.{Refusal}
use Rattle.room_types.specs.declared.tables.Call.{Call}
use Rattle.room_types.specs.declared.tables.Division.{Division}
use Rattle.room_types.specs.declared.tables.Incident.{Incident}
use Rattle.room_types.specs.declared.tables.Loan.{Loan}
use Rattle.room_types.specs.declared.tables.Report.{Report}
use Rattle.room_types.specs.declared.tables.Turn.{Turn}
use Rattle.room_types.specs.declared.tables.Vehicle.{Vehicle}
use Rattle.room_model.proofs.Changes.{AllOf, Allows, event_all, is_silent}
use Rattle.room_model.proofs.DecisionLaws.{by_refuse, by_report}
use Rattle.room_model.proofs.KeptEvents.{plan_stays}
use Rattle.room_model.proofs.OwnChanges.{in_order_apply}
use Rattle.room_model.proofs.RepeatLaws.{CallThere, ReportThere, call_lasts, call_later}
use Rattle.room_model.proofs.RepeatLaws.{exact_place, only_answers, refused_if, report_lasts}
use Rattle.room_model.proofs.RepeatLaws.{report_later, report_repeated}
use Rattle.room_model.proofs.Tests.{is_equal, left_true, row_among, row_key}
use Rattle.room_model.specs.Calls.{call_in, call_kept, call_somewhere, call_taken, new_call}
use Rattle.room_model.specs.Calls.{outside_again, same_call, take_call}
use Rattle.room_model.specs.Decisions.{Verdict, answer_of, changes_of, refuse_if, show}
use Rattle.room_model.specs.Events.{OnlyAnswers, by_crew, by_position}
use Rattle.room_model.specs.Queries.{borrowed, held, kept_call, kept_report, last_number}
use Rattle.room_model.specs.Queries.{link_target, open_turn, vehicle_at}
use Rattle.room_model.specs.Reports.{outcome_of, report_held, report_in, report_kept}
use Rattle.room_model.specs.Reports.{report_somewhere, same_press}
use Rattle.room_model.specs.Room.{IsInOrder, Room, apply, apply_one}
use Rattle.room_model.specs.Run.{room_run}
use Rattle.room_model.specs.Step.{IsAddressed, answer_to, decided, room_after}
use Rattle.room_types.specs.declared.answers.Answer.TheVariants as answer
use Rattle.room_types.specs.declared.asks.Ask.TheVariants as ask
use Rattle.room_types.specs.declared.refusal_statuses.Refusal.TheVariants as refusal

-- what is refused changes nothing
unchanged : (e : Event) (r : Room) (x : Verdict) (why : Refusal) → decided e r ≡ x
    → answer_of x ≡ Err why → room_after e r ≡ r
unchanged e r (Ok x) why same answered = cc
unchanged e r (Err y) why same answered = ap (λ z. apply r (changes_of z)) same

-- what is refused for a test does not pass it
test_fails : (b : Bool) (e : Refusal) (a : Answer)
    → answer_of (refuse_if (not b) e (show a)) ≡ Err e → b ≡ true → ⊥
unfolding refuse_if
test_fails true e a answered same = cc
test_fails false e a answered same = cc

-- ---- a report's number
module _ (c : Callsign) (p : Press) (at : ℕ) (r : Room) where
  -- the number is another report's
  record IsReused : Type 0 where
    row : Report
    there : kept_report c p.number r ≡ Some row
    other : same_press row p ≡ true → ⊥

  abbrev IsNumberless : Verdict → Type 0
  IsNumberless x = answer_of x ≡ Err refusal.NumberReused → ⊥

  held_numberless : (v : Option Vehicle) (t : Option Turn) (l : Option Loan)
      → IsNumberless (report_held v t l p at)
  held_numberless None t l answered = cc
  held_numberless (Some v) t l answered =
      by_report IsNumberless v t l p at (λ o g. cc) (λ o g. cc) (outcome_of v t p) answered

  in_numberless : (h : ℕ) → IsNumberless (report_in h c p at r)
  unfolding report_in
  in_numberless h = held_numberless (held h c r) (open_turn h c r) (borrowed h c r)

  somewhere_numberless : (v : Option Vehicle) → IsNumberless (report_somewhere v c p at r)
  somewhere_numberless None answered = cc
  somewhere_numberless (Some v) answered = in_numberless v.holder answered

  is_reused : (o : Option Report) → kept_report c p.number r ≡ o
      → answer_of (report_kept o c p at r) ≡ Err refusal.NumberReused → IsReused
  is_reused None e answered = absurd (somewhere_numberless (vehicle_at c r) answered)
  is_reused (Some k) e answered = record {
    row = k;
    there = e;
    other = test_fails (same_press k p) refusal.NumberReused (answer.Reported k.number k.outcome k.status) answered;
  }

  pub reused_again : (es : List Event) → IsInOrder r
      → answer_to (by_crew c (ask.Report p) at) r ≡ Err refusal.NumberReused → (later : ℕ)
      → OnlyAnswers (by_crew c (ask.Report p) later)
      (room_run es (room_after (by_crew c (ask.Report p) at) r))
      (Err refusal.NumberReused)
  unfolding kept_report
  reused_again es order answered later =
      let is = is_reused (kept_report c p.number r) refl answered in
      let key : (c, p.number)
      ≡ report_key is.row =
      row_key numbered_cmp report_key numbered_total exact_numbered r.reports (c, p.number) is.row is.there in
      let here : ReportThere is.row
      r = (
        is.row.cleared,
        subst (λ (z : Callsign × ℕ). row_at numbered_cmp report_key r.reports z ≡ Some is.row) key is.there,
      ) in
      let still : room_after (by_crew c (ask.Report p) at) r
      ≡ r =
      unchanged (by_crew c (ask.Report p) at) r (decided (by_crew c (ask.Report p) at) r) refusal.NumberReused refl
      answered in
      let again = report_lasts is.row es r order here in
      subst (λ s. OnlyAnswers (by_crew c (ask.Report p) later) (room_run es s) (Err refusal.NumberReused)) (sym still)
      (only_answers (by_crew c (ask.Report p) later) (room_run es r) (Err refusal.NumberReused) _
      (report_later c p later (room_run es r) is.row key again
      ∙ refused_if (same_press is.row p) refusal.NumberReused _ is.other) refl refl)

  -- ---- and nothing else refuses a report of a vehicle that is there
  abbrev IsNumbers : Verdict → Type 0
  IsNumbers x = IfErr (answer_of x) (λ why. why ≡ refusal.NumberReused)

  found_holder : (v : Vehicle) → vehicle_at c r ≡ Some v → held v.holder c r ≡ Some v
  unfolding held vehicle_at
  found_holder v e =
      ap (keep (λ (x : Vehicle). x.holder == v.holder)) e
      ∙ ap (λ (b : Bool). cond b (Some v) None) (eq-eqb v.holder v.holder refl)

  held_taken : (v : Option Vehicle) (w : Vehicle) (t : Option Turn) (l : Option Loan) → v ≡ Some w
      → IsNumbers (report_held v t l p at)
  held_taken None w t l e = cc
  held_taken (Some v) w t l e = by_report IsNumbers v t l p at (λ o. tt) (λ o. tt) (outcome_of v t p)

  somewhere_taken : (v : Option Vehicle) → vehicle_at c r ≡ v → is_some v ≡ true
      → IsNumbers (report_somewhere v c p at r)
  unfolding report_in
  somewhere_taken None e there = cc
  somewhere_taken (Some v) e there =
      held_taken (held v.holder c r) v (open_turn v.holder c r) (borrowed v.holder c r) (found_holder v e)

  kept_taken : (o : Option Report) → is_some (vehicle_at c r) ≡ true
      → IsNumbers (report_kept o c p at r)
  kept_taken None there = somewhere_taken (vehicle_at c r) refl there
  kept_taken (Some k) there = by_refuse IsNumbers _ _ _ refl (λ e. tt)

  pub only_number : IsAddressed (by_crew c (ask.Report p) at) r
      → IfErr (answer_to (by_crew c (ask.Report p) at) r) (λ why. why ≡ refusal.NumberReused)
  only_number there = kept_taken (kept_report c p.number r) there

  answered_again : (es : List Event) → IsInOrder r → (later : ℕ) (x : Result Answer Refusal)
      → answer_to (by_crew c (ask.Report p) at) r ≡ x → IfErr x (λ why. why ≡ refusal.NumberReused)
      → OnlyAnswers (by_crew c (ask.Report p) later)
      (room_run es (room_after (by_crew c (ask.Report p) at) r))
      (answer_to (by_crew c (ask.Report p) at) r)
  answered_again es order later (Ok x) e why = report_repeated c p at r es order (ap is_ok e) later
  answered_again es order later (Err x) e why =
      let answered = e ∙ ap Err why in
      subst (OnlyAnswers (by_crew c (ask.Report p) later) (room_run es (room_after (by_crew c (ask.Report p) at) r)))
      (sym answered) (reused_again es order answered later)

  pub report_answered_again : (es : List Event) → IsInOrder r
      → IsAddressed (by_crew c (ask.Report p) at) r → (later : ℕ)
      → OnlyAnswers (by_crew c (ask.Report p) later)
      (room_run es (room_after (by_crew c (ask.Report p) at) r))
      (answer_to (by_crew c (ask.Report p) at) r)
  report_answered_again es order there later =
      answered_again es order later (answer_to (by_crew c (ask.Report p) at) r) refl (only_number there)

-- ---- a call's serial
module _ (p : ℕ) (f : CallForm) (at : ℕ) (r : Room) where
  abbrev call : NewCall
  call = new_call p f at

  abbrev first : Event
  first = by_position p (ask.Call f) at

  still : (why : Refusal) → answer_to first r ≡ Err why → room_after first r ≡ r
  still why answered = unchanged first r (decided first r) why refl answered

  -- a call of a division is refused where its numbers are used up, and never else
  abbrev IsTaken : Verdict → Type 0
  IsTaken x = IfErr (answer_of x) (λ why. why ≡ refusal.NumbersUsedUp)

  taken : (d : ℕ) (i : Option Incident) (v : Option Division) → IsTaken (call_taken d call i v)
  taken d (Some i) v = tt
  taken d None None = refl
  taken d None (Some v) = by_refuse IsTaken _ _ _ refl (λ e. tt)

  in_taken : (d : ℕ) → IsTaken (call_in d call r)
  unfolding call_in
  in_taken d = taken d (link_target d f.place at r) (last_number d r)

  not_taken : (x : Verdict) (why : Refusal) → IsTaken x → answer_of x ≡ Err why
      → why ≡ refusal.NumbersUsedUp
  not_taken (Ok x) why h answered = cc
  not_taken (Err y) why h answered = let same : y ≡ why = cc in sym same ∙ h

  -- the serial is another call's
  record IsAnothers : Type 0 where
    row : Call
    there : kept_call p f.serial r ≡ Some row
    other : same_call row call ≡ true → ⊥

  somewhere_serial : (o : Option ℕ)
      → answer_of (call_somewhere o call r) ≡ Err refusal.SerialReused → ⊥
  somewhere_serial None answered = cc
  somewhere_serial (Some d) answered =
      let clash = not_taken (call_in d call r) refusal.SerialReused (in_taken d) answered in cc

  is_anothers : (o : Option Call) → kept_call p f.serial r ≡ o
      → answer_of (call_kept o call r) ≡ Err refusal.SerialReused → IsAnothers
  is_anothers None e answered = absurd (somewhere_serial (division_of r.plan f.place) answered)
  is_anothers (Some k) e answered = record {
    row = k;
    there = e;
    other = test_fails (same_call k call) refusal.SerialReused (answer.Called k.division k.given k.linked) answered;
  }

  pub serial_again : (es : List Event) → IsInOrder r
      → answer_to first r ≡ Err refusal.SerialReused → (later : ℕ)
      → OnlyAnswers (by_position p (ask.Call f) later) (room_run es (room_after first r))
      (Err refusal.SerialReused)
  unfolding kept_call
  serial_again es order answered later =
      let is = is_anothers (kept_call p f.serial r) refl answered in
      let key : (p, f.serial)
      ≡ call_key is.row = row_key pair_cmp call_key pairs_total exact_pair r.calls (p, f.serial) is.row is.there in
      let here : CallThere is.row
      r = (is.row.incident, subst (λ (z : ℕ × ℕ). row_at pair_cmp call_key r.calls z ≡ Some is.row) key is.there) in
      let again = call_lasts is.row es r order here in
      subst (λ s. OnlyAnswers (by_position p (ask.Call f) later) (room_run es s) (Err refusal.SerialReused))
      (sym (still refusal.SerialReused answered))
      (only_answers (by_position p (ask.Call f) later) (room_run es r) (Err refusal.SerialReused) _
      (call_later p f later (room_run es r) is.row key again
      ∙ refused_if (same_call is.row (new_call p f later)) refusal.SerialReused _ is.other) refl refl)

  -- ---- a call's place
  -- the serial is free, and the place in no division
  abbrev IsOutside : Type 0
  IsOutside = (kept_call p f.serial r ≡ None) × (division_of r.plan f.place ≡ None)

  outside_somewhere : (o : Option ℕ)
      → answer_of (call_somewhere o call r) ≡ Err refusal.OutsideArea → o ≡ None
  outside_somewhere None answered = refl
  outside_somewhere (Some d) answered =
      let clash = not_taken (call_in d call r) refusal.OutsideArea (in_taken d) answered in cc

  is_outside : (o : Option Call) → kept_call p f.serial r ≡ o
      → answer_of (call_kept o call r) ≡ Err refusal.OutsideArea → IsOutside
  is_outside None e answered = (e, outside_somewhere (division_of r.plan f.place) answered)
  is_outside (Some k) e answered =
      absurd (by_refuse (λ x. answer_of x ≡ Err refusal.OutsideArea → ⊥) (not (same_call k call)) refusal.SerialReused _
      (λ t. cc) (λ s t. cc) answered)

-- ---- calls of a position and serial have places in the plan
module _ (plan : List Area) (k : ℕ × ℕ) where
  abbrev HasDivision : Call → Type 0
  HasDivision x = is_some (division_of plan x.place) ≡ true

  abbrev IsPlaced : List Call → Type 0
  IsPlaced calls = IfSome (row_at pair_cmp call_key calls k) HasDivision

  abbrev PutsPlaced : Change → Type 0
  PutsPlaced (PutCall x) = is_eq (pair_cmp k (call_key x)) ≡ true → HasDivision x
  PutsPlaced x = Unit {0}

  puts_allowed : (r : Room) → IsInOrder r → r.plan ≡ plan → IsPlaced r.calls → Allows r PutsPlaced
  puts_allowed r order planned placed = record {
    silent = silent_puts;
    new_call =
        λ x e there same. ap is_some (subst (λ areas. division_of areas x.place ≡ Some x.division) planned there);
    moved =
        λ x a m same.
        found x
        (subst (λ z. row_at pair_cmp call_key r.calls z ≡ Some x) (sym (exact_pair k (call_key x) (is_equal _ same)))
        (row_among pair_cmp call_key pairs_total r.calls x order.calls a));
    new_report = λ x e. tt;
    cleared = λ c n x e. tt;
  }
    where
      silent_puts : (x : Change) → is_silent x ≡ true → PutsPlaced x
      silent_puts (PutCall x) e = cc
      silent_puts x e = tt

      found : (x : Call) → row_at pair_cmp call_key r.calls k ≡ Some x → HasDivision x
      found x e = subst (λ o. IfSome o HasDivision) e placed

  placed_if : (b : Bool) (x : Call) (o : Option Call) → (b ≡ true → HasDivision x)
      → IfSome o HasDivision → IfSome (cond b (Some x) o) HasDivision
  placed_if true x o new old = new refl
  placed_if false x o new old = old

  placed_one : (r : Room) (x : Change) → PutsPlaced x → IsPlaced r.calls
      → IsPlaced (apply_one r x).calls
  placed_one r (PutCall x) puts placed =
      subst (λ o. IfSome o HasDivision) (sym (row_put pair_cmp call_key pairs_total r.calls x k))
      (placed_if (is_eq (pair_cmp k (call_key x))) x (row_at pair_cmp call_key r.calls k) puts placed)
  placed_one r x puts placed = placed

  placed_apply : (r : Room) (cs : List Change) → AllOf PutsPlaced cs → IsPlaced r.calls
      → IsPlaced (apply r cs).calls
  placed_apply r [] all placed = placed
  placed_apply r (x ∷ cs) all placed = placed_apply (apply_one r x) cs all.1 (placed_one r x all.0 placed)

  -- the plan is the same, and the call placed
  abbrev IsStill : Room → Type 0
  IsStill r = (r.plan ≡ plan) × IsPlaced r.calls

  still_run : (es : List Event) (r : Room) → IsInOrder r → IsStill r → IsStill (room_run es r)
  still_run [] r order is = is
  still_run (e ∷ es) r order is =
      let changes = changes_of (decided e r) in
      still_run es (room_after e r) (in_order_apply r changes order) (
        plan_stays r changes ∙ is.0,
        placed_apply r changes
            (event_all r PutsPlaced (puts_allowed r order is.0 is.1)
            (record { offered = λ x. tt; settled = λ c d. tt; lent = λ x. tt }) e) is.1,
      )

module _ (p : ℕ) (f : CallForm) (at : ℕ) (r : Room) where
  outside_now : (later : ℕ) (s : Room) (o : Option Call) → kept_call p f.serial s ≡ o
      → IfSome o (λ k. is_some (division_of s.plan k.place) ≡ true)
      → division_of s.plan f.place ≡ None
      → take_call (new_call p f later) s ≡ Err (outside_again o)
  outside_now later s None e placed outside =
      ap (λ o. call_kept o (new_call p f later) s) e ∙ ap (λ o. call_somewhere o (new_call p f later) s) outside
  outside_now later s (Some k) e placed outside =
      ap (λ o. call_kept o (new_call p f later) s) e
      ∙ refused_if (same_call k (new_call p f later)) refusal.SerialReused _
      (λ same.
      none (sym placed
      ∙ ap (λ place. is_some (division_of s.plan place)) (exact_place k.place f.place (left_true _ _ same))
      ∙ ap is_some outside))
    where
      none : true ≡ false → ⊥
      none e = cc

  pub outside_still : (es : List Event) → IsInOrder r
      → answer_to (by_position p (ask.Call f) at) r ≡ Err refusal.OutsideArea → (later : ℕ)
      → let now = room_run es (room_after (by_position p (ask.Call f) at) r) in
      OnlyAnswers (by_position p (ask.Call f) later) now
      (Err (outside_again (kept_call p f.serial now)))
  unfolding kept_call
  outside_still es order answered later =
      let is = is_outside p f at r (kept_call p f.serial r) refl answered in
      let here : IsStill r.plan (p, f.serial)
      r = (refl, subst (λ o. IfSome o (HasDivision r.plan (p, f.serial))) (sym is.0) tt) in
      let now = room_run es r in
      let there = still_run r.plan (p, f.serial) es r order here in
      let placed = subst
      (λ areas.
      IfSome (row_at pair_cmp call_key now.calls (p, f.serial)) (λ k. is_some (division_of areas k.place) ≡ true))
      (sym there.0) there.1 in
      let outside = ap (λ areas. division_of areas f.place) there.0 ∙ is.1 in
      subst (λ s.
      OnlyAnswers (by_position p (ask.Call f) later) (room_run es s)
      (Err (outside_again (kept_call p f.serial (room_run es s))))) (sym (still p f at r refusal.OutsideArea answered))
      (only_answers (by_position p (ask.Call f) later) now (Err (outside_again (kept_call p f.serial now))) _
      (outside_now later now (kept_call p f.serial now) refl placed outside) refl refl)
