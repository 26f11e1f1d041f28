-- A crew's report keeps a room well-formed.
use Rattle.std.proofs.Common.{ap, inl, inr, subst, sym, ◌∙◌}
use Rattle.std.specs.Prelude.{Bool, None, Option, Some, [], cond, false, is_some, nat_lt, not, refl}
use Rattle.std.specs.Prelude.{true, ℕ, ◌&&◌, ◌++◌, ◌==◌, ◌∷◌, ◌≡◌, ◌≢◌, ◌≤◌, ◌⊎◌}
use Rattle.room_types.specs.Texts.{Callsign}
use Rattle.room_types.specs.declared.asks.Press.{Press}
use Rattle.room_types.specs.declared.changes.Change.TheVariants.{PutReport, PutVehicle}
use Rattle.room_types.specs.declared.codes.Button.{Button}
use Rattle.room_types.specs.declared.codes.Outcome.{Outcome}
use Rattle.room_types.specs.declared.codes.Outcome.TheVariants.{Late, Stale}
use Rattle.room_types.specs.declared.codes.Status.{Status}
use Rattle.room_types.specs.declared.codes.Status.TheVariants.{AtHospital, AtScene, Available}
use Rattle.room_types.specs.declared.codes.Status.TheVariants.{Leaving, Mobilised, OffDuty, Offered}
use Rattle.room_types.specs.declared.codes.Status.TheVariants.{Returning}
use Rattle.room_types.specs.declared.tables.Assignment.{Assignment}
use Rattle.room_types.specs.declared.tables.Loan.{Loan}
use Rattle.room_types.specs.declared.tables.Report.{Report}
use Rattle.room_types.specs.declared.tables.Turn.{Turn}
use Rattle.room_types.specs.declared.tables.Vehicle.{Vehicle}
use Rattle.room_model.proofs.KeptAsks.{Kept, refuse_kept}
use Rattle.room_model.proofs.KeptLoans.{borrowed_either, lender_is_home}
use Rattle.room_model.proofs.OpenTurns.{open_held, open_there}
use Rattle.room_model.proofs.Others.{IsHeld, held_is}
use Rattle.room_model.proofs.TurnChanges.{IsOpenTurn, IsTurnOf, divisions_of_reports}
use Rattle.room_model.proofs.TurnChanges.{divisions_of_turns, ended_turns, incidents_stay, last_up}
use Rattle.room_model.proofs.TurnChanges.{moved_turns, reports_up, still_active, with_turn}
use Rattle.room_model.proofs.VehicleAgreements.{Agrees, agreed, free_is_idle, kept_by, known}
use Rattle.room_model.proofs.VehicleAgreements.{like_assignment}
use Rattle.room_model.proofs.VehicleChanges.{like_offer, like_post, returned_agrees}
use Rattle.room_model.proofs.VehicleRows.{AllConcern, VehicleRows, all_after, all_concern, bare}
use Rattle.room_model.proofs.VehicleRows.{put_at, rows_of}
use Rattle.room_types.specs.Codes.{acts, is_busy, is_free, is_offered}
use Rattle.room_model.specs.Decisions.{changes_of, with_changes}
use Rattle.room_model.specs.Queries.{borrowed, held, kept_report, open_turn, vehicle_at}
use Rattle.room_model.specs.Reports.{back_changes, drop_changes, ends_turn, is_acknowledged, is_due}
use Rattle.room_model.specs.Reports.{is_home, names_order, outcome_of, press, report_acts}
use Rattle.room_model.specs.Reports.{report_held, report_in, report_kept, report_made, report_row}
use Rattle.room_model.specs.Reports.{report_somewhere, status_after, take_report, turn_after}
use Rattle.room_model.specs.Reports.{turn_changes, vehicle_after, with_report}
use Rattle.room_model.specs.Room.{Room, apply}
use Rattle.room_model.specs.RoomAgreements.{AssignmentAgrees, IsWellFormed, LoanAgrees}
use Rattle.room_model.specs.RoomAgreements.{SameIncident, TurnAgrees}
use Rattle.room_types.specs.declared.answers.Answer.TheVariants as answer
use Rattle.room_types.specs.declared.codes.Button.TheVariants as button

-- ---- the table of buttons
-- what a status and the one after it have in common, where the button acts
record IsNext (s t : Status) (ends : Bool) : Type 0 where
  busy : ends ≡ false → is_busy t ≡ is_busy s
  idle : ends ≡ true → is_busy t ≡ false
  offered : is_offered t ≡ is_offered s
  free : is_free s ≡ true → is_free t ≡ true

stays : (s : Status) → IsNext s s false
stays s = record { busy = λ e. refl; idle = λ (e : false ≡ true). cc; offered = refl; free = λ f. f }

moves_on : (s t : Status) → is_busy s ≡ true → is_busy t ≡ true → IsNext s t false
moves_on s t b c = record {
  busy = λ e. c ∙ sym b;
  idle = λ (e : false ≡ true). cc;
  offered = (not_idle t c).0 ∙ sym (not_idle s b).0;
  free = λ (f : is_free s ≡ true). let g = (not_idle s b).1 in cc;
}
  where
    not_idle : (s : Status) → is_busy s ≡ true → (is_offered s ≡ false) × (is_free s ≡ false)
    not_idle Mobilised e = (refl, refl)
    not_idle AtScene e = (refl, refl)
    not_idle Leaving e = (refl, refl)
    not_idle AtHospital e = (refl, refl)
    not_idle s e = cc

comes_free : (s t : Status) → is_offered s ≡ false → is_free t ≡ true → IsNext s t true
comes_free s t e f =
    let g = free_is_idle t f in
    record { busy = λ (e : true ≡ false). cc; idle = λ e. g.0; offered = g.1 ∙ sym e; free = λ x. f }

abbrev Acts : Status → Button → Bool → Type 0
Acts s b a = acts (press s b a) ≡ true

scene : (s : Status) (a : Bool) → Acts s button.Scene a → IsNext s AtScene false
scene Mobilised a e = moves_on Mobilised AtScene refl refl
scene AtScene a e = moves_on AtScene AtScene refl refl
scene s a e = absurd cc

leave : (s : Status) (a : Bool) → Acts s button.Leave a → IsNext s Leaving false
leave Mobilised a e = moves_on Mobilised Leaving refl refl
leave AtScene a e = moves_on AtScene Leaving refl refl
leave Leaving a e = moves_on Leaving Leaving refl refl
leave s a e = absurd cc

hospital : (s : Status) (a : Bool) → Acts s button.Hospital a → IsNext s AtHospital false
hospital Mobilised a e = moves_on Mobilised AtHospital refl refl
hospital AtScene a e = moves_on AtScene AtHospital refl refl
hospital Leaving a e = moves_on Leaving AtHospital refl refl
hospital AtHospital a e = moves_on AtHospital AtHospital refl refl
hospital s a e = absurd cc

return : (s : Status) (a : Bool) → Acts s button.Return a → IsNext s Returning true
return Offered a e = absurd cc
return OffDuty a e = absurd cc
return s a e = comes_free s Returning refl refl

home : (s : Status) (a : Bool) → Acts s button.Home a → IsNext s (status_after s button.Home) true
home OffDuty a e = absurd cc
home Offered a e =
    record { busy = λ (e : true ≡ false). cc; idle = λ e. refl; offered = refl; free = λ (f : false ≡ true). cc }
home s a e = comes_free s Available refl refl

-- a button that acts ends a vehicle's order just where it ends its turn, and neither offers it nor
-- makes a free one busy
table : (s : Status) (b : Button) (a : Bool) → Acts s b a
    → IsNext s (status_after s b) (ends_turn b)
table s button.Position a e = stays s
table s button.Mobile a e = stays s
table s button.Scene a e = scene s a e
table s button.Leave a e = leave s a e
table s button.Hospital a e = hospital s a e
table s button.Return a e = return s a e
table s button.Home a e = home s a e

-- ---- the turn
turn_of : (b : Button) (at : ℕ) (t : Turn) → IsTurnOf t (turn_after b at t)
turn_of button.Position at t = record { order = refl; division = refl; incident = refl }
turn_of button.Mobile at t = record { order = refl; division = refl; incident = refl }
turn_of button.Scene at t = record { order = refl; division = refl; incident = refl }
turn_of button.Leave at t = record { order = refl; division = refl; incident = refl }
turn_of button.Hospital at t = record { order = refl; division = refl; incident = refl }
turn_of button.Return at t = record { order = refl; division = refl; incident = refl }
turn_of button.Home at t = record { order = refl; division = refl; incident = refl }

turn_ends : (b : Button) (at : ℕ) (t : Turn) → ends_turn b ≡ true
    → is_some (turn_after b at t).ended ≡ true
turn_ends button.Return at t e = refl
turn_ends button.Home at t e = refl
turn_ends b at t e = cc

turn_goes : (b : Button) (at : ℕ) (t : Turn) → ends_turn b ≡ false
    → (turn_after b at t).ended ≡ t.ended
turn_goes button.Return at t e = cc
turn_goes button.Home at t e = cc
turn_goes button.Position at t e = refl
turn_goes button.Mobile at t e = refl
turn_goes button.Scene at t e = refl
turn_goes button.Leave at t e = refl
turn_goes button.Hospital at t e = refl

home_ends : (b : Button) (q : Bool) → is_home b && q ≡ true → (ends_turn b ≡ true) × (q ≡ true)
home_ends button.Home q e = (refl, e)
home_ends b q e = cc

-- a report that acts is judged by the table
by_table : (v : Vehicle) (t : Option Turn) (p : Press) → acts (outcome_of v t p) ≡ true
    → Acts v.status p.button (is_acknowledged t)
by_table v t p e = past (nat_lt p.number v.last_report) (names_order p.button && not (p.order == v.last_order)) e
  where
    past : (a b : Bool) → acts (cond a Late
        (cond b Stale (press v.status p.button (is_acknowledged t)))) ≡ true
        → Acts v.status p.button (is_acknowledged t)
    past true b f = cc
    past false true f = cc
    past false false f = f

-- a vehicle that has to go back is away
due_away : (v : Vehicle) (at : ℕ) (l o : Option Loan) → (l ≡ None) ⊎ (l ≡ o) → is_due at l ≡ true
    → LoanAgrees (Some v) o → v.holder ≢ v.home
due_away v at None o k e h = cc
due_away v at (Some l) None k e h = elim k [ inl f ↦ cc | inr f ↦ cc ]
due_away v at (Some l) (Some o) k e h = h.2

-- ---- the rows after a report that acts
rows_acted : (p : VehicleRows) (c : Callsign) (x : Report) (u : Vehicle) (b : Button) (at : ℕ)
    (t : Option Turn) (ends back : Bool)
    → all_after p (PutReport x ∷ turn_changes b at t
    ++ (drop_changes c ends ++ (back_changes c back ++ PutVehicle u ∷ [])))
    ≡ record p {
      vehicle = Some u;
      loan = cond back None p.loan;
      assignment =
          cond ends None p.assignment;
      turn = with_turn
          (turn_after b at) t p.turn;
      report = put_at x.number x p.report;
    }
rows_acted p c x u b at None true true = refl
rows_acted p c x u b at None true false = refl
rows_acted p c x u b at None false true = refl
rows_acted p c x u b at None false false = refl
rows_acted p c x u b at (Some t) true true = refl
rows_acted p c x u b at (Some t) true false = refl
rows_acted p c x u b at (Some t) false true = refl
rows_acted p c x u b at (Some t) false false = refl

turn_concerns : (k : Callsign) (b : Button) (at : ℕ) (o : Option Turn)
    → ((t : Turn) → o ≡ Some t → t.callsign ≡ k) → AllConcern k (turn_changes b at o)
turn_concerns k b at None f = tt
turn_concerns k b at (Some t) f = (same b ∙ f t refl, tt)
  where
    same : (b : Button) → (turn_after b at t).callsign ≡ t.callsign
    same button.Position = refl
    same button.Mobile = refl
    same button.Scene = refl
    same button.Leave = refl
    same button.Hospital = refl
    same button.Return = refl
    same button.Home = refl

drop_concerns : (k : Callsign) (b : Bool) → AllConcern k (drop_changes k b)
drop_concerns k true = (refl, tt)
drop_concerns k false = tt

back_concerns : (k : Callsign) (b : Bool) → AllConcern k (back_changes k b)
back_concerns k true = (refl, tt)
back_concerns k false = tt

module _ (d : ℕ) (c : Callsign) (r : Room) (w : IsWellFormed r) (v : Vehicle) (is : IsHeld d c r v)
    (h : Agrees (bare r) (record (rows_of v.callsign r) { vehicle = Some v })) (press : Press)
    (at : ℕ) (least : 1 ≤ press.number) (o : Outcome) where
  -- a report that does not act
  ignored_kept : IsWellFormed (apply r
      (PutReport (report_row v press at o v.status) ∷ PutVehicle (with_report v press) ∷ []))
  ignored_kept =
      let p = rows_of v.callsign r in
      let u = with_report v press in
      let x = report_row v press at o v.status in
      kept_by v.callsign r (PutReport x ∷ PutVehicle u ∷ []) w (refl, (refl, tt)) (record {
        loan = h.loan;
        offer = h.offer;
        assignment = h.assignment;
        turn = h.turn;
        same_incident = h.same_incident;
        active = h.active;
        report = reports_up (bare r) p v u h x least refl;
        last_report = last_up (bare r) p v u h x least refl;
        post = like_post (bare r) v u v.post (λ f. f) refl h.post;
        home = h.home;
        holder = h.holder;
        turn_division = h.turn_division;
        report_division = divisions_of_reports (bare r) p v u h x least refl refl;
      })

  module _ (next : IsNext v.status (status_after v.status press.button)
      (ends_turn press.button)) where
    abbrev pressed : Vehicle
    pressed = vehicle_after v (borrowed d c r) press false

    abbrev reported : Report
    reported = report_row v press at o (status_after v.status press.button)

    abbrev turns_after : ℕ → Option Turn
    turns_after = with_turn (turn_after press.button at) (open_turn d c r) (rows_of v.callsign r).turn

    open_now : IsOpenTurn v.holder (rows_of v.callsign r).turn (open_turn d c r)
    open_now = open_held d c r w.order v is (open_turn d c r) refl

    -- the rows of a vehicle that stays with its holder
    pressed_rows : (a : Option Assignment) → AssignmentAgrees (Some pressed) a
        → ((n : ℕ) → TurnAgrees (Some pressed) n (turns_after n))
        → ((n : ℕ) → SameIncident a (turns_after n))
        → Agrees (bare r) (record (rows_of v.callsign r) {
          vehicle = Some pressed;
          assignment = a;
          turn = turns_after;
          report =
              put_at press.number reported (rows_of v.callsign r).report;
        })
    pressed_rows a assignment turn same = let p = rows_of v.callsign r in record {
      loan = h.loan;
      offer = like_offer r.plan v pressed p.offer next.offered refl refl h.offer;
      assignment = assignment;
      turn = turn;
      same_incident = same;
      active =
          still_active (bare r) p v h (turn_after press.button at) (turn_of press.button at) (open_turn d c r) open_now;
      report = reports_up (bare r) p v pressed h reported least refl;
      last_report = last_up (bare r) p v pressed h reported least refl;
      post = like_post (bare r) v pressed v.post next.free refl h.post;
      home = h.home;
      holder = h.holder;
      turn_division =
          divisions_of_turns (bare r) p v h (turn_after press.button at) (turn_of press.button at) (open_turn d c r)
          open_now;
      report_division = divisions_of_reports (bare r) p v pressed h reported least refl refl;
    }

    -- its turn ends or goes on
    acted_agrees : (ends : Bool) → ends_turn press.button ≡ ends
        → Agrees (bare r) (record (rows_of v.callsign r) {
          vehicle = Some pressed;
          assignment = cond ends None
              (rows_of v.callsign r).assignment;
          turn = turns_after;
          report =
              put_at press.number reported (rows_of v.callsign r).report;
        })
    acted_agrees true e =
        pressed_rows None (next.idle e)
        (ended_turns (bare r) (rows_of v.callsign r) v h (turn_after press.button at) (turn_of press.button at) pressed
        (open_turn d c r) open_now (λ t. turn_ends press.button at t e) (next.idle e) refl) (λ n. tt)
    acted_agrees false e =
        let p = rows_of v.callsign r in
        pressed_rows p.assignment (like_assignment v pressed (next.busy e) (λ b. refl) refl p.assignment h.assignment)
        (moved_turns (bare r) p v h (turn_after press.button at) (turn_of press.button at) pressed (open_turn d c r)
        open_now (λ t. turn_goes press.button at t e) (next.busy e) refl refl)
        (incidents_stay (bare r) p v h (turn_after press.button at) (turn_of press.button at) (open_turn d c r)
        open_now)

    -- a vehicle that goes back does so afterwards
    back_agrees : (back : Bool) → (back ≡ true
        → (ends_turn press.button ≡ true) × (is_due at (borrowed d c r) ≡ true))
        → Agrees (bare r) (record (rows_of v.callsign r) {
          vehicle = Some (vehicle_after v (borrowed d c r) press back);
          loan = cond back None (rows_of v.callsign r).loan;
          assignment = cond (ends_turn press.button) None (rows_of v.callsign r).assignment;
          turn = turns_after;
          report = put_at press.number reported (rows_of v.callsign r).report;
        })
    back_agrees false f = acted_agrees (ends_turn press.button) refl
    back_agrees true f =
        let p = rows_of v.callsign r in
        let ends = (f refl).0 in
        let p1 : VehicleRows = record p {
          assignment = cond (ends_turn press.button) None p.assignment;
          turn = turns_after;
          report = put_at press.number reported p.report;
        } in
        returned_agrees (bare r) p1 pressed (acted_agrees (ends_turn press.button) refl)
        (vehicle_after v (borrowed d c r) press true)
        (due_away v at (borrowed d c r) _ (borrowed_either d c r v is.key) (f refl).1 h.loan) (next.idle ends)
        (next.idle ends) refl refl (lender_is_home d r w c v is h) refl refl refl

    acted_kept : IsWellFormed (apply r
        (report_acts v (open_turn d c r) (borrowed d c r) press at o
        (is_home press.button && is_due at (borrowed d c r))))
    acted_kept =
        let b = press.button in
        let back = is_home b && is_due at (borrowed d c r) in
        let x = report_row v press at o (status_after v.status b) in
        let u = vehicle_after v (borrowed d c r) press back in
        kept_by v.callsign r (report_acts v (open_turn d c r) (borrowed d c r) press at o back) w (
          refl,
          all_concern v.callsign _ _
              (turn_concerns v.callsign b at (open_turn d c r) (λ t e. (open_there d c r w.order t e).2 ∙ is.key))
              (all_concern v.callsign _ _ (drop_concerns v.callsign (ends_turn b))
              (all_concern v.callsign _ _ (back_concerns v.callsign back) (refl, tt))),
        )
        (subst (Agrees (bare r))
        (sym (rows_acted (rows_of v.callsign r) v.callsign x u b at (open_turn d c r) (ends_turn b) back))
        (back_agrees back (λ e. home_ends b _ e)))

module _ (c : Callsign) (r : Room) (w : IsWellFormed r) (p : Press) (at : ℕ)
    (least : 1 ≤ p.number) where
  made_kept : (d : ℕ) (v : Vehicle) → IsHeld d c r v → (o : Outcome)
      → o ≡ outcome_of v (open_turn d c r) p
      → Kept d r w (report_made v (open_turn d c r) (borrowed d c r) p at o)
  made_kept d v is o e =
      let h = known (bare r) (rows_of v.callsign r) v is.there (agreed r w v.callsign) in
      (elim (acts o) as (λ (b : Bool).
      acts o ≡ b
      → Kept d r w (cond b
      (with_changes (answer.Reported p.number o (status_after v.status p.button))
      (report_acts v (open_turn d c r) (borrowed d c r) p at o (is_home p.button && is_due at (borrowed d c r))))
      (with_changes (answer.Reported p.number o v.status)
      (PutReport (report_row v p at o v.status) ∷ PutVehicle (with_report v p) ∷ [])))) [
        | true ↦
            λ f.
            acted_kept d c r w v is h p at least o
            (table v.status p.button _ (by_table v (open_turn d c r) p (ap acts (sym e) ∙ f)))
        | false ↦ λ f. ignored_kept d c r w v is h p at least o
      ]) refl

  report_in_kept : (d : ℕ) → Kept d r w (report_in d c p at r)
  unfolding report_in
  report_in_kept d =
      (elim (held d c r) as (λ (x : Option Vehicle).
      held d c r ≡ x → Kept d r w (report_held x (open_turn d c r) (borrowed d c r) p at)) [
        | None ↦ λ e. w
        | Some v ↦ λ e. made_kept d v (held_is d c r v e) _ refl
      ]) refl

  pub take_report_kept : IsWellFormed (apply r (changes_of (take_report c p at r)))
  take_report_kept = kept_or_new (kept_report c p.number r)
    where
      somewhere : (x : Option Vehicle) → IsWellFormed
          (apply r (changes_of (report_somewhere x c p at r)))
      somewhere None = w
      somewhere (Some v) = report_in_kept v.holder

      kept_or_new : (x : Option Report)
          → IsWellFormed (apply r (changes_of (report_kept x c p at r)))
      kept_or_new None = somewhere (vehicle_at c r)
      kept_or_new (Some x) = refuse_kept 0 r w _ _ _ (λ e. w)
