-- Moves in a room and in the one that was made of it: alike, or refused in both where one of them
-- names an incident that stayed behind.
use Rattle.std.proofs.Common.{ap, subst, sym, ◌∙◌}
use Rattle.std.specs.List.{list_any}
use Rattle.std.specs.Prelude.{Bool, Err, List, None, Ok, Option, Some, [], false, refl, true, ℕ}
use Rattle.std.specs.Prelude.{◌∷◌, ◌≡◌}
use Rattle.room_types.specs.Codes.{is_active}
use Rattle.room_types.specs.declared.asks.Ask.{Ask}
use Rattle.room_types.specs.declared.asks.Ask.TheVariants as ask
use Rattle.room_types.specs.declared.asks.Move.{Move}
use Rattle.room_types.specs.declared.asks.Who.{Who}
use Rattle.room_types.specs.declared.asks.Who.TheVariants.{Crew, Desk, Position}
use Rattle.room_types.specs.Keys.{incident_key, pair_cmp}
use Rattle.room_types.specs.KeyLemmas.{exact_pair, pairs_total}
use Rattle.room_types.specs.Texts.{Callsign}
use Rattle.room_types.specs.declared.changes.Change.{Change}
use Rattle.room_types.specs.declared.changes.Change.TheVariants.{PutIncident}
use Rattle.room_types.specs.declared.refusal_statuses.Refusal.{Refusal}
use Rattle.room_types.specs.declared.refusal_statuses.Refusal.TheVariants as refusal
use Rattle.room_types.specs.declared.tables.Incident.{Incident}
use Rattle.room_types.specs.declared.tables.Loan.{Loan}
use Rattle.room_types.specs.declared.tables.Turn.{Turn}
use Rattle.room_types.specs.declared.tables.Vehicle.{Vehicle}
use Rattle.room_model.proofs.Changes.{AllOf}
use Rattle.room_model.proofs.DecisionLaws.{by_refuse}
use Rattle.room_model.proofs.IncidentChanges.{incidents_put}
use Rattle.room_model.proofs.KeptAsks.{mobilise_kept, stand_down_kept}
use Rattle.room_model.proofs.MoveFolds.{by_ask, then_alike}
use Rattle.room_model.proofs.Tests.{row_key}
use Rattle.room_model.specs.Decisions.{Verdict, changes_of, refuse_if, where_active, where_held}
use Rattle.room_model.specs.Queries.{held, incident_of, lent, open_turn, served}
use Rattle.room_model.specs.Room.{Room, apply, apply_one}
use Rattle.room_model.specs.RoomAgreements.{IsWellFormed}
use Rattle.room_model.specs.Step.{Course, and_then, ask_for, ask_of, course, desk_asks, moves_in}
use Rattle.room_model.specs.Step.{single_asks, verdict_of, who_asks}
use Rattle.room_model.specs.Vehicles.{mobilise, mobilise_held, mobilised, stand_down}
use Rattle.room_model.specs.Vehicles.{stand_down_held}
use Rattle.room_model.specs.WorkingRows.{incidents_named}
use Rattle.dispatch_room_archive.proofs.AskedAlike.{left_false, right_false}
use Rattle.dispatch_room_archive.proofs.DecidedAlike.{crew_same, position_same, single_same}
use Rattle.dispatch_room_archive.proofs.LeftBehind.{from_left, not_true}
use Rattle.dispatch_room_archive.proofs.RowsLeft.{incident_gone}
use Rattle.dispatch_room_archive.proofs.SpareAll.{single_all}
use Rattle.dispatch_room_archive.proofs.SparingChanges.{stays_all, without_all}
use Rattle.dispatch_room_archive.specs.Continuation.{IsOver, StaysBehind, asks_back, looks_back}
use Rattle.dispatch_room_archive.specs.Continuation.{moves_behind, names_behind, sends_again}
use Rattle.dispatch_room_archive.specs.Continuation.{stayed_behind}
use Rattle.dispatch_room_archive.specs.Successor.{Behind, without}

abbrev pub IsRefused : Verdict → Type 0
IsRefused x = (why : Refusal) × (x ≡ Err why)

-- an incident that is over takes no vehicle
over_refuses : (since : ℕ) (o : Option Incident) (f : Incident → Verdict) → IsOver since o
    → IsRefused (where_active o f)
unfolding refuse_if
over_refuses since None f over = absurd over
over_refuses since (Some i) f over = (refusal.IncidentNotOpen, rw over.0 refl)

refused_after : (cs : List Change) (m : Move) (x : Verdict) (rest : Course) → IsRefused (verdict_of rest)
    → IsRefused (verdict_of (and_then m x (λ cs. rest)))
refused_after cs m (Err why) rest h = (why, refl)
refused_after cs m (Ok y) (Err why) h = (why, refl)
refused_after cs m (Ok y) (Ok z) h = let never = h.1 in cc

-- ---- what is over stays so, by whatever moves
module _ (since : ℕ) (b : Behind) where
  -- the incidents that stayed behind are over
  abbrev pub AreOver : Room → Type 0
  AreOver r = (d n : ℕ) → b.incident d n ≡ true → IsOver since (incident_of d n r)

  -- none of them is put
  abbrev PutsNone : Change → Type 0
  PutsNone (PutIncident x) = b.incident x.division x.number ≡ false
  PutsNone x = Unit {0}

  over_one : (r : Room) (x : Change) → PutsNone x → AreOver r → AreOver (apply_one r x)
  unfolding incident_of
  over_one r (PutIncident x) q h =
      λ d n.
      incidents_put (λ k o. b.incident k.0 k.1 ≡ true → IsOver since o) r.incidents x
      (λ e. let spared : b.incident x.division x.number ≡ false = q in cc)
      (λ k apart. h k.0 k.1) (d, n)
  over_one r x q h = h

  over_all : (cs : List Change) (r : Room) → AllOf PutsNone cs → AreOver r → AreOver (apply r cs)
  over_all [] r q h = h
  over_all (c ∷ cs) r q h = over_all cs (apply_one r c) q.1 (over_one r c q.0 h)

  abbrev Spares : Verdict → Type 0
  Spares x = AllOf PutsNone (changes_of x)

  by_vehicle : (o : Option Vehicle) (l : Option Loan) (f : Vehicle → Verdict)
      → ((v : Vehicle) → Spares (f v)) → Spares (where_held o l f)
  by_vehicle None l f g = tt
  by_vehicle (Some v) l f g = g v

  module _ (d at : ℕ) (r : Room) (h : AreOver r) where
    -- an incident that takes a vehicle is active
    active_spared : (n : ℕ) (i : Incident) → incident_of d n r ≡ Some i → is_active i.state ≡ true
        → b.incident i.division i.number ≡ false
    unfolding incident_of
    active_spared n i there active =
        let key = row_key pair_cmp incident_key pairs_total exact_pair r.incidents (d, n) i there in
        subst (λ (k : ℕ × ℕ). b.incident k.0 k.1 ≡ false) key
        (not_true (b.incident d n) (λ gone.
        let over : is_active i.state ≡ false = (subst (IsOver since) there (h d n gone)).0 in cc))

    mobilise_spares : (n : ℕ) (c : Callsign) → Spares (mobilise d n c at r)
    unfolding mobilise
    mobilise_spares n c =
        (elim (incident_of d n r) as (λ (o : Option Incident).
        incident_of d n r ≡ o
        → Spares (where_active o (mobilise_held d (held d c r) (lent d c r) at (λ k. served d n k r)))) [
          | None ↦ λ there. tt
          | Some i ↦ λ there.
              by_refuse Spares _ _ _ tt (λ active.
              by_vehicle (held d c r) (lent d c r) (mobilised d i at (λ k. served d n k r)) (λ v.
              let spared = active_spared n i there (from_left _ active) in
              by_refuse Spares _ _ _ tt (λ e.
              by_refuse Spares _ _ _ tt (λ e.
              by_refuse Spares _ _ _ tt (λ e.
              by_refuse Spares _ _ _ tt (λ e. (spared, (tt, (tt, (tt, tt))))))))))
        ]) refl

    stand_down_spares : (c : Callsign) → Spares (stand_down d c at r)
    unfolding stand_down
    stand_down_spares c =
        by_vehicle (held d c r) (lent d c r) (stand_down_held at (open_turn d c r)) (λ v.
        (elim (open_turn d c r) as (λ (o : Option Turn). Spares (stand_down_held at o v)) [
          | None ↦ by_refuse Spares _ _ _ tt (λ e. (tt, (tt, tt)))
          | Some t ↦ by_refuse Spares _ _ _ tt (λ e. (tt, (tt, (tt, tt))))
        ]))

    over_after : (m : Move) → AreOver (apply r (changes_of (single_asks d (ask_of m) at r)))
    over_after m =
        by_ask (λ a. AreOver (apply r (changes_of (single_asks d a at r))))
        (λ c. over_all (changes_of (stand_down d c at r)) r (stand_down_spares c) h)
        (λ n c. over_all (changes_of (mobilise d n c at r)) r (mobilise_spares n c) h) m

module _ (since : ℕ) (b : Behind) (d at : ℕ) where
  abbrev named : Move → Bool
  named m = stayed_behind b d (incidents_named (ask_of m))

  looks_ahead : (r : Room) (m : Move) → looks_back since b d r (ask_of m) ≡ false
  looks_ahead r m = by_ask (λ a. looks_back since b d r a ≡ false) (λ c. refl) (λ n c. refl) m

  formed_after : (r : Room) → IsWellFormed r → (m : Move)
      → IsWellFormed (apply r (changes_of (single_asks d (ask_of m) at r)))
  formed_after r w m =
      by_ask (λ a. IsWellFormed (apply r (changes_of (single_asks d a at r))))
      (λ c. stand_down_kept d r w c at) (λ n c. mobilise_kept d r w n c at) m

  behind_after : (r : Room) (w : IsWellFormed r) (h : StaysBehind since b r) (m : Move)
      → StaysBehind since b (apply r (changes_of (single_asks d (ask_of m) at r)))
  behind_after r w h m =
      stays_all since b r (changes_of (single_asks d (ask_of m) at r)) w.order
      (single_all since b r w h d (ask_of m) at) h

  without_after : (r : Room) (w : IsWellFormed r) (h : StaysBehind since b r) (m : Move)
      → apply (without b r) (changes_of (single_asks d (ask_of m) at r))
      ≡ without b (apply r (changes_of (single_asks d (ask_of m) at r)))
  without_after r w h m =
      sym (without_all b r (changes_of (single_asks d (ask_of m) at r)) w.order
      (single_all since b r w h d (ask_of m) at))

  -- ---- where none names one, they come to the same
  course_same : (ms : List Move) (r : Room) (w : IsWellFormed r) (h : StaysBehind since b r)
      → list_any named ms ≡ false → course d ms at (without b r) ≡ course d ms at r
  course_same [] r w h none = refl
  course_same (m ∷ ms) r w h none =
      let cs = changes_of (single_asks d (ask_of m) at r) in
      ap (λ x. and_then m x (λ cs. course d ms at (apply (without b r) cs)))
      (single_same since b r w h d (ask_of m) at (left_false (named m) _ none) (looks_ahead r m))
      ∙ then_alike m (single_asks d (ask_of m) at r) _ _
      (ap (course d ms at) (without_after r w h m)
      ∙ course_same ms (apply r cs) (formed_after r w m) (behind_after r w h m)
      (right_false (named m) _ none))

  -- ---- where one does, they are refused in the old room
  old_refuses : (r : Room) → AreOver since b r → (o : Option ℕ) (m : Move) → m.incident ≡ o
      → named m ≡ true → IsRefused (single_asks d (ask_of m) at r)
  unfolding mobilise
  old_refuses r h None m is e =
      let never : false ≡ true =
      ap (λ x. stayed_behind b d (incidents_named (ask_for m.callsign x))) (sym is) ∙ e in cc
  old_refuses r h (Some n) m is e =
      let gone : b.incident d n ≡ true =
      ap (λ x. stayed_behind b d (incidents_named (ask_for m.callsign x))) (sym is) ∙ e in
      subst (λ x. IsRefused (single_asks d (ask_for m.callsign x) at r)) (sym is)
      (over_refuses since (incident_of d n r)
      (mobilise_held d (held d m.callsign r) (lent d m.callsign r) at (λ k. served d n k r))
      (h d n gone))

  new_refuses : (r : Room) → IsWellFormed r → (o : Option ℕ) (m : Move) → m.incident ≡ o
      → named m ≡ true → IsRefused (single_asks d (ask_of m) at (without b r))
  unfolding mobilise incident_of
  new_refuses r w None m is e =
      let never : false ≡ true =
      ap (λ x. stayed_behind b d (incidents_named (ask_for m.callsign x))) (sym is) ∙ e in cc
  new_refuses r w (Some n) m is e =
      let gone : b.incident d n ≡ true =
      ap (λ x. stayed_behind b d (incidents_named (ask_for m.callsign x))) (sym is) ∙ e in
      subst (λ x. IsRefused (single_asks d (ask_for m.callsign x) at (without b r))) (sym is)
      (refusal.NoSuchIncident, rw (incident_gone b r w.order d n gone) refl)

  module _ (m : Move) (ms : List Move) (r : Room) where
    -- the first is refused, or the rest in the room after it
    first_or_rest : (x : Verdict) (rest : List Change → Course) (t : Bool) → (t ≡ true → IsRefused x)
        → (t ≡ false → IsRefused (verdict_of (rest (changes_of x))))
        → IsRefused (verdict_of (and_then m x rest))
    first_or_rest (Err why) rest t f g = (why, refl)
    first_or_rest (Ok y) rest true f g = let never = (f refl).1 in cc
    first_or_rest (Ok y) rest false f g = refused_after [] m (Ok y) (rest y.changes) (g refl)

  later : (m : Move) (ms : List Move) → list_any named (m ∷ ms) ≡ true → named m ≡ false
      → list_any named ms ≡ true
  later m ms e f = rw f at e

  pub old_refused : (ms : List Move) (r : Room) → AreOver since b r → list_any named ms ≡ true
      → IsRefused (verdict_of (course d ms at r))
  old_refused [] r h e = cc
  old_refused (m ∷ ms) r h e =
      first_or_rest m ms r (single_asks d (ask_of m) at r) (λ cs. course d ms at (apply r cs)) (named m)
      (old_refuses r h m.incident m refl)
      (λ f. old_refused ms _ (over_after since b d at r h m) (later m ms e f))

  -- ---- and in the new one
  pub new_refused : (ms : List Move) (r : Room) → IsWellFormed r → StaysBehind since b r
      → list_any named ms ≡ true → IsRefused (verdict_of (course d ms at (without b r)))
  new_refused [] r w h e = cc
  new_refused (m ∷ ms) r w h e =
      first_or_rest m ms r (single_asks d (ask_of m) at (without b r))
      (λ cs. course d ms at (apply (without b r) cs)) (named m)
      (new_refuses r w m.incident m refl)
      (λ f.
      subst (λ s. IsRefused (verdict_of (course d ms at s)))
      (sym (ap (λ x. apply (without b r) (changes_of x))
      (single_same since b r w h d (ask_of m) at f (looks_ahead r m)) ∙ without_after r w h m))
      (new_refused ms _ (formed_after r w m) (behind_after r w h m) (later m ms e f)))

-- what is refused changes nothing
nothing_by : (x : Verdict) → IsRefused x → changes_of x ≡ []
nothing_by (Err why) h = refl
nothing_by (Ok y) h = let never = h.1 in cc

pub moves_nothing : (since : ℕ) (b : Behind) (r : Room) → StaysBehind since b r → (d : ℕ) (a : Ask)
    (at : ℕ) → moves_behind b d a ≡ true → changes_of (desk_asks d a at r) ≡ []
moves_nothing since b r h d (ask.Moves ms) at e =
    nothing_by _ (old_refused since b d at (moves_in ms) r h.incidents e)
moves_nothing since b r h d a at e = cc

module _ (since : ℕ) (b : Behind) (r : Room) (w : IsWellFormed r) (h : StaysBehind since b r) where
  pub moves_none : (d : ℕ) (a : Ask) (at : ℕ) → moves_behind b d a ≡ true
      → changes_of (desk_asks d a at (without b r)) ≡ []
  moves_none d (ask.Moves ms) at e = nothing_by _ (new_refused since b d at (moves_in ms) r w h e)
  moves_none d a at e = cc

  desk_same : (d : ℕ) (a : Ask) (at : ℕ) → names_behind b d a ≡ false → moves_behind b d a ≡ false
      → looks_back since b d r a ≡ false → desk_asks d a at (without b r) ≡ desk_asks d a at r
  desk_same d (ask.Moves ms) at e f g = ap verdict_of (course_same since b d at (moves_in ms) r w h f)
  desk_same d a at e f g = single_same since b r w h d a at e g

  pub who_same : (who : Who) (a : Ask) (at : ℕ) → asks_back since b who r a ≡ false
      → sends_again b who a ≡ false → who_asks who a at (without b r) ≡ who_asks who a at r
  who_same (Desk d) a at e g =
      let more = right_false (names_behind b d a) _ e in
      desk_same d a at (left_false (names_behind b d a) _ e) (left_false (moves_behind b d a) _ more)
      (right_false (moves_behind b d a) _ more)
  who_same (Position p) a at e g = position_same since b r w h p a at g
  who_same (Crew c) a at e g = crew_same since b r w h c a at g
