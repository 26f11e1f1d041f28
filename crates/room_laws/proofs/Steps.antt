-- The steps of an event lead to the room after it, and none of them is several.
use Rattle.std.proofs.Common.{ap, inl, inr, sym, ◌∙◌}
use Rattle.std.specs.Prelude.{Bool, Err, List, Ok, [], cond, false, is_ok, refl, true, ℕ, ◌&&◌, ◌∷◌}
use Rattle.std.specs.Prelude.{◌≡◌, ◌⊎◌}
use Rattle.room_place.specs.Plans.{has_division}
use Rattle.room_types.specs.declared.answers.Answer.{Answer}
use Rattle.room_types.specs.declared.asks.Ask.{Ask}
use Rattle.room_types.specs.declared.asks.Ask.TheVariants as ask
use Rattle.room_types.specs.declared.asks.Event.{Event}
use Rattle.room_types.specs.declared.asks.Move.{Move}
use Rattle.room_types.specs.declared.asks.Who.{Who}
use Rattle.room_types.specs.declared.asks.Who.TheVariants.{Desk}
use Rattle.room_types.specs.declared.refusal_statuses.Refusal.{Refusal}
use Rattle.room_model.proofs.KeptAsks.{mobilise_kept, stand_down_kept}
use Rattle.room_model.proofs.MoveFolds.{by_ask}
use Rattle.room_model.proofs.MoveLaws.{made_or_refused}
use Rattle.room_model.proofs.Runs.{AreWellFormed}
use Rattle.room_model.proofs.Tests.{both_true, right_true}
use Rattle.room_model.specs.Decisions.{Verdict, answer_of}
use Rattle.room_model.specs.Events.{AreAddressed, IsNumbered, by_desk}
use Rattle.room_model.specs.Moves.{one_by_one}
use Rattle.room_model.specs.Room.{Room}
use Rattle.room_model.specs.RoomAgreements.{IsWellFormed}
use Rattle.room_model.specs.Run.{room_run}
use Rattle.room_model.specs.Step.{IsAddressed, ask_of, decided, is_desks, is_for, moves_in}
use Rattle.room_model.specs.Step.{room_after}
use Rattle.room_laws.specs.Happens.{steps_by, steps_of}

-- it is one step
abbrev pub is_single : Who → Ask → Bool
is_single (Desk d) (ask.Moves ms) = false
is_single who a = true

abbrev pub IsSingle : Event → Type 0
IsSingle e = is_single e.who e.ask ≡ true

abbrev pub AreSingle : List Event → Type 0
AreSingle [] = Unit {0}
AreSingle (e ∷ es) = IsSingle e × AreSingle es

-- ---- the room after them
answered_ok : (x : Verdict) (a : Answer) → answer_of x ≡ Ok a → is_ok x ≡ true
answered_ok (Ok x) a e = refl
answered_ok (Err why) a e = cc

refused_not : (x : Verdict) (why : Refusal) → answer_of x ≡ Err why → is_ok x ≡ false
refused_not (Ok x) why e = cc
refused_not (Err w) why e = refl

steps_lead : (who : Who) (a : Ask) (at : ℕ) (r : Room)
    → room_after (record { who = who; ask = a; at = at }) r
    ≡ room_run (steps_of (record { who = who; ask = a; at = at }) r) r
steps_lead (Desk d) (ask.Moves ms) at r =
    let e = by_desk d (ask.Moves ms) at in
    let steps = one_by_one d (moves_in ms) at in
    elim (made_or_refused d at ms r) [
      | inl made ↦
          made.room
          ∙ ap (λ (b : Bool). room_run (cond b steps []) r)
          (sym (answered_ok (decided e r) _ made.answered))
      | inr refused ↦
          refused.room
          ∙ ap (λ (b : Bool). room_run (cond b steps []) r)
          (sym (refused_not (decided e r) refused.why refused.answered))
    ]
steps_lead who a at r = refl

pub steps_run : (e : Event) (r : Room) → room_after e r ≡ room_run (steps_of e r) r
steps_run e r = steps_lead e.who e.ask e.at r

-- ---- each is one step, and addressed as the event is
single_if : (b : Bool) (es : List Event) → AreSingle es → AreSingle (cond b es [])
single_if true es h = h
single_if false es h = tt

single_moves : (d : ℕ) (ms : List Move) (at : ℕ) → AreSingle (one_by_one d ms at)
single_moves d [] at = tt
single_moves d (m ∷ ms) at = (
  by_ask (λ a. is_single (Desk d) a ≡ true) (λ c. refl) (λ n c. refl) m,
  single_moves d ms at,
)

single_by : (who : Who) (a : Ask) (e : Event) (r : Room) → e.who ≡ who → e.ask ≡ a
    → AreSingle (steps_by who a e r)
single_by (Desk d) (ask.Moves ms) e r f g =
    single_if (is_ok (decided e r)) (one_by_one d (moves_in ms) e.at)
    (single_moves d (moves_in ms) e.at)
single_by who a e r f g =
    (ap (λ (w : Who). is_single w e.ask) f ∙ ap (λ (b : Ask). is_single who b) g ∙ refl, tt)

pub steps_single : (e : Event) (r : Room) → AreSingle (steps_of e r)
steps_single e r = single_by e.who e.ask e r refl refl

addressed_if : (b : Bool) (es : List Event) (r : Room) → AreAddressed es r
    → AreAddressed (cond b es []) r
addressed_if true es r h = h
addressed_if false es r h = tt

addressed_moves : (d : ℕ) (ms : List Move) (at : ℕ) (r : Room) → has_division r.plan d ≡ true
    → AreAddressed (one_by_one d ms at) r
addressed_moves d [] at r h = tt
addressed_moves d (m ∷ ms) at r h = (
  both_true (is_desks (ask_of m)) _
      (by_ask (λ a. is_desks a ≡ true) (λ c. refl) (λ n c. refl) m) h,
  by_ask IsNumbered (λ c. tt) (λ n c. tt) m,
  addressed_moves d ms at r h,
)

addressed_by : (who : Who) (a : Ask) (e : Event) (r : Room) → is_for who a r ≡ true
    → IsAddressed e r → IsNumbered e.ask → AreAddressed (steps_by who a e r) r
addressed_by (Desk d) (ask.Moves ms) e r f known numbered =
    addressed_if (is_ok (decided e r)) (one_by_one d (moves_in ms) e.at) r
    (addressed_moves d (moves_in ms) e.at r (right_true (is_desks (ask.Moves ms)) _ f))
addressed_by who a e r f known numbered = (known, numbered, tt)

pub steps_addressed : (e : Event) (r : Room) → IsAddressed e r → IsNumbered e.ask
    → AreAddressed (steps_of e r) r
steps_addressed e r known numbered = addressed_by e.who e.ask e r known known numbered

-- ---- each meets a well-formed room
met_if : (b : Bool) (es : List Event) (r : Room) → AreWellFormed es r
    → AreWellFormed (cond b es []) r
met_if true es r h = h
met_if false es r h = tt

met_moves : (d : ℕ) (ms : List Move) (at : ℕ) (r : Room) → IsWellFormed r
    → AreWellFormed (one_by_one d ms at) r
met_moves d [] at r w = tt
met_moves d (m ∷ ms) at r w = (
  w,
  met_moves d ms at (room_after (by_desk d (ask_of m) at) r)
      (by_ask (λ a. IsWellFormed (room_after (by_desk d a at) r)) (λ c. stand_down_kept d r w c at)
      (λ n c. mobilise_kept d r w n c at) m),
)

met_by : (who : Who) (a : Ask) (e : Event) (r : Room) → IsWellFormed r
    → AreWellFormed (steps_by who a e r) r
met_by (Desk d) (ask.Moves ms) e r w =
    met_if (is_ok (decided e r)) (one_by_one d (moves_in ms) e.at) r
    (met_moves d (moves_in ms) e.at r w)
met_by who a e r w = (w, tt)

pub steps_met : (e : Event) (r : Room) → IsWellFormed r → AreWellFormed (steps_of e r) r
steps_met e r w = met_by e.who e.ask e r w
