-- A desk that looks often enough is shown what is due.
use Rattle.std.proofs.Common.{ap, arith, eqb-true, inl, inr, subst}
use Rattle.std.proofs.lemmas.Bool.{cases_lt}
use Rattle.std.specs.Prelude.{Bool, List, [], cond, false, refl, true, ℕ, ◌+◌, ◌++◌, ◌∷◌, ◌≡◌, ◌≤◌}
use Rattle.room_types.specs.declared.asks.Ask.{Ask}
use Rattle.room_types.specs.declared.asks.Ask.TheVariants as ask
use Rattle.room_types.specs.declared.asks.Event.{Event}
use Rattle.room_types.specs.declared.asks.Who.{Who}
use Rattle.room_types.specs.declared.asks.Who.TheVariants.{Desk}
use Rattle.room_model.specs.Events.{AreAddressed, by_desk}
use Rattle.room_model.proofs.QueueLaws.{ordered_queue}
use Rattle.room_model.specs.Queue.{entries, ordered_from, show_queue}
use Rattle.room_model.specs.Room.{Room}
use Rattle.room_model.specs.RoomAgreements.{IsWellFormed}
use Rattle.room_model.specs.Run.{room_run}
use Rattle.room_model.specs.Step.{answer_to}
use Rattle.room_laws.proofs.Stays.{due_still}
use Rattle.room_laws.specs.Exceptions.{Concern, IsDue, IsSeen, IsShown, LooksEvery, is_look, looks}

pub look_is : (d : ℕ) (who : Who) (a : Ask) (at : ℕ) → is_look d who a ≡ true
    → record { who = who; ask = a; at = at } ≡ by_desk d ask.Queue at
look_is d (Desk h) ask.Queue at f = ap (λ h. by_desk h ask.Queue at) (eqb-true h d f)
look_is d who a at f = cc

-- a look in time, among the events
pub record IsLookIn (d y m : ℕ) (es : List Event) : Type 0 where
  pub before : List Event
  pub after : List Event
  pub at : ℕ
  pub split : es ≡ before ++ by_desk d ask.Queue at ∷ after
  pub in_time : (m ≤ at) × (at ≤ m + y)

pub look_in_time : (d y m last : ℕ) (es : List Event) → last ≤ m → LooksEvery y m last (looks d es)
    → IsLookIn d y m es
look_in_time d y m last [] le h = absurd h
look_in_time d y m last (e ∷ es) le h =
    (elim (is_look d e.who e.ask) as (λ (b : Bool). is_look d e.who e.ask ≡ b
    → LooksEvery y m last (cond b (e.at ∷ looks d es) (looks d es)) → IsLookIn d y m (e ∷ es)) [
      | false ↦ λ f g. further (look_in_time d y m last es le g)
      | true ↦ λ f g. elim (cases_lt e.at m) [
        | inr past ↦ record {
          before = [];
          after = es;
          at = e.at;
          split = ap (λ (x : Event). x ∷ es) (look_is d e.who e.ask e.at f);
          in_time = (past, omega (arith, g.0, le));
        }
        | inl early ↦ elim g.1 [
          | inl past ↦ absurd (omega (arith, early, past))
          | inr rest ↦ further (look_in_time d y m e.at es (omega (arith, early)) rest)
        ]
      ]
    ]) refl h
  where
    further : IsLookIn d y m es → IsLookIn d y m (e ∷ es)
    further l = record {
      before = e ∷ l.before;
      after = l.after;
      at = l.at;
      split = ap (λ (xs : List Event). e ∷ xs) l.split;
      in_time = l.in_time;
    }

-- a queue that is asked for shows what is due
pub is_shown : (d at : ℕ) (k : Concern) (r : Room) → IsDue d k at r
    → IsShown k (answer_to (by_desk d ask.Queue at) r)
unfolding show_queue
is_shown d at k r h = record {
  queue = ordered_from [] (entries d at r);
  answer_is = refl;
  shown = record {
    entry = h.entry;
    there = (ordered_queue (entries d at r)).there h.entry h.there;
    named = h.named;
  };
}

known_before : (before rest : List Event) (r : Room) → AreAddressed (before ++ rest) r
    → AreAddressed before r
known_before [] rest r h = tt
known_before (e ∷ before) rest r h = (h.0, h.1, known_before before rest r h.2)

pub seen_in_time : (d y m last : ℕ) (k : Concern) (r : Room) (es : List Event) → IsWellFormed r
    → AreAddressed es r → IsDue d k m r → last ≤ m → LooksEvery y m last (looks d es)
    → IsSeen d k y m es r
seen_in_time d y m last k r es w known due le h =
    let l = look_in_time d y m last es le h in
    record {
      before = l.before;
      after = l.after;
      at = l.at;
      split = l.split;
      in_time = l.in_time;
      seen = elim (due_still d m l.at k l.before r w
          (known_before l.before (by_desk d ask.Queue l.at ∷ l.after) r
          (subst (λ (es : List Event). AreAddressed es r) l.split known)) l.in_time.0 due) [
            | inl still ↦ inl (is_shown d l.at k (room_run l.before r) still)
            | inr ended ↦ inr ended
          ];
    }
