-- A room and the one that was made of it go on alike.
use Rattle.std.proofs.Common.{ap, subst, sym, ◌∙◌}
use Rattle.std.specs.Prelude.{Bool, List, [], false, refl, true, ℕ, ◌∷◌, ◌≡◌}
use Rattle.room_types.specs.declared.asks.Event.{Event}
use Rattle.room_model.proofs.Changes.{AllOf}
use Rattle.room_model.proofs.KeptEvents.{addressed_still, event_kept}
use Rattle.room_model.specs.Decisions.{answer_of, changes_of}
use Rattle.room_model.specs.Events.{AreAddressed}
use Rattle.room_model.specs.Room.{Room, apply}
use Rattle.room_model.specs.Run.{room_run}
use Rattle.room_model.specs.Step.{decided, room_after}
use Rattle.room_model.specs.RoomAgreements.{IsWellFormed}
use Rattle.dispatch_room_archive.proofs.MovesAlike.{who_same}
use Rattle.dispatch_room_archive.proofs.PastAsked.{asks_none, asks_nothing}
use Rattle.dispatch_room_archive.proofs.RenewedAgreements.{well_formed_without}
use Rattle.dispatch_room_archive.proofs.SpareAll.{who_all}
use Rattle.dispatch_room_archive.proofs.SparingChanges.{Spares, stays_all, without_all}
use Rattle.dispatch_room_archive.specs.Continuation.{AreAnsweredAlike, IsSuccessor}
use Rattle.dispatch_room_archive.specs.Continuation.{NoneRepeatsThePast, asks_of_the_past}
use Rattle.dispatch_room_archive.specs.Continuation.{repeats_the_past}
use Rattle.dispatch_room_archive.specs.Successor.{Behind}

-- a successor is well-formed
pub successor_formed : (since : ℕ) (b : Behind) (old new : Room) → IsWellFormed old
    → IsSuccessor since b old new → IsWellFormed new
successor_formed since b old new w is = subst IsWellFormed (sym is.rows) (well_formed_without since b old w is.behind)

module _ (since : ℕ) (b : Behind) (old new : Room) (w : IsWellFormed old)
    (is : IsSuccessor since b old new) (e : Event) where
  spared : AllOf (Spares b) (changes_of (decided e old))
  spared = who_all since b old w is.behind e.who e.ask e.at

  -- the same changes lead to a successor
  pub successor_after : changes_of (decided e new) ≡ changes_of (decided e old)
      → IsSuccessor since b (room_after e old) (room_after e new)
  successor_after same = record {
    rows =
        ap (apply new) same
        ∙ (ap (λ r. apply r (changes_of (decided e old))) is.rows
        ∙ sym (without_all b old (changes_of (decided e old)) w.order spared));
    behind = stays_all since b old (changes_of (decided e old)) w.order spared is.behind;
  }

  -- what doesn't speak of the past is decided alike
  pub decided_same : asks_of_the_past since b old e ≡ false → repeats_the_past b e ≡ false
      → decided e new ≡ decided e old
  decided_same f g = ap (decided e) is.rows ∙ who_same since b old w is.behind e.who e.ask e.at f g

  -- what a desk asks of the past changes neither room
  pub nothing_old : asks_of_the_past since b old e ≡ true → changes_of (decided e old) ≡ []
  nothing_old f = asks_nothing since b old is.behind e.who e.ask e.at f

  pub nothing_new : asks_of_the_past since b old e ≡ true → changes_of (decided e new) ≡ []
  nothing_new f =
      ap (λ r. changes_of (decided e r)) is.rows ∙ asks_none since b old is.behind w e.who e.ask e.at f

  changes_same : repeats_the_past b e ≡ false
      → changes_of (decided e new) ≡ changes_of (decided e old)
  changes_same g =
      (elim (asks_of_the_past since b old
      e) as (λ (x : Bool). asks_of_the_past since b old e ≡ x → changes_of (decided e new) ≡ changes_of (decided e old)) [
        | true ↦ λ f. nothing_new f ∙ sym (nothing_old f)
        | false ↦ λ f. ap changes_of (decided_same f g)
      ]) refl

  pub goes_on : repeats_the_past b e ≡ false
      → IsSuccessor since b (room_after e old) (room_after e new)
  goes_on g = successor_after (changes_same g)

-- ---- lists of events
pub run_on : (since : ℕ) (b : Behind) (es : List Event) (old new : Room) → IsWellFormed old
    → IsSuccessor since b old new → AreAddressed es old → NoneRepeatsThePast b es
    → AreAnsweredAlike since b es old new × IsSuccessor since b (room_run es old) (room_run es new)
run_on since b [] old new w is known new_only = (tt, is)
run_on since b (e ∷ es) old new w is known new_only =
    let rest = run_on since b es (room_after e old) (room_after e new) (event_kept e old w known.0 known.1)
    (goes_on since b old new w is e new_only.0) (addressed_still es old (changes_of (decided e old)) known.2)
    new_only.1 in
    ((λ f. ap answer_of (decided_same since b old new w is e f new_only.0), rest.0), rest.1)
