-- Who is given at a door to be served, and who is not taken back.
use Rattle.std.proofs.Common.{◌≡◌, ◌⊎◌, ◌∙◌, ap, arith, inl, inr, refl, ℕ, ◌+◌, ◌<◌, List, [], ◌∷◌}
use Rattle.std.proofs.Common.{length, Bool, false, true, Option, None, Some, IfSome}
use Rattle.std.proofs.lemmas.Option.{same_Some}
use Rattle.std.specs.declared.time.Duration.{Duration}
use Rattle.dispatch_room_sockets.specs.declared.acceptors.Client.{Client}
use Rattle.dispatch_room_sockets.specs.declared.kept_callers.Kept.{Kept}
use Rattle.dispatch_room_sockets.specs.declared.closing_connections.ClosingConnection.{ClosingConnection}
use Rattle.dispatch_room_sockets.specs.CallerHistories.{GivesNext}
use Rattle.dispatch_room_sockets.specs.Departures.{Departs}
use Rattle.dispatch_room_sockets.specs.PieceTurns.{GivesPiece, IsHindered, TakesBack, fresh}
use Rattle.dispatch_room_sockets.specs.PieceTurns.{unwatched}
use Rattle.dispatch_room_sockets.specs.Turns.{IsInTurn}
use Rattle.dispatch_room_sockets.proofs.HistoryLaws.{back_gone, given_after}

given_alike : {C : Type 0} (line lines ready readied : List (Kept C)) (next after : ℕ) (k it : Kept C)
    → it.number ≡ k.number → GivesNext line ready next lines readied after (Some k)
    → GivesNext line ready next lines readied after (Some it)
given_alike line lines ready readied next after k it same given h s =
    let one = given h s in (
      one.0,
      record {
        gave = rw same one.1.gave;
        out = rw same one.1.out;
        whole = one.1.whole;
        gone = one.1.gone;
      },
      one.2,
    )

module _ {T : Type 0} (shows : Option Duration → Type 0) (is_full : T → Type 0)
    (line lines ready readied : List (Kept (Client T))) (next after : ℕ)
    (heard : GivesNext line ready next lines readied after None)
    (stay : ¬ (length ready ≡ 0) → (readied ≡ ready) × (lines ≡ line)) where
  nobody_given : (readied ≡ [])
      ⊎ ((k : Kept (Client T)) × (more : List (Kept (Client T))) × (readied ≡ k ∷ more)
      × IsHindered shows is_full k)
      → GivesPiece shows is_full line lines ready readied next after None
  nobody_given why = record {
    one = heard;
    first = λ k more is.
        let same = stay (λ none. omega (arith, ap length is, none)) in
        (same.1, same.0);
    nobody = λ _. why;
    room = λ some. absurd (cc);
  }

  pub nobody_ready : readied ≡ [] → GivesPiece shows is_full line lines ready readied next after None
  nobody_ready none = nobody_given (inl none)

  -- the first can't be served for now
  pub first_hindered : (k : Kept (Client T)) (more : List (Kept (Client T))) → readied ≡ k ∷ more
      → IsHindered shows is_full k → GivesPiece shows is_full line lines ready readied next after None
  first_hindered k more is hindered = nobody_given (inr (k, more, is, hindered))

  pub one_given_piece : (left others : List (Kept (Client T))) (last : ℕ) (k it : Kept (Client T))
      → GivesNext lines readied after left others last (Some k) → IsInTurn lines left readied others (Some k)
      → it ≡ unwatched k → length left + length others < 1024
      → GivesPiece shows is_full line left ready others next last (Some it)
  one_given_piece left others last k it given turn is room = record {
    one =
        given_alike line left ready others next last k it (ap (λ j. j.number) is)
        (given_after line lines left ready readied others next after last (Some k) heard given);
    first = λ j more same.
        let stays = stay (λ none. omega (arith, ap length same, none)) in
        let one = turn.first j more (stays.0 ∙ same) in
        (one.2 ∙ stays.1, (is ∙ ap unwatched (same_Some k j one.0), one.1));
    nobody = λ none. absurd (cc);
    room = λ _. room;
  }

module _ {T : Type 0} (shows : Option Duration → Type 0) (is_stuck : T → Type 0) (keep : Duration)
    (k : Kept (Client T)) (is_paused is_open : Bool) (answered : Option Duration)
    (line ready : List (Kept (Client T))) (next : ℕ) (closing_connections : List (ClosingConnection (Client T))) where
  none_departs : (moment : Option Duration) → (is_open ≡ true → is_stuck k.caller.stream)
      → IfSome moment (λ until. is_open ≡ true → ((closing_connections ≡ closing_connections) × is_stuck k.caller.stream)
      ⊎ Departs shows (fresh k.caller) until closing_connections closing_connections)
  none_departs None stuck = tt
  none_departs (Some until) stuck = λ open_yet. inl (refl, stuck open_yet)

  -- who got no answer, or who isn't parted from, is dropped
  pub gone_taken : (answered ≡ None) ⊎ ((is_paused ≡ false) × (is_open ≡ true → is_stuck k.caller.stream))
      → TakesBack shows is_stuck keep k is_paused is_open answered line line ready next closing_connections closing_connections
  gone_taken why = record {
    back = back_gone line ready next k.number;
    dropped = λ _. (refl, refl);
    waits = λ _. refl;
    again = λ paused. elim why [
      | inl none ↦ rw none tt
      | inr ended ↦ absurd (cc)
    ];
    parted = λ _. refl;
    departs = λ _. elim why [
      | inl none ↦ rw none tt
      | inr ended ↦ none_departs answered ended.1
    ];
  }
