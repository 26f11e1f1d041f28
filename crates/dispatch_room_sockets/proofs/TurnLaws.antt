-- Whose turn it is of those who are to be served.
use Rattle.std.proofs.Common.{◌≡◌, ◌∙◌, ◌+◌, ◌<◌, ◌≤◌, sym, ap, append_assoc, arith, length-append}
use Rattle.std.proofs.Common.{refl, List, [], ◌∷◌, ◌++◌, Bool, true, false, filter, length, map}
use Rattle.std.proofs.Common.{Option, None, Some, option_to_list, if◌then◌else◌}
use Rattle.std.specs.Prelude.{unwrap_or}
use Rattle.std.specs.Duration.{as_nanos}
use Rattle.std.specs.declared.time.Duration.{Duration}
use Rattle.dispatch_room_sockets.specs.declared.kept_callers.Kept.{Kept}
use Rattle.dispatch_room_sockets.specs.Sweeps.{Looked, judged, served_of}
use Rattle.dispatch_room_sockets.specs.Turns.{AreGivenSoon, AreTurns, IsInTurn, moment_or_first}
use Rattle.dispatch_room_sockets.specs.Verdicts.{is_over, is_served, verdict_on}

-- the moment that is taken where a clock shows none is its first
pub first_moment : (now : Option Duration) (first : Duration) → as_nanos first ≡ 0
    → as_nanos (unwrap_or now first) ≡ moment_or_first now
first_moment None first zero = zero
first_moment (Some now) first zero = refl

module _ {C : Type 0} where
  none_left : (rest : List (Kept C)) → length rest ≡ 0 → rest ≡ []
  none_left [] none = refl
  none_left (k ∷ more) none = absurd (omega (arith, none))

  -- The first is given of those who are to be served by now. Where some were before, these are they.
  pub given_in_turn : (line lines ready by_now rest : List (Kept C)) (given : Option (Kept C))
      → (¬ (length ready ≡ 0) → (by_now ≡ ready) × (lines ≡ line))
      → by_now ≡ option_to_list given ++ rest → (given ≡ None → length rest ≡ 0)
      → IsInTurn line lines ready rest given
  given_in_turn line lines ready by_now rest given stay is none = record {
    first = λ k more same.
        let old = stay (λ no. omega (arith, ap length same, no)) in
        let one = go given k more none (sym same ∙ sym old.0 ∙ is) in
        (one.0, one.1, old.1);
    nobody = λ no. none_left rest (none no);
  }
    where
      go : (given : Option (Kept C)) (k : Kept C) (more : List (Kept C)) → (given ≡ None → length rest ≡ 0)
          → k ∷ more ≡ option_to_list given ++ rest → (given ≡ Some k) × (rest ≡ more)
      go None k more none is = absurd (omega (arith, ap length is, none refl))
      go (Some j) k more none is = (cc, cc)

  -- who stands behind some who are to be served is given after them
  given_after_them : (given : List (Option (Kept C))) (before after : List (Kept C)) (k : Kept C)
      (ready last : List (Kept C)) → ready ≡ before ++ k ∷ after → AreTurns given ready last
      → length before < length given
      → (others more : List (Option (Kept C))) × (given ≡ others ++ Some k ∷ more)
      × (length others ≡ length before)
  given_after_them [] before after k ready last is turns few = absurd (omega (arith, few))
  given_after_them (g ∷ more) [] after k ready last is turns few =
      ([], more, ap (λ one. one ∷ more) (turns.3.first k after is).0, refl)
  given_after_them (g ∷ more) (b ∷ before) after k ready last is turns few =
      let one = turns.3.first b (before ++ k ∷ after) is in
      let rest = given_after_them more before after k turns.2 last one.1 turns.4 (omega (arith, few)) in
      (g ∷ rest.0, rest.1, ap (λ l. g ∷ l) rest.2, omega (arith, rest.3))

  -- who is found to be whole stands behind no more than those who stood before it
  stands_behind : (now : Duration) (before after : List (Looked C)) (l : Looked C)
      → is_served (judged now l) ≡ true
      → (others more : List (Kept C)) × (served_of now (before ++ l ∷ after) ≡ others ++ l.after ∷ more)
      × (length others ≤ length before)
  stands_behind now [] after l served = ([], served_of now after, rw served refl, omega arith)
  stands_behind now (b ∷ before) after l served =
      go (is_served (judged now b)) (stands_behind now before after l served)
    where
      rest : List (Looked C)
      rest = before ++ l ∷ after

      go : (is : Bool)
          → (others more : List (Kept C)) × (served_of now rest ≡ others ++ l.after ∷ more)
          × (length others ≤ length before)
          → (others more : List (Kept C))
          × (map (λ x. x.after)
          (if is then b ∷ filter (λ x. is_served (judged now x)) rest else filter (λ x. is_served (judged now x)) rest)
          ≡ others ++ l.after ∷ more)
          × (length others ≤ length (b ∷ before))
      go true found = (b.after ∷ found.0, found.1, ap (λ t. b.after ∷ t) found.2, omega (arith, found.3))
      go false found = (found.0, found.1, found.2, omega (arith, found.3))

pub given_soon : (C : Type 0) → AreGivenSoon C
given_soon C now patience line left ready readied last log logs before after found given s looks whole
    turns few =
    let served : is_served (judged now found)
    ≡ true = ap (λ h. is_served (verdict_on h (is_over now found.after.until))) whole in
    let behind = stands_behind now before after found served in
    let stands : readied ≡ (ready ++ behind.0) ++ found.after ∷ behind.1 = s.serve
    ∙ ap (λ l. ready ++ served_of now l) looks ∙ ap (λ l. ready ++ l) behind.2
    ∙ sym (append_assoc ready behind.0 (found.after ∷ behind.1)) in
    let count = length-append ready behind.0 in
    let one = given_after_them given (ready ++ behind.0) behind.1 found.after readied last stands turns
    (omega (arith, count, behind.3, few)) in
    (one.0, one.1, one.2, omega (arith, one.3, count, behind.3))
