-- Those who are parted from, one after another.
use Rattle.std.proofs.Common.{◌≡◌, ◌∙◌, sym, ap, arith, length-append, append_assoc, append-nil, ℕ}
use Rattle.std.proofs.Common.{◌+◌, ◌<◌, List, [], ◌∷◌, ◌++◌, Bool, true, false, length, All, filter}
use Rattle.std.proofs.Common.{refl, if◌then◌else◌}
use Rattle.std.proofs.lemmas.List.Elements.{All-nil, All-push}
use Rattle.std.specs.Duration.{as_nanos}
use Rattle.std.specs.declared.time.Duration.{Duration}
use Rattle.dispatch_room_sockets.specs.declared.closing_connections.ClosingConnection.{ClosingConnection}
use Rattle.dispatch_room_sockets.specs.Departures.{is_resting}

module _ {C : Type 0} where
  abbrev pub InTime : Duration → ClosingConnection C → Type 0
  InTime now l = as_nanos now < as_nanos l.until

  abbrev resting : Duration → List (ClosingConnection C) → List (ClosingConnection C)
  resting now closing_connections = filter (is_resting now) closing_connections

  resting_push : (now : Duration) (closing_connections : List (ClosingConnection C)) (l : ClosingConnection C)
      → resting now (closing_connections ++ l ∷ []) ≡ resting now closing_connections ++ resting now (l ∷ [])
  resting_push now [] l = refl
  resting_push now (k ∷ more) l = go (is_resting now k) (resting_push now more l)
    where
      go : (b : Bool) → resting now (more ++ l ∷ []) ≡ resting now more ++ resting now (l ∷ [])
          → (if b then k ∷ resting now (more ++ l ∷ []) else resting now (more ++ l ∷ []))
          ≡ (if b then k ∷ resting now more else resting now more) ++ resting now (l ∷ [])
      go true rest = ap (λ t. k ∷ t) rest
      go false rest = rest

  -- All but the first of them, so many, are in their time. These others are those of the first who
  -- were seen and stayed, and among them all who rested.
  pub record AreInTime (now : Duration) (rest : ℕ) (old closing_connections : List (ClosingConnection C)) : Type 0 where
    pub unseen : List (ClosingConnection C)
    pub seen : List (ClosingConnection C)
    pub before : List (ClosingConnection C)
    pub are : closing_connections ≡ unseen ++ seen
    pub were : old ≡ before ++ unseen
    pub count : length unseen ≡ rest
    pub in_time : All (InTime now) seen
    pub rested : resting now seen ≡ resting now before

  pub none_yet : (now : Duration) (rest : ℕ) (closing_connections : List (ClosingConnection C)) → rest ≡ length closing_connections
      → AreInTime now rest closing_connections closing_connections
  none_yet now rest closing_connections all = record {
    unseen = closing_connections;
    seen = [];
    before = [];
    are = sym (append-nil closing_connections);
    were = refl;
    count = sym all;
    in_time = All-nil (InTime now);
    rested = refl;
  }

  pub all_seen : (now : Duration) (old closing_connections : List (ClosingConnection C)) → AreInTime now 0 old closing_connections
      → All (InTime now) closing_connections × (resting now closing_connections ≡ resting now old)
  all_seen now old closing_connections s = go s.unseen s.count s.are s.were
    where
      go : (unseen : List (ClosingConnection C)) → length unseen ≡ 0 → closing_connections ≡ unseen ++ s.seen
          → old ≡ s.before ++ unseen
          → All (InTime now) closing_connections × (resting now closing_connections ≡ resting now old)
      go [] count are were = (
        rw are s.in_time,
        ap (resting now) are ∙ s.rested ∙ ap (resting now) (sym (append-nil s.before) ∙ sym were),
      )
      go (l ∷ more) count are were = absurd (omega (arith, count))

  -- the first of them was seen, and behind the others stands what is left of it
  step : (now : Duration) (rest : ℕ) (old closing_connections others left : List (ClosingConnection C)) (l : ClosingConnection C)
      (kept : List (ClosingConnection C))
      → AreInTime now (rest + 1) old closing_connections → closing_connections ≡ l ∷ others → left ≡ others ++ kept
      → ((seen : List (ClosingConnection C)) → All (InTime now) seen → All (InTime now) (seen ++ kept))
      → ((seen : List (ClosingConnection C)) → resting now (seen ++ kept)
      ≡ resting now seen ++ resting now (l ∷ []))
      → AreInTime now rest old left
  step now rest old closing_connections others left l kept s is stays in_time rests =
      go s.unseen s.count (sym is ∙ s.are) s.were
    where
      go : (unseen : List (ClosingConnection C)) → length unseen ≡ rest + 1 → l ∷ others ≡ unseen ++ s.seen
          → old ≡ s.before ++ unseen → AreInTime now rest old left
      go [] count are were = absurd (omega (arith, count))
      go (u ∷ more) count are were =
          let one : u ≡ l = cc in
          let rest_are : others ≡ more ++ s.seen = cc in
          record {
            unseen = more;
            seen = s.seen ++ kept;
            before = s.before ++ l ∷ [];
            are = stays ∙ ap (λ t. t ++ kept) rest_are ∙ append_assoc more s.seen kept;
            were = were ∙ ap (λ k. s.before ++ k ∷ more) one
                ∙ sym (append_assoc s.before (l ∷ []) more);
            count = omega (arith, count);
            in_time = in_time s.seen s.in_time;
            rested = rests s.seen ∙ ap (λ t. t ++ resting now (l ∷ [])) s.rested
                ∙ sym (resting_push now s.before l);
          }

  pub one_gone : (now : Duration) (rest : ℕ) (old closing_connections others : List (ClosingConnection C)) (l : ClosingConnection C)
      → AreInTime now (rest + 1) old closing_connections → closing_connections ≡ l ∷ others → is_resting now l ≡ false
      → AreInTime now rest old others
  one_gone now rest old closing_connections others l s is rests =
      step now rest old closing_connections others others l [] s is (sym (append-nil others))
      (λ seen all. rw (append-nil seen) all)
      (λ seen. rw rests (ap (resting now) (append-nil seen) ∙ sym (append-nil (resting now seen))))

  pub one_stays : (now : Duration) (rest : ℕ) (old closing_connections others left : List (ClosingConnection C))
      (l a : ClosingConnection C) → AreInTime now (rest + 1) old closing_connections → closing_connections ≡ l ∷ others
      → left ≡ others ++ a ∷ [] → InTime now a
      → (is_resting now l ≡ true → a ≡ l) → (is_resting now l ≡ false → is_resting now a ≡ false)
      → AreInTime now rest old left
  one_stays now rest old closing_connections others left l a s is stays in_time same due =
      step now rest old closing_connections others left l (a ∷ []) s is stays
      (λ seen all. All-push (InTime now) seen a all in_time)
      (λ seen. resting_push now seen a ∙ ap (λ t. resting now seen ++ t) (go (is_resting now l) refl))
    where
      go : (b : Bool) → is_resting now l ≡ b → resting now (a ∷ []) ≡ resting now (l ∷ [])
      go true is = rw (same is) refl
      go false is = rw (is, due is) refl

  -- who doesn't stay didn't rest
  pub none_rested : (now : Duration) (l a : ClosingConnection C) (stays : Bool)
      → (is_resting now l ≡ true → (stays ≡ true) × (a ≡ l)) → stays ≡ false
      → is_resting now l ≡ false
  none_rested now l a stays rests gone = go (is_resting now l) refl
    where
      go : (b : Bool) → is_resting now l ≡ b → is_resting now l ≡ false
      go true is = let stayed = (rests is).0 in absurd (cc)
      go false is = is

  pub some_left : (now : Duration) (rest : ℕ) (old closing_connections others : List (ClosingConnection C))
      → AreInTime now (rest + 1) old closing_connections → closing_connections ≡ others → ¬ (length others ≡ 0)
  some_left now rest old closing_connections others s is none =
      let size = ap length (sym is ∙ s.are) ∙ length-append s.unseen s.seen in
      omega (arith, size, s.count, none)
