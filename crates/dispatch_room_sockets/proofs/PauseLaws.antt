-- The least of what limits a pause, one limit after another.
use Rattle.std.proofs.Common.{◌≡◌, sym, ap, arith, refl, ℕ, ◌-◌, ◌≤◌, List, [], ◌∷◌, ◌++◌, Bool}
use Rattle.std.proofs.Common.{true, false, length, map, min, nat_lt}
use Rattle.std.specs.Prelude.{flat_map}
use Rattle.std.proofs.lemmas.List.Elements.{All-cons, All-head, All-nil, All-tail}
use Rattle.std.specs.Duration.{as_nanos}
use Rattle.std.specs.declared.time.Duration.{Duration}
use Rattle.dispatch_room_sockets.specs.declared.kept_callers.Kept.{Kept}
use Rattle.dispatch_room_sockets.specs.declared.closing_connections.ClosingConnection.{ClosingConnection}
use Rattle.dispatch_room_sockets.specs.Pauses.{IsLeast, leaver_limit, limits, waiter_limits}

-- the least of the one and these is the least of all
abbrev pub Stands : ℕ → List ℕ → List ℕ → Type 0
Stands pause rest all = (n : ℕ) → IsLeast n (pause ∷ rest) → IsLeast n all

-- the lesser of two stands for both
least_of_two : (n a b : ℕ) (more : List ℕ) → IsLeast n (min a b ∷ more) → IsLeast n (a ∷ b ∷ more)
least_of_two n a b more l = record {
  before = (among l.before l.after l.one).0;
  after = (among l.before l.after l.one).1;
  one = (among l.before l.after l.one).2;
  least =
      let rest = All-tail (λ m. n ≤ m) (min a b) more l.least in
      let first = All-head (λ m. n ≤ m) (min a b) more l.least in
      All-cons (λ m. n ≤ m) a (b ∷ more) (omega (arith, first))
      (All-cons (λ m. n ≤ m) b more (omega (arith, first)) rest);
}
  where
    pick : (c : Bool) → nat_lt b a ≡ c → n ≡ min a b
        → (before after : List ℕ) × (a ∷ b ∷ more ≡ before ++ n ∷ after)
    pick true less is = let same : b ≡ n = grind (arith, less, is) in
        (a ∷ [], more, ap (λ k. a ∷ k ∷ more) same)
    pick false less is = let same : a ≡ n = grind (arith, less, is) in
        ([], b ∷ more, ap (λ k. k ∷ b ∷ more) same)

    among : (before after : List ℕ) → min a b ∷ more ≡ before ++ n ∷ after
        → (before after : List ℕ) × (a ∷ b ∷ more ≡ before ++ n ∷ after)
    among [] after is = let same : min a b ≡ n = cc in pick (nat_lt b a) refl (sym same)
    among (c ∷ before) after is =
        let same : more ≡ before ++ n ∷ after = cc in
        (a ∷ b ∷ before, after, ap (λ t. a ∷ b ∷ t) same)

-- it was made the lesser of itself and of the next
stands_on : (pause next : ℕ) (rest all : List ℕ) → Stands pause (next ∷ rest) all
    → Stands (min pause next) rest all
stands_on pause next rest all s = λ n l. s n (least_of_two n pause next rest l)

pub last_stands : (pause : ℕ) (all : List ℕ) → Stands pause [] all → IsLeast pause all
last_stands pause all s = s pause (record {
  before = [];
  after = [];
  one = refl;
  least = All-cons (λ m. pause ≤ m) pause [] (omega arith) (All-nil (λ m. pause ≤ m));
})

module _ {C : Type 0} where
  -- a second stands for itself
  pub second_stands : (now : Duration) (w : C → Bool) (pause : ℕ) (waiters line : List (Kept C))
      (closing_connections : List (ClosingConnection C)) → pause ≡ 1000000000 → waiters ≡ line
      → Stands pause (flat_map (waiter_limits now w) waiters ++ map (leaver_limit now) closing_connections)
      (limits now w line closing_connections)
  second_stands now w pause waiters line closing_connections second is = rw (second, is) (λ n l. l)

  -- the next who waits is watched
  pub watched_stands : (now : Duration) (w : C → Bool) (k : Kept C) (pause paused : ℕ)
      (waiters others : List (Kept C)) (leaving all : List ℕ) → waiters ≡ k ∷ others → w k.caller ≡ true
      → paused ≡ min pause (as_nanos k.until - as_nanos now)
      → Stands pause (flat_map (waiter_limits now w) waiters ++ leaving) all
      → Stands paused (flat_map (waiter_limits now w) others ++ leaving) all
  watched_stands now w k pause paused waiters others leaving all is watched lesser s =
      rw lesser (stands_on pause _ _ all (rw watched at (rw is at s)))

  -- the next who waits is not
  pub unwatched_stands : (now : Duration) (w : C → Bool) (k : Kept C) (pause paused : ℕ)
      (waiters others : List (Kept C)) (leaving all : List ℕ) → waiters ≡ k ∷ others → w k.caller ≡ false
      → paused ≡ min (min pause (as_nanos k.until - as_nanos now)) 2000000
      → Stands pause (flat_map (waiter_limits now w) waiters ++ leaving) all
      → Stands paused (flat_map (waiter_limits now w) others ++ leaving) all
  unwatched_stands now w k pause paused waiters others leaving all is watched lesser s =
      rw lesser (stands_on _ _ _ all (stands_on pause _ _ all (rw watched at (rw is at s))))

  -- the next who leaves
  pub leaver_stands : (now : Duration) (l : ClosingConnection C) (pause paused : ℕ)
      (closing_connections others : List (ClosingConnection C))
      (all : List ℕ) → closing_connections ≡ l ∷ others → paused ≡ min pause (leaver_limit now l)
      → Stands pause (map (leaver_limit now) closing_connections) all
      → Stands paused (map (leaver_limit now) others) all
  leaver_stands now l pause paused closing_connections others all is lesser s =
      rw lesser (stands_on pause _ _ all (rw is at s))

  -- nobody who waits is left, and all who leave are
  pub no_waiters : (now : Duration) (w : C → Bool) (pause : ℕ) (waiters : List (Kept C))
      (left closing_connections : List (ClosingConnection C)) (all : List ℕ) → length waiters ≡ 0 → left ≡ closing_connections
      → Stands pause (flat_map (waiter_limits now w) waiters ++ map (leaver_limit now) closing_connections) all
      → Stands pause (map (leaver_limit now) left) all
  no_waiters now w pause [] left closing_connections all none is s = rw is s
  no_waiters now w pause (k ∷ more) left closing_connections all none is s = absurd (omega (arith, none))

  pub no_leavers : (now : Duration) (pause : ℕ) (closing_connections : List (ClosingConnection C)) (all : List ℕ)
      → length closing_connections ≡ 0 → Stands pause (map (leaver_limit now) closing_connections) all → Stands pause [] all
  no_leavers now pause [] all none s = s
  no_leavers now pause (l ∷ more) all none s = absurd (omega (arith, none))
