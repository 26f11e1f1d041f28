-- What has become of all who came: nobody is lost, and nobody is there twice.
use Rattle.std.specs.Prelude.{◌≡◌, ◌+◌, ◌<◌, ℕ, List, [], ◌∷◌, ◌++◌, All, map, nat_lt, ◌==◌}
use Rattle.std.specs.Prelude.{if◌then◌else◌, Option, option_to_list}
use Rattle.std.specs.Duration.{as_nanos}
use Rattle.std.specs.declared.time.Duration.{Duration}
use Rattle.dispatch_room_sockets.specs.declared.kept_callers.Kept.{Kept}

-- how often a number stands in a list
abbrev pub tally : ℕ → List ℕ → ℕ
tally n [] = 0
tally n (m ∷ more) = (if n == m then 1 else 0) + tally n more

-- The numbers of those whose turn came, in the order in which it came, as their request was whole
-- or their time was over. Those who were given, in that order, those of them who are being served,
-- and those who were closed or parted from.
pub record History : Type 0 where
  pub whole : List ℕ
  pub given : List ℕ
  pub out : List ℕ
  pub gone : List ℕ

module _ {C : Type 0} where
  abbrev pub numbers : List (Kept C) → List ℕ
  numbers kept = map (λ k. k.number) kept

  -- Whoever's turn came was given in that order, or is still to be. Each who came is in the line,
  -- or is to be given, or is being served, or has gone: in only one of these, and once.
  pub record Stands (line ready : List (Kept C)) (next : ℕ) (h : History) : Type 0 where
    pub order : h.whole ≡ h.given ++ numbers ready
    pub once : (n : ℕ)
        → tally n (numbers line) + tally n (numbers ready) + tally n h.out + tally n h.gone
        ≡ (if nat_lt n next then 1 else 0)

  -- the history goes on, and this one is given, or nobody is
  pub record GoesOn (given : Option (Kept C)) (h after : History) : Type 0 where
    pub gave : after.given ≡ h.given ++ numbers (option_to_list given)
    pub out : after.out ≡ h.out ++ numbers (option_to_list given)
    pub whole : (more : List ℕ) × (after.whole ≡ h.whole ++ more)
    pub gone : (more : List ℕ) × (after.gone ≡ h.gone ++ more)

  -- whatever has become of all so far, one is given, or nobody is, and the history goes on
  abbrev pub GivesNext : List (Kept C) → List (Kept C) → ℕ → List (Kept C) → List (Kept C) → ℕ
      → Option (Kept C) → Type 0
  GivesNext line ready next lines readied after given =
      (h : History) → Stands line ready next h
      → (more : History) × GoesOn given h more × Stands lines readied after more

  -- One who was being served waits again, or has gone. All else is as it was.
  pub record ComesBack (number : ℕ) (line lines ready : List (Kept C)) (next : ℕ) : Type 0 where
    pub is : (others : List ℕ) (h : History) → h.out ≡ others ++ number ∷ []
        → Stands line ready next h
        → (gone : List ℕ)
        × Stands lines ready next (record {
          whole = h.whole;
          given = h.given;
          out = others;
          gone = h.gone ++ gone;
        })

  -- each is in its time
  abbrev pub AreInTime : Duration → List (Kept C) → Type 0
  AreInTime now line = All (λ k. as_nanos now < as_nanos k.until) line
