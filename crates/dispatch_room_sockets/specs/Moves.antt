-- Whose moves the system has reported, and when nobody is accepted.
use Rattle.std.specs.Prelude.{ℕ, List, Bool, true, false, get_or, ◌==◌, ◌≡◌, ◌⊎◌, IfSome, Option}
use Rattle.std.specs.declared.time.Duration.{Duration}
use Rattle.dispatch_room_sockets.specs.Verdicts.{is_over}

-- The wait of this number reported that something moved in a slot, by what is noted of each slot:
-- the number of the wait that reported that last. Where nothing is noted of a slot, it may always
-- have moved.
abbrev pub has_moved : List ℕ → ℕ → ℕ → Bool
has_moved moved wait slot = get_or moved slot wait == wait

-- Nobody is accepted until a moment, which hasn't come by what a clock may show, or none can be
-- read.
abbrev pub IsDeaf : (Option Duration → Type 0) → Duration → Type 0
IsDeaf shows until =
    (now : Option Duration) × shows now × IfSome now (λ now. is_over now until ≡ false)

-- Nobody is accepted for now: nobody may be calling, the last who was accepted has one of the last
-- descriptors or had no memory, the listener gives nobody, or nobody is accepted for a while.
abbrev pub IsDone : Bool → Bool → Type 0 → (Option Duration → Type 0) → Duration → Type 0
IsDone is_called is_full is_deaf shows until =
    (is_called ≡ false) ⊎ (is_full ≡ true) ⊎ is_deaf ⊎ IsDeaf shows until
