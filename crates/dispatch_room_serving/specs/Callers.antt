-- The calls that come at a room, what each begins with, and what is printed as they begin.
use Rattle.std.specs.Prelude.{◌≡◌, ◌⊎◌, ℕ, List, Bool, true, false, Option, Result, Ok, Err, codes}
use Rattle.std.specs.Io.KnownBytes.{Appends}
use Rattle.dispatch_room_exit.specs.declared.exit_status.Failure.{Failure}
use Rattle.dispatch_room_exit.specs.declared.exit_status.Failure.TheVariants.{Network}

-- what a call begins with: the bytes that its reader has to give, and those that its writer holds,
-- where they are known
pub record Opening : Type 0 where
  pub left : Option (List ℕ)
  pub held : Option (List ℕ)

-- what callers have printed: whether, before, that they may call; what the output holds, where that
-- is known; and which output it is
pub record Printing : Type 0 where
  pub has_begun : Bool
  pub printed : Option (List ℕ)
  pub output : ℕ

abbrev pub printing : Bool → Option (List ℕ) → ℕ → Printing
printing has_begun printed output =
    record { has_begun = has_begun; printed = printed; output = output }

-- That a room is served is printed if it was not before, and nothing else is.
abbrev pub PrintsStart : Bool → Option (List ℕ) → Option (List ℕ) → Type 0
PrintsStart true before after = after ≡ before
PrintsStart false before after = Appends before after (codes "serving\n")

-- the callers may call, and that they may is printed, here or before, and nothing else is
pub record MayCall (old new : Printing) : Type 0 where
  pub has_begun : new.has_begun ≡ true
  pub printed : PrintsStart old.has_begun old.printed new.printed
  pub output : new.output ≡ old.output

-- that they may call could not be printed
pub record IsUnprinted (old new : Printing) (fault : Failure) : Type 0 where
  pub first : old.has_begun ≡ false
  pub network : fault ≡ Network
  pub output : new.output ≡ old.output

-- What is printed by a call with this result. Where it succeeded: that they may call, and nothing
-- else. Where it failed: the same, or nothing, or that could not be printed.
abbrev pub Prints : {T : Type 0} → Printing → Printing → Result T Failure → Type 0
Prints old new (Ok done) = MayCall old new
Prints old new (Err fault) = (new ≡ old) ⊎ (MayCall old new ⊎ IsUnprinted old new fault)
