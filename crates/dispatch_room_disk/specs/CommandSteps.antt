-- What a command does, step after step: all of its steps, or those up to the one that fails.
use Rattle.std.specs.Io.KnownBytes.{Appends}
use Rattle.std.specs.Prelude.{Err, List, MatchResult, Ok, Option, Result, [], ℕ, ◌∷◌, ◌≡◌}
use Rattle.dispatch_room_disk.specs.FileSteps.{Does}
use Rattle.dispatch_room_exit.specs.declared.exit_status.Done.{Done}
use Rattle.dispatch_room_exit.specs.declared.exit_status.Done.TheVariants.{Whole}
use Rattle.dispatch_room_exit.specs.declared.exit_status.Failure.{Failure}
use Rattle.dispatch_room_exit.specs.declared.exit_status.Failure.TheVariants.{Network}

-- what is said of a step, by what there was before and after, and by what came of it
abbrev pub Step : Type 0 → Type 0 → Type 1
Step X T = X → X → Result T Failure → Type 0

module _ {X : Type 0} where
  -- a step that changes nothing
  abbrev pub Silent : {T : Type 0} → (Result T Failure → Type 0) → Step X T
  Silent says before after came = says came × (after ≡ before)

  -- nothing is left to do
  abbrev pub Gives : {T : Type 0} → T → Step X T
  Gives it = Silent (λ came. came ≡ Ok it)

  -- One step, and where it succeeds the next, which goes by what came of the first. Where the first
  -- fails, it is the last.
  pub record Then {T U : Type 0} (first : Step X T) (next : T → Step X U) (before after : X)
      (came : Result U Failure) : Type 0 where
    pub between : X
    pub found : Result T Failure
    pub is : first before between found
    pub rest : MatchResult found (λ it. next it between after came)
        (λ fault. (came ≡ Err fault) × (after ≡ between))

-- ---- what is printed
-- what an output holds, where that is known
abbrev pub Output : Type 0
Output = Option (List ℕ)

-- a text is printed; or the output fails
abbrev pub Prints : List ℕ → Step Output Done
Prints text before after came =
    MatchResult came (λ done. (done ≡ Whole) × Appends before after text) (λ fault. fault ≡ Network)

-- ---- what is printed and done
-- where a command stands: what its output holds, and what it has done, where that is known
pub record Stand (D : Type 0) : Type 0 where
  pub printed : Output
  pub done : Option (List D)

abbrev pub at : {D : Type 0} → Output → Option (List D) → Stand D
at printed done = record { printed = printed; done = done }

module _ {D T : Type 0} where
  -- something is printed, and nothing else is done
  abbrev pub Shows : Step Output T → Step (Stand D) T
  Shows prints before after came =
      prints before.printed after.printed came × (after.done ≡ before.done)

  -- one thing is done, by what came of it, and nothing is printed
  abbrev pub Tries : (Result T Failure → D) → (Result T Failure → Type 0) → Step (Stand D) T
  Tries effect says before after came =
      says came × Does (effect came ∷ []) before.done after.done × (after.printed ≡ before.printed)

  -- one that cannot fail, by what it gives
  abbrev pub Takes : (T → D) → Step (Stand D) T
  Takes effect before after came = (it : T) × (came ≡ Ok it)
      × Does (effect it ∷ []) before.done after.done × (after.printed ≡ before.printed)

  -- a step that prints nothing, whatever was printed before it
  abbrev pub Quietly : Step (Stand D) T → Option (List D) → Option (List D) → Result T Failure → Type 0
  Quietly step old new came = (printed : Output) → step (at printed old) (at printed new) came
