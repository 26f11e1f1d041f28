-- What is done with the files of the system, step after step.
use Rattle.std.specs.Prelude.{◌≡◌, ⊤, List, ◌∷◌, ◌++◌, Option, None, Some, Result, Ok, Err}

module _ {S : Type 0} where
  -- what is known to have been done grows by these steps
  abbrev pub Does : List S → Option (List S) → Option (List S) → Type 0
  Does steps None new = ⊤
  Does steps (Some old) None = ⊥
  Does steps (Some old) (Some new) = new ≡ old ++ steps

  -- one of the steps failed, and those before it were done
  abbrev pub Stops : List S → Option (List S) → Option (List S) → Type 0
  Stops steps None new = ⊤
  Stops steps (Some old) new = (before : List S) × (failed : S) × (after : List S)
      × (steps ≡ before ++ failed ∷ after) × Does before (Some old) new

  -- one of the steps failed with a fault that it may have, and those before it were done
  pub record StopsFor {E : Type 0} (may_have : S → E → Type 0) (are_done : List S → Type 0)
      (steps : List S) (fault : E) : Type 0 where
    pub first : List S
    pub failed : S
    pub rest : List S
    pub are : steps ≡ first ++ failed ∷ rest
    pub done : are_done first
    pub why : may_have failed fault

  -- all of the steps were done, one after another, or those before one that failed with its fault
  abbrev pub FollowsFor : {T E : Type 0} → (S → E → Type 0) → List S → Option (List S)
      → Option (List S) → Result T E → Type 0
  FollowsFor may_have steps old new (Ok done) = Does steps old new
  FollowsFor may_have steps old new (Err fault) =
      StopsFor may_have (λ first. Does first old new) steps fault

  -- all of the steps were done, one after another, or those before the first that failed
  abbrev pub Follows : {T E : Type 0} → List S → Option (List S) → Option (List S)
      → Result T E → Type 0
  Follows steps old new (Ok done) = Does steps old new
  Follows steps old new (Err fault) = Stops steps old new
