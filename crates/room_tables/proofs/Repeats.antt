-- Calls in a loop that change nothing.
use Rattle.std.proofs.Common.{◌≡◌, ◌⊎◌, inl, inr, ℕ, ap, subst}
use Rattle.sqlite.specs.Held.{Held, state}
use Rattle.sqlite.specs.State.{State, IsUnchanged, Survives}
use Rattle.sqlite.proofs.Callers.{unchanged_then}
use Rattle.sqlite_trees.specs.declared.store.Store.{Ghosts}
use Rattle.room_tables.specs.Failures.{WentWell}

-- after so many calls: there was none yet, or all is as it was
pub record Stays {Conn : Type 0} (state : Conn → State) (start : Conn) (calls : ℕ)
    (conn : Conn) : Type 0 where
  pub so_far : ((calls ≡ 0) × (conn ≡ start)) ⊎ IsUnchanged (state start) (state conn)

module _ {Conn : Type 0} {state : Conn → State} {start : Conn} {calls : ℕ} {conn : Conn}
    (stays : Stays state start calls conn) where
  pub trees_stay : (state conn).now.trees ≡ (state start).now.trees
  trees_stay =
      elim stays.so_far
      [ inl none ↦ ap (λ c. (state c).now.trees) none.1 | inr same ↦ ap (λ db. db.trees) same.0.now_is ]

  pub unchanged_after : (after : Conn) → IsUnchanged (state conn) (state after)
      → IsUnchanged (state start) (state after)
  unchanged_after after more =
      elim stays.so_far [
        | inl none ↦ subst (λ c. IsUnchanged (state c) (state after)) none.1 more
        | inr same ↦ unchanged_then (state start) (state conn) (state after) same more
      ]

-- so far they went well
pub well_so_far : {S : Type 0} {g : Ghosts S} {start conn : Held S} {calls : ℕ}
    → Stays (state g) start calls conn → Survives (state g start) (state g conn) (λ _. ⊥)
    → WentWell g start conn
well_so_far stays survives =
    elim stays.so_far
    [ inl none ↦ inl none.1 | inr same ↦ inr (record { ok = λ clean. same; err = λ clean. tt; survives = survives }) ]
