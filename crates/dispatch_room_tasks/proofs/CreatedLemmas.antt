-- A room that was created, and how many numbers pass a test, counted one by one.
use Rattle.room_place.specs.declared.plans.Area.{Area}
use Rattle.dispatch_room_csv.specs.declared.plan_file.PlanFile.{PlanFile}
use Rattle.dispatch_room_tasks.specs.Creation.{IsCreated, amounts_text, created_text}
use Rattle.dispatch_room_tasks.specs.Creation.{division_count}
use Rattle.room_store.specs.StoreCreation.{MayBegin}
use Rattle.room_store.specs.StoredRoom.{IsRoom}
use Rattle.room_store.specs.declared.store.Store.{Store}
use Rattle.room_store_writes.specs.NewRoom.{StandsNew, in_order, new_room}
use Rattle.room_store_writes.specs.Transactions.{StandsSettled}
use Rattle.room_tables.specs.RoomsInTables.{Stands}
use Rattle.room_types.specs.declared.fleet.Terminal.{Terminal}
use Rattle.sqlite.specs.Held.{Held, state}
use Rattle.sqlite.specs.State.{Survives}
use Rattle.sqlite_trees.specs.declared.store.Store.{Ghosts}
use Rattle.std.proofs.Common.{Bool, List, [], ap, cond, filter, length, refl, subst, suc, true}
use Rattle.std.proofs.Common.{false, vec_len, zero, ℕ, ◌+◌, ◌++◌, ◌∙◌, ◌≡◌, ◌∷◌}
use Rattle.room_tables_schema.specs.FileConnections.{IsClean}

-- the numbers from 1 to this one
abbrev pub numbers_to : ℕ → List ℕ
numbers_to zero = []
numbers_to (suc n) = numbers_to n ++ suc n ∷ []

-- how many of them pass
abbrev pub passing_to : (ℕ → Bool) → ℕ → ℕ
passing_to passes n = length (filter passes (numbers_to n))

abbrev pub one_more : ℕ → Bool → ℕ
one_more n true = suc n
one_more n false = n

later_one : (n : ℕ) (b : Bool) → suc (one_more n b) ≡ one_more (suc n) b
later_one n true = refl
later_one n false = refl

filter_last : (passes : ℕ → Bool) (x : ℕ) (xs : List ℕ)
    → length (filter passes (xs ++ x ∷ [])) ≡ one_more (length (filter passes xs)) (passes x)
filter_last passes x [] =
    elim (passes x) as (λ b. length (cond b (x ∷ []) []) ≡ one_more 0 b) [ true ↦ refl | false ↦ refl ]
filter_last passes x (y ∷ ys) =
    let rest = filter_last passes x ys in
    let more = filter passes (ys ++ x ∷ []) in
    let fewer = filter passes ys in
    elim (passes y) as (λ b. length (cond b (y ∷ more) more) ≡ one_more (length (cond b (y ∷ fewer) fewer)) (passes x))
    [ true ↦ ap suc rest ∙ later_one (length fewer) (passes x) | false ↦ rest ]

-- the next number counts where it passes
pub passing_more : (passes : ℕ → Bool) (n : ℕ) (b : Bool) → passes (suc n) ≡ b
    → passing_to passes (suc n) ≡ one_more (passing_to passes n) b
passing_more passes n b e = filter_last passes (suc n) (numbers_to n) ∙ ap (one_more (passing_to passes n)) e

-- the line gives the amounts of the file
pub amounts_printed : (file : PlanFile) (divisions terminals : ℕ) (areas : List Area)
    → divisions ≡ division_count file.plan.areas → areas ≡ file.plan.areas
    → terminals ≡ vec_len file.terminals
    → amounts_text divisions (length areas) terminals ≡ created_text file
amounts_printed file divisions terminals areas d a t = rw (d, a, t)

-- a store that was created has the room of the plan's file
pub created_in : {S : Type 0} (g : Ghosts S) (old : Held S) (store : Store S) (file : PlanFile)
    (terminals : List Terminal)
    → terminals ≡ file.terminals.items → store.plan.zone ≡ file.plan.zone
    → (IsClean g store.conn → IsRoom g store (in_order terminals) (new_room file.plan))
    → (StandsSettled g store.conn)
    → MayBegin (state g old).now.schema file.plan terminals
    → Survives (state g old) (state g store.conn) (StandsNew file.plan terminals)
    → IsCreated g old store.conn file
created_in g old store file terminals e same room settled begun survives = record {
  begun = rw e at begun;
  settled = settled;
  stands = λ clean.
      let stood = (room clean).tables (settled clean).is_open in
      let there = subst
      (λ (zone : List ℕ).
      Stands (state g store.conn).now.trees (record { zone = zone; terminals = in_order terminals })
      (new_room file.plan)) same stood in
      rw e at there;
  survives = rw e at survives;
}
