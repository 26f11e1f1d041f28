-- Events acted on one after another: the room and the answers after one more.
use Rattle.std.proofs.Common.{IsTrue, List, [], ap, arith, inl, inr, refl, subst, suc, sym, take}
use Rattle.std.proofs.Common.{zero, ℕ, ◌++◌, ◌+◌, ◌∙◌, ◌∷◌, ◌≡◌}
use Rattle.std.specs.Prelude.{Result, ◌⊎◌}
use Rattle.std.proofs.lemmas.List.{append_assoc}
use Rattle.sqlite.specs.Held.{state}
use Rattle.sqlite.specs.State.{Survives}
use Rattle.sqlite.proofs.StateLemmas.{survives_then}
use Rattle.sqlite_trees.specs.Tree.{Trees}
use Rattle.sqlite_trees.specs.declared.store.Store.{Ghosts}
use Rattle.room_types.specs.declared.answers.Answer.{Answer}
use Rattle.room_types.specs.declared.asks.Event.{Event}
use Rattle.room_types.specs.declared.fleet.Terminal.{Terminal}
use Rattle.room_types.specs.declared.refusal_statuses.Refusal.{Refusal}
use Rattle.room_model.proofs.KeptEvents.{addressed_run}
use Rattle.room_model.specs.Events.{AreAddressed}
use Rattle.room_model.specs.Room.{Room}
use Rattle.room_model.specs.Run.{answers, room_run}
use Rattle.room_model.specs.Step.{IsAddressed, answer_to, room_after}
use Rattle.room_tables.specs.RoomsInTables.{Stands}
use Rattle.room_tables_schema.specs.FileConnections.{IsClean}
use Rattle.room_store.specs.EventRuns.{MayBeRun, StandsAfterEvents}
use Rattle.room_store.specs.StoredRoom.{IsKept, IsRoom}
use Rattle.room_store.proofs.StoreLaws.{kept_stands}
use Rattle.room_store_writes.specs.Configurations.{config_of}
use Rattle.room_store.specs.declared.store.Store.{Store}

run_then : (es : List Event) (e : Event) (r : Room)
    → room_run (es ++ e ∷ []) r ≡ room_after e (room_run es r)
run_then [] e r = refl
run_then (x ∷ es) e r = run_then es e (room_after x r)

answers_then : (es : List Event) (e : Event) (r : Room)
    → answers (es ++ e ∷ []) r ≡ answers es r ++ answer_to e (room_run es r) ∷ []
answers_then [] e r = refl
answers_then (x ∷ es) e r = ap (λ l. answer_to x r ∷ l) (answers_then es e (room_after x r))

first_addressed : (n : ℕ) (es : List Event) (r : Room) → AreAddressed es r
    → AreAddressed (take n es) r
first_addressed zero es r all = tt
first_addressed (suc n) [] r all = tt
first_addressed (suc n) (e ∷ es) r all = (all.0, all.1, first_addressed n es r all.2)

last_addressed : (es : List Event) (e : Event) (r : Room) → AreAddressed (es ++ e ∷ []) r
    → IsAddressed e r
last_addressed [] e r all = all.0
last_addressed (x ∷ es) e r all = last_addressed es e r all.2

-- the first events, and the one after them
module _ (events : List Event) (i : ℕ) (event : Event)
    (more : take (i + 1) events ≡ take i events ++ event ∷ []) where
  pub run_more : (r : Room)
      → room_run (take (i + 1) events) r ≡ room_after event (room_run (take i events) r)
  run_more r = ap (λ l. room_run l r) more ∙ run_then (take i events) event r

  pub answers_more : (r : Room) (was mid new : List (Result Answer Refusal))
      → mid ≡ was ++ answers (take i events) r
      → new ≡ mid ++ answer_to event (room_run (take i events) r) ∷ []
      → new ≡ was ++ answers (take (i + 1) events) r
  answers_more r was mid new before pushed =
      let one = answer_to event (room_run (take i events) r) ∷ [] in
      pushed ∙ ap (λ l. l ++ one) before ∙ append_assoc was (answers (take i events) r) one
      ∙ ap (λ l. was ++ l) (sym (ap (λ l. answers l r) more ∙ answers_then (take i events) event r))

  -- it is addressed in the room that it meets
  pub next_addressed : (r : Room) → AreAddressed events r
      → IsAddressed event (room_run (take i events) r)
  next_addressed r all =
      addressed_run (take i events) r event (last_addressed (take i events) event r
      (subst (λ l. AreAddressed l r) more (first_addressed (i + 1) events r all)))

  -- A stop in the event after the first ones leaves what is there after some of the first events,
  -- or after this one too.
  pub events_survive : {S : Type 0} (g : Ghosts S) (first mid new : Store S)
      → mid.plan ≡ first.plan
      → (IsClean g mid.conn → IsTrue (state g first.conn).is_open
      → IsTrue (state g mid.conn).is_open)
      → (IsClean g mid.conn → (ts : List Terminal) (r : Room) → IsRoom g first ts r
      → AreAddressed events r → IsRoom g mid ts (room_run (take i events) r))
      → Survives (state g first.conn) (state g mid.conn) (MayBeRun g first events)
      → Survives (state g mid.conn) (state g new.conn)
      (λ db. IsTrue (state g mid.conn).is_open → (ts : List Terminal) (r : Room)
      → IsRoom g mid ts r → IsAddressed event r
      → Stands db (config_of mid.plan ts) (room_after event r))
      → Survives (state g first.conn) (state g new.conn) (MayBeRun g first events)
  events_survive g first mid new same still done before last =
      survives_then (state g first.conn) (state g mid.conn) (state g new.conn) _ _ (MayBeRun g first events)
      (λ _ db left. left)
      (λ clean db left is_open ts r is all.
      let early : IsClean g mid.conn = omega (arith, last.clean) in
      let there = left (still early is_open) ts (room_run (take i events) r) (done early ts r is all)
      (next_addressed r all) in (
        i + 1,
        subst (λ room. Stands db (config_of first.plan ts) room) (sym (run_more r)) (rw same at there),
      ))
      before last

  -- What a stop leaves in that event, where what the first ones made was kept.
  pub events_left : {S : Type 0} (g : Ghosts S) (first mid new : Store S) (ts : List Terminal)
      (r : Room) → mid.plan ≡ first.plan → IsKept g mid
      → IsRoom g mid ts (room_run (take i events) r) → AreAddressed events r
      → IsClean g new.conn
      → Survives (state g mid.conn) (state g new.conn)
      (λ db. IsTrue (state g mid.conn).is_open → (ts : List Terminal) (r : Room)
      → IsRoom g mid ts r → IsAddressed event r
      → Stands db (config_of mid.plan ts) (room_after event r))
      → (db : Trees) → (state g new.conn).may_leave db
      → StandsAfterEvents db first.plan events ts r i
      ⊎ StandsAfterEvents db first.plan events ts r (i + 1)
  events_left g first mid new ts r same kept is all clean last db left = elim (last.crash clean db left) [
    | inl before ↦ inl (rw same at (kept_stands g mid ts (room_run (take i events) r) kept is db before))
    | inr after ↦
        inr (subst (λ room. Stands db (config_of first.plan ts) room) (sym (run_more r))
        (rw same at (after kept.is_open ts (room_run (take i events) r) is (next_addressed r all))))
  ]
