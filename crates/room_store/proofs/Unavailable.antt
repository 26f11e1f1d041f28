-- What is decided, or that memory or storage is unavailable.
use Rattle.std.proofs.Common.{Err, List, Ok, Result, inl, inr, refl, subst, sym, ⊎_elim, ◌≡◌}
use Rattle.std.specs.Prelude.{IfErr, IfOk, OnOk}
use Rattle.std.specs.Result.{IsErr}
use Rattle.sqlite.specs.Held.{Held}
use Rattle.sqlite_trees.specs.declared.store.Store.{Ghosts}
use Rattle.room_model.specs.Decisions.{Decides, Verdict, answer_of, changes_of}
use Rattle.room_model.specs.Rooms.{IsUnavailable}
use Rattle.room_tables_schema.proofs.ReadLaws.{fails, looked, succeeds}
use Rattle.room_tables_schema.specs.Outcomes.{ReadsOnly}
use Rattle.room_tables_schema.specs.declared.database_faults.Fault.{Fault}
use Rattle.room_tables_schema.specs.declared.database_faults.Fault.TheVariants as fault
use Rattle.room_model.specs.Room.{Room}
use Rattle.room_store_cache.specs.Cache.{HasFleetOf, IsCacheOf}
use Rattle.room_store_cache.specs.declared.cache.Cache.{Cache}
use Rattle.room_store_cache.specs.declared.fleets.Fleet.{Fleet}
use Rattle.room_store_reads.specs.Partitions.{AreKnown}
use Rattle.room_types.specs.declared.answers.Answer.{Answer}
use Rattle.room_types.specs.declared.changes.Change.{Change}
use Rattle.room_types.specs.declared.decisions.Decision.{Decision}
use Rattle.room_types.specs.declared.refusal_statuses.Refusal.{Refusal}
use Rattle.room_types.specs.declared.refusal_statuses.Refusal.TheVariants as refusal
use Rattle.room_store.specs.EventDecisions.{in_parts, unless_unavailable}
use Rattle.room_store.specs.StoreFaults.{refusal_of}

-- what is so of a decision and of a refusal is so of what is decided
pub says : (r : Result Decision Refusal) (P : Verdict → Type 0) → P r → IfOk (unless_unavailable r) P
says (Ok x) P p = p
says (Err refusal.Memory) P p = tt
says (Err refusal.Storage) P p = tt
says (Err e) P p = p

-- it is the machine's where the code decides as the machine
pub machines : (r : Result Decision Refusal)
    → IfOk (unless_unavailable r) (λ x. (verdict : Verdict) → Decides verdict r → x ≡ verdict)
machines (Ok x) = λ verdict is. sym is
machines (Err refusal.Memory) = tt
machines (Err refusal.Storage) = tt
machines (Err e) =
    λ verdict decides. ⊎_elim (λ is. sym is) (λ m. let no : e ≡ refusal.Memory = m.0 in absurd (cc)) decides

-- a read that failed decides nothing
unsaid_of : (f : Fault) (P : Verdict → Type 0) → IfOk (unless_unavailable (Err (refusal_of f))) P
unsaid_of fault.Memory P = tt
unsaid_of fault.Storage P = tt

failed_of : (f : Fault) → IsErr (unless_unavailable (Err (refusal_of f)))
failed_of fault.Memory = refl
failed_of fault.Storage = refl

module _ (f : Fault) {e : Refusal} (is : e ≡ refusal_of f) where
  pub unsaid : (P : Verdict → Type 0) → IfOk (unless_unavailable (Err e)) P
  unsaid P = subst (λ x. IfOk (unless_unavailable (Err x)) P) (sym is) (unsaid_of f P)

  pub failed : IsErr (unless_unavailable (Err e))
  failed = subst (λ x. IsErr (unless_unavailable (Err x))) (sym is) (failed_of f)

-- what is so of what was decided is so of its parts
pub in_parts_of : (r : Result Verdict Refusal) (P : Verdict → Type 0)
    (Q : List Change × Result Answer Refusal → Type 0) → IfOk r P
    → ((d : Verdict) → P d → Q (changes_of d, answer_of d)) → IfOk (in_parts r) Q
in_parts_of (Ok d) P Q p then = then d p
in_parts_of (Err e) P Q p then = tt

pub kept_in_parts : (r : Result Verdict Refusal) (P : Type 0) → IfOk r (λ _. P)
    → OnOk (in_parts r) P
kept_in_parts (Ok d) P p = p
kept_in_parts (Err e) P p = tt

pub reads_in_parts : {S : Type 0} {g : Ghosts S} {a b : Held S} (r : Result Verdict Refusal)
    → ReadsOnly g a b r → ReadsOnly g a b (in_parts r)
reads_in_parts (Ok d) h = succeeds (looked h)
reads_in_parts (Err e) h = fails refl h

-- where nothing is decided, memory or storage is unavailable
pub unavailable_in_parts : (r : Result Decision Refusal)
    → IfErr (in_parts (unless_unavailable r)) IsUnavailable
unavailable_in_parts (Ok x) = tt
unavailable_in_parts (Err refusal.Memory) = inl refl
unavailable_in_parts (Err refusal.Storage) = inr refl
unavailable_in_parts (Err e) = tt

-- the fleet was filled, and what else is known stays as it was
pub filled : {before : Cache} {room : Room} (fleet : Fleet) → HasFleetOf fleet room
    → IsCacheOf before room → IsCacheOf (record before { fleet = fleet }) room
filled fleet has is = record {
  fleet = λ _. has;
  queue_views = is.queue_views;
  incident_views = is.incident_views;
  recent_incidents = is.recent_incidents;
  shown_lists = is.shown_lists;
}

-- where the fleet is known, all is that a division's request reads
pub all_known : {known : Cache} {room : Room} → HasFleetOf known.fleet room → IsCacheOf known room
    → AreKnown known room
all_known fleet is = record {
  rows = fleet.rows;
  queue_views = is.queue_views;
  incident_views = is.incident_views;
  recent_incidents = is.recent_incidents;
  shown_lists = is.shown_lists;
}

-- and after it
pub still_known : {before : Fleet} {after : Cache} {room : Room} → HasFleetOf before room
    → AreKnown after room → after.fleet ≡ before → IsCacheOf after room
still_known {room = room} fleet are same = record {
  fleet = λ _. subst (λ x. HasFleetOf x room) (sym same) fleet;
  queue_views = are.queue_views;
  incident_views = are.incident_views;
  recent_incidents = are.recent_incidents;
  shown_lists = are.shown_lists;
}
