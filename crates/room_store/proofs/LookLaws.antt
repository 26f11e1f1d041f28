-- Reads of a connection that is in no transaction: what they leave, and what may follow them.
use Rattle.std.proofs.Common.{IsTrue, ap, arith, inl, inr, refl, sym, ◌∙◌, ◌≡◌}
use Rattle.sqlite.specs.Effect.{Database}
use Rattle.sqlite.specs.Held.{Held, state}
use Rattle.sqlite.specs.State.{IsUnchanged, State, Survives}
use Rattle.sqlite.proofs.StateLemmas.{survives_then, survives_weaker}
use Rattle.sqlite_trees.specs.Tree.{Trees}
use Rattle.sqlite_trees.specs.declared.store.Store.{Ghosts}
use Rattle.room_tables_schema.specs.FileConnections.{HasRoomSchema, IsClean}
use Rattle.room_tables_schema.specs.Outcomes.{Keeps}
use Rattle.room_store_writes.specs.Transactions.{Leaves, StandsSettled}
use Rattle.room_store.specs.StoredRoom.{ShowsRoom}

-- outside a transaction the tables are as they were committed
abbrev pub IsAsCommitted : State → Type 0
IsAsCommitted at = IsTrue at.is_open → at.now ≡ at.committed

pub left_same : (at : State) → Leaves at at
left_same at = record { was_open = λ is_open. is_open; now_is = λ _. refl; committed_is = λ _. refl }

-- more is allowed to be left by a stop
pub survives_more : (old new : State) (P : Trees → Type 0) → Survives old new (λ _. ⊥)
    → Survives old new P
survives_more old new P none = survives_weaker old new (λ _. ⊥) P (λ _ db never. absurd never) none

pub left_unchanged : (old new : State) → IsUnchanged old new → Leaves old new
left_unchanged old new is =
    record { was_open = λ _. is.0.was_open; now_is = λ _. is.0.now_is; committed_is = λ _. is.0.committed_is }

-- what a second call leaves that the first one left
pub left_then : (old mid new : State) → Leaves old mid → Leaves mid new → Leaves old new
left_then old mid new one two = record {
  was_open = λ is_open. one.was_open (two.was_open is_open);
  now_is = λ is_open. two.now_is is_open ∙ one.now_is (two.was_open is_open);
  committed_is = λ is_open. two.committed_is is_open ∙ one.committed_is (two.was_open is_open);
}

pub left_later : (old mid new : State) → IsUnchanged old mid → Leaves mid new → Leaves old new
left_later old mid new is left = left_then old mid new (left_unchanged old mid is) left

-- after which a read leaves no more to a stop
pub survives_read : (old mid new : State) (P : Trees → Type 0) → Survives old mid P
    → Survives mid new (λ _. ⊥) → Survives old new P
survives_read old mid new P one two =
    survives_then old mid new P (λ _. ⊥) P (λ _ db left. left) (λ _ db never. absurd never) one two

-- a read that failed may have undone a transaction, and there was none
pub left_failed : (old new : State) → IsAsCommitted old → Keeps old new → Leaves old new
left_failed old new settled (inl is) = left_unchanged old new is
left_failed old new settled (inr back) = record {
  was_open = back.was_open;
  now_is = λ is_open. (back.undone is_open).0 ∙ sym (settled (back.was_open is_open));
  committed_is = λ is_open. (back.undone is_open).1;
}

module _ {S : Type 0} (g : Ghosts S) (old new : Held S) where
  -- after reads it may be written
  module _ (same : IsClean g new → IsUnchanged (state g old) (state g new)) where
    pub room_read : Survives (state g old) (state g new) (λ _. ⊥) → HasRoomSchema g old
        → HasRoomSchema g new
    room_read survives is clean =
        let early : IsClean g old = omega (arith, survives.clean) in
        ap (λ (db : Database). db.schema) (same clean).0.now_is ∙ is early

    pub settled_read : IsAsCommitted (state g old) → StandsSettled g new
    settled_read settled clean =
        let is = (same clean).0 in
        record {
          is_open = is.is_open;
          committed = is.committed_is ∙ sym (settled is.was_open) ∙ sym is.now_is;
        }

    pub shows_read : Survives (state g old) (state g new) (λ _. ⊥) → HasRoomSchema g old
        → IsAsCommitted (state g old) → IsClean g new → ShowsRoom (state g new)
    shows_read survives is settled clean =
        record { schema = room_read survives is clean; settled = settled_read settled clean }
