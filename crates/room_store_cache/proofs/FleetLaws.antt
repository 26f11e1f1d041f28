-- What a change does to the fleet's rows and the turns that are known.
use Rattle.std.proofs.Common.{Bool, List, None, Some, cond, false, refl, true, ℕ, ◌∙◌, ◌≡◌}
use Rattle.std.proofs.lemmas.Cmp.{tied_itself}
use Rattle.std.specs.Cmp.{Equal-is}
use Rattle.std.specs.Ordering.{is_eq}
use Rattle.std.specs.Prelude.{IfSome, Option, is_some}
use Rattle.room_types.proofs.KeyedLaws.{row_drop_other, row_drop_same, row_put}
use Rattle.room_types.specs.KeyedRows.{IsKeyed, drop_row, put_row, row_at}
use Rattle.room_types.specs.Keys.{numbered_cmp, turn_key}
use Rattle.room_types.specs.KeyLemmas.{exact_numbered, numbered_total}
use Rattle.room_types.specs.Texts.{Callsign}
use Rattle.room_types.specs.declared.changes.Change.TheVariants.{PutTurn}
use Rattle.room_types.specs.declared.tables.Turn.{Turn}
use Rattle.room_model.specs.Room.{Room, apply_one}
use Rattle.room_store_cache.specs.OpenTurns.{AreTurnsOf}

-- what is not there is none
pub none_if : {X : Type 0} (o : Option X) → is_some o ≡ false → o ≡ None
none_if None is = refl
none_if (Some x) is = absurd (cc)

-- the second room has this turn in its key's place, and the others of the first
pub record HasMet (t : Turn) (before after : Room) : Type 0 where
  pub here : row_at numbered_cmp turn_key after.turns (turn_key t) ≡ Some t
  pub others : (k : Callsign × ℕ) → is_eq (numbered_cmp k (turn_key t)) ≡ false
      → row_at numbered_cmp turn_key after.turns k ≡ row_at numbered_cmp turn_key before.turns k

-- the room where it is read, and the one after it is put
pub met_read : (t : Turn) (r : Room)
    → row_at numbered_cmp turn_key r.turns (turn_key t) ≡ Some t → HasMet t r r
met_read t r here = record { here = here; others = λ k other. refl }

pub met_made : (t : Turn) (r : Room) → HasMet t r (apply_one r (PutTurn t))
met_made t r = record {
  here =
      row_put numbered_cmp turn_key numbered_total r.turns t (turn_key t)
      ∙ rw (tied_itself numbered_total (turn_key t)) refl;
  others = λ k other. row_put numbered_cmp turn_key numbered_total r.turns t k ∙ rw other refl;
}

module _ (t : Turn) (before after : Room) (met : HasMet t before after) (known : List Turn)
    (are : AreTurnsOf known before) where
  has_own : (k : Callsign × ℕ) → is_eq (numbered_cmp k (turn_key t)) ≡ true → k ≡ turn_key t
  has_own k same = exact_numbered k (turn_key t) ((Equal-is (numbered_cmp k (turn_key t))).0 same)

  -- it is kept in its key's place, where it is open
  pub met_kept : t.ended ≡ None → AreTurnsOf (put_row numbered_cmp turn_key known t) after
  met_kept is_open k =
      rw (row_put numbered_cmp turn_key numbered_total known t k)
      ((elim (is_eq (numbered_cmp k (turn_key t))) as (λ (b : Bool).
      is_eq (numbered_cmp k (turn_key t)) ≡ b
      → IfSome (cond b (Some t) (row_at numbered_cmp turn_key known k))
      (λ x. (row_at numbered_cmp turn_key after.turns k ≡ Some x) × (x.ended ≡ None))) [
        | true ↦ λ same. rw (has_own k same) (met.here, is_open)
        | false ↦ λ other. rw (met.others k other) (are k)
      ]) refl)

  -- or nothing is
  pub met_dropped : IsKeyed numbered_cmp turn_key known
      → AreTurnsOf (drop_row numbered_cmp turn_key known (turn_key t)) after
  met_dropped keyed k =
      (elim (is_eq (numbered_cmp k (turn_key t))) as (λ (b : Bool).
      is_eq (numbered_cmp k (turn_key t)) ≡ b
      → IfSome (row_at numbered_cmp turn_key (drop_row numbered_cmp turn_key known (turn_key t)) k)
      (λ x. (row_at numbered_cmp turn_key after.turns k ≡ Some x) × (x.ended ≡ None))) [
        | true ↦
            λ same. rw (has_own k same, row_drop_same numbered_cmp turn_key numbered_total known (turn_key t) keyed) tt
        | false ↦
            λ other.
            rw (row_drop_other numbered_cmp turn_key numbered_total known (turn_key t) k other, met.others k other)
            (are k)
      ]) refl
