-- The open turn of a vehicle, as the list of turns has it.
use Rattle.std.proofs.Common.{ap, eq-eqb, inl, inr, subst, sym, ◌∙◌}
use Rattle.std.proofs.lemmas.Cmp.{tied_itself}
use Rattle.std.specs.Ordering.{is_eq}
use Rattle.std.specs.Prelude.{Bool, List, None, Option, Some, [], cond, false, filter, is_none}
use Rattle.std.specs.Prelude.{refl, true, ℕ, ◌&&◌, ◌==◌, ◌∷◌, ◌≡◌}
use Rattle.std.specs.declared.cmp.Ordering.{Ordering}
use Rattle.room_place.specs.Choice.{Among, first}
use Rattle.room_types.specs.KeyedRows.{row_at}
use Rattle.room_types.specs.Keys.{numbered_cmp, same_callsign, turn_key}
use Rattle.room_types.specs.KeyLemmas.{callsigns_total, exact_callsigns, exact_numbered}
use Rattle.room_types.specs.KeyLemmas.{numbered_total}
use Rattle.room_types.specs.Texts.{Callsign}
use Rattle.room_types.specs.declared.tables.Turn.{Turn}
use Rattle.room_types.specs.declared.tables.Vehicle.{Vehicle}
use Rattle.room_model.proofs.Others.{IsHeld}
use Rattle.room_model.proofs.Tests.{among_filter, both_true, first_among, is_equal, left_true}
use Rattle.room_model.proofs.Tests.{none_of, right_true, row_among, row_key}
use Rattle.room_model.proofs.TurnChanges.{IsOpenTurn}
use Rattle.room_model.specs.Queries.{open_turn}
use Rattle.room_model.specs.Room.{IsInOrder, Room}

pub row_there : {R K : Type 0} (cmp : K → K → Ordering) (key : R → K) (xs : List R) (k : K) (x : R)
    → row_at cmp key xs k ≡ Some x → Among x xs
row_there cmp key [] k x e = cc
row_there {R} cmp key (y ∷ ys) k x e =
    (elim (is_eq (cmp k (key y))) as (λ (b : Bool). cond b (Some y) (row_at cmp key ys k) ≡ Some x → Among x (y ∷ ys)) [
      | true ↦ λ f. let same : x ≡ y = cc in inl same
      | false ↦ λ f. inr (row_there cmp key ys k x f)
    ]) e

none_first : {X : Type 0} (p : X → Bool) (xs : List X) (x : X) → first (filter p xs) ≡ None
    → Among x xs → p x ≡ true → ⊥
none_first p [] x e a t = absurd a
none_first {X} p (y ∷ ys) x e a t =
    (elim (p y) as (λ (b : Bool). p y ≡ b → first (cond b (y ∷ filter p ys) (filter p ys)) ≡ None → ⊥) [
      | true ↦ λ g f. cc
      | false ↦ λ g f. elim a [
        | inl same ↦ let alike : p x ≡ p y = ap p same in cc
        | inr b ↦ none_first p ys x f b t
      ]
    ]) refl e

-- a turn that is open in a division, of a callsign
abbrev pub is_open_of : ℕ → Callsign → Turn → Bool
is_open_of d c t = t.division == d && (same_callsign t.callsign c && is_none t.ended)

module _ (d : ℕ) (c : Callsign) (r : Room) (order : IsInOrder r) where
  pub open_there : (t : Turn) → open_turn d c r ≡ Some t
      → (row_at numbered_cmp turn_key r.turns (c, t.order) ≡ Some t) × (t.ended ≡ None)
      × (t.callsign ≡ c)
  unfolding open_turn
  open_there t e =
      let f = among_filter (is_open_of d c) r.turns t (first_among (filter (is_open_of d c) r.turns) t e) in
      let g = right_true (t.division == d) (same_callsign t.callsign c && is_none t.ended) f.1 in
      let same : t.callsign ≡ c = exact_callsigns t.callsign c (is_equal _ (left_true _ (is_none t.ended) g)) in (
        subst (λ (k : Callsign). row_at numbered_cmp turn_key r.turns (k, t.order) ≡ Some t) same
            (row_among numbered_cmp turn_key numbered_total r.turns t order.turns f.0),
        none_of t.ended (right_true (same_callsign t.callsign c) _ g),
        same,
      )

  pub open_is : (o : Option Turn) → open_turn d c r ≡ o
      → IsOpenTurn d (λ n. row_at numbered_cmp turn_key r.turns (c, n)) o
  unfolding open_turn
  open_is None e = λ n x there unended mine.
      let same : c
      ≡ x.callsign =
      ap (λ (k : Callsign × ℕ). k.0)
      (row_key numbered_cmp turn_key numbered_total exact_numbered r.turns (c, n) x there) in
      none_first (is_open_of d c) r.turns x e (row_there numbered_cmp turn_key r.turns (c, n) x there)
      (both_true (x.division == d) _ (eq-eqb x.division d mine)
      (both_true (same_callsign x.callsign c) _
      (ap (λ k. same_callsign x.callsign k) same ∙ ap is_eq (tied_itself callsigns_total x.callsign))
      (ap is_none unended)))
  open_is (Some t) e = let f = open_there t e in (f.0, f.1)

  -- of a vehicle that the division holds
  pub open_held : (v : Vehicle) → IsHeld d c r v → (o : Option Turn) → open_turn d c r ≡ o
      → IsOpenTurn v.holder (λ n. row_at numbered_cmp turn_key r.turns (v.callsign, n)) o
  open_held v is o e =
      subst (λ (k : Callsign). IsOpenTurn v.holder (λ n. row_at numbered_cmp turn_key r.turns (k, n)) o) is.key
      (subst (λ h. IsOpenTurn h (λ n. row_at numbered_cmp turn_key r.turns (c, n)) o) (sym is.holder) (open_is o e))
