-- The incidents of a day that are over, as they are found where some of them stayed behind.
use Rattle.std.proofs.Common.{ap, eqb-true, inl, inr, sym, ◌∙◌}
use Rattle.std.specs.List.{list_any}
use Rattle.std.specs.Prelude.{Bool, List, [], cond, false, filter, not, refl, true, ℕ, ℤ, ◌&&◌}
use Rattle.std.specs.Prelude.{◌==◌, ◌||◌, ◌∷◌, ◌≡◌}
use Rattle.room_place.specs.Choice.{Among}
use Rattle.room_types.specs.Keys.{same_callsign}
use Rattle.room_types.specs.Texts.{Callsign}
use Rattle.room_types.specs.declared.asks.Sought.{Sought}
use Rattle.room_types.specs.declared.asks.Sought.TheVariants.{All, Near, Sent}
use Rattle.room_types.specs.declared.tables.Incident.{Incident}
use Rattle.room_types.specs.declared.tables.Turn.{Turn}
use Rattle.room_model.proofs.Tests.{among_filter, any_filter, filters_turned, left_true, right_true}
use Rattle.room_model.specs.ClosedIncidents.{incidents_found, is_sought}
use Rattle.room_model.specs.Queries.{incidents_over, turns_by}
use Rattle.room_model.specs.Room.{Room}
use Rattle.dispatch_room_archive.specs.Successor.{Behind, without}

-- two tests that agree on what passes another one
alike_at : {X : Type 0} (q : X → Bool) (x : X) (us vs : List X) (y z : Bool) → (q x ≡ true → y ≡ z)
    → filter q us ≡ filter q vs → filter q (cond y (x ∷ us) us) ≡ filter q (cond z (x ∷ vs) vs)
alike_at q x us vs true true f h = ap (λ ws. cond (q x) (x ∷ ws) ws) h
alike_at {X} q x us vs true false f h =
    (elim (q x) as (λ (b : Bool). q x ≡ b → cond b (x ∷ filter q us) (filter q us) ≡ filter q vs) [
      | true ↦ λ e. let g = f e in cc
      | false ↦ λ e. h
    ]) refl
alike_at {X} q x us vs false true f h =
    (elim (q x) as (λ (b : Bool). q x ≡ b → filter q us ≡ cond b (x ∷ filter q vs) (filter q vs)) [
      | true ↦ λ e. let g = f e in cc
      | false ↦ λ e. h
    ]) refl
alike_at q x us vs false false f h = h

filters_alike : {X : Type 0} (q p o : X → Bool) (xs : List X)
    → ((x : X) → Among x xs → q x ≡ true → p x ≡ o x) → filter q (filter p xs) ≡ filter q (filter o xs)
filters_alike q p o [] f = refl
filters_alike q p o (x ∷ xs) f =
    alike_at q x (filter p xs) (filter o xs) (p x) (o x) (f x (inl refl))
    (filters_alike q p o xs (λ y m. f y (inr m)))

-- some of those that pass a test passes another one
any_at : {X : Type 0} (p : X → Bool) (x : X) (ys : List X) (y z : Bool) → list_any p ys ≡ z
    → list_any p (cond y (x ∷ ys) ys) ≡ (y && p x) || z
any_at p x ys true z h = ap (λ b. p x || b) h
any_at p x ys false z h = h

any_passing : {X : Type 0} (p q : X → Bool) (xs : List X)
    → list_any p (filter q xs) ≡ list_any (λ x. q x && p x) xs
any_passing p q [] = refl
any_passing p q (x ∷ xs) = any_at p x (filter q xs) (q x) _ (any_passing p q xs)

module _ (b : Behind) (r : Room) (d : ℕ) where
  -- the turns of an incident that didn't stay behind are all there
  turn_stays : (i : Incident) (c : Callsign) (t : Turn) → i.division == d ≡ true
      → not (b.incident i.division i.number) ≡ true
      → (t.division == d && same_callsign c t.callsign) && t.incident == i.number ≡ true
      → not (b.incident t.division t.incident) ≡ true
  turn_stays i c t mine stays g =
      let divisions : t.division ≡ i.division =
      eqb-true t.division d (left_true _ _ (left_true _ _ g)) ∙ sym (eqb-true i.division d mine) in
      ap (λ m. not (b.incident m t.incident)) divisions
      ∙ (ap (λ n. not (b.incident i.division n)) (eqb-true t.incident i.number (right_true _ _ g)) ∙ stays)

  sought_same : (x : Sought) (i : Incident) → i.division == d ≡ true
      → not (b.incident i.division i.number) ≡ true
      → is_sought x (λ c. turns_by d c (without b r)) i ≡ is_sought x (λ c. turns_by d c r) i
  unfolding turns_by
  sought_same All i mine stays = refl
  sought_same (Sent c) i mine stays =
      any_passing (λ t. t.incident == i.number) (λ t. t.division == d && same_callsign c t.callsign)
      (without b r).turns
      ∙ (any_filter _ (λ t. not (b.incident t.division t.incident)) r.turns (λ t g. turn_stays i c t mine stays g)
      ∙ sym (any_passing (λ t. t.incident == i.number) (λ t. t.division == d && same_callsign c t.callsign) r.turns))
  sought_same (Near p metres) i mine stays = refl

  -- those that are found are those that were found before and are left
  pub found_left : (from to : ℤ) (x : Sought) → incidents_found d from to x (without b r)
      ≡ filter (λ i. not (b.incident i.division i.number)) (incidents_found d from to x r)
  unfolding incidents_found incidents_over
  found_left from to x =
      ap (filter (is_sought x (λ c. turns_by d c (without b r))))
      (filters_turned _ (λ i. not (b.incident i.division i.number)) r.incidents)
      ∙ (filters_turned (is_sought x (λ c. turns_by d c (without b r))) (λ i. not (b.incident i.division i.number))
      (incidents_over d from to r)
      ∙ filters_alike (λ i. not (b.incident i.division i.number)) (is_sought x (λ c. turns_by d c (without b r)))
      (is_sought x (λ c. turns_by d c r)) (incidents_over d from to r)
      (λ i m stays. sought_same x i (left_true _ _ (among_filter _ r.incidents i m).1) stays))
