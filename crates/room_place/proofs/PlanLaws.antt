-- The division of a place, in words.
use Rattle.std.proofs.Common.{Bool, IsTrue, List, None, Option, Some, [], ap, arith, cond, false}
use Rattle.std.proofs.Common.{get_or, inl, inr, length, map, nat_lt, refl, suc, subst, sym, true}
use Rattle.std.proofs.Common.{zero, ℕ, ◌∙◌, ◌∷◌, ◌<◌, ◌≡◌, ◌≤◌}
use Rattle.std.proofs.lemmas.Bool.{and_parts, false≢true, leb-true, ltb-false}
use Rattle.std.proofs.lemmas.List.Sums.{AllPass-from_list_all}
use Rattle.std.specs.Prelude.{is_none, not}
use Rattle.room_place.specs.declared.plans.PlanFault.TheVariants.{Count, Number, Rectangle, Zone}
use Rattle.std.proofs.lemmas.Bool.Decides.{nat_tests}
use Rattle.std.specs.List.{All, Any, filter}
use Rattle.std.specs.Option.{IfNone, IfSome}
use Rattle.room_place.specs.Choice.{Among, IsStrict}
use Rattle.room_place.specs.Plans.{are_of_divisions, are_rectangles, division_of, divisions_with}
use Rattle.room_place.specs.Plans.{has_place, has_sound_count, is_division, is_plan, is_zone}
use Rattle.room_place.specs.declared.places.Place.{Place}
use Rattle.room_place.specs.declared.plans.Area.{Area}
use Rattle.room_place.proofs.Choices.{empty, finds}

pub numbers_are_strict : IsStrict nat_lt
numbers_are_strict = record {
  apart = λ x y less. grind (arith, nat_tests);
  steps = λ x y z less more. grind (arith, nat_tests);
  total = λ x y none neither. grind (arith, nat_tests);
}

module _ (place : Place) where
  abbrev has : Area → Bool
  has area = has_place place area.rect

  abbrev IsOf : ℕ → Area → Type 0
  IsOf division area = (area.division ≡ division) × IsTrue (has area)

  any_later : (division : ℕ) (area : Area) (areas : List Area) → Any (IsOf division) areas
      → Any (IsOf division) (area ∷ areas)
  any_later division area areas any = (suc any.0, any.1, omega arith, any.3, any.4)

  -- an area that has the place gives its division, and no other does
  into_divisions : (areas : List Area) (k : ℕ) (d : Area) → k < length areas
      → IsTrue (has (get_or areas k d))
      → Among (get_or areas k d).division (divisions_with place areas)
  into_divisions [] k d h there = absurd (omega arith)
  into_divisions (area ∷ areas) zero d h there =
      subst (λ (b : Bool).
      Among area.division (map (λ (x : Area). x.division) (cond b (area ∷ filter has areas) (filter has areas))))
      (sym there) (inl refl)
  into_divisions (area ∷ areas) (suc k) d h there =
      (elim (has area) as (λ (b : Bool).
      Among (get_or areas k d).division
      (map (λ (x : Area). x.division) (cond b (area ∷ filter has areas) (filter has areas)))) [
        | true ↦ inr (into_divisions areas k d (omega arith) there)
        | false ↦ into_divisions areas k d (omega arith) there
      ])

  from_divisions : (areas : List Area) (division : ℕ) → Among division (divisions_with place areas)
      → Any (IsOf division) areas
  from_divisions [] division among = absurd among
  from_divisions (area ∷ areas) division among =
      (elim (has area) as (λ (b : Bool).
      has area ≡ b
      → Among division (map (λ (x : Area). x.division) (cond b (area ∷ filter has areas) (filter has areas)))
      → Any (IsOf division) (area ∷ areas)) [
        | true ↦ λ there here. elim here [
          | inl same ↦ (0, area, omega arith, refl, (sym same, there))
          | inr later ↦ any_later division area areas (from_divisions areas division later)
        ]
        | false ↦ λ elsewhere later. any_later division area areas (from_divisions areas division later)
      ]) refl among

  -- none where no area has the place
  pub outside : (areas : List Area) (found : Option ℕ) → found ≡ division_of areas place
      → IfNone found (All (λ (area : Area). ¬ IsTrue (has area)) areas)
  unfolding division_of
  outside areas (Some division) found = tt
  outside areas None found =
      λ k d h there.
      subst (λ (ds : List ℕ). Among (get_or areas k d).division ds)
      (empty nat_lt numbers_are_strict (divisions_with place areas) (sym found)) (into_divisions areas k d h there)

  -- else that of an area that has it
  pub inside : (areas : List Area) (found : Option ℕ) → found ≡ division_of areas place
      → IfSome found (λ (division : ℕ). Any
      (λ (area : Area). (area.division ≡ division) × IsTrue (has area)) areas)
  unfolding division_of
  inside areas None found = tt
  inside areas (Some division) found =
      from_divisions areas division (elim (finds nat_lt numbers_are_strict (divisions_with place areas) None division
      (sym found)).from [ inl none ↦ cc | inr among ↦ among ])

  -- and of no such area a lower one
  pub lowest : (areas : List Area) (found : Option ℕ) → found ≡ division_of areas place
      → IfSome found (λ (division : ℕ). All
      (λ (area : Area). IsTrue (has area) → division ≤ area.division) areas)
  unfolding division_of
  lowest areas None found = tt
  lowest areas (Some division) found =
      λ k d h there.
      ltb-false _ _ ((finds nat_lt numbers_are_strict (divisions_with place areas) None division (sym found)).all _
      (into_divisions areas k d h there))

no_number_fault : (count numbers rectangles zone : Bool)
    → is_none (cond (not count) (Some Count)
    (cond (not numbers) (Some Number)
    (cond (not rectangles) (Some Rectangle) (cond (not zone) (Some Zone) None)))) ≡ true
    → numbers ≡ true
no_number_fault true true rectangles zone sound = refl
no_number_fault true false rectangles zone sound = sound
no_number_fault false numbers rectangles zone sound = absurd (false≢true sound)

-- the divisions of a plan's areas are numbered 1 to 9
pub numbered : (areas : List Area) (zone : List ℕ) (P : Area → Type 0) (division : ℕ)
    → is_plan areas zone ≡ true → Any (λ (area : Area). (area.division ≡ division) × P area) areas
    → (1 ≤ division) × (division ≤ 9)
numbered areas zone P division sound any =
    let all = no_number_fault (has_sound_count areas) (are_of_divisions areas) (are_rectangles areas) (is_zone zone)
    sound in
    let here : is_division (get_or areas any.0 any.1).division
    ≡ true = AllPass-from_list_all (λ (area : Area). is_division area.division) areas all any.0 any.1 any.2 in
    let same : (get_or areas any.0 any.1).division ≡ division = ap (λ (area : Area). area.division) any.3 ∙ any.4.0 in
    let parts = and_parts _ _ (subst (λ (n : ℕ). is_division n ≡ true) same here) in
    (leb-true _ _ parts.0, leb-true _ _ parts.1)
