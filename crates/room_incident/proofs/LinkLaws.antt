-- The incident that a call is linked to.
use Rattle.std.proofs.Common.{Bool, Bor, List, None, Option, Some, [], ap, arith, cond, false, refl}
use Rattle.std.proofs.Common.{sym, true, ℕ, ◌∙◌, ◌∷◌, ◌≡◌}
use Rattle.std.proofs.lemmas.Bool.{eqb-true}
use Rattle.std.proofs.lemmas.Bool.Decides.{nat_tests}
use Rattle.std.specs.List.{list_all}
use Rattle.std.specs.Prelude.{IfSome, filter, nat_lt, option_copied, ◌&&◌, ◌==◌, ◌||◌}
use Rattle.room_place.specs.Choice.{least}
use Rattle.room_place.specs.Places.{distance}
use Rattle.room_place.specs.declared.places.Place.{Place}
use Rattle.room_types.specs.Codes.{is_active}
use Rattle.room_types.specs.Keys.{owns_incident}
use Rattle.room_types.specs.declared.tables.Incident.{Incident}
use Rattle.room_model.proofs.Tests.{among_filter, left_true, right_true}
use Rattle.room_model.specs.Queries.{is_candidate, is_nearer, link_target}
use Rattle.room_model.specs.Room.{Room}
use Rattle.room_incident.proofs.LeastLaws.{into_filter, least_among, least_below, none_among}
use Rattle.room_incident.specs.CallLinks.{IsLinkTarget, is_open_near}

-- ---- by distance, and then by number
abbrev is_before : ℕ → ℕ → ℕ → ℕ → Bool
is_before a m b n = nat_lt a b || (a == b && nat_lt m n)

before_turned : (a m b n : ℕ) → is_before a m b n ≡ true → is_before b n a m ≡ false
before_turned a m b n e = grind (arith, nat_tests)

before_passed : (a m b n c k : ℕ) → is_before b n a m ≡ false → is_before c k b n ≡ false
    → is_before c k a m ≡ false
before_passed a m b n c k e f = grind (arith, nat_tests)

turned : (p : Place) (i j : Incident) → is_nearer p i j ≡ true → is_nearer p j i ≡ false
turned p i j = before_turned (distance i.place p) i.number (distance j.place p) j.number

passed : (p : Place) (i j k : Incident) → is_nearer p j i ≡ false → is_nearer p k j ≡ false
    → is_nearer p k i ≡ false
passed p i j k = before_passed (distance i.place p) i.number (distance j.place p) j.number (distance k.place p) k.number

-- ---- one division's incidents
module _ (d : ℕ) (p : Place) (at : ℕ) where
  candidates_are : (xs : List Incident) → list_all (owns_incident d) xs ≡ true
      → filter (is_candidate d p at) xs ≡ filter (is_open_near p at) xs
  candidates_are [] h = refl
  candidates_are (x ∷ xs) h =
      rw (left_true (x.division == d) _ h)
      (ap (λ ys. cond (is_open_near p at x) (x ∷ ys) ys) (candidates_are xs (right_true (x.division == d) _ h)))

  pub target_so : (r : Room) (xs : List Incident) → r.incidents ≡ xs
      → list_all (owns_incident d) xs ≡ true
      → least (is_nearer p) (filter (is_open_near p at) xs) ≡ link_target d p at r
  unfolding link_target
  target_so r xs same owned =
      ap (least (is_nearer p)) (sym (candidates_are xs owned))
      ∙ ap (λ ys. least (is_nearer p) (filter (is_candidate d p at) ys)) (sym same)

  least_is_target : (xs : List Incident) (o : Option Incident)
      → least (is_nearer p) (filter (is_candidate d p at) xs) ≡ o → IsLinkTarget d p at xs o
  least_is_target xs None e =
      λ i among. (elim (is_candidate d p at i) as (λ (b : Bool). is_candidate d p at i ≡ b → b ≡ false) [
        | true ↦
            λ passes.
            absurd
            (none_among (is_nearer p) (turned p) (passed p) _ i e (into_filter (is_candidate d p at) xs i among passes))
        | false ↦ λ fails. refl
      ]) refl
  least_is_target xs (Some t) e =
      let found = among_filter (is_candidate d p at) xs t (least_among (is_nearer p) (turned p) (passed p) _ t e) in
      record {
        among = found.0;
        candidate = found.1;
        nearest =
            λ i among passes.
            least_below (is_nearer p) (turned p) (passed p) _ t e i
            (into_filter (is_candidate d p at) xs i among passes);
      }

  pub target_is : (xs : List Incident) (o : Option Incident)
      → o ≡ least (is_nearer p) (filter (is_open_near p at) xs)
      → list_all (owns_incident d) xs ≡ true → IsLinkTarget d p at xs o
  target_is xs o e owned = least_is_target xs o (ap (least (is_nearer p)) (candidates_are xs owned) ∙ sym e)

  target_passes : (xs : List Incident) (t : Incident)
      → least (is_nearer p) (filter (is_candidate d p at) xs) ≡ Some t
      → (is_active t.state ≡ true) × (t.division ≡ d)
  target_passes xs t e =
      let passes = (among_filter (is_candidate d p at) xs t
      (least_among (is_nearer p) (turned p) (passed p) _ t e)).1 in (
        left_true (is_active t.state) _ (right_true (t.division == d) _ passes),
        eqb-true _ _ (left_true (t.division == d) _ passes),
      )

  target_is_ours : (xs : List Incident) (t : Incident)
      → Some t ≡ least (is_nearer p) (filter (is_open_near p at) xs)
      → list_all (owns_incident d) xs ≡ true → (is_active t.state ≡ true) × (t.division ≡ d)
  target_is_ours xs t e owned = target_passes xs t (ap (least (is_nearer p)) (candidates_are xs owned) ∙ sym e)

  pub target_active : (xs : List Incident) (o : Option (Bor Incident))
      → option_copied o ≡ least (is_nearer p) (filter (is_open_near p at) xs)
      → list_all (owns_incident d) xs ≡ true → IfSome o (λ b. is_active b.now.state ≡ true)
  target_active xs None e owned = tt
  target_active xs (Some b) e owned = (target_is_ours xs b.now e owned).0

  pub target_division : (xs : List Incident) (o : Option (Bor Incident))
      → option_copied o ≡ least (is_nearer p) (filter (is_open_near p at) xs)
      → list_all (owns_incident d) xs ≡ true → IfSome o (λ b. b.now.division ≡ d)
  target_division xs None e owned = tt
  target_division xs (Some b) e owned = (target_is_ours xs b.now e owned).1
