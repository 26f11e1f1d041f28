-- A new room is well formed, and the terminals that it may have fit it.
use Rattle.std.proofs.Common.{Bool, List, Some, [], ap, arith, cond, false, is_some, map, refl}
use Rattle.std.proofs.Common.{subst, sym, true, zero, suc, ℕ, ◌&&◌, ◌+◌, ◌∙◌, ◌∷◌, ◌≡◌, ◌≤◌, ◌||◌}
use Rattle.std.proofs.lemmas.Bool.{eqb-true}
use Rattle.std.proofs.lemmas.Bool.Decides.{nat_tests}
use Rattle.std.proofs.lemmas.Cmp.{nat_cmp_total, nat_list_cmp_total}
use Rattle.std.proofs.lemmas.List.Folds.{Any-from_list_any}
use Rattle.std.proofs.lemmas.Map.Lookups.{exact_bytes}
use Rattle.std.specs.List.{list_all, list_any}
use Rattle.std.specs.Ordering.{is_eq, match_ordering, nat_cmp}
use Rattle.std.specs.Prelude.{IfSome, filter, ◌==◌}
use Rattle.std.specs.declared.cmp.Ordering.{Ordering}
use Rattle.std.specs.declared.cmp.Ordering.TheVariants.{Equal, Greater, Less}
use Rattle.room_place.specs.Plans.{Layout, has_division}
use Rattle.room_place.specs.declared.plans.Area.{Area}
use Rattle.room_place.proofs.PlanLaws.{numbered}
use Rattle.room_types.specs.KeyedRows.{IsKeyed, put_row, row_at}
use Rattle.room_types.specs.Keys.{division_key}
use Rattle.room_types.specs.Texts.{Token}
use Rattle.room_types.specs.declared.fleet.Terminal.{Terminal}
use Rattle.room_types.specs.declared.tables.Division.{Division}
use Rattle.room_types.proofs.EachRow.{at_each_key}
use Rattle.room_types.proofs.KeyedLaws.{keyed_put}
use Rattle.room_model.specs.FleetRows.{AreTerminals, terminal_at, terminal_key, token_cmp}
use Rattle.room_model.specs.RoomAgreements.{IsWellFormed}
use Rattle.room_model.proofs.Tests.{both_true, left_true, right_true}
use Rattle.room_store.specs.StoreCreation.{AreNewTerminals, may_use}
use Rattle.room_store_writes.specs.NewRoom.{division_numbers, in_order, new_division, new_divisions}
use Rattle.room_store_writes.specs.NewRoom.{new_room, put_all}
use Rattle.room_store_writes.proofs.CreationSteps.{divisions_more, divisions_to}
use Rattle.room_store_cache.proofs.Filters.{turned_number}

keyed_if : (b : Bool) (xs : List Division) (x : Division) → IsKeyed nat_cmp division_key xs
    → IsKeyed nat_cmp division_key (cond b (put_row nat_cmp division_key xs x) xs)
keyed_if true xs x h = keyed_put nat_cmp division_key nat_cmp_total xs x h
keyed_if false xs x h = h

divisions_keyed : (passes : ℕ → Bool) (a k : ℕ)
    → IsKeyed nat_cmp division_key (divisions_to passes a k)
divisions_keyed passes a zero = tt
divisions_keyed passes a (suc k) =
    subst (IsKeyed nat_cmp division_key) (divisions_more passes a k (a + k) refl)
    (keyed_if (passes (a + k)) (divisions_to passes a k) (new_division (a + k)) (divisions_keyed passes a k))

one_division : (n d : ℕ) (rest : List ℕ) (passes here same among : Bool)
    → is_eq (nat_cmp d n) ≡ same → (same ≡ true → passes ≡ here)
    → is_some (row_at nat_cmp division_key (map new_division rest) d) ≡ here && among
    → is_some (row_at nat_cmp division_key (map new_division (cond passes (n ∷ rest) rest)) d)
    ≡ here && (same || among)
one_division n d rest true here true among is alike found = rw is (ap (λ b. b && true) (alike refl))
one_division n d rest true here false among is alike found = rw is found
one_division n d rest false here true among is alike found =
    found ∙ ap (λ b. b && among) (sym (alike refl)) ∙ ap (λ b. b && true) (alike refl)
one_division n d rest false here false among is alike found = found

none_here : (here : Bool) → false ≡ here && false
none_here true = refl
none_here false = refl

-- there is a row of each number that passes
division_found : (passes : ℕ → Bool) (d : ℕ) (ns : List ℕ)
    → is_some (row_at nat_cmp division_key (map new_division (filter passes ns)) d) ≡ passes d
    && list_any (λ n. n == d) ns
division_found passes d [] = none_here (passes d)
division_found passes d (n ∷ ns) =
    one_division n d (filter passes ns) (passes n) (passes d) (n == d) (list_any (λ n. n == d) ns) (turned_number d n)
    (λ same. ap passes (eqb-true n d same)) (division_found passes d ns)

one_to_nine : (d : ℕ) → 1 ≤ d → d ≤ 9 → list_any (λ n. n == d) division_numbers ≡ true
one_to_nine d low high = grind (arith, nat_tests)

-- a division of a plan has one of nine numbers
numbered_so : (plan : Layout) (d : ℕ) (has : Bool) → has_division plan.areas d ≡ has
    → has && list_any (λ n. n == d) division_numbers ≡ has
numbered_so plan d false is = refl
numbered_so plan d true is =
    let any = Any-from_list_any (λ (area : Area). area.division == d) plan.areas is in
    let within = numbered plan.areas plan.zone (λ area. Unit {0}) d plan.sound
    (any.0, any.1, any.2, any.3, (eqb-true _ _ any.4, tt)) in
    one_to_nine d within.0 within.1

divisions_in_plan : (plan : Layout) (d : ℕ)
    → is_some (row_at nat_cmp division_key (new_divisions plan.areas) d) ≡ has_division plan.areas d
unfolding new_divisions
divisions_in_plan plan d =
    division_found (has_division plan.areas) d division_numbers ∙ numbered_so plan d (has_division plan.areas d) refl

new_keyed : (plan : Layout) → IsKeyed nat_cmp division_key (new_divisions plan.areas)
unfolding new_divisions
new_keyed plan = divisions_keyed (has_division plan.areas) 1 9

pub new_room_formed : (plan : Layout) → IsWellFormed (new_room plan)
new_room_formed plan = record {
  order = record {
    divisions = new_keyed plan;
    incidents = tt;
    calls = tt;
    vehicles = tt;
    turns = tt;
    assignments = tt;
    points = tt;
    loans = tt;
    offers = tt;
    reports = tt;
  };
  loans = λ c. tt;
  offers = λ c. tt;
  assignments = λ c. tt;
  turns = λ c n. tt;
  same_incident = λ c n. tt;
  active = λ c n. tt;
  calls = λ p s. tt;
  opened = λ d n. tt;
  numbers = λ d n. tt;
  reports = λ c n. tt;
  last_reports = λ c. tt;
  posts = λ c. tt;
  plan = record {
    divisions = divisions_in_plan plan;
    homes = λ c. tt;
    vehicles = λ c. tt;
    turns = λ c n. tt;
    points = λ d n. tt;
    reports = λ c n. tt;
  };
}

module _ (may : Terminal → Bool) where
  one_put : (xs : List Terminal) (x : Terminal) → list_all may xs ≡ true → may x ≡ true
      → list_all may (put_row token_cmp terminal_key xs x) ≡ true
  one_put [] x all one = both_true (may x) true one refl
  one_put (y ∷ xs) x all one =
      (elim (token_cmp x.token y.token) as (λ (o : Ordering).
      list_all may (match_ordering o (x ∷ y ∷ xs) (x ∷ xs) (y ∷ put_row token_cmp terminal_key xs x)) ≡ true) [
        | Less ↦ both_true (may x) _ one all
        | Equal ↦ both_true (may x) _ one (right_true (may y) _ all)
        | Greater ↦ both_true (may y) _ (left_true (may y) _ all) (one_put xs x (right_true (may y) _ all) one)
      ])

  all_put : (xs ts : List Terminal) → list_all may xs ≡ true → list_all may ts ≡ true
      → list_all may (put_all xs ts) ≡ true
  all_put xs [] all rest = all
  all_put xs (t ∷ ts) all rest =
      all_put (put_row token_cmp terminal_key xs t) ts (one_put xs t all (left_true (may t) _ rest))
      (right_true (may t) _ rest)

put_keyed : (xs ts : List Terminal) → IsKeyed token_cmp terminal_key xs
    → IsKeyed token_cmp terminal_key (put_all xs ts)
put_keyed xs [] h = h
put_keyed xs (t ∷ ts) h =
    put_keyed (put_row token_cmp terminal_key xs t) ts (keyed_put token_cmp terminal_key nat_list_cmp_total xs t h)

-- the terminal at each token is of a user that the room may have
user_at : (plan : Layout) (ts : List Terminal) → AreNewTerminals plan ts
    → (k : Token) (t : Terminal) → terminal_at k (in_order ts) ≡ Some t
    → may_use plan.areas t.who ≡ true
user_at plan ts new k t there =
    let may = λ (t : Terminal). may_use plan.areas t.who in
    subst (λ o. IfSome o (λ t. may t ≡ true)) there
    (at_each_key token_cmp terminal_key nat_list_cmp_total exact_bytes may (λ k t. may t ≡ true) (λ t. (λ h. h, λ h. h))
    (in_order ts) (all_put may [] ts refl new.users) k)

pub new_terminals_fit : (plan : Layout) (ts : List Terminal) → AreNewTerminals plan ts
    → AreTerminals (new_room plan) (in_order ts)
new_terminals_fit plan ts new = record {
  keyed = put_keyed [] ts tt;
  has_crew = λ c there. cc;
  one_crew = λ j k c at also. let never : false ≡ true = user_at plan ts new j _ at in cc;
  crews = λ k c at. let never : false ≡ true = user_at plan ts new k _ at in cc;
  desks = λ k d at. user_at plan ts new k _ at;
}
