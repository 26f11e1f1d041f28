-- The pages of a day's closed incidents are the room's.
use Rattle.std.proofs.Common.{Bool, List, [], None, Some, ap, arith, false, length, refl, sym}
use Rattle.std.proofs.Common.{take, take_all, true, ℕ, ℤ, ◌++◌, ◌∙◌, ◌∷◌, ◌≡◌, ◌≤◌}
use Rattle.std.proofs.lemmas.List.{take-append-le}
use Rattle.std.proofs.lemmas.Option.{slice_get_past}
use Rattle.std.specs.Prelude.{filter, nat_le, slice_get, ◌&&◌}
use Rattle.room_types.specs.declared.asks.Search.{Search}
use Rattle.room_types.specs.declared.tables.Incident.{Incident}
use Rattle.room_model.specs.ClosedIncidents.{from_number, incidents_found, is_sought, page_of}
use Rattle.room_model.specs.Queries.{incidents_over, turns_by}
use Rattle.room_model.specs.Room.{Room}
use Rattle.room_incident.proofs.FilterLaws.{filter_both}
use Rattle.room_incident.specs.ClosedPages.{is_on_pages, is_over_between, is_turn_of}

-- ---- a page, and what follows it
get_next : {X : Type 0} (xs : List X) (x : X) (ys : List X)
    → slice_get (xs ++ x ∷ ys) (length xs) ≡ Some x
get_next [] x ys = refl
get_next (z ∷ xs) x ys = get_next xs x ys

take_full : {X : Type 0} (xs ys : List X) → take (length xs) (xs ++ ys) ≡ xs
take_full xs ys = take-append-le (length xs) xs ys (omega arith) ∙ take_all (length xs) xs (omega arith)

pub full_page : (is : List Incident) (i : Incident) (rest : List Incident) → length is ≡ 100
    → page_of (is ++ i ∷ rest) ≡ record { incidents = is; next = Some i.number }
full_page is i rest full =
    let taken : take 100 (is ++ i ∷ rest) ≡ is = rw full at (take_full is (i ∷ rest)) in
    let following : slice_get (is ++ i ∷ rest) 100 ≡ Some i = rw full at (get_next is i rest) in
    rw (taken, following) refl

pub last_page : (is : List Incident) → length is ≤ 100
    → page_of is ≡ record { incidents = is; next = None }
last_page is few = rw (take_all 100 is few, slice_get_past is 100 few) refl

-- ---- the incidents of the pages
either_order : (a b c : Bool) → ((a && b) && c) ≡ (a && (c && b))
either_order true true true = refl
either_order true true false = refl
either_order true false true = refl
either_order true false false = refl
either_order false b c = refl

pub pages_so : (d : ℕ) (from to : ℤ) (x : Search) (r : Room)
    → filter (is_on_pages d r.turns from to x) r.incidents
    ≡ from_number x.first (incidents_found d from to x.sought r)
unfolding incidents_found incidents_over turns_by
pages_so d from to x r =
    let over : Incident → Bool = is_over_between d from to in
    let sought : Incident → Bool = is_sought x.sought (λ c. filter (is_turn_of d c) r.turns) in
    let later : Incident → Bool = λ i. nat_le x.first i.number in
    let same : (λ (i : Incident). (over i && sought i) && later i)
    ≡ (λ (i : Incident). over i && (later i && sought i)) = λ j i. either_order (over i) (sought i) (later i) j in
    sym (ap (filter later) (filter_both sought over r.incidents)
    ∙ (filter_both later (λ i. over i && sought i) r.incidents
    ∙ ap (λ (p : Incident → Bool). filter p r.incidents) same))
