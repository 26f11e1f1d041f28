-- What a search finds, and that pages of it lose nothing; classes are counted as times are.
use Rattle.std.proofs.Common.{ap, arith, eq-eqb, inl, inr, subst, sym, ◌∙◌}
use Rattle.std.proofs.lemmas.Bool.{eqb-true, le-leb, leb-true}
use Rattle.std.proofs.lemmas.Cmp.{nat_cmp_total, ranked, tied_itself}
use Rattle.std.proofs.lemmas.List.{length-map}
use Rattle.std.specs.List.{list_any}
use Rattle.std.specs.Ordering.{nat_cmp, ordering_then}
use Rattle.std.specs.declared.cmp.Ordering.TheVariants.{Less}
use Rattle.std.specs.Prelude.{Bool, List, None, Option, Some, [], cond, false, filter, is_some}
use Rattle.std.specs.Prelude.{length, map, nat_le, not, option_map, refl, slice_get, suc, take}
use Rattle.std.specs.Prelude.{true, zero, ℕ, ℤ, ◌&&◌, ◌++◌, ◌<◌, ◌==◌, ◌||◌, ◌∷◌, ◌≡◌, ◌≤◌}
use borrow.Author.Tests.{leb-false}
use Rattle.room_place.specs.Choice.{Among}
use Rattle.room_types.specs.Codes.{is_active}
use Rattle.room_types.specs.KeyedRows.{IsBelowAll, IsKeyed, row_at}
use Rattle.room_types.specs.KeyLemmas.{exact_pair, pairs_total}
use Rattle.room_types.specs.Keys.{incident_key, pair_cmp, same_callsign}
use Rattle.room_types.specs.Texts.{Callsign}
use Rattle.room_types.specs.declared.answers.TimesLine.{TimesLine}
use Rattle.room_types.specs.declared.asks.Sought.{Sought}
use Rattle.room_types.specs.declared.asks.Sought.TheVariants.{All, Near, Sent}
use Rattle.room_types.specs.declared.tables.Incident.{Incident}
use Rattle.room_types.specs.declared.tables.Turn.{Turn}
use Rattle.room_model.proofs.OpenTurns.{row_there}
use Rattle.room_model.proofs.Tests.{among_filter, both_true, filter_filter, filters_turned}
use Rattle.room_model.proofs.Tests.{left_true, right_true, row_among, row_key}
use Rattle.room_model.specs.ClosedIncidents.{IsFound, LosesNothing, counted, from_number}
use Rattle.room_model.specs.ClosedIncidents.{incidents_found, is_sought, only_class, page_of}
use Rattle.room_model.specs.ClosedIncidents.{rest_from, times_of_class}
use Rattle.room_model.specs.DayTimes.{activation_of, class_line, is_prompt, of_class, times_line}
use Rattle.room_model.specs.Queries.{calls_of, incident_of, incidents_opened, incidents_over}
use Rattle.room_model.specs.Queries.{is_given, turns_by, turns_of}
use Rattle.room_model.specs.Room.{IsInOrder, Room}

-- ---- numbers that rise
abbrev IsAbove : ℕ → List Incident → Type 0
IsAbove n [] = Unit {0}
IsAbove n (x ∷ xs) = (n < x.number) × IsAbove n xs

abbrev Rises : List Incident → Type 0
Rises [] = Unit {0}
Rises (x ∷ xs) = IsAbove x.number xs × Rises xs

number_less : (d n m : ℕ) → pair_cmp (d, n) (d, m) ≡ Less → n < m
number_less d n m e =
    ranked n m Less (sym (subst (λ o. ordering_then o (nat_cmp n m) ≡ Less) (tied_itself nat_cmp_total d) e))

above_filter : (p : Incident → Bool) (n : ℕ) (xs : List Incident) → IsAbove n xs
    → IsAbove n (filter p xs)
above_filter p n [] h = tt
above_filter p n (x ∷ xs) h =
    elim (p x) as (λ (b : Bool). IsAbove n (cond b (x ∷ filter p xs) (filter p xs))) [
      | true ↦ (h.0, above_filter p n xs h.1)
      | false ↦ above_filter p n xs h.1
    ]

rises_filter : (p : Incident → Bool) (xs : List Incident) → Rises xs → Rises (filter p xs)
rises_filter p [] h = tt
rises_filter p (x ∷ xs) h =
    elim (p x) as (λ (b : Bool). Rises (cond b (x ∷ filter p xs) (filter p xs))) [
      | true ↦ (above_filter p x.number xs h.0, rises_filter p xs h.1)
      | false ↦ rises_filter p xs h.1
    ]

-- those of one division rise, as all stand in key order
module _ (d : ℕ) (p : Incident → Bool) where
  abbrev passes : Incident → Bool
  passes i = i.division == d && p i

  division_is : (x : Incident) → passes x ≡ true → x.division ≡ d
  division_is x e = eqb-true _ _ (left_true (x.division == d) _ e)

  above_own : (n : ℕ) (xs : List Incident) → IsBelowAll pair_cmp incident_key (d, n) xs
      → IsAbove n (filter passes xs)
  above_own n [] h = tt
  above_own n (x ∷ xs) h =
      (elim (passes x) as (λ (b : Bool). passes x ≡ b → IsAbove n (cond b (x ∷ filter passes xs) (filter passes xs))) [
        | true ↦
            λ e. (
              number_less d n x.number (subst (λ k. pair_cmp (d, n) (k, x.number) ≡ Less) (division_is x e) h.0),
              above_own n xs h.1,
            )
        | false ↦ λ e. above_own n xs h.1
      ]) refl

  rises_own : (xs : List Incident) → IsKeyed pair_cmp incident_key xs → Rises (filter passes xs)
  rises_own [] h = tt
  rises_own (x ∷ xs) h =
      (elim (passes x) as (λ (b : Bool). passes x ≡ b → Rises (cond b (x ∷ filter passes xs) (filter passes xs))) [
        | true ↦
            λ e. (
              above_own x.number xs
                  (subst (λ k. IsBelowAll pair_cmp incident_key (k, x.number) xs) (division_is x e) h.0),
              rises_own xs h.1,
            )
        | false ↦ λ e. rises_own xs h.1
      ]) refl

found_rise : (d : ℕ) (from to : ℤ) (x : Sought) (r : Room) → IsInOrder r
    → Rises (incidents_found d from to x r)
unfolding incidents_found incidents_over
found_rise d from to x r order =
    rises_filter (is_sought x (λ c. turns_by d c r)) (incidents_over d from to r)
    (rises_own d _ r.incidents order.incidents)

-- ---- what is found
among_kept : {X : Type 0} (p : X → Bool) (xs : List X) (y : X) → Among y xs → p y ≡ true
    → Among y (filter p xs)
among_kept p [] y a e = absurd a
among_kept {X} p (x ∷ xs) y a e =
    (elim (p x) as (λ (b : Bool). p x ≡ b → Among y (cond b (x ∷ filter p xs) (filter p xs))) [
      | true ↦ λ f. elim a [
        | inl same ↦ inl same
        | inr rest ↦ inr (among_kept p xs y rest e)
      ]
      | false ↦ λ f. elim a [
        | inl same ↦ let alike : p y ≡ p x = ap p same in absurd (cc)
        | inr rest ↦ among_kept p xs y rest e
      ]
    ]) refl

any_kept : {X : Type 0} (p q : X → Bool) (xs : List X)
    → list_any p (filter q xs) ≡ list_any (λ x. q x && p x) xs
any_kept p q [] = refl
any_kept {X} p q (x ∷ xs) =
    elim (q x) as (λ (b : Bool).
    list_any p (cond b (x ∷ filter q xs) (filter q xs)) ≡ b && p x || list_any (λ y. q y && p y) xs) [
      | true ↦ ap (λ z. p x || z) (any_kept p q xs)
      | false ↦ any_kept p q xs
    ]

-- of a vehicle's turns one is for the incident, or of the incident's turns one is the vehicle's
either_way : (own same there given : Bool)
    → (own && same) && there ≡ (own && (there || given)) && (same && there)
either_way false same there given = refl
either_way true same true given = refl
either_way true true false true = refl
either_way true true false false = refl
either_way true false false true = refl
either_way true false false false = refl

module _ (d : ℕ) (r : Room) where
  sent_is : (c : Callsign) (n : ℕ) → list_any (λ t. t.incident == n) (turns_by d c r)
      ≡ list_any (λ t. same_callsign c t.callsign && t.incident == n) (turns_of d n r)
  unfolding turns_by turns_of
  sent_is c n =
      any_kept (λ (t : Turn). t.incident == n) _ r.turns
      ∙ (ap (λ (f : Turn → Bool). list_any f r.turns)
      (λ j t. either_way (t.division == d) (same_callsign c t.callsign) (t.incident == n)
      (is_given (calls_of d n r) t.incident) j)
      ∙ sym (any_kept (λ (t : Turn). same_callsign c t.callsign && t.incident == n) _ r.turns))

  module _ (from to : ℤ) (x : Sought) (i : Incident) (order : IsInOrder r) where
    is_over : not (is_active i.state) ≡ true → is_active i.state ≡ false
    is_over e = flipped (is_active i.state) e
      where
        flipped : (b : Bool) → not b ≡ true → b ≡ false
        flipped true f = cc
        flipped false f = refl

    pub found_there : Among i (incidents_found d from to x r) → IsFound d from to x i r
    unfolding incidents_found incidents_over incident_of
    found_there a =
        let sought = among_filter (is_sought x (λ c. turns_by d c r)) _ i a in
        let row = among_filter _ r.incidents i sought.0 in
        let own : i.division ≡ d = eqb-true _ _ (left_true (i.division == d) _ row.1) in
        let then = right_true (i.division == d) _ row.1 in
        record {
          there =
              subst (λ k. row_at pair_cmp incident_key r.incidents (k, i.number) ≡ Some i) own
              (row_among pair_cmp incident_key pairs_total r.incidents i order.incidents row.0);
          over = is_over (left_true (not (is_active i.state)) _ then);
          opened = right_true (not (is_active i.state)) _ then;
          sent = λ c e.
              sym (sent_is c i.number) ∙ subst (λ y. is_sought y (λ k. turns_by d k r) i ≡ true) e sought.1;
          near = λ p m e. subst (λ y. is_sought y (λ k. turns_by d k r) i ≡ true) e sought.1;
        }

    sought_by : (y : Sought) → y ≡ x → IsFound d from to x i r
        → is_sought y (λ c. turns_by d c r) i ≡ true
    sought_by All e f = refl
    sought_by (Sent c) e f = sent_is c i.number ∙ f.sent c (sym e)
    sought_by (Near p m) e f = f.near p m (sym e)

    pub there_found : IsFound d from to x i r → Among i (incidents_found d from to x r)
    unfolding incidents_found incidents_over incident_of
    there_found f =
        let among = row_there pair_cmp incident_key r.incidents (d, i.number) i f.there in
        let key = row_key pair_cmp incident_key pairs_total exact_pair r.incidents (d, i.number) i f.there in
        let own : d ≡ i.division = ap (λ (k : ℕ × ℕ). k.0) key in
        among_kept (is_sought x (λ c. turns_by d c r)) _ i
        (among_kept _ r.incidents i among (both_true (i.division == d) _ (eq-eqb i.division d (sym own))
        (both_true (not (is_active i.state)) _ (ap not f.over) f.opened))) (sought_by x refl f)

-- ---- a page and what follows it
above_all : (n : ℕ) (xs : List Incident) → IsAbove n xs → from_number n xs ≡ xs
above_all n [] h = refl
above_all n (x ∷ xs) h =
    rw (le-leb n x.number (omega (arith, h.0))) (ap (λ ys. x ∷ ys) (above_all n xs h.1))

got_above : (n k : ℕ) (xs : List Incident) (y : Incident) → IsAbove n xs → slice_get xs k ≡ Some y
    → n < y.number
got_above n k [] y h e = cc
got_above n zero (x ∷ xs) y h e = let same : x ≡ y = cc in subst (λ (z : Incident). n < z.number) same h.0
got_above n (suc k) (x ∷ xs) y h e = got_above n k xs y h.1 e

-- the first row has a lower number than those that are left
rest_after : (x : Incident) (xs : List Incident) (o : Option Incident)
    → ((y : Incident) → o ≡ Some y → x.number < y.number)
    → rest_from (option_map (λ i. i.number) o) (x ∷ xs) ≡ rest_from (option_map (λ i. i.number) o) xs
rest_after x xs None above = refl
rest_after x xs (Some y) above = rw (is_lower y.number x.number (above y refl)) refl
  where
    is_lower : (n m : ℕ) → m < n → nat_le n m ≡ false
    is_lower n m less = grind (arith, less)

page_and_rest : (k : ℕ) (xs : List Incident) → Rises xs
    → take k xs ++ rest_from (option_map (λ i. i.number) (slice_get xs k)) xs ≡ xs
page_and_rest zero [] h = refl
page_and_rest zero (x ∷ xs) h =
    rw (le-leb x.number x.number (omega arith)) (ap (λ ys. x ∷ ys) (above_all x.number xs h.0))
page_and_rest (suc k) [] h = refl
page_and_rest (suc k) (x ∷ xs) h =
    ap (λ ys. x ∷ (take k xs ++ ys))
    (rest_after x xs (slice_get xs k) (λ y e. got_above x.number k xs y h.0 e))
    ∙ ap (λ ys. x ∷ ys) (page_and_rest k xs h.1)

got_at_head : (p : Incident → Bool) (k : ℕ) (x y : Incident) (xs : List Incident) → p x ≡ true
    → ((m : ℕ) → slice_get xs m ≡ Some y → p y ≡ true) → slice_get (x ∷ xs) k ≡ Some y → p y ≡ true
got_at_head p zero x y xs f rest g = let same : x ≡ y = cc in subst (λ (z : Incident). p z ≡ true) same f
got_at_head p (suc k) x y xs f rest g = rest k g

got_passes : (p : Incident → Bool) (k : ℕ) (xs : List Incident) (y : Incident)
    → slice_get (filter p xs) k ≡ Some y → p y ≡ true
got_passes p k [] y e = cc
got_passes p k (x ∷ xs) y e =
    (elim (p x) as (λ (b : Bool). p x ≡ b → slice_get (cond b (x ∷ filter p xs) (filter p xs)) k ≡ Some y → p y ≡ true) [
      | true ↦ λ f g. got_at_head p k x y (filter p xs) f (λ m h. got_passes p m xs y h) g
      | false ↦ λ f g. got_passes p k xs y g
    ]) refl e

-- what is left of all is what is left of those from a number on
rest_of_all : (n : ℕ) (is : List Incident) (o : Option Incident)
    → ((y : Incident) → o ≡ Some y → nat_le n y.number ≡ true)
    → rest_from (option_map (λ i. i.number) o) (from_number n is)
    ≡ rest_from (option_map (λ i. i.number) o) is
rest_of_all n is None above = refl
rest_of_all n is (Some y) above =
    filter_filter (λ (i : Incident). nat_le y.number i.number) (λ i. nat_le n i.number) is (λ i g.
    le-leb n i.number (reaches (leb-true n y.number (above y refl)) (leb-true y.number i.number g)))
  where
    reaches : {n m k : ℕ} → n ≤ m → m ≤ k → n ≤ k
    reaches f g = omega (arith, f, g)

pub loses_nothing : (d : ℕ) (from to : ℤ) (x : Sought) (n : ℕ) (r : Room) → IsInOrder r
    → LosesNothing (page_of (from_number n (incidents_found d from to x r))) n (incidents_found d from to x r)
loses_nothing d from to x n r order =
    let is = incidents_found d from to x r in
    ap (λ ys. take 100 (from_number n is) ++ ys)
    (sym (rest_of_all n is (slice_get (from_number n is) 100)
    (λ y e. got_passes (λ (i : Incident). nat_le n i.number) 100 is y e)))
    ∙ page_and_rest 100 (from_number n is) (rises_filter _ is (found_rise d from to x r order))

-- ---- classes
passing_mapped : (p : TimesLine → Bool) (is : List Incident)
    → length (filter p (map times_line is)) ≡ length (filter (λ i. p (times_line i)) is)
passing_mapped p [] = refl
passing_mapped p (i ∷ is) =
    elim (p (times_line i)) as (λ (b : Bool).
    length (cond b (times_line i ∷ filter p (map times_line is)) (filter p (map times_line is)))
    ≡ length (cond b (i ∷ filter (λ k. p (times_line k)) is) (filter (λ k. p (times_line k)) is))) [
      | true ↦ ap suc (passing_mapped p is)
      | false ↦ passing_mapped p is
    ]

opened_of_class : (c d : ℕ) (from to : ℤ) (r : Room)
    → of_class c (incidents_opened d from to r) ≡ incidents_opened d from to (only_class c r)
unfolding incidents_opened
opened_of_class c d from to r = filters_turned (λ (i : Incident). i.class == c) _ r.incidents

pub class_counted : (c d : ℕ) (from to : ℤ) (r : Room)
    → class_line (incidents_opened d from to r) c ≡ counted c (times_of_class c d from to r)
class_counted c d from to r =
    let is = incidents_opened d from to (only_class c r) in
    ap (λ (xs : List Incident). record {
      class = c;
      opened = length xs;
      activated = length (filter (λ i. is_some (activation_of i)) xs);
      within = length (filter (λ i. is_prompt (activation_of i)) xs);
    }) (opened_of_class c d from to r)
    ∙ (λ j. record {
      class = c;
      opened = sym (length-map is times_line) j;
      activated = sym (passing_mapped (λ l. is_some l.activation) is) j;
      within = sym (passing_mapped (λ l. is_prompt l.activation) is) j;
    })
