-- A division's incidents have numbers of their own, and those of a day are the room's.
use Rattle.std.proofs.Common.{Bool, List, [], ap, arith, cond, get_or, length, map, refl, subst}
use Rattle.std.proofs.Common.{suc, false, sym, true, zero, ℕ, ℤ, ◌+◌, ◌∙◌, ◌∷◌, ◌<◌, ◌≡◌, ◌≤◌}
use Rattle.std.proofs.lemmas.Bool.{eqb-true}
use Rattle.std.proofs.lemmas.Cmp.{nat_cmp_total, ranked, tied_itself}
use Rattle.std.specs.List.{list_all}
use Rattle.std.specs.Ordering.{nat_cmp, ordering_then}
use Rattle.std.specs.declared.cmp.Ordering.TheVariants.{Less}
use Rattle.std.specs.Prelude.{filter, is_some, ◌&&◌, ◌==◌}
use Rattle.room_types.specs.KeyedRows.{IsBelowAll, IsKeyed}
use Rattle.room_types.specs.Keys.{incident_key, owns_incident, pair_cmp}
use Rattle.room_types.specs.declared.answers.Answer.TheVariants as answer
use Rattle.room_types.specs.declared.answers.TimesLine.{TimesLine}
use Rattle.room_types.specs.declared.tables.Incident.{Incident}
use Rattle.room_model.proofs.Tests.{left_true, right_true}
use Rattle.room_model.specs.DayTimes.{is_prompt, show_times, times_line, times_of}
use Rattle.room_model.specs.Decisions.{show}
use Rattle.room_model.specs.Queries.{incidents_opened}
use Rattle.room_model.specs.Room.{Room}
use Rattle.room_incident.specs.DayIncidents.{is_opened_between, line_number}

module _ (d : ℕ) (from to : ℤ) where
  opened_are : (xs : List Incident) → list_all (owns_incident d) xs ≡ true
      → filter (λ i. i.division == d && is_opened_between from to i) xs
      ≡ filter (is_opened_between from to) xs
  opened_are [] h = refl
  opened_are (x ∷ xs) h =
      rw (left_true (x.division == d) _ h)
      (ap (λ ys. cond (is_opened_between from to x) (x ∷ ys) ys) (opened_are xs (right_true (x.division == d) _ h)))

  pub opened_so : (r : Room) (xs : List Incident) → r.incidents ≡ xs
      → list_all (owns_incident d) xs ≡ true
      → filter (is_opened_between from to) xs ≡ incidents_opened d from to r
  unfolding incidents_opened
  opened_so r xs same owned =
      sym (opened_are xs owned) ∙ ap (filter (λ i. i.division == d && is_opened_between from to i)) (sym same)

  pub times_so : (r : Room) (xs : List Incident) → r.incidents ≡ xs
      → list_all (owns_incident d) xs ≡ true
      → (f t : ℤ) (lines : List TimesLine) (activated within : ℕ) → f ≡ from → t ≡ to
      → lines ≡ map times_line (filter (is_opened_between f t) xs)
      → activated ≡ length (filter (λ (l : TimesLine). is_some l.activation) lines)
      → within ≡ length (filter (λ (l : TimesLine). is_prompt l.activation) lines)
      → show (answer.Times (record {
        from = f;
        to = t;
        activated = activated;
        within =
            within;
        lines = lines;
      })) ≡ show_times d from to r
  unfolding show_times
  times_so r xs same owned f t lines activated within from_is to_is listed counted_all counted_prompt =
      let all : lines ≡ map times_line (incidents_opened d from to r) =
      listed
      ∙ (ap (λ (z : ℤ). map times_line (filter (is_opened_between z t) xs)) from_is
      ∙ (ap (λ (z : ℤ). map times_line (filter (is_opened_between from z) xs)) to_is
      ∙ ap (map times_line) (opened_so r xs same owned))) in
      rw (from_is, to_is, counted_all, counted_prompt)
      (ap (λ (ls : List TimesLine). show (answer.Times (times_of from to ls))) all)

-- ---- numbers of their own
number_less : (d n m : ℕ) → pair_cmp (d, n) (d, m) ≡ Less → nat_cmp n m ≡ Less
number_less d n m e = subst (λ o. ordering_then o (nat_cmp n m) ≡ Less) (tied_itself nat_cmp_total d) e

pair_less : (d n m : ℕ) → pair_cmp (d, n) (d, m) ≡ Less → n < m
pair_less d n m e = ranked n m Less (sym (number_less d n m e))

module _ (d : ℕ) where
  -- each is at least as far above the first as its place in the list
  climbs_from : (y : Incident) (ys : List Incident) → list_all (owns_incident d) (y ∷ ys) ≡ true
      → IsKeyed pair_cmp incident_key (y ∷ ys) → (i : ℕ) (x : Incident) → i < length (y ∷ ys)
      → x ≡ get_or (y ∷ ys) i x → y.number + i ≤ x.number
  climbs_from y ys owned keyed zero x lt e = let same = ap (λ (z : Incident). z.number) e in omega arith
  climbs_from y [] owned keyed (suc i) x lt e = absurd (omega (arith, lt))
  climbs_from y (z ∷ zs) owned keyed (suc i) x lt e =
      let rest = right_true (y.division == d) _ owned in
      let within : i < length (z ∷ zs) = omega (arith, lt) in
      let y_is : y.division ≡ d = eqb-true _ _ (left_true (y.division == d) _ owned) in
      let z_is : z.division ≡ d = eqb-true _ _ (left_true (z.division == d) _ rest) in
      let below : pair_cmp (d, y.number) (d, z.number) ≡ Less =
      subst (λ k. pair_cmp (k, y.number) (d, z.number) ≡ Less) y_is
      (subst (λ k. pair_cmp (y.division, y.number) (k, z.number) ≡ Less) z_is keyed.0.0) in
      let next = climbs_from z zs rest keyed.1 i x within e in
      let first : y.number < z.number = pair_less d y.number z.number below in
      omega (arith, next, first)

  pub climbs : (xs : List Incident) → list_all (owns_incident d) xs ≡ true
      → IsKeyed pair_cmp incident_key xs → (i : ℕ) (x : Incident) → i < length xs
      → x ≡ get_or xs i x → i ≤ x.number
  climbs [] owned keyed i x lt e = absurd (omega (arith, lt))
  climbs (y ∷ ys) owned keyed i x lt e = omega (arith, climbs_from y ys owned keyed i x lt e)

  -- the lines stand in the order of their incidents
  module _ (p : Incident → Bool) where
    lines_below : (n : ℕ) (zs : List Incident) → list_all (owns_incident d) zs ≡ true
        → IsBelowAll pair_cmp incident_key (d, n) zs
        → IsBelowAll nat_cmp line_number n (map times_line (filter p zs))
    lines_below n [] owned h = tt
    lines_below n (z ∷ zs) owned h =
        let z_is : z.division ≡ d = eqb-true _ _ (left_true (z.division == d) _ owned) in
        let first = number_less d n z.number (subst (λ k. pair_cmp (d, n) (k, z.number) ≡ Less) z_is h.0) in
        let rest = lines_below n zs (right_true (z.division == d) _ owned) h.1 in
        elim (p
        z) as (λ (b : Bool). IsBelowAll nat_cmp line_number n (map times_line (cond b (z ∷ filter p zs) (filter p zs)))) [
          | true ↦ (first, rest)
          | false ↦ rest
        ]

    pub lines_rise : (xs : List Incident) → list_all (owns_incident d) xs ≡ true
        → IsKeyed pair_cmp incident_key xs
        → IsKeyed nat_cmp line_number (map times_line (filter p xs))
    lines_rise [] owned keyed = tt
    lines_rise (x ∷ xs) owned keyed =
        let x_is : x.division ≡ d = eqb-true _ _ (left_true (x.division == d) _ owned) in
        let others = right_true (x.division == d) _ owned in
        let below = lines_below x.number xs others
        (subst (λ k. IsBelowAll pair_cmp incident_key (k, x.number) xs) x_is keyed.0) in
        let rest = lines_rise xs others keyed.1 in
        elim (p
        x) as (λ (b : Bool). IsKeyed nat_cmp line_number (map times_line (cond b (x ∷ filter p xs) (filter p xs)))) [
          | true ↦ (below, rest)
          | false ↦ rest
        ]
