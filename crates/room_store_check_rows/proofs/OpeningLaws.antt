-- The openings that calls give: those of one call more, and which incidents they are of.
use Rattle.std.specs.BTreeSet.{BTreeSet, Updates, contains}
use Rattle.std.specs.Cmp.{IsTotalOrder}
use Rattle.std.specs.List.{list_any}
use Rattle.std.specs.Ordering.{is_eq, nat_cmp, ordering_then}
use Rattle.std.specs.Prelude.{◌&&◌, ◌==◌, ◌||◌}
use Rattle.std.specs.declared.cmp.Ordering.TheVariants.{Equal, Greater, Less}
use Rattle.std.specs.declared.cmp.Ordering.{Ordering}
use Rattle.std.proofs.Common.{Bool, List, [], ap, arith, cond, false, refl, sym, true, ℕ, ◌++◌, ◌∙◌}
use Rattle.std.proofs.Common.{◌∷◌, ◌≡◌}
use Rattle.std.proofs.lemmas.Bool.Decides.{nat_tests}
use Rattle.std.proofs.lemmas.Cmp.{eq_by_cmp_equiv, nat_cmp_total, on_total, then_total}
use Rattle.std.proofs.lemmas.List.Folds.{list_any-append}
use Rattle.room_types.specs.Codes.{is_merged}
use Rattle.room_types.specs.declared.slices.DivisionRows.{DivisionRows}
use Rattle.room_types.specs.declared.tables.Call.{Call}
use Rattle.room_types.specs.declared.tables.Incident.{Incident}
use Rattle.room_store_check_rows.specs.FirstFaults.{first_of, opening_fault, uncalled_fault, unless}
use Rattle.room_store_check_rows.specs.RowTests.{opening_cmp, opening_of, opens}
use Rattle.room_store_check_rows.specs.HistoryChecks.{AreOpenings}
use Rattle.room_store_check_rows.specs.declared.disagreements.Disagreement.TheVariants as wrong
use Rattle.room_store_check_rows.specs.declared.disagreements.IncidentFault.TheVariants as incident
use Rattle.room_store_check_rows.proofs.FaultLaws.{first_alike}

-- ---- one call more
opening_total : IsTotalOrder opening_cmp
opening_total =
    then_total
    (then_total (on_total (λ (x : ℕ × ℕ × ℕ). x.0) nat_cmp_total) (on_total (λ (x : ℕ × ℕ × ℕ). x.1) nat_cmp_total))
    (on_total (λ (x : ℕ × ℕ × ℕ). x.2) nat_cmp_total)

or_last : (last before : Bool) → cond last true before ≡ (before || (last || false))
or_last true true = refl
or_last true false = refl
or_last false true = refl
or_last false false = refl

pub openings_more : (calls : List Call) (c : Call) (old new : BTreeSet (ℕ × ℕ × ℕ)) → AreOpenings calls old
    → Updates opening_cmp old new (opening_of c) true → AreOpenings (calls ++ c ∷ []) new
openings_more calls c old new are_openings updates x =
    let gives_it = λ (c : Call). is_eq (opening_cmp x (opening_of c)) in
    updates.0 x
    ∙ ap (λ b. cond b true (contains opening_cmp old x)) ((eq_by_cmp_equiv opening_total).symm (opening_of c) x)
    ∙ ap (λ b. cond (gives_it c) true b) (are_openings x)
    ∙ or_last (gives_it c) (list_any gives_it calls)
    ∙ sym (list_any-append gives_it calls (c ∷ []))

-- ---- a call that opened an incident
same_number : (m n : ℕ) → is_eq (nat_cmp m n) ≡ (m == n)
same_number m n = grind (arith, nat_tests)

both_same : (o p : Ordering) → is_eq (ordering_then o p) ≡ (is_eq o && is_eq p)
both_same Less p = refl
both_same Equal p = refl
both_same Greater p = refl

regroup : (a b c d e f : Bool) → a ≡ d → b ≡ e → c ≡ f → (a && b) && c ≡ d && (e && f)
regroup true b c d e f p q r = rw (← p, q, r) refl
regroup false b c d e f p q r = rw (← p) refl

openings_alike : (x y : ℕ × ℕ × ℕ) → is_eq (opening_cmp x y) ≡ (x.0 == y.0 && (x.1 == y.1 && x.2 == y.2))
openings_alike x y =
    both_same (ordering_then (nat_cmp x.0 y.0) (nat_cmp x.1 y.1)) (nat_cmp x.2 y.2)
    ∙ ap (λ b. b && is_eq (nat_cmp x.2 y.2)) (both_same (nat_cmp x.0 y.0) (nat_cmp x.1 y.1))
    ∙ regroup _ _ _ _ _ _ (same_number x.0 y.0) (same_number x.1 y.1) (same_number x.2 y.2)

-- a call gave the incident's opening exactly where it opened it
opening_called : (i : Incident) (cs : List Call)
    → list_any (λ c. is_eq (opening_cmp (i.division, i.number, i.opened) (opening_of c))) cs
    ≡ list_any (opens i) cs
opening_called i [] = refl
opening_called i (c ∷ cs) =
    rw (openings_alike (i.division, i.number, i.opened) (c.division, c.incident, c.at), opening_called i cs) refl

-- so the search by what calls give is the search among the calls
pub uncalled_unopened : (s : DivisionRows) (openings : BTreeSet (ℕ × ℕ × ℕ)) → AreOpenings s.calls openings
    → first_of (uncalled_fault openings) s.incidents ≡ first_of (opening_fault s) s.incidents
uncalled_unopened s openings are_openings =
    first_alike _ _ s.incidents (λ i there.
    ap (λ b. unless (is_merged i.state || b) (wrong.Incident i.division i.number incident.NoCall))
    (are_openings (i.division, i.number, i.opened) ∙ opening_called i s.calls))
