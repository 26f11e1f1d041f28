-- What two incidents are joined to.
use Rattle.std.proofs.Common.{List, None, Option, Some, [], ap, arith, inl, inr, map, refl, subst}
use Rattle.std.proofs.Common.{sym, ℕ, ◌++◌, ◌∙◌, ◌∷◌, ◌≡◌, ◌≤◌}
use Rattle.room_place.specs.Choice.{Among}
use Rattle.room_types.specs.Needs.{larger, need_of}
use Rattle.room_types.specs.declared.changes.Change.{Change}
use Rattle.room_types.specs.declared.changes.Change.TheVariants.{PutCall, PutIncident}
use Rattle.room_types.specs.declared.codes.Kind.{Kind}
use Rattle.room_types.specs.declared.codes.Kind.TheVariants.{Ambulance, Car, Support}
use Rattle.room_types.specs.declared.decisions.Decision.{Decision}
use Rattle.room_types.specs.declared.needs.Counts.{Counts}
use Rattle.room_types.specs.declared.tables.Call.{Call}
use Rattle.room_types.specs.declared.tables.Incident.{Incident}
use Rattle.room_model.specs.Incidents.{joined, moved_call}
use Rattle.room_incident.specs.IncidentMerges.{IsNoLess, Joins}

-- ---- the calls that move
abbrev call_of : Change → Option Call
call_of (PutCall c) = Some c
call_of _ = None

only_calls : (m : ℕ) (cs : List Call) (c : Call) → Among (PutCall c) (map (moved_call m) cs)
    → c.incident ≡ m
only_calls m [] c h = absurd h
only_calls m (x ∷ cs) c h = elim h [
  | inl e ↦ let is_some : Some c ≡ Some (record x { incident = m }) = ap call_of e in
      let is_moved : c ≡ record x { incident = m } = cc in
      ap (λ (y : Call). y.incident) is_moved
  | inr g ↦ only_calls m cs c g
]

no_call : (c : Call) (i : Incident) → PutCall c ≡ PutIncident i → ⊥
no_call c i e = let none : Some c ≡ None = ap call_of e in absurd (cc)

-- ---- no less than either
larger_first : (a b : Counts) (k : Kind) → need_of a k ≤ need_of (larger a b) k
larger_first a b Ambulance = omega arith
larger_first a b Car = omega arith
larger_first a b Support = omega arith

pub larger_second : (a b : Counts) (k : Kind) → need_of b k ≤ need_of (larger a b) k
larger_second a b Ambulance = omega arith
larger_second a b Car = omega arith
larger_second a b Support = omega arith

first_no_less : (n m : Incident) → IsNoLess n (joined n m)
first_no_less n m = record { class = omega arith; needs = larger_first n.needs m.needs; opened = omega arith }

second_no_less : (n m : Incident) → IsNoLess m (joined n m)
second_no_less n m = record { class = omega arith; needs = larger_second n.needs m.needs; opened = omega arith }

pub joins_so : (n m target into merged : Incident) (cs : List Call) (x : Decision)
    → into ≡ joined n m → target ≡ m
    → x.changes ≡ PutIncident into ∷ PutIncident merged ∷ map (moved_call target.number) cs
    → Joins n m x
joins_so n m target into merged cs x joins is_m are =
    let puts = are ∙ ap (λ j. PutIncident j ∷ PutIncident merged ∷ map (moved_call target.number) cs) joins
    ∙ ap (λ (t : Incident). PutIncident (joined n m) ∷ PutIncident merged ∷ map (moved_call t.number) cs) is_m in
    record {
      into = joined n m;
      put = subst (Among (PutIncident (joined n m))) (sym puts) (inl refl);
      source = first_no_less n m;
      target = second_no_less n m;
      number = refl;
      place = refl;
      calls = λ c among. elim (subst (Among (PutCall c)) puts among) [
        | inl e ↦ absurd (no_call c (joined n m) e)
        | inr h ↦ elim h [
          | inl e ↦ absurd (no_call c merged e)
          | inr g ↦ only_calls m.number cs c g
        ]
      ];
    }

-- two are put one after the other
pub put_two : (none first both : List Change) (a b : Change) → none ≡ [] → first ≡ none ++ a ∷ []
    → both ≡ first ++ b ∷ [] → both ≡ a ∷ b ∷ []
put_two none first both a b empty one two =
    two ∙ ap (λ xs. xs ++ b ∷ []) (one ∙ ap (λ xs. xs ++ a ∷ []) empty)
