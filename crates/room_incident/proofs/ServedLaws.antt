-- What is counted of a room's turns is what the room says.
use Rattle.std.proofs.Common.{Bool, List, None, Option, Some, [], ap, arith, eq-eqb, false, inl}
use Rattle.std.proofs.Common.{inr, length, refl, sym, true, ℕ, ◌-◌, ◌∙◌, ◌∷◌, ◌≡◌, ◌≤◌}
use Rattle.std.proofs.lemmas.Bool.Decides.{nat_tests}
use Rattle.std.specs.List.{list_any}
use Rattle.std.specs.Prelude.{IsSome, filter, is_none, ◌||◌}
use Rattle.room_place.specs.Choice.{Among}
use Rattle.room_types.specs.Needs.{need_of}
use Rattle.room_types.specs.declared.codes.Kind.{Kind}
use Rattle.room_types.specs.declared.codes.Kind.TheVariants.{Ambulance, Car, Support}
use Rattle.room_types.specs.declared.needs.Counts.{Counts}
use Rattle.room_types.specs.declared.tables.Incident.{Incident}
use Rattle.room_types.specs.declared.tables.Turn.{Turn}
use Rattle.room_model.specs.Incidents.{is_below, lacking}
use Rattle.room_model.specs.Queries.{is_attended, served}
use Rattle.room_model.specs.Room.{Room}
use Rattle.room_incident.specs.ServedNeeds.{is_open_for, serves}

pub served_so : (d n : ℕ) (k : Kind) (r : Room) (turns : List Turn) → r.turns ≡ turns
    → length (filter (serves d n k) turns) ≡ served d n k r
unfolding served
served_so d n k r turns same = ap (λ ts. length (filter (serves d n k) ts)) (sym same)

pub lacking_so : (i : Incident) (k : Kind) (turns : List Turn) (d : ℕ) (r : Room) → r.turns ≡ turns
    → i.division ≡ d → need_of i.needs k - length (filter (serves i.division i.number k) turns)
    ≡ lacking d i r k
lacking_so i k turns d r same division =
    ap (λ e. need_of i.needs k - length (filter (serves e i.number k) turns)) division
    ∙ ap (λ n. need_of i.needs k - n) (served_so d i.number k r turns same)

pub attended_so : (d n : ℕ) (r : Room) (turns : List Turn) → r.turns ≡ turns
    → list_any (is_open_for d n) turns ≡ is_attended d n r
unfolding is_attended
attended_so d n r turns same = ap (λ ts. list_any (is_open_for d n) ts) (sym same)

-- ---- in plain words
-- needs that are not below what was served
pub not_below : (n : Counts) (got : Kind → ℕ) → is_below n got ≡ false → (k : Kind)
    → got k ≤ need_of n k
not_below n got e Ambulance = grind (arith, nat_tests)
not_below n got e Car = grind (arith, nat_tests)
not_below n got e Support = grind (arith, nat_tests)

ended_one : (ended : Option ℕ) → is_none ended ≡ false → IsSome ended
ended_one None e = cc
ended_one (Some at) e = refl

or_false : (a b : Bool) → a || b ≡ false → (a ≡ false) × (b ≡ false)
or_false true b e = cc
or_false false b e = (refl, e)

is_ended : (d n : ℕ) (t : Turn) → t.division ≡ d → t.incident ≡ n → is_open_for d n t ≡ false
    → IsSome t.ended
is_ended d n t division incident e =
    ended_one t.ended (sym (rw (eq-eqb t.division d division, eq-eqb t.incident n incident) refl) ∙ e)

none_open : (d n : ℕ) (turns : List Turn) → list_any (is_open_for d n) turns ≡ false → (t : Turn)
    → Among t turns → t.division ≡ d → t.incident ≡ n → IsSome t.ended
none_open d n [] e t among division incident = absurd among
none_open d n (x ∷ turns) e t among division incident = elim among [
  | inl same ↦ is_ended d n t division incident (ap (is_open_for d n) same ∙ (or_false (is_open_for d n x) _ e).0)
  | inr later ↦ none_open d n turns (or_false (is_open_for d n x) _ e).1 t later division incident
]

-- an incident that is not attended has no open turn
pub all_ended : (d n : ℕ) (r : Room) → is_attended d n r ≡ false → (t : Turn) → Among t r.turns
    → t.division ≡ d → t.incident ≡ n → IsSome t.ended
unfolding is_attended
all_ended d n r e = none_open d n r.turns e
