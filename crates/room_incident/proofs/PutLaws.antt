-- What a decision puts.
use Rattle.std.proofs.Common.{List, None, Option, Some, [], ap, inl, inr, ◌++◌, ◌∙◌, ◌∷◌, ◌≡◌}
use Rattle.room_place.specs.Choice.{Among}
use Rattle.room_types.specs.declared.changes.Change.{Change}
use Rattle.room_types.specs.declared.changes.Change.TheVariants.{PutIncident}
use Rattle.room_types.specs.declared.decisions.Decision.{Decision}
use Rattle.room_types.specs.declared.tables.Incident.{Incident}

-- after one change more
pub put_after : (a b : Decision) (c : Change) (cs : List Change) → a.changes ≡ cs
    → b ≡ record a { changes = a.changes ++ c ∷ [] } → b.changes ≡ cs ++ c ∷ []
put_after a b c cs are is = ap (λ (x : Decision). x.changes) is ∙ ap (λ xs. xs ++ c ∷ []) are

-- with these changes in place of another's
pub changed_is : (a b : Decision) (cs : List Change) → a.changes ≡ cs → a.answer ≡ b.answer
    → a ≡ record b { changes = cs }
changed_is a b cs are same =
    ap (λ ys. record a { changes = ys }) are ∙ ap (λ y. record b { changes = cs; answer = y }) same

abbrev incident_of : Change → Option Incident
incident_of (PutIncident i) = Some i
incident_of _ = None

pub one_put : (i j : Incident) → Among (PutIncident i) (PutIncident j ∷ []) → j ≡ i
one_put i j (inl e) = let same : Some i ≡ Some j = ap incident_of e in cc
one_put i j (inr h) = absurd h
