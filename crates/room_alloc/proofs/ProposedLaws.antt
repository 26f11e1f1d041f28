-- What is proposed, in a room with only the division's rows.
use Rattle.std.proofs.Common.{Bool, List, Ok, Some, ap, false, refl, sym, true, ℕ, ◌∙◌, ◌≡◌}
use Rattle.std.specs.Prelude.{not}
use Rattle.room_place.specs.declared.plans.Area.{Area}
use Rattle.room_types.specs.Codes.{is_active}
use Rattle.room_types.specs.declared.answers.Answer.TheVariants.{Proposals}
use Rattle.room_types.specs.declared.codes.Kind.TheVariants.{Ambulance, Car, Support}
use Rattle.room_types.specs.declared.decisions.Decision.{Decision}
use Rattle.room_types.specs.declared.refusal_statuses.Refusal.TheVariants.{IncidentNotOpen}
use Rattle.room_types.specs.declared.slices.DivisionRows.{DivisionRows}
use Rattle.room_types.specs.declared.tables.Incident.{Incident}
use Rattle.room_model.proofs.ProposalLaws.{proposed_first}
use Rattle.room_model.specs.Decisions.{Verdict, answer_of, refuse_if, show, where_active}
use Rattle.room_model.specs.Proposals.{all_proposed, candidates, propose, proposed}
use Rattle.room_model.specs.Queries.{holders, incident_of, point_of, served}
use Rattle.room_model.specs.Room.{IsInOrder, Room}
use Rattle.room_model.specs.RoomSlices.{room_of, unplanned}
use Rattle.room_alloc.specs.ProposalAnswers.{AreForIncident}

-- no proposal looks at the plan
any_plan : (d : ℕ) (i : Incident) (at : ℕ) (plan : List Area) (s : DivisionRows)
    → all_proposed d i at (unplanned s) ≡ all_proposed d i at (room_of plan s)
unfolding candidates holders point_of served
any_plan d i at plan s = refl

pub all_proposals : (d n at : ℕ) (plan : List Area) (s : DivisionRows) (i : Incident)
    → ((decide : Incident → Verdict)
    → where_active (incident_of d n (room_of plan s)) decide ≡ decide i)
    → propose d n at (room_of plan s) ≡ show (Proposals (all_proposed d i at (unplanned s)))
unfolding propose
all_proposals d n at plan s i there =
    there (λ j. show (Proposals (all_proposed d j at (room_of plan s))))
    ∙ ap (λ ps. show (Proposals ps)) (sym (any_plan d i at plan s))

-- ---- in words
module _ (d n at : ℕ) (r : Room) (order : IsInOrder r) (i : Incident) (x : Decision) where
  of_incident : x.answer ≡ Proposals (all_proposed d i at r) → AreForIncident d i at r x.answer
  of_incident e = record {
    ambulances = proposed d i at r Ambulance;
    cars = proposed d i at r Car;
    support = proposed d i at r Support;
    ambulances_first = proposed_first d i at r Ambulance order;
    cars_first = proposed_first d i at r Car order;
    support_first = proposed_first d i at r Support order;
    joined = e;
  }

  same_proposals : (b : Bool)
      → refuse_if b IncidentNotOpen (show (Proposals (all_proposed d i at r))) ≡ Ok x
      → x.answer ≡ Proposals (all_proposed d i at r)
  unfolding refuse_if
  same_proposals true e = cc
  same_proposals false e = let answers = ap answer_of e in cc

  pub for_incident : incident_of d n r ≡ Some i → propose d n at r ≡ Ok x
      → AreForIncident d i at r x.answer
  unfolding propose
  for_incident there e =
      of_incident (same_proposals (not (is_active i.state))
      (ap (λ o. where_active o (λ j. show (Proposals (all_proposed d j at r)))) (sym there) ∙ e))
