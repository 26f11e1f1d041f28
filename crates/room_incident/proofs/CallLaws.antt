-- An incident covers the calls that it gets, and a new call is its division's.
use Rattle.std.proofs.Common.{None, Some, [], ap, arith, false, inl, inr, refl, subst, sym, true}
use Rattle.std.proofs.Common.{◌∙◌, ◌∷◌, ℕ, ◌≡◌}
use Rattle.room_place.specs.Choice.{Among}
use Rattle.room_place.specs.Plans.{division_of}
use Rattle.room_types.specs.Codes.{is_active}
use Rattle.room_types.specs.declared.asks.NewCall.{NewCall}
use Rattle.room_types.specs.declared.changes.Change.TheVariants.{PutCall, PutDivision, PutIncident}
use Rattle.room_types.specs.declared.decisions.Decision.{Decision}
use Rattle.room_types.specs.declared.tables.Call.{Call}
use Rattle.room_types.specs.declared.tables.Division.{Division}
use Rattle.room_types.specs.declared.tables.Incident.{Incident}
use Rattle.room_model.specs.Calls.{call_in, call_kept, call_row, call_somewhere, new_incident}
use Rattle.room_model.specs.Calls.{take_call, with_call}
use Rattle.room_model.specs.Queries.{kept_call}
use Rattle.room_model.specs.Room.{Room}
use Rattle.room_incident.proofs.MergeLaws.{larger_second}
use Rattle.room_incident.specs.LinkedCalls.{Covers}

pub linked_covers : (d : ℕ) (new : NewCall) (i j : Incident) (k : Call) (x : Decision)
    → is_active i.state ≡ true → i.division ≡ d → j ≡ with_call new i
    → k ≡ call_row d i.number true new → x.changes ≡ PutIncident j ∷ PutCall k ∷ [] → Covers new x
linked_covers d new i j k x active owned linked made are =
    let puts = are ∙ ap (λ y. PutIncident y ∷ PutCall k ∷ []) linked
    ∙ ap (λ y. PutIncident (with_call new i) ∷ PutCall y ∷ []) made in
    record {
      incident = with_call new i;
      call = call_row d i.number true new;
      puts_incident = subst (Among (PutIncident (with_call new i))) (sym puts) (inl refl);
      puts_call = subst (Among (PutCall (call_row d i.number true new))) (sym puts) (inr (inl refl));
      active = active;
      class = omega arith;
      needs = larger_second i.needs new.needs;
      opened = omega arith;
      number = refl;
      given = refl;
      division = sym owned;
    }

pub opened_covers : (d n : ℕ) (new : NewCall) (v : Division) (i : Incident) (k : Call)
    (x : Decision) → i ≡ new_incident d n new → k ≡ call_row d n false new
    → x.changes ≡ PutDivision v ∷ PutIncident i ∷ PutCall k ∷ [] → Covers new x
opened_covers d n new v i k x opened made are =
    let puts = are ∙ ap (λ y. PutDivision v ∷ PutIncident y ∷ PutCall k ∷ []) opened
    ∙ ap (λ y. PutDivision v ∷ PutIncident (new_incident d n new) ∷ PutCall y ∷ []) made in
    record {
      incident = new_incident d n new;
      call = call_row d n false new;
      puts_incident = subst (Among (PutIncident (new_incident d n new))) (sym puts) (inr (inl refl));
      puts_call = subst (Among (PutCall (call_row d n false new))) (sym puts) (inr (inr (inl refl)));
      active = refl;
      class = omega arith;
      needs = λ k. omega arith;
      opened = omega arith;
      number = refl;
      given = refl;
      division = refl;
    }

pub taken_in : (d : ℕ) (new : NewCall) (r : Room) → kept_call new.position new.serial r ≡ None
    → division_of r.plan new.place ≡ Some d → take_call new r ≡ call_in d new r
taken_in d new r absent there = ap (λ k. call_kept k new r) absent ∙ ap (λ o. call_somewhere o new r) there
