-- Calls.
use Rattle.std.specs.Prelude.{Bool, Err, None, Option, Some, [], false, min, nat_le, not, true, ℕ}
use Rattle.std.specs.Prelude.{◌&&◌, ◌+◌, ◌==◌, ◌∷◌}
use Rattle.room_place.specs.Places.{same_place}
use Rattle.room_place.specs.Plans.{division_of}
use Rattle.room_types.specs.declared.asks.CallForm.{CallForm}
use Rattle.room_types.specs.declared.asks.NewCall.{NewCall}
use Rattle.room_types.specs.declared.changes.Change.TheVariants.{PutCall, PutDivision, PutIncident}
use Rattle.room_types.specs.declared.codes.State.TheVariants.{Active}
use Rattle.room_types.specs.declared.tables.Call.{Call}
use Rattle.room_types.specs.declared.tables.Division.{Division}
use Rattle.room_types.specs.declared.tables.Incident.{Incident}
use Rattle.room_types.specs.Needs.{larger, same_needs}
use Rattle.room_types.specs.Texts.{same_note}
use Rattle.room_model.specs.Decisions.{Verdict, refuse_if, show, with_changes}
use Rattle.room_model.specs.Moments.{number_limit}
use Rattle.room_model.specs.Queries.{kept_call, last_number, last_serial, link_target}
use Rattle.room_model.specs.Room.{Room}
use Rattle.room_types.specs.declared.answers.Answer.TheVariants as answer
use Rattle.room_types.specs.declared.refusal_statuses.Refusal.{Refusal}
use Rattle.room_types.specs.declared.refusal_statuses.Refusal.TheVariants as refusal

-- a call form, with its position and moment
abbrev pub new_call : ℕ → CallForm → ℕ → NewCall
new_call p f at = record {
  position = p;
  serial = f.serial;
  place = f.place;
  class = f.class;
  needs = f.needs;
  note = f.note;
  at = at;
}

abbrev pub call_row : ℕ → ℕ → Bool → NewCall → Call
call_row d n linked new = record {
  position = new.position;
  serial = new.serial;
  division = d;
  incident = n;
  given = n;
  linked = linked;
  place = new.place;
  class = new.class;
  needs = new.needs;
  note = new.note;
  at = new.at;
}

-- an incident with one more call: the lower class, the larger needs, the earlier opening
abbrev pub with_call : NewCall → Incident → Incident
with_call new i = record i {
  class = min i.class new.class;
  needs = larger i.needs new.needs;
  opened = min i.opened new.at;
}

abbrev pub new_incident : ℕ → ℕ → NewCall → Incident
new_incident d n new = record {
  division = d;
  number = n;
  place = new.place;
  class = new.class;
  needs = new.needs;
  opened = new.at;
  first_order = None;
  state = Active;
}

-- a call that makes an incident
abbrev pub call_new : ℕ → NewCall → Option Division → Verdict
call_new d new None = Err refusal.NumbersUsedUp
call_new d new (Some v) = refuse_if (nat_le number_limit v.last_incident) refusal.NumbersUsedUp
    (with_changes (answer.Called d (v.last_incident + 1) false)
    (PutDivision (record v { last_incident = v.last_incident + 1 })
    ∷ PutIncident (new_incident d (v.last_incident + 1) new)
    ∷ PutCall (call_row d (v.last_incident + 1) false new) ∷ []))

-- a call that is linked, where there is an incident for it
abbrev pub call_taken : ℕ → NewCall → Option Incident → Option Division → Verdict
call_taken d new (Some i) v = with_changes (answer.Called d i.number true)
    (PutIncident (with_call new i) ∷ PutCall (call_row d i.number true new) ∷ [])
call_taken d new None v = call_new d new v

-- a call that is not kept, in its division
unfoldable pub call_in : ℕ → NewCall → Room → Verdict
call_in d new r = call_taken d new (link_target d new.place new.at r) (last_number d r)

abbrev pub same_call : Call → NewCall → Bool
same_call c new =
    same_place c.place new.place
    && (c.class == new.class && (same_needs c.needs new.needs && same_note c.note new.note))

abbrev pub call_somewhere : Option ℕ → NewCall → Room → Verdict
call_somewhere None new r = Err refusal.OutsideArea
call_somewhere (Some d) new r = call_in d new r

-- a kept serial gets its kept reply before anything else
abbrev pub call_kept : Option Call → NewCall → Room → Verdict
call_kept (Some k) new r = refuse_if (not (same_call k new)) refusal.SerialReused
    (show (answer.Called k.division k.given k.linked))
call_kept None new r = call_somewhere (division_of r.plan new.place) new r

-- why a call from outside every division is refused again: its serial may be another call's by now
abbrev pub outside_again : Option Call → Refusal
outside_again None = refusal.OutsideArea
outside_again (Some k) = refusal.SerialReused

abbrev pub take_call : NewCall → Room → Verdict
take_call new r = call_kept (kept_call new.position new.serial r) new r

-- the greatest serial that the position gave
abbrev pub show_last_serial : ℕ → Room → Verdict
show_last_serial p r = show (answer.LastSerial (last_serial p r))
