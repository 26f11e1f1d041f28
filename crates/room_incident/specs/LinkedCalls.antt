-- What a call becomes.
use Rattle.std.specs.Prelude.{true, ◌≡◌, ◌≤◌}
use Rattle.room_place.specs.Choice.{Among}
use Rattle.room_types.specs.Codes.{is_active}
use Rattle.room_types.specs.Needs.{need_of}
use Rattle.room_types.specs.declared.asks.NewCall.{NewCall}
use Rattle.room_types.specs.declared.changes.Change.TheVariants.{PutCall, PutIncident}
use Rattle.room_types.specs.declared.codes.Kind.{Kind}
use Rattle.room_types.specs.declared.decisions.Decision.{Decision}
use Rattle.room_types.specs.declared.tables.Call.{Call}
use Rattle.room_types.specs.declared.tables.Incident.{Incident}

-- the call is put and its incident, which is active, as urgent as the call at least, with as large
-- needs, and opened no later
pub record Covers (new : NewCall) (x : Decision) : Type 0 where
  pub incident : Incident
  pub call : Call
  pub puts_incident : Among (PutIncident incident) x.changes
  pub puts_call : Among (PutCall call) x.changes
  pub active : is_active incident.state ≡ true
  pub class : incident.class ≤ new.class
  pub needs : (k : Kind) → need_of new.needs k ≤ need_of incident.needs k
  pub opened : incident.opened ≤ new.at
  pub number : call.incident ≡ incident.number
  pub given : call.given ≡ incident.number
  pub division : call.division ≡ incident.division
