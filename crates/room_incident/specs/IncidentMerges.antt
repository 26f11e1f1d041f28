-- Two incidents that were merged.
use Rattle.std.specs.Prelude.{◌≡◌, ◌≤◌}
use Rattle.room_place.specs.Choice.{Among}
use Rattle.room_types.specs.Needs.{need_of}
use Rattle.room_types.specs.declared.changes.Change.TheVariants.{PutCall, PutIncident}
use Rattle.room_types.specs.declared.codes.Kind.{Kind}
use Rattle.room_types.specs.declared.decisions.Decision.{Decision}
use Rattle.room_types.specs.declared.tables.Call.{Call}
use Rattle.room_types.specs.declared.tables.Incident.{Incident}

-- an incident as urgent as this one at least, with as large needs, and opened no later
pub record IsNoLess (n j : Incident) : Type 0 where
  pub class : j.class ≤ n.class
  pub needs : (k : Kind) → need_of n.needs k ≤ need_of j.needs k
  pub opened : j.opened ≤ n.opened

-- what incidents n and m are joined to is put: no less than either, where m is; all calls that are
-- put are its
pub record Joins (n m : Incident) (x : Decision) : Type 0 where
  pub into : Incident
  pub put : Among (PutIncident into) x.changes
  pub source : IsNoLess n into
  pub target : IsNoLess m into
  pub number : into.number ≡ m.number
  pub place : into.place ≡ m.place
  pub calls : (c : Call) → Among (PutCall c) x.changes → c.incident ≡ m.number
