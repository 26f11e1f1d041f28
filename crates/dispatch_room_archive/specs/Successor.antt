-- A new room made of an old one, which is kept as an archive: all that is going on, all that
-- happened since a moment, and the last of each vehicle's reports and of each position's calls.
use Rattle.std.specs.List.{list_any}
use Rattle.std.specs.Prelude.{Bool, filter, is_some, nat_le, nat_lt, not, ℕ, ◌&&◌, ◌==◌, ◌||◌}
use Rattle.room_types.specs.KeyedRows.{keep}
use Rattle.room_types.specs.Codes.{is_active, is_normal}
use Rattle.room_types.specs.Texts.{Callsign}
use Rattle.room_types.specs.declared.tables.Call.{Call}
use Rattle.room_types.specs.declared.tables.Incident.{Incident}
use Rattle.room_types.specs.declared.tables.Report.{Report}
use Rattle.room_model.specs.Queries.{incident_of, kept_call, kept_report, last_serial, vehicle_at}
use Rattle.room_model.specs.Room.{Room}
use Rattle.room_store_check_rows.specs.HistoryChecks.{is_last_report}

-- ---- what stays behind
-- whether an incident stays behind, by division and number; a call, by position and serial; a
-- report, by callsign and number. A turn stays behind with its incident.
pub record Behind : Type 0 where
  pub incident : ℕ → ℕ → Bool
  pub call : ℕ → ℕ → Bool
  pub report : Callsign → ℕ → Bool

-- the call was taken since then, or is the last of its position
abbrev pub is_recent : ℕ → Room → Call → Bool
is_recent since r c = nat_le since c.at || c.serial == last_serial c.position r

-- such a call belongs to the incident
abbrev pub has_recent_call : ℕ → Room → Incident → Bool
has_recent_call since r i = list_any
    (λ c. c.division == i.division && (c.incident == i.number && is_recent since r c))
    r.calls

-- an incident that is not active, was opened before then, and has no such call
abbrev pub is_over : ℕ → Room → Incident → Bool
is_over since r i =
    not (is_active i.state) && (nat_lt i.opened since && not (has_recent_call since r i))

-- a report from before then, which needs nobody's attention
abbrev pub is_settled : ℕ → Report → Bool
is_settled since x = nat_lt x.at since && (x.cleared || is_normal x.outcome)

-- an incident that is over stays behind, a call with its incident, and a report that is settled,
-- unless it is its vehicle's last
abbrev pub incident_stays_behind : ℕ → Room → ℕ → ℕ → Bool
incident_stays_behind since r d n = is_some (keep (is_over since r) (incident_of d n r))

abbrev pub call_stays_behind : ℕ → Room → ℕ → ℕ → Bool
call_stays_behind since r p s =
    is_some (keep (λ c. incident_stays_behind since r c.division c.incident) (kept_call p s r))

abbrev pub report_stays_behind : ℕ → Room → Callsign → ℕ → Bool
report_stays_behind since r c n =
    is_some (keep (is_settled since) (kept_report c n r))
    && not (is_last_report n (vehicle_at c r))

abbrev pub left_behind : ℕ → Room → Behind
left_behind since r = record {
  incident = incident_stays_behind since r;
  call = call_stays_behind since r;
  report = report_stays_behind since r;
}

-- ---- the new room
-- the plan and all rows, but for what stays behind
abbrev pub without : Behind → Room → Room
without b r = record r {
  incidents = filter (λ i. not (b.incident i.division i.number)) r.incidents;
  calls = filter (λ c. not (b.call c.position c.serial)) r.calls;
  turns = filter (λ t. not (b.incident t.division t.incident)) r.turns;
  reports = filter (λ x. not (b.report x.callsign x.number)) r.reports;
}

-- the room renewed since a moment
abbrev pub renewed : ℕ → Room → Room
renewed since r = without (left_behind since r) r
