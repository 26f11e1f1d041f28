use Rattle.std.proofs.Common.{drop, length, map, ◌++◌, ◌<◌, ◌^◌, ◌≡◌, ◌≤◌}
use Rattle.std.specs.Prelude.{filter}
use Rattle.room_model.specs.DayTimes.{times_line}
use Rattle.room_incident.specs.DayIncidents.{is_opened_between}
use Rattle.room_incident.proofs.day_times.lines_between.Given as goal

abbrev pub invariant-loop-incident : goal.invariant-loop-incident
invariant-loop-incident l = record {
  lines : l.lines ++ map times_line (filter (is_opened_between l.from l.to) (drop l.incident-index l.fn.incidents))
      ≡ map times_line (filter (is_opened_between l.from l.to) l.fn.incidents);
  few : length l.lines ≤ l.incident-index;
  fit : length l.lines < 2 ^ 32;
}
