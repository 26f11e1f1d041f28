use Rattle.std.proofs.Common.{refl}
use Rattle.dispatch_room_archive.proofs.renewal.print_renewed.Goals as goal

pub returns-in-Ok : goal.returns-in-Ok
returns-in-Ok g c = (
  (rw (
    c.count_incidents-incidents.ensures,
    c.count_calls-calls.ensures,
    c.count_turns-turns.ensures,
    c.count_reports-reports.ensures,
  ) at c.in-Ok.ensures.bytes),
  refl,
)
