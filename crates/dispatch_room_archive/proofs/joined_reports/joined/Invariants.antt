use Rattle.std.proofs.Common.{drop, ◌≡◌}
use Rattle.room_types.specs.Keys.{incident_key, pair_cmp}
use Rattle.dispatch_room_tasks.proofs.PutRows.{put_each}
use Rattle.dispatch_room_archive.proofs.joined_reports.joined.Given as goal

abbrev pub invariant-loop-incident : goal.invariant-loop-incident
invariant-loop-incident l =
    put_each pair_cmp incident_key l.both (drop l.incident-index l.newer)
    ≡ put_each pair_cmp incident_key l.fn.older l.newer
