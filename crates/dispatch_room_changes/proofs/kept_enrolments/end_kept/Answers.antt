use Rattle.std.proofs.Common.{Err, Ok, refl, ◌≡◌}
use Rattle.dispatch_room_changes.specs.KeptImports.{ended}
use Rattle.dispatch_room_changes.proofs.kept_enrolments.end_kept.Goals.{in-Err-came, in-Ok-came}
use Rattle.dispatch_room_changes.proofs.kept_enrolments.end_kept.Goals as goal

pub returns-in-Ok : goal.returns-in-Ok
returns-in-Ok g c =
    record {
      stays = c.keep_end.ensures.stays;
      kept = Ok tt;
      place = rw c.in-Ok.is at c.keep_end.ensures.place;
      is = refl;
    }

pub returns-after-came : goal.returns-after-came
returns-after-came g c =
    let is : c.match-came.result ≡ ended c.args.came (Err c.in-Err.fault) = elim c.match-came.branch [
      | in-Ok-came w ↦ rw w.in-Ok-came.is w.result-is
      | in-Err-came w ↦ rw w.in-Err-came.is w.result-is
    ]
    in
    record {
      stays = c.keep_end.ensures.stays;
      kept = Err c.in-Err.fault;
      place = rw c.in-Err.is at c.keep_end.ensures.place;
      is = is;
    }
