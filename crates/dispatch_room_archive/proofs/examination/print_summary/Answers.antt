use Rattle.std.proofs.KnownBytes.{Appends-trans}
use Rattle.room_store_writes.proofs.CommitLaws.{ok_then}
use Rattle.dispatch_room_archive.proofs.examination.print_summary.Goals as goal

pub returns : goal.returns
returns g c =
    let plan = c.in_ok-print_plan.ensures.text in
    let calls = c.in_ok-print_calls.ensures.text in
    let fleet = c.in_ok-print_fleet.ensures.text in
    record {
      text =
          ok_then c.print_reports.result _ _
          (Appends-trans _ _ _ _ _ (Appends-trans _ _ _ _ _ (Appends-trans _ _ _ _ _ plan calls) fleet))
          c.print_reports.ensures.text;
    }
