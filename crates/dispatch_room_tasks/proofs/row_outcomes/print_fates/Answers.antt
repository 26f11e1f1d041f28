use Rattle.std.proofs.Common.{None, Some, drop, refl, sym, ◌+◌, ◌∙◌}
use Rattle.dispatch_room_exit.specs.declared.exit_status.Done.TheVariants.{InPart}
use Rattle.dispatch_room_tasks.proofs.FateLemmas.{bad_next, done_less, done_same, good_next}
use Rattle.dispatch_room_tasks.proofs.FateLemmas.{printing_more}
use Rattle.dispatch_room_tasks.specs.RowOutcomes.{outcomes}
use Rattle.dispatch_room_tasks.proofs.row_outcomes.print_fates.Goals as goal
use Rattle.dispatch_room_tasks.proofs.row_outcomes.print_fates.Goals.{in-Bad+in_ok-writeln-in-Bad}
use Rattle.dispatch_room_tasks.proofs.row_outcomes.print_fates.Goals.{in-Row+in-Some+in_ok-print_fate-in-Row+then-not-branch}
use Rattle.dispatch_room_tasks.proofs.row_outcomes.print_fates.Goals.{in-Row+in-Some+in_ok-print_fate-in-Row+else-not-branch}

pub loop-at-preserved : goal.loop-at-preserved
loop-at-preserved g c =
    let stated = c.loop-at.invariant in
    let within = c.loop-at-test.true in
    let others = drop (c.loop-at.at + 1) c.args.lines.now in
    let was = c.loop-at.done in
    elim c.match-line.branch [
      | in-Bad+in_ok-writeln-in-Bad w ↦
          let later = outcomes others c.loop-at.left.now in
          rw (w.out-is, w.left-is, w.done-is) (printing_more None later InPart stated
          (bad_next _ _ _ _ within c.index-lines-at.is w.in-Bad.is) w.in_ok-writeln-in-Bad.ensures.bytes
          (done_less was None later refl))
      | in-Row+in-Some+in_ok-print_fate-in-Row+then-not-branch w ↦
          let outcome = Some (w.in-Row.row, w.in-Some.fate.now) in
          let later = outcomes others w.in-Some.later.now in
          rw (w.out-is, w.left-is, w.done-is) (printing_more outcome later InPart stated
          (good_next _ _ _ _ _ _ _ within c.index-lines-at.is w.in-Row.is w.in-Some.ensures.cases.0)
          w.in_ok-print_fate-in-Row.ensures.text
          (done_less was outcome later (sym w.in_ok-print_fate-in-Row.ensures.enrolled ∙ w.if-not-branch.true)))
      | in-Row+in-Some+in_ok-print_fate-in-Row+else-not-branch w ↦
          let outcome = Some (w.in-Row.row, w.in-Some.fate.now) in
          let later = outcomes others w.in-Some.later.now in
          rw (w.out-is, w.left-is, w.done-is) (printing_more outcome later was stated
          (good_next _ _ _ _ _ _ _ within c.index-lines-at.is w.in-Row.is w.in-Some.ensures.cases.0)
          w.in_ok-print_fate-in-Row.ensures.text
          (done_same was outcome later (sym w.in_ok-print_fate-in-Row.ensures.enrolled ∙ w.if-not-branch.false)))
    ]
