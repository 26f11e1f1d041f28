use Rattle.std.proofs.Common.{[], arith, ◌++◌, ◌∷◌}
use Rattle.dispatch_room_changes.proofs.KeptLemmas.{lacks_more, where_fails}
use Rattle.dispatch_room_changes.proofs.LineLemmas.{puts_more, taken_more}
use Rattle.dispatch_room_changes.proofs.change_lists.keep_rows.Goals as goal

pub lines-preserved : goal.lines-preserved
lines-preserved g c =
    let line = c.first_line.result.0.now in
    let kept = c.lines.invariant.kept in
    record {
      sound = c.in_ok-keep_row.ensures.sound;
      kept = (
        kept.0 ++ line ∷ [],
        taken_more _ c.lines.left.now line c.first_line.result.1.now kept.0 kept.1 c.first_line.ensures.line
            c.first_line.ensures.is (omega (arith, c.first_line.ensures.shorter)),
        puts_more _ _ _ _ _ _ kept.0 line kept.2 c.in_ok-keep_row.ensures.kept,
      );
    }

pub returns-in_err-keep_row-clause-unkept : goal.returns-in_err-keep_row-clause-unkept
returns-in_err-keep_row-clause-unkept g c =
    let kept = c.lines.invariant.kept in
    where_fails c.from_residual.result _
    (lacks_more c.keep_row.new.list c.args.text.now c.lines.left.now c.first_line.result.0.now
    c.first_line.result.1.now kept.0 kept.1 c.first_line.ensures.is c.first_line.ensures.line
    c.in_err-keep_row.ensures.unkept)
