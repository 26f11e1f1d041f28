use Rattle.std.proofs.Common.{◌≡◌}
use Rattle.std.specs.Prelude.{◌&&◌, is_none}
use Rattle.std.proofs.lemmas.Result.{on_ok_weaker}
use Rattle.room_store_check_tables.proofs.HistoryLaws.{judged_more}
use Rattle.room_store_check_tables.proofs.judged_histories.JudgingTypedRowSink.take.Goals as goal
use Rattle.room_store_check_tables.proofs.judged_histories.JudgingTypedRowSink.take.Goals.{then-self}
use Rattle.room_store_check_tables.proofs.judged_histories.JudgingTypedRowSink.take.Goals.{else-self}

pub returns-clause-taken : goal.returns-clause-taken
returns-clause-taken g c =
    let now = c.args.self.now in
    let fit : c.if-self.self
    ≡ (now.fit && is_none (g.X.Judged.disagreement now.plan.now.areas now.rows.now c.args.row)) =
    elim c.if-self.branch [
      | then-self w ↦ rw (w.if-self.true, w.self-is) c.agrees-row_agrees.ensures
      | else-self w ↦ rw (w.if-self.false, w.self-is) w.if-self.false
    ] in
    on_ok_weaker c.keep.result
    (λ kept first rows keyed so_far. (so_far.0, so_far.1, judged_more c.args.row fit (kept rows keyed) so_far.2))
    c.keep.ensures.kept
