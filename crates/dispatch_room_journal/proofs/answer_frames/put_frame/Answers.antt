use Rattle.std.proofs.Common.{[], ◌∷◌, ◌++◌}
use Rattle.std.proofs.lemmas.Result.{err_from_is_err_and}
use Rattle.dispatch_room_journal.proofs.WritingLemmas.{WritesAll-more, WritesAll-cut}
use Rattle.dispatch_room_journal.specs.AnswerFrames.{frame_line}
use Rattle.dispatch_room_journal.proofs.answer_frames.put_frame.Goals as goal

pub returns-in_err-put_line-clause-written : goal.returns-in_err-put_line-clause-written
returns-in_err-put_line-clause-written g c =
    let p = err_from_is_err_and c.from_residual.result c.from_residual.ensures.1 in
    let bytes = c.args.answer.now in
    rw (p.1, p.2) (WritesAll-cut _ _ _ _ (frame_line bytes) (bytes ++ 10 ∷ []) _ c.in_err-put_line.ensures.written)

pub returns-in_err-write_all-clause-written : goal.returns-in_err-write_all-clause-written
returns-in_err-write_all-clause-written g c =
    let p = err_from_is_err_and c.from_residual-in_err-write_all.result c.from_residual-in_err-write_all.ensures.1 in
    let bytes = c.args.answer.now in
    rw (p.1, p.2) (WritesAll-more _ _ _ _ _ (frame_line bytes) (bytes ++ 10 ∷ []) _ c.in_ok-put_line.ensures.written
    (WritesAll-cut _ _ _ _ bytes (10 ∷ []) _ c.in_err-write_all.ensures.written))

pub returns-clause-written : goal.returns-clause-written
returns-clause-written g c =
    let bytes = c.args.answer.now in
    WritesAll-more _ _ _ _ _ (frame_line bytes) (bytes ++ 10 ∷ []) _ c.in_ok-put_line.ensures.written
    (WritesAll-more _ _ _ _ _ bytes (10 ∷ []) _ c.in_ok-write_all.ensures.written c.write_all-2.ensures.written)
