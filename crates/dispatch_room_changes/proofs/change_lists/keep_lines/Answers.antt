use Rattle.std.proofs.Common.{inl}
use Rattle.std.proofs.lemmas.Result.{on_err_weaker, on_ok_weaker}
use Rattle.dispatch_room_serving.proofs.KeeperLemmas.{flag_failed, flag_sound}
use Rattle.dispatch_room_changes.proofs.change_lists.keep_lines.Goals as goal

pub returns-clause-sound : goal.returns-clause-sound
returns-clause-sound g c =
    flag_sound c.keep_rows.new.list.out.failed c.make_last.new.list.out.failed c.make_last.result
    c.make_last.ensures.failed c.in_ok-keep_rows.ensures.sound

pub returns-clause-kept : goal.returns-clause-kept
returns-clause-kept g c =
    let kept = c.in_ok-keep_rows.ensures.kept in
    on_ok_weaker c.make_last.result
    (λ lasts. record {
      headed = c.keep_head.new.list;
      begins = c.in_ok-keep_head.ensures.kept;
      lines = kept.0;
      are = kept.1;
      rows = rw (c.make_last.ensures.end, c.make_last.ensures.held) kept.2;
      lasts = lasts;
    })
    c.make_last.ensures.lasts

pub returns-clause-unkept : goal.returns-clause-unkept
returns-clause-unkept g c =
    on_err_weaker c.make_last.result (λ failed. inl failed)
    (flag_failed c.keep_rows.new.list.out.failed c.make_last.new.list.out.failed c.make_last.result
    c.make_last.ensures.failed)

pub returns-clause-marked : goal.returns-clause-marked
returns-clause-marked g c =
    on_ok_weaker c.make_last.result (λ lasts. c.in_ok-keep_head.ensures.marked)
    c.make_last.ensures.lasts
