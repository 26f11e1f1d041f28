use Rattle.std.proofs.Common.{rules, subst, sym, ◌≡◌}
use Rattle.std.proofs.lemmas.Result.{on_ok_weaker}
use Rattle.room_store_writes.proofs.CommitLaws.{IsWhole, is_whole}
use Rattle.dispatch_room_tasks.specs.ReplannedRoom.{Replans}
use Rattle.dispatch_room_tasks.proofs.replanned_room.replan_all.Given.{Over}
use Rattle.dispatch_room_tasks.proofs.replanned_room.replan_all.Goals.{After-conn-1}
use Rattle.dispatch_room_tasks.proofs.replanned_room.replan_all.Goals as goal

whole : (g : Over) (c : After-conn-1 g)
    → IsWhole g.S.Store c.args.conn.now c.conn-1.given.0 c.end.result (Replans c.args.plan.now.areas c.args.file.now)
whole g c =
    let done = c.replan_inside-done in
    let P = Replans c.args.plan.now.areas c.args.file.now in
    let same : c.end.new.tx.0 ≡ c.conn-1.given.0 = search rules in
    subst (λ end. IsWhole g.S.Store c.args.conn.now end c.end.result P) same
    (is_whole g.S.Store c.args.conn.now c.transaction-tx.result.conn.now done.new.tx.conn.now c.end.new.tx.0 done.result
    c.end.result P c.transaction-tx.ensures.begun
    (λ clean _. sym (c.requires.settled clean).committed) done.ensures.commits
    (λ clean. on_ok_weaker done.result (λ made. (made.0.room clean, made.1)) (done.ensures.ok clean))
    c.end.ensures.well c.end.ensures.ok c.end.ensures.err c.end.ensures.survives)

pub returns-clause-ok : goal.returns-clause-ok
returns-clause-ok g c clean = on_ok_weaker c.end.result (λ all. all.3) ((whole g c).ok clean)

pub returns-clause-settled : goal.returns-clause-settled
returns-clause-settled g c clean = on_ok_weaker c.end.result (λ all. (all.1, all.2)) ((whole g c).ok clean)

pub returns-clause-err : goal.returns-clause-err
returns-clause-err g c = (whole g c).err

pub returns-clause-survives : goal.returns-clause-survives
returns-clause-survives g c = (whole g c).survives

pub end-requires : goal.end-requires
end-requires g c clean =
    on_ok_weaker c.replan_inside-done.result (λ made. made.0.inside clean) (c.replan_inside-done.ensures.ok clean)
