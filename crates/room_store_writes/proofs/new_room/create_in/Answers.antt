use Rattle.std.proofs.Common.{rules, subst, ◌≡◌}
use Rattle.std.proofs.lemmas.Result.{on_ok_weaker}
use Rattle.room_store_writes.specs.NewRoom.{StandsNew}
use Rattle.room_store_writes.proofs.CommitLaws.{IsWhole, is_whole}
use Rattle.room_store_writes.proofs.new_room.create_in.Given.{Over}
use Rattle.room_store_writes.proofs.new_room.create_in.Goals.{After-conn-1}
use Rattle.room_store_writes.proofs.new_room.create_in.Goals as goal

whole : (g : Over) (c : After-conn-1 g)
    → IsWhole g.S.Store c.args.conn.now c.conn-1.given.0 c.end.result
    (λ _. StandsNew c.args.plan.now c.args.terminals.now)
whole g c =
    let done = c.fill-done in
    let same : c.end.new.tx.0 ≡ c.conn-1.given.0 = search rules in
    subst
    (λ end. IsWhole g.S.Store c.args.conn.now end c.end.result (λ _. StandsNew c.args.plan.now c.args.terminals.now))
    same
    (is_whole g.S.Store c.args.conn.now c.transaction-tx.result.conn.now done.new.tx.conn.now c.end.new.tx.0 done.result
    c.end.result (λ _. StandsNew c.args.plan.now c.args.terminals.now) c.transaction-tx.ensures.begun
    (λ _. c.requires.committed) done.ensures.commits
    (λ clean. on_ok_weaker done.result (λ all. (all.1, all.2)) (done.ensures.ok clean)) c.end.ensures.well
    c.end.ensures.ok c.end.ensures.err c.end.ensures.survives)

pub returns-clause-survives : goal.returns-clause-survives
returns-clause-survives g c = (whole g c).survives

pub returns-clause-ok : goal.returns-clause-ok
returns-clause-ok g c clean =
    on_ok_weaker c.end.result (λ all. record { settled = all.1; schema = all.2; stands = all.3 }) ((whole g c).ok clean)

pub returns-clause-err : goal.returns-clause-err
returns-clause-err g c = (whole g c).err

pub end-requires : goal.end-requires
end-requires g c clean = on_ok_weaker c.fill-done.result (λ all. all.0) (c.fill-done.ensures.ok clean)
