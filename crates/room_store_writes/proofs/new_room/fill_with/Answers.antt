use Rattle.std.proofs.Common.{arith}
use Rattle.std.proofs.lemmas.Result.{on_ok_weaker}
use Rattle.room_tables_schema.proofs.WriteLaws.{commits_more}
use Rattle.room_store_writes.specs.Configurations.{config_of}
use Rattle.room_store_writes.specs.NewRoom.{in_order, new_room}
use Rattle.room_tables_schema.specs.FileConnections.{IsClean}
use Rattle.room_store_writes.proofs.new_room.fill_with.Goals as goal

pub put_each-requires : goal.put_each-requires
put_each-requires g c = record {
  inside =
      record { room = λ clean. (c.in_ok-fill.ensures.ok clean).1; inside = λ clean. (c.in_ok-fill.ensures.ok clean).0 };
}

pub returns-clause-ok : goal.returns-clause-ok
returns-clause-ok g c clean =
    let plan = c.args.plan.now in
    let early : IsClean g.S.Store c.fill.new.tx.conn.now = omega
    (arith, c.put_each.ensures.commits.survives.clean) in
    on_ok_weaker c.put_each.result (λ all. (
      all.inside,
      all.schema,
      all.stands (config_of plan (in_order c.args.terminals.now)) (new_room plan) (c.in_ok-fill.ensures.ok early).2,
    ))
    (c.put_each.ensures.ok clean)

pub returns-clause-commits : goal.returns-clause-commits
returns-clause-commits g c = commits_more c.fill.ensures.commits c.put_each.ensures.commits
