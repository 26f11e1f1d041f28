use Rattle.std.proofs.Common.{arith, refl, ◌∙◌}
use Rattle.std.proofs.lemmas.Result.{on_ok_weaker}
use Rattle.room_model.specs.Room.{apply_one}
use Rattle.room_types.specs.declared.changes.Change.TheVariants.{PutVehicle}
use Rattle.room_tables_schema.proofs.WriteLaws.{commits_more}
use Rattle.room_store_writes.proofs.CommitLaws.{put_commits}
use Rattle.room_tables_schema.specs.FileConnections.{IsClean}
use Rattle.room_store_writes.proofs.enrolled_rows.put_row.Goals as goal

pub returns-clause-ok : goal.returns-clause-ok
returns-clause-ok g c clean =
    let early : IsClean g.S.Store c.put.new.tx.conn.now = omega
    (arith, c.put_terminal.ensures.writes.survives.clean) in
    let first = c.in_ok-put.ensures.ok early in
    on_ok_weaker c.put_terminal.result (λ last. record {
      inside = record {
        was_open = first.inside.was_open;
        is_open = last.inside.is_open;
        now_is = refl;
        committed_is = last.inside.committed_is ∙ first.inside.committed_is;
        mode = last.inside.mode;
      };
      schema = last.schema;
      stands =
          λ config room h.
          rw (c.new_vehicle.ensures, c.new_terminal.ensures) at
          (last.stands config (apply_one room (PutVehicle c.new_vehicle.result)) (first.stands config room h));
    }) (c.put_terminal.ensures.ok clean)

pub returns-in_err-put-clause-commits : goal.returns-in_err-put-clause-commits
returns-in_err-put-clause-commits g c =
    put_commits g.S.Store c.args.tx.now.conn.now c.put.new.tx.conn.now _ _ c.put.result c.put.ensures.ok
    c.put.ensures.writes

pub returns-clause-commits : goal.returns-clause-commits
returns-clause-commits g c =
    commits_more (put_commits g.S.Store c.args.tx.now.conn.now c.put.new.tx.conn.now _ _ c.put.result c.put.ensures.ok
    c.put.ensures.writes)
    (put_commits g.S.Store c.put.new.tx.conn.now c.put_terminal.new.tx.conn.now _ _ c.put_terminal.result
    c.put_terminal.ensures.ok c.put_terminal.ensures.writes)
