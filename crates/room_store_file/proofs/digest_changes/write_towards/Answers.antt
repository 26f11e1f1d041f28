use Rattle.std.proofs.Common.{arith, rules, subst, sym, ◌≡◌}
use Rattle.std.proofs.lemmas.Result.{on_ok_weaker}
use Rattle.room_store_writes.proofs.CommitLaws.{IsWhole, is_whole}
use Rattle.room_store_file.specs.DigestChanges.{Reaches}
use Rattle.room_store_file.proofs.Undoing.{another_reported}
use Rattle.room_store_file.proofs.digest_changes.write_towards.Given.{Over}
use Rattle.room_store_file.proofs.digest_changes.write_towards.Goals.{After-conn-1}
use Rattle.room_tables_schema.specs.FileConnections.{IsClean}
use Rattle.room_store_file.proofs.digest_changes.write_towards.Goals as goal

whole : (g : Over) (c : After-conn-1 g)
    → IsWhole g.S.Store c.args.conn.now c.conn-1.given.0 c.end.result (Reaches c.args.changes.now c.args.head.now)
whole g c =
    let done = c.make_towards-done in
    let same : c.end.new.tx.0 ≡ c.conn-1.given.0 = search rules in
    subst (λ end. IsWhole g.S.Store c.args.conn.now end c.end.result (Reaches c.args.changes.now c.args.head.now)) same
    (is_whole g.S.Store c.args.conn.now c.transaction-tx.result.conn.now done.new.tx.conn.now c.end.new.tx.0 done.result
    c.end.result (Reaches c.args.changes.now c.args.head.now) c.transaction-tx.ensures.begun
    (λ clean _. sym (c.requires.settled clean).committed) done.ensures.commits
    (λ clean. on_ok_weaker done.result (λ made. (made.0.schema, made.1)) (done.ensures.ok clean))
    c.end.ensures.well c.end.ensures.ok c.end.ensures.err c.end.ensures.survives)

pub returns-clause-survives : goal.returns-clause-survives
returns-clause-survives g c = (whole g c).survives

pub returns-clause-ok : goal.returns-clause-ok
returns-clause-ok g c clean =
    on_ok_weaker c.end.result
    (λ all. record {
      was_open = (c.requires.settled all.0).is_open;
      settled = all.1;
      schema = all.2;
      stands = λ config room h. (all.3 config room h).0;
    }) ((whole g c).ok clean)

pub returns-clause-reaches : goal.returns-clause-reaches
returns-clause-reaches g c clean = on_ok_weaker c.end.result (λ all. all.3) ((whole g c).ok clean)

pub returns-clause-err : goal.returns-clause-err
returns-clause-err g c = (whole g c).err

pub returns-clause-another : goal.returns-clause-another
returns-clause-another g c clean =
    let done = c.make_towards-done in
    let same : c.end.new.tx.0 ≡ c.conn-1.given.0 = search rules in
    let early : IsClean g.S.Store done.new.tx.conn.now = omega
    (arith, (rw same at c.end.ensures.survives).clean) in
    another_reported c.end.result done.result _ c.end.ensures.why
    (rw c.transaction-tx.ensures.begun at (done.ensures.another early))

pub end-requires : goal.end-requires
end-requires g c clean =
    on_ok_weaker c.make_towards-done.result (λ made. made.0.inside) (c.make_towards-done.ensures.ok clean)
