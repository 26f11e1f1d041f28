use Rattle.std.proofs.Common.{arith, inl, inr, subst, sym}
use Rattle.std.proofs.lemmas.Result.{IfErr-weaker}
use Rattle.sqlite.specs.Effect.{Database}
use Rattle.sqlite.specs.Held.{state}
use Rattle.sqlite.specs.State.{HasCleanDisk}
use Rattle.room_model.specs.RoomSlices.{room_of}
use Rattle.room_tables.proofs.RoomReads.{kept}
use Rattle.room_tables_schema.proofs.WriteLaws.{commits_more}
use Rattle.room_store_writes.proofs.CommitLaws.{ok_then}
use Rattle.room_store_writes.specs.Configurations.{config_of}
use Rattle.room_store_file.proofs.TakeLaws.{may_write_on, not_made, ok_holds}
use Rattle.room_store_check_tables.proofs.StreamLaws.{reads_commit}
use Rattle.room_store_file.specs.OpenedFile.{Becomes, FailsToMake}
use Rattle.room_tables_schema.specs.FileConnections.{IsClean}
use Rattle.room_store_file.proofs.room_in_tables.read_as.Goals as goal

pub returns-clause-stands : goal.returns-clause-stands
returns-clause-stands g c clean =
    let mid = state g.S.Store c.make_lacking.new.tx.conn.now in
    ok_holds c.read_whole.result _ _ _ (c.read_whole.ensures.reads.ok clean) (c.read_whole.ensures.stands clean)
    (λ x same stands.
    kept mid (state g.S.Store c.read_whole.new.tx.conn.now) same (config_of x.config.plan x.config.terminals.items)
    (room_of x.config.plan.areas x.rows) stands)

pub returns-clause-becomes : goal.returns-clause-becomes
returns-clause-becomes g c clean =
    let old = state g.S.Store c.args.tx.now.conn.now in
    let early : IsClean g.S.Store c.make_lacking.new.tx.conn.now = omega
    (arith, c.read_whole.ensures.reads.survives.clean) in
    ok_then c.read_whole.result _ _
    (λ same.
    subst (λ (db : Database). Becomes c.args.tables old.now.trees db.trees) (sym same.0.now_is)
    (c.in_ok-make_lacking.ensures.becomes early)) (c.read_whole.ensures.reads.ok clean)

pub returns-clause-is_open : goal.returns-clause-is_open
returns-clause-is_open g c clean =
    let early : IsClean g.S.Store c.make_lacking.new.tx.conn.now = omega
    (arith, c.read_whole.ensures.reads.survives.clean) in
    ok_then c.read_whole.result _ _ (λ same. (c.make_lacking.ensures.commits.kept early).was_open same.0.was_open)
    (c.read_whole.ensures.reads.ok clean)

pub returns-clause-inside : goal.returns-clause-inside
returns-clause-inside g c =
    may_write_on g.S.Store c.make_lacking.new.tx.conn.now c.read_whole.new.tx.conn.now c.read_whole.result
    c.in_ok-make_lacking.ensures.inside c.read_whole.ensures.reads

pub returns-clause-no_plan : goal.returns-clause-no_plan
returns-clause-no_plan g c clean =
    let mid = state g.S.Store c.make_lacking.new.tx.conn.now in
    let early : HasCleanDisk mid = omega (arith, c.read_whole.ensures.reads.survives.clean) in
    IfErr-weaker c.read_whole.result _ _
    (λ e none is. (mid.now.trees, c.in_ok-make_lacking.ensures.becomes early, none is))
    (c.read_whole.ensures.no_plan clean)

pub returns-clause-commits : goal.returns-clause-commits
returns-clause-commits g c =
    commits_more c.make_lacking.ensures.commits (reads_commit c.read_whole.result c.read_whole.ensures.reads)

pub returns-clause-why : goal.returns-clause-why
returns-clause-why g c clean =
    let early : IsClean g.S.Store c.make_lacking.new.tx.conn.now = omega
    (arith, c.read_whole.ensures.reads.survives.clean) in
    IfErr-weaker c.read_whole.result _ _
    (λ e why storage.
    inr (record {
      made = c.make_lacking.new.tx.conn.now;
      becomes = c.in_ok-make_lacking.ensures.becomes early;
      commits = c.make_lacking.ensures.commits;
      fails = why storage;
    })) (c.read_whole.ensures.why clean)

pub returns-in_err-make_lacking-clause-why : goal.returns-in_err-make_lacking-clause-why
returns-in_err-make_lacking-clause-why g c clean =
    not_made c.from_residual.result c.in_err-make_lacking.field-0.0
    (FailsToMake g.S.Store c.args.tables c.args.tx.now.conn.now c.make_lacking.new.tx.conn.now)
    c.from_residual.ensures.1 (λ storage. inl storage) (c.in_err-make_lacking.ensures.why clean)
