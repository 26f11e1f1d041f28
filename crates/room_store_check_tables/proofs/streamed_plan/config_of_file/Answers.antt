use Rattle.std.proofs.Common.{arith, inl, refl, rules, true, ◌≡◌}
use Rattle.std.proofs.lemmas.Result.{IfErr-weaker}
use Rattle.std.specs.Prelude.{IfErr, IfOk}
use Rattle.sqlite.specs.Held.{state}
use Rattle.sqlite.specs.State.{HasCleanDisk}
use Rattle.sqlite.proofs.Callers.{survives_begin}
use Rattle.room_tables.specs.Rowids.{AreAllNumbered}
use Rattle.room_tables_schema.proofs.ReadLaws.{still}
use Rattle.room_store_writes.proofs.CommitLaws.{undone_leaves}
use Rattle.room_store_check_tables.proofs.Findings.{planless}
use Rattle.room_store_check_tables.proofs.StreamLaws.{reads_commit}
use Rattle.room_store_check_tables.specs.HeldRooms.{HasConfiguration, HoldsRoom, WritesNothing}
use Rattle.room_store_check_tables.specs.ReadCauses.{FailsInFile}
use Rattle.room_store_check_tables.specs.declared.file_faults.FileFault.TheVariants.{NotARoom}
use Rattle.room_store_check_tables.specs.declared.file_faults.FileFault.TheVariants.{Storage}
use Rattle.room_tables_schema.specs.FileConnections.{IsClean}
use Rattle.room_store_check_tables.proofs.streamed_plan.config_of_file.Goals as goal

pub returns-clause-found : goal.returns-clause-found
returns-clause-found g c =
    let old = state g.S.Store c.args.conn.now in
    let last = state g.S.Store c.read_config-config.new.tx.conn.now in
    let end = state g.S.Store c.rollback.new.self.0 in
    let begun = c.transaction-tx.ensures.begun in
    let all : HasCleanDisk end
    → IfOk c.read_config-config.result
    (λ x. AreAllNumbered old.now.trees → HasConfiguration old.now.trees x.plan.areas x.plan.zone x.terminals.items) =
    λ clean.
    let early : HasCleanDisk last = omega (arith, c.rollback.ensures.survives.clean) in
    rw begun at c.read_config-config.ensures.found early in
    search rules

pub returns-clause-no_room : goal.returns-clause-no_room
returns-clause-no_room g c =
    let old = state g.S.Store c.args.conn.now in
    let last = state g.S.Store c.read_config-config.new.tx.conn.now in
    let end = state g.S.Store c.rollback.new.self.0 in
    let begun = c.transaction-tx.ensures.begun in
    let all : HasCleanDisk end
    → IfErr c.read_config-config.result (λ e. e ≡ NotARoom → ¬ HoldsRoom old.now.trees) = λ clean.
    let early : HasCleanDisk last = omega (arith, c.rollback.ensures.survives.clean) in
    IfErr-weaker c.read_config-config.result _ _ (λ e none is. planless old.now.trees (none is))
    (rw begun at c.read_config-config.ensures.no_plan early) in
    λ clean. all (search rules)

pub returns-clause-nothing : goal.returns-clause-nothing
returns-clause-nothing g c =
    let old = c.args.conn.now in
    let last = c.read_config-config.new.tx.conn.now in
    let end = c.rollback.new.self.0 in
    let begun = c.transaction-tx.ensures.begun in
    let commits = rw begun at (reads_commit c.read_config-config.result c.read_config-config.ensures.reads) in
    let all : WritesNothing (state g.S.Store old) (state g.S.Store end) = record {
      left = λ clean.
          let early : IsClean g.S.Store last = omega (arith, c.rollback.ensures.survives.clean) in
          undone_leaves g.S.Store old last end (commits.kept early) (c.rollback.ensures.undone clean)
          c.requires.committed;
      survives =
          still (survives_begin g.S.Store old (state g.S.Store last) (λ _. ⊥) commits.survives)
          c.rollback.ensures.survives;
    } in
    search rules

pub returns-clause-why : goal.returns-clause-why
returns-clause-why g c =
    let old = c.args.conn.now in
    let last = c.read_config-config.new.tx.conn.now in
    let end = c.rollback.new.self.0 in
    let begun = c.transaction-tx.ensures.begun in
    let all : IsClean g.S.Store end
    → IfErr c.read_config-config.result (λ e. e ≡ Storage → FailsInFile g.S.Store old end) = λ clean.
    let early : IsClean g.S.Store last = omega (arith, c.rollback.ensures.survives.clean) in
    IfErr-weaker c.read_config-config.result _ _ (λ e why storage. record {
      first = record old { in_transaction = true };
      last = last;
      same = λ is_open. refl;
      is_open = λ is_open. inl is_open;
      since = omega arith;
      fails = why storage;
      until = c.rollback.ensures.survives.counts;
    }) (rw begun at c.read_config-config.ensures.why early) in
    search rules
