use Rattle.std.proofs.Common.{arith, rules, ◌≡◌}
use Rattle.std.proofs.lemmas.Result.{IfErr-weaker}
use Rattle.std.specs.Prelude.{IfErr, IfOk}
use Rattle.sqlite.specs.Held.{state}
use Rattle.sqlite.specs.State.{HasCleanDisk}
use Rattle.sqlite.proofs.Callers.{survives_begin}
use Rattle.room_model.specs.RoomSlices.{room_of}
use Rattle.room_tables_schema.proofs.ReadLaws.{still}
use Rattle.room_store_writes.proofs.CommitLaws.{undone_leaves}
use Rattle.room_store_writes.specs.Configurations.{config_of}
use Rattle.room_store_file.proofs.TakeLaws.{becomes_back, ok_holds}
use Rattle.room_store_file.specs.OpeningCauses.{FailsInside}
use Rattle.room_store_file.specs.OpenedFile.{HasNoPlanBy, StandsBy}
use Rattle.room_store_check_tables.specs.HeldRooms.{WritesNothing}
use Rattle.room_store_check_tables.specs.declared.file_faults.FileFault.TheVariants.{NotARoom}
use Rattle.room_store_check_tables.specs.declared.file_faults.FileFault.TheVariants.{Storage}
use Rattle.room_tables_schema.specs.FileConnections.{IsClean}
use Rattle.room_store_file.proofs.room_in_tables.read_file.Goals as goal

pub returns-clause-stands : goal.returns-clause-stands
returns-clause-stands g c =
    let old = state g.S.Store c.args.conn.now in
    let last = state g.S.Store c.read_as-found.new.tx.conn.now in
    let end = state g.S.Store c.rollback.new.self.0 in
    let begun = c.transaction-tx.ensures.begun in
    let all : HasCleanDisk end
    → IfOk c.read_as-found.result
    (λ x.
    StandsBy c.args.tables old.now.trees (config_of x.config.plan x.config.terminals.items)
    (room_of x.config.plan.areas x.rows)) = λ clean.
    let early : HasCleanDisk last = omega (arith, c.rollback.ensures.survives.clean) in
    ok_holds c.read_as-found.result _ _ _ (rw begun at c.read_as-found.ensures.becomes early)
    (c.read_as-found.ensures.stands early)
    (λ x becomes stands. becomes_back c.args.tables old.now.trees last.now.trees becomes _ _ stands) in
    search rules

pub returns-clause-no_plan : goal.returns-clause-no_plan
returns-clause-no_plan g c =
    let old = state g.S.Store c.args.conn.now in
    let last = state g.S.Store c.read_as-found.new.tx.conn.now in
    let end = state g.S.Store c.rollback.new.self.0 in
    let begun = c.transaction-tx.ensures.begun in
    let all : HasCleanDisk end
    → IfErr c.read_as-found.result (λ e. e ≡ NotARoom → HasNoPlanBy c.args.tables old.now.trees) = λ clean.
    let early : HasCleanDisk last = omega (arith, c.rollback.ensures.survives.clean) in
    rw begun at c.read_as-found.ensures.no_plan early in
    search rules

pub returns-clause-nothing : goal.returns-clause-nothing
returns-clause-nothing g c =
    let old = c.args.conn.now in
    let last = c.read_as-found.new.tx.conn.now in
    let end = c.rollback.new.self.0 in
    let begun = c.transaction-tx.ensures.begun in
    let all : WritesNothing (state g.S.Store old) (state g.S.Store end) = record {
      left = λ clean.
          let early : IsClean g.S.Store last = omega (arith, c.rollback.ensures.survives.clean) in
          undone_leaves g.S.Store old last end (rw begun at c.read_as-found.ensures.commits.kept early)
          (c.rollback.ensures.undone clean) c.requires.committed;
      survives =
          still (survives_begin g.S.Store old (state g.S.Store last) (λ _. ⊥)
          (rw begun at c.read_as-found.ensures.commits.survives)) c.rollback.ensures.survives;
    } in
    search rules

pub returns-clause-why : goal.returns-clause-why
returns-clause-why g c =
    let old = c.args.conn.now in
    let last = c.read_as-found.new.tx.conn.now in
    let end = c.rollback.new.self.0 in
    let begun = c.transaction-tx.ensures.begun in
    let all : IsClean g.S.Store end
    → IfErr c.read_as-found.result (λ e. e ≡ Storage → FailsInside g.S.Store c.args.tables old end) = λ clean.
    let early : IsClean g.S.Store last = omega (arith, c.rollback.ensures.survives.clean) in
    IfErr-weaker c.read_as-found.result _ _
    (λ e why storage. record {
      last = last;
      fails = why storage;
      undone = c.rollback.ensures.undone clean;
      until = c.rollback.ensures.survives.counts;
    }) (rw begun at c.read_as-found.ensures.why early) in
    search rules
