use Rattle.std.proofs.Common.{arith, rules, ◌≡◌}
use Rattle.std.specs.Prelude.{IfOk}
use Rattle.sqlite.specs.Held.{state}
use Rattle.sqlite.specs.State.{HasCleanDisk, Survives}
use Rattle.sqlite.proofs.Callers.{survives_begin}
use Rattle.room_model.specs.Room.{Room}
use Rattle.room_tables_rows.specs.RoomsInTables.{Configuration, Stands}
use Rattle.room_tables_schema.proofs.ReadLaws.{still}
use Rattle.room_store_writes.specs.Transactions.{Leaves}
use Rattle.room_store_writes.proofs.CommitLaws.{undone_leaves}
use Rattle.room_store_file.specs.DigestTexts.{digest_of}
use Rattle.room_store_file.proofs.Inside.{reads_commit}
use Rattle.room_tables_schema.specs.FileConnections.{IsClean}
use Rattle.room_store_file.proofs.room_digest.digest_in.Goals as goal

pub returns-clause-digest : goal.returns-clause-digest
returns-clause-digest g c =
    let old = state g.S.Store c.args.conn.now in
    let last = state g.S.Store c.digest_inside-digest.new.tx.conn.now in
    let end = state g.S.Store c.rollback.new.self.0 in
    let begun = c.transaction-tx.ensures.begun in
    let all : HasCleanDisk end
    → IfOk c.digest_inside-digest.result
    (λ digest.
    (config : Configuration) (room : Room) → Stands old.now.trees config room
    → digest ≡ digest_of c.args.version config.zone config.terminals room) = λ clean.
    let early : HasCleanDisk last = omega (arith, c.rollback.ensures.survives.clean) in
    rw begun at c.digest_inside-digest.ensures.digest early in
    search rules

pub returns-clause-leaves : goal.returns-clause-leaves
returns-clause-leaves g c =
    let old = c.args.conn.now in
    let last = c.digest_inside-digest.new.tx.conn.now in
    let end = c.rollback.new.self.0 in
    let commits = rw c.transaction-tx.ensures.begun at
    (reads_commit c.digest_inside-digest.result c.digest_inside-digest.ensures.reads) in
    let all : IsClean g.S.Store end → Leaves (state g.S.Store old) (state g.S.Store end) = λ clean.
    let early : IsClean g.S.Store last = omega (arith, c.rollback.ensures.survives.clean) in
    undone_leaves g.S.Store old last end (commits.kept early) (c.rollback.ensures.undone clean)
    (c.lemma_committed.ensures c.requires.outside) in
    search rules

pub returns-clause-survives : goal.returns-clause-survives
returns-clause-survives g c =
    let old = c.args.conn.now in
    let last = c.digest_inside-digest.new.tx.conn.now in
    let end = c.rollback.new.self.0 in
    let commits = rw c.transaction-tx.ensures.begun at
    (reads_commit c.digest_inside-digest.result c.digest_inside-digest.ensures.reads) in
    let all : Survives (state g.S.Store old) (state g.S.Store end) (λ _. ⊥) = still
    (survives_begin g.S.Store old (state g.S.Store last) (λ _. ⊥) commits.survives) c.rollback.ensures.survives in
    search rules
