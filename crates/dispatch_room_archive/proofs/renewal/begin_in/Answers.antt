use Rattle.std.proofs.Common.{false, sym, true, ◌∙◌, ◌≡◌}
use Rattle.sqlite.specs.Held.{state}
use Rattle.sqlite.proofs.StateLemmas.{survives_weaker}
use Rattle.room_store_writes.specs.NewRoom.{StandsWith}
use Rattle.dispatch_room_archive.specs.Renewal.{StandsRenewed}
use Rattle.dispatch_room_archive.proofs.RenewalLemmas.{stands_renewed}
use Rattle.dispatch_room_archive.proofs.renewal.begin_in.Goals as goal

pub create_with-requires-clause-empty : goal.create_with-requires-clause-empty
create_with-requires-clause-empty g c = sym c.schema.ensures.value ∙ c.is_empty.ensures.0 c.if-not-is_empty.false

pub create_with-requires-clause-committed : goal.create_with-requires-clause-committed
create_with-requires-clause-committed g c =
    c.lemma_committed.ensures c.requires.outside

pub returns-in-Ok-clause-begun : goal.returns-in-Ok-clause-begun
returns-in-Ok-clause-begun g c =
    let left = c.args.left.now in
    let ts = c.as_slice-terminals.result.now in
    let cs = c.as_slice.result.now in
    let same : ts ≡ left.config.terminals.items = c.as_slice-terminals.ensures.value in
    let put : cs ≡ left.changes.items = c.as_slice.ensures.value in
    record {
      empty = sym c.schema.ensures.value ∙ c.is_empty.ensures.0 c.if-not-is_empty.false;
      settled = λ clean. (c.in-Ok.ensures.ok clean).settled;
      stands =
          λ clean.
          stands_renewed left ts cs (state g.S.Store c.create_with.new.conn).now.trees same put
          (c.in-Ok.ensures.ok clean).stands;
      survives =
          survives_weaker (state g.S.Store c.args.conn) (state g.S.Store c.create_with.new.conn)
          (StandsWith left.config.plan ts cs) (StandsRenewed left)
          (λ clean db stood. stands_renewed left ts cs db same put stood) c.create_with.ensures.survives;
    }

pub returns-then-not-is_empty-clause-fault : goal.returns-then-not-is_empty-clause-fault
returns-then-not-is_empty-clause-fault g c same =
    let no : false ≡ true = sym c.if-not-is_empty.true ∙ c.is_empty.ensures.1 (c.schema.ensures.value ∙ same) in cc

pub returns-in-Err-Memory-clause-fault : goal.returns-in-Err-Memory-clause-fault
returns-in-Err-Memory-clause-fault g c = sym c.schema.ensures.value ∙ c.is_empty.ensures.0 c.if-not-is_empty.false

pub returns-clause-fault : goal.returns-clause-fault
returns-clause-fault g c = sym c.schema.ensures.value ∙ c.is_empty.ensures.0 c.if-not-is_empty.false
