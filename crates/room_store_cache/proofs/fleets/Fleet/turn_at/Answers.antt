use Rattle.std.proofs.Common.{Some, subst, sym, ◌≡◌}
use Rattle.room_types.specs.Keys.{numbered_cmp, turn_key}
use Rattle.room_types.specs.KeyLemmas.{exact_numbered, numbered_total}
use Rattle.room_types.specs.KeyedRows.{row_at}
use Rattle.room_model.proofs.Tests.{row_key}
use Rattle.room_tables_schema.proofs.ReadLaws.{begins, fails, looked, succeeds}
use Rattle.room_store_cache.proofs.fleets.Fleet.turn_at.Goals as goal

pub returns-in-Some-clause-turn : goal.returns-in-Some-clause-turn
returns-in-Some-clause-turn g c clean config room h are = sym (c.in-Some.ensures room are).0

pub returns-in_default-2-clause-turn : goal.returns-in_default-2-clause-turn
returns-in_default-2-clause-turn g c clean config room h are =
    rw c.in_default-2.is at (c.in_ok-turn.ensures.row clean config room h)

pub returns-clause-turn : goal.returns-clause-turn
returns-clause-turn g c clean config room h are = rw c.in-Some-2.is at (c.in_ok-turn.ensures.row clean config room h)

pub returns-clause-known : goal.returns-clause-known
returns-clause-known g c clean config room h are =
    let k = c.args.key.now in
    let t = c.in-Some-2.turn in
    let found : row_at numbered_cmp turn_key room.turns k
    ≡ Some t = sym (rw c.in-Some-2.is at (c.in_ok-turn.ensures.row clean config room h)) in
    let own = row_key numbered_cmp turn_key numbered_total exact_numbered room.turns k t found in
    c.fill.ensures room are (subst (λ j. row_at numbered_cmp turn_key room.turns j ≡ Some t) own found)

pub returns-in-Some-clause-reads : goal.returns-in-Some-clause-reads
returns-in-Some-clause-reads g c = succeeds (begins c.requires.open)

pub returns-in_err-turn-clause-reads : goal.returns-in_err-turn-clause-reads
returns-in_err-turn-clause-reads g c = fails c.from_residual.ensures.0 c.in_err-turn.ensures.reads

pub returns-in_default-2-clause-reads : goal.returns-in_default-2-clause-reads
returns-in_default-2-clause-reads g c = succeeds (looked c.in_ok-turn.ensures.reads)

pub returns-clause-reads : goal.returns-clause-reads
returns-clause-reads g c = succeeds (looked c.in_ok-turn.ensures.reads)
