use Rattle.std.proofs.Common.{inl, refl}
use Rattle.room_tables_schema.proofs.ReadLaws.{fails, lacks_memory, looked, succeeds}
use Rattle.room_store.proofs.acted_events.prepare.Goals as goal

pub returns-in-Err-rendered-clause-unavailable : goal.returns-in-Err-rendered-clause-unavailable
returns-in-Err-rendered-clause-unavailable g c = inl (c.requires.memory _ _ (_, c.in-Err-rendered.ensures, refl))

pub returns-in-Ok-rendered-clause-changes : goal.returns-in-Ok-rendered-clause-changes
returns-in-Ok-rendered-clause-changes g c = c.in-Ok.ensures.changes

pub returns-in-Ok-rendered-clause-bytes : goal.returns-in-Ok-rendered-clause-bytes
returns-in-Ok-rendered-clause-bytes g c clean config room h =
    (_, c.in-Ok-rendered.ensures, c.in-Ok.ensures.answer clean config room h)

pub returns-in-Ok-rendered-clause-cache : goal.returns-in-Ok-rendered-clause-cache
returns-in-Ok-rendered-clause-cache g c = c.in-Ok.ensures.cache

pub returns-in-Ok-rendered-clause-reads : goal.returns-in-Ok-rendered-clause-reads
returns-in-Ok-rendered-clause-reads g c = succeeds (looked c.in-Ok.ensures.reads)

pub returns-in-Err-rendered-clause-reads : goal.returns-in-Err-rendered-clause-reads
returns-in-Err-rendered-clause-reads g c = lacks_memory refl (looked c.in-Ok.ensures.reads)

pub returns-in-Err-clause-reads : goal.returns-in-Err-clause-reads
returns-in-Err-clause-reads g c = fails refl c.in-Err.ensures.reads

pub answered-requires-clause-room : goal.answered-requires-clause-room
answered-requires-clause-room g c = c.requires.room

pub answered-requires-clause-open : goal.answered-requires-clause-open
answered-requires-clause-open g c = c.requires.open
