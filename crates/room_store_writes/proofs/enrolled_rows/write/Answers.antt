use Rattle.room_store_writes.proofs.enrolled_rows.write.Goals as goal

pub returns-in-Added-clause-ok : goal.returns-in-Added-clause-ok
returns-in-Added-clause-ok g c = rw c.in-Added.is c.write_row.ensures.ok

pub returns-in-Added-clause-survives : goal.returns-in-Added-clause-survives
returns-in-Added-clause-survives g c = rw c.in-Added.is c.write_row.ensures.survives
