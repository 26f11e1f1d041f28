use Rattle.room_types.proofs.rows.Rows.search.Goals as goal

pub returns-clause-found : goal.returns-clause-found
returns-clause-found g c = rw c.as_slice.ensures.all at c.search.ensures.found

pub returns-clause-absent : goal.returns-clause-absent
returns-clause-absent g c = rw c.as_slice.ensures.all at c.search.ensures.absent
