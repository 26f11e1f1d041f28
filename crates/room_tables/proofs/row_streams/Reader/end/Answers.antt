use Rattle.room_tables.proofs.row_streams.Reader.end.Goals as goal

pub returns-in-Ok : goal.returns-in-Ok
returns-in-Ok g c first shown taken = (c.args.self.last, rw c.in-Ok.is at taken)
