use Rattle.dispatch_room_disk.proofs.room_files.copied_out.Goals as goal

pub returns-in-Ok-clause-copied : goal.returns-in-Ok-clause-copied
returns-in-Ok-clause-copied g c = (c.in-Ok.files, c.in-Ok.ensures.copied)

pub returns-in-Err-clause-fault : goal.returns-in-Err-clause-fault
returns-in-Err-clause-fault g c = record {
  error = c.in-Err.error;
  failed = c.fault_of.ensures;
  last = c.in-Err.store;
  left = c.in-Err.ensures.err.0;
  why = c.in-Err.ensures.err.1;
}
