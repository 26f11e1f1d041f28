use Rattle.dispatch_room_disk.proofs.room_files.connection.Goals as goal

pub returns-in-Ok-clause-found : goal.returns-in-Ok-clause-found
returns-in-Ok-clause-found g c clean =
    let said = c.in-Ok.ensures in
    record { is_open = said.opened clean; finds = said.found clean; guarded = said.guarded clean }

pub returns-in-Err-clause-unharmed : goal.returns-in-Err-clause-unharmed
returns-in-Err-clause-unharmed g c =
    record {
      error = c.in-Err.error;
      failed = c.fault_of.ensures;
      left = c.in-Err.left;
      kept = c.in-Err.ensures.unharmed;
    }
