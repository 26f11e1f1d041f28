use Rattle.dispatch_room_changes.proofs.kept_changes.make_in_file.Goals as goal

pub returns-in-None : goal.returns-in-None
returns-in-None g c = rw c.in-None.is c.make_unkept.ensures

pub returns-in-Some : goal.returns-in-Some
returns-in-Some g c = rw c.in-Some.is c.make_kept.ensures
