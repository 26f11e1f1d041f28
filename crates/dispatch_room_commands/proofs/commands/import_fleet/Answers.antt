use Rattle.dispatch_room_commands.proofs.commands.import_fleet.Goals as goal

pub returns-in-Some : goal.returns-in-Some
returns-in-Some g c = rw c.in-Some.is c.import_kept.ensures

pub returns-in-None : goal.returns-in-None
returns-in-None g c = rw c.in-None.is c.import.ensures
