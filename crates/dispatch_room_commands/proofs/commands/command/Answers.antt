use Rattle.dispatch_room_commands.proofs.commands.command.Goals as goal

pub returns : goal.returns
returns g c = (c.read.result, c.read.ensures, c.exit.ensures)
