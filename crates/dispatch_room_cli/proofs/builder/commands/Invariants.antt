use Rattle.std.proofs.Common.{take}
use Rattle.dispatch_room_cli.specs.CommandForms.{AreCommands}
use Rattle.dispatch_room_cli.proofs.builder.commands.Given as goal

abbrev pub invariant-loop-form : goal.invariant-loop-form
invariant-loop-form l = AreCommands (take l.form-index l.forms) l.commands.items
