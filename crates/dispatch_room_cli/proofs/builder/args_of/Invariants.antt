use Rattle.std.proofs.Common.{take}
use Rattle.dispatch_room_cli.specs.CommandForms.{AreArgs}
use Rattle.dispatch_room_cli.proofs.builder.args_of.Given as goal

abbrev pub invariant-loop-word : goal.invariant-loop-word
invariant-loop-word l = AreArgs (take l.word-index l.words) l.args.items
