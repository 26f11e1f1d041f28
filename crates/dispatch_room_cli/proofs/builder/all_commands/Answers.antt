use Rattle.std.proofs.Common.{refl, true}
use Rattle.std.proofs.lemmas.Result.{IfOk-weaker}
use Rattle.dispatch_room_cli.specs.CommandLines.{command_lines}
use Rattle.dispatch_room_cli.proofs.builder.all_commands.Goals as goal

pub returns : goal.returns
returns c =
    IfOk-weaker c.commands.result _ _
    (λ commands made. record {
      forms = _;
      are_forms = record { lines = refl {a = command_lines}; simple = refl {a = true} };
      made = made;
    })
    c.commands.ensures
