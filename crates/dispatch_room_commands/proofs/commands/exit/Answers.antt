use Rattle.dispatch_room_commands.proofs.commands.exit.Goals as goal

pub returns-after-file : goal.returns-after-file
returns-after-file g c =
    rw c.in-Ok.is (
      c.perform-done.result,
      c.perform-done.ensures,
      c.end.ensures.status,
    )
