use Rattle.std.proofs.Common.{refl}
use Rattle.dispatch_room_commands.proofs.token_files.token_of_text.Goals as goal

pub returns-in-Some : goal.returns-in-Some
returns-in-Some c = (c.first_line.result.now, c.first_line.ensures, (c.in-Some.ensures.1, c.in-Some.ensures.0))

pub returns-in-None : goal.returns-in-None
returns-in-None c = (c.first_line.result.now, c.first_line.ensures, (refl, c.in-None.ensures))
