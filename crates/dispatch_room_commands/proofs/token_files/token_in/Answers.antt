use Rattle.room_types.proofs.Letters.{token_text}
use Rattle.dispatch_room_commands.proofs.token_files.token_in.Goals as goal

pub returns-in_default : goal.returns-in_default
returns-in_default c = λ is. c.in_default.ensures.cases.0 (token_text c.args.bytes.now is)

pub returns : goal.returns
returns c = rw c.in-Ok.ensures.cases.0 at c.parse.ensures
