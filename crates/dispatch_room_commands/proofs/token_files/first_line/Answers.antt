use Rattle.std.proofs.Common.{inl, inr, refl}
use Rattle.dispatch_room_commands.proofs.token_files.first_line.Goals as goal

pub returns-in-Some : goal.returns-in-Some
returns-in-Some c =
    record { lacks = c.in-Some.ensures.0; begins = inr (c.in-Some.field-0-1.now, c.in-Some.ensures.1) }

pub returns-in-None : goal.returns-in-None
returns-in-None c = record { lacks = c.in-None.ensures; begins = inl refl }
