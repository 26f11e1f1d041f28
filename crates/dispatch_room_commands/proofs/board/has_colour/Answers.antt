use Rattle.std.proofs.Common.{refl}
use Rattle.dispatch_room_commands.proofs.board.has_colour.Goals as goal

pub returns-in-Auto : goal.returns-in-Auto
returns-in-Auto g c printed = rw c.in-Auto.is (_, refl, c.has_terminal.ensures, refl)

pub returns-in-Always : goal.returns-in-Always
returns-in-Always g c printed = rw c.in-Always.is (refl, refl)

pub returns-in-Never : goal.returns-in-Never
returns-in-Never g c printed = rw c.in-Never.is (refl, refl)
