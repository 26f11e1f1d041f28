use Rattle.room_store_writes.proofs.FitLaws.{none_left}
use Rattle.room_store_writes.proofs.terminal_laws.none_is_left.Goals as goal

pub returns : goal.returns
returns c room ts who k are = none_left room ts are who k
