use Rattle.room_store_writes.proofs.FitLaws.{fit}
use Rattle.room_store_writes.proofs.terminal_laws.changed_terminals_fit.Goals as goal

pub returns : goal.returns
returns c room ts who token are none = fit room ts are who token none
