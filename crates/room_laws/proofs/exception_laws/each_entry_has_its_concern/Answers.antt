use Rattle.room_laws.proofs.Causes.{named_entry}
use Rattle.room_laws.proofs.exception_laws.each_entry_has_its_concern.Goals as goal

pub returns : goal.returns
returns g d at r x formed there = let is = named_entry d at r formed x there in (is.0, is.1)
