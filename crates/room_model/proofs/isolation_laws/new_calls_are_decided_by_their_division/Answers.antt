use Rattle.room_model.proofs.CallsApart.{call_by_share, call_by_working}
use Rattle.room_model.proofs.isolation_laws.new_calls_are_decided_by_their_division.Goals as goal

pub returns-clause-share : goal.returns-clause-share
returns-clause-share g d p f at r w new placed = call_by_share d r w p f at new placed

pub returns-clause-working : goal.returns-clause-working
returns-clause-working g d p f at r w new placed = call_by_working d r w p f at new placed
