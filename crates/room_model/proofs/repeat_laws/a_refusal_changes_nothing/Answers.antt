use Rattle.std.proofs.Common.{ap}
use Rattle.room_model.specs.Decisions.{changes_of}
use Rattle.room_model.specs.Room.{apply}
use Rattle.room_model.proofs.repeat_laws.a_refusal_changes_nothing.Goals as goal

pub returns : goal.returns
returns g e r why h = ap (λ x. apply r (changes_of x)) h
