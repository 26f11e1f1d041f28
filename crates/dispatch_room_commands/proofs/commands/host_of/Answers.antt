use Rattle.std.proofs.Common.{Bool, false, refl, true, ◌≡◌}
use Rattle.std.specs.Prelude.{MatchBool}
use Rattle.dispatch_room_commands.proofs.commands.host_of.Goals as goal

-- what is asked for is said to be
asked : (said : Bool) (P : Type 0) → MatchBool said P (¬ P) → P → said ≡ true
asked true P is why = refl
asked false P is why = absurd (is why)

pub returns : goal.returns
returns g c = λ why. c.explainer_of.ensures (asked c.explains.result _ c.explains.ensures why)
