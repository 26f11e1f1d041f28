use Rattle.dispatch_room_board.proofs.Announced.{announced, none_announced}
use Rattle.dispatch_room_board.proofs.heard_answers.length_in.Goals as goal

pub returns-in-Some : goal.returns-in-Some
returns-in-Some c = announced _ _ _ _ (c.in-Some.ensures.value _ _ c.find_field.ensures) c.of.ensures c.numeral.ensures

pub returns-in-None : goal.returns-in-None
returns-in-None c = none_announced _ (c.in-None.ensures.value _ _ c.find_field.ensures)

pub of-requires-clause-ordered : goal.of-requires-clause-ordered
of-requires-clause-ordered c = (c.in-Some.ensures.within _ _ c.find_field.ensures).0

pub of-requires-clause-in_range : goal.of-requires-clause-in_range
of-requires-clause-in_range c = (c.in-Some.ensures.within _ _ c.find_field.ensures).1
