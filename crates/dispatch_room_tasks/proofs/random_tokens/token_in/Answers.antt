use Rattle.dispatch_room_tasks.proofs.TokenLemmas.{are_read, not_enough}
use Rattle.dispatch_room_tasks.proofs.random_tokens.token_in.Goals as goal

pub returns-in_err-text : goal.returns-in_err-text
returns-in_err-text c =
    not_enough _ _ _ _ _ _ c.requires c.in_ok-get.ensures.lookup.0.2 c.from_utf8.ensures.cases
    c.in_err-text.ensures.variant c.from_residual-in_err-text.ensures

pub returns : goal.returns
returns c =
    let first = c.in_ok-get.ensures.lookup.0 in
    are_read _ _ _ _ _ _ c.requires first.2 first.1 c.from_utf8.ensures.cases
    c.in_ok-text.ensures.value c.parse.ensures
