use Rattle.std.proofs.Common.{rules, tests}
use Rattle.std.proofs.lemmas.Iterator.Search.{any_from_yields_List}
use Rattle.std.proofs.lemmas.Iterator.Splits.{YieldsList-from_slice_split}
use Rattle.room_http_messages.specs.ConnectionOptions.{has_option, is_comma, is_option}
use Rattle.room_http_messages.proofs.connection.has_option.Goals as goal

pub returns : goal.returns
unfolding has_option
returns c =
    any_from_yields_List (is_option c.args.option.now) _ _ _ c.any.ensures.ran
    (YieldsList-from_slice_split _ is_comma c.args.list.now c.split.ensures.rest c.split.ensures.done
    c.split.ensures.closure (λ x r q k. search (rules, tests)))
    (λ x r q k. search rules)
