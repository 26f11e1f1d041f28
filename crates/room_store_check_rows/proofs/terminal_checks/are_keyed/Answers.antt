use Rattle.std.specs.Ordering.{is_lt}
use Rattle.std.proofs.Common.{rules}
use Rattle.std.proofs.lemmas.List.Sorted.{answers_always}
use Rattle.room_model.specs.FleetRows.{token_cmp}
use Rattle.room_store_check_rows.proofs.TokenOrder.{keyed_decides}
use Rattle.room_store_check_rows.proofs.terminal_checks.are_keyed.Goals as goal

pub returns : goal.returns
returns c =
    keyed_decides c.args.terminals.now c.is_sorted_by.result
    (c.is_sorted_by.ensures.cases (λ t u. is_lt (token_cmp t.token u.token))
    (answers_always _ _ _ (λ f a r h called. search rules)))
