use Rattle.std.proofs.Common.{inl, inr}
use Rattle.dispatch_room_lists.proofs.FollowLemmas.{no_change}
use Rattle.dispatch_room_lists.proofs.change_texts.change_of.Goals as goal

pub returns-in-Err-Input-clause-none : goal.returns-in-Err-Input-clause-none
returns-in-Err-Input-clause-none c =
    no_change c.change_of_terminals.result c.args.text.now
    (inl (rw c.in-Err-Input.field-0-is at c.in-Err-Input.ensures.fault)) c.change_of_terminals.ensures.none

pub returns-in-Err-Row-clause-none : goal.returns-in-Err-Row-clause-none
returns-in-Err-Row-clause-none c =
    no_change c.change_of_terminals-in-Err-Row.result c.args.text.now
    (inr (_, rw c.in-Err-Row.field-0-is at c.in-Err-Row.ensures.fault))
    c.change_of_terminals-in-Err-Row.ensures.none
