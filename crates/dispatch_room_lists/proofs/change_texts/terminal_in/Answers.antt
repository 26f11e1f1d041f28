use Rattle.dispatch_room_lists.proofs.TerminalTextLemmas.{no_comma, no_name, no_token}
use Rattle.dispatch_room_lists.proofs.change_texts.terminal_in.Goals as goal

pub returns-in_err-who : goal.returns-in_err-who
returns-in_err-who c = rw c.from_residual.ensures (no_comma c.args.line.now c.in_err-who.ensures.cases)

pub returns-in_err-parse : goal.returns-in_err-parse
returns-in_err-parse c =
    rw c.from_residual-in_err-parse.ensures (no_token c.args.line.now c.in_ok-who.who c.in_ok-who.token
    c.in_ok-who.ensures.cases c.in_err-parse.ensures)

pub returns-in_err-who_of : goal.returns-in_err-who_of
returns-in_err-who_of c =
    rw c.from_residual-in_err-who_of.ensures (no_name c.args.line.now c.in_ok-who.who c.in_ok-who.token
    c.in_ok-who.ensures.cases c.in_err-who_of.ensures)
