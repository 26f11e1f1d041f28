use Rattle.dispatch_room_lists.proofs.TerminalTextLemmas.{no_text}
use Rattle.dispatch_room_lists.proofs.change_texts.change_of_terminals.Goals as goal

pub returns-in-Err-clause-none : goal.returns-in-Err-clause-none
returns-in-Err-clause-none c = no_text c.args.bytes.now c.in-Err.ensures.cases.0
