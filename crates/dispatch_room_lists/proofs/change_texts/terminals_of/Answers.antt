use Rattle.dispatch_room_lists.proofs.TerminalTextLemmas.{no_header}
use Rattle.dispatch_room_lists.proofs.change_texts.terminals_of.Goals as goal

pub returns-in_default-clause-none : goal.returns-in_default-clause-none
returns-in_default-clause-none c = no_header c.args.text.now c.in_default.ensures.cases
