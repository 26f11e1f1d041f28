use Rattle.std.proofs.Common.{◌∙◌, sym}
use Rattle.dispatch_room_journal.proofs.FormLemmas.{few_new, few_plain}
use Rattle.dispatch_room_journal.proofs.whole_records.form_of_few.Goals as goal

pub returns-then-begin_line : goal.returns-then-begin_line
returns-then-begin_line c = few_new c.args.bytes.now c.requires (sym c.begin_line.ensures ∙ c.if-begin_line.true)

pub returns : goal.returns
returns c = few_plain c.args.bytes.now c.requires (sym c.begin_line.ensures ∙ c.if-begin_line.false)
