use Rattle.std.proofs.Common.{sym, ◌∙◌}
use Rattle.std.proofs.lemmas.Result.{IfOk-weaker}
use Rattle.dispatch_room_tcp.proofs.serve.next_list.Goals as goal

pub returns-clause-listed : goal.returns-clause-listed
returns-clause-listed g c =
    IfOk-weaker c.journal_file.result _ _
    (λ next is. is ∙ c.requires.journal ∙ sym c.if-not-has_journal.false) c.journal_file.ensures.listed

pub returns-clause-opens : goal.returns-clause-opens
returns-clause-opens g c = rw c.if-not-has_journal.false c.journal_file.ensures.opens
