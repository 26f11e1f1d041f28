use Rattle.std.proofs.Common.{◌∙◌, sym, arith}
use Rattle.dispatch_room_journal.proofs.AdvanceLemmas.{first_set}
use Rattle.dispatch_room_journal.proofs.list_source.ListSource.read_ready.Goals as goal

pub returns-in-Ok-Wrong-clause-bytes : goal.returns-in-Ok-Wrong-clause-bytes
returns-in-Ok-Wrong-clause-bytes g c =
    let step = (rw c.in-Ok-Wrong.field-0-is at c.in-Ok-Wrong.ensures.step) in
    let given = first_set c.args.buf.now (sym c.is_empty.ensures ∙ c.if-is_empty.false) in
    (rw given step, λ none. absurd (omega (arith, none)))
