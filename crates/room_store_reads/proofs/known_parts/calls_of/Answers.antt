use Rattle.std.proofs.Common.{sym, ◌∙◌}
use Rattle.room_store_reads.proofs.ReadFilters.{filter_none}
use Rattle.room_store_reads.proofs.known_parts.calls_of.Goals as goal

pub returns-else-is_read-clause-calls : goal.returns-else-is_read-clause-calls
returns-else-is_read-clause-calls c =
    rw c.if-is_read.false (c.new.ensures ∙ sym (filter_none c.args.list.now.calls))
