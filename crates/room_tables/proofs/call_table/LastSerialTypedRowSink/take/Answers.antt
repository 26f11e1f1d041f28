use Rattle.std.proofs.Common.{ap, sym, ◌∙◌}
use Rattle.std.specs.Prelude.{max}
use Rattle.room_tables.proofs.Serials.{greatest_end}
use Rattle.room_tables.proofs.call_table.LastSerialTypedRowSink.take.Goals as goal

pub returns-clause-taken : goal.returns-clause-taken
returns-clause-taken c first calls keyed so_far none =
    c.greater-self.ensures ∙ ap (λ n. max n c.args.row.serial) (so_far none) ∙ sym (greatest_end calls c.args.row)
