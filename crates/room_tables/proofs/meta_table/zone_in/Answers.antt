use Rattle.std.proofs.Common.{inl, sym, arith}
use Rattle.room_tables_rows.specs.MetaSql.{is_meta_row}
use Rattle.room_tables.proofs.Unread.{stranger_at}
use Rattle.room_tables.proofs.meta_table.zone_in.Goals as goal

pub returns-in-None-clause-why : goal.returns-in-None-clause-why
returns-in-None-clause-why c =
    inl (stranger_at c.args.shown.now 0 c.row-item.result (omega arith) c.row-item.is (is_meta_row c.args.version)
    (sym c.in-None.ensures.has_one))
