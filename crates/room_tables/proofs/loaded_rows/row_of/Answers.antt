use Rattle.std.proofs.Common.{inl, sym, arith}
use Rattle.room_tables.proofs.Unread.{stranger_at}
use Rattle.room_tables.proofs.loaded_rows.row_of.Goals as goal

pub returns-in-None-clause-why : goal.returns-in-None-clause-why
returns-in-None-clause-why g c =
    inl (stranger_at c.args.shown.now 0 c.columns-item.result (omega arith) c.columns-item.is g.X.Stored.is_row
    (sym c.in-None.ensures.has_one))
