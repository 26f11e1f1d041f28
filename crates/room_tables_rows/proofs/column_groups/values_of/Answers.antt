use Rattle.std.proofs.Common.{◌≡◌, false, length, refl, rules, arith}
use Rattle.room_tables_rows.proofs.ReadLaws.{all_columns, none_stand}
use Rattle.room_tables_rows.proofs.column_groups.values_of.Goals as goal

pub returns-then-column_count-width-clause-values : goal.returns-then-column_count-width-clause-values
returns-then-column_count-width-clause-values g c =
    let stand = g.T.Fields.stand in
    let long : length c.args.row.now ≡ length stand = omega arith in
    all_columns c.read_from.result g.T.Fields.cells (length stand) c.args.row.now long c.read_from.ensures.values

pub returns-else-column_count-width-clause-has_all : goal.returns-else-column_count-width-clause-has_all
returns-else-column_count-width-clause-has_all g c =
    search (rules, none_stand false refl g.T.Fields.stand c.args.row.now 0)
