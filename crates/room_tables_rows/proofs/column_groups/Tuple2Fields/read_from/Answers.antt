use Rattle.std.proofs.Common.{◌+◌, rules}
use Rattle.room_tables_rows.proofs.ReadLaws.{none_stand}
use Rattle.room_tables_rows.proofs.column_groups.Tuple2Fields.read_from.Goals as goal

pub returns-in_err-first-clause-has_all : goal.returns-in_err-first-clause-has_all
returns-in_err-first-clause-has_all g c =
    search (rules, none_stand _ c.in_err-first.ensures.has_one g.R.Fields.stand c.args.row.now (c.args.at + 1))
