use Rattle.std.proofs.Common.{◌≡◌, map, take, length}
use Rattle.room_tables_rows.specs.AreaSql.{area_row}
use Rattle.room_tables_rows.specs.RoomsInTables.{numbered}
use Rattle.room_tables.proofs.area_table.areas_in.Given as goal

abbrev pub invariant-loop-index : goal.invariant-loop-index
invariant-loop-index l = record {
  count : length l.areas.items ≡ l.index;
  read : map area_row (numbered 1 l.areas.items) ≡ take l.index l.shown;
}
