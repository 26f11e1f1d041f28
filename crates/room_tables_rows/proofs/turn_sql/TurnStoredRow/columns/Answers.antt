use Rattle.std.proofs.Common.{refl}
use Rattle.room_tables_schema.proofs.ColumnValues.{bound-number_or_null}
use Rattle.room_tables_rows.proofs.turn_sql.TurnStoredRow.columns.Goals as goal

pub returns : goal.returns
returns c =
    let turn = c.args.self.now in
    rw (
      c.of.ensures,
      c.store.ensures,
      c.store-2.ensures,
      c.store-3.ensures,
      c.store-4.ensures,
      c.store-5.ensures,
      c.store-6.ensures,
      c.store-7.ensures,
      c.store-8.ensures,
      c.store-9.ensures,
      c.store-10.ensures,
      c.store-11.ensures,
      c.store-12.ensures,
      bound-number_or_null turn.acknowledged,
      bound-number_or_null turn.scene,
      bound-number_or_null turn.left,
      bound-number_or_null turn.hospital,
      bound-number_or_null turn.ended,
    ) refl
