-- The last two columns are the state's, and no state stands in them.
use Rattle.std.proofs.Common.{◌≡◌, true, rules, ap}
use Rattle.sqlite_value.specs.Order.{Row, column}
use Rattle.room_tables_rows.proofs.ReadLaws.{state_read}
use Rattle.room_tables_rows.specs.ReadableColumns.{is_or_null, is_serial}
use Rattle.room_tables_rows.proofs.incident_sql.IncidentStored.read.Goals as goal

pub returns-in_err-state-clause-has_one : goal.returns-in_err-state-clause-has_one
returns-in_err-state-clause-has_one c =
    let read = c.in_ok-division.ensures in
    let row = c.args.row.now in
    let fits : true ≡ is_or_null is_serial (column row 11) = search rules in
    search (
      rules,
      state_read (column row 10) (column row 11) _ _ _ c.in_err-state.ensures
          (ap (λ (r : Row). column r 10) read.values) (ap (λ (r : Row). column r 11) read.values) fits,
    )
