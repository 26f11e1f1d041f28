use Rattle.room_tables_rows.proofs.RowLaws.{meta_faithful, area_faithful, terminal_faithful}
use Rattle.room_tables_rows.proofs.RowLaws.{division_faithful, incident_faithful, call_faithful}
use Rattle.room_tables_rows.proofs.RowLaws.{vehicle_faithful, turn_faithful, assignment_faithful}
use Rattle.room_tables_rows.proofs.RowLaws.{point_faithful, loan_faithful, report_faithful}
use Rattle.room_tables_rows.proofs.RowLaws.{offer_faithful}
use Rattle.room_tables_rows.proofs.laws.rows_are_faithful.Goals as goal

pub returns : goal.returns
returns c = record {
  meta = meta_faithful;
  areas = area_faithful;
  terminals = terminal_faithful;
  divisions = division_faithful;
  incidents = incident_faithful;
  calls = call_faithful;
  vehicles = vehicle_faithful;
  turns = turn_faithful;
  assignments = assignment_faithful;
  points = point_faithful;
  loans = loan_faithful;
  reports = report_faithful;
  offers = offer_faithful;
}
