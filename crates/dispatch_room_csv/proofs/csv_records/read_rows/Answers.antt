use Rattle.std.proofs.Common.{◌<◌, ◌∙◌, ap, arith, length, map, sym, []}
use Rattle.std.proofs.lemmas.Bool.{eqb-true}
use Rattle.std.proofs.lemmas.List.{get_or-map, length-map}
use Rattle.std.proofs.lemmas.Result.{err_from_is_err_and}
use Rattle.csv.specs.Records.{fields_of}
use Rattle.dispatch_room_csv.proofs.TableLemmas.{headed, rows_explained}
use Rattle.dispatch_room_csv.proofs.csv_records.read_rows.Goals as goal
use Rattle.dispatch_room_csv.proofs.csv_records.read_rows.Goals.{then-is_empty-via-then-is_empty}
use Rattle.dispatch_room_csv.proofs.csv_records.read_rows.Goals.{then-is_empty-via-else-is_empty+then-not-has_names}

pub returns-in_err-records-clause-fault : goal.returns-in_err-records-clause-fault
returns-in_err-records-clause-fault c =
    let stated = err_from_is_err_and c.from_residual.result c.from_residual.ensures.1 in
    rw (stated.1, stated.2) (rows_explained _ c.args.text.now _ c.in_err-records.ensures.fault)

pub returns-then-is_empty-clause-fault : goal.returns-then-is_empty-clause-fault
returns-then-is_empty-clause-fault c = λ rows under.
    let records = c.in_ok-records.records.items in
    let head = headed (map (λ name. name.now) c.args.names.now) c.args.text.now (map fields_of records) rows []
    c.in_ok-records.ensures.table under in
    let some : 0 < length records = omega (arith, head.0, length-map records fields_of) in
    elim c.then-is_empty.branch [
      | then-is_empty-via-then-is_empty w ↦
          absurd (omega (arith, some, eqb-true _ _ (sym c.is_empty.ensures ∙ w.if-is_empty.true)))
      | then-is_empty-via-else-is_empty+then-not-has_names w ↦
          let first = ap fields_of w.index.ensures ∙ sym (get_or-map fields_of records 0 w.index.result.now [] some)
          ∙ head.1 in
          cc (w.if-not-has_names.true, w.has_names.ensures.1 first)
    ]
