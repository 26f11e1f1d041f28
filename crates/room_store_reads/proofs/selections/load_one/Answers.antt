use Rattle.std.proofs.Common.{ap, ◌∙◌}
use Rattle.std.proofs.lemmas.Result.{IfOk-weaker}
use Rattle.room_tables_schema.proofs.ReadLaws.{ends_any, fails, looked}
use Rattle.room_types.specs.KeyedRows.{listed as list_of}
use Rattle.room_store_reads.proofs.KeyedUnions.{only_found}
use Rattle.room_store_reads.proofs.selections.load_one.Goals as goal

pub returns-clause-rows : goal.returns-clause-rows
returns-clause-rows g c clean =
    IfOk-weaker c.listed.result _ _ (λ x is config room h keyed.
    is ∙ ap list_of c.owned_row.ensures
    ∙ only_found g.R.Key.Ord.cmp g.R.Row.key_of g.met.R.Key.Ord.total (g.R.Row.owned c.args.division)
    (g.R.Table.rows room) c.args.key.now _ keyed (c.in_ok-found.ensures.row clean config room h)) c.listed.ensures.rows

pub returns-in_err-found-clause-reads : goal.returns-in_err-found-clause-reads
returns-in_err-found-clause-reads g c = fails c.from_residual.ensures.0 c.in_err-found.ensures.reads

pub returns-clause-reads : goal.returns-clause-reads
returns-clause-reads g c = ends_any c.listed.result (looked c.in_ok-found.ensures.reads)
