use Rattle.std.proofs.Common.{arith}
use Rattle.std.proofs.lemmas.Result.{IfOk-weaker, IfErr-weaker}
use Rattle.sqlite.specs.Values.{bound}
use Rattle.room_tables_schema.proofs.Refusals.{query_unchanged, query_failed, query_survives}
use Rattle.room_tables_schema.specs.FileConnections.{IsClean}
use Rattle.room_tables_schema.proofs.queries.select.Goals as goal

pub returns-clause-reads : goal.returns-clause-reads
returns-clause-reads g c =
    let text = c.args.text.now in
    let params = bound c.args.params.now in
    let early = λ (clean : IsClean g.S.Store c.query_all.new.self).
    let it : IsClean g.S.Store c.args.conn.now = omega (arith, c.query_all.ensures.survives.clean) in it in
    record {
      ok =
          λ clean.
          IfOk-weaker c.query_all.result _ _
          (λ rows. query_unchanged text params _ _ c.requires (early clean) rows.items) (c.query_all.ensures.ok clean);
      err =
          λ clean.
          IfErr-weaker c.query_all.result _ _ (query_failed text params _ _ c.requires (early clean))
          (c.query_all.ensures.err clean);
      mode = c.query_all.ensures.mode;
      survives = query_survives text params _ _ c.requires c.query_all.ensures.survives;
    }
