use Rattle.std.proofs.Common.{arith}
use Rattle.std.proofs.lemmas.Result.{IfOk-weaker, IfErr-weaker}
use Rattle.sqlite.specs.Values.{bound}
use Rattle.room_tables_schema.proofs.Refusals.{never_late, query_unchanged, query_failed}
use Rattle.room_tables_schema.specs.FileConnections.{IsClean}
use Rattle.room_tables_schema.proofs.queries.select_inside.Goals as goal

pub returns-clause-reads : goal.returns-clause-reads
returns-clause-reads g c =
    let text = c.args.text.now in
    let params = bound c.args.params.now in
    let early = λ (clean : IsClean g.S.Store c.query_all.new.self.conn.now).
    let it : IsClean g.S.Store c.args.tx.now.conn.now = omega
    (arith, c.query_all.ensures.survives.clean) in
    it in
    record {
      ok =
          λ clean.
          IfOk-weaker c.query_all.result _ _
          (λ rows. query_unchanged text params _ _ c.requires (early clean) rows.items) (c.query_all.ensures.ok clean);
      err =
          λ clean.
          IfErr-weaker c.query_all.result _ _
          (λ e h.
          query_failed text params _ _ c.requires (early clean) e
          (never_late text params _ _ c.requires (early clean) e h)) (c.query_all.ensures.err clean);
      survives = c.query_all.ensures.survives;
    }

pub returns-clause-why : goal.returns-clause-why
returns-clause-why g c clean =
    let early : IsClean g.S.Store c.args.tx.now.conn.now = omega
    (arith, c.query_all.ensures.survives.clean) in
    IfErr-weaker c.query_all.result _ _ (never_late c.args.text.now (bound c.args.params.now) _ _ c.requires early)
    (c.query_all.ensures.err clean)
