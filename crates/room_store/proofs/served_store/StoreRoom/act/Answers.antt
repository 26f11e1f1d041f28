use Rattle.std.proofs.lemmas.Result.{on_err_weaker}
use Rattle.room_store.proofs.KnownLaws.{knows_nothing}
use Rattle.room_store.proofs.StoreLaws.{acted_left, err_both, kept_settled, room_left}
use Rattle.room_tables_schema.proofs.ReadLaws.{any_err}
use Rattle.room_store.proofs.served_store.StoreRoom.act.Goals as goal

pub returns-clause-same : goal.returns-clause-same
returns-clause-same g c clean =
    on_err_weaker c.act.result
    (λ both terminals room is.
    room_left g.S.Store c.args.self.now c.act.new.self terminals room both.0 c.act.ensures.plan
    (rw c.act.ensures.known is.known) (knows_nothing c.act.new.self.cache room both.1) is)
    (err_both c.act.result _ _ (c.act.ensures.err clean) c.act.ensures.failed)

pub returns-clause-kept : goal.returns-clause-kept
returns-clause-kept g c clean =
    kept_settled g.S.Store c.act.new.self c.act.result (c.act.ensures.settled clean) (c.act.ensures.only_left clean)

pub returns-clause-left : goal.returns-clause-left
returns-clause-left g c clean =
    any_err c.act.result (λ kept terminals room is addressed.
    acted_left g.S.Store c.args.self.now c.act.new.self c.act.ensures.plan clean kept c.args.event.now terminals room is
    addressed c.act.ensures.survives)
