use Rattle.std.proofs.Common.{Err, Ok, Result, ◌≡◌}
use Rattle.std.proofs.lemmas.Result.{on_err_weaker}
use Rattle.std.specs.Prelude.{MatchResult}
use Rattle.room_tables_schema.proofs.ReadLaws.{any_err}
use Rattle.room_model.specs.declared.digests.DigestMismatch.TheVariants.{OtherDigest}
use Rattle.room_store.proofs.KnownLaws.{knows_nothing}
use Rattle.room_store.proofs.StoreLaws.{acted_left, err_both, room_left, settled_kept}
use Rattle.room_store.proofs.store_digest.StoreDigested.act_towards.Goals as goal

-- what both cases come to
both : {T E P Q : Type 0} (When : E → Type 0) (r : Result T E) → (P → Q)
    → MatchResult r (λ _. P) (λ e. When e → P) → MatchResult r (λ _. Q) (λ e. When e → Q)
both When (Ok x) f p = f p
both When (Err e) f p = λ is. f (p is)

pub returns-clause-same : goal.returns-clause-same
returns-clause-same g c clean =
    on_err_weaker c.act_towards.result
    (λ both terminals room is.
    room_left g.S.Store c.args.self.now c.act_towards.new.self terminals room both.0 c.act_towards.ensures.plan
    (rw c.act_towards.ensures.known is.known) (knows_nothing c.act_towards.new.self.cache room both.1) is)
    (err_both c.act_towards.result _ _ (c.act_towards.ensures.err clean) c.act_towards.ensures.failed)

pub returns-clause-kept : goal.returns-clause-kept
returns-clause-kept g c clean =
    both (λ m. m ≡ OtherDigest) c.act_towards.result
    (settled_kept g.S.Store c.act_towards.new.self (g.met.S.Store.settled c.act_towards.new.self.conn.store))
    (c.act_towards.ensures.settled clean)

pub returns-clause-left : goal.returns-clause-left
returns-clause-left g c clean =
    any_err c.act_towards.result (λ kept terminals room is addressed.
    acted_left g.S.Store c.args.self.now c.act_towards.new.self c.act_towards.ensures.plan clean kept c.args.event.now
    terminals room is addressed c.act_towards.ensures.survives)

pub returns-clause-after : goal.returns-clause-after
returns-clause-after g c clean = c.act_towards.ensures.ok clean

pub returns-clause-another : goal.returns-clause-another
returns-clause-another g c clean = c.act_towards.ensures.another clean
