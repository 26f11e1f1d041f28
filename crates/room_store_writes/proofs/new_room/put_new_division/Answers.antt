use Rattle.std.proofs.Common.{sym, true, ◌∙◌, ◌≡◌}
use Rattle.std.proofs.lemmas.Result.{IfOk-weaker}
use Rattle.room_place.specs.Plans.{has_division}
use Rattle.room_tables_schema.proofs.WriteLaws.{commits_none}
use Rattle.room_store_writes.proofs.CommitLaws.{may_on, put_commits}
use Rattle.room_store_writes.proofs.new_room.put_new_division.Goals as goal

pub returns-clause-stands : goal.returns-clause-stands
returns-clause-stands g c clean =
    let has : has_division c.args.plan.now.areas c.args.number ≡ true = sym c.has.ensures ∙ c.if-not-has.false in
    IfOk-weaker c.put.result _ _ (λ _ makes config room h. rw (has, ← c.of.ensures) (makes.stands config room h))
    (c.put.ensures.ok clean)

pub returns-clause-commits : goal.returns-clause-commits
returns-clause-commits g c = put_commits _ _ _ _ _ c.put.result c.put.ensures.ok c.put.ensures.writes

pub returns-then-not-has-clause-commits : goal.returns-then-not-has-clause-commits
returns-then-not-has-clause-commits g c = commits_none

pub returns-clause-inside : goal.returns-clause-inside
returns-clause-inside g c =
    may_on g.S.Store c.args.tx.now.conn.now c.put.new.tx.conn.now _ _ c.put.result c.put.ensures.ok
