use Rattle.std.proofs.Common.{ap, arith, subst, suc, ◌+◌, ◌-◌, ◌∙◌, ◌≡◌}
use Rattle.sqlite.specs.Held.{state}
use Rattle.sqlite.specs.State.{HasCleanDisk}
use Rattle.room_tables.specs.RoomsInTables.{Stands}
use Rattle.room_place.specs.Plans.{has_division}
use Rattle.room_tables_schema.proofs.WriteLaws.{commits_more}
use Rattle.room_store_writes.specs.NewRoom.{new_divisions}
use Rattle.room_store_writes.proofs.CreationSteps.{divisions_more, divisions_to}
use Rattle.room_store_writes.proofs.new_room.put_divisions.Goals as goal

pub loop-number-preserved : goal.loop-number-preserved
loop-number-preserved g c =
    let old = state g.S.Store c.args.tx.now.conn.now in
    let mid = state g.S.Store c.loop-number.tx.conn.now in
    let new = state g.S.Store c.put_new_division.new.tx.conn.now in
    let before = c.loop-number.invariant in
    let early = λ (clean : HasCleanDisk new).
    let e : HasCleanDisk mid = omega (arith, c.put_new_division.ensures.commits.survives.clean) in e in
    let passes = has_division c.args.plan.now.areas in
    let n = c.loop-number.number in
    record {
      same_reference = c.put_new_division.ensures.same_reference ∙ before.same_reference;
      commits = commits_more before.commits c.put_new_division.ensures.commits;
      may = c.in_ok-put_new_division.ensures.inside;
      stands = λ clean config room h none.
          let after : n ≡ 1 + (n - 1) = omega (arith, c.loop-number.auto.number) in
          let next : suc (n - 1) ≡ n + 1 - 1 = omega (arith, c.loop-number.auto.number) in
          let divisions = divisions_to passes 1 (n - 1) in
          let made = c.in_ok-put_new_division.ensures.stands clean config (record room { divisions = divisions })
          (before.stands (early clean) config room h none) in
          subst (λ l. Stands new.now.trees config (record room { divisions = l }))
          (divisions_more passes 1 (n - 1) n after ∙ ap (divisions_to passes 1) next) (rw c.of.ensures at made);
    }

pub returns-clause-stands : goal.returns-clause-stands
unfolding new_divisions
returns-clause-stands g c clean config room h none =
    let last : c.loop-number.number - 1 ≡ 9 = omega (arith, c.loop-number-test.false, c.loop-number.auto.number-end) in
    subst (λ k.
    Stands (state g.S.Store c.loop-number.tx.conn.now).now.trees config
    (record room { divisions = divisions_to (has_division c.args.plan.now.areas) 1 k })) last
    (c.loop-number.invariant.stands clean config room h none)

pub returns-in_err-put_new_division-clause-commits : goal.returns-in_err-put_new_division-clause-commits
returns-in_err-put_new_division-clause-commits g c =
    commits_more c.loop-number.invariant.commits c.put_new_division.ensures.commits
