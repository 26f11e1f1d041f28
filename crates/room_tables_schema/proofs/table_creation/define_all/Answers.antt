use Rattle.std.proofs.Common.{◌∙◌, ◌+◌, subst, arith, rules, drop, map, length, ◌<◌, Result, Ok}
use Rattle.std.proofs.Common.{Err}
use Rattle.std.proofs.lemmas.List.{at_drop_more, length-map, get_or-map}
use Rattle.std.specs.Result.{IsErrAnd, IfErr}
use Rattle.sqlite.specs.Held.{state}
use Rattle.sqlite.specs.State.{HasCleanDisk}
use Rattle.room_tables_schema.proofs.WriteLaws.{commits_more, commits_none, write_commits}
use Rattle.room_tables_schema.specs.Schema.{room_schema}
use Rattle.room_tables_schema.specs.Definitions.{Lead}
use Rattle.room_tables_schema.proofs.Growth.{grows_none, grows_then, leads_on}
use Rattle.room_tables_schema.proofs.table_creation.define_all.Goals as goal

pub loop-text-init : goal.loop-text-init
loop-text-init g c = record {
  same_reference = search rules;
  inside = search rules;
  commits = commits_none;
  lead = search rules;
  rows = λ clean. grows_none _;
}

pub loop-text-preserved : goal.loop-text-preserved
loop-text-preserved g c =
    let old = state g.S.Store c.args.tx.now.conn.now in
    let mid = state g.S.Store c.loop-text.tx.conn.now in
    let new = state g.S.Store c.write.new.tx.conn.now in
    let before = c.loop-text.invariant in
    let early = λ (clean : HasCleanDisk new).
    let e : HasCleanDisk mid = omega (arith, c.write.ensures.writes.survives.clean) in e in
    let left = λ (clean : HasCleanDisk new).
    subst (λ ts. Lead mid.now.schema ts room_schema)
    (at_drop_more (map (λ t. t.now)) c.args.texts.now c.loop-text.text-index _ c.loop-text-test.true)
    (before.lead (early clean)) in
    let more = map (λ t. t.now) (drop (c.loop-text.text-index + 1) c.args.texts.now) in
    let done = λ (clean : HasCleanDisk new).
    leads_on room_schema _ more mid new _ (left clean) (c.in_ok-write.ensures.ran clean) in
    record {
      same_reference = c.write.ensures.same_reference ∙ before.same_reference;
      inside = λ clean. (c.in_ok-write.ensures.ok clean).mode;
      commits = commits_more before.commits (write_commits _ c.write.ensures.writes c.write.ensures.ok);
      lead = λ clean. (done clean).0;
      rows = λ clean. grows_then old.now mid.now new.now (before.rows (early clean)) (done clean).1;
    }

if_err_from : {T E : Type 0} {P Q : E → Type 0} (r : Result T E) → IsErrAnd r P → ((e : E) → P e → Q e) → IfErr r Q
if_err_from (Ok x) is by = tt
if_err_from (Err e) is by = by e is

pub returns-in_err-write-clause-why : goal.returns-in_err-write-clause-why
returns-in_err-write-clause-why g c clean =
    let texts = c.args.texts.now in
    let at = c.loop-text.text-index in
    if_err_from c.from_residual.result c.from_residual.ensures.1 (λ fault is. (
      c.loop-text.tx.conn.now,
      record {
        text = _;
        listed = (
          at,
          (let within : at
              < length (map (λ t. t.now) texts) =
              omega (arith, c.loop-text-test.true, length-map texts (λ t. t.now)) in
              within),
          get_or-map (λ t. t.now) texts at _ _ c.loop-text-test.true,
        );
        reached = c.loop-text.invariant.commits.survives;
        error = c.in_err-write.field-0.0;
        failed = c.in_err-write.ensures.why clean;
        fault_is = is;
      },
    ))

pub returns-in_err-write-clause-commits : goal.returns-in_err-write-clause-commits
returns-in_err-write-clause-commits g c =
    commits_more c.loop-text.invariant.commits (write_commits _ c.write.ensures.writes c.write.ensures.ok)
