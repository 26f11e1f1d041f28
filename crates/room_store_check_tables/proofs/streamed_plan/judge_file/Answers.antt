use Rattle.std.proofs.Common.{arith, inl, inr, subst, sym, ◌∙◌}
use Rattle.std.proofs.lemmas.Bool.{false≢true}
use Rattle.sqlite.specs.Effect.{Database}
use Rattle.sqlite.specs.Held.{state}
use Rattle.sqlite.specs.State.{HasCleanDisk}
use Rattle.room_tables_schema.proofs.ReadLaws.{and, looked}
use Rattle.room_tables.proofs.ReadFailures.{if_storage}
use Rattle.room_store_check_tables.proofs.Findings.{none_found, not_reported, storage_reported}
use Rattle.room_store_check_tables.proofs.Findings.{stored}
use Rattle.room_store_check_tables.proofs.RowLaws.{fails_at_rowids, fails_then}
use Rattle.room_store_check_tables.proofs.StreamLaws.{inside_of, none_done, reads_nothing}
use Rattle.room_store_check_tables.specs.StreamedPlan.{HasJudged}
use Rattle.room_store_check_tables.proofs.streamed_plan.judge_file.Goals as goal

pub are_numbered_streamed-requires : goal.are_numbered_streamed-requires
are_numbered_streamed-requires g c =
    record { room = λ clean. sym c.schema.ensures.value ∙ c.is_room.ensures.0 c.if-not-is_room.false }

pub returns-then-not-is_room-clause-nothing : goal.returns-then-not-is_room-clause-nothing
returns-then-not-is_room-clause-nothing g c = none_done g.S.Store c.args.conn.now

pub returns-in_err-are_numbered_streamed : goal.returns-in_err-are_numbered_streamed
returns-in_err-are_numbered_streamed g c =
    let failed = c.from_residual.ensures in
    let reads = c.in_err-are_numbered_streamed.ensures.reads in
    let settled = c.lemma_committed.ensures c.requires.outside in
    record {
      found = λ clean. none_found _ _ failed.0;
      unnumbered = λ clean. not_reported _ c.in_err-are_numbered_streamed.field-0.0 _ failed.1;
      why =
          λ clean.
          storage_reported _ c.in_err-are_numbered_streamed.field-0.0 _ failed.1
          (if_storage c.in_err-are_numbered_streamed.field-0.0 (c.in_err-are_numbered_streamed.ensures.why clean)
          (λ f. inr (fails_at_rowids f)));
      nothing = reads_nothing g.S.Store _ _ _ settled reads;
      ended = reads.mode c.requires.outside;
    }

pub returns-then-not-branch : goal.returns-then-not-branch
returns-then-not-branch g c =
    let test = c.in_ok-are_numbered_streamed.ensures in
    let settled = c.lemma_committed.ensures c.requires.outside in
    record {
      found = λ clean. tt;
      unnumbered =
          λ clean is. (
            (test.reads.ok clean).0.was_open,
            λ all. false≢true (sym c.if-not-branch.true ∙ (test.numbered clean).1 all),
          );
      why = λ clean storage. cc;
      nothing = reads_nothing g.S.Store _ _ _ settled test.reads;
      ended = test.reads.mode c.requires.outside;
    }

pub returns-in-Ok : goal.returns-in-Ok
returns-in-Ok g c =
    let mid = state g.S.Store c.are_numbered_streamed.new.conn in
    let test = c.in_ok-are_numbered_streamed.ensures in
    let settled = c.lemma_committed.ensures c.requires.outside in
    let reads = and (looked test.reads) c.in-Ok.ensures.reads in
    record {
      found = λ clean.
          let early : HasCleanDisk mid = omega (arith, c.in-Ok.ensures.reads.survives.clean) in
          let same = (test.reads.ok early).0 in
          record {
            is_open = same.was_open;
            numbered = (test.numbered early).0 c.if-not-branch.false;
            judged_are =
                subst (λ (db : Database). HasJudged db.trees c.args.plan.now.areas c.in-Ok.judged) same.now_is
                (c.in-Ok.ensures.judged clean);
          };
      unnumbered = λ clean. tt;
      why = λ clean. tt;
      nothing = reads_nothing g.S.Store _ _ _ settled reads;
      ended = reads.mode c.requires.outside;
    }

pub returns-then-not-is_room-clause-why : goal.returns-then-not-is_room-clause-why
returns-then-not-is_room-clause-why g c clean storage =
    inl (λ is. false≢true (sym c.if-not-is_room.true ∙ c.is_room.ensures.1 (c.schema.ensures.value ∙ is)))

pub returns-in-Err-clause-why : goal.returns-in-Err-clause-why
returns-in-Err-clause-why g c clean =
    let reads = inside_of c.in_ok-are_numbered_streamed.ensures.reads in
    rw c.from.ensures
    (stored c.in-Err.fault (if_storage c.in-Err.fault (c.in-Err.ensures.why clean) (λ f. inr (fails_then reads f))))
