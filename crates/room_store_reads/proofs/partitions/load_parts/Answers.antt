use Rattle.std.proofs.Common.{[], ap, arith, length, sym, take, take_all, ◌+◌, ◌++◌, ◌∙◌, ◌∷◌, ◌≡◌}
use Rattle.std.proofs.Common.{◌≤◌, ◌||◌}
use Rattle.std.proofs.lemmas.List.{take_more}
use Rattle.sqlite.specs.Held.{state}
use Rattle.room_tables_schema.proofs.ReadLaws.{and, begins, but, clean_before, lacks_memory}
use Rattle.room_tables_schema.proofs.ReadLaws.{succeeds}
use Rattle.room_store_reads.specs.Partitions.{any}
use Rattle.room_tables.proofs.RoomReads.{kept}
use Rattle.room_store_cache.proofs.Filters.{filter_as, or_assoc, or_none}
use Rattle.room_store_reads.proofs.Selected.{any_last}
use Rattle.room_store_reads.proofs.partitions.load_parts.Goals as goal

pub loop-part-init : goal.loop-part-init
loop-part-init g c =
    record {
      looked = begins c.requires.open;
      rows =
          λ clean config room h first are keyed is.
          is ∙ filter_as _ _ (g.R.Table.rows room) (λ x. sym (or_none (first x)));
    }

pub loop-part-preserved : goal.loop-part-preserved
loop-part-preserved g c =
    let old = state g.S.Store c.args.conn.now in
    let mid = state g.S.Store c.loop-part.conn in
    let before = c.loop-part.invariant in
    let is_in = g.R.Partition.is_in c.args.division in
    let ps = c.args.parts.now in
    let i = c.loop-part.part-index in
    let p = c.part-item.result in
    let more : take (i + 1) ps ≡ take i ps ++ p ∷ [] = rw c.part-item.is (take_more ps i _ c.loop-part-test.true) in
    record {
      looked = and before.looked c.in_ok-more.ensures.reads;
      rows = λ clean config room h first are keyed is.
          let early = clean_before before.looked c.in_ok-more.ensures.reads clean in
          c.in_ok-add_all.ensures.either (g.R.Table.rows room) (λ x. first x || any (λ q. is_in q x) (take i ps))
          (is_in p) keyed
          (before.rows early config room h first are keyed is)
          (c.in_ok-more.ensures.rows clean config room (kept old mid (before.looked.ok early) config room h) are keyed)
          ∙ filter_as _ _ (g.R.Table.rows room)
          (λ x.
          sym (ap (λ b. first x || b) (ap (any (λ q. is_in q x)) more ∙ any_last (λ q. is_in q x) p (take i ps))
          ∙ or_assoc (first x) (any (λ q. is_in q x) (take i ps)) (is_in p x)));
    }

pub load_part-requires-clause-open : goal.load_part-requires-clause-open
load_part-requires-clause-open g c clean = (c.loop-part.invariant.looked.ok clean).0.is_open

pub returns-clause-rows : goal.returns-clause-rows
returns-clause-rows g c clean config room h first are keyed is =
    let past : length c.args.parts.now ≤ c.loop-part.part-index = omega (arith, c.loop-part-test.false) in
    let all = take_all c.loop-part.part-index c.args.parts.now past in
    rw all at c.loop-part.invariant.rows clean config room h first are keyed is

pub returns-in_err-more-clause-reads : goal.returns-in_err-more-clause-reads
returns-in_err-more-clause-reads g c =
    but c.loop-part.invariant.looked c.from_residual.ensures.0 c.in_err-more.ensures.reads

pub returns-in_err-add_all-clause-reads : goal.returns-in_err-add_all-clause-reads
returns-in_err-add_all-clause-reads g c =
    lacks_memory c.from_residual-in_err-add_all.ensures.0 (and c.loop-part.invariant.looked c.in_ok-more.ensures.reads)

pub returns-clause-reads : goal.returns-clause-reads
returns-clause-reads g c = succeeds c.loop-part.invariant.looked
