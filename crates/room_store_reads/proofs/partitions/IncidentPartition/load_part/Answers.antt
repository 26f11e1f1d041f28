use Rattle.std.proofs.Common.{ap, sym, ◌∙◌}
use Rattle.std.proofs.lemmas.Result.{IfOk-weaker}
use Rattle.room_types.specs.Keys.{incident_key, pair_cmp}
use Rattle.room_types.specs.KeyedRows.{row_at}
use Rattle.room_types.specs.KeyLemmas.{pairs_total}
use Rattle.room_tables_schema.proofs.ReadLaws.{begins, ends_any}
use Rattle.room_store_cache.proofs.Filters.{filter_as}
use Rattle.room_store_reads.proofs.ReadFilters.{own_pair, pair_is}
use Rattle.room_types.specs.KeyedRows.{listed as list_of}
use Rattle.room_store_reads.proofs.KeyedUnions.{at_key}
use Rattle.room_store_reads.proofs.partitions.IncidentPartition.load_part.Goals as goal

pub returns-in-Some-clause-rows : goal.returns-in-Some-clause-rows
returns-in-Some-clause-rows g c clean =
    let d = c.args.division in
    let n = c.args.part.now in
    IfOk-weaker c.listed.result _ _ (λ x is config room h are keyed.
    let kept = rw c.in-Some.is at c.get.ensures.so room are.incident_views in
    let incident = kept.1.incident ∙ ap (row_at pair_cmp incident_key room.incidents) kept.0 in
    is ∙ ap list_of incident ∙ sym (at_key pair_cmp incident_key pairs_total room.incidents (d, n) keyed)
    ∙ filter_as _ _ room.incidents (λ i. pair_is d n i.division i.number)) c.listed.ensures.rows

pub returns-in-Some-clause-reads : goal.returns-in-Some-clause-reads
returns-in-Some-clause-reads g c = ends_any c.listed.result (begins c.requires.open)

pub returns-in-None-clause-rows : goal.returns-in-None-clause-rows
returns-in-None-clause-rows g c clean =
    IfOk-weaker c.load_one.result _ _ (λ x found config room h are keyed.
    found config room h keyed
    ∙ filter_as _ _ room.incidents (λ i. own_pair c.args.division c.args.part.now i.division i.number))
    (c.load_one.ensures.rows clean)
