use Rattle.std.proofs.Common.{ap, ◌&&◌, ◌∙◌}
use Rattle.std.proofs.lemmas.Result.{IfOk-weaker}
use Rattle.std.specs.Prelude.{filter, ◌==◌}
use Rattle.room_types.specs.Keys.{owns_turn}
use Rattle.room_tables_schema.proofs.ReadLaws.{begins, ends_any}
use Rattle.room_store_reads.proofs.ReadFilters.{filter_again}
use Rattle.room_store_reads.proofs.partitions.TurnPartition.load_part.Goals as goal

pub returns-in-Some-clause-rows : goal.returns-in-Some-clause-rows
returns-in-Some-clause-rows g c clean =
    IfOk-weaker c.own_rows.result _ _ (λ x own config room h are keyed.
    let kept = rw c.in-Some.is at c.get.ensures.so room are.incident_views in
    let turns = kept.1.turns
    ∙ (λ j. filter (λ t. t.incident == (kept.0 j).1 && t.division == (kept.0 j).0) room.turns) in
    own ∙ ap (filter (owns_turn c.args.division)) turns
    ∙ filter_again (λ t. t.incident == c.args.part.now) (owns_turn c.args.division) room.turns)
    c.own_rows.ensures.rows

pub returns-in-Some-clause-reads : goal.returns-in-Some-clause-reads
returns-in-Some-clause-reads g c = ends_any c.own_rows.result (begins c.requires.open)

pub returns-in-None-clause-rows : goal.returns-in-None-clause-rows
returns-in-None-clause-rows g c clean =
    IfOk-weaker c.turns_of.result _ _ (λ x found config room h are keyed. found config room h)
    (c.turns_of.ensures.rows clean)
