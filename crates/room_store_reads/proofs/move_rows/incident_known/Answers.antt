use Rattle.std.proofs.Common.{ap, ◌&&◌, ◌∙◌}
use Rattle.std.specs.Prelude.{filter, ◌==◌}
use Rattle.room_types.specs.KeyedRows.{listed as list_of, row_at}
use Rattle.room_types.specs.Keys.{incident_key, owns_turn, pair_cmp}
use Rattle.room_model.specs.Queries.{incident_of}
use Rattle.room_store_reads.proofs.ReadFilters.{filter_again}
use Rattle.room_store_reads.proofs.move_rows.incident_known.Goals as goal

pub returns-in_ok-own_rows-in-Some : goal.returns-in_ok-own_rows-in-Some
unfolding incident_of
returns-in_ok-own_rows-in-Some c room is =
    let d = c.args.division in
    let n = c.args.number in
    let kept = rw c.in-Some.is at c.get.ensures.so room is.incident_views in
    record {
      incidents = c.in_ok-listed-in-Some.ensures.rows
          ∙ ap list_of (kept.1.incident ∙ ap (row_at pair_cmp incident_key room.incidents) kept.0);
      turns = c.in_ok-own_rows-in-Some.ensures.rows
          ∙ ap (filter (owns_turn d)) (kept.1.turns
          ∙ (λ j. filter (λ t. t.incident == (kept.0 j).1 && t.division == (kept.0 j).0) room.turns))
          ∙ filter_again (λ t. t.incident == n) (owns_turn d) room.turns;
    }
