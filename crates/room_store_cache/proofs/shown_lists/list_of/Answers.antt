use Rattle.std.proofs.Common.{ap, ◌∙◌}
use Rattle.std.specs.Prelude.{filter}
use Rattle.room_types.specs.Keys.{owns_call, owns_incident, owns_turn}
use Rattle.room_store_cache.proofs.ShownLaws.{list_calls, list_turns}
use Rattle.room_store_cache.proofs.shown_lists.list_of.Goals as goal

pub returns-clause-list : goal.returns-clause-list
returns-clause-list c room at in_order read =
    let d = c.args.division in
    let incidents = c.in_ok-own_rows.ensures.rows ∙ ap (filter (owns_incident d)) read.incidents in
    record {
      calls = c.in_ok-own_rows-2.ensures.rows
          ∙ ap (filter (owns_call d)) read.calls
          ∙ list_calls d at room in_order _ incidents;
      turns = c.in_ok-own_rows-3.ensures.rows
          ∙ ap (filter (owns_turn d)) read.turns
          ∙ list_turns d at room in_order _ incidents;
    }
