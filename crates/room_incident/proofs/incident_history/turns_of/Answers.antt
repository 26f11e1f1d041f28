use Rattle.std.proofs.Common.{ap, arith, ◌≡◌, ◌∙◌}
use Rattle.std.proofs.lemmas.Grind.{common_steps}
use Rattle.std.specs.Prelude.{filter, ◌&&◌, ◌==◌, ◌||◌}
use Rattle.room_types.specs.declared.tables.Turn.{Turn}
use Rattle.room_model.specs.Queries.{is_given, turns_of}
use Rattle.room_incident.proofs.incident_history.turns_of.Goals as goal

pub returns-clause-ok : goal.returns-clause-ok
unfolding turns_of
returns-clause-ok c plan =
    let slice = c.args.slice.now in
    let number = c.args.number in
    let all : c.loop-turn.turns
    ≡ filter
    (λ (t : Turn). t.division == slice.division && (t.incident == number || is_given c.args.calls.now t.incident))
    slice.rows.turns = grind (arith, common_steps) in
    all
    ∙ ap (λ calls. filter
    (λ (t : Turn). t.division == slice.division && (t.incident == number || is_given calls t.incident))
    slice.rows.turns) (c.requires.calls plan)
