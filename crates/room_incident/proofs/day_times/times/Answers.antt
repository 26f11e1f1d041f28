use Rattle.std.proofs.Common.{ap, length, w64, ◌∙◌}
use Rattle.std.proofs.lemmas.Int.{to_z-of_z}
use Rattle.std.specs.Prelude.{filter, is_some}
use Rattle.room_types.specs.declared.answers.TimesLine.{TimesLine}
use Rattle.room_model.specs.DayTimes.{is_prompt}
use Rattle.room_incident.proofs.TimesLaws.{times_so}
use Rattle.room_incident.proofs.day_times.times.Goals as goal

pub returns-clause-times : goal.returns-clause-times
returns-clause-times c d r same owned =
    times_so d c.args.from c.args.to r c.args.incidents.now same owned _ _ c.in_ok-lines.lines _ _
    (to_z-of_z w64 c.args.from c.ranges.from)
    (to_z-of_z w64 c.args.to c.ranges.to)
    c.in_ok-lines.ensures.lines
    (c.activated.ensures ∙ ap (λ ls. length (filter (λ (l : TimesLine). is_some l.activation) ls)) c.as_slice.ensures)
    (c.prompt.ensures ∙ ap (λ ls. length (filter (λ (l : TimesLine). is_prompt l.activation) ls)) c.as_slice-2.ensures)
