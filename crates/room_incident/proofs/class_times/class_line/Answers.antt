use Rattle.std.proofs.Common.{List, ap, length, sym, w64, ℕ}
use Rattle.std.proofs.lemmas.Int.{to_z-of_z}
use Rattle.std.specs.Prelude.{filter, is_some, ◌==◌}
use Rattle.room_types.specs.declared.answers.ClassLine.{ClassLine}
use Rattle.room_types.specs.declared.tables.Incident.{Incident}
use Rattle.room_model.specs.DayTimes.{activation_of, is_prompt}
use Rattle.room_incident.specs.DayIncidents.{is_opened_between}
use Rattle.room_incident.proofs.FilterLaws.{filter_both}
use Rattle.room_incident.proofs.class_times.class_line.Goals as goal

line_of : ℕ → List Incident → ClassLine
line_of class is = record {
  class = class;
  opened = length is;
  activated = length (filter (λ i. is_some (activation_of i)) is);
  within = length (filter (λ i. is_prompt (activation_of i)) is);
}

pub returns : goal.returns
unfolding line_of
returns c =
    let from_is = to_z-of_z w64 c.args.from c.ranges.from in
    let to_is = to_z-of_z w64 c.args.to c.ranges.to in
    let same = filter_both (λ (i : Incident). i.class == c.args.class) (is_opened_between c.args.from c.args.to)
    c.args.incidents.now in
    rw (c.opened.ensures, c.activated.ensures, c.within.ensures, from_is, to_is)
    (ap (line_of c.args.class) (sym same))
