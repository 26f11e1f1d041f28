use Rattle.std.specs.Prelude.{refl}
use Rattle.room_model.specs.ComputedDefinitions.{machine}
use Rattle.room_model.proofs.examples.times_examples.Goals as goal

pub returns : goal.returns
unfolding machine
returns c = record {
  a_day_has_its_first_second_and_not_the_next_days = refl;
  three_minutes_are_in_time = refl;
  a_second_more_is_not_in_time = refl;
  a_second_order_changes_no_time = refl;
  a_closed_incident_keeps_its_time = refl;
  a_merged_incident_has_no_time = refl;
}
