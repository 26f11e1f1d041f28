use Rattle.std.specs.Prelude.{refl}
use Rattle.room_model.specs.ComputedDefinitions.{machine}
use Rattle.room_model.proofs.examples.incident_examples.Goals as goal

pub returns : goal.returns
unfolding machine
returns c = record {
  an_incident_is_listed = refl;
  incidents_merge = refl;
  a_merged_incident_has_the_larger_of_both = refl;
  merging_keeps_the_earlier_opening_of_the_one_merged = refl;
  merging_keeps_the_earlier_opening_of_the_other = refl;
  merging_keeps_the_earlier_first_order = refl;
  before_they_merge_each_has_its_own_turns = refl;
  a_history_has_the_turns_of_one_merged_into_it = refl;
  a_merged_incident_has_its_own_turns = refl;
  merging_keeps_the_only_first_order = refl;
  an_incident_does_not_merge_into_itself = refl;
  a_merged_incident_does_not_merge_again = refl;
  an_unknown_incident_does_not_merge = refl;
  an_incident_with_a_vehicle_under_way_does_not_merge = refl;
  an_incident_may_merge_into_one_with_a_vehicle_under_way = refl;
  needs_are_not_set_below_what_serves = refl;
  needs_may_be_just_what_serves = refl;
  an_incident_with_a_vehicle_under_way_is_not_closed = refl;
  a_closed_incident_is_not_open = refl;
  a_vehicle_under_way_serves = refl;
  a_turn_stood_down_before_the_scene_serves_no_more = refl;
  a_turn_that_was_only_acknowledged_serves_no_more = refl;
  a_turn_that_reached_the_scene_served = refl;
  a_turn_that_left_served = refl;
  a_turn_that_reached_a_hospital_served = refl;
}
