use Rattle.std.specs.Prelude.{refl}
use Rattle.room_model.specs.ComputedDefinitions.{machine}
use Rattle.room_model.proofs.examples.vehicle_examples.Goals as goal

pub returns : goal.returns
unfolding machine
returns c = record {
  a_free_vehicle_is_mobilised = refl;
  a_second_mobilise_is_refused = refl;
  a_vehicle_that_is_not_needed_is_refused = refl;
  a_vehicle_off_duty_is_not_mobilised = refl;
  a_vehicle_is_mobilised_to_the_end_of_its_shift = refl;
  a_vehicle_whose_shift_is_over_is_not_mobilised = refl;
  without_an_order_number_left_none_is_mobilised = refl;
  an_unknown_vehicle_is_refused = refl;
  another_divisions_vehicle_is_refused = refl;
  a_vehicle_that_is_not_there_is_refused_alike = refl;
  without_it_division_1_has_the_same_rows = refl;
  a_vehicle_stood_down_returns = refl;
  a_vehicle_stood_down_has_no_assignment = refl;
  a_vehicle_stood_down_has_no_open_turn = refl;
  a_vehicle_that_was_not_sent_is_not_stood_down = refl;
  the_next_order_has_the_next_number = refl;
  an_order_shows_the_class_of_then = refl;
  an_order_shows_the_post = refl;
  a_mobilised_vehicle_loses_its_post = refl;
  a_vehicle_off_duty_loses_its_post = refl;
  a_vehicle_is_sent_to_no_unknown_point = refl;
  a_vehicle_whose_shift_is_over_is_not_posted = refl;
  a_vehicle_whose_shift_is_over_may_leave_its_post = refl;
  a_vehicle_on_duty_does_not_come_on_duty = refl;
  a_shift_ends_after_it_begins = refl;
  a_vehicle_under_way_does_not_go_off_duty = refl;
  a_vehicle_off_duty_does_not_go_off_duty = refl;
  a_vehicle_goes_off_duty = refl;
}
