use Rattle.std.specs.Prelude.{refl}
use Rattle.room_model.specs.ComputedDefinitions.{machine}
use Rattle.room_model.proofs.examples.proposal_examples.Goals as goal

pub returns : goal.returns
unfolding machine
returns c = record {
  none_on_duty_none_is_proposed = refl;
  the_nearest_are_proposed_then_by_callsign = refl;
  no_more_are_proposed_than_lack = refl;
  those_that_break_cover_come_last = refl;
  two_at_a_point_for_one_break_no_cover = refl;
  two_at_a_point_for_two_break_cover = refl;
  at_a_point_for_none_none_breaks_cover = refl;
  a_point_lists_who_holds_it = refl;
  a_vehicle_is_proposed_to_the_end_of_its_shift = refl;
  a_vehicle_whose_shift_is_over_is_not_proposed = refl;
  an_off_duty_vehicle_is_not_proposed = refl;
  a_mobilised_vehicle_is_not_proposed = refl;
  an_offered_vehicle_is_not_proposed = refl;
  ambulances_come_before_cars = refl;
  nothing_is_proposed_for_an_unknown_incident = refl;
}
