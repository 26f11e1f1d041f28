use Rattle.std.specs.Prelude.{refl}
use Rattle.room_model.specs.ComputedDefinitions.{machine}
use Rattle.room_model.proofs.examples.queue_examples.Goals as goal

pub returns : goal.returns
unfolding machine
returns c = record {
  entries_stand_by_rank_since_number_and_callsign = refl;
  no_entry_is_left_out = refl;
  what_is_not_there_is_not_cleared = refl;
  an_incident_may_wait_180_s = refl;
  an_incident_waits_too_long_after_180_s = refl;
  of_two_incidents_the_older_waits = refl;
  a_merged_incident_waits_since_the_earlier_opening = refl;
  an_order_may_stay_unacknowledged_for_60_s = refl;
  an_order_is_unacknowledged_too_long_after_60_s = refl;
  to_class_1_a_vehicle_has_480_s = refl;
  to_class_1_a_vehicle_is_late_after_480_s = refl;
  to_class_2_a_vehicle_has_840_s = refl;
  to_class_2_a_vehicle_is_late_after_840_s = refl;
  to_class_3_a_vehicle_has_3600_s = refl;
  to_class_3_a_vehicle_is_late_after_3600_s = refl;
  exceptions_stand_by_their_moment = refl;
  a_cleared_exception_is_gone = refl;
  the_division_of_then_has_the_exception = refl;
  a_loan_stands_to_its_end = refl;
  a_loan_is_over_for_the_borrower = refl;
  a_loan_is_over_for_the_lender = refl;
  a_shift_lasts_to_its_end = refl;
  a_shift_is_over_at_its_end = refl;
  a_borrowed_vehicles_shift_is_over_for_the_borrower = refl;
  a_vehicle_off_duty_has_no_shift = refl;
  a_point_without_a_vehicle_is_uncovered = refl;
  a_point_with_its_vehicle_is_covered = refl;
  an_offer_may_wait_300_s = refl;
  an_offer_waits_too_long_for_the_lender = refl;
  an_offer_may_wait_300_s_for_the_borrower = refl;
  an_offer_waits_too_long_for_the_borrower = refl;
}
