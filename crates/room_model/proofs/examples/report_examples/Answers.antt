use Rattle.std.specs.Prelude.{refl}
use Rattle.room_model.specs.ComputedDefinitions.{machine}
use Rattle.room_model.proofs.examples.report_examples.Goals as goal

pub returns : goal.returns
unfolding machine
returns c = record {
  mobile_is_normal = refl;
  leaving_without_the_scene_is_skipped = refl;
  a_lower_number_is_late = refl;
  a_late_report_leaves_the_last_number = refl;
  the_scene_after_mobile_is_normal = refl;
  the_scene_without_mobile_is_skipped = refl;
  an_earlier_order_is_stale = refl;
  return_under_an_earlier_order_is_stale = refl;
  home_names_no_order = refl;
  off_duty_each_button_is_wrong = refl;
  a_normal_report_moves_the_vehicle = refl;
  a_late_report_leaves_the_place = refl;
  a_late_report_leaves_the_status = refl;
  a_stale_report_leaves_the_place = refl;
  a_wrong_report_leaves_the_place = refl;
  return_ends_the_assignment = refl;
  return_sets_returning = refl;
  a_report_is_answered = refl;
  a_repeated_report_is_answered_alike = refl;
  a_repeated_report_changes_nothing = refl;
  an_earlier_report_repeated_is_answered_alike = refl;
  an_earlier_report_repeated_changes_nothing = refl;
  a_report_repeated_after_a_loan_is_answered_alike = refl;
  a_report_repeated_after_a_loan_changes_nothing = refl;
  a_number_with_another_button_is_refused = refl;
  a_number_with_another_place_is_refused = refl;
  a_lower_number_after_a_loan_is_late = refl;
  a_report_belongs_to_the_holder_of_then = refl;
  a_later_report_belongs_to_the_borrower = refl;
  a_vehicles_reports_stand_by_their_numbers = refl;
  a_cleared_report_stands_as_cleared = refl;
  a_division_sees_the_reports_of_its_time = refl;
  another_division_sees_none = refl;
  an_exception_is_cleared = refl;
  a_cleared_exception_is_not_cleared_again = refl;
  a_normal_report_is_not_cleared = refl;
  another_divisions_exception_is_not_cleared = refl;
  the_holder_of_then_clears = refl;
  the_lender_does_not_clear_the_borrowers_exception = refl;
  offered_position_keeps_the_offer = refl;
  offered_home_keeps_the_offer = refl;
  offered_mobile_is_wrong = refl;
}
