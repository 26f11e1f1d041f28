use Rattle.std.specs.Prelude.{refl}
use Rattle.room_model.specs.ComputedDefinitions.{machine}
use Rattle.room_model.proofs.examples.loan_examples.Goals as goal

pub returns : goal.returns
unfolding machine
returns c = record {
  the_lender_lists_no_lent_vehicle = refl;
  the_lender_is_answered_that_it_is_lent = refl;
  a_recall_is_done = refl;
  a_second_recall_is_answered_alike = refl;
  a_second_recall_changes_nothing = refl;
  a_recalled_vehicle_stays_at_first = refl;
  a_recall_does_not_ask_what_the_vehicle_does = refl;
  a_borrowed_vehicle_is_mobilised = refl;
  a_recalled_vehicle_goes_home = refl;
  a_vehicle_that_went_home_is_held_by_its_lender = refl;
  a_vehicle_that_went_home_leaves_no_loan = refl;
  the_borrower_no_longer_holds_it = refl;
  a_vehicle_at_home_is_not_recalled = refl;
  a_vehicle_at_home_is_not_given_back = refl;
  before_its_end_a_loan_stands_at_home = refl;
  after_its_end_a_loan_ends_at_home = refl;
  a_vehicle_given_back_is_held_by_its_lender = refl;
  a_vehicle_given_back_leaves_no_loan = refl;
  a_vehicle_given_back_loses_its_post = refl;
  a_vehicle_that_goes_home_to_its_lender_loses_its_post = refl;
  a_vehicle_under_way_is_not_given_back = refl;
}
