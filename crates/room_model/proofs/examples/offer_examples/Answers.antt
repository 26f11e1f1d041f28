use Rattle.std.specs.Prelude.{refl}
use Rattle.room_model.specs.ComputedDefinitions.{machine}
use Rattle.room_model.proofs.examples.offer_examples.Goals as goal

pub returns : goal.returns
unfolding machine
returns c = record {
  an_offered_vehicle_is_listed_as_offered = refl;
  the_lender_sees_its_offer = refl;
  the_borrower_sees_the_offer = refl;
  an_offered_vehicle_is_not_offered_again = refl;
  an_offered_vehicle_is_not_mobilised = refl;
  an_offered_vehicle_does_not_go_off_duty = refl;
  an_offered_vehicle_is_not_recalled = refl;
  the_lender_does_not_accept = refl;
  the_borrower_does_not_hold_an_offered_vehicle = refl;
  the_borrower_does_not_withdraw = refl;
  a_vehicle_is_not_offered_to_its_own_division = refl;
  a_vehicle_is_not_offered_to_an_unknown_division = refl;
  a_borrowed_vehicle_is_not_offered_on = refl;
  a_mobilised_vehicle_is_not_lent = refl;
  a_vehicle_whose_shift_is_over_is_not_offered = refl;
  a_lent_vehicle_loses_its_post = refl;
  a_withdrawn_vehicle_is_available = refl;
  a_withdrawn_vehicle_stays = refl;
  a_withdrawn_offer_is_gone = refl;
  a_withdrawn_offer_is_gone_for_the_borrower = refl;
  a_withdrawn_offer_is_not_withdrawn_again = refl;
  a_withdrawn_offer_is_not_declined = refl;
  a_withdrawn_offer_is_not_accepted = refl;
  declining_does_what_withdrawing_does = refl;
  an_accepted_vehicle_changes_hands = refl;
  an_accepted_vehicle_is_available = refl;
  a_loan_begins_with_the_accept = refl;
  the_lender_sees_the_loan = refl;
  an_accepted_offer_is_gone = refl;
  an_accepted_offer_is_not_withdrawn = refl;
  an_accept_looks_at_no_shift = refl;
  an_accept_looks_at_none_of_the_lenders_rows = refl;
  an_accept_looks_at_no_end_of_the_offer = refl;
}
