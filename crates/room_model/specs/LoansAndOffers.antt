-- Loans and offers: what either desk may do while a vehicle is offered, lent, recalled and given
-- back.
use Prim.Native.String.{String}
use Rattle.std.specs.Prelude.{Err, None, Ok, Some, [], false, ◌∷◌, ◌≡◌}
use Rattle.room_types.specs.Texts.{Callsign}
use Rattle.room_types.specs.declared.answers.Answer.TheVariants as answer
use Rattle.room_types.specs.declared.answers.VehicleLine.{VehicleLine}
use Rattle.room_types.specs.declared.asks.Ask.TheVariants as ask
use Rattle.room_types.specs.declared.asks.Event.{Event}
use Rattle.room_types.specs.declared.asks.Who.TheVariants.{Crew, Desk}
use Rattle.room_types.specs.declared.codes.Button.TheVariants as button
use Rattle.room_types.specs.declared.codes.Kind.TheVariants.{Ambulance, Car}
use Rattle.room_types.specs.declared.codes.Kind.{Kind}
use Rattle.room_types.specs.declared.codes.Outcome.TheVariants.{Skipped}
use Rattle.room_types.specs.declared.codes.Status.TheVariants.{Available, OffDuty, Offered}
use Rattle.room_types.specs.declared.codes.Status.{Status}
use Rattle.room_types.specs.declared.refusal_statuses.Refusal.TheVariants as refusal
use Rattle.room_types.specs.declared.tables.Loan.{Loan}
use Rattle.room_types.specs.declared.tables.Offer.{Offer}
use Rattle.room_model.specs.Queries.{loan_at}
use Rattle.room_model.specs.Room.{Room}
use Rattle.room_model.specs.Step.{answer_to}
use Rattle.room_model.specs.CallExamples.{after_a_call}
use Rattle.room_model.specs.ExampleRoom.{A1, A2, A3, C1, a1_on_duty_until, example_room}
use Rattle.room_model.specs.IncidentExamples.{a1_sent}
use Rattle.room_model.specs.StepWords.{at, call_at, holder_of, place, post_of, press, status_of}
use Rattle.room_model.specs.StepWords.{◌▸◌}
use Rattle.room_model.specs.VehicleExamples.{a1_posted, a1_waits}

-- desk 1 offers A1 to division 2 until 9000; desk 2 takes it, or not
abbrev pub lend_a1 : Event
lend_a1 = at 2000 (Desk 1) (ask.Lend A1 2 9000)

abbrev pub accept_a1 : Event
accept_a1 = at 2060 (Desk 2) (ask.Accept A1)

abbrev pub decline_a1 : Event
decline_a1 = at 2030 (Desk 2) (ask.Decline A1)

abbrev pub withdraw_a1 : Event
withdraw_a1 = at 2030 (Desk 1) (ask.Withdraw A1)

abbrev pub a1_offered : Room
a1_offered = a1_waits ▸ lend_a1

abbrev pub a1_lent : Room
a1_lent = a1_offered ▸ accept_a1

abbrev pub the_offer : Offer
the_offer = record { callsign = A1; lender = 1; borrower = 2; since = 2000; until = 9000 }

abbrev pub the_loan : Loan
the_loan = record {
  callsign = A1;
  lender = 1;
  borrower = 2;
  since = 2060;
  until = 9000;
  recalled = false;
}

abbrev pub recall_a1 : Event
recall_a1 = at 2100 (Desk 1) (ask.Recall A1)

-- A1 is recalled, and then mobilised by its borrower
abbrev pub a1_recalled : Room
a1_recalled = a1_lent ▸ call_at 1000 2 "TQ600800" ▸ recall_a1

abbrev pub a1_at_work_for_2 : Room
a1_at_work_for_2 = a1_recalled ▸ at 2200 (Desk 2) (ask.Mobilise 1 A1)

abbrev pub a1_goes_home : Event
a1_goes_home = at 3000 (Crew A1) (press 1 button.Home 1 "TQ600800")

abbrev pub a1_came_home : Room
a1_came_home = a1_at_work_for_2 ▸ a1_goes_home

-- A1 stands at a point of its borrower
abbrev pub a1_posted_by_2 : Room
a1_posted_by_2 = a1_lent ▸ at 2100 (Desk 2) (ask.SetPoint 1 (place "TQ600800") 1) ▸ at 2110
    (Desk 2) (ask.Standby A1 (Some 1))

abbrev pub give_back_a1 : Event
give_back_a1 = at 2200 (Desk 2) (ask.GiveBack A1)

-- a vehicle of division 1 that is off duty
abbrev pub idle : Callsign → Kind → String → VehicleLine
idle callsign kind reference = record {
  callsign = callsign;
  home = 1;
  incident = None;
  kind = kind;
  place = place reference;
  post = None;
  shift_end = 0;
  status = OffDuty;
}

abbrev pub a1_line : Status → VehicleLine
a1_line status = record (idle A1 Ambulance "TQ303804") { shift_end = 50000; status = status }

pub record OfferExamples : Type 0 where
  pub an_offered_vehicle_is_listed_as_offered : answer_to (at 2010 (Desk 1) ask.Vehicles) a1_offered
      ≡ Ok (answer.Vehicles (a1_line Offered ∷ idle A2 Ambulance "TQ304803"
      ∷ idle A3 Ambulance "TQ300801" ∷ idle C1 Car "TQ300800" ∷ []))
  pub the_lender_sees_its_offer : answer_to (at 2010 (Desk 1) ask.Offers) a1_offered
      ≡ Ok (answer.Offers (the_offer ∷ []))
  pub the_borrower_sees_the_offer : answer_to (at 2010 (Desk 2) ask.Offers) a1_offered
      ≡ Ok (answer.Offers (the_offer ∷ []))
  pub an_offered_vehicle_is_not_offered_again : answer_to
      (at 2010 (Desk 1) (ask.Lend A1 2 9000)) a1_offered ≡ Err refusal.WrongStatus
  pub an_offered_vehicle_is_not_mobilised : answer_to
      (at 2010 (Desk 1) (ask.Mobilise 1 A1)) a1_offered ≡ Err refusal.WrongStatus
  pub an_offered_vehicle_does_not_go_off_duty : answer_to
      (at 2010 (Desk 1) (ask.Off A1)) a1_offered ≡ Err refusal.WrongStatus
  pub an_offered_vehicle_is_not_recalled : answer_to (at 2010 (Desk 1) (ask.Recall A1)) a1_offered
      ≡ Err refusal.NoSuchLoan
  pub the_lender_does_not_accept : answer_to (at 2010 (Desk 1) (ask.Accept A1)) a1_offered
      ≡ Err refusal.NoSuchOffer
  pub the_borrower_does_not_hold_an_offered_vehicle : answer_to
      (at 2010 (Desk 2) (ask.Off A1)) a1_offered ≡ Err refusal.NoSuchVehicle
  pub the_borrower_does_not_withdraw : answer_to (at 2010 (Desk 2) (ask.Withdraw A1)) a1_offered
      ≡ Err refusal.NoSuchVehicle
  pub a_vehicle_is_not_offered_to_its_own_division : answer_to
      (at 3000 (Desk 1) (ask.Lend A1 1 9000)) a1_waits ≡ Err refusal.NoSuchDivision
  pub a_vehicle_is_not_offered_to_an_unknown_division : answer_to
      (at 3000 (Desk 1) (ask.Lend A1 7 9000)) a1_waits ≡ Err refusal.NoSuchDivision
  pub a_borrowed_vehicle_is_not_offered_on : answer_to
      (at 3000 (Desk 2) (ask.Lend A1 1 9000)) a1_lent ≡ Err refusal.NotHome
  pub a_mobilised_vehicle_is_not_lent : answer_to (at 2010 (Desk 1) (ask.Lend A1 2 9000)) a1_sent
      ≡ Err refusal.StillAssigned
  pub a_vehicle_whose_shift_is_over_is_not_offered : answer_to
      (at 5000 (Desk 1) (ask.Lend A1 2 9000)) (after_a_call ▸ a1_on_duty_until 5000)
      ≡ Err refusal.ShiftOver
  pub a_lent_vehicle_loses_its_post : post_of A1 (a1_posted ▸ lend_a1) ≡ Some None
  pub a_withdrawn_vehicle_is_available : status_of A1 (a1_offered ▸ withdraw_a1) ≡ Some Available
  pub a_withdrawn_vehicle_stays : holder_of A1 (a1_offered ▸ withdraw_a1) ≡ Some 1
  pub a_withdrawn_offer_is_gone : answer_to (at 2030 (Desk 1) ask.Offers)
      (a1_offered ▸ withdraw_a1) ≡ Ok (answer.Offers [])
  pub a_withdrawn_offer_is_gone_for_the_borrower : answer_to (at 2030 (Desk 2) ask.Offers)
      (a1_offered ▸ withdraw_a1) ≡ Ok (answer.Offers [])
  pub a_withdrawn_offer_is_not_withdrawn_again : answer_to withdraw_a1 (a1_offered ▸ withdraw_a1)
      ≡ Err refusal.NoSuchOffer
  pub a_withdrawn_offer_is_not_declined : answer_to decline_a1 (a1_offered ▸ withdraw_a1)
      ≡ Err refusal.NoSuchOffer
  pub a_withdrawn_offer_is_not_accepted : answer_to accept_a1 (a1_offered ▸ withdraw_a1)
      ≡ Err refusal.NoSuchOffer
  pub declining_does_what_withdrawing_does : a1_offered ▸ decline_a1 ≡ a1_offered ▸ withdraw_a1
  pub an_accepted_vehicle_changes_hands : holder_of A1 a1_lent ≡ Some 2
  pub an_accepted_vehicle_is_available : status_of A1 a1_lent ≡ Some Available
  pub a_loan_begins_with_the_accept : answer_to (at 2060 (Desk 2) ask.Loans) a1_lent
      ≡ Ok (answer.Loans (the_loan ∷ []))
  pub the_lender_sees_the_loan : answer_to (at 2060 (Desk 1) ask.Loans) a1_lent
      ≡ Ok (answer.Loans (the_loan ∷ []))
  pub an_accepted_offer_is_gone : answer_to accept_a1 a1_lent ≡ Err refusal.NoSuchOffer
  pub an_accepted_offer_is_not_withdrawn : answer_to (at 2070 (Desk 1) (ask.Withdraw A1)) a1_lent
      ≡ Err refusal.VehicleLent
  pub an_accept_looks_at_no_shift : answer_to accept_a1
      (after_a_call ▸ a1_on_duty_until 2050 ▸ lend_a1) ≡ Ok answer.Done
  pub an_accept_looks_at_none_of_the_lenders_rows : answer_to accept_a1
      (record example_room { divisions = []; vehicles = []; offers = the_offer ∷ [] })
      ≡ Ok answer.Done
  pub an_accept_looks_at_no_end_of_the_offer : answer_to
      (at 9001 (Desk 2) (ask.Accept A1)) a1_offered ≡ Ok answer.Done

pub record LoanExamples : Type 0 where
  pub the_lender_lists_no_lent_vehicle : answer_to (at 2070 (Desk 1) ask.Vehicles) a1_lent
      ≡ Ok (answer.Vehicles (idle A2 Ambulance "TQ304803" ∷ idle A3 Ambulance "TQ300801"
      ∷ idle C1 Car "TQ300800" ∷ []))
  pub the_lender_is_answered_that_it_is_lent : answer_to (at 2070 (Desk 1) (ask.Off A1)) a1_lent
      ≡ Err refusal.VehicleLent
  pub a_recall_is_done : answer_to recall_a1 a1_lent ≡ Ok answer.Done
  pub a_second_recall_is_answered_alike : answer_to recall_a1 (a1_lent ▸ recall_a1) ≡ Ok answer.Done
  pub a_second_recall_changes_nothing : a1_lent ▸ recall_a1 ▸ recall_a1 ≡ a1_lent ▸ recall_a1
  pub a_recalled_vehicle_stays_at_first : holder_of A1 a1_recalled ≡ Some 2
  pub a_recall_does_not_ask_what_the_vehicle_does : answer_to
      (at 2300 (Desk 1) (ask.Recall A1)) a1_at_work_for_2 ≡ Ok answer.Done
  pub a_borrowed_vehicle_is_mobilised : answer_to
      (at 2200 (Desk 2) (ask.Mobilise 1 A1)) a1_recalled ≡ Ok (answer.Mobilised 1 A1)
  pub a_recalled_vehicle_goes_home : answer_to a1_goes_home a1_at_work_for_2
      ≡ Ok (answer.Reported 1 Skipped Available)
  pub a_vehicle_that_went_home_is_held_by_its_lender : holder_of A1 a1_came_home ≡ Some 1
  pub a_vehicle_that_went_home_leaves_no_loan : loan_at A1 a1_came_home ≡ None
  pub the_borrower_no_longer_holds_it : answer_to (at 3000 (Desk 2) (ask.Off A1)) a1_came_home
      ≡ Err refusal.NoSuchVehicle
  pub a_vehicle_at_home_is_not_recalled : answer_to (at 3000 (Desk 1) (ask.Recall A1)) a1_came_home
      ≡ Err refusal.NoSuchLoan
  pub a_vehicle_at_home_is_not_given_back : answer_to
      (at 3000 (Desk 1) (ask.GiveBack A1)) a1_came_home ≡ Err refusal.NoSuchLoan
  pub before_its_end_a_loan_stands_at_home : holder_of A1
      (a1_lent ▸ at 9000 (Crew A1) (press 1 button.Home 0 "TQ303804")) ≡ Some 2
  pub after_its_end_a_loan_ends_at_home : holder_of A1
      (a1_lent ▸ at 9001 (Crew A1) (press 1 button.Home 0 "TQ303804")) ≡ Some 1
  pub a_vehicle_given_back_is_held_by_its_lender : holder_of A1 (a1_lent ▸ give_back_a1) ≡ Some 1
  pub a_vehicle_given_back_leaves_no_loan : loan_at A1 (a1_lent ▸ give_back_a1) ≡ None
  pub a_vehicle_given_back_loses_its_post : post_of A1 (a1_posted_by_2 ▸ give_back_a1) ≡ Some None
  pub a_vehicle_that_goes_home_to_its_lender_loses_its_post : post_of A1
      (a1_posted_by_2 ▸ recall_a1 ▸ at 2200 (Crew A1) (press 1 button.Home 0 "TQ600800"))
      ≡ Some None
  pub a_vehicle_under_way_is_not_given_back : answer_to
      (at 2300 (Desk 2) (ask.GiveBack A1)) a1_at_work_for_2 ≡ Err refusal.StillAssigned
