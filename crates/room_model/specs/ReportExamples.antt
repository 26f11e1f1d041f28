-- Reports: what a button comes to, what a repeated, late, stale or wrong report changes, and who
-- clears it.
use Rattle.std.specs.Prelude.{Err, None, Ok, Option, Some, [], false, option_map, true, ℕ, ◌∷◌, ◌≡◌}
use Rattle.room_types.specs.declared.answers.Answer.TheVariants as answer
use Rattle.room_types.specs.declared.asks.Ask.TheVariants as ask
use Rattle.room_types.specs.declared.asks.Event.{Event}
use Rattle.room_types.specs.declared.asks.Who.TheVariants.{Crew, Desk}
use Rattle.room_types.specs.declared.codes.Button.TheVariants as button
use Rattle.room_types.specs.declared.codes.Outcome.TheVariants.{Late, Normal, Skipped, Stale, Wrong}
use Rattle.room_types.specs.declared.codes.Status.TheVariants.{AtScene, Available, Leaving}
use Rattle.room_types.specs.declared.codes.Status.TheVariants.{Mobilised, OffDuty, Offered}
use Rattle.room_types.specs.declared.codes.Status.TheVariants.{Returning}
use Rattle.room_types.specs.declared.refusal_statuses.Refusal.TheVariants as refusal
use Rattle.room_types.specs.declared.tables.Report.{Report}
use Rattle.room_model.specs.Queries.{assignment_at, kept_report}
use Rattle.room_model.specs.Room.{Room}
use Rattle.room_model.specs.Step.{answer_to}
use Rattle.room_model.specs.ExampleRoom.{A1, A2, example_room}
use Rattle.room_model.specs.IncidentExamples.{a1_sent}
use Rattle.room_model.specs.LoansAndOffers.{a1_offered, accept_a1, lend_a1}
use Rattle.room_model.specs.StepWords.{at, place, place_of, press, status_of, ◌▸◌}
use Rattle.room_model.specs.VehicleExamples.{a1_stood_down, a1_waits}

-- A1 acknowledges its order; then it leaves the scene without having reported it; then that report
-- comes
abbrev pub mobile : Event
mobile = at 2010 (Crew A1) (press 1 button.Mobile 1 "TQ303804")

abbrev pub leave : Event
leave = at 2020 (Crew A1) (press 3 button.Leave 1 "TQ300800")

abbrev pub late_scene : Event
late_scene = at 2030 (Crew A1) (press 2 button.Scene 1 "TQ310800")

abbrev pub a1_left : Room
a1_left = a1_sent ▸ mobile ▸ leave

abbrev pub a1_was_late : Room
a1_was_late = a1_left ▸ late_scene

-- A1 is where it says
abbrev pub here : Event
here = at 1100 (Crew A1) (press 7 button.Position 0 "TQ300800")

abbrev pub reported_and_lent : Room
reported_and_lent = a1_waits ▸ here ▸ lend_a1 ▸ accept_a1

-- A1 was stood down, and sent again under order 2
abbrev pub a1_sent_again : Room
a1_sent_again = a1_stood_down ▸ at 2020 (Desk 1) (ask.Mobilise 1 A1)

-- a report of the order that was stood down
abbrev pub stale_scene : Event
stale_scene = at 2030 (Crew A1) (press 1 button.Scene 1 "TQ300800")

-- a number that is lower than the last one, sent while A1 is lent
abbrev pub late_position : Event
late_position = at 2100 (Crew A1) (press 6 button.Position 0 "TQ300800")

-- the division that has a report of A1
abbrev pub owner_of : ℕ → Room → Option ℕ
owner_of number r = option_map (λ x. x.division) (kept_report A1 number r)

-- what a division asks about A1's reports
abbrev pub reports_for : ℕ → Event
reports_for d = at 2200 (Desk d) (ask.Reports A1)

-- the three of a1_was_late, as they are kept
abbrev pub mobile_row : Report
mobile_row = record {
  callsign = A1;
  number = 1;
  button = button.Mobile;
  order = 1;
  place = place "TQ303804";
  at = 2010;
  division = 1;
  outcome = Normal;
  status = Mobilised;
  cleared = false;
}

abbrev pub late_row : Report
late_row = record mobile_row {
  number = 2;
  button = button.Scene;
  place = place "TQ310800";
  at = 2030;
  outcome = Late;
  status = Leaving;
}

abbrev pub skipped_row : Report
skipped_row = record mobile_row {
  number = 3;
  button = button.Leave;
  place = place "TQ300800";
  at = 2020;
  outcome = Skipped;
  status = Leaving;
}

-- the one of late_position
abbrev pub borrowed_row : Report
borrowed_row = record mobile_row {
  number = 6;
  button = button.Position;
  order = 0;
  place = place "TQ300800";
  at = 2100;
  division = 2;
  outcome = Late;
  status = Available;
}

abbrev pub clear_2 : Event
clear_2 = at 2040 (Desk 1) (ask.Clear A1 2)

pub record ReportExamples : Type 0 where
  pub mobile_is_normal : answer_to mobile a1_sent ≡ Ok (answer.Reported 1 Normal Mobilised)
  pub leaving_without_the_scene_is_skipped : answer_to leave (a1_sent ▸ mobile)
      ≡ Ok (answer.Reported 3 Skipped Leaving)
  pub a_lower_number_is_late : answer_to late_scene a1_left ≡ Ok (answer.Reported 2 Late Leaving)
  pub a_late_report_leaves_the_last_number : answer_to
      (at 1300 (Crew A1) (press 6 button.Position 0 "TQ300800"))
      (a1_waits ▸ here ▸ at 1200 (Crew A1) (press 5 button.Position 0 "TQ300800"))
      ≡ Ok (answer.Reported 6 Late Available)
  pub the_scene_after_mobile_is_normal : answer_to
      (at 2020 (Crew A1) (press 2 button.Scene 1 "TQ300800")) (a1_sent ▸ mobile)
      ≡ Ok (answer.Reported 2 Normal AtScene)
  pub the_scene_without_mobile_is_skipped : answer_to
      (at 2040 (Crew A1) (press 2 button.Scene 2 "TQ300800")) (a1_sent_again ▸ stale_scene)
      ≡ Ok (answer.Reported 2 Skipped AtScene)
  pub an_earlier_order_is_stale : answer_to stale_scene a1_sent_again
      ≡ Ok (answer.Reported 1 Stale Mobilised)
  pub return_under_an_earlier_order_is_stale : answer_to
      (at 2030 (Crew A1) (press 1 button.Return 1 "TQ300800")) a1_sent_again
      ≡ Ok (answer.Reported 1 Stale Mobilised)
  pub home_names_no_order : answer_to
      (at 2030 (Crew A1) (press 1 button.Home 1 "TQ300800")) a1_sent_again
      ≡ Ok (answer.Reported 1 Skipped Available)
  pub off_duty_each_button_is_wrong : answer_to
      (at 2050 (Crew A2) (press 1 button.Home 0 "TQ300800")) example_room
      ≡ Ok (answer.Reported 1 Wrong OffDuty)
  pub a_normal_report_moves_the_vehicle : place_of A1 (a1_waits ▸ here) ≡ Some (place "TQ300800")
  pub a_late_report_leaves_the_place : place_of A1 a1_was_late ≡ Some (place "TQ300800")
  pub a_late_report_leaves_the_status : status_of A1 a1_was_late ≡ Some Leaving
  pub a_stale_report_leaves_the_place : place_of A1 (a1_sent_again ▸ stale_scene)
      ≡ Some (place "TQ303804")
  pub a_wrong_report_leaves_the_place : place_of A2
      (example_room ▸ at 2050 (Crew A2) (press 1 button.Position 0 "TQ300800"))
      ≡ Some (place "TQ304803")
  pub return_ends_the_assignment : assignment_at A1
      (a1_left ▸ at 2040 (Crew A1) (press 4 button.Return 1 "TQ300800")) ≡ None
  pub return_sets_returning : status_of A1
      (a1_left ▸ at 2040 (Crew A1) (press 4 button.Return 1 "TQ300800")) ≡ Some Returning
  pub a_report_is_answered : answer_to here a1_waits ≡ Ok (answer.Reported 7 Normal Available)
  pub a_repeated_report_is_answered_alike : answer_to here (a1_waits ▸ here)
      ≡ Ok (answer.Reported 7 Normal Available)
  pub a_repeated_report_changes_nothing : a1_waits ▸ here ▸ here ≡ a1_waits ▸ here
  pub an_earlier_report_repeated_is_answered_alike : answer_to mobile a1_was_late
      ≡ Ok (answer.Reported 1 Normal Mobilised)
  pub an_earlier_report_repeated_changes_nothing : a1_was_late ▸ mobile ≡ a1_was_late
  pub a_report_repeated_after_a_loan_is_answered_alike : answer_to here reported_and_lent
      ≡ Ok (answer.Reported 7 Normal Available)
  pub a_report_repeated_after_a_loan_changes_nothing : reported_and_lent ▸ here ≡ reported_and_lent
  pub a_number_with_another_button_is_refused : answer_to
      (at 1100 (Crew A1) (press 7 button.Home 0 "TQ300800")) reported_and_lent
      ≡ Err refusal.NumberReused
  pub a_number_with_another_place_is_refused : answer_to
      (at 1100 (Crew A1) (press 7 button.Position 0 "TQ310800")) reported_and_lent
      ≡ Err refusal.NumberReused
  pub a_lower_number_after_a_loan_is_late : answer_to late_position reported_and_lent
      ≡ Ok (answer.Reported 6 Late Available)
  pub a_report_belongs_to_the_holder_of_then : owner_of 7 (reported_and_lent ▸ here) ≡ Some 1
  pub a_later_report_belongs_to_the_borrower : owner_of 6 (reported_and_lent ▸ late_position)
      ≡ Some 2
  pub a_vehicles_reports_stand_by_their_numbers : answer_to (reports_for 1) a1_was_late
      ≡ Ok (answer.Reports (mobile_row ∷ late_row ∷ skipped_row ∷ []))
  pub a_cleared_report_stands_as_cleared : answer_to (reports_for 1) (a1_was_late ▸ clear_2)
      ≡ Ok (answer.Reports (mobile_row ∷ record late_row { cleared = true } ∷ skipped_row ∷ []))
  pub a_division_sees_the_reports_of_its_time : answer_to (reports_for 2)
      (reported_and_lent ▸ late_position) ≡ Ok (answer.Reports (borrowed_row ∷ []))
  pub another_division_sees_none : answer_to (reports_for 2) a1_was_late ≡ Ok (answer.Reports [])
  pub an_exception_is_cleared : answer_to clear_2 a1_was_late ≡ Ok answer.Done
  pub a_cleared_exception_is_not_cleared_again : answer_to clear_2 (a1_was_late ▸ clear_2)
      ≡ Err refusal.NoSuchException
  pub a_normal_report_is_not_cleared : answer_to (at 2040 (Desk 1) (ask.Clear A1 1)) a1_was_late
      ≡ Err refusal.NoSuchException
  pub another_divisions_exception_is_not_cleared : answer_to
      (at 2040 (Desk 2) (ask.Clear A1 2)) a1_was_late ≡ Err refusal.NoSuchException
  pub the_holder_of_then_clears : answer_to (at 2200 (Desk 2) (ask.Clear A1 6))
      (reported_and_lent ▸ late_position) ≡ Ok answer.Done
  pub the_lender_does_not_clear_the_borrowers_exception : answer_to
      (at 2200 (Desk 1) (ask.Clear A1 6)) (reported_and_lent ▸ late_position)
      ≡ Err refusal.NoSuchException
  pub offered_position_keeps_the_offer : answer_to
      (at 2010 (Crew A1) (press 1 button.Position 0 "TQ303804")) a1_offered
      ≡ Ok (answer.Reported 1 Normal Offered)
  pub offered_home_keeps_the_offer : answer_to
      (at 2010 (Crew A1) (press 2 button.Home 0 "TQ303804")) a1_offered
      ≡ Ok (answer.Reported 2 Normal Offered)
  pub offered_mobile_is_wrong : answer_to
      (at 2010 (Crew A1) (press 3 button.Mobile 0 "TQ303804")) a1_offered
      ≡ Ok (answer.Reported 3 Wrong Offered)
