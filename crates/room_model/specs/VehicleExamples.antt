-- Vehicles: mobilising and standing down, orders, posts, going on and off duty, and whose vehicle
-- it is.
use Rattle.std.specs.Prelude.{Err, None, Ok, Some, [], codes, ◌∷◌, ◌≡◌}
use Rattle.room_types.specs.declared.answers.Answer.TheVariants as answer
use Rattle.room_types.specs.declared.asks.Ask.TheVariants as ask
use Rattle.room_types.specs.declared.asks.Event.{Event}
use Rattle.room_types.specs.declared.asks.Who.TheVariants.{Crew, Desk}
use Rattle.room_types.specs.declared.codes.Kind.TheVariants.{Ambulance, Car}
use Rattle.room_types.specs.declared.codes.Status.TheVariants.{Available, Mobilised, OffDuty}
use Rattle.room_types.specs.declared.codes.Status.TheVariants.{Returning}
use Rattle.room_types.specs.declared.refusal_statuses.Refusal.TheVariants as refusal
use Rattle.room_types.specs.declared.tables.Assignment.{Assignment}
use Rattle.room_model.specs.Queries.{assignment_at, open_turn}
use Rattle.room_model.specs.Room.{Room}
use Rattle.room_model.specs.Shares.{own}
use Rattle.room_model.specs.Step.{answer_to}
use Rattle.room_model.specs.CallExamples.{after_a_call}
use Rattle.room_model.specs.ExampleRoom.{A1, A2, A3, B1, C1, a1_on_duty, a1_on_duty_until}
use Rattle.room_model.specs.ExampleRoom.{example_room, fresh_vehicle}
use Rattle.room_model.specs.IncidentExamples.{a1_sent}
use Rattle.room_model.specs.StepWords.{at, call_of, place, post_of, status_of, taker, ◌▸◌}

abbrev pub send_a1 : Event
send_a1 = at 2000 (Desk 1) (ask.Mobilise 1 A1)

abbrev pub a1_waits : Room
a1_waits = after_a_call ▸ a1_on_duty

-- A1 has given the last order number
abbrev pub no_order_left : Room
no_order_left = record after_a_call {
  vehicles = record (fresh_vehicle A1 1 Ambulance "TQ303804") { last_order = 2147483647 }
      ∷ [];
} ▸ a1_on_duty

-- A1 stands at point 1
abbrev pub a1_posted : Room
a1_posted = a1_waits ▸ at 1000 (Desk 1) (ask.SetPoint 1 (place "TQ300800") 1) ▸ at 1000 (Desk 1)
    (ask.Standby A1 (Some 1))

-- A1 was stood down on its way
abbrev pub a1_stood_down : Room
a1_stood_down = a1_sent ▸ at 2010 (Desk 1) (ask.StandDown A1)

-- the example room without division 2's vehicle
abbrev pub without_b1 : Room
without_b1 = record example_room {
  vehicles = fresh_vehicle A1 1 Ambulance "TQ303804"
      ∷ fresh_vehicle A2 1 Ambulance "TQ304803"
      ∷ fresh_vehicle A3 1 Ambulance "TQ300801"
      ∷ fresh_vehicle C1 1 Car "TQ300800" ∷ [];
}

-- what A1 was given when it was sent
abbrev pub first_assignment : Assignment
first_assignment = record {
  callsign = A1;
  division = 1;
  incident = 1;
  order = 1;
  place = place "TQ300800";
  class = 2;
}

abbrev pub ask_order : Event
ask_order = at 3000 (Crew A1) ask.Order

pub record VehicleExamples : Type 0 where
  pub a_free_vehicle_is_mobilised : answer_to send_a1 a1_waits ≡ Ok (answer.Mobilised 1 A1)
  pub a_second_mobilise_is_refused : answer_to send_a1 a1_sent ≡ Err refusal.WrongStatus
  pub a_vehicle_that_is_not_needed_is_refused : answer_to
      (at 2000 (Desk 1) (ask.Mobilise 1 A2)) a1_sent ≡ Err refusal.NotNeeded
  pub a_vehicle_off_duty_is_not_mobilised : answer_to
      (at 2000 (Desk 1) (ask.Mobilise 1 A2)) a1_waits ≡ Err refusal.WrongStatus
  pub a_vehicle_is_mobilised_to_the_end_of_its_shift : answer_to
      (at 4999 (Desk 1) (ask.Mobilise 1 A1)) (after_a_call ▸ a1_on_duty_until 5000)
      ≡ Ok (answer.Mobilised 1 A1)
  pub a_vehicle_whose_shift_is_over_is_not_mobilised : answer_to
      (at 5000 (Desk 1) (ask.Mobilise 1 A1)) (after_a_call ▸ a1_on_duty_until 5000)
      ≡ Err refusal.ShiftOver
  pub without_an_order_number_left_none_is_mobilised : answer_to send_a1 no_order_left
      ≡ Err refusal.NumbersUsedUp
  pub an_unknown_vehicle_is_refused : answer_to
      (at 2000 (Desk 1) (ask.Mobilise 1 (codes "Z9"))) a1_waits ≡ Err refusal.NoSuchVehicle
  pub another_divisions_vehicle_is_refused : answer_to (at 1000 (Desk 1) (ask.Off B1)) example_room
      ≡ Err refusal.NoSuchVehicle
  pub a_vehicle_that_is_not_there_is_refused_alike : answer_to
      (at 1000 (Desk 1) (ask.Off B1)) without_b1 ≡ Err refusal.NoSuchVehicle
  pub without_it_division_1_has_the_same_rows : own 1 without_b1 ≡ own 1 example_room
  pub a_vehicle_stood_down_returns : status_of A1 a1_stood_down ≡ Some Returning
  pub a_vehicle_stood_down_has_no_assignment : assignment_at A1 a1_stood_down ≡ None
  pub a_vehicle_stood_down_has_no_open_turn : open_turn 1 A1 a1_stood_down ≡ None
  pub a_vehicle_that_was_not_sent_is_not_stood_down : answer_to
      (at 2010 (Desk 1) (ask.StandDown A1)) a1_waits ≡ Err refusal.WrongStatus
  pub the_next_order_has_the_next_number : answer_to
      (at 2020 (Desk 1) (ask.Mobilise 1 A1)) a1_stood_down ≡ Ok (answer.Mobilised 2 A1)
  pub an_order_shows_the_class_of_then : answer_to ask_order
      (a1_sent ▸ at 1100 taker (ask.Call (record (call_of 2 "TQ300800") { class = 1 })))
      ≡ Ok (answer.Order (Some first_assignment) None Mobilised)
  pub an_order_shows_the_post : answer_to ask_order a1_posted
      ≡ Ok (answer.Order None (Some 1) Available)
  pub a_mobilised_vehicle_loses_its_post : post_of A1 (a1_posted ▸ send_a1) ≡ Some None
  pub a_vehicle_off_duty_loses_its_post : post_of A1 (a1_posted ▸ at 2000 (Desk 1) (ask.Off A1))
      ≡ Some None
  pub a_vehicle_is_sent_to_no_unknown_point : answer_to
      (at 1000 (Desk 1) (ask.Standby A1 (Some 2))) a1_posted ≡ Err refusal.NoSuchPoint
  pub a_vehicle_whose_shift_is_over_is_not_posted : answer_to
      (at 50000 (Desk 1) (ask.Standby A1 (Some 1))) a1_posted ≡ Err refusal.ShiftOver
  pub a_vehicle_whose_shift_is_over_may_leave_its_post : answer_to
      (at 50000 (Desk 1) (ask.Standby A1 None)) a1_posted ≡ Ok answer.Done
  pub a_vehicle_on_duty_does_not_come_on_duty : answer_to a1_on_duty a1_waits
      ≡ Err refusal.WrongStatus
  pub a_shift_ends_after_it_begins : answer_to (a1_on_duty_until 1000) example_room
      ≡ Err refusal.ShiftOver
  pub a_vehicle_under_way_does_not_go_off_duty : answer_to (at 2000 (Desk 1) (ask.Off A1)) a1_sent
      ≡ Err refusal.StillAssigned
  pub a_vehicle_off_duty_does_not_go_off_duty : answer_to (at 2000 (Desk 1) (ask.Off A2)) a1_waits
      ≡ Err refusal.WrongStatus
  pub a_vehicle_goes_off_duty : status_of A1 (a1_waits ▸ at 2000 (Desk 1) (ask.Off A1))
      ≡ Some OffDuty
