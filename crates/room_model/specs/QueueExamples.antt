-- The queue: from which moment on each of its entries stands there, and in which order.
use Rattle.std.specs.Prelude.{Err, List, None, Ok, Some, [], false, map, suc, zero, ℕ, ◌+◌, ◌∷◌}
use Rattle.std.specs.Prelude.{◌≡◌}
use Rattle.room_types.specs.Texts.{Callsign}
use Rattle.room_types.specs.declared.answers.Answer.TheVariants as answer
use Rattle.room_types.specs.declared.answers.QueueEntry.{QueueEntry}
use Rattle.room_types.specs.declared.asks.Ask.TheVariants as ask
use Rattle.room_types.specs.declared.asks.Event.{Event}
use Rattle.room_types.specs.declared.asks.Who.TheVariants.{Crew, Desk}
use Rattle.room_types.specs.declared.codes.Button.TheVariants as button
use Rattle.room_types.specs.declared.codes.Kind.TheVariants.{Ambulance}
use Rattle.room_types.specs.declared.codes.Outcome.TheVariants.{Wrong}
use Rattle.room_types.specs.declared.codes.Status.TheVariants.{Available, Mobilised}
use Rattle.room_types.specs.declared.refusal_statuses.Refusal.TheVariants as refusal
use Rattle.room_types.specs.declared.tables.Vehicle.{Vehicle}
use Rattle.room_model.specs.Room.{Room}
use Rattle.room_model.specs.Step.{answer_to}
use Rattle.room_model.specs.CallExamples.{after_a_call}
use Rattle.room_model.specs.ExampleRoom.{A1, A2, A3, B1, a1_on_duty, a1_on_duty_until, example_room}
use Rattle.room_model.specs.ExampleRoom.{fresh_division, fresh_incident, fresh_vehicle}
use Rattle.room_model.specs.IncidentExamples.{merged, two_calls}
use Rattle.room_model.specs.LoansAndOffers.{a1_came_home, a1_lent, a1_offered, accept_a1, lend_a1}
use Rattle.room_model.specs.ProposalExamples.{post, set_point}
use Rattle.room_model.specs.ReportExamples.{a1_was_late, clear_2}
use Rattle.room_model.specs.StepWords.{at, call_of, entry, place, press, taker, ◌▸◌}
use Rattle.room_types.specs.declared.ranks.Rank.TheVariants as rank

abbrev pub queue_of : ℕ → ℕ → Event
queue_of d t = at t (Desk d) ask.Queue

-- A1 is sent at once to an incident of this class, opened at 1000, and acknowledges
abbrev pub a1_on_its_way : ℕ → Room
a1_on_its_way class = example_room
    ▸ at 1000 taker (ask.Call (record (call_of 1 "TQ300800") { class = class }))
    ▸ a1_on_duty
    ▸ at 1000 (Desk 1) (ask.Mobilise 1 A1)
    ▸ at 1010 (Crew A1) (press 1 button.Mobile 1 "TQ303804")

-- A1 is sent at 1100, and has not acknowledged
abbrev pub a1_unacknowledged : Room
a1_unacknowledged = after_a_call ▸ a1_on_duty ▸ at 1100 (Desk 1) (ask.Mobilise 1 A1)

-- a vehicle of this home in division 1, available until 9000
abbrev pub ready : Callsign → ℕ → Vehicle
ready callsign home = record (fresh_vehicle callsign home Ambulance "TQ300800")
    { holder = 1; status = Available; shift_end = 9000 }

-- of each rank but the last something is there
abbrev pub busy_room : Room
busy_room = record example_room {
  divisions = record (fresh_division 1) { last_incident = 4 } ∷ fresh_division 2 ∷ [];
  incidents = record (fresh_incident 1 "TQ300800" 1000) { class = 1; first_order = Some 4900 }
      ∷ fresh_incident 3 "TQ300800" 4500 ∷ fresh_incident 4 "TQ300800" 4500 ∷ [];
  vehicles = record (ready A1 1) { status = Mobilised; last_order = 1 }
      ∷ record (ready A2 1) { last_report = 5 } ∷ record (ready A3 1) { shift_end = 4700 }
      ∷ ready B1 2 ∷ [];
  turns = record {
    callsign = A1;
    order = 1;
    division = 1;
    incident = 1;
    kind =
        Ambulance;
    ordered = 4900;
    acknowledged = None;
    scene = None;
    left = None;
    hospital =
        None;
    ended = None;
    stood_down = false;
  } ∷ [];
  assignments = record {
    callsign = A1;
    division = 1;
    incident = 1;
    order = 1;
    place =
        place "TQ300800";
    class = 1;
  } ∷ [];
  points = record { division = 1; number = 4; place = place "TQ300800"; cover = 1 } ∷ [];
  loans = record {
    callsign = B1;
    lender = 2;
    borrower = 1;
    since = 100;
    until = 4800;
    recalled =
        false;
  } ∷ [];
  reports = record {
    callsign = A2;
    number = 5;
    button = button.Scene;
    order = 0;
    place =
        place "TQ300800";
    at = 4000;
    division = 1;
    outcome = Wrong;
    status = Available;
    cleared =
        false;
  } ∷ [];
}

abbrev pub busy_queue : List QueueEntry
busy_queue = entry rank.Unserved 4500 3 None
    ∷ entry rank.Unserved 4500 4 None
    ∷ entry rank.Unacknowledged 4900 1 (Some A1)
    ∷ entry rank.LateForScene 1000 1 (Some A1)
    ∷ entry rank.OutOfTurn 4000 5 (Some A2)
    ∷ entry rank.Overdue 4800 2 (Some B1)
    ∷ entry rank.ShiftOver 4700 0 (Some A3)
    ∷ entry rank.Uncovered 0 4 None ∷ []

-- so many numbers, from a first one on
abbrev pub numbers_from : ℕ → ℕ → List ℕ
numbers_from first zero = []
numbers_from first (suc n) = first ∷ numbers_from (first + 1) n

-- sixty incidents that nobody serves
abbrev pub crowded_room : Room
crowded_room = record example_room {
  divisions = record (fresh_division 1) { last_incident = 60 } ∷ fresh_division 2 ∷ [];
  incidents = map (λ number. fresh_incident number "TQ300800" 1000) (numbers_from 1 60);
}

pub record QueueExamples : Type 0 where
  pub entries_stand_by_rank_since_number_and_callsign : answer_to (queue_of 1 5000) busy_room
      ≡ Ok (answer.Queue busy_queue)
  pub no_entry_is_left_out : answer_to (queue_of 1 1181) crowded_room
      ≡ Ok (answer.Queue (map (λ number. entry rank.Unserved 1000 number None) (numbers_from 1 60)))
  pub what_is_not_there_is_not_cleared : answer_to (at 5000 (Desk 1) (ask.Clear A2 6)) busy_room
      ≡ Err refusal.NoSuchException
  pub an_incident_may_wait_180_s : answer_to (queue_of 1 1180) after_a_call ≡ Ok (answer.Queue [])
  pub an_incident_waits_too_long_after_180_s : answer_to (queue_of 1 1181) after_a_call
      ≡ Ok (answer.Queue (entry rank.Unserved 1000 1 None ∷ []))
  pub of_two_incidents_the_older_waits : answer_to (queue_of 1 1200) two_calls
      ≡ Ok (answer.Queue (entry rank.Unserved 1000 1 None ∷ []))
  pub a_merged_incident_waits_since_the_earlier_opening : answer_to (queue_of 1 1200) merged
      ≡ Ok (answer.Queue (entry rank.Unserved 1000 2 None ∷ []))
  pub an_order_may_stay_unacknowledged_for_60_s : answer_to (queue_of 1 1160) a1_unacknowledged
      ≡ Ok (answer.Queue [])
  pub an_order_is_unacknowledged_too_long_after_60_s : answer_to (queue_of 1 1161) a1_unacknowledged
      ≡ Ok (answer.Queue (entry rank.Unacknowledged 1100 1 (Some A1) ∷ []))
  pub to_class_1_a_vehicle_has_480_s : answer_to (queue_of 1 1480) (a1_on_its_way 1)
      ≡ Ok (answer.Queue [])
  pub to_class_1_a_vehicle_is_late_after_480_s : answer_to (queue_of 1 1481) (a1_on_its_way 1)
      ≡ Ok (answer.Queue (entry rank.LateForScene 1000 1 (Some A1) ∷ []))
  pub to_class_2_a_vehicle_has_840_s : answer_to (queue_of 1 1840) (a1_on_its_way 2)
      ≡ Ok (answer.Queue [])
  pub to_class_2_a_vehicle_is_late_after_840_s : answer_to (queue_of 1 1841) (a1_on_its_way 2)
      ≡ Ok (answer.Queue (entry rank.LateForScene 1000 1 (Some A1) ∷ []))
  pub to_class_3_a_vehicle_has_3600_s : answer_to (queue_of 1 4600) (a1_on_its_way 3)
      ≡ Ok (answer.Queue [])
  pub to_class_3_a_vehicle_is_late_after_3600_s : answer_to (queue_of 1 4601) (a1_on_its_way 3)
      ≡ Ok (answer.Queue (entry rank.LateForScene 1000 1 (Some A1) ∷ []))
  pub exceptions_stand_by_their_moment : answer_to (queue_of 1 2040) a1_was_late
      ≡ Ok (answer.Queue (entry rank.OutOfTurn 2020 3 (Some A1) ∷ entry rank.OutOfTurn 2030 2 (Some A1) ∷ []))
  pub a_cleared_exception_is_gone : answer_to (queue_of 1 2040) (a1_was_late ▸ clear_2)
      ≡ Ok (answer.Queue (entry rank.OutOfTurn 2020 3 (Some A1) ∷ []))
  pub the_division_of_then_has_the_exception : answer_to (queue_of 2 3000) a1_came_home
      ≡ Ok (answer.Queue (entry rank.Unserved 1000 1 None ∷ entry rank.OutOfTurn 3000 1 (Some A1) ∷ []))
  pub a_loan_stands_to_its_end : answer_to (queue_of 2 9000) a1_lent ≡ Ok (answer.Queue [])
  pub a_loan_is_over_for_the_borrower : answer_to (queue_of 2 9001) a1_lent
      ≡ Ok (answer.Queue (entry rank.Overdue 9000 1 (Some A1) ∷ []))
  pub a_loan_is_over_for_the_lender : answer_to (queue_of 1 9001) a1_lent
      ≡ Ok (answer.Queue (entry rank.Unserved 1000 1 None ∷ entry rank.Overdue 9000 2 (Some A1) ∷ []))
  pub a_shift_lasts_to_its_end : answer_to (queue_of 1 1099) (example_room ▸ a1_on_duty_until 1100)
      ≡ Ok (answer.Queue [])
  pub a_shift_is_over_at_its_end : answer_to (queue_of 1 5000)
      (after_a_call ▸ a1_on_duty_until 5000)
      ≡ Ok (answer.Queue (entry rank.Unserved 1000 1 None ∷ entry rank.ShiftOver 5000 0 (Some A1) ∷ []))
  pub a_borrowed_vehicles_shift_is_over_for_the_borrower : answer_to (queue_of 2 2060)
      (after_a_call ▸ a1_on_duty_until 2050 ▸ lend_a1 ▸ accept_a1)
      ≡ Ok (answer.Queue (entry rank.ShiftOver 2050 0 (Some A1) ∷ []))
  pub a_vehicle_off_duty_has_no_shift : answer_to (queue_of 1 5000) example_room
      ≡ Ok (answer.Queue [])
  pub a_point_without_a_vehicle_is_uncovered : answer_to (queue_of 1 1000)
      (example_room ▸ set_point 1) ≡ Ok (answer.Queue (entry rank.Uncovered 0 1 None ∷ []))
  pub a_point_with_its_vehicle_is_covered : answer_to (queue_of 1 1000)
      (example_room ▸ set_point 1 ▸ a1_on_duty ▸ post A1) ≡ Ok (answer.Queue [])
  pub an_offer_may_wait_300_s : answer_to (queue_of 1 2300) a1_offered
      ≡ Ok (answer.Queue (entry rank.Unserved 1000 1 None ∷ []))
  pub an_offer_waits_too_long_for_the_lender : answer_to (queue_of 1 2301) a1_offered
      ≡ Ok (answer.Queue (entry rank.Unserved 1000 1 None ∷ entry rank.Unanswered 2000 2 (Some A1) ∷ []))
  pub an_offer_may_wait_300_s_for_the_borrower : answer_to (queue_of 2 2300) a1_offered
      ≡ Ok (answer.Queue [])
  pub an_offer_waits_too_long_for_the_borrower : answer_to (queue_of 2 2301) a1_offered
      ≡ Ok (answer.Queue (entry rank.Unanswered 2000 1 (Some A1) ∷ []))
