-- Calls: which incident a call is linked to, what it does to it, and what a repeated call is
-- answered.
use Rattle.std.specs.Prelude.{Err, Ok, [], codes, false, true, ◌∷◌, ◌≡◌}
use Rattle.room_types.specs.declared.answers.Answer.TheVariants as answer
use Rattle.room_types.specs.declared.asks.Ask.TheVariants as ask
use Rattle.room_types.specs.declared.asks.Event.{Event}
use Rattle.room_types.specs.declared.asks.Who.TheVariants.{Desk}
use Rattle.room_types.specs.declared.refusal_statuses.Refusal.TheVariants as refusal
use Rattle.room_model.specs.Room.{Room}
use Rattle.room_model.specs.Step.{answer_to}
use Rattle.room_model.specs.ExampleRoom.{example_room, fresh_division, fresh_incident}
use Rattle.room_model.specs.StepWords.{at, call_at, call_of, needs, place, taker, ◌▸◌}

abbrev pub first_call : Event
first_call = call_at 1000 1 "TQ300800"

abbrev pub after_a_call : Room
after_a_call = example_room ▸ first_call

-- 141 m from TQ300800, and 100 m
abbrev pub two_incidents : Room
two_incidents = record example_room {
  divisions = record (fresh_division 1) { last_incident = 2 } ∷ fresh_division 2 ∷ [];
  incidents = fresh_incident 1 "TQ301801" 1000 ∷ fresh_incident 2 "TQ301800" 1100 ∷ [];
}

-- 100 m from TQ300800 on either side
abbrev pub two_at_100_m : Room
two_at_100_m = record two_incidents
    { incidents = fresh_incident 1 "TQ301800" 1000 ∷ fresh_incident 2 "TQ299800" 1000 ∷ [] }

abbrev pub all_numbers_given : Room
all_numbers_given = record example_room {
  divisions = record (fresh_division 1) { last_incident = 2147483647 } ∷ fresh_division 2 ∷ [];
  incidents = fresh_incident 1 "TQ300800" 1000 ∷ [];
}

-- more urgent, for two cars, and of an earlier moment
abbrev pub graver_call : Event
graver_call =
    at 900 taker (ask.Call (record (call_of 2 "TQ301800") { class = 1; needs = needs 0 2 0 }))

pub record CallExamples : Type 0 where
  pub a_call_makes_an_incident : answer_to first_call example_room ≡ Ok (answer.Called 1 1 false)
  pub a_repeated_call_is_answered_alike : answer_to first_call after_a_call
      ≡ Ok (answer.Called 1 1 false)
  pub a_repeated_call_changes_nothing : after_a_call ▸ first_call ≡ after_a_call
  pub a_serial_with_another_note_is_refused : answer_to
      (at 1000 taker (ask.Call (record (call_of 1 "TQ300800") { note = codes "x" }))) after_a_call
      ≡ Err refusal.SerialReused
  pub a_call_200_m_off_links : answer_to (call_at 1900 2 "TQ302800") after_a_call
      ≡ Ok (answer.Called 1 1 true)
  pub a_call_201_m_off_makes_an_incident : answer_to (call_at 1900 2 "TQ3020180000") after_a_call
      ≡ Ok (answer.Called 1 2 false)
  pub a_call_901_s_later_makes_an_incident : answer_to (call_at 1901 2 "TQ302800") after_a_call
      ≡ Ok (answer.Called 1 2 false)
  pub a_call_outside_all_areas_is_refused : answer_to (call_at 1900 2 "TL300800") after_a_call
      ≡ Err refusal.OutsideArea
  pub the_nearer_incident_is_linked : answer_to (call_at 1200 1 "TQ300800") two_incidents
      ≡ Ok (answer.Called 1 2 true)
  pub of_two_equally_near_the_lower_number_is_linked : answer_to
      (call_at 1200 1 "TQ300800") two_at_100_m ≡ Ok (answer.Called 1 1 true)
  pub a_closed_incident_is_not_linked : answer_to (call_at 1100 2 "TQ300800")
      (after_a_call ▸ at 1050 (Desk 1) (ask.Close 1)) ≡ Ok (answer.Called 1 2 false)
  pub a_linked_call_gives_class_needs_and_opening : answer_to (at 1000 (Desk 1) ask.Incidents)
      (after_a_call ▸ graver_call)
      ≡ Ok (answer.Incidents (record {
        number = 1;
        place = place "TQ300800";
        class = 1;
        needs =
            needs 1 2 0;
        lack = needs 1 2 0;
        opened = 900;
        calls = 2;
      } ∷ []))
  pub each_division_counts_its_own_incidents : answer_to (call_at 1000 2 "TQ600800") after_a_call
      ≡ Ok (answer.Called 2 1 false)
  pub without_a_number_left_a_call_is_refused : answer_to
      (call_at 1100 2 "TQ310800") all_numbers_given ≡ Err refusal.NumbersUsedUp
  pub without_a_number_left_a_call_still_links : answer_to
      (call_at 1100 2 "TQ300800") all_numbers_given ≡ Ok (answer.Called 1 1 true)
  pub a_call_of_a_merged_incident_is_answered_as_first : answer_to first_call
      (after_a_call ▸ call_at 1100 2 "TQ310800" ▸ at 1200 (Desk 1) (ask.Merge 1 2))
      ≡ Ok (answer.Called 1 1 false)
