-- Incidents: how they are listed, merged, changed and closed, and which turns serve them.
use Rattle.std.specs.Prelude.{Err, List, Ok, Option, Some, [], map, option_map, ℕ, ◌∷◌, ◌≡◌}
use Rattle.room_types.specs.declared.answers.Answer.TheVariants as answer
use Rattle.room_types.specs.declared.answers.IncidentLine.{IncidentLine}
use Rattle.room_types.specs.declared.asks.Ask.TheVariants as ask
use Rattle.room_types.specs.declared.asks.Event.{Event}
use Rattle.room_types.specs.declared.asks.Who.TheVariants.{Crew, Desk}
use Rattle.room_types.specs.declared.codes.Button.TheVariants as button
use Rattle.room_types.specs.declared.refusal_statuses.Refusal.TheVariants as refusal
use Rattle.room_types.specs.Texts.{Callsign}
use Rattle.room_model.specs.Queries.{incident_of, turns_of}
use Rattle.room_model.specs.Room.{Room}
use Rattle.room_model.specs.Step.{answer_to}
use Rattle.room_model.specs.CallExamples.{after_a_call}
use Rattle.room_model.specs.ExampleRoom.{A1, A2, a1_on_duty, a2_on_duty}
use Rattle.room_model.specs.StepWords.{at, call_at, call_of, needs, place, press, taker, ◌▸◌}

-- what division 1 asks about its incidents
abbrev pub list_incidents : Event
list_incidents = at 3000 (Desk 1) ask.Incidents

-- an incident at TQ300800 that is served by so many ambulances less than it needs
abbrev pub one_lacking : ℕ → IncidentLine
one_lacking lack = record {
  number = 1;
  place = place "TQ300800";
  class = 2;
  needs = needs 1 0 0;
  lack = needs lack 0 0;
  opened = 1000;
  calls = 1;
}

-- incident 1 of a call at 1000, incident 2 of a graver call for a car at 1150, 1 km off
abbrev pub two_calls : Room
two_calls = after_a_call ▸ at 1150 taker
    (ask.Call (record (call_of 2 "TQ310800") { class = 1; needs = needs 0 1 0 }))

abbrev pub merge_1_into_2 : Event
merge_1_into_2 = at 1200 (Desk 1) (ask.Merge 1 2)

abbrev pub merged : Room
merged = two_calls ▸ merge_1_into_2

-- A1 is sent to incident 1
abbrev pub a1_sent : Room
a1_sent = after_a_call ▸ a1_on_duty ▸ a2_on_duty ▸ at 2000 (Desk 1) (ask.Mobilise 1 A1)

-- incident 1 had its first order at 2000, which was stood down; incident 2 has had one since 2100
abbrev pub ordered_in_turn : Room
ordered_in_turn = a1_sent ▸ call_at 2005 2 "TQ310800" ▸ at 2010 (Desk 1)
    (ask.StandDown A1) ▸ at 2100 (Desk 1) (ask.Mobilise 2 A2)

-- then incident 1 is merged into 2
abbrev pub merged_in_turn : Room
merged_in_turn = ordered_in_turn ▸ at 2200 (Desk 1) (ask.Merge 1 2)

-- the vehicles whose turns an incident's history shows
abbrev pub sent_to : ℕ → Room → List Callsign
sent_to number r = map (λ t. t.callsign) (turns_of 1 number r)

abbrev pub first_order_of : ℕ → Room → Option (Option ℕ)
first_order_of number r = option_map (λ i. i.first_order) (incident_of 1 number r)

abbrev pub opening_of : ℕ → Room → Option ℕ
opening_of number r = option_map (λ i. i.opened) (incident_of 1 number r)

pub record IncidentExamples : Type 0 where
  pub an_incident_is_listed : answer_to list_incidents after_a_call
      ≡ Ok (answer.Incidents (one_lacking 1 ∷ []))
  pub incidents_merge : answer_to merge_1_into_2 two_calls ≡ Ok answer.Done
  pub a_merged_incident_has_the_larger_of_both : answer_to list_incidents merged
      ≡ Ok (answer.Incidents (record {
        number = 2;
        place = place "TQ310800";
        class = 1;
        needs =
            needs 1 1 0;
        lack = needs 1 1 0;
        opened = 1000;
        calls = 2;
      } ∷ []))
  pub merging_keeps_the_earlier_opening_of_the_one_merged : opening_of 2 merged ≡ Some 1000
  pub merging_keeps_the_earlier_opening_of_the_other : opening_of 1
      (two_calls ▸ at 1200 (Desk 1) (ask.Merge 2 1)) ≡ Some 1000
  pub merging_keeps_the_earlier_first_order : first_order_of 2 merged_in_turn ≡ Some (Some 2000)
  pub before_they_merge_each_has_its_own_turns : sent_to 2 ordered_in_turn ≡ A2 ∷ []
  pub a_history_has_the_turns_of_one_merged_into_it : sent_to 2 merged_in_turn ≡ A1 ∷ A2 ∷ []
  pub a_merged_incident_has_its_own_turns : sent_to 1 merged_in_turn ≡ A1 ∷ []
  pub merging_keeps_the_only_first_order : first_order_of 2
      (a1_sent ▸ call_at 2005 2 "TQ310800" ▸ at 2010 (Desk 1) (ask.StandDown A1) ▸ at 2200 (Desk 1)
      (ask.Merge 1 2)) ≡ Some (Some 2000)
  pub an_incident_does_not_merge_into_itself : answer_to (at 1200 (Desk 1) (ask.Merge 2 2)) merged
      ≡ Err refusal.SameIncident
  pub a_merged_incident_does_not_merge_again : answer_to merge_1_into_2 merged
      ≡ Err refusal.IncidentNotOpen
  pub an_unknown_incident_does_not_merge : answer_to (at 1200 (Desk 1) (ask.Merge 9 2)) merged
      ≡ Err refusal.NoSuchIncident
  pub an_incident_with_a_vehicle_under_way_does_not_merge : answer_to
      (at 2010 (Desk 1) (ask.Merge 1 2)) (a1_sent ▸ call_at 2005 2 "TQ310800")
      ≡ Err refusal.StillAssigned
  pub an_incident_may_merge_into_one_with_a_vehicle_under_way : answer_to
      (at 2010 (Desk 1) (ask.Merge 2 1)) (a1_sent ▸ call_at 2005 2 "TQ310800") ≡ Ok answer.Done
  pub needs_are_not_set_below_what_serves : answer_to
      (at 2000 (Desk 1) (ask.Needs 1 (needs 0 1 0))) a1_sent ≡ Err refusal.BelowServed
  pub needs_may_be_just_what_serves : answer_to
      (at 2000 (Desk 1) (ask.Needs 1 (needs 1 1 0))) a1_sent ≡ Ok answer.Done
  pub an_incident_with_a_vehicle_under_way_is_not_closed : answer_to
      (at 2000 (Desk 1) (ask.Close 1)) a1_sent ≡ Err refusal.StillAssigned
  pub a_closed_incident_is_not_open : answer_to (at 1200 (Desk 1) (ask.Close 1))
      (after_a_call ▸ at 1100 (Desk 1) (ask.Close 1)) ≡ Err refusal.IncidentNotOpen
  pub a_vehicle_under_way_serves : answer_to list_incidents a1_sent
      ≡ Ok (answer.Incidents (one_lacking 0 ∷ []))
  pub a_turn_stood_down_before_the_scene_serves_no_more : answer_to list_incidents
      (a1_sent ▸ at 2005 (Crew A1) (press 1 button.Mobile 1 "TQ303804") ▸ at 2010 (Desk 1)
      (ask.StandDown A1)) ≡ Ok (answer.Incidents (one_lacking 1 ∷ []))
  pub a_turn_that_was_only_acknowledged_serves_no_more : answer_to list_incidents
      (a1_sent ▸ at 2005 (Crew A1) (press 1 button.Mobile 1 "TQ303804") ▸ at 2010 (Crew A1)
      (press 2 button.Home 1 "TQ303804")) ≡ Ok (answer.Incidents (one_lacking 1 ∷ []))
  pub a_turn_that_reached_the_scene_served : answer_to list_incidents
      (a1_sent ▸ at 2005 (Crew A1) (press 1 button.Scene 1 "TQ300800") ▸ at 2010 (Crew A1)
      (press 2 button.Home 1 "TQ300800")) ≡ Ok (answer.Incidents (one_lacking 0 ∷ []))
  pub a_turn_that_left_served : answer_to list_incidents
      (a1_sent ▸ at 2005 (Crew A1) (press 1 button.Leave 1 "TQ300800") ▸ at 2010 (Crew A1)
      (press 2 button.Home 1 "TQ300800")) ≡ Ok (answer.Incidents (one_lacking 0 ∷ []))
  pub a_turn_that_reached_a_hospital_served : answer_to list_incidents
      (a1_sent ▸ at 2005 (Crew A1) (press 1 button.Hospital 1 "TQ300800") ▸ at 2010 (Crew A1)
      (press 2 button.Home 1 "TQ300800")) ≡ Ok (answer.Incidents (one_lacking 0 ∷ []))
