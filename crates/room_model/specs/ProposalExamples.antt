-- Proposals: which vehicles are proposed for an incident, in which order, and which break cover.
use Rattle.std.specs.Prelude.{Err, Ok, Some, [], false, true, ℕ, ◌∷◌, ◌≡◌}
use Rattle.room_types.specs.Texts.{Callsign}
use Rattle.room_types.specs.declared.answers.Answer.TheVariants as answer
use Rattle.room_types.specs.declared.answers.Proposal.{Proposal}
use Rattle.room_types.specs.declared.asks.Ask.TheVariants as ask
use Rattle.room_types.specs.declared.asks.Event.{Event}
use Rattle.room_types.specs.declared.asks.Who.TheVariants.{Desk}
use Rattle.room_types.specs.declared.codes.Kind.TheVariants.{Ambulance, Car}
use Rattle.room_types.specs.declared.refusal_statuses.Refusal.TheVariants as refusal
use Rattle.room_types.specs.declared.needs.Counts.{Counts}
use Rattle.room_model.specs.Room.{Room}
use Rattle.room_model.specs.Step.{answer_to}
use Rattle.room_model.specs.ExampleRoom.{A1, A2, A3, C1, a1_on_duty, a1_on_duty_until, a2_on_duty}
use Rattle.room_model.specs.ExampleRoom.{a3_on_duty, example_room}
use Rattle.room_model.specs.StepWords.{at, call_of, needs, place, taker, ◌▸◌}

-- an incident at TQ300800 with these needs
abbrev pub in_need_of : Counts → Room
in_need_of wanted =
    example_room ▸ at 1000 taker (ask.Call (record (call_of 1 "TQ300800") { needs = wanted }))

-- A1 and A2 are 500 m from it, A3 is 100 m
abbrev pub three_on_duty : Counts → Room
three_on_duty wanted = in_need_of wanted ▸ a1_on_duty ▸ a2_on_duty ▸ a3_on_duty

abbrev pub set_point : ℕ → Event
set_point cover = at 1000 (Desk 1) (ask.SetPoint 1 (place "TQ300800") cover)

abbrev pub post : Callsign → Event
post c = at 1000 (Desk 1) (ask.Standby c (Some 1))

abbrev pub propose_at : ℕ → Event
propose_at t = at t (Desk 1) (ask.Propose 1)

abbrev pub near : Callsign → ℕ → Proposal
near callsign metres = record {
  breaks = false;
  distance = metres;
  kind = Ambulance;
  callsign = callsign;
}

abbrev pub on_guard : Callsign → ℕ → Proposal
on_guard callsign metres = record (near callsign metres) { breaks = true }

pub record ProposalExamples : Type 0 where
  pub none_on_duty_none_is_proposed : answer_to (propose_at 1000) (in_need_of (needs 2 0 0))
      ≡ Ok (answer.Proposals [])
  pub the_nearest_are_proposed_then_by_callsign : answer_to (propose_at 1000)
      (three_on_duty (needs 2 0 0)) ≡ Ok (answer.Proposals (near A3 100 ∷ near A1 500 ∷ []))
  pub no_more_are_proposed_than_lack : answer_to (propose_at 1000) (three_on_duty (needs 1 0 0))
      ≡ Ok (answer.Proposals (near A3 100 ∷ []))
  pub those_that_break_cover_come_last : answer_to (propose_at 1000)
      (three_on_duty (needs 3 0 0) ▸ set_point 1 ▸ post A3)
      ≡ Ok (answer.Proposals (near A1 500 ∷ near A2 500 ∷ on_guard A3 100 ∷ []))
  pub two_at_a_point_for_one_break_no_cover : answer_to (propose_at 1000)
      (three_on_duty (needs 2 0 0) ▸ set_point 1 ▸ post A3 ▸ post A2)
      ≡ Ok (answer.Proposals (near A3 100 ∷ near A1 500 ∷ []))
  pub two_at_a_point_for_two_break_cover : answer_to (propose_at 1000)
      (three_on_duty (needs 2 0 0) ▸ set_point 2 ▸ post A3 ▸ post A2)
      ≡ Ok (answer.Proposals (near A1 500 ∷ on_guard A3 100 ∷ []))
  pub at_a_point_for_none_none_breaks_cover : answer_to (propose_at 1000)
      (three_on_duty (needs 1 0 0) ▸ set_point 0 ▸ post A3)
      ≡ Ok (answer.Proposals (near A3 100 ∷ []))
  pub a_point_lists_who_holds_it : answer_to (at 1000 (Desk 1) ask.Points)
      (three_on_duty (needs 3 0 0) ▸ set_point 1 ▸ post A3)
      ≡ Ok (answer.Points (record { number = 1; place = place "TQ300800"; cover = 1; held = 1 }
      ∷ []))
  pub a_vehicle_is_proposed_to_the_end_of_its_shift : answer_to (propose_at 4999)
      (in_need_of (needs 1 0 0) ▸ a1_on_duty_until 5000) ≡ Ok (answer.Proposals (near A1 500 ∷ []))
  pub a_vehicle_whose_shift_is_over_is_not_proposed : answer_to (propose_at 5000)
      (in_need_of (needs 1 0 0) ▸ a1_on_duty_until 5000) ≡ Ok (answer.Proposals [])
  pub an_off_duty_vehicle_is_not_proposed : answer_to (propose_at 1200)
      (in_need_of (needs 1 0 0) ▸ a1_on_duty ▸ at 1100 (Desk 1) (ask.Off A1))
      ≡ Ok (answer.Proposals [])
  pub a_mobilised_vehicle_is_not_proposed : answer_to (propose_at 1200)
      (in_need_of (needs 2 0 0) ▸ a1_on_duty ▸ at 1100 (Desk 1) (ask.Mobilise 1 A1))
      ≡ Ok (answer.Proposals [])
  pub an_offered_vehicle_is_not_proposed : answer_to (propose_at 1200)
      (in_need_of (needs 1 0 0) ▸ a1_on_duty ▸ at 1100 (Desk 1) (ask.Lend A1 2 9000))
      ≡ Ok (answer.Proposals [])
  pub ambulances_come_before_cars : answer_to (propose_at 1200)
      (in_need_of (needs 1 1 0) ▸ a1_on_duty ▸ at 1000 (Desk 1)
      (ask.Duty C1 (place "TQ300800") 50000))
      ≡ Ok (answer.Proposals (near A1 500
      ∷ record { breaks = false; distance = 0; kind = Car; callsign = C1 } ∷ []))
  pub nothing_is_proposed_for_an_unknown_incident : answer_to (at 1000 (Desk 1) (ask.Propose 2))
      (three_on_duty (needs 1 0 0)) ≡ Err refusal.NoSuchIncident
