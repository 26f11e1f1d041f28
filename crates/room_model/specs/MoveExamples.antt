-- Moves: a divert, several vehicles at once, and that one refusal undoes all.
use Rattle.std.specs.Prelude.{Err, List, None, Ok, Option, Some, [], map, option_map, ℕ, ◌∷◌, ◌≡◌}
use Rattle.room_types.specs.Texts.{Callsign}
use Rattle.room_types.specs.declared.answers.Answer.TheVariants as answer
use Rattle.room_types.specs.declared.answers.MoveLine.{MoveLine}
use Rattle.room_types.specs.declared.asks.Ask.TheVariants as ask
use Rattle.room_types.specs.declared.asks.Event.{Event}
use Rattle.room_types.specs.declared.asks.Move.{Move}
use Rattle.room_types.specs.declared.asks.Who.TheVariants.{Desk}
use Rattle.room_types.specs.declared.refusal_statuses.Refusal.TheVariants as refusal
use Rattle.room_model.specs.ExampleRoom.{A1, A2, C1}
use Rattle.room_model.specs.IncidentExamples.{a1_sent}
use Rattle.room_model.specs.Queries.{assignment_at}
use Rattle.room_model.specs.Room.{Room}
use Rattle.room_model.specs.Step.{answer_to}
use Rattle.room_model.specs.StepWords.{at, call_at, ◌▸◌}

-- a vehicle to an incident, or off its own
abbrev pub to : ℕ → Callsign → Move
to n c = record { callsign = c; incident = Some n }

abbrev pub down : Callsign → Move
down c = record { callsign = c; incident = None }

-- division 1's desk asks for these
abbrev pub moves : Move → List Move → Event
moves first others =
    at 2100 (Desk 1) (ask.Moves (record { first = first; others = map Some others }))

abbrev pub line : Callsign → Option ℕ → MoveLine
line c order = record { callsign = c; order = order }

-- A1 is on its way to incident 1, A2 is free, and nobody was sent to incident 2
abbrev pub two_incidents : Room
two_incidents = a1_sent ▸ call_at 2005 2 "TQ310800"

abbrev pub divert : Event
divert = moves (down A1) (to 2 A1 ∷ [])

-- the second move names an incident that is not there
abbrev pub astray : Event
astray = moves (down A1) (to 3 A1 ∷ [])

-- the incident that a vehicle has an order for
abbrev pub sent_to : Callsign → Room → Option ℕ
sent_to c r = option_map (λ x. x.incident) (assignment_at c r)

pub record MoveExamples : Type 0 where
  pub a_divert_is_one_step : answer_to divert two_incidents
      ≡ Ok (answer.Moved (line A1 None ∷ line A1 (Some 2) ∷ []))
  pub a_diverted_vehicle_has_the_new_order : sent_to A1 (two_incidents ▸ divert) ≡ Some 2
  pub a_refusal_is_the_answer : answer_to astray two_incidents ≡ Err refusal.NoSuchIncident
  pub a_refusal_undoes_what_came_before : two_incidents ▸ astray ≡ two_incidents
  pub several_vehicles_are_sent_by_one_request : answer_to
      (moves (down A1) (to 1 A2 ∷ to 2 A1 ∷ [])) two_incidents
      ≡ Ok (answer.Moved (line A1 None ∷ line A2 (Some 1) ∷ line A1 (Some 2) ∷ []))
  pub each_is_decided_in_the_room_after_those_before_it : answer_to
      (moves (to 1 A2) (down A1 ∷ [])) two_incidents ≡ Err refusal.NotNeeded
  pub the_first_refusal_counts : answer_to
      (moves (down C1) (to 3 A1 ∷ [])) two_incidents ≡ Err refusal.WrongStatus
