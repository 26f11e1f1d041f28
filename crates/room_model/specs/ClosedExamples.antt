-- Searches: which incidents that are over are found, and what a page of them has; times by class.
use Rattle.std.specs.Prelude.{List, None, Ok, Option, Some, [], length, map, pos, replicate, ℕ, ◌∷◌}
use Rattle.std.specs.Prelude.{◌≡◌}
use Rattle.room_types.specs.declared.answers.Answer.TheVariants as answer
use Rattle.room_types.specs.declared.answers.ClassLine.{ClassLine}
use Rattle.room_types.specs.declared.asks.Ask.TheVariants as ask
use Rattle.room_types.specs.declared.asks.Sought.{Sought}
use Rattle.room_types.specs.declared.asks.Sought.TheVariants.{All, Near, Sent}
use Rattle.room_types.specs.declared.asks.Who.TheVariants.{Desk}
use Rattle.room_types.specs.declared.codes.State.TheVariants.{Closed}
use Rattle.room_types.specs.declared.tables.Incident.{Incident}
use Rattle.room_model.specs.ClosedIncidents.{incidents_found, page_of}
use Rattle.room_model.specs.ExampleRoom.{A1, A2, B1, a1_on_duty, fresh_incident}
use Rattle.room_model.specs.IncidentExamples.{merged_in_turn, two_calls}
use Rattle.room_model.specs.Room.{Room}
use Rattle.room_model.specs.Step.{answer_to}
use Rattle.room_model.specs.StepWords.{at, place, ◌▸◌}

-- incident 1, to which A1 was sent, was merged into 2, 1 km off, to which A2 was sent: it is closed
abbrev pub both_over : Room
both_over = merged_in_turn ▸ at 2300 (Desk 1) (ask.StandDown A2) ▸ at 2310 (Desk 1) (ask.Close 2)

-- the numbers of a division's incidents that are found among those opened before 5000
abbrev pub numbers_found : ℕ → Sought → Room → List ℕ
numbers_found d x r = map (λ i. i.number) (incidents_found d (pos 0) (pos 5000) x r)

-- so many rows
abbrev pub rows : ℕ → List Incident
rows n = replicate n (fresh_incident 7 "TQ300800" 1000)

abbrev pub line_of : ℕ → ℕ → ℕ → ClassLine
line_of class opened sent = record {
  class = class;
  opened = opened;
  activated = sent;
  within = sent;
}

pub record ClosedExamples : Type 0 where
  pub closed_and_merged_ones_are_found : numbers_found 1 All both_over ≡ 1 ∷ 2 ∷ []
  pub an_active_one_is_not_found : numbers_found 1 All merged_in_turn ≡ 1 ∷ []
  pub another_division_finds_none : numbers_found 2 All both_over ≡ []
  pub what_was_opened_at_the_end_is_not_found :
      incidents_found 1 (pos 0) (pos 1000) All both_over ≡ []
  pub the_first_vehicle_was_sent_to_the_first : numbers_found 1 (Sent A1) both_over ≡ 1 ∷ []
  pub the_second_vehicle_was_sent_to_the_second : numbers_found 1 (Sent A2) both_over ≡ 2 ∷ []
  pub another_vehicle_was_sent_to_none : numbers_found 1 (Sent B1) both_over ≡ []
  pub a_metre_less_than_its_distance_misses_it :
      numbers_found 1 (Near (place "TQ300800") 999) both_over ≡ 1 ∷ []
  pub its_distance_finds_it :
      numbers_found 1 (Near (place "TQ300800") 1000) both_over ≡ 1 ∷ 2 ∷ []
  pub a_page_begins_at_its_number : answer_to
      (at 3000 (Desk 1) (ask.Closed (pos 0) (pos 5000) (record { sought = All; first = 2 }))) both_over
      ≡ Ok (answer.Closed (record {
        incidents = record (fresh_incident 2 "TQ310800" 1000) {
          first_order = Some 2000;
          state = Closed;
        } ∷ [];
        next = None;
      }))
  pub a_page_has_a_hundred : length ((page_of (rows 101)).incidents) ≡ 100
  pub the_next_page_begins_with_what_follows : (page_of (rows 101)).next ≡ Some 7
  pub nothing_follows_the_last_page : (page_of (rows 100)).next ≡ None
  pub times_are_shown_by_class : answer_to
      (at 3000 (Desk 1) (ask.ClassTimes (pos 0) (pos 5000)))
      (two_calls ▸ a1_on_duty ▸ at 1180 (Desk 1) (ask.Mobilise 1 A1))
      ≡ Ok (answer.ClassTimes (record {
        from = pos 0;
        to = pos 5000;
        lines = line_of 1 1 0 ∷ line_of 2 1 1 ∷ line_of 3 0 0 ∷ [];
      }))
