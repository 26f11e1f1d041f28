-- Times: which incidents belong to a day, and how soon a vehicle was sent to them.
use Rattle.std.specs.Prelude.{None, Ok, Some, [], pos, ℕ, ◌∷◌, ◌≡◌}
use Rattle.room_types.specs.declared.answers.Answer.TheVariants as answer
use Rattle.room_types.specs.declared.answers.Times.{Times}
use Rattle.room_types.specs.declared.asks.Ask.TheVariants as ask
use Rattle.room_types.specs.declared.asks.Event.{Event}
use Rattle.room_types.specs.declared.asks.Who.TheVariants.{Desk}
use Rattle.room_model.specs.Room.{Room}
use Rattle.room_model.specs.Step.{answer_to}
use Rattle.room_model.specs.CallExamples.{after_a_call}
use Rattle.room_model.specs.ExampleRoom.{A1, a1_on_duty, a1_on_duty_until, example_room}
use Rattle.room_model.specs.IncidentExamples.{merged}
use Rattle.room_model.specs.StepWords.{at, call_at, ◌▸◌}

-- three incidents: at the first second of 29 March 2026 in London, at its last, and at the first of
-- 30 March; A1 is sent to the first after two minutes
abbrev pub a_day_of_23_hours : Room
a_day_of_23_hours = example_room
    ▸ call_at 1774742400 1 "TQ300800"
    ▸ a1_on_duty_until 1774800000
    ▸ at 1774742520 (Desk 1) (ask.Mobilise 1 A1)
    ▸ call_at 1774825199 2 "TQ300800"
    ▸ call_at 1774825200 3 "TQ310800"

-- the times of what was opened from 0 and before 2000
abbrev pub early_times : Event
early_times = at 3000 (Desk 1) (ask.Times (pos 0) (pos 2000))

-- one incident opened at 1000, with a vehicle sent so soon, and so many of those in time
abbrev pub sent_after : ℕ → ℕ → Times
sent_after activation within = record {
  from = pos 0;
  to = pos 2000;
  activated = 1;
  within = within;
  lines = record { number = 1; opened = 1000; activation = Some activation } ∷ [];
}

pub record TimesExamples : Type 0 where
  pub a_day_has_its_first_second_and_not_the_next_days : answer_to
      (at 1774830000 (Desk 1) (ask.Times (pos 1774742400) (pos 1774825200))) a_day_of_23_hours
      ≡ Ok (answer.Times (record {
        from = pos 1774742400;
        to = pos 1774825200;
        activated = 1;
        within = 1;
        lines = record { number = 1; opened = 1774742400; activation = Some 120 }
            ∷ record { number = 2; opened = 1774825199; activation = None } ∷ [];
      }))
  pub three_minutes_are_in_time : answer_to early_times
      (after_a_call ▸ a1_on_duty ▸ at 1180 (Desk 1) (ask.Mobilise 1 A1))
      ≡ Ok (answer.Times (sent_after 180 1))
  pub a_second_more_is_not_in_time : answer_to early_times
      (after_a_call ▸ a1_on_duty ▸ at 1181 (Desk 1) (ask.Mobilise 1 A1))
      ≡ Ok (answer.Times (sent_after 181 0))
  pub a_second_order_changes_no_time : answer_to early_times
      (after_a_call ▸ a1_on_duty ▸ at 1100 (Desk 1) (ask.Mobilise 1 A1) ▸ at 1110 (Desk 1)
      (ask.StandDown A1) ▸ at 1120 (Desk 1) (ask.Mobilise 1 A1))
      ≡ Ok (answer.Times (sent_after 100 1))
  pub a_closed_incident_keeps_its_time : answer_to early_times
      (after_a_call ▸ a1_on_duty ▸ at 1100 (Desk 1) (ask.Mobilise 1 A1) ▸ at 1110 (Desk 1)
      (ask.StandDown A1) ▸ at 1120 (Desk 1) (ask.Close 1))
      ≡ Ok (answer.Times (sent_after 100 1))
  pub a_merged_incident_has_no_time : answer_to early_times merged
      ≡ Ok (answer.Times (record {
        from = pos 0;
        to = pos 2000;
        activated = 0;
        within = 0;
        lines =
            record { number = 2; opened = 1000; activation = None } ∷ [];
      }))
