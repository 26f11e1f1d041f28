-- A crew's job: what it is told of its incident, and what without an order.
use Rattle.std.specs.Prelude.{None, Ok, Some, [], codes, ◌∷◌, ◌≡◌}
use Rattle.room_types.specs.declared.answers.Answer.TheVariants as answer
use Rattle.room_types.specs.declared.asks.Ask.TheVariants as ask
use Rattle.room_types.specs.declared.asks.Event.{Event}
use Rattle.room_types.specs.declared.asks.Who.TheVariants.{Crew, Desk}
use Rattle.room_types.specs.declared.codes.Status.TheVariants.{Available, Mobilised, Returning}
use Rattle.room_model.specs.Room.{Room}
use Rattle.room_model.specs.Step.{answer_to}
use Rattle.room_model.specs.ExampleRoom.{A1, A2}
use Rattle.room_model.specs.IncidentExamples.{a1_sent}
use Rattle.room_model.specs.StepWords.{at, call_of, taker, ◌▸◌}
use Rattle.room_model.specs.VehicleExamples.{a1_posted, a1_stood_down, first_assignment}

abbrev pub ask_job : Event
ask_job = at 3000 (Crew A1) ask.Job

-- a graver call at the place that A1 was sent to
abbrev pub graver_with_a_note : Event
graver_with_a_note = at 1100 taker
    (ask.Call (record (call_of 2 "TQ300800") { class = 1; note = codes "no pulse" }))

-- another incident, 1 km off, which goes into A1's
abbrev pub merged_with_a_note : Room
merged_with_a_note = a1_sent ▸ at 2005 taker
    (ask.Call (record (call_of 2 "TQ310800") { note = codes "flat 12b" })) ▸ at 2010 (Desk 1)
    (ask.Merge 2 1)

pub record JobExamples : Type 0 where
  pub a_job_has_the_class_and_the_notes_of_now : answer_to ask_job (a1_sent ▸ graver_with_a_note)
      ≡ Ok (answer.Job (record {
        order = first_assignment;
        post = None;
        status = Mobilised;
        class = 1;
        notes = [] ∷ codes "no pulse" ∷ [];
      }))
  pub a_job_has_the_notes_of_an_incident_merged_into_it : answer_to ask_job merged_with_a_note
      ≡ Ok (answer.Job (record {
        order = first_assignment;
        post = None;
        status = Mobilised;
        class = 2;
        notes = [] ∷ codes "flat 12b" ∷ [];
      }))
  pub without_an_order_a_job_is_the_order : answer_to ask_job a1_posted
      ≡ Ok (answer.Order None (Some 1) Available)
  pub after_a_stand_down_there_is_no_job : answer_to ask_job a1_stood_down
      ≡ Ok (answer.Order None None Returning)
  pub another_crew_is_told_of_no_job : answer_to
      (at 3000 (Crew A2) ask.Job) (a1_sent ▸ graver_with_a_note)
      ≡ Ok (answer.Order None None Available)
