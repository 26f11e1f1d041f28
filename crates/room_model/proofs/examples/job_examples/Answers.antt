use Rattle.std.specs.Prelude.{refl}
use Rattle.room_model.specs.ComputedDefinitions.{machine}
use Rattle.room_model.proofs.examples.job_examples.Goals as goal

pub returns : goal.returns
unfolding machine
returns c = record {
  a_job_has_the_class_and_the_notes_of_now = refl;
  a_job_has_the_notes_of_an_incident_merged_into_it = refl;
  without_an_order_a_job_is_the_order = refl;
  after_a_stand_down_there_is_no_job = refl;
  another_crew_is_told_of_no_job = refl;
}
