use Rattle.std.specs.Prelude.{refl}
use Rattle.room_model.specs.ComputedDefinitions.{machine}
use Rattle.room_model.proofs.examples.move_examples.Goals as goal

pub returns : goal.returns
unfolding machine
returns c = record {
  a_divert_is_one_step = refl;
  a_diverted_vehicle_has_the_new_order = refl;
  a_refusal_is_the_answer = refl;
  a_refusal_undoes_what_came_before = refl;
  several_vehicles_are_sent_by_one_request = refl;
  each_is_decided_in_the_room_after_those_before_it = refl;
  the_first_refusal_counts = refl;
}
