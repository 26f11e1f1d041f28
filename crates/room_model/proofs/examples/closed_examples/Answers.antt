use Rattle.std.specs.Prelude.{refl}
use Rattle.room_model.specs.ComputedDefinitions.{machine}
use Rattle.room_model.proofs.examples.closed_examples.Goals as goal

pub returns : goal.returns
unfolding machine
returns c = record {
  closed_and_merged_ones_are_found = refl;
  an_active_one_is_not_found = refl;
  another_division_finds_none = refl;
  what_was_opened_at_the_end_is_not_found = refl;
  the_first_vehicle_was_sent_to_the_first = refl;
  the_second_vehicle_was_sent_to_the_second = refl;
  another_vehicle_was_sent_to_none = refl;
  a_metre_less_than_its_distance_misses_it = refl;
  its_distance_finds_it = refl;
  a_page_begins_at_its_number = refl;
  a_page_has_a_hundred = refl;
  the_next_page_begins_with_what_follows = refl;
  nothing_follows_the_last_page = refl;
  times_are_shown_by_class = refl;
}
