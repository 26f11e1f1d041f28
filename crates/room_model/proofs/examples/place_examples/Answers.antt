use Rattle.std.specs.Prelude.{refl}
use Rattle.room_model.specs.ComputedDefinitions.{machine}
use Rattle.room_model.proofs.examples.place_examples.Goals as goal

pub returns : goal.returns
unfolding machine
returns c = record {
  six_digits_name_100_m = refl;
  eight_digits_name_10_m = refl;
  ten_digits_name_a_metre = refl;
  the_fourth_square_is_read = refl;
  a_space_may_stand_before_each_half = refl;
  two_digits_are_too_few = refl;
  no_digit_is_too_few = refl;
  seven_digits_are_refused = refl;
  another_square_is_refused = refl;
  no_text_names_a_square = refl;
  small_letters_name_no_square = refl;
  a_letter_among_digits_is_refused = refl;
  two_spaces_are_refused = refl;
  a_space_within_a_half_is_refused = refl;
  a_space_at_the_end_is_refused = refl;
  a_letter_comes_before_a_count = refl;
  three_four_five_is_500_m = refl;
  distances_are_rounded_down = refl;
  the_squares_are_282841_m_across = refl;
  the_lowest_of_two_divisions_has_the_place = refl;
  the_east_edge_belongs_to_an_area = refl;
  the_next_metre_is_of_the_next_area = refl;
  a_place_may_be_in_no_division = refl;
  a_plan_has_an_area = refl;
  a_rectangle_is_not_turned_round = refl;
  a_division_is_at_most_9 = refl;
  a_zone_has_a_byte = refl;
  the_example_room_has_a_plan = refl;
}
