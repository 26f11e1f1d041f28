use Rattle.std.specs.Prelude.{refl}
use Rattle.room_model.specs.ComputedDefinitions.{machine}
use Rattle.room_model.proofs.examples.call_examples.Goals as goal

pub returns : goal.returns
unfolding machine
returns c = record {
  a_call_makes_an_incident = refl;
  a_repeated_call_is_answered_alike = refl;
  a_repeated_call_changes_nothing = refl;
  a_serial_with_another_note_is_refused = refl;
  a_call_200_m_off_links = refl;
  a_call_201_m_off_makes_an_incident = refl;
  a_call_901_s_later_makes_an_incident = refl;
  a_call_outside_all_areas_is_refused = refl;
  the_nearer_incident_is_linked = refl;
  of_two_equally_near_the_lower_number_is_linked = refl;
  a_closed_incident_is_not_linked = refl;
  a_linked_call_gives_class_needs_and_opening = refl;
  each_division_counts_its_own_incidents = refl;
  without_a_number_left_a_call_is_refused = refl;
  without_a_number_left_a_call_still_links = refl;
  a_call_of_a_merged_incident_is_answered_as_first = refl;
}
