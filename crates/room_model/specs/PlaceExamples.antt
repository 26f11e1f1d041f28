-- Places: what references are read as, distances, and whose area has a place.
use Rattle.std.specs.Prelude.{Err, None, Ok, Some, [], codes, ◌∷◌, ◌≡◌}
use Rattle.room_place.specs.Places.{distance}
use Rattle.room_place.specs.Plans.{division_of, plan_fault}
use Rattle.room_place.specs.References.{parse}
use Rattle.room_place.specs.declared.places.PlaceFault.TheVariants as fault
use Rattle.room_place.specs.declared.plans.PlanFault.TheVariants as plan
use Rattle.room_model.specs.ExampleRoom.{area, example_room}
use Rattle.room_model.specs.StepWords.{place}

pub record PlaceExamples : Type 0 where
  pub six_digits_name_100_m : parse (codes "TQ300800")
      ≡ Ok (record { east = 530000; north = 180000 })
  pub eight_digits_name_10_m : parse (codes "SP12345678")
      ≡ Ok (record { east = 412340; north = 256780 })
  pub ten_digits_name_a_metre : parse (codes "TL3020180000")
      ≡ Ok (record { east = 530201; north = 280000 })
  pub the_fourth_square_is_read : parse (codes "SU000000")
      ≡ Ok (record { east = 400000; north = 100000 })
  pub a_space_may_stand_before_each_half : parse (codes "TQ 303 804")
      ≡ Ok (record { east = 530300; north = 180400 })
  pub two_digits_are_too_few : parse (codes "TQ30") ≡ Err fault.Length
  pub no_digit_is_too_few : parse (codes "TQ") ≡ Err fault.Length
  pub seven_digits_are_refused : parse (codes "TQ3008001") ≡ Err fault.Length
  pub another_square_is_refused : parse (codes "TX300800") ≡ Err fault.Square
  pub no_text_names_a_square : parse [] ≡ Err fault.Square
  pub small_letters_name_no_square : parse (codes "tq300800") ≡ Err fault.Square
  pub a_letter_among_digits_is_refused : parse (codes "TQ30A800") ≡ Err fault.Digit
  pub two_spaces_are_refused : parse (codes "TQ  300 800") ≡ Err fault.Spacing
  pub a_space_within_a_half_is_refused : parse (codes "TQ30 0800") ≡ Err fault.Spacing
  pub a_space_at_the_end_is_refused : parse (codes "TQ300800 ") ≡ Err fault.Spacing
  pub a_letter_comes_before_a_count : parse (codes "TQ3A") ≡ Err fault.Digit
  pub three_four_five_is_500_m : distance (place "TQ300800") (place "TQ 303 804") ≡ 500
  pub distances_are_rounded_down : distance (place "TQ301801") (place "TQ300800") ≡ 141
  pub the_squares_are_282841_m_across : distance (record { east = 400000; north = 100000 })
      (record { east = 599999; north = 299999 }) ≡ 282841
  pub the_lowest_of_two_divisions_has_the_place : division_of
      (area 2 500000 100000 549999 199999 ∷ area 1 520000 100000 599999 199999 ∷ [])
      (place "TQ300800") ≡ Some 1
  pub the_east_edge_belongs_to_an_area : division_of example_room.plan (place "TQ4999980000")
      ≡ Some 1
  pub the_next_metre_is_of_the_next_area : division_of example_room.plan (place "TQ5000080000")
      ≡ Some 2
  pub a_place_may_be_in_no_division : division_of example_room.plan (place "TL300800") ≡ None
  pub a_plan_has_an_area : plan_fault [] (codes "GMT0") ≡ Some plan.Count
  pub a_rectangle_is_not_turned_round : plan_fault (area 1 549999 100000 500000 199999 ∷ [])
      (codes "GMT0") ≡ Some plan.Rectangle
  pub a_division_is_at_most_9 : plan_fault (area 10 500000 100000 549999 199999 ∷ [])
      (codes "GMT0") ≡ Some plan.Number
  pub a_zone_has_a_byte : plan_fault example_room.plan [] ≡ Some plan.Zone
  pub the_example_room_has_a_plan : plan_fault example_room.plan (codes "GMT0BST,M3.5.0/1,M10.5.0")
      ≡ None
