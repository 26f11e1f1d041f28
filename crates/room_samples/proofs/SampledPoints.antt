-- Sampled steps: standby points and posts. A program that is independent of this repository,
-- written from the rules in words, made them in random runs; of each kind of step it kept those
-- with the fewest rows.
use Rattle.std.specs.Prelude.{Err, None, Ok, Some, [], codes, false, refl, true, ◌∷◌}
use Rattle.room_types.specs.declared.answers.Answer.TheVariants as answer
use Rattle.room_types.specs.declared.asks.Ask.TheVariants as ask
use Rattle.room_types.specs.declared.asks.Who.TheVariants.{Desk}
use Rattle.room_types.specs.declared.codes.Button.TheVariants as button
use Rattle.room_types.specs.declared.codes.Kind.TheVariants.{Ambulance, Car, Support}
use Rattle.room_types.specs.declared.codes.Outcome.TheVariants.{Late, Normal, Skipped, Wrong}
use Rattle.room_types.specs.declared.codes.State.TheVariants.{Active}
use Rattle.room_types.specs.declared.codes.Status.TheVariants.{AtHospital, AtScene, Available}
use Rattle.room_types.specs.declared.codes.Status.TheVariants.{Leaving, Mobilised, OffDuty, Offered}
use Rattle.room_types.specs.declared.codes.Status.TheVariants.{Returning}
use Rattle.room_types.specs.declared.refusal_statuses.Refusal.TheVariants as refusal
use Rattle.room_model.specs.Room.{Room}
use Rattle.room_model.specs.ComputedDefinitions.{machine}
use Rattle.room_samples.specs.ExampleRows.{assignment, call, division, grid, incident, loan, offer}
use Rattle.room_samples.specs.ExampleRows.{point, point_line, report, turn, vehicle}
use Rattle.room_samples.specs.SampledRooms.{A1, A2, A3, B1, B2, overlapping_divisions}
use Rattle.room_samples.specs.SampledRooms.{two_divisions}
use Rattle.room_samples.specs.SampledSteps.{Steps}
use Rattle.room_model.specs.StepWords.{at, needs}

abbrev before_points_0 : Room
before_points_0 = record {
  plan = overlapping_divisions;
  divisions = (division 1 0) ∷ (division 7 0) ∷ [];
  incidents = [];
  calls = [];
  vehicles =
      (vehicle A1 7 7 Car (grid 531000 180000) OffDuty 0 None 0 0)
      ∷ (vehicle A2 7 7 Ambulance (grid 530300 180400) Available 2000 None 0 0) ∷ [];
  turns = [];
  assignments = [];
  points = [];
  loans = [];
  offers = [];
  reports = [];
}

points_0 : Steps (at 1272 (Desk 1) ask.Points) before_points_0
    (Ok (answer.Points ([]))) before_points_0
unfolding machine
points_0 = (refl, refl)

abbrev before_points_1 : Room
before_points_1 = record {
  plan = two_divisions;
  divisions = (division 1 0) ∷ (division 2 0) ∷ [];
  incidents = [];
  calls = [];
  vehicles =
      (vehicle A1 1 1 Support (grid 530201 180000) Available 2000 None 0 0)
      ∷ (vehicle A2 2 2 Ambulance (grid 560000 180000) OffDuty 0 None 0 0) ∷ [];
  turns = [];
  assignments = [];
  points = (point 1 1 (grid 530100 180000) 1) ∷ [];
  loans = [];
  offers = [];
  reports = [];
}

points_1 : Steps (at 2001 (Desk 1) ask.Points) before_points_1
    (Ok (answer.Points ((point_line 1 (grid 530100 180000) 1 0) ∷ []))) before_points_1
unfolding machine
points_1 = (refl, refl)

abbrev before_points_1_2 : Room
before_points_1_2 = record {
  plan = overlapping_divisions;
  divisions = (division 1 0) ∷ (division 7 0) ∷ [];
  incidents = [];
  calls = [];
  vehicles =
      (vehicle A1 7 7 Ambulance (grid 560000 180000) OffDuty 0 None 0 2)
      ∷ (vehicle A2 1 1 Ambulance (grid 530200 180000) Available 5000 None 0 0) ∷ [];
  turns = [];
  assignments = [];
  points = (point 7 2 (grid 530120 180160) 0) ∷ [];
  loans = [];
  offers = [];
  reports = (report A1 2 button.Home 0 (grid 530100 180000) 1035 7 Wrong OffDuty false) ∷ [];
}

points_1_2 : Steps (at 1065 (Desk 7) ask.Points) before_points_1_2
    (Ok (answer.Points ((point_line 2 (grid 530120 180160) 0 0) ∷ []))) before_points_1_2
unfolding machine
points_1_2 = (refl, refl)

abbrev before_points_1_3 : Room
before_points_1_3 = record {
  plan = overlapping_divisions;
  divisions = (division 1 1) ∷ (division 7 3) ∷ [];
  incidents = (incident 1 1 (grid 560000 180000) 2 (needs 1 0 0) 1421 None Active) ∷ [];
  calls = (call 1 5 1 1 1 false (grid 560000 180000) 2 (needs 1 0 0) [] 1421) ∷ [];
  vehicles =
      (vehicle A1 1 1 Ambulance (grid 530100 180100) Available 2000 None 0 1)
      ∷ (vehicle A2 1 1 Ambulance (grid 531000 180000) OffDuty 0 None 0 0)
      ∷ (vehicle A3 7 7 Car (grid 560200 180000) Available 40000 None 2147483647 0)
      ∷ (vehicle B1 1 1 Car (grid 560100 180000) Available 40000 (Some 1) 0 0)
      ∷ (vehicle B2 1 1 Ambulance (grid 560000 180000) OffDuty 0 None 0 1) ∷ [];
  turns = [];
  assignments = [];
  points = (point 1 1 (grid 530300 180400) 0) ∷ [];
  loans = [];
  offers = [];
  reports =
      (report A1 1 button.Return 0 (grid 530300 180400) 2323 1 Wrong Available false)
      ∷ (report B2 1 button.Mobile 0 (grid 531000 180000) 2624 1 Wrong OffDuty false) ∷ [];
}

points_1_3 : Steps (at 2805 (Desk 1) ask.Points) before_points_1_3
    (Ok (answer.Points ((point_line 1 (grid 530300 180400) 0 1) ∷ []))) before_points_1_3
unfolding machine
points_1_3 = (refl, refl)

abbrev before_points_2 : Room
before_points_2 = record {
  plan = two_divisions;
  divisions = (division 1 0) ∷ (division 2 3) ∷ [];
  incidents = [];
  calls = [];
  vehicles =
      (vehicle A1 1 1 Ambulance (grid 530100 180100) OffDuty 0 None 0 1)
      ∷ (vehicle A2 2 2 Support (grid 530201 180000) Available 42210 None 0 0)
      ∷ (vehicle A3 1 1 Car (grid 530000 180000) OffDuty 0 None 0 1) ∷ [];
  turns = [];
  assignments = [];
  points = (point 2 1 (grid 530201 180000) 2) ∷ (point 2 2 (grid 531000 180000) 2) ∷ [];
  loans = [];
  offers = [];
  reports =
      (report A1 1 button.Position 0 (grid 530100 180100) 1120 1 Wrong OffDuty false)
      ∷ (report A3 1 button.Mobile 0 (grid 530300 180400) 1667 1 Wrong OffDuty false) ∷ [];
}

points_2 : Steps (at 2372 (Desk 2) ask.Points) before_points_2
    (Ok (answer.Points ((point_line 1 (grid 530201 180000) 2 0)
    ∷ (point_line 2 (grid 531000 180000) 2 0) ∷ []))) before_points_2
unfolding machine
points_2 = (refl, refl)

abbrev before_points_2_2 : Room
before_points_2_2 = record {
  plan = two_divisions;
  divisions = (division 1 3) ∷ (division 2 0) ∷ [];
  incidents = [];
  calls = [];
  vehicles =
      (vehicle A1 2 2 Car (grid 530120 180160) Offered 5000 None 0 1)
      ∷ (vehicle A2 1 1 Ambulance (grid 530200 180000) Available 3203 None 0 2)
      ∷ (vehicle A3 1 2 Ambulance (grid 530201 180000) OffDuty 2000 None 0 1) ∷ [];
  turns = [];
  assignments = [];
  points = (point 2 1 (grid 530120 180160) 0) ∷ (point 2 2 (grid 531000 180000) 1) ∷ [];
  loans = (loan A3 1 2 5000 1080 false) ∷ [];
  offers = (offer A1 2 1 2673 3673) ∷ [];
  reports =
      (report A1 1 button.Position 0 (grid 530120 180160) 2693 2 Normal Available false)
      ∷ (report A2 2 button.Scene 0 (grid 530100 180100) 1286 1 Wrong Available true)
      ∷ (report A3 1 button.Position 0 (grid 530201 180000) 1748 1 Normal Offered false) ∷ [];
}

points_2_2 : Steps (at 3825 (Desk 2) ask.Points) before_points_2_2
    (Ok (answer.Points ((point_line 1 (grid 530120 180160) 0 0)
    ∷ (point_line 2 (grid 531000 180000) 1 0) ∷ []))) before_points_2_2
unfolding machine
points_2_2 = (refl, refl)

abbrev before_points_2_3 : Room
before_points_2_3 = record {
  plan = two_divisions;
  divisions = (division 1 1) ∷ (division 2 0) ∷ [];
  incidents = (incident 1 1 (grid 530120 180160) 3 (needs 1 1 0) 2768 None Active) ∷ [];
  calls = (call 2 2 1 1 1 false (grid 530120 180160) 3 (needs 0 1 0) [] 2768) ∷ [];
  vehicles =
      (vehicle A1 2 2 Ambulance (grid 530200 180000) Offered 5000 None 0 3)
      ∷ (vehicle A2 1 1 Ambulance (grid 530120 180160) Available 40000 None 0 2)
      ∷ (vehicle A3 1 1 Ambulance (grid 560200 180000) OffDuty 0 None 0 2)
      ∷ (vehicle B1 2 2 Support (grid 560100 180000) OffDuty 0 None 0 0) ∷ [];
  turns = [];
  assignments = [];
  points = (point 1 1 (grid 530000 180000) 0) ∷ (point 1 2 (grid 530100 180000) 0) ∷ [];
  loans = [];
  offers = (offer A1 2 1 2505 2505) ∷ [];
  reports =
      (report A1 1 button.Mobile 0 (grid 530201 180000) 2485 2 Wrong Offered false)
      ∷ (report A1 2 button.Mobile 0 (grid 530100 180000) 2605 2 Wrong Offered true)
      ∷ (report A1 3 button.Home 0 (grid 530200 180000) 2957 2 Normal Offered false)
      ∷ (report A2 1 button.Position 0 (grid 530100 180100) 1843 1 Normal Available false)
      ∷ (report A2 2 button.Home 0 (grid 530120 180160) 2606 1 Normal Available false)
      ∷ (report A3 1 button.Leave 0 (grid 530300 180400) 2957 1 Wrong OffDuty false)
      ∷ (report A3 2 button.Leave 0 (grid 531000 180000) 2962 1 Wrong OffDuty false) ∷ [];
}

points_2_3 : Steps (at 3143 (Desk 1) ask.Points) before_points_2_3
    (Ok (answer.Points ((point_line 1 (grid 530000 180000) 0 0)
    ∷ (point_line 2 (grid 530100 180000) 0 0) ∷ []))) before_points_2_3
unfolding machine
points_2_3 = (refl, refl)

abbrev before_points_2_4 : Room
before_points_2_4 = record {
  plan = overlapping_divisions;
  divisions = (division 1 1) ∷ (division 7 1) ∷ [];
  incidents =
      (incident 1 1 (grid 530100 180000) 2 (needs 2 0 0) 1752 None Active)
      ∷ (incident 7 1 (grid 530000 180000) 1 (needs 0 1 0) 1090 None Active) ∷ [];
  calls =
      (call 1 3 1 1 1 true (grid 530100 180000) 2 (needs 1 0 0) [] 2024)
      ∷ (call 1 6 7 1 1 false (grid 530000 180000) 1 (needs 0 1 0) [] 1090)
      ∷ (call 2 5 1 1 1 false (grid 530100 180000) 3 (needs 2 0 0) (codes "x") 1752)
      ∷ (call 2 6 7 1 1 true (grid 530000 180000) 3 (needs 2 1 1) [] 1251) ∷ [];
  vehicles =
      (vehicle A1 1 1 Ambulance (grid 530100 180100) Available 41692 (Some 1) 0 0)
      ∷ (vehicle A2 1 7 Support (grid 530100 180100) Available 2000 None 0 3)
      ∷ (vehicle A3 7 7 Ambulance (grid 530100 180000) Available 2000 None 0 1) ∷ [];
  turns = [];
  assignments = [];
  points = (point 1 1 (grid 530100 180100) 0) ∷ (point 1 2 (grid 530000 180000) 0) ∷ [];
  loans = (loan A2 1 7 1782 1085 false) ∷ [];
  offers = [];
  reports =
      (report A2 1 button.Home 0 (grid 531000 180000) 2144 7 Late Available false)
      ∷ (report A2 2 button.Mobile 0 (grid 530100 180100) 980 1 Wrong Available false)
      ∷ (report A2 3 button.Scene 0 (grid 530100 180100) 1085 7 Wrong Available false)
      ∷ (report A3 1 button.Hospital 0 (grid 530000 180000) 1843 7 Wrong Available false) ∷ [];
}

points_2_4 : Steps (at 2667 (Desk 1) ask.Points) before_points_2_4
    (Ok (answer.Points ((point_line 1 (grid 530100 180100) 0 1)
    ∷ (point_line 2 (grid 530000 180000) 0 0) ∷ []))) before_points_2_4
unfolding machine
points_2_4 = (refl, refl)

abbrev before_set_point : Room
before_set_point = record {
  plan = two_divisions;
  divisions = (division 1 3) ∷ (division 2 0) ∷ [];
  incidents = [];
  calls = [];
  vehicles =
      (vehicle A1 2 2 Support (grid 530300 180400) Available 40000 None 0 0)
      ∷ (vehicle A2 1 1 Support (grid 530100 180100) Available 40000 None 2147483647 0) ∷ [];
  turns = [];
  assignments = [];
  points = [];
  loans = [];
  offers = [];
  reports = [];
}

set_point : Steps (at 1125 (Desk 1) (ask.SetPoint 2 (grid 531000 180000) 2)) before_set_point
    (Ok answer.Done) (record before_set_point { points = (point 1 2 (grid 531000 180000) 2) ∷ [] })
unfolding machine
set_point = (refl, refl)

abbrev before_set_point_2 : Room
before_set_point_2 = record {
  plan = two_divisions;
  divisions = (division 1 0) ∷ (division 2 0) ∷ [];
  incidents = [];
  calls = [];
  vehicles =
      (vehicle A1 2 2 Ambulance (grid 530100 180100) OffDuty 0 None 0 0)
      ∷ (vehicle A2 2 2 Ambulance (grid 530120 180160) Available 40000 None 0 0) ∷ [];
  turns = [];
  assignments = [];
  points = (point 2 1 (grid 530120 180160) 1) ∷ [];
  loans = [];
  offers = [];
  reports = [];
}

set_point_2 : Steps (at 2359 (Desk 2) (ask.SetPoint 1 (grid 530200 180000) 1)) before_set_point_2
    (Ok answer.Done) (record before_set_point_2
    { points = (point 2 1 (grid 530200 180000) 1) ∷ [] })
unfolding machine
set_point_2 = (refl, refl)

abbrev before_standby : Room
before_standby = record {
  plan = overlapping_divisions;
  divisions = (division 1 3) ∷ (division 7 0) ∷ [];
  incidents = [];
  calls = [];
  vehicles =
      (vehicle A1 1 1 Ambulance (grid 560200 180000) OffDuty 0 None 0 0)
      ∷ (vehicle A2 7 7 Car (grid 560000 180000) Available 2000 None 0 0) ∷ [];
  turns = [];
  assignments = [];
  points = [];
  loans = [];
  offers = [];
  reports = [];
}

standby : Steps (at 1301 (Desk 7) (ask.Standby A2 None)) before_standby
    (Ok answer.Done) before_standby
unfolding machine
standby = (refl, refl)

abbrev before_standby_2 : Room
before_standby_2 = record {
  plan = overlapping_divisions;
  divisions = (division 1 2147483647) ∷ (division 7 2147483646) ∷ [];
  incidents = [];
  calls = [];
  vehicles =
      (vehicle A1 7 7 Ambulance (grid 530100 180100) Available 40000 None 0 2)
      ∷ (vehicle A2 1 1 Ambulance (grid 531000 180000) Available 5105 (Some 2) 0 1)
      ∷ (vehicle A3 7 7 Ambulance (grid 530000 180000) Available 2000 None 0 0) ∷ [];
  turns = [];
  assignments = [];
  points = (point 1 2 (grid 530200 180000) 1) ∷ [];
  loans = [];
  offers = [];
  reports =
      (report A1 1 button.Position 0 (grid 530100 180100) 1120 7 Normal Available false)
      ∷ (report A1 2 button.Mobile 0 (grid 530120 180160) 2600 7 Wrong Available true)
      ∷ (report A2 1 button.Hospital 0 (grid 530201 180000) 3262 1 Wrong Available false) ∷ [];
}

standby_2 : Steps (at 3292 (Desk 1) (ask.Standby A2 None)) before_standby_2 (Ok answer.Done)
    (record before_standby_2 {
      vehicles =
          (vehicle A1 7 7 Ambulance (grid 530100 180100) Available 40000 None 0 2)
          ∷ (vehicle A2 1 1 Ambulance (grid 531000 180000) Available 5105 None 0 1)
          ∷ (vehicle A3 7 7 Ambulance (grid 530000 180000) Available 2000 None 0 0) ∷ [];
    })
unfolding machine
standby_2 = (refl, refl)

abbrev before_standby_3 : Room
before_standby_3 = record {
  plan = two_divisions;
  divisions = (division 1 1) ∷ (division 2 0) ∷ [];
  incidents = (incident 1 1 (grid 530000 180000) 2 (needs 1 0 0) 1061 (Some 1243) Active) ∷ [];
  calls =
      (call 1 2 1 1 1 true (grid 530200 180000) 2 (needs 1 0 0) [] 1286)
      ∷ (call 1 5 1 1 1 false (grid 530000 180000) 2 (needs 1 0 0) [] 1061) ∷ [];
  vehicles =
      (vehicle A1 2 2 Ambulance (grid 560100 180000) OffDuty 0 None 0 1)
      ∷ (vehicle A2 1 1 Ambulance (grid 530200 180000) Returning 2000 None 1 1) ∷ [];
  turns = (turn A2 1 1 1 Ambulance 1243 None None None None (Some 1244) false) ∷ [];
  assignments = [];
  points = [];
  loans = [];
  offers = [];
  reports =
      (report A1 1 button.Leave 0 (grid 530201 180000) 1243 2 Wrong OffDuty false)
      ∷ (report A2 1 button.Return 1 (grid 530200 180000) 1244 1 Skipped Returning false) ∷ [];
}

standby_3 : Steps (at 2001 (Desk 1) (ask.Standby A2 None)) before_standby_3
    (Ok answer.Done) before_standby_3
unfolding machine
standby_3 = (refl, refl)

abbrev before_standby_4 : Room
before_standby_4 = record {
  plan = two_divisions;
  divisions = (division 1 2) ∷ (division 2 1) ∷ [];
  incidents =
      (incident 1 1 (grid 531000 180000) 1 (needs 1 0 0) 1511 None Active)
      ∷ (incident 1 2 (grid 530100 180000) 2 (needs 1 1 1) 2536 (Some 2602) Active)
      ∷ (incident 2 1 (grid 560000 180000) 3 (needs 1 0 0) 2716 None Active) ∷ [];
  calls =
      (call 1 3 1 1 1 false (grid 531000 180000) 1 (needs 1 0 0) (codes "x") 1511)
      ∷ (call 1 5 1 2 2 true (grid 530201 180000) 2 (needs 0 0 1) [] 3301)
      ∷ (call 1 6 2 1 1 false (grid 560000 180000) 3 (needs 1 0 0) [] 2716)
      ∷ (call 2 2 1 2 2 false (grid 530100 180000) 3 (needs 1 1 0) (codes "x") 2536) ∷ [];
  vehicles =
      (vehicle A1 1 1 Ambulance (grid 530300 180400) Returning 40000 (Some 1) 1 4)
      ∷ (vehicle A2 2 2 Support (grid 531000 180000) OffDuty 0 None 0 3) ∷ [];
  turns = (turn A1 1 1 2 Ambulance 2602 None None None None (Some 2783) false) ∷ [];
  assignments = [];
  points = (point 1 1 (grid 530000 180000) 2) ∷ [];
  loans = [];
  offers = [];
  reports =
      (report A1 1 button.Mobile 0 (grid 530100 180000) 1633 1 Late Available false)
      ∷ (report A1 2 button.Home 0 (grid 530201 180000) 1512 1 Normal Available false)
      ∷ (report A1 3 button.Scene 0 (grid 530300 180400) 2541 1 Wrong Available false)
      ∷ (report A1 4 button.Return 1 (grid 530300 180400) 2783 1 Skipped Returning false)
      ∷ (report A2 1 button.Return 0 (grid 531000 180000) 2416 2 Wrong OffDuty false)
      ∷ (report A2 3 button.Return 0 (grid 530120 180160) 3146 2 Wrong OffDuty false) ∷ [];
}

standby_4 : Steps (at 3362 (Desk 1) (ask.Standby A1 (Some 1))) before_standby_4
    (Ok answer.Done) before_standby_4
unfolding machine
standby_4 = (refl, refl)

abbrev before_standby_no_such_point : Room
before_standby_no_such_point = record {
  plan = overlapping_divisions;
  divisions = (division 1 0) ∷ (division 7 3) ∷ [];
  incidents = [];
  calls = [];
  vehicles =
      (vehicle A1 1 1 Car (grid 560200 180000) Available 40000 None 0 0)
      ∷ (vehicle A2 7 7 Ambulance (grid 530201 180000) Available 2000 None 0 0) ∷ [];
  turns = [];
  assignments = [];
  points = [];
  loans = [];
  offers = [];
  reports = [];
}

standby_no_such_point : Steps (at 1481 (Desk 7) (ask.Standby A2 (Some 2)))
    before_standby_no_such_point (Err refusal.NoSuchPoint) before_standby_no_such_point
unfolding machine
standby_no_such_point = (refl, refl)

abbrev before_standby_no_such_vehicle : Room
before_standby_no_such_vehicle = record {
  plan = overlapping_divisions;
  divisions = (division 1 0) ∷ (division 7 0) ∷ [];
  incidents = [];
  calls = [];
  vehicles =
      (vehicle A1 1 1 Car (grid 530200 180000) Available 5000 None 2147483647 0)
      ∷ (vehicle A2 1 1 Ambulance (grid 530300 180400) Available 5000 None 0 0) ∷ [];
  turns = [];
  assignments = [];
  points = [];
  loans = [];
  offers = [];
  reports = [];
}

standby_no_such_vehicle : Steps (at 1481 (Desk 7) (ask.Standby A1 (Some 2)))
    before_standby_no_such_vehicle (Err refusal.NoSuchVehicle) before_standby_no_such_vehicle
unfolding machine
standby_no_such_vehicle = (refl, refl)

abbrev before_standby_shift_over : Room
before_standby_shift_over = record {
  plan = two_divisions;
  divisions = (division 1 0) ∷ (division 2 0) ∷ [];
  incidents = [];
  calls = [];
  vehicles =
      (vehicle A1 2 2 Ambulance (grid 530000 180000) Available 40000 None 0 0)
      ∷ (vehicle A2 1 1 Support (grid 530100 180100) Available 40000 None 0 0) ∷ [];
  turns = [];
  assignments = [];
  points = [];
  loans = [];
  offers = [];
  reports = [];
}

standby_shift_over : Steps (at 40000 (Desk 1) (ask.Standby A2 (Some 2))) before_standby_shift_over
    (Err refusal.ShiftOver) before_standby_shift_over
unfolding machine
standby_shift_over = (refl, refl)

abbrev before_standby_shift_over_2 : Room
before_standby_shift_over_2 = record {
  plan = two_divisions;
  divisions = (division 1 0) ∷ (division 2 3) ∷ [];
  incidents = [];
  calls = [];
  vehicles =
      (vehicle A1 2 2 Car (grid 531000 180000) Available 40000 None 0 0)
      ∷ (vehicle A2 2 2 Ambulance (grid 530100 180000) Available 981 None 0 0) ∷ [];
  turns = [];
  assignments = [];
  points = [];
  loans = [];
  offers = [];
  reports = [];
}

standby_shift_over_2 : Steps (at 981 (Desk 2) (ask.Standby A2 (Some 2)))
    before_standby_shift_over_2 (Err refusal.ShiftOver) before_standby_shift_over_2
unfolding machine
standby_shift_over_2 = (refl, refl)

abbrev before_standby_shift_over_3 : Room
before_standby_shift_over_3 = record {
  plan = two_divisions;
  divisions = (division 1 3) ∷ (division 2 0) ∷ [];
  incidents = [];
  calls = [];
  vehicles =
      (vehicle A1 1 1 Ambulance (grid 560200 180000) Available 2000 None 0 0)
      ∷ (vehicle A2 2 2 Ambulance (grid 530100 180100) Available 2000 None 0 0) ∷ [];
  turns = [];
  assignments = [];
  points = [];
  loans = [];
  offers = [];
  reports = [];
}

standby_shift_over_3 : Steps (at 2001 (Desk 2) (ask.Standby A2 (Some 2)))
    before_standby_shift_over_3 (Err refusal.ShiftOver) before_standby_shift_over_3
unfolding machine
standby_shift_over_3 = (refl, refl)

abbrev before_standby_shift_over_4 : Room
before_standby_shift_over_4 = record {
  plan = two_divisions;
  divisions = (division 1 2147483647) ∷ (division 2 2147483646) ∷ [];
  incidents = [];
  calls = [];
  vehicles =
      (vehicle A1 1 1 Support (grid 530100 180100) Available 40000 None 0 0)
      ∷ (vehicle A2 2 2 Car (grid 560000 180000) Available 5000 None 0 0) ∷ [];
  turns = [];
  assignments = [];
  points = [];
  loans = [];
  offers = [];
  reports = [];
}

standby_shift_over_4 : Steps (at 40000 (Desk 2) (ask.Standby A2 (Some 2)))
    before_standby_shift_over_4 (Err refusal.ShiftOver) before_standby_shift_over_4
unfolding machine
standby_shift_over_4 = (refl, refl)

abbrev before_standby_vehicle_lent : Room
before_standby_vehicle_lent = record {
  plan = two_divisions;
  divisions = (division 1 2147483647) ∷ (division 2 2147483647) ∷ [];
  incidents = [];
  calls = [];
  vehicles =
      (vehicle A1 1 2 Support (grid 530201 180000) Available 40000 None 0 0)
      ∷ (vehicle A2 1 1 Support (grid 530300 180400) Available 40000 None 0 0) ∷ [];
  turns = [];
  assignments = [];
  points = (point 1 2 (grid 530200 180000) 2) ∷ [];
  loans = (loan A1 1 2 1216 1186 false) ∷ [];
  offers = [];
  reports = [];
}

standby_vehicle_lent : Steps (at 1196 (Desk 1) (ask.Standby A1 (Some 2)))
    before_standby_vehicle_lent (Err refusal.VehicleLent) before_standby_vehicle_lent
unfolding machine
standby_vehicle_lent = (refl, refl)

abbrev before_standby_wrong_status : Room
before_standby_wrong_status = record {
  plan = two_divisions;
  divisions = (division 1 0) ∷ (division 2 0) ∷ [];
  incidents = [];
  calls = [];
  vehicles =
      (vehicle A1 2 2 Support (grid 530201 180000) OffDuty 0 None 0 0)
      ∷ (vehicle A2 2 2 Ambulance (grid 530000 180000) OffDuty 0 None 0 0) ∷ [];
  turns = [];
  assignments = [];
  points = [];
  loans = [];
  offers = [];
  reports = [];
}

standby_wrong_status : Steps (at 1010 (Desk 2) (ask.Standby A1 (Some 2)))
    before_standby_wrong_status (Err refusal.WrongStatus) before_standby_wrong_status
unfolding machine
standby_wrong_status = (refl, refl)

abbrev before_standby_wrong_status_2 : Room
before_standby_wrong_status_2 = record {
  plan = two_divisions;
  divisions = (division 1 0) ∷ (division 2 0) ∷ [];
  incidents = [];
  calls = [];
  vehicles =
      (vehicle A1 2 2 Support (grid 530300 180400) OffDuty 0 None 0 2)
      ∷ (vehicle A2 1 1 Ambulance (grid 560100 180000) Offered 40000 None 0 0) ∷ [];
  turns = [];
  assignments = [];
  points = [];
  loans = [];
  offers = (offer A2 1 2 1783 2183) ∷ [];
  reports = (report A1 2 button.Leave 0 (grid 530200 180000) 1481 2 Wrong OffDuty false) ∷ [];
}

standby_wrong_status_2 : Steps (at 40001 (Desk 1) (ask.Standby A2 None))
    before_standby_wrong_status_2 (Err refusal.WrongStatus) before_standby_wrong_status_2
unfolding machine
standby_wrong_status_2 = (refl, refl)

abbrev before_standby_wrong_status_3 : Room
before_standby_wrong_status_3 = record {
  plan = overlapping_divisions;
  divisions = (division 1 2147483647) ∷ (division 7 2147483646) ∷ [];
  incidents = (incident 1 2147483647 (grid 530120 180160) 2 (needs 2 1 1) 961 (Some 1801) Active) ∷ [];
  calls = (call 1 4 1 2147483647 2147483647 false (grid 530120 180160) 2 (needs 2 1 1) (codes "x") 961) ∷ [];
  vehicles =
      (vehicle A1 1 1 Ambulance (grid 530300 180400) Mobilised 5000 None 1 0)
      ∷ (vehicle A2 1 1 Ambulance (grid 530200 180000) OffDuty 0 None 0 0)
      ∷ (vehicle A3 7 7 Ambulance (grid 530120 180160) OffDuty 0 None 0 0) ∷ [];
  turns = (turn A1 1 1 2147483647 Ambulance 1801 None None None None None false) ∷ [];
  assignments = (assignment A1 1 2147483647 1 (grid 530120 180160) 2) ∷ [];
  points = [];
  loans = [];
  offers = [];
  reports = [];
}

standby_wrong_status_3 : Steps (at 1083 (Desk 1) (ask.Standby A1 (Some 2)))
    before_standby_wrong_status_3 (Err refusal.WrongStatus) before_standby_wrong_status_3
unfolding machine
standby_wrong_status_3 = (refl, refl)

abbrev before_standby_wrong_status_4 : Room
before_standby_wrong_status_4 = record {
  plan = two_divisions;
  divisions = (division 1 2) ∷ (division 2 0) ∷ [];
  incidents =
      (incident 1 1 (grid 530120 180160) 1 (needs 1 0 0) 1516 (Some 1697) Active)
      ∷ (incident 1 2 (grid 531000 180000) 3 (needs 1 0 0) 1697 None Active) ∷ [];
  calls =
      (call 1 4 1 2 2 false (grid 531000 180000) 3 (needs 1 0 0) [] 1697)
      ∷ (call 1 5 1 1 1 false (grid 530120 180160) 1 (needs 1 0 0) [] 1516) ∷ [];
  vehicles =
      (vehicle A1 1 1 Ambulance (grid 530200 180000) Leaving 2000 None 1 1)
      ∷ (vehicle A2 2 2 Ambulance (grid 530300 180400) Available 2000 None 0 0)
      ∷ (vehicle A3 2 2 Support (grid 530300 180400) OffDuty 0 None 0 0)
      ∷ (vehicle B1 2 2 Support (grid 530100 180100) OffDuty 0 None 0 0)
      ∷ (vehicle B2 2 2 Ambulance (grid 560100 180000) Available 40000 None 0 0) ∷ [];
  turns = (turn A1 1 1 1 Ambulance 1697 None None (Some 1878) None None false) ∷ [];
  assignments = (assignment A1 1 1 1 (grid 530120 180160) 1) ∷ [];
  points = [];
  loans = [];
  offers = [];
  reports = (report A1 1 button.Leave 1 (grid 530200 180000) 1878 1 Skipped Leaving false) ∷ [];
}

standby_wrong_status_4 : Steps (at 2159 (Desk 1) (ask.Standby A1 (Some 2)))
    before_standby_wrong_status_4 (Err refusal.WrongStatus) before_standby_wrong_status_4
unfolding machine
standby_wrong_status_4 = (refl, refl)

abbrev before_standby_wrong_status_5 : Room
before_standby_wrong_status_5 = record {
  plan = two_divisions;
  divisions = (division 1 3) ∷ (division 2 0) ∷ [];
  incidents =
      (incident 1 1 (grid 531000 180000) 2 (needs 2 0 0) 1581 (Some 1882) Active)
      ∷ (incident 1 2 (grid 530201 180000) 2 (needs 2 1 0) 2481 None Active)
      ∷ (incident 1 3 (grid 530300 180400) 3 (needs 2 1 1) 3194 None Active) ∷ [];
  calls =
      (call 1 1 1 2 2 true (grid 530100 180000) 3 (needs 1 1 0) [] 2773)
      ∷ (call 1 2 1 1 1 false (grid 531000 180000) 2 (needs 2 0 0) [] 1581)
      ∷ (call 2 3 1 2 2 false (grid 530201 180000) 2 (needs 2 0 0) [] 2481)
      ∷ (call 2 5 1 3 3 false (grid 530300 180400) 3 (needs 2 1 1) (codes "x") 3194) ∷ [];
  vehicles =
      (vehicle A1 1 1 Ambulance (grid 530100 180100) AtScene 5000 None 1 1)
      ∷ (vehicle A2 2 2 Car (grid 531000 180000) OffDuty 1620 None 0 0)
      ∷ (vehicle A3 2 2 Car (grid 530000 180000) Available 1620 None 0 1) ∷ [];
  turns = (turn A1 1 1 1 Ambulance 1882 None (Some 2424) None None None false) ∷ [];
  assignments = (assignment A1 1 1 1 (grid 531000 180000) 2) ∷ [];
  points = (point 2 1 (grid 531000 180000) 1) ∷ (point 2 2 (grid 530300 180400) 2) ∷ [];
  loans = [];
  offers = [];
  reports =
      (report A1 1 button.Scene 1 (grid 530100 180100) 2424 1 Skipped AtScene true)
      ∷ (report A3 1 button.Return 0 (grid 530120 180160) 3375 2 Wrong Available false) ∷ [];
}

standby_wrong_status_5 : Steps (at 3676 (Desk 1) (ask.Standby A1 (Some 2)))
    before_standby_wrong_status_5 (Err refusal.WrongStatus) before_standby_wrong_status_5
unfolding machine
standby_wrong_status_5 = (refl, refl)

abbrev before_standby_wrong_status_6 : Room
before_standby_wrong_status_6 = record {
  plan = two_divisions;
  divisions = (division 1 1) ∷ (division 2 3) ∷ [];
  incidents = (incident 1 1 (grid 530100 180000) 1 (needs 2 1 0) 1722 (Some 3882) Active) ∷ [];
  calls =
      (call 1 4 1 1 1 true (grid 530201 180000) 1 (needs 2 0 0) [] 2075)
      ∷ (call 1 5 1 1 1 false (grid 530100 180000) 2 (needs 1 1 0) [] 1722)
      ∷ (call 2 4 1 1 1 true (grid 530200 180000) 2 (needs 1 0 0) (codes "x") 2076) ∷ [];
  vehicles =
      (vehicle A1 2 2 Ambulance (grid 530120 180160) OffDuty 0 None 0 2)
      ∷ (vehicle A2 1 1 Ambulance (grid 530100 180100) AtHospital 5000 None 1 2)
      ∷ (vehicle A3 1 2 Ambulance (grid 530201 180000) Available 5120 None 0 5) ∷ [];
  turns = (turn A2 1 1 1 Ambulance 3882 None None None (Some 3887) None false) ∷ [];
  assignments = (assignment A2 1 1 1 (grid 530100 180000) 1) ∷ [];
  points = [];
  loans = (loan A3 1 2 4012 2477 true) ∷ [];
  offers = [];
  reports =
      (report A1 2 button.Return 0 (grid 530120 180160) 2478 2 Wrong OffDuty false)
      ∷ (report A2 1 button.Home 0 (grid 530201 180000) 1889 1 Normal Available false)
      ∷ (report A2 2 button.Hospital 1 (grid 530100 180100) 3887 1 Skipped AtHospital false)
      ∷ (report A3 2 button.Home 0 (grid 530120 180160) 1757 1 Normal Available false)
      ∷ (report A3 3 button.Leave 0 (grid 531000 180000) 2859 1 Wrong Offered false)
      ∷ (report A3 4 button.Position 0 (grid 530300 180400) 3341 1 Normal Offered false)
      ∷ (report A3 5 button.Home 0 (grid 530201 180000) 3642 1 Normal Offered false) ∷ [];
}

standby_wrong_status_6 : Steps (at 5367 (Desk 1) (ask.Standby A2 None))
    before_standby_wrong_status_6 (Err refusal.WrongStatus) before_standby_wrong_status_6
unfolding machine
standby_wrong_status_6 = (refl, refl)
