-- Sampled steps: lists of vehicles, and going on and off duty. A program that is independent of
-- this repository, written from the rules in words, made them in random runs; of each kind of step
-- it kept those with the fewest rows.
use Rattle.std.specs.Prelude.{Err, None, Ok, Some, [], codes, false, refl, true, ◌∷◌}
use Rattle.room_types.specs.declared.answers.Answer.TheVariants as answer
use Rattle.room_types.specs.declared.asks.Ask.TheVariants as ask
use Rattle.room_types.specs.declared.asks.Who.TheVariants.{Desk}
use Rattle.room_types.specs.declared.codes.Button.TheVariants as button
use Rattle.room_types.specs.declared.codes.Kind.TheVariants.{Ambulance, Car, Support}
use Rattle.room_types.specs.declared.codes.Outcome.TheVariants.{Normal, Skipped, Stale, Wrong}
use Rattle.room_types.specs.declared.codes.State.TheVariants.{Active, Closed}
use Rattle.room_types.specs.declared.codes.Status.TheVariants.{AtHospital, AtScene, Available}
use Rattle.room_types.specs.declared.codes.Status.TheVariants.{Leaving, Mobilised, OffDuty, Offered}
use Rattle.room_types.specs.declared.codes.Status.TheVariants.{Returning}
use Rattle.room_types.specs.declared.refusal_statuses.Refusal.TheVariants as refusal
use Rattle.room_model.specs.Room.{Room}
use Rattle.room_model.specs.ComputedDefinitions.{machine}
use Rattle.room_samples.specs.ExampleRows.{assignment, call, division, grid, incident, loan, offer}
use Rattle.room_samples.specs.ExampleRows.{point, report, turn, vehicle, vehicle_line}
use Rattle.room_samples.specs.SampledRooms.{A1, A2, A3, B1, B2, Z9, overlapping_divisions}
use Rattle.room_samples.specs.SampledRooms.{two_divisions}
use Rattle.room_samples.specs.SampledSteps.{Steps}
use Rattle.room_model.specs.StepWords.{at, needs}

abbrev before_duty : Room
before_duty = record {
  plan = two_divisions;
  divisions = (division 1 0) ∷ (division 2 0) ∷ [];
  incidents = [];
  calls = [];
  vehicles =
      (vehicle A1 1 1 Ambulance (grid 530100 180000) OffDuty 0 None 0 0)
      ∷ (vehicle A2 2 2 Ambulance (grid 530201 180000) OffDuty 0 None 0 0) ∷ [];
  turns = [];
  assignments = [];
  points = [];
  loans = [];
  offers = [];
  reports = [];
}

duty : Steps (at 1482 (Desk 1) (ask.Duty A1 (grid 530120 180160) 41482)) before_duty
    (Ok answer.Done) (record before_duty {
      vehicles = (vehicle A1 1 1 Ambulance (grid 530120 180160) Available 41482 None 0 0)
          ∷ (vehicle A2 2 2 Ambulance (grid 530201 180000) OffDuty 0 None 0 0) ∷ [];
    })
unfolding machine
duty = (refl, refl)

abbrev before_duty_no_such_vehicle : Room
before_duty_no_such_vehicle = record {
  plan = overlapping_divisions;
  divisions = (division 1 0) ∷ (division 7 0) ∷ [];
  incidents = [];
  calls = [];
  vehicles =
      (vehicle A1 7 7 Support (grid 530300 180400) OffDuty 0 None 0 0)
      ∷ (vehicle A2 1 1 Ambulance (grid 560100 180000) Available 5000 None 0 0) ∷ [];
  turns = [];
  assignments = [];
  points = [];
  loans = [];
  offers = [];
  reports = [];
}

duty_no_such_vehicle : Steps (at 1005 (Desk 7) (ask.Duty Z9 (grid 530201 180000) 41005))
    before_duty_no_such_vehicle (Err refusal.NoSuchVehicle) before_duty_no_such_vehicle
unfolding machine
duty_no_such_vehicle = (refl, refl)

abbrev before_duty_shift_over : Room
before_duty_shift_over = record {
  plan = overlapping_divisions;
  divisions = (division 1 3) ∷ (division 7 0) ∷ [];
  incidents = [];
  calls = [];
  vehicles =
      (vehicle A1 1 1 Ambulance (grid 530200 180000) OffDuty 0 None 0 0)
      ∷ (vehicle A2 1 1 Ambulance (grid 530000 180000) Available 5000 None 0 0) ∷ [];
  turns = [];
  assignments = [];
  points = [];
  loans = [];
  offers = [];
  reports = [];
}

duty_shift_over : Steps (at 1301 (Desk 1) (ask.Duty A1 (grid 530201 180000) 1301))
    before_duty_shift_over (Err refusal.ShiftOver) before_duty_shift_over
unfolding machine
duty_shift_over = (refl, refl)

abbrev before_duty_shift_over_2 : Room
before_duty_shift_over_2 = record {
  plan = two_divisions;
  divisions = (division 1 3) ∷ (division 2 3) ∷ [];
  incidents = [];
  calls = [];
  vehicles =
      (vehicle A1 2 2 Ambulance (grid 531000 180000) OffDuty 0 None 0 0)
      ∷ (vehicle A2 1 1 Ambulance (grid 530120 180160) OffDuty 0 None 0 0) ∷ [];
  turns = [];
  assignments = [];
  points = [];
  loans = [];
  offers = [];
  reports = [];
}

duty_shift_over_2 : Steps (at 1031 (Desk 1) (ask.Duty A2 (grid 531000 180000) 1031))
    before_duty_shift_over_2 (Err refusal.ShiftOver) before_duty_shift_over_2
unfolding machine
duty_shift_over_2 = (refl, refl)

abbrev before_duty_shift_over_3 : Room
before_duty_shift_over_3 = record {
  plan = two_divisions;
  divisions = (division 1 3) ∷ (division 2 0) ∷ [];
  incidents = [];
  calls = [];
  vehicles =
      (vehicle A1 1 1 Ambulance (grid 530120 180160) OffDuty 0 None 0 0)
      ∷ (vehicle A2 1 1 Car (grid 530100 180100) OffDuty 0 None 0 0) ∷ [];
  turns = [];
  assignments = [];
  points = [];
  loans = [];
  offers = [];
  reports = [];
}

duty_shift_over_3 : Steps (at 980 (Desk 1) (ask.Duty A1 (grid 530120 180160) 980))
    before_duty_shift_over_3 (Err refusal.ShiftOver) before_duty_shift_over_3
unfolding machine
duty_shift_over_3 = (refl, refl)

abbrev before_duty_shift_over_4 : Room
before_duty_shift_over_4 = record {
  plan = two_divisions;
  divisions = (division 1 0) ∷ (division 2 3) ∷ [];
  incidents = [];
  calls = [];
  vehicles =
      (vehicle A1 2 2 Car (grid 560200 180000) OffDuty 0 None 0 0)
      ∷ (vehicle A2 2 2 Car (grid 560000 180000) OffDuty 0 None 0 0) ∷ [];
  turns = [];
  assignments = [];
  points = [];
  loans = [];
  offers = [];
  reports = [];
}

duty_shift_over_4 : Steps (at 1392 (Desk 2) (ask.Duty A1 (grid 531000 180000) 1392))
    before_duty_shift_over_4 (Err refusal.ShiftOver) before_duty_shift_over_4
unfolding machine
duty_shift_over_4 = (refl, refl)

abbrev before_duty_vehicle_lent : Room
before_duty_vehicle_lent = record {
  plan = overlapping_divisions;
  divisions = (division 1 3) ∷ (division 7 0) ∷ [];
  incidents = [];
  calls = [];
  vehicles =
      (vehicle A1 7 7 Ambulance (grid 530300 180400) Available 5000 None 0 2)
      ∷ (vehicle A2 1 7 Ambulance (grid 530201 180000) Available 5000 None 0 1) ∷ [];
  turns = [];
  assignments = [];
  points = [];
  loans = (loan A2 1 7 1642 980 false) ∷ [];
  offers = [];
  reports =
      (report A1 2 button.Home 0 (grid 530300 180400) 1161 7 Normal Available false)
      ∷ (report A2 1 button.Mobile 0 (grid 530100 180100) 1100 1 Wrong Offered false) ∷ [];
}

duty_vehicle_lent : Steps (at 2585 (Desk 1) (ask.Duty A2 (grid 530200 180000) 42585))
    before_duty_vehicle_lent (Err refusal.VehicleLent) before_duty_vehicle_lent
unfolding machine
duty_vehicle_lent = (refl, refl)

abbrev before_duty_wrong_status : Room
before_duty_wrong_status = record {
  plan = two_divisions;
  divisions = (division 1 0) ∷ (division 2 0) ∷ [];
  incidents = [];
  calls = [];
  vehicles =
      (vehicle A1 1 1 Ambulance (grid 530200 180000) Available 5000 None 0 0)
      ∷ (vehicle A2 2 2 Car (grid 531000 180000) Available 40000 None 0 0) ∷ [];
  turns = [];
  assignments = [];
  points = [];
  loans = [];
  offers = [];
  reports = [];
}

duty_wrong_status : Steps (at 1030 (Desk 2) (ask.Duty A2 (grid 530000 180000) 1030))
    before_duty_wrong_status (Err refusal.WrongStatus) before_duty_wrong_status
unfolding machine
duty_wrong_status = (refl, refl)

abbrev before_duty_wrong_status_2 : Room
before_duty_wrong_status_2 = record {
  plan = overlapping_divisions;
  divisions = (division 1 0) ∷ (division 7 0) ∷ [];
  incidents = [];
  calls = [];
  vehicles =
      (vehicle A1 7 7 Car (grid 560200 180000) Offered 40000 None 0 0)
      ∷ (vehicle A2 1 1 Support (grid 530120 180160) Available 5000 None 0 0) ∷ [];
  turns = [];
  assignments = [];
  points = [];
  loans = [];
  offers = (offer A1 7 1 1061 1161) ∷ [];
  reports = [];
}

duty_wrong_status_2 : Steps (at 1242 (Desk 7) (ask.Duty A1 (grid 530100 180100) 5242))
    before_duty_wrong_status_2 (Err refusal.WrongStatus) before_duty_wrong_status_2
unfolding machine
duty_wrong_status_2 = (refl, refl)

abbrev before_duty_wrong_status_3 : Room
before_duty_wrong_status_3 = record {
  plan = two_divisions;
  divisions = (division 1 2147483647) ∷ (division 2 2147483647) ∷ [];
  incidents = (incident 1 2147483647 (grid 530200 180000) 2 (needs 2 0 0) 1061 (Some 1723) Active) ∷ [];
  calls = (call 2 5 1 2147483647 2147483647 false (grid 530200 180000) 2 (needs 2 0 0) [] 1061) ∷ [];
  vehicles =
      (vehicle A1 2 2 Ambulance (grid 530100 180000) Available 40000 None 0 1)
      ∷ (vehicle A2 2 2 Support (grid 530201 180000) OffDuty 0 None 0 0)
      ∷ (vehicle A3 1 1 Ambulance (grid 530300 180400) Mobilised 40000 None 1 0) ∷ [];
  turns = (turn A3 1 1 2147483647 Ambulance 1723 None None None None None false) ∷ [];
  assignments = (assignment A3 1 2147483647 1 (grid 530200 180000) 2) ∷ [];
  points = (point 1 1 (grid 530120 180160) 0) ∷ [];
  loans = [];
  offers = [];
  reports = (report A1 1 button.Mobile 0 (grid 530201 180000) 1242 2 Wrong Available false) ∷ [];
}

duty_wrong_status_3 : Steps (at 1794 (Desk 1) (ask.Duty A3 (grid 530100 180000) 5794))
    before_duty_wrong_status_3 (Err refusal.WrongStatus) before_duty_wrong_status_3
unfolding machine
duty_wrong_status_3 = (refl, refl)

abbrev before_duty_wrong_status_4 : Room
before_duty_wrong_status_4 = record {
  plan = overlapping_divisions;
  divisions = (division 1 4) ∷ (division 7 3) ∷ [];
  incidents = (incident 1 4 (grid 530200 180000) 2 (needs 1 1 0) 1482 (Some 2445) Active) ∷ [];
  calls = (call 2 1 1 4 4 false (grid 530200 180000) 2 (needs 1 1 0) [] 1482) ∷ [];
  vehicles =
      (vehicle A1 1 1 Ambulance (grid 530100 180000) Returning 5000 None 1 2)
      ∷ (vehicle A2 7 7 Ambulance (grid 530100 180000) OffDuty 0 None 0 0)
      ∷ (vehicle A3 1 1 Ambulance (grid 530100 180100) Available 5000 None 0 0)
      ∷ (vehicle B1 7 7 Ambulance (grid 530201 180000) OffDuty 0 None 0 0) ∷ [];
  turns = (turn A1 1 1 4 Ambulance 2445 None None None (Some 2926) (Some 2927) false) ∷ [];
  assignments = [];
  points = [];
  loans = [];
  offers = [];
  reports =
      (report A1 1 button.Hospital 1 (grid 531000 180000) 2926 1 Skipped AtHospital false)
      ∷ (report A1 2 button.Return 1 (grid 530100 180000) 2927 1 Normal Returning false) ∷ [];
}

duty_wrong_status_4 : Steps (at 3047 (Desk 1) (ask.Duty A1 (grid 531000 180000) 7047))
    before_duty_wrong_status_4 (Err refusal.WrongStatus) before_duty_wrong_status_4
unfolding machine
duty_wrong_status_4 = (refl, refl)

abbrev before_duty_wrong_status_5 : Room
before_duty_wrong_status_5 = record {
  plan = two_divisions;
  divisions = (division 1 5) ∷ (division 2 0) ∷ [];
  incidents =
      (incident 1 4 (grid 531000 180000) 2 (needs 1 0 1) 1120 (Some 1717) Active)
      ∷ (incident 1 5 (grid 530120 180160) 3 (needs 0 1 0) 1316 None Active) ∷ [];
  calls =
      (call 1 2 1 5 5 false (grid 530120 180160) 3 (needs 0 1 0) [] 1316)
      ∷ (call 2 3 1 4 4 true (grid 531000 180000) 3 (needs 1 0 0) [] 2020)
      ∷ (call 2 4 1 4 4 false (grid 531000 180000) 2 (needs 0 0 1) [] 1120) ∷ [];
  vehicles =
      (vehicle A1 1 1 Car (grid 560200 180000) Available 2000 None 0 0)
      ∷ (vehicle A2 1 1 Ambulance (grid 531000 180000) Leaving 5000 None 1 1) ∷ [];
  turns = (turn A2 1 1 4 Ambulance 1717 None None (Some 1752) None None false) ∷ [];
  assignments = (assignment A2 1 4 1 (grid 531000 180000) 2) ∷ [];
  points = [];
  loans = [];
  offers = [];
  reports = (report A2 1 button.Leave 1 (grid 531000 180000) 1752 1 Skipped Leaving false) ∷ [];
}

duty_wrong_status_5 : Steps (at 2053 (Desk 1) (ask.Duty A2 (grid 530100 180100) 6053))
    before_duty_wrong_status_5 (Err refusal.WrongStatus) before_duty_wrong_status_5
unfolding machine
duty_wrong_status_5 = (refl, refl)

abbrev before_duty_wrong_status_6 : Room
before_duty_wrong_status_6 = record {
  plan = two_divisions;
  divisions = (division 1 1) ∷ (division 2 4) ∷ [];
  incidents =
      (incident 1 1 (grid 530000 180000) 2 (needs 0 0 1) 1397 (Some 5298) Active)
      ∷ (incident 2 4 (grid 560100 180000) 3 (needs 1 0 0) 1698 None Active) ∷ [];
  calls =
      (call 2 3 2 4 4 false (grid 560100 180000) 3 (needs 1 0 0) [] 1698)
      ∷ (call 2 4 1 1 1 false (grid 530000 180000) 2 (needs 0 0 1) [] 1397) ∷ [];
  vehicles =
      (vehicle A1 1 1 Ambulance (grid 560000 180000) Available 5000 None 0 0)
      ∷ (vehicle A2 1 1 Ambulance (grid 560100 180000) Available 5000 None 0 0)
      ∷ (vehicle A3 2 2 Support (grid 530000 180000) OffDuty 0 None 0 1)
      ∷ (vehicle B1 1 1 Support (grid 530100 180100) AtScene 40000 None 1 2) ∷ [];
  turns = (turn B1 1 1 1 Support 5298 None (Some 1708) None None None false) ∷ [];
  assignments = (assignment B1 1 1 1 (grid 530000 180000) 2) ∷ [];
  points = [];
  loans = [];
  offers = [];
  reports =
      (report A3 1 button.Home 0 (grid 530300 180400) 1030 2 Wrong OffDuty false)
      ∷ (report B1 2 button.Scene 1 (grid 530100 180100) 1708 1 Skipped AtScene false) ∷ [];
}

duty_wrong_status_6 : Steps (at 1828 (Desk 1) (ask.Duty B1 (grid 530120 180160) 41828))
    before_duty_wrong_status_6 (Err refusal.WrongStatus) before_duty_wrong_status_6
unfolding machine
duty_wrong_status_6 = (refl, refl)

abbrev before_duty_wrong_status_7 : Room
before_duty_wrong_status_7 = record {
  plan = two_divisions;
  divisions = (division 1 2) ∷ (division 2 0) ∷ [];
  incidents =
      (incident 1 1 (grid 530120 180160) 2 (needs 0 1 0) 1427 None Closed)
      ∷ (incident 1 2 (grid 530100 180000) 2 (needs 0 1 0) 1608 (Some 2006) Active) ∷ [];
  calls =
      (call 1 1 1 1 1 false (grid 530120 180160) 2 (needs 1 1 0) [] 1427)
      ∷ (call 1 2 1 2 2 false (grid 530100 180000) 2 (needs 0 1 0) [] 1608) ∷ [];
  vehicles =
      (vehicle A1 1 1 Ambulance (grid 560200 180000) Available 40000 None 0 1)
      ∷ (vehicle A2 1 1 Car (grid 530120 180160) AtHospital 5000 None 1 1)
      ∷ (vehicle A3 1 1 Car (grid 530100 180000) Available 1368 None 0 1)
      ∷ (vehicle B1 2 2 Support (grid 530200 180000) Available 2000 None 0 3) ∷ [];
  turns = (turn A2 1 1 2 Car 2006 None None None (Some 3031) None false) ∷ [];
  assignments = (assignment A2 1 2 1 (grid 530100 180000) 2) ∷ [];
  points = [];
  loans = [];
  offers = [];
  reports =
      (report A1 1 button.Mobile 0 (grid 531000 180000) 1247 1 Wrong Available false)
      ∷ (report A2 1 button.Hospital 1 (grid 530120 180160) 3031 1 Skipped AtHospital false)
      ∷ (report A3 1 button.Mobile 0 (grid 530200 180000) 1856 1 Wrong Available false)
      ∷ (report B1 1 button.Mobile 0 (grid 530100 180000) 1242 2 Wrong Available false)
      ∷ (report B1 2 button.Home 0 (grid 530200 180000) 1856 2 Normal Available false)
      ∷ (report B1 3 button.Scene 0 (grid 530100 180100) 2788 2 Wrong Available false) ∷ [];
}

duty_wrong_status_7 : Steps (at 3011 (Desk 1) (ask.Duty A2 (grid 530201 180000) 3012))
    before_duty_wrong_status_7 (Err refusal.WrongStatus) before_duty_wrong_status_7
unfolding machine
duty_wrong_status_7 = (refl, refl)

abbrev before_off : Room
before_off = record {
  plan = overlapping_divisions;
  divisions = (division 1 0) ∷ (division 7 0) ∷ [];
  incidents = [];
  calls = [];
  vehicles =
      (vehicle A1 1 1 Ambulance (grid 530100 180000) Available 40000 None 0 0)
      ∷ (vehicle A2 7 7 Ambulance (grid 560200 180000) Available 40000 None 0 0) ∷ [];
  turns = [];
  assignments = [];
  points = [];
  loans = [];
  offers = [];
  reports = [];
}

off : Steps (at 1487 (Desk 7) (ask.Off A2)) before_off (Ok answer.Done)
    (record before_off {
      vehicles = (vehicle A1 1 1 Ambulance
          (grid 530100 180000) Available 40000 None 0 0)
          ∷ (vehicle A2 7 7 Ambulance (grid 560200 180000) OffDuty 40000 None 0 0) ∷ [];
    })
unfolding machine
off = (refl, refl)

abbrev before_off_2 : Room
before_off_2 = record {
  plan = two_divisions;
  divisions = (division 1 0) ∷ (division 2 0) ∷ [];
  incidents = [];
  calls = [];
  vehicles =
      (vehicle A1 1 1 Ambulance (grid 530000 180000) Available 40000 (Some 2) 0 1)
      ∷ (vehicle A2 2 2 Ambulance (grid 530100 180000) Available 40000 None 0 0) ∷ [];
  turns = [];
  assignments = [];
  points = (point 1 2 (grid 530100 180000) 0) ∷ [];
  loans = [];
  offers = [];
  reports = (report A1 1 button.Hospital 0 (grid 530000 180000) 981 1 Wrong Available false) ∷ [];
}

off_2 : Steps (at 1763 (Desk 1) (ask.Off A1)) before_off_2 (Ok answer.Done)
    (record before_off_2 {
      vehicles =
          (vehicle A1 1 1 Ambulance (grid 530000 180000) OffDuty 40000 None 0 1)
          ∷ (vehicle A2 2 2 Ambulance (grid 530100 180000) Available 40000 None 0 0) ∷ [];
    })
unfolding machine
off_2 = (refl, refl)

abbrev before_off_3 : Room
before_off_3 = record {
  plan = two_divisions;
  divisions = (division 1 3) ∷ (division 2 3) ∷ [];
  incidents = [];
  calls = [];
  vehicles =
      (vehicle A1 1 1 Ambulance (grid 530100 180000) OffDuty 0 None 0 0)
      ∷ (vehicle A2 2 2 Ambulance (grid 530201 180000) Available 40000 None 0 0)
      ∷ (vehicle A3 1 1 Ambulance (grid 530100 180100) OffDuty 0 None 0 1)
      ∷ (vehicle B1 1 1 Ambulance (grid 530120 180160) Available 2000 (Some 2) 0 0) ∷ [];
  turns = [];
  assignments = [];
  points = (point 1 2 (grid 530100 180100) 2) ∷ [];
  loans = [];
  offers = [];
  reports = (report A3 1 button.Return 0 (grid 530201 180000) 1381 1 Wrong OffDuty false) ∷ [];
}

off_3 : Steps (at 1442 (Desk 1) (ask.Off B1)) before_off_3 (Ok answer.Done)
    (record before_off_3 {
      vehicles =
          (vehicle A1 1 1 Ambulance (grid 530100 180000) OffDuty 0 None 0 0)
          ∷ (vehicle A2 2 2 Ambulance (grid 530201 180000) Available 40000 None 0 0)
          ∷ (vehicle A3 1 1 Ambulance (grid 530100 180100) OffDuty 0 None 0 1)
          ∷ (vehicle B1 1 1 Ambulance (grid 530120 180160) OffDuty 2000 None 0 0) ∷ [];
    })
unfolding machine
off_3 = (refl, refl)

abbrev before_off_4 : Room
before_off_4 = record {
  plan = two_divisions;
  divisions = (division 1 1) ∷ (division 2 3) ∷ [];
  incidents = (incident 1 1 (grid 530000 180000) 2 (needs 2 1 1) 1001 None Active) ∷ [];
  calls = (call 1 2 1 1 1 false (grid 530000 180000) 2 (needs 2 1 1) [] 1001) ∷ [];
  vehicles =
      (vehicle A1 1 1 Car (grid 530100 180100) Available 5121 (Some 2) 0 0)
      ∷ (vehicle A2 2 2 Support (grid 530100 180000) OffDuty 0 None 0 1)
      ∷ (vehicle A3 2 2 Car (grid 531000 180000) Available 2000 None 0 0) ∷ [];
  turns = [];
  assignments = [];
  points = (point 1 2 (grid 530201 180000) 1) ∷ [];
  loans = [];
  offers = [];
  reports = (report A2 1 button.Hospital 0 (grid 530120 180160) 2186 2 Wrong OffDuty false) ∷ [];
}

off_4 : Steps (at 2216 (Desk 1) (ask.Off A1)) before_off_4 (Ok answer.Done)
    (record before_off_4 {
      vehicles =
          (vehicle A1 1 1 Car (grid 530100 180100) OffDuty 5121 None 0 0)
          ∷ (vehicle A2 2 2 Support (grid 530100 180000) OffDuty 0 None 0 1)
          ∷ (vehicle A3 2 2 Car (grid 531000 180000) Available 2000 None 0 0) ∷ [];
    })
unfolding machine
off_4 = (refl, refl)

abbrev before_off_5 : Room
before_off_5 = record {
  plan = overlapping_divisions;
  divisions = (division 1 2147483647) ∷ (division 7 2147483646) ∷ [];
  incidents = [];
  calls = [];
  vehicles =
      (vehicle A1 7 7 Ambulance (grid 530100 180100) Available 40000 None 0 2)
      ∷ (vehicle A2 1 1 Ambulance (grid 531000 180000) Available 5105 (Some 2) 0 1)
      ∷ (vehicle A3 7 7 Ambulance (grid 530000 180000) Available 2000 None 0 1) ∷ [];
  turns = [];
  assignments = [];
  points = (point 1 2 (grid 530200 180000) 1) ∷ [];
  loans = [];
  offers = [];
  reports =
      (report A1 1 button.Position 0 (grid 530100 180100) 1120 7 Normal Available false)
      ∷ (report A1 2 button.Mobile 0 (grid 530120 180160) 2600 7 Wrong Available true)
      ∷ (report A2 1 button.Hospital 0 (grid 530201 180000) 3262 1 Wrong Available false)
      ∷ (report A3 1 button.Scene 0 (grid 530100 180100) 4079 7 Wrong Available false) ∷ [];
}

off_5 : Steps (at 4385 (Desk 1) (ask.Off A2)) before_off_5 (Ok answer.Done)
    (record before_off_5 {
      vehicles =
          (vehicle A1 7 7 Ambulance (grid 530100 180100) Available 40000 None 0 2)
          ∷ (vehicle A2 1 1 Ambulance (grid 531000 180000) OffDuty 5105 None 0 1)
          ∷ (vehicle A3 7 7 Ambulance (grid 530000 180000) Available 2000 None 0 1) ∷ [];
    })
unfolding machine
off_5 = (refl, refl)

abbrev before_off_6 : Room
before_off_6 = record {
  plan = overlapping_divisions;
  divisions = (division 1 1) ∷ (division 7 0) ∷ [];
  incidents = (incident 1 1 (grid 530201 180000) 2 (needs 2 0 0) 1246 (Some 1366) Active) ∷ [];
  calls = (call 2 1 1 1 1 false (grid 530201 180000) 2 (needs 2 0 0) (codes "x") 1246) ∷ [];
  vehicles =
      (vehicle A1 1 1 Ambulance (grid 530300 180400) Returning 2000 None 1 1)
      ∷ (vehicle A2 7 7 Ambulance (grid 560000 180000) Available 5000 None 0 1)
      ∷ (vehicle A3 7 7 Car (grid 530200 180000) Available 2000 None 0 0) ∷ [];
  turns = (turn A1 1 1 1 Ambulance 1366 None None None None (Some 1672) true) ∷ [];
  assignments = [];
  points = [];
  loans = [];
  offers = [];
  reports =
      (report A1 1 button.Leave 0 (grid 530200 180000) 1245 1 Wrong Available false)
      ∷ (report A2 1 button.Hospital 0 (grid 530120 180160) 1833 7 Wrong Available false) ∷ [];
}

off_6 : Steps (at 1863 (Desk 1) (ask.Off A1)) before_off_6 (Ok answer.Done)
    (record before_off_6 {
      vehicles =
          (vehicle A1 1 1 Ambulance (grid 530300 180400) OffDuty 2000 None 1 1)
          ∷ (vehicle A2 7 7 Ambulance (grid 560000 180000) Available 5000 None 0 1)
          ∷ (vehicle A3 7 7 Car (grid 530200 180000) Available 2000 None 0 0) ∷ [];
    })
unfolding machine
off_6 = (refl, refl)

abbrev before_off_no_such_vehicle : Room
before_off_no_such_vehicle = record {
  plan = two_divisions;
  divisions = (division 1 0) ∷ (division 2 0) ∷ [];
  incidents = [];
  calls = [];
  vehicles =
      (vehicle A1 2 2 Ambulance (grid 530000 180000) OffDuty 0 None 2147483647 0)
      ∷ (vehicle A2 1 1 Ambulance (grid 530201 180000) Available 2000 None 0 0) ∷ [];
  turns = [];
  assignments = [];
  points = [];
  loans = [];
  offers = [];
  reports = [];
}

off_no_such_vehicle : Steps (at 1061 (Desk 2) (ask.Off A2)) before_off_no_such_vehicle
    (Err refusal.NoSuchVehicle) before_off_no_such_vehicle
unfolding machine
off_no_such_vehicle = (refl, refl)

abbrev before_off_still_assigned : Room
before_off_still_assigned = record {
  plan = two_divisions;
  divisions = (division 1 4) ∷ (division 2 0) ∷ [];
  incidents = (incident 1 4 (grid 531000 180000) 1 (needs 0 1 0) 1010 (Some 991) Active) ∷ [];
  calls = (call 1 5 1 4 4 false (grid 531000 180000) 1 (needs 0 1 0) [] 1010) ∷ [];
  vehicles =
      (vehicle A1 1 1 Ambulance (grid 530000 180000) OffDuty 5000 None 0 0)
      ∷ (vehicle A2 1 1 Car (grid 530000 180000) AtHospital 40000 None 1 3)
      ∷ (vehicle A3 2 2 Support (grid 531000 180000) OffDuty 0 None 0 0) ∷ [];
  turns = (turn A2 1 1 4 Car 991 None None None (Some 1152) None false) ∷ [];
  assignments = (assignment A2 1 4 1 (grid 531000 180000) 1) ∷ [];
  points = [];
  loans = [];
  offers = [];
  reports =
      (report A2 1 button.Scene 0 (grid 530200 180000) 990 1 Wrong Available false)
      ∷ (report A2 2 button.Hospital 1 (grid 530200 180000) 1152 1 Skipped AtHospital false)
      ∷ (report A2 3 button.Hospital 1 (grid 530000 180000) 1244 1 Normal AtHospital false) ∷ [];
}

off_still_assigned : Steps (at 1545 (Desk 1) (ask.Off A2)) before_off_still_assigned
    (Err refusal.StillAssigned) before_off_still_assigned
unfolding machine
off_still_assigned = (refl, refl)

abbrev before_off_still_assigned_2 : Room
before_off_still_assigned_2 = record {
  plan = two_divisions;
  divisions = (division 1 2) ∷ (division 2 0) ∷ [];
  incidents =
      (incident 1 1 (grid 531000 180000) 1 (needs 1 0 0) 2029 (Some 2209) Active)
      ∷ (incident 1 2 (grid 530120 180160) 3 (needs 2 0 0) 2070 None Active) ∷ [];
  calls =
      (call 1 1 1 2 2 false (grid 530120 180160) 3 (needs 2 0 0) [] 2070)
      ∷ (call 2 4 1 1 1 false (grid 531000 180000) 1 (needs 1 0 0) (codes "x") 2029) ∷ [];
  vehicles =
      (vehicle A1 1 1 Ambulance (grid 530200 180000) Mobilised 5067 None 1 2)
      ∷ (vehicle A2 2 2 Ambulance (grid 530300 180400) Available 42196 None 0 2) ∷ [];
  turns = (turn A1 1 1 1 Ambulance 2209 (Some 2176) None None None None false) ∷ [];
  assignments = (assignment A1 1 1 1 (grid 531000 180000) 1) ∷ [];
  points = [];
  loans = [];
  offers = [];
  reports =
      (report A1 1 button.Hospital 0 (grid 530100 180000) 2090 1 Wrong Available false)
      ∷ (report A1 2 button.Mobile 1 (grid 530200 180000) 2176 1 Normal Mobilised false)
      ∷ (report A2 1 button.Scene 0 (grid 530000 180000) 2075 2 Wrong OffDuty false)
      ∷ (report A2 2 button.Home 0 (grid 530100 180100) 2195 2 Wrong OffDuty false) ∷ [];
}

off_still_assigned_2 : Steps (at 2898 (Desk 1) (ask.Off A1)) before_off_still_assigned_2
    (Err refusal.StillAssigned) before_off_still_assigned_2
unfolding machine
off_still_assigned_2 = (refl, refl)

abbrev before_off_still_assigned_3 : Room
before_off_still_assigned_3 = record {
  plan = overlapping_divisions;
  divisions = (division 1 2) ∷ (division 7 0) ∷ [];
  incidents =
      (incident 1 1 (grid 531000 180000) 1 (needs 1 0 0) 985 (Some 1647) Active)
      ∷ (incident 1 2 (grid 530201 180000) 3 (needs 0 1 0) 1465 None Active) ∷ [];
  calls =
      (call 1 4 1 2 2 false (grid 530201 180000) 3 (needs 0 1 0) [] 1465)
      ∷ (call 1 5 1 1 1 false (grid 531000 180000) 1 (needs 1 0 0) [] 985) ∷ [];
  vehicles =
      (vehicle A1 1 1 Ambulance (grid 530100 180100) AtScene 2000 None 1 2)
      ∷ (vehicle A2 7 7 Ambulance (grid 530100 180000) OffDuty 0 None 0 0)
      ∷ (vehicle A3 1 1 Ambulance (grid 560100 180000) OffDuty 40000 None 0 0)
      ∷ (vehicle B1 7 7 Ambulance (grid 530100 180100) Offered 2000 None 0 1) ∷ [];
  turns = (turn A1 1 1 1 Ambulance 1647 None (Some 2630) None None None false) ∷ [];
  assignments = (assignment A1 1 1 1 (grid 531000 180000) 1) ∷ [];
  points = (point 1 1 (grid 530000 180000) 2) ∷ [];
  loans = [];
  offers = (offer B1 7 1 1999 2999) ∷ [];
  reports =
      (report A1 1 button.Scene 0 (grid 530100 180100) 2670 1 Stale Mobilised false)
      ∷ (report A1 2 button.Scene 1 (grid 530100 180100) 2630 1 Skipped AtScene false)
      ∷ (report B1 1 button.Scene 0 (grid 530100 180100) 3113 7 Wrong Offered false) ∷ [];
}

off_still_assigned_3 : Steps (at 3075 (Desk 1) (ask.Off A1)) before_off_still_assigned_3
    (Err refusal.StillAssigned) before_off_still_assigned_3
unfolding machine
off_still_assigned_3 = (refl, refl)

abbrev before_off_still_assigned_4 : Room
before_off_still_assigned_4 = record {
  plan = two_divisions;
  divisions = (division 1 6) ∷ (division 2 0) ∷ [];
  incidents =
      (incident 1 4 (grid 531000 180000) 2 (needs 1 0 1) 1120 (Some 1717) Active)
      ∷ (incident 1 5 (grid 530120 180160) 3 (needs 0 1 0) 1316 None Active)
      ∷ (incident 1 6 (grid 530200 180000) 2 (needs 1 0 0) 2576 None Active) ∷ [];
  calls =
      (call 1 1 1 6 6 false (grid 530200 180000) 2 (needs 1 0 0) (codes "x") 2576)
      ∷ (call 1 2 1 5 5 false (grid 530120 180160) 3 (needs 0 1 0) [] 1316)
      ∷ (call 2 3 1 4 4 true (grid 531000 180000) 3 (needs 1 0 0) [] 2020)
      ∷ (call 2 4 1 4 4 false (grid 531000 180000) 2 (needs 0 0 1) [] 1120) ∷ [];
  vehicles =
      (vehicle A1 1 1 Car (grid 560200 180000) Available 2000 None 0 1)
      ∷ (vehicle A2 1 1 Ambulance (grid 531000 180000) Leaving 5000 None 1 2) ∷ [];
  turns = (turn A2 1 1 4 Ambulance 1717 None None (Some 1752) None None false) ∷ [];
  assignments = (assignment A2 1 4 1 (grid 531000 180000) 2) ∷ [];
  points = (point 2 1 (grid 530300 180400) 0) ∷ [];
  loans = [];
  offers = [];
  reports =
      (report A1 1 button.Scene 0 (grid 530201 180000) 2114 1 Wrong Available false)
      ∷ (report A2 1 button.Leave 1 (grid 531000 180000) 1752 1 Skipped Leaving false)
      ∷ (report A2 2 button.Scene 1 (grid 530201 180000) 2295 1 Wrong Leaving false) ∷ [];
}

off_still_assigned_4 : Steps (at 2667 (Desk 1) (ask.Off A2)) before_off_still_assigned_4
    (Err refusal.StillAssigned) before_off_still_assigned_4
unfolding machine
off_still_assigned_4 = (refl, refl)

abbrev before_off_vehicle_lent : Room
before_off_vehicle_lent = record {
  plan = two_divisions;
  divisions = (division 1 1) ∷ (division 2 0) ∷ [];
  incidents = (incident 1 1 (grid 530120 180160) 2 (needs 0 1 1) 1301 None Active) ∷ [];
  calls =
      (call 1 4 1 1 1 false (grid 530120 180160) 3 (needs 0 1 0) [] 1301)
      ∷ (call 2 6 1 1 1 true (grid 530120 180160) 2 (needs 0 0 1) (codes "x") 1481) ∷ [];
  vehicles =
      (vehicle A1 2 1 Car (grid 530200 180000) Available 5782 None 0 0)
      ∷ (vehicle A2 1 1 Ambulance (grid 530300 180400) Offered 40000 None 0 1) ∷ [];
  turns = [];
  assignments = [];
  points = [];
  loans = (loan A1 2 1 2068 2483 false) ∷ [];
  offers = (offer A2 1 2 2088 2088) ∷ [];
  reports = (report A2 1 button.Position 0 (grid 530300 180400) 2483 1 Normal Offered false) ∷ [];
}

off_vehicle_lent : Steps (at 2054 (Desk 2) (ask.Off A1)) before_off_vehicle_lent
    (Err refusal.VehicleLent) before_off_vehicle_lent
unfolding machine
off_vehicle_lent = (refl, refl)

abbrev before_off_wrong_status : Room
before_off_wrong_status = record {
  plan = two_divisions;
  divisions = (division 1 3) ∷ (division 2 0) ∷ [];
  incidents = [];
  calls = [];
  vehicles =
      (vehicle A1 2 2 Ambulance (grid 530201 180000) OffDuty 0 None 0 0)
      ∷ (vehicle A2 1 1 Ambulance (grid 530100 180100) Available 5000 None 0 0) ∷ [];
  turns = [];
  assignments = [];
  points = [];
  loans = [];
  offers = [];
  reports = [];
}

off_wrong_status : Steps (at 1010 (Desk 2) (ask.Off A1)) before_off_wrong_status
    (Err refusal.WrongStatus) before_off_wrong_status
unfolding machine
off_wrong_status = (refl, refl)

abbrev before_off_wrong_status_2 : Room
before_off_wrong_status_2 = record {
  plan = two_divisions;
  divisions = (division 1 3) ∷ (division 2 3) ∷ [];
  incidents = [];
  calls = [];
  vehicles =
      (vehicle A1 2 2 Ambulance (grid 560200 180000) Offered 2000 None 0 0)
      ∷ (vehicle A2 1 1 Ambulance (grid 560200 180000) Available 40000 None 0 0)
      ∷ (vehicle A3 1 1 Support (grid 530201 180000) Available 40000 None 0 0) ∷ [];
  turns = [];
  assignments = [];
  points = [];
  loans = [];
  offers = (offer A1 2 1 1005 2005) ∷ [];
  reports = [];
}

off_wrong_status_2 : Steps (at 1247 (Desk 2) (ask.Off A1)) before_off_wrong_status_2
    (Err refusal.WrongStatus) before_off_wrong_status_2
unfolding machine
off_wrong_status_2 = (refl, refl)

abbrev before_vehicles_0 : Room
before_vehicles_0 = record {
  plan = overlapping_divisions;
  divisions = (division 1 0) ∷ (division 7 0) ∷ [];
  incidents = [];
  calls = [];
  vehicles =
      (vehicle A1 7 7 Ambulance (grid 530000 180000) Available 5000 None 0 0)
      ∷ (vehicle A2 7 7 Support (grid 560100 180000) Available 40000 None 2147483647 0) ∷ [];
  turns = [];
  assignments = [];
  points = [];
  loans = [];
  offers = [];
  reports = [];
}

vehicles_0 : Steps (at 1242 (Desk 1) ask.Vehicles) before_vehicles_0
    (Ok (answer.Vehicles ([]))) before_vehicles_0
unfolding machine
vehicles_0 = (refl, refl)

abbrev before_vehicles_0_2 : Room
before_vehicles_0_2 = record {
  plan = two_divisions;
  divisions = (division 1 0) ∷ (division 2 3) ∷ [];
  incidents = [];
  calls = [];
  vehicles =
      (vehicle A1 1 2 Ambulance (grid 530100 180100) Available 40000 None 0 0)
      ∷ (vehicle A2 2 2 Ambulance (grid 560200 180000) Available 5000 None 0 0)
      ∷ (vehicle A3 2 2 Support (grid 531000 180000) OffDuty 0 None 0 0)
      ∷ (vehicle B1 2 2 Support (grid 530300 180400) Available 5000 None 0 1)
      ∷ (vehicle B2 2 2 Support (grid 530120 180160) Available 40000 None 0 0) ∷ [];
  turns = [];
  assignments = [];
  points = [];
  loans = (loan A1 1 2 1482 1482 false) ∷ [];
  offers = [];
  reports = (report B1 1 button.Home 0 (grid 530300 180400) 1301 2 Normal Available false) ∷ [];
}

vehicles_0_2 : Steps (at 1783 (Desk 1) ask.Vehicles) before_vehicles_0_2
    (Ok (answer.Vehicles ([]))) before_vehicles_0_2
unfolding machine
vehicles_0_2 = (refl, refl)

abbrev before_vehicles_1 : Room
before_vehicles_1 = record {
  plan = overlapping_divisions;
  divisions = (division 1 2147483646) ∷ (division 7 2147483646) ∷ [];
  incidents = [];
  calls = [];
  vehicles =
      (vehicle A1 1 1 Car (grid 560000 180000) OffDuty 0 None 0 0)
      ∷ (vehicle A2 7 7 Ambulance (grid 560200 180000) OffDuty 0 None 0 0) ∷ [];
  turns = [];
  assignments = [];
  points = [];
  loans = [];
  offers = [];
  reports = [];
}

vehicles_1 : Steps (at 1481 (Desk 7) ask.Vehicles) before_vehicles_1
    (Ok (answer.Vehicles ((vehicle_line A2 7 None Ambulance (grid 560200 180000) None 0 OffDuty)
    ∷ []))) before_vehicles_1
unfolding machine
vehicles_1 = (refl, refl)

abbrev before_vehicles_1_2 : Room
before_vehicles_1_2 = record {
  plan = two_divisions;
  divisions = (division 1 0) ∷ (division 2 0) ∷ [];
  incidents = [];
  calls = [];
  vehicles =
      (vehicle A1 1 2 Ambulance (grid 530201 180000) Available 2000 None 0 1)
      ∷ (vehicle A2 2 2 Ambulance (grid 560000 180000) OffDuty 0 None 2147483647 1)
      ∷ (vehicle A3 1 1 Ambulance (grid 560200 180000) OffDuty 0 None 0 1) ∷ [];
  turns = [];
  assignments = [];
  points = [];
  loans = (loan A1 1 2 1964 1401 true) ∷ [];
  offers = [];
  reports =
      (report A1 1 button.Home 0 (grid 530201 180000) 1843 1 Normal Offered false)
      ∷ (report A2 1 button.Scene 2147483647 (grid 530100 180100) 1362 2 Wrong OffDuty false)
      ∷ (report A3 1 button.Mobile 0 (grid 530200 180000) 1963 1 Wrong OffDuty false) ∷ [];
}

vehicles_1_2 : Steps (at 2144 (Desk 1) ask.Vehicles) before_vehicles_1_2
    (Ok (answer.Vehicles ((vehicle_line A3 1 None Ambulance (grid 560200 180000) None 0 OffDuty)
    ∷ []))) before_vehicles_1_2
unfolding machine
vehicles_1_2 = (refl, refl)

abbrev before_vehicles_1_3 : Room
before_vehicles_1_3 = record {
  plan = two_divisions;
  divisions = (division 1 1) ∷ (division 2 0) ∷ [];
  incidents = (incident 1 1 (grid 530201 180000) 2 (needs 2 1 1) 1000 (Some 1001) Active) ∷ [];
  calls = (call 1 1 1 1 1 false (grid 530201 180000) 2 (needs 1 0 0) [] 1000) ∷ [];
  vehicles =
      (vehicle A1 2 2 Ambulance (grid 560200 180000) Available 5000 None 0 0)
      ∷ (vehicle A2 2 2 Ambulance (grid 560100 180000) Available 2000 None 0 0)
      ∷ (vehicle A3 1 1 Ambulance (grid 530300 180400) Mobilised 2000 None 1 0) ∷ [];
  turns = (turn A3 1 1 1 Ambulance 1001 None None None None None false) ∷ [];
  assignments = (assignment A3 1 1 1 (grid 530201 180000) 2) ∷ [];
  points = [];
  loans = [];
  offers = [];
  reports = [];
}

vehicles_1_3 : Steps (at 1032 (Desk 1) ask.Vehicles) before_vehicles_1_3
    (Ok (answer.Vehicles ((vehicle_line A3 1 (Some 1) Ambulance
    (grid 530300 180400) None 2000 Mobilised) ∷ []))) before_vehicles_1_3
unfolding machine
vehicles_1_3 = (refl, refl)

abbrev before_vehicles_1_4 : Room
before_vehicles_1_4 = record {
  plan = two_divisions;
  divisions = (division 1 2) ∷ (division 2 0) ∷ [];
  incidents =
      (incident 1 1 (grid 530100 180000) 1 (needs 2 1 1) 1000 (Some 1431) Active)
      ∷ (incident 1 2 (grid 530200 180000) 2 (needs 1 1 0) 2108 None Active) ∷ [];
  calls =
      (call 1 4 1 2 2 false (grid 530200 180000) 2 (needs 1 1 0) [] 2108)
      ∷ (call 2 2 1 1 1 false (grid 530100 180000) 1 (needs 2 1 1) [] 1000) ∷ [];
  vehicles =
      (vehicle A1 2 2 Car (grid 530120 180160) Offered 40000 None 0 3)
      ∷ (vehicle A2 1 2 Ambulance (grid 530100 180100) Available 40000 None 0 0)
      ∷ (vehicle A3 2 2 Ambulance (grid 530100 180000) OffDuty 0 None 0 0)
      ∷ (vehicle B1 1 1 Ambulance (grid 530300 180400) Leaving 2000 None 1 1) ∷ [];
  turns = (turn B1 1 1 1 Ambulance 1431 None None (Some 2500) None None false) ∷ [];
  assignments = (assignment B1 1 1 1 (grid 530100 180000) 1) ∷ [];
  points = (point 1 2 (grid 530000 180000) 2) ∷ (point 2 2 (grid 530300 180400) 1) ∷ [];
  loans = (loan A2 1 2 2981 1706 false) ∷ [];
  offers = (offer A1 2 1 2001 2001) ∷ [];
  reports =
      (report A1 1 button.Return 0 (grid 530201 180000) 1301 2 Wrong Available false)
      ∷ (report A1 2 button.Home 0 (grid 530120 180160) 1311 2 Normal Available false)
      ∷ (report A1 3 button.Return 0 (grid 530300 180400) 2380 2 Wrong Offered false)
      ∷ (report B1 1 button.Leave 1 (grid 530300 180400) 2500 1 Skipped Leaving false) ∷ [];
}

vehicles_1_4 : Steps (at 2981 (Desk 1) ask.Vehicles) before_vehicles_1_4
    (Ok (answer.Vehicles ((vehicle_line B1 1 (Some 1) Ambulance
    (grid 530300 180400) None 2000 Leaving) ∷ []))) before_vehicles_1_4
unfolding machine
vehicles_1_4 = (refl, refl)

abbrev before_vehicles_2 : Room
before_vehicles_2 = record {
  plan = two_divisions;
  divisions = (division 1 0) ∷ (division 2 3) ∷ [];
  incidents = [];
  calls = [];
  vehicles =
      (vehicle A1 2 2 Ambulance (grid 530200 180000) Available 40000 None 0 0)
      ∷ (vehicle A2 2 2 Ambulance (grid 530200 180000) OffDuty 0 None 0 0) ∷ [];
  turns = [];
  assignments = [];
  points = [];
  loans = [];
  offers = [];
  reports = [];
}

vehicles_2 : Steps (at 1486 (Desk 2) ask.Vehicles) before_vehicles_2
    (Ok (answer.Vehicles ((vehicle_line A1 2 None Ambulance
    (grid 530200 180000) None 40000 Available)
    ∷ (vehicle_line A2 2 None Ambulance (grid 530200 180000) None 0 OffDuty) ∷ [])))
    before_vehicles_2
unfolding machine
vehicles_2 = (refl, refl)

abbrev before_vehicles_2_2 : Room
before_vehicles_2_2 = record {
  plan = two_divisions;
  divisions = (division 1 2147483647) ∷ (division 2 2147483646) ∷ [];
  incidents = [];
  calls = [];
  vehicles =
      (vehicle A1 2 2 Ambulance (grid 530100 180000) OffDuty 0 None 0 1)
      ∷ (vehicle A2 2 1 Support (grid 530300 180400) Available 5000 (Some 2) 0 0)
      ∷ (vehicle A3 2 2 Support (grid 530000 180000) Available 5000 None 0 0) ∷ [];
  turns = [];
  assignments = [];
  points = (point 1 2 (grid 530000 180000) 2) ∷ [];
  loans = (loan A2 2 1 1492 1372 false) ∷ [];
  offers = [];
  reports = (report A1 1 button.Leave 0 (grid 530200 180000) 1005 2 Wrong OffDuty false) ∷ [];
}

vehicles_2_2 : Steps (at 1773 (Desk 2) ask.Vehicles) before_vehicles_2_2
    (Ok (answer.Vehicles ((vehicle_line A1 2 None Ambulance (grid 530100 180000) None 0 OffDuty)
    ∷ (vehicle_line A3 2 None Support (grid 530000 180000) None 5000 Available) ∷ [])))
    before_vehicles_2_2
unfolding machine
vehicles_2_2 = (refl, refl)

abbrev before_vehicles_2_3 : Room
before_vehicles_2_3 = record {
  plan = two_divisions;
  divisions = (division 1 1) ∷ (division 2 0) ∷ [];
  incidents = (incident 1 1 (grid 530000 180000) 1 (needs 2 0 0) 1782 (Some 1962) Active) ∷ [];
  calls =
      (call 1 1 1 1 1 false (grid 530000 180000) 2 (needs 1 0 0) [] 1782)
      ∷ (call 1 4 1 1 1 true (grid 530100 180000) 1 (needs 2 0 0) [] 1902) ∷ [];
  vehicles =
      (vehicle A1 1 1 Ambulance (grid 560000 180000) Mobilised 40000 None 1 0)
      ∷ (vehicle A2 1 1 Ambulance (grid 560200 180000) Available 40000 None 0 0) ∷ [];
  turns = (turn A1 1 1 1 Ambulance 1962 None None None None None false) ∷ [];
  assignments = (assignment A1 1 1 1 (grid 530000 180000) 1) ∷ [];
  points = (point 2 2 (grid 530120 180160) 2) ∷ [];
  loans = [];
  offers = [];
  reports = [];
}

vehicles_2_3 : Steps (at 2454 (Desk 1) ask.Vehicles) before_vehicles_2_3
    (Ok (answer.Vehicles ((vehicle_line A1 1 (Some 1) Ambulance
    (grid 560000 180000) None 40000 Mobilised)
    ∷ (vehicle_line A2 1 None Ambulance (grid 560200 180000) None 40000 Available) ∷ [])))
    before_vehicles_2_3
unfolding machine
vehicles_2_3 = (refl, refl)

abbrev before_vehicles_2_4 : Room
before_vehicles_2_4 = record {
  plan = two_divisions;
  divisions = (division 1 1) ∷ (division 2 4) ∷ [];
  incidents =
      (incident 1 1 (grid 530100 180100) 1 (needs 1 1 0) 2029 None Active)
      ∷ (incident 2 4 (grid 560200 180000) 1 (needs 2 1 1) 1176 (Some 1968) Active) ∷ [];
  calls =
      (call 1 5 2 4 4 false (grid 560200 180000) 1 (needs 2 1 1) [] 1176)
      ∷ (call 2 2 1 1 1 false (grid 530100 180100) 1 (needs 1 1 0) (codes "x") 2029) ∷ [];
  vehicles =
      (vehicle A1 2 2 Car (grid 530200 180000) Mobilised 2000 None 1 1)
      ∷ (vehicle A2 2 2 Support (grid 530200 180000) Available 5191 None 0 1)
      ∷ (vehicle A3 2 1 Support (grid 531000 180000) Available 41211 None 0 0) ∷ [];
  turns = (turn A1 1 2 4 Car 1968 None None None None None false) ∷ [];
  assignments = (assignment A1 2 4 1 (grid 560200 180000) 1) ∷ [];
  points = [];
  loans = (loan A3 2 1 2029 6191 false) ∷ [];
  offers = [];
  reports =
      (report A1 1 button.Return 0 (grid 530100 180000) 1030 2 Wrong Available true)
      ∷ (report A2 1 button.Leave 0 (grid 530000 180000) 1186 2 Wrong Available false) ∷ [];
}

vehicles_2_4 : Steps (at 2149 (Desk 2) ask.Vehicles) before_vehicles_2_4
    (Ok (answer.Vehicles ((vehicle_line A1 2 (Some 4) Car (grid 530200 180000) None 2000 Mobilised)
    ∷ (vehicle_line A2 2 None Support (grid 530200 180000) None 5191 Available) ∷ [])))
    before_vehicles_2_4
unfolding machine
vehicles_2_4 = (refl, refl)

abbrev before_vehicles_3 : Room
before_vehicles_3 = record {
  plan = overlapping_divisions;
  divisions = (division 1 0) ∷ (division 7 3) ∷ [];
  incidents = [];
  calls = [];
  vehicles =
      (vehicle A1 1 1 Car (grid 530200 180000) OffDuty 0 None 0 0)
      ∷ (vehicle A2 1 1 Ambulance (grid 530100 180000) OffDuty 0 None 0 0)
      ∷ (vehicle A3 1 1 Ambulance (grid 530120 180160) OffDuty 0 None 0 0) ∷ [];
  turns = [];
  assignments = [];
  points = [];
  loans = [];
  offers = [];
  reports = [];
}

vehicles_3 : Steps (at 1010 (Desk 1) ask.Vehicles) before_vehicles_3
    (Ok (answer.Vehicles ((vehicle_line A1 1 None Car (grid 530200 180000) None 0 OffDuty)
    ∷ (vehicle_line A2 1 None Ambulance (grid 530100 180000) None 0 OffDuty)
    ∷ (vehicle_line A3 1 None Ambulance (grid 530120 180160) None 0 OffDuty) ∷ [])))
    before_vehicles_3
unfolding machine
vehicles_3 = (refl, refl)

abbrev before_vehicles_3_2 : Room
before_vehicles_3_2 = record {
  plan = two_divisions;
  divisions = (division 1 2147483647) ∷ (division 2 2147483647) ∷ [];
  incidents = [];
  calls = [];
  vehicles =
      (vehicle A1 1 1 Support (grid 560100 180000) OffDuty 0 None 0 0)
      ∷ (vehicle A2 1 2 Support (grid 530100 180100) Available 40000 None 0 0)
      ∷ (vehicle A3 1 1 Support (grid 530100 180000) OffDuty 0 None 0 0)
      ∷ (vehicle B1 1 1 Ambulance (grid 530200 180000) OffDuty 0 None 0 1) ∷ [];
  turns = [];
  assignments = [];
  points = [];
  loans = (loan A2 1 2 1662 1181 false) ∷ [];
  offers = [];
  reports = (report B1 1 button.Leave 0 (grid 530000 180000) 1181 1 Wrong OffDuty false) ∷ [];
}

vehicles_3_2 : Steps (at 1963 (Desk 1) ask.Vehicles) before_vehicles_3_2
    (Ok (answer.Vehicles ((vehicle_line A1 1 None Support (grid 560100 180000) None 0 OffDuty)
    ∷ (vehicle_line A3 1 None Support (grid 530100 180000) None 0 OffDuty)
    ∷ (vehicle_line B1 1 None Ambulance (grid 530200 180000) None 0 OffDuty) ∷ [])))
    before_vehicles_3_2
unfolding machine
vehicles_3_2 = (refl, refl)

abbrev before_vehicles_3_3 : Room
before_vehicles_3_3 = record {
  plan = two_divisions;
  divisions = (division 1 2147483647) ∷ (division 2 2147483647) ∷ [];
  incidents = (incident 1 2147483647 (grid 530200 180000) 3 (needs 0 0 1) 980 (Some 1281) Active) ∷ [];
  calls = (call 1 2 1 2147483647 2147483647 false (grid 530200 180000) 3 (needs 0 0 1) [] 980) ∷ [];
  vehicles =
      (vehicle A1 1 1 Support (grid 530000 180000) Mobilised 2000 None 1 3)
      ∷ (vehicle A2 1 1 Support (grid 531000 180000) Available 2754 None 0 1)
      ∷ (vehicle A3 2 1 Car (grid 530000 180000) OffDuty 2000 None 0 0) ∷ [];
  turns = (turn A1 1 1 2147483647 Support 1281 (Some 2418) None None None None false) ∷ [];
  assignments = (assignment A1 1 2147483647 1 (grid 530200 180000) 3) ∷ [];
  points = [];
  loans = (loan A3 2 1 2214 2882 false) ∷ [];
  offers = [];
  reports =
      (report A1 1 button.Position 1 (grid 530100 180100) 2215 1 Normal Mobilised false)
      ∷ (report A1 3 button.Mobile 1 (grid 530000 180000) 2418 1 Normal Mobilised false)
      ∷ (report A2 1 button.Scene 0 (grid 530120 180160) 1100 1 Wrong OffDuty false) ∷ [];
}

vehicles_3_3 : Steps (at 2690 (Desk 1) ask.Vehicles) before_vehicles_3_3
    (Ok (answer.Vehicles ((vehicle_line A1 1 (Some 2147483647) Support
    (grid 530000 180000) None 2000 Mobilised)
    ∷ (vehicle_line A2 1 None Support (grid 531000 180000) None 2754 Available)
    ∷ (vehicle_line A3 2 None Car (grid 530000 180000) None 2000 OffDuty) ∷ [])))
    before_vehicles_3_3
unfolding machine
vehicles_3_3 = (refl, refl)
