-- Sampled steps: each button at each status, with and without an acknowledged turn or a loan, and
-- late, stale and repeated reports. A program that is independent of this repository, written from
-- the rules in words, made them in random runs; of each kind of step it kept those with the fewest
-- rows.
use Rattle.std.specs.Prelude.{None, Ok, Some, [], codes, false, refl, true, ◌∷◌}
use Rattle.room_types.specs.declared.answers.Answer.TheVariants as answer
use Rattle.room_types.specs.declared.asks.Ask.TheVariants as ask
use Rattle.room_types.specs.declared.asks.Who.TheVariants.{Crew}
use Rattle.room_types.specs.declared.codes.Button.TheVariants as button
use Rattle.room_types.specs.declared.codes.Kind.TheVariants.{Ambulance, Car, Support}
use Rattle.room_types.specs.declared.codes.Outcome.TheVariants.{Late, Normal, Skipped, Stale, Wrong}
use Rattle.room_types.specs.declared.codes.State.TheVariants.{Active}
use Rattle.room_types.specs.declared.codes.Status.TheVariants.{AtHospital, AtScene, Available}
use Rattle.room_types.specs.declared.codes.Status.TheVariants.{OffDuty, Offered, Returning}
use Rattle.room_model.specs.Room.{Room}
use Rattle.room_model.specs.ComputedDefinitions.{machine}
use Rattle.room_samples.specs.ExampleRows.{call, division, grid, incident, loan, offer, point}
use Rattle.room_samples.specs.ExampleRows.{pressed, report, turn, vehicle}
use Rattle.room_samples.specs.SampledRooms.{A1, A2, A3, B1, B2, overlapping_divisions}
use Rattle.room_samples.specs.SampledRooms.{two_divisions}
use Rattle.room_samples.specs.SampledSteps.{Steps}
use Rattle.room_model.specs.StepWords.{at, needs}

abbrev before_report_off_duty_hospital_wrong : Room
before_report_off_duty_hospital_wrong = record {
  plan = two_divisions;
  divisions = (division 1 2147483646) ∷ (division 2 2147483646) ∷ [];
  incidents = [];
  calls = [];
  vehicles =
      (vehicle A1 2 2 Ambulance (grid 560100 180000) OffDuty 0 None 0 0)
      ∷ (vehicle A2 2 2 Ambulance (grid 531000 180000) OffDuty 0 None 0 0) ∷ [];
  turns = [];
  assignments = [];
  points = [];
  loans = [];
  offers = [];
  reports = [];
}

report_off_duty_hospital_wrong : Steps
    (at 1517 (Crew A2) (ask.Report (pressed 1 button.Hospital 0 (grid 530000 180000))))
    before_report_off_duty_hospital_wrong (Ok (answer.Reported 1 Wrong OffDuty))
    (record before_report_off_duty_hospital_wrong {
      vehicles = (vehicle A1 2 2 Ambulance (grid 560100 180000) OffDuty 0 None 0 0)
          ∷ (vehicle A2 2 2 Ambulance (grid 531000 180000) OffDuty 0 None 0 1)
          ∷ [];
      reports = (report A2 1 button.Hospital 0
          (grid 530000 180000) 1517 2 Wrong OffDuty false) ∷ [];
    })
unfolding machine
report_off_duty_hospital_wrong = (refl, refl)

abbrev before_report_off_duty_leave_wrong : Room
before_report_off_duty_leave_wrong = record {
  plan = two_divisions;
  divisions = (division 1 0) ∷ (division 2 0) ∷ [];
  incidents = [];
  calls = [];
  vehicles =
      (vehicle A1 2 2 Ambulance (grid 531000 180000) OffDuty 0 None 0 0)
      ∷ (vehicle A2 2 2 Ambulance (grid 560100 180000) OffDuty 0 None 0 0) ∷ [];
  turns = [];
  assignments = [];
  points = [];
  loans = [];
  offers = [];
  reports = [];
}

report_off_duty_leave_wrong : Steps
    (at 1005 (Crew A1) (ask.Report (pressed 1 button.Leave 0 (grid 530120 180160))))
    before_report_off_duty_leave_wrong (Ok (answer.Reported 1 Wrong OffDuty))
    (record before_report_off_duty_leave_wrong {
      vehicles = (vehicle A1 2 2 Ambulance (grid 531000 180000) OffDuty 0 None 0 1)
          ∷ (vehicle A2 2 2 Ambulance (grid 560100 180000) OffDuty 0 None 0 0)
          ∷ [];
      reports = (report A1 1 button.Leave 0
          (grid 530120 180160) 1005 2 Wrong OffDuty false) ∷ [];
    })
unfolding machine
report_off_duty_leave_wrong = (refl, refl)

abbrev before_report_off_duty_mobile_late : Room
before_report_off_duty_mobile_late = record {
  plan = two_divisions;
  divisions = (division 1 0) ∷ (division 2 3) ∷ [];
  incidents = [];
  calls = [];
  vehicles =
      (vehicle A1 2 2 Car (grid 530000 180000) OffDuty 0 None 0 0)
      ∷ (vehicle A2 2 2 Ambulance (grid 560100 180000) OffDuty 0 None 0 2) ∷ [];
  turns = [];
  assignments = [];
  points = [];
  loans = [];
  offers = [];
  reports = (report A2 2 button.Return 0 (grid 530100 180100) 1211 2 Wrong OffDuty false) ∷ [];
}

report_off_duty_mobile_late : Steps
    (at 1994 (Crew A2) (ask.Report (pressed 1 button.Mobile 0 (grid 530300 180400))))
    before_report_off_duty_mobile_late (Ok (answer.Reported 1 Late OffDuty))
    (record before_report_off_duty_mobile_late {
      reports = (report A2 1 button.Mobile 0 (grid 530300 180400) 1994 2 Late OffDuty false)
          ∷ (report A2 2 button.Return 0 (grid 530100 180100) 1211 2 Wrong OffDuty false) ∷ [];
    })
unfolding machine
report_off_duty_mobile_late = (refl, refl)

abbrev before_report_off_duty_mobile_wrong : Room
before_report_off_duty_mobile_wrong = record {
  plan = overlapping_divisions;
  divisions = (division 1 0) ∷ (division 7 0) ∷ [];
  incidents = [];
  calls = [];
  vehicles =
      (vehicle A1 7 7 Ambulance (grid 530000 180000) Available 40000 None 0 0)
      ∷ (vehicle A2 7 7 Ambulance (grid 530300 180400) OffDuty 0 None 0 0) ∷ [];
  turns = [];
  assignments = [];
  points = [];
  loans = [];
  offers = [];
  reports = [];
}

report_off_duty_mobile_wrong : Steps
    (at 1120 (Crew A2) (ask.Report (pressed 1 button.Mobile 0 (grid 530100 180000))))
    before_report_off_duty_mobile_wrong (Ok (answer.Reported 1 Wrong OffDuty))
    (record before_report_off_duty_mobile_wrong {
      vehicles = (vehicle A1 7 7 Ambulance (grid 530000 180000) Available 40000 None 0 0)
          ∷ (vehicle A2 7 7 Ambulance (grid 530300 180400) OffDuty 0 None 0 1)
          ∷ [];
      reports = (report A2 1 button.Mobile 0
          (grid 530100 180000) 1120 7 Wrong OffDuty false) ∷ [];
    })
unfolding machine
report_off_duty_mobile_wrong = (refl, refl)

abbrev before_report_off_duty_position_wrong : Room
before_report_off_duty_position_wrong = record {
  plan = two_divisions;
  divisions = (division 1 0) ∷ (division 2 3) ∷ [];
  incidents = [];
  calls = [];
  vehicles =
      (vehicle A1 2 2 Ambulance (grid 560100 180000) OffDuty 2000 None 2147483647 1)
      ∷ (vehicle A2 1 1 Ambulance (grid 530100 180000) Available 40000 None 0 0) ∷ [];
  turns = [];
  assignments = [];
  points = [];
  loans = [];
  offers = [];
  reports = (report A1 1 button.Scene 2147483647 (grid 530201 180000) 1240 2 Wrong OffDuty false) ∷ [];
}

report_off_duty_position_wrong : Steps
    (at 1722 (Crew A1) (ask.Report (pressed 2 button.Position 0 (grid 531000 180000))))
    before_report_off_duty_position_wrong (Ok (answer.Reported 2 Wrong OffDuty))
    (record before_report_off_duty_position_wrong {
      vehicles = (vehicle A1 2 2 Ambulance (grid 560100 180000) OffDuty 2000 None 2147483647 2)
          ∷ (vehicle A2 1 1 Ambulance (grid 530100 180000) Available 40000 None 0 0)
          ∷ [];
      reports = (report A1 1 button.Scene 2147483647
          (grid 530201 180000) 1240 2 Wrong OffDuty false)
          ∷ (report A1 2 button.Position 0 (grid 531000 180000) 1722 2 Wrong OffDuty
          false) ∷ [];
    })
unfolding machine
report_off_duty_position_wrong = (refl, refl)

abbrev before_report_off_duty_return_stale : Room
before_report_off_duty_return_stale = record {
  plan = overlapping_divisions;
  divisions = (division 1 3) ∷ (division 7 3) ∷ [];
  incidents = [];
  calls = [];
  vehicles =
      (vehicle A1 7 7 Ambulance (grid 530120 180160) OffDuty 0 None 2147483647 0)
      ∷ (vehicle A2 7 7 Car (grid 560100 180000) Available 40000 None 0 0)
      ∷ (vehicle A3 1 1 Ambulance (grid 530100 180100) OffDuty 0 None 0 0) ∷ [];
  turns = [];
  assignments = [];
  points = [];
  loans = [];
  offers = [];
  reports = [];
}

report_off_duty_return_stale : Steps
    (at 1005 (Crew A1) (ask.Report (pressed 2 button.Return 2147483646 (grid 530120 180160))))
    before_report_off_duty_return_stale (Ok (answer.Reported 2 Stale OffDuty))
    (record before_report_off_duty_return_stale {
      vehicles = (vehicle A1 7 7 Ambulance (grid 530120 180160) OffDuty 0 None 2147483647 2)
          ∷ (vehicle A2 7 7 Car (grid 560100 180000) Available 40000 None 0 0)
          ∷ (vehicle A3 1 1 Ambulance (grid 530100 180100) OffDuty 0 None 0 0)
          ∷ [];
      reports = (report A1 2 button.Return 2147483646
          (grid 530120 180160) 1005 7 Stale OffDuty false) ∷ [];
    })
unfolding machine
report_off_duty_return_stale = (refl, refl)

abbrev before_report_off_duty_return_wrong : Room
before_report_off_duty_return_wrong = record {
  plan = two_divisions;
  divisions = (division 1 0) ∷ (division 2 0) ∷ [];
  incidents = [];
  calls = [];
  vehicles =
      (vehicle A1 2 2 Car (grid 530300 180400) OffDuty 0 None 0 0)
      ∷ (vehicle A2 1 1 Ambulance (grid 530300 180400) Available 2000 None 2147483647 0) ∷ [];
  turns = [];
  assignments = [];
  points = [];
  loans = [];
  offers = [];
  reports = [];
}

report_off_duty_return_wrong : Steps
    (at 1030 (Crew A1) (ask.Report (pressed 2 button.Return 0 (grid 531000 180000))))
    before_report_off_duty_return_wrong (Ok (answer.Reported 2 Wrong OffDuty))
    (record before_report_off_duty_return_wrong {
      vehicles = (vehicle A1 2 2 Car (grid 530300 180400) OffDuty 0 None 0 2)
          ∷ (vehicle A2 1 1 Ambulance (grid 530300 180400) Available 2000 None 2147483647 0)
          ∷ [];
      reports = (report A1 2 button.Return 0
          (grid 531000 180000) 1030 2 Wrong OffDuty false) ∷ [];
    })
unfolding machine
report_off_duty_return_wrong = (refl, refl)

abbrev before_report_off_duty_scene_wrong : Room
before_report_off_duty_scene_wrong = record {
  plan = overlapping_divisions;
  divisions = (division 1 0) ∷ (division 7 0) ∷ [];
  incidents = [];
  calls = [];
  vehicles =
      (vehicle A1 1 1 Ambulance (grid 530120 180160) Available 2000 None 0 0)
      ∷ (vehicle A2 7 7 Ambulance (grid 530000 180000) OffDuty 0 None 0 0) ∷ [];
  turns = [];
  assignments = [];
  points = [];
  loans = [];
  offers = [];
  reports = [];
}

report_off_duty_scene_wrong : Steps
    (at 1120 (Crew A2) (ask.Report (pressed 1 button.Scene 0 (grid 531000 180000))))
    before_report_off_duty_scene_wrong (Ok (answer.Reported 1 Wrong OffDuty))
    (record before_report_off_duty_scene_wrong {
      vehicles = (vehicle A1 1 1 Ambulance (grid 530120 180160) Available 2000 None 0 0)
          ∷ (vehicle A2 7 7 Ambulance (grid 530000 180000) OffDuty 0 None 0 1)
          ∷ [];
      reports = (report A2 1 button.Scene 0
          (grid 531000 180000) 1120 7 Wrong OffDuty false) ∷ [];
    })
unfolding machine
report_off_duty_scene_wrong = (refl, refl)

abbrev before_report_offered_home_late : Room
before_report_offered_home_late = record {
  plan = two_divisions;
  divisions = (division 1 3) ∷ (division 2 0) ∷ [];
  incidents = [];
  calls = [];
  vehicles =
      (vehicle A1 1 1 Ambulance (grid 531000 180000) Offered 5000 None 0 4)
      ∷ (vehicle A2 2 2 Support (grid 530100 180100) OffDuty 0 None 0 0) ∷ [];
  turns = [];
  assignments = [];
  points = [];
  loans = [];
  offers = (offer A1 1 2 1242 2242) ∷ [];
  reports =
      (report A1 2 button.Scene 0 (grid 530300 180400) 1061 1 Wrong Available false)
      ∷ (report A1 4 button.Leave 0 (grid 530100 180100) 1634 1 Wrong Offered false) ∷ [];
}

report_offered_home_late : Steps (at 1664 (Crew A1)
    (ask.Report (pressed 3 button.Home 0 (grid 530201 180000)))) before_report_offered_home_late
    (Ok (answer.Reported 3 Late Offered))
    (record before_report_offered_home_late {
      reports = (report A1 2 button.Scene 0
          (grid 530300 180400) 1061 1 Wrong Available false)
          ∷ (report A1 3 button.Home 0 (grid 530201 180000) 1664 1 Late Offered false)
          ∷ (report A1 4 button.Leave 0 (grid 530100 180100) 1634 1 Wrong Offered false)
          ∷ [];
    })
unfolding machine
report_offered_home_late = (refl, refl)

abbrev before_report_offered_home_normal : Room
before_report_offered_home_normal = record {
  plan = overlapping_divisions;
  divisions = (division 1 0) ∷ (division 7 0) ∷ [];
  incidents = [];
  calls = [];
  vehicles =
      (vehicle A1 7 7 Support (grid 560200 180000) OffDuty 0 None 0 0)
      ∷ (vehicle A2 7 7 Car (grid 530100 180100) OffDuty 0 None 0 0)
      ∷ (vehicle A3 7 7 Ambulance (grid 530100 180100) OffDuty 0 None 0 0)
      ∷ (vehicle B1 7 7 Support (grid 530300 180400) Offered 5000 None 2147483647 0) ∷ [];
  turns = [];
  assignments = [];
  points = [];
  loans = [];
  offers = (offer B1 7 1 1000 1100) ∷ [];
  reports = [];
}

report_offered_home_normal : Steps
    (at 1005 (Crew B1) (ask.Report (pressed 1 button.Home 0 (grid 530201 180000))))
    before_report_offered_home_normal (Ok (answer.Reported 1 Normal Offered))
    (record before_report_offered_home_normal {
      vehicles = (vehicle A1 7 7 Support (grid 560200 180000) OffDuty 0 None 0 0)
          ∷ (vehicle A2 7 7 Car (grid 530100 180100) OffDuty 0 None 0 0)
          ∷ (vehicle A3 7 7 Ambulance (grid 530100 180100) OffDuty 0 None 0 0)
          ∷ (vehicle B1 7 7 Support (grid 530201 180000) Offered 5000 None 2147483647 1)
          ∷ [];
      reports = (report B1 1 button.Home 0
          (grid 530201 180000) 1005 7 Normal Offered false) ∷ [];
    })
unfolding machine
report_offered_home_normal = (refl, refl)

abbrev before_report_offered_hospital_wrong : Room
before_report_offered_hospital_wrong = record {
  plan = two_divisions;
  divisions = (division 1 0) ∷ (division 2 0) ∷ [];
  incidents = [];
  calls = [];
  vehicles =
      (vehicle A1 2 2 Ambulance (grid 530000 180000) Offered 40000 None 0 1)
      ∷ (vehicle A2 1 1 Ambulance (grid 530200 180000) OffDuty 0 None 0 0) ∷ [];
  turns = [];
  assignments = [];
  points = [];
  loans = [];
  offers = (offer A1 2 1 39999 40099) ∷ [];
  reports = (report A1 1 button.Mobile 0 (grid 530201 180000) 1601 2 Wrong Offered false) ∷ [];
}

report_offered_hospital_wrong : Steps
    (at 1667 (Crew A1) (ask.Report (pressed 2 button.Hospital 0 (grid 530100 180100))))
    before_report_offered_hospital_wrong (Ok (answer.Reported 2 Wrong Offered))
    (record before_report_offered_hospital_wrong {
      vehicles = (vehicle A1 2 2 Ambulance (grid 530000 180000) Offered 40000 None 0 2)
          ∷ (vehicle A2 1 1 Ambulance (grid 530200 180000) OffDuty 0 None 0 0)
          ∷ [];
      reports = (report A1 1 button.Mobile 0
          (grid 530201 180000) 1601 2 Wrong Offered false)
          ∷ (report A1 2 button.Hospital 0 (grid 530100 180100) 1667 2 Wrong Offered
          false) ∷ [];
    })
unfolding machine
report_offered_hospital_wrong = (refl, refl)

abbrev before_report_offered_leave_wrong : Room
before_report_offered_leave_wrong = record {
  plan = two_divisions;
  divisions = (division 1 0) ∷ (division 2 3) ∷ [];
  incidents = [];
  calls = [];
  vehicles =
      (vehicle A1 2 2 Car (grid 530100 180100) Offered 5000 None 0 0)
      ∷ (vehicle A2 1 1 Ambulance (grid 530200 180000) OffDuty 0 None 0 0) ∷ [];
  turns = [];
  assignments = [];
  points = [];
  loans = [];
  offers = (offer A1 2 1 980 1980) ∷ [];
  reports = [];
}

report_offered_leave_wrong : Steps
    (at 1401 (Crew A1) (ask.Report (pressed 2 button.Leave 0 (grid 530120 180160))))
    before_report_offered_leave_wrong (Ok (answer.Reported 2 Wrong Offered))
    (record before_report_offered_leave_wrong {
      vehicles = (vehicle A1 2 2 Car (grid 530100 180100) Offered 5000 None 0 2)
          ∷ (vehicle A2 1 1 Ambulance (grid 530200 180000) OffDuty 0 None 0 0)
          ∷ [];
      reports = (report A1 2 button.Leave 0
          (grid 530120 180160) 1401 2 Wrong Offered false) ∷ [];
    })
unfolding machine
report_offered_leave_wrong = (refl, refl)

abbrev before_report_offered_mobile_wrong : Room
before_report_offered_mobile_wrong = record {
  plan = overlapping_divisions;
  divisions = (division 1 3) ∷ (division 7 0) ∷ [];
  incidents = [];
  calls = [];
  vehicles =
      (vehicle A1 7 7 Ambulance (grid 531000 180000) Available 5000 None 0 0)
      ∷ (vehicle A2 1 1 Ambulance (grid 530201 180000) Offered 5000 None 0 0) ∷ [];
  turns = [];
  assignments = [];
  points = [];
  loans = [];
  offers = (offer A2 1 7 980 980) ∷ [];
  reports = [];
}

report_offered_mobile_wrong : Steps
    (at 1100 (Crew A2) (ask.Report (pressed 1 button.Mobile 0 (grid 530100 180100))))
    before_report_offered_mobile_wrong (Ok (answer.Reported 1 Wrong Offered))
    (record before_report_offered_mobile_wrong {
      vehicles = (vehicle A1 7 7 Ambulance (grid 531000 180000) Available 5000 None 0 0)
          ∷ (vehicle A2 1 1 Ambulance (grid 530201 180000) Offered 5000 None 0 1)
          ∷ [];
      reports = (report A2 1 button.Mobile 0
          (grid 530100 180100) 1100 1 Wrong Offered false) ∷ [];
    })
unfolding machine
report_offered_mobile_wrong = (refl, refl)

abbrev before_report_offered_position_normal : Room
before_report_offered_position_normal = record {
  plan = two_divisions;
  divisions = (division 1 4) ∷ (division 2 0) ∷ [];
  incidents = (incident 1 4 (grid 530120 180160) 1 (needs 1 0 0) 1602 None Active) ∷ [];
  calls = (call 2 5 1 4 4 false (grid 530120 180160) 1 (needs 1 0 0) (codes "x") 1602) ∷ [];
  vehicles =
      (vehicle A1 1 1 Ambulance (grid 530200 180000) Available 2949 None 0 2)
      ∷ (vehicle A2 2 2 Ambulance (grid 530200 180000) OffDuty 0 None 0 0)
      ∷ (vehicle A3 2 2 Ambulance (grid 530201 180000) Offered 2000 None 2147483647 0) ∷ [];
  turns = [];
  assignments = [];
  points = [];
  loans = [];
  offers = (offer A3 2 1 1301 1301) ∷ [];
  reports =
      (report A1 1 button.Home 0 (grid 530120 180160) 1632 1 Wrong OffDuty false)
      ∷ (report A1 2 button.Position 0 (grid 530100 180000) 2113 1 Wrong OffDuty true) ∷ [];
}

report_offered_position_normal : Steps
    (at 2454 (Crew A3) (ask.Report (pressed 1 button.Position 2147483646 (grid 530120 180160))))
    before_report_offered_position_normal (Ok (answer.Reported 1 Normal Offered))
    (record before_report_offered_position_normal {
      vehicles = (vehicle A1 1 1 Ambulance (grid 530200 180000) Available 2949 None 0 2)
          ∷ (vehicle A2 2 2 Ambulance (grid 530200 180000) OffDuty 0 None 0 0)
          ∷ (vehicle A3 2 2 Ambulance (grid 530120 180160) Offered 2000 None 2147483647 1)
          ∷ [];
      reports = (report A1 1 button.Home 0
          (grid 530120 180160) 1632 1 Wrong OffDuty false)
          ∷ (report A1 2 button.Position 0 (grid 530100 180000) 2113 1 Wrong OffDuty
          true) ∷ (report A3 1 button.Position 2147483646
          (grid 530120 180160) 2454 2 Normal Offered false) ∷ [];
    })
unfolding machine
report_offered_position_normal = (refl, refl)

abbrev before_report_offered_return_wrong : Room
before_report_offered_return_wrong = record {
  plan = two_divisions;
  divisions = (division 1 0) ∷ (division 2 0) ∷ [];
  incidents = [];
  calls = [];
  vehicles =
      (vehicle A1 1 1 Ambulance (grid 530300 180400) OffDuty 0 None 0 0)
      ∷ (vehicle A2 2 2 Car (grid 530120 180160) Offered 2000 None 0 0) ∷ [];
  turns = [];
  assignments = [];
  points = [];
  loans = [];
  offers = (offer A2 2 1 1999 1999) ∷ [];
  reports = [];
}

report_offered_return_wrong : Steps
    (at 1126 (Crew A2) (ask.Report (pressed 2 button.Return 0 (grid 530201 180000))))
    before_report_offered_return_wrong (Ok (answer.Reported 2 Wrong Offered))
    (record before_report_offered_return_wrong {
      vehicles = (vehicle A1 1 1 Ambulance (grid 530300 180400) OffDuty 0 None 0 0)
          ∷ (vehicle A2 2 2 Car (grid 530120 180160) Offered 2000 None 0 2)
          ∷ [];
      reports = (report A2 2 button.Return 0
          (grid 530201 180000) 1126 2 Wrong Offered false) ∷ [];
    })
unfolding machine
report_offered_return_wrong = (refl, refl)

abbrev before_report_offered_scene_stale : Room
before_report_offered_scene_stale = record {
  plan = overlapping_divisions;
  divisions = (division 1 1) ∷ (division 7 0) ∷ [];
  incidents = (incident 1 1 (grid 560000 180000) 2 (needs 1 0 0) 1817 None Active) ∷ [];
  calls = (call 1 3 1 1 1 false (grid 560000 180000) 2 (needs 1 0 0) [] 1817) ∷ [];
  vehicles =
      (vehicle A1 1 1 Ambulance (grid 530201 180000) Offered 2000 None 2147483647 1)
      ∷ (vehicle A2 7 7 Ambulance (grid 560200 180000) Available 5000 None 0 0)
      ∷ (vehicle A3 1 1 Ambulance (grid 560100 180000) Available 40000 None 0 2) ∷ [];
  turns = [];
  assignments = [];
  points = [];
  loans = [];
  offers = (offer A1 1 7 1331 2331) ∷ [];
  reports =
      (report A1 1 button.Mobile 2147483647 (grid 530201 180000) 1301 1 Wrong Available false)
      ∷ (report A3 2 button.Hospital 0 (grid 531000 180000) 1998 1 Wrong Available false) ∷ [];
}

report_offered_scene_stale : Steps
    (at 2990 (Crew A1) (ask.Report (pressed 2 button.Scene 2147483646 (grid 530201 180000))))
    before_report_offered_scene_stale (Ok (answer.Reported 2 Stale Offered))
    (record before_report_offered_scene_stale {
      vehicles = (vehicle A1 1 1 Ambulance (grid 530201 180000) Offered 2000 None 2147483647 2)
          ∷ (vehicle A2 7 7 Ambulance (grid 560200 180000) Available 5000 None 0 0)
          ∷ (vehicle A3 1 1 Ambulance (grid 560100 180000) Available 40000 None 0 2)
          ∷ [];
      reports = (report A1 1 button.Mobile 2147483647
          (grid 530201 180000) 1301 1 Wrong Available false)
          ∷ (report A1 2 button.Scene 2147483646
          (grid 530201 180000) 2990 1 Stale Offered false)
          ∷ (report A3 2 button.Hospital 0 (grid 531000 180000) 1998 1 Wrong
          Available false) ∷ [];
    })
unfolding machine
report_offered_scene_stale = (refl, refl)

abbrev before_report_offered_scene_wrong : Room
before_report_offered_scene_wrong = record {
  plan = two_divisions;
  divisions = (division 1 0) ∷ (division 2 0) ∷ [];
  incidents = [];
  calls = [];
  vehicles =
      (vehicle A1 2 2 Ambulance (grid 530000 180000) Available 2000 None 0 0)
      ∷ (vehicle A2 2 2 Car (grid 530201 180000) Offered 2000 None 0 0) ∷ [];
  turns = [];
  assignments = [];
  points = [];
  loans = [];
  offers = (offer A2 2 1 1227 1627) ∷ [];
  reports = [];
}

report_offered_scene_wrong : Steps
    (at 1227 (Crew A2) (ask.Report (pressed 1 button.Scene 0 (grid 530200 180000))))
    before_report_offered_scene_wrong (Ok (answer.Reported 1 Wrong Offered))
    (record before_report_offered_scene_wrong {
      vehicles = (vehicle A1 2 2 Ambulance (grid 530000 180000) Available 2000 None 0 0)
          ∷ (vehicle A2 2 2 Car (grid 530201 180000) Offered 2000 None 0 1)
          ∷ [];
      reports = (report A2 1 button.Scene 0
          (grid 530200 180000) 1227 2 Wrong Offered false) ∷ [];
    })
unfolding machine
report_offered_scene_wrong = (refl, refl)

abbrev before_report_returning_home_normal : Room
before_report_returning_home_normal = record {
  plan = two_divisions;
  divisions = (division 1 4) ∷ (division 2 0) ∷ [];
  incidents = (incident 1 4 (grid 530100 180000) 2 (needs 2 0 0) 1242 (Some 39999) Active) ∷ [];
  calls = (call 2 4 1 4 4 false (grid 530100 180000) 2 (needs 2 0 0) (codes "x") 1242) ∷ [];
  vehicles =
      (vehicle A1 1 1 Ambulance (grid 560000 180000) Returning 40000 None 1 0)
      ∷ (vehicle A2 2 2 Ambulance (grid 530200 180000) OffDuty 5000 None 2147483647 0)
      ∷ (vehicle A3 2 2 Ambulance (grid 530201 180000) OffDuty 0 None 0 1) ∷ [];
  turns = (turn A1 1 1 4 Ambulance 39999 None None None None (Some 1367) true) ∷ [];
  assignments = [];
  points = (point 2 2 (grid 530300 180400) 2) ∷ [];
  loans = [];
  offers = [];
  reports = (report A3 1 button.Scene 0 (grid 531000 180000) 1242 2 Wrong OffDuty false) ∷ [];
}

report_returning_home_normal : Steps
    (at 1668 (Crew A1) (ask.Report (pressed 1 button.Home 0 (grid 531000 180000))))
    before_report_returning_home_normal (Ok (answer.Reported 1 Normal Available))
    (record before_report_returning_home_normal {
      vehicles = (vehicle A1 1 1 Ambulance (grid 531000 180000) Available 40000 None 1 1)
          ∷ (vehicle A2 2 2 Ambulance (grid 530200 180000) OffDuty 5000 None 2147483647 0)
          ∷ (vehicle A3 2 2 Ambulance (grid 530201 180000) OffDuty 0 None 0 1)
          ∷ [];
      reports = (report A1 1 button.Home 0
          (grid 531000 180000) 1668 1 Normal Available false)
          ∷ (report A3 1 button.Scene 0 (grid 531000 180000) 1242 2 Wrong OffDuty false)
          ∷ [];
    })
unfolding machine
report_returning_home_normal = (refl, refl)

abbrev before_report_returning_home_normal_2 : Room
before_report_returning_home_normal_2 = record {
  plan = overlapping_divisions;
  divisions = (division 1 6) ∷ (division 7 0) ∷ [];
  incidents =
      (incident 1 4 (grid 530300 180400) 3 (needs 1 0 0) 1281 (Some 1975) Active)
      ∷ (incident 1 5 (grid 530100 180000) 1 (needs 1 0 0) 4881 None Active)
      ∷ (incident 1 6 (grid 560000 180000) 1 (needs 0 1 0) 5782 None Active) ∷ [];
  calls =
      (call 1 5 1 4 4 false (grid 530300 180400) 3 (needs 1 0 0) [] 1281)
      ∷ (call 2 3 1 6 6 false (grid 560000 180000) 1 (needs 0 1 0) [] 5782)
      ∷ (call 2 4 1 5 5 false (grid 530100 180000) 1 (needs 1 0 0) (codes "x") 4881) ∷ [];
  vehicles =
      (vehicle A1 1 1 Ambulance (grid 560100 180000) OffDuty 0 None 2147483647 0)
      ∷ (vehicle A2 1 1 Ambulance (grid 530200 180000) Available 5000 None 0 1)
      ∷ (vehicle A3 7 1 Ambulance (grid 530120 180160) Returning 5000 None 1 1)
      ∷ (vehicle B1 1 1 Ambulance (grid 530100 180000) Available 5000 None 0 0)
      ∷ (vehicle B2 1 1 Ambulance (grid 530201 180000) Available 2000 None 0 2) ∷ [];
  turns = (turn A3 1 1 4 Ambulance 1975 None None None None (Some 1980) true) ∷ [];
  assignments = [];
  points = [];
  loans = (loan A3 7 1 1462 1562 false) ∷ [];
  offers = [];
  reports =
      (report A2 1 button.Return 0 (grid 530200 180000) 980 1 Wrong Available false)
      ∷ (report A3 1 button.Hospital 1 (grid 530100 180100) 2040 1 Wrong Returning false)
      ∷ (report B2 1 button.Position 0 (grid 530120 180160) 2010 1 Normal Available false)
      ∷ (report B2 2 button.Position 0 (grid 530201 180000) 1562 1 Normal Available false) ∷ [];
}

report_returning_home_normal_2 : Steps
    (at 2101 (Crew A3) (ask.Report (pressed 2 button.Home 1 (grid 530100 180100))))
    before_report_returning_home_normal_2 (Ok (answer.Reported 2 Normal Available))
    (record before_report_returning_home_normal_2 {
      vehicles = (vehicle A1 1 1 Ambulance (grid 560100 180000) OffDuty 0 None 2147483647 0)
          ∷ (vehicle A2 1 1 Ambulance (grid 530200 180000) Available 5000 None 0 1)
          ∷ (vehicle A3 7 7 Ambulance (grid 530100 180100) Available 5000 None 1 2)
          ∷ (vehicle B1 1 1 Ambulance (grid 530100 180000) Available 5000 None 0 0)
          ∷ (vehicle B2 1 1 Ambulance (grid 530201 180000) Available 2000 None 0 2)
          ∷ [];
      loans = [];
      reports = (report A2 1 button.Return 0
          (grid 530200 180000) 980 1 Wrong Available false)
          ∷ (report A3 1 button.Hospital 1 (grid 530100 180100) 2040 1 Wrong Returning
          false) ∷ (report A3 2 button.Home 1
          (grid 530100 180100) 2101 1 Normal Available false)
          ∷ (report B2 1 button.Position 0 (grid 530120 180160) 2010 1 Normal
          Available false) ∷ (report B2 2 button.Position 0
          (grid 530201 180000) 1562 1 Normal Available false) ∷ [];
    })
unfolding machine
report_returning_home_normal_2 = (refl, refl)

abbrev before_report_returning_home_normal_3 : Room
before_report_returning_home_normal_3 = record {
  plan = two_divisions;
  divisions = (division 1 2) ∷ (division 2 1) ∷ [];
  incidents =
      (incident 1 1 (grid 531000 180000) 1 (needs 1 0 0) 1511 None Active)
      ∷ (incident 1 2 (grid 530100 180000) 2 (needs 1 1 1) 2536 (Some 2602) Active)
      ∷ (incident 2 1 (grid 560000 180000) 3 (needs 1 0 0) 2716 None Active) ∷ [];
  calls =
      (call 1 3 1 1 1 false (grid 531000 180000) 1 (needs 1 0 0) (codes "x") 1511)
      ∷ (call 1 5 1 2 2 true (grid 530201 180000) 2 (needs 0 0 1) [] 3301)
      ∷ (call 1 6 2 1 1 false (grid 560000 180000) 3 (needs 1 0 0) [] 2716)
      ∷ (call 2 2 1 2 2 false (grid 530100 180000) 3 (needs 1 1 0) (codes "x") 2536) ∷ [];
  vehicles =
      (vehicle A1 1 1 Ambulance (grid 530300 180400) Returning 40000 (Some 1) 1 4)
      ∷ (vehicle A2 2 2 Support (grid 531000 180000) OffDuty 0 None 0 3) ∷ [];
  turns = (turn A1 1 1 2 Ambulance 2602 None None None None (Some 2783) false) ∷ [];
  assignments = [];
  points = (point 1 1 (grid 530000 180000) 2) ∷ (point 2 1 (grid 530000 180000) 1) ∷ [];
  loans = [];
  offers = [];
  reports =
      (report A1 1 button.Mobile 0 (grid 530100 180000) 1633 1 Late Available false)
      ∷ (report A1 2 button.Home 0 (grid 530201 180000) 1512 1 Normal Available false)
      ∷ (report A1 3 button.Scene 0 (grid 530300 180400) 2541 1 Wrong Available false)
      ∷ (report A1 4 button.Return 1 (grid 530300 180400) 2783 1 Skipped Returning false)
      ∷ (report A2 1 button.Return 0 (grid 531000 180000) 2416 2 Wrong OffDuty false)
      ∷ (report A2 3 button.Return 0 (grid 530120 180160) 3146 2 Wrong OffDuty false) ∷ [];
}

report_returning_home_normal_3 : Steps
    (at 3364 (Crew A1) (ask.Report (pressed 5 button.Home 1 (grid 531000 180000))))
    before_report_returning_home_normal_3 (Ok (answer.Reported 5 Normal Available))
    (record before_report_returning_home_normal_3 {
      vehicles = (vehicle A1 1 1 Ambulance (grid 531000 180000) Available 40000 (Some 1) 1 5)
          ∷ (vehicle A2 2 2 Support (grid 531000 180000) OffDuty 0 None 0 3)
          ∷ [];
      reports = (report A1 1 button.Mobile 0
          (grid 530100 180000) 1633 1 Late Available false)
          ∷ (report A1 2 button.Home 0 (grid 530201 180000) 1512 1 Normal Available
          false) ∷ (report A1 3 button.Scene 0
          (grid 530300 180400) 2541 1 Wrong Available false)
          ∷ (report A1 4 button.Return 1 (grid 530300 180400) 2783 1 Skipped
          Returning false) ∷ (report A1 5 button.Home 1
          (grid 531000 180000) 3364 1 Normal Available false)
          ∷ (report A2 1 button.Return 0 (grid 531000 180000) 2416 2
          Wrong OffDuty false) ∷ (report A2 3 button.Return 0
          (grid 530120 180160) 3146 2 Wrong OffDuty false) ∷ [];
    })
unfolding machine
report_returning_home_normal_3 = (refl, refl)

abbrev before_report_returning_hospital_wrong : Room
before_report_returning_hospital_wrong = record {
  plan = two_divisions;
  divisions = (division 1 1) ∷ (division 2 3) ∷ [];
  incidents = (incident 1 1 (grid 530100 180000) 1 (needs 2 1 1) 1481 (Some 1662) Active) ∷ [];
  calls = (call 2 6 1 1 1 false (grid 530100 180000) 1 (needs 2 1 1) (codes "x") 1481) ∷ [];
  vehicles =
      (vehicle A1 1 1 Ambulance (grid 530000 180000) Available 40000 None 0 0)
      ∷ (vehicle A2 2 2 Car (grid 531000 180000) Available 2000 None 0 0)
      ∷ (vehicle A3 1 1 Ambulance (grid 530100 180100) Returning 2000 None 1 3) ∷ [];
  turns = (turn A3 1 1 1 Ambulance 1662 None None None None (Some 1843) false) ∷ [];
  assignments = [];
  points = [];
  loans = [];
  offers = [];
  reports =
      (report A3 2 button.Leave 0 (grid 530200 180000) 1662 1 Wrong Available false)
      ∷ (report A3 3 button.Return 1 (grid 530100 180100) 1843 1 Skipped Returning false) ∷ [];
}

report_returning_hospital_wrong : Steps
    (at 1963 (Crew A3) (ask.Report (pressed 5 button.Hospital 1 (grid 530300 180400))))
    before_report_returning_hospital_wrong (Ok (answer.Reported 5 Wrong Returning))
    (record before_report_returning_hospital_wrong {
      vehicles = (vehicle A1 1 1 Ambulance (grid 530000 180000) Available 40000 None 0 0)
          ∷ (vehicle A2 2 2 Car (grid 531000 180000) Available 2000 None 0 0)
          ∷ (vehicle A3 1 1 Ambulance (grid 530100 180100) Returning 2000 None 1 5)
          ∷ [];
      reports = (report A3 2 button.Leave 0
          (grid 530200 180000) 1662 1 Wrong Available false)
          ∷ (report A3 3 button.Return 1 (grid 530100 180100) 1843 1 Skipped Returning
          false) ∷ (report A3 5 button.Hospital 1
          (grid 530300 180400) 1963 1 Wrong Returning false) ∷ [];
    })
unfolding machine
report_returning_hospital_wrong = (refl, refl)

abbrev before_report_returning_leave_stale : Room
before_report_returning_leave_stale = record {
  plan = two_divisions;
  divisions = (division 1 2147483647) ∷ (division 2 2147483647) ∷ [];
  incidents = (incident 1 2147483647 (grid 530300 180400) 3 (needs 2 1 1) 1161 (Some 1342) Active) ∷ [];
  calls = (call 2 2 1 2147483647 2147483647 false (grid 530300 180400) 3 (needs 2 1 1) [] 1161) ∷ [];
  vehicles =
      (vehicle A1 2 2 Ambulance (grid 530200 180000) Available 40000 None 0 0)
      ∷ (vehicle A2 1 1 Ambulance (grid 560000 180000) OffDuty 0 None 0 0)
      ∷ (vehicle A3 1 1 Ambulance (grid 531000 180000) Returning 40000 None 1 0) ∷ [];
  turns = (turn A3 1 1 2147483647 Ambulance 1342 None None None None (Some 1282) true) ∷ [];
  assignments = [];
  points = [];
  loans = [];
  offers = [];
  reports = [];
}

report_returning_leave_stale : Steps
    (at 1277 (Crew A3) (ask.Report (pressed 1 button.Leave 0 (grid 530100 180000))))
    before_report_returning_leave_stale (Ok (answer.Reported 1 Stale Returning))
    (record before_report_returning_leave_stale {
      vehicles = (vehicle A1 2 2 Ambulance (grid 530200 180000) Available 40000 None 0 0)
          ∷ (vehicle A2 1 1 Ambulance (grid 560000 180000) OffDuty 0 None 0 0)
          ∷ (vehicle A3 1 1 Ambulance (grid 531000 180000) Returning 40000 None 1 1)
          ∷ [];
      reports = (report A3 1 button.Leave 0
          (grid 530100 180000) 1277 1 Stale Returning false) ∷ [];
    })
unfolding machine
report_returning_leave_stale = (refl, refl)

abbrev before_report_returning_leave_wrong : Room
before_report_returning_leave_wrong = record {
  plan = overlapping_divisions;
  divisions = (division 1 4) ∷ (division 7 0) ∷ [];
  incidents = (incident 1 4 (grid 530100 180000) 3 (needs 2 0 0) 1127 (Some 39999) Active) ∷ [];
  calls = (call 1 4 1 4 4 false (grid 530100 180000) 3 (needs 2 0 0) [] 1127) ∷ [];
  vehicles =
      (vehicle A1 7 7 Car (grid 531000 180000) OffDuty 0 None 0 0)
      ∷ (vehicle A2 1 1 Ambulance (grid 530200 180000) Returning 40000 None 1 4)
      ∷ (vehicle A3 1 1 Ambulance (grid 530100 180000) Available 1566 None 0 0) ∷ [];
  turns = (turn A2 1 1 4 Ambulance 39999 None None None (Some 1638) (Some 2269) false) ∷ [];
  assignments = [];
  points = [];
  loans = [];
  offers = [];
  reports =
      (report A2 1 button.Hospital 1 (grid 530100 180100) 1638 1 Skipped AtHospital false)
      ∷ (report A2 3 button.Position 0 (grid 530201 180000) 1788 1 Normal AtHospital false)
      ∷ (report A2 4 button.Return 1 (grid 530200 180000) 2269 1 Normal Returning false) ∷ [];
}

report_returning_leave_wrong : Steps
    (at 2299 (Crew A2) (ask.Report (pressed 5 button.Leave 1 (grid 530201 180000))))
    before_report_returning_leave_wrong (Ok (answer.Reported 5 Wrong Returning))
    (record before_report_returning_leave_wrong {
      vehicles = (vehicle A1 7 7 Car (grid 531000 180000) OffDuty 0 None 0 0)
          ∷ (vehicle A2 1 1 Ambulance (grid 530200 180000) Returning 40000 None 1 5)
          ∷ (vehicle A3 1 1 Ambulance (grid 530100 180000) Available 1566 None 0 0)
          ∷ [];
      reports = (report A2 1 button.Hospital 1
          (grid 530100 180100) 1638 1 Skipped AtHospital false)
          ∷ (report A2 3 button.Position 0 (grid 530201 180000) 1788 1 Normal AtHospital
          false) ∷ (report A2 4 button.Return 1
          (grid 530200 180000) 2269 1 Normal Returning false)
          ∷ (report A2 5 button.Leave 1 (grid 530201 180000) 2299 1 Wrong
          Returning false) ∷ [];
    })
unfolding machine
report_returning_leave_wrong = (refl, refl)

abbrev before_report_returning_mobile_wrong : Room
before_report_returning_mobile_wrong = record {
  plan = two_divisions;
  divisions = (division 1 1) ∷ (division 2 0) ∷ [];
  incidents = (incident 1 1 (grid 530000 180000) 1 (needs 2 0 0) 2736 (Some 2000) Active) ∷ [];
  calls =
      (call 1 4 1 1 1 true (grid 530100 180000) 1 (needs 2 0 0) (codes "x") 3577)
      ∷ (call 2 1 1 1 1 false (grid 530000 180000) 2 (needs 1 0 0) [] 2736) ∷ [];
  vehicles =
      (vehicle A1 1 1 Ambulance (grid 530300 180400) Returning 40000 None 1 2)
      ∷ (vehicle A2 2 2 Support (grid 530200 180000) OffDuty 5281 None 0 1)
      ∷ (vehicle A3 1 1 Ambulance (grid 530300 180400) Available 2000 None 0 0) ∷ [];
  turns = (turn A1 1 1 1 Ambulance 2000 None None None None (Some 4523) false) ∷ [];
  assignments = [];
  points = (point 2 2 (grid 530300 180400) 2) ∷ [];
  loans = [];
  offers = [];
  reports =
      (report A1 1 button.Hospital 0 (grid 530200 180000) 2555 1 Wrong Available true)
      ∷ (report A1 2 button.Return 1 (grid 530300 180400) 4523 1 Skipped Returning false)
      ∷ (report A2 1 button.Position 0 (grid 530100 180000) 2094 2 Wrong OffDuty false) ∷ [];
}

report_returning_mobile_wrong : Steps
    (at 4704 (Crew A1) (ask.Report (pressed 4 button.Mobile 1 (grid 531000 180000))))
    before_report_returning_mobile_wrong (Ok (answer.Reported 4 Wrong Returning))
    (record before_report_returning_mobile_wrong {
      vehicles = (vehicle A1 1 1 Ambulance (grid 530300 180400) Returning 40000 None 1 4)
          ∷ (vehicle A2 2 2 Support (grid 530200 180000) OffDuty 5281 None 0 1)
          ∷ (vehicle A3 1 1 Ambulance (grid 530300 180400) Available 2000 None 0 0)
          ∷ [];
      reports = (report A1 1 button.Hospital 0
          (grid 530200 180000) 2555 1 Wrong Available true)
          ∷ (report A1 2 button.Return 1 (grid 530300 180400) 4523 1 Skipped Returning
          false) ∷ (report A1 4 button.Mobile 1
          (grid 531000 180000) 4704 1 Wrong Returning false)
          ∷ (report A2 1 button.Position 0 (grid 530100 180000) 2094 2 Wrong
          OffDuty false) ∷ [];
    })
unfolding machine
report_returning_mobile_wrong = (refl, refl)

abbrev before_report_returning_position_normal : Room
before_report_returning_position_normal = record {
  plan = two_divisions;
  divisions = (division 1 2) ∷ (division 2 0) ∷ [];
  incidents =
      (incident 1 1 (grid 530100 180000) 2 (needs 0 0 1) 980 None Active)
      ∷ (incident 1 2 (grid 530200 180000) 2 (needs 0 0 1) 1881 (Some 1880) Active) ∷ [];
  calls =
      (call 1 3 1 1 1 false (grid 530100 180000) 2 (needs 0 0 1) [] 980)
      ∷ (call 2 4 1 2 2 false (grid 530200 180000) 2 (needs 0 0 1) [] 1881) ∷ [];
  vehicles =
      (vehicle A1 1 1 Support (grid 530100 180100) Returning 40000 None 1 0)
      ∷ (vehicle A2 2 2 Support (grid 530201 180000) Available 5000 None 0 0)
      ∷ (vehicle A3 2 2 Ambulance (grid 560200 180000) OffDuty 0 None 0 0) ∷ [];
  turns = (turn A1 1 1 2 Support 1880 None None None None (Some 1683) true) ∷ [];
  assignments = [];
  points = (point 1 1 (grid 531000 180000) 0) ∷ [];
  loans = [];
  offers = [];
  reports = [];
}

report_returning_position_normal : Steps
    (at 2164 (Crew A1) (ask.Report (pressed 1 button.Position 1 (grid 531000 180000))))
    before_report_returning_position_normal (Ok (answer.Reported 1 Normal Returning))
    (record before_report_returning_position_normal {
      vehicles = (vehicle A1 1 1 Support (grid 531000 180000) Returning 40000 None 1 1)
          ∷ (vehicle A2 2 2 Support (grid 530201 180000) Available 5000 None 0 0)
          ∷ (vehicle A3 2 2 Ambulance (grid 560200 180000) OffDuty 0 None 0 0)
          ∷ [];
      reports = (report A1 1 button.Position 1
          (grid 531000 180000) 2164 1 Normal Returning false) ∷ [];
    })
unfolding machine
report_returning_position_normal = (refl, refl)

abbrev before_report_returning_return_late : Room
before_report_returning_return_late = record {
  plan = two_divisions;
  divisions = (division 1 2147483647) ∷ (division 2 2147483647) ∷ [];
  incidents = (incident 1 2147483647 (grid 530100 180100) 2 (needs 1 0 0) 1362 (Some 1524) Active) ∷ [];
  calls = (call 1 3 1 2147483647 2147483647 false (grid 530100 180100) 2 (needs 1 0 0) (codes "x") 1362) ∷ [];
  vehicles =
      (vehicle A1 2 2 Car (grid 530200 180000) Available 40000 None 0 1)
      ∷ (vehicle A2 1 1 Ambulance (grid 530120 180160) Returning 2000 None 1 4)
      ∷ (vehicle A3 2 2 Car (grid 560000 180000) Available 40000 None 0 0) ∷ [];
  turns = (turn A2 1 1 2147483647 Ambulance 1524 None (Some 2792) None None (Some 2782) false) ∷ [];
  assignments = [];
  points = [];
  loans = [];
  offers = [];
  reports =
      (report A1 1 button.Return 0 (grid 530100 180000) 2486 2 Wrong Available false)
      ∷ (report A2 1 button.Scene 1 (grid 530300 180400) 2792 1 Skipped AtScene false)
      ∷ (report A2 2 button.Scene 1 (grid 530100 180000) 2802 1 Normal AtScene false)
      ∷ (report A2 4 button.Return 1 (grid 530120 180160) 2782 1 Normal Returning false) ∷ [];
}

report_returning_return_late : Steps
    (at 3243 (Crew A2) (ask.Report (pressed 3 button.Return 1 (grid 530100 180000))))
    before_report_returning_return_late (Ok (answer.Reported 3 Late Returning))
    (record before_report_returning_return_late {
      reports = (report A1 1 button.Return 0 (grid 530100 180000) 2486 2 Wrong Available false)
          ∷ (report A2 1 button.Scene 1 (grid 530300 180400) 2792 1 Skipped AtScene false)
          ∷ (report A2 2 button.Scene 1 (grid 530100 180000) 2802 1 Normal AtScene false)
          ∷ (report A2 3 button.Return 1 (grid 530100 180000) 3243 1 Late Returning false)
          ∷ (report A2 4 button.Return 1 (grid 530120 180160) 2782 1 Normal Returning false)
          ∷ [];
    })
unfolding machine
report_returning_return_late = (refl, refl)

abbrev before_report_returning_return_normal : Room
before_report_returning_return_normal = record {
  plan = overlapping_divisions;
  divisions = (division 1 1) ∷ (division 7 3) ∷ [];
  incidents = (incident 1 1 (grid 560200 180000) 2 (needs 2 0 0) 1120 (Some 1421) Active) ∷ [];
  calls = (call 2 4 1 1 1 false (grid 560200 180000) 2 (needs 2 0 0) [] 1120) ∷ [];
  vehicles =
      (vehicle A1 1 1 Support (grid 531000 180000) Available 2412 None 0 1)
      ∷ (vehicle A2 1 1 Ambulance (grid 560200 180000) Returning 2000 None 1 0)
      ∷ (vehicle A3 7 7 Ambulance (grid 560100 180000) Available 40000 None 0 0)
      ∷ (vehicle B1 1 1 Ambulance (grid 530100 180100) Available 2000 None 0 0) ∷ [];
  turns = (turn A2 1 1 1 Ambulance 1421 None None None None (Some 1912) true) ∷ [];
  assignments = [];
  points = [];
  loans = [];
  offers = [];
  reports = (report A1 1 button.Position 0 (grid 530200 180000) 1431 1 Wrong OffDuty false) ∷ [];
}

report_returning_return_normal : Steps
    (at 2394 (Crew A2) (ask.Report (pressed 2 button.Return 1 (grid 530201 180000))))
    before_report_returning_return_normal (Ok (answer.Reported 2 Normal Returning))
    (record before_report_returning_return_normal {
      vehicles = (vehicle A1 1 1 Support (grid 531000 180000) Available 2412 None 0 1)
          ∷ (vehicle A2 1 1 Ambulance (grid 530201 180000) Returning 2000 None 1 2)
          ∷ (vehicle A3 7 7 Ambulance (grid 560100 180000) Available 40000 None 0 0)
          ∷ (vehicle B1 1 1 Ambulance (grid 530100 180100) Available 2000 None 0 0)
          ∷ [];
      reports = (report A1 1 button.Position 0
          (grid 530200 180000) 1431 1 Wrong OffDuty false)
          ∷ (report A2 2 button.Return 1 (grid 530201 180000) 2394 1 Normal Returning
          false) ∷ [];
    })
unfolding machine
report_returning_return_normal = (refl, refl)

abbrev before_report_returning_scene_wrong : Room
before_report_returning_scene_wrong = record {
  plan = two_divisions;
  divisions = (division 1 1) ∷ (division 2 3) ∷ [];
  incidents = (incident 1 1 (grid 530200 180000) 2 (needs 0 1 0) 1956 (Some 2053) Active) ∷ [];
  calls = (call 1 4 1 1 1 false (grid 530200 180000) 2 (needs 1 0 0) [] 1956) ∷ [];
  vehicles =
      (vehicle A1 2 2 Car (grid 530200 180000) Available 1827 None 0 2)
      ∷ (vehicle A2 2 2 Ambulance (grid 530300 180400) Returning 40000 None 1 3)
      ∷ (vehicle A3 1 1 Ambulance (grid 530200 180000) Available 40000 None 0 1) ∷ [];
  turns = (turn A2 1 1 1 Ambulance 2053 None None None None (Some 2344) true) ∷ [];
  assignments = [];
  points = [];
  loans = [];
  offers = [];
  reports =
      (report A1 1 button.Mobile 0 (grid 530100 180100) 1061 2 Wrong OffDuty true)
      ∷ (report A1 2 button.Leave 0 (grid 530201 180000) 2223 2 Wrong Available false)
      ∷ (report A2 1 button.Home 0 (grid 530300 180400) 1062 2 Normal Available false)
      ∷ (report A2 3 button.Scene 0 (grid 530120 180160) 2048 1 Wrong Available false)
      ∷ (report A3 1 button.Scene 0 (grid 530120 180160) 1224 1 Wrong Available false) ∷ [];
}

report_returning_scene_wrong : Steps
    (at 2405 (Crew A2) (ask.Report (pressed 5 button.Scene 1 (grid 530100 180000))))
    before_report_returning_scene_wrong (Ok (answer.Reported 5 Wrong Returning))
    (record before_report_returning_scene_wrong {
      vehicles = (vehicle A1 2 2 Car (grid 530200 180000) Available 1827 None 0 2)
          ∷ (vehicle A2 2 2 Ambulance (grid 530300 180400) Returning 40000 None 1 5)
          ∷ (vehicle A3 1 1 Ambulance (grid 530200 180000) Available 40000 None 0 1)
          ∷ [];
      reports = (report A1 1 button.Mobile 0
          (grid 530100 180100) 1061 2 Wrong OffDuty true)
          ∷ (report A1 2 button.Leave 0 (grid 530201 180000) 2223 2 Wrong Available
          false) ∷ (report A2 1 button.Home 0
          (grid 530300 180400) 1062 2 Normal Available false)
          ∷ (report A2 3 button.Scene 0 (grid 530120 180160) 2048 1 Wrong
          Available false) ∷ (report A2 5 button.Scene 1
          (grid 530100 180000) 2405 2 Wrong Returning false)
          ∷ (report A3 1 button.Scene 0 (grid 530120 180160) 1224 1 Wrong
          Available false) ∷ [];
    })
unfolding machine
report_returning_scene_wrong = (refl, refl)
