-- Sampled steps: each button at each status, with and without an acknowledged turn or a loan, and
-- late, stale and repeated reports. A program that is independent of this repository, written from
-- the rules in words, made them in random runs; of each kind of step it kept those with the fewest
-- rows.
use Rattle.std.specs.Prelude.{Err, None, Ok, Some, [], codes, false, refl, true, ◌∷◌}
use Rattle.room_types.specs.declared.answers.Answer.TheVariants as answer
use Rattle.room_types.specs.declared.asks.Ask.TheVariants as ask
use Rattle.room_types.specs.declared.asks.Who.TheVariants.{Crew}
use Rattle.room_types.specs.declared.codes.Button.TheVariants as button
use Rattle.room_types.specs.declared.codes.Kind.TheVariants.{Ambulance, Car, Support}
use Rattle.room_types.specs.declared.codes.Outcome.TheVariants.{Late, Normal, Skipped, Stale, Wrong}
use Rattle.room_types.specs.declared.codes.State.TheVariants.{Active, Closed, Merged}
use Rattle.room_types.specs.declared.codes.Status.TheVariants.{AtHospital, AtScene, Available}
use Rattle.room_types.specs.declared.codes.Status.TheVariants.{Leaving, Mobilised, OffDuty, Offered}
use Rattle.room_types.specs.declared.codes.Status.TheVariants.{Returning}
use Rattle.room_types.specs.declared.refusal_statuses.Refusal.TheVariants as refusal
use Rattle.room_model.specs.Room.{Room}
use Rattle.room_model.specs.ComputedDefinitions.{machine}
use Rattle.room_samples.specs.ExampleRows.{assignment, call, division, grid, incident, loan, offer}
use Rattle.room_samples.specs.ExampleRows.{point, pressed, report, turn, vehicle}
use Rattle.room_samples.specs.SampledRooms.{A1, A2, A3, B1, B2, overlapping_divisions}
use Rattle.room_samples.specs.SampledRooms.{two_divisions}
use Rattle.room_samples.specs.SampledSteps.{Steps}
use Rattle.room_model.specs.StepWords.{at, needs}

abbrev before_report_at_hospital_home_skipped : Room
before_report_at_hospital_home_skipped = record {
  plan = overlapping_divisions;
  divisions = (division 1 2) ∷ (division 7 4) ∷ [];
  incidents =
      (incident 1 1 (grid 530200 180000) 1 (needs 0 1 0) 1872 None (Merged 2))
      ∷ (incident 1 2 (grid 531000 180000) 1 (needs 0 1 0) 1062 None Active)
      ∷ (incident 7 4 (grid 530000 180000) 2 (needs 2 1 1) 1031 (Some 2832) Active) ∷ [];
  calls =
      (call 1 1 7 4 4 false (grid 530000 180000) 2 (needs 2 1 1) [] 1031)
      ∷ (call 1 3 1 2 2 false (grid 531000 180000) 1 (needs 0 1 0) [] 1062)
      ∷ (call 1 4 1 2 1 false (grid 530200 180000) 1 (needs 0 1 0) [] 1872) ∷ [];
  vehicles =
      (vehicle A1 7 7 Car (grid 530300 180400) OffDuty 0 None 0 0)
      ∷ (vehicle A2 1 7 Ambulance (grid 530100 180100) AtHospital 5067 None 1 1)
      ∷ (vehicle A3 1 1 Ambulance (grid 530100 180100) Available 1968 None 0 3) ∷ [];
  turns = (turn A2 1 7 4 Ambulance 2832 None None None (Some 2450) None false) ∷ [];
  assignments = (assignment A2 7 4 1 (grid 530000 180000) 2) ∷ [];
  points = (point 1 1 (grid 530200 180000) 1) ∷ [];
  loans = (loan A2 1 7 2050 2449 false) ∷ [];
  offers = [];
  reports =
      (report A2 1 button.Hospital 1 (grid 530100 180100) 2450 7 Skipped AtHospital false)
      ∷ (report A3 1 button.Leave 0 (grid 530201 180000) 1469 1 Wrong Available false)
      ∷ (report A3 3 button.Mobile 0 (grid 530300 180400) 3795 1 Wrong Available false) ∷ [];
}

report_at_hospital_home_skipped : Steps
    (at 4919 (Crew A2) (ask.Report (pressed 2 button.Home 1 (grid 530300 180400))))
    before_report_at_hospital_home_skipped (Ok (answer.Reported 2 Skipped Available))
    (record before_report_at_hospital_home_skipped {
      vehicles = (vehicle A1 7 7 Car (grid 530300 180400) OffDuty 0 None 0 0)
          ∷ (vehicle A2 1 1 Ambulance (grid 530300 180400) Available 5067 None 1 2)
          ∷ (vehicle A3 1 1 Ambulance (grid 530100 180100) Available 1968 None 0 3)
          ∷ [];
      turns = (turn A2 1 7 4 Ambulance 2832 None None None (Some 2450)
          (Some 4919) false) ∷ [];
      assignments = [];
      loans = [];
      reports =
          (report A2 1 button.Hospital 1 (grid 530100 180100) 2450 7 Skipped AtHospital
          false) ∷ (report A2 2 button.Home 1
          (grid 530300 180400) 4919 7 Skipped Available false)
          ∷ (report A3 1 button.Leave 0 (grid 530201 180000) 1469 1 Wrong
          Available false) ∷ (report A3 3 button.Mobile 0
          (grid 530300 180400) 3795 1 Wrong Available false) ∷ [];
    })
unfolding machine
report_at_hospital_home_skipped = (refl, refl)

abbrev before_report_at_hospital_home_skipped_2 : Room
before_report_at_hospital_home_skipped_2 = record {
  plan = overlapping_divisions;
  divisions = (division 1 1) ∷ (division 7 3) ∷ [];
  incidents = (incident 1 1 (grid 530201 180000) 2 (needs 2 1 1) 2689 (Some 4357) Active) ∷ [];
  calls = (call 2 6 1 1 1 false (grid 530201 180000) 2 (needs 2 1 1) [] 2689) ∷ [];
  vehicles =
      (vehicle A1 7 7 Ambulance (grid 530120 180160) OffDuty 8569 None 0 2)
      ∷ (vehicle A2 1 1 Ambulance (grid 530200 180000) Available 1482 None 0 5)
      ∷ (vehicle A3 1 1 Support (grid 530300 180400) AtHospital 40000 None 1 5) ∷ [];
  turns = (turn A3 1 1 1 Support 4357 (Some 4388) None None (Some 4847) None false) ∷ [];
  assignments = (assignment A3 1 1 1 (grid 530201 180000) 2) ∷ [];
  points =
      (point 1 1 (grid 530300 180400) 0) ∷ (point 1 2 (grid 530120 180160) 1) ∷ (point 7 2 (grid 530000 180000) 2)
      ∷ [];
  loans = [];
  offers = [];
  reports =
      (report A1 1 button.Home 0 (grid 530300 180400) 3755 7 Wrong OffDuty false)
      ∷ (report A1 2 button.Leave 0 (grid 530000 180000) 4449 7 Wrong OffDuty false)
      ∷ (report A2 1 button.Position 0 (grid 530300 180400) 2809 1 Normal Available false)
      ∷ (report A2 2 button.Return 0 (grid 531000 180000) 2839 1 Wrong Available false)
      ∷ (report A2 3 button.Leave 0 (grid 530100 180100) 3569 1 Wrong Available false)
      ∷ (report A2 5 button.Position 0 (grid 530200 180000) 4847 1 Normal Available false)
      ∷ (report A3 2 button.Hospital 0 (grid 530201 180000) 3020 1 Wrong Available true)
      ∷ (report A3 4 button.Mobile 1 (grid 530100 180100) 4388 1 Normal Mobilised false)
      ∷ (report A3 5 button.Hospital 1 (grid 530300 180400) 4847 1 Skipped AtHospital false) ∷ [];
}

report_at_hospital_home_skipped_2 : Steps
    (at 5328 (Crew A3) (ask.Report (pressed 6 button.Home 1 (grid 530300 180400))))
    before_report_at_hospital_home_skipped_2 (Ok (answer.Reported 6 Skipped Available))
    (record before_report_at_hospital_home_skipped_2 {
      vehicles = (vehicle A1 7 7 Ambulance (grid 530120 180160) OffDuty 8569 None 0 2)
          ∷ (vehicle A2 1 1 Ambulance (grid 530200 180000) Available 1482 None 0 5)
          ∷ (vehicle A3 1 1 Support (grid 530300 180400) Available 40000 None 1 6)
          ∷ [];
      turns = (turn A3 1 1 1 Support 4357 (Some 4388) None None (Some 4847)
          (Some 5328) false) ∷ [];
      assignments = [];
      reports =
          (report A1 1 button.Home 0 (grid 530300 180400) 3755 7 Wrong OffDuty false)
          ∷ (report A1 2 button.Leave 0 (grid 530000 180000) 4449 7 Wrong OffDuty false)
          ∷ (report A2 1 button.Position 0 (grid 530300 180400) 2809 1 Normal Available
          false) ∷ (report A2 2 button.Return 0
          (grid 531000 180000) 2839 1 Wrong Available false)
          ∷ (report A2 3 button.Leave 0 (grid 530100 180100) 3569 1 Wrong
          Available false) ∷ (report A2 5 button.Position 0
          (grid 530200 180000) 4847 1 Normal Available false)
          ∷ (report A3 2 button.Hospital 0 (grid 530201 180000) 3020 1
          Wrong Available true) ∷ (report A3 4 button.Mobile 1
          (grid 530100 180100) 4388 1 Normal Mobilised false)
          ∷ (report A3 5 button.Hospital 1 (grid 530300 180400) 4847 1 Skipped AtHospital false)
          ∷ (report A3 6 button.Home 1 (grid 530300 180400) 5328 1 Skipped Available false) ∷ [];
    })
unfolding machine
report_at_hospital_home_skipped_2 = (refl, refl)

abbrev before_report_at_hospital_hospital_normal : Room
before_report_at_hospital_hospital_normal = record {
  plan = two_divisions;
  divisions = (division 1 4) ∷ (division 2 0) ∷ [];
  incidents = (incident 1 4 (grid 531000 180000) 1 (needs 0 1 0) 1010 (Some 991) Active) ∷ [];
  calls = (call 1 5 1 4 4 false (grid 531000 180000) 1 (needs 0 1 0) [] 1010) ∷ [];
  vehicles =
      (vehicle A1 1 1 Ambulance (grid 530000 180000) OffDuty 5000 None 0 0)
      ∷ (vehicle A2 1 1 Car (grid 530200 180000) AtHospital 40000 None 1 2)
      ∷ (vehicle A3 2 2 Support (grid 531000 180000) OffDuty 0 None 0 0) ∷ [];
  turns = (turn A2 1 1 4 Car 991 None None None (Some 1152) None false) ∷ [];
  assignments = (assignment A2 1 4 1 (grid 531000 180000) 1) ∷ [];
  points = [];
  loans = [];
  offers = [];
  reports =
      (report A2 1 button.Scene 0 (grid 530200 180000) 990 1 Wrong Available false)
      ∷ (report A2 2 button.Hospital 1 (grid 530200 180000) 1152 1 Skipped AtHospital false) ∷ [];
}

report_at_hospital_hospital_normal : Steps
    (at 1244 (Crew A2) (ask.Report (pressed 3 button.Hospital 1 (grid 530000 180000))))
    before_report_at_hospital_hospital_normal (Ok (answer.Reported 3 Normal AtHospital))
    (record before_report_at_hospital_hospital_normal {
      vehicles = (vehicle A1 1 1 Ambulance (grid 530000 180000) OffDuty 5000 None 0 0)
          ∷ (vehicle A2 1 1 Car (grid 530000 180000) AtHospital 40000 None 1 3)
          ∷ (vehicle A3 2 2 Support (grid 531000 180000) OffDuty 0 None 0 0)
          ∷ [];
      reports = (report A2 1 button.Scene 0
          (grid 530200 180000) 990 1 Wrong Available false)
          ∷ (report A2 2 button.Hospital 1 (grid 530200 180000) 1152 1 Skipped AtHospital
          false) ∷ (report A2 3 button.Hospital 1
          (grid 530000 180000) 1244 1 Normal AtHospital false) ∷ [];
    })
unfolding machine
report_at_hospital_hospital_normal = (refl, refl)

abbrev before_report_at_hospital_hospital_normal_2 : Room
before_report_at_hospital_hospital_normal_2 = record {
  plan = two_divisions;
  divisions = (division 1 3) ∷ (division 2 0) ∷ [];
  incidents =
      (incident 1 1 (grid 530300 180400) 2 (needs 0 1 0) 2641 None Active)
      ∷ (incident 1 2 (grid 531000 180000) 2 (needs 2 1 1) 2821 (Some 3550) Active)
      ∷ (incident 1 3 (grid 530201 180000) 1 (needs 2 0 0) 2822 (Some 3605) Active) ∷ [];
  calls =
      (call 1 1 1 3 3 false (grid 530201 180000) 1 (needs 2 0 0) (codes "x") 2822)
      ∷ (call 1 3 1 2 2 true (grid 531000 180000) 2 (needs 2 1 1) (codes "x") 2822)
      ∷ (call 1 4 1 1 1 false (grid 530300 180400) 2 (needs 0 1 0) [] 2641)
      ∷ (call 2 3 1 2 2 false (grid 531000 180000) 2 (needs 1 0 0) [] 2821) ∷ [];
  vehicles =
      (vehicle A1 2 1 Ambulance (grid 530000 180000) Returning 40000 None 1 6)
      ∷ (vehicle A2 1 1 Ambulance (grid 530000 180000) AtHospital 42460 None 1 7) ∷ [];
  turns =
      (turn A1 1 1 3 Ambulance 3605 None None None None (Some 4303) true)
      ∷ (turn A2 1 1 2 Ambulance 3550 (Some 3635) None None (Some 4283) None false) ∷ [];
  assignments = (assignment A2 1 2 1 (grid 531000 180000) 2) ∷ [];
  points = [];
  loans = (loan A1 2 1 39999 40099 false) ∷ [];
  offers = [];
  reports =
      (report A1 1 button.Mobile 0 (grid 530201 180000) 1601 2 Wrong Offered false)
      ∷ (report A1 2 button.Hospital 0 (grid 530100 180100) 1667 2 Wrong Offered false)
      ∷ (report A1 4 button.Leave 0 (grid 530300 180400) 2642 2 Wrong Offered false)
      ∷ (report A1 6 button.Return 0 (grid 530300 180400) 3159 1 Wrong Available false)
      ∷ (report A2 1 button.Home 0 (grid 530200 180000) 1949 1 Wrong OffDuty false)
      ∷ (report A2 3 button.Mobile 0 (grid 530100 180100) 3189 1 Wrong Available false)
      ∷ (report A2 4 button.Position 1 (grid 530100 180100) 3575 1 Normal Mobilised false)
      ∷ (report A2 6 button.Mobile 1 (grid 530300 180400) 3635 1 Normal Mobilised false)
      ∷ (report A2 7 button.Hospital 1 (grid 530000 180000) 4283 1 Skipped AtHospital false) ∷ [];
}

report_at_hospital_hospital_normal_2 : Steps
    (at 4764 (Crew A2) (ask.Report (pressed 9 button.Hospital 1 (grid 531000 180000))))
    before_report_at_hospital_hospital_normal_2 (Ok (answer.Reported 9 Normal AtHospital))
    (record before_report_at_hospital_hospital_normal_2 {
      vehicles = (vehicle A1 2 1 Ambulance (grid 530000 180000) Returning 40000 None 1 6)
          ∷ (vehicle A2 1 1 Ambulance (grid 531000 180000) AtHospital 42460 None 1 9)
          ∷ [];
      reports = (report A1 1 button.Mobile 0
          (grid 530201 180000) 1601 2 Wrong Offered false)
          ∷ (report A1 2 button.Hospital 0 (grid 530100 180100) 1667 2 Wrong Offered
          false) ∷ (report A1 4 button.Leave 0
          (grid 530300 180400) 2642 2 Wrong Offered false)
          ∷ (report A1 6 button.Return 0 (grid 530300 180400) 3159 1 Wrong
          Available false) ∷ (report A2 1 button.Home 0
          (grid 530200 180000) 1949 1 Wrong OffDuty false)
          ∷ (report A2 3 button.Mobile 0 (grid 530100 180100) 3189 1
          Wrong Available false) ∷ (report A2 4 button.Position 1
          (grid 530100 180100) 3575 1 Normal Mobilised false)
          ∷ (report A2 6 button.Mobile 1 (grid 530300 180400)
          3635 1 Normal Mobilised false) ∷ (report A2 7
          button.Hospital 1 (grid 530000 180000) 4283 1
          Skipped AtHospital false)
          ∷ (report A2 9 button.Hospital 1 (grid 531000 180000) 4764 1 Normal AtHospital false) ∷ [];
    })
unfolding machine
report_at_hospital_hospital_normal_2 = (refl, refl)

abbrev before_report_at_hospital_leave_wrong : Room
before_report_at_hospital_leave_wrong = record {
  plan = two_divisions;
  divisions = (division 1 4) ∷ (division 2 3) ∷ [];
  incidents = (incident 1 4 (grid 530120 180160) 2 (needs 2 1 1) 1608 (Some 1595) Active) ∷ [];
  calls =
      (call 1 4 1 4 4 true (grid 530000 180000) 3 (needs 1 0 0) (codes "x") 2508)
      ∷ (call 2 3 1 4 4 false (grid 530120 180160) 2 (needs 2 1 1) [] 1608) ∷ [];
  vehicles =
      (vehicle A1 2 2 Ambulance (grid 530201 180000) Offered 5000 None 0 0)
      ∷ (vehicle A2 1 1 Car (grid 530120 180160) AtHospital 40000 None 1 4)
      ∷ (vehicle A3 1 1 Support (grid 530100 180100) Available 1505 None 0 0) ∷ [];
  turns = (turn A2 1 1 4 Car 1595 None None None (Some 1605) None false) ∷ [];
  assignments = (assignment A2 1 4 1 (grid 530120 180160) 2) ∷ [];
  points = [];
  loans = [];
  offers = (offer A1 2 1 1605 1605) ∷ [];
  reports =
      (report A2 2 button.Hospital 0 (grid 530000 180000) 1066 1 Wrong Available false)
      ∷ (report A2 4 button.Hospital 1 (grid 530120 180160) 1605 1 Skipped AtHospital false) ∷ [];
}

report_at_hospital_leave_wrong : Steps
    (at 1906 (Crew A2) (ask.Report (pressed 5 button.Leave 1 (grid 530200 180000))))
    before_report_at_hospital_leave_wrong (Ok (answer.Reported 5 Wrong AtHospital))
    (record before_report_at_hospital_leave_wrong {
      vehicles = (vehicle A1 2 2 Ambulance (grid 530201 180000) Offered 5000 None 0 0)
          ∷ (vehicle A2 1 1 Car (grid 530120 180160) AtHospital 40000 None 1 5)
          ∷ (vehicle A3 1 1 Support (grid 530100 180100) Available 1505 None 0 0)
          ∷ [];
      reports = (report A2 2 button.Hospital 0
          (grid 530000 180000) 1066 1 Wrong Available false)
          ∷ (report A2 4 button.Hospital 1 (grid 530120 180160) 1605 1 Skipped AtHospital
          false) ∷ (report A2 5 button.Leave 1
          (grid 530200 180000) 1906 1 Wrong AtHospital false) ∷ [];
    })
unfolding machine
report_at_hospital_leave_wrong = (refl, refl)

abbrev before_report_at_hospital_leave_wrong_2 : Room
before_report_at_hospital_leave_wrong_2 = record {
  plan = two_divisions;
  divisions = (division 1 1) ∷ (division 2 0) ∷ [];
  incidents = (incident 1 1 (grid 531000 180000) 1 (needs 0 1 0) 1602 (Some 1883) Active) ∷ [];
  calls = (call 2 4 1 1 1 false (grid 531000 180000) 1 (needs 0 1 0) [] 1602) ∷ [];
  vehicles =
      (vehicle A1 2 2 Car (grid 530300 180400) Available 5000 None 0 0)
      ∷ (vehicle A2 2 2 Ambulance (grid 530200 180000) Available 40000 None 0 0)
      ∷ (vehicle A3 2 2 Ambulance (grid 560000 180000) OffDuty 0 None 0 1)
      ∷ (vehicle B1 1 1 Car (grid 530200 180000) AtHospital 5903 None 1 2)
      ∷ (vehicle B2 1 1 Ambulance (grid 530120 180160) OffDuty 0 None 2147483647 1) ∷ [];
  turns = (turn B1 1 1 1 Car 1883 (Some 2064) None None (Some 2184) None false) ∷ [];
  assignments = (assignment B1 1 1 1 (grid 531000 180000) 1) ∷ [];
  points = [];
  loans = [];
  offers = [];
  reports =
      (report A3 1 button.Leave 0 (grid 530100 180000) 1301 2 Wrong OffDuty false)
      ∷ (report B1 1 button.Mobile 1 (grid 530201 180000) 2064 1 Normal Mobilised false)
      ∷ (report B1 2 button.Hospital 1 (grid 530200 180000) 2184 1 Skipped AtHospital false)
      ∷ (report B2 1 button.Scene 2147483647 (grid 531000 180000) 1421 1 Wrong OffDuty false) ∷ [];
}

report_at_hospital_leave_wrong_2 : Steps
    (at 2546 (Crew B1) (ask.Report (pressed 4 button.Leave 1 (grid 531000 180000))))
    before_report_at_hospital_leave_wrong_2 (Ok (answer.Reported 4 Wrong AtHospital))
    (record before_report_at_hospital_leave_wrong_2 {
      vehicles = (vehicle A1 2 2 Car (grid 530300 180400) Available 5000 None 0 0)
          ∷ (vehicle A2 2 2 Ambulance (grid 530200 180000) Available 40000 None 0 0)
          ∷ (vehicle A3 2 2 Ambulance (grid 560000 180000) OffDuty 0 None 0 1)
          ∷ (vehicle B1 1 1 Car (grid 530200 180000) AtHospital 5903 None 1 4)
          ∷ (vehicle B2 1 1 Ambulance (grid 530120 180160) OffDuty 0 None 2147483647 1)
          ∷ [];
      reports = (report A3 1 button.Leave 0
          (grid 530100 180000) 1301 2 Wrong OffDuty false)
          ∷ (report B1 1 button.Mobile 1 (grid 530201 180000) 2064 1 Normal Mobilised
          false) ∷ (report B1 2 button.Hospital 1
          (grid 530200 180000) 2184 1 Skipped AtHospital false)
          ∷ (report B1 4 button.Leave 1 (grid 531000 180000) 2546 1 Wrong
          AtHospital false) ∷ (report B2 1 button.Scene 2147483647
          (grid 531000 180000) 1421 1 Wrong OffDuty false) ∷ [];
    })
unfolding machine
report_at_hospital_leave_wrong_2 = (refl, refl)

abbrev before_report_at_hospital_mobile_wrong : Room
before_report_at_hospital_mobile_wrong = record {
  plan = two_divisions;
  divisions = (division 1 1) ∷ (division 2 0) ∷ [];
  incidents = (incident 1 1 (grid 530100 180100) 2 (needs 1 1 0) 1461 (Some 1441) Active) ∷ [];
  calls = (call 2 3 1 1 1 false (grid 530100 180100) 2 (needs 1 1 0) [] 1461) ∷ [];
  vehicles =
      (vehicle A1 1 1 Car (grid 530200 180000) AtHospital 40000 None 1 2)
      ∷ (vehicle A2 2 2 Ambulance (grid 530120 180160) OffDuty 5000 None 0 0)
      ∷ (vehicle A3 2 2 Ambulance (grid 560100 180000) OffDuty 0 None 0 0) ∷ [];
  turns = (turn A1 1 1 1 Car 1441 None None None (Some 1421) None false) ∷ [];
  assignments = (assignment A1 1 1 1 (grid 530100 180100) 2) ∷ [];
  points = [];
  loans = [];
  offers = [];
  reports =
      (report A1 1 button.Hospital 0 (grid 530201 180000) 980 1 Wrong Available false)
      ∷ (report A1 2 button.Hospital 1 (grid 530200 180000) 1421 1 Skipped AtHospital false) ∷ [];
}

report_at_hospital_mobile_wrong : Steps
    (at 1582 (Crew A1) (ask.Report (pressed 4 button.Mobile 1 (grid 530100 180000))))
    before_report_at_hospital_mobile_wrong (Ok (answer.Reported 4 Wrong AtHospital))
    (record before_report_at_hospital_mobile_wrong {
      vehicles = (vehicle A1 1 1 Car (grid 530200 180000) AtHospital 40000 None 1 4)
          ∷ (vehicle A2 2 2 Ambulance (grid 530120 180160) OffDuty 5000 None 0 0)
          ∷ (vehicle A3 2 2 Ambulance (grid 560100 180000) OffDuty 0 None 0 0)
          ∷ [];
      reports = (report A1 1 button.Hospital 0
          (grid 530201 180000) 980 1 Wrong Available false)
          ∷ (report A1 2 button.Hospital 1 (grid 530200 180000) 1421 1 Skipped AtHospital
          false) ∷ (report A1 4 button.Mobile 1
          (grid 530100 180000) 1582 1 Wrong AtHospital false) ∷ [];
    })
unfolding machine
report_at_hospital_mobile_wrong = (refl, refl)

abbrev before_report_at_hospital_mobile_wrong_2 : Room
before_report_at_hospital_mobile_wrong_2 = record {
  plan = two_divisions;
  divisions = (division 1 1) ∷ (division 2 0) ∷ [];
  incidents = (incident 1 1 (grid 531000 180000) 1 (needs 0 1 0) 1602 (Some 1883) Active) ∷ [];
  calls = (call 2 4 1 1 1 false (grid 531000 180000) 1 (needs 0 1 0) [] 1602) ∷ [];
  vehicles =
      (vehicle A1 2 2 Car (grid 530300 180400) Available 5000 None 0 1)
      ∷ (vehicle A2 2 2 Ambulance (grid 530200 180000) Available 40000 None 0 0)
      ∷ (vehicle A3 2 2 Ambulance (grid 560000 180000) OffDuty 0 None 0 1)
      ∷ (vehicle B1 1 1 Car (grid 530200 180000) AtHospital 5903 None 1 4)
      ∷ (vehicle B2 1 1 Ambulance (grid 530120 180160) OffDuty 0 None 2147483647 1) ∷ [];
  turns = (turn B1 1 1 1 Car 1883 (Some 2064) None None (Some 2184) None false) ∷ [];
  assignments = (assignment B1 1 1 1 (grid 531000 180000) 1) ∷ [];
  points = (point 2 2 (grid 530300 180400) 2) ∷ [];
  loans = [];
  offers = [];
  reports =
      (report A1 1 button.Return 0 (grid 531000 180000) 2592 2 Wrong Available false)
      ∷ (report A3 1 button.Leave 0 (grid 530100 180000) 1301 2 Wrong OffDuty false)
      ∷ (report B1 1 button.Mobile 1 (grid 530201 180000) 2064 1 Normal Mobilised false)
      ∷ (report B1 2 button.Hospital 1 (grid 530200 180000) 2184 1 Skipped AtHospital false)
      ∷ (report B1 4 button.Leave 1 (grid 531000 180000) 2546 1 Wrong AtHospital false)
      ∷ (report B2 1 button.Scene 2147483647 (grid 531000 180000) 1421 1 Wrong OffDuty false) ∷ [];
}

report_at_hospital_mobile_wrong_2 : Steps
    (at 2834 (Crew B1) (ask.Report (pressed 6 button.Mobile 1 (grid 531000 180000))))
    before_report_at_hospital_mobile_wrong_2 (Ok (answer.Reported 6 Wrong AtHospital))
    (record before_report_at_hospital_mobile_wrong_2 {
      vehicles = (vehicle A1 2 2 Car (grid 530300 180400) Available 5000 None 0 1)
          ∷ (vehicle A2 2 2 Ambulance (grid 530200 180000) Available 40000 None 0 0)
          ∷ (vehicle A3 2 2 Ambulance (grid 560000 180000) OffDuty 0 None 0 1)
          ∷ (vehicle B1 1 1 Car (grid 530200 180000) AtHospital 5903 None 1 6)
          ∷ (vehicle B2 1 1 Ambulance (grid 530120 180160) OffDuty 0 None 2147483647 1)
          ∷ [];
      reports = (report A1 1 button.Return 0
          (grid 531000 180000) 2592 2 Wrong Available false)
          ∷ (report A3 1 button.Leave 0 (grid 530100 180000) 1301 2 Wrong OffDuty false)
          ∷ (report B1 1 button.Mobile 1 (grid 530201 180000) 2064 1 Normal Mobilised
          false) ∷ (report B1 2 button.Hospital 1
          (grid 530200 180000) 2184 1 Skipped AtHospital false)
          ∷ (report B1 4 button.Leave 1 (grid 531000 180000) 2546 1 Wrong
          AtHospital false) ∷ (report B1 6 button.Mobile 1
          (grid 531000 180000) 2834 1 Wrong AtHospital false)
          ∷ (report B2 1 button.Scene 2147483647
          (grid 531000 180000) 1421 1 Wrong OffDuty false) ∷ [];
    })
unfolding machine
report_at_hospital_mobile_wrong_2 = (refl, refl)

abbrev before_report_at_hospital_position_normal : Room
before_report_at_hospital_position_normal = record {
  plan = overlapping_divisions;
  divisions = (division 1 4) ∷ (division 7 0) ∷ [];
  incidents = (incident 1 4 (grid 530100 180000) 3 (needs 2 0 0) 1127 (Some 39999) Active) ∷ [];
  calls = (call 1 4 1 4 4 false (grid 530100 180000) 3 (needs 2 0 0) [] 1127) ∷ [];
  vehicles =
      (vehicle A1 7 7 Car (grid 531000 180000) OffDuty 0 None 0 0)
      ∷ (vehicle A2 1 1 Ambulance (grid 530100 180100) AtHospital 40000 None 1 1)
      ∷ (vehicle A3 1 1 Ambulance (grid 530100 180000) Available 1566 None 0 0) ∷ [];
  turns = (turn A2 1 1 4 Ambulance 39999 None None None (Some 1638) None false) ∷ [];
  assignments = (assignment A2 1 4 1 (grid 530100 180000) 3) ∷ [];
  points = [];
  loans = [];
  offers = [];
  reports = (report A2 1 button.Hospital 1 (grid 530100 180100) 1638 1 Skipped AtHospital false) ∷ [];
}

report_at_hospital_position_normal : Steps
    (at 1788 (Crew A2) (ask.Report (pressed 3 button.Position 0 (grid 530201 180000))))
    before_report_at_hospital_position_normal (Ok (answer.Reported 3 Normal AtHospital))
    (record before_report_at_hospital_position_normal {
      vehicles = (vehicle A1 7 7 Car (grid 531000 180000) OffDuty 0 None 0 0)
          ∷ (vehicle A2 1 1 Ambulance (grid 530201 180000) AtHospital 40000 None 1 3)
          ∷ (vehicle A3 1 1 Ambulance (grid 530100 180000) Available 1566 None 0 0)
          ∷ [];
      reports = (report A2 1 button.Hospital 1
          (grid 530100 180100) 1638 1 Skipped AtHospital false)
          ∷ (report A2 3 button.Position 0 (grid 530201 180000) 1788 1 Normal AtHospital
          false) ∷ [];
    })
unfolding machine
report_at_hospital_position_normal = (refl, refl)

abbrev before_report_at_hospital_position_normal_2 : Room
before_report_at_hospital_position_normal_2 = record {
  plan = two_divisions;
  divisions = (division 1 2) ∷ (division 2 1) ∷ [];
  incidents =
      (incident 1 1 (grid 530000 180000) 2 (needs 1 0 0) 1345 None Active)
      ∷ (incident 1 2 (grid 530300 180400) 2 (needs 1 1 0) 1742 None Active)
      ∷ (incident 2 1 (grid 560100 180000) 3 (needs 2 1 1) 1282 (Some 4882) Active) ∷ [];
  calls =
      (call 1 1 2 1 1 false (grid 560100 180000) 3 (needs 2 1 1) [] 1282)
      ∷ (call 1 3 1 1 1 false (grid 530000 180000) 2 (needs 1 0 0) [] 1345)
      ∷ (call 1 6 1 2 2 false (grid 530300 180400) 2 (needs 1 1 0) [] 1742) ∷ [];
  vehicles =
      (vehicle A1 2 2 Ambulance (grid 530201 180000) AtHospital 40000 None 1 3)
      ∷ (vehicle A2 2 2 Ambulance (grid 531000 180000) Available 40000 None 0 1) ∷ [];
  turns = (turn A1 1 2 1 Ambulance 4882 (Some 1651) None None (Some 1712) None false) ∷ [];
  assignments = (assignment A1 2 1 1 (grid 560100 180000) 3) ∷ [];
  points = [];
  loans = [];
  offers = [];
  reports =
      (report A1 1 button.Mobile 1 (grid 531000 180000) 1651 2 Normal Mobilised false)
      ∷ (report A1 3 button.Hospital 1 (grid 530201 180000) 1712 2 Skipped AtHospital false)
      ∷ (report A2 1 button.Mobile 0 (grid 530300 180400) 1181 2 Wrong Available false) ∷ [];
}

report_at_hospital_position_normal_2 : Steps
    (at 1722 (Crew A1) (ask.Report (pressed 4 button.Position 1 (grid 530100 180000))))
    before_report_at_hospital_position_normal_2 (Ok (answer.Reported 4 Normal AtHospital))
    (record before_report_at_hospital_position_normal_2 {
      vehicles = (vehicle A1 2 2 Ambulance (grid 530100 180000) AtHospital 40000 None 1 4)
          ∷ (vehicle A2 2 2 Ambulance (grid 531000 180000) Available 40000 None 0 1)
          ∷ [];
      reports = (report A1 1 button.Mobile 1
          (grid 531000 180000) 1651 2 Normal Mobilised false)
          ∷ (report A1 3 button.Hospital 1 (grid 530201 180000) 1712 2 Skipped AtHospital
          false) ∷ (report A1 4 button.Position 1
          (grid 530100 180000) 1722 2 Normal AtHospital false)
          ∷ (report A2 1 button.Mobile 0 (grid 530300 180400) 1181 2 Wrong
          Available false) ∷ [];
    })
unfolding machine
report_at_hospital_position_normal_2 = (refl, refl)

abbrev before_report_at_hospital_return_late : Room
before_report_at_hospital_return_late = record {
  plan = two_divisions;
  divisions = (division 1 1) ∷ (division 2 0) ∷ [];
  incidents = (incident 1 1 (grid 530100 180100) 2 (needs 2 1 1) 1005 (Some 1186) Active) ∷ [];
  calls =
      (call 1 3 1 1 1 true (grid 530100 180000) 3 (needs 2 1 1) [] 1185)
      ∷ (call 1 5 1 1 1 false (grid 530100 180100) 3 (needs 1 0 0) [] 1005)
      ∷ (call 2 4 1 1 1 true (grid 530120 180160) 2 (needs 2 1 1) (codes "x") 1186)
      ∷ (call 2 5 1 1 1 true (grid 530200 180000) 3 (needs 0 0 1) [] 1739) ∷ [];
  vehicles =
      (vehicle A1 1 1 Ambulance (grid 530000 180000) AtHospital 40000 None 1 3)
      ∷ (vehicle A2 1 1 Ambulance (grid 560200 180000) OffDuty 0 None 0 1) ∷ [];
  turns = (turn A1 1 1 1 Ambulance 1186 None None None (Some 1347) None false) ∷ [];
  assignments = (assignment A1 1 1 1 (grid 530100 180100) 3) ∷ [];
  points = (point 2 2 (grid 530300 180400) 1) ∷ [];
  loans = [];
  offers = [];
  reports =
      (report A1 1 button.Hospital 0 (grid 530200 180000) 1066 1 Wrong Available false)
      ∷ (report A1 3 button.Hospital 1 (grid 530000 180000) 1347 1 Skipped AtHospital false)
      ∷ (report A2 1 button.Leave 0 (grid 531000 180000) 1408 1 Wrong OffDuty false) ∷ [];
}

report_at_hospital_return_late : Steps
    (at 2163 (Crew A1) (ask.Report (pressed 2 button.Return 1 (grid 530120 180160))))
    before_report_at_hospital_return_late (Ok (answer.Reported 2 Late AtHospital))
    (record before_report_at_hospital_return_late {
      reports = (report A1 1 button.Hospital 0
          (grid 530200 180000) 1066 1 Wrong Available false)
          ∷ (report A1 2 button.Return 1 (grid 530120 180160) 2163 1 Late AtHospital false)
          ∷ (report A1 3 button.Hospital 1 (grid 530000 180000) 1347 1 Skipped AtHospital
          false) ∷ (report A2 1 button.Leave 0
          (grid 531000 180000) 1408 1 Wrong OffDuty false) ∷ [];
    })
unfolding machine
report_at_hospital_return_late = (refl, refl)

abbrev before_report_at_hospital_return_normal : Room
before_report_at_hospital_return_normal = record {
  plan = overlapping_divisions;
  divisions = (division 1 4) ∷ (division 7 0) ∷ [];
  incidents = (incident 1 4 (grid 530100 180000) 3 (needs 2 0 0) 1127 (Some 39999) Active) ∷ [];
  calls = (call 1 4 1 4 4 false (grid 530100 180000) 3 (needs 2 0 0) [] 1127) ∷ [];
  vehicles =
      (vehicle A1 7 7 Car (grid 531000 180000) OffDuty 0 None 0 0)
      ∷ (vehicle A2 1 1 Ambulance (grid 530201 180000) AtHospital 40000 None 1 3)
      ∷ (vehicle A3 1 1 Ambulance (grid 530100 180000) Available 1566 None 0 0) ∷ [];
  turns = (turn A2 1 1 4 Ambulance 39999 None None None (Some 1638) None false) ∷ [];
  assignments = (assignment A2 1 4 1 (grid 530100 180000) 3) ∷ [];
  points = [];
  loans = [];
  offers = [];
  reports =
      (report A2 1 button.Hospital 1 (grid 530100 180100) 1638 1 Skipped AtHospital false)
      ∷ (report A2 3 button.Position 0 (grid 530201 180000) 1788 1 Normal AtHospital false) ∷ [];
}

report_at_hospital_return_normal : Steps
    (at 2269 (Crew A2) (ask.Report (pressed 4 button.Return 1 (grid 530200 180000))))
    before_report_at_hospital_return_normal (Ok (answer.Reported 4 Normal Returning))
    (record before_report_at_hospital_return_normal {
      vehicles = (vehicle A1 7 7 Car (grid 531000 180000) OffDuty 0 None 0 0)
          ∷ (vehicle A2 1 1 Ambulance (grid 530200 180000) Returning 40000 None 1 4)
          ∷ (vehicle A3 1 1 Ambulance (grid 530100 180000) Available 1566 None 0 0)
          ∷ [];
      turns = (turn A2 1 1 4 Ambulance 39999 None None None (Some 1638)
          (Some 2269) false) ∷ [];
      assignments = [];
      reports =
          (report A2 1 button.Hospital 1 (grid 530100 180100) 1638 1 Skipped AtHospital
          false) ∷ (report A2 3 button.Position 0
          (grid 530201 180000) 1788 1 Normal AtHospital false)
          ∷ (report A2 4 button.Return 1 (grid 530200 180000) 2269 1 Normal
          Returning false) ∷ [];
    })
unfolding machine
report_at_hospital_return_normal = (refl, refl)

abbrev before_report_at_hospital_return_normal_2 : Room
before_report_at_hospital_return_normal_2 = record {
  plan = overlapping_divisions;
  divisions = (division 1 1) ∷ (division 7 0) ∷ [];
  incidents = (incident 1 1 (grid 560100 180000) 3 (needs 1 0 0) 1005 (Some 1709) Active) ∷ [];
  calls = (call 2 2 1 1 1 false (grid 560100 180000) 3 (needs 2 1 1) [] 1005) ∷ [];
  vehicles =
      (vehicle A1 1 1 Ambulance (grid 530300 180400) AtHospital 2000 None 1 4)
      ∷ (vehicle A2 1 1 Ambulance (grid 530200 180000) Available 3172 (Some 2) 0 0)
      ∷ (vehicle A3 7 7 Car (grid 530000 180000) OffDuty 0 None 0 0) ∷ [];
  turns = (turn A1 1 1 1 Ambulance 1709 (Some 2190) None None (Some 2993) None false) ∷ [];
  assignments = (assignment A1 1 1 1 (grid 560100 180000) 3) ∷ [];
  points = (point 1 2 (grid 530000 180000) 0) ∷ [];
  loans = [];
  offers = [];
  reports =
      (report A1 1 button.Home 0 (grid 530200 180000) 1046 1 Normal Available false)
      ∷ (report A1 3 button.Mobile 1 (grid 530120 180160) 2190 1 Normal Mobilised false)
      ∷ (report A1 4 button.Hospital 1 (grid 530300 180400) 2993 1 Skipped AtHospital false) ∷ [];
}

report_at_hospital_return_normal_2 : Steps
    (at 3113 (Crew A1) (ask.Report (pressed 5 button.Return 1 (grid 531000 180000))))
    before_report_at_hospital_return_normal_2 (Ok (answer.Reported 5 Normal Returning))
    (record before_report_at_hospital_return_normal_2 {
      vehicles = (vehicle A1 1 1 Ambulance (grid 531000 180000) Returning 2000 None 1 5)
          ∷ (vehicle A2 1 1 Ambulance (grid 530200 180000) Available 3172 (Some 2) 0 0)
          ∷ (vehicle A3 7 7 Car (grid 530000 180000) OffDuty 0 None 0 0)
          ∷ [];
      turns = (turn A1 1 1 1 Ambulance 1709 (Some 2190) None None (Some 2993)
          (Some 3113) false) ∷ [];
      assignments = [];
      reports =
          (report A1 1 button.Home 0 (grid 530200 180000) 1046 1 Normal Available false)
          ∷ (report A1 3 button.Mobile 1 (grid 530120 180160) 2190 1 Normal Mobilised
          false) ∷ (report A1 4 button.Hospital 1
          (grid 530300 180400) 2993 1 Skipped AtHospital false)
          ∷ (report A1 5 button.Return 1 (grid 531000 180000) 3113 1 Normal
          Returning false) ∷ [];
    })
unfolding machine
report_at_hospital_return_normal_2 = (refl, refl)

abbrev before_report_at_hospital_return_stale : Room
before_report_at_hospital_return_stale = record {
  plan = two_divisions;
  divisions = (division 1 2) ∷ (division 2 0) ∷ [];
  incidents =
      (incident 1 1 (grid 530000 180000) 3 (needs 1 0 0) 1046 (Some 1447) Active)
      ∷ (incident 1 2 (grid 531000 180000) 3 (needs 2 0 0) 4647 None Active) ∷ [];
  calls =
      (call 1 1 1 1 1 false (grid 530000 180000) 3 (needs 1 0 0) (codes "x") 1046)
      ∷ (call 1 2 1 2 2 false (grid 531000 180000) 3 (needs 2 0 0) (codes "x") 4647) ∷ [];
  vehicles =
      (vehicle A1 1 1 Ambulance (grid 530300 180400) AtHospital 40000 None 1 2)
      ∷ (vehicle A2 1 1 Ambulance (grid 530000 180000) Available 1847 None 0 1)
      ∷ (vehicle A3 1 1 Ambulance (grid 530300 180400) Available 2000 None 0 3) ∷ [];
  turns = (turn A1 1 1 1 Ambulance 1447 None None None (Some 1567) None false) ∷ [];
  assignments = (assignment A1 1 1 1 (grid 530000 180000) 3) ∷ [];
  points = [];
  loans = [];
  offers = [];
  reports =
      (report A1 1 button.Position 0 (grid 530200 180000) 1005 1 Normal Available false)
      ∷ (report A1 2 button.Hospital 1 (grid 530300 180400) 1567 1 Skipped AtHospital false)
      ∷ (report A2 1 button.Position 0 (grid 530000 180000) 1467 1 Normal Available false)
      ∷ (report A3 2 button.Position 0 (grid 530300 180400) 1687 1 Normal Offered false)
      ∷ (report A3 3 button.Mobile 0 (grid 530000 180000) 2050 1 Wrong Offered false) ∷ [];
}

report_at_hospital_return_stale : Steps
    (at 2150 (Crew A1) (ask.Report (pressed 4 button.Return 0 (grid 530120 180160))))
    before_report_at_hospital_return_stale (Ok (answer.Reported 4 Stale AtHospital))
    (record before_report_at_hospital_return_stale {
      vehicles = (vehicle A1 1 1 Ambulance (grid 530300 180400) AtHospital 40000 None 1 4)
          ∷ (vehicle A2 1 1 Ambulance (grid 530000 180000) Available 1847 None 0 1)
          ∷ (vehicle A3 1 1 Ambulance (grid 530300 180400) Available 2000 None 0 3)
          ∷ [];
      reports = (report A1 1 button.Position 0
          (grid 530200 180000) 1005 1 Normal Available false)
          ∷ (report A1 2 button.Hospital 1 (grid 530300 180400) 1567 1 Skipped AtHospital
          false) ∷ (report A1 4 button.Return 0
          (grid 530120 180160) 2150 1 Stale AtHospital false)
          ∷ (report A2 1 button.Position 0 (grid 530000 180000) 1467 1 Normal
          Available false) ∷ (report A3 2 button.Position 0
          (grid 530300 180400) 1687 1 Normal Offered false)
          ∷ (report A3 3 button.Mobile 0 (grid 530000 180000) 2050 1
          Wrong Offered false) ∷ [];
    })
unfolding machine
report_at_hospital_return_stale = (refl, refl)

abbrev before_report_at_hospital_scene_wrong : Room
before_report_at_hospital_scene_wrong = record {
  plan = two_divisions;
  divisions = (division 1 1) ∷ (division 2 0) ∷ [];
  incidents = (incident 1 1 (grid 530100 180000) 1 (needs 2 1 1) 1180 (Some 1999) Active) ∷ [];
  calls =
      (call 1 4 1 1 1 true (grid 530100 180100) 3 (needs 1 0 0) [] 1471)
      ∷ (call 2 2 1 1 1 true (grid 530120 180160) 2 (needs 2 1 1) [] 1360)
      ∷ (call 2 6 1 1 1 false (grid 530100 180000) 1 (needs 2 1 1) [] 1180) ∷ [];
  vehicles =
      (vehicle A1 1 1 Ambulance (grid 530120 180160) Available 2000 None 0 0)
      ∷ (vehicle A2 1 1 Ambulance (grid 530100 180100) AtHospital 2000 None 1 1)
      ∷ (vehicle A3 2 2 Car (grid 531000 180000) Available 40000 None 0 0)
      ∷ (vehicle B1 1 1 Support (grid 530200 180000) OffDuty 0 None 0 0) ∷ [];
  turns = (turn A2 1 1 1 Ambulance 1999 None None None (Some 1190) None false) ∷ [];
  assignments = (assignment A2 1 1 1 (grid 530100 180000) 1) ∷ [];
  points = [];
  loans = [];
  offers = [];
  reports = (report A2 1 button.Hospital 1 (grid 530100 180100) 1190 1 Skipped AtHospital false) ∷ [];
}

report_at_hospital_scene_wrong : Steps
    (at 1713 (Crew A2) (ask.Report (pressed 2 button.Scene 1 (grid 530120 180160))))
    before_report_at_hospital_scene_wrong (Ok (answer.Reported 2 Wrong AtHospital))
    (record before_report_at_hospital_scene_wrong {
      vehicles = (vehicle A1 1 1 Ambulance (grid 530120 180160) Available 2000 None 0 0)
          ∷ (vehicle A2 1 1 Ambulance (grid 530100 180100) AtHospital 2000 None 1 2)
          ∷ (vehicle A3 2 2 Car (grid 531000 180000) Available 40000 None 0 0)
          ∷ (vehicle B1 1 1 Support (grid 530200 180000) OffDuty 0 None 0 0)
          ∷ [];
      reports = (report A2 1 button.Hospital 1
          (grid 530100 180100) 1190 1 Skipped AtHospital false)
          ∷ (report A2 2 button.Scene 1 (grid 530120 180160) 1713 1 Wrong AtHospital
          false) ∷ [];
    })
unfolding machine
report_at_hospital_scene_wrong = (refl, refl)

abbrev before_report_at_hospital_scene_wrong_2 : Room
before_report_at_hospital_scene_wrong_2 = record {
  plan = two_divisions;
  divisions = (division 1 1) ∷ (division 2 1) ∷ [];
  incidents =
      (incident 1 1 (grid 530120 180160) 3 (needs 2 1 1) 1130 (Some 2030) Active)
      ∷ (incident 2 1 (grid 560000 180000) 2 (needs 0 1 0) 1120 (Some 1110) Active) ∷ [];
  calls =
      (call 1 3 1 1 1 false (grid 530120 180160) 3 (needs 2 1 1) [] 1130)
      ∷ (call 2 5 2 1 1 false (grid 560000 180000) 2 (needs 0 1 0) [] 1120) ∷ [];
  vehicles =
      (vehicle A1 2 2 Car (grid 530100 180100) AtHospital 5000 None 1 4)
      ∷ (vehicle A2 1 1 Support (grid 530200 180000) Mobilised 6915 None 1 2)
      ∷ (vehicle A3 2 2 Car (grid 531000 180000) OffDuty 0 None 0 1) ∷ [];
  turns =
      (turn A1 1 2 1 Car 1110 (Some 1291) (Some 3817) (Some 4298) (Some 5859) None false)
      ∷ (turn A2 1 1 1 Support 2030 None None None None None false) ∷ [];
  assignments = (assignment A1 2 1 1 (grid 560000 180000) 2) ∷ (assignment A2 1 1 1 (grid 530120 180160) 3) ∷ [];
  points = [];
  loans = [];
  offers = [];
  reports =
      (report A1 1 button.Mobile 1 (grid 530300 180400) 1291 2 Normal Mobilised false)
      ∷ (report A1 2 button.Scene 1 (grid 530120 180160) 3817 2 Normal AtScene false)
      ∷ (report A1 3 button.Leave 1 (grid 530200 180000) 4298 2 Normal Leaving false)
      ∷ (report A1 4 button.Hospital 1 (grid 530100 180100) 5859 2 Normal AtHospital false)
      ∷ (report A2 1 button.Position 0 (grid 530200 180000) 3396 1 Normal Available false)
      ∷ (report A2 2 button.Return 0 (grid 530200 180000) 5428 1 Wrong Available true)
      ∷ (report A3 1 button.Leave 0 (grid 530201 180000) 2675 2 Wrong OffDuty true) ∷ [];
}

report_at_hospital_scene_wrong_2 : Steps
    (at 5860 (Crew A1) (ask.Report (pressed 6 button.Scene 1 (grid 530100 180100))))
    before_report_at_hospital_scene_wrong_2 (Ok (answer.Reported 6 Wrong AtHospital))
    (record before_report_at_hospital_scene_wrong_2 {
      vehicles = (vehicle A1 2 2 Car (grid 530100 180100) AtHospital 5000 None 1 6)
          ∷ (vehicle A2 1 1 Support (grid 530200 180000) Mobilised 6915 None 1 2)
          ∷ (vehicle A3 2 2 Car (grid 531000 180000) OffDuty 0 None 0 1)
          ∷ [];
      reports = (report A1 1 button.Mobile 1
          (grid 530300 180400) 1291 2 Normal Mobilised false)
          ∷ (report A1 2 button.Scene 1 (grid 530120 180160) 3817 2 Normal AtScene false)
          ∷ (report A1 3 button.Leave 1 (grid 530200 180000) 4298 2 Normal Leaving false)
          ∷ (report A1 4 button.Hospital 1 (grid 530100 180100) 5859 2 Normal AtHospital
          false) ∷ (report A1 6 button.Scene 1
          (grid 530100 180100) 5860 2 Wrong AtHospital false)
          ∷ (report A2 1 button.Position 0 (grid 530200 180000) 3396 1 Normal
          Available false) ∷ (report A2 2 button.Return 0
          (grid 530200 180000) 5428 1 Wrong Available true)
          ∷ (report A3 1 button.Leave 0 (grid 530201 180000) 2675 2 Wrong
          OffDuty true) ∷ [];
    })
unfolding machine
report_at_hospital_scene_wrong_2 = (refl, refl)

abbrev before_report_at_scene_home_skipped : Room
before_report_at_scene_home_skipped = record {
  plan = two_divisions;
  divisions = (division 1 4) ∷ (division 2 0) ∷ [];
  incidents = (incident 1 4 (grid 530100 180000) 1 (needs 2 1 1) 1281 (Some 2305) Active) ∷ [];
  calls =
      (call 1 1 1 4 4 true (grid 530100 180100) 2 (needs 0 0 1) [] 1761)
      ∷ (call 2 2 1 4 4 true (grid 530100 180000) 1 (needs 1 0 0) (codes "x") 1762)
      ∷ (call 2 4 1 4 4 false (grid 530100 180000) 1 (needs 1 0 0) [] 1281) ∷ [];
  vehicles =
      (vehicle A1 2 2 Ambulance (grid 530201 180000) OffDuty 41592 None 0 0)
      ∷ (vehicle A2 1 1 Car (grid 530200 180000) AtScene 2326 None 1 1)
      ∷ (vehicle A3 2 2 Ambulance (grid 530100 180000) OffDuty 0 None 0 2) ∷ [];
  turns = (turn A2 1 1 4 Car 2305 None (Some 5194) None None None false) ∷ [];
  assignments = (assignment A2 1 4 1 (grid 530100 180000) 1) ∷ [];
  points = [];
  loans = [];
  offers = [];
  reports =
      (report A2 1 button.Scene 1 (grid 530200 180000) 5194 1 Skipped AtScene false)
      ∷ (report A3 1 button.Scene 0 (grid 530100 180000) 1582 2 Wrong OffDuty false)
      ∷ (report A3 2 button.Return 0 (grid 530201 180000) 2134 2 Wrong OffDuty false) ∷ [];
}

report_at_scene_home_skipped : Steps
    (at 5174 (Crew A2) (ask.Report (pressed 3 button.Home 1 (grid 530100 180100))))
    before_report_at_scene_home_skipped (Ok (answer.Reported 3 Skipped Available))
    (record before_report_at_scene_home_skipped {
      vehicles = (vehicle A1 2 2 Ambulance (grid 530201 180000) OffDuty 41592 None 0 0)
          ∷ (vehicle A2 1 1 Car (grid 530100 180100) Available 2326 None 1 3)
          ∷ (vehicle A3 2 2 Ambulance (grid 530100 180000) OffDuty 0 None 0 2)
          ∷ [];
      turns = (turn A2 1 1 4 Car 2305 None (Some 5194) None None (Some 5174) false)
          ∷ [];
      assignments = [];
      reports =
          (report A2 1 button.Scene 1 (grid 530200 180000) 5194 1 Skipped AtScene false)
          ∷ (report A2 3 button.Home 1 (grid 530100 180100) 5174 1 Skipped Available false)
          ∷ (report A3 1 button.Scene 0 (grid 530100 180000) 1582 2 Wrong OffDuty false)
          ∷ (report A3 2 button.Return 0 (grid 530201 180000) 2134 2 Wrong OffDuty false) ∷ [];
    })
unfolding machine
report_at_scene_home_skipped = (refl, refl)

abbrev before_report_at_scene_home_skipped_2 : Room
before_report_at_scene_home_skipped_2 = record {
  plan = two_divisions;
  divisions = (division 1 2) ∷ (division 2 1) ∷ [];
  incidents =
      (incident 1 1 (grid 530200 180000) 1 (needs 1 1 0) 1900 None Active)
      ∷ (incident 1 2 (grid 530300 180400) 1 (needs 2 1 1) 2380 None Active)
      ∷ (incident 2 1 (grid 560000 180000) 2 (needs 1 0 0) 1000 (Some 1667) Active) ∷ [];
  calls =
      (call 1 3 1 1 1 true (grid 530100 180000) 2 (needs 1 1 0) [] 2405)
      ∷ (call 1 5 1 1 1 false (grid 530200 180000) 1 (needs 1 1 0) [] 1900)
      ∷ (call 2 2 1 2 2 false (grid 530300 180400) 1 (needs 2 1 1) [] 2380)
      ∷ (call 2 6 2 1 1 false (grid 560000 180000) 2 (needs 1 0 0) [] 1000) ∷ [];
  vehicles =
      (vehicle A1 2 2 Ambulance (grid 560200 180000) Available 5000 None 0 1)
      ∷ (vehicle A2 2 2 Support (grid 560000 180000) Available 5000 None 0 3)
      ∷ (vehicle A3 2 2 Ambulance (grid 530100 180000) AtScene 5000 None 1 5) ∷ [];
  turns = (turn A3 1 2 1 Ambulance 1667 (Some 1782) (Some 3508) None None None false) ∷ [];
  assignments = (assignment A3 2 1 1 (grid 560000 180000) 2) ∷ [];
  points = (point 1 2 (grid 530100 180100) 2) ∷ (point 2 2 (grid 530100 180100) 0) ∷ [];
  loans = [];
  offers = [];
  reports =
      (report A1 1 button.Mobile 0 (grid 530100 180000) 1843 2 Wrong Available false)
      ∷ (report A2 1 button.Return 0 (grid 530000 180000) 1652 2 Wrong Available false)
      ∷ (report A2 3 button.Mobile 0 (grid 530000 180000) 2424 2 Wrong Available false)
      ∷ (report A3 1 button.Mobile 0 (grid 530201 180000) 1682 2 Stale Mobilised false)
      ∷ (report A3 3 button.Mobile 1 (grid 530100 180100) 1782 2 Normal Mobilised false)
      ∷ (report A3 5 button.Scene 1 (grid 530100 180000) 3508 2 Normal AtScene false) ∷ [];
}

report_at_scene_home_skipped_2 : Steps
    (at 3509 (Crew A3) (ask.Report (pressed 6 button.Home 1 (grid 530200 180000))))
    before_report_at_scene_home_skipped_2 (Ok (answer.Reported 6 Skipped Available))
    (record before_report_at_scene_home_skipped_2 {
      vehicles = (vehicle A1 2 2 Ambulance (grid 560200 180000) Available 5000 None 0 1)
          ∷ (vehicle A2 2 2 Support (grid 560000 180000) Available 5000 None 0 3)
          ∷ (vehicle A3 2 2 Ambulance (grid 530200 180000) Available 5000 None 1 6)
          ∷ [];
      turns = (turn A3 1 2 1 Ambulance 1667 (Some 1782) (Some 3508) None None
          (Some 3509) false) ∷ [];
      assignments = [];
      reports =
          (report A1 1 button.Mobile 0 (grid 530100 180000) 1843 2 Wrong Available false)
          ∷ (report A2 1 button.Return 0 (grid 530000 180000) 1652 2 Wrong Available
          false) ∷ (report A2 3 button.Mobile 0
          (grid 530000 180000) 2424 2 Wrong Available false)
          ∷ (report A3 1 button.Mobile 0 (grid 530201 180000) 1682 2 Stale
          Mobilised false) ∷ (report A3 3 button.Mobile 1
          (grid 530100 180100) 1782 2 Normal Mobilised false)
          ∷ (report A3 5 button.Scene 1 (grid 530100 180000) 3508 2
          Normal AtScene false) ∷ (report A3 6 button.Home 1
          (grid 530200 180000) 3509 2 Skipped Available false) ∷ [];
    })
unfolding machine
report_at_scene_home_skipped_2 = (refl, refl)

abbrev before_report_at_scene_hospital_skipped : Room
before_report_at_scene_hospital_skipped = record {
  plan = two_divisions;
  divisions = (division 1 1) ∷ (division 2 0) ∷ [];
  incidents = (incident 1 1 (grid 530100 180100) 2 (needs 1 1 0) 1061 (Some 1523) Active) ∷ [];
  calls = (call 2 3 1 1 1 false (grid 530100 180100) 2 (needs 1 1 0) [] 1061) ∷ [];
  vehicles =
      (vehicle A1 1 1 Ambulance (grid 530201 180000) AtScene 5000 None 1 2)
      ∷ (vehicle A2 2 2 Ambulance (grid 530000 180000) Available 40000 None 0 2) ∷ [];
  turns = (turn A1 1 1 1 Ambulance 1523 None (Some 1684) None None None false) ∷ [];
  assignments = (assignment A1 1 1 1 (grid 530100 180100) 2) ∷ [];
  points = [];
  loans = [];
  offers = [];
  reports =
      (report A1 2 button.Scene 1 (grid 530201 180000) 1684 1 Skipped AtScene false)
      ∷ (report A2 1 button.Home 0 (grid 530000 180000) 1543 2 Normal Available false)
      ∷ (report A2 2 button.Hospital 0 (grid 531000 180000) 1704 2 Wrong Available false) ∷ [];
}

report_at_scene_hospital_skipped : Steps
    (at 1664 (Crew A1) (ask.Report (pressed 3 button.Hospital 1 (grid 530300 180400))))
    before_report_at_scene_hospital_skipped (Ok (answer.Reported 3 Skipped AtHospital))
    (record before_report_at_scene_hospital_skipped {
      vehicles = (vehicle A1 1 1 Ambulance (grid 530300 180400) AtHospital 5000 None 1 3)
          ∷ (vehicle A2 2 2 Ambulance (grid 530000 180000) Available 40000 None 0 2)
          ∷ [];
      turns = (turn A1 1 1 1 Ambulance 1523 None (Some 1684) None
          (Some 1664) None false) ∷ [];
      reports =
          (report A1 2 button.Scene 1 (grid 530201 180000) 1684 1 Skipped AtScene false)
          ∷ (report A1 3 button.Hospital 1 (grid 530300 180400) 1664 1 Skipped AtHospital
          false) ∷ (report A2 1 button.Home 0
          (grid 530000 180000) 1543 2 Normal Available false)
          ∷ (report A2 2 button.Hospital 0 (grid 531000 180000) 1704 2 Wrong
          Available false) ∷ [];
    })
unfolding machine
report_at_scene_hospital_skipped = (refl, refl)

abbrev before_report_at_scene_hospital_skipped_2 : Room
before_report_at_scene_hospital_skipped_2 = record {
  plan = two_divisions;
  divisions = (division 1 1) ∷ (division 2 0) ∷ [];
  incidents = (incident 1 1 (grid 530100 180100) 2 (needs 2 1 0) 2816 (Some 3531) Active) ∷ [];
  calls =
      (call 1 1 1 1 1 true (grid 530201 180000) 2 (needs 1 0 0) [] 3365)
      ∷ (call 2 1 1 1 1 true (grid 530000 180000) 3 (needs 2 0 0) (codes "x") 3657)
      ∷ (call 2 3 1 1 1 true (grid 530201 180000) 2 (needs 0 1 0) [] 3526)
      ∷ (call 2 5 1 1 1 false (grid 530100 180100) 2 (needs 2 0 0) (codes "x") 2816) ∷ [];
  vehicles =
      (vehicle A1 1 1 Ambulance (grid 530201 180000) AtScene 5000 None 1 7)
      ∷ (vehicle A2 1 1 Ambulance (grid 560200 180000) Available 2000 None 0 1) ∷ [];
  turns = (turn A1 1 1 1 Ambulance 3531 (Some 4012) (Some 3992) None None None false) ∷ [];
  assignments = (assignment A1 1 1 1 (grid 530100 180100) 2) ∷ [];
  points =
      (point 1 2 (grid 530120 180160) 2) ∷ (point 2 1 (grid 530120 180160) 2) ∷ (point 2 2 (grid 530200 180000) 2)
      ∷ [];
  loans = [];
  offers = [];
  reports =
      (report A1 1 button.Position 0 (grid 530100 180000) 1963 1 Normal Available false)
      ∷ (report A1 2 button.Scene 0 (grid 531000 180000) 2571 1 Wrong Available true)
      ∷ (report A1 4 button.Scene 0 (grid 530100 180100) 2576 1 Wrong Available false)
      ∷ (report A1 5 button.Mobile 1 (grid 530120 180160) 4012 1 Normal Mobilised false)
      ∷ (report A1 7 button.Scene 1 (grid 530201 180000) 3992 1 Normal AtScene false)
      ∷ (report A2 1 button.Scene 0 (grid 530300 180400) 2510 1 Wrong Available false) ∷ [];
}

report_at_scene_hospital_skipped_2 : Steps
    (at 4234 (Crew A1) (ask.Report (pressed 9 button.Hospital 1 (grid 530100 180000))))
    before_report_at_scene_hospital_skipped_2 (Ok (answer.Reported 9 Skipped AtHospital))
    (record before_report_at_scene_hospital_skipped_2 {
      vehicles = (vehicle A1 1 1 Ambulance (grid 530100 180000) AtHospital 5000 None 1 9)
          ∷ (vehicle A2 1 1 Ambulance (grid 560200 180000) Available 2000 None 0 1)
          ∷ [];
      turns = (turn A1 1 1 1 Ambulance 3531 (Some 4012) (Some 3992) None
          (Some 4234) None false) ∷ [];
      reports =
          (report A1 1 button.Position 0 (grid 530100 180000) 1963 1 Normal Available
          false) ∷ (report A1 2 button.Scene 0
          (grid 531000 180000) 2571 1 Wrong Available true)
          ∷ (report A1 4 button.Scene 0 (grid 530100 180100) 2576 1 Wrong
          Available false) ∷ (report A1 5 button.Mobile 1
          (grid 530120 180160) 4012 1 Normal Mobilised false)
          ∷ (report A1 7 button.Scene 1 (grid 530201 180000) 3992 1
          Normal AtScene false) ∷ (report A1 9 button.Hospital 1
          (grid 530100 180000) 4234 1 Skipped AtHospital false)
          ∷ (report A2 1 button.Scene 0 (grid 530300 180400) 2510
          1 Wrong Available false) ∷ [];
    })
unfolding machine
report_at_scene_hospital_skipped_2 = (refl, refl)

abbrev before_report_at_scene_leave_late : Room
before_report_at_scene_leave_late = record {
  plan = overlapping_divisions;
  divisions = (division 1 2) ∷ (division 7 0) ∷ [];
  incidents =
      (incident 1 1 (grid 531000 180000) 3 (needs 2 0 0) 1182 (Some 1784) Active)
      ∷ (incident 1 2 (grid 530200 180000) 3 (needs 0 0 1) 2082 None Active) ∷ [];
  calls =
      (call 1 6 1 2 2 false (grid 530200 180000) 3 (needs 0 0 1) (codes "x") 2082)
      ∷ (call 2 1 1 1 1 false (grid 531000 180000) 3 (needs 2 0 0) [] 1182) ∷ [];
  vehicles =
      (vehicle A1 7 7 Ambulance (grid 530120 180160) Available 2000 None 0 2)
      ∷ (vehicle A2 1 1 Ambulance (grid 530100 180100) AtScene 5000 None 1 2) ∷ [];
  turns = (turn A2 1 1 1 Ambulance 1784 None (Some 2506) None None None false) ∷ [];
  assignments = (assignment A2 1 1 1 (grid 531000 180000) 3) ∷ [];
  points = [];
  loans = [];
  offers = [];
  reports =
      (report A1 2 button.Home 0 (grid 530120 180160) 1483 7 Normal Available false)
      ∷ (report A2 2 button.Scene 1 (grid 530100 180100) 2506 1 Skipped AtScene false) ∷ [];
}

report_at_scene_leave_late : Steps
    (at 2987 (Crew A2) (ask.Report (pressed 1 button.Leave 0 (grid 530100 180100))))
    before_report_at_scene_leave_late (Ok (answer.Reported 1 Late AtScene))
    (record before_report_at_scene_leave_late {
      reports = (report A1 2 button.Home 0 (grid 530120 180160) 1483 7 Normal Available false)
          ∷ (report A2 1 button.Leave 0 (grid 530100 180100) 2987 1 Late AtScene false)
          ∷ (report A2 2 button.Scene 1 (grid 530100 180100) 2506 1 Skipped AtScene false) ∷ [];
    })
unfolding machine
report_at_scene_leave_late = (refl, refl)

abbrev before_report_at_scene_leave_normal : Room
before_report_at_scene_leave_normal = record {
  plan = overlapping_divisions;
  divisions = (division 1 1) ∷ (division 7 3) ∷ [];
  incidents = (incident 1 1 (grid 530100 180100) 3 (needs 1 1 0) 1301 (Some 1421) Active) ∷ [];
  calls = (call 2 3 1 1 1 false (grid 530100 180100) 3 (needs 1 1 0) [] 1301) ∷ [];
  vehicles =
      (vehicle A1 7 7 Ambulance (grid 560100 180000) Available 40000 None 0 0)
      ∷ (vehicle A2 1 1 Car (grid 531000 180000) Available 2000 None 0 0)
      ∷ (vehicle A3 1 1 Car (grid 530200 180000) AtScene 40000 None 1 2) ∷ [];
  turns = (turn A3 1 1 1 Car 1421 (Some 1422) (Some 1903) None None None false) ∷ [];
  assignments = (assignment A3 1 1 1 (grid 530100 180100) 3) ∷ [];
  points = [];
  loans = [];
  offers = [];
  reports =
      (report A3 1 button.Mobile 1 (grid 530201 180000) 1422 1 Normal Mobilised false)
      ∷ (report A3 2 button.Scene 1 (grid 530200 180000) 1903 1 Normal AtScene false) ∷ [];
}

report_at_scene_leave_normal : Steps
    (at 1964 (Crew A3) (ask.Report (pressed 4 button.Leave 1 (grid 530120 180160))))
    before_report_at_scene_leave_normal (Ok (answer.Reported 4 Normal Leaving))
    (record before_report_at_scene_leave_normal {
      vehicles = (vehicle A1 7 7 Ambulance (grid 560100 180000) Available 40000 None 0 0)
          ∷ (vehicle A2 1 1 Car (grid 531000 180000) Available 2000 None 0 0)
          ∷ (vehicle A3 1 1 Car (grid 530120 180160) Leaving 40000 None 1 4)
          ∷ [];
      turns = (turn A3 1 1 1 Car 1421 (Some 1422) (Some 1903)
          (Some 1964) None None false) ∷ [];
      reports =
          (report A3 1 button.Mobile 1 (grid 530201 180000) 1422 1 Normal Mobilised
          false) ∷ (report A3 2 button.Scene 1
          (grid 530200 180000) 1903 1 Normal AtScene false)
          ∷ (report A3 4 button.Leave 1 (grid 530120 180160) 1964 1 Normal
          Leaving false) ∷ [];
    })
unfolding machine
report_at_scene_leave_normal = (refl, refl)

abbrev before_report_at_scene_leave_normal_2 : Room
before_report_at_scene_leave_normal_2 = record {
  plan = two_divisions;
  divisions = (division 1 1) ∷ (division 2 3) ∷ [];
  incidents = (incident 1 1 (grid 531000 180000) 2 (needs 2 1 1) 1421 (Some 2605) Active) ∷ [];
  calls = (call 2 5 1 1 1 false (grid 531000 180000) 2 (needs 2 1 1) (codes "x") 1421) ∷ [];
  vehicles =
      (vehicle A1 1 1 Ambulance (grid 530100 180000) AtScene 40000 None 1 2)
      ∷ (vehicle A2 1 1 Ambulance (grid 530300 180400) Available 2000 None 0 0)
      ∷ (vehicle A3 2 2 Ambulance (grid 530200 180000) OffDuty 0 None 0 0) ∷ [];
  turns = (turn A1 1 1 1 Ambulance 2605 None (Some 3087) None None None false) ∷ [];
  assignments = (assignment A1 1 1 1 (grid 531000 180000) 2) ∷ [];
  points = (point 2 1 (grid 530120 180160) 0) ∷ [];
  loans = [];
  offers = [];
  reports =
      (report A1 1 button.Mobile 0 (grid 530300 180400) 1421 1 Wrong Available true)
      ∷ (report A1 2 button.Scene 1 (grid 530100 180000) 3087 1 Skipped AtScene false) ∷ [];
}

report_at_scene_leave_normal_2 : Steps
    (at 3092 (Crew A1) (ask.Report (pressed 3 button.Leave 1 (grid 531000 180000))))
    before_report_at_scene_leave_normal_2 (Ok (answer.Reported 3 Normal Leaving))
    (record before_report_at_scene_leave_normal_2 {
      vehicles = (vehicle A1 1 1 Ambulance (grid 531000 180000) Leaving 40000 None 1 3)
          ∷ (vehicle A2 1 1 Ambulance (grid 530300 180400) Available 2000 None 0 0)
          ∷ (vehicle A3 2 2 Ambulance (grid 530200 180000) OffDuty 0 None 0 0)
          ∷ [];
      turns = (turn A1 1 1 1 Ambulance 2605 None (Some 3087)
          (Some 3092) None None false) ∷ [];
      reports =
          (report A1 1 button.Mobile 0 (grid 530300 180400) 1421 1 Wrong Available true)
          ∷ (report A1 2 button.Scene 1 (grid 530100 180000) 3087 1 Skipped AtScene
          false) ∷ (report A1 3 button.Leave 1
          (grid 531000 180000) 3092 1 Normal Leaving false) ∷ [];
    })
unfolding machine
report_at_scene_leave_normal_2 = (refl, refl)

abbrev before_report_at_scene_mobile_wrong : Room
before_report_at_scene_mobile_wrong = record {
  plan = two_divisions;
  divisions = (division 1 4) ∷ (division 2 0) ∷ [];
  incidents = (incident 1 4 (grid 530100 180000) 1 (needs 1 0 0) 1603 (Some 1784) Active) ∷ [];
  calls = (call 2 5 1 4 4 false (grid 530100 180000) 1 (needs 1 0 0) [] 1603) ∷ [];
  vehicles =
      (vehicle A1 1 1 Ambulance (grid 530200 180000) Available 2000 None 0 1)
      ∷ (vehicle A2 2 2 Ambulance (grid 530100 180100) OffDuty 0 None 0 0)
      ∷ (vehicle A3 1 1 Ambulance (grid 530201 180000) AtScene 5000 None 1 1)
      ∷ (vehicle B1 2 2 Ambulance (grid 531000 180000) Available 5512 None 2147483647 1) ∷ [];
  turns = (turn A3 1 1 4 Ambulance 1784 None (Some 1995) None None None false) ∷ [];
  assignments = (assignment A3 1 4 1 (grid 530100 180000) 1) ∷ [];
  points = [];
  loans = [];
  offers = [];
  reports =
      (report A1 1 button.Scene 0 (grid 530300 180400) 2235 1 Wrong Available false)
      ∷ (report A3 1 button.Scene 1 (grid 530201 180000) 1995 1 Skipped AtScene false)
      ∷ (report B1 1 button.Leave 2147483647 (grid 530201 180000) 1814 2 Wrong Available false) ∷ [];
}

report_at_scene_mobile_wrong : Steps
    (at 2296 (Crew A3) (ask.Report (pressed 2 button.Mobile 1 (grid 531000 180000))))
    before_report_at_scene_mobile_wrong (Ok (answer.Reported 2 Wrong AtScene))
    (record before_report_at_scene_mobile_wrong {
      vehicles = (vehicle A1 1 1 Ambulance (grid 530200 180000) Available 2000 None 0 1)
          ∷ (vehicle A2 2 2 Ambulance (grid 530100 180100) OffDuty 0 None 0 0)
          ∷ (vehicle A3 1 1 Ambulance (grid 530201 180000) AtScene 5000 None 1 2)
          ∷ (vehicle B1 2 2 Ambulance (grid 531000 180000) Available 5512 None 2147483647 1)
          ∷ [];
      reports = (report A1 1 button.Scene 0
          (grid 530300 180400) 2235 1 Wrong Available false)
          ∷ (report A3 1 button.Scene 1 (grid 530201 180000) 1995 1 Skipped AtScene
          false) ∷ (report A3 2 button.Mobile 1
          (grid 531000 180000) 2296 1 Wrong AtScene false)
          ∷ (report B1 1 button.Leave 2147483647
          (grid 530201 180000) 1814 2 Wrong Available false) ∷ [];
    })
unfolding machine
report_at_scene_mobile_wrong = (refl, refl)

abbrev before_report_at_scene_mobile_wrong_2 : Room
before_report_at_scene_mobile_wrong_2 = record {
  plan = two_divisions;
  divisions = (division 1 2) ∷ (division 2 0) ∷ [];
  incidents =
      (incident 1 1 (grid 530100 180100) 2 (needs 1 0 0) 1000 (Some 2025) Active)
      ∷ (incident 1 2 (grid 530100 180100) 2 (needs 0 1 0) 1901 None Active) ∷ [];
  calls =
      (call 1 3 1 1 1 false (grid 530100 180100) 2 (needs 1 0 0) [] 1000)
      ∷ (call 2 2 1 2 2 false (grid 530100 180100) 2 (needs 0 1 0) [] 1901) ∷ [];
  vehicles =
      (vehicle A1 2 2 Ambulance (grid 560000 180000) Available 5000 None 2147483647 0)
      ∷ (vehicle A2 2 2 Ambulance (grid 530100 180100) Available 5000 None 0 1)
      ∷ (vehicle A3 1 1 Ambulance (grid 530120 180160) AtScene 2344 None 1 5) ∷ [];
  turns = (turn A3 1 1 1 Ambulance 2025 (Some 2005) (Some 2006) None None None false) ∷ [];
  assignments = (assignment A3 1 1 1 (grid 530100 180100) 2) ∷ [];
  points = (point 2 1 (grid 530300 180400) 2) ∷ (point 2 2 (grid 530300 180400) 0) ∷ [];
  loans = [];
  offers = [];
  reports =
      (report A2 1 button.Leave 0 (grid 530201 180000) 2528 2 Wrong Available false)
      ∷ (report A3 1 button.Scene 0 (grid 531000 180000) 1663 1 Wrong OffDuty false)
      ∷ (report A3 3 button.Home 0 (grid 530000 180000) 1844 1 Wrong OffDuty false)
      ∷ (report A3 4 button.Mobile 1 (grid 530120 180160) 2005 1 Normal Mobilised false)
      ∷ (report A3 5 button.Scene 1 (grid 530120 180160) 2006 1 Normal AtScene false) ∷ [];
}

report_at_scene_mobile_wrong_2 : Steps
    (at 2558 (Crew A3) (ask.Report (pressed 7 button.Mobile 1 (grid 530100 180100))))
    before_report_at_scene_mobile_wrong_2 (Ok (answer.Reported 7 Wrong AtScene))
    (record before_report_at_scene_mobile_wrong_2 {
      vehicles = (vehicle A1 2 2 Ambulance
          (grid 560000 180000) Available 5000 None 2147483647 0)
          ∷ (vehicle A2 2 2 Ambulance (grid 530100 180100) Available 5000 None 0 1)
          ∷ (vehicle A3 1 1 Ambulance (grid 530120 180160) AtScene 2344 None 1 7)
          ∷ [];
      reports = (report A2 1 button.Leave 0
          (grid 530201 180000) 2528 2 Wrong Available false)
          ∷ (report A3 1 button.Scene 0 (grid 531000 180000) 1663 1 Wrong OffDuty
          false) ∷ (report A3 3 button.Home 0
          (grid 530000 180000) 1844 1 Wrong OffDuty false)
          ∷ (report A3 4 button.Mobile 1 (grid 530120 180160) 2005 1 Normal
          Mobilised false) ∷ (report A3 5 button.Scene 1
          (grid 530120 180160) 2006 1 Normal AtScene false)
          ∷ (report A3 7 button.Mobile 1 (grid 530100 180100) 2558 1
          Wrong AtScene false) ∷ [];
    })
unfolding machine
report_at_scene_mobile_wrong_2 = (refl, refl)

abbrev before_report_at_scene_position_normal : Room
before_report_at_scene_position_normal = record {
  plan = overlapping_divisions;
  divisions = (division 1 4) ∷ (division 7 0) ∷ [];
  incidents = (incident 1 4 (grid 530100 180000) 1 (needs 2 1 1) 1061 (Some 1122) Active) ∷ [];
  calls = (call 2 2 1 4 4 false (grid 530100 180000) 1 (needs 2 1 1) [] 1061) ∷ [];
  vehicles =
      (vehicle A1 7 7 Support (grid 530120 180160) Available 2000 None 0 0)
      ∷ (vehicle A2 1 1 Ambulance (grid 530100 180100) AtScene 40000 None 1 2) ∷ [];
  turns = (turn A2 1 1 4 Ambulance 1122 (Some 1545) (Some 1847) None None None false) ∷ [];
  assignments = (assignment A2 1 4 1 (grid 530100 180000) 1) ∷ [];
  points = [];
  loans = [];
  offers = [];
  reports =
      (report A2 1 button.Mobile 1 (grid 530200 180000) 1545 1 Normal Mobilised false)
      ∷ (report A2 2 button.Scene 1 (grid 530100 180100) 1847 1 Normal AtScene false) ∷ [];
}

report_at_scene_position_normal : Steps
    (at 1852 (Crew A2) (ask.Report (pressed 3 button.Position 1 (grid 530000 180000))))
    before_report_at_scene_position_normal (Ok (answer.Reported 3 Normal AtScene))
    (record before_report_at_scene_position_normal {
      vehicles = (vehicle A1 7 7 Support (grid 530120 180160) Available 2000 None 0 0)
          ∷ (vehicle A2 1 1 Ambulance (grid 530000 180000) AtScene 40000 None 1 3)
          ∷ [];
      reports = (report A2 1 button.Mobile 1
          (grid 530200 180000) 1545 1 Normal Mobilised false)
          ∷ (report A2 2 button.Scene 1 (grid 530100 180100) 1847 1 Normal AtScene false)
          ∷ (report A2 3 button.Position 1 (grid 530000 180000) 1852 1 Normal AtScene
          false) ∷ [];
    })
unfolding machine
report_at_scene_position_normal = (refl, refl)

abbrev before_report_at_scene_position_normal_2 : Room
before_report_at_scene_position_normal_2 = record {
  plan = overlapping_divisions;
  divisions = (division 1 2) ∷ (division 7 0) ∷ [];
  incidents =
      (incident 1 1 (grid 530100 180100) 2 (needs 1 1 0) 1000 (Some 1051) Active)
      ∷ (incident 1 2 (grid 560100 180000) 2 (needs 0 0 1) 4600 None Active) ∷ [];
  calls =
      (call 1 4 1 2 2 false (grid 560100 180000) 2 (needs 0 0 1) [] 4600)
      ∷ (call 1 6 1 1 1 true (grid 530201 180000) 2 (needs 0 1 0) [] 1046)
      ∷ (call 2 3 1 1 1 false (grid 530100 180100) 3 (needs 1 1 0) [] 1000) ∷ [];
  vehicles =
      (vehicle A1 7 7 Support (grid 530200 180000) Available 40000 None 2147483647 1)
      ∷ (vehicle A2 1 1 Ambulance (grid 531000 180000) AtScene 40000 None 1 2)
      ∷ (vehicle A3 7 7 Support (grid 530300 180400) Offered 5000 None 0 0) ∷ [];
  turns = (turn A2 1 1 1 Ambulance 1051 None (Some 1178) None None None false) ∷ [];
  assignments = (assignment A2 1 1 1 (grid 530100 180100) 2) ∷ [];
  points = (point 7 2 (grid 531000 180000) 1) ∷ [];
  loans = [];
  offers = (offer A3 7 1 1163 1563) ∷ [];
  reports =
      (report A1 1 button.Position 2147483647 (grid 530200 180000) 1147 7 Normal Available false)
      ∷ (report A2 2 button.Scene 1 (grid 531000 180000) 1178 1 Skipped AtScene false) ∷ [];
}

report_at_scene_position_normal_2 : Steps
    (at 1148 (Crew A2) (ask.Report (pressed 3 button.Position 1 (grid 530120 180160))))
    before_report_at_scene_position_normal_2 (Ok (answer.Reported 3 Normal AtScene))
    (record before_report_at_scene_position_normal_2 {
      vehicles = (vehicle A1 7 7 Support
          (grid 530200 180000) Available 40000 None 2147483647 1)
          ∷ (vehicle A2 1 1 Ambulance (grid 530120 180160) AtScene 40000 None 1 3)
          ∷ (vehicle A3 7 7 Support (grid 530300 180400) Offered 5000 None 0 0)
          ∷ [];
      reports = (report A1 1 button.Position 2147483647
          (grid 530200 180000) 1147 7 Normal Available false)
          ∷ (report A2 2 button.Scene 1 (grid 531000 180000) 1178 1 Skipped AtScene
          false) ∷ (report A2 3 button.Position 1
          (grid 530120 180160) 1148 1 Normal AtScene false) ∷ [];
    })
unfolding machine
report_at_scene_position_normal_2 = (refl, refl)

abbrev before_report_at_scene_return_normal : Room
before_report_at_scene_return_normal = record {
  plan = two_divisions;
  divisions = (division 1 2147483647) ∷ (division 2 2147483646) ∷ [];
  incidents = (incident 1 2147483647 (grid 530100 180100) 2 (needs 2 1 1) 1062 (Some 1072) Active) ∷ [];
  calls = (call 1 4 1 2147483647 2147483647 false (grid 530100 180100) 2 (needs 2 1 1) [] 1062) ∷ [];
  vehicles =
      (vehicle A1 2 2 Ambulance (grid 530200 180000) Offered 40000 None 0 0)
      ∷ (vehicle A2 1 1 Ambulance (grid 530201 180000) AtScene 5000 None 1 2)
      ∷ (vehicle A3 2 2 Ambulance (grid 531000 180000) OffDuty 0 None 0 0) ∷ [];
  turns = (turn A2 1 1 2147483647 Ambulance 1072 None (Some 1052) None None None false) ∷ [];
  assignments = (assignment A2 1 2147483647 1 (grid 530100 180100) 2) ∷ [];
  points = [];
  loans = [];
  offers = (offer A1 2 1 1073 1173) ∷ [];
  reports = (report A2 2 button.Scene 1 (grid 530201 180000) 1052 1 Skipped AtScene false) ∷ [];
}

report_at_scene_return_normal : Steps
    (at 1194 (Crew A2) (ask.Report (pressed 4 button.Return 1 (grid 530200 180000))))
    before_report_at_scene_return_normal (Ok (answer.Reported 4 Normal Returning))
    (record before_report_at_scene_return_normal {
      vehicles = (vehicle A1 2 2 Ambulance (grid 530200 180000) Offered 40000 None 0 0)
          ∷ (vehicle A2 1 1 Ambulance (grid 530200 180000) Returning 5000 None 1 4)
          ∷ (vehicle A3 2 2 Ambulance (grid 531000 180000) OffDuty 0 None 0 0)
          ∷ [];
      turns = (turn A2 1 1 2147483647 Ambulance 1072 None (Some 1052) None None
          (Some 1194) false) ∷ [];
      assignments = [];
      reports =
          (report A2 2 button.Scene 1 (grid 530201 180000) 1052 1 Skipped AtScene false)
          ∷ (report A2 4 button.Return 1 (grid 530200 180000) 1194 1 Normal Returning
          false) ∷ [];
    })
unfolding machine
report_at_scene_return_normal = (refl, refl)

abbrev before_report_at_scene_return_normal_2 : Room
before_report_at_scene_return_normal_2 = record {
  plan = two_divisions;
  divisions = (division 1 2) ∷ (division 2 2) ∷ [];
  incidents =
      (incident 1 1 (grid 530200 180000) 1 (needs 2 1 1) 1222 None Active)
      ∷ (incident 1 2 (grid 530100 180000) 3 (needs 2 1 1) 3482 None Active)
      ∷ (incident 2 1 (grid 560100 180000) 3 (needs 1 1 0) 1703 (Some 3054) Active)
      ∷ (incident 2 2 (grid 560100 180000) 3 (needs 0 0 1) 2604 None Active) ∷ [];
  calls =
      (call 1 2 1 1 1 false (grid 530200 180000) 3 (needs 0 0 1) [] 1222)
      ∷ (call 1 3 1 2 2 false (grid 530100 180000) 3 (needs 2 1 1) (codes "x") 3482)
      ∷ (call 1 4 1 1 1 true (grid 530100 180100) 1 (needs 2 1 1) (codes "x") 2106)
      ∷ (call 1 6 2 2 2 false (grid 560100 180000) 3 (needs 0 0 1) [] 2604)
      ∷ (call 2 5 2 1 1 false (grid 560100 180000) 3 (needs 1 0 0) [] 1703)
      ∷ (call 2 6 1 1 1 true (grid 530100 180000) 2 (needs 0 0 1) [] 2122) ∷ [];
  vehicles =
      (vehicle A1 2 2 Ambulance (grid 530100 180000) AtScene 40000 None 1 4)
      ∷ (vehicle A2 1 1 Support (grid 530000 180000) Available 7574 None 0 9)
      ∷ (vehicle A3 1 1 Ambulance (grid 530100 180100) Available 43255 None 0 3) ∷ [];
  turns = (turn A1 1 2 1 Ambulance 3054 (Some 3483) (Some 3513) None None None false) ∷ [];
  assignments = (assignment A1 2 1 1 (grid 560100 180000) 3) ∷ [];
  points = (point 1 2 (grid 530000 180000) 2) ∷ (point 2 2 (grid 530120 180160) 0) ∷ [];
  loans = [];
  offers = [];
  reports =
      (report A1 1 button.Mobile 0 (grid 530300 180400) 1211 2 Wrong Available false)
      ∷ (report A1 2 button.Mobile 1 (grid 530000 180000) 3483 2 Normal Mobilised false)
      ∷ (report A1 4 button.Scene 1 (grid 530100 180000) 3513 2 Normal AtScene false)
      ∷ (report A2 1 button.Leave 0 (grid 531000 180000) 1221 1 Wrong OffDuty false)
      ∷ (report A2 2 button.Scene 0 (grid 530100 180000) 2105 1 Wrong OffDuty false)
      ∷ (report A2 4 button.Scene 0 (grid 530120 180160) 2443 1 Wrong OffDuty false)
      ∷ (report A2 5 button.Hospital 0 (grid 530120 180160) 2453 1 Wrong OffDuty false)
      ∷ (report A2 7 button.Leave 0 (grid 530200 180000) 3265 1 Wrong OffDuty false)
      ∷ (report A2 9 button.Home 0 (grid 530201 180000) 3301 1 Wrong OffDuty false)
      ∷ (report A3 2 button.Scene 0 (grid 530100 180100) 2107 1 Wrong OffDuty false)
      ∷ (report A3 3 button.Leave 0 (grid 530100 180100) 2288 1 Wrong OffDuty false) ∷ [];
}

report_at_scene_return_normal_2 : Steps
    (at 3575 (Crew A1) (ask.Report (pressed 5 button.Return 1 (grid 530120 180160))))
    before_report_at_scene_return_normal_2 (Ok (answer.Reported 5 Normal Returning))
    (record before_report_at_scene_return_normal_2 {
      vehicles = (vehicle A1 2 2 Ambulance (grid 530120 180160) Returning 40000 None 1 5)
          ∷ (vehicle A2 1 1 Support (grid 530000 180000) Available 7574 None 0 9)
          ∷ (vehicle A3 1 1 Ambulance (grid 530100 180100) Available 43255 None 0 3)
          ∷ [];
      turns = (turn A1 1 2 1 Ambulance 3054 (Some 3483) (Some 3513) None None
          (Some 3575) false) ∷ [];
      assignments = [];
      reports =
          (report A1 1 button.Mobile 0 (grid 530300 180400) 1211 2 Wrong Available false)
          ∷ (report A1 2 button.Mobile 1 (grid 530000 180000) 3483 2 Normal Mobilised
          false) ∷ (report A1 4 button.Scene 1
          (grid 530100 180000) 3513 2 Normal AtScene false)
          ∷ (report A1 5 button.Return 1 (grid 530120 180160) 3575 2 Normal
          Returning false) ∷ (report A2 1 button.Leave 0
          (grid 531000 180000) 1221 1 Wrong OffDuty false)
          ∷ (report A2 2 button.Scene 0 (grid 530100 180000) 2105 1 Wrong
          OffDuty false) ∷ (report A2 4 button.Scene 0
          (grid 530120 180160) 2443 1 Wrong OffDuty false)
          ∷ (report A2 5 button.Hospital 0 (grid 530120 180160)
          2453 1 Wrong OffDuty false) ∷ (report A2 7 button.Leave 0 (grid 530200 180000) 3265 1 Wrong OffDuty false)
          ∷ (report A2 9 button.Home 0 (grid 530201 180000) 3301 1 Wrong OffDuty false)
          ∷ (report A3 2 button.Scene 0 (grid 530100 180100) 2107 1 Wrong OffDuty false)
          ∷ (report A3 3 button.Leave 0 (grid 530100 180100) 2288 1 Wrong OffDuty false) ∷ [];
    })
unfolding machine
report_at_scene_return_normal_2 = (refl, refl)

abbrev before_report_at_scene_return_stale : Room
before_report_at_scene_return_stale = record {
  plan = overlapping_divisions;
  divisions = (division 1 1) ∷ (division 7 0) ∷ [];
  incidents = (incident 1 1 (grid 530120 180160) 1 (needs 2 0 0) 990 (Some 1282) Active) ∷ [];
  calls =
      (call 1 1 1 1 1 false (grid 530120 180160) 2 (needs 2 0 0) [] 990)
      ∷ (call 1 2 1 1 1 true (grid 530120 180160) 1 (needs 2 0 0) (codes "x") 1890) ∷ [];
  vehicles =
      (vehicle A1 7 7 Car (grid 530100 180000) OffDuty 0 None 0 1)
      ∷ (vehicle A2 1 1 Ambulance (grid 530100 180000) AtScene 1505 None 1 3)
      ∷ (vehicle A3 7 7 Car (grid 530200 180000) Available 5000 None 0 1)
      ∷ (vehicle B1 7 7 Support (grid 530100 180100) Available 41010 None 0 0) ∷ [];
  turns = (turn A2 1 1 1 Ambulance 1282 None (Some 1287) None None None false) ∷ [];
  assignments = (assignment A2 1 1 1 (grid 530120 180160) 1) ∷ [];
  points = [];
  loans = [];
  offers = [];
  reports =
      (report A1 1 button.Scene 0 (grid 530300 180400) 1317 7 Wrong OffDuty false)
      ∷ (report A2 1 button.Scene 0 (grid 530100 180000) 1020 1 Wrong Available false)
      ∷ (report A2 2 button.Hospital 0 (grid 530100 180000) 1201 1 Wrong Available false)
      ∷ (report A2 3 button.Scene 1 (grid 530100 180000) 1287 1 Skipped AtScene false)
      ∷ (report A3 1 button.Return 0 (grid 530200 180000) 1301 7 Wrong Available false) ∷ [];
}

report_at_scene_return_stale : Steps
    (at 1799 (Crew A2) (ask.Report (pressed 4 button.Return 0 (grid 530100 180100))))
    before_report_at_scene_return_stale (Ok (answer.Reported 4 Stale AtScene))
    (record before_report_at_scene_return_stale {
      vehicles = (vehicle A1 7 7 Car (grid 530100 180000) OffDuty 0 None 0 1)
          ∷ (vehicle A2 1 1 Ambulance (grid 530100 180000) AtScene 1505 None 1 4)
          ∷ (vehicle A3 7 7 Car (grid 530200 180000) Available 5000 None 0 1)
          ∷ (vehicle B1 7 7 Support (grid 530100 180100) Available 41010 None 0 0)
          ∷ [];
      reports = (report A1 1 button.Scene 0
          (grid 530300 180400) 1317 7 Wrong OffDuty false)
          ∷ (report A2 1 button.Scene 0 (grid 530100 180000) 1020 1 Wrong Available
          false) ∷ (report A2 2 button.Hospital 0
          (grid 530100 180000) 1201 1 Wrong Available false)
          ∷ (report A2 3 button.Scene 1 (grid 530100 180000) 1287 1 Skipped
          AtScene false) ∷ (report A2 4 button.Return 0
          (grid 530100 180100) 1799 1 Stale AtScene false)
          ∷ (report A3 1 button.Return 0 (grid 530200 180000) 1301 7
          Wrong Available false) ∷ [];
    })
unfolding machine
report_at_scene_return_stale = (refl, refl)

abbrev before_report_at_scene_scene_normal : Room
before_report_at_scene_scene_normal = record {
  plan = two_divisions;
  divisions = (division 1 2147483647) ∷ (division 2 2147483647) ∷ [];
  incidents = (incident 1 2147483647 (grid 530100 180100) 2 (needs 1 0 0) 1362 (Some 1524) Active) ∷ [];
  calls = (call 1 3 1 2147483647 2147483647 false (grid 530100 180100) 2 (needs 1 0 0) (codes "x") 1362) ∷ [];
  vehicles =
      (vehicle A1 2 2 Car (grid 530200 180000) Available 40000 None 0 1)
      ∷ (vehicle A2 1 1 Ambulance (grid 530300 180400) AtScene 2000 None 1 1)
      ∷ (vehicle A3 2 2 Car (grid 560000 180000) Available 40000 None 0 0) ∷ [];
  turns = (turn A2 1 1 2147483647 Ambulance 1524 None (Some 2792) None None None false) ∷ [];
  assignments = (assignment A2 1 2147483647 1 (grid 530100 180100) 2) ∷ [];
  points = [];
  loans = [];
  offers = [];
  reports =
      (report A1 1 button.Return 0 (grid 530100 180000) 2486 2 Wrong Available false)
      ∷ (report A2 1 button.Scene 1 (grid 530300 180400) 2792 1 Skipped AtScene false) ∷ [];
}

report_at_scene_scene_normal : Steps
    (at 2802 (Crew A2) (ask.Report (pressed 2 button.Scene 1 (grid 530100 180000))))
    before_report_at_scene_scene_normal (Ok (answer.Reported 2 Normal AtScene))
    (record before_report_at_scene_scene_normal {
      vehicles = (vehicle A1 2 2 Car (grid 530200 180000) Available 40000 None 0 1)
          ∷ (vehicle A2 1 1 Ambulance (grid 530100 180000) AtScene 2000 None 1 2)
          ∷ (vehicle A3 2 2 Car (grid 560000 180000) Available 40000 None 0 0)
          ∷ [];
      reports = (report A1 1 button.Return 0
          (grid 530100 180000) 2486 2 Wrong Available false)
          ∷ (report A2 1 button.Scene 1 (grid 530300 180400) 2792 1 Skipped AtScene
          false) ∷ (report A2 2 button.Scene 1
          (grid 530100 180000) 2802 1 Normal AtScene false) ∷ [];
    })
unfolding machine
report_at_scene_scene_normal = (refl, refl)

abbrev before_report_at_scene_scene_normal_2 : Room
before_report_at_scene_scene_normal_2 = record {
  plan = overlapping_divisions;
  divisions = (division 1 3) ∷ (division 7 0) ∷ [];
  incidents =
      (incident 1 1 (grid 530100 180100) 2 (needs 2 1 1) 1282 (Some 1707) Active)
      ∷ (incident 1 2 (grid 530300 180400) 1 (needs 0 1 1) 1344 None Active)
      ∷ (incident 1 3 (grid 531000 180000) 2 (needs 1 0 0) 1524 (Some 3779) Active) ∷ [];
  calls =
      (call 1 2 1 2 2 false (grid 530300 180400) 1 (needs 0 1 0) [] 1344)
      ∷ (call 1 6 1 3 3 false (grid 531000 180000) 2 (needs 1 0 0) [] 1524)
      ∷ (call 2 2 1 1 1 true (grid 530100 180100) 2 (needs 2 1 1) [] 2123)
      ∷ (call 2 3 1 2 2 true (grid 530300 180400) 2 (needs 0 1 0) (codes "x") 1824)
      ∷ (call 2 6 1 1 1 false (grid 530100 180100) 2 (needs 1 1 0) [] 1282) ∷ [];
  vehicles =
      (vehicle A1 1 1 Ambulance (grid 531000 180000) AtScene 5000 None 1 5)
      ∷ (vehicle A2 7 7 Ambulance (grid 531000 180000) Available 5000 None 0 5)
      ∷ (vehicle A3 7 7 Ambulance (grid 530000 180000) Available 40000 None 1 3) ∷ [];
  turns =
      (turn A1 1 1 3 Ambulance 3779 (Some 4742) (Some 4757) None None None false)
      ∷ (turn A3 1 1 1 Ambulance 1707 None None None None (Some 2556) false) ∷ [];
  assignments = (assignment A1 1 3 1 (grid 531000 180000) 2) ∷ [];
  points = (point 7 1 (grid 530120 180160) 1) ∷ [];
  loans = [];
  offers = [];
  reports =
      (report A1 1 button.Home 0 (grid 530300 180400) 2143 1 Normal Offered false)
      ∷ (report A1 2 button.Home 0 (grid 531000 180000) 3774 1 Normal Available false)
      ∷ (report A1 3 button.Mobile 1 (grid 530000 180000) 4742 1 Normal Mobilised false)
      ∷ (report A1 5 button.Scene 1 (grid 531000 180000) 4757 1 Normal AtScene false)
      ∷ (report A2 1 button.Position 0 (grid 531000 180000) 980 7 Normal Available false)
      ∷ (report A2 3 button.Leave 0 (grid 530100 180000) 981 7 Wrong Available true)
      ∷ (report A2 5 button.Home 0 (grid 531000 180000) 1531 7 Normal Available false)
      ∷ (report A3 1 button.Leave 0 (grid 530201 180000) 2255 1 Stale Mobilised false)
      ∷ (report A3 3 button.Home 1 (grid 530000 180000) 2556 1 Skipped Available false) ∷ [];
}

report_at_scene_scene_normal_2 : Steps
    (at 4938 (Crew A1) (ask.Report (pressed 7 button.Scene 1 (grid 530120 180160))))
    before_report_at_scene_scene_normal_2 (Ok (answer.Reported 7 Normal AtScene))
    (record before_report_at_scene_scene_normal_2 {
      vehicles = (vehicle A1 1 1 Ambulance (grid 530120 180160) AtScene 5000 None 1 7)
          ∷ (vehicle A2 7 7 Ambulance (grid 531000 180000) Available 5000 None 0 5)
          ∷ (vehicle A3 7 7 Ambulance (grid 530000 180000) Available 40000 None 1 3)
          ∷ [];
      reports = (report A1 1 button.Home 0
          (grid 530300 180400) 2143 1 Normal Offered false)
          ∷ (report A1 2 button.Home 0 (grid 531000 180000) 3774 1 Normal Available
          false) ∷ (report A1 3 button.Mobile 1
          (grid 530000 180000) 4742 1 Normal Mobilised false)
          ∷ (report A1 5 button.Scene 1 (grid 531000 180000) 4757 1 Normal
          AtScene false) ∷ (report A1 7 button.Scene 1
          (grid 530120 180160) 4938 1 Normal AtScene false)
          ∷ (report A2 1 button.Position 0 (grid 531000 180000) 980 7
          Normal Available false) ∷ (report A2 3 button.Leave 0
          (grid 530100 180000) 981 7 Wrong Available true)
          ∷ (report A2 5 button.Home 0 (grid 531000 180000) 1531
          7 Normal Available false) ∷ (report A3 1
          button.Leave 0 (grid 530201 180000) 2255 1 Stale Mobilised false)
          ∷ (report A3 3 button.Home 1 (grid 530000 180000) 2556 1 Skipped Available false) ∷ [];
    })
unfolding machine
report_at_scene_scene_normal_2 = (refl, refl)

abbrev before_report_available_home_normal : Room
before_report_available_home_normal = record {
  plan = two_divisions;
  divisions = (division 1 3) ∷ (division 2 0) ∷ [];
  incidents = [];
  calls = [];
  vehicles =
      (vehicle A1 2 2 Ambulance (grid 530300 180400) Available 40000 None 2147483647 1)
      ∷ (vehicle A2 1 1 Ambulance (grid 530300 180400) OffDuty 0 None 0 0) ∷ [];
  turns = [];
  assignments = [];
  points = [];
  loans = [];
  offers = [];
  reports = (report A1 1 button.Position 2147483647 (grid 530300 180400) 1005 2 Normal Available false) ∷ [];
}

report_available_home_normal : Steps
    (at 1066 (Crew A1) (ask.Report (pressed 2 button.Home 2147483646 (grid 531000 180000))))
    before_report_available_home_normal (Ok (answer.Reported 2 Normal Available))
    (record before_report_available_home_normal {
      vehicles = (vehicle A1 2 2 Ambulance
          (grid 531000 180000) Available 40000 None 2147483647 2)
          ∷ (vehicle A2 1 1 Ambulance (grid 530300 180400) OffDuty 0 None 0 0)
          ∷ [];
      reports = (report A1 1 button.Position 2147483647
          (grid 530300 180400) 1005 2 Normal Available false)
          ∷ (report A1 2 button.Home 2147483646
          (grid 531000 180000) 1066 2 Normal Available false) ∷ [];
    })
unfolding machine
report_available_home_normal = (refl, refl)

abbrev before_report_available_home_normal_2 : Room
before_report_available_home_normal_2 = record {
  plan = two_divisions;
  divisions = (division 1 3) ∷ (division 2 0) ∷ [];
  incidents = [];
  calls = [];
  vehicles =
      (vehicle A1 1 1 Ambulance (grid 560100 180000) Available 5000 None 0 0)
      ∷ (vehicle A2 2 2 Ambulance (grid 530200 180000) Available 2000 None 0 0)
      ∷ (vehicle A3 1 2 Ambulance (grid 531000 180000) Available 41968 None 0 0) ∷ [];
  turns = [];
  assignments = [];
  points = [];
  loans = (loan A3 1 2 1968 1968 false) ∷ [];
  offers = [];
  reports = [];
}

report_available_home_normal_2 : Steps
    (at 1968 (Crew A3) (ask.Report (pressed 2 button.Home 0 (grid 531000 180000))))
    before_report_available_home_normal_2 (Ok (answer.Reported 2 Normal Available))
    (record before_report_available_home_normal_2 {
      vehicles = (vehicle A1 1 1 Ambulance (grid 560100 180000) Available 5000 None 0 0)
          ∷ (vehicle A2 2 2 Ambulance (grid 530200 180000) Available 2000 None 0 0)
          ∷ (vehicle A3 1 2 Ambulance (grid 531000 180000) Available 41968 None 0 2)
          ∷ [];
      reports = (report A3 2 button.Home 0
          (grid 531000 180000) 1968 2 Normal Available false) ∷ [];
    })
unfolding machine
report_available_home_normal_2 = (refl, refl)

abbrev before_report_available_home_normal_3 : Room
before_report_available_home_normal_3 = record {
  plan = two_divisions;
  divisions = (division 1 0) ∷ (division 2 0) ∷ [];
  incidents = [];
  calls = [];
  vehicles =
      (vehicle A1 1 2 Ambulance (grid 530000 180000) Available 40000 None 0 0)
      ∷ (vehicle A2 1 1 Ambulance (grid 531000 180000) Available 5000 None 0 0)
      ∷ (vehicle A3 1 1 Car (grid 530000 180000) Available 5849 None 2147483647 0) ∷ [];
  turns = [];
  assignments = [];
  points = [];
  loans = (loan A1 1 2 40000 1101 false) ∷ [];
  offers = [];
  reports = [];
}

report_available_home_normal_3 : Steps
    (at 2330 (Crew A1) (ask.Report (pressed 1 button.Home 0 (grid 530300 180400))))
    before_report_available_home_normal_3 (Ok (answer.Reported 1 Normal Available))
    (record before_report_available_home_normal_3 {
      vehicles = (vehicle A1 1 1 Ambulance (grid 530300 180400) Available 40000 None 0 1)
          ∷ (vehicle A2 1 1 Ambulance (grid 531000 180000) Available 5000 None 0 0)
          ∷ (vehicle A3 1 1 Car (grid 530000 180000) Available 5849 None 2147483647 0)
          ∷ [];
      loans = [];
      reports = (report A1 1 button.Home 0
          (grid 530300 180400) 2330 2 Normal Available false) ∷ [];
    })
unfolding machine
report_available_home_normal_3 = (refl, refl)

abbrev before_report_available_home_normal_4 : Room
before_report_available_home_normal_4 = record {
  plan = two_divisions;
  divisions = (division 1 0) ∷ (division 2 0) ∷ [];
  incidents = [];
  calls = [];
  vehicles =
      (vehicle A1 1 1 Ambulance (grid 530100 180100) Available 2000 None 0 1)
      ∷ (vehicle A2 2 1 Ambulance (grid 530300 180400) Available 5000 None 0 0) ∷ [];
  turns = [];
  assignments = [];
  points = [];
  loans = (loan A2 2 1 985 2000 false) ∷ [];
  offers = [];
  reports = (report A1 1 button.Leave 0 (grid 530201 180000) 991 1 Wrong Available false) ∷ [];
}

report_available_home_normal_4 : Steps
    (at 1292 (Crew A2) (ask.Report (pressed 1 button.Home 0 (grid 530000 180000))))
    before_report_available_home_normal_4 (Ok (answer.Reported 1 Normal Available))
    (record before_report_available_home_normal_4 {
      vehicles = (vehicle A1 1 1 Ambulance (grid 530100 180100) Available 2000 None 0 1)
          ∷ (vehicle A2 2 1 Ambulance (grid 530000 180000) Available 5000 None 0 1)
          ∷ [];
      reports = (report A1 1 button.Leave 0
          (grid 530201 180000) 991 1 Wrong Available false)
          ∷ (report A2 1 button.Home 0 (grid 530000 180000) 1292 1 Normal Available
          false) ∷ [];
    })
unfolding machine
report_available_home_normal_4 = (refl, refl)

abbrev before_report_available_home_normal_5 : Room
before_report_available_home_normal_5 = record {
  plan = two_divisions;
  divisions = (division 1 0) ∷ (division 2 0) ∷ [];
  incidents = [];
  calls = [];
  vehicles =
      (vehicle A1 1 1 Support (grid 531000 180000) OffDuty 0 None 0 0)
      ∷ (vehicle A2 1 2 Ambulance (grid 530000 180000) Available 5000 None 0 0)
      ∷ (vehicle A3 2 2 Ambulance (grid 530200 180000) OffDuty 0 None 0 0) ∷ [];
  turns = [];
  assignments = [];
  points = [];
  loans = (loan A2 1 2 1071 2041 false) ∷ [];
  offers = [];
  reports = [];
}

report_available_home_normal_5 : Steps
    (at 2041 (Crew A2) (ask.Report (pressed 1 button.Home 0 (grid 530200 180000))))
    before_report_available_home_normal_5 (Ok (answer.Reported 1 Normal Available))
    (record before_report_available_home_normal_5 {
      vehicles = (vehicle A1 1 1 Support (grid 531000 180000) OffDuty 0 None 0 0)
          ∷ (vehicle A2 1 2 Ambulance (grid 530200 180000) Available 5000 None 0 1)
          ∷ (vehicle A3 2 2 Ambulance (grid 530200 180000) OffDuty 0 None 0 0)
          ∷ [];
      reports = (report A2 1 button.Home 0
          (grid 530200 180000) 2041 2 Normal Available false) ∷ [];
    })
unfolding machine
report_available_home_normal_5 = (refl, refl)

abbrev before_report_available_home_normal_6 : Room
before_report_available_home_normal_6 = record {
  plan = two_divisions;
  divisions = (division 1 0) ∷ (division 2 0) ∷ [];
  incidents = [];
  calls = [];
  vehicles =
      (vehicle A1 1 1 Car (grid 530300 180400) Available 40000 None 0 1)
      ∷ (vehicle A2 2 2 Ambulance (grid 530200 180000) Available 1502 None 0 0)
      ∷ (vehicle A3 1 2 Ambulance (grid 530200 180000) Available 40000 None 0 0) ∷ [];
  turns = [];
  assignments = [];
  points = [];
  loans = (loan A3 1 2 1516 1005 true) ∷ [];
  offers = [];
  reports = (report A1 1 button.Hospital 0 (grid 530100 180000) 1035 1 Wrong Available false) ∷ [];
}

report_available_home_normal_6 : Steps
    (at 1962 (Crew A3) (ask.Report (pressed 1 button.Home 0 (grid 530300 180400))))
    before_report_available_home_normal_6 (Ok (answer.Reported 1 Normal Available))
    (record before_report_available_home_normal_6 {
      vehicles = (vehicle A1 1 1 Car (grid 530300 180400) Available 40000 None 0 1)
          ∷ (vehicle A2 2 2 Ambulance (grid 530200 180000) Available 1502 None 0 0)
          ∷ (vehicle A3 1 1 Ambulance (grid 530300 180400) Available 40000 None 0 1)
          ∷ [];
      loans = [];
      reports = (report A1 1 button.Hospital 0
          (grid 530100 180000) 1035 1 Wrong Available false)
          ∷ (report A3 1 button.Home 0 (grid 530300 180400) 1962 2 Normal Available
          false) ∷ [];
    })
unfolding machine
report_available_home_normal_6 = (refl, refl)

abbrev before_report_available_home_normal_7 : Room
before_report_available_home_normal_7 = record {
  plan = overlapping_divisions;
  divisions = (division 1 3) ∷ (division 7 0) ∷ [];
  incidents = [];
  calls = [];
  vehicles =
      (vehicle A1 1 1 Ambulance (grid 530100 180000) Available 40000 (Some 2) 0 2)
      ∷ (vehicle A2 7 7 Ambulance (grid 530200 180000) Available 2000 None 0 0)
      ∷ (vehicle A3 7 7 Ambulance (grid 530100 180000) Available 2523 None 0 0) ∷ [];
  turns = [];
  assignments = [];
  points = (point 1 2 (grid 530120 180160) 1) ∷ [];
  loans = [];
  offers = [];
  reports = (report A1 2 button.Scene 0 (grid 530120 180160) 2024 1 Wrong Available false) ∷ [];
}

report_available_home_normal_7 : Steps
    (at 2024 (Crew A1) (ask.Report (pressed 4 button.Home 0 (grid 530100 180000))))
    before_report_available_home_normal_7 (Ok (answer.Reported 4 Normal Available))
    (record before_report_available_home_normal_7 {
      vehicles = (vehicle A1 1 1 Ambulance (grid 530100 180000) Available 40000 (Some 2) 0 4)
          ∷ (vehicle A2 7 7 Ambulance (grid 530200 180000) Available 2000 None 0 0)
          ∷ (vehicle A3 7 7 Ambulance (grid 530100 180000) Available 2523 None 0 0)
          ∷ [];
      reports = (report A1 2 button.Scene 0
          (grid 530120 180160) 2024 1 Wrong Available false)
          ∷ (report A1 4 button.Home 0 (grid 530100 180000) 2024 1 Normal Available
          false) ∷ [];
    })
unfolding machine
report_available_home_normal_7 = (refl, refl)

abbrev before_report_available_home_normal_8 : Room
before_report_available_home_normal_8 = record {
  plan = two_divisions;
  divisions = (division 1 2147483647) ∷ (division 2 2147483646) ∷ [];
  incidents = [];
  calls = [];
  vehicles =
      (vehicle A1 2 2 Ambulance (grid 530200 180000) Available 2610 None 0 1)
      ∷ (vehicle A2 2 1 Support (grid 530300 180400) Available 5000 (Some 2) 0 2)
      ∷ (vehicle A3 2 2 Support (grid 530100 180100) Available 5000 None 0 1) ∷ [];
  turns = [];
  assignments = [];
  points = (point 1 2 (grid 530000 180000) 2) ∷ [];
  loans = (loan A2 2 1 1492 1372 false) ∷ [];
  offers = [];
  reports =
      (report A1 1 button.Leave 0 (grid 530200 180000) 1005 2 Wrong OffDuty false)
      ∷ (report A2 2 button.Return 0 (grid 530120 180160) 1372 1 Wrong Available false)
      ∷ (report A3 1 button.Position 0 (grid 530100 180100) 2109 2 Normal Available false) ∷ [];
}

report_available_home_normal_8 : Steps
    (at 3163 (Crew A2) (ask.Report (pressed 3 button.Home 0 (grid 530100 180000))))
    before_report_available_home_normal_8 (Ok (answer.Reported 3 Normal Available))
    (record before_report_available_home_normal_8 {
      vehicles = (vehicle A1 2 2 Ambulance (grid 530200 180000) Available 2610 None 0 1)
          ∷ (vehicle A2 2 2 Support (grid 530100 180000) Available 5000 None 0 3)
          ∷ (vehicle A3 2 2 Support (grid 530100 180100) Available 5000 None 0 1)
          ∷ [];
      loans = [];
      reports = (report A1 1 button.Leave 0
          (grid 530200 180000) 1005 2 Wrong OffDuty false)
          ∷ (report A2 2 button.Return 0 (grid 530120 180160) 1372 1 Wrong Available
          false) ∷ (report A2 3 button.Home 0
          (grid 530100 180000) 3163 1 Normal Available false)
          ∷ (report A3 1 button.Position 0 (grid 530100 180100) 2109 2 Normal
          Available false) ∷ [];
    })
unfolding machine
report_available_home_normal_8 = (refl, refl)

abbrev before_report_available_home_normal_9 : Room
before_report_available_home_normal_9 = record {
  plan = two_divisions;
  divisions = (division 1 4) ∷ (division 2 0) ∷ [];
  incidents = (incident 1 4 (grid 530100 180000) 1 (needs 0 1 0) 3142 None Active) ∷ [];
  calls = (call 2 5 1 4 4 false (grid 530100 180000) 1 (needs 0 1 0) [] 3142) ∷ [];
  vehicles =
      (vehicle A1 2 2 Ambulance (grid 530100 180100) Available 2000 None 0 0)
      ∷ (vehicle A2 1 1 Support (grid 530200 180000) Available 42981 None 0 0)
      ∷ (vehicle A3 2 2 Car (grid 560100 180000) Available 5000 None 0 3)
      ∷ (vehicle B1 2 1 Support (grid 530201 180000) Available 40000 (Some 2) 0 0) ∷ [];
  turns = [];
  assignments = [];
  points = (point 1 2 (grid 530200 180000) 2) ∷ [];
  loans = (loan B1 2 1 2820 1500 false) ∷ [];
  offers = [];
  reports =
      (report A3 1 button.Hospital 0 (grid 530100 180100) 1225 2 Wrong Available false)
      ∷ (report A3 2 button.Return 0 (grid 530300 180400) 1557 2 Late Available false)
      ∷ (report A3 3 button.Leave 0 (grid 530100 180100) 1256 2 Wrong Available false) ∷ [];
}

report_available_home_normal_9 : Steps
    (at 3147 (Crew B1) (ask.Report (pressed 1 button.Home 0 (grid 530201 180000))))
    before_report_available_home_normal_9 (Ok (answer.Reported 1 Normal Available))
    (record before_report_available_home_normal_9 {
      vehicles = (vehicle A1 2 2 Ambulance (grid 530100 180100) Available 2000 None 0 0)
          ∷ (vehicle A2 1 1 Support (grid 530200 180000) Available 42981 None 0 0)
          ∷ (vehicle A3 2 2 Car (grid 560100 180000) Available 5000 None 0 3)
          ∷ (vehicle B1 2 2 Support (grid 530201 180000) Available 40000 None 0 1)
          ∷ [];
      loans = [];
      reports = (report A3 1 button.Hospital 0
          (grid 530100 180100) 1225 2 Wrong Available false)
          ∷ (report A3 2 button.Return 0 (grid 530300 180400) 1557 2 Late Available
          false) ∷ (report A3 3 button.Leave 0
          (grid 530100 180100) 1256 2 Wrong Available false)
          ∷ (report B1 1 button.Home 0 (grid 530201 180000) 3147 1 Normal
          Available false) ∷ [];
    })
unfolding machine
report_available_home_normal_9 = (refl, refl)

abbrev before_report_available_home_normal_10 : Room
before_report_available_home_normal_10 = record {
  plan = two_divisions;
  divisions = (division 1 5) ∷ (division 2 0) ∷ [];
  incidents =
      (incident 1 4 (grid 530200 180000) 2 (needs 2 1 1) 2130 None Active)
      ∷ (incident 1 5 (grid 531000 180000) 2 (needs 1 1 0) 3030 None Active) ∷ [];
  calls =
      (call 1 5 1 4 4 false (grid 530200 180000) 2 (needs 2 1 1) [] 2130)
      ∷ (call 2 4 1 5 5 false (grid 531000 180000) 2 (needs 1 1 0) [] 3030) ∷ [];
  vehicles =
      (vehicle A1 2 2 Ambulance (grid 530100 180100) OffDuty 0 None 0 1)
      ∷ (vehicle A2 2 2 Ambulance (grid 560000 180000) OffDuty 0 None 0 1)
      ∷ (vehicle A3 1 2 Car (grid 530100 180000) Available 6321 None 0 1) ∷ [];
  turns = [];
  assignments = [];
  points = (point 2 2 (grid 530120 180160) 1) ∷ [];
  loans = (loan A3 1 2 2983 3202 true) ∷ [];
  offers = [];
  reports =
      (report A1 1 button.Position 0 (grid 530200 180000) 1949 2 Wrong OffDuty false)
      ∷ (report A2 1 button.Mobile 0 (grid 530100 180100) 3049 2 Wrong OffDuty false)
      ∷ (report A3 1 button.Leave 0 (grid 530200 180000) 2311 1 Wrong OffDuty false) ∷ [];
}

report_available_home_normal_10 : Steps
    (at 3202 (Crew A3) (ask.Report (pressed 2 button.Home 0 (grid 531000 180000))))
    before_report_available_home_normal_10 (Ok (answer.Reported 2 Normal Available))
    (record before_report_available_home_normal_10 {
      vehicles = (vehicle A1 2 2 Ambulance (grid 530100 180100) OffDuty 0 None 0 1)
          ∷ (vehicle A2 2 2 Ambulance (grid 560000 180000) OffDuty 0 None 0 1)
          ∷ (vehicle A3 1 1 Car (grid 531000 180000) Available 6321 None 0 2)
          ∷ [];
      loans = [];
      reports = (report A1 1 button.Position 0
          (grid 530200 180000) 1949 2 Wrong OffDuty false)
          ∷ (report A2 1 button.Mobile 0 (grid 530100 180100) 3049 2 Wrong OffDuty false)
          ∷ (report A3 1 button.Leave 0 (grid 530200 180000) 2311 1 Wrong OffDuty false)
          ∷ (report A3 2 button.Home 0 (grid 531000 180000) 3202 2 Normal Available
          false) ∷ [];
    })
unfolding machine
report_available_home_normal_10 = (refl, refl)

abbrev before_report_available_home_normal_11 : Room
before_report_available_home_normal_11 = record {
  plan = two_divisions;
  divisions = (division 1 2147483647) ∷ (division 2 2147483647) ∷ [];
  incidents = [];
  calls = [];
  vehicles =
      (vehicle A1 2 1 Ambulance (grid 530100 180100) Available 6884 None 0 0)
      ∷ (vehicle A2 1 1 Car (grid 530100 180100) Available 5000 None 0 2)
      ∷ (vehicle A3 1 2 Ambulance (grid 530100 180000) Available 5000 None 0 4)
      ∷ (vehicle B1 1 1 Ambulance (grid 530300 180400) Available 40000 None 0 0)
      ∷ (vehicle B2 1 1 Ambulance (grid 530120 180160) Available 2000 None 2147483647 0) ∷ [];
  turns = [];
  assignments = [];
  points = [];
  loans = (loan A1 2 1 3925 4247 true) ∷ (loan A3 1 2 6884 4999 false) ∷ [];
  offers = [];
  reports =
      (report A2 1 button.Leave 0 (grid 530100 180100) 2221 1 Wrong Available false)
      ∷ (report A2 2 button.Home 0 (grid 530100 180100) 3820 1 Normal Available false)
      ∷ (report A3 2 button.Mobile 0 (grid 530201 180000) 2241 1 Wrong Offered false)
      ∷ (report A3 3 button.Mobile 0 (grid 530100 180000) 3639 1 Wrong Offered false)
      ∷ (report A3 4 button.Hospital 0 (grid 530200 180000) 3920 1 Wrong Offered false) ∷ [];
}

report_available_home_normal_11 : Steps
    (at 4005 (Crew A1) (ask.Report (pressed 1 button.Home 0 (grid 531000 180000))))
    before_report_available_home_normal_11 (Ok (answer.Reported 1 Normal Available))
    (record before_report_available_home_normal_11 {
      vehicles = (vehicle A1 2 2 Ambulance (grid 531000 180000) Available 6884 None 0 1)
          ∷ (vehicle A2 1 1 Car (grid 530100 180100) Available 5000 None 0 2)
          ∷ (vehicle A3 1 2 Ambulance (grid 530100 180000) Available 5000 None 0 4)
          ∷ (vehicle B1 1 1 Ambulance (grid 530300 180400) Available 40000 None 0 0)
          ∷ (vehicle B2 1 1 Ambulance (grid 530120 180160) Available 2000 None 2147483647 0)
          ∷ [];
      loans = (loan A3 1 2 6884 4999 false)
          ∷ [];
      reports = (report A1 1 button.Home 0
          (grid 531000 180000) 4005 1 Normal Available false)
          ∷ (report A2 1 button.Leave 0 (grid 530100 180100) 2221 1 Wrong Available
          false) ∷ (report A2 2 button.Home 0
          (grid 530100 180100) 3820 1 Normal Available false)
          ∷ (report A3 2 button.Mobile 0 (grid 530201 180000) 2241 1 Wrong
          Offered false) ∷ (report A3 3 button.Mobile 0
          (grid 530100 180000) 3639 1 Wrong Offered false)
          ∷ (report A3 4 button.Hospital 0 (grid 530200 180000) 3920 1
          Wrong Offered false) ∷ [];
    })
unfolding machine
report_available_home_normal_11 = (refl, refl)

abbrev before_report_available_home_normal_12 : Room
before_report_available_home_normal_12 = record {
  plan = two_divisions;
  divisions = (division 1 1) ∷ (division 2 0) ∷ [];
  incidents = (incident 1 1 (grid 530120 180160) 2 (needs 2 0 0) 2216 None Active) ∷ [];
  calls = (call 2 1 1 1 1 false (grid 530120 180160) 2 (needs 2 0 0) (codes "x") 2216) ∷ [];
  vehicles =
      (vehicle A1 2 2 Car (grid 530000 180000) Available 5000 None 0 0)
      ∷ (vehicle A2 1 1 Ambulance (grid 531000 180000) Available 6855 None 0 2)
      ∷ (vehicle A3 2 1 Ambulance (grid 560000 180000) Available 5000 (Some 2) 0 0)
      ∷ (vehicle B1 1 1 Ambulance (grid 530201 180000) Available 2000 None 0 5) ∷ [];
  turns = [];
  assignments = [];
  points = (point 1 2 (grid 530300 180400) 2) ∷ [];
  loans = (loan A3 2 1 2824 2382 false) ∷ [];
  offers = [];
  reports =
      (report A2 2 button.Mobile 0 (grid 530100 180100) 1915 1 Wrong OffDuty false)
      ∷ (report B1 2 button.Home 0 (grid 530201 180000) 1120 1 Normal Available false)
      ∷ (report B1 3 button.Return 0 (grid 530200 180000) 1633 1 Wrong Available false)
      ∷ (report B1 5 button.Mobile 0 (grid 530000 180000) 1935 1 Wrong Available false) ∷ [];
}

report_available_home_normal_12 : Steps
    (at 2383 (Crew A3) (ask.Report (pressed 1 button.Home 0 (grid 530100 180000))))
    before_report_available_home_normal_12 (Ok (answer.Reported 1 Normal Available))
    (record before_report_available_home_normal_12 {
      vehicles = (vehicle A1 2 2 Car (grid 530000 180000) Available 5000 None 0 0)
          ∷ (vehicle A2 1 1 Ambulance (grid 531000 180000) Available 6855 None 0 2)
          ∷ (vehicle A3 2 2 Ambulance (grid 530100 180000) Available 5000 None 0 1)
          ∷ (vehicle B1 1 1 Ambulance (grid 530201 180000) Available 2000 None 0 5)
          ∷ [];
      loans = [];
      reports = (report A2 2 button.Mobile 0
          (grid 530100 180100) 1915 1 Wrong OffDuty false)
          ∷ (report A3 1 button.Home 0 (grid 530100 180000) 2383 1 Normal Available
          false) ∷ (report B1 2 button.Home 0
          (grid 530201 180000) 1120 1 Normal Available false)
          ∷ (report B1 3 button.Return 0 (grid 530200 180000) 1633 1 Wrong
          Available false) ∷ (report B1 5 button.Mobile 0
          (grid 530000 180000) 1935 1 Wrong Available false) ∷ [];
    })
unfolding machine
report_available_home_normal_12 = (refl, refl)

abbrev before_report_available_home_normal_13 : Room
before_report_available_home_normal_13 = record {
  plan = two_divisions;
  divisions = (division 1 1) ∷ (division 2 1) ∷ [];
  incidents =
      (incident 1 1 (grid 530100 180000) 2 (needs 0 0 1) 1798 None Active)
      ∷ (incident 2 1 (grid 560200 180000) 1 (needs 1 0 0) 1798 (Some 2442) Active) ∷ [];
  calls =
      (call 1 1 2 1 1 false (grid 560200 180000) 1 (needs 1 0 0) [] 1798)
      ∷ (call 2 5 1 1 1 false (grid 530100 180000) 2 (needs 0 0 1) (codes "x") 1798) ∷ [];
  vehicles =
      (vehicle A1 2 2 Ambulance (grid 530300 180400) Mobilised 40000 None 1 2)
      ∷ (vehicle A2 2 1 Ambulance (grid 530300 180400) Available 40000 (Some 1) 0 1)
      ∷ (vehicle A3 1 1 Ambulance (grid 530120 180160) OffDuty 5000 None 0 0) ∷ [];
  turns = (turn A1 1 2 1 Ambulance 2442 None None None None None false) ∷ [];
  assignments = (assignment A1 2 1 1 (grid 560200 180000) 1) ∷ [];
  points = (point 1 1 (grid 530100 180000) 1) ∷ [];
  loans = (loan A2 2 1 2743 2260 false) ∷ [];
  offers = [];
  reports =
      (report A1 1 button.Home 0 (grid 530300 180400) 2280 2 Normal Available false)
      ∷ (report A1 2 button.Hospital 0 (grid 530300 180400) 3254 2 Stale Mobilised false)
      ∷ (report A2 1 button.Leave 0 (grid 530120 180160) 1617 2 Wrong Available false) ∷ [];
}

report_available_home_normal_13 : Steps
    (at 2260 (Crew A2) (ask.Report (pressed 2 button.Home 0 (grid 530300 180400))))
    before_report_available_home_normal_13 (Ok (answer.Reported 2 Normal Available))
    (record before_report_available_home_normal_13 {
      vehicles = (vehicle A1 2 2 Ambulance (grid 530300 180400) Mobilised 40000 None 1 2)
          ∷ (vehicle A2 2 1 Ambulance (grid 530300 180400) Available 40000 (Some 1) 0 2)
          ∷ (vehicle A3 1 1 Ambulance (grid 530120 180160) OffDuty 5000 None 0 0)
          ∷ [];
      reports = (report A1 1 button.Home 0
          (grid 530300 180400) 2280 2 Normal Available false)
          ∷ (report A1 2 button.Hospital 0 (grid 530300 180400) 3254 2 Stale Mobilised
          false) ∷ (report A2 1 button.Leave 0
          (grid 530120 180160) 1617 2 Wrong Available false)
          ∷ (report A2 2 button.Home 0 (grid 530300 180400) 2260 1 Normal
          Available false) ∷ [];
    })
unfolding machine
report_available_home_normal_13 = (refl, refl)

abbrev before_report_available_home_normal_14 : Room
before_report_available_home_normal_14 = record {
  plan = two_divisions;
  divisions = (division 1 1) ∷ (division 2 0) ∷ [];
  incidents = (incident 1 1 (grid 530200 180000) 1 (needs 2 1 1) 3376 None Active) ∷ [];
  calls =
      (call 1 4 1 1 1 false (grid 530200 180000) 1 (needs 1 0 0) [] 3376)
      ∷ (call 2 1 1 1 1 true (grid 530120 180160) 2 (needs 2 1 1) [] 3857) ∷ [];
  vehicles =
      (vehicle A1 2 2 Car (grid 530100 180000) Available 5000 None 0 4)
      ∷ (vehicle A2 1 2 Support (grid 530201 180000) Available 40000 None 0 1)
      ∷ (vehicle A3 2 2 Car (grid 530100 180000) Available 5000 None 0 3)
      ∷ (vehicle B1 2 2 Ambulance (grid 531000 180000) Available 5000 None 0 0) ∷ [];
  turns = [];
  assignments = [];
  points = [];
  loans = (loan A2 1 2 5000 4999 true) ∷ [];
  offers = [];
  reports =
      (report A1 1 button.Home 0 (grid 530201 180000) 1005 2 Normal Available false)
      ∷ (report A1 2 button.Mobile 0 (grid 530200 180000) 2013 2 Wrong Available false)
      ∷ (report A1 4 button.Position 0 (grid 530100 180000) 2314 2 Normal Available false)
      ∷ (report A2 1 button.Return 0 (grid 530300 180400) 5000 2 Wrong Available false)
      ∷ (report A3 1 button.Home 0 (grid 530200 180000) 1000 2 Wrong OffDuty false)
      ∷ (report A3 3 button.Position 0 (grid 530100 180000) 1066 2 Normal Available false) ∷ [];
}

report_available_home_normal_14 : Steps
    (at 4710 (Crew A2) (ask.Report (pressed 3 button.Home 0 (grid 530201 180000))))
    before_report_available_home_normal_14 (Ok (answer.Reported 3 Normal Available))
    (record before_report_available_home_normal_14 {
      vehicles = (vehicle A1 2 2 Car (grid 530100 180000) Available 5000 None 0 4)
          ∷ (vehicle A2 1 1 Support (grid 530201 180000) Available 40000 None 0 3)
          ∷ (vehicle A3 2 2 Car (grid 530100 180000) Available 5000 None 0 3)
          ∷ (vehicle B1 2 2 Ambulance (grid 531000 180000) Available 5000 None 0 0)
          ∷ [];
      loans = [];
      reports = (report A1 1 button.Home 0
          (grid 530201 180000) 1005 2 Normal Available false)
          ∷ (report A1 2 button.Mobile 0 (grid 530200 180000) 2013 2 Wrong Available
          false) ∷ (report A1 4 button.Position 0
          (grid 530100 180000) 2314 2 Normal Available false)
          ∷ (report A2 1 button.Return 0 (grid 530300 180400) 5000 2 Wrong
          Available false) ∷ (report A2 3 button.Home 0
          (grid 530201 180000) 4710 2 Normal Available false)
          ∷ (report A3 1 button.Home 0 (grid 530200 180000) 1000 2 Wrong
          OffDuty false) ∷ (report A3 3 button.Position 0
          (grid 530100 180000) 1066 2 Normal Available false) ∷ [];
    })
unfolding machine
report_available_home_normal_14 = (refl, refl)

abbrev before_report_available_home_normal_15 : Room
before_report_available_home_normal_15 = record {
  plan = overlapping_divisions;
  divisions = (division 1 5) ∷ (division 7 0) ∷ [];
  incidents =
      (incident 1 4 (grid 530120 180160) 2 (needs 1 0 0) 1631 None Active)
      ∷ (incident 1 5 (grid 530200 180000) 2 (needs 0 1 0) 3136 None Active) ∷ [];
  calls =
      (call 1 2 1 4 4 true (grid 530200 180000) 2 (needs 1 0 0) [] 1962)
      ∷ (call 2 1 1 4 4 false (grid 530120 180160) 2 (needs 1 0 0) [] 1631)
      ∷ (call 2 6 1 5 5 false (grid 530200 180000) 2 (needs 0 1 0) [] 3136) ∷ [];
  vehicles =
      (vehicle A1 1 1 Support (grid 530120 180160) Available 40000 None 0 1)
      ∷ (vehicle A2 7 7 Ambulance (grid 530201 180000) Available 6444 None 0 1)
      ∷ (vehicle A3 1 7 Ambulance (grid 531000 180000) Available 40000 (Some 2) 0 4) ∷ [];
  turns = [];
  assignments = [];
  points = (point 7 2 (grid 530300 180400) 2) ∷ [];
  loans = (loan A3 1 7 3106 3625 false) ∷ [];
  offers = [];
  reports =
      (report A1 1 button.Hospital 0 (grid 530200 180000) 3590 1 Wrong Available false)
      ∷ (report A2 1 button.Leave 0 (grid 530100 180000) 1030 7 Wrong OffDuty true)
      ∷ (report A3 2 button.Home 0 (grid 531000 180000) 1661 1 Normal Available false)
      ∷ (report A3 3 button.Return 0 (grid 530200 180000) 3626 7 Wrong Available false)
      ∷ (report A3 4 button.Mobile 0 (grid 530100 180000) 3590 7 Wrong Available false) ∷ [];
}

report_available_home_normal_15 : Steps
    (at 3570 (Crew A3) (ask.Report (pressed 5 button.Home 0 (grid 530300 180400))))
    before_report_available_home_normal_15 (Ok (answer.Reported 5 Normal Available))
    (record before_report_available_home_normal_15 {
      vehicles = (vehicle A1 1 1 Support (grid 530120 180160) Available 40000 None 0 1)
          ∷ (vehicle A2 7 7 Ambulance (grid 530201 180000) Available 6444 None 0 1)
          ∷ (vehicle A3 1 7 Ambulance (grid 530300 180400) Available 40000 (Some 2) 0 5)
          ∷ [];
      reports = (report A1 1 button.Hospital 0
          (grid 530200 180000) 3590 1 Wrong Available false)
          ∷ (report A2 1 button.Leave 0 (grid 530100 180000) 1030 7 Wrong OffDuty true)
          ∷ (report A3 2 button.Home 0 (grid 531000 180000) 1661 1 Normal Available
          false) ∷ (report A3 3 button.Return 0
          (grid 530200 180000) 3626 7 Wrong Available false)
          ∷ (report A3 4 button.Mobile 0 (grid 530100 180000) 3590 7 Wrong
          Available false) ∷ (report A3 5 button.Home 0
          (grid 530300 180400) 3570 7 Normal Available false) ∷ [];
    })
unfolding machine
report_available_home_normal_15 = (refl, refl)

abbrev before_report_available_home_normal_16 : Room
before_report_available_home_normal_16 = record {
  plan = two_divisions;
  divisions = (division 1 3) ∷ (division 2 4) ∷ [];
  incidents =
      (incident 1 1 (grid 530201 180000) 1 (needs 2 1 1) 1601 None Active)
      ∷ (incident 1 2 (grid 530200 180000) 2 (needs 2 1 1) 1601 None (Merged 1))
      ∷ (incident 1 3 (grid 530200 180000) 2 (needs 2 1 1) 6517 None Active)
      ∷ (incident 2 4 (grid 560000 180000) 3 (needs 1 0 0) 1421 None Active) ∷ [];
  calls =
      (call 1 1 2 4 4 false (grid 560000 180000) 3 (needs 1 0 0) (codes "x") 1421)
      ∷ (call 1 3 1 1 2 false (grid 530200 180000) 3 (needs 0 0 1) (codes "x") 5022)
      ∷ (call 1 4 1 3 3 false (grid 530200 180000) 2 (needs 2 1 1) [] 6517)
      ∷ (call 1 6 1 1 2 true (grid 530100 180100) 2 (needs 1 1 0) [] 1601)
      ∷ (call 2 5 1 1 1 false (grid 530201 180000) 1 (needs 1 0 0) [] 1601) ∷ [];
  vehicles =
      (vehicle A1 1 2 Ambulance (grid 530000 180000) Available 40000 (Some 2) 0 1)
      ∷ (vehicle A2 2 2 Support (grid 530300 180400) OffDuty 0 None 0 5)
      ∷ (vehicle A3 2 2 Ambulance (grid 530201 180000) OffDuty 5000 None 0 3) ∷ [];
  turns = [];
  assignments = [];
  points = (point 2 2 (grid 530200 180000) 2) ∷ [];
  loans = (loan A1 1 2 40001 1497 true) ∷ [];
  offers = [];
  reports =
      (report A1 1 button.Position 0 (grid 530000 180000) 5549 2 Normal Available false)
      ∷ (report A2 1 button.Position 0 (grid 530300 180400) 1301 2 Wrong OffDuty false)
      ∷ (report A2 2 button.Position 0 (grid 530300 180400) 1426 2 Wrong OffDuty false)
      ∷ (report A2 3 button.Return 0 (grid 530000 180000) 3612 2 Wrong OffDuty false)
      ∷ (report A2 4 button.Position 0 (grid 530201 180000) 4586 2 Wrong OffDuty true)
      ∷ (report A2 5 button.Hospital 0 (grid 531000 180000) 6336 2 Wrong OffDuty false)
      ∷ (report A3 2 button.Home 0 (grid 530201 180000) 1436 2 Normal Available false)
      ∷ (report A3 3 button.Scene 0 (grid 530000 180000) 1497 2 Wrong OffDuty false) ∷ [];
}

report_available_home_normal_16 : Steps
    (at 6477 (Crew A1) (ask.Report (pressed 2 button.Home 0 (grid 530100 180000))))
    before_report_available_home_normal_16 (Ok (answer.Reported 2 Normal Available))
    (record before_report_available_home_normal_16 {
      vehicles = (vehicle A1 1 1 Ambulance (grid 530100 180000) Available 40000 None 0 2)
          ∷ (vehicle A2 2 2 Support (grid 530300 180400) OffDuty 0 None 0 5)
          ∷ (vehicle A3 2 2 Ambulance (grid 530201 180000) OffDuty 5000 None 0 3)
          ∷ [];
      loans = [];
      reports = (report A1 1 button.Position 0
          (grid 530000 180000) 5549 2 Normal Available false)
          ∷ (report A1 2 button.Home 0 (grid 530100 180000) 6477 2 Normal Available
          false) ∷ (report A2 1 button.Position 0
          (grid 530300 180400) 1301 2 Wrong OffDuty false)
          ∷ (report A2 2 button.Position 0 (grid 530300 180400) 1426 2 Wrong
          OffDuty false) ∷ (report A2 3 button.Return 0
          (grid 530000 180000) 3612 2 Wrong OffDuty false)
          ∷ (report A2 4 button.Position 0 (grid 530201 180000) 4586 2
          Wrong OffDuty true) ∷ (report A2 5 button.Hospital 0
          (grid 531000 180000) 6336 2 Wrong OffDuty false)
          ∷ (report A3 2 button.Home 0 (grid 530201 180000) 1436
          2 Normal Available false) ∷ (report A3 3
          button.Scene 0 (grid 530000 180000) 1497 2 Wrong OffDuty false) ∷ [];
    })
unfolding machine
report_available_home_normal_16 = (refl, refl)

abbrev before_report_available_hospital_late : Room
before_report_available_hospital_late = record {
  plan = two_divisions;
  divisions = (division 1 0) ∷ (division 2 3) ∷ [];
  incidents = [];
  calls = [];
  vehicles =
      (vehicle A1 1 1 Ambulance (grid 531000 180000) Available 2000 None 0 2)
      ∷ (vehicle A2 1 1 Ambulance (grid 530201 180000) Available 5000 None 0 0) ∷ [];
  turns = [];
  assignments = [];
  points = [];
  loans = [];
  offers = [];
  reports = (report A1 2 button.Position 0 (grid 531000 180000) 1150 1 Normal Available false) ∷ [];
}

report_available_hospital_late : Steps
    (at 1155 (Crew A1) (ask.Report (pressed 1 button.Hospital 0 (grid 530120 180160))))
    before_report_available_hospital_late (Ok (answer.Reported 1 Late Available))
    (record before_report_available_hospital_late {
      reports = (report A1 1 button.Hospital 0
          (grid 530120 180160) 1155 1 Late Available false)
          ∷ (report A1 2 button.Position 0 (grid 531000 180000) 1150 1 Normal Available
          false) ∷ [];
    })
unfolding machine
report_available_hospital_late = (refl, refl)

abbrev before_report_available_hospital_wrong : Room
before_report_available_hospital_wrong = record {
  plan = two_divisions;
  divisions = (division 1 0) ∷ (division 2 0) ∷ [];
  incidents = [];
  calls = [];
  vehicles =
      (vehicle A1 1 1 Ambulance (grid 530200 180000) Available 5000 None 0 0)
      ∷ (vehicle A2 1 1 Ambulance (grid 531000 180000) Available 5000 None 0 0) ∷ [];
  turns = [];
  assignments = [];
  points = [];
  loans = [];
  offers = [];
  reports = [];
}

report_available_hospital_wrong : Steps
    (at 1181 (Crew A2) (ask.Report (pressed 1 button.Hospital 0 (grid 530000 180000))))
    before_report_available_hospital_wrong (Ok (answer.Reported 1 Wrong Available))
    (record before_report_available_hospital_wrong {
      vehicles = (vehicle A1 1 1 Ambulance (grid 530200 180000) Available 5000 None 0 0)
          ∷ (vehicle A2 1 1 Ambulance (grid 531000 180000) Available 5000 None 0 1)
          ∷ [];
      reports = (report A2 1 button.Hospital 0
          (grid 530000 180000) 1181 1 Wrong Available false) ∷ [];
    })
unfolding machine
report_available_hospital_wrong = (refl, refl)

abbrev before_report_available_leave_late : Room
before_report_available_leave_late = record {
  plan = two_divisions;
  divisions = (division 1 0) ∷ (division 2 0) ∷ [];
  incidents = [];
  calls = [];
  vehicles =
      (vehicle A1 1 1 Ambulance (grid 530120 180160) OffDuty 0 None 0 0)
      ∷ (vehicle A2 2 2 Support (grid 530300 180400) Available 2000 None 0 2) ∷ [];
  turns = [];
  assignments = [];
  points = [];
  loans = [];
  offers = [];
  reports = (report A2 2 button.Hospital 0 (grid 530100 180100) 1030 2 Wrong Available false) ∷ [];
}

report_available_leave_late : Steps
    (at 1030 (Crew A2) (ask.Report (pressed 1 button.Leave 0 (grid 531000 180000))))
    before_report_available_leave_late (Ok (answer.Reported 1 Late Available))
    (record before_report_available_leave_late {
      reports = (report A2 1 button.Leave 0 (grid 531000 180000) 1030 2 Late Available false)
          ∷ (report A2 2 button.Hospital 0 (grid 530100 180100) 1030 2 Wrong Available false)
          ∷ [];
    })
unfolding machine
report_available_leave_late = (refl, refl)

abbrev before_report_available_leave_wrong : Room
before_report_available_leave_wrong = record {
  plan = overlapping_divisions;
  divisions = (division 1 0) ∷ (division 7 0) ∷ [];
  incidents = [];
  calls = [];
  vehicles =
      (vehicle A1 1 1 Support (grid 560100 180000) OffDuty 0 None 0 0)
      ∷ (vehicle A2 7 7 Ambulance (grid 530300 180400) Available 5000 None 0 0) ∷ [];
  turns = [];
  assignments = [];
  points = [];
  loans = [];
  offers = [];
  reports = [];
}

report_available_leave_wrong : Steps
    (at 1036 (Crew A2) (ask.Report (pressed 1 button.Leave 0 (grid 530200 180000))))
    before_report_available_leave_wrong (Ok (answer.Reported 1 Wrong Available))
    (record before_report_available_leave_wrong {
      vehicles = (vehicle A1 1 1 Support (grid 560100 180000) OffDuty 0 None 0 0)
          ∷ (vehicle A2 7 7 Ambulance (grid 530300 180400) Available 5000 None 0 1)
          ∷ [];
      reports = (report A2 1 button.Leave 0
          (grid 530200 180000) 1036 7 Wrong Available false) ∷ [];
    })
unfolding machine
report_available_leave_wrong = (refl, refl)

abbrev before_report_available_mobile_wrong : Room
before_report_available_mobile_wrong = record {
  plan = two_divisions;
  divisions = (division 1 3) ∷ (division 2 3) ∷ [];
  incidents = [];
  calls = [];
  vehicles =
      (vehicle A1 2 2 Ambulance (grid 560200 180000) Available 40000 None 0 0)
      ∷ (vehicle A2 2 2 Ambulance (grid 530300 180400) Available 40000 None 0 0) ∷ [];
  turns = [];
  assignments = [];
  points = [];
  loans = [];
  offers = [];
  reports = [];
}

report_available_mobile_wrong : Steps
    (at 1120 (Crew A2) (ask.Report (pressed 1 button.Mobile 0 (grid 530201 180000))))
    before_report_available_mobile_wrong (Ok (answer.Reported 1 Wrong Available))
    (record before_report_available_mobile_wrong {
      vehicles = (vehicle A1 2 2 Ambulance (grid 560200 180000) Available 40000 None 0 0)
          ∷ (vehicle A2 2 2 Ambulance (grid 530300 180400) Available 40000 None 0 1)
          ∷ [];
      reports = (report A2 1 button.Mobile 0
          (grid 530201 180000) 1120 2 Wrong Available false) ∷ [];
    })
unfolding machine
report_available_mobile_wrong = (refl, refl)

abbrev before_report_available_position_normal : Room
before_report_available_position_normal = record {
  plan = two_divisions;
  divisions = (division 1 0) ∷ (division 2 0) ∷ [];
  incidents = [];
  calls = [];
  vehicles =
      (vehicle A1 1 1 Ambulance (grid 560100 180000) Available 5000 None 2147483647 0)
      ∷ (vehicle A2 1 1 Ambulance (grid 530100 180000) OffDuty 0 None 0 0) ∷ [];
  turns = [];
  assignments = [];
  points = [];
  loans = [];
  offers = [];
  reports = [];
}

report_available_position_normal : Steps
    (at 1010 (Crew A1) (ask.Report (pressed 2 button.Position 0 (grid 530100 180100))))
    before_report_available_position_normal (Ok (answer.Reported 2 Normal Available))
    (record before_report_available_position_normal {
      vehicles = (vehicle A1 1 1 Ambulance
          (grid 530100 180100) Available 5000 None 2147483647 2)
          ∷ (vehicle A2 1 1 Ambulance (grid 530100 180000) OffDuty 0 None 0 0)
          ∷ [];
      reports = (report A1 2 button.Position 0
          (grid 530100 180100) 1010 1 Normal Available false) ∷ [];
    })
unfolding machine
report_available_position_normal = (refl, refl)

abbrev before_report_available_return_stale : Room
before_report_available_return_stale = record {
  plan = two_divisions;
  divisions = (division 1 0) ∷ (division 2 0) ∷ [];
  incidents = [];
  calls = [];
  vehicles =
      (vehicle A1 2 2 Ambulance (grid 530000 180000) Available 40000 None 2147483647 0)
      ∷ (vehicle A2 1 1 Car (grid 530100 180000) Available 2000 None 0 0)
      ∷ (vehicle A3 1 1 Ambulance (grid 530000 180000) Available 40000 None 0 0) ∷ [];
  turns = [];
  assignments = [];
  points = [];
  loans = [];
  offers = [];
  reports = [];
}

report_available_return_stale : Steps
    (at 1001 (Crew A1) (ask.Report (pressed 1 button.Return 0 (grid 530120 180160))))
    before_report_available_return_stale (Ok (answer.Reported 1 Stale Available))
    (record before_report_available_return_stale {
      vehicles = (vehicle A1 2 2 Ambulance
          (grid 530000 180000) Available 40000 None 2147483647 1)
          ∷ (vehicle A2 1 1 Car (grid 530100 180000) Available 2000 None 0 0)
          ∷ (vehicle A3 1 1 Ambulance (grid 530000 180000) Available 40000 None 0 0)
          ∷ [];
      reports = (report A1 1 button.Return 0
          (grid 530120 180160) 1001 2 Stale Available false) ∷ [];
    })
unfolding machine
report_available_return_stale = (refl, refl)

abbrev before_report_available_return_wrong : Room
before_report_available_return_wrong = record {
  plan = two_divisions;
  divisions = (division 1 0) ∷ (division 2 0) ∷ [];
  incidents = [];
  calls = [];
  vehicles =
      (vehicle A1 1 1 Ambulance (grid 530000 180000) Available 2000 None 0 0)
      ∷ (vehicle A2 1 1 Car (grid 560000 180000) Available 5000 None 0 0) ∷ [];
  turns = [];
  assignments = [];
  points = [];
  loans = [];
  offers = [];
  reports = [];
}

report_available_return_wrong : Steps
    (at 1001 (Crew A1) (ask.Report (pressed 1 button.Return 0 (grid 530100 180000))))
    before_report_available_return_wrong (Ok (answer.Reported 1 Wrong Available))
    (record before_report_available_return_wrong {
      vehicles = (vehicle A1 1 1 Ambulance (grid 530000 180000) Available 2000 None 0 1)
          ∷ (vehicle A2 1 1 Car (grid 560000 180000) Available 5000 None 0 0)
          ∷ [];
      reports = (report A1 1 button.Return 0
          (grid 530100 180000) 1001 1 Wrong Available false) ∷ [];
    })
unfolding machine
report_available_return_wrong = (refl, refl)

abbrev before_report_available_scene_wrong : Room
before_report_available_scene_wrong = record {
  plan = overlapping_divisions;
  divisions = (division 1 0) ∷ (division 7 0) ∷ [];
  incidents = [];
  calls = [];
  vehicles =
      (vehicle A1 1 1 Ambulance (grid 530100 180100) Available 5000 None 0 0)
      ∷ (vehicle A2 1 1 Car (grid 560100 180000) Available 5000 None 0 0) ∷ [];
  turns = [];
  assignments = [];
  points = [];
  loans = [];
  offers = [];
  reports = [];
}

report_available_scene_wrong : Steps
    (at 1181 (Crew A1) (ask.Report (pressed 2 button.Scene 0 (grid 530200 180000))))
    before_report_available_scene_wrong (Ok (answer.Reported 2 Wrong Available))
    (record before_report_available_scene_wrong {
      vehicles = (vehicle A1 1 1 Ambulance (grid 530100 180100) Available 5000 None 0 2)
          ∷ (vehicle A2 1 1 Car (grid 560100 180000) Available 5000 None 0 0)
          ∷ [];
      reports = (report A1 2 button.Scene 0
          (grid 530200 180000) 1181 1 Wrong Available false) ∷ [];
    })
unfolding machine
report_available_scene_wrong = (refl, refl)

abbrev before_report_kept : Room
before_report_kept = record {
  plan = two_divisions;
  divisions = (division 1 2147483646) ∷ (division 2 2147483646) ∷ [];
  incidents = [];
  calls = [];
  vehicles =
      (vehicle A1 1 1 Car (grid 530100 180000) OffDuty 2000 None 0 1)
      ∷ (vehicle A2 2 2 Car (grid 530000 180000) OffDuty 0 None 0 0) ∷ [];
  turns = [];
  assignments = [];
  points = [];
  loans = [];
  offers = [];
  reports = (report A1 1 button.Mobile 0 (grid 531000 180000) 1242 1 Wrong OffDuty false) ∷ [];
}

report_kept : Steps (at 1543 (Crew A1)
    (ask.Report (pressed 1 button.Mobile 0 (grid 531000 180000)))) before_report_kept
    (Ok (answer.Reported 1 Wrong OffDuty)) before_report_kept
unfolding machine
report_kept = (refl, refl)

abbrev before_report_kept_2 : Room
before_report_kept_2 = record {
  plan = two_divisions;
  divisions = (division 1 0) ∷ (division 2 0) ∷ [];
  incidents = [];
  calls = [];
  vehicles =
      (vehicle A1 2 2 Car (grid 530000 180000) Available 5000 None 0 1)
      ∷ (vehicle A2 2 2 Ambulance (grid 560000 180000) Available 5000 None 0 0) ∷ [];
  turns = [];
  assignments = [];
  points = [];
  loans = [];
  offers = [];
  reports = (report A1 1 button.Home 0 (grid 530000 180000) 1301 2 Normal Available false) ∷ [];
}

report_kept_2 : Steps (at 1482 (Crew A1)
    (ask.Report (pressed 1 button.Home 0 (grid 530000 180000)))) before_report_kept_2
    (Ok (answer.Reported 1 Normal Available)) before_report_kept_2
unfolding machine
report_kept_2 = (refl, refl)

abbrev before_report_kept_3 : Room
before_report_kept_3 = record {
  plan = two_divisions;
  divisions = (division 1 3) ∷ (division 2 3) ∷ [];
  incidents = [];
  calls = [];
  vehicles =
      (vehicle A1 2 2 Ambulance (grid 530100 180000) OffDuty 0 None 0 0)
      ∷ (vehicle A2 1 1 Ambulance (grid 530100 180000) Available 5000 None 0 0)
      ∷ (vehicle A3 2 2 Ambulance (grid 530300 180400) Available 2000 None 0 2)
      ∷ (vehicle B1 1 1 Ambulance (grid 530100 180100) OffDuty 0 None 2147483647 1)
      ∷ (vehicle B2 2 2 Ambulance (grid 560100 180000) OffDuty 0 None 0 0) ∷ [];
  turns = [];
  assignments = [];
  points = [];
  loans = [];
  offers = [];
  reports =
      (report A3 2 button.Home 0 (grid 530300 180400) 1331 2 Normal Available false)
      ∷ (report B1 1 button.Leave 2147483646 (grid 530000 180000) 1030 1 Stale OffDuty false) ∷ [];
}

report_kept_3 : Steps (at 1632 (Crew B1)
    (ask.Report (pressed 1 button.Leave 2147483646 (grid 530000 180000)))) before_report_kept_3
    (Ok (answer.Reported 1 Stale OffDuty)) before_report_kept_3
unfolding machine
report_kept_3 = (refl, refl)

abbrev before_report_kept_4 : Room
before_report_kept_4 = record {
  plan = two_divisions;
  divisions = (division 1 1) ∷ (division 2 0) ∷ [];
  incidents = (incident 1 1 (grid 530100 180100) 1 (needs 0 0 1) 1041 None Active) ∷ [];
  calls = (call 2 5 1 1 1 false (grid 530100 180100) 1 (needs 0 0 1) [] 1041) ∷ [];
  vehicles =
      (vehicle A1 2 2 Ambulance (grid 530120 180160) Available 1047 None 0 4)
      ∷ (vehicle A2 1 1 Car (grid 560000 180000) OffDuty 0 None 0 2) ∷ [];
  turns = [];
  assignments = [];
  points = [];
  loans = [];
  offers = [];
  reports =
      (report A1 2 button.Position 0 (grid 530120 180160) 1327 2 Normal Available false)
      ∷ (report A1 3 button.Mobile 0 (grid 530100 180100) 1989 2 Late Available false)
      ∷ (report A1 4 button.Scene 0 (grid 530100 180000) 1808 2 Wrong Available false)
      ∷ (report A2 2 button.Position 0 (grid 530201 180000) 1347 1 Wrong OffDuty false) ∷ [];
}

report_kept_4 : Steps (at 2055 (Crew A1)
    (ask.Report (pressed 3 button.Mobile 0 (grid 530100 180100)))) before_report_kept_4
    (Ok (answer.Reported 3 Late Available)) before_report_kept_4
unfolding machine
report_kept_4 = (refl, refl)

abbrev before_report_kept_5 : Room
before_report_kept_5 = record {
  plan = overlapping_divisions;
  divisions = (division 1 1) ∷ (division 7 0) ∷ [];
  incidents = (incident 1 1 (grid 530100 180000) 1 (needs 1 1 0) 1362 (Some 1844) Active) ∷ [];
  calls =
      (call 1 1 1 1 1 false (grid 530100 180000) 1 (needs 1 0 0) [] 1362)
      ∷ (call 2 4 1 1 1 true (grid 530201 180000) 1 (needs 1 1 0) [] 1543) ∷ [];
  vehicles =
      (vehicle A1 1 1 Ambulance (grid 530100 180100) Returning 2000 None 1 2)
      ∷ (vehicle A2 1 1 Ambulance (grid 530100 180100) OffDuty 0 None 2147483647 3) ∷ [];
  turns = (turn A1 1 1 1 Ambulance 1844 None None None None (Some 2132) false) ∷ [];
  assignments = [];
  points = [];
  loans = [];
  offers = [];
  reports =
      (report A1 2 button.Return 1 (grid 530100 180100) 2132 1 Skipped Returning false)
      ∷ (report A2 2 button.Home 2147483647 (grid 530100 180000) 1663 1 Wrong OffDuty false)
      ∷ (report A2 3 button.Leave 2147483647 (grid 531000 180000) 2152 1 Wrong OffDuty false) ∷ [];
}

report_kept_5 : Steps (at 2158 (Crew A1)
    (ask.Report (pressed 2 button.Return 1 (grid 530100 180100)))) before_report_kept_5
    (Ok (answer.Reported 2 Skipped Returning)) before_report_kept_5
unfolding machine
report_kept_5 = (refl, refl)

abbrev before_report_leaving_home_skipped : Room
before_report_leaving_home_skipped = record {
  plan = overlapping_divisions;
  divisions = (division 1 1) ∷ (division 7 0) ∷ [];
  incidents = (incident 1 1 (grid 530201 180000) 2 (needs 2 0 1) 1181 (Some 39999) Active) ∷ [];
  calls =
      (call 1 5 1 1 1 true (grid 530100 180100) 2 (needs 2 0 0) (codes "x") 1361)
      ∷ (call 2 2 1 1 1 false (grid 530201 180000) 3 (needs 0 0 1) [] 1181) ∷ [];
  vehicles =
      (vehicle A1 1 1 Ambulance (grid 560100 180000) Available 40000 None 0 0)
      ∷ (vehicle A2 1 1 Support (grid 530100 180000) Leaving 40000 None 1 1)
      ∷ (vehicle A3 1 1 Support (grid 530200 180000) Available 40000 None 0 0) ∷ [];
  turns = (turn A2 1 1 1 Support 39999 None None (Some 2024) None None false) ∷ [];
  assignments = (assignment A2 1 1 1 (grid 530201 180000) 3) ∷ [];
  points = [];
  loans = [];
  offers = [];
  reports = (report A2 1 button.Leave 1 (grid 530100 180000) 2024 1 Skipped Leaving false) ∷ [];
}

report_leaving_home_skipped : Steps
    (at 2535 (Crew A2) (ask.Report (pressed 2 button.Home 1 (grid 530120 180160))))
    before_report_leaving_home_skipped (Ok (answer.Reported 2 Skipped Available))
    (record before_report_leaving_home_skipped {
      vehicles = (vehicle A1 1 1 Ambulance (grid 560100 180000) Available 40000 None 0 0)
          ∷ (vehicle A2 1 1 Support (grid 530120 180160) Available 40000 None 1 2)
          ∷ (vehicle A3 1 1 Support (grid 530200 180000) Available 40000 None 0 0)
          ∷ [];
      turns = (turn A2 1 1 1 Support 39999 None None (Some 2024) None
          (Some 2535) false) ∷ [];
      assignments = [];
      reports =
          (report A2 1 button.Leave 1 (grid 530100 180000) 2024 1 Skipped Leaving false)
          ∷ (report A2 2 button.Home 1 (grid 530120 180160) 2535 1 Skipped Available
          false) ∷ [];
    })
unfolding machine
report_leaving_home_skipped = (refl, refl)

abbrev before_report_leaving_home_skipped_2 : Room
before_report_leaving_home_skipped_2 = record {
  plan = two_divisions;
  divisions = (division 1 2) ∷ (division 2 3) ∷ [];
  incidents =
      (incident 1 1 (grid 530300 180400) 3 (needs 1 0 0) 1481 (Some 1962) Active)
      ∷ (incident 1 2 (grid 530201 180000) 2 (needs 2 0 0) 2113 None Active) ∷ [];
  calls =
      (call 1 1 1 2 2 false (grid 530201 180000) 2 (needs 2 0 0) (codes "x") 2113)
      ∷ (call 2 6 1 1 1 false (grid 530300 180400) 3 (needs 1 0 0) [] 1481) ∷ [];
  vehicles =
      (vehicle A1 1 1 Ambulance (grid 530120 180160) OffDuty 0 None 0 0)
      ∷ (vehicle A2 1 1 Ambulance (grid 530300 180400) Leaving 40000 None 1 2)
      ∷ (vehicle A3 2 2 Ambulance (grid 560200 180000) Available 40000 None 0 0)
      ∷ (vehicle B1 2 2 Ambulance (grid 530000 180000) Available 40000 None 0 1) ∷ [];
  turns = (turn A2 1 1 1 Ambulance 1962 (Some 1993) None (Some 2324) None None false) ∷ [];
  assignments = (assignment A2 1 1 1 (grid 530300 180400) 3) ∷ [];
  points = [];
  loans = [];
  offers = [];
  reports =
      (report A2 1 button.Mobile 1 (grid 530000 180000) 1993 1 Normal Mobilised false)
      ∷ (report A2 2 button.Leave 1 (grid 530300 180400) 2324 1 Skipped Leaving false)
      ∷ (report B1 1 button.Leave 0 (grid 530100 180100) 2143 2 Wrong Available false) ∷ [];
}

report_leaving_home_skipped_2 : Steps
    (at 2505 (Crew A2) (ask.Report (pressed 4 button.Home 1 (grid 530300 180400))))
    before_report_leaving_home_skipped_2 (Ok (answer.Reported 4 Skipped Available))
    (record before_report_leaving_home_skipped_2 {
      vehicles = (vehicle A1 1 1 Ambulance (grid 530120 180160) OffDuty 0 None 0 0)
          ∷ (vehicle A2 1 1 Ambulance (grid 530300 180400) Available 40000 None 1 4)
          ∷ (vehicle A3 2 2 Ambulance (grid 560200 180000) Available 40000 None 0 0)
          ∷ (vehicle B1 2 2 Ambulance (grid 530000 180000) Available 40000 None 0 1)
          ∷ [];
      turns = (turn A2 1 1 1 Ambulance 1962 (Some 1993) None (Some 2324) None
          (Some 2505) false) ∷ [];
      assignments = [];
      reports =
          (report A2 1 button.Mobile 1 (grid 530000 180000) 1993 1 Normal Mobilised
          false) ∷ (report A2 2 button.Leave 1
          (grid 530300 180400) 2324 1 Skipped Leaving false)
          ∷ (report A2 4 button.Home 1 (grid 530300 180400) 2505 1 Skipped
          Available false) ∷ (report B1 1 button.Leave 0
          (grid 530100 180100) 2143 2 Wrong Available false) ∷ [];
    })
unfolding machine
report_leaving_home_skipped_2 = (refl, refl)

abbrev before_report_leaving_hospital_normal : Room
before_report_leaving_hospital_normal = record {
  plan = overlapping_divisions;
  divisions = (division 1 1) ∷ (division 7 0) ∷ [];
  incidents = (incident 1 1 (grid 560200 180000) 3 (needs 1 1 0) 1001 (Some 1011) Active) ∷ [];
  calls = (call 2 1 1 1 1 false (grid 560200 180000) 3 (needs 1 1 0) (codes "x") 1001) ∷ [];
  vehicles =
      (vehicle A1 1 1 Ambulance (grid 530201 180000) Leaving 5000 None 1 2)
      ∷ (vehicle A2 1 1 Car (grid 530120 180160) OffDuty 0 None 2147483647 2) ∷ [];
  turns = (turn A1 1 1 1 Ambulance 1011 None None (Some 1493) None None false) ∷ [];
  assignments = (assignment A1 1 1 1 (grid 560200 180000) 3) ∷ [];
  points = [];
  loans = [];
  offers = [];
  reports =
      (report A1 1 button.Return 0 (grid 530201 180000) 1006 1 Wrong Available false)
      ∷ (report A1 2 button.Leave 1 (grid 530201 180000) 1493 1 Skipped Leaving false)
      ∷ (report A2 2 button.Home 2147483647 (grid 530120 180160) 1523 1 Wrong OffDuty false) ∷ [];
}

report_leaving_hospital_normal : Steps
    (at 1704 (Crew A1) (ask.Report (pressed 3 button.Hospital 1 (grid 531000 180000))))
    before_report_leaving_hospital_normal (Ok (answer.Reported 3 Normal AtHospital))
    (record before_report_leaving_hospital_normal {
      vehicles = (vehicle A1 1 1 Ambulance (grid 531000 180000) AtHospital 5000 None 1 3)
          ∷ (vehicle A2 1 1 Car (grid 530120 180160) OffDuty 0 None 2147483647 2)
          ∷ [];
      turns = (turn A1 1 1 1 Ambulance 1011 None None (Some 1493)
          (Some 1704) None false) ∷ [];
      reports =
          (report A1 1 button.Return 0 (grid 530201 180000) 1006 1 Wrong Available false)
          ∷ (report A1 2 button.Leave 1 (grid 530201 180000) 1493 1 Skipped Leaving
          false) ∷ (report A1 3 button.Hospital 1
          (grid 531000 180000) 1704 1 Normal AtHospital false)
          ∷ (report A2 2 button.Home 2147483647
          (grid 530120 180160) 1523 1 Wrong OffDuty false) ∷ [];
    })
unfolding machine
report_leaving_hospital_normal = (refl, refl)

abbrev before_report_leaving_hospital_normal_2 : Room
before_report_leaving_hospital_normal_2 = record {
  plan = two_divisions;
  divisions = (division 1 4) ∷ (division 2 1) ∷ [];
  incidents =
      (incident 1 4 (grid 530100 180000) 1 (needs 1 0 0) 1186 (Some 2149) Active)
      ∷ (incident 2 1 (grid 560000 180000) 2 (needs 2 0 0) 4688 None Active) ∷ [];
  calls =
      (call 1 6 1 4 4 false (grid 530100 180000) 1 (needs 1 0 0) (codes "x") 1186)
      ∷ (call 2 3 2 1 1 false (grid 560000 180000) 2 (needs 2 0 0) (codes "x") 4688) ∷ [];
  vehicles =
      (vehicle A1 1 1 Ambulance (grid 530100 180000) Available 8446 None 2147483647 0)
      ∷ (vehicle A2 1 1 Ambulance (grid 530300 180400) Available 2000 None 0 3)
      ∷ (vehicle A3 1 1 Ambulance (grid 530200 180000) Leaving 40000 None 1 4)
      ∷ (vehicle B1 2 2 Ambulance (grid 530100 180100) Available 3899 None 0 0)
      ∷ (vehicle B2 2 2 Ambulance (grid 530100 180100) Available 5181 None 0 0) ∷ [];
  turns = (turn A3 1 1 4 Ambulance 2149 (Some 4627) None (Some 4753) None None false) ∷ [];
  assignments = (assignment A3 1 4 1 (grid 530100 180000) 1) ∷ [];
  points = [];
  loans = [];
  offers = [];
  reports =
      (report A2 2 button.Scene 0 (grid 530300 180400) 1668 1 Wrong Available false)
      ∷ (report A2 3 button.Home 0 (grid 530300 180400) 2936 1 Normal Available false)
      ∷ (report A3 1 button.Mobile 1 (grid 530200 180000) 4627 1 Normal Mobilised false)
      ∷ (report A3 2 button.Leave 1 (grid 530200 180000) 4753 1 Skipped Leaving false)
      ∷ (report A3 4 button.Hospital 0 (grid 530201 180000) 4759 1 Stale Leaving false) ∷ [];
}

report_leaving_hospital_normal_2 : Steps
    (at 5702 (Crew A3) (ask.Report (pressed 5 button.Hospital 1 (grid 530120 180160))))
    before_report_leaving_hospital_normal_2 (Ok (answer.Reported 5 Normal AtHospital))
    (record before_report_leaving_hospital_normal_2 {
      vehicles = (vehicle A1 1 1 Ambulance
          (grid 530100 180000) Available 8446 None 2147483647 0)
          ∷ (vehicle A2 1 1 Ambulance (grid 530300 180400) Available 2000 None 0 3)
          ∷ (vehicle A3 1 1 Ambulance (grid 530120 180160) AtHospital 40000 None 1 5)
          ∷ (vehicle B1 2 2 Ambulance (grid 530100 180100) Available 3899 None 0 0)
          ∷ (vehicle B2 2 2 Ambulance (grid 530100 180100) Available 5181 None 0 0)
          ∷ [];
      turns = (turn A3 1 1 4 Ambulance 2149 (Some 4627) None (Some 4753)
          (Some 5702) None false) ∷ [];
      reports =
          (report A2 2 button.Scene 0 (grid 530300 180400) 1668 1 Wrong Available
          false) ∷ (report A2 3 button.Home 0
          (grid 530300 180400) 2936 1 Normal Available false)
          ∷ (report A3 1 button.Mobile 1 (grid 530200 180000) 4627 1 Normal
          Mobilised false) ∷ (report A3 2 button.Leave 1
          (grid 530200 180000) 4753 1 Skipped Leaving false)
          ∷ (report A3 4 button.Hospital 0 (grid 530201 180000) 4759
          1 Stale Leaving false) ∷ (report A3 5 button.Hospital 1
          (grid 530120 180160) 5702 1 Normal AtHospital false) ∷ [];
    })
unfolding machine
report_leaving_hospital_normal_2 = (refl, refl)

abbrev before_report_leaving_leave_normal : Room
before_report_leaving_leave_normal = record {
  plan = two_divisions;
  divisions = (division 1 2) ∷ (division 2 0) ∷ [];
  incidents =
      (incident 1 1 (grid 530120 180160) 1 (needs 1 0 0) 1516 (Some 1697) Active)
      ∷ (incident 1 2 (grid 531000 180000) 3 (needs 1 0 0) 1697 None Active) ∷ [];
  calls =
      (call 1 4 1 2 2 false (grid 531000 180000) 3 (needs 1 0 0) [] 1697)
      ∷ (call 1 5 1 1 1 false (grid 530120 180160) 1 (needs 1 0 0) [] 1516) ∷ [];
  vehicles =
      (vehicle A1 1 1 Ambulance (grid 530200 180000) Leaving 2000 None 1 1)
      ∷ (vehicle A2 2 2 Ambulance (grid 530300 180400) Available 2000 None 0 0)
      ∷ (vehicle A3 2 2 Support (grid 530300 180400) OffDuty 0 None 0 0)
      ∷ (vehicle B1 2 2 Support (grid 530100 180100) OffDuty 0 None 0 0)
      ∷ (vehicle B2 2 2 Ambulance (grid 560100 180000) Available 40000 None 0 0) ∷ [];
  turns = (turn A1 1 1 1 Ambulance 1697 None None (Some 1878) None None false) ∷ [];
  assignments = (assignment A1 1 1 1 (grid 530120 180160) 1) ∷ [];
  points = [];
  loans = [];
  offers = [];
  reports = (report A1 1 button.Leave 1 (grid 530200 180000) 1878 1 Skipped Leaving false) ∷ [];
}

report_leaving_leave_normal : Steps
    (at 2642 (Crew A1) (ask.Report (pressed 3 button.Leave 1 (grid 530200 180000))))
    before_report_leaving_leave_normal (Ok (answer.Reported 3 Normal Leaving))
    (record before_report_leaving_leave_normal {
      vehicles = (vehicle A1 1 1 Ambulance (grid 530200 180000) Leaving 2000 None 1 3)
          ∷ (vehicle A2 2 2 Ambulance (grid 530300 180400) Available 2000 None 0 0)
          ∷ (vehicle A3 2 2 Support (grid 530300 180400) OffDuty 0 None 0 0)
          ∷ (vehicle B1 2 2 Support (grid 530100 180100) OffDuty 0 None 0 0)
          ∷ (vehicle B2 2 2 Ambulance (grid 560100 180000) Available 40000 None 0 0)
          ∷ [];
      reports = (report A1 1 button.Leave 1
          (grid 530200 180000) 1878 1 Skipped Leaving false)
          ∷ (report A1 3 button.Leave 1 (grid 530200 180000) 2642 1 Normal Leaving false)
          ∷ [];
    })
unfolding machine
report_leaving_leave_normal = (refl, refl)

abbrev before_report_leaving_leave_normal_2 : Room
before_report_leaving_leave_normal_2 = record {
  plan = overlapping_divisions;
  divisions = (division 1 7) ∷ (division 7 3) ∷ [];
  incidents =
      (incident 1 4 (grid 560200 180000) 1 (needs 0 0 1) 1307 None Active)
      ∷ (incident 1 5 (grid 530120 180160) 1 (needs 2 1 1) 2208 None Active)
      ∷ (incident 1 6 (grid 530300 180400) 3 (needs 2 1 1) 2815 (Some 2876) Active)
      ∷ (incident 1 7 (grid 560100 180000) 3 (needs 2 1 1) 3828 None Active) ∷ [];
  calls =
      (call 1 2 1 7 7 false (grid 560100 180000) 3 (needs 2 1 1) [] 3828)
      ∷ (call 1 3 1 6 6 false (grid 530300 180400) 3 (needs 2 1 1) [] 2815)
      ∷ (call 2 3 1 5 5 false (grid 530120 180160) 1 (needs 2 1 1) (codes "x") 2208)
      ∷ (call 2 5 1 4 4 false (grid 560200 180000) 1 (needs 0 0 1) [] 1307) ∷ [];
  vehicles =
      (vehicle A1 1 1 Support (grid 530200 180000) Leaving 5000 None 1 5)
      ∷ (vehicle A2 7 7 Car (grid 530000 180000) Available 40000 None 0 1) ∷ [];
  turns = (turn A1 1 1 6 Support 2876 (Some 3818) None (Some 3818) None None false) ∷ [];
  assignments = (assignment A1 1 6 1 (grid 530300 180400) 3) ∷ [];
  points = (point 1 1 (grid 530300 180400) 0) ∷ (point 1 2 (grid 530200 180000) 0) ∷ [];
  loans = [];
  offers = [];
  reports =
      (report A1 1 button.Mobile 1 (grid 530201 180000) 3818 1 Normal Mobilised false)
      ∷ (report A1 2 button.Mobile 1 (grid 531000 180000) 3848 1 Normal Mobilised false)
      ∷ (report A1 4 button.Position 1 (grid 530201 180000) 3848 1 Normal Mobilised false)
      ∷ (report A1 5 button.Leave 1 (grid 530200 180000) 3818 1 Skipped Leaving false)
      ∷ (report A2 1 button.Scene 0 (grid 530300 180400) 1061 7 Wrong Available false) ∷ [];
}

report_leaving_leave_normal_2 : Steps
    (at 3820 (Crew A1) (ask.Report (pressed 7 button.Leave 1 (grid 530000 180000))))
    before_report_leaving_leave_normal_2 (Ok (answer.Reported 7 Normal Leaving))
    (record before_report_leaving_leave_normal_2 {
      vehicles = (vehicle A1 1 1 Support (grid 530000 180000) Leaving 5000 None 1 7)
          ∷ (vehicle A2 7 7 Car (grid 530000 180000) Available 40000 None 0 1)
          ∷ [];
      reports = (report A1 1 button.Mobile 1
          (grid 530201 180000) 3818 1 Normal Mobilised false)
          ∷ (report A1 2 button.Mobile 1 (grid 531000 180000) 3848 1 Normal Mobilised
          false) ∷ (report A1 4 button.Position 1
          (grid 530201 180000) 3848 1 Normal Mobilised false)
          ∷ (report A1 5 button.Leave 1 (grid 530200 180000) 3818 1 Skipped
          Leaving false) ∷ (report A1 7 button.Leave 1
          (grid 530000 180000) 3820 1 Normal Leaving false)
          ∷ (report A2 1 button.Scene 0 (grid 530300 180400) 1061 7 Wrong
          Available false) ∷ [];
    })
unfolding machine
report_leaving_leave_normal_2 = (refl, refl)

abbrev before_report_leaving_mobile_stale : Room
before_report_leaving_mobile_stale = record {
  plan = two_divisions;
  divisions = (division 1 4) ∷ (division 2 0) ∷ [];
  incidents = (incident 1 4 (grid 530300 180400) 2 (needs 2 0 0) 1036 (Some 1077) Active) ∷ [];
  calls = (call 2 6 1 4 4 false (grid 530300 180400) 2 (needs 2 0 0) [] 1036) ∷ [];
  vehicles =
      (vehicle A1 1 1 Ambulance (grid 530100 180100) Leaving 2000 None 1 3)
      ∷ (vehicle A2 2 2 Ambulance (grid 560100 180000) Available 40000 None 0 0)
      ∷ (vehicle A3 2 2 Ambulance (grid 530000 180000) Available 2000 None 0 2) ∷ [];
  turns = (turn A1 1 1 4 Ambulance 1077 None None (Some 1319) None None false) ∷ [];
  assignments = (assignment A1 1 4 1 (grid 530300 180400) 2) ∷ [];
  points = [];
  loans = [];
  offers = [];
  reports =
      (report A1 1 button.Position 0 (grid 530100 180100) 1036 1 Normal Available false)
      ∷ (report A1 2 button.Position 1 (grid 530100 180000) 1078 1 Normal Mobilised false)
      ∷ (report A1 3 button.Leave 1 (grid 530100 180100) 1319 1 Skipped Leaving false)
      ∷ (report A3 2 button.Scene 0 (grid 530300 180400) 1482 2 Wrong Available false) ∷ [];
}

report_leaving_mobile_stale : Steps
    (at 1602 (Crew A1) (ask.Report (pressed 4 button.Mobile 0 (grid 530100 180100))))
    before_report_leaving_mobile_stale (Ok (answer.Reported 4 Stale Leaving))
    (record before_report_leaving_mobile_stale {
      vehicles = (vehicle A1 1 1 Ambulance (grid 530100 180100) Leaving 2000 None 1 4)
          ∷ (vehicle A2 2 2 Ambulance (grid 560100 180000) Available 40000 None 0 0)
          ∷ (vehicle A3 2 2 Ambulance (grid 530000 180000) Available 2000 None 0 2)
          ∷ [];
      reports = (report A1 1 button.Position 0
          (grid 530100 180100) 1036 1 Normal Available false)
          ∷ (report A1 2 button.Position 1 (grid 530100 180000) 1078 1 Normal Mobilised
          false) ∷ (report A1 3 button.Leave 1
          (grid 530100 180100) 1319 1 Skipped Leaving false)
          ∷ (report A1 4 button.Mobile 0 (grid 530100 180100) 1602 1 Stale
          Leaving false) ∷ (report A3 2 button.Scene 0
          (grid 530300 180400) 1482 2 Wrong Available false) ∷ [];
    })
unfolding machine
report_leaving_mobile_stale = (refl, refl)

abbrev before_report_leaving_mobile_wrong : Room
before_report_leaving_mobile_wrong = record {
  plan = two_divisions;
  divisions = (division 1 4) ∷ (division 2 0) ∷ [];
  incidents = (incident 1 4 (grid 530000 180000) 2 (needs 2 1 1) 1301 (Some 1784) Active) ∷ [];
  calls =
      (call 1 1 1 4 4 false (grid 530000 180000) 2 (needs 2 1 1) [] 1301)
      ∷ (call 1 4 1 4 4 true (grid 530200 180000) 3 (needs 1 0 0) [] 2141) ∷ [];
  vehicles =
      (vehicle A1 1 1 Support (grid 560000 180000) OffDuty 0 None 0 1)
      ∷ (vehicle A2 1 1 Support (grid 530000 180000) Leaving 2000 None 1 2)
      ∷ (vehicle A3 2 2 Car (grid 530100 180000) Available 2000 None 0 1) ∷ [];
  turns = (turn A2 1 1 4 Support 1784 None (Some 1884) (Some 1885) None None false) ∷ [];
  assignments = (assignment A2 1 4 1 (grid 530000 180000) 2) ∷ [];
  points = (point 2 2 (grid 530000 180000) 2) ∷ [];
  loans = [];
  offers = [];
  reports =
      (report A1 1 button.Scene 0 (grid 530120 180160) 1602 1 Wrong OffDuty true)
      ∷ (report A2 1 button.Scene 1 (grid 530201 180000) 1884 1 Skipped AtScene false)
      ∷ (report A2 2 button.Leave 1 (grid 530000 180000) 1885 1 Normal Leaving false)
      ∷ (report A3 1 button.Home 0 (grid 530100 180000) 1904 2 Normal Available false) ∷ [];
}

report_leaving_mobile_wrong : Steps
    (at 2308 (Crew A2) (ask.Report (pressed 3 button.Mobile 1 (grid 530201 180000))))
    before_report_leaving_mobile_wrong (Ok (answer.Reported 3 Wrong Leaving))
    (record before_report_leaving_mobile_wrong {
      vehicles = (vehicle A1 1 1 Support (grid 560000 180000) OffDuty 0 None 0 1)
          ∷ (vehicle A2 1 1 Support (grid 530000 180000) Leaving 2000 None 1 3)
          ∷ (vehicle A3 2 2 Car (grid 530100 180000) Available 2000 None 0 1)
          ∷ [];
      reports = (report A1 1 button.Scene 0
          (grid 530120 180160) 1602 1 Wrong OffDuty true)
          ∷ (report A2 1 button.Scene 1 (grid 530201 180000) 1884 1 Skipped AtScene
          false) ∷ (report A2 2 button.Leave 1
          (grid 530000 180000) 1885 1 Normal Leaving false)
          ∷ (report A2 3 button.Mobile 1 (grid 530201 180000) 2308 1 Wrong
          Leaving false) ∷ (report A3 1 button.Home 0
          (grid 530100 180000) 1904 2 Normal Available false) ∷ [];
    })
unfolding machine
report_leaving_mobile_wrong = (refl, refl)

abbrev before_report_leaving_mobile_wrong_2 : Room
before_report_leaving_mobile_wrong_2 = record {
  plan = overlapping_divisions;
  divisions = (division 1 7) ∷ (division 7 3) ∷ [];
  incidents =
      (incident 1 4 (grid 560200 180000) 1 (needs 0 0 1) 1307 None Active)
      ∷ (incident 1 5 (grid 530120 180160) 1 (needs 2 1 1) 2208 None Active)
      ∷ (incident 1 6 (grid 530300 180400) 3 (needs 2 1 1) 2815 (Some 2876) Active)
      ∷ (incident 1 7 (grid 560100 180000) 2 (needs 2 1 1) 3108 None Active) ∷ [];
  calls =
      (call 1 2 1 7 7 false (grid 560100 180000) 3 (needs 2 1 1) [] 3828)
      ∷ (call 1 3 1 6 6 false (grid 530300 180400) 3 (needs 2 1 1) [] 2815)
      ∷ (call 1 4 1 7 7 true (grid 560200 180000) 2 (needs 0 1 0) [] 3108)
      ∷ (call 2 3 1 5 5 false (grid 530120 180160) 1 (needs 2 1 1) (codes "x") 2208)
      ∷ (call 2 5 1 4 4 false (grid 560200 180000) 1 (needs 0 0 1) [] 1307) ∷ [];
  vehicles =
      (vehicle A1 1 1 Support (grid 530000 180000) Leaving 5000 None 1 7)
      ∷ (vehicle A2 7 7 Car (grid 530000 180000) Offered 40000 None 0 1) ∷ [];
  turns = (turn A1 1 1 6 Support 2876 (Some 3818) None (Some 3818) None None false) ∷ [];
  assignments = (assignment A1 1 6 1 (grid 530300 180400) 3) ∷ [];
  points = (point 1 1 (grid 530300 180400) 0) ∷ (point 1 2 (grid 530200 180000) 0) ∷ [];
  loans = [];
  offers = (offer A2 7 1 4273 4273) ∷ [];
  reports =
      (report A1 1 button.Mobile 1 (grid 530201 180000) 3818 1 Normal Mobilised false)
      ∷ (report A1 2 button.Mobile 1 (grid 531000 180000) 3848 1 Normal Mobilised false)
      ∷ (report A1 4 button.Position 1 (grid 530201 180000) 3848 1 Normal Mobilised false)
      ∷ (report A1 5 button.Leave 1 (grid 530200 180000) 3818 1 Skipped Leaving false)
      ∷ (report A1 7 button.Leave 1 (grid 530000 180000) 3820 1 Normal Leaving false)
      ∷ (report A2 1 button.Scene 0 (grid 530300 180400) 1061 7 Wrong Available false) ∷ [];
}

report_leaving_mobile_wrong_2 : Steps
    (at 4274 (Crew A1) (ask.Report (pressed 8 button.Mobile 1 (grid 530120 180160))))
    before_report_leaving_mobile_wrong_2 (Ok (answer.Reported 8 Wrong Leaving))
    (record before_report_leaving_mobile_wrong_2 {
      vehicles = (vehicle A1 1 1 Support (grid 530000 180000) Leaving 5000 None 1 8)
          ∷ (vehicle A2 7 7 Car (grid 530000 180000) Offered 40000 None 0 1)
          ∷ [];
      reports = (report A1 1 button.Mobile 1
          (grid 530201 180000) 3818 1 Normal Mobilised false)
          ∷ (report A1 2 button.Mobile 1 (grid 531000 180000) 3848 1 Normal Mobilised
          false) ∷ (report A1 4 button.Position 1
          (grid 530201 180000) 3848 1 Normal Mobilised false)
          ∷ (report A1 5 button.Leave 1 (grid 530200 180000) 3818 1 Skipped
          Leaving false) ∷ (report A1 7 button.Leave 1
          (grid 530000 180000) 3820 1 Normal Leaving false)
          ∷ (report A1 8 button.Mobile 1 (grid 530120 180160) 4274 1
          Wrong Leaving false) ∷ (report A2 1 button.Scene 0
          (grid 530300 180400) 1061 7 Wrong Available false) ∷ [];
    })
unfolding machine
report_leaving_mobile_wrong_2 = (refl, refl)

abbrev before_report_leaving_position_normal : Room
before_report_leaving_position_normal = record {
  plan = two_divisions;
  divisions = (division 1 2147483647) ∷ (division 2 2147483647) ∷ [];
  incidents = (incident 2 2147483647 (grid 560000 180000) 1 (needs 1 0 0) 1240 (Some 1426) Active) ∷ [];
  calls = (call 2 2 2 2147483647 2147483647 false (grid 560000 180000) 1 (needs 1 0 0) [] 1240) ∷ [];
  vehicles =
      (vehicle A1 2 2 Support (grid 530120 180160) Available 5000 None 0 0)
      ∷ (vehicle A2 2 2 Ambulance (grid 560200 180000) Available 40000 None 0 1)
      ∷ (vehicle A3 2 2 Ambulance (grid 531000 180000) Leaving 5000 None 1 2)
      ∷ (vehicle B1 2 2 Ambulance (grid 531000 180000) Available 40000 None 0 0) ∷ [];
  turns = (turn A3 1 2 2147483647 Ambulance 1426 None None (Some 1762) None None false) ∷ [];
  assignments = (assignment A3 2 2147483647 1 (grid 560000 180000) 1) ∷ [];
  points = [];
  loans = [];
  offers = [];
  reports =
      (report A2 1 button.Scene 0 (grid 530000 180000) 1727 2 Wrong Available false)
      ∷ (report A3 1 button.Scene 0 (grid 530201 180000) 1120 2 Wrong Available false)
      ∷ (report A3 2 button.Leave 1 (grid 531000 180000) 1762 2 Skipped Leaving false) ∷ [];
}

report_leaving_position_normal : Steps
    (at 1808 (Crew A3) (ask.Report (pressed 3 button.Position 1 (grid 530201 180000))))
    before_report_leaving_position_normal (Ok (answer.Reported 3 Normal Leaving))
    (record before_report_leaving_position_normal {
      vehicles = (vehicle A1 2 2 Support (grid 530120 180160) Available 5000 None 0 0)
          ∷ (vehicle A2 2 2 Ambulance (grid 560200 180000) Available 40000 None 0 1)
          ∷ (vehicle A3 2 2 Ambulance (grid 530201 180000) Leaving 5000 None 1 3)
          ∷ (vehicle B1 2 2 Ambulance (grid 531000 180000) Available 40000 None 0 0)
          ∷ [];
      reports = (report A2 1 button.Scene 0
          (grid 530000 180000) 1727 2 Wrong Available false)
          ∷ (report A3 1 button.Scene 0 (grid 530201 180000) 1120 2 Wrong Available
          false) ∷ (report A3 2 button.Leave 1
          (grid 531000 180000) 1762 2 Skipped Leaving false)
          ∷ (report A3 3 button.Position 1 (grid 530201 180000) 1808 2 Normal
          Leaving false) ∷ [];
    })
unfolding machine
report_leaving_position_normal = (refl, refl)

abbrev before_report_leaving_position_normal_2 : Room
before_report_leaving_position_normal_2 = record {
  plan = two_divisions;
  divisions = (division 1 1) ∷ (division 2 1) ∷ [];
  incidents =
      (incident 1 1 (grid 530200 180000) 2 (needs 1 1 0) 2106 None Active)
      ∷ (incident 2 1 (grid 560000 180000) 3 (needs 1 1 0) 1344 (Some 1645) Active) ∷ [];
  calls =
      (call 1 1 2 1 1 false (grid 560000 180000) 3 (needs 1 1 0) [] 1344)
      ∷ (call 1 6 1 1 1 false (grid 530200 180000) 2 (needs 1 0 0) (codes "x") 2106)
      ∷ (call 2 6 1 1 1 true (grid 530100 180000) 2 (needs 1 0 0) [] 2136) ∷ [];
  vehicles =
      (vehicle A1 2 2 Ambulance (grid 530000 180000) Leaving 2000 None 1 4)
      ∷ (vehicle A2 2 2 Car (grid 530201 180000) Available 2000 None 0 2)
      ∷ (vehicle A3 1 1 Ambulance (grid 530300 180400) OffDuty 0 None 0 0) ∷ [];
  turns = (turn A1 1 2 1 Ambulance 1645 (Some 1625) (Some 2617) (Some 3912) None None false) ∷ [];
  assignments = (assignment A1 2 1 1 (grid 560000 180000) 3) ∷ [];
  points = (point 1 1 (grid 530100 180000) 1) ∷ [];
  loans = [];
  offers = [];
  reports =
      (report A1 2 button.Mobile 1 (grid 530120 180160) 1625 2 Normal Mobilised false)
      ∷ (report A1 3 button.Scene 1 (grid 530120 180160) 2617 2 Normal AtScene false)
      ∷ (report A1 4 button.Leave 1 (grid 530000 180000) 3912 2 Normal Leaving false)
      ∷ (report A2 2 button.Leave 0 (grid 530201 180000) 3611 2 Wrong Available false) ∷ [];
}

report_leaving_position_normal_2 : Steps
    (at 3942 (Crew A1) (ask.Report (pressed 5 button.Position 1 (grid 530200 180000))))
    before_report_leaving_position_normal_2 (Ok (answer.Reported 5 Normal Leaving))
    (record before_report_leaving_position_normal_2 {
      vehicles = (vehicle A1 2 2 Ambulance (grid 530200 180000) Leaving 2000 None 1 5)
          ∷ (vehicle A2 2 2 Car (grid 530201 180000) Available 2000 None 0 2)
          ∷ (vehicle A3 1 1 Ambulance (grid 530300 180400) OffDuty 0 None 0 0)
          ∷ [];
      reports = (report A1 2 button.Mobile 1
          (grid 530120 180160) 1625 2 Normal Mobilised false)
          ∷ (report A1 3 button.Scene 1 (grid 530120 180160) 2617 2 Normal AtScene false)
          ∷ (report A1 4 button.Leave 1 (grid 530000 180000) 3912 2 Normal Leaving false)
          ∷ (report A1 5 button.Position 1 (grid 530200 180000) 3942 2 Normal Leaving
          false) ∷ (report A2 2 button.Leave 0
          (grid 530201 180000) 3611 2 Wrong Available false) ∷ [];
    })
unfolding machine
report_leaving_position_normal_2 = (refl, refl)

abbrev before_report_leaving_return_skipped : Room
before_report_leaving_return_skipped = record {
  plan = two_divisions;
  divisions = (division 1 0) ∷ (division 2 1) ∷ [];
  incidents = (incident 2 1 (grid 560100 180000) 3 (needs 2 1 1) 1030 (Some 5001) Active) ∷ [];
  calls = (call 1 4 2 1 1 false (grid 560100 180000) 3 (needs 2 1 1) (codes "x") 1030) ∷ [];
  vehicles =
      (vehicle A1 2 2 Ambulance (grid 530201 180000) OffDuty 0 None 0 0)
      ∷ (vehicle A2 2 2 Ambulance (grid 530100 180000) Leaving 40000 None 1 2)
      ∷ (vehicle A3 2 2 Ambulance (grid 531000 180000) Available 5000 None 0 0) ∷ [];
  turns = (turn A2 1 2 1 Ambulance 5001 None None (Some 1332) None None false) ∷ [];
  assignments = (assignment A2 2 1 1 (grid 560100 180000) 3) ∷ [];
  points = [];
  loans = [];
  offers = [];
  reports = (report A2 2 button.Leave 1 (grid 530100 180000) 1332 2 Skipped Leaving false) ∷ [];
}

report_leaving_return_skipped : Steps
    (at 1798 (Crew A2) (ask.Report (pressed 3 button.Return 1 (grid 530000 180000))))
    before_report_leaving_return_skipped (Ok (answer.Reported 3 Skipped Returning))
    (record before_report_leaving_return_skipped {
      vehicles = (vehicle A1 2 2 Ambulance (grid 530201 180000) OffDuty 0 None 0 0)
          ∷ (vehicle A2 2 2 Ambulance (grid 530000 180000) Returning 40000 None 1 3)
          ∷ (vehicle A3 2 2 Ambulance (grid 531000 180000) Available 5000 None 0 0)
          ∷ [];
      turns = (turn A2 1 2 1 Ambulance 5001 None None (Some 1332) None
          (Some 1798) false) ∷ [];
      assignments = [];
      reports =
          (report A2 2 button.Leave 1 (grid 530100 180000) 1332 2 Skipped Leaving false)
          ∷ (report A2 3 button.Return 1 (grid 530000 180000) 1798 2 Skipped Returning
          false) ∷ [];
    })
unfolding machine
report_leaving_return_skipped = (refl, refl)

abbrev before_report_leaving_return_skipped_2 : Room
before_report_leaving_return_skipped_2 = record {
  plan = overlapping_divisions;
  divisions = (division 1 8) ∷ (division 7 3) ∷ [];
  incidents =
      (incident 1 4 (grid 560200 180000) 1 (needs 0 0 1) 1307 None Active)
      ∷ (incident 1 5 (grid 530120 180160) 1 (needs 2 1 1) 2208 None Active)
      ∷ (incident 1 6 (grid 530300 180400) 3 (needs 2 1 1) 2815 (Some 2876) Active)
      ∷ (incident 1 7 (grid 560100 180000) 2 (needs 2 1 1) 3108 None Active)
      ∷ (incident 1 8 (grid 530100 180100) 2 (needs 1 0 0) 6415 None Active) ∷ [];
  calls =
      (call 1 2 1 7 7 false (grid 560100 180000) 3 (needs 2 1 1) [] 3828)
      ∷ (call 1 3 1 6 6 false (grid 530300 180400) 3 (needs 2 1 1) [] 2815)
      ∷ (call 1 4 1 7 7 true (grid 560200 180000) 2 (needs 0 1 0) [] 3108)
      ∷ (call 2 1 1 8 8 false (grid 530100 180100) 2 (needs 1 0 0) (codes "x") 6415)
      ∷ (call 2 3 1 5 5 false (grid 530120 180160) 1 (needs 2 1 1) (codes "x") 2208)
      ∷ (call 2 5 1 4 4 false (grid 560200 180000) 1 (needs 0 0 1) [] 1307) ∷ [];
  vehicles =
      (vehicle A1 1 1 Support (grid 530000 180000) Leaving 5000 None 1 8)
      ∷ (vehicle A2 7 7 Car (grid 530000 180000) Offered 40000 None 0 4) ∷ [];
  turns = (turn A1 1 1 6 Support 2876 (Some 3818) None (Some 3818) None None false) ∷ [];
  assignments = (assignment A1 1 6 1 (grid 530300 180400) 3) ∷ [];
  points =
      (point 1 1 (grid 530300 180400) 0) ∷ (point 1 2 (grid 530200 180000) 0) ∷ (point 7 1 (grid 530300 180400) 2)
      ∷ [];
  loans = [];
  offers = (offer A2 7 1 4273 4273) ∷ [];
  reports =
      (report A1 1 button.Mobile 1 (grid 530201 180000) 3818 1 Normal Mobilised false)
      ∷ (report A1 2 button.Mobile 1 (grid 531000 180000) 3848 1 Normal Mobilised false)
      ∷ (report A1 4 button.Position 1 (grid 530201 180000) 3848 1 Normal Mobilised false)
      ∷ (report A1 5 button.Leave 1 (grid 530200 180000) 3818 1 Skipped Leaving false)
      ∷ (report A1 7 button.Leave 1 (grid 530000 180000) 3820 1 Normal Leaving false)
      ∷ (report A1 8 button.Mobile 1 (grid 530120 180160) 4274 1 Wrong Leaving false)
      ∷ (report A2 1 button.Scene 0 (grid 530300 180400) 1061 7 Wrong Available false)
      ∷ (report A2 2 button.Leave 0 (grid 530300 180400) 4304 7 Wrong Offered false)
      ∷ (report A2 3 button.Hospital 0 (grid 531000 180000) 4815 7 Wrong Offered false)
      ∷ (report A2 4 button.Scene 0 (grid 530000 180000) 4796 7 Wrong Offered false) ∷ [];
}

report_leaving_return_skipped_2 : Steps
    (at 4987 (Crew A1) (ask.Report (pressed 10 button.Return 1 (grid 530100 180000))))
    before_report_leaving_return_skipped_2 (Ok (answer.Reported 10 Skipped Returning))
    (record before_report_leaving_return_skipped_2 {
      vehicles = (vehicle A1 1 1 Support (grid 530100 180000) Returning 5000 None 1 10)
          ∷ (vehicle A2 7 7 Car (grid 530000 180000) Offered 40000 None 0 4)
          ∷ [];
      turns = (turn A1 1 1 6 Support 2876 (Some 3818) None (Some 3818) None
          (Some 4987) false) ∷ [];
      assignments = [];
      reports =
          (report A1 1 button.Mobile 1 (grid 530201 180000) 3818 1 Normal Mobilised
          false) ∷ (report A1 2 button.Mobile 1
          (grid 531000 180000) 3848 1 Normal Mobilised false)
          ∷ (report A1 4 button.Position 1 (grid 530201 180000) 3848 1 Normal
          Mobilised false) ∷ (report A1 5 button.Leave 1
          (grid 530200 180000) 3818 1 Skipped Leaving false)
          ∷ (report A1 7 button.Leave 1 (grid 530000 180000) 3820 1
          Normal Leaving false) ∷ (report A1 8 button.Mobile 1
          (grid 530120 180160) 4274 1 Wrong Leaving false)
          ∷ (report A1 10 button.Return 1 (grid 530100 180000)
          4987 1 Skipped Returning false) ∷ (report A2 1
          button.Scene 0 (grid 530300 180400) 1061 7 Wrong
          Available false) ∷ (report A2 2 button.Leave 0 (grid 530300 180400) 4304 7 Wrong Offered false)
          ∷ (report A2 3 button.Hospital 0 (grid 531000 180000) 4815 7 Wrong Offered false)
          ∷ (report A2 4 button.Scene 0 (grid 530000 180000) 4796 7 Wrong Offered false) ∷ [];
    })
unfolding machine
report_leaving_return_skipped_2 = (refl, refl)

abbrev before_report_leaving_scene_late : Room
before_report_leaving_scene_late = record {
  plan = overlapping_divisions;
  divisions = (division 1 2) ∷ (division 7 3) ∷ [];
  incidents =
      (incident 1 1 (grid 530100 180100) 3 (needs 1 1 0) 1301 (Some 1421) Active)
      ∷ (incident 1 2 (grid 531000 180000) 2 (needs 1 0 0) 2216 None Active) ∷ [];
  calls =
      (call 1 1 1 2 2 false (grid 531000 180000) 2 (needs 1 0 0) [] 2216)
      ∷ (call 2 3 1 1 1 false (grid 530100 180100) 3 (needs 1 1 0) [] 1301) ∷ [];
  vehicles =
      (vehicle A1 7 1 Ambulance (grid 560100 180000) Mobilised 40000 None 1 1)
      ∷ (vehicle A2 1 1 Car (grid 530300 180400) Available 2000 None 0 2)
      ∷ (vehicle A3 1 1 Car (grid 530120 180160) Leaving 40000 None 1 4) ∷ [];
  turns =
      (turn A1 1 1 1 Ambulance 4901 None None None None None false)
      ∷ (turn A3 1 1 1 Car 1421 (Some 1422) (Some 1903) (Some 1964) None None false) ∷ [];
  assignments = (assignment A1 1 1 1 (grid 530100 180100) 3) ∷ (assignment A3 1 1 1 (grid 530100 180100) 3) ∷ [];
  points = [];
  loans = (loan A1 7 1 3219 2176 false) ∷ [];
  offers = [];
  reports =
      (report A1 1 button.Mobile 0 (grid 530300 180400) 2084 7 Wrong Available true)
      ∷ (report A2 1 button.Home 0 (grid 530300 180400) 3489 1 Normal Available false)
      ∷ (report A2 2 button.Scene 0 (grid 530100 180100) 4151 1 Wrong Available false)
      ∷ (report A3 1 button.Mobile 1 (grid 530201 180000) 1422 1 Normal Mobilised false)
      ∷ (report A3 2 button.Scene 1 (grid 530200 180000) 1903 1 Normal AtScene false)
      ∷ (report A3 4 button.Leave 1 (grid 530120 180160) 1964 1 Normal Leaving false) ∷ [];
}

report_leaving_scene_late : Steps
    (at 4181 (Crew A3) (ask.Report (pressed 3 button.Scene 1 (grid 530200 180000))))
    before_report_leaving_scene_late (Ok (answer.Reported 3 Late Leaving))
    (record before_report_leaving_scene_late {
      reports = (report A1 1 button.Mobile 0 (grid 530300 180400) 2084 7 Wrong Available true)
          ∷ (report A2 1 button.Home 0 (grid 530300 180400) 3489 1 Normal Available false)
          ∷ (report A2 2 button.Scene 0 (grid 530100 180100) 4151 1 Wrong Available false)
          ∷ (report A3 1 button.Mobile 1 (grid 530201 180000) 1422 1 Normal Mobilised false)
          ∷ (report A3 2 button.Scene 1 (grid 530200 180000) 1903 1 Normal AtScene false)
          ∷ (report A3 3 button.Scene 1 (grid 530200 180000) 4181 1 Late Leaving false)
          ∷ (report A3 4 button.Leave 1 (grid 530120 180160) 1964 1 Normal Leaving false) ∷ [];
    })
unfolding machine
report_leaving_scene_late = (refl, refl)

abbrev before_report_leaving_scene_wrong : Room
before_report_leaving_scene_wrong = record {
  plan = two_divisions;
  divisions = (division 1 4) ∷ (division 2 0) ∷ [];
  incidents = (incident 1 4 (grid 530120 180160) 3 (needs 2 1 1) 1101 (Some 1162) Active) ∷ [];
  calls = (call 1 3 1 4 4 false (grid 530120 180160) 3 (needs 2 1 1) [] 1101) ∷ [];
  vehicles =
      (vehicle A1 1 1 Ambulance (grid 530100 180100) OffDuty 0 None 2147483647 1)
      ∷ (vehicle A2 1 1 Car (grid 530100 180100) Leaving 5000 None 1 2)
      ∷ (vehicle A3 2 2 Ambulance (grid 531000 180000) Available 5343 None 0 0) ∷ [];
  turns = (turn A2 1 1 4 Car 1162 None None (Some 1323) None None false) ∷ [];
  assignments = (assignment A2 1 4 1 (grid 530120 180160) 3) ∷ [];
  points = [];
  loans = [];
  offers = [];
  reports =
      (report A1 1 button.Hospital 2147483647 (grid 530201 180000) 1443 1 Wrong OffDuty false)
      ∷ (report A2 1 button.Home 0 (grid 531000 180000) 1001 1 Normal Available false)
      ∷ (report A2 2 button.Leave 1 (grid 530100 180100) 1323 1 Skipped Leaving true) ∷ [];
}

report_leaving_scene_wrong : Steps
    (at 1443 (Crew A2) (ask.Report (pressed 3 button.Scene 1 (grid 530300 180400))))
    before_report_leaving_scene_wrong (Ok (answer.Reported 3 Wrong Leaving))
    (record before_report_leaving_scene_wrong {
      vehicles = (vehicle A1 1 1 Ambulance (grid 530100 180100) OffDuty 0 None 2147483647 1)
          ∷ (vehicle A2 1 1 Car (grid 530100 180100) Leaving 5000 None 1 3)
          ∷ (vehicle A3 2 2 Ambulance (grid 531000 180000) Available 5343 None 0 0)
          ∷ [];
      reports = (report A1 1 button.Hospital 2147483647
          (grid 530201 180000) 1443 1 Wrong OffDuty false)
          ∷ (report A2 1 button.Home 0 (grid 531000 180000) 1001 1 Normal Available
          false) ∷ (report A2 2 button.Leave 1
          (grid 530100 180100) 1323 1 Skipped Leaving true)
          ∷ (report A2 3 button.Scene 1 (grid 530300 180400) 1443 1 Wrong Leaving
          false) ∷ [];
    })
unfolding machine
report_leaving_scene_wrong = (refl, refl)

abbrev before_report_leaving_scene_wrong_2 : Room
before_report_leaving_scene_wrong_2 = record {
  plan = overlapping_divisions;
  divisions = (division 1 3) ∷ (division 7 0) ∷ [];
  incidents =
      (incident 1 1 (grid 530120 180160) 2 (needs 1 1 0) 1181 (Some 1662) Active)
      ∷ (incident 1 2 (grid 560200 180000) 3 (needs 2 1 1) 2082 None Active)
      ∷ (incident 1 3 (grid 530100 180000) 1 (needs 0 0 1) 2699 None Active) ∷ [];
  calls =
      (call 1 2 1 3 3 false (grid 530100 180000) 1 (needs 0 0 1) (codes "x") 2699)
      ∷ (call 1 4 1 2 2 true (grid 560100 180000) 3 (needs 2 1 1) [] 2082)
      ∷ (call 2 2 1 2 2 false (grid 560200 180000) 3 (needs 0 0 1) [] 2418)
      ∷ (call 2 5 1 1 1 false (grid 530120 180160) 2 (needs 1 1 0) [] 1181) ∷ [];
  vehicles =
      (vehicle A1 1 1 Car (grid 530100 180000) Leaving 5000 None 1 3)
      ∷ (vehicle A2 7 7 Support (grid 530200 180000) Available 2000 None 0 2) ∷ [];
  turns = (turn A1 1 1 1 Car 1662 (Some 3000) None (Some 3061) None None false) ∷ [];
  assignments = (assignment A1 1 1 1 (grid 530120 180160) 2) ∷ [];
  points = [];
  loans = [];
  offers = [];
  reports =
      (report A1 1 button.Mobile 1 (grid 530100 180100) 3000 1 Normal Mobilised false)
      ∷ (report A1 2 button.Leave 1 (grid 531000 180000) 3061 1 Skipped Leaving false)
      ∷ (report A1 3 button.Position 0 (grid 530100 180000) 3662 1 Normal Leaving false)
      ∷ (report A2 1 button.Scene 0 (grid 530120 180160) 1697 7 Wrong Available true)
      ∷ (report A2 2 button.Leave 0 (grid 530201 180000) 3542 7 Wrong Available false) ∷ [];
}

report_leaving_scene_wrong_2 : Steps
    (at 3663 (Crew A1) (ask.Report (pressed 5 button.Scene 1 (grid 530200 180000))))
    before_report_leaving_scene_wrong_2 (Ok (answer.Reported 5 Wrong Leaving))
    (record before_report_leaving_scene_wrong_2 {
      vehicles = (vehicle A1 1 1 Car (grid 530100 180000) Leaving 5000 None 1 5)
          ∷ (vehicle A2 7 7 Support (grid 530200 180000) Available 2000 None 0 2)
          ∷ [];
      reports = (report A1 1 button.Mobile 1
          (grid 530100 180100) 3000 1 Normal Mobilised false)
          ∷ (report A1 2 button.Leave 1 (grid 531000 180000) 3061 1 Skipped Leaving
          false) ∷ (report A1 3 button.Position 0
          (grid 530100 180000) 3662 1 Normal Leaving false)
          ∷ (report A1 5 button.Scene 1 (grid 530200 180000) 3663 1 Wrong Leaving
          false) ∷ (report A2 1 button.Scene 0
          (grid 530120 180160) 1697 7 Wrong Available true)
          ∷ (report A2 2 button.Leave 0 (grid 530201 180000) 3542 7 Wrong
          Available false) ∷ [];
    })
unfolding machine
report_leaving_scene_wrong_2 = (refl, refl)

abbrev before_report_mobilised_home_skipped : Room
before_report_mobilised_home_skipped = record {
  plan = two_divisions;
  divisions = (division 1 0) ∷ (division 2 4) ∷ [];
  incidents = (incident 2 4 (grid 560200 180000) 1 (needs 2 0 0) 1301 (Some 1481) Active) ∷ [];
  calls = (call 1 2 2 4 4 false (grid 560200 180000) 1 (needs 2 0 0) (codes "x") 1301) ∷ [];
  vehicles =
      (vehicle A1 1 1 Support (grid 560100 180000) OffDuty 0 None 0 0)
      ∷ (vehicle A2 2 2 Ambulance (grid 530200 180000) Mobilised 2000 None 1 0) ∷ [];
  turns = (turn A2 1 2 4 Ambulance 1481 None None None None None false) ∷ [];
  assignments = (assignment A2 2 4 1 (grid 560200 180000) 1) ∷ [];
  points = [];
  loans = [];
  offers = [];
  reports = [];
}

report_mobilised_home_skipped : Steps
    (at 1512 (Crew A2) (ask.Report (pressed 1 button.Home 1 (grid 530200 180000))))
    before_report_mobilised_home_skipped (Ok (answer.Reported 1 Skipped Available))
    (record before_report_mobilised_home_skipped {
      vehicles = (vehicle A1 1 1 Support (grid 560100 180000) OffDuty 0 None 0 0)
          ∷ (vehicle A2 2 2 Ambulance (grid 530200 180000) Available 2000 None 1 1)
          ∷ [];
      turns = (turn A2 1 2 4 Ambulance 1481 None None None None (Some 1512) false)
          ∷ [];
      assignments = [];
      reports =
          (report A2 1 button.Home 1 (grid 530200 180000) 1512 2 Skipped Available false) ∷ [];
    })
unfolding machine
report_mobilised_home_skipped = (refl, refl)

abbrev before_report_mobilised_home_skipped_2 : Room
before_report_mobilised_home_skipped_2 = record {
  plan = two_divisions;
  divisions = (division 1 4) ∷ (division 2 0) ∷ [];
  incidents = (incident 1 4 (grid 531000 180000) 2 (needs 2 0 0) 2025 (Some 2061) Active) ∷ [];
  calls = (call 1 2 1 4 4 false (grid 531000 180000) 2 (needs 2 0 0) [] 2025) ∷ [];
  vehicles =
      (vehicle A1 2 2 Ambulance (grid 531000 180000) Available 40000 None 0 0)
      ∷ (vehicle A2 1 1 Ambulance (grid 531000 180000) OffDuty 0 None 0 2)
      ∷ (vehicle A3 2 1 Ambulance (grid 530100 180100) Mobilised 40000 None 1 1) ∷ [];
  turns = (turn A3 1 1 4 Ambulance 2061 (Some 2403) None None None None false) ∷ [];
  assignments = (assignment A3 1 4 1 (grid 531000 180000) 2) ∷ [];
  points = [];
  loans = (loan A3 2 1 40000 1943 true) ∷ [];
  offers = [];
  reports =
      (report A2 2 button.Return 0 (grid 530200 180000) 1481 1 Wrong OffDuty false)
      ∷ (report A3 1 button.Mobile 1 (grid 530100 180100) 2403 1 Normal Mobilised false) ∷ [];
}

report_mobilised_home_skipped_2 : Steps
    (at 1944 (Crew A3) (ask.Report (pressed 2 button.Home 1 (grid 530201 180000))))
    before_report_mobilised_home_skipped_2 (Ok (answer.Reported 2 Skipped Available))
    (record before_report_mobilised_home_skipped_2 {
      vehicles = (vehicle A1 2 2 Ambulance (grid 531000 180000) Available 40000 None 0 0)
          ∷ (vehicle A2 1 1 Ambulance (grid 531000 180000) OffDuty 0 None 0 2)
          ∷ (vehicle A3 2 2 Ambulance (grid 530201 180000) Available 40000 None 1 2)
          ∷ [];
      turns = (turn A3 1 1 4 Ambulance 2061 (Some 2403) None None None
          (Some 1944) false) ∷ [];
      assignments = [];
      loans = [];
      reports =
          (report A2 2 button.Return 0 (grid 530200 180000) 1481 1 Wrong OffDuty false)
          ∷ (report A3 1 button.Mobile 1 (grid 530100 180100) 2403 1 Normal Mobilised
          false) ∷ (report A3 2 button.Home 1
          (grid 530201 180000) 1944 1 Skipped Available false) ∷ [];
    })
unfolding machine
report_mobilised_home_skipped_2 = (refl, refl)

abbrev before_report_mobilised_home_skipped_3 : Room
before_report_mobilised_home_skipped_3 = record {
  plan = two_divisions;
  divisions = (division 1 1) ∷ (division 2 0) ∷ [];
  incidents = (incident 1 1 (grid 530120 180160) 2 (needs 0 1 1) 1301 (Some 2565) Active) ∷ [];
  calls =
      (call 1 4 1 1 1 false (grid 530120 180160) 3 (needs 0 1 0) [] 1301)
      ∷ (call 2 6 1 1 1 true (grid 530120 180160) 2 (needs 0 0 1) (codes "x") 1481) ∷ [];
  vehicles =
      (vehicle A1 2 1 Car (grid 530120 180160) Mobilised 5782 None 1 1)
      ∷ (vehicle A2 1 1 Ambulance (grid 530300 180400) Offered 40000 None 0 1) ∷ [];
  turns = (turn A1 1 1 1 Car 2565 None None None None None false) ∷ [];
  assignments = (assignment A1 1 1 1 (grid 530120 180160) 2) ∷ [];
  points = [];
  loans = (loan A1 2 1 2068 2483 false) ∷ [];
  offers = (offer A2 1 2 2088 2088) ∷ [];
  reports =
      (report A1 1 button.Home 0 (grid 530120 180160) 2483 1 Normal Available false)
      ∷ (report A2 1 button.Position 0 (grid 530300 180400) 2483 1 Normal Offered false) ∷ [];
}

report_mobilised_home_skipped_3 : Steps
    (at 2606 (Crew A1) (ask.Report (pressed 2 button.Home 1 (grid 530120 180160))))
    before_report_mobilised_home_skipped_3 (Ok (answer.Reported 2 Skipped Available))
    (record before_report_mobilised_home_skipped_3 {
      vehicles = (vehicle A1 2 2 Car (grid 530120 180160) Available 5782 None 1 2)
          ∷ (vehicle A2 1 1 Ambulance (grid 530300 180400) Offered 40000 None 0 1)
          ∷ [];
      turns = (turn A1 1 1 1 Car 2565 None None None None (Some 2606) false)
          ∷ [];
      assignments = [];
      loans = [];
      reports =
          (report A1 1 button.Home 0 (grid 530120 180160) 2483 1 Normal Available false)
          ∷ (report A1 2 button.Home 1 (grid 530120 180160) 2606 1 Skipped Available false)
          ∷ (report A2 1 button.Position 0 (grid 530300 180400) 2483 1 Normal Offered false)
          ∷ [];
    })
unfolding machine
report_mobilised_home_skipped_3 = (refl, refl)

abbrev before_report_mobilised_home_skipped_4 : Room
before_report_mobilised_home_skipped_4 = record {
  plan = two_divisions;
  divisions = (division 1 1) ∷ (division 2 3) ∷ [];
  incidents = (incident 1 1 (grid 531000 180000) 2 (needs 1 0 0) 1060 (Some 1346) Active) ∷ [];
  calls = (call 2 1 1 1 1 false (grid 531000 180000) 2 (needs 1 0 0) [] 1060) ∷ [];
  vehicles =
      (vehicle A1 1 1 Car (grid 560000 180000) Available 40000 None 0 0)
      ∷ (vehicle A2 1 1 Ambulance (grid 530300 180400) Available 5000 None 0 0)
      ∷ (vehicle A3 2 2 Support (grid 530300 180400) Available 5000 (Some 1) 0 0)
      ∷ (vehicle B1 2 1 Ambulance (grid 531000 180000) Mobilised 2000 None 1 1)
      ∷ (vehicle B2 2 2 Support (grid 530200 180000) OffDuty 0 None 0 0) ∷ [];
  turns = (turn B1 1 1 1 Ambulance 1346 None None None None None false) ∷ [];
  assignments = (assignment B1 1 1 1 (grid 531000 180000) 2) ∷ [];
  points = (point 2 1 (grid 530300 180400) 2) ∷ [];
  loans = (loan B1 2 1 1315 1495 false) ∷ [];
  offers = [];
  reports = (report B1 1 button.Position 0 (grid 531000 180000) 1030 2 Normal Available false) ∷ [];
}

report_mobilised_home_skipped_4 : Steps
    (at 1347 (Crew B1) (ask.Report (pressed 2 button.Home 1 (grid 530100 180100))))
    before_report_mobilised_home_skipped_4 (Ok (answer.Reported 2 Skipped Available))
    (record before_report_mobilised_home_skipped_4 {
      vehicles = (vehicle A1 1 1 Car (grid 560000 180000) Available 40000 None 0 0)
          ∷ (vehicle A2 1 1 Ambulance (grid 530300 180400) Available 5000 None 0 0)
          ∷ (vehicle A3 2 2 Support (grid 530300 180400) Available 5000 (Some 1) 0 0)
          ∷ (vehicle B1 2 1 Ambulance (grid 530100 180100) Available 2000 None 1 2)
          ∷ (vehicle B2 2 2 Support (grid 530200 180000) OffDuty 0 None 0 0)
          ∷ [];
      turns = (turn B1 1 1 1 Ambulance 1346 None None None None (Some 1347) false)
          ∷ [];
      assignments = [];
      reports =
          (report B1 1 button.Position 0 (grid 531000 180000) 1030 2 Normal Available false)
          ∷ (report B1 2 button.Home 1 (grid 530100 180100) 1347 1 Skipped Available false)
          ∷ [];
    })
unfolding machine
report_mobilised_home_skipped_4 = (refl, refl)

abbrev before_report_mobilised_home_skipped_5 : Room
before_report_mobilised_home_skipped_5 = record {
  plan = two_divisions;
  divisions = (division 1 2147483647) ∷ (division 2 2147483647) ∷ [];
  incidents = (incident 1 2147483647 (grid 531000 180000) 1 (needs 1 1 0) 1884 (Some 2863) Active) ∷ [];
  calls = (call 1 3 1 2147483647 2147483647 false (grid 531000 180000) 1 (needs 1 1 0) [] 1884) ∷ [];
  vehicles =
      (vehicle A1 2 1 Car (grid 530100 180100) Mobilised 40000 None 1 3)
      ∷ (vehicle A2 2 2 Ambulance (grid 560000 180000) Offered 40000 None 0 3)
      ∷ (vehicle A3 2 2 Support (grid 560000 180000) OffDuty 0 None 0 0) ∷ [];
  turns = (turn A1 1 1 2147483647 Car 2863 None None None None None false) ∷ [];
  assignments = (assignment A1 1 2147483647 1 (grid 531000 180000) 1) ∷ [];
  points = [];
  loans = (loan A1 2 1 39999 40099 true) ∷ [];
  offers = (offer A2 2 1 2215 2615) ∷ [];
  reports =
      (report A1 2 button.Leave 0 (grid 530100 180000) 1583 1 Wrong Available true)
      ∷ (report A1 3 button.Scene 0 (grid 530200 180000) 2396 1 Wrong Available false)
      ∷ (report A2 2 button.Return 0 (grid 530120 180160) 1522 2 Wrong Available false)
      ∷ (report A2 3 button.Scene 0 (grid 530100 180100) 40099 2 Wrong Available false) ∷ [];
}

report_mobilised_home_skipped_5 : Steps
    (at 4156 (Crew A1) (ask.Report (pressed 4 button.Home 1 (grid 530201 180000))))
    before_report_mobilised_home_skipped_5 (Ok (answer.Reported 4 Skipped Available))
    (record before_report_mobilised_home_skipped_5 {
      vehicles = (vehicle A1 2 2 Car (grid 530201 180000) Available 40000 None 1 4)
          ∷ (vehicle A2 2 2 Ambulance (grid 560000 180000) Offered 40000 None 0 3)
          ∷ (vehicle A3 2 2 Support (grid 560000 180000) OffDuty 0 None 0 0)
          ∷ [];
      turns = (turn A1 1 1 2147483647 Car 2863 None None None None (Some 4156) false)
          ∷ [];
      assignments = [];
      loans = [];
      reports =
          (report A1 2 button.Leave 0 (grid 530100 180000) 1583 1 Wrong Available true)
          ∷ (report A1 3 button.Scene 0 (grid 530200 180000) 2396 1 Wrong Available false)
          ∷ (report A1 4 button.Home 1 (grid 530201 180000) 4156 1 Skipped Available false)
          ∷ (report A2 2 button.Return 0 (grid 530120 180160) 1522 2 Wrong Available false)
          ∷ (report A2 3 button.Scene 0 (grid 530100 180100) 40099 2 Wrong Available false)
          ∷ [];
    })
unfolding machine
report_mobilised_home_skipped_5 = (refl, refl)

abbrev before_report_mobilised_home_skipped_6 : Room
before_report_mobilised_home_skipped_6 = record {
  plan = two_divisions;
  divisions = (division 1 1) ∷ (division 2 1) ∷ [];
  incidents =
      (incident 1 1 (grid 530100 180100) 2 (needs 2 1 1) 2112 (Some 3715) Active)
      ∷ (incident 2 1 (grid 560100 180000) 2 (needs 1 0 0) 4558 None Active) ∷ [];
  calls =
      (call 1 6 2 1 1 false (grid 560100 180000) 2 (needs 1 0 0) [] 4558)
      ∷ (call 2 3 1 1 1 false (grid 530100 180100) 2 (needs 2 1 1) [] 2112)
      ∷ (call 2 5 1 1 1 true (grid 530100 180000) 2 (needs 0 1 0) [] 2564) ∷ [];
  vehicles =
      (vehicle A1 1 1 Ambulance (grid 530100 180100) OffDuty 0 None 0 1)
      ∷ (vehicle A2 2 1 Car (grid 530201 180000) Mobilised 40000 None 1 3)
      ∷ (vehicle A3 2 2 Ambulance (grid 531000 180000) Available 3655 None 0 0) ∷ [];
  turns = (turn A2 1 1 1 Car 3715 None None None None None false) ∷ [];
  assignments = (assignment A2 1 1 1 (grid 530100 180100) 2) ∷ [];
  points = (point 2 2 (grid 530300 180400) 0) ∷ [];
  loans = (loan A2 2 1 40000 2903 false) ∷ [];
  offers = [];
  reports =
      (report A1 1 button.Hospital 0 (grid 530200 180000) 1579 1 Wrong OffDuty false)
      ∷ (report A2 1 button.Return 0 (grid 530201 180000) 1030 2 Wrong Available false)
      ∷ (report A2 2 button.Hospital 0 (grid 530300 180400) 2232 2 Late Available false)
      ∷ (report A2 3 button.Hospital 0 (grid 530200 180000) 1298 2 Wrong Available false) ∷ [];
}

report_mobilised_home_skipped_6 : Steps
    (at 2903 (Crew A2) (ask.Report (pressed 5 button.Home 1 (grid 530200 180000))))
    before_report_mobilised_home_skipped_6 (Ok (answer.Reported 5 Skipped Available))
    (record before_report_mobilised_home_skipped_6 {
      vehicles = (vehicle A1 1 1 Ambulance (grid 530100 180100) OffDuty 0 None 0 1)
          ∷ (vehicle A2 2 1 Car (grid 530200 180000) Available 40000 None 1 5)
          ∷ (vehicle A3 2 2 Ambulance (grid 531000 180000) Available 3655 None 0 0)
          ∷ [];
      turns = (turn A2 1 1 1 Car 3715 None None None None (Some 2903) false)
          ∷ [];
      assignments = [];
      reports =
          (report A1 1 button.Hospital 0 (grid 530200 180000) 1579 1 Wrong OffDuty false)
          ∷ (report A2 1 button.Return 0 (grid 530201 180000) 1030 2 Wrong Available false)
          ∷ (report A2 2 button.Hospital 0 (grid 530300 180400) 2232 2 Late Available false)
          ∷ (report A2 3 button.Hospital 0 (grid 530200 180000) 1298 2 Wrong Available false)
          ∷ (report A2 5 button.Home 1 (grid 530200 180000) 2903 1 Skipped Available false)
          ∷ [];
    })
unfolding machine
report_mobilised_home_skipped_6 = (refl, refl)

abbrev before_report_mobilised_hospital_skipped : Room
before_report_mobilised_hospital_skipped = record {
  plan = two_divisions;
  divisions = (division 1 1) ∷ (division 2 0) ∷ [];
  incidents = (incident 1 1 (grid 530100 180000) 2 (needs 1 1 0) 1542 (Some 1823) Active) ∷ [];
  calls = (call 1 3 1 1 1 false (grid 530100 180000) 2 (needs 1 1 0) (codes "x") 1542) ∷ [];
  vehicles =
      (vehicle A1 1 1 Ambulance (grid 530201 180000) Available 5000 None 0 0)
      ∷ (vehicle A2 1 1 Ambulance (grid 530100 180000) Mobilised 40000 None 1 0) ∷ [];
  turns = (turn A2 1 1 1 Ambulance 1823 None None None None None false) ∷ [];
  assignments = (assignment A2 1 1 1 (grid 530100 180000) 2) ∷ [];
  points = (point 2 2 (grid 530201 180000) 1) ∷ [];
  loans = [];
  offers = [];
  reports = [];
}

report_mobilised_hospital_skipped : Steps
    (at 1829 (Crew A2) (ask.Report (pressed 1 button.Hospital 1 (grid 530100 180000))))
    before_report_mobilised_hospital_skipped (Ok (answer.Reported 1 Skipped AtHospital))
    (record before_report_mobilised_hospital_skipped {
      vehicles = (vehicle A1 1 1 Ambulance (grid 530201 180000) Available 5000 None 0 0)
          ∷ (vehicle A2 1 1 Ambulance (grid 530100 180000) AtHospital 40000 None 1 1)
          ∷ [];
      turns = (turn A2 1 1 1 Ambulance 1823 None None None (Some 1829) None false)
          ∷ [];
      reports = (report A2 1 button.Hospital 1
          (grid 530100 180000) 1829 1 Skipped AtHospital false) ∷ [];
    })
unfolding machine
report_mobilised_hospital_skipped = (refl, refl)

abbrev before_report_mobilised_hospital_skipped_2 : Room
before_report_mobilised_hospital_skipped_2 = record {
  plan = two_divisions;
  divisions = (division 1 1) ∷ (division 2 1) ∷ [];
  incidents =
      (incident 1 1 (grid 530000 180000) 2 (needs 1 0 0) 1345 None Active)
      ∷ (incident 2 1 (grid 560100 180000) 3 (needs 2 1 1) 1282 (Some 4882) Active) ∷ [];
  calls =
      (call 1 1 2 1 1 false (grid 560100 180000) 3 (needs 2 1 1) [] 1282)
      ∷ (call 1 3 1 1 1 false (grid 530000 180000) 2 (needs 1 0 0) [] 1345) ∷ [];
  vehicles =
      (vehicle A1 2 2 Ambulance (grid 531000 180000) Mobilised 40000 None 1 1)
      ∷ (vehicle A2 2 2 Ambulance (grid 531000 180000) Available 40000 None 0 1) ∷ [];
  turns = (turn A1 1 2 1 Ambulance 4882 (Some 1651) None None None None false) ∷ [];
  assignments = (assignment A1 2 1 1 (grid 560100 180000) 3) ∷ [];
  points = [];
  loans = [];
  offers = [];
  reports =
      (report A1 1 button.Mobile 1 (grid 531000 180000) 1651 2 Normal Mobilised false)
      ∷ (report A2 1 button.Mobile 0 (grid 530300 180400) 1181 2 Wrong Available false) ∷ [];
}

report_mobilised_hospital_skipped_2 : Steps
    (at 1712 (Crew A1) (ask.Report (pressed 3 button.Hospital 1 (grid 530201 180000))))
    before_report_mobilised_hospital_skipped_2 (Ok (answer.Reported 3 Skipped AtHospital))
    (record before_report_mobilised_hospital_skipped_2 {
      vehicles = (vehicle A1 2 2 Ambulance (grid 530201 180000) AtHospital 40000 None 1 3)
          ∷ (vehicle A2 2 2 Ambulance (grid 531000 180000) Available 40000 None 0 1)
          ∷ [];
      turns = (turn A1 1 2 1 Ambulance 4882 (Some 1651) None None
          (Some 1712) None false) ∷ [];
      reports =
          (report A1 1 button.Mobile 1 (grid 531000 180000) 1651 2 Normal Mobilised
          false) ∷ (report A1 3 button.Hospital 1
          (grid 530201 180000) 1712 2 Skipped AtHospital false)
          ∷ (report A2 1 button.Mobile 0 (grid 530300 180400) 1181 2 Wrong
          Available false) ∷ [];
    })
unfolding machine
report_mobilised_hospital_skipped_2 = (refl, refl)

abbrev before_report_mobilised_hospital_stale : Room
before_report_mobilised_hospital_stale = record {
  plan = two_divisions;
  divisions = (division 1 4) ∷ (division 2 0) ∷ [];
  incidents = (incident 1 4 (grid 530000 180000) 2 (needs 1 1 0) 1030 (Some 1095) Active) ∷ [];
  calls =
      (call 2 3 1 4 4 false (grid 530000 180000) 2 (needs 1 0 0) [] 1030)
      ∷ (call 2 4 1 4 4 true (grid 530120 180160) 2 (needs 0 1 0) [] 1090) ∷ [];
  vehicles =
      (vehicle A1 1 1 Car (grid 530100 180000) Available 40000 None 0 0)
      ∷ (vehicle A2 1 1 Car (grid 560100 180000) Mobilised 2000 None 1 0) ∷ [];
  turns = (turn A2 1 1 4 Car 1095 None None None None None false) ∷ [];
  assignments = (assignment A2 1 4 1 (grid 530000 180000) 2) ∷ [];
  points = [];
  loans = [];
  offers = [];
  reports = [];
}

report_mobilised_hospital_stale : Steps
    (at 1100 (Crew A2) (ask.Report (pressed 1 button.Hospital 0 (grid 530120 180160))))
    before_report_mobilised_hospital_stale (Ok (answer.Reported 1 Stale Mobilised))
    (record before_report_mobilised_hospital_stale {
      vehicles = (vehicle A1 1 1 Car (grid 530100 180000) Available 40000 None 0 0)
          ∷ (vehicle A2 1 1 Car (grid 560100 180000) Mobilised 2000 None 1 1)
          ∷ [];
      reports = (report A2 1 button.Hospital 0
          (grid 530120 180160) 1100 1 Stale Mobilised false) ∷ [];
    })
unfolding machine
report_mobilised_hospital_stale = (refl, refl)

abbrev before_report_mobilised_leave_skipped : Room
before_report_mobilised_leave_skipped = record {
  plan = overlapping_divisions;
  divisions = (division 1 1) ∷ (division 7 0) ∷ [];
  incidents = (incident 1 1 (grid 530200 180000) 2 (needs 2 1 1) 1186 (Some 1999) Active) ∷ [];
  calls =
      (call 2 1 1 1 1 true (grid 530201 180000) 3 (needs 2 0 0) [] 2027)
      ∷ (call 2 5 1 1 1 false (grid 530200 180000) 2 (needs 2 1 1) [] 1186) ∷ [];
  vehicles =
      (vehicle A1 1 1 Support (grid 530100 180000) Mobilised 5000 None 1 0)
      ∷ (vehicle A2 1 1 Support (grid 530300 180400) Available 2000 None 0 0) ∷ [];
  turns = (turn A1 1 1 1 Support 1999 None None None None None false) ∷ [];
  assignments = (assignment A1 1 1 1 (grid 530200 180000) 2) ∷ [];
  points = [];
  loans = [];
  offers = [];
  reports = [];
}

report_mobilised_leave_skipped : Steps
    (at 1913 (Crew A1) (ask.Report (pressed 1 button.Leave 1 (grid 530201 180000))))
    before_report_mobilised_leave_skipped (Ok (answer.Reported 1 Skipped Leaving))
    (record before_report_mobilised_leave_skipped {
      vehicles = (vehicle A1 1 1 Support (grid 530201 180000) Leaving 5000 None 1 1)
          ∷ (vehicle A2 1 1 Support (grid 530300 180400) Available 2000 None 0 0)
          ∷ [];
      turns = (turn A1 1 1 1 Support 1999 None None (Some 1913) None None false)
          ∷ [];
      reports = (report A1 1 button.Leave 1
          (grid 530201 180000) 1913 1 Skipped Leaving false) ∷ [];
    })
unfolding machine
report_mobilised_leave_skipped = (refl, refl)

abbrev before_report_mobilised_leave_skipped_2 : Room
before_report_mobilised_leave_skipped_2 = record {
  plan = overlapping_divisions;
  divisions = (division 1 4) ∷ (division 7 0) ∷ [];
  incidents = (incident 1 4 (grid 530300 180400) 1 (needs 1 0 0) 1005 (Some 1973) Active) ∷ [];
  calls = (call 1 2 1 4 4 false (grid 530300 180400) 1 (needs 1 0 0) [] 1005) ∷ [];
  vehicles =
      (vehicle A1 1 1 Ambulance (grid 530300 180400) Mobilised 2000 None 1 3)
      ∷ (vehicle A2 7 7 Car (grid 530120 180160) OffDuty 5000 None 0 4) ∷ [];
  turns = (turn A1 1 1 4 Ambulance 1973 (Some 2456) None None None None false) ∷ [];
  assignments = (assignment A1 1 4 1 (grid 530300 180400) 1) ∷ [];
  points = (point 1 1 (grid 530200 180000) 1) ∷ [];
  loans = [];
  offers = [];
  reports =
      (report A1 2 button.Hospital 0 (grid 530100 180100) 2455 1 Stale Mobilised false)
      ∷ (report A1 3 button.Mobile 1 (grid 530300 180400) 2456 1 Normal Mobilised false)
      ∷ (report A2 2 button.Mobile 0 (grid 530120 180160) 1186 7 Wrong Available false)
      ∷ (report A2 4 button.Position 0 (grid 530300 180400) 2154 7 Wrong OffDuty false) ∷ [];
}

report_mobilised_leave_skipped_2 : Steps
    (at 2456 (Crew A1) (ask.Report (pressed 5 button.Leave 1 (grid 531000 180000))))
    before_report_mobilised_leave_skipped_2 (Ok (answer.Reported 5 Skipped Leaving))
    (record before_report_mobilised_leave_skipped_2 {
      vehicles = (vehicle A1 1 1 Ambulance (grid 531000 180000) Leaving 2000 None 1 5)
          ∷ (vehicle A2 7 7 Car (grid 530120 180160) OffDuty 5000 None 0 4)
          ∷ [];
      turns = (turn A1 1 1 4 Ambulance 1973 (Some 2456) None
          (Some 2456) None None false) ∷ [];
      reports =
          (report A1 2 button.Hospital 0 (grid 530100 180100) 2455 1 Stale Mobilised
          false) ∷ (report A1 3 button.Mobile 1
          (grid 530300 180400) 2456 1 Normal Mobilised false)
          ∷ (report A1 5 button.Leave 1 (grid 531000 180000) 2456 1 Skipped
          Leaving false) ∷ (report A2 2 button.Mobile 0
          (grid 530120 180160) 1186 7 Wrong Available false)
          ∷ (report A2 4 button.Position 0 (grid 530300 180400) 2154 7
          Wrong OffDuty false) ∷ [];
    })
unfolding machine
report_mobilised_leave_skipped_2 = (refl, refl)

abbrev before_report_mobilised_mobile_normal : Room
before_report_mobilised_mobile_normal = record {
  plan = overlapping_divisions;
  divisions = (division 1 4) ∷ (division 7 0) ∷ [];
  incidents = (incident 1 4 (grid 530100 180000) 1 (needs 2 1 1) 1061 (Some 1122) Active) ∷ [];
  calls = (call 2 2 1 4 4 false (grid 530100 180000) 1 (needs 2 1 1) [] 1061) ∷ [];
  vehicles =
      (vehicle A1 7 7 Support (grid 530120 180160) Available 2000 None 0 0)
      ∷ (vehicle A2 1 1 Ambulance (grid 530201 180000) Mobilised 40000 None 1 0) ∷ [];
  turns = (turn A2 1 1 4 Ambulance 1122 None None None None None false) ∷ [];
  assignments = (assignment A2 1 4 1 (grid 530100 180000) 1) ∷ [];
  points = [];
  loans = [];
  offers = [];
  reports = [];
}

report_mobilised_mobile_normal : Steps
    (at 1545 (Crew A2) (ask.Report (pressed 1 button.Mobile 1 (grid 530200 180000))))
    before_report_mobilised_mobile_normal (Ok (answer.Reported 1 Normal Mobilised))
    (record before_report_mobilised_mobile_normal {
      vehicles = (vehicle A1 7 7 Support (grid 530120 180160) Available 2000 None 0 0)
          ∷ (vehicle A2 1 1 Ambulance (grid 530200 180000) Mobilised 40000 None 1 1)
          ∷ [];
      turns = (turn A2 1 1 4 Ambulance 1122 (Some 1545) None None None None false)
          ∷ [];
      reports = (report A2 1 button.Mobile 1
          (grid 530200 180000) 1545 1 Normal Mobilised false) ∷ [];
    })
unfolding machine
report_mobilised_mobile_normal = (refl, refl)

abbrev before_report_mobilised_mobile_normal_2 : Room
before_report_mobilised_mobile_normal_2 = record {
  plan = two_divisions;
  divisions = (division 1 1) ∷ (division 2 0) ∷ [];
  incidents = (incident 1 1 (grid 530201 180000) 2 (needs 2 0 0) 1120 (Some 1125) Active) ∷ [];
  calls = (call 1 1 1 1 1 false (grid 530201 180000) 2 (needs 2 0 0) [] 1120) ∷ [];
  vehicles =
      (vehicle A1 1 1 Ambulance (grid 530100 180000) Mobilised 40000 None 1 1)
      ∷ (vehicle A2 2 2 Car (grid 531000 180000) Available 5000 None 0 2)
      ∷ (vehicle A3 2 2 Ambulance (grid 530300 180400) Available 5606 None 0 0) ∷ [];
  turns = (turn A1 1 1 1 Ambulance 1125 (Some 1636) None None None None false) ∷ [];
  assignments = (assignment A1 1 1 1 (grid 530201 180000) 2) ∷ [];
  points = [];
  loans = [];
  offers = [];
  reports =
      (report A1 1 button.Mobile 1 (grid 530100 180000) 1636 1 Normal Mobilised false)
      ∷ (report A2 2 button.Mobile 0 (grid 530100 180100) 1822 2 Wrong Available false) ∷ [];
}

report_mobilised_mobile_normal_2 : Steps
    (at 1802 (Crew A1) (ask.Report (pressed 2 button.Mobile 1 (grid 530120 180160))))
    before_report_mobilised_mobile_normal_2 (Ok (answer.Reported 2 Normal Mobilised))
    (record before_report_mobilised_mobile_normal_2 {
      vehicles = (vehicle A1 1 1 Ambulance (grid 530120 180160) Mobilised 40000 None 1 2)
          ∷ (vehicle A2 2 2 Car (grid 531000 180000) Available 5000 None 0 2)
          ∷ (vehicle A3 2 2 Ambulance (grid 530300 180400) Available 5606 None 0 0)
          ∷ [];
      reports = (report A1 1 button.Mobile 1
          (grid 530100 180000) 1636 1 Normal Mobilised false)
          ∷ (report A1 2 button.Mobile 1 (grid 530120 180160) 1802 1 Normal Mobilised
          false) ∷ (report A2 2 button.Mobile 0
          (grid 530100 180100) 1822 2 Wrong Available false) ∷ [];
    })
unfolding machine
report_mobilised_mobile_normal_2 = (refl, refl)

abbrev before_report_mobilised_position_late : Room
before_report_mobilised_position_late = record {
  plan = two_divisions;
  divisions = (division 1 0) ∷ (division 2 1) ∷ [];
  incidents = (incident 2 1 (grid 560000 180000) 3 (needs 1 0 0) 985 (Some 1947) Active) ∷ [];
  calls = (call 1 6 2 1 1 false (grid 560000 180000) 3 (needs 0 0 1) [] 985) ∷ [];
  vehicles =
      (vehicle A1 1 1 Ambulance (grid 530100 180100) Available 40000 None 0 0)
      ∷ (vehicle A2 2 2 Ambulance (grid 531000 180000) Mobilised 2000 None 1 2)
      ∷ (vehicle A3 1 1 Ambulance (grid 530000 180000) Available 2000 None 0 0)
      ∷ (vehicle B1 1 1 Ambulance (grid 560000 180000) Offered 5000 None 0 0)
      ∷ (vehicle B2 1 1 Car (grid 530200 180000) OffDuty 0 None 0 0) ∷ [];
  turns = (turn A2 1 2 1 Ambulance 1947 (Some 1932) None None None None false) ∷ [];
  assignments = (assignment A2 2 1 1 (grid 560000 180000) 3) ∷ [];
  points = [];
  loans = [];
  offers = (offer B1 1 2 1933 2933) ∷ [];
  reports = (report A2 2 button.Mobile 1 (grid 531000 180000) 1932 2 Normal Mobilised false) ∷ [];
}

report_mobilised_position_late : Steps
    (at 2414 (Crew A2) (ask.Report (pressed 1 button.Position 1 (grid 531000 180000))))
    before_report_mobilised_position_late (Ok (answer.Reported 1 Late Mobilised))
    (record before_report_mobilised_position_late {
      reports = (report A2 1 button.Position 1
          (grid 531000 180000) 2414 2 Late Mobilised false)
          ∷ (report A2 2 button.Mobile 1 (grid 531000 180000) 1932 2 Normal Mobilised false)
          ∷ [];
    })
unfolding machine
report_mobilised_position_late = (refl, refl)

abbrev before_report_mobilised_position_normal : Room
before_report_mobilised_position_normal = record {
  plan = overlapping_divisions;
  divisions = (division 1 4) ∷ (division 7 0) ∷ [];
  incidents = (incident 1 4 (grid 530100 180100) 1 (needs 2 0 0) 1181 (Some 1963) Active) ∷ [];
  calls = (call 2 1 1 4 4 false (grid 530100 180100) 1 (needs 2 0 0) [] 1181) ∷ [];
  vehicles =
      (vehicle A1 7 7 Ambulance (grid 560000 180000) OffDuty 0 None 0 0)
      ∷ (vehicle A2 7 7 Ambulance (grid 530100 180100) OffDuty 0 None 0 0)
      ∷ (vehicle A3 1 1 Ambulance (grid 531000 180000) Mobilised 5000 None 1 0) ∷ [];
  turns = (turn A3 1 1 4 Ambulance 1963 None None None None None false) ∷ [];
  assignments = (assignment A3 1 4 1 (grid 530100 180100) 1) ∷ [];
  points = [];
  loans = [];
  offers = [];
  reports = [];
}

report_mobilised_position_normal : Steps
    (at 2264 (Crew A3) (ask.Report (pressed 2 button.Position 1 (grid 530100 180000))))
    before_report_mobilised_position_normal (Ok (answer.Reported 2 Normal Mobilised))
    (record before_report_mobilised_position_normal {
      vehicles = (vehicle A1 7 7 Ambulance (grid 560000 180000) OffDuty 0 None 0 0)
          ∷ (vehicle A2 7 7 Ambulance (grid 530100 180100) OffDuty 0 None 0 0)
          ∷ (vehicle A3 1 1 Ambulance (grid 530100 180000) Mobilised 5000 None 1 2)
          ∷ [];
      reports = (report A3 2 button.Position 1
          (grid 530100 180000) 2264 1 Normal Mobilised false) ∷ [];
    })
unfolding machine
report_mobilised_position_normal = (refl, refl)

abbrev before_report_mobilised_position_normal_2 : Room
before_report_mobilised_position_normal_2 = record {
  plan = two_divisions;
  divisions = (division 1 3) ∷ (division 2 4) ∷ [];
  incidents = (incident 2 4 (grid 560100 180000) 2 (needs 2 1 1) 1030 (Some 1813) Active) ∷ [];
  calls = (call 2 6 2 4 4 false (grid 560100 180000) 2 (needs 2 1 1) [] 1030) ∷ [];
  vehicles =
      (vehicle A1 2 2 Ambulance (grid 530300 180400) Available 2000 None 0 2)
      ∷ (vehicle A2 2 2 Ambulance (grid 530201 180000) Mobilised 40000 None 1 2) ∷ [];
  turns = (turn A2 1 2 4 Ambulance 1813 (Some 2205) None None None None false) ∷ [];
  assignments = (assignment A2 2 4 1 (grid 560100 180000) 2) ∷ [];
  points = (point 2 2 (grid 530100 180100) 2) ∷ [];
  loans = [];
  offers = [];
  reports =
      (report A1 2 button.Hospital 0 (grid 530100 180000) 1031 2 Wrong Available false)
      ∷ (report A2 1 button.Mobile 1 (grid 530120 180160) 2205 2 Normal Mobilised false)
      ∷ (report A2 2 button.Mobile 1 (grid 530201 180000) 2651 2 Normal Mobilised false) ∷ [];
}

report_mobilised_position_normal_2 : Steps
    (at 2932 (Crew A2) (ask.Report (pressed 4 button.Position 1 (grid 531000 180000))))
    before_report_mobilised_position_normal_2 (Ok (answer.Reported 4 Normal Mobilised))
    (record before_report_mobilised_position_normal_2 {
      vehicles = (vehicle A1 2 2 Ambulance (grid 530300 180400) Available 2000 None 0 2)
          ∷ (vehicle A2 2 2 Ambulance (grid 531000 180000) Mobilised 40000 None 1 4)
          ∷ [];
      reports = (report A1 2 button.Hospital 0
          (grid 530100 180000) 1031 2 Wrong Available false)
          ∷ (report A2 1 button.Mobile 1 (grid 530120 180160) 2205 2 Normal Mobilised
          false) ∷ (report A2 2 button.Mobile 1
          (grid 530201 180000) 2651 2 Normal Mobilised false)
          ∷ (report A2 4 button.Position 1 (grid 531000 180000) 2932 2 Normal
          Mobilised false) ∷ [];
    })
unfolding machine
report_mobilised_position_normal_2 = (refl, refl)

abbrev before_report_mobilised_return_skipped : Room
before_report_mobilised_return_skipped = record {
  plan = two_divisions;
  divisions = (division 1 0) ∷ (division 2 4) ∷ [];
  incidents = (incident 2 4 (grid 560100 180000) 1 (needs 0 0 1) 1061 (Some 1066) Active) ∷ [];
  calls = (call 2 5 2 4 4 false (grid 560100 180000) 1 (needs 0 0 1) [] 1061) ∷ [];
  vehicles =
      (vehicle A1 2 2 Support (grid 560200 180000) Mobilised 40000 None 1 0)
      ∷ (vehicle A2 2 2 Car (grid 531000 180000) OffDuty 0 None 0 0) ∷ [];
  turns = (turn A1 1 2 4 Support 1066 None None None None None false) ∷ [];
  assignments = (assignment A1 2 4 1 (grid 560100 180000) 1) ∷ [];
  points = [];
  loans = [];
  offers = [];
  reports = [];
}

report_mobilised_return_skipped : Steps
    (at 1759 (Crew A1) (ask.Report (pressed 1 button.Return 1 (grid 530000 180000))))
    before_report_mobilised_return_skipped (Ok (answer.Reported 1 Skipped Returning))
    (record before_report_mobilised_return_skipped {
      vehicles = (vehicle A1 2 2 Support (grid 530000 180000) Returning 40000 None 1 1)
          ∷ (vehicle A2 2 2 Car (grid 531000 180000) OffDuty 0 None 0 0)
          ∷ [];
      turns = (turn A1 1 2 4 Support 1066 None None None None (Some 1759) false)
          ∷ [];
      assignments = [];
      reports =
          (report A1 1 button.Return 1 (grid 530000 180000) 1759 2 Skipped Returning false)
          ∷ [];
    })
unfolding machine
report_mobilised_return_skipped = (refl, refl)

abbrev before_report_mobilised_return_skipped_2 : Room
before_report_mobilised_return_skipped_2 = record {
  plan = two_divisions;
  divisions = (division 1 2) ∷ (division 2 3) ∷ [];
  incidents =
      (incident 1 1 (grid 530000 180000) 1 (needs 1 1 0) 980 (Some 1947) Active)
      ∷ (incident 1 2 (grid 530120 180160) 1 (needs 0 1 0) 1947 None (Merged 1)) ∷ [];
  calls =
      (call 1 6 1 1 1 false (grid 530000 180000) 2 (needs 1 0 0) [] 980)
      ∷ (call 2 1 1 1 2 false (grid 530120 180160) 1 (needs 0 1 0) [] 1947) ∷ [];
  vehicles =
      (vehicle A1 2 2 Car (grid 530000 180000) Available 6104 None 0 1)
      ∷ (vehicle A2 1 1 Ambulance (grid 530300 180400) Mobilised 2000 None 1 1) ∷ [];
  turns = (turn A2 1 1 1 Ambulance 1947 (Some 1982) None None None None false) ∷ [];
  assignments = (assignment A2 1 1 1 (grid 530000 180000) 2) ∷ [];
  points = [];
  loans = [];
  offers = [];
  reports =
      (report A1 1 button.Hospital 0 (grid 530200 180000) 2043 2 Wrong OffDuty false)
      ∷ (report A2 1 button.Mobile 1 (grid 530300 180400) 1982 1 Normal Mobilised false) ∷ [];
}

report_mobilised_return_skipped_2 : Steps
    (at 2224 (Crew A2) (ask.Report (pressed 3 button.Return 1 (grid 530300 180400))))
    before_report_mobilised_return_skipped_2 (Ok (answer.Reported 3 Skipped Returning))
    (record before_report_mobilised_return_skipped_2 {
      vehicles = (vehicle A1 2 2 Car (grid 530000 180000) Available 6104 None 0 1)
          ∷ (vehicle A2 1 1 Ambulance (grid 530300 180400) Returning 2000 None 1 3)
          ∷ [];
      turns = (turn A2 1 1 1 Ambulance 1947 (Some 1982) None None None
          (Some 2224) false) ∷ [];
      assignments = [];
      reports =
          (report A1 1 button.Hospital 0 (grid 530200 180000) 2043 2 Wrong OffDuty false)
          ∷ (report A2 1 button.Mobile 1 (grid 530300 180400) 1982 1 Normal Mobilised
          false) ∷ (report A2 3 button.Return 1
          (grid 530300 180400) 2224 1 Skipped Returning false) ∷ [];
    })
unfolding machine
report_mobilised_return_skipped_2 = (refl, refl)

abbrev before_report_mobilised_scene_normal : Room
before_report_mobilised_scene_normal = record {
  plan = overlapping_divisions;
  divisions = (division 1 4) ∷ (division 7 0) ∷ [];
  incidents = (incident 1 4 (grid 530100 180000) 1 (needs 2 1 1) 1061 (Some 1122) Active) ∷ [];
  calls = (call 2 2 1 4 4 false (grid 530100 180000) 1 (needs 2 1 1) [] 1061) ∷ [];
  vehicles =
      (vehicle A1 7 7 Support (grid 530120 180160) Available 2000 None 0 0)
      ∷ (vehicle A2 1 1 Ambulance (grid 530200 180000) Mobilised 40000 None 1 1) ∷ [];
  turns = (turn A2 1 1 4 Ambulance 1122 (Some 1545) None None None None false) ∷ [];
  assignments = (assignment A2 1 4 1 (grid 530100 180000) 1) ∷ [];
  points = [];
  loans = [];
  offers = [];
  reports = (report A2 1 button.Mobile 1 (grid 530200 180000) 1545 1 Normal Mobilised false) ∷ [];
}

report_mobilised_scene_normal : Steps
    (at 1847 (Crew A2) (ask.Report (pressed 2 button.Scene 1 (grid 530100 180100))))
    before_report_mobilised_scene_normal (Ok (answer.Reported 2 Normal AtScene))
    (record before_report_mobilised_scene_normal {
      vehicles = (vehicle A1 7 7 Support (grid 530120 180160) Available 2000 None 0 0)
          ∷ (vehicle A2 1 1 Ambulance (grid 530100 180100) AtScene 40000 None 1 2)
          ∷ [];
      turns = (turn A2 1 1 4 Ambulance 1122 (Some 1545)
          (Some 1847) None None None false)
          ∷ [];
      reports = (report A2 1 button.Mobile 1
          (grid 530200 180000) 1545 1 Normal Mobilised false)
          ∷ (report A2 2 button.Scene 1 (grid 530100 180100) 1847 1 Normal
          AtScene false) ∷ [];
    })
unfolding machine
report_mobilised_scene_normal = (refl, refl)

abbrev before_report_mobilised_scene_skipped : Room
before_report_mobilised_scene_skipped = record {
  plan = two_divisions;
  divisions = (division 1 1) ∷ (division 2 0) ∷ [];
  incidents = (incident 1 1 (grid 530100 180000) 3 (needs 1 0 0) 1181 (Some 2387) Active) ∷ [];
  calls = (call 2 6 1 1 1 false (grid 530100 180000) 3 (needs 1 0 0) [] 1181) ∷ [];
  vehicles =
      (vehicle A1 1 1 Car (grid 560000 180000) Available 5000 None 0 1)
      ∷ (vehicle A2 1 1 Ambulance (grid 530120 180160) Mobilised 40000 None 1 0) ∷ [];
  turns = (turn A2 1 1 1 Ambulance 2387 None None None None None false) ∷ [];
  assignments = (assignment A2 1 1 1 (grid 530100 180000) 3) ∷ [];
  points = [];
  loans = [];
  offers = [];
  reports = (report A1 1 button.Mobile 0 (grid 530120 180160) 1906 1 Wrong Available false) ∷ [];
}

report_mobilised_scene_skipped : Steps
    (at 2367 (Crew A2) (ask.Report (pressed 1 button.Scene 1 (grid 530100 180100))))
    before_report_mobilised_scene_skipped (Ok (answer.Reported 1 Skipped AtScene))
    (record before_report_mobilised_scene_skipped {
      vehicles = (vehicle A1 1 1 Car (grid 560000 180000) Available 5000 None 0 1)
          ∷ (vehicle A2 1 1 Ambulance (grid 530100 180100) AtScene 40000 None 1 1)
          ∷ [];
      turns = (turn A2 1 1 1 Ambulance 2387 None (Some 2367) None None None false)
          ∷ [];
      reports = (report A1 1 button.Mobile 0
          (grid 530120 180160) 1906 1 Wrong Available false)
          ∷ (report A2 1 button.Scene 1 (grid 530100 180100) 2367 1 Skipped AtScene
          false) ∷ [];
    })
unfolding machine
report_mobilised_scene_skipped = (refl, refl)

abbrev before_report_mobilised_scene_skipped_2 : Room
before_report_mobilised_scene_skipped_2 = record {
  plan = two_divisions;
  divisions = (division 1 2147483647) ∷ (division 2 2147483646) ∷ [];
  incidents = (incident 1 2147483647 (grid 530100 180100) 2 (needs 2 1 1) 1062 (Some 1072) Active) ∷ [];
  calls = (call 1 4 1 2147483647 2147483647 false (grid 530100 180100) 2 (needs 2 1 1) [] 1062) ∷ [];
  vehicles =
      (vehicle A1 2 2 Ambulance (grid 530200 180000) Available 40000 None 0 0)
      ∷ (vehicle A2 1 1 Ambulance (grid 530100 180000) Mobilised 5000 None 1 0)
      ∷ (vehicle A3 2 2 Ambulance (grid 531000 180000) OffDuty 0 None 0 0) ∷ [];
  turns = (turn A2 1 1 2147483647 Ambulance 1072 None None None None None false) ∷ [];
  assignments = (assignment A2 1 2147483647 1 (grid 530100 180100) 2) ∷ [];
  points = [];
  loans = [];
  offers = [];
  reports = [];
}

report_mobilised_scene_skipped_2 : Steps
    (at 1052 (Crew A2) (ask.Report (pressed 2 button.Scene 1 (grid 530201 180000))))
    before_report_mobilised_scene_skipped_2 (Ok (answer.Reported 2 Skipped AtScene))
    (record before_report_mobilised_scene_skipped_2 {
      vehicles = (vehicle A1 2 2 Ambulance (grid 530200 180000) Available 40000 None 0 0)
          ∷ (vehicle A2 1 1 Ambulance (grid 530201 180000) AtScene 5000 None 1 2)
          ∷ (vehicle A3 2 2 Ambulance (grid 531000 180000) OffDuty 0 None 0 0)
          ∷ [];
      turns = (turn A2 1 1 2147483647 Ambulance 1072 None
          (Some 1052) None None None false)
          ∷ [];
      reports = (report A2 2 button.Scene 1
          (grid 530201 180000) 1052 1 Skipped AtScene false) ∷ [];
    })
unfolding machine
report_mobilised_scene_skipped_2 = (refl, refl)

abbrev before_report_mobilised_scene_skipped_3 : Room
before_report_mobilised_scene_skipped_3 = record {
  plan = overlapping_divisions;
  divisions = (division 1 2147483647) ∷ (division 7 2147483646) ∷ [];
  incidents = (incident 1 2147483647 (grid 530120 180160) 2 (needs 1 0 0) 961 (Some 1801) Active) ∷ [];
  calls = (call 1 4 1 2147483647 2147483647 false (grid 530120 180160) 2 (needs 2 1 1) (codes "x") 961) ∷ [];
  vehicles =
      (vehicle A1 1 1 Ambulance (grid 530300 180400) Mobilised 5000 None 1 0)
      ∷ (vehicle A2 1 1 Ambulance (grid 530200 180000) OffDuty 0 None 0 0)
      ∷ (vehicle A3 7 7 Ambulance (grid 530201 180000) Available 1884 None 0 0) ∷ [];
  turns = (turn A1 1 1 2147483647 Ambulance 1801 None None None None None false) ∷ [];
  assignments = (assignment A1 1 2147483647 1 (grid 530120 180160) 2) ∷ [];
  points = [];
  loans = [];
  offers = [];
  reports = [];
}

report_mobilised_scene_skipped_3 : Steps
    (at 1445 (Crew A1) (ask.Report (pressed 1 button.Scene 1 (grid 530100 180100))))
    before_report_mobilised_scene_skipped_3 (Ok (answer.Reported 1 Skipped AtScene))
    (record before_report_mobilised_scene_skipped_3 {
      vehicles = (vehicle A1 1 1 Ambulance (grid 530100 180100) AtScene 5000 None 1 1)
          ∷ (vehicle A2 1 1 Ambulance (grid 530200 180000) OffDuty 0 None 0 0)
          ∷ (vehicle A3 7 7 Ambulance (grid 530201 180000) Available 1884 None 0 0)
          ∷ [];
      turns = (turn A1 1 1 2147483647 Ambulance 1801 None
          (Some 1445) None None None false)
          ∷ [];
      reports = (report A1 1 button.Scene 1
          (grid 530100 180100) 1445 1 Skipped AtScene false) ∷ [];
    })
unfolding machine
report_mobilised_scene_skipped_3 = (refl, refl)

abbrev before_report_mobilised_scene_skipped_4 : Room
before_report_mobilised_scene_skipped_4 = record {
  plan = two_divisions;
  divisions = (division 1 2147483647) ∷ (division 2 2147483647) ∷ [];
  incidents = (incident 1 2147483647 (grid 530100 180100) 2 (needs 1 0 0) 1362 (Some 1524) Active) ∷ [];
  calls = (call 1 3 1 2147483647 2147483647 false (grid 530100 180100) 2 (needs 1 0 0) (codes "x") 1362) ∷ [];
  vehicles =
      (vehicle A1 2 2 Car (grid 530200 180000) Available 40000 None 0 1)
      ∷ (vehicle A2 1 1 Ambulance (grid 530200 180000) Mobilised 2000 None 1 0)
      ∷ (vehicle A3 2 2 Car (grid 560000 180000) Available 40000 None 0 0) ∷ [];
  turns = (turn A2 1 1 2147483647 Ambulance 1524 None None None None None false) ∷ [];
  assignments = (assignment A2 1 2147483647 1 (grid 530100 180100) 2) ∷ [];
  points = [];
  loans = [];
  offers = [];
  reports = (report A1 1 button.Return 0 (grid 530100 180000) 2486 2 Wrong Available false) ∷ [];
}

report_mobilised_scene_skipped_4 : Steps
    (at 2792 (Crew A2) (ask.Report (pressed 1 button.Scene 1 (grid 530300 180400))))
    before_report_mobilised_scene_skipped_4 (Ok (answer.Reported 1 Skipped AtScene))
    (record before_report_mobilised_scene_skipped_4 {
      vehicles = (vehicle A1 2 2 Car (grid 530200 180000) Available 40000 None 0 1)
          ∷ (vehicle A2 1 1 Ambulance (grid 530300 180400) AtScene 2000 None 1 1)
          ∷ (vehicle A3 2 2 Car (grid 560000 180000) Available 40000 None 0 0)
          ∷ [];
      turns = (turn A2 1 1 2147483647 Ambulance 1524 None
          (Some 2792) None None None false)
          ∷ [];
      reports = (report A1 1 button.Return 0
          (grid 530100 180000) 2486 2 Wrong Available false)
          ∷ (report A2 1 button.Scene 1 (grid 530300 180400) 2792 1 Skipped
          AtScene false) ∷ [];
    })
unfolding machine
report_mobilised_scene_skipped_4 = (refl, refl)

abbrev before_report_number_reused : Room
before_report_number_reused = record {
  plan = two_divisions;
  divisions = (division 1 3) ∷ (division 2 3) ∷ [];
  incidents = [];
  calls = [];
  vehicles =
      (vehicle A1 2 2 Ambulance (grid 560100 180000) OffDuty 0 None 0 0)
      ∷ (vehicle A2 2 2 Car (grid 530100 180100) Available 40000 None 0 1) ∷ [];
  turns = [];
  assignments = [];
  points = [];
  loans = [];
  offers = [];
  reports = (report A2 1 button.Mobile 0 (grid 530100 180100) 1061 2 Wrong Available false) ∷ [];
}

report_number_reused : Steps (at 1066 (Crew A2)
    (ask.Report (pressed 1 button.Leave 0 (grid 530201 180000)))) before_report_number_reused
    (Err refusal.NumberReused) before_report_number_reused
unfolding machine
report_number_reused = (refl, refl)

abbrev before_report_off_duty_home_wrong : Room
before_report_off_duty_home_wrong = record {
  plan = two_divisions;
  divisions = (division 1 0) ∷ (division 2 0) ∷ [];
  incidents = [];
  calls = [];
  vehicles =
      (vehicle A1 1 1 Ambulance (grid 560000 180000) OffDuty 0 None 0 0)
      ∷ (vehicle A2 2 2 Support (grid 530000 180000) Available 2000 None 0 0)
      ∷ (vehicle A3 2 2 Ambulance (grid 530000 180000) OffDuty 0 None 2147483647 0)
      ∷ (vehicle B1 2 2 Ambulance (grid 530000 180000) OffDuty 0 None 0 0) ∷ [];
  turns = [];
  assignments = [];
  points = [];
  loans = [];
  offers = [];
  reports = [];
}

report_off_duty_home_wrong : Steps
    (at 1005 (Crew A3) (ask.Report (pressed 1 button.Home 0 (grid 531000 180000))))
    before_report_off_duty_home_wrong (Ok (answer.Reported 1 Wrong OffDuty))
    (record before_report_off_duty_home_wrong {
      vehicles = (vehicle A1 1 1 Ambulance (grid 560000 180000) OffDuty 0 None 0 0)
          ∷ (vehicle A2 2 2 Support (grid 530000 180000) Available 2000 None 0 0)
          ∷ (vehicle A3 2 2 Ambulance (grid 530000 180000) OffDuty 0 None 2147483647 1)
          ∷ (vehicle B1 2 2 Ambulance (grid 530000 180000) OffDuty 0 None 0 0)
          ∷ [];
      reports = (report A3 1 button.Home 0
          (grid 531000 180000) 1005 2 Wrong OffDuty false) ∷ [];
    })
unfolding machine
report_off_duty_home_wrong = (refl, refl)

abbrev before_report_off_duty_home_wrong_2 : Room
before_report_off_duty_home_wrong_2 = record {
  plan = two_divisions;
  divisions = (division 1 0) ∷ (division 2 0) ∷ [];
  incidents = [];
  calls = [];
  vehicles =
      (vehicle A1 2 2 Ambulance (grid 530000 180000) OffDuty 0 None 0 3)
      ∷ (vehicle A2 1 2 Ambulance (grid 560200 180000) OffDuty 2000 None 0 3) ∷ [];
  turns = [];
  assignments = [];
  points = [];
  loans = (loan A2 1 2 2096 1554 false) ∷ [];
  offers = [];
  reports =
      (report A1 1 button.Hospital 0 (grid 530201 180000) 1130 2 Wrong OffDuty false)
      ∷ (report A1 2 button.Mobile 0 (grid 530000 180000) 1373 2 Wrong OffDuty false)
      ∷ (report A1 3 button.Home 0 (grid 530100 180000) 2035 2 Wrong OffDuty false)
      ∷ (report A2 2 button.Return 0 (grid 530100 180100) 1100 1 Wrong Available false)
      ∷ (report A2 3 button.Leave 0 (grid 530300 180400) 1372 1 Wrong Available false) ∷ [];
}

report_off_duty_home_wrong_2 : Steps
    (at 1555 (Crew A2) (ask.Report (pressed 5 button.Home 0 (grid 530200 180000))))
    before_report_off_duty_home_wrong_2 (Ok (answer.Reported 5 Wrong OffDuty))
    (record before_report_off_duty_home_wrong_2 {
      vehicles = (vehicle A1 2 2 Ambulance (grid 530000 180000) OffDuty 0 None 0 3)
          ∷ (vehicle A2 1 2 Ambulance (grid 560200 180000) OffDuty 2000 None 0 5)
          ∷ [];
      reports = (report A1 1 button.Hospital 0
          (grid 530201 180000) 1130 2 Wrong OffDuty false)
          ∷ (report A1 2 button.Mobile 0 (grid 530000 180000) 1373 2 Wrong OffDuty false)
          ∷ (report A1 3 button.Home 0 (grid 530100 180000) 2035 2 Wrong OffDuty false)
          ∷ (report A2 2 button.Return 0 (grid 530100 180100) 1100 1 Wrong Available
          false) ∷ (report A2 3 button.Leave 0
          (grid 530300 180400) 1372 1 Wrong Available false)
          ∷ (report A2 5 button.Home 0 (grid 530200 180000) 1555 2 Wrong OffDuty
          false) ∷ [];
    })
unfolding machine
report_off_duty_home_wrong_2 = (refl, refl)

abbrev before_report_off_duty_home_wrong_3 : Room
before_report_off_duty_home_wrong_3 = record {
  plan = overlapping_divisions;
  divisions = (division 1 2) ∷ (division 7 0) ∷ [];
  incidents =
      (incident 1 1 (grid 530100 180000) 2 (needs 2 0 0) 1662 None Closed)
      ∷ (incident 1 2 (grid 530300 180400) 2 (needs 2 0 0) 2344 None Active) ∷ [];
  calls =
      (call 1 4 1 2 2 false (grid 530300 180400) 2 (needs 2 0 0) [] 2344)
      ∷ (call 1 5 1 1 1 false (grid 530100 180000) 2 (needs 2 0 0) [] 1662) ∷ [];
  vehicles =
      (vehicle A1 1 1 Ambulance (grid 530120 180160) Available 5000 None 0 2)
      ∷ (vehicle A2 1 1 Ambulance (grid 530120 180160) OffDuty 0 None 2147483647 0)
      ∷ (vehicle A3 7 1 Car (grid 530120 180160) OffDuty 5000 None 0 0)
      ∷ (vehicle B1 1 1 Ambulance (grid 530300 180400) OffDuty 0 None 0 0) ∷ [];
  turns = [];
  assignments = [];
  points = [];
  loans = (loan A3 7 1 2359 2334 false) ∷ [];
  offers = [];
  reports = (report A1 2 button.Home 0 (grid 530120 180160) 1181 1 Normal Available false) ∷ [];
}

report_off_duty_home_wrong_3 : Steps
    (at 2334 (Crew A3) (ask.Report (pressed 1 button.Home 0 (grid 530200 180000))))
    before_report_off_duty_home_wrong_3 (Ok (answer.Reported 1 Wrong OffDuty))
    (record before_report_off_duty_home_wrong_3 {
      vehicles = (vehicle A1 1 1 Ambulance (grid 530120 180160) Available 5000 None 0 2)
          ∷ (vehicle A2 1 1 Ambulance (grid 530120 180160) OffDuty 0 None 2147483647 0)
          ∷ (vehicle A3 7 1 Car (grid 530120 180160) OffDuty 5000 None 0 1)
          ∷ (vehicle B1 1 1 Ambulance (grid 530300 180400) OffDuty 0 None 0 0)
          ∷ [];
      reports = (report A1 2 button.Home 0
          (grid 530120 180160) 1181 1 Normal Available false)
          ∷ (report A3 1 button.Home 0 (grid 530200 180000) 2334 1 Wrong OffDuty false)
          ∷ [];
    })
unfolding machine
report_off_duty_home_wrong_3 = (refl, refl)

abbrev before_report_off_duty_home_wrong_4 : Room
before_report_off_duty_home_wrong_4 = record {
  plan = two_divisions;
  divisions = (division 1 2147483647) ∷ (division 2 2147483647) ∷ [];
  incidents = (incident 1 2147483647 (grid 530100 180100) 1 (needs 1 1 0) 2354 None Active) ∷ [];
  calls =
      (call 1 3 1 2147483647 2147483647 true (grid 530000 180000) 2 (needs 1 0 0) [] 2359)
      ∷ (call 2 4 1 2147483647 2147483647 false (grid 530100 180100) 1 (needs 1 1 0) [] 2354) ∷ [];
  vehicles =
      (vehicle A1 1 2 Support (grid 530100 180000) OffDuty 40000 None 0 3)
      ∷ (vehicle A2 1 1 Car (grid 531000 180000) Available 4304 None 0 2) ∷ [];
  turns = [];
  assignments = [];
  points = (point 1 1 (grid 530201 180000) 1) ∷ (point 1 2 (grid 530000 180000) 1) ∷ [];
  loans = (loan A1 1 2 3429 2789 true) ∷ [];
  offers = [];
  reports =
      (report A1 1 button.Scene 0 (grid 530120 180160) 1331 1 Wrong Available false)
      ∷ (report A1 3 button.Leave 0 (grid 530120 180160) 2580 1 Wrong Offered true)
      ∷ (report A2 1 button.Position 0 (grid 530100 180000) 2419 1 Late OffDuty false)
      ∷ (report A2 2 button.Hospital 0 (grid 530120 180160) 2114 1 Wrong OffDuty false) ∷ [];
}

report_off_duty_home_wrong_4 : Steps
    (at 2789 (Crew A1) (ask.Report (pressed 4 button.Home 0 (grid 530201 180000))))
    before_report_off_duty_home_wrong_4 (Ok (answer.Reported 4 Wrong OffDuty))
    (record before_report_off_duty_home_wrong_4 {
      vehicles = (vehicle A1 1 2 Support (grid 530100 180000) OffDuty 40000 None 0 4)
          ∷ (vehicle A2 1 1 Car (grid 531000 180000) Available 4304 None 0 2)
          ∷ [];
      reports = (report A1 1 button.Scene 0
          (grid 530120 180160) 1331 1 Wrong Available false)
          ∷ (report A1 3 button.Leave 0 (grid 530120 180160) 2580 1 Wrong Offered true)
          ∷ (report A1 4 button.Home 0 (grid 530201 180000) 2789 2 Wrong OffDuty false)
          ∷ (report A2 1 button.Position 0 (grid 530100 180000) 2419 1 Late OffDuty
          false) ∷ (report A2 2 button.Hospital 0
          (grid 530120 180160) 2114 1 Wrong OffDuty false) ∷ [];
    })
unfolding machine
report_off_duty_home_wrong_4 = (refl, refl)

abbrev before_report_off_duty_home_wrong_5 : Room
before_report_off_duty_home_wrong_5 = record {
  plan = overlapping_divisions;
  divisions = (division 1 4) ∷ (division 7 0) ∷ [];
  incidents =
      (incident 1 1 (grid 560000 180000) 1 (needs 2 1 1) 1182 None Active)
      ∷ (incident 1 2 (grid 530100 180100) 2 (needs 2 0 0) 1363 None Closed)
      ∷ (incident 1 3 (grid 530200 180000) 1 (needs 2 0 0) 2203 None Active)
      ∷ (incident 1 4 (grid 530100 180000) 3 (needs 0 1 0) 3241 None Active) ∷ [];
  calls =
      (call 1 1 1 1 1 false (grid 560000 180000) 1 (needs 2 1 1) (codes "x") 1182)
      ∷ (call 1 2 1 2 2 false (grid 530100 180100) 2 (needs 2 0 0) [] 1363)
      ∷ (call 1 3 1 3 3 false (grid 530200 180000) 1 (needs 2 0 0) [] 2203)
      ∷ (call 2 6 1 4 4 false (grid 530100 180000) 3 (needs 0 1 0) [] 3241) ∷ [];
  vehicles =
      (vehicle A1 1 7 Ambulance (grid 530000 180000) OffDuty 5000 None 0 1)
      ∷ (vehicle A2 1 1 Ambulance (grid 530000 180000) Available 5000 None 0 0) ∷ [];
  turns = [];
  assignments = [];
  points = (point 7 1 (grid 530100 180100) 1) ∷ [];
  loans = (loan A1 1 7 1181 5099 false) ∷ [];
  offers = [];
  reports = (report A1 1 button.Home 0 (grid 530000 180000) 1244 7 Normal Available false) ∷ [];
}

report_off_duty_home_wrong_5 : Steps
    (at 3361 (Crew A1) (ask.Report (pressed 2 button.Home 0 (grid 530200 180000))))
    before_report_off_duty_home_wrong_5 (Ok (answer.Reported 2 Wrong OffDuty))
    (record before_report_off_duty_home_wrong_5 {
      vehicles = (vehicle A1 1 7 Ambulance (grid 530000 180000) OffDuty 5000 None 0 2)
          ∷ (vehicle A2 1 1 Ambulance (grid 530000 180000) Available 5000 None 0 0)
          ∷ [];
      reports = (report A1 1 button.Home 0
          (grid 530000 180000) 1244 7 Normal Available false)
          ∷ (report A1 2 button.Home 0 (grid 530200 180000) 3361 7 Wrong OffDuty false)
          ∷ [];
    })
unfolding machine
report_off_duty_home_wrong_5 = (refl, refl)

abbrev before_report_off_duty_home_wrong_6 : Room
before_report_off_duty_home_wrong_6 = record {
  plan = two_divisions;
  divisions = (division 1 2147483647) ∷ (division 2 2147483647) ∷ [];
  incidents = (incident 1 2147483647 (grid 530100 180100) 1 (needs 1 1 0) 2354 None Active) ∷ [];
  calls =
      (call 1 3 1 2147483647 2147483647 true (grid 530000 180000) 2 (needs 1 0 0) [] 2359)
      ∷ (call 2 4 1 2147483647 2147483647 false (grid 530100 180100) 1 (needs 1 1 0) [] 2354) ∷ [];
  vehicles =
      (vehicle A1 1 2 Support (grid 530100 180000) OffDuty 40000 None 0 5)
      ∷ (vehicle A2 1 1 Car (grid 531000 180000) Available 4304 None 0 2) ∷ [];
  turns = [];
  assignments = [];
  points = (point 1 1 (grid 530201 180000) 1) ∷ (point 1 2 (grid 530000 180000) 1) ∷ [];
  loans = (loan A1 1 2 3429 2789 true) ∷ [];
  offers = [];
  reports =
      (report A1 1 button.Scene 0 (grid 530120 180160) 1331 1 Wrong Available false)
      ∷ (report A1 3 button.Leave 0 (grid 530120 180160) 2580 1 Wrong Offered true)
      ∷ (report A1 4 button.Home 0 (grid 530201 180000) 2789 2 Wrong OffDuty false)
      ∷ (report A1 5 button.Hospital 0 (grid 530200 180000) 4878 2 Wrong OffDuty false)
      ∷ (report A2 1 button.Position 0 (grid 530100 180000) 2419 1 Late OffDuty false)
      ∷ (report A2 2 button.Hospital 0 (grid 530120 180160) 2114 1 Wrong OffDuty false) ∷ [];
}

report_off_duty_home_wrong_6 : Steps
    (at 4883 (Crew A1) (ask.Report (pressed 7 button.Home 0 (grid 530201 180000))))
    before_report_off_duty_home_wrong_6 (Ok (answer.Reported 7 Wrong OffDuty))
    (record before_report_off_duty_home_wrong_6 {
      vehicles = (vehicle A1 1 2 Support (grid 530100 180000) OffDuty 40000 None 0 7)
          ∷ (vehicle A2 1 1 Car (grid 531000 180000) Available 4304 None 0 2)
          ∷ [];
      reports = (report A1 1 button.Scene 0
          (grid 530120 180160) 1331 1 Wrong Available false)
          ∷ (report A1 3 button.Leave 0 (grid 530120 180160) 2580 1 Wrong Offered true)
          ∷ (report A1 4 button.Home 0 (grid 530201 180000) 2789 2 Wrong OffDuty false)
          ∷ (report A1 5 button.Hospital 0 (grid 530200 180000) 4878 2 Wrong OffDuty
          false) ∷ (report A1 7 button.Home 0
          (grid 530201 180000) 4883 2 Wrong OffDuty false)
          ∷ (report A2 1 button.Position 0 (grid 530100 180000) 2419 1 Late
          OffDuty false) ∷ (report A2 2 button.Hospital 0
          (grid 530120 180160) 2114 1 Wrong OffDuty false) ∷ [];
    })
unfolding machine
report_off_duty_home_wrong_6 = (refl, refl)
