-- Sampled steps: that the working rows of a desk's ask decide it, and a vehicle's rows what its
-- crew asks. A program that is independent of this repository, written from the rules in words,
-- made them in random runs; of each kind of step it kept those with the fewest rows.
use Rattle.std.specs.Prelude.{None, Some, [], codes, false, negsuc, pos, refl, true, ◌∷◌}
use Rattle.room_types.specs.declared.asks.Ask.TheVariants as ask
use Rattle.room_types.specs.declared.codes.Button.TheVariants as button
use Rattle.room_types.specs.declared.codes.Kind.TheVariants.{Ambulance, Car, Support}
use Rattle.room_types.specs.declared.codes.Outcome.TheVariants.{Late, Normal, Skipped, Stale, Wrong}
use Rattle.room_types.specs.declared.codes.State.TheVariants.{Active, Closed, Merged}
use Rattle.room_types.specs.declared.codes.Status.TheVariants.{AtHospital, AtScene, Available}
use Rattle.room_types.specs.declared.codes.Status.TheVariants.{Leaving, Mobilised, OffDuty, Offered}
use Rattle.room_types.specs.declared.codes.Status.TheVariants.{Returning}
use Rattle.room_model.specs.Room.{Room}
use Rattle.room_model.specs.ComputedDefinitions.{machine}
use Rattle.room_samples.specs.ExampleRows.{assignment, call, division, grid, incident, loan, offer}
use Rattle.room_samples.specs.ExampleRows.{point, pressed, report, turn, vehicle}
use Rattle.room_samples.specs.SampledRooms.{A1, A2, A3, B1, B2, Z9, overlapping_divisions}
use Rattle.room_samples.specs.SampledRooms.{two_divisions}
use Rattle.room_samples.specs.SampledSteps.{ByOneVehicle, ByWorkingRows}
use Rattle.room_model.specs.StepWords.{needs}

abbrev before_accept_is_decided : Room
before_accept_is_decided = record {
  plan = two_divisions;
  divisions = (division 1 0) ∷ (division 2 0) ∷ [];
  incidents = [];
  calls = [];
  vehicles =
      (vehicle A1 1 1 Ambulance (grid 530000 180000) Offered 40000 None 0 0)
      ∷ (vehicle A2 1 1 Ambulance (grid 531000 180000) Available 5000 None 0 0)
      ∷ (vehicle A3 1 1 Car (grid 560000 180000) OffDuty 0 None 2147483647 0) ∷ [];
  turns = [];
  assignments = [];
  points = [];
  loans = [];
  offers = (offer A1 1 2 1001 1101) ∷ [];
  reports = [];
}

accept_is_decided : ByWorkingRows 2 (ask.Accept A1) 40000 before_accept_is_decided
unfolding machine
accept_is_decided = refl

abbrev before_accept_is_decided_2 : Room
before_accept_is_decided_2 = record {
  plan = two_divisions;
  divisions = (division 1 3) ∷ (division 2 0) ∷ [];
  incidents = [];
  calls = [];
  vehicles =
      (vehicle A1 1 1 Ambulance (grid 530100 180000) Offered 2000 None 2147483647 0)
      ∷ (vehicle A2 1 1 Car (grid 530100 180100) OffDuty 0 None 0 0) ∷ [];
  turns = [];
  assignments = [];
  points = [];
  loans = [];
  offers = (offer A1 1 2 980 1080) ∷ [];
  reports = [];
}

accept_is_decided_2 : ByWorkingRows 2 (ask.Accept A1) 2001 before_accept_is_decided_2
unfolding machine
accept_is_decided_2 = refl

abbrev before_accept_no_such_offer_is_decided : Room
before_accept_no_such_offer_is_decided = record {
  plan = two_divisions;
  divisions = (division 1 3) ∷ (division 2 3) ∷ [];
  incidents = [];
  calls = [];
  vehicles =
      (vehicle A1 2 2 Ambulance (grid 531000 180000) Available 2000 None 0 0)
      ∷ (vehicle A2 1 1 Ambulance (grid 530100 180000) OffDuty 0 None 0 0) ∷ [];
  turns = [];
  assignments = [];
  points = [];
  loans = [];
  offers = [];
  reports = [];
}

accept_no_such_offer_is_decided : ByWorkingRows 1
    (ask.Accept A2) 1062 before_accept_no_such_offer_is_decided
unfolding machine
accept_no_such_offer_is_decided = refl

abbrev before_clear_no_such_exception_is_decided : Room
before_clear_no_such_exception_is_decided = record {
  plan = overlapping_divisions;
  divisions = (division 1 3) ∷ (division 7 0) ∷ [];
  incidents = [];
  calls = [];
  vehicles =
      (vehicle A1 7 7 Ambulance (grid 560200 180000) OffDuty 0 None 0 1)
      ∷ (vehicle A2 1 1 Ambulance (grid 530120 180160) Available 2000 None 0 1)
      ∷ (vehicle A3 1 1 Car (grid 530300 180400) Available 40000 None 0 0) ∷ [];
  turns = [];
  assignments = [];
  points = [];
  loans = [];
  offers = [];
  reports =
      (report A1 1 button.Return 0 (grid 530120 180160) 1963 7 Wrong OffDuty false)
      ∷ (report A2 1 button.Home 0 (grid 530120 180160) 1843 1 Normal Available false) ∷ [];
}

clear_no_such_exception_is_decided : ByWorkingRows 1
    (ask.Clear A2 1) 2565 before_clear_no_such_exception_is_decided
unfolding machine
clear_no_such_exception_is_decided = refl

abbrev before_clear_no_such_exception_is_decided_2 : Room
before_clear_no_such_exception_is_decided_2 = record {
  plan = two_divisions;
  divisions = (division 1 0) ∷ (division 2 0) ∷ [];
  incidents = [];
  calls = [];
  vehicles =
      (vehicle A1 1 1 Car (grid 530300 180400) Available 2000 None 0 2)
      ∷ (vehicle A2 1 1 Car (grid 560100 180000) Available 40000 None 0 0)
      ∷ (vehicle A3 2 2 Ambulance (grid 560100 180000) OffDuty 0 None 0 1) ∷ [];
  turns = [];
  assignments = [];
  points = [];
  loans = [];
  offers = [];
  reports =
      (report A1 2 button.Position 0 (grid 530300 180400) 1001 1 Normal Available false)
      ∷ (report A3 1 button.Return 0 (grid 530000 180000) 1302 2 Wrong OffDuty false) ∷ [];
}

clear_no_such_exception_is_decided_2 : ByWorkingRows 1
    (ask.Clear A1 2) 1368 before_clear_no_such_exception_is_decided_2
unfolding machine
clear_no_such_exception_is_decided_2 = refl

abbrev before_clear_is_decided : Room
before_clear_is_decided = record {
  plan = two_divisions;
  divisions = (division 1 2147483647) ∷ (division 2 2147483647) ∷ [];
  incidents = [];
  calls = [];
  vehicles =
      (vehicle A1 1 1 Ambulance (grid 531000 180000) Available 2000 None 0 1)
      ∷ (vehicle A2 2 2 Car (grid 531000 180000) Available 2000 None 0 0) ∷ [];
  turns = [];
  assignments = [];
  points = [];
  loans = [];
  offers = [];
  reports = (report A1 1 button.Return 0 (grid 530120 180160) 1362 1 Wrong Available false) ∷ [];
}

clear_is_decided : ByWorkingRows 1 (ask.Clear A1 1) 2066 before_clear_is_decided
unfolding machine
clear_is_decided = refl

abbrev before_close_incident_not_open_is_decided : Room
before_close_incident_not_open_is_decided = record {
  plan = two_divisions;
  divisions = (division 1 2) ∷ (division 2 1) ∷ [];
  incidents =
      (incident 1 1 (grid 530300 180400) 1 (needs 0 0 1) 1904 None Active)
      ∷ (incident 1 2 (grid 530120 180160) 1 (needs 0 0 1) 1412 None Active)
      ∷ (incident 2 1 (grid 560000 180000) 1 (needs 2 0 0) 1231 None Closed) ∷ [];
  calls =
      (call 1 4 1 2 2 true (grid 530120 180160) 3 (needs 0 0 1) [] 1412)
      ∷ (call 1 6 2 1 1 false (grid 560000 180000) 1 (needs 1 0 0) [] 1231)
      ∷ (call 2 4 1 1 1 false (grid 530300 180400) 1 (needs 0 0 1) (codes "x") 1904)
      ∷ (call 2 6 1 2 2 false (grid 530120 180160) 1 (needs 0 0 1) [] 2465) ∷ [];
  vehicles =
      (vehicle A1 1 1 Ambulance (grid 530300 180400) Available 5000 None 0 5)
      ∷ (vehicle A2 2 2 Ambulance (grid 530200 180000) Available 1671 None 0 2)
      ∷ (vehicle A3 1 1 Car (grid 530200 180000) OffDuty 0 None 0 3) ∷ [];
  turns = [];
  assignments = [];
  points = [];
  loans = [];
  offers = [];
  reports =
      (report A1 1 button.Mobile 0 (grid 530201 180000) 1186 1 Wrong Available false)
      ∷ (report A1 2 button.Hospital 0 (grid 531000 180000) 1236 1 Wrong Available false)
      ∷ (report A1 3 button.Hospital 0 (grid 530300 180400) 1884 1 Wrong Available false)
      ∷ (report A1 5 button.Home 0 (grid 530300 180400) 2471 1 Normal Available false)
      ∷ (report A2 2 button.Mobile 0 (grid 530201 180000) 2470 2 Wrong Available false)
      ∷ (report A3 2 button.Mobile 0 (grid 530120 180160) 1537 1 Wrong OffDuty false)
      ∷ (report A3 3 button.Mobile 0 (grid 530000 180000) 2465 1 Wrong OffDuty false) ∷ [];
}

close_incident_not_open_is_decided : ByWorkingRows 2
    (ask.Close 1) 2633 before_close_incident_not_open_is_decided
unfolding machine
close_incident_not_open_is_decided = refl

abbrev before_close_still_assigned_is_decided : Room
before_close_still_assigned_is_decided = record {
  plan = two_divisions;
  divisions = (division 1 1) ∷ (division 2 0) ∷ [];
  incidents = (incident 1 1 (grid 530200 180000) 2 (needs 1 0 0) 1878 (Some 2059) Active) ∷ [];
  calls = (call 2 2 1 1 1 false (grid 530200 180000) 2 (needs 1 0 0) (codes "x") 1878) ∷ [];
  vehicles =
      (vehicle A1 1 1 Ambulance (grid 530100 180100) OffDuty 5030 None 0 0)
      ∷ (vehicle A2 1 1 Ambulance (grid 560100 180000) Mobilised 5000 None 1 0)
      ∷ (vehicle A3 2 2 Support (grid 530100 180000) Available 40000 None 0 1)
      ∷ (vehicle B1 2 2 Ambulance (grid 530100 180100) OffDuty 0 None 0 0) ∷ [];
  turns = (turn A2 1 1 1 Ambulance 2059 None None None None None false) ∷ [];
  assignments = (assignment A2 1 1 1 (grid 530200 180000) 2) ∷ [];
  points = [];
  loans = [];
  offers = [];
  reports = (report A3 1 button.Home 0 (grid 530100 180000) 2059 2 Normal Available false) ∷ [];
}

close_still_assigned_is_decided : ByWorkingRows 1
    (ask.Close 1) 2186 before_close_still_assigned_is_decided
unfolding machine
close_still_assigned_is_decided = refl

abbrev before_close_is_decided : Room
before_close_is_decided = record {
  plan = two_divisions;
  divisions = (division 1 1) ∷ (division 2 0) ∷ [];
  incidents = (incident 1 1 (grid 530100 180100) 1 (needs 0 1 0) 1481 None Active) ∷ [];
  calls = (call 2 3 1 1 1 false (grid 530100 180100) 1 (needs 0 1 0) [] 1481) ∷ [];
  vehicles =
      (vehicle A1 2 2 Support (grid 530100 180100) Available 2000 None 0 0)
      ∷ (vehicle A2 2 2 Support (grid 530100 180100) Available 5000 None 2147483647 0) ∷ [];
  turns = [];
  assignments = [];
  points = [];
  loans = [];
  offers = [];
  reports = [];
}

close_is_decided : ByWorkingRows 1 (ask.Close 1) 1482 before_close_is_decided
unfolding machine
close_is_decided = refl

abbrev before_decline_is_decided : Room
before_decline_is_decided = record {
  plan = overlapping_divisions;
  divisions = (division 1 2147483647) ∷ (division 7 2147483646) ∷ [];
  incidents = [];
  calls = [];
  vehicles =
      (vehicle A1 1 1 Ambulance (grid 560000 180000) OffDuty 0 None 0 0)
      ∷ (vehicle A2 7 7 Ambulance (grid 530120 180160) Offered 2000 None 0 1) ∷ [];
  turns = [];
  assignments = [];
  points = (point 1 1 (grid 530100 180100) 2) ∷ (point 7 1 (grid 530000 180000) 1) ∷ [];
  loans = [];
  offers = (offer A2 7 1 1993 2993) ∷ [];
  reports = (report A2 1 button.Position 0 (grid 530120 180160) 2299 7 Normal Offered false) ∷ [];
}

decline_is_decided : ByWorkingRows 1 (ask.Decline A2) 2480 before_decline_is_decided
unfolding machine
decline_is_decided = refl

abbrev before_decline_no_such_offer_is_decided : Room
before_decline_no_such_offer_is_decided = record {
  plan = two_divisions;
  divisions = (division 1 0) ∷ (division 2 0) ∷ [];
  incidents = [];
  calls = [];
  vehicles =
      (vehicle A1 2 2 Support (grid 560200 180000) OffDuty 0 None 0 0)
      ∷ (vehicle A2 2 2 Car (grid 530201 180000) OffDuty 0 None 0 0) ∷ [];
  turns = [];
  assignments = [];
  points = [];
  loans = [];
  offers = [];
  reports = [];
}

decline_no_such_offer_is_decided : ByWorkingRows 2
    (ask.Decline A2) 1005 before_decline_no_such_offer_is_decided
unfolding machine
decline_no_such_offer_is_decided = refl

abbrev before_duty_wrong_status_is_decided : Room
before_duty_wrong_status_is_decided = record {
  plan = two_divisions;
  divisions = (division 1 2) ∷ (division 2 0) ∷ [];
  incidents =
      (incident 1 1 (grid 530120 180160) 2 (needs 0 1 0) 1427 None Closed)
      ∷ (incident 1 2 (grid 530100 180000) 2 (needs 0 1 0) 1608 (Some 2006) Active) ∷ [];
  calls =
      (call 1 1 1 1 1 false (grid 530120 180160) 2 (needs 1 1 0) [] 1427)
      ∷ (call 1 2 1 2 2 false (grid 530100 180000) 2 (needs 0 1 0) [] 1608) ∷ [];
  vehicles =
      (vehicle A1 1 1 Ambulance (grid 560200 180000) Available 40000 None 0 1)
      ∷ (vehicle A2 1 1 Car (grid 530120 180160) AtHospital 5000 None 1 1)
      ∷ (vehicle A3 1 1 Car (grid 530100 180000) Available 1368 None 0 1)
      ∷ (vehicle B1 2 2 Support (grid 530200 180000) Available 2000 None 0 3) ∷ [];
  turns = (turn A2 1 1 2 Car 2006 None None None (Some 3031) None false) ∷ [];
  assignments = (assignment A2 1 2 1 (grid 530100 180000) 2) ∷ [];
  points = [];
  loans = [];
  offers = [];
  reports =
      (report A1 1 button.Mobile 0 (grid 531000 180000) 1247 1 Wrong Available false)
      ∷ (report A2 1 button.Hospital 1 (grid 530120 180160) 3031 1 Skipped AtHospital false)
      ∷ (report A3 1 button.Mobile 0 (grid 530200 180000) 1856 1 Wrong Available false)
      ∷ (report B1 1 button.Mobile 0 (grid 530100 180000) 1242 2 Wrong Available false)
      ∷ (report B1 2 button.Home 0 (grid 530200 180000) 1856 2 Normal Available false)
      ∷ (report B1 3 button.Scene 0 (grid 530100 180100) 2788 2 Wrong Available false) ∷ [];
}

duty_wrong_status_is_decided : ByWorkingRows 1
    (ask.Duty A2 (grid 530201 180000) 3012) 3011 before_duty_wrong_status_is_decided
unfolding machine
duty_wrong_status_is_decided = refl

abbrev before_duty_wrong_status_is_decided_2 : Room
before_duty_wrong_status_is_decided_2 = record {
  plan = two_divisions;
  divisions = (division 1 1) ∷ (division 2 4) ∷ [];
  incidents =
      (incident 1 1 (grid 530000 180000) 2 (needs 0 0 1) 1397 (Some 5298) Active)
      ∷ (incident 2 4 (grid 560100 180000) 3 (needs 1 0 0) 1698 None Active) ∷ [];
  calls =
      (call 2 3 2 4 4 false (grid 560100 180000) 3 (needs 1 0 0) [] 1698)
      ∷ (call 2 4 1 1 1 false (grid 530000 180000) 2 (needs 0 0 1) [] 1397) ∷ [];
  vehicles =
      (vehicle A1 1 1 Ambulance (grid 560000 180000) Available 5000 None 0 0)
      ∷ (vehicle A2 1 1 Ambulance (grid 560100 180000) Available 5000 None 0 0)
      ∷ (vehicle A3 2 2 Support (grid 530000 180000) OffDuty 0 None 0 1)
      ∷ (vehicle B1 1 1 Support (grid 530100 180100) AtScene 40000 None 1 2) ∷ [];
  turns = (turn B1 1 1 1 Support 5298 None (Some 1708) None None None false) ∷ [];
  assignments = (assignment B1 1 1 1 (grid 530000 180000) 2) ∷ [];
  points = [];
  loans = [];
  offers = [];
  reports =
      (report A3 1 button.Home 0 (grid 530300 180400) 1030 2 Wrong OffDuty false)
      ∷ (report B1 2 button.Scene 1 (grid 530100 180100) 1708 1 Skipped AtScene false) ∷ [];
}

duty_wrong_status_is_decided_2 : ByWorkingRows 1
    (ask.Duty B1 (grid 530120 180160) 41828) 1828 before_duty_wrong_status_is_decided_2
unfolding machine
duty_wrong_status_is_decided_2 = refl

abbrev before_duty_is_decided : Room
before_duty_is_decided = record {
  plan = two_divisions;
  divisions = (division 1 0) ∷ (division 2 0) ∷ [];
  incidents = [];
  calls = [];
  vehicles =
      (vehicle A1 1 1 Ambulance (grid 530100 180000) OffDuty 0 None 0 0)
      ∷ (vehicle A2 2 2 Ambulance (grid 530201 180000) OffDuty 0 None 0 0) ∷ [];
  turns = [];
  assignments = [];
  points = [];
  loans = [];
  offers = [];
  reports = [];
}

duty_is_decided : ByWorkingRows 1
    (ask.Duty A1 (grid 530120 180160) 41482) 1482 before_duty_is_decided
unfolding machine
duty_is_decided = refl

abbrev before_give_back_is_decided : Room
before_give_back_is_decided = record {
  plan = two_divisions;
  divisions = (division 1 6) ∷ (division 2 2) ∷ [];
  incidents =
      (incident 1 4 (grid 530100 180000) 2 (needs 1 0 0) 985 None Active)
      ∷ (incident 1 5 (grid 530300 180400) 2 (needs 0 1 0) 3624 None Active)
      ∷ (incident 1 6 (grid 530100 180000) 2 (needs 2 0 0) 5138 None Active)
      ∷ (incident 2 1 (grid 560100 180000) 1 (needs 2 1 1) 1839 (Some 4465) Active)
      ∷ (incident 2 2 (grid 560100 180000) 2 (needs 2 0 0) 6325 None Active) ∷ [];
  calls =
      (call 1 2 2 2 2 false (grid 560100 180000) 2 (needs 2 0 0) [] 6325)
      ∷ (call 1 3 1 6 6 false (grid 530100 180000) 2 (needs 2 0 0) [] 5138)
      ∷ (call 1 4 1 5 5 false (grid 530300 180400) 2 (needs 0 1 0) (codes "x") 3624)
      ∷ (call 1 6 2 1 1 false (grid 560100 180000) 1 (needs 2 1 1) [] 1839)
      ∷ (call 2 3 1 4 4 false (grid 530100 180000) 2 (needs 1 0 0) [] 985)
      ∷ (call 2 5 2 1 1 true (grid 560100 180000) 1 (needs 1 0 0) [] 2739) ∷ [];
  vehicles =
      (vehicle A1 1 2 Car (grid 560100 180000) Available 40000 (Some 2) 0 2)
      ∷ (vehicle A2 1 1 Support (grid 530120 180160) Available 5259 None 0 3)
      ∷ (vehicle A3 2 2 Support (grid 530200 180000) Mobilised 5000 None 1 1) ∷ [];
  turns = (turn A3 1 2 1 Support 4465 None None None None None false) ∷ [];
  assignments = (assignment A3 2 1 1 (grid 560100 180000) 1) ∷ [];
  points =
      (point 1 1 (grid 530120 180160) 1) ∷ (point 1 2 (grid 530100 180000) 1) ∷ (point 2 2 (grid 530120 180160) 2)
      ∷ [];
  loans = (loan A1 1 2 1327 1146 true) ∷ [];
  offers = [];
  reports =
      (report A1 1 button.Return 0 (grid 530100 180100) 1347 1 Wrong Offered true)
      ∷ (report A1 2 button.Return 0 (grid 530200 180000) 3771 2 Wrong Available false)
      ∷ (report A2 1 button.Mobile 0 (grid 530100 180000) 3685 1 Wrong OffDuty true)
      ∷ (report A2 2 button.Scene 0 (grid 530000 180000) 1146 1 Wrong OffDuty false)
      ∷ (report A2 3 button.Leave 0 (grid 530200 180000) 3671 1 Wrong OffDuty false)
      ∷ (report A3 1 button.Position 0 (grid 530200 180000) 1146 2 Normal Available false) ∷ [];
}

give_back_is_decided : ByWorkingRows 2 (ask.GiveBack A1) 6386 before_give_back_is_decided
unfolding machine
give_back_is_decided = refl

abbrev before_give_back_is_decided_2 : Room
before_give_back_is_decided_2 = record {
  plan = two_divisions;
  divisions = (division 1 2) ∷ (division 2 2) ∷ [];
  incidents =
      (incident 1 1 (grid 530100 180100) 2 (needs 2 1 1) 1181 None (Merged 2))
      ∷ (incident 1 2 (grid 530200 180000) 1 (needs 2 1 1) 1181 None Active)
      ∷ (incident 2 1 (grid 560200 180000) 2 (needs 1 1 0) 2021 None Active)
      ∷ (incident 2 2 (grid 560000 180000) 1 (needs 1 0 0) 5920 None Active) ∷ [];
  calls =
      (call 1 3 1 2 1 false (grid 530100 180100) 2 (needs 0 0 1) [] 1181)
      ∷ (call 1 4 1 2 1 true (grid 530100 180000) 2 (needs 2 1 1) [] 2021)
      ∷ (call 2 1 2 1 1 false (grid 560200 180000) 2 (needs 1 1 0) [] 2021)
      ∷ (call 2 3 2 2 2 false (grid 560000 180000) 1 (needs 1 0 0) [] 5920)
      ∷ (call 2 5 1 2 2 true (grid 530201 180000) 1 (needs 0 0 1) (codes "x") 2382)
      ∷ (call 2 6 1 2 2 false (grid 530200 180000) 2 (needs 0 1 0) (codes "x") 2202) ∷ [];
  vehicles =
      (vehicle A1 1 1 Ambulance (grid 530201 180000) Available 4664 (Some 2) 0 3)
      ∷ (vehicle A2 1 2 Ambulance (grid 560100 180000) Available 40000 (Some 1) 0 1)
      ∷ (vehicle A3 2 2 Ambulance (grid 530100 180100) Available 2000 None 0 3)
      ∷ (vehicle B1 1 1 Car (grid 530000 180000) Available 8252 (Some 2) 0 1)
      ∷ (vehicle B2 2 2 Support (grid 530300 180400) Offered 2000 None 0 0) ∷ [];
  turns = [];
  assignments = [];
  points = (point 1 2 (grid 531000 180000) 2) ∷ (point 2 1 (grid 530201 180000) 1) ∷ [];
  loans = (loan A2 1 2 5340 8353 false) ∷ [];
  offers = (offer B2 2 1 1662 2662) ∷ [];
  reports =
      (report A1 1 button.Scene 0 (grid 530300 180400) 1663 1 Wrong OffDuty true)
      ∷ (report A1 2 button.Mobile 0 (grid 530000 180000) 2697 1 Wrong OffDuty false)
      ∷ (report A1 3 button.Hospital 0 (grid 530100 180000) 4658 1 Wrong OffDuty false)
      ∷ (report A2 1 button.Scene 0 (grid 530100 180000) 5709 2 Wrong Available false)
      ∷ (report A3 1 button.Scene 0 (grid 530100 180000) 4477 2 Wrong Available false)
      ∷ (report A3 3 button.Return 0 (grid 531000 180000) 5129 2 Wrong Available false)
      ∷ (report B1 1 button.Home 0 (grid 530000 180000) 5346 1 Normal Available false) ∷ [];
}

give_back_is_decided_2 : ByWorkingRows 2 (ask.GiveBack A2) 5981 before_give_back_is_decided_2
unfolding machine
give_back_is_decided_2 = refl

abbrev before_give_back_still_assigned_is_decided : Room
before_give_back_still_assigned_is_decided = record {
  plan = two_divisions;
  divisions = (division 1 1) ∷ (division 2 0) ∷ [];
  incidents = (incident 1 1 (grid 530100 180100) 2 (needs 2 1 1) 2112 (Some 3715) Active) ∷ [];
  calls =
      (call 2 3 1 1 1 false (grid 530100 180100) 2 (needs 2 1 1) [] 2112)
      ∷ (call 2 5 1 1 1 true (grid 530100 180000) 2 (needs 0 1 0) [] 2564) ∷ [];
  vehicles =
      (vehicle A1 1 1 Ambulance (grid 530100 180100) OffDuty 0 None 0 1)
      ∷ (vehicle A2 2 1 Car (grid 530201 180000) Mobilised 40000 None 1 3)
      ∷ (vehicle A3 2 2 Ambulance (grid 531000 180000) Available 3655 None 0 0) ∷ [];
  turns = (turn A2 1 1 1 Car 3715 None None None None None false) ∷ [];
  assignments = (assignment A2 1 1 1 (grid 530100 180100) 2) ∷ [];
  points = [];
  loans = (loan A2 2 1 40000 2903 false) ∷ [];
  offers = [];
  reports =
      (report A1 1 button.Hospital 0 (grid 530200 180000) 1579 1 Wrong OffDuty false)
      ∷ (report A2 1 button.Return 0 (grid 530201 180000) 1030 2 Wrong Available false)
      ∷ (report A2 2 button.Hospital 0 (grid 530300 180400) 2232 2 Late Available false)
      ∷ (report A2 3 button.Hospital 0 (grid 530200 180000) 1298 2 Wrong Available false) ∷ [];
}

give_back_still_assigned_is_decided : ByWorkingRows 1
    (ask.GiveBack A2) 4016 before_give_back_still_assigned_is_decided
unfolding machine
give_back_still_assigned_is_decided = refl

abbrev before_give_back_vehicle_lent_is_decided : Room
before_give_back_vehicle_lent_is_decided = record {
  plan = two_divisions;
  divisions = (division 1 3) ∷ (division 2 0) ∷ [];
  incidents = [];
  calls = [];
  vehicles =
      (vehicle A1 1 1 Car (grid 530201 180000) OffDuty 0 None 0 0)
      ∷ (vehicle A2 2 1 Ambulance (grid 530200 180000) Available 5000 None 0 0)
      ∷ (vehicle A3 1 1 Ambulance (grid 560100 180000) Available 5000 None 0 0) ∷ [];
  turns = [];
  assignments = [];
  points = [];
  loans = (loan A2 2 1 1697 2092 false) ∷ [];
  offers = [];
  reports = [];
}

give_back_vehicle_lent_is_decided : ByWorkingRows 2
    (ask.GiveBack A2) 1677 before_give_back_vehicle_lent_is_decided
unfolding machine
give_back_vehicle_lent_is_decided = refl

abbrev before_incidents_3_is_decided : Room
before_incidents_3_is_decided = record {
  plan = two_divisions;
  divisions = (division 1 3) ∷ (division 2 0) ∷ [];
  incidents =
      (incident 1 1 (grid 530100 180100) 2 (needs 2 1 1) 1693 (Some 1874) Active)
      ∷ (incident 1 2 (grid 531000 180000) 3 (needs 2 0 0) 2547 None Active)
      ∷ (incident 1 3 (grid 530200 180000) 2 (needs 1 0 0) 3480 None Active) ∷ [];
  calls =
      (call 1 1 1 1 1 true (grid 530201 180000) 2 (needs 1 0 0) [] 2593)
      ∷ (call 1 3 1 1 1 true (grid 530100 180100) 2 (needs 2 1 1) (codes "x") 2366)
      ∷ (call 1 4 1 3 3 false (grid 530200 180000) 2 (needs 1 0 0) [] 3480)
      ∷ (call 1 6 1 2 2 false (grid 531000 180000) 3 (needs 2 0 0) [] 2547)
      ∷ (call 2 5 1 1 1 false (grid 530100 180100) 3 (needs 2 1 1) (codes "x") 1693) ∷ [];
  vehicles =
      (vehicle A1 2 2 Ambulance (grid 530201 180000) Available 40000 None 0 0)
      ∷ (vehicle A2 2 2 Car (grid 530100 180000) Available 5000 None 0 1)
      ∷ (vehicle A3 1 1 Support (grid 530100 180100) Offered 40000 None 1 3)
      ∷ (vehicle B1 2 2 Ambulance (grid 560000 180000) Available 2000 None 0 0)
      ∷ (vehicle B2 1 1 Ambulance (grid 560100 180000) OffDuty 0 None 0 0) ∷ [];
  turns = (turn A3 1 1 1 Support 1874 None None None (Some 2999) (Some 3600) false) ∷ [];
  assignments = [];
  points = [];
  loans = [];
  offers = (offer A3 1 2 3902 3902) ∷ [];
  reports =
      (report A2 1 button.Return 0 (grid 530000 180000) 3601 2 Wrong Available false)
      ∷ (report A3 1 button.Hospital 1 (grid 530201 180000) 2999 1 Skipped AtHospital false)
      ∷ (report A3 3 button.Return 1 (grid 530100 180100) 3600 1 Normal Returning false) ∷ [];
}

incidents_3_is_decided : ByWorkingRows 1 ask.Incidents 4022 before_incidents_3_is_decided
unfolding machine
incidents_3_is_decided = refl

abbrev before_incidents_1_is_decided : Room
before_incidents_1_is_decided = record {
  plan = two_divisions;
  divisions = (division 1 2147483647) ∷ (division 2 2147483647) ∷ [];
  incidents = (incident 1 2147483647 (grid 530100 180100) 1 (needs 1 0 0) 1362 (Some 1524) Active) ∷ [];
  calls =
      (call 1 2 1 2147483647 2147483647 true (grid 530100 180000) 1 (needs 1 0 0) [] 2203)
      ∷ (call 1 3 1 2147483647 2147483647 false (grid 530100 180100) 2 (needs 1 0 0) (codes "x") 1362) ∷ [];
  vehicles =
      (vehicle A1 2 2 Car (grid 530200 180000) Available 40000 None 0 2)
      ∷ (vehicle A2 1 1 Ambulance (grid 530120 180160) Returning 2000 None 1 4)
      ∷ (vehicle A3 2 2 Car (grid 530300 180400) OffDuty 40000 None 0 1) ∷ [];
  turns = (turn A2 1 1 2147483647 Ambulance 1524 None (Some 2792) None None (Some 2782) false) ∷ [];
  assignments = [];
  points = (point 1 1 (grid 530201 180000) 1) ∷ (point 2 2 (grid 530000 180000) 2) ∷ [];
  loans = [];
  offers = [];
  reports =
      (report A1 1 button.Return 0 (grid 530100 180000) 2486 2 Wrong Available true)
      ∷ (report A1 2 button.Return 0 (grid 530201 180000) 3774 2 Wrong Available true)
      ∷ (report A2 1 button.Scene 1 (grid 530300 180400) 2792 1 Skipped AtScene true)
      ∷ (report A2 2 button.Scene 1 (grid 530100 180000) 2802 1 Normal AtScene false)
      ∷ (report A2 3 button.Return 1 (grid 530100 180000) 3243 1 Late Returning true)
      ∷ (report A2 4 button.Return 1 (grid 530120 180160) 2782 1 Normal Returning false)
      ∷ (report A3 1 button.Home 0 (grid 530300 180400) 3373 2 Normal Available false) ∷ [];
}

incidents_1_is_decided : ByWorkingRows 1 ask.Incidents 5369 before_incidents_1_is_decided
unfolding machine
incidents_1_is_decided = refl

abbrev before_lend_vehicle_lent_is_decided : Room
before_lend_vehicle_lent_is_decided = record {
  plan = two_divisions;
  divisions = (division 1 4) ∷ (division 2 3) ∷ [];
  incidents =
      (incident 1 1 (grid 530120 180160) 1 (needs 1 1 0) 2471 None Active)
      ∷ (incident 1 2 (grid 530300 180400) 2 (needs 1 0 0) 2951 None Active)
      ∷ (incident 1 3 (grid 530201 180000) 2 (needs 2 1 1) 4181 None Active)
      ∷ (incident 1 4 (grid 531000 180000) 2 (needs 1 1 0) 5081 None Active) ∷ [];
  calls =
      (call 1 3 1 3 3 false (grid 530201 180000) 2 (needs 2 1 1) (codes "x") 4181)
      ∷ (call 1 4 1 2 2 false (grid 530300 180400) 2 (needs 1 0 0) [] 2951)
      ∷ (call 1 5 1 1 1 false (grid 530120 180160) 2 (needs 1 0 0) [] 2471)
      ∷ (call 1 6 1 1 1 true (grid 530120 180160) 1 (needs 0 1 0) [] 3132)
      ∷ (call 2 2 1 4 4 false (grid 531000 180000) 2 (needs 1 1 0) [] 5081)
      ∷ (call 2 4 1 1 1 true (grid 530200 180000) 1 (needs 1 0 0) (codes "x") 2651) ∷ [];
  vehicles =
      (vehicle A1 1 1 Support (grid 530100 180000) Offered 40000 None 0 6)
      ∷ (vehicle A2 2 1 Support (grid 560200 180000) OffDuty 5000 None 0 6) ∷ [];
  turns = [];
  assignments = [];
  points = (point 2 2 (grid 530201 180000) 1) ∷ [];
  loans = (loan A2 2 1 40000 4628 false) ∷ [];
  offers = (offer A1 1 2 5342 5742) ∷ [];
  reports =
      (report A1 1 button.Home 0 (grid 530000 180000) 1481 1 Normal Available false)
      ∷ (report A1 2 button.Home 0 (grid 530000 180000) 2024 1 Normal Available false)
      ∷ (report A1 3 button.Scene 0 (grid 530300 180400) 2205 1 Wrong Available false)
      ∷ (report A1 4 button.Hospital 0 (grid 531000 180000) 2351 1 Late Available false)
      ∷ (report A1 5 button.Home 0 (grid 530100 180000) 2366 1 Normal Available false)
      ∷ (report A1 6 button.Mobile 0 (grid 530100 180100) 3433 1 Wrong Available true)
      ∷ (report A2 1 button.Scene 0 (grid 530300 180400) 1662 2 Wrong Available false)
      ∷ (report A2 3 button.Mobile 0 (grid 530201 180000) 2471 2 Wrong Available true)
      ∷ (report A2 5 button.Scene 0 (grid 530200 180000) 4120 1 Wrong Available false)
      ∷ (report A2 6 button.Home 0 (grid 530300 180400) 4675 1 Wrong OffDuty false) ∷ [];
}

lend_vehicle_lent_is_decided : ByWorkingRows 2
    (ask.Lend A2 1 5999) 4999 before_lend_vehicle_lent_is_decided
unfolding machine
lend_vehicle_lent_is_decided = refl

abbrev before_lend_no_such_division_is_decided : Room
before_lend_no_such_division_is_decided = record {
  plan = overlapping_divisions;
  divisions = (division 1 5) ∷ (division 7 4) ∷ [];
  incidents =
      (incident 1 4 (grid 531000 180000) 2 (needs 0 1 0) 1643 None Active)
      ∷ (incident 1 5 (grid 530100 180000) 3 (needs 0 1 0) 2093 None Active)
      ∷ (incident 7 4 (grid 530000 180000) 1 (needs 1 1 0) 1613 (Some 1793) Active) ∷ [];
  calls =
      (call 1 1 7 4 4 false (grid 530000 180000) 1 (needs 1 0 0) (codes "x") 1613)
      ∷ (call 2 2 1 4 4 false (grid 531000 180000) 2 (needs 0 1 0) [] 1643)
      ∷ (call 2 3 7 4 4 true (grid 530000 180000) 2 (needs 0 1 0) [] 1793)
      ∷ (call 2 5 1 5 5 false (grid 530100 180000) 3 (needs 0 1 0) [] 2093) ∷ [];
  vehicles =
      (vehicle A1 7 7 Ambulance (grid 530200 180000) AtScene 5000 None 1 1)
      ∷ (vehicle A2 7 7 Ambulance (grid 530300 180400) Available 6165 None 0 2)
      ∷ (vehicle A3 1 1 Support (grid 560200 180000) OffDuty 0 None 0 3)
      ∷ (vehicle B1 1 1 Ambulance (grid 560200 180000) OffDuty 0 None 0 3)
      ∷ (vehicle B2 1 1 Support (grid 530120 180160) Available 5000 None 0 3) ∷ [];
  turns = (turn A1 1 7 4 Ambulance 1793 None (Some 2467) None None None false) ∷ [];
  assignments = (assignment A1 7 4 1 (grid 530000 180000) 1) ∷ [];
  points = (point 1 1 (grid 530300 180400) 1) ∷ [];
  loans = [];
  offers = [];
  reports =
      (report A1 1 button.Scene 1 (grid 530200 180000) 2467 7 Skipped AtScene false)
      ∷ (report A2 2 button.Position 0 (grid 530100 180000) 1402 7 Wrong OffDuty false)
      ∷ (report A3 1 button.Position 0 (grid 530200 180000) 1361 1 Wrong OffDuty true)
      ∷ (report A3 3 button.Leave 0 (grid 530000 180000) 1341 1 Wrong OffDuty false)
      ∷ (report B1 1 button.Return 0 (grid 531000 180000) 2159 1 Wrong OffDuty false)
      ∷ (report B1 3 button.Position 0 (grid 530300 180400) 2472 1 Wrong OffDuty false)
      ∷ (report B2 1 button.Mobile 0 (grid 531000 180000) 1180 1 Wrong Available false)
      ∷ (report B2 3 button.Position 0 (grid 530120 180160) 1361 1 Normal Available false) ∷ [];
}

lend_no_such_division_is_decided : ByWorkingRows 7
    (ask.Lend A1 7 3053) 2653 before_lend_no_such_division_is_decided
unfolding machine
lend_no_such_division_is_decided = refl

abbrev before_lend_is_decided : Room
before_lend_is_decided = record {
  plan = two_divisions;
  divisions = (division 1 1) ∷ (division 2 0) ∷ [];
  incidents = (incident 1 1 (grid 530120 180160) 2 (needs 2 0 0) 1040 (Some 1402) Active) ∷ [];
  calls = (call 2 4 1 1 1 false (grid 530120 180160) 2 (needs 2 0 0) [] 1040) ∷ [];
  vehicles =
      (vehicle A1 1 1 Ambulance (grid 530100 180000) Returning 5000 None 1 3)
      ∷ (vehicle A2 1 1 Ambulance (grid 530100 180000) OffDuty 0 None 0 0)
      ∷ (vehicle A3 2 2 Ambulance (grid 560000 180000) Available 2000 None 0 1)
      ∷ (vehicle B1 1 1 Car (grid 560200 180000) OffDuty 0 None 0 0) ∷ [];
  turns = (turn A1 1 1 1 Ambulance 1402 None None None None (Some 1574) false) ∷ [];
  assignments = [];
  points = (point 1 2 (grid 530201 180000) 1) ∷ [];
  loans = [];
  offers = [];
  reports =
      (report A1 1 button.Leave 0 (grid 530200 180000) 1040 1 Wrong Available true)
      ∷ (report A1 3 button.Return 1 (grid 530100 180000) 1574 1 Skipped Returning false)
      ∷ (report A3 1 button.Leave 0 (grid 530000 180000) 1341 2 Wrong Available false) ∷ [];
}

lend_is_decided : ByWorkingRows 1 (ask.Lend A1 2 1824) 1724 before_lend_is_decided
unfolding machine
lend_is_decided = refl

abbrev before_lend_is_decided_2 : Room
before_lend_is_decided_2 = record {
  plan = two_divisions;
  divisions = (division 1 0) ∷ (division 2 3) ∷ [];
  incidents = [];
  calls = [];
  vehicles =
      (vehicle A1 2 2 Support (grid 530200 180000) Available 40000 (Some 2) 0 0)
      ∷ (vehicle A2 1 1 Ambulance (grid 530200 180000) Available 41186 None 0 1)
      ∷ (vehicle A3 1 1 Ambulance (grid 530100 180000) Available 40000 None 0 2) ∷ [];
  turns = [];
  assignments = [];
  points = (point 2 2 (grid 530120 180160) 0) ∷ [];
  loans = [];
  offers = [];
  reports =
      (report A2 1 button.Position 0 (grid 530200 180000) 1793 1 Normal Available false)
      ∷ (report A3 1 button.Hospital 0 (grid 530100 180000) 1612 1 Wrong Available false)
      ∷ (report A3 2 button.Leave 0 (grid 531000 180000) 2280 1 Wrong Available false) ∷ [];
}

lend_is_decided_2 : ByWorkingRows 2 (ask.Lend A1 1 2430) 2430 before_lend_is_decided_2
unfolding machine
lend_is_decided_2 = refl

abbrev before_loans_2_is_decided : Room
before_loans_2_is_decided = record {
  plan = two_divisions;
  divisions = (division 1 2) ∷ (division 2 0) ∷ [];
  incidents =
      (incident 1 1 (grid 530300 180400) 2 (needs 2 1 1) 1417 None Active)
      ∷ (incident 1 2 (grid 530120 180160) 2 (needs 2 1 1) 2953 None Active) ∷ [];
  calls =
      (call 1 4 1 1 1 false (grid 530300 180400) 2 (needs 2 1 1) [] 1417)
      ∷ (call 2 1 1 2 2 false (grid 530120 180160) 2 (needs 2 1 1) [] 2953) ∷ [];
  vehicles =
      (vehicle A1 2 1 Ambulance (grid 530100 180100) Available 2699 None 0 2)
      ∷ (vehicle A2 1 1 Ambulance (grid 530201 180000) Available 40000 None 0 1)
      ∷ (vehicle A3 2 2 Ambulance (grid 530201 180000) Available 2000 None 0 2)
      ∷ (vehicle B1 2 1 Ambulance (grid 531000 180000) Available 5000 None 0 2) ∷ [];
  turns = [];
  assignments = [];
  points = [];
  loans = (loan A1 2 1 3554 2752 false) ∷ (loan B1 2 1 4188 4066 false) ∷ [];
  offers = [];
  reports =
      (report A1 1 button.Position 0 (grid 530201 180000) 1031 2 Normal Available false)
      ∷ (report A1 2 button.Scene 0 (grid 530120 180160) 1452 2 Wrong Available false)
      ∷ (report A2 1 button.Hospital 0 (grid 530100 180100) 4127 1 Wrong Available false)
      ∷ (report A3 1 button.Position 0 (grid 530100 180100) 3434 2 Normal Available false)
      ∷ (report A3 2 button.Position 0 (grid 530201 180000) 3584 2 Normal Available false)
      ∷ (report B1 2 button.Hospital 0 (grid 530200 180000) 2591 2 Wrong Available false) ∷ [];
}

loans_2_is_decided : ByWorkingRows 2 ask.Loans 4229 before_loans_2_is_decided
unfolding machine
loans_2_is_decided = refl

abbrev before_loans_1_is_decided : Room
before_loans_1_is_decided = record {
  plan = two_divisions;
  divisions = (division 1 0) ∷ (division 2 0) ∷ [];
  incidents = [];
  calls = [];
  vehicles =
      (vehicle A1 1 1 Ambulance (grid 560100 180000) OffDuty 0 None 0 1)
      ∷ (vehicle A2 1 1 Ambulance (grid 530100 180000) OffDuty 5000 None 0 0)
      ∷ (vehicle A3 1 2 Ambulance (grid 530100 180100) Available 40000 None 0 0) ∷ [];
  turns = [];
  assignments = [];
  points = [];
  loans = (loan A3 1 2 1042 40099 false) ∷ [];
  offers = [];
  reports = (report A1 1 button.Return 0 (grid 530100 180100) 40099 1 Wrong OffDuty false) ∷ [];
}

loans_1_is_decided : ByWorkingRows 2 ask.Loans 2005 before_loans_1_is_decided
unfolding machine
loans_1_is_decided = refl

abbrev before_merge_is_decided : Room
before_merge_is_decided = record {
  plan = two_divisions;
  divisions = (division 1 5) ∷ (division 2 1) ∷ [];
  incidents =
      (incident 1 1 (grid 530100 180100) 2 (needs 1 0 1) 1301 (Some 2911) Active)
      ∷ (incident 1 2 (grid 531000 180000) 2 (needs 1 0 1) 1331 (Some 3436) Active)
      ∷ (incident 1 3 (grid 530200 180000) 3 (needs 0 0 1) 4902 None Active)
      ∷ (incident 1 4 (grid 530300 180400) 2 (needs 1 0 0) 8502 None (Merged 2))
      ∷ (incident 1 5 (grid 530200 180000) 2 (needs 0 0 1) 9343 None Active)
      ∷ (incident 2 1 (grid 560200 180000) 3 (needs 1 0 0) 1511 None Active) ∷ [];
  calls =
      (call 1 2 1 5 5 false (grid 530200 180000) 2 (needs 0 0 1) (codes "x") 9343)
      ∷ (call 1 3 1 3 3 false (grid 530200 180000) 3 (needs 0 0 1) [] 4902)
      ∷ (call 1 4 1 2 4 false (grid 530300 180400) 2 (needs 1 0 0) (codes "x") 8502)
      ∷ (call 1 6 1 2 2 false (grid 531000 180000) 2 (needs 0 0 1) (codes "x") 1331)
      ∷ (call 2 1 2 1 1 false (grid 560200 180000) 3 (needs 1 0 0) [] 1511)
      ∷ (call 2 3 1 1 1 true (grid 530100 180100) 2 (needs 1 0 0) [] 1714)
      ∷ (call 2 4 1 1 1 false (grid 530100 180100) 3 (needs 0 0 1) [] 1301) ∷ [];
  vehicles =
      (vehicle A1 2 2 Support (grid 530000 180000) Available 2000 None 0 2)
      ∷ (vehicle A2 1 1 Ambulance (grid 531000 180000) Mobilised 40000 None 2 4)
      ∷ (vehicle A3 2 2 Ambulance (grid 530200 180000) OffDuty 0 None 0 1) ∷ [];
  turns =
      (turn A2 1 1 1 Ambulance 2911 None None None None (Some 3213) false)
      ∷ (turn A2 2 1 2 Ambulance 3436 (Some 4218) None None None None false) ∷ [];
  assignments = (assignment A2 1 2 2 (grid 531000 180000) 2) ∷ [];
  points = (point 2 1 (grid 530100 180100) 1) ∷ [];
  loans = [];
  offers = [];
  reports =
      (report A1 1 button.Home 0 (grid 530000 180000) 2671 2 Normal Available false)
      ∷ (report A1 2 button.Return 0 (grid 530300 180400) 3315 2 Wrong Available false)
      ∷ (report A2 1 button.Mobile 0 (grid 530201 180000) 3345 1 Late Available false)
      ∷ (report A2 2 button.Home 0 (grid 530201 180000) 3213 1 Skipped Available false)
      ∷ (report A2 4 button.Mobile 2 (grid 531000 180000) 4218 1 Normal Mobilised false)
      ∷ (report A3 1 button.Leave 0 (grid 530120 180160) 1673 2 Wrong OffDuty false) ∷ [];
}

merge_is_decided : ByWorkingRows 1 (ask.Merge 1 2) 4223 before_merge_is_decided
unfolding machine
merge_is_decided = refl

abbrev before_merge_is_decided_2 : Room
before_merge_is_decided_2 = record {
  plan = two_divisions;
  divisions = (division 1 3) ∷ (division 2 0) ∷ [];
  incidents =
      (incident 1 1 (grid 530300 180400) 2 (needs 0 1 0) 2641 None Active)
      ∷ (incident 1 2 (grid 531000 180000) 2 (needs 2 1 1) 2821 (Some 3550) Active)
      ∷ (incident 1 3 (grid 530201 180000) 1 (needs 2 0 0) 2822 (Some 3605) Active) ∷ [];
  calls =
      (call 1 1 1 3 3 false (grid 530201 180000) 1 (needs 2 0 0) (codes "x") 2822)
      ∷ (call 1 3 1 2 2 true (grid 531000 180000) 2 (needs 2 1 1) (codes "x") 2822)
      ∷ (call 1 4 1 1 1 false (grid 530300 180400) 2 (needs 0 1 0) [] 2641)
      ∷ (call 2 3 1 2 2 false (grid 531000 180000) 2 (needs 1 0 0) [] 2821) ∷ [];
  vehicles =
      (vehicle A1 2 1 Ambulance (grid 530000 180000) Returning 40000 None 1 6)
      ∷ (vehicle A2 1 1 Ambulance (grid 531000 180000) AtHospital 42460 None 1 9) ∷ [];
  turns =
      (turn A1 1 1 3 Ambulance 3605 None None None None (Some 4303) true)
      ∷ (turn A2 1 1 2 Ambulance 3550 (Some 3635) None None (Some 4283) None false) ∷ [];
  assignments = (assignment A2 1 2 1 (grid 531000 180000) 2) ∷ [];
  points = [];
  loans = (loan A1 2 1 39999 40099 false) ∷ [];
  offers = [];
  reports =
      (report A1 1 button.Mobile 0 (grid 530201 180000) 1601 2 Wrong Offered false)
      ∷ (report A1 2 button.Hospital 0 (grid 530100 180100) 1667 2 Wrong Offered false)
      ∷ (report A1 4 button.Leave 0 (grid 530300 180400) 2642 2 Wrong Offered false)
      ∷ (report A1 6 button.Return 0 (grid 530300 180400) 3159 1 Wrong Available false)
      ∷ (report A2 1 button.Home 0 (grid 530200 180000) 1949 1 Wrong OffDuty false)
      ∷ (report A2 3 button.Mobile 0 (grid 530100 180100) 3189 1 Wrong Available false)
      ∷ (report A2 4 button.Position 1 (grid 530100 180100) 3575 1 Normal Mobilised false)
      ∷ (report A2 6 button.Mobile 1 (grid 530300 180400) 3635 1 Normal Mobilised false)
      ∷ (report A2 7 button.Hospital 1 (grid 530000 180000) 4283 1 Skipped AtHospital false)
      ∷ (report A2 9 button.Hospital 1 (grid 531000 180000) 4764 1 Normal AtHospital false) ∷ [];
}

merge_is_decided_2 : ByWorkingRows 1 (ask.Merge 3 2) 4794 before_merge_is_decided_2
unfolding machine
merge_is_decided_2 = refl

abbrev before_merge_still_assigned_is_decided : Room
before_merge_still_assigned_is_decided = record {
  plan = overlapping_divisions;
  divisions = (division 1 2) ∷ (division 7 3) ∷ [];
  incidents =
      (incident 1 1 (grid 530201 180000) 1 (needs 1 1 0) 1903 (Some 2390) Active)
      ∷ (incident 1 2 (grid 530120 180160) 2 (needs 2 0 0) 3136 None Active) ∷ [];
  calls =
      (call 1 3 1 2 2 false (grid 530120 180160) 2 (needs 1 0 0) [] 3136)
      ∷ (call 2 1 1 2 2 true (grid 530100 180100) 2 (needs 2 0 0) (codes "x") 3537)
      ∷ (call 2 5 1 1 1 false (grid 530201 180000) 1 (needs 1 1 0) (codes "x") 1903) ∷ [];
  vehicles =
      (vehicle A1 7 7 Car (grid 531000 180000) Available 5302 None 0 1)
      ∷ (vehicle A2 1 1 Ambulance (grid 531000 180000) Mobilised 40000 None 1 1)
      ∷ (vehicle A3 7 7 Ambulance (grid 530201 180000) Available 2390 None 0 3) ∷ [];
  turns = (turn A2 1 1 1 Ambulance 2390 None None None None None false) ∷ [];
  assignments = (assignment A2 1 1 1 (grid 530201 180000) 1) ∷ [];
  points = [];
  loans = [];
  offers = [];
  reports =
      (report A1 1 button.Leave 0 (grid 530200 180000) 1001 7 Wrong OffDuty false)
      ∷ (report A2 1 button.Return 0 (grid 530100 180000) 2384 1 Wrong Available false)
      ∷ (report A3 1 button.Return 0 (grid 530100 180000) 2384 7 Wrong OffDuty true)
      ∷ (report A3 3 button.Home 0 (grid 530201 180000) 2850 7 Normal Available false) ∷ [];
}

merge_still_assigned_is_decided : ByWorkingRows 1
    (ask.Merge 1 2) 4018 before_merge_still_assigned_is_decided
unfolding machine
merge_still_assigned_is_decided = refl

abbrev before_merge_incident_not_open_is_decided : Room
before_merge_incident_not_open_is_decided = record {
  plan = two_divisions;
  divisions = (division 1 2) ∷ (division 2 3) ∷ [];
  incidents =
      (incident 1 1 (grid 530200 180000) 2 (needs 0 1 0) 1774 None Closed)
      ∷ (incident 1 2 (grid 530100 180000) 1 (needs 2 0 0) 1954 None Active) ∷ [];
  calls =
      (call 1 6 1 2 2 false (grid 530100 180000) 1 (needs 2 0 0) [] 1954)
      ∷ (call 2 6 1 1 1 false (grid 530200 180000) 2 (needs 0 1 0) [] 1774) ∷ [];
  vehicles =
      (vehicle A1 2 2 Ambulance (grid 530300 180400) Offered 40000 None 0 0)
      ∷ (vehicle A2 1 2 Support (grid 531000 180000) Available 2000 None 0 3)
      ∷ (vehicle A3 1 1 Ambulance (grid 531000 180000) Offered 5000 None 0 1) ∷ [];
  turns = [];
  assignments = [];
  points = [];
  loans = (loan A2 1 2 1493 2301 false) ∷ [];
  offers = (offer A1 2 1 1937 2937) ∷ (offer A3 1 2 1997 2997) ∷ [];
  reports =
      (report A2 2 button.Leave 0 (grid 531000 180000) 1281 1 Wrong Offered true)
      ∷ (report A2 3 button.Mobile 0 (grid 531000 180000) 1312 1 Wrong Offered false)
      ∷ (report A3 1 button.Position 0 (grid 531000 180000) 2302 1 Normal Available false) ∷ [];
}

merge_incident_not_open_is_decided : ByWorkingRows 1
    (ask.Merge 1 2) 2301 before_merge_incident_not_open_is_decided
unfolding machine
merge_incident_not_open_is_decided = refl

abbrev before_mobilise_is_decided : Room
before_mobilise_is_decided = record {
  plan = two_divisions;
  divisions = (division 1 2) ∷ (division 2 0) ∷ [];
  incidents =
      (incident 1 1 (grid 530200 180000) 1 (needs 1 0 0) 1788 None Active)
      ∷ (incident 1 2 (grid 531000 180000) 2 (needs 1 0 0) 1968 (Some 3909) Active) ∷ [];
  calls =
      (call 1 1 1 1 1 true (grid 530000 180000) 1 (needs 1 0 0) [] 2251)
      ∷ (call 2 2 1 1 1 false (grid 530200 180000) 2 (needs 1 0 0) [] 1788)
      ∷ (call 2 3 1 2 2 false (grid 531000 180000) 2 (needs 2 0 0) [] 1968) ∷ [];
  vehicles =
      (vehicle A1 2 2 Support (grid 560200 180000) OffDuty 0 None 2147483647 4)
      ∷ (vehicle A2 2 2 Support (grid 530000 180000) OffDuty 0 None 0 4)
      ∷ (vehicle A3 1 1 Ambulance (grid 530200 180000) Returning 40000 (Some 2) 1 1)
      ∷ (vehicle B1 2 2 Ambulance (grid 530300 180400) OffDuty 0 None 0 4) ∷ [];
  turns = (turn A3 1 1 2 Ambulance 3909 None None None None (Some 3910) true) ∷ [];
  assignments = [];
  points = (point 1 2 (grid 530120 180160) 2) ∷ [];
  loans = [];
  offers = [];
  reports =
      (report A1 2 button.Leave 0 (grid 530120 180160) 2762 2 Stale OffDuty false)
      ∷ (report A1 4 button.Position 2147483647 (grid 530100 180100) 3305 2 Wrong OffDuty false)
      ∷ (report A2 1 button.Mobile 0 (grid 531000 180000) 1306 2 Late OffDuty false)
      ∷ (report A2 2 button.Home 0 (grid 530100 180000) 1005 2 Wrong OffDuty false)
      ∷ (report A2 3 button.Mobile 0 (grid 530000 180000) 1830 2 Wrong OffDuty false)
      ∷ (report A2 4 button.Hospital 0 (grid 530000 180000) 3952 2 Wrong OffDuty false)
      ∷ (report A3 1 button.Position 1 (grid 530200 180000) 3993 1 Normal Returning false)
      ∷ (report B1 1 button.Home 0 (grid 530201 180000) 1789 2 Wrong OffDuty false)
      ∷ (report B1 3 button.Scene 0 (grid 531000 180000) 3304 2 Wrong OffDuty false)
      ∷ (report B1 4 button.Return 0 (grid 530200 180000) 3973 2 Wrong OffDuty false) ∷ [];
}

mobilise_is_decided : ByWorkingRows 1 (ask.Mobilise 2 A3) 4009 before_mobilise_is_decided
unfolding machine
mobilise_is_decided = refl

abbrev before_mobilise_not_needed_is_decided : Room
before_mobilise_not_needed_is_decided = record {
  plan = two_divisions;
  divisions = (division 1 2147483647) ∷ (division 2 2147483646) ∷ [];
  incidents = (incident 1 2147483647 (grid 530100 180100) 2 (needs 2 1 1) 1062 (Some 1072) Active) ∷ [];
  calls =
      (call 1 4 1 2147483647 2147483647 false (grid 530100 180100) 2 (needs 2 1 1) [] 1062)
      ∷ (call 1 5 1 2147483647 2147483647 true (grid 530100 180100) 2 (needs 1 1 0) [] 1243) ∷ [];
  vehicles =
      (vehicle A1 2 1 Ambulance (grid 530120 180160) Available 40000 None 0 3)
      ∷ (vehicle A2 1 1 Ambulance (grid 530100 180000) Available 5000 None 2 10)
      ∷ (vehicle A3 2 2 Ambulance (grid 531000 180000) OffDuty 0 None 0 2) ∷ [];
  turns =
      (turn A2 1 1 2147483647 Ambulance 1072 None (Some 1052) None None (Some 1194) false)
      ∷ (turn A2 2 1 2147483647 Ambulance 1405 None None (Some 2072) None (Some 2073) false) ∷ [];
  assignments = [];
  points = [];
  loans = (loan A1 2 1 5000 1173 false) ∷ [];
  offers = [];
  reports =
      (report A1 1 button.Home 0 (grid 530100 180000) 1173 1 Normal Available false)
      ∷ (report A1 2 button.Position 0 (grid 530100 180000) 3432 1 Normal Available false)
      ∷ (report A1 3 button.Position 0 (grid 530120 180160) 4140 1 Normal Available false)
      ∷ (report A2 2 button.Scene 1 (grid 530201 180000) 1052 1 Skipped AtScene false)
      ∷ (report A2 4 button.Return 1 (grid 530200 180000) 1194 1 Normal Returning false)
      ∷ (report A2 6 button.Leave 2 (grid 530100 180100) 2072 1 Skipped Leaving false)
      ∷ (report A2 7 button.Home 2 (grid 530100 180000) 2073 1 Skipped Available false)
      ∷ (report A2 8 button.Scene 2 (grid 531000 180000) 2374 1 Wrong Available false)
      ∷ (report A2 10 button.Return 0 (grid 530201 180000) 3277 1 Stale Available false)
      ∷ (report A3 1 button.Scene 0 (grid 530201 180000) 4074 2 Wrong OffDuty false)
      ∷ (report A3 2 button.Hospital 0 (grid 530201 180000) 4135 2 Wrong OffDuty false) ∷ [];
}

mobilise_not_needed_is_decided : ByWorkingRows 1
    (ask.Mobilise 2147483647 A1) 4260 before_mobilise_not_needed_is_decided
unfolding machine
mobilise_not_needed_is_decided = refl

abbrev before_mobilise_is_decided_2 : Room
before_mobilise_is_decided_2 = record {
  plan = overlapping_divisions;
  divisions = (division 1 5) ∷ (division 7 0) ∷ [];
  incidents =
      (incident 1 4 (grid 530201 180000) 2 (needs 2 0 0) 1001 None Active)
      ∷ (incident 1 5 (grid 560000 180000) 1 (needs 1 0 0) 1902 (Some 1041) Active) ∷ [];
  calls =
      (call 2 2 1 4 4 false (grid 530201 180000) 2 (needs 2 0 0) [] 1001)
      ∷ (call 2 5 1 5 5 false (grid 560000 180000) 1 (needs 2 0 0) [] 1902) ∷ [];
  vehicles =
      (vehicle A1 1 1 Ambulance (grid 560000 180000) OffDuty 0 None 0 0)
      ∷ (vehicle A2 1 1 Car (grid 530120 180160) OffDuty 0 None 0 0)
      ∷ (vehicle A3 7 7 Ambulance (grid 530120 180160) Available 40000 None 0 1)
      ∷ (vehicle B1 1 1 Ambulance (grid 530100 180100) Available 5000 (Some 1) 1 2)
      ∷ (vehicle B2 7 7 Car (grid 530300 180400) OffDuty 0 None 0 2) ∷ [];
  turns = (turn B1 1 1 5 Ambulance 1041 (Some 1163) None None None (Some 1193) false) ∷ [];
  assignments = [];
  points = (point 1 1 (grid 530300 180400) 1) ∷ [];
  loans = [];
  offers = [];
  reports =
      (report A3 1 button.Leave 0 (grid 530120 180160) 1494 7 Wrong Available false)
      ∷ (report B1 1 button.Mobile 1 (grid 530100 180000) 1163 1 Normal Mobilised false)
      ∷ (report B1 2 button.Home 1 (grid 530100 180100) 1193 1 Skipped Available false)
      ∷ (report B2 2 button.Position 0 (grid 530200 180000) 1193 7 Wrong OffDuty false) ∷ [];
}

mobilise_is_decided_2 : ByWorkingRows 1 (ask.Mobilise 5 B1) 1800 before_mobilise_is_decided_2
unfolding machine
mobilise_is_decided_2 = refl

abbrev before_mobilise_not_needed_is_decided_2 : Room
before_mobilise_not_needed_is_decided_2 = record {
  plan = two_divisions;
  divisions = (division 1 4) ∷ (division 2 1) ∷ [];
  incidents =
      (incident 1 4 (grid 530201 180000) 2 (needs 1 0 0) 1855 None Active)
      ∷ (incident 2 1 (grid 560100 180000) 3 (needs 2 1 1) 1000 (Some 1372) Active) ∷ [];
  calls =
      (call 1 5 2 1 1 false (grid 560100 180000) 3 (needs 2 1 1) [] 1000)
      ∷ (call 2 1 1 4 4 false (grid 530201 180000) 2 (needs 1 0 0) (codes "x") 1855) ∷ [];
  vehicles =
      (vehicle A1 1 1 Support (grid 560200 180000) Available 40000 None 0 0)
      ∷ (vehicle A2 1 1 Ambulance (grid 530000 180000) Available 2361 None 0 0)
      ∷ (vehicle A3 2 2 Car (grid 530100 180000) Available 40000 None 2147483647 1)
      ∷ (vehicle B1 2 2 Car (grid 530120 180160) Offered 5000 None 1 3) ∷ [];
  turns = (turn B1 1 2 1 Car 1372 None None None (Some 1860) (Some 1861) false) ∷ [];
  assignments = [];
  points = (point 1 2 (grid 531000 180000) 0) ∷ [];
  loans = [];
  offers = (offer B1 2 1 1981 1981) ∷ [];
  reports =
      (report A3 1 button.Hospital 2147483647 (grid 530120 180160) 1030 2 Wrong Available false)
      ∷ (report B1 1 button.Hospital 1 (grid 530120 180160) 1860 2 Skipped AtHospital false)
      ∷ (report B1 3 button.Return 1 (grid 530120 180160) 1861 2 Normal Returning false) ∷ [];
}

mobilise_not_needed_is_decided_2 : ByWorkingRows 2
    (ask.Mobilise 1 A3) 2283 before_mobilise_not_needed_is_decided_2
unfolding machine
mobilise_not_needed_is_decided_2 = refl

abbrev before_needs_below_served_is_decided : Room
before_needs_below_served_is_decided = record {
  plan = two_divisions;
  divisions = (division 1 4) ∷ (division 2 0) ∷ [];
  incidents = (incident 1 4 (grid 530200 180000) 1 (needs 1 1 0) 980 (Some 1775) Active) ∷ [];
  calls =
      (call 1 4 1 4 4 false (grid 530200 180000) 2 (needs 1 0 0) [] 980)
      ∷ (call 1 6 1 4 4 true (grid 530100 180000) 2 (needs 0 1 0) [] 1820)
      ∷ (call 2 2 1 4 4 true (grid 530201 180000) 2 (needs 0 1 0) [] 981)
      ∷ (call 2 3 1 4 4 true (grid 530120 180160) 1 (needs 1 1 0) (codes "x") 1821) ∷ [];
  vehicles =
      (vehicle A1 1 1 Ambulance (grid 530120 180160) Offered 42458 None 0 1)
      ∷ (vehicle A2 1 1 Car (grid 530300 180400) Returning 40000 None 1 4)
      ∷ (vehicle A3 1 1 Ambulance (grid 530100 180000) OffDuty 5011 None 0 3) ∷ [];
  turns = (turn A2 1 1 4 Car 1775 None None None (Some 1780) (Some 2459) false) ∷ [];
  assignments = [];
  points = [];
  loans = [];
  offers = (offer A1 1 2 42457 42457) ∷ [];
  reports =
      (report A1 1 button.Position 0 (grid 530100 180000) 1439 1 Wrong OffDuty true)
      ∷ (report A2 1 button.Scene 0 (grid 530120 180160) 980 1 Wrong Available false)
      ∷ (report A2 3 button.Hospital 1 (grid 530200 180000) 1780 1 Skipped AtHospital false)
      ∷ (report A2 4 button.Return 1 (grid 530300 180400) 2459 1 Normal Returning false)
      ∷ (report A3 2 button.Position 0 (grid 530200 180000) 1041 1 Normal Available false)
      ∷ (report A3 3 button.Home 0 (grid 530100 180000) 1046 1 Normal Available false) ∷ [];
}

needs_below_served_is_decided : ByWorkingRows 1
    (ask.Needs 4 (needs 1 0 0)) 2489 before_needs_below_served_is_decided
unfolding machine
needs_below_served_is_decided = refl

abbrev before_needs_incident_not_open_is_decided : Room
before_needs_incident_not_open_is_decided = record {
  plan = two_divisions;
  divisions = (division 1 1) ∷ (division 2 3) ∷ [];
  incidents = (incident 1 1 (grid 530100 180100) 2 (needs 0 1 0) 1222 None Closed) ∷ [];
  calls = (call 2 3 1 1 1 false (grid 530100 180100) 2 (needs 0 1 0) (codes "x") 1222) ∷ [];
  vehicles =
      (vehicle A1 2 2 Ambulance (grid 560100 180000) Offered 40000 None 0 0)
      ∷ (vehicle A2 2 2 Ambulance (grid 530000 180000) OffDuty 0 None 0 2)
      ∷ (vehicle A3 2 2 Ambulance (grid 530120 180160) OffDuty 40000 None 0 0) ∷ [];
  turns = [];
  assignments = [];
  points = [];
  loans = [];
  offers = (offer A1 2 1 1643 2043) ∷ [];
  reports = (report A2 2 button.Mobile 0 (grid 531000 180000) 1041 2 Wrong OffDuty true) ∷ [];
}

needs_incident_not_open_is_decided : ByWorkingRows 1
    (ask.Needs 1 (needs 2 1 1)) 2725 before_needs_incident_not_open_is_decided
unfolding machine
needs_incident_not_open_is_decided = refl

abbrev before_change_needs_is_decided : Room
before_change_needs_is_decided = record {
  plan = two_divisions;
  divisions = (division 1 4) ∷ (division 2 0) ∷ [];
  incidents = (incident 1 4 (grid 530100 180000) 2 (needs 2 1 1) 1005 None Active) ∷ [];
  calls = (call 1 4 1 4 4 false (grid 530100 180000) 2 (needs 2 1 1) [] 1005) ∷ [];
  vehicles =
      (vehicle A1 1 1 Car (grid 530000 180000) Available 2000 None 0 0)
      ∷ (vehicle A2 1 1 Ambulance (grid 530120 180160) Available 2000 None 0 0) ∷ [];
  turns = [];
  assignments = [];
  points = [];
  loans = [];
  offers = [];
  reports = [];
}

change_needs_is_decided : ByWorkingRows 1
    (ask.Needs 4 (needs 1 1 0)) 985 before_change_needs_is_decided
unfolding machine
change_needs_is_decided = refl

abbrev before_change_needs_is_decided_2 : Room
before_change_needs_is_decided_2 = record {
  plan = two_divisions;
  divisions = (division 1 4) ∷ (division 2 0) ∷ [];
  incidents = (incident 1 4 (grid 530200 180000) 1 (needs 0 1 0) 1451 None Active) ∷ [];
  calls = (call 1 4 1 4 4 false (grid 530200 180000) 1 (needs 0 1 0) [] 1451) ∷ [];
  vehicles =
      (vehicle A1 2 2 Support (grid 560100 180000) OffDuty 5000 None 0 0)
      ∷ (vehicle A2 2 2 Ambulance (grid 530100 180100) OffDuty 0 None 0 0)
      ∷ (vehicle A3 1 1 Car (grid 560000 180000) OffDuty 0 None 0 0) ∷ [];
  turns = [];
  assignments = [];
  points = [];
  loans = [];
  offers = [];
  reports = [];
}

change_needs_is_decided_2 : ByWorkingRows 1
    (ask.Needs 4 (needs 0 1 0)) 1456 before_change_needs_is_decided_2
unfolding machine
change_needs_is_decided_2 = refl

abbrev before_off_still_assigned_is_decided : Room
before_off_still_assigned_is_decided = record {
  plan = overlapping_divisions;
  divisions = (division 1 2) ∷ (division 7 0) ∷ [];
  incidents =
      (incident 1 1 (grid 531000 180000) 1 (needs 1 0 0) 985 (Some 1647) Active)
      ∷ (incident 1 2 (grid 530201 180000) 3 (needs 0 1 0) 1465 None Active) ∷ [];
  calls =
      (call 1 4 1 2 2 false (grid 530201 180000) 3 (needs 0 1 0) [] 1465)
      ∷ (call 1 5 1 1 1 false (grid 531000 180000) 1 (needs 1 0 0) [] 985) ∷ [];
  vehicles =
      (vehicle A1 1 1 Ambulance (grid 530100 180100) AtScene 2000 None 1 2)
      ∷ (vehicle A2 7 7 Ambulance (grid 530100 180000) OffDuty 0 None 0 0)
      ∷ (vehicle A3 1 1 Ambulance (grid 560100 180000) OffDuty 40000 None 0 0)
      ∷ (vehicle B1 7 7 Ambulance (grid 530100 180100) Offered 2000 None 0 1) ∷ [];
  turns = (turn A1 1 1 1 Ambulance 1647 None (Some 2630) None None None false) ∷ [];
  assignments = (assignment A1 1 1 1 (grid 531000 180000) 1) ∷ [];
  points = (point 1 1 (grid 530000 180000) 2) ∷ [];
  loans = [];
  offers = (offer B1 7 1 1999 2999) ∷ [];
  reports =
      (report A1 1 button.Scene 0 (grid 530100 180100) 2670 1 Stale Mobilised false)
      ∷ (report A1 2 button.Scene 1 (grid 530100 180100) 2630 1 Skipped AtScene false)
      ∷ (report B1 1 button.Scene 0 (grid 530100 180100) 3113 7 Wrong Offered false) ∷ [];
}

off_still_assigned_is_decided : ByWorkingRows 1
    (ask.Off A1) 3075 before_off_still_assigned_is_decided
unfolding machine
off_still_assigned_is_decided = refl

abbrev before_off_still_assigned_is_decided_2 : Room
before_off_still_assigned_is_decided_2 = record {
  plan = two_divisions;
  divisions = (division 1 6) ∷ (division 2 0) ∷ [];
  incidents =
      (incident 1 4 (grid 531000 180000) 2 (needs 1 0 1) 1120 (Some 1717) Active)
      ∷ (incident 1 5 (grid 530120 180160) 3 (needs 0 1 0) 1316 None Active)
      ∷ (incident 1 6 (grid 530200 180000) 2 (needs 1 0 0) 2576 None Active) ∷ [];
  calls =
      (call 1 1 1 6 6 false (grid 530200 180000) 2 (needs 1 0 0) (codes "x") 2576)
      ∷ (call 1 2 1 5 5 false (grid 530120 180160) 3 (needs 0 1 0) [] 1316)
      ∷ (call 2 3 1 4 4 true (grid 531000 180000) 3 (needs 1 0 0) [] 2020)
      ∷ (call 2 4 1 4 4 false (grid 531000 180000) 2 (needs 0 0 1) [] 1120) ∷ [];
  vehicles =
      (vehicle A1 1 1 Car (grid 560200 180000) Available 2000 None 0 1)
      ∷ (vehicle A2 1 1 Ambulance (grid 531000 180000) Leaving 5000 None 1 2) ∷ [];
  turns = (turn A2 1 1 4 Ambulance 1717 None None (Some 1752) None None false) ∷ [];
  assignments = (assignment A2 1 4 1 (grid 531000 180000) 2) ∷ [];
  points = (point 2 1 (grid 530300 180400) 0) ∷ [];
  loans = [];
  offers = [];
  reports =
      (report A1 1 button.Scene 0 (grid 530201 180000) 2114 1 Wrong Available false)
      ∷ (report A2 1 button.Leave 1 (grid 531000 180000) 1752 1 Skipped Leaving false)
      ∷ (report A2 2 button.Scene 1 (grid 530201 180000) 2295 1 Wrong Leaving false) ∷ [];
}

off_still_assigned_is_decided_2 : ByWorkingRows 1
    (ask.Off A2) 2667 before_off_still_assigned_is_decided_2
unfolding machine
off_still_assigned_is_decided_2 = refl

abbrev before_off_is_decided : Room
before_off_is_decided = record {
  plan = overlapping_divisions;
  divisions = (division 1 2147483647) ∷ (division 7 2147483646) ∷ [];
  incidents = [];
  calls = [];
  vehicles =
      (vehicle A1 7 7 Ambulance (grid 530100 180100) Available 40000 None 0 2)
      ∷ (vehicle A2 1 1 Ambulance (grid 531000 180000) Available 5105 (Some 2) 0 1)
      ∷ (vehicle A3 7 7 Ambulance (grid 530000 180000) Available 2000 None 0 1) ∷ [];
  turns = [];
  assignments = [];
  points = (point 1 2 (grid 530200 180000) 1) ∷ [];
  loans = [];
  offers = [];
  reports =
      (report A1 1 button.Position 0 (grid 530100 180100) 1120 7 Normal Available false)
      ∷ (report A1 2 button.Mobile 0 (grid 530120 180160) 2600 7 Wrong Available true)
      ∷ (report A2 1 button.Hospital 0 (grid 530201 180000) 3262 1 Wrong Available false)
      ∷ (report A3 1 button.Scene 0 (grid 530100 180100) 4079 7 Wrong Available false) ∷ [];
}

off_is_decided : ByWorkingRows 1 (ask.Off A2) 4385 before_off_is_decided
unfolding machine
off_is_decided = refl

abbrev before_off_is_decided_2 : Room
before_off_is_decided_2 = record {
  plan = overlapping_divisions;
  divisions = (division 1 1) ∷ (division 7 0) ∷ [];
  incidents = (incident 1 1 (grid 530201 180000) 2 (needs 2 0 0) 1246 (Some 1366) Active) ∷ [];
  calls = (call 2 1 1 1 1 false (grid 530201 180000) 2 (needs 2 0 0) (codes "x") 1246) ∷ [];
  vehicles =
      (vehicle A1 1 1 Ambulance (grid 530300 180400) Returning 2000 None 1 1)
      ∷ (vehicle A2 7 7 Ambulance (grid 560000 180000) Available 5000 None 0 1)
      ∷ (vehicle A3 7 7 Car (grid 530200 180000) Available 2000 None 0 0) ∷ [];
  turns = (turn A1 1 1 1 Ambulance 1366 None None None None (Some 1672) true) ∷ [];
  assignments = [];
  points = [];
  loans = [];
  offers = [];
  reports =
      (report A1 1 button.Leave 0 (grid 530200 180000) 1245 1 Wrong Available false)
      ∷ (report A2 1 button.Hospital 0 (grid 530120 180160) 1833 7 Wrong Available false) ∷ [];
}

off_is_decided_2 : ByWorkingRows 1 (ask.Off A1) 1863 before_off_is_decided_2
unfolding machine
off_is_decided_2 = refl

abbrev before_offers_2_is_decided : Room
before_offers_2_is_decided = record {
  plan = two_divisions;
  divisions = (division 1 1) ∷ (division 2 3) ∷ [];
  incidents = (incident 1 1 (grid 530100 180100) 3 (needs 1 0 0) 1362 None Active) ∷ [];
  calls = (call 2 6 1 1 1 false (grid 530100 180100) 3 (needs 1 0 0) (codes "x") 1362) ∷ [];
  vehicles =
      (vehicle A1 1 1 Ambulance (grid 530120 180160) Offered 5000 None 0 1)
      ∷ (vehicle A2 2 2 Car (grid 560000 180000) Offered 40000 None 0 1) ∷ [];
  turns = [];
  assignments = [];
  points = (point 1 2 (grid 530300 180400) 1) ∷ [];
  loans = [];
  offers = (offer A1 1 2 1392 1392) ∷ (offer A2 2 1 1402 1402) ∷ [];
  reports =
      (report A1 1 button.Home 0 (grid 530120 180160) 1397 1 Normal Offered false)
      ∷ (report A2 1 button.Scene 0 (grid 530300 180400) 1120 2 Wrong Available false) ∷ [];
}

offers_2_is_decided : ByWorkingRows 1 ask.Offers 1403 before_offers_2_is_decided
unfolding machine
offers_2_is_decided = refl

abbrev before_offers_1_is_decided : Room
before_offers_1_is_decided = record {
  plan = overlapping_divisions;
  divisions = (division 1 0) ∷ (division 7 0) ∷ [];
  incidents = [];
  calls = [];
  vehicles =
      (vehicle A1 7 7 Support (grid 530120 180160) Available 40000 None 0 0)
      ∷ (vehicle A2 1 1 Ambulance (grid 560100 180000) Offered 2000 None 0 0) ∷ [];
  turns = [];
  assignments = [];
  points = [];
  loans = [];
  offers = (offer A2 1 7 1005 1005) ∷ [];
  reports = [];
}

offers_1_is_decided : ByWorkingRows 1 ask.Offers 1186 before_offers_1_is_decided
unfolding machine
offers_1_is_decided = refl

abbrev before_order_is_decided : Room
before_order_is_decided = record {
  plan = two_divisions;
  divisions = (division 1 3) ∷ (division 2 0) ∷ [];
  incidents =
      (incident 1 1 (grid 530100 180000) 2 (needs 0 0 1) 980 None Active)
      ∷ (incident 1 2 (grid 530200 180000) 2 (needs 1 1 1) 1881 (Some 1880) Active)
      ∷ (incident 1 3 (grid 531000 180000) 2 (needs 0 0 1) 2061 None Active) ∷ [];
  calls =
      (call 1 3 1 1 1 false (grid 530100 180000) 2 (needs 0 0 1) [] 980)
      ∷ (call 1 6 1 2 2 true (grid 530200 180000) 2 (needs 1 1 0) [] 2781)
      ∷ (call 2 1 1 3 3 false (grid 531000 180000) 2 (needs 0 0 1) [] 2061)
      ∷ (call 2 4 1 2 2 false (grid 530200 180000) 2 (needs 0 0 1) [] 1881) ∷ [];
  vehicles =
      (vehicle A1 1 1 Support (grid 530200 180000) Returning 40000 (Some 1) 1 3)
      ∷ (vehicle A2 2 2 Support (grid 530201 180000) Available 5000 None 0 1)
      ∷ (vehicle A3 2 2 Ambulance (grid 530100 180000) Available 6831 None 0 1) ∷ [];
  turns = (turn A1 1 1 2 Support 1880 None None None None (Some 1683) true) ∷ [];
  assignments = [];
  points = (point 1 1 (grid 531000 180000) 0) ∷ [];
  loans = [];
  offers = [];
  reports =
      (report A1 1 button.Position 1 (grid 531000 180000) 2164 1 Normal Returning false)
      ∷ (report A1 3 button.Position 1 (grid 530200 180000) 3494 1 Normal Returning false)
      ∷ (report A2 1 button.Mobile 0 (grid 530300 180400) 2650 2 Wrong Available false)
      ∷ (report A3 1 button.Leave 0 (grid 530100 180000) 2645 2 Wrong OffDuty true) ∷ [];
}

order_is_decided : ByOneVehicle A1 ask.Order 3644 before_order_is_decided
unfolding machine
order_is_decided = (refl, refl)

abbrev before_order_is_decided_2 : Room
before_order_is_decided_2 = record {
  plan = two_divisions;
  divisions = (division 1 2) ∷ (division 2 0) ∷ [];
  incidents =
      (incident 1 1 (grid 530100 180000) 1 (needs 0 1 0) 1301 None Active)
      ∷ (incident 1 2 (grid 531000 180000) 2 (needs 1 1 0) 2202 (Some 1482) Active) ∷ [];
  calls =
      (call 1 5 1 1 1 false (grid 530100 180000) 2 (needs 0 1 0) [] 1301)
      ∷ (call 2 1 1 2 2 false (grid 531000 180000) 2 (needs 1 1 0) [] 2202)
      ∷ (call 2 6 1 1 1 true (grid 530100 180100) 1 (needs 0 1 0) [] 1783) ∷ [];
  vehicles =
      (vehicle A1 1 1 Ambulance (grid 530100 180100) OffDuty 0 None 0 1)
      ∷ (vehicle A2 2 2 Car (grid 560100 180000) OffDuty 0 None 0 0)
      ∷ (vehicle A3 1 1 Car (grid 530120 180160) Leaving 5000 None 1 3) ∷ [];
  turns = (turn A3 1 1 2 Car 1482 None None (Some 2114) None None false) ∷ [];
  assignments = (assignment A3 1 2 1 (grid 531000 180000) 2) ∷ [];
  points = (point 1 2 (grid 530120 180160) 1) ∷ [];
  loans = [];
  offers = [];
  reports =
      (report A1 1 button.Home 0 (grid 530201 180000) 1301 1 Wrong OffDuty false)
      ∷ (report A3 2 button.Leave 0 (grid 530200 180000) 1903 1 Wrong Available false)
      ∷ (report A3 3 button.Leave 1 (grid 530120 180160) 2114 1 Skipped Leaving false) ∷ [];
}

order_is_decided_2 : ByOneVehicle A3 ask.Order 2512 before_order_is_decided_2
unfolding machine
order_is_decided_2 = (refl, refl)

abbrev before_order_is_decided_3 : Room
before_order_is_decided_3 = record {
  plan = two_divisions;
  divisions = (division 1 1) ∷ (division 2 1) ∷ [];
  incidents =
      (incident 1 1 (grid 530300 180400) 1 (needs 1 0 0) 1932 None Active)
      ∷ (incident 2 1 (grid 560200 180000) 2 (needs 1 1 0) 1091 (Some 1211) Active) ∷ [];
  calls =
      (call 1 5 2 1 1 false (grid 560200 180000) 3 (needs 1 1 0) [] 1091)
      ∷ (call 2 1 1 1 1 false (grid 530300 180400) 1 (needs 1 0 0) (codes "x") 1932)
      ∷ (call 2 5 2 1 1 true (grid 560200 180000) 2 (needs 1 0 0) [] 1991) ∷ [];
  vehicles =
      (vehicle A1 1 1 Ambulance (grid 530100 180000) Available 5000 None 0 2)
      ∷ (vehicle A2 2 2 Ambulance (grid 560000 180000) Mobilised 2000 None 1 1)
      ∷ (vehicle A3 2 2 Ambulance (grid 530100 180000) Available 40000 None 0 1) ∷ [];
  turns = (turn A2 1 2 1 Ambulance 1211 None None None None None false) ∷ [];
  assignments = (assignment A2 2 1 1 (grid 560200 180000) 3) ∷ [];
  points = [];
  loans = [];
  offers = [];
  reports =
      (report A1 2 button.Home 0 (grid 530100 180000) 1798 1 Normal Available false)
      ∷ (report A2 1 button.Return 0 (grid 531000 180000) 1331 2 Stale Mobilised false)
      ∷ (report A3 1 button.Return 0 (grid 530200 180000) 1798 2 Wrong Available false) ∷ [];
}

order_is_decided_3 : ByOneVehicle A2 ask.Order 1828 before_order_is_decided_3
unfolding machine
order_is_decided_3 = (refl, refl)

abbrev before_order_is_decided_4 : Room
before_order_is_decided_4 = record {
  plan = two_divisions;
  divisions = (division 1 2) ∷ (division 2 0) ∷ [];
  incidents =
      (incident 1 1 (grid 530100 180100) 2 (needs 2 1 1) 1693 (Some 1874) Active)
      ∷ (incident 1 2 (grid 531000 180000) 3 (needs 2 0 0) 2547 None Active) ∷ [];
  calls =
      (call 1 1 1 1 1 true (grid 530201 180000) 2 (needs 1 0 0) [] 2593)
      ∷ (call 1 3 1 1 1 true (grid 530100 180100) 2 (needs 2 1 1) (codes "x") 2366)
      ∷ (call 1 6 1 2 2 false (grid 531000 180000) 3 (needs 2 0 0) [] 2547)
      ∷ (call 2 5 1 1 1 false (grid 530100 180100) 3 (needs 2 1 1) (codes "x") 1693) ∷ [];
  vehicles =
      (vehicle A1 2 2 Ambulance (grid 530201 180000) Available 40000 None 0 0)
      ∷ (vehicle A2 2 2 Car (grid 530100 180000) Available 5000 None 0 0)
      ∷ (vehicle A3 1 1 Support (grid 560100 180000) Mobilised 40000 None 1 0)
      ∷ (vehicle B1 2 2 Ambulance (grid 560000 180000) Available 2000 None 0 0)
      ∷ (vehicle B2 1 1 Ambulance (grid 560100 180000) OffDuty 0 None 0 0) ∷ [];
  turns = (turn A3 1 1 1 Support 1874 None None None None None false) ∷ [];
  assignments = (assignment A3 1 1 1 (grid 530100 180100) 3) ∷ [];
  points = [];
  loans = [];
  offers = [];
  reports = [];
}

order_is_decided_4 : ByOneVehicle A3 ask.Order 2577 before_order_is_decided_4
unfolding machine
order_is_decided_4 = (refl, refl)

abbrev before_order_is_decided_5 : Room
before_order_is_decided_5 = record {
  plan = two_divisions;
  divisions = (division 1 1) ∷ (division 2 0) ∷ [];
  incidents = (incident 1 1 (grid 530201 180000) 2 (needs 2 1 0) 1337 (Some 1801) Active) ∷ [];
  calls =
      (call 1 4 1 1 1 true (grid 530200 180000) 2 (needs 2 0 0) [] 1831)
      ∷ (call 2 4 1 1 1 false (grid 530201 180000) 3 (needs 0 1 0) [] 1337) ∷ [];
  vehicles =
      (vehicle A1 2 2 Car (grid 531000 180000) Available 5339 None 0 1)
      ∷ (vehicle A2 1 1 Ambulance (grid 530201 180000) Available 2000 None 0 1)
      ∷ (vehicle A3 1 1 Car (grid 530300 180400) Mobilised 41150 None 1 0)
      ∷ (vehicle B1 1 1 Support (grid 530201 180000) Available 2000 None 0 0) ∷ [];
  turns = (turn A3 1 1 1 Car 1801 None None None None None false) ∷ [];
  assignments = (assignment A3 1 1 1 (grid 530201 180000) 3) ∷ [];
  points = (point 2 1 (grid 530100 180000) 0) ∷ [];
  loans = [];
  offers = [];
  reports =
      (report A1 1 button.Home 0 (grid 530100 180100) 1338 2 Wrong OffDuty false)
      ∷ (report A2 1 button.Hospital 0 (grid 530120 180160) 1338 1 Wrong Available false) ∷ [];
}

order_is_decided_5 : ByOneVehicle A3 ask.Order 1831 before_order_is_decided_5
unfolding machine
order_is_decided_5 = (refl, refl)

abbrev before_order_is_decided_6 : Room
before_order_is_decided_6 = record {
  plan = overlapping_divisions;
  divisions = (division 1 1) ∷ (division 7 0) ∷ [];
  incidents = (incident 1 1 (grid 530120 180160) 1 (needs 1 1 0) 1242 (Some 1279) Active) ∷ [];
  calls =
      (call 2 2 1 1 1 true (grid 530200 180000) 1 (needs 1 0 0) [] 1760)
      ∷ (call 2 5 1 1 1 false (grid 530120 180160) 2 (needs 1 1 0) [] 1242)
      ∷ (call 2 6 1 1 1 true (grid 530100 180100) 2 (needs 1 0 0) [] 1885) ∷ [];
  vehicles =
      (vehicle A1 1 1 Car (grid 530120 180160) OffDuty 5000 None 0 0)
      ∷ (vehicle A2 7 7 Ambulance (grid 530100 180100) Available 2000 None 0 0)
      ∷ (vehicle A3 1 1 Ambulance (grid 530100 180100) AtHospital 5000 None 1 2) ∷ [];
  turns = (turn A3 1 1 1 Ambulance 1279 None None None (Some 1765) None false) ∷ [];
  assignments = (assignment A3 1 1 1 (grid 530120 180160) 2) ∷ [];
  points = (point 1 1 (grid 530100 180000) 1) ∷ [];
  loans = [];
  offers = [];
  reports =
      (report A3 1 button.Position 0 (grid 530200 180000) 1272 1 Normal Available false)
      ∷ (report A3 2 button.Hospital 1 (grid 530100 180100) 1765 1 Skipped AtHospital false) ∷ [];
}

order_is_decided_6 : ByOneVehicle A3 ask.Order 1890 before_order_is_decided_6
unfolding machine
order_is_decided_6 = (refl, refl)

abbrev before_points_2_is_decided : Room
before_points_2_is_decided = record {
  plan = two_divisions;
  divisions = (division 1 1) ∷ (division 2 0) ∷ [];
  incidents = (incident 1 1 (grid 530120 180160) 3 (needs 1 1 0) 2768 None Active) ∷ [];
  calls = (call 2 2 1 1 1 false (grid 530120 180160) 3 (needs 0 1 0) [] 2768) ∷ [];
  vehicles =
      (vehicle A1 2 2 Ambulance (grid 530200 180000) Offered 5000 None 0 3)
      ∷ (vehicle A2 1 1 Ambulance (grid 530120 180160) Available 40000 None 0 2)
      ∷ (vehicle A3 1 1 Ambulance (grid 560200 180000) OffDuty 0 None 0 2)
      ∷ (vehicle B1 2 2 Support (grid 560100 180000) OffDuty 0 None 0 0) ∷ [];
  turns = [];
  assignments = [];
  points = (point 1 1 (grid 530000 180000) 0) ∷ (point 1 2 (grid 530100 180000) 0) ∷ [];
  loans = [];
  offers = (offer A1 2 1 2505 2505) ∷ [];
  reports =
      (report A1 1 button.Mobile 0 (grid 530201 180000) 2485 2 Wrong Offered false)
      ∷ (report A1 2 button.Mobile 0 (grid 530100 180000) 2605 2 Wrong Offered true)
      ∷ (report A1 3 button.Home 0 (grid 530200 180000) 2957 2 Normal Offered false)
      ∷ (report A2 1 button.Position 0 (grid 530100 180100) 1843 1 Normal Available false)
      ∷ (report A2 2 button.Home 0 (grid 530120 180160) 2606 1 Normal Available false)
      ∷ (report A3 1 button.Leave 0 (grid 530300 180400) 2957 1 Wrong OffDuty false)
      ∷ (report A3 2 button.Leave 0 (grid 531000 180000) 2962 1 Wrong OffDuty false) ∷ [];
}

points_2_is_decided : ByWorkingRows 1 ask.Points 3143 before_points_2_is_decided
unfolding machine
points_2_is_decided = refl

abbrev before_points_2_is_decided_2 : Room
before_points_2_is_decided_2 = record {
  plan = overlapping_divisions;
  divisions = (division 1 1) ∷ (division 7 1) ∷ [];
  incidents =
      (incident 1 1 (grid 530100 180000) 2 (needs 2 0 0) 1752 None Active)
      ∷ (incident 7 1 (grid 530000 180000) 1 (needs 0 1 0) 1090 None Active) ∷ [];
  calls =
      (call 1 3 1 1 1 true (grid 530100 180000) 2 (needs 1 0 0) [] 2024)
      ∷ (call 1 6 7 1 1 false (grid 530000 180000) 1 (needs 0 1 0) [] 1090)
      ∷ (call 2 5 1 1 1 false (grid 530100 180000) 3 (needs 2 0 0) (codes "x") 1752)
      ∷ (call 2 6 7 1 1 true (grid 530000 180000) 3 (needs 2 1 1) [] 1251) ∷ [];
  vehicles =
      (vehicle A1 1 1 Ambulance (grid 530100 180100) Available 41692 (Some 1) 0 0)
      ∷ (vehicle A2 1 7 Support (grid 530100 180100) Available 2000 None 0 3)
      ∷ (vehicle A3 7 7 Ambulance (grid 530100 180000) Available 2000 None 0 1) ∷ [];
  turns = [];
  assignments = [];
  points = (point 1 1 (grid 530100 180100) 0) ∷ (point 1 2 (grid 530000 180000) 0) ∷ [];
  loans = (loan A2 1 7 1782 1085 false) ∷ [];
  offers = [];
  reports =
      (report A2 1 button.Home 0 (grid 531000 180000) 2144 7 Late Available false)
      ∷ (report A2 2 button.Mobile 0 (grid 530100 180100) 980 1 Wrong Available false)
      ∷ (report A2 3 button.Scene 0 (grid 530100 180100) 1085 7 Wrong Available false)
      ∷ (report A3 1 button.Hospital 0 (grid 530000 180000) 1843 7 Wrong Available false) ∷ [];
}

points_2_is_decided_2 : ByWorkingRows 1 ask.Points 2667 before_points_2_is_decided_2
unfolding machine
points_2_is_decided_2 = refl

abbrev before_propose_1_is_decided : Room
before_propose_1_is_decided = record {
  plan = overlapping_divisions;
  divisions = (division 1 4) ∷ (division 7 0) ∷ [];
  incidents =
      (incident 1 1 (grid 560000 180000) 2 (needs 1 0 0) 1021 None Active)
      ∷ (incident 1 2 (grid 560100 180000) 2 (needs 0 1 0) 2076 None Active)
      ∷ (incident 1 3 (grid 530201 180000) 3 (needs 0 1 1) 1861 None Active)
      ∷ (incident 1 4 (grid 530120 180160) 1 (needs 1 1 0) 5779 None Active) ∷ [];
  calls =
      (call 1 5 1 3 3 false (grid 530201 180000) 3 (needs 0 1 0) [] 3940)
      ∷ (call 1 6 1 4 4 true (grid 530201 180000) 2 (needs 1 0 0) [] 6453)
      ∷ (call 2 1 1 3 3 true (grid 530120 180160) 3 (needs 0 0 1) [] 1861)
      ∷ (call 2 2 1 2 2 false (grid 560100 180000) 2 (needs 0 1 0) (codes "x") 2076)
      ∷ (call 2 3 1 4 4 false (grid 530120 180160) 1 (needs 0 1 0) [] 5779)
      ∷ (call 2 6 1 1 1 false (grid 560000 180000) 2 (needs 1 0 0) [] 1021) ∷ [];
  vehicles =
      (vehicle A1 1 1 Support (grid 530100 180000) OffDuty 40000 None 0 1)
      ∷ (vehicle A2 1 1 Support (grid 530100 180100) Available 40000 (Some 2) 0 2)
      ∷ (vehicle A3 7 7 Support (grid 530300 180400) Available 5000 None 0 3) ∷ [];
  turns = [];
  assignments = [];
  points =
      (point 1 1 (grid 531000 180000) 1) ∷ (point 1 2 (grid 530100 180000) 2) ∷ (point 7 2 (grid 530300 180400) 0)
      ∷ [];
  loans = [];
  offers = [];
  reports =
      (report A1 1 button.Scene 0 (grid 530120 180160) 4460 1 Wrong Available false)
      ∷ (report A2 1 button.Home 0 (grid 530300 180400) 980 1 Normal Available false)
      ∷ (report A2 2 button.Home 0 (grid 530100 180100) 4332 7 Normal Available false)
      ∷ (report A3 1 button.Scene 0 (grid 530300 180400) 1202 7 Wrong Available false)
      ∷ (report A3 2 button.Return 0 (grid 530120 180160) 1683 7 Wrong Available false)
      ∷ (report A3 3 button.Hospital 0 (grid 530100 180100) 2196 7 Wrong Available false) ∷ [];
}

propose_1_is_decided : ByWorkingRows 1 (ask.Propose 3) 7055 before_propose_1_is_decided
unfolding machine
propose_1_is_decided = refl

abbrev before_propose_incident_not_open_is_decided : Room
before_propose_incident_not_open_is_decided = record {
  plan = two_divisions;
  divisions = (division 1 4) ∷ (division 2 1) ∷ [];
  incidents =
      (incident 1 4 (grid 531000 180000) 3 (needs 2 0 0) 5083 None Active)
      ∷ (incident 2 1 (grid 560100 180000) 3 (needs 1 0 0) 1482 None Closed) ∷ [];
  calls =
      (call 1 1 1 4 4 false (grid 531000 180000) 3 (needs 2 0 0) [] 5083)
      ∷ (call 2 6 2 1 1 false (grid 560100 180000) 3 (needs 1 0 0) [] 1482) ∷ [];
  vehicles =
      (vehicle A1 2 2 Ambulance (grid 560100 180000) OffDuty 0 None 0 0)
      ∷ (vehicle A2 2 2 Support (grid 531000 180000) OffDuty 0 None 0 2)
      ∷ (vehicle A3 2 2 Ambulance (grid 530120 180160) OffDuty 1493 None 0 3)
      ∷ (vehicle B1 1 1 Car (grid 530100 180100) Available 1801 None 0 3) ∷ [];
  turns = [];
  assignments = [];
  points = (point 1 2 (grid 530201 180000) 2) ∷ [];
  loans = [];
  offers = [];
  reports =
      (report A2 1 button.Leave 0 (grid 530201 180000) 1953 2 Wrong OffDuty false)
      ∷ (report A2 2 button.Leave 0 (grid 530100 180100) 3939 2 Wrong OffDuty false)
      ∷ (report A3 2 button.Leave 0 (grid 530000 180000) 4425 2 Wrong OffDuty false)
      ∷ (report A3 3 button.Position 0 (grid 530300 180400) 4430 2 Wrong OffDuty false)
      ∷ (report B1 2 button.Mobile 0 (grid 530100 180000) 1462 1 Wrong Available false)
      ∷ (report B1 3 button.Scene 0 (grid 530300 180400) 2876 1 Wrong Available false) ∷ [];
}

propose_incident_not_open_is_decided : ByWorkingRows 2
    (ask.Propose 1) 1494 before_propose_incident_not_open_is_decided
unfolding machine
propose_incident_not_open_is_decided = refl

abbrev before_propose_0_is_decided : Room
before_propose_0_is_decided = record {
  plan = two_divisions;
  divisions = (division 1 2147483647) ∷ (division 2 2147483647) ∷ [];
  incidents = (incident 2 2147483647 (grid 560000 180000) 1 (needs 1 0 0) 1240 (Some 1426) Active) ∷ [];
  calls = (call 2 2 2 2147483647 2147483647 false (grid 560000 180000) 1 (needs 1 0 0) [] 1240) ∷ [];
  vehicles =
      (vehicle A1 2 2 Support (grid 530120 180160) Available 5000 None 0 1)
      ∷ (vehicle A2 2 2 Ambulance (grid 560200 180000) Available 40000 None 0 1)
      ∷ (vehicle A3 2 2 Ambulance (grid 530100 180100) Returning 5000 None 1 5)
      ∷ (vehicle B1 2 2 Ambulance (grid 531000 180000) Available 40000 None 0 1) ∷ [];
  turns = (turn A3 1 2 2147483647 Ambulance 1426 None None (Some 1762) None (Some 2439) false) ∷ [];
  assignments = [];
  points = (point 1 1 (grid 531000 180000) 1) ∷ [];
  loans = [];
  offers = [];
  reports =
      (report A1 1 button.Leave 0 (grid 531000 180000) 2981 2 Wrong Available false)
      ∷ (report A2 1 button.Scene 0 (grid 530000 180000) 1727 2 Wrong Available false)
      ∷ (report A3 1 button.Scene 0 (grid 530201 180000) 1120 2 Wrong Available true)
      ∷ (report A3 2 button.Leave 1 (grid 531000 180000) 1762 2 Skipped Leaving false)
      ∷ (report A3 3 button.Position 1 (grid 530201 180000) 1808 2 Normal Leaving false)
      ∷ (report A3 5 button.Return 1 (grid 530100 180100) 2439 2 Skipped Returning false)
      ∷ (report B1 1 button.Leave 0 (grid 530100 180000) 2500 2 Wrong Available false) ∷ [];
}

propose_0_is_decided : ByWorkingRows 2 (ask.Propose 2147483647) 5199 before_propose_0_is_decided
unfolding machine
propose_0_is_decided = refl

abbrev before_propose_no_such_incident_is_decided : Room
before_propose_no_such_incident_is_decided = record {
  plan = two_divisions;
  divisions = (division 1 2147483646) ∷ (division 2 2147483646) ∷ [];
  incidents = [];
  calls = [];
  vehicles =
      (vehicle A1 2 2 Ambulance (grid 530120 180160) OffDuty 0 None 0 0)
      ∷ (vehicle A2 2 2 Support (grid 530100 180100) OffDuty 0 None 0 0) ∷ [];
  turns = [];
  assignments = [];
  points = [];
  loans = [];
  offers = [];
  reports = [];
}

propose_no_such_incident_is_decided : ByWorkingRows 2
    (ask.Propose 2) 980 before_propose_no_such_incident_is_decided
unfolding machine
propose_no_such_incident_is_decided = refl

abbrev before_queue_of_1_and_3_and_4_and_5_and_8_is_decided : Room
before_queue_of_1_and_3_and_4_and_5_and_8_is_decided = record {
  plan = two_divisions;
  divisions = (division 1 4) ∷ (division 2 1) ∷ [];
  incidents =
      (incident 1 1 (grid 530100 180000) 2 (needs 2 0 0) 980 None Closed)
      ∷ (incident 1 2 (grid 530120 180160) 1 (needs 2 0 0) 2061 (Some 3639) Active)
      ∷ (incident 1 3 (grid 530300 180400) 2 (needs 1 1 0) 2824 None Active)
      ∷ (incident 1 4 (grid 530100 180100) 2 (needs 1 1 0) 3005 None Active)
      ∷ (incident 2 1 (grid 560200 180000) 2 (needs 2 1 1) 1161 None Active) ∷ [];
  calls =
      (call 1 3 1 4 4 true (grid 530201 180000) 3 (needs 0 1 0) [] 3005)
      ∷ (call 1 5 1 4 4 false (grid 530100 180100) 2 (needs 1 1 0) [] 3679)
      ∷ (call 2 2 2 1 1 false (grid 560200 180000) 2 (needs 2 1 1) [] 1161)
      ∷ (call 2 3 1 3 3 false (grid 530300 180400) 2 (needs 1 1 0) (codes "x") 2824)
      ∷ (call 2 5 1 1 1 false (grid 530100 180000) 2 (needs 2 0 0) [] 980)
      ∷ (call 2 6 1 2 2 false (grid 530120 180160) 1 (needs 2 0 0) (codes "x") 2061) ∷ [];
  vehicles =
      (vehicle A1 2 1 Ambulance (grid 530000 180000) OffDuty 5000 None 0 2)
      ∷ (vehicle A2 2 2 Support (grid 560000 180000) OffDuty 0 None 0 3)
      ∷ (vehicle A3 1 1 Support (grid 530300 180400) Offered 5000 None 0 2)
      ∷ (vehicle B1 2 1 Ambulance (grid 531000 180000) Mobilised 5000 None 1 6) ∷ [];
  turns = (turn B1 1 1 2 Ambulance 3639 None None None None None false) ∷ [];
  assignments = (assignment B1 1 2 1 (grid 530120 180160) 1) ∷ [];
  points = [];
  loans = (loan A1 2 1 2507 1683 false) ∷ (loan B1 2 1 5001 4315 false) ∷ [];
  offers = (offer A3 1 2 2834 2934) ∷ [];
  reports =
      (report A1 1 button.Return 0 (grid 530120 180160) 2613 1 Wrong Available false)
      ∷ (report A1 2 button.Home 0 (grid 530100 180100) 1684 1 Wrong OffDuty false)
      ∷ (report A2 1 button.Leave 0 (grid 530201 180000) 1582 2 Wrong OffDuty true)
      ∷ (report A2 3 button.Scene 0 (grid 530100 180000) 1684 2 Wrong OffDuty false)
      ∷ (report A3 1 button.Leave 0 (grid 530201 180000) 2164 1 Late Available true)
      ∷ (report A3 2 button.Mobile 0 (grid 530100 180000) 1562 1 Wrong Available false)
      ∷ (report B1 1 button.Leave 0 (grid 530000 180000) 2326 2 Wrong Available false)
      ∷ (report B1 3 button.Return 0 (grid 530100 180000) 2492 2 Wrong Available false)
      ∷ (report B1 5 button.Position 0 (grid 531000 180000) 3679 1 Normal Available false)
      ∷ (report B1 6 button.Scene 0 (grid 530120 180160) 3659 1 Wrong Available false) ∷ [];
}

queue_of_1_and_3_and_4_and_5_and_8_is_decided : ByWorkingRows 1 ask.Queue 3644
    before_queue_of_1_and_3_and_4_and_5_and_8_is_decided
unfolding machine
queue_of_1_and_3_and_4_and_5_and_8_is_decided = refl

abbrev before_queue_of_1_and_3_and_5_and_6_and_7_is_decided : Room
before_queue_of_1_and_3_and_5_and_6_and_7_is_decided = record {
  plan = two_divisions;
  divisions = (division 1 4) ∷ (division 2 1) ∷ [];
  incidents =
      (incident 1 1 (grid 530300 180400) 1 (needs 1 0 0) 1091 None Active)
      ∷ (incident 1 2 (grid 531000 180000) 2 (needs 1 0 0) 1571 None Active)
      ∷ (incident 1 3 (grid 530120 180160) 3 (needs 1 1 0) 2411 None Active)
      ∷ (incident 1 4 (grid 530100 180100) 1 (needs 0 1 0) 4508 (Some 2592) Active)
      ∷ (incident 2 1 (grid 560000 180000) 1 (needs 2 1 1) 2472 None Active) ∷ [];
  calls =
      (call 1 1 1 3 3 false (grid 530120 180160) 3 (needs 1 1 0) [] 2411)
      ∷ (call 1 3 1 4 4 false (grid 530100 180100) 1 (needs 0 1 0) (codes "x") 4508)
      ∷ (call 1 6 2 1 1 false (grid 560000 180000) 1 (needs 2 1 1) (codes "x") 2472)
      ∷ (call 2 2 1 1 1 false (grid 530300 180400) 1 (needs 1 0 0) [] 1091)
      ∷ (call 2 4 1 2 2 false (grid 531000 180000) 2 (needs 1 0 0) [] 1571) ∷ [];
  vehicles =
      (vehicle A1 2 1 Car (grid 531000 180000) Mobilised 5000 None 1 7)
      ∷ (vehicle A2 2 2 Ambulance (grid 530300 180400) OffDuty 2000 None 0 3)
      ∷ (vehicle A3 2 2 Ambulance (grid 560100 180000) OffDuty 0 None 0 5) ∷ [];
  turns = (turn A1 1 1 4 Car 2592 (Some 6740) None None None None false) ∷ [];
  assignments = (assignment A1 1 4 1 (grid 530100 180100) 1) ∷ [];
  points = (point 1 1 (grid 530120 180160) 1) ∷ (point 2 2 (grid 530120 180160) 1) ∷ [];
  loans = (loan A1 2 1 2537 3056 false) ∷ [];
  offers = [];
  reports =
      (report A1 1 button.Return 0 (grid 530201 180000) 1091 2 Wrong Available false)
      ∷ (report A1 3 button.Hospital 0 (grid 530100 180000) 1091 2 Wrong Available false)
      ∷ (report A1 5 button.Position 0 (grid 531000 180000) 2056 2 Normal Available false)
      ∷ (report A1 7 button.Mobile 1 (grid 531000 180000) 6740 1 Normal Mobilised false)
      ∷ (report A2 1 button.Return 0 (grid 530100 180000) 1574 2 Wrong Offered false)
      ∷ (report A2 2 button.Leave 0 (grid 530100 180000) 1694 2 Wrong Offered false)
      ∷ (report A2 3 button.Position 0 (grid 530300 180400) 3475 2 Normal Offered false)
      ∷ (report A3 1 button.Hospital 0 (grid 530100 180000) 1091 2 Wrong OffDuty false)
      ∷ (report A3 3 button.Position 0 (grid 531000 180000) 1393 2 Wrong OffDuty false)
      ∷ (report A3 4 button.Mobile 0 (grid 530120 180160) 1755 2 Wrong OffDuty false)
      ∷ (report A3 5 button.Scene 0 (grid 530100 180100) 3056 2 Wrong OffDuty false) ∷ [];
}

queue_of_1_and_3_and_5_and_6_and_7_is_decided : ByWorkingRows 1 ask.Queue 5409
    before_queue_of_1_and_3_and_5_and_6_and_7_is_decided
unfolding machine
queue_of_1_and_3_and_5_and_6_and_7_is_decided = refl

abbrev before_queue_of_1_and_3_and_4_and_5_is_decided : Room
before_queue_of_1_and_3_and_4_and_5_is_decided = record {
  plan = overlapping_divisions;
  divisions = (division 1 4) ∷ (division 7 1) ∷ [];
  incidents =
      (incident 1 1 (grid 530201 180000) 2 (needs 2 1 1) 1812 None Active)
      ∷ (incident 1 2 (grid 560000 180000) 2 (needs 2 0 0) 2653 (Some 2899) Active)
      ∷ (incident 1 3 (grid 560100 180000) 3 (needs 1 0 0) 4361 None Active)
      ∷ (incident 1 4 (grid 530120 180160) 2 (needs 1 0 0) 5261 None Active)
      ∷ (incident 7 1 (grid 530000 180000) 3 (needs 0 0 1) 4199 None Active) ∷ [];
  calls =
      (call 1 3 1 4 4 false (grid 530120 180160) 2 (needs 1 0 0) [] 5261)
      ∷ (call 1 5 1 3 3 false (grid 560100 180000) 3 (needs 1 0 0) [] 4361)
      ∷ (call 2 1 1 1 1 false (grid 530201 180000) 2 (needs 1 0 0) (codes "x") 1812)
      ∷ (call 2 3 1 2 2 false (grid 560000 180000) 2 (needs 1 0 0) [] 2653)
      ∷ (call 2 4 7 1 1 false (grid 530000 180000) 3 (needs 0 0 1) (codes "x") 4199) ∷ [];
  vehicles =
      (vehicle A1 7 1 Ambulance (grid 530000 180000) Mobilised 5000 None 1 5)
      ∷ (vehicle A2 1 1 Ambulance (grid 530100 180000) AtHospital 5000 None 1 3)
      ∷ (vehicle A3 1 1 Support (grid 530000 180000) OffDuty 3261 None 0 3) ∷ [];
  turns =
      (turn A1 1 1 2 Ambulance 4563 (Some 4930) None None None None false)
      ∷ (turn A2 1 1 2 Ambulance 2899 None None None (Some 4380) None false) ∷ [];
  assignments = (assignment A1 1 2 1 (grid 560000 180000) 2) ∷ (assignment A2 1 2 1 (grid 560000 180000) 2) ∷ [];
  points = (point 7 1 (grid 530201 180000) 2) ∷ (point 7 2 (grid 530200 180000) 1) ∷ [];
  loans = (loan A1 7 1 4583 4503 false) ∷ [];
  offers = [];
  reports =
      (report A1 2 button.Home 0 (grid 530201 180000) 2293 7 Normal Available false)
      ∷ (report A1 3 button.Scene 0 (grid 531000 180000) 4194 7 Wrong Offered false)
      ∷ (report A1 4 button.Return 0 (grid 530300 180400) 4360 7 Wrong Offered false)
      ∷ (report A1 5 button.Mobile 1 (grid 530000 180000) 4930 1 Normal Mobilised false)
      ∷ (report A2 2 button.Hospital 1 (grid 530200 180000) 4380 1 Skipped AtHospital false)
      ∷ (report A2 3 button.Position 1 (grid 530100 180000) 4481 1 Normal AtHospital false)
      ∷ (report A3 1 button.Hospital 0 (grid 530100 180000) 2413 1 Late OffDuty false)
      ∷ (report A3 2 button.Return 0 (grid 530300 180400) 1331 1 Wrong OffDuty false)
      ∷ (report A3 3 button.Mobile 0 (grid 530100 180100) 2899 1 Wrong OffDuty true) ∷ [];
}

queue_of_1_and_3_and_4_and_5_is_decided : ByWorkingRows 1 ask.Queue 4930
    before_queue_of_1_and_3_and_4_and_5_is_decided
unfolding machine
queue_of_1_and_3_and_4_and_5_is_decided = refl

abbrev before_queue_of_3_and_4_and_6_and_8_is_decided : Room
before_queue_of_3_and_4_and_6_and_8_is_decided = record {
  plan = two_divisions;
  divisions = (division 1 1) ∷ (division 2 6) ∷ [];
  incidents =
      (incident 1 1 (grid 530000 180000) 1 (needs 2 1 0) 1211 (Some 1211) Active)
      ∷ (incident 2 4 (grid 560200 180000) 3 (needs 0 0 1) 1031 None Active)
      ∷ (incident 2 5 (grid 560000 180000) 2 (needs 0 0 1) 2113 None Active)
      ∷ (incident 2 6 (grid 560100 180000) 2 (needs 0 0 1) 4817 None Active) ∷ [];
  calls =
      (call 1 2 2 5 5 false (grid 560000 180000) 2 (needs 0 0 1) [] 2113)
      ∷ (call 1 3 1 1 1 false (grid 530000 180000) 2 (needs 1 1 0) (codes "x") 1932)
      ∷ (call 1 5 1 1 1 true (grid 530100 180000) 2 (needs 2 0 0) [] 2112)
      ∷ (call 2 1 2 4 4 false (grid 560200 180000) 3 (needs 0 0 1) [] 1031)
      ∷ (call 2 3 2 6 6 false (grid 560100 180000) 2 (needs 0 0 1) [] 4817)
      ∷ (call 2 5 1 1 1 true (grid 530100 180100) 1 (needs 2 0 0) [] 1211)
      ∷ (call 2 6 1 1 1 true (grid 530200 180000) 1 (needs 0 1 0) [] 1211) ∷ [];
  vehicles =
      (vehicle A1 1 1 Ambulance (grid 531000 180000) Available 2865 None 0 0)
      ∷ (vehicle A2 1 1 Ambulance (grid 530100 180000) Mobilised 5000 None 1 1)
      ∷ (vehicle A3 1 1 Car (grid 530100 180100) Available 5000 None 0 4)
      ∷ (vehicle B1 1 1 Car (grid 530300 180400) Offered 40000 None 0 3)
      ∷ (vehicle B2 2 2 Ambulance (grid 530000 180000) Available 40000 None 2147483647 3) ∷ [];
  turns = (turn A2 1 1 1 Ambulance 1211 (Some 3449) None None None None false) ∷ [];
  assignments = (assignment A2 1 1 1 (grid 530000 180000) 2) ∷ [];
  points = (point 2 1 (grid 530300 180400) 1) ∷ (point 2 2 (grid 530120 180160) 2) ∷ [];
  loans = [];
  offers = (offer B1 1 2 2245 2345) ∷ [];
  reports =
      (report A2 1 button.Mobile 1 (grid 530100 180000) 3449 1 Normal Mobilised false)
      ∷ (report A3 2 button.Mobile 0 (grid 530000 180000) 1036 1 Wrong Available false)
      ∷ (report A3 4 button.Position 0 (grid 530100 180100) 2666 1 Normal Available false)
      ∷ (report B1 1 button.Scene 0 (grid 530300 180400) 1734 1 Wrong Available false)
      ∷ (report B1 2 button.Mobile 0 (grid 530000 180000) 4516 1 Wrong Offered false)
      ∷ (report B1 3 button.Mobile 0 (grid 530300 180400) 5601 1 Wrong Offered false)
      ∷ (report B2 1 button.Position 2147483647 (grid 530000 180000) 1698 2 Normal Available false)
      ∷ (report B2 3 button.Return 2147483647 (grid 530200 180000) 1703 2 Wrong Available true) ∷ [];
}

queue_of_3_and_4_and_6_and_8_is_decided : ByWorkingRows 1 ask.Queue 5631
    before_queue_of_3_and_4_and_6_and_8_is_decided
unfolding machine
queue_of_3_and_4_and_6_and_8_is_decided = refl

abbrev before_queue_of_1_and_2_and_3_and_4_and_5_and_6_and_7_and_8_is_decided : Room
before_queue_of_1_and_2_and_3_and_4_and_5_and_6_and_7_and_8_is_decided = record {
  plan = two_divisions;
  divisions = (division 1 2) ∷ (division 2 4) ∷ [];
  incidents =
      (incident 1 1 (grid 530200 180000) 2 (needs 0 0 1) 1426 (Some 3484) Active)
      ∷ (incident 1 2 (grid 530000 180000) 3 (needs 0 0 1) 3965 None Active)
      ∷ (incident 2 4 (grid 560000 180000) 2 (needs 1 0 0) 2967 None Active) ∷ [];
  calls =
      (call 2 1 1 2 2 false (grid 530000 180000) 3 (needs 0 0 1) [] 3965)
      ∷ (call 2 5 1 1 1 false (grid 530200 180000) 2 (needs 2 1 1) [] 1426)
      ∷ (call 2 6 2 4 4 false (grid 560000 180000) 2 (needs 1 0 0) [] 2967) ∷ [];
  vehicles =
      (vehicle A1 2 1 Car (grid 530300 180400) Available 40000 None 0 3)
      ∷ (vehicle A2 1 1 Ambulance (grid 530201 180000) Offered 5000 None 0 1)
      ∷ (vehicle A3 1 1 Support (grid 530100 180100) Mobilised 40000 None 1 3)
      ∷ (vehicle B1 2 2 Ambulance (grid 560000 180000) Available 5000 None 0 1)
      ∷ (vehicle B2 1 2 Ambulance (grid 530100 180100) Available 40000 (Some 2) 0 4) ∷ [];
  turns = (turn A3 1 1 1 Support 3484 None None None None None false) ∷ [];
  assignments = (assignment A3 1 1 1 (grid 530200 180000) 2) ∷ [];
  points = (point 1 1 (grid 530201 180000) 1) ∷ (point 2 2 (grid 530201 180000) 0) ∷ [];
  loans = (loan A1 2 1 4266 40099 false) ∷ (loan B2 1 2 2486 1306 false) ∷ [];
  offers = (offer A2 1 2 2185 2185) ∷ [];
  reports =
      (report A1 1 button.Home 0 (grid 530300 180400) 1546 2 Normal Available false)
      ∷ (report A1 3 button.Home 0 (grid 530300 180400) 1762 2 Normal Available false)
      ∷ (report A2 1 button.Return 0 (grid 530000 180000) 4276 1 Wrong Offered false)
      ∷ (report A3 1 button.Hospital 0 (grid 531000 180000) 1637 1 Wrong Available false)
      ∷ (report A3 3 button.Mobile 0 (grid 530000 180000) 1762 1 Wrong Available false)
      ∷ (report B1 1 button.Hospital 0 (grid 530100 180100) 2124 2 Wrong Available false)
      ∷ (report B2 2 button.Position 0 (grid 530100 180100) 2063 1 Normal Offered false)
      ∷ (report B2 3 button.Position 0 (grid 530100 180100) 2968 2 Normal Available false)
      ∷ (report B2 4 button.Return 0 (grid 530201 180000) 1306 2 Wrong Available false) ∷ [];
}

queue_of_1_and_2_and_3_and_4_and_5_and_6_and_7_and_8_is_decided : ByWorkingRows 1 ask.Queue 39999
    before_queue_of_1_and_2_and_3_and_4_and_5_and_6_and_7_and_8_is_decided
unfolding machine
queue_of_1_and_2_and_3_and_4_and_5_and_6_and_7_and_8_is_decided = refl

abbrev before_queue_of_3_and_4_is_decided : Room
before_queue_of_3_and_4_is_decided = record {
  plan = two_divisions;
  divisions = (division 1 2) ∷ (division 2 4) ∷ [];
  incidents =
      (incident 1 1 (grid 530100 180100) 2 (needs 1 1 0) 2847 (Some 4000) Active)
      ∷ (incident 1 2 (grid 530201 180000) 1 (needs 0 1 0) 4271 None Active)
      ∷ (incident 2 4 (grid 560200 180000) 2 (needs 2 1 1) 2546 None Closed) ∷ [];
  calls =
      (call 1 1 1 2 2 false (grid 530201 180000) 2 (needs 0 1 0) [] 4271)
      ∷ (call 1 2 1 2 2 true (grid 530100 180000) 1 (needs 0 1 0) (codes "x") 4452)
      ∷ (call 1 4 2 4 4 true (grid 560000 180000) 2 (needs 2 1 1) (codes "x") 2947)
      ∷ (call 1 5 1 1 1 false (grid 530100 180100) 2 (needs 1 0 0) [] 2847)
      ∷ (call 2 3 1 1 1 true (grid 530000 180000) 2 (needs 0 1 0) [] 3386)
      ∷ (call 2 6 2 4 4 false (grid 560200 180000) 2 (needs 2 0 0) [] 2546) ∷ [];
  vehicles =
      (vehicle A1 2 2 Ambulance (grid 531000 180000) Available 5000 None 0 3)
      ∷ (vehicle A2 2 2 Support (grid 530000 180000) Available 2000 None 0 3)
      ∷ (vehicle A3 1 1 Ambulance (grid 530120 180160) Mobilised 5000 None 1 7) ∷ [];
  turns = (turn A3 1 1 1 Ambulance 4000 (Some 4030) None None None None false) ∷ [];
  assignments = (assignment A3 1 1 1 (grid 530100 180100) 2) ∷ [];
  points = (point 1 2 (grid 530200 180000) 0) ∷ [];
  loans = [];
  offers = [];
  reports =
      (report A1 1 button.Mobile 0 (grid 530000 180000) 1764 2 Wrong Available false)
      ∷ (report A1 2 button.Return 0 (grid 530200 180000) 4337 2 Wrong Available false)
      ∷ (report A1 3 button.Scene 0 (grid 530201 180000) 4939 2 Wrong Available false)
      ∷ (report A2 1 button.Leave 0 (grid 530120 180160) 980 2 Wrong Available false)
      ∷ (report A2 2 button.Home 0 (grid 530000 180000) 1643 2 Normal Available false)
      ∷ (report A2 3 button.Mobile 0 (grid 530100 180100) 3519 2 Wrong Available false)
      ∷ (report A3 2 button.Scene 0 (grid 530100 180100) 1644 1 Wrong Available false)
      ∷ (report A3 4 button.Hospital 0 (grid 530100 180000) 2546 1 Wrong Available false)
      ∷ (report A3 5 button.Return 0 (grid 530000 180000) 3188 1 Wrong Available false)
      ∷ (report A3 6 button.Mobile 1 (grid 530120 180160) 4030 1 Normal Mobilised false)
      ∷ (report A3 7 button.Mobile 1 (grid 530120 180160) 4758 1 Normal Mobilised false) ∷ [];
}

queue_of_3_and_4_is_decided : ByWorkingRows 1 ask.Queue 4060 before_queue_of_3_and_4_is_decided
unfolding machine
queue_of_3_and_4_is_decided = refl

abbrev before_recall_is_decided : Room
before_recall_is_decided = record {
  plan = two_divisions;
  divisions = (division 1 2) ∷ (division 2 2) ∷ [];
  incidents =
      (incident 1 1 (grid 530120 180160) 1 (needs 2 1 1) 1554 (Some 3226) Active)
      ∷ (incident 1 2 (grid 530120 180160) 1 (needs 1 1 0) 2983 None Active)
      ∷ (incident 2 1 (grid 560000 180000) 1 (needs 2 1 1) 981 None Active)
      ∷ (incident 2 2 (grid 560100 180000) 3 (needs 2 1 1) 5014 None Active) ∷ [];
  calls =
      (call 1 2 2 1 1 false (grid 560000 180000) 1 (needs 1 0 0) [] 981)
      ∷ (call 1 3 1 2 2 true (grid 530200 180000) 1 (needs 2 0 0) [] 3883)
      ∷ (call 2 2 1 1 1 false (grid 530120 180160) 1 (needs 2 1 1) [] 1554)
      ∷ (call 2 4 1 1 1 true (grid 530100 180100) 2 (needs 1 0 0) [] 1615)
      ∷ (call 2 5 2 2 2 false (grid 560100 180000) 3 (needs 2 1 1) [] 5014)
      ∷ (call 2 6 1 2 2 false (grid 530120 180160) 1 (needs 1 0 0) [] 2983) ∷ [];
  vehicles =
      (vehicle A1 2 1 Support (grid 560000 180000) Mobilised 40000 None 1 2)
      ∷ (vehicle A2 1 1 Ambulance (grid 530120 180160) Leaving 40000 None 1 2) ∷ [];
  turns =
      (turn A1 1 1 1 Support 3950 None None None None None false)
      ∷ (turn A2 1 1 1 Ambulance 3226 None None (Some 3226) None None false) ∷ [];
  assignments = (assignment A1 1 1 1 (grid 530120 180160) 1) ∷ (assignment A2 1 1 1 (grid 530120 180160) 1) ∷ [];
  points = (point 2 2 (grid 530100 180000) 0) ∷ [];
  loans = (loan A1 2 1 3287 3625 true) ∷ [];
  offers = [];
  reports =
      (report A1 1 button.Scene 0 (grid 530300 180400) 1553 2 Wrong Available true)
      ∷ (report A1 2 button.Scene 0 (grid 530200 180000) 3225 2 Wrong Offered false)
      ∷ (report A2 1 button.Home 1 (grid 530000 180000) 3287 1 Late Leaving false)
      ∷ (report A2 2 button.Leave 1 (grid 530120 180160) 3226 1 Skipped Leaving false) ∷ [];
}

recall_is_decided : ByWorkingRows 2 (ask.Recall A1) 6373 before_recall_is_decided
unfolding machine
recall_is_decided = refl

abbrev before_recall_is_decided_2 : Room
before_recall_is_decided_2 = record {
  plan = two_divisions;
  divisions = (division 1 2) ∷ (division 2 3) ∷ [];
  incidents =
      (incident 1 1 (grid 530300 180400) 2 (needs 1 1 0) 1624 None Active)
      ∷ (incident 1 2 (grid 530000 180000) 3 (needs 2 0 0) 2465 None Active) ∷ [];
  calls =
      (call 1 1 1 1 1 true (grid 530300 180400) 3 (needs 1 0 0) (codes "x") 1804)
      ∷ (call 1 6 1 1 1 false (grid 530300 180400) 2 (needs 1 1 0) [] 1624)
      ∷ (call 2 5 1 2 2 false (grid 530000 180000) 3 (needs 2 0 0) [] 2465) ∷ [];
  vehicles =
      (vehicle A1 1 1 Car (grid 530000 180000) OffDuty 0 None 0 2)
      ∷ (vehicle A2 1 2 Car (grid 530201 180000) Available 40000 (Some 2) 0 5)
      ∷ (vehicle A3 2 2 Support (grid 530000 180000) Available 3900 None 0 5)
      ∷ (vehicle B1 1 1 Ambulance (grid 530120 180160) OffDuty 0 None 0 1)
      ∷ (vehicle B2 1 1 Ambulance (grid 530100 180000) OffDuty 0 None 0 0) ∷ [];
  turns = [];
  assignments = [];
  points = (point 2 2 (grid 530100 180100) 1) ∷ [];
  loans = (loan A2 1 2 3300 1693 true) ∷ [];
  offers = [];
  reports =
      (report A1 1 button.Hospital 0 (grid 530100 180100) 3270 1 Wrong OffDuty false)
      ∷ (report A1 2 button.Scene 0 (grid 531000 180000) 3400 1 Wrong OffDuty false)
      ∷ (report A2 1 button.Position 0 (grid 530201 180000) 1341 1 Normal Available false)
      ∷ (report A2 3 button.Return 0 (grid 530200 180000) 2608 1 Wrong Offered true)
      ∷ (report A2 5 button.Scene 0 (grid 530100 180000) 3520 2 Wrong Available false)
      ∷ (report A3 1 button.Mobile 0 (grid 530100 180100) 1040 2 Wrong OffDuty false)
      ∷ (report A3 3 button.Return 0 (grid 530100 180000) 2607 2 Wrong OffDuty false)
      ∷ (report A3 4 button.Leave 0 (grid 530120 180160) 3280 2 Wrong OffDuty false)
      ∷ (report A3 5 button.Mobile 0 (grid 530100 180000) 3887 2 Wrong Available false)
      ∷ (report B1 1 button.Return 0 (grid 530200 180000) 1432 1 Wrong OffDuty false) ∷ [];
}

recall_is_decided_2 : ByWorkingRows 1 (ask.Recall A2) 4250 before_recall_is_decided_2
unfolding machine
recall_is_decided_2 = refl

abbrev before_recall_no_such_vehicle_is_decided : Room
before_recall_no_such_vehicle_is_decided = record {
  plan = two_divisions;
  divisions = (division 1 0) ∷ (division 2 0) ∷ [];
  incidents = [];
  calls = [];
  vehicles =
      (vehicle A1 2 2 Car (grid 560200 180000) Available 5000 None 0 0)
      ∷ (vehicle A2 1 1 Ambulance (grid 560100 180000) Available 40000 None 0 0) ∷ [];
  turns = [];
  assignments = [];
  points = [];
  loans = [];
  offers = [];
  reports = [];
}

recall_no_such_vehicle_is_decided : ByWorkingRows 2
    (ask.Recall Z9) 1481 before_recall_no_such_vehicle_is_decided
unfolding machine
recall_no_such_vehicle_is_decided = refl

abbrev before_recall_no_such_loan_is_decided : Room
before_recall_no_such_loan_is_decided = record {
  plan = two_divisions;
  divisions = (division 1 0) ∷ (division 2 0) ∷ [];
  incidents = [];
  calls = [];
  vehicles =
      (vehicle A1 2 2 Ambulance (grid 560000 180000) Available 5000 None 0 0)
      ∷ (vehicle A2 2 2 Ambulance (grid 530100 180000) OffDuty 0 None 0 0) ∷ [];
  turns = [];
  assignments = [];
  points = [];
  loans = [];
  offers = [];
  reports = [];
}

recall_no_such_loan_is_decided : ByWorkingRows 2
    (ask.Recall A2) 1061 before_recall_no_such_loan_is_decided
unfolding machine
recall_no_such_loan_is_decided = refl

abbrev before_report_leaving_return_skipped_is_decided : Room
before_report_leaving_return_skipped_is_decided = record {
  plan = overlapping_divisions;
  divisions = (division 1 8) ∷ (division 7 3) ∷ [];
  incidents =
      (incident 1 4 (grid 560200 180000) 1 (needs 0 0 1) 1307 None Active)
      ∷ (incident 1 5 (grid 530120 180160) 1 (needs 2 1 1) 2208 None Active)
      ∷ (incident 1 6 (grid 530300 180400) 3 (needs 2 1 1) 2815 (Some 2876) Active)
      ∷ (incident 1 7 (grid 560100 180000) 2 (needs 2 1 1) 3108 None Active)
      ∷ (incident 1 8 (grid 530100 180100) 2 (needs 1 0 0) 6415 None Active) ∷ [];
  calls =
      (call 1 2 1 7 7 false (grid 560100 180000) 3 (needs 2 1 1) [] 3828)
      ∷ (call 1 3 1 6 6 false (grid 530300 180400) 3 (needs 2 1 1) [] 2815)
      ∷ (call 1 4 1 7 7 true (grid 560200 180000) 2 (needs 0 1 0) [] 3108)
      ∷ (call 2 1 1 8 8 false (grid 530100 180100) 2 (needs 1 0 0) (codes "x") 6415)
      ∷ (call 2 3 1 5 5 false (grid 530120 180160) 1 (needs 2 1 1) (codes "x") 2208)
      ∷ (call 2 5 1 4 4 false (grid 560200 180000) 1 (needs 0 0 1) [] 1307) ∷ [];
  vehicles =
      (vehicle A1 1 1 Support (grid 530000 180000) Leaving 5000 None 1 8)
      ∷ (vehicle A2 7 7 Car (grid 530000 180000) Offered 40000 None 0 4) ∷ [];
  turns = (turn A1 1 1 6 Support 2876 (Some 3818) None (Some 3818) None None false) ∷ [];
  assignments = (assignment A1 1 6 1 (grid 530300 180400) 3) ∷ [];
  points =
      (point 1 1 (grid 530300 180400) 0) ∷ (point 1 2 (grid 530200 180000) 0) ∷ (point 7 1 (grid 530300 180400) 2)
      ∷ [];
  loans = [];
  offers = (offer A2 7 1 4273 4273) ∷ [];
  reports =
      (report A1 1 button.Mobile 1 (grid 530201 180000) 3818 1 Normal Mobilised false)
      ∷ (report A1 2 button.Mobile 1 (grid 531000 180000) 3848 1 Normal Mobilised false)
      ∷ (report A1 4 button.Position 1 (grid 530201 180000) 3848 1 Normal Mobilised false)
      ∷ (report A1 5 button.Leave 1 (grid 530200 180000) 3818 1 Skipped Leaving false)
      ∷ (report A1 7 button.Leave 1 (grid 530000 180000) 3820 1 Normal Leaving false)
      ∷ (report A1 8 button.Mobile 1 (grid 530120 180160) 4274 1 Wrong Leaving false)
      ∷ (report A2 1 button.Scene 0 (grid 530300 180400) 1061 7 Wrong Available false)
      ∷ (report A2 2 button.Leave 0 (grid 530300 180400) 4304 7 Wrong Offered false)
      ∷ (report A2 3 button.Hospital 0 (grid 531000 180000) 4815 7 Wrong Offered false)
      ∷ (report A2 4 button.Scene 0 (grid 530000 180000) 4796 7 Wrong Offered false) ∷ [];
}

report_leaving_return_skipped_is_decided : ByOneVehicle A1
    (ask.Report (pressed 10 button.Return 1 (grid 530100 180000))) 4987
    before_report_leaving_return_skipped_is_decided
unfolding machine
report_leaving_return_skipped_is_decided = (refl, refl)

abbrev before_report_at_scene_return_normal_is_decided : Room
before_report_at_scene_return_normal_is_decided = record {
  plan = two_divisions;
  divisions = (division 1 2) ∷ (division 2 2) ∷ [];
  incidents =
      (incident 1 1 (grid 530200 180000) 1 (needs 2 1 1) 1222 None Active)
      ∷ (incident 1 2 (grid 530100 180000) 3 (needs 2 1 1) 3482 None Active)
      ∷ (incident 2 1 (grid 560100 180000) 3 (needs 1 1 0) 1703 (Some 3054) Active)
      ∷ (incident 2 2 (grid 560100 180000) 3 (needs 0 0 1) 2604 None Active) ∷ [];
  calls =
      (call 1 2 1 1 1 false (grid 530200 180000) 3 (needs 0 0 1) [] 1222)
      ∷ (call 1 3 1 2 2 false (grid 530100 180000) 3 (needs 2 1 1) (codes "x") 3482)
      ∷ (call 1 4 1 1 1 true (grid 530100 180100) 1 (needs 2 1 1) (codes "x") 2106)
      ∷ (call 1 6 2 2 2 false (grid 560100 180000) 3 (needs 0 0 1) [] 2604)
      ∷ (call 2 5 2 1 1 false (grid 560100 180000) 3 (needs 1 0 0) [] 1703)
      ∷ (call 2 6 1 1 1 true (grid 530100 180000) 2 (needs 0 0 1) [] 2122) ∷ [];
  vehicles =
      (vehicle A1 2 2 Ambulance (grid 530100 180000) AtScene 40000 None 1 4)
      ∷ (vehicle A2 1 1 Support (grid 530000 180000) Available 7574 None 0 9)
      ∷ (vehicle A3 1 1 Ambulance (grid 530100 180100) Available 43255 None 0 3) ∷ [];
  turns = (turn A1 1 2 1 Ambulance 3054 (Some 3483) (Some 3513) None None None false) ∷ [];
  assignments = (assignment A1 2 1 1 (grid 560100 180000) 3) ∷ [];
  points = (point 1 2 (grid 530000 180000) 2) ∷ (point 2 2 (grid 530120 180160) 0) ∷ [];
  loans = [];
  offers = [];
  reports =
      (report A1 1 button.Mobile 0 (grid 530300 180400) 1211 2 Wrong Available false)
      ∷ (report A1 2 button.Mobile 1 (grid 530000 180000) 3483 2 Normal Mobilised false)
      ∷ (report A1 4 button.Scene 1 (grid 530100 180000) 3513 2 Normal AtScene false)
      ∷ (report A2 1 button.Leave 0 (grid 531000 180000) 1221 1 Wrong OffDuty false)
      ∷ (report A2 2 button.Scene 0 (grid 530100 180000) 2105 1 Wrong OffDuty false)
      ∷ (report A2 4 button.Scene 0 (grid 530120 180160) 2443 1 Wrong OffDuty false)
      ∷ (report A2 5 button.Hospital 0 (grid 530120 180160) 2453 1 Wrong OffDuty false)
      ∷ (report A2 7 button.Leave 0 (grid 530200 180000) 3265 1 Wrong OffDuty false)
      ∷ (report A2 9 button.Home 0 (grid 530201 180000) 3301 1 Wrong OffDuty false)
      ∷ (report A3 2 button.Scene 0 (grid 530100 180100) 2107 1 Wrong OffDuty false)
      ∷ (report A3 3 button.Leave 0 (grid 530100 180100) 2288 1 Wrong OffDuty false) ∷ [];
}

report_at_scene_return_normal_is_decided : ByOneVehicle A1
    (ask.Report (pressed 5 button.Return 1 (grid 530120 180160))) 3575
    before_report_at_scene_return_normal_is_decided
unfolding machine
report_at_scene_return_normal_is_decided = (refl, refl)

abbrev before_report_at_scene_scene_normal_is_decided : Room
before_report_at_scene_scene_normal_is_decided = record {
  plan = overlapping_divisions;
  divisions = (division 1 3) ∷ (division 7 0) ∷ [];
  incidents =
      (incident 1 1 (grid 530100 180100) 2 (needs 2 1 1) 1282 (Some 1707) Active)
      ∷ (incident 1 2 (grid 530300 180400) 1 (needs 0 1 1) 1344 None Active)
      ∷ (incident 1 3 (grid 531000 180000) 2 (needs 1 0 0) 1524 (Some 3779) Active) ∷ [];
  calls =
      (call 1 2 1 2 2 false (grid 530300 180400) 1 (needs 0 1 0) [] 1344)
      ∷ (call 1 6 1 3 3 false (grid 531000 180000) 2 (needs 1 0 0) [] 1524)
      ∷ (call 2 2 1 1 1 true (grid 530100 180100) 2 (needs 2 1 1) [] 2123)
      ∷ (call 2 3 1 2 2 true (grid 530300 180400) 2 (needs 0 1 0) (codes "x") 1824)
      ∷ (call 2 6 1 1 1 false (grid 530100 180100) 2 (needs 1 1 0) [] 1282) ∷ [];
  vehicles =
      (vehicle A1 1 1 Ambulance (grid 531000 180000) AtScene 5000 None 1 5)
      ∷ (vehicle A2 7 7 Ambulance (grid 531000 180000) Available 5000 None 0 5)
      ∷ (vehicle A3 7 7 Ambulance (grid 530000 180000) Available 40000 None 1 3) ∷ [];
  turns =
      (turn A1 1 1 3 Ambulance 3779 (Some 4742) (Some 4757) None None None false)
      ∷ (turn A3 1 1 1 Ambulance 1707 None None None None (Some 2556) false) ∷ [];
  assignments = (assignment A1 1 3 1 (grid 531000 180000) 2) ∷ [];
  points = (point 7 1 (grid 530120 180160) 1) ∷ [];
  loans = [];
  offers = [];
  reports =
      (report A1 1 button.Home 0 (grid 530300 180400) 2143 1 Normal Offered false)
      ∷ (report A1 2 button.Home 0 (grid 531000 180000) 3774 1 Normal Available false)
      ∷ (report A1 3 button.Mobile 1 (grid 530000 180000) 4742 1 Normal Mobilised false)
      ∷ (report A1 5 button.Scene 1 (grid 531000 180000) 4757 1 Normal AtScene false)
      ∷ (report A2 1 button.Position 0 (grid 531000 180000) 980 7 Normal Available false)
      ∷ (report A2 3 button.Leave 0 (grid 530100 180000) 981 7 Wrong Available true)
      ∷ (report A2 5 button.Home 0 (grid 531000 180000) 1531 7 Normal Available false)
      ∷ (report A3 1 button.Leave 0 (grid 530201 180000) 2255 1 Stale Mobilised false)
      ∷ (report A3 3 button.Home 1 (grid 530000 180000) 2556 1 Skipped Available false) ∷ [];
}

report_at_scene_scene_normal_is_decided : ByOneVehicle A1
    (ask.Report (pressed 7 button.Scene 1 (grid 530120 180160))) 4938
    before_report_at_scene_scene_normal_is_decided
unfolding machine
report_at_scene_scene_normal_is_decided = (refl, refl)

abbrev before_report_available_home_normal_is_decided : Room
before_report_available_home_normal_is_decided = record {
  plan = two_divisions;
  divisions = (division 1 3) ∷ (division 2 4) ∷ [];
  incidents =
      (incident 1 1 (grid 530201 180000) 1 (needs 2 1 1) 1601 None Active)
      ∷ (incident 1 2 (grid 530200 180000) 2 (needs 2 1 1) 1601 None (Merged 1))
      ∷ (incident 1 3 (grid 530200 180000) 2 (needs 2 1 1) 6517 None Active)
      ∷ (incident 2 4 (grid 560000 180000) 3 (needs 1 0 0) 1421 None Active) ∷ [];
  calls =
      (call 1 1 2 4 4 false (grid 560000 180000) 3 (needs 1 0 0) (codes "x") 1421)
      ∷ (call 1 3 1 1 2 false (grid 530200 180000) 3 (needs 0 0 1) (codes "x") 5022)
      ∷ (call 1 4 1 3 3 false (grid 530200 180000) 2 (needs 2 1 1) [] 6517)
      ∷ (call 1 6 1 1 2 true (grid 530100 180100) 2 (needs 1 1 0) [] 1601)
      ∷ (call 2 5 1 1 1 false (grid 530201 180000) 1 (needs 1 0 0) [] 1601) ∷ [];
  vehicles =
      (vehicle A1 1 2 Ambulance (grid 530000 180000) Available 40000 (Some 2) 0 1)
      ∷ (vehicle A2 2 2 Support (grid 530300 180400) OffDuty 0 None 0 5)
      ∷ (vehicle A3 2 2 Ambulance (grid 530201 180000) OffDuty 5000 None 0 3) ∷ [];
  turns = [];
  assignments = [];
  points = (point 2 2 (grid 530200 180000) 2) ∷ [];
  loans = (loan A1 1 2 40001 1497 true) ∷ [];
  offers = [];
  reports =
      (report A1 1 button.Position 0 (grid 530000 180000) 5549 2 Normal Available false)
      ∷ (report A2 1 button.Position 0 (grid 530300 180400) 1301 2 Wrong OffDuty false)
      ∷ (report A2 2 button.Position 0 (grid 530300 180400) 1426 2 Wrong OffDuty false)
      ∷ (report A2 3 button.Return 0 (grid 530000 180000) 3612 2 Wrong OffDuty false)
      ∷ (report A2 4 button.Position 0 (grid 530201 180000) 4586 2 Wrong OffDuty true)
      ∷ (report A2 5 button.Hospital 0 (grid 531000 180000) 6336 2 Wrong OffDuty false)
      ∷ (report A3 2 button.Home 0 (grid 530201 180000) 1436 2 Normal Available false)
      ∷ (report A3 3 button.Scene 0 (grid 530000 180000) 1497 2 Wrong OffDuty false) ∷ [];
}

report_available_home_normal_is_decided : ByOneVehicle A1
    (ask.Report (pressed 2 button.Home 0 (grid 530100 180000))) 6477
    before_report_available_home_normal_is_decided
unfolding machine
report_available_home_normal_is_decided = (refl, refl)

abbrev before_report_leaving_mobile_wrong_is_decided : Room
before_report_leaving_mobile_wrong_is_decided = record {
  plan = overlapping_divisions;
  divisions = (division 1 7) ∷ (division 7 3) ∷ [];
  incidents =
      (incident 1 4 (grid 560200 180000) 1 (needs 0 0 1) 1307 None Active)
      ∷ (incident 1 5 (grid 530120 180160) 1 (needs 2 1 1) 2208 None Active)
      ∷ (incident 1 6 (grid 530300 180400) 3 (needs 2 1 1) 2815 (Some 2876) Active)
      ∷ (incident 1 7 (grid 560100 180000) 2 (needs 2 1 1) 3108 None Active) ∷ [];
  calls =
      (call 1 2 1 7 7 false (grid 560100 180000) 3 (needs 2 1 1) [] 3828)
      ∷ (call 1 3 1 6 6 false (grid 530300 180400) 3 (needs 2 1 1) [] 2815)
      ∷ (call 1 4 1 7 7 true (grid 560200 180000) 2 (needs 0 1 0) [] 3108)
      ∷ (call 2 3 1 5 5 false (grid 530120 180160) 1 (needs 2 1 1) (codes "x") 2208)
      ∷ (call 2 5 1 4 4 false (grid 560200 180000) 1 (needs 0 0 1) [] 1307) ∷ [];
  vehicles =
      (vehicle A1 1 1 Support (grid 530000 180000) Leaving 5000 None 1 7)
      ∷ (vehicle A2 7 7 Car (grid 530000 180000) Offered 40000 None 0 1) ∷ [];
  turns = (turn A1 1 1 6 Support 2876 (Some 3818) None (Some 3818) None None false) ∷ [];
  assignments = (assignment A1 1 6 1 (grid 530300 180400) 3) ∷ [];
  points = (point 1 1 (grid 530300 180400) 0) ∷ (point 1 2 (grid 530200 180000) 0) ∷ [];
  loans = [];
  offers = (offer A2 7 1 4273 4273) ∷ [];
  reports =
      (report A1 1 button.Mobile 1 (grid 530201 180000) 3818 1 Normal Mobilised false)
      ∷ (report A1 2 button.Mobile 1 (grid 531000 180000) 3848 1 Normal Mobilised false)
      ∷ (report A1 4 button.Position 1 (grid 530201 180000) 3848 1 Normal Mobilised false)
      ∷ (report A1 5 button.Leave 1 (grid 530200 180000) 3818 1 Skipped Leaving false)
      ∷ (report A1 7 button.Leave 1 (grid 530000 180000) 3820 1 Normal Leaving false)
      ∷ (report A2 1 button.Scene 0 (grid 530300 180400) 1061 7 Wrong Available false) ∷ [];
}

report_leaving_mobile_wrong_is_decided : ByOneVehicle A1
    (ask.Report (pressed 8 button.Mobile 1 (grid 530120 180160))) 4274
    before_report_leaving_mobile_wrong_is_decided
unfolding machine
report_leaving_mobile_wrong_is_decided = (refl, refl)

abbrev before_report_at_hospital_hospital_normal_is_decided : Room
before_report_at_hospital_hospital_normal_is_decided = record {
  plan = two_divisions;
  divisions = (division 1 3) ∷ (division 2 0) ∷ [];
  incidents =
      (incident 1 1 (grid 530300 180400) 2 (needs 0 1 0) 2641 None Active)
      ∷ (incident 1 2 (grid 531000 180000) 2 (needs 2 1 1) 2821 (Some 3550) Active)
      ∷ (incident 1 3 (grid 530201 180000) 1 (needs 2 0 0) 2822 (Some 3605) Active) ∷ [];
  calls =
      (call 1 1 1 3 3 false (grid 530201 180000) 1 (needs 2 0 0) (codes "x") 2822)
      ∷ (call 1 3 1 2 2 true (grid 531000 180000) 2 (needs 2 1 1) (codes "x") 2822)
      ∷ (call 1 4 1 1 1 false (grid 530300 180400) 2 (needs 0 1 0) [] 2641)
      ∷ (call 2 3 1 2 2 false (grid 531000 180000) 2 (needs 1 0 0) [] 2821) ∷ [];
  vehicles =
      (vehicle A1 2 1 Ambulance (grid 530000 180000) Returning 40000 None 1 6)
      ∷ (vehicle A2 1 1 Ambulance (grid 530000 180000) AtHospital 42460 None 1 7) ∷ [];
  turns =
      (turn A1 1 1 3 Ambulance 3605 None None None None (Some 4303) true)
      ∷ (turn A2 1 1 2 Ambulance 3550 (Some 3635) None None (Some 4283) None false) ∷ [];
  assignments = (assignment A2 1 2 1 (grid 531000 180000) 2) ∷ [];
  points = [];
  loans = (loan A1 2 1 39999 40099 false) ∷ [];
  offers = [];
  reports =
      (report A1 1 button.Mobile 0 (grid 530201 180000) 1601 2 Wrong Offered false)
      ∷ (report A1 2 button.Hospital 0 (grid 530100 180100) 1667 2 Wrong Offered false)
      ∷ (report A1 4 button.Leave 0 (grid 530300 180400) 2642 2 Wrong Offered false)
      ∷ (report A1 6 button.Return 0 (grid 530300 180400) 3159 1 Wrong Available false)
      ∷ (report A2 1 button.Home 0 (grid 530200 180000) 1949 1 Wrong OffDuty false)
      ∷ (report A2 3 button.Mobile 0 (grid 530100 180100) 3189 1 Wrong Available false)
      ∷ (report A2 4 button.Position 1 (grid 530100 180100) 3575 1 Normal Mobilised false)
      ∷ (report A2 6 button.Mobile 1 (grid 530300 180400) 3635 1 Normal Mobilised false)
      ∷ (report A2 7 button.Hospital 1 (grid 530000 180000) 4283 1 Skipped AtHospital false) ∷ [];
}

report_at_hospital_hospital_normal_is_decided : ByOneVehicle A2
    (ask.Report (pressed 9 button.Hospital 1 (grid 531000 180000))) 4764
    before_report_at_hospital_hospital_normal_is_decided
unfolding machine
report_at_hospital_hospital_normal_is_decided = (refl, refl)

abbrev before_report_at_scene_home_skipped_is_decided : Room
before_report_at_scene_home_skipped_is_decided = record {
  plan = two_divisions;
  divisions = (division 1 2) ∷ (division 2 1) ∷ [];
  incidents =
      (incident 1 1 (grid 530200 180000) 1 (needs 1 1 0) 1900 None Active)
      ∷ (incident 1 2 (grid 530300 180400) 1 (needs 2 1 1) 2380 None Active)
      ∷ (incident 2 1 (grid 560000 180000) 2 (needs 1 0 0) 1000 (Some 1667) Active) ∷ [];
  calls =
      (call 1 3 1 1 1 true (grid 530100 180000) 2 (needs 1 1 0) [] 2405)
      ∷ (call 1 5 1 1 1 false (grid 530200 180000) 1 (needs 1 1 0) [] 1900)
      ∷ (call 2 2 1 2 2 false (grid 530300 180400) 1 (needs 2 1 1) [] 2380)
      ∷ (call 2 6 2 1 1 false (grid 560000 180000) 2 (needs 1 0 0) [] 1000) ∷ [];
  vehicles =
      (vehicle A1 2 2 Ambulance (grid 560200 180000) Available 5000 None 0 1)
      ∷ (vehicle A2 2 2 Support (grid 560000 180000) Available 5000 None 0 3)
      ∷ (vehicle A3 2 2 Ambulance (grid 530100 180000) AtScene 5000 None 1 5) ∷ [];
  turns = (turn A3 1 2 1 Ambulance 1667 (Some 1782) (Some 3508) None None None false) ∷ [];
  assignments = (assignment A3 2 1 1 (grid 560000 180000) 2) ∷ [];
  points = (point 1 2 (grid 530100 180100) 2) ∷ (point 2 2 (grid 530100 180100) 0) ∷ [];
  loans = [];
  offers = [];
  reports =
      (report A1 1 button.Mobile 0 (grid 530100 180000) 1843 2 Wrong Available false)
      ∷ (report A2 1 button.Return 0 (grid 530000 180000) 1652 2 Wrong Available false)
      ∷ (report A2 3 button.Mobile 0 (grid 530000 180000) 2424 2 Wrong Available false)
      ∷ (report A3 1 button.Mobile 0 (grid 530201 180000) 1682 2 Stale Mobilised false)
      ∷ (report A3 3 button.Mobile 1 (grid 530100 180100) 1782 2 Normal Mobilised false)
      ∷ (report A3 5 button.Scene 1 (grid 530100 180000) 3508 2 Normal AtScene false) ∷ [];
}

report_at_scene_home_skipped_is_decided : ByOneVehicle A3
    (ask.Report (pressed 6 button.Home 1 (grid 530200 180000))) 3509
    before_report_at_scene_home_skipped_is_decided
unfolding machine
report_at_scene_home_skipped_is_decided = (refl, refl)

abbrev before_report_at_hospital_home_skipped_is_decided : Room
before_report_at_hospital_home_skipped_is_decided = record {
  plan = overlapping_divisions;
  divisions = (division 1 1) ∷ (division 7 3) ∷ [];
  incidents = (incident 1 1 (grid 530201 180000) 2 (needs 2 1 1) 2689 (Some 4357) Active) ∷ [];
  calls = (call 2 6 1 1 1 false (grid 530201 180000) 2 (needs 2 1 1) [] 2689) ∷ [];
  vehicles =
      (vehicle A1 7 7 Ambulance (grid 530120 180160) OffDuty 8569 None 0 2)
      ∷ (vehicle A2 1 1 Ambulance (grid 530200 180000) Available 1482 None 0 5)
      ∷ (vehicle A3 1 1 Support (grid 530300 180400) AtHospital 40000 None 1 5) ∷ [];
  turns = (turn A3 1 1 1 Support 4357 (Some 4388) None None (Some 4847) None false) ∷ [];
  assignments = (assignment A3 1 1 1 (grid 530201 180000) 2) ∷ [];
  points =
      (point 1 1 (grid 530300 180400) 0) ∷ (point 1 2 (grid 530120 180160) 1) ∷ (point 7 2 (grid 530000 180000) 2)
      ∷ [];
  loans = [];
  offers = [];
  reports =
      (report A1 1 button.Home 0 (grid 530300 180400) 3755 7 Wrong OffDuty false)
      ∷ (report A1 2 button.Leave 0 (grid 530000 180000) 4449 7 Wrong OffDuty false)
      ∷ (report A2 1 button.Position 0 (grid 530300 180400) 2809 1 Normal Available false)
      ∷ (report A2 2 button.Return 0 (grid 531000 180000) 2839 1 Wrong Available false)
      ∷ (report A2 3 button.Leave 0 (grid 530100 180100) 3569 1 Wrong Available false)
      ∷ (report A2 5 button.Position 0 (grid 530200 180000) 4847 1 Normal Available false)
      ∷ (report A3 2 button.Hospital 0 (grid 530201 180000) 3020 1 Wrong Available true)
      ∷ (report A3 4 button.Mobile 1 (grid 530100 180100) 4388 1 Normal Mobilised false)
      ∷ (report A3 5 button.Hospital 1 (grid 530300 180400) 4847 1 Skipped AtHospital false) ∷ [];
}

report_at_hospital_home_skipped_is_decided : ByOneVehicle A3
    (ask.Report (pressed 6 button.Home 1 (grid 530300 180400))) 5328
    before_report_at_hospital_home_skipped_is_decided
unfolding machine
report_at_hospital_home_skipped_is_decided = (refl, refl)

abbrev before_report_at_scene_hospital_skipped_is_decided : Room
before_report_at_scene_hospital_skipped_is_decided = record {
  plan = two_divisions;
  divisions = (division 1 1) ∷ (division 2 0) ∷ [];
  incidents = (incident 1 1 (grid 530100 180100) 2 (needs 2 1 0) 2816 (Some 3531) Active) ∷ [];
  calls =
      (call 1 1 1 1 1 true (grid 530201 180000) 2 (needs 1 0 0) [] 3365)
      ∷ (call 2 1 1 1 1 true (grid 530000 180000) 3 (needs 2 0 0) (codes "x") 3657)
      ∷ (call 2 3 1 1 1 true (grid 530201 180000) 2 (needs 0 1 0) [] 3526)
      ∷ (call 2 5 1 1 1 false (grid 530100 180100) 2 (needs 2 0 0) (codes "x") 2816) ∷ [];
  vehicles =
      (vehicle A1 1 1 Ambulance (grid 530201 180000) AtScene 5000 None 1 7)
      ∷ (vehicle A2 1 1 Ambulance (grid 560200 180000) Available 2000 None 0 1) ∷ [];
  turns = (turn A1 1 1 1 Ambulance 3531 (Some 4012) (Some 3992) None None None false) ∷ [];
  assignments = (assignment A1 1 1 1 (grid 530100 180100) 2) ∷ [];
  points =
      (point 1 2 (grid 530120 180160) 2) ∷ (point 2 1 (grid 530120 180160) 2) ∷ (point 2 2 (grid 530200 180000) 2)
      ∷ [];
  loans = [];
  offers = [];
  reports =
      (report A1 1 button.Position 0 (grid 530100 180000) 1963 1 Normal Available false)
      ∷ (report A1 2 button.Scene 0 (grid 531000 180000) 2571 1 Wrong Available true)
      ∷ (report A1 4 button.Scene 0 (grid 530100 180100) 2576 1 Wrong Available false)
      ∷ (report A1 5 button.Mobile 1 (grid 530120 180160) 4012 1 Normal Mobilised false)
      ∷ (report A1 7 button.Scene 1 (grid 530201 180000) 3992 1 Normal AtScene false)
      ∷ (report A2 1 button.Scene 0 (grid 530300 180400) 2510 1 Wrong Available false) ∷ [];
}

report_at_scene_hospital_skipped_is_decided : ByOneVehicle A1
    (ask.Report (pressed 9 button.Hospital 1 (grid 530100 180000))) 4234
    before_report_at_scene_hospital_skipped_is_decided
unfolding machine
report_at_scene_hospital_skipped_is_decided = (refl, refl)

abbrev before_report_leaving_leave_normal_is_decided : Room
before_report_leaving_leave_normal_is_decided = record {
  plan = overlapping_divisions;
  divisions = (division 1 7) ∷ (division 7 3) ∷ [];
  incidents =
      (incident 1 4 (grid 560200 180000) 1 (needs 0 0 1) 1307 None Active)
      ∷ (incident 1 5 (grid 530120 180160) 1 (needs 2 1 1) 2208 None Active)
      ∷ (incident 1 6 (grid 530300 180400) 3 (needs 2 1 1) 2815 (Some 2876) Active)
      ∷ (incident 1 7 (grid 560100 180000) 3 (needs 2 1 1) 3828 None Active) ∷ [];
  calls =
      (call 1 2 1 7 7 false (grid 560100 180000) 3 (needs 2 1 1) [] 3828)
      ∷ (call 1 3 1 6 6 false (grid 530300 180400) 3 (needs 2 1 1) [] 2815)
      ∷ (call 2 3 1 5 5 false (grid 530120 180160) 1 (needs 2 1 1) (codes "x") 2208)
      ∷ (call 2 5 1 4 4 false (grid 560200 180000) 1 (needs 0 0 1) [] 1307) ∷ [];
  vehicles =
      (vehicle A1 1 1 Support (grid 530200 180000) Leaving 5000 None 1 5)
      ∷ (vehicle A2 7 7 Car (grid 530000 180000) Available 40000 None 0 1) ∷ [];
  turns = (turn A1 1 1 6 Support 2876 (Some 3818) None (Some 3818) None None false) ∷ [];
  assignments = (assignment A1 1 6 1 (grid 530300 180400) 3) ∷ [];
  points = (point 1 1 (grid 530300 180400) 0) ∷ (point 1 2 (grid 530200 180000) 0) ∷ [];
  loans = [];
  offers = [];
  reports =
      (report A1 1 button.Mobile 1 (grid 530201 180000) 3818 1 Normal Mobilised false)
      ∷ (report A1 2 button.Mobile 1 (grid 531000 180000) 3848 1 Normal Mobilised false)
      ∷ (report A1 4 button.Position 1 (grid 530201 180000) 3848 1 Normal Mobilised false)
      ∷ (report A1 5 button.Leave 1 (grid 530200 180000) 3818 1 Skipped Leaving false)
      ∷ (report A2 1 button.Scene 0 (grid 530300 180400) 1061 7 Wrong Available false) ∷ [];
}

report_leaving_leave_normal_is_decided : ByOneVehicle A1
    (ask.Report (pressed 7 button.Leave 1 (grid 530000 180000))) 3820
    before_report_leaving_leave_normal_is_decided
unfolding machine
report_leaving_leave_normal_is_decided = (refl, refl)

abbrev before_report_at_hospital_scene_wrong_is_decided : Room
before_report_at_hospital_scene_wrong_is_decided = record {
  plan = two_divisions;
  divisions = (division 1 1) ∷ (division 2 1) ∷ [];
  incidents =
      (incident 1 1 (grid 530120 180160) 3 (needs 2 1 1) 1130 (Some 2030) Active)
      ∷ (incident 2 1 (grid 560000 180000) 2 (needs 0 1 0) 1120 (Some 1110) Active) ∷ [];
  calls =
      (call 1 3 1 1 1 false (grid 530120 180160) 3 (needs 2 1 1) [] 1130)
      ∷ (call 2 5 2 1 1 false (grid 560000 180000) 2 (needs 0 1 0) [] 1120) ∷ [];
  vehicles =
      (vehicle A1 2 2 Car (grid 530100 180100) AtHospital 5000 None 1 4)
      ∷ (vehicle A2 1 1 Support (grid 530200 180000) Mobilised 6915 None 1 2)
      ∷ (vehicle A3 2 2 Car (grid 531000 180000) OffDuty 0 None 0 1) ∷ [];
  turns =
      (turn A1 1 2 1 Car 1110 (Some 1291) (Some 3817) (Some 4298) (Some 5859) None false)
      ∷ (turn A2 1 1 1 Support 2030 None None None None None false) ∷ [];
  assignments = (assignment A1 2 1 1 (grid 560000 180000) 2) ∷ (assignment A2 1 1 1 (grid 530120 180160) 3) ∷ [];
  points = [];
  loans = [];
  offers = [];
  reports =
      (report A1 1 button.Mobile 1 (grid 530300 180400) 1291 2 Normal Mobilised false)
      ∷ (report A1 2 button.Scene 1 (grid 530120 180160) 3817 2 Normal AtScene false)
      ∷ (report A1 3 button.Leave 1 (grid 530200 180000) 4298 2 Normal Leaving false)
      ∷ (report A1 4 button.Hospital 1 (grid 530100 180100) 5859 2 Normal AtHospital false)
      ∷ (report A2 1 button.Position 0 (grid 530200 180000) 3396 1 Normal Available false)
      ∷ (report A2 2 button.Return 0 (grid 530200 180000) 5428 1 Wrong Available true)
      ∷ (report A3 1 button.Leave 0 (grid 530201 180000) 2675 2 Wrong OffDuty true) ∷ [];
}

report_at_hospital_scene_wrong_is_decided : ByOneVehicle A1
    (ask.Report (pressed 6 button.Scene 1 (grid 530100 180100))) 5860
    before_report_at_hospital_scene_wrong_is_decided
unfolding machine
report_at_hospital_scene_wrong_is_decided = (refl, refl)

abbrev before_report_returning_home_normal_is_decided : Room
before_report_returning_home_normal_is_decided = record {
  plan = two_divisions;
  divisions = (division 1 2) ∷ (division 2 1) ∷ [];
  incidents =
      (incident 1 1 (grid 531000 180000) 1 (needs 1 0 0) 1511 None Active)
      ∷ (incident 1 2 (grid 530100 180000) 2 (needs 1 1 1) 2536 (Some 2602) Active)
      ∷ (incident 2 1 (grid 560000 180000) 3 (needs 1 0 0) 2716 None Active) ∷ [];
  calls =
      (call 1 3 1 1 1 false (grid 531000 180000) 1 (needs 1 0 0) (codes "x") 1511)
      ∷ (call 1 5 1 2 2 true (grid 530201 180000) 2 (needs 0 0 1) [] 3301)
      ∷ (call 1 6 2 1 1 false (grid 560000 180000) 3 (needs 1 0 0) [] 2716)
      ∷ (call 2 2 1 2 2 false (grid 530100 180000) 3 (needs 1 1 0) (codes "x") 2536) ∷ [];
  vehicles =
      (vehicle A1 1 1 Ambulance (grid 530300 180400) Returning 40000 (Some 1) 1 4)
      ∷ (vehicle A2 2 2 Support (grid 531000 180000) OffDuty 0 None 0 3) ∷ [];
  turns = (turn A1 1 1 2 Ambulance 2602 None None None None (Some 2783) false) ∷ [];
  assignments = [];
  points = (point 1 1 (grid 530000 180000) 2) ∷ (point 2 1 (grid 530000 180000) 1) ∷ [];
  loans = [];
  offers = [];
  reports =
      (report A1 1 button.Mobile 0 (grid 530100 180000) 1633 1 Late Available false)
      ∷ (report A1 2 button.Home 0 (grid 530201 180000) 1512 1 Normal Available false)
      ∷ (report A1 3 button.Scene 0 (grid 530300 180400) 2541 1 Wrong Available false)
      ∷ (report A1 4 button.Return 1 (grid 530300 180400) 2783 1 Skipped Returning false)
      ∷ (report A2 1 button.Return 0 (grid 531000 180000) 2416 2 Wrong OffDuty false)
      ∷ (report A2 3 button.Return 0 (grid 530120 180160) 3146 2 Wrong OffDuty false) ∷ [];
}

report_returning_home_normal_is_decided : ByOneVehicle A1
    (ask.Report (pressed 5 button.Home 1 (grid 531000 180000))) 3364
    before_report_returning_home_normal_is_decided
unfolding machine
report_returning_home_normal_is_decided = (refl, refl)

abbrev before_report_at_hospital_home_skipped_is_decided_2 : Room
before_report_at_hospital_home_skipped_is_decided_2 = record {
  plan = overlapping_divisions;
  divisions = (division 1 2) ∷ (division 7 4) ∷ [];
  incidents =
      (incident 1 1 (grid 530200 180000) 1 (needs 0 1 0) 1872 None (Merged 2))
      ∷ (incident 1 2 (grid 531000 180000) 1 (needs 0 1 0) 1062 None Active)
      ∷ (incident 7 4 (grid 530000 180000) 2 (needs 2 1 1) 1031 (Some 2832) Active) ∷ [];
  calls =
      (call 1 1 7 4 4 false (grid 530000 180000) 2 (needs 2 1 1) [] 1031)
      ∷ (call 1 3 1 2 2 false (grid 531000 180000) 1 (needs 0 1 0) [] 1062)
      ∷ (call 1 4 1 2 1 false (grid 530200 180000) 1 (needs 0 1 0) [] 1872) ∷ [];
  vehicles =
      (vehicle A1 7 7 Car (grid 530300 180400) OffDuty 0 None 0 0)
      ∷ (vehicle A2 1 7 Ambulance (grid 530100 180100) AtHospital 5067 None 1 1)
      ∷ (vehicle A3 1 1 Ambulance (grid 530100 180100) Available 1968 None 0 3) ∷ [];
  turns = (turn A2 1 7 4 Ambulance 2832 None None None (Some 2450) None false) ∷ [];
  assignments = (assignment A2 7 4 1 (grid 530000 180000) 2) ∷ [];
  points = (point 1 1 (grid 530200 180000) 1) ∷ [];
  loans = (loan A2 1 7 2050 2449 false) ∷ [];
  offers = [];
  reports =
      (report A2 1 button.Hospital 1 (grid 530100 180100) 2450 7 Skipped AtHospital false)
      ∷ (report A3 1 button.Leave 0 (grid 530201 180000) 1469 1 Wrong Available false)
      ∷ (report A3 3 button.Mobile 0 (grid 530300 180400) 3795 1 Wrong Available false) ∷ [];
}

report_at_hospital_home_skipped_is_decided_2 : ByOneVehicle A2
    (ask.Report (pressed 2 button.Home 1 (grid 530300 180400))) 4919
    before_report_at_hospital_home_skipped_is_decided_2
unfolding machine
report_at_hospital_home_skipped_is_decided_2 = (refl, refl)

abbrev before_report_mobilised_home_skipped_is_decided : Room
before_report_mobilised_home_skipped_is_decided = record {
  plan = two_divisions;
  divisions = (division 1 1) ∷ (division 2 1) ∷ [];
  incidents =
      (incident 1 1 (grid 530100 180100) 2 (needs 2 1 1) 2112 (Some 3715) Active)
      ∷ (incident 2 1 (grid 560100 180000) 2 (needs 1 0 0) 4558 None Active) ∷ [];
  calls =
      (call 1 6 2 1 1 false (grid 560100 180000) 2 (needs 1 0 0) [] 4558)
      ∷ (call 2 3 1 1 1 false (grid 530100 180100) 2 (needs 2 1 1) [] 2112)
      ∷ (call 2 5 1 1 1 true (grid 530100 180000) 2 (needs 0 1 0) [] 2564) ∷ [];
  vehicles =
      (vehicle A1 1 1 Ambulance (grid 530100 180100) OffDuty 0 None 0 1)
      ∷ (vehicle A2 2 1 Car (grid 530201 180000) Mobilised 40000 None 1 3)
      ∷ (vehicle A3 2 2 Ambulance (grid 531000 180000) Available 3655 None 0 0) ∷ [];
  turns = (turn A2 1 1 1 Car 3715 None None None None None false) ∷ [];
  assignments = (assignment A2 1 1 1 (grid 530100 180100) 2) ∷ [];
  points = (point 2 2 (grid 530300 180400) 0) ∷ [];
  loans = (loan A2 2 1 40000 2903 false) ∷ [];
  offers = [];
  reports =
      (report A1 1 button.Hospital 0 (grid 530200 180000) 1579 1 Wrong OffDuty false)
      ∷ (report A2 1 button.Return 0 (grid 530201 180000) 1030 2 Wrong Available false)
      ∷ (report A2 2 button.Hospital 0 (grid 530300 180400) 2232 2 Late Available false)
      ∷ (report A2 3 button.Hospital 0 (grid 530200 180000) 1298 2 Wrong Available false) ∷ [];
}

report_mobilised_home_skipped_is_decided : ByOneVehicle A2
    (ask.Report (pressed 5 button.Home 1 (grid 530200 180000))) 2903
    before_report_mobilised_home_skipped_is_decided
unfolding machine
report_mobilised_home_skipped_is_decided = (refl, refl)

abbrev before_report_leaving_scene_late_is_decided : Room
before_report_leaving_scene_late_is_decided = record {
  plan = overlapping_divisions;
  divisions = (division 1 2) ∷ (division 7 3) ∷ [];
  incidents =
      (incident 1 1 (grid 530100 180100) 3 (needs 1 1 0) 1301 (Some 1421) Active)
      ∷ (incident 1 2 (grid 531000 180000) 2 (needs 1 0 0) 2216 None Active) ∷ [];
  calls =
      (call 1 1 1 2 2 false (grid 531000 180000) 2 (needs 1 0 0) [] 2216)
      ∷ (call 2 3 1 1 1 false (grid 530100 180100) 3 (needs 1 1 0) [] 1301) ∷ [];
  vehicles =
      (vehicle A1 7 1 Ambulance (grid 560100 180000) Mobilised 40000 None 1 1)
      ∷ (vehicle A2 1 1 Car (grid 530300 180400) Available 2000 None 0 2)
      ∷ (vehicle A3 1 1 Car (grid 530120 180160) Leaving 40000 None 1 4) ∷ [];
  turns =
      (turn A1 1 1 1 Ambulance 4901 None None None None None false)
      ∷ (turn A3 1 1 1 Car 1421 (Some 1422) (Some 1903) (Some 1964) None None false) ∷ [];
  assignments = (assignment A1 1 1 1 (grid 530100 180100) 3) ∷ (assignment A3 1 1 1 (grid 530100 180100) 3) ∷ [];
  points = [];
  loans = (loan A1 7 1 3219 2176 false) ∷ [];
  offers = [];
  reports =
      (report A1 1 button.Mobile 0 (grid 530300 180400) 2084 7 Wrong Available true)
      ∷ (report A2 1 button.Home 0 (grid 530300 180400) 3489 1 Normal Available false)
      ∷ (report A2 2 button.Scene 0 (grid 530100 180100) 4151 1 Wrong Available false)
      ∷ (report A3 1 button.Mobile 1 (grid 530201 180000) 1422 1 Normal Mobilised false)
      ∷ (report A3 2 button.Scene 1 (grid 530200 180000) 1903 1 Normal AtScene false)
      ∷ (report A3 4 button.Leave 1 (grid 530120 180160) 1964 1 Normal Leaving false) ∷ [];
}

report_leaving_scene_late_is_decided : ByOneVehicle A3
    (ask.Report (pressed 3 button.Scene 1 (grid 530200 180000))) 4181
    before_report_leaving_scene_late_is_decided
unfolding machine
report_leaving_scene_late_is_decided = (refl, refl)

abbrev before_report_leaving_hospital_normal_is_decided : Room
before_report_leaving_hospital_normal_is_decided = record {
  plan = two_divisions;
  divisions = (division 1 4) ∷ (division 2 1) ∷ [];
  incidents =
      (incident 1 4 (grid 530100 180000) 1 (needs 1 0 0) 1186 (Some 2149) Active)
      ∷ (incident 2 1 (grid 560000 180000) 2 (needs 2 0 0) 4688 None Active) ∷ [];
  calls =
      (call 1 6 1 4 4 false (grid 530100 180000) 1 (needs 1 0 0) (codes "x") 1186)
      ∷ (call 2 3 2 1 1 false (grid 560000 180000) 2 (needs 2 0 0) (codes "x") 4688) ∷ [];
  vehicles =
      (vehicle A1 1 1 Ambulance (grid 530100 180000) Available 8446 None 2147483647 0)
      ∷ (vehicle A2 1 1 Ambulance (grid 530300 180400) Available 2000 None 0 3)
      ∷ (vehicle A3 1 1 Ambulance (grid 530200 180000) Leaving 40000 None 1 4)
      ∷ (vehicle B1 2 2 Ambulance (grid 530100 180100) Available 3899 None 0 0)
      ∷ (vehicle B2 2 2 Ambulance (grid 530100 180100) Available 5181 None 0 0) ∷ [];
  turns = (turn A3 1 1 4 Ambulance 2149 (Some 4627) None (Some 4753) None None false) ∷ [];
  assignments = (assignment A3 1 4 1 (grid 530100 180000) 1) ∷ [];
  points = [];
  loans = [];
  offers = [];
  reports =
      (report A2 2 button.Scene 0 (grid 530300 180400) 1668 1 Wrong Available false)
      ∷ (report A2 3 button.Home 0 (grid 530300 180400) 2936 1 Normal Available false)
      ∷ (report A3 1 button.Mobile 1 (grid 530200 180000) 4627 1 Normal Mobilised false)
      ∷ (report A3 2 button.Leave 1 (grid 530200 180000) 4753 1 Skipped Leaving false)
      ∷ (report A3 4 button.Hospital 0 (grid 530201 180000) 4759 1 Stale Leaving false) ∷ [];
}

report_leaving_hospital_normal_is_decided : ByOneVehicle A3
    (ask.Report (pressed 5 button.Hospital 1 (grid 530120 180160))) 5702
    before_report_leaving_hospital_normal_is_decided
unfolding machine
report_leaving_hospital_normal_is_decided = (refl, refl)

abbrev before_report_kept_is_decided : Room
before_report_kept_is_decided = record {
  plan = overlapping_divisions;
  divisions = (division 1 1) ∷ (division 7 0) ∷ [];
  incidents = (incident 1 1 (grid 530100 180000) 1 (needs 1 1 0) 1362 (Some 1844) Active) ∷ [];
  calls =
      (call 1 1 1 1 1 false (grid 530100 180000) 1 (needs 1 0 0) [] 1362)
      ∷ (call 2 4 1 1 1 true (grid 530201 180000) 1 (needs 1 1 0) [] 1543) ∷ [];
  vehicles =
      (vehicle A1 1 1 Ambulance (grid 530100 180100) Returning 2000 None 1 2)
      ∷ (vehicle A2 1 1 Ambulance (grid 530100 180100) OffDuty 0 None 2147483647 3) ∷ [];
  turns = (turn A1 1 1 1 Ambulance 1844 None None None None (Some 2132) false) ∷ [];
  assignments = [];
  points = [];
  loans = [];
  offers = [];
  reports =
      (report A1 2 button.Return 1 (grid 530100 180100) 2132 1 Skipped Returning false)
      ∷ (report A2 2 button.Home 2147483647 (grid 530100 180000) 1663 1 Wrong OffDuty false)
      ∷ (report A2 3 button.Leave 2147483647 (grid 531000 180000) 2152 1 Wrong OffDuty false) ∷ [];
}

report_kept_is_decided : ByOneVehicle A1
    (ask.Report (pressed 2 button.Return 1 (grid 530100 180100))) 2158 before_report_kept_is_decided
unfolding machine
report_kept_is_decided = (refl, refl)

abbrev before_report_kept_is_decided_2 : Room
before_report_kept_is_decided_2 = record {
  plan = two_divisions;
  divisions = (division 1 1) ∷ (division 2 0) ∷ [];
  incidents = (incident 1 1 (grid 530100 180100) 1 (needs 0 0 1) 1041 None Active) ∷ [];
  calls = (call 2 5 1 1 1 false (grid 530100 180100) 1 (needs 0 0 1) [] 1041) ∷ [];
  vehicles =
      (vehicle A1 2 2 Ambulance (grid 530120 180160) Available 1047 None 0 4)
      ∷ (vehicle A2 1 1 Car (grid 560000 180000) OffDuty 0 None 0 2) ∷ [];
  turns = [];
  assignments = [];
  points = [];
  loans = [];
  offers = [];
  reports =
      (report A1 2 button.Position 0 (grid 530120 180160) 1327 2 Normal Available false)
      ∷ (report A1 3 button.Mobile 0 (grid 530100 180100) 1989 2 Late Available false)
      ∷ (report A1 4 button.Scene 0 (grid 530100 180000) 1808 2 Wrong Available false)
      ∷ (report A2 2 button.Position 0 (grid 530201 180000) 1347 1 Wrong OffDuty false) ∷ [];
}

report_kept_is_decided_2 : ByOneVehicle A1
    (ask.Report (pressed 3 button.Mobile 0 (grid 530100 180100))) 2055
    before_report_kept_is_decided_2
unfolding machine
report_kept_is_decided_2 = (refl, refl)

abbrev before_report_kept_is_decided_3 : Room
before_report_kept_is_decided_3 = record {
  plan = two_divisions;
  divisions = (division 1 3) ∷ (division 2 3) ∷ [];
  incidents = [];
  calls = [];
  vehicles =
      (vehicle A1 2 2 Ambulance (grid 530100 180000) OffDuty 0 None 0 0)
      ∷ (vehicle A2 1 1 Ambulance (grid 530100 180000) Available 5000 None 0 0)
      ∷ (vehicle A3 2 2 Ambulance (grid 530300 180400) Available 2000 None 0 2)
      ∷ (vehicle B1 1 1 Ambulance (grid 530100 180100) OffDuty 0 None 2147483647 1)
      ∷ (vehicle B2 2 2 Ambulance (grid 560100 180000) OffDuty 0 None 0 0) ∷ [];
  turns = [];
  assignments = [];
  points = [];
  loans = [];
  offers = [];
  reports =
      (report A3 2 button.Home 0 (grid 530300 180400) 1331 2 Normal Available false)
      ∷ (report B1 1 button.Leave 2147483646 (grid 530000 180000) 1030 1 Stale OffDuty false) ∷ [];
}

report_kept_is_decided_3 : ByOneVehicle B1
    (ask.Report (pressed 1 button.Leave 2147483646 (grid 530000 180000))) 1632
    before_report_kept_is_decided_3
unfolding machine
report_kept_is_decided_3 = (refl, refl)

abbrev before_report_number_reused_is_decided : Room
before_report_number_reused_is_decided = record {
  plan = two_divisions;
  divisions = (division 1 3) ∷ (division 2 3) ∷ [];
  incidents = [];
  calls = [];
  vehicles =
      (vehicle A1 2 2 Ambulance (grid 560100 180000) OffDuty 0 None 0 0)
      ∷ (vehicle A2 2 2 Car (grid 530100 180100) Available 40000 None 0 1) ∷ [];
  turns = [];
  assignments = [];
  points = [];
  loans = [];
  offers = [];
  reports = (report A2 1 button.Mobile 0 (grid 530100 180100) 1061 2 Wrong Available false) ∷ [];
}

report_number_reused_is_decided : ByOneVehicle A2
    (ask.Report (pressed 1 button.Leave 0 (grid 530201 180000))) 1066
    before_report_number_reused_is_decided
unfolding machine
report_number_reused_is_decided = (refl, refl)

abbrev before_report_kept_is_decided_4 : Room
before_report_kept_is_decided_4 = record {
  plan = two_divisions;
  divisions = (division 1 2147483646) ∷ (division 2 2147483646) ∷ [];
  incidents = [];
  calls = [];
  vehicles =
      (vehicle A1 1 1 Car (grid 530100 180000) OffDuty 2000 None 0 1)
      ∷ (vehicle A2 2 2 Car (grid 530000 180000) OffDuty 0 None 0 0) ∷ [];
  turns = [];
  assignments = [];
  points = [];
  loans = [];
  offers = [];
  reports = (report A1 1 button.Mobile 0 (grid 531000 180000) 1242 1 Wrong OffDuty false) ∷ [];
}

report_kept_is_decided_4 : ByOneVehicle A1
    (ask.Report (pressed 1 button.Mobile 0 (grid 531000 180000))) 1543
    before_report_kept_is_decided_4
unfolding machine
report_kept_is_decided_4 = (refl, refl)

abbrev before_report_kept_is_decided_5 : Room
before_report_kept_is_decided_5 = record {
  plan = two_divisions;
  divisions = (division 1 0) ∷ (division 2 0) ∷ [];
  incidents = [];
  calls = [];
  vehicles =
      (vehicle A1 2 2 Car (grid 530000 180000) Available 5000 None 0 1)
      ∷ (vehicle A2 2 2 Ambulance (grid 560000 180000) Available 5000 None 0 0) ∷ [];
  turns = [];
  assignments = [];
  points = [];
  loans = [];
  offers = [];
  reports = (report A1 1 button.Home 0 (grid 530000 180000) 1301 2 Normal Available false) ∷ [];
}

report_kept_is_decided_5 : ByOneVehicle A1
    (ask.Report (pressed 1 button.Home 0 (grid 530000 180000))) 1482 before_report_kept_is_decided_5
unfolding machine
report_kept_is_decided_5 = (refl, refl)

abbrev before_set_point_is_decided : Room
before_set_point_is_decided = record {
  plan = two_divisions;
  divisions = (division 1 0) ∷ (division 2 0) ∷ [];
  incidents = [];
  calls = [];
  vehicles =
      (vehicle A1 2 2 Ambulance (grid 530100 180100) OffDuty 0 None 0 0)
      ∷ (vehicle A2 2 2 Ambulance (grid 530120 180160) Available 40000 None 0 0) ∷ [];
  turns = [];
  assignments = [];
  points = (point 2 1 (grid 530120 180160) 1) ∷ [];
  loans = [];
  offers = [];
  reports = [];
}

set_point_is_decided : ByWorkingRows 2
    (ask.SetPoint 1 (grid 530200 180000) 1) 2359 before_set_point_is_decided
unfolding machine
set_point_is_decided = refl

abbrev before_set_point_is_decided_2 : Room
before_set_point_is_decided_2 = record {
  plan = two_divisions;
  divisions = (division 1 3) ∷ (division 2 0) ∷ [];
  incidents = [];
  calls = [];
  vehicles =
      (vehicle A1 2 2 Support (grid 530300 180400) Available 40000 None 0 0)
      ∷ (vehicle A2 1 1 Support (grid 530100 180100) Available 40000 None 2147483647 0) ∷ [];
  turns = [];
  assignments = [];
  points = [];
  loans = [];
  offers = [];
  reports = [];
}

set_point_is_decided_2 : ByWorkingRows 1
    (ask.SetPoint 2 (grid 531000 180000) 2) 1125 before_set_point_is_decided_2
unfolding machine
set_point_is_decided_2 = refl

abbrev before_stand_down_wrong_status_is_decided : Room
before_stand_down_wrong_status_is_decided = record {
  plan = two_divisions;
  divisions = (division 1 1) ∷ (division 2 1) ∷ [];
  incidents =
      (incident 1 1 (grid 530200 180000) 1 (needs 2 0 1) 1437 (Some 1931) Active)
      ∷ (incident 2 1 (grid 560200 180000) 1 (needs 0 0 1) 1030 None Active) ∷ [];
  calls =
      (call 1 1 1 1 1 true (grid 530100 180100) 2 (needs 2 0 0) [] 1784)
      ∷ (call 1 3 1 1 1 false (grid 530200 180000) 1 (needs 0 0 1) [] 1437)
      ∷ (call 1 4 2 1 1 false (grid 560200 180000) 1 (needs 0 0 1) (codes "x") 1030) ∷ [];
  vehicles =
      (vehicle A1 1 1 Ambulance (grid 531000 180000) OffDuty 0 None 0 1)
      ∷ (vehicle A2 2 2 Ambulance (grid 530200 180000) Available 5000 None 0 2)
      ∷ (vehicle A3 1 1 Support (grid 530200 180000) AtHospital 40000 None 1 5) ∷ [];
  turns = (turn A3 1 1 1 Support 1931 None None None (Some 1799) None false) ∷ [];
  assignments = (assignment A3 1 1 1 (grid 530200 180000) 1) ∷ [];
  points = [];
  loans = [];
  offers = [];
  reports =
      (report A1 1 button.Scene 0 (grid 530000 180000) 1769 1 Wrong OffDuty false)
      ∷ (report A2 1 button.Scene 0 (grid 530300 180400) 1010 2 Wrong Available false)
      ∷ (report A2 2 button.Mobile 0 (grid 530100 180100) 1436 2 Wrong Available false)
      ∷ (report A3 1 button.Scene 0 (grid 530201 180000) 1015 1 Wrong Available true)
      ∷ (report A3 2 button.Hospital 0 (grid 530201 180000) 1436 1 Wrong Available false)
      ∷ (report A3 3 button.Return 0 (grid 530100 180000) 1557 1 Wrong Available false)
      ∷ (report A3 4 button.Return 1 (grid 530300 180400) 2337 1 Late AtHospital false)
      ∷ (report A3 5 button.Hospital 1 (grid 530200 180000) 1799 1 Skipped AtHospital false) ∷ [];
}

stand_down_wrong_status_is_decided : ByWorkingRows 1
    (ask.StandDown A3) 2342 before_stand_down_wrong_status_is_decided
unfolding machine
stand_down_wrong_status_is_decided = refl

abbrev before_stand_down_wrong_status_is_decided_2 : Room
before_stand_down_wrong_status_is_decided_2 = record {
  plan = two_divisions;
  divisions = (division 1 2147483647) ∷ (division 2 2147483647) ∷ [];
  incidents = (incident 1 2147483647 (grid 530120 180160) 2 (needs 1 1 0) 1120 (Some 1222) Active) ∷ [];
  calls =
      (call 1 2 1 2147483647 2147483647 true (grid 530000 180000) 2 (needs 1 1 0) [] 1866)
      ∷ (call 1 5 1 2147483647 2147483647 false (grid 530120 180160) 2 (needs 2 1 1) [] 1120) ∷ [];
  vehicles =
      (vehicle A1 1 1 Ambulance (grid 530300 180400) Leaving 40000 None 1 1)
      ∷ (vehicle A2 1 1 Ambulance (grid 560200 180000) Available 40000 None 2147483647 3)
      ∷ (vehicle A3 2 1 Ambulance (grid 530000 180000) Available 40000 None 0 1)
      ∷ (vehicle B1 2 2 Car (grid 530201 180000) Available 40000 None 0 3) ∷ [];
  turns = (turn A1 1 1 2147483647 Ambulance 1222 None None (Some 1836) None None false) ∷ [];
  assignments = (assignment A1 1 2147483647 1 (grid 530120 180160) 2) ∷ [];
  points = (point 2 1 (grid 530100 180000) 1) ∷ [];
  loans = (loan A3 2 1 1962 1896 false) ∷ [];
  offers = [];
  reports =
      (report A1 1 button.Leave 1 (grid 530300 180400) 1836 1 Skipped Leaving false)
      ∷ (report A2 2 button.Leave 2147483647 (grid 530000 180000) 1211 1 Wrong Available true)
      ∷ (report A2 3 button.Leave 2147483647 (grid 530200 180000) 2443 1 Wrong Available false)
      ∷ (report A3 1 button.Mobile 0 (grid 531000 180000) 1202 2 Wrong Available false)
      ∷ (report B1 1 button.Home 0 (grid 530201 180000) 1181 2 Normal Available false)
      ∷ (report B1 3 button.Mobile 0 (grid 530300 180400) 1263 2 Wrong Available false) ∷ [];
}

stand_down_wrong_status_is_decided_2 : ByWorkingRows 1
    (ask.StandDown A1) 2624 before_stand_down_wrong_status_is_decided_2
unfolding machine
stand_down_wrong_status_is_decided_2 = refl

abbrev before_stand_down_is_decided : Room
before_stand_down_is_decided = record {
  plan = two_divisions;
  divisions = (division 1 1) ∷ (division 2 0) ∷ [];
  incidents = (incident 1 1 (grid 530000 180000) 2 (needs 1 0 0) 1061 (Some 1392) Active) ∷ [];
  calls = (call 1 3 1 1 1 false (grid 530000 180000) 2 (needs 1 0 0) (codes "x") 1061) ∷ [];
  vehicles =
      (vehicle A1 1 1 Ambulance (grid 530300 180400) Available 5000 None 0 0)
      ∷ (vehicle A2 2 2 Ambulance (grid 530100 180000) Available 40000 None 0 0)
      ∷ (vehicle A3 1 1 Ambulance (grid 530300 180400) Mobilised 40000 None 1 1) ∷ [];
  turns = (turn A3 1 1 1 Ambulance 1392 (Some 1393) None None None None false) ∷ [];
  assignments = (assignment A3 1 1 1 (grid 530000 180000) 2) ∷ [];
  points = [];
  loans = [];
  offers = [];
  reports = (report A3 1 button.Mobile 1 (grid 530300 180400) 1393 1 Normal Mobilised false) ∷ [];
}

stand_down_is_decided : ByWorkingRows 1 (ask.StandDown A3) 1854 before_stand_down_is_decided
unfolding machine
stand_down_is_decided = refl

abbrev before_stand_down_is_decided_2 : Room
before_stand_down_is_decided_2 = record {
  plan = two_divisions;
  divisions = (division 1 2147483647) ∷ (division 2 2147483647) ∷ [];
  incidents = (incident 1 2147483647 (grid 530300 180400) 3 (needs 2 1 1) 1161 (Some 1342) Active) ∷ [];
  calls = (call 2 2 1 2147483647 2147483647 false (grid 530300 180400) 3 (needs 2 1 1) [] 1161) ∷ [];
  vehicles =
      (vehicle A1 2 2 Ambulance (grid 530200 180000) Available 40000 None 0 0)
      ∷ (vehicle A2 1 1 Ambulance (grid 560000 180000) OffDuty 0 None 0 0)
      ∷ (vehicle A3 1 1 Ambulance (grid 531000 180000) Mobilised 40000 None 1 0) ∷ [];
  turns = (turn A3 1 1 2147483647 Ambulance 1342 None None None None None false) ∷ [];
  assignments = (assignment A3 1 2147483647 1 (grid 530300 180400) 3) ∷ [];
  points = [];
  loans = [];
  offers = [];
  reports = [];
}

stand_down_is_decided_2 : ByWorkingRows 1 (ask.StandDown A3) 1282 before_stand_down_is_decided_2
unfolding machine
stand_down_is_decided_2 = refl

abbrev before_standby_wrong_status_is_decided : Room
before_standby_wrong_status_is_decided = record {
  plan = two_divisions;
  divisions = (division 1 1) ∷ (division 2 3) ∷ [];
  incidents = (incident 1 1 (grid 530100 180000) 1 (needs 2 1 0) 1722 (Some 3882) Active) ∷ [];
  calls =
      (call 1 4 1 1 1 true (grid 530201 180000) 1 (needs 2 0 0) [] 2075)
      ∷ (call 1 5 1 1 1 false (grid 530100 180000) 2 (needs 1 1 0) [] 1722)
      ∷ (call 2 4 1 1 1 true (grid 530200 180000) 2 (needs 1 0 0) (codes "x") 2076) ∷ [];
  vehicles =
      (vehicle A1 2 2 Ambulance (grid 530120 180160) OffDuty 0 None 0 2)
      ∷ (vehicle A2 1 1 Ambulance (grid 530100 180100) AtHospital 5000 None 1 2)
      ∷ (vehicle A3 1 2 Ambulance (grid 530201 180000) Available 5120 None 0 5) ∷ [];
  turns = (turn A2 1 1 1 Ambulance 3882 None None None (Some 3887) None false) ∷ [];
  assignments = (assignment A2 1 1 1 (grid 530100 180000) 1) ∷ [];
  points = [];
  loans = (loan A3 1 2 4012 2477 true) ∷ [];
  offers = [];
  reports =
      (report A1 2 button.Return 0 (grid 530120 180160) 2478 2 Wrong OffDuty false)
      ∷ (report A2 1 button.Home 0 (grid 530201 180000) 1889 1 Normal Available false)
      ∷ (report A2 2 button.Hospital 1 (grid 530100 180100) 3887 1 Skipped AtHospital false)
      ∷ (report A3 2 button.Home 0 (grid 530120 180160) 1757 1 Normal Available false)
      ∷ (report A3 3 button.Leave 0 (grid 531000 180000) 2859 1 Wrong Offered false)
      ∷ (report A3 4 button.Position 0 (grid 530300 180400) 3341 1 Normal Offered false)
      ∷ (report A3 5 button.Home 0 (grid 530201 180000) 3642 1 Normal Offered false) ∷ [];
}

standby_wrong_status_is_decided : ByWorkingRows 1
    (ask.Standby A2 None) 5367 before_standby_wrong_status_is_decided
unfolding machine
standby_wrong_status_is_decided = refl

abbrev before_standby_is_decided : Room
before_standby_is_decided = record {
  plan = two_divisions;
  divisions = (division 1 2) ∷ (division 2 1) ∷ [];
  incidents =
      (incident 1 1 (grid 531000 180000) 1 (needs 1 0 0) 1511 None Active)
      ∷ (incident 1 2 (grid 530100 180000) 2 (needs 1 1 1) 2536 (Some 2602) Active)
      ∷ (incident 2 1 (grid 560000 180000) 3 (needs 1 0 0) 2716 None Active) ∷ [];
  calls =
      (call 1 3 1 1 1 false (grid 531000 180000) 1 (needs 1 0 0) (codes "x") 1511)
      ∷ (call 1 5 1 2 2 true (grid 530201 180000) 2 (needs 0 0 1) [] 3301)
      ∷ (call 1 6 2 1 1 false (grid 560000 180000) 3 (needs 1 0 0) [] 2716)
      ∷ (call 2 2 1 2 2 false (grid 530100 180000) 3 (needs 1 1 0) (codes "x") 2536) ∷ [];
  vehicles =
      (vehicle A1 1 1 Ambulance (grid 530300 180400) Returning 40000 (Some 1) 1 4)
      ∷ (vehicle A2 2 2 Support (grid 531000 180000) OffDuty 0 None 0 3) ∷ [];
  turns = (turn A1 1 1 2 Ambulance 2602 None None None None (Some 2783) false) ∷ [];
  assignments = [];
  points = (point 1 1 (grid 530000 180000) 2) ∷ [];
  loans = [];
  offers = [];
  reports =
      (report A1 1 button.Mobile 0 (grid 530100 180000) 1633 1 Late Available false)
      ∷ (report A1 2 button.Home 0 (grid 530201 180000) 1512 1 Normal Available false)
      ∷ (report A1 3 button.Scene 0 (grid 530300 180400) 2541 1 Wrong Available false)
      ∷ (report A1 4 button.Return 1 (grid 530300 180400) 2783 1 Skipped Returning false)
      ∷ (report A2 1 button.Return 0 (grid 531000 180000) 2416 2 Wrong OffDuty false)
      ∷ (report A2 3 button.Return 0 (grid 530120 180160) 3146 2 Wrong OffDuty false) ∷ [];
}

standby_is_decided : ByWorkingRows 1 (ask.Standby A1 (Some 1)) 3362 before_standby_is_decided
unfolding machine
standby_is_decided = refl

abbrev before_standby_wrong_status_is_decided_2 : Room
before_standby_wrong_status_is_decided_2 = record {
  plan = two_divisions;
  divisions = (division 1 3) ∷ (division 2 0) ∷ [];
  incidents =
      (incident 1 1 (grid 531000 180000) 2 (needs 2 0 0) 1581 (Some 1882) Active)
      ∷ (incident 1 2 (grid 530201 180000) 2 (needs 2 1 0) 2481 None Active)
      ∷ (incident 1 3 (grid 530300 180400) 3 (needs 2 1 1) 3194 None Active) ∷ [];
  calls =
      (call 1 1 1 2 2 true (grid 530100 180000) 3 (needs 1 1 0) [] 2773)
      ∷ (call 1 2 1 1 1 false (grid 531000 180000) 2 (needs 2 0 0) [] 1581)
      ∷ (call 2 3 1 2 2 false (grid 530201 180000) 2 (needs 2 0 0) [] 2481)
      ∷ (call 2 5 1 3 3 false (grid 530300 180400) 3 (needs 2 1 1) (codes "x") 3194) ∷ [];
  vehicles =
      (vehicle A1 1 1 Ambulance (grid 530100 180100) AtScene 5000 None 1 1)
      ∷ (vehicle A2 2 2 Car (grid 531000 180000) OffDuty 1620 None 0 0)
      ∷ (vehicle A3 2 2 Car (grid 530000 180000) Available 1620 None 0 1) ∷ [];
  turns = (turn A1 1 1 1 Ambulance 1882 None (Some 2424) None None None false) ∷ [];
  assignments = (assignment A1 1 1 1 (grid 531000 180000) 2) ∷ [];
  points = (point 2 1 (grid 531000 180000) 1) ∷ (point 2 2 (grid 530300 180400) 2) ∷ [];
  loans = [];
  offers = [];
  reports =
      (report A1 1 button.Scene 1 (grid 530100 180100) 2424 1 Skipped AtScene true)
      ∷ (report A3 1 button.Return 0 (grid 530120 180160) 3375 2 Wrong Available false) ∷ [];
}

standby_wrong_status_is_decided_2 : ByWorkingRows 1
    (ask.Standby A1 (Some 2)) 3676 before_standby_wrong_status_is_decided_2
unfolding machine
standby_wrong_status_is_decided_2 = refl

abbrev before_standby_is_decided_2 : Room
before_standby_is_decided_2 = record {
  plan = overlapping_divisions;
  divisions = (division 1 2147483647) ∷ (division 7 2147483646) ∷ [];
  incidents = [];
  calls = [];
  vehicles =
      (vehicle A1 7 7 Ambulance (grid 530100 180100) Available 40000 None 0 2)
      ∷ (vehicle A2 1 1 Ambulance (grid 531000 180000) Available 5105 (Some 2) 0 1)
      ∷ (vehicle A3 7 7 Ambulance (grid 530000 180000) Available 2000 None 0 0) ∷ [];
  turns = [];
  assignments = [];
  points = (point 1 2 (grid 530200 180000) 1) ∷ [];
  loans = [];
  offers = [];
  reports =
      (report A1 1 button.Position 0 (grid 530100 180100) 1120 7 Normal Available false)
      ∷ (report A1 2 button.Mobile 0 (grid 530120 180160) 2600 7 Wrong Available true)
      ∷ (report A2 1 button.Hospital 0 (grid 530201 180000) 3262 1 Wrong Available false) ∷ [];
}

standby_is_decided_2 : ByWorkingRows 1 (ask.Standby A2 None) 3292 before_standby_is_decided_2
unfolding machine
standby_is_decided_2 = refl

abbrev before_times_3_is_decided : Room
before_times_3_is_decided = record {
  plan = two_divisions;
  divisions = (division 1 3) ∷ (division 2 1) ∷ [];
  incidents =
      (incident 1 1 (grid 530100 180000) 1 (needs 1 1 0) 1487 (Some 1667) Active)
      ∷ (incident 1 2 (grid 530300 180400) 3 (needs 0 0 1) 3566 None Active)
      ∷ (incident 1 3 (grid 530200 180000) 1 (needs 1 0 1) 1967 None Active)
      ∷ (incident 2 1 (grid 560000 180000) 3 (needs 2 0 0) 4467 None Active) ∷ [];
  calls =
      (call 1 3 1 2 2 false (grid 530300 180400) 3 (needs 0 0 1) [] 3566)
      ∷ (call 1 5 1 3 3 false (grid 530200 180000) 1 (needs 1 0 0) [] 3567)
      ∷ (call 2 1 1 1 1 false (grid 530100 180000) 1 (needs 0 1 0) [] 1487)
      ∷ (call 2 4 1 3 3 true (grid 530200 180000) 2 (needs 0 0 1) [] 1967)
      ∷ (call 2 5 2 1 1 false (grid 560000 180000) 3 (needs 2 0 0) [] 4467) ∷ [];
  vehicles =
      (vehicle A1 2 2 Ambulance (grid 530100 180100) Available 5000 None 0 2)
      ∷ (vehicle A2 1 1 Car (grid 530100 180000) Returning 40000 None 1 2)
      ∷ (vehicle A3 1 1 Ambulance (grid 530100 180000) OffDuty 5000 None 1 4) ∷ [];
  turns =
      (turn A2 1 1 1 Car 2902 None None None None (Some 5473) true)
      ∷ (turn A3 1 1 1 Ambulance 1667 None (Some 3385) None None (Some 4049) false) ∷ [];
  assignments = [];
  points = (point 1 2 (grid 530100 180000) 1) ∷ (point 2 2 (grid 530000 180000) 1) ∷ [];
  loans = [];
  offers = [];
  reports =
      (report A1 1 button.Scene 0 (grid 530000 180000) 1482 2 Wrong Available false)
      ∷ (report A1 2 button.Leave 0 (grid 530100 180000) 1617 2 Wrong Available false)
      ∷ (report A2 1 button.Mobile 0 (grid 530201 180000) 1517 1 Wrong Available false)
      ∷ (report A2 2 button.Leave 0 (grid 530100 180100) 3384 1 Stale Mobilised false)
      ∷ (report A3 1 button.Hospital 0 (grid 531000 180000) 1928 1 Wrong Available false)
      ∷ (report A3 2 button.Mobile 0 (grid 530300 180400) 2290 1 Wrong Available false)
      ∷ (report A3 3 button.Scene 1 (grid 530100 180100) 3385 1 Skipped AtScene false)
      ∷ (report A3 4 button.Return 1 (grid 530100 180000) 4049 1 Normal Returning false) ∷ [];
}

times_3_is_decided : ByWorkingRows 1
    (ask.Times (negsuc 1433) (pos 9467)) 5654 before_times_3_is_decided
unfolding machine
times_3_is_decided = refl

abbrev before_times_1_is_decided : Room
before_times_1_is_decided = record {
  plan = overlapping_divisions;
  divisions = (division 1 3) ∷ (division 7 1) ∷ [];
  incidents =
      (incident 1 1 (grid 530200 180000) 2 (needs 1 1 0) 1698 None Active)
      ∷ (incident 1 2 (grid 530100 180100) 2 (needs 1 0 0) 2627 None Active)
      ∷ (incident 1 3 (grid 530300 180400) 2 (needs 2 1 1) 2598 None Active)
      ∷ (incident 7 1 (grid 530000 180000) 2 (needs 2 0 0) 1879 (Some 2059) Active) ∷ [];
  calls =
      (call 1 1 7 1 1 false (grid 530000 180000) 2 (needs 2 0 0) (codes "x") 1879)
      ∷ (call 1 2 1 1 1 false (grid 530200 180000) 2 (needs 1 1 0) (codes "x") 1698)
      ∷ (call 1 4 1 3 3 false (grid 530300 180400) 2 (needs 2 1 1) [] 2598)
      ∷ (call 1 5 1 2 2 false (grid 530100 180100) 2 (needs 1 0 0) (codes "x") 2627) ∷ [];
  vehicles =
      (vehicle A1 7 7 Ambulance (grid 531000 180000) OffDuty 0 None 0 5)
      ∷ (vehicle A2 7 7 Ambulance (grid 530100 180100) Offered 3489 None 0 3)
      ∷ (vehicle A3 7 7 Ambulance (grid 530200 180000) Returning 40000 None 1 5) ∷ [];
  turns = (turn A3 1 7 1 Ambulance 2059 None None None None (Some 2928) false) ∷ [];
  assignments = [];
  points = (point 7 2 (grid 531000 180000) 1) ∷ [];
  loans = [];
  offers = (offer A2 7 1 3291 4291) ∷ [];
  reports =
      (report A1 1 button.Mobile 0 (grid 531000 180000) 1001 7 Wrong OffDuty false)
      ∷ (report A1 2 button.Hospital 0 (grid 530120 180160) 1061 7 Wrong OffDuty false)
      ∷ (report A1 4 button.Mobile 0 (grid 530201 180000) 1818 7 Wrong OffDuty false)
      ∷ (report A1 5 button.Position 0 (grid 531000 180000) 3290 7 Wrong OffDuty false)
      ∷ (report A2 2 button.Leave 0 (grid 530000 180000) 1001 7 Wrong OffDuty false)
      ∷ (report A2 3 button.Scene 0 (grid 530100 180100) 1879 7 Wrong OffDuty false)
      ∷ (report A3 1 button.Return 0 (grid 530100 180000) 2345 7 Wrong Available false)
      ∷ (report A3 3 button.Leave 0 (grid 530100 180000) 2587 7 Wrong Available false)
      ∷ (report A3 4 button.Leave 0 (grid 530300 180400) 2622 7 Wrong Available false)
      ∷ (report A3 5 button.Return 1 (grid 530200 180000) 2928 7 Skipped Returning false) ∷ [];
}

times_1_is_decided : ByWorkingRows 7
    (ask.Times (negsuc 98120) (pos 2599)) 3411 before_times_1_is_decided
unfolding machine
times_1_is_decided = refl

abbrev before_vehicles_1_is_decided : Room
before_vehicles_1_is_decided = record {
  plan = two_divisions;
  divisions = (division 1 2) ∷ (division 2 0) ∷ [];
  incidents =
      (incident 1 1 (grid 530100 180000) 1 (needs 2 1 1) 1000 (Some 1431) Active)
      ∷ (incident 1 2 (grid 530200 180000) 2 (needs 1 1 0) 2108 None Active) ∷ [];
  calls =
      (call 1 4 1 2 2 false (grid 530200 180000) 2 (needs 1 1 0) [] 2108)
      ∷ (call 2 2 1 1 1 false (grid 530100 180000) 1 (needs 2 1 1) [] 1000) ∷ [];
  vehicles =
      (vehicle A1 2 2 Car (grid 530120 180160) Offered 40000 None 0 3)
      ∷ (vehicle A2 1 2 Ambulance (grid 530100 180100) Available 40000 None 0 0)
      ∷ (vehicle A3 2 2 Ambulance (grid 530100 180000) OffDuty 0 None 0 0)
      ∷ (vehicle B1 1 1 Ambulance (grid 530300 180400) Leaving 2000 None 1 1) ∷ [];
  turns = (turn B1 1 1 1 Ambulance 1431 None None (Some 2500) None None false) ∷ [];
  assignments = (assignment B1 1 1 1 (grid 530100 180000) 1) ∷ [];
  points = (point 1 2 (grid 530000 180000) 2) ∷ (point 2 2 (grid 530300 180400) 1) ∷ [];
  loans = (loan A2 1 2 2981 1706 false) ∷ [];
  offers = (offer A1 2 1 2001 2001) ∷ [];
  reports =
      (report A1 1 button.Return 0 (grid 530201 180000) 1301 2 Wrong Available false)
      ∷ (report A1 2 button.Home 0 (grid 530120 180160) 1311 2 Normal Available false)
      ∷ (report A1 3 button.Return 0 (grid 530300 180400) 2380 2 Wrong Offered false)
      ∷ (report B1 1 button.Leave 1 (grid 530300 180400) 2500 1 Skipped Leaving false) ∷ [];
}

vehicles_1_is_decided : ByWorkingRows 1 ask.Vehicles 2981 before_vehicles_1_is_decided
unfolding machine
vehicles_1_is_decided = refl

abbrev before_vehicles_2_is_decided : Room
before_vehicles_2_is_decided = record {
  plan = two_divisions;
  divisions = (division 1 1) ∷ (division 2 4) ∷ [];
  incidents =
      (incident 1 1 (grid 530100 180100) 1 (needs 1 1 0) 2029 None Active)
      ∷ (incident 2 4 (grid 560200 180000) 1 (needs 2 1 1) 1176 (Some 1968) Active) ∷ [];
  calls =
      (call 1 5 2 4 4 false (grid 560200 180000) 1 (needs 2 1 1) [] 1176)
      ∷ (call 2 2 1 1 1 false (grid 530100 180100) 1 (needs 1 1 0) (codes "x") 2029) ∷ [];
  vehicles =
      (vehicle A1 2 2 Car (grid 530200 180000) Mobilised 2000 None 1 1)
      ∷ (vehicle A2 2 2 Support (grid 530200 180000) Available 5191 None 0 1)
      ∷ (vehicle A3 2 1 Support (grid 531000 180000) Available 41211 None 0 0) ∷ [];
  turns = (turn A1 1 2 4 Car 1968 None None None None None false) ∷ [];
  assignments = (assignment A1 2 4 1 (grid 560200 180000) 1) ∷ [];
  points = [];
  loans = (loan A3 2 1 2029 6191 false) ∷ [];
  offers = [];
  reports =
      (report A1 1 button.Return 0 (grid 530100 180000) 1030 2 Wrong Available true)
      ∷ (report A2 1 button.Leave 0 (grid 530000 180000) 1186 2 Wrong Available false) ∷ [];
}

vehicles_2_is_decided : ByWorkingRows 2 ask.Vehicles 2149 before_vehicles_2_is_decided
unfolding machine
vehicles_2_is_decided = refl

abbrev before_withdraw_vehicle_lent_is_decided : Room
before_withdraw_vehicle_lent_is_decided = record {
  plan = two_divisions;
  divisions = (division 1 5) ∷ (division 2 3) ∷ [];
  incidents =
      (incident 1 4 (grid 530000 180000) 2 (needs 2 1 1) 1301 None Active)
      ∷ (incident 1 5 (grid 530100 180100) 1 (needs 1 1 0) 3341 None Active) ∷ [];
  calls =
      (call 1 1 1 5 5 true (grid 530100 180100) 1 (needs 1 1 0) [] 4008)
      ∷ (call 2 2 1 5 5 false (grid 530100 180100) 3 (needs 1 0 0) [] 3341)
      ∷ (call 2 4 1 4 4 false (grid 530000 180000) 2 (needs 2 1 1) [] 1301) ∷ [];
  vehicles =
      (vehicle A1 2 2 Support (grid 560200 180000) Available 40000 None 2147483647 4)
      ∷ (vehicle A2 1 2 Support (grid 530100 180100) OffDuty 5000 None 0 5) ∷ [];
  turns = [];
  assignments = [];
  points = [];
  loans = (loan A2 1 2 39999 1443 true) ∷ [];
  offers = [];
  reports =
      (report A1 1 button.Hospital 2147483647 (grid 530100 180100) 2006 2 Wrong Available true)
      ∷ (report A1 3 button.Hospital 2147483646 (grid 531000 180000) 2487 2 Stale Available false)
      ∷ (report A1 4 button.Return 0 (grid 530100 180100) 2914 2 Stale Available false)
      ∷ (report A2 1 button.Home 0 (grid 530100 180100) 1362 1 Normal Available false)
      ∷ (report A2 2 button.Hospital 0 (grid 530200 180000) 1824 1 Wrong Offered false)
      ∷ (report A2 4 button.Scene 0 (grid 530100 180100) 2487 1 Wrong Offered false)
      ∷ (report A2 5 button.Scene 0 (grid 530100 180000) 3215 2 Wrong Available false) ∷ [];
}

withdraw_vehicle_lent_is_decided : ByWorkingRows 1
    (ask.Withdraw A2) 4489 before_withdraw_vehicle_lent_is_decided
unfolding machine
withdraw_vehicle_lent_is_decided = refl

abbrev before_withdraw_is_decided : Room
before_withdraw_is_decided = record {
  plan = two_divisions;
  divisions = (division 1 0) ∷ (division 2 0) ∷ [];
  incidents = [];
  calls = [];
  vehicles =
      (vehicle A1 1 1 Ambulance (grid 530000 180000) Available 2287 None 0 0)
      ∷ (vehicle A2 1 1 Ambulance (grid 530100 180000) Offered 41136 None 0 1) ∷ [];
  turns = [];
  assignments = [];
  points = [];
  loans = [];
  offers = (offer A2 1 2 1437 2437) ∷ [];
  reports = (report A2 1 button.Hospital 0 (grid 530201 180000) 1131 1 Wrong OffDuty true) ∷ [];
}

withdraw_is_decided : ByWorkingRows 1 (ask.Withdraw A2) 2467 before_withdraw_is_decided
unfolding machine
withdraw_is_decided = refl

abbrev before_withdraw_no_such_vehicle_is_decided : Room
before_withdraw_no_such_vehicle_is_decided = record {
  plan = two_divisions;
  divisions = (division 1 0) ∷ (division 2 0) ∷ [];
  incidents = [];
  calls = [];
  vehicles =
      (vehicle A1 1 1 Support (grid 530100 180000) OffDuty 0 None 0 0)
      ∷ (vehicle A2 2 2 Ambulance (grid 530120 180160) OffDuty 5000 None 0 0) ∷ [];
  turns = [];
  assignments = [];
  points = [];
  loans = [];
  offers = [];
  reports = [];
}

withdraw_no_such_vehicle_is_decided : ByWorkingRows 1
    (ask.Withdraw Z9) 1486 before_withdraw_no_such_vehicle_is_decided
unfolding machine
withdraw_no_such_vehicle_is_decided = refl
