-- Sampled steps: queues with each set of ranks, each limit just met and just passed, and clearing.
-- A program that is independent of this repository, written from the rules in words, made them in
-- random runs; of each kind of step it kept those with the fewest rows.
use Rattle.std.specs.Prelude.{Err, None, Ok, Some, [], codes, false, refl, true, ◌∷◌}
use Rattle.room_types.specs.declared.answers.Answer.TheVariants as answer
use Rattle.room_types.specs.declared.asks.Ask.TheVariants as ask
use Rattle.room_types.specs.declared.asks.Who.TheVariants.{Desk}
use Rattle.room_types.specs.declared.codes.Button.TheVariants as button
use Rattle.room_types.specs.declared.codes.Kind.TheVariants.{Ambulance, Car, Support}
use Rattle.room_types.specs.declared.codes.Outcome.TheVariants.{Late, Normal, Skipped, Stale, Wrong}
use Rattle.room_types.specs.declared.codes.State.TheVariants.{Active, Closed, Merged}
use Rattle.room_types.specs.declared.codes.Status.TheVariants.{AtHospital, AtScene, Available}
use Rattle.room_types.specs.declared.codes.Status.TheVariants.{Leaving, Mobilised, OffDuty, Offered}
use Rattle.room_types.specs.declared.codes.Status.TheVariants.{Returning}
use Rattle.room_types.specs.declared.refusal_statuses.Refusal.TheVariants as refusal
use Rattle.room_model.specs.Room.{Room}
use Rattle.room_model.specs.ComputedDefinitions.{machine}
use Rattle.room_samples.specs.ExampleRows.{assignment, call, division, grid, incident, loan, offer}
use Rattle.room_samples.specs.ExampleRows.{point, report, turn, vehicle}
use Rattle.room_samples.specs.SampledRooms.{A1, A2, A3, B1, B2, overlapping_divisions}
use Rattle.room_samples.specs.SampledRooms.{two_divisions}
use Rattle.room_samples.specs.SampledSteps.{Steps}
use Rattle.room_model.specs.StepWords.{at, entry, needs}
use Rattle.room_types.specs.declared.ranks.Rank.TheVariants as rank

abbrev before_clear : Room
before_clear = record {
  plan = two_divisions;
  divisions = (division 1 2147483647) ∷ (division 2 2147483647) ∷ [];
  incidents = [];
  calls = [];
  vehicles =
      (vehicle A1 1 1 Ambulance (grid 531000 180000) Available 2000 None 0 1)
      ∷ (vehicle A2 2 2 Car (grid 531000 180000) Available 2000 None 0 0) ∷ [];
  turns = [];
  assignments = [];
  points = [];
  loans = [];
  offers = [];
  reports = (report A1 1 button.Return 0 (grid 530120 180160) 1362 1 Wrong Available false) ∷ [];
}

clear : Steps (at 2066 (Desk 1) (ask.Clear A1 1)) before_clear (Ok answer.Done)
    (record before_clear {
      reports = (report A1 1 button.Return 0
          (grid 530120 180160) 1362 1 Wrong Available true) ∷ [];
    })
unfolding machine
clear = (refl, refl)

abbrev before_clear_no_such_exception : Room
before_clear_no_such_exception = record {
  plan = two_divisions;
  divisions = (division 1 3) ∷ (division 2 0) ∷ [];
  incidents = [];
  calls = [];
  vehicles =
      (vehicle A1 1 1 Ambulance (grid 530300 180400) OffDuty 0 None 0 1)
      ∷ (vehicle A2 2 2 Support (grid 530201 180000) OffDuty 0 None 0 0) ∷ [];
  turns = [];
  assignments = [];
  points = [];
  loans = [];
  offers = [];
  reports = (report A1 1 button.Position 0 (grid 530100 180000) 1000 1 Wrong OffDuty false) ∷ [];
}

clear_no_such_exception : Steps (at 1522 (Desk 2) (ask.Clear A1 1)) before_clear_no_such_exception
    (Err refusal.NoSuchException) before_clear_no_such_exception
unfolding machine
clear_no_such_exception = (refl, refl)

abbrev before_clear_no_such_exception_2 : Room
before_clear_no_such_exception_2 = record {
  plan = two_divisions;
  divisions = (division 1 0) ∷ (division 2 0) ∷ [];
  incidents = [];
  calls = [];
  vehicles =
      (vehicle A1 2 2 Ambulance (grid 560100 180000) Available 5000 None 0 2)
      ∷ (vehicle A2 1 1 Ambulance (grid 530100 180000) Available 2000 None 0 0) ∷ [];
  turns = [];
  assignments = [];
  points = [];
  loans = [];
  offers = [];
  reports = (report A1 2 button.Hospital 0 (grid 530120 180160) 1000 2 Wrong Available true) ∷ [];
}

clear_no_such_exception_2 : Steps
    (at 1273 (Desk 2) (ask.Clear A1 2)) before_clear_no_such_exception_2
    (Err refusal.NoSuchException) before_clear_no_such_exception_2
unfolding machine
clear_no_such_exception_2 = (refl, refl)

abbrev before_clear_no_such_exception_3 : Room
before_clear_no_such_exception_3 = record {
  plan = two_divisions;
  divisions = (division 1 0) ∷ (division 2 0) ∷ [];
  incidents = [];
  calls = [];
  vehicles =
      (vehicle A1 1 1 Car (grid 530100 180000) OffDuty 0 None 0 0)
      ∷ (vehicle A2 2 2 Car (grid 530120 180160) OffDuty 0 None 0 1) ∷ [];
  turns = [];
  assignments = [];
  points = [];
  loans = [];
  offers = [];
  reports = (report A2 1 button.Return 0 (grid 531000 180000) 1181 2 Wrong OffDuty true) ∷ [];
}

clear_no_such_exception_3 : Steps
    (at 1363 (Desk 2) (ask.Clear A2 1)) before_clear_no_such_exception_3
    (Err refusal.NoSuchException) before_clear_no_such_exception_3
unfolding machine
clear_no_such_exception_3 = (refl, refl)

abbrev before_clear_no_such_exception_4 : Room
before_clear_no_such_exception_4 = record {
  plan = two_divisions;
  divisions = (division 1 3) ∷ (division 2 0) ∷ [];
  incidents = [];
  calls = [];
  vehicles =
      (vehicle A1 2 2 Support (grid 530100 180100) Available 40000 None 0 1)
      ∷ (vehicle A2 1 1 Car (grid 530120 180160) OffDuty 0 None 0 0) ∷ [];
  turns = [];
  assignments = [];
  points = [];
  loans = [];
  offers = [];
  reports = (report A1 1 button.Position 0 (grid 530100 180100) 1211 2 Normal Available false) ∷ [];
}

clear_no_such_exception_4 : Steps
    (at 1212 (Desk 2) (ask.Clear A1 1)) before_clear_no_such_exception_4
    (Err refusal.NoSuchException) before_clear_no_such_exception_4
unfolding machine
clear_no_such_exception_4 = (refl, refl)

abbrev before_clear_no_such_exception_5 : Room
before_clear_no_such_exception_5 = record {
  plan = overlapping_divisions;
  divisions = (division 1 0) ∷ (division 7 0) ∷ [];
  incidents = [];
  calls = [];
  vehicles =
      (vehicle A1 1 1 Ambulance (grid 530100 180000) Available 5000 None 0 1)
      ∷ (vehicle A2 7 7 Support (grid 530000 180000) Available 2000 None 0 0) ∷ [];
  turns = [];
  assignments = [];
  points = [];
  loans = [];
  offers = [];
  reports = (report A1 1 button.Hospital 0 (grid 530201 180000) 1061 1 Wrong Available false) ∷ [];
}

clear_no_such_exception_5 : Steps
    (at 1062 (Desk 7) (ask.Clear A1 1)) before_clear_no_such_exception_5
    (Err refusal.NoSuchException) before_clear_no_such_exception_5
unfolding machine
clear_no_such_exception_5 = (refl, refl)

abbrev before_clear_no_such_exception_6 : Room
before_clear_no_such_exception_6 = record {
  plan = two_divisions;
  divisions = (division 1 0) ∷ (division 2 3) ∷ [];
  incidents = [];
  calls = [];
  vehicles =
      (vehicle A1 2 2 Support (grid 530100 180000) Available 5000 None 0 0)
      ∷ (vehicle A2 1 1 Ambulance (grid 530201 180000) OffDuty 0 None 0 0)
      ∷ (vehicle A3 1 1 Support (grid 530201 180000) OffDuty 0 None 0 1) ∷ [];
  turns = [];
  assignments = [];
  points = [];
  loans = [];
  offers = [];
  reports = (report A3 1 button.Home 0 (grid 530100 180000) 980 1 Wrong OffDuty true) ∷ [];
}

clear_no_such_exception_6 : Steps
    (at 1622 (Desk 1) (ask.Clear A3 1)) before_clear_no_such_exception_6
    (Err refusal.NoSuchException) before_clear_no_such_exception_6
unfolding machine
clear_no_such_exception_6 = (refl, refl)

abbrev before_clear_no_such_exception_7 : Room
before_clear_no_such_exception_7 = record {
  plan = overlapping_divisions;
  divisions = (division 1 0) ∷ (division 7 3) ∷ [];
  incidents = [];
  calls = [];
  vehicles =
      (vehicle A1 7 7 Ambulance (grid 560100 180000) OffDuty 0 None 0 0)
      ∷ (vehicle A2 7 7 Ambulance (grid 530000 180000) Available 40000 None 0 1) ∷ [];
  turns = [];
  assignments = [];
  points = (point 7 1 (grid 531000 180000) 1) ∷ [];
  loans = [];
  offers = [];
  reports = (report A2 1 button.Hospital 0 (grid 530100 180000) 1161 7 Wrong Available true) ∷ [];
}

clear_no_such_exception_7 : Steps
    (at 1823 (Desk 7) (ask.Clear A2 1)) before_clear_no_such_exception_7
    (Err refusal.NoSuchException) before_clear_no_such_exception_7
unfolding machine
clear_no_such_exception_7 = (refl, refl)

abbrev before_clear_no_such_exception_8 : Room
before_clear_no_such_exception_8 = record {
  plan = two_divisions;
  divisions = (division 1 0) ∷ (division 2 0) ∷ [];
  incidents = [];
  calls = [];
  vehicles =
      (vehicle A1 1 1 Ambulance (grid 530200 180000) Available 40000 None 0 1)
      ∷ (vehicle A2 1 1 Ambulance (grid 560200 180000) OffDuty 0 None 0 0)
      ∷ (vehicle A3 1 1 Support (grid 560200 180000) OffDuty 0 None 0 0) ∷ [];
  turns = [];
  assignments = [];
  points = [];
  loans = [];
  offers = [];
  reports = (report A1 1 button.Leave 0 (grid 530000 180000) 980 1 Wrong Available false) ∷ [];
}

clear_no_such_exception_8 : Steps
    (at 960 (Desk 2) (ask.Clear A1 1)) before_clear_no_such_exception_8
    (Err refusal.NoSuchException) before_clear_no_such_exception_8
unfolding machine
clear_no_such_exception_8 = (refl, refl)

abbrev before_clear_no_such_exception_9 : Room
before_clear_no_such_exception_9 = record {
  plan = two_divisions;
  divisions = (division 1 0) ∷ (division 2 0) ∷ [];
  incidents = [];
  calls = [];
  vehicles =
      (vehicle A1 1 1 Ambulance (grid 560200 180000) Available 5000 None 0 2)
      ∷ (vehicle A2 2 2 Ambulance (grid 530100 180000) OffDuty 0 None 0 0)
      ∷ (vehicle A3 2 2 Ambulance (grid 530100 180000) Available 40000 None 0 0) ∷ [];
  turns = [];
  assignments = [];
  points = [];
  loans = [];
  offers = [];
  reports = (report A1 2 button.Mobile 0 (grid 530200 180000) 1602 1 Wrong Available false) ∷ [];
}

clear_no_such_exception_9 : Steps
    (at 1582 (Desk 2) (ask.Clear A1 2)) before_clear_no_such_exception_9
    (Err refusal.NoSuchException) before_clear_no_such_exception_9
unfolding machine
clear_no_such_exception_9 = (refl, refl)

abbrev before_clear_no_such_exception_10 : Room
before_clear_no_such_exception_10 = record {
  plan = overlapping_divisions;
  divisions = (division 1 3) ∷ (division 7 0) ∷ [];
  incidents = [];
  calls = [];
  vehicles =
      (vehicle A1 7 7 Ambulance (grid 560200 180000) OffDuty 0 None 0 1)
      ∷ (vehicle A2 1 1 Ambulance (grid 530120 180160) Available 2000 None 0 1)
      ∷ (vehicle A3 1 1 Car (grid 530300 180400) Available 40000 None 0 0) ∷ [];
  turns = [];
  assignments = [];
  points = [];
  loans = [];
  offers = [];
  reports =
      (report A1 1 button.Return 0 (grid 530120 180160) 1963 7 Wrong OffDuty false)
      ∷ (report A2 1 button.Home 0 (grid 530120 180160) 1843 1 Normal Available false) ∷ [];
}

clear_no_such_exception_10 : Steps
    (at 2565 (Desk 1) (ask.Clear A2 1)) before_clear_no_such_exception_10
    (Err refusal.NoSuchException) before_clear_no_such_exception_10
unfolding machine
clear_no_such_exception_10 = (refl, refl)

abbrev before_clear_no_such_exception_11 : Room
before_clear_no_such_exception_11 = record {
  plan = two_divisions;
  divisions = (division 1 0) ∷ (division 2 0) ∷ [];
  incidents = [];
  calls = [];
  vehicles =
      (vehicle A1 1 1 Car (grid 530300 180400) Available 2000 None 0 2)
      ∷ (vehicle A2 1 1 Car (grid 560100 180000) Available 40000 None 0 0)
      ∷ (vehicle A3 2 2 Ambulance (grid 560100 180000) OffDuty 0 None 0 1) ∷ [];
  turns = [];
  assignments = [];
  points = [];
  loans = [];
  offers = [];
  reports =
      (report A1 2 button.Position 0 (grid 530300 180400) 1001 1 Normal Available false)
      ∷ (report A3 1 button.Return 0 (grid 530000 180000) 1302 2 Wrong OffDuty false) ∷ [];
}

clear_no_such_exception_11 : Steps
    (at 1368 (Desk 1) (ask.Clear A1 2)) before_clear_no_such_exception_11
    (Err refusal.NoSuchException) before_clear_no_such_exception_11
unfolding machine
clear_no_such_exception_11 = (refl, refl)

abbrev before_clear_no_such_exception_12 : Room
before_clear_no_such_exception_12 = record {
  plan = two_divisions;
  divisions = (division 1 0) ∷ (division 2 0) ∷ [];
  incidents = [];
  calls = [];
  vehicles =
      (vehicle A1 2 2 Ambulance (grid 531000 180000) Available 5000 None 2147483647 0)
      ∷ (vehicle A2 1 1 Ambulance (grid 530300 180400) Offered 40000 None 0 1)
      ∷ (vehicle A3 2 2 Ambulance (grid 530100 180100) Available 2000 None 0 0) ∷ [];
  turns = [];
  assignments = [];
  points = [];
  loans = [];
  offers = (offer A2 1 2 1181 2181) ∷ [];
  reports = (report A2 1 button.Position 0 (grid 530300 180400) 1182 1 Normal Offered false) ∷ [];
}

clear_no_such_exception_12 : Steps
    (at 1664 (Desk 1) (ask.Clear A2 1)) before_clear_no_such_exception_12
    (Err refusal.NoSuchException) before_clear_no_such_exception_12
unfolding machine
clear_no_such_exception_12 = (refl, refl)

abbrev before_queue_of_1 : Room
before_queue_of_1 = record {
  plan = two_divisions;
  divisions = (division 1 2147483647) ∷ (division 2 2147483647) ∷ [];
  incidents = (incident 1 2147483647 (grid 530100 180100) 3 (needs 2 1 1) 1589 None Active) ∷ [];
  calls = (call 1 4 1 2147483647 2147483647 false (grid 530100 180100) 3 (needs 2 1 1) [] 1589) ∷ [];
  vehicles =
      (vehicle A1 1 2 Ambulance (grid 530000 180000) Available 5000 None 0 0)
      ∷ (vehicle A2 2 2 Ambulance (grid 530120 180160) Available 2000 None 0 0)
      ∷ (vehicle A3 2 2 Ambulance (grid 531000 180000) OffDuty 0 None 0 2)
      ∷ (vehicle B1 2 2 Ambulance (grid 531000 180000) Available 5000 None 0 1) ∷ [];
  turns = [];
  assignments = [];
  points = (point 1 1 (grid 530201 180000) 0) ∷ [];
  loans = (loan A1 1 2 2191 2001 false) ∷ [];
  offers = [];
  reports =
      (report A3 1 button.Scene 0 (grid 530100 180100) 1528 2 Wrong OffDuty false)
      ∷ (report A3 2 button.Scene 0 (grid 530100 180000) 1590 2 Wrong OffDuty false)
      ∷ (report B1 1 button.Position 0 (grid 531000 180000) 2201 2 Normal Available false) ∷ [];
}

queue_of_1 : Steps (at 2001 (Desk 1) ask.Queue) before_queue_of_1
    (Ok (answer.Queue ((entry rank.Unserved 1589 2147483647 None) ∷ []))) before_queue_of_1
unfolding machine
queue_of_1 = (refl, refl)

abbrev before_queue_of_1_and_2 : Room
before_queue_of_1_and_2 = record {
  plan = two_divisions;
  divisions = (division 1 2) ∷ (division 2 1) ∷ [];
  incidents =
      (incident 1 1 (grid 531000 180000) 2 (needs 1 1 0) 1182 None Active)
      ∷ (incident 1 2 (grid 530000 180000) 2 (needs 1 0 0) 2121 (Some 2181) Active)
      ∷ (incident 2 1 (grid 560000 180000) 3 (needs 1 0 0) 1001 (Some 2151) Active) ∷ [];
  calls =
      (call 1 4 2 1 1 false (grid 560000 180000) 3 (needs 1 0 0) (codes "x") 1001)
      ∷ (call 2 3 1 1 1 false (grid 531000 180000) 2 (needs 1 1 0) (codes "x") 1182)
      ∷ (call 2 6 1 2 2 false (grid 530000 180000) 2 (needs 1 0 0) [] 2121) ∷ [];
  vehicles =
      (vehicle A1 2 2 Ambulance (grid 530100 180000) Mobilised 41818 None 1 3)
      ∷ (vehicle A2 1 1 Ambulance (grid 530100 180100) Mobilised 40000 None 1 1) ∷ [];
  turns =
      (turn A1 1 2 1 Ambulance 2151 None None None None None false)
      ∷ (turn A2 1 1 2 Ambulance 2181 None None None None None false) ∷ [];
  assignments = (assignment A1 2 1 1 (grid 560000 180000) 3) ∷ (assignment A2 1 2 1 (grid 530000 180000) 2) ∷ [];
  points = [];
  loans = [];
  offers = [];
  reports =
      (report A1 1 button.Scene 0 (grid 531000 180000) 1663 2 Wrong OffDuty false)
      ∷ (report A1 3 button.Mobile 0 (grid 530000 180000) 2060 2 Wrong Available false)
      ∷ (report A2 1 button.Home 0 (grid 530100 180100) 1940 1 Normal Available false) ∷ [];
}

queue_of_1_and_2 : Steps (at 2272 (Desk 1) ask.Queue) before_queue_of_1_and_2
    (Ok (answer.Queue ((entry rank.Unserved 1182 1 None) ∷ (entry rank.Unacknowledged 2181 2 (Some A2)) ∷ [])))
    before_queue_of_1_and_2
unfolding machine
queue_of_1_and_2 = (refl, refl)

abbrev before_queue_of_1_and_2_and_3 : Room
before_queue_of_1_and_2_and_3 = record {
  plan = two_divisions;
  divisions = (division 1 2) ∷ (division 2 3) ∷ [];
  incidents =
      (incident 1 1 (grid 530120 180160) 2 (needs 1 0 0) 1005 (Some 1186) Active)
      ∷ (incident 1 2 (grid 530300 180400) 1 (needs 1 1 0) 1186 None Active) ∷ [];
  calls =
      (call 1 2 1 2 2 false (grid 530300 180400) 1 (needs 1 1 0) [] 1186)
      ∷ (call 2 3 1 1 1 false (grid 530120 180160) 2 (needs 1 0 0) [] 1005) ∷ [];
  vehicles =
      (vehicle A1 1 1 Ambulance (grid 530120 180160) Mobilised 40000 None 1 1)
      ∷ (vehicle A2 2 2 Car (grid 531000 180000) OffDuty 0 None 0 0) ∷ [];
  turns = (turn A1 1 1 1 Ambulance 1186 None None None None None false) ∷ [];
  assignments = (assignment A1 1 1 1 (grid 530120 180160) 2) ∷ [];
  points = (point 2 2 (grid 530300 180400) 2) ∷ [];
  loans = [];
  offers = [];
  reports = (report A1 1 button.Position 0 (grid 530120 180160) 1047 1 Normal Available false) ∷ [];
}

queue_of_1_and_2_and_3 : Steps (at 2015 (Desk 1) ask.Queue) before_queue_of_1_and_2_and_3
    (Ok (answer.Queue ((entry rank.Unserved 1186 2 None) ∷ (entry rank.Unacknowledged 1186 1 (Some A1))
    ∷ (entry rank.LateForScene 1005 1 (Some A1)) ∷ []))) before_queue_of_1_and_2_and_3
unfolding machine
queue_of_1_and_2_and_3 = (refl, refl)

abbrev before_queue_of_1_and_2_and_3_and_4 : Room
before_queue_of_1_and_2_and_3_and_4 = record {
  plan = two_divisions;
  divisions = (division 1 2) ∷ (division 2 3) ∷ [];
  incidents =
      (incident 1 1 (grid 530120 180160) 1 (needs 2 1 0) 980 (Some 1342) Active)
      ∷ (incident 1 2 (grid 530300 180400) 1 (needs 1 0 0) 1161 None Active) ∷ [];
  calls =
      (call 1 4 1 1 1 true (grid 530120 180160) 2 (needs 1 1 0) [] 1281)
      ∷ (call 1 5 1 2 2 false (grid 530300 180400) 1 (needs 1 0 0) [] 1161)
      ∷ (call 2 2 1 1 1 false (grid 530120 180160) 1 (needs 2 0 0) [] 980) ∷ [];
  vehicles =
      (vehicle A1 1 1 Ambulance (grid 560200 180000) Mobilised 40000 None 1 1)
      ∷ (vehicle A2 1 1 Car (grid 530200 180000) Available 40000 None 0 2) ∷ [];
  turns = (turn A1 1 1 1 Ambulance 1342 None None None None None false) ∷ [];
  assignments = (assignment A1 1 1 1 (grid 530120 180160) 1) ∷ [];
  points = [];
  loans = [];
  offers = [];
  reports =
      (report A1 1 button.Scene 0 (grid 530100 180100) 1343 1 Wrong Available false)
      ∷ (report A2 2 button.Return 0 (grid 531000 180000) 1615 1 Wrong Available false) ∷ [];
}

queue_of_1_and_2_and_3_and_4 : Steps
    (at 1880 (Desk 1) ask.Queue) before_queue_of_1_and_2_and_3_and_4
    (Ok (answer.Queue ((entry rank.Unserved 1161 2 None) ∷ (entry rank.Unacknowledged 1342 1 (Some A1))
    ∷ (entry rank.LateForScene 980 1 (Some A1)) ∷ (entry rank.OutOfTurn 1343 1 (Some A1))
    ∷ (entry rank.OutOfTurn 1615 2 (Some A2))
    ∷ []))) before_queue_of_1_and_2_and_3_and_4
unfolding machine
queue_of_1_and_2_and_3_and_4 = (refl, refl)

abbrev before_queue_of_1_and_2_and_3_and_4_and_5 : Room
before_queue_of_1_and_2_and_3_and_4_and_5 = record {
  plan = two_divisions;
  divisions = (division 1 2) ∷ (division 2 1) ∷ [];
  incidents =
      (incident 1 1 (grid 530120 180160) 1 (needs 2 1 1) 1554 (Some 3226) Active)
      ∷ (incident 1 2 (grid 530120 180160) 1 (needs 2 0 0) 2983 None Active)
      ∷ (incident 2 1 (grid 560000 180000) 1 (needs 2 1 1) 981 None Active) ∷ [];
  calls =
      (call 1 2 2 1 1 false (grid 560000 180000) 1 (needs 1 0 0) [] 981)
      ∷ (call 1 3 1 2 2 true (grid 530200 180000) 1 (needs 2 0 0) [] 3883)
      ∷ (call 2 2 1 1 1 false (grid 530120 180160) 1 (needs 2 1 1) [] 1554)
      ∷ (call 2 4 1 1 1 true (grid 530100 180100) 2 (needs 1 0 0) [] 1615)
      ∷ (call 2 6 1 2 2 false (grid 530120 180160) 1 (needs 1 0 0) [] 2983) ∷ [];
  vehicles =
      (vehicle A1 2 1 Support (grid 560000 180000) Mobilised 40000 None 1 2)
      ∷ (vehicle A2 1 1 Ambulance (grid 530120 180160) Leaving 40000 None 1 2) ∷ [];
  turns =
      (turn A1 1 1 1 Support 3950 None None None None None false)
      ∷ (turn A2 1 1 1 Ambulance 3226 None None (Some 3226) None None false) ∷ [];
  assignments = (assignment A1 1 1 1 (grid 530120 180160) 1) ∷ (assignment A2 1 1 1 (grid 530120 180160) 1) ∷ [];
  points = (point 2 2 (grid 530100 180000) 0) ∷ [];
  loans = (loan A1 2 1 3287 3625 true) ∷ [];
  offers = [];
  reports =
      (report A1 1 button.Scene 0 (grid 530300 180400) 1553 2 Wrong Available true)
      ∷ (report A1 2 button.Scene 0 (grid 530200 180000) 3225 2 Wrong Offered false)
      ∷ (report A2 1 button.Home 1 (grid 530000 180000) 3287 1 Late Leaving false)
      ∷ (report A2 2 button.Leave 1 (grid 530120 180160) 3226 1 Skipped Leaving false) ∷ [];
}

queue_of_1_and_2_and_3_and_4_and_5 : Steps
    (at 4051 (Desk 1) ask.Queue) before_queue_of_1_and_2_and_3_and_4_and_5
    (Ok (answer.Queue ((entry rank.Unserved 2983 2 None) ∷ (entry rank.Unacknowledged 3950 1 (Some A1))
    ∷ (entry rank.LateForScene 1554 1 (Some A1)) ∷ (entry rank.OutOfTurn 3226 2 (Some A2))
    ∷ (entry rank.OutOfTurn 3287 1 (Some A2))
    ∷ (entry rank.Overdue 3625 2 (Some A1)) ∷ []))) before_queue_of_1_and_2_and_3_and_4_and_5
unfolding machine
queue_of_1_and_2_and_3_and_4_and_5 = (refl, refl)

abbrev before_queue_of_1_and_2_and_3_and_4_and_5_and_6 : Room
before_queue_of_1_and_2_and_3_and_4_and_5_and_6 = record {
  plan = two_divisions;
  divisions = (division 1 5) ∷ (division 2 0) ∷ [];
  incidents =
      (incident 1 4 (grid 530100 180100) 3 (needs 2 0 0) 1985 (Some 2026) Active)
      ∷ (incident 1 5 (grid 531000 180000) 2 (needs 0 1 0) 2967 None Active) ∷ [];
  calls =
      (call 2 2 1 4 4 false (grid 530100 180100) 3 (needs 2 0 0) [] 1985)
      ∷ (call 2 3 1 5 5 false (grid 531000 180000) 2 (needs 0 1 0) [] 2967) ∷ [];
  vehicles =
      (vehicle A1 2 2 Ambulance (grid 530300 180400) OffDuty 0 None 0 4)
      ∷ (vehicle A2 1 2 Car (grid 531000 180000) Available 42962 None 0 6)
      ∷ (vehicle A3 2 2 Ambulance (grid 560100 180000) Available 40000 None 0 1)
      ∷ (vehicle B1 1 1 Ambulance (grid 530201 180000) Mobilised 5662 None 1 2) ∷ [];
  turns = (turn B1 1 1 4 Ambulance 2026 None None None None None false) ∷ [];
  assignments = (assignment B1 1 4 1 (grid 530100 180100) 3) ∷ [];
  points = (point 2 1 (grid 530100 180100) 2) ∷ [];
  loans = (loan A2 1 2 3409 2998 false) ∷ [];
  offers = [];
  reports =
      (report A1 2 button.Home 0 (grid 530200 180000) 2508 2 Wrong OffDuty false)
      ∷ (report A1 4 button.Home 0 (grid 530300 180400) 2781 2 Wrong OffDuty false)
      ∷ (report A2 2 button.Hospital 0 (grid 530000 180000) 1030 1 Wrong Available false)
      ∷ (report A2 3 button.Position 0 (grid 530120 180160) 2509 1 Wrong OffDuty false)
      ∷ (report A2 4 button.Scene 0 (grid 530201 180000) 2983 1 Wrong Offered false)
      ∷ (report A2 6 button.Scene 0 (grid 530300 180400) 3103 1 Wrong Offered false)
      ∷ (report A3 1 button.Return 0 (grid 530200 180000) 1723 2 Wrong Available false)
      ∷ (report B1 1 button.Hospital 0 (grid 530201 180000) 1794 1 Wrong Available false)
      ∷ (report B1 2 button.Position 0 (grid 530201 180000) 1975 1 Normal Available false) ∷ [];
}

queue_of_1_and_2_and_3_and_4_and_5_and_6 : Steps
    (at 5663 (Desk 1) ask.Queue) before_queue_of_1_and_2_and_3_and_4_and_5_and_6
    (Ok (answer.Queue ((entry rank.Unserved 2967 5 None) ∷ (entry rank.Unacknowledged 2026 4 (Some B1))
    ∷ (entry rank.LateForScene 1985 4 (Some B1)) ∷ (entry rank.OutOfTurn 1030 2 (Some A2))
    ∷ (entry rank.OutOfTurn 1794 1 (Some B1))
    ∷ (entry rank.OutOfTurn 2509 3 (Some A2)) ∷ (entry rank.OutOfTurn 2983 4 (Some A2))
    ∷ (entry rank.OutOfTurn 3103 6 (Some A2))
    ∷ (entry rank.Overdue 2998 2 (Some A2)) ∷ (entry rank.ShiftOver 5662 0 (Some B1)) ∷ [])))
    before_queue_of_1_and_2_and_3_and_4_and_5_and_6
unfolding machine
queue_of_1_and_2_and_3_and_4_and_5_and_6 = (refl, refl)

abbrev before_queue_of_1_and_2_and_3_and_4_and_5_and_6_and_7 : Room
before_queue_of_1_and_2_and_3_and_4_and_5_and_6_and_7 = record {
  plan = overlapping_divisions;
  divisions = (division 1 2) ∷ (division 7 0) ∷ [];
  incidents =
      (incident 1 1 (grid 530200 180000) 2 (needs 1 1 0) 1125 None Active)
      ∷ (incident 1 2 (grid 560200 180000) 1 (needs 2 0 0) 1186 (Some 1517) Active) ∷ [];
  calls =
      (call 1 6 1 1 1 true (grid 530200 180000) 2 (needs 1 0 0) [] 2025)
      ∷ (call 2 2 1 1 1 false (grid 530200 180000) 2 (needs 0 1 0) [] 1125)
      ∷ (call 2 4 1 2 2 false (grid 560200 180000) 1 (needs 2 0 0) [] 1186) ∷ [];
  vehicles =
      (vehicle A1 1 1 Ambulance (grid 560200 180000) Mobilised 2000 None 1 1)
      ∷ (vehicle A2 1 7 Ambulance (grid 530100 180000) Available 2000 None 0 3) ∷ [];
  turns = (turn A1 1 1 2 Ambulance 1517 None None None None None false) ∷ [];
  assignments = (assignment A1 1 2 1 (grid 560200 180000) 1) ∷ [];
  points = (point 1 2 (grid 530201 180000) 2) ∷ [];
  loans = (loan A2 1 7 1367 1999 false) ∷ [];
  offers = [];
  reports =
      (report A1 1 button.Scene 0 (grid 530100 180000) 2000 1 Wrong Available false)
      ∷ (report A2 2 button.Position 0 (grid 531000 180000) 1120 1 Normal Available false)
      ∷ (report A2 3 button.Position 0 (grid 530100 180000) 1578 7 Normal Available false) ∷ [];
}

queue_of_1_and_2_and_3_and_4_and_5_and_6_and_7 : Steps
    (at 2026 (Desk 1) ask.Queue) before_queue_of_1_and_2_and_3_and_4_and_5_and_6_and_7
    (Ok (answer.Queue ((entry rank.Unserved 1125 1 None) ∷ (entry rank.Unacknowledged 1517 2 (Some A1))
    ∷ (entry rank.LateForScene 1186 2 (Some A1)) ∷ (entry rank.OutOfTurn 2000 1 (Some A1))
    ∷ (entry rank.Overdue 1999 7 (Some A2))
    ∷ (entry rank.ShiftOver 2000 0 (Some A1)) ∷ (entry rank.Uncovered 0 2 None) ∷ [])))
    before_queue_of_1_and_2_and_3_and_4_and_5_and_6_and_7
unfolding machine
queue_of_1_and_2_and_3_and_4_and_5_and_6_and_7 = (refl, refl)

abbrev before_queue_of_1_and_2_and_3_and_4_and_5_and_6_and_7_and_8 : Room
before_queue_of_1_and_2_and_3_and_4_and_5_and_6_and_7_and_8 = record {
  plan = two_divisions;
  divisions = (division 1 2) ∷ (division 2 4) ∷ [];
  incidents =
      (incident 1 1 (grid 530200 180000) 2 (needs 0 0 1) 1426 (Some 3484) Active)
      ∷ (incident 1 2 (grid 530000 180000) 3 (needs 0 0 1) 3965 None Active)
      ∷ (incident 2 4 (grid 560000 180000) 2 (needs 1 0 0) 2967 None Active) ∷ [];
  calls =
      (call 2 1 1 2 2 false (grid 530000 180000) 3 (needs 0 0 1) [] 3965)
      ∷ (call 2 5 1 1 1 false (grid 530200 180000) 2 (needs 2 1 1) [] 1426)
      ∷ (call 2 6 2 4 4 false (grid 560000 180000) 2 (needs 1 0 0) [] 2967) ∷ [];
  vehicles =
      (vehicle A1 2 1 Car (grid 530300 180400) Available 40000 None 0 3)
      ∷ (vehicle A2 1 1 Ambulance (grid 530201 180000) Offered 5000 None 0 1)
      ∷ (vehicle A3 1 1 Support (grid 530100 180100) Mobilised 40000 None 1 3)
      ∷ (vehicle B1 2 2 Ambulance (grid 560000 180000) Available 5000 None 0 1)
      ∷ (vehicle B2 1 2 Ambulance (grid 530100 180100) Available 40000 (Some 2) 0 4) ∷ [];
  turns = (turn A3 1 1 1 Support 3484 None None None None None false) ∷ [];
  assignments = (assignment A3 1 1 1 (grid 530200 180000) 2) ∷ [];
  points = (point 1 1 (grid 530201 180000) 1) ∷ (point 2 2 (grid 530201 180000) 0) ∷ [];
  loans = (loan A1 2 1 4266 40099 false) ∷ (loan B2 1 2 2486 1306 false) ∷ [];
  offers = (offer A2 1 2 2185 2185) ∷ [];
  reports =
      (report A1 1 button.Home 0 (grid 530300 180400) 1546 2 Normal Available false)
      ∷ (report A1 3 button.Home 0 (grid 530300 180400) 1762 2 Normal Available false)
      ∷ (report A2 1 button.Return 0 (grid 530000 180000) 4276 1 Wrong Offered false)
      ∷ (report A3 1 button.Hospital 0 (grid 531000 180000) 1637 1 Wrong Available false)
      ∷ (report A3 3 button.Mobile 0 (grid 530000 180000) 1762 1 Wrong Available false)
      ∷ (report B1 1 button.Hospital 0 (grid 530100 180100) 2124 2 Wrong Available false)
      ∷ (report B2 2 button.Position 0 (grid 530100 180100) 2063 1 Normal Offered false)
      ∷ (report B2 3 button.Position 0 (grid 530100 180100) 2968 2 Normal Available false)
      ∷ (report B2 4 button.Return 0 (grid 530201 180000) 1306 2 Wrong Available false) ∷ [];
}

queue_of_1_and_2_and_3_and_4_and_5_and_6_and_7_and_8 : Steps
    (at 39999 (Desk 1) ask.Queue) before_queue_of_1_and_2_and_3_and_4_and_5_and_6_and_7_and_8
    (Ok (answer.Queue ((entry rank.Unserved 3965 2 None) ∷ (entry rank.Unacknowledged 3484 1 (Some A3))
    ∷ (entry rank.LateForScene 1426 1 (Some A3)) ∷ (entry rank.OutOfTurn 1637 1 (Some A3))
    ∷ (entry rank.OutOfTurn 1762 3 (Some A3))
    ∷ (entry rank.OutOfTurn 4276 1 (Some A2)) ∷ (entry rank.Overdue 1306 2 (Some B2))
    ∷ (entry rank.ShiftOver 5000 0 (Some A2))
    ∷ (entry rank.Uncovered 0 1 None) ∷ (entry rank.Unanswered 2185 2 (Some A2)) ∷ [])))
    before_queue_of_1_and_2_and_3_and_4_and_5_and_6_and_7_and_8
unfolding machine
queue_of_1_and_2_and_3_and_4_and_5_and_6_and_7_and_8 = (refl, refl)

abbrev before_queue_of_1_and_2_and_3_and_4_and_6 : Room
before_queue_of_1_and_2_and_3_and_4_and_6 = record {
  plan = two_divisions;
  divisions = (division 1 2) ∷ (division 2 0) ∷ [];
  incidents =
      (incident 1 1 (grid 530120 180160) 1 (needs 1 1 0) 1281 (Some 1286) Active)
      ∷ (incident 1 2 (grid 530300 180400) 2 (needs 1 0 0) 1761 None Active) ∷ [];
  calls =
      (call 2 2 1 1 1 false (grid 530120 180160) 1 (needs 1 1 0) [] 1281)
      ∷ (call 2 5 1 2 2 false (grid 530300 180400) 2 (needs 1 0 0) [] 1761) ∷ [];
  vehicles =
      (vehicle A1 1 1 Car (grid 530100 180000) Mobilised 5000 None 1 1)
      ∷ (vehicle A2 1 1 Car (grid 560200 180000) OffDuty 5000 None 0 1)
      ∷ (vehicle A3 2 2 Ambulance (grid 560200 180000) OffDuty 0 None 0 0) ∷ [];
  turns = (turn A1 1 1 1 Car 1286 None None None None None false) ∷ [];
  assignments = (assignment A1 1 1 1 (grid 530120 180160) 1) ∷ [];
  points = [];
  loans = [];
  offers = [];
  reports =
      (report A1 1 button.Leave 0 (grid 530120 180160) 1061 1 Wrong Available false)
      ∷ (report A2 1 button.Hospital 0 (grid 530200 180000) 1347 1 Wrong Available false) ∷ [];
}

queue_of_1_and_2_and_3_and_4_and_6 : Steps
    (at 5000 (Desk 1) ask.Queue) before_queue_of_1_and_2_and_3_and_4_and_6
    (Ok (answer.Queue ((entry rank.Unserved 1761 2 None) ∷ (entry rank.Unacknowledged 1286 1 (Some A1))
    ∷ (entry rank.LateForScene 1281 1 (Some A1)) ∷ (entry rank.OutOfTurn 1061 1 (Some A1))
    ∷ (entry rank.OutOfTurn 1347 1 (Some A2))
    ∷ (entry rank.ShiftOver 5000 0 (Some A1)) ∷ []))) before_queue_of_1_and_2_and_3_and_4_and_6
unfolding machine
queue_of_1_and_2_and_3_and_4_and_6 = (refl, refl)

abbrev before_queue_of_1_and_2_and_3_and_4_and_6_and_7 : Room
before_queue_of_1_and_2_and_3_and_4_and_6_and_7 = record {
  plan = two_divisions;
  divisions = (division 1 2) ∷ (division 2 4) ∷ [];
  incidents =
      (incident 1 1 (grid 531000 180000) 3 (needs 1 0 0) 981 None Active)
      ∷ (incident 1 2 (grid 530200 180000) 2 (needs 1 0 0) 1167 (Some 1775) Active)
      ∷ (incident 2 4 (grid 560100 180000) 2 (needs 1 0 0) 1354 None Active) ∷ [];
  calls =
      (call 1 2 1 1 1 false (grid 531000 180000) 3 (needs 1 0 0) (codes "x") 981)
      ∷ (call 1 5 1 2 2 false (grid 530200 180000) 2 (needs 1 0 0) (codes "x") 1167)
      ∷ (call 2 4 2 4 4 false (grid 560100 180000) 2 (needs 1 0 0) [] 1354) ∷ [];
  vehicles =
      (vehicle A1 1 1 Ambulance (grid 530100 180000) Mobilised 41655 None 1 4)
      ∷ (vehicle A2 1 1 Ambulance (grid 531000 180000) Available 1876 None 0 0)
      ∷ (vehicle A3 2 2 Ambulance (grid 530100 180100) Available 2000 None 0 0) ∷ [];
  turns = (turn A1 1 1 2 Ambulance 1775 None None None None None false) ∷ [];
  assignments = (assignment A1 1 2 1 (grid 530200 180000) 2) ∷ [];
  points = (point 1 2 (grid 530201 180000) 2) ∷ [];
  loans = [];
  offers = [];
  reports =
      (report A1 1 button.Home 0 (grid 530000 180000) 1001 1 Wrong OffDuty true)
      ∷ (report A1 3 button.Hospital 0 (grid 530000 180000) 1474 1 Wrong OffDuty false)
      ∷ (report A1 4 button.Leave 0 (grid 530100 180100) 1895 1 Stale Mobilised false) ∷ [];
}

queue_of_1_and_2_and_3_and_4_and_6_and_7 : Steps
    (at 2255 (Desk 1) ask.Queue) before_queue_of_1_and_2_and_3_and_4_and_6_and_7
    (Ok (answer.Queue ((entry rank.Unserved 981 1 None) ∷ (entry rank.Unacknowledged 1775 2 (Some A1))
    ∷ (entry rank.LateForScene 1167 2 (Some A1)) ∷ (entry rank.OutOfTurn 1474 3 (Some A1))
    ∷ (entry rank.OutOfTurn 1895 4 (Some A1))
    ∷ (entry rank.ShiftOver 1876 0 (Some A2)) ∷ (entry rank.Uncovered 0 2 None) ∷ [])))
    before_queue_of_1_and_2_and_3_and_4_and_6_and_7
unfolding machine
queue_of_1_and_2_and_3_and_4_and_6_and_7 = (refl, refl)

abbrev before_queue_of_1_and_2_and_3_and_4_and_6_and_8 : Room
before_queue_of_1_and_2_and_3_and_4_and_6_and_8 = record {
  plan = overlapping_divisions;
  divisions = (division 1 3) ∷ (division 7 3) ∷ [];
  incidents =
      (incident 1 1 (grid 530120 180160) 2 (needs 0 0 1) 1196 None Active)
      ∷ (incident 1 2 (grid 530201 180000) 1 (needs 2 1 1) 2499 (Some 2925) Active)
      ∷ (incident 1 3 (grid 530201 180000) 1 (needs 0 0 1) 3452 None Active) ∷ [];
  calls =
      (call 1 1 1 2 2 false (grid 530201 180000) 2 (needs 1 0 0) [] 2499)
      ∷ (call 1 5 1 2 2 true (grid 530200 180000) 1 (needs 2 1 1) [] 2920)
      ∷ (call 2 1 1 1 1 false (grid 530120 180160) 2 (needs 0 0 1) [] 1196)
      ∷ (call 2 3 1 2 2 true (grid 530120 180160) 2 (needs 1 1 0) [] 3327)
      ∷ (call 2 4 1 3 3 false (grid 530201 180000) 1 (needs 0 0 1) [] 3452) ∷ [];
  vehicles =
      (vehicle A1 7 7 Car (grid 530120 180160) Available 40000 (Some 1) 0 0)
      ∷ (vehicle A2 1 1 Ambulance (grid 530200 180000) Offered 6282 None 0 2)
      ∷ (vehicle A3 1 1 Ambulance (grid 530100 180100) Mobilised 3119 None 1 1) ∷ [];
  turns = (turn A3 1 1 2 Ambulance 2925 None None None None None false) ∷ [];
  assignments = (assignment A3 1 2 1 (grid 530201 180000) 1) ∷ [];
  points = (point 7 1 (grid 530201 180000) 0) ∷ [];
  loans = [];
  offers = (offer A2 1 7 2288 2388) ∷ [];
  reports =
      (report A2 1 button.Hospital 0 (grid 531000 180000) 1216 1 Wrong OffDuty true)
      ∷ (report A2 2 button.Home 0 (grid 530200 180000) 2905 1 Normal Offered false)
      ∷ (report A3 1 button.Return 0 (grid 530100 180100) 1287 1 Wrong Available false) ∷ [];
}

queue_of_1_and_2_and_3_and_4_and_6_and_8 : Steps
    (at 40000 (Desk 1) ask.Queue) before_queue_of_1_and_2_and_3_and_4_and_6_and_8
    (Ok (answer.Queue ((entry rank.Unserved 1196 1 None) ∷ (entry rank.Unserved 3452 3 None)
    ∷ (entry rank.Unacknowledged 2925 2 (Some A3))
    ∷ (entry rank.LateForScene 2499 2 (Some A3)) ∷ (entry rank.OutOfTurn 1287 1 (Some A3))
    ∷ (entry rank.ShiftOver 3119 0 (Some A3))
    ∷ (entry rank.ShiftOver 6282 0 (Some A2)) ∷ (entry rank.Unanswered 2288 7 (Some A2)) ∷ [])))
    before_queue_of_1_and_2_and_3_and_4_and_6_and_8
unfolding machine
queue_of_1_and_2_and_3_and_4_and_6_and_8 = (refl, refl)

abbrev before_queue_of_1_and_2_and_3_and_4_and_7 : Room
before_queue_of_1_and_2_and_3_and_4_and_7 = record {
  plan = two_divisions;
  divisions = (division 1 2) ∷ (division 2 1) ∷ [];
  incidents =
      (incident 1 1 (grid 530000 180000) 2 (needs 1 0 0) 2639 (Some 3331) Active)
      ∷ (incident 1 2 (grid 530201 180000) 2 (needs 0 0 1) 3300 None Active)
      ∷ (incident 2 1 (grid 560100 180000) 1 (needs 1 0 0) 2819 None Active) ∷ [];
  calls =
      (call 2 1 1 2 2 false (grid 530201 180000) 2 (needs 0 0 1) [] 3300)
      ∷ (call 2 2 2 1 1 false (grid 560100 180000) 1 (needs 1 0 0) [] 2819)
      ∷ (call 2 5 1 1 1 false (grid 530000 180000) 2 (needs 1 0 0) [] 2639) ∷ [];
  vehicles =
      (vehicle A1 2 2 Ambulance (grid 530100 180100) Available 6396 None 0 1)
      ∷ (vehicle A2 1 1 Ambulance (grid 530300 180400) OffDuty 0 None 0 2)
      ∷ (vehicle A3 1 1 Ambulance (grid 560100 180000) Mobilised 5000 None 1 1)
      ∷ (vehicle B1 2 2 Ambulance (grid 530200 180000) Available 40000 None 0 0) ∷ [];
  turns = (turn A3 1 1 1 Ambulance 3331 None None None None None false) ∷ [];
  assignments = (assignment A3 1 1 1 (grid 530000 180000) 2) ∷ [];
  points = (point 1 2 (grid 530200 180000) 2) ∷ [];
  loans = [];
  offers = [];
  reports =
      (report A1 1 button.Hospital 0 (grid 530100 180100) 4449 2 Wrong Available false)
      ∷ (report A2 1 button.Position 0 (grid 530300 180400) 1491 1 Wrong OffDuty false)
      ∷ (report A2 2 button.Return 0 (grid 530200 180000) 2214 1 Wrong OffDuty true)
      ∷ (report A3 1 button.Scene 0 (grid 530201 180000) 2395 1 Wrong Available false) ∷ [];
}

queue_of_1_and_2_and_3_and_4_and_7 : Steps
    (at 3720 (Desk 1) ask.Queue) before_queue_of_1_and_2_and_3_and_4_and_7
    (Ok (answer.Queue ((entry rank.Unserved 3300 2 None) ∷ (entry rank.Unacknowledged 3331 1 (Some A3))
    ∷ (entry rank.LateForScene 2639 1 (Some A3)) ∷ (entry rank.OutOfTurn 1491 1 (Some A2))
    ∷ (entry rank.OutOfTurn 2395 1 (Some A3))
    ∷ (entry rank.Uncovered 0 2 None) ∷ []))) before_queue_of_1_and_2_and_3_and_4_and_7
unfolding machine
queue_of_1_and_2_and_3_and_4_and_7 = (refl, refl)

abbrev before_queue_of_1_and_2_and_3_and_4_and_7_and_8 : Room
before_queue_of_1_and_2_and_3_and_4_and_7_and_8 = record {
  plan = two_divisions;
  divisions = (division 1 2) ∷ (division 2 0) ∷ [];
  incidents =
      (incident 1 1 (grid 530100 180000) 1 (needs 1 1 0) 2076 (Some 2357) Active)
      ∷ (incident 1 2 (grid 530000 180000) 2 (needs 1 1 0) 3468 None Active) ∷ [];
  calls =
      (call 1 1 1 2 2 false (grid 530000 180000) 2 (needs 1 1 0) [] 3468)
      ∷ (call 1 6 1 1 1 true (grid 530000 180000) 1 (needs 1 0 0) (codes "x") 2357)
      ∷ (call 2 2 1 1 1 false (grid 530100 180000) 3 (needs 1 1 0) [] 2076) ∷ [];
  vehicles =
      (vehicle A1 1 1 Ambulance (grid 530120 180160) Offered 40000 None 0 1)
      ∷ (vehicle A2 1 1 Car (grid 530100 180000) Mobilised 40000 None 1 1)
      ∷ (vehicle A3 1 1 Ambulance (grid 560000 180000) OffDuty 5000 None 0 2)
      ∷ (vehicle B1 2 2 Car (grid 530100 180100) Available 40000 None 0 2)
      ∷ (vehicle B2 1 1 Ambulance (grid 530200 180000) Returning 42045 None 1 3) ∷ [];
  turns =
      (turn A2 1 1 1 Car 2803 None None None None None false)
      ∷ (turn B2 1 1 1 Ambulance 2357 None None None (Some 2317) (Some 3650) false) ∷ [];
  assignments = (assignment A2 1 1 1 (grid 530100 180000) 1) ∷ [];
  points = (point 1 1 (grid 530000 180000) 1) ∷ (point 1 2 (grid 530201 180000) 1) ∷ [];
  loans = [];
  offers = (offer A1 1 2 2065 2065) ∷ [];
  reports =
      (report A1 1 button.Home 0 (grid 530120 180160) 1212 1 Normal Available false)
      ∷ (report A2 1 button.Home 0 (grid 530100 180000) 2060 1 Normal Available false)
      ∷ (report A3 1 button.Return 0 (grid 530100 180100) 1574 1 Wrong Available false)
      ∷ (report A3 2 button.Scene 0 (grid 530100 180100) 3463 1 Wrong OffDuty false)
      ∷ (report B1 1 button.Leave 0 (grid 530200 180000) 1211 2 Wrong Available false)
      ∷ (report B1 2 button.Home 0 (grid 530100 180100) 1393 2 Normal Available false)
      ∷ (report B2 1 button.Hospital 1 (grid 530000 180000) 2317 1 Skipped AtHospital false)
      ∷ (report B2 2 button.Hospital 1 (grid 530120 180160) 3447 1 Normal AtHospital false)
      ∷ (report B2 3 button.Return 1 (grid 530200 180000) 3650 1 Normal Returning false) ∷ [];
}

queue_of_1_and_2_and_3_and_4_and_7_and_8 : Steps
    (at 4309 (Desk 1) ask.Queue) before_queue_of_1_and_2_and_3_and_4_and_7_and_8
    (Ok (answer.Queue ((entry rank.Unserved 3468 2 None) ∷ (entry rank.Unacknowledged 2803 1 (Some A2))
    ∷ (entry rank.LateForScene 2076 1 (Some A2)) ∷ (entry rank.OutOfTurn 1574 1 (Some A3))
    ∷ (entry rank.OutOfTurn 2317 1 (Some B2))
    ∷ (entry rank.OutOfTurn 3463 2 (Some A3)) ∷ (entry rank.Uncovered 0 1 None) ∷ (entry rank.Uncovered 0 2 None)
    ∷ (entry rank.Unanswered 2065 2 (Some A1)) ∷ []))) before_queue_of_1_and_2_and_3_and_4_and_7_and_8
unfolding machine
queue_of_1_and_2_and_3_and_4_and_7_and_8 = (refl, refl)

abbrev before_queue_of_1_and_2_and_3_and_4_and_8 : Room
before_queue_of_1_and_2_and_3_and_4_and_8 = record {
  plan = two_divisions;
  divisions = (division 1 3) ∷ (division 2 3) ∷ [];
  incidents =
      (incident 1 1 (grid 531000 180000) 2 (needs 1 0 0) 1909 None Active)
      ∷ (incident 1 2 (grid 530120 180160) 1 (needs 2 1 1) 2662 (Some 2894) Active)
      ∷ (incident 1 3 (grid 530000 180000) 1 (needs 1 1 0) 3857 None Active) ∷ [];
  calls =
      (call 1 3 1 3 3 false (grid 530000 180000) 1 (needs 1 1 0) [] 3857)
      ∷ (call 1 6 1 2 2 false (grid 530120 180160) 1 (needs 1 0 0) [] 2662)
      ∷ (call 2 4 1 1 1 false (grid 531000 180000) 2 (needs 1 0 0) [] 1909) ∷ [];
  vehicles =
      (vehicle A1 1 1 Ambulance (grid 530120 180160) Mobilised 40000 None 1 5)
      ∷ (vehicle A2 1 1 Ambulance (grid 530000 180000) Offered 5000 None 0 0) ∷ [];
  turns = (turn A1 1 1 2 Ambulance 2894 None None None None None false) ∷ [];
  assignments = (assignment A1 1 2 1 (grid 530120 180160) 1) ∷ [];
  points = [];
  loans = [];
  offers = (offer A2 1 2 1843 1843) ∷ [];
  reports =
      (report A1 1 button.Scene 0 (grid 530201 180000) 1662 1 Wrong Available true)
      ∷ (report A1 2 button.Scene 0 (grid 530120 180160) 2090 1 Wrong Available true)
      ∷ (report A1 3 button.Return 0 (grid 530201 180000) 2727 1 Wrong Available false)
      ∷ (report A1 5 button.Scene 0 (grid 530300 180400) 2913 1 Wrong Available false) ∷ [];
}

queue_of_1_and_2_and_3_and_4_and_8 : Steps
    (at 3837 (Desk 1) ask.Queue) before_queue_of_1_and_2_and_3_and_4_and_8
    (Ok (answer.Queue ((entry rank.Unserved 1909 1 None) ∷ (entry rank.Unacknowledged 2894 2 (Some A1))
    ∷ (entry rank.LateForScene 2662 2 (Some A1)) ∷ (entry rank.OutOfTurn 2727 3 (Some A1))
    ∷ (entry rank.OutOfTurn 2913 5 (Some A1))
    ∷ (entry rank.Unanswered 1843 2 (Some A2)) ∷ []))) before_queue_of_1_and_2_and_3_and_4_and_8
unfolding machine
queue_of_1_and_2_and_3_and_4_and_8 = (refl, refl)

abbrev before_queue_of_1_and_2_and_3_and_5_and_7 : Room
before_queue_of_1_and_2_and_3_and_5_and_7 = record {
  plan = two_divisions;
  divisions = (division 1 2) ∷ (division 2 4) ∷ [];
  incidents =
      (incident 1 1 (grid 530300 180400) 2 (needs 2 1 1) 1186 (Some 2923) Active)
      ∷ (incident 1 2 (grid 530000 180000) 1 (needs 0 0 1) 2041 None Active)
      ∷ (incident 2 4 (grid 560000 180000) 2 (needs 1 1 0) 1367 (Some 2773) Active) ∷ [];
  calls =
      (call 1 2 1 2 2 false (grid 530000 180000) 1 (needs 0 0 1) [] 2041)
      ∷ (call 1 3 1 1 1 true (grid 530300 180400) 3 (needs 1 0 0) (codes "x") 1547)
      ∷ (call 1 6 1 1 1 false (grid 530300 180400) 2 (needs 2 1 1) (codes "x") 1186)
      ∷ (call 2 4 2 4 4 false (grid 560000 180000) 2 (needs 1 1 0) (codes "x") 1367) ∷ [];
  vehicles =
      (vehicle A1 2 1 Ambulance (grid 530100 180000) Mobilised 5000 None 1 1)
      ∷ (vehicle A2 2 2 Ambulance (grid 530000 180000) Mobilised 6773 None 1 3)
      ∷ (vehicle A3 2 2 Ambulance (grid 530120 180160) OffDuty 0 None 0 4)
      ∷ (vehicle B1 1 1 Ambulance (grid 530000 180000) Mobilised 40000 None 1 0) ∷ [];
  turns =
      (turn A1 1 1 1 Ambulance 2933 None None None None None false)
      ∷ (turn A2 1 2 4 Ambulance 2773 None None None None None false)
      ∷ (turn B1 1 1 1 Ambulance 2923 None None None None None false) ∷ [];
  assignments =
      (assignment A1 1 1 1 (grid 530300 180400) 2) ∷ (assignment A2 2 4 1 (grid 560000 180000) 2)
      ∷ (assignment B1 1 1 1 (grid 530300 180400) 2) ∷ [];
  points = (point 1 1 (grid 530000 180000) 1) ∷ (point 2 1 (grid 530120 180160) 0) ∷ [];
  loans = (loan A1 2 1 6772 2273 false) ∷ [];
  offers = [];
  reports =
      (report A1 1 button.Return 0 (grid 530100 180000) 1293 2 Wrong Available false)
      ∷ (report A2 1 button.Scene 0 (grid 530000 180000) 1288 2 Wrong Available false)
      ∷ (report A2 3 button.Scene 0 (grid 530000 180000) 2653 2 Wrong OffDuty false)
      ∷ (report A3 1 button.Position 0 (grid 530100 180000) 1005 2 Wrong OffDuty false)
      ∷ (report A3 2 button.Return 0 (grid 530120 180160) 1286 2 Wrong OffDuty false)
      ∷ (report A3 4 button.Scene 0 (grid 530100 180000) 2047 2 Wrong OffDuty false) ∷ [];
}

queue_of_1_and_2_and_3_and_5_and_7 : Steps
    (at 3514 (Desk 1) ask.Queue) before_queue_of_1_and_2_and_3_and_5_and_7
    (Ok (answer.Queue ((entry rank.Unserved 2041 2 None) ∷ (entry rank.Unacknowledged 2923 1 (Some B1))
    ∷ (entry rank.Unacknowledged 2933 1 (Some A1)) ∷ (entry rank.LateForScene 1186 1 (Some A1))
    ∷ (entry rank.LateForScene 1186 1 (Some B1))
    ∷ (entry rank.Overdue 2273 2 (Some A1)) ∷ (entry rank.Uncovered 0 1 None) ∷ [])))
    before_queue_of_1_and_2_and_3_and_5_and_7
unfolding machine
queue_of_1_and_2_and_3_and_5_and_7 = (refl, refl)

abbrev before_queue_of_1_and_2_and_3_and_6 : Room
before_queue_of_1_and_2_and_3_and_6 = record {
  plan = two_divisions;
  divisions = (division 1 2) ∷ (division 2 3) ∷ [];
  incidents =
      (incident 1 1 (grid 530000 180000) 2 (needs 1 0 0) 980 (Some 1947) Active)
      ∷ (incident 1 2 (grid 530120 180160) 1 (needs 0 1 0) 1947 None Active) ∷ [];
  calls =
      (call 1 6 1 1 1 false (grid 530000 180000) 2 (needs 1 0 0) [] 980)
      ∷ (call 2 1 1 2 2 false (grid 530120 180160) 1 (needs 0 1 0) [] 1947) ∷ [];
  vehicles =
      (vehicle A1 2 2 Car (grid 531000 180000) OffDuty 0 None 0 0)
      ∷ (vehicle A2 1 1 Ambulance (grid 560200 180000) Mobilised 2000 None 1 0) ∷ [];
  turns = (turn A2 1 1 1 Ambulance 1947 None None None None None false) ∷ [];
  assignments = (assignment A2 1 1 1 (grid 530000 180000) 2) ∷ [];
  points = [];
  loans = [];
  offers = [];
  reports = [];
}

queue_of_1_and_2_and_3_and_6 : Steps
    (at 2428 (Desk 1) ask.Queue) before_queue_of_1_and_2_and_3_and_6
    (Ok (answer.Queue ((entry rank.Unserved 1947 2 None) ∷ (entry rank.Unacknowledged 1947 1 (Some A2))
    ∷ (entry rank.LateForScene 980 1 (Some A2)) ∷ (entry rank.ShiftOver 2000 0 (Some A2)) ∷ [])))
    before_queue_of_1_and_2_and_3_and_6
unfolding machine
queue_of_1_and_2_and_3_and_6 = (refl, refl)

abbrev before_queue_of_1_and_2_and_3_and_6_and_7 : Room
before_queue_of_1_and_2_and_3_and_6_and_7 = record {
  plan = two_divisions;
  divisions = (division 1 5) ∷ (division 2 2) ∷ [];
  incidents =
      (incident 1 4 (grid 530100 180000) 1 (needs 1 1 0) 1040 (Some 1863) Active)
      ∷ (incident 1 5 (grid 530100 180100) 2 (needs 0 0 1) 2089 None Active)
      ∷ (incident 2 1 (grid 560000 180000) 3 (needs 2 0 0) 2103 None Active)
      ∷ (incident 2 2 (grid 560000 180000) 2 (needs 1 0 0) 3135 None Active) ∷ [];
  calls =
      (call 1 2 2 2 2 false (grid 560000 180000) 2 (needs 1 0 0) [] 3135)
      ∷ (call 1 3 1 5 5 false (grid 530100 180100) 2 (needs 0 0 1) [] 2089)
      ∷ (call 1 5 1 4 4 false (grid 530100 180000) 1 (needs 1 0 0) [] 1040)
      ∷ (call 1 6 2 1 1 false (grid 560000 180000) 3 (needs 2 0 0) [] 2103) ∷ [];
  vehicles =
      (vehicle A1 1 1 Ambulance (grid 530100 180000) Mobilised 2000 None 1 2)
      ∷ (vehicle A2 2 2 Ambulance (grid 530120 180160) Available 1505 None 0 7) ∷ [];
  turns = (turn A1 1 1 4 Ambulance 1863 None None None None None false) ∷ [];
  assignments = (assignment A1 1 4 1 (grid 530100 180000) 1) ∷ [];
  points = (point 1 2 (grid 530120 180160) 1) ∷ (point 2 2 (grid 531000 180000) 1) ∷ [];
  loans = [];
  offers = [];
  reports =
      (report A1 1 button.Home 0 (grid 530000 180000) 1000 1 Normal Available false)
      ∷ (report A1 2 button.Position 1 (grid 530100 180000) 2069 1 Normal Mobilised false)
      ∷ (report A2 1 button.Mobile 0 (grid 531000 180000) 1035 2 Wrong Available false)
      ∷ (report A2 2 button.Home 0 (grid 530120 180160) 1221 2 Normal Available false)
      ∷ (report A2 3 button.Return 0 (grid 530120 180160) 1402 2 Wrong Available false)
      ∷ (report A2 5 button.Scene 0 (grid 530300 180400) 2069 2 Wrong Available false)
      ∷ (report A2 6 button.Mobile 0 (grid 530201 180000) 2189 2 Wrong Available false)
      ∷ (report A2 7 button.Hospital 0 (grid 530201 180000) 2924 2 Wrong Available false) ∷ [];
}

queue_of_1_and_2_and_3_and_6_and_7 : Steps
    (at 2990 (Desk 1) ask.Queue) before_queue_of_1_and_2_and_3_and_6_and_7
    (Ok (answer.Queue ((entry rank.Unserved 2089 5 None) ∷ (entry rank.Unacknowledged 1863 4 (Some A1))
    ∷ (entry rank.LateForScene 1040 4 (Some A1)) ∷ (entry rank.ShiftOver 2000 0 (Some A1))
    ∷ (entry rank.Uncovered 0 2 None) ∷ [])))
    before_queue_of_1_and_2_and_3_and_6_and_7
unfolding machine
queue_of_1_and_2_and_3_and_6_and_7 = (refl, refl)

abbrev before_queue_of_1_and_2_and_4 : Room
before_queue_of_1_and_2_and_4 = record {
  plan = two_divisions;
  divisions = (division 1 5) ∷ (division 2 0) ∷ [];
  incidents =
      (incident 1 4 (grid 530120 180160) 2 (needs 0 1 0) 1242 (Some 1730) Active)
      ∷ (incident 1 5 (grid 531000 180000) 2 (needs 0 0 1) 1248 None Active) ∷ [];
  calls =
      (call 2 3 1 5 5 false (grid 531000 180000) 2 (needs 0 0 1) [] 1248)
      ∷ (call 2 6 1 4 4 false (grid 530120 180160) 2 (needs 0 1 0) (codes "x") 1242) ∷ [];
  vehicles =
      (vehicle A1 2 2 Car (grid 530100 180000) Available 5000 None 0 2)
      ∷ (vehicle A2 1 1 Car (grid 560000 180000) Mobilised 5000 None 1 1)
      ∷ (vehicle A3 2 2 Ambulance (grid 530120 180160) Available 5000 None 0 0) ∷ [];
  turns = (turn A2 1 1 4 Car 1730 None None None None None false) ∷ [];
  assignments = (assignment A2 1 4 1 (grid 530120 180160) 2) ∷ [];
  points = [];
  loans = [];
  offers = [];
  reports =
      (report A1 2 button.Return 0 (grid 530200 180000) 1247 2 Wrong Available false)
      ∷ (report A2 1 button.Hospital 0 (grid 530201 180000) 1061 1 Wrong Available false) ∷ [];
}

queue_of_1_and_2_and_4 : Steps (at 1850 (Desk 1) ask.Queue) before_queue_of_1_and_2_and_4
    (Ok (answer.Queue ((entry rank.Unserved 1248 5 None) ∷ (entry rank.Unacknowledged 1730 4 (Some A2))
    ∷ (entry rank.OutOfTurn 1061 1 (Some A2)) ∷ []))) before_queue_of_1_and_2_and_4
unfolding machine
queue_of_1_and_2_and_4 = (refl, refl)

abbrev before_queue_of_1_and_2_and_4_and_5 : Room
before_queue_of_1_and_2_and_4_and_5 = record {
  plan = two_divisions;
  divisions = (division 1 2) ∷ (division 2 0) ∷ [];
  incidents =
      (incident 1 1 (grid 530100 180000) 2 (needs 0 0 1) 2243 None Active)
      ∷ (incident 1 2 (grid 530000 180000) 1 (needs 1 0 0) 3145 (Some 3084) Active) ∷ [];
  calls =
      (call 1 4 1 2 2 false (grid 530000 180000) 1 (needs 1 0 0) [] 3145)
      ∷ (call 1 5 1 1 1 false (grid 530100 180000) 2 (needs 0 0 1) (codes "x") 2243) ∷ [];
  vehicles =
      (vehicle A1 2 2 Ambulance (grid 531000 180000) Available 2000 None 0 3)
      ∷ (vehicle A2 2 1 Ambulance (grid 531000 180000) Available 40000 (Some 1) 0 3)
      ∷ (vehicle A3 1 1 Ambulance (grid 530000 180000) Mobilised 7048 None 1 0) ∷ [];
  turns = (turn A3 1 1 2 Ambulance 3084 None None None None None false) ∷ [];
  assignments = (assignment A3 1 2 1 (grid 530000 180000) 1) ∷ [];
  points = (point 1 1 (grid 530201 180000) 0) ∷ [];
  loans = (loan A2 2 1 2204 1581 false) ∷ [];
  offers = [];
  reports =
      (report A1 1 button.Position 0 (grid 531000 180000) 1461 2 Normal Available false)
      ∷ (report A1 2 button.Scene 0 (grid 530100 180000) 2505 2 Wrong Available true)
      ∷ (report A1 3 button.Scene 0 (grid 530200 180000) 2566 2 Wrong Available false)
      ∷ (report A2 1 button.Scene 0 (grid 530000 180000) 1942 2 Wrong Offered false)
      ∷ (report A2 2 button.Leave 0 (grid 530201 180000) 2567 1 Wrong Available false)
      ∷ (report A2 3 button.Scene 0 (grid 531000 180000) 1582 1 Wrong Available false) ∷ [];
}

queue_of_1_and_2_and_4_and_5 : Steps
    (at 3417 (Desk 1) ask.Queue) before_queue_of_1_and_2_and_4_and_5
    (Ok (answer.Queue ((entry rank.Unserved 2243 1 None) ∷ (entry rank.Unacknowledged 3084 2 (Some A3))
    ∷ (entry rank.OutOfTurn 1582 3 (Some A2)) ∷ (entry rank.OutOfTurn 2567 2 (Some A2))
    ∷ (entry rank.Overdue 1581 2 (Some A2))
    ∷ []))) before_queue_of_1_and_2_and_4_and_5
unfolding machine
queue_of_1_and_2_and_4_and_5 = (refl, refl)

abbrev before_queue_of_1_and_2_and_4_and_6 : Room
before_queue_of_1_and_2_and_4_and_6 = record {
  plan = two_divisions;
  divisions = (division 1 4) ∷ (division 2 1) ∷ [];
  incidents =
      (incident 1 1 (grid 530300 180400) 2 (needs 2 1 1) 1157 None Active)
      ∷ (incident 1 2 (grid 530120 180160) 2 (needs 2 0 0) 1277 None Active)
      ∷ (incident 1 3 (grid 530300 180400) 3 (needs 1 1 0) 2177 (Some 1937) Active)
      ∷ (incident 1 4 (grid 531000 180000) 1 (needs 1 0 0) 1490 None Active)
      ∷ (incident 2 1 (grid 560000 180000) 2 (needs 1 0 0) 1096 None Active) ∷ [];
  calls =
      (call 1 4 2 1 1 false (grid 560000 180000) 2 (needs 1 0 0) [] 1096)
      ∷ (call 1 5 1 3 3 false (grid 530300 180400) 3 (needs 1 1 0) [] 2177)
      ∷ (call 2 1 1 2 2 false (grid 530120 180160) 2 (needs 2 0 0) [] 1277)
      ∷ (call 2 4 1 4 4 false (grid 531000 180000) 1 (needs 1 0 0) [] 1490)
      ∷ (call 2 6 1 1 1 false (grid 530300 180400) 2 (needs 2 1 1) [] 1157) ∷ [];
  vehicles =
      (vehicle A1 1 1 Ambulance (grid 560100 180000) Mobilised 2000 None 1 0)
      ∷ (vehicle A2 2 2 Ambulance (grid 560000 180000) Available 5000 None 0 0)
      ∷ (vehicle A3 1 1 Support (grid 530100 180000) OffDuty 0 None 0 1) ∷ [];
  turns = (turn A1 1 1 3 Ambulance 1937 None None None None None false) ∷ [];
  assignments = (assignment A1 1 3 1 (grid 530300 180400) 3) ∷ [];
  points = [];
  loans = [];
  offers = [];
  reports = (report A3 1 button.Return 0 (grid 530100 180100) 1005 1 Wrong OffDuty false) ∷ [];
}

queue_of_1_and_2_and_4_and_6 : Steps
    (at 5777 (Desk 1) ask.Queue) before_queue_of_1_and_2_and_4_and_6
    (Ok (answer.Queue
    ((entry rank.Unserved 1157 1 None) ∷ (entry rank.Unserved 1277 2 None) ∷ (entry rank.Unserved 1490 4 None)
    ∷ (entry rank.Unacknowledged 1937 3 (Some A1)) ∷ (entry rank.OutOfTurn 1005 1 (Some A3))
    ∷ (entry rank.ShiftOver 2000 0 (Some A1))
    ∷ []))) before_queue_of_1_and_2_and_4_and_6
unfolding machine
queue_of_1_and_2_and_4_and_6 = (refl, refl)

abbrev before_queue_of_1_and_2_and_4_and_6_and_7 : Room
before_queue_of_1_and_2_and_4_and_6_and_7 = record {
  plan = overlapping_divisions;
  divisions = (division 1 3) ∷ (division 7 4) ∷ [];
  incidents =
      (incident 1 1 (grid 531000 180000) 3 (needs 1 0 0) 1974 (Some 3581) Active)
      ∷ (incident 1 2 (grid 530100 180100) 2 (needs 0 0 1) 3058 None Active)
      ∷ (incident 1 3 (grid 530120 180160) 2 (needs 1 0 0) 3959 None Active)
      ∷ (incident 7 4 (grid 530000 180000) 2 (needs 0 1 0) 5574 None Active) ∷ [];
  calls =
      (call 1 5 1 2 2 false (grid 530100 180100) 2 (needs 0 0 1) [] 3058)
      ∷ (call 1 6 1 3 3 false (grid 530120 180160) 2 (needs 1 0 0) [] 3959)
      ∷ (call 2 1 1 1 1 false (grid 531000 180000) 3 (needs 1 0 0) [] 1974)
      ∷ (call 2 6 7 4 4 false (grid 530000 180000) 2 (needs 0 1 0) [] 5574) ∷ [];
  vehicles =
      (vehicle A1 1 1 Ambulance (grid 530120 180160) Available 2000 None 0 4)
      ∷ (vehicle A2 1 1 Ambulance (grid 560100 180000) Mobilised 5000 None 1 3) ∷ [];
  turns = (turn A2 1 1 1 Ambulance 3581 None None None None None false) ∷ [];
  assignments = (assignment A2 1 1 1 (grid 531000 180000) 3) ∷ [];
  points = (point 1 1 (grid 530100 180100) 1) ∷ [];
  loans = [];
  offers = [];
  reports =
      (report A1 1 button.Return 0 (grid 530000 180000) 980 1 Wrong Available true)
      ∷ (report A1 2 button.Hospital 0 (grid 530201 180000) 1643 1 Wrong Offered false)
      ∷ (report A1 3 button.Home 0 (grid 530120 180160) 2255 7 Normal Available false)
      ∷ (report A1 4 button.Mobile 0 (grid 530100 180100) 2375 1 Wrong Available false)
      ∷ (report A2 1 button.Hospital 0 (grid 530100 180000) 2495 1 Wrong Available true)
      ∷ (report A2 2 button.Return 0 (grid 530201 180000) 3339 1 Wrong Available false)
      ∷ (report A2 3 button.Mobile 0 (grid 531000 180000) 3400 1 Wrong Available false) ∷ [];
}

queue_of_1_and_2_and_4_and_6_and_7 : Steps
    (at 4248 (Desk 1) ask.Queue) before_queue_of_1_and_2_and_4_and_6_and_7
    (Ok (answer.Queue ((entry rank.Unserved 3058 2 None) ∷ (entry rank.Unserved 3959 3 None)
    ∷ (entry rank.Unacknowledged 3581 1 (Some A2))
    ∷ (entry rank.OutOfTurn 1643 2 (Some A1)) ∷ (entry rank.OutOfTurn 2375 4 (Some A1))
    ∷ (entry rank.OutOfTurn 3339 2 (Some A2))
    ∷ (entry rank.OutOfTurn 3400 3 (Some A2)) ∷ (entry rank.ShiftOver 2000 0 (Some A1))
    ∷ (entry rank.Uncovered 0 1 None) ∷ [])))
    before_queue_of_1_and_2_and_4_and_6_and_7
unfolding machine
queue_of_1_and_2_and_4_and_6_and_7 = (refl, refl)

abbrev before_queue_of_1_and_2_and_4_and_7 : Room
before_queue_of_1_and_2_and_4_and_7 = record {
  plan = overlapping_divisions;
  divisions = (division 1 4) ∷ (division 7 1) ∷ [];
  incidents =
      (incident 1 1 (grid 531000 180000) 1 (needs 1 1 0) 2303 None Active)
      ∷ (incident 1 2 (grid 560200 180000) 3 (needs 2 1 1) 3077 (Some 3977) Active)
      ∷ (incident 1 3 (grid 530300 180400) 2 (needs 1 0 0) 3639 None Active)
      ∷ (incident 1 4 (grid 560100 180000) 2 (needs 1 1 0) 4121 None Active)
      ∷ (incident 7 1 (grid 530000 180000) 1 (needs 2 1 1) 1402 None Active) ∷ [];
  calls =
      (call 1 4 1 1 1 false (grid 531000 180000) 1 (needs 1 1 0) (codes "x") 2303)
      ∷ (call 1 6 1 3 3 false (grid 530300 180400) 2 (needs 1 0 0) [] 3639)
      ∷ (call 2 1 1 2 2 false (grid 560200 180000) 3 (needs 2 1 1) [] 3077)
      ∷ (call 2 4 1 4 4 false (grid 560100 180000) 2 (needs 1 1 0) [] 4121)
      ∷ (call 2 5 7 1 1 false (grid 530000 180000) 1 (needs 1 1 0) [] 1402) ∷ [];
  vehicles =
      (vehicle A1 7 7 Ambulance (grid 530000 180000) OffDuty 5000 None 0 2)
      ∷ (vehicle A2 7 7 Ambulance (grid 530300 180400) OffDuty 0 None 0 2)
      ∷ (vehicle A3 1 1 Ambulance (grid 530201 180000) Mobilised 40000 None 1 3) ∷ [];
  turns = (turn A3 1 1 2 Ambulance 3977 None None None None None false) ∷ [];
  assignments = (assignment A3 1 2 1 (grid 560200 180000) 3) ∷ [];
  points = (point 1 1 (grid 530000 180000) 2) ∷ [];
  loans = [];
  offers = [];
  reports =
      (report A1 1 button.Home 0 (grid 530000 180000) 1001 7 Normal Available false)
      ∷ (report A1 2 button.Leave 0 (grid 530200 180000) 2172 7 Wrong OffDuty false)
      ∷ (report A2 1 button.Mobile 0 (grid 531000 180000) 1680 7 Wrong OffDuty false)
      ∷ (report A2 2 button.Scene 0 (grid 530100 180000) 3076 7 Wrong OffDuty false)
      ∷ (report A3 1 button.Position 0 (grid 530120 180160) 1422 1 Normal Available false)
      ∷ (report A3 2 button.Position 0 (grid 530201 180000) 1402 1 Normal Available false)
      ∷ (report A3 3 button.Hospital 0 (grid 531000 180000) 1614 1 Wrong Available false) ∷ [];
}

queue_of_1_and_2_and_4_and_7 : Steps
    (at 4999 (Desk 1) ask.Queue) before_queue_of_1_and_2_and_4_and_7
    (Ok (answer.Queue
    ((entry rank.Unserved 2303 1 None) ∷ (entry rank.Unserved 3639 3 None) ∷ (entry rank.Unserved 4121 4 None)
    ∷ (entry rank.Unacknowledged 3977 2 (Some A3)) ∷ (entry rank.OutOfTurn 1614 3 (Some A3))
    ∷ (entry rank.Uncovered 0 1 None) ∷ [])))
    before_queue_of_1_and_2_and_4_and_7
unfolding machine
queue_of_1_and_2_and_4_and_7 = (refl, refl)

abbrev before_queue_of_1_and_2_and_5_and_8 : Room
before_queue_of_1_and_2_and_5_and_8 = record {
  plan = two_divisions;
  divisions = (division 1 4) ∷ (division 2 3) ∷ [];
  incidents =
      (incident 1 1 (grid 530300 180400) 2 (needs 0 0 1) 1491 None Active)
      ∷ (incident 1 2 (grid 530000 180000) 3 (needs 2 1 1) 1552 (Some 4940) Active)
      ∷ (incident 1 3 (grid 531000 180000) 2 (needs 1 1 0) 2391 None Active)
      ∷ (incident 1 4 (grid 530201 180000) 3 (needs 2 0 0) 4960 None Active) ∷ [];
  calls =
      (call 1 3 1 4 4 true (grid 530120 180160) 3 (needs 2 0 0) [] 5241)
      ∷ (call 1 5 1 2 2 true (grid 530120 180160) 3 (needs 2 1 1) [] 2392)
      ∷ (call 1 6 1 2 2 false (grid 530000 180000) 3 (needs 1 1 0) [] 1552)
      ∷ (call 2 1 1 2 2 true (grid 530120 180160) 3 (needs 2 1 1) [] 1914)
      ∷ (call 2 3 1 3 3 false (grid 531000 180000) 2 (needs 1 1 0) (codes "x") 2391)
      ∷ (call 2 4 1 4 4 false (grid 530201 180000) 3 (needs 2 0 0) [] 4960)
      ∷ (call 2 6 1 1 1 false (grid 530300 180400) 2 (needs 0 0 1) [] 1491) ∷ [];
  vehicles =
      (vehicle A1 2 1 Support (grid 530120 180160) Mobilised 40000 None 1 2)
      ∷ (vehicle A2 2 2 Car (grid 530200 180000) Offered 6911 None 0 2) ∷ [];
  turns = (turn A1 1 1 2 Support 4940 None None None None None false) ∷ [];
  assignments = (assignment A1 1 2 1 (grid 530000 180000) 3) ∷ [];
  points = (point 1 1 (grid 530120 180160) 0) ∷ (point 2 2 (grid 531000 180000) 1) ∷ [];
  loans = (loan A1 2 1 3625 3604 false) ∷ [];
  offers = (offer A2 2 1 2942 3042) ∷ [];
  reports =
      (report A1 1 button.Leave 0 (grid 530200 180000) 2665 2 Wrong Available true)
      ∷ (report A1 2 button.Leave 0 (grid 530000 180000) 2941 2 Wrong Available false)
      ∷ (report A2 1 button.Return 0 (grid 530300 180400) 2034 2 Wrong OffDuty false)
      ∷ (report A2 2 button.Return 0 (grid 530000 180000) 2665 2 Wrong OffDuty false) ∷ [];
}

queue_of_1_and_2_and_5_and_8 : Steps
    (at 5001 (Desk 1) ask.Queue) before_queue_of_1_and_2_and_5_and_8
    (Ok (answer.Queue ((entry rank.Unserved 1491 1 None) ∷ (entry rank.Unserved 2391 3 None)
    ∷ (entry rank.Unacknowledged 4940 2 (Some A1))
    ∷ (entry rank.Overdue 3604 2 (Some A1)) ∷ (entry rank.Unanswered 2942 2 (Some A2)) ∷ [])))
    before_queue_of_1_and_2_and_5_and_8
unfolding machine
queue_of_1_and_2_and_5_and_8 = (refl, refl)

abbrev before_queue_of_1_and_2_and_7 : Room
before_queue_of_1_and_2_and_7 = record {
  plan = two_divisions;
  divisions = (division 1 2) ∷ (division 2 0) ∷ [];
  incidents =
      (incident 1 1 (grid 530200 180000) 3 (needs 0 1 0) 1963 None Active)
      ∷ (incident 1 2 (grid 530120 180160) 1 (needs 2 1 1) 2864 (Some 2806) Active) ∷ [];
  calls =
      (call 1 6 1 1 1 false (grid 530200 180000) 3 (needs 0 1 0) [] 1963)
      ∷ (call 2 6 1 2 2 false (grid 530120 180160) 1 (needs 2 1 1) [] 2864) ∷ [];
  vehicles =
      (vehicle A1 2 2 Ambulance (grid 530100 180000) Available 2000 None 0 1)
      ∷ (vehicle A2 1 1 Support (grid 560000 180000) Mobilised 5000 None 1 0) ∷ [];
  turns = (turn A2 1 1 2 Support 2806 None None None None None false) ∷ [];
  assignments = (assignment A2 1 2 1 (grid 530120 180160) 1) ∷ [];
  points = (point 1 2 (grid 530000 180000) 1) ∷ (point 2 2 (grid 530200 180000) 1) ∷ [];
  loans = [];
  offers = [];
  reports = (report A1 1 button.Position 0 (grid 530100 180000) 2967 2 Normal Available false) ∷ [];
}

queue_of_1_and_2_and_7 : Steps (at 3028 (Desk 1) ask.Queue) before_queue_of_1_and_2_and_7
    (Ok (answer.Queue
    ((entry rank.Unserved 1963 1 None) ∷ (entry rank.Unacknowledged 2806 2 (Some A2)) ∷ (entry rank.Uncovered 0 2 None)
    ∷ []))) before_queue_of_1_and_2_and_7
unfolding machine
queue_of_1_and_2_and_7 = (refl, refl)

abbrev before_queue_of_1_and_3_and_4 : Room
before_queue_of_1_and_3_and_4 = record {
  plan = two_divisions;
  divisions = (division 1 5) ∷ (division 2 0) ∷ [];
  incidents =
      (incident 1 4 (grid 530201 180000) 2 (needs 2 1 1) 1847 (Some 3365) Active)
      ∷ (incident 1 5 (grid 530300 180400) 2 (needs 1 0 0) 2249 None Active) ∷ [];
  calls =
      (call 1 2 1 4 4 false (grid 530201 180000) 2 (needs 2 1 1) [] 1847)
      ∷ (call 2 1 1 5 5 false (grid 530300 180400) 2 (needs 1 0 0) [] 2249) ∷ [];
  vehicles =
      (vehicle A1 1 1 Ambulance (grid 530200 180000) Mobilised 5000 None 1 5)
      ∷ (vehicle A2 1 1 Ambulance (grid 530120 180160) OffDuty 0 None 0 2) ∷ [];
  turns = (turn A1 1 1 4 Ambulance 3365 None None None None None false) ∷ [];
  assignments = (assignment A1 1 4 1 (grid 530201 180000) 2) ∷ [];
  points = (point 2 2 (grid 530000 180000) 2) ∷ [];
  loans = [];
  offers = [];
  reports =
      (report A1 1 button.Return 0 (grid 530100 180100) 1848 1 Late Available true)
      ∷ (report A1 2 button.Scene 0 (grid 530120 180160) 1817 1 Wrong Available true)
      ∷ (report A1 3 button.Home 0 (grid 530300 180400) 2129 1 Normal Available false)
      ∷ (report A1 5 button.Position 0 (grid 530200 180000) 2641 1 Normal Available false)
      ∷ (report A2 1 button.Home 0 (grid 530100 180000) 1035 1 Wrong OffDuty false)
      ∷ (report A2 2 button.Position 0 (grid 530100 180100) 1516 1 Wrong OffDuty false) ∷ [];
}

queue_of_1_and_3_and_4 : Steps (at 3425 (Desk 1) ask.Queue) before_queue_of_1_and_3_and_4
    (Ok (answer.Queue ((entry rank.Unserved 2249 5 None) ∷ (entry rank.LateForScene 1847 4 (Some A1))
    ∷ (entry rank.OutOfTurn 1035 1 (Some A2)) ∷ (entry rank.OutOfTurn 1516 2 (Some A2)) ∷ [])))
    before_queue_of_1_and_3_and_4
unfolding machine
queue_of_1_and_3_and_4 = (refl, refl)

abbrev before_queue_of_1_and_3_and_4_and_5 : Room
before_queue_of_1_and_3_and_4_and_5 = record {
  plan = overlapping_divisions;
  divisions = (division 1 4) ∷ (division 7 1) ∷ [];
  incidents =
      (incident 1 1 (grid 530201 180000) 2 (needs 2 1 1) 1812 None Active)
      ∷ (incident 1 2 (grid 560000 180000) 2 (needs 2 0 0) 2653 (Some 2899) Active)
      ∷ (incident 1 3 (grid 560100 180000) 3 (needs 1 0 0) 4361 None Active)
      ∷ (incident 1 4 (grid 530120 180160) 2 (needs 1 0 0) 5261 None Active)
      ∷ (incident 7 1 (grid 530000 180000) 3 (needs 0 0 1) 4199 None Active) ∷ [];
  calls =
      (call 1 3 1 4 4 false (grid 530120 180160) 2 (needs 1 0 0) [] 5261)
      ∷ (call 1 5 1 3 3 false (grid 560100 180000) 3 (needs 1 0 0) [] 4361)
      ∷ (call 2 1 1 1 1 false (grid 530201 180000) 2 (needs 1 0 0) (codes "x") 1812)
      ∷ (call 2 3 1 2 2 false (grid 560000 180000) 2 (needs 1 0 0) [] 2653)
      ∷ (call 2 4 7 1 1 false (grid 530000 180000) 3 (needs 0 0 1) (codes "x") 4199) ∷ [];
  vehicles =
      (vehicle A1 7 1 Ambulance (grid 530000 180000) Mobilised 5000 None 1 5)
      ∷ (vehicle A2 1 1 Ambulance (grid 530100 180000) AtHospital 5000 None 1 3)
      ∷ (vehicle A3 1 1 Support (grid 530000 180000) OffDuty 3261 None 0 3) ∷ [];
  turns =
      (turn A1 1 1 2 Ambulance 4563 (Some 4930) None None None None false)
      ∷ (turn A2 1 1 2 Ambulance 2899 None None None (Some 4380) None false) ∷ [];
  assignments = (assignment A1 1 2 1 (grid 560000 180000) 2) ∷ (assignment A2 1 2 1 (grid 560000 180000) 2) ∷ [];
  points = (point 7 1 (grid 530201 180000) 2) ∷ (point 7 2 (grid 530200 180000) 1) ∷ [];
  loans = (loan A1 7 1 4583 4503 false) ∷ [];
  offers = [];
  reports =
      (report A1 2 button.Home 0 (grid 530201 180000) 2293 7 Normal Available false)
      ∷ (report A1 3 button.Scene 0 (grid 531000 180000) 4194 7 Wrong Offered false)
      ∷ (report A1 4 button.Return 0 (grid 530300 180400) 4360 7 Wrong Offered false)
      ∷ (report A1 5 button.Mobile 1 (grid 530000 180000) 4930 1 Normal Mobilised false)
      ∷ (report A2 2 button.Hospital 1 (grid 530200 180000) 4380 1 Skipped AtHospital false)
      ∷ (report A2 3 button.Position 1 (grid 530100 180000) 4481 1 Normal AtHospital false)
      ∷ (report A3 1 button.Hospital 0 (grid 530100 180000) 2413 1 Late OffDuty false)
      ∷ (report A3 2 button.Return 0 (grid 530300 180400) 1331 1 Wrong OffDuty false)
      ∷ (report A3 3 button.Mobile 0 (grid 530100 180100) 2899 1 Wrong OffDuty true) ∷ [];
}

queue_of_1_and_3_and_4_and_5 : Steps
    (at 4930 (Desk 1) ask.Queue) before_queue_of_1_and_3_and_4_and_5
    (Ok (answer.Queue
    ((entry rank.Unserved 1812 1 None) ∷ (entry rank.Unserved 4361 3 None) ∷ (entry rank.LateForScene 2653 2 (Some A1))
    ∷ (entry rank.OutOfTurn 1331 2 (Some A3)) ∷ (entry rank.OutOfTurn 2413 1 (Some A3))
    ∷ (entry rank.OutOfTurn 4380 2 (Some A2))
    ∷ (entry rank.Overdue 4503 7 (Some A1)) ∷ []))) before_queue_of_1_and_3_and_4_and_5
unfolding machine
queue_of_1_and_3_and_4_and_5 = (refl, refl)

abbrev before_queue_of_1_and_3_and_4_and_5_and_8 : Room
before_queue_of_1_and_3_and_4_and_5_and_8 = record {
  plan = two_divisions;
  divisions = (division 1 4) ∷ (division 2 1) ∷ [];
  incidents =
      (incident 1 1 (grid 530100 180000) 2 (needs 2 0 0) 980 None Closed)
      ∷ (incident 1 2 (grid 530120 180160) 1 (needs 2 0 0) 2061 (Some 3639) Active)
      ∷ (incident 1 3 (grid 530300 180400) 2 (needs 1 1 0) 2824 None Active)
      ∷ (incident 1 4 (grid 530100 180100) 2 (needs 1 1 0) 3005 None Active)
      ∷ (incident 2 1 (grid 560200 180000) 2 (needs 2 1 1) 1161 None Active) ∷ [];
  calls =
      (call 1 3 1 4 4 true (grid 530201 180000) 3 (needs 0 1 0) [] 3005)
      ∷ (call 1 5 1 4 4 false (grid 530100 180100) 2 (needs 1 1 0) [] 3679)
      ∷ (call 2 2 2 1 1 false (grid 560200 180000) 2 (needs 2 1 1) [] 1161)
      ∷ (call 2 3 1 3 3 false (grid 530300 180400) 2 (needs 1 1 0) (codes "x") 2824)
      ∷ (call 2 5 1 1 1 false (grid 530100 180000) 2 (needs 2 0 0) [] 980)
      ∷ (call 2 6 1 2 2 false (grid 530120 180160) 1 (needs 2 0 0) (codes "x") 2061) ∷ [];
  vehicles =
      (vehicle A1 2 1 Ambulance (grid 530000 180000) OffDuty 5000 None 0 2)
      ∷ (vehicle A2 2 2 Support (grid 560000 180000) OffDuty 0 None 0 3)
      ∷ (vehicle A3 1 1 Support (grid 530300 180400) Offered 5000 None 0 2)
      ∷ (vehicle B1 2 1 Ambulance (grid 531000 180000) Mobilised 5000 None 1 6) ∷ [];
  turns = (turn B1 1 1 2 Ambulance 3639 None None None None None false) ∷ [];
  assignments = (assignment B1 1 2 1 (grid 530120 180160) 1) ∷ [];
  points = [];
  loans = (loan A1 2 1 2507 1683 false) ∷ (loan B1 2 1 5001 4315 false) ∷ [];
  offers = (offer A3 1 2 2834 2934) ∷ [];
  reports =
      (report A1 1 button.Return 0 (grid 530120 180160) 2613 1 Wrong Available false)
      ∷ (report A1 2 button.Home 0 (grid 530100 180100) 1684 1 Wrong OffDuty false)
      ∷ (report A2 1 button.Leave 0 (grid 530201 180000) 1582 2 Wrong OffDuty true)
      ∷ (report A2 3 button.Scene 0 (grid 530100 180000) 1684 2 Wrong OffDuty false)
      ∷ (report A3 1 button.Leave 0 (grid 530201 180000) 2164 1 Late Available true)
      ∷ (report A3 2 button.Mobile 0 (grid 530100 180000) 1562 1 Wrong Available false)
      ∷ (report B1 1 button.Leave 0 (grid 530000 180000) 2326 2 Wrong Available false)
      ∷ (report B1 3 button.Return 0 (grid 530100 180000) 2492 2 Wrong Available false)
      ∷ (report B1 5 button.Position 0 (grid 531000 180000) 3679 1 Normal Available false)
      ∷ (report B1 6 button.Scene 0 (grid 530120 180160) 3659 1 Wrong Available false) ∷ [];
}

queue_of_1_and_3_and_4_and_5_and_8 : Steps
    (at 3644 (Desk 1) ask.Queue) before_queue_of_1_and_3_and_4_and_5_and_8
    (Ok (answer.Queue
    ((entry rank.Unserved 2824 3 None) ∷ (entry rank.Unserved 3005 4 None) ∷ (entry rank.LateForScene 2061 2 (Some B1))
    ∷ (entry rank.OutOfTurn 1562 2 (Some A3)) ∷ (entry rank.OutOfTurn 1684 2 (Some A1))
    ∷ (entry rank.OutOfTurn 2613 1 (Some A1))
    ∷ (entry rank.OutOfTurn 3659 6 (Some B1)) ∷ (entry rank.Overdue 1683 2 (Some A1))
    ∷ (entry rank.Unanswered 2834 2 (Some A3))
    ∷ []))) before_queue_of_1_and_3_and_4_and_5_and_8
unfolding machine
queue_of_1_and_3_and_4_and_5_and_8 = (refl, refl)

abbrev before_queue_of_1_and_3_and_4_and_6 : Room
before_queue_of_1_and_3_and_4_and_6 = record {
  plan = overlapping_divisions;
  divisions = (division 1 5) ∷ (division 7 0) ∷ [];
  incidents =
      (incident 1 4 (grid 531000 180000) 2 (needs 1 0 0) 1066 None Active)
      ∷ (incident 1 5 (grid 530200 180000) 2 (needs 2 1 1) 1071 (Some 1643) Active) ∷ [];
  calls =
      (call 1 6 1 5 5 false (grid 530200 180000) 2 (needs 2 1 1) [] 1071)
      ∷ (call 2 5 1 4 4 false (grid 531000 180000) 2 (needs 1 0 0) (codes "x") 1066) ∷ [];
  vehicles =
      (vehicle A1 7 7 Ambulance (grid 530000 180000) OffDuty 40000 None 0 2)
      ∷ (vehicle A2 1 1 Ambulance (grid 530000 180000) Mobilised 40000 None 1 3)
      ∷ (vehicle A3 1 1 Ambulance (grid 530201 180000) Available 6548 None 0 0) ∷ [];
  turns = (turn A2 1 1 5 Ambulance 1643 (Some 2066) None None None None false) ∷ [];
  assignments = (assignment A2 1 5 1 (grid 530200 180000) 2) ∷ [];
  points = [];
  loans = [];
  offers = [];
  reports =
      (report A1 1 button.Scene 0 (grid 530200 180000) 1352 7 Wrong Available false)
      ∷ (report A1 2 button.Home 0 (grid 530100 180100) 1658 7 Wrong OffDuty false)
      ∷ (report A2 1 button.Leave 0 (grid 530300 180400) 1638 1 Wrong Available false)
      ∷ (report A2 3 button.Mobile 1 (grid 530000 180000) 2066 1 Normal Mobilised false) ∷ [];
}

queue_of_1_and_3_and_4_and_6 : Steps
    (at 6548 (Desk 1) ask.Queue) before_queue_of_1_and_3_and_4_and_6
    (Ok (answer.Queue ((entry rank.Unserved 1066 4 None) ∷ (entry rank.LateForScene 1071 5 (Some A2))
    ∷ (entry rank.OutOfTurn 1638 1 (Some A2)) ∷ (entry rank.ShiftOver 6548 0 (Some A3)) ∷ [])))
    before_queue_of_1_and_3_and_4_and_6
unfolding machine
queue_of_1_and_3_and_4_and_6 = (refl, refl)

abbrev before_queue_of_1_and_3_and_4_and_6_and_7 : Room
before_queue_of_1_and_3_and_4_and_6_and_7 = record {
  plan = two_divisions;
  divisions = (division 1 5) ∷ (division 2 0) ∷ [];
  incidents =
      (incident 1 4 (grid 531000 180000) 2 (needs 1 1 0) 1301 (Some 1663) Active)
      ∷ (incident 1 5 (grid 530100 180100) 3 (needs 0 0 1) 2626 None Active) ∷ [];
  calls =
      (call 1 2 1 4 4 false (grid 531000 180000) 2 (needs 1 1 0) [] 1301)
      ∷ (call 1 6 1 5 5 false (grid 530100 180100) 3 (needs 0 0 1) (codes "x") 2626) ∷ [];
  vehicles =
      (vehicle A1 1 1 Car (grid 531000 180000) OffDuty 0 None 0 1)
      ∷ (vehicle A2 1 1 Ambulance (grid 530300 180400) Mobilised 5000 None 1 2)
      ∷ (vehicle A3 2 2 Ambulance (grid 530300 180400) OffDuty 0 None 0 0) ∷ [];
  turns = (turn A2 1 1 4 Ambulance 1663 (Some 2144) None None None None false) ∷ [];
  assignments = (assignment A2 1 4 1 (grid 531000 180000) 2) ∷ [];
  points = (point 1 1 (grid 530000 180000) 1) ∷ [];
  loans = [];
  offers = [];
  reports =
      (report A1 1 button.Leave 0 (grid 530000 180000) 2687 1 Wrong OffDuty false)
      ∷ (report A2 2 button.Mobile 1 (grid 530300 180400) 2144 1 Normal Mobilised false) ∷ [];
}

queue_of_1_and_3_and_4_and_6_and_7 : Steps
    (at 6227 (Desk 1) ask.Queue) before_queue_of_1_and_3_and_4_and_6_and_7
    (Ok (answer.Queue ((entry rank.Unserved 2626 5 None) ∷ (entry rank.LateForScene 1301 4 (Some A2))
    ∷ (entry rank.OutOfTurn 2687 1 (Some A1)) ∷ (entry rank.ShiftOver 5000 0 (Some A2))
    ∷ (entry rank.Uncovered 0 1 None) ∷ [])))
    before_queue_of_1_and_3_and_4_and_6_and_7
unfolding machine
queue_of_1_and_3_and_4_and_6_and_7 = (refl, refl)

abbrev before_queue_of_1_and_3_and_4_and_6_and_8 : Room
before_queue_of_1_and_3_and_4_and_6_and_8 = record {
  plan = two_divisions;
  divisions = (division 1 2) ∷ (division 2 3) ∷ [];
  incidents =
      (incident 1 1 (grid 531000 180000) 2 (needs 1 0 0) 2084 (Some 2924) Active)
      ∷ (incident 1 2 (grid 530201 180000) 1 (needs 2 1 1) 2925 None Active) ∷ [];
  calls =
      (call 1 1 1 2 2 false (grid 530201 180000) 1 (needs 2 1 1) [] 2925)
      ∷ (call 1 5 1 2 2 true (grid 530100 180000) 1 (needs 1 1 0) (codes "x") 2968)
      ∷ (call 2 1 1 1 1 false (grid 531000 180000) 2 (needs 1 0 0) [] 2084) ∷ [];
  vehicles =
      (vehicle A1 1 1 Ambulance (grid 530300 180400) Offered 5000 None 0 1)
      ∷ (vehicle A2 2 2 Ambulance (grid 530200 180000) Available 5000 None 0 3)
      ∷ (vehicle A3 1 1 Ambulance (grid 530300 180400) Mobilised 40000 None 1 1) ∷ [];
  turns = (turn A3 1 1 1 Ambulance 2924 (Some 2505) None None None None false) ∷ [];
  assignments = (assignment A3 1 1 1 (grid 531000 180000) 2) ∷ [];
  points = [];
  loans = [];
  offers = (offer A1 1 2 2089 3089) ∷ [];
  reports =
      (report A1 1 button.Hospital 0 (grid 530201 180000) 1603 1 Wrong Available false)
      ∷ (report A2 1 button.Return 0 (grid 530100 180000) 1603 2 Wrong Available false)
      ∷ (report A2 2 button.Leave 0 (grid 530120 180160) 2510 2 Wrong Available false)
      ∷ (report A2 3 button.Leave 0 (grid 530100 180000) 2988 2 Wrong Available false)
      ∷ (report A3 1 button.Mobile 1 (grid 530300 180400) 2505 1 Normal Mobilised false) ∷ [];
}

queue_of_1_and_3_and_4_and_6_and_8 : Steps
    (at 5000 (Desk 1) ask.Queue) before_queue_of_1_and_3_and_4_and_6_and_8
    (Ok (answer.Queue ((entry rank.Unserved 2925 2 None) ∷ (entry rank.LateForScene 2084 1 (Some A3))
    ∷ (entry rank.OutOfTurn 1603 1 (Some A1)) ∷ (entry rank.ShiftOver 5000 0 (Some A1))
    ∷ (entry rank.Unanswered 2089 2 (Some A1))
    ∷ []))) before_queue_of_1_and_3_and_4_and_6_and_8
unfolding machine
queue_of_1_and_3_and_4_and_6_and_8 = (refl, refl)

abbrev before_queue_of_1_and_3_and_4_and_7 : Room
before_queue_of_1_and_3_and_4_and_7 = record {
  plan = two_divisions;
  divisions = (division 1 6) ∷ (division 2 0) ∷ [];
  incidents =
      (incident 1 4 (grid 530120 180160) 2 (needs 2 0 1) 1120 (Some 2020) Active)
      ∷ (incident 1 5 (grid 531000 180000) 3 (needs 2 1 1) 1961 None Active)
      ∷ (incident 1 6 (grid 530100 180000) 2 (needs 1 0 0) 3091 None Active) ∷ [];
  calls =
      (call 1 4 1 4 4 true (grid 530120 180160) 2 (needs 0 0 1) [] 1300)
      ∷ (call 2 2 1 5 5 false (grid 531000 180000) 3 (needs 2 1 1) [] 1961)
      ∷ (call 2 3 1 4 4 false (grid 530120 180160) 2 (needs 2 0 0) [] 1120)
      ∷ (call 2 4 1 6 6 false (grid 530100 180000) 2 (needs 1 0 0) [] 3091) ∷ [];
  vehicles =
      (vehicle A1 2 2 Ambulance (grid 530200 180000) Available 40000 None 0 0)
      ∷ (vehicle A2 1 1 Ambulance (grid 531000 180000) OffDuty 0 None 0 1)
      ∷ (vehicle A3 1 1 Ambulance (grid 530201 180000) Mobilised 5000 None 1 2)
      ∷ (vehicle B1 2 2 Car (grid 530200 180000) Available 40000 None 0 0)
      ∷ (vehicle B2 2 2 Ambulance (grid 530200 180000) Available 3892 None 0 0) ∷ [];
  turns = (turn A3 1 1 4 Ambulance 2020 (Some 2004) None None None None false) ∷ [];
  assignments = (assignment A3 1 4 1 (grid 530120 180160) 2) ∷ [];
  points = (point 1 1 (grid 530100 180000) 2) ∷ [];
  loans = [];
  offers = [];
  reports =
      (report A2 1 button.Mobile 0 (grid 531000 180000) 3423 1 Wrong OffDuty false)
      ∷ (report A3 1 button.Return 0 (grid 530300 180400) 1401 1 Wrong Available false)
      ∷ (report A3 2 button.Mobile 1 (grid 530201 180000) 2004 1 Normal Mobilised false) ∷ [];
}

queue_of_1_and_3_and_4_and_7 : Steps
    (at 3271 (Desk 1) ask.Queue) before_queue_of_1_and_3_and_4_and_7
    (Ok (answer.Queue ((entry rank.Unserved 1961 5 None) ∷ (entry rank.LateForScene 1120 4 (Some A3))
    ∷ (entry rank.OutOfTurn 1401 1 (Some A3)) ∷ (entry rank.OutOfTurn 3423 1 (Some A2))
    ∷ (entry rank.Uncovered 0 1 None) ∷ [])))
    before_queue_of_1_and_3_and_4_and_7
unfolding machine
queue_of_1_and_3_and_4_and_7 = (refl, refl)

abbrev before_queue_of_1_and_3_and_4_and_8 : Room
before_queue_of_1_and_3_and_4_and_8 = record {
  plan = two_divisions;
  divisions = (division 1 2) ∷ (division 2 3) ∷ [];
  incidents =
      (incident 1 1 (grid 531000 180000) 2 (needs 1 0 0) 2084 (Some 2924) Active)
      ∷ (incident 1 2 (grid 530201 180000) 1 (needs 2 1 1) 2925 None Active) ∷ [];
  calls =
      (call 1 1 1 2 2 false (grid 530201 180000) 1 (needs 2 1 1) [] 2925)
      ∷ (call 1 5 1 2 2 true (grid 530100 180000) 1 (needs 1 1 0) (codes "x") 2968)
      ∷ (call 2 1 1 1 1 false (grid 531000 180000) 2 (needs 1 0 0) [] 2084) ∷ [];
  vehicles =
      (vehicle A1 1 1 Ambulance (grid 530300 180400) Offered 5000 None 0 1)
      ∷ (vehicle A2 2 2 Ambulance (grid 530200 180000) Available 5000 None 0 3)
      ∷ (vehicle A3 1 1 Ambulance (grid 530300 180400) Mobilised 40000 None 1 2) ∷ [];
  turns = (turn A3 1 1 1 Ambulance 2924 (Some 2505) None None None None false) ∷ [];
  assignments = (assignment A3 1 1 1 (grid 531000 180000) 2) ∷ [];
  points = [];
  loans = [];
  offers = (offer A1 1 2 2089 3089) ∷ [];
  reports =
      (report A1 1 button.Hospital 0 (grid 530201 180000) 1603 1 Wrong Available false)
      ∷ (report A2 1 button.Return 0 (grid 530100 180000) 1603 2 Wrong Available false)
      ∷ (report A2 2 button.Leave 0 (grid 530120 180160) 2510 2 Wrong Available true)
      ∷ (report A2 3 button.Leave 0 (grid 530100 180000) 2988 2 Wrong Available false)
      ∷ (report A3 1 button.Mobile 1 (grid 530300 180400) 2505 1 Normal Mobilised false)
      ∷ (report A3 2 button.Mobile 0 (grid 530100 180000) 3089 1 Stale Mobilised false) ∷ [];
}

queue_of_1_and_3_and_4_and_8 : Steps
    (at 3406 (Desk 1) ask.Queue) before_queue_of_1_and_3_and_4_and_8
    (Ok (answer.Queue ((entry rank.Unserved 2925 2 None) ∷ (entry rank.LateForScene 2084 1 (Some A3))
    ∷ (entry rank.OutOfTurn 1603 1 (Some A1)) ∷ (entry rank.OutOfTurn 3089 2 (Some A3))
    ∷ (entry rank.Unanswered 2089 2 (Some A1))
    ∷ []))) before_queue_of_1_and_3_and_4_and_8
unfolding machine
queue_of_1_and_3_and_4_and_8 = (refl, refl)

abbrev before_queue_of_1_and_3_and_5_and_6_and_7 : Room
before_queue_of_1_and_3_and_5_and_6_and_7 = record {
  plan = two_divisions;
  divisions = (division 1 4) ∷ (division 2 1) ∷ [];
  incidents =
      (incident 1 1 (grid 530300 180400) 1 (needs 1 0 0) 1091 None Active)
      ∷ (incident 1 2 (grid 531000 180000) 2 (needs 1 0 0) 1571 None Active)
      ∷ (incident 1 3 (grid 530120 180160) 3 (needs 1 1 0) 2411 None Active)
      ∷ (incident 1 4 (grid 530100 180100) 1 (needs 0 1 0) 4508 (Some 2592) Active)
      ∷ (incident 2 1 (grid 560000 180000) 1 (needs 2 1 1) 2472 None Active) ∷ [];
  calls =
      (call 1 1 1 3 3 false (grid 530120 180160) 3 (needs 1 1 0) [] 2411)
      ∷ (call 1 3 1 4 4 false (grid 530100 180100) 1 (needs 0 1 0) (codes "x") 4508)
      ∷ (call 1 6 2 1 1 false (grid 560000 180000) 1 (needs 2 1 1) (codes "x") 2472)
      ∷ (call 2 2 1 1 1 false (grid 530300 180400) 1 (needs 1 0 0) [] 1091)
      ∷ (call 2 4 1 2 2 false (grid 531000 180000) 2 (needs 1 0 0) [] 1571) ∷ [];
  vehicles =
      (vehicle A1 2 1 Car (grid 531000 180000) Mobilised 5000 None 1 7)
      ∷ (vehicle A2 2 2 Ambulance (grid 530300 180400) OffDuty 2000 None 0 3)
      ∷ (vehicle A3 2 2 Ambulance (grid 560100 180000) OffDuty 0 None 0 5) ∷ [];
  turns = (turn A1 1 1 4 Car 2592 (Some 6740) None None None None false) ∷ [];
  assignments = (assignment A1 1 4 1 (grid 530100 180100) 1) ∷ [];
  points = (point 1 1 (grid 530120 180160) 1) ∷ (point 2 2 (grid 530120 180160) 1) ∷ [];
  loans = (loan A1 2 1 2537 3056 false) ∷ [];
  offers = [];
  reports =
      (report A1 1 button.Return 0 (grid 530201 180000) 1091 2 Wrong Available false)
      ∷ (report A1 3 button.Hospital 0 (grid 530100 180000) 1091 2 Wrong Available false)
      ∷ (report A1 5 button.Position 0 (grid 531000 180000) 2056 2 Normal Available false)
      ∷ (report A1 7 button.Mobile 1 (grid 531000 180000) 6740 1 Normal Mobilised false)
      ∷ (report A2 1 button.Return 0 (grid 530100 180000) 1574 2 Wrong Offered false)
      ∷ (report A2 2 button.Leave 0 (grid 530100 180000) 1694 2 Wrong Offered false)
      ∷ (report A2 3 button.Position 0 (grid 530300 180400) 3475 2 Normal Offered false)
      ∷ (report A3 1 button.Hospital 0 (grid 530100 180000) 1091 2 Wrong OffDuty false)
      ∷ (report A3 3 button.Position 0 (grid 531000 180000) 1393 2 Wrong OffDuty false)
      ∷ (report A3 4 button.Mobile 0 (grid 530120 180160) 1755 2 Wrong OffDuty false)
      ∷ (report A3 5 button.Scene 0 (grid 530100 180100) 3056 2 Wrong OffDuty false) ∷ [];
}

queue_of_1_and_3_and_5_and_6_and_7 : Steps
    (at 5409 (Desk 1) ask.Queue) before_queue_of_1_and_3_and_5_and_6_and_7
    (Ok (answer.Queue
    ((entry rank.Unserved 1091 1 None) ∷ (entry rank.Unserved 1571 2 None) ∷ (entry rank.Unserved 2411 3 None)
    ∷ (entry rank.LateForScene 4508 4 (Some A1)) ∷ (entry rank.Overdue 3056 2 (Some A1))
    ∷ (entry rank.ShiftOver 5000 0 (Some A1))
    ∷ (entry rank.Uncovered 0 1 None) ∷ []))) before_queue_of_1_and_3_and_5_and_6_and_7
unfolding machine
queue_of_1_and_3_and_5_and_6_and_7 = (refl, refl)

abbrev before_queue_of_1_and_3_and_6_and_7 : Room
before_queue_of_1_and_3_and_6_and_7 = record {
  plan = two_divisions;
  divisions = (division 1 4) ∷ (division 2 3) ∷ [];
  incidents =
      (incident 1 1 (grid 530000 180000) 1 (needs 2 1 1) 1667 (Some 1758) Active)
      ∷ (incident 1 2 (grid 530300 180400) 2 (needs 1 0 0) 1848 None Active)
      ∷ (incident 1 3 (grid 531000 180000) 2 (needs 0 0 1) 2148 None Active)
      ∷ (incident 1 4 (grid 530120 180160) 2 (needs 0 0 1) 3218 None Active) ∷ [];
  calls =
      (call 1 1 1 2 2 false (grid 530300 180400) 2 (needs 1 0 0) [] 1848)
      ∷ (call 1 2 1 1 1 true (grid 530100 180000) 3 (needs 0 1 0) [] 2069)
      ∷ (call 1 4 1 1 1 false (grid 530000 180000) 1 (needs 2 1 1) [] 1667)
      ∷ (call 2 1 1 3 3 false (grid 531000 180000) 2 (needs 0 0 1) (codes "x") 2148)
      ∷ (call 2 4 1 4 4 false (grid 530120 180160) 2 (needs 0 0 1) [] 3218) ∷ [];
  vehicles =
      (vehicle A1 2 2 Support (grid 530300 180400) Available 40000 None 0 2)
      ∷ (vehicle A2 1 1 Support (grid 530100 180000) Mobilised 2000 None 1 1) ∷ [];
  turns = (turn A2 1 1 1 Support 1758 (Some 2551) None None None None false) ∷ [];
  assignments = (assignment A2 1 1 1 (grid 530000 180000) 1) ∷ [];
  points = (point 1 2 (grid 530201 180000) 1) ∷ (point 2 2 (grid 530201 180000) 0) ∷ [];
  loans = [];
  offers = [];
  reports =
      (report A1 1 button.Position 0 (grid 530300 180400) 1005 2 Normal Available false)
      ∷ (report A1 2 button.Return 0 (grid 530100 180000) 2064 2 Wrong Available false)
      ∷ (report A2 1 button.Mobile 1 (grid 530100 180000) 2551 1 Normal Mobilised false) ∷ [];
}

queue_of_1_and_3_and_6_and_7 : Steps
    (at 4306 (Desk 1) ask.Queue) before_queue_of_1_and_3_and_6_and_7
    (Ok (answer.Queue
    ((entry rank.Unserved 1848 2 None) ∷ (entry rank.Unserved 2148 3 None) ∷ (entry rank.Unserved 3218 4 None)
    ∷ (entry rank.LateForScene 1667 1 (Some A2)) ∷ (entry rank.ShiftOver 2000 0 (Some A2))
    ∷ (entry rank.Uncovered 0 2 None) ∷ [])))
    before_queue_of_1_and_3_and_6_and_7
unfolding machine
queue_of_1_and_3_and_6_and_7 = (refl, refl)

abbrev before_queue_of_1_and_3_and_8 : Room
before_queue_of_1_and_3_and_8 = record {
  plan = two_divisions;
  divisions = (division 1 5) ∷ (division 2 1) ∷ [];
  incidents =
      (incident 1 4 (grid 531000 180000) 1 (needs 0 0 1) 1875 None Active)
      ∷ (incident 1 5 (grid 530120 180160) 1 (needs 1 1 0) 1161 (Some 3443) Active)
      ∷ (incident 2 1 (grid 560000 180000) 2 (needs 0 1 0) 980 None Active) ∷ [];
  calls =
      (call 1 3 2 1 1 false (grid 560000 180000) 2 (needs 0 1 0) (codes "x") 980)
      ∷ (call 1 5 1 4 4 false (grid 531000 180000) 1 (needs 0 0 1) (codes "x") 1875)
      ∷ (call 2 4 1 5 5 false (grid 530120 180160) 1 (needs 1 1 0) (codes "x") 1161) ∷ [];
  vehicles =
      (vehicle A1 2 2 Ambulance (grid 530200 180000) OffDuty 41021 None 2147483647 4)
      ∷ (vehicle A2 1 1 Car (grid 530100 180100) Mobilised 40000 None 1 3)
      ∷ (vehicle A3 2 2 Support (grid 530300 180400) Offered 40000 None 0 1) ∷ [];
  turns = (turn A2 1 1 5 Car 3443 None None None None None false) ∷ [];
  assignments = (assignment A2 1 5 1 (grid 530120 180160) 1) ∷ [];
  points = (point 2 2 (grid 530120 180160) 0) ∷ [];
  loans = [];
  offers = (offer A3 2 1 1202 2202) ∷ [];
  reports =
      (report A1 1 button.Position 2147483647 (grid 530100 180100) 2476 2 Wrong OffDuty false)
      ∷ (report A1 3 button.Mobile 2147483646 (grid 530100 180000) 2957 2 Stale OffDuty false)
      ∷ (report A1 4 button.Mobile 2147483647 (grid 530000 180000) 3443 2 Wrong OffDuty false)
      ∷ (report A2 1 button.Position 0 (grid 531000 180000) 1212 1 Normal Available false)
      ∷ (report A2 3 button.Position 0 (grid 530100 180100) 1213 1 Normal Available false)
      ∷ (report A3 1 button.Return 0 (grid 530000 180000) 1273 2 Wrong Offered false) ∷ [];
}

queue_of_1_and_3_and_8 : Steps (at 3443 (Desk 1) ask.Queue) before_queue_of_1_and_3_and_8
    (Ok (answer.Queue ((entry rank.Unserved 1875 4 None) ∷ (entry rank.LateForScene 1161 5 (Some A2))
    ∷ (entry rank.Unanswered 1202 2 (Some A3)) ∷ []))) before_queue_of_1_and_3_and_8
unfolding machine
queue_of_1_and_3_and_8 = (refl, refl)

abbrev before_queue_of_1_and_4 : Room
before_queue_of_1_and_4 = record {
  plan = overlapping_divisions;
  divisions = (division 1 4) ∷ (division 7 3) ∷ [];
  incidents = (incident 1 4 (grid 531000 180000) 3 (needs 1 0 0) 1061 None Active) ∷ [];
  calls = (call 2 5 1 4 4 false (grid 531000 180000) 3 (needs 1 0 0) [] 1061) ∷ [];
  vehicles =
      (vehicle A1 7 7 Car (grid 530000 180000) OffDuty 0 None 0 1)
      ∷ (vehicle A2 7 7 Ambulance (grid 530300 180400) OffDuty 0 None 0 2)
      ∷ (vehicle A3 7 1 Ambulance (grid 560200 180000) Available 2000 None 0 3)
      ∷ (vehicle B1 7 7 Car (grid 560100 180000) OffDuty 0 None 0 0)
      ∷ (vehicle B2 1 1 Ambulance (grid 530200 180000) OffDuty 0 None 0 0) ∷ [];
  turns = [];
  assignments = [];
  points = (point 7 2 (grid 530100 180000) 1) ∷ [];
  loans = (loan A3 7 1 1583 1467 false) ∷ [];
  offers = [];
  reports =
      (report A1 1 button.Position 0 (grid 530120 180160) 1030 7 Wrong OffDuty false)
      ∷ (report A2 2 button.Leave 0 (grid 530120 180160) 1397 7 Wrong OffDuty false)
      ∷ (report A3 1 button.Return 0 (grid 530200 180000) 1578 7 Wrong Offered false)
      ∷ (report A3 3 button.Leave 0 (grid 530000 180000) 1467 1 Wrong Available false) ∷ [];
}

queue_of_1_and_4 : Steps (at 1467 (Desk 1) ask.Queue) before_queue_of_1_and_4
    (Ok (answer.Queue ((entry rank.Unserved 1061 4 None) ∷ (entry rank.OutOfTurn 1467 3 (Some A3)) ∷ [])))
    before_queue_of_1_and_4
unfolding machine
queue_of_1_and_4 = (refl, refl)

abbrev before_queue_of_1_and_4_and_5 : Room
before_queue_of_1_and_4_and_5 = record {
  plan = overlapping_divisions;
  divisions = (division 1 4) ∷ (division 7 0) ∷ [];
  incidents = (incident 1 4 (grid 530100 180000) 2 (needs 1 0 0) 3046 None Active) ∷ [];
  calls = (call 2 1 1 4 4 false (grid 530100 180000) 2 (needs 1 0 0) (codes "x") 3046) ∷ [];
  vehicles =
      (vehicle A1 7 7 Ambulance (grid 530300 180400) Available 5000 None 0 2)
      ∷ (vehicle A2 1 7 Ambulance (grid 530201 180000) Available 5000 None 0 2) ∷ [];
  turns = [];
  assignments = [];
  points = [];
  loans = (loan A2 1 7 1642 980 false) ∷ [];
  offers = [];
  reports =
      (report A1 2 button.Home 0 (grid 530300 180400) 1161 7 Normal Available false)
      ∷ (report A2 1 button.Mobile 0 (grid 530100 180100) 1100 1 Wrong Offered false)
      ∷ (report A2 2 button.Leave 0 (grid 531000 180000) 3066 7 Wrong Available false) ∷ [];
}

queue_of_1_and_4_and_5 : Steps (at 5001 (Desk 1) ask.Queue) before_queue_of_1_and_4_and_5
    (Ok (answer.Queue ((entry rank.Unserved 3046 4 None) ∷ (entry rank.OutOfTurn 1100 1 (Some A2))
    ∷ (entry rank.Overdue 980 7 (Some A2)) ∷ []))) before_queue_of_1_and_4_and_5
unfolding machine
queue_of_1_and_4_and_5 = (refl, refl)

abbrev before_queue_of_1_and_4_and_5_and_6 : Room
before_queue_of_1_and_4_and_5_and_6 = record {
  plan = two_divisions;
  divisions = (division 1 1) ∷ (division 2 3) ∷ [];
  incidents = (incident 1 1 (grid 530100 180000) 3 (needs 0 0 1) 1338 None Active) ∷ [];
  calls = (call 2 2 1 1 1 false (grid 530100 180000) 3 (needs 0 0 1) [] 1338) ∷ [];
  vehicles =
      (vehicle A1 2 2 Support (grid 531000 180000) Available 2000 None 0 0)
      ∷ (vehicle A2 2 2 Ambulance (grid 530000 180000) OffDuty 0 None 0 0)
      ∷ (vehicle A3 1 1 Ambulance (grid 530100 180100) Available 1530 None 0 2)
      ∷ (vehicle B1 2 1 Ambulance (grid 530120 180160) Available 5000 None 0 0) ∷ [];
  turns = [];
  assignments = [];
  points = [];
  loans = (loan B1 2 1 1670 1458 false) ∷ [];
  offers = [];
  reports =
      (report A3 1 button.Scene 0 (grid 530100 180000) 1272 1 Wrong Available false)
      ∷ (report A3 2 button.Leave 0 (grid 530100 180100) 1459 1 Wrong Available false) ∷ [];
}

queue_of_1_and_4_and_5_and_6 : Steps
    (at 1670 (Desk 1) ask.Queue) before_queue_of_1_and_4_and_5_and_6
    (Ok (answer.Queue ((entry rank.Unserved 1338 1 None) ∷ (entry rank.OutOfTurn 1272 1 (Some A3))
    ∷ (entry rank.OutOfTurn 1459 2 (Some A3)) ∷ (entry rank.Overdue 1458 2 (Some B1))
    ∷ (entry rank.ShiftOver 1530 0 (Some A3))
    ∷ []))) before_queue_of_1_and_4_and_5_and_6
unfolding machine
queue_of_1_and_4_and_5_and_6 = (refl, refl)

abbrev before_queue_of_1_and_4_and_5_and_6_and_7 : Room
before_queue_of_1_and_4_and_5_and_6_and_7 = record {
  plan = overlapping_divisions;
  divisions = (division 1 2) ∷ (division 7 0) ∷ [];
  incidents =
      (incident 1 1 (grid 560000 180000) 3 (needs 0 0 1) 1602 None Active)
      ∷ (incident 1 2 (grid 530201 180000) 2 (needs 2 1 0) 1612 None Active) ∷ [];
  calls =
      (call 1 1 1 1 1 false (grid 560000 180000) 3 (needs 0 0 1) [] 1602)
      ∷ (call 1 6 1 2 2 true (grid 530100 180000) 2 (needs 2 0 0) [] 2503)
      ∷ (call 2 4 1 2 2 false (grid 530201 180000) 2 (needs 0 1 0) [] 1612) ∷ [];
  vehicles =
      (vehicle A1 7 1 Ambulance (grid 530000 180000) Available 40000 None 2147483647 0)
      ∷ (vehicle A2 7 7 Car (grid 530100 180100) Available 40000 None 0 0)
      ∷ (vehicle A3 1 1 Ambulance (grid 530100 180000) OffDuty 40000 None 0 1)
      ∷ (vehicle B1 7 7 Car (grid 530100 180000) Available 2000 None 0 0) ∷ [];
  turns = [];
  assignments = [];
  points = (point 1 1 (grid 530100 180000) 1) ∷ [];
  loans = (loan A1 7 1 40000 2101 false) ∷ [];
  offers = [];
  reports = (report A3 1 button.Leave 0 (grid 530201 180000) 2336 1 Wrong OffDuty false) ∷ [];
}

queue_of_1_and_4_and_5_and_6_and_7 : Steps
    (at 40000 (Desk 1) ask.Queue) before_queue_of_1_and_4_and_5_and_6_and_7
    (Ok (answer.Queue
    ((entry rank.Unserved 1602 1 None) ∷ (entry rank.Unserved 1612 2 None) ∷ (entry rank.OutOfTurn 2336 1 (Some A3))
    ∷ (entry rank.Overdue 2101 7 (Some A1)) ∷ (entry rank.ShiftOver 40000 0 (Some A1)) ∷ (entry rank.Uncovered 0 1 None)
    ∷ [])))
    before_queue_of_1_and_4_and_5_and_6_and_7
unfolding machine
queue_of_1_and_4_and_5_and_6_and_7 = (refl, refl)

abbrev before_queue_of_1_and_4_and_5_and_6_and_8 : Room
before_queue_of_1_and_4_and_5_and_6_and_8 = record {
  plan = two_divisions;
  divisions = (division 1 1) ∷ (division 2 0) ∷ [];
  incidents = (incident 1 1 (grid 530120 180160) 3 (needs 1 0 0) 986 None Active) ∷ [];
  calls = (call 2 1 1 1 1 false (grid 530120 180160) 3 (needs 1 0 0) [] 986) ∷ [];
  vehicles =
      (vehicle A1 2 2 Car (grid 530200 180000) Available 43094 None 0 0)
      ∷ (vehicle A2 1 1 Ambulance (grid 530100 180100) Offered 5000 None 0 3)
      ∷ (vehicle A3 1 1 Ambulance (grid 560100 180000) Available 2000 None 0 1)
      ∷ (vehicle B1 1 2 Ambulance (grid 530201 180000) Available 40000 None 0 0) ∷ [];
  turns = [];
  assignments = [];
  points = [];
  loans = (loan B1 1 2 3155 1830 false) ∷ [];
  offers = (offer A2 1 2 2311 2311) ∷ [];
  reports =
      (report A2 1 button.Return 0 (grid 530300 180400) 1006 1 Wrong Available false)
      ∷ (report A2 3 button.Position 0 (grid 530100 180100) 2793 1 Normal Offered false)
      ∷ (report A3 1 button.Hospital 0 (grid 530201 180000) 1529 1 Wrong Available false) ∷ [];
}

queue_of_1_and_4_and_5_and_6_and_8 : Steps
    (at 3156 (Desk 1) ask.Queue) before_queue_of_1_and_4_and_5_and_6_and_8
    (Ok (answer.Queue ((entry rank.Unserved 986 1 None) ∷ (entry rank.OutOfTurn 1006 1 (Some A2))
    ∷ (entry rank.OutOfTurn 1529 1 (Some A3)) ∷ (entry rank.Overdue 1830 2 (Some B1))
    ∷ (entry rank.ShiftOver 2000 0 (Some A3))
    ∷ (entry rank.Unanswered 2311 2 (Some A2)) ∷ []))) before_queue_of_1_and_4_and_5_and_6_and_8
unfolding machine
queue_of_1_and_4_and_5_and_6_and_8 = (refl, refl)

abbrev before_queue_of_1_and_4_and_5_and_7 : Room
before_queue_of_1_and_4_and_5_and_7 = record {
  plan = two_divisions;
  divisions = (division 1 0) ∷ (division 2 1) ∷ [];
  incidents = (incident 2 1 (grid 560000 180000) 2 (needs 0 1 0) 1643 None Active) ∷ [];
  calls = (call 1 2 2 1 1 false (grid 560000 180000) 2 (needs 0 1 0) [] 1643) ∷ [];
  vehicles =
      (vehicle A1 1 2 Ambulance (grid 560100 180000) Available 5000 None 0 0)
      ∷ (vehicle A2 2 2 Support (grid 560000 180000) Available 5000 None 2147483647 1)
      ∷ (vehicle A3 2 2 Ambulance (grid 530200 180000) Available 40000 None 2147483647 1)
      ∷ (vehicle B1 1 1 Support (grid 530300 180400) Available 5000 None 0 0)
      ∷ (vehicle B2 1 1 Ambulance (grid 560100 180000) Available 40000 None 0 0) ∷ [];
  turns = [];
  assignments = [];
  points = (point 2 2 (grid 530100 180000) 1) ∷ [];
  loans = (loan A1 1 2 2527 980 false) ∷ [];
  offers = [];
  reports =
      (report A2 1 button.Scene 2147483647 (grid 530000 180000) 980 2 Wrong Available false)
      ∷ (report A3 1 button.Return 2147483646 (grid 530000 180000) 2526 2 Stale Available false) ∷ [];
}

queue_of_1_and_4_and_5_and_7 : Steps
    (at 2528 (Desk 2) ask.Queue) before_queue_of_1_and_4_and_5_and_7
    (Ok (answer.Queue ((entry rank.Unserved 1643 1 None) ∷ (entry rank.OutOfTurn 980 1 (Some A2))
    ∷ (entry rank.OutOfTurn 2526 1 (Some A3)) ∷ (entry rank.Overdue 980 1 (Some A1)) ∷ (entry rank.Uncovered 0 2 None)
    ∷ [])))
    before_queue_of_1_and_4_and_5_and_7
unfolding machine
queue_of_1_and_4_and_5_and_7 = (refl, refl)

abbrev before_queue_of_1_and_4_and_5_and_7_and_8 : Room
before_queue_of_1_and_4_and_5_and_7_and_8 = record {
  plan = two_divisions;
  divisions = (division 1 5) ∷ (division 2 1) ∷ [];
  incidents =
      (incident 1 4 (grid 531000 180000) 1 (needs 2 0 0) 3430 None Active)
      ∷ (incident 1 5 (grid 530000 180000) 3 (needs 0 0 1) 3746 None Active)
      ∷ (incident 2 1 (grid 560200 180000) 2 (needs 0 0 1) 2846 None Active) ∷ [];
  calls =
      (call 1 1 2 1 1 false (grid 560200 180000) 2 (needs 0 0 1) [] 2846)
      ∷ (call 1 2 1 4 4 false (grid 531000 180000) 1 (needs 2 0 0) [] 3430)
      ∷ (call 2 1 1 4 4 true (grid 531000 180000) 3 (needs 1 0 0) [] 3746)
      ∷ (call 2 2 1 5 5 false (grid 530000 180000) 3 (needs 0 0 1) [] 3746) ∷ [];
  vehicles =
      (vehicle A1 2 2 Ambulance (grid 530200 180000) Offered 5000 None 0 2)
      ∷ (vehicle A2 1 2 Ambulance (grid 531000 180000) Available 3929 None 0 3)
      ∷ (vehicle A3 1 1 Car (grid 530100 180100) Available 43248 (Some 1) 0 4) ∷ [];
  turns = [];
  assignments = [];
  points = (point 1 1 (grid 530201 180000) 2) ∷ (point 2 1 (grid 530000 180000) 2) ∷ [];
  loans = (loan A2 1 2 1987 2382 true) ∷ [];
  offers = (offer A1 2 1 3177 4177) ∷ [];
  reports =
      (report A1 1 button.Return 0 (grid 530000 180000) 3147 2 Wrong Available false)
      ∷ (report A1 2 button.Mobile 0 (grid 530100 180100) 4162 2 Wrong Offered false)
      ∷ (report A2 1 button.Mobile 0 (grid 530000 180000) 2383 2 Wrong Available false)
      ∷ (report A2 2 button.Leave 0 (grid 530100 180100) 3430 2 Wrong Available false)
      ∷ (report A2 3 button.Mobile 0 (grid 531000 180000) 4042 2 Wrong Available false)
      ∷ (report A3 1 button.Mobile 0 (grid 530100 180100) 1882 1 Wrong OffDuty false)
      ∷ (report A3 3 button.Return 0 (grid 530300 180400) 1993 1 Wrong OffDuty false)
      ∷ (report A3 4 button.Scene 0 (grid 530100 180000) 2064 1 Wrong OffDuty false) ∷ [];
}

queue_of_1_and_4_and_5_and_7_and_8 : Steps
    (at 3686 (Desk 1) ask.Queue) before_queue_of_1_and_4_and_5_and_7_and_8
    (Ok (answer.Queue ((entry rank.Unserved 3430 4 None) ∷ (entry rank.OutOfTurn 1882 1 (Some A3))
    ∷ (entry rank.OutOfTurn 1993 3 (Some A3)) ∷ (entry rank.OutOfTurn 2064 4 (Some A3))
    ∷ (entry rank.Overdue 2382 2 (Some A2))
    ∷ (entry rank.Uncovered 0 1 None) ∷ (entry rank.Unanswered 3177 2 (Some A1)) ∷ [])))
    before_queue_of_1_and_4_and_5_and_7_and_8
unfolding machine
queue_of_1_and_4_and_5_and_7_and_8 = (refl, refl)

abbrev before_queue_of_1_and_4_and_5_and_8 : Room
before_queue_of_1_and_4_and_5_and_8 = record {
  plan = overlapping_divisions;
  divisions = (division 1 1) ∷ (division 7 4) ∷ [];
  incidents =
      (incident 1 1 (grid 531000 180000) 3 (needs 1 0 0) 1362 (Some 2262) Closed)
      ∷ (incident 7 4 (grid 530000 180000) 2 (needs 1 0 0) 1363 None Active) ∷ [];
  calls =
      (call 1 2 7 4 4 false (grid 530000 180000) 2 (needs 1 0 0) [] 1363)
      ∷ (call 1 6 1 1 1 false (grid 531000 180000) 3 (needs 1 0 0) [] 1362) ∷ [];
  vehicles =
      (vehicle A1 1 1 Ambulance (grid 530000 180000) Offered 40000 None 1 2)
      ∷ (vehicle A2 7 7 Support (grid 560200 180000) OffDuty 0 None 0 1)
      ∷ (vehicle A3 7 1 Support (grid 530000 180000) OffDuty 40000 None 0 0) ∷ [];
  turns = (turn A1 1 1 1 Ambulance 2262 None None None None (Some 1544) false) ∷ [];
  assignments = [];
  points = [];
  loans = (loan A3 7 1 1667 1061 false) ∷ [];
  offers = (offer A1 1 7 2511 2511) ∷ [];
  reports =
      (report A1 2 button.Home 1 (grid 530000 180000) 1544 1 Skipped Available true)
      ∷ (report A2 1 button.Home 0 (grid 530200 180000) 1968 7 Wrong OffDuty false) ∷ [];
}

queue_of_1_and_4_and_5_and_8 : Steps
    (at 3173 (Desk 7) ask.Queue) before_queue_of_1_and_4_and_5_and_8
    (Ok (answer.Queue ((entry rank.Unserved 1363 4 None) ∷ (entry rank.OutOfTurn 1968 1 (Some A2))
    ∷ (entry rank.Overdue 1061 1 (Some A3)) ∷ (entry rank.Unanswered 2511 1 (Some A1)) ∷ [])))
    before_queue_of_1_and_4_and_5_and_8
unfolding machine
queue_of_1_and_4_and_5_and_8 = (refl, refl)

abbrev before_queue_of_1_and_4_and_6 : Room
before_queue_of_1_and_4_and_6 = record {
  plan = two_divisions;
  divisions = (division 1 2) ∷ (division 2 0) ∷ [];
  incidents =
      (incident 1 1 (grid 530200 180000) 2 (needs 1 0 1) 1602 None Active)
      ∷ (incident 1 2 (grid 531000 180000) 2 (needs 1 0 0) 1964 None (Merged 1)) ∷ [];
  calls =
      (call 1 2 1 1 2 false (grid 531000 180000) 2 (needs 1 0 0) [] 1964)
      ∷ (call 2 3 1 1 1 false (grid 530200 180000) 2 (needs 0 0 1) [] 1602) ∷ [];
  vehicles =
      (vehicle A1 1 1 Ambulance (grid 560000 180000) Available 2000 None 0 1)
      ∷ (vehicle A2 2 2 Ambulance (grid 530300 180400) OffDuty 0 None 0 0)
      ∷ (vehicle A3 2 2 Support (grid 530201 180000) OffDuty 0 None 0 1) ∷ [];
  turns = [];
  assignments = [];
  points = (point 2 2 (grid 530000 180000) 1) ∷ [];
  loans = [];
  offers = [];
  reports =
      (report A1 1 button.Leave 0 (grid 530100 180000) 1482 1 Wrong Available false)
      ∷ (report A3 1 button.Leave 0 (grid 530100 180000) 1181 2 Wrong OffDuty false) ∷ [];
}

queue_of_1_and_4_and_6 : Steps (at 2145 (Desk 1) ask.Queue) before_queue_of_1_and_4_and_6
    (Ok (answer.Queue ((entry rank.Unserved 1602 1 None) ∷ (entry rank.OutOfTurn 1482 1 (Some A1))
    ∷ (entry rank.ShiftOver 2000 0 (Some A1)) ∷ []))) before_queue_of_1_and_4_and_6
unfolding machine
queue_of_1_and_4_and_6 = (refl, refl)

abbrev before_queue_of_1_and_4_and_6_2 : Room
before_queue_of_1_and_4_and_6_2 = record {
  plan = two_divisions;
  divisions = (division 1 5) ∷ (division 2 0) ∷ [];
  incidents =
      (incident 1 4 (grid 531000 180000) 3 (needs 1 1 0) 1191 (Some 1596) Active)
      ∷ (incident 1 5 (grid 530100 180100) 3 (needs 0 0 1) 4792 None Active) ∷ [];
  calls =
      (call 2 1 1 4 4 false (grid 531000 180000) 3 (needs 1 1 0) (codes "x") 1191)
      ∷ (call 2 3 1 5 5 false (grid 530100 180100) 3 (needs 0 0 1) [] 4792) ∷ [];
  vehicles =
      (vehicle A1 1 1 Support (grid 530201 180000) OffDuty 0 None 0 1)
      ∷ (vehicle A2 2 2 Ambulance (grid 530200 180000) Available 5657 None 0 0)
      ∷ (vehicle A3 1 1 Ambulance (grid 560100 180000) Available 40000 None 0 0)
      ∷ (vehicle B1 1 1 Car (grid 530100 180000) Returning 2000 None 1 5) ∷ [];
  turns = (turn B1 1 1 4 Car 1596 None None (Some 2139) None (Some 2501) false) ∷ [];
  assignments = [];
  points = [];
  loans = [];
  offers = [];
  reports =
      (report A1 1 button.Scene 0 (grid 531000 180000) 1412 1 Wrong OffDuty false)
      ∷ (report B1 1 button.Mobile 0 (grid 530120 180160) 1413 1 Wrong Available false)
      ∷ (report B1 2 button.Leave 1 (grid 530201 180000) 2139 1 Skipped Leaving false)
      ∷ (report B1 4 button.Position 0 (grid 530300 180400) 2440 1 Normal Leaving false)
      ∷ (report B1 5 button.Return 1 (grid 530100 180000) 2501 1 Skipped Returning false) ∷ [];
}

queue_of_1_and_4_and_6_2 : Steps (at 40000 (Desk 1) ask.Queue) before_queue_of_1_and_4_and_6_2
    (Ok (answer.Queue ((entry rank.Unserved 4792 5 None) ∷ (entry rank.OutOfTurn 1412 1 (Some A1))
    ∷ (entry rank.OutOfTurn 1413 1 (Some B1)) ∷ (entry rank.OutOfTurn 2139 2 (Some B1))
    ∷ (entry rank.OutOfTurn 2501 5 (Some B1))
    ∷ (entry rank.ShiftOver 2000 0 (Some B1)) ∷ (entry rank.ShiftOver 40000 0 (Some A3)) ∷ [])))
    before_queue_of_1_and_4_and_6_2
unfolding machine
queue_of_1_and_4_and_6_2 = (refl, refl)

abbrev before_queue_of_1_and_4_and_6_and_7 : Room
before_queue_of_1_and_4_and_6_and_7 = record {
  plan = two_divisions;
  divisions = (division 1 2) ∷ (division 2 0) ∷ [];
  incidents =
      (incident 1 1 (grid 531000 180000) 2 (needs 0 1 0) 1362 None Active)
      ∷ (incident 1 2 (grid 530100 180000) 2 (needs 1 0 0) 2476 None Active) ∷ [];
  calls =
      (call 1 3 1 2 2 false (grid 530100 180000) 2 (needs 1 0 0) [] 2476)
      ∷ (call 2 1 1 1 1 false (grid 531000 180000) 2 (needs 0 1 0) (codes "x") 1362) ∷ [];
  vehicles =
      (vehicle A1 1 1 Ambulance (grid 530201 180000) OffDuty 0 None 0 0)
      ∷ (vehicle A2 1 1 Car (grid 530300 180400) Available 2000 (Some 2) 0 2)
      ∷ (vehicle A3 2 2 Ambulance (grid 530100 180100) Available 5362 None 0 1) ∷ [];
  turns = [];
  assignments = [];
  points = (point 1 2 (grid 530100 180100) 1) ∷ [];
  loans = [];
  offers = [];
  reports =
      (report A2 1 button.Return 0 (grid 530200 180000) 1704 1 Wrong Available false)
      ∷ (report A2 2 button.Scene 0 (grid 530300 180400) 2496 1 Wrong Available false)
      ∷ (report A3 1 button.Leave 0 (grid 530000 180000) 2015 2 Wrong Available false) ∷ [];
}

queue_of_1_and_4_and_6_and_7 : Steps
    (at 2657 (Desk 1) ask.Queue) before_queue_of_1_and_4_and_6_and_7
    (Ok (answer.Queue
    ((entry rank.Unserved 1362 1 None) ∷ (entry rank.Unserved 2476 2 None) ∷ (entry rank.OutOfTurn 1704 1 (Some A2))
    ∷ (entry rank.OutOfTurn 2496 2 (Some A2)) ∷ (entry rank.ShiftOver 2000 0 (Some A2))
    ∷ (entry rank.Uncovered 0 2 None) ∷ [])))
    before_queue_of_1_and_4_and_6_and_7
unfolding machine
queue_of_1_and_4_and_6_and_7 = (refl, refl)

abbrev before_queue_of_1_and_4_and_6_and_7_and_8 : Room
before_queue_of_1_and_4_and_6_and_7_and_8 = record {
  plan = two_divisions;
  divisions = (division 1 2147483647) ∷ (division 2 2147483647) ∷ [];
  incidents =
      (incident 1 2147483647 (grid 531000 180000) 1 (needs 2 0 0) 1000 None Active)
      ∷ (incident 2 2147483647 (grid 560100 180000) 1 (needs 2 1 1) 1481 None Active) ∷ [];
  calls =
      (call 1 6 1 2147483647 2147483647 false (grid 531000 180000) 1 (needs 2 0 0) [] 1000)
      ∷ (call 2 2 2 2147483647 2147483647 false (grid 560100 180000) 1 (needs 2 1 1) [] 1481) ∷ [];
  vehicles =
      (vehicle A1 1 1 Ambulance (grid 530300 180400) Available 5000 (Some 1) 0 2)
      ∷ (vehicle A2 1 1 Car (grid 530201 180000) Available 40000 None 0 0)
      ∷ (vehicle A3 1 1 Support (grid 531000 180000) Offered 5000 None 0 0)
      ∷ (vehicle B1 1 1 Ambulance (grid 530200 180000) Available 5886 None 0 0)
      ∷ (vehicle B2 2 2 Ambulance (grid 560100 180000) Available 2000 None 0 1) ∷ [];
  turns = [];
  assignments = [];
  points = (point 1 1 (grid 531000 180000) 1) ∷ [];
  loans = [];
  offers = (offer A3 1 2 1523 1523) ∷ [];
  reports =
      (report A1 2 button.Leave 0 (grid 530201 180000) 2347 1 Wrong Available false)
      ∷ (report B2 1 button.Return 0 (grid 530000 180000) 1824 2 Wrong Available false) ∷ [];
}

queue_of_1_and_4_and_6_and_7_and_8 : Steps
    (at 5000 (Desk 1) ask.Queue) before_queue_of_1_and_4_and_6_and_7_and_8
    (Ok (answer.Queue ((entry rank.Unserved 1000 2147483647 None) ∷ (entry rank.OutOfTurn 2347 2 (Some A1))
    ∷ (entry rank.ShiftOver 5000 0 (Some A1)) ∷ (entry rank.ShiftOver 5000 0 (Some A3))
    ∷ (entry rank.Uncovered 0 1 None)
    ∷ (entry rank.Unanswered 1523 2 (Some A3)) ∷ []))) before_queue_of_1_and_4_and_6_and_7_and_8
unfolding machine
queue_of_1_and_4_and_6_and_7_and_8 = (refl, refl)

abbrev before_queue_of_1_and_4_and_6_and_8 : Room
before_queue_of_1_and_4_and_6_and_8 = record {
  plan = two_divisions;
  divisions = (division 1 2147483647) ∷ (division 2 2147483646) ∷ [];
  incidents = (incident 1 2147483647 (grid 530201 180000) 3 (needs 2 1 1) 1100 None Active) ∷ [];
  calls = (call 2 3 1 2147483647 2147483647 false (grid 530201 180000) 3 (needs 2 1 1) [] 1100) ∷ [];
  vehicles =
      (vehicle A1 1 1 Ambulance (grid 560100 180000) Available 5000 None 0 1)
      ∷ (vehicle A2 2 2 Car (grid 530120 180160) Offered 2000 None 0 1) ∷ [];
  turns = [];
  assignments = [];
  points = [];
  loans = [];
  offers = (offer A2 2 1 1080 1180) ∷ [];
  reports =
      (report A1 1 button.Hospital 0 (grid 530100 180100) 980 1 Wrong Available false)
      ∷ (report A2 1 button.Home 0 (grid 530120 180160) 1141 2 Normal Offered false) ∷ [];
}

queue_of_1_and_4_and_6_and_8 : Steps
    (at 5000 (Desk 1) ask.Queue) before_queue_of_1_and_4_and_6_and_8
    (Ok (answer.Queue ((entry rank.Unserved 1100 2147483647 None) ∷ (entry rank.OutOfTurn 980 1 (Some A1))
    ∷ (entry rank.ShiftOver 5000 0 (Some A1)) ∷ (entry rank.Unanswered 1080 2 (Some A2)) ∷ [])))
    before_queue_of_1_and_4_and_6_and_8
unfolding machine
queue_of_1_and_4_and_6_and_8 = (refl, refl)

abbrev before_queue_of_1_and_4_and_7 : Room
before_queue_of_1_and_4_and_7 = record {
  plan = two_divisions;
  divisions = (division 1 1) ∷ (division 2 3) ∷ [];
  incidents = (incident 1 1 (grid 530120 180160) 3 (needs 1 1 0) 1511 None Active) ∷ [];
  calls = (call 2 5 1 1 1 false (grid 530120 180160) 3 (needs 1 1 0) [] 1511) ∷ [];
  vehicles =
      (vehicle A1 1 1 Ambulance (grid 530300 180400) OffDuty 0 None 0 0)
      ∷ (vehicle A2 1 1 Ambulance (grid 530100 180100) OffDuty 0 None 0 1)
      ∷ (vehicle A3 2 2 Ambulance (grid 560200 180000) OffDuty 0 None 0 0) ∷ [];
  turns = [];
  assignments = [];
  points = (point 1 1 (grid 530100 180000) 1) ∷ [];
  loans = [];
  offers = [];
  reports = (report A2 1 button.Position 0 (grid 530000 180000) 1516 1 Wrong OffDuty false) ∷ [];
}

queue_of_1_and_4_and_7 : Steps (at 5112 (Desk 1) ask.Queue) before_queue_of_1_and_4_and_7
    (Ok (answer.Queue
    ((entry rank.Unserved 1511 1 None) ∷ (entry rank.OutOfTurn 1516 1 (Some A2)) ∷ (entry rank.Uncovered 0 1 None)
    ∷ []))) before_queue_of_1_and_4_and_7
unfolding machine
queue_of_1_and_4_and_7 = (refl, refl)

abbrev before_queue_of_1_and_4_and_7_and_8 : Room
before_queue_of_1_and_4_and_7_and_8 = record {
  plan = two_divisions;
  divisions = (division 1 1) ∷ (division 2 0) ∷ [];
  incidents = (incident 1 1 (grid 530300 180400) 3 (needs 2 1 1) 1030 None Active) ∷ [];
  calls = (call 1 6 1 1 1 false (grid 530300 180400) 3 (needs 2 1 1) [] 1030) ∷ [];
  vehicles =
      (vehicle A1 1 1 Ambulance (grid 530100 180000) Offered 5000 None 0 0)
      ∷ (vehicle A2 1 1 Ambulance (grid 530200 180000) Available 6265 None 0 1) ∷ [];
  turns = [];
  assignments = [];
  points = (point 1 2 (grid 530100 180000) 1) ∷ [];
  loans = [];
  offers = (offer A1 1 2 2204 2604) ∷ [];
  reports = (report A2 1 button.Return 0 (grid 531000 180000) 1541 1 Wrong OffDuty false) ∷ [];
}

queue_of_1_and_4_and_7_and_8 : Steps
    (at 4999 (Desk 1) ask.Queue) before_queue_of_1_and_4_and_7_and_8
    (Ok (answer.Queue
    ((entry rank.Unserved 1030 1 None) ∷ (entry rank.OutOfTurn 1541 1 (Some A2)) ∷ (entry rank.Uncovered 0 2 None)
    ∷ (entry rank.Unanswered 2204 2 (Some A1)) ∷ []))) before_queue_of_1_and_4_and_7_and_8
unfolding machine
queue_of_1_and_4_and_7_and_8 = (refl, refl)

abbrev before_queue_of_1_and_4_and_8 : Room
before_queue_of_1_and_4_and_8 = record {
  plan = overlapping_divisions;
  divisions = (division 1 2) ∷ (division 7 0) ∷ [];
  incidents =
      (incident 1 1 (grid 530300 180400) 3 (needs 2 0 0) 1694 None Active)
      ∷ (incident 1 2 (grid 530120 180160) 3 (needs 1 1 0) 1874 None Active) ∷ [];
  calls =
      (call 1 4 1 1 1 false (grid 530300 180400) 3 (needs 2 0 0) [] 1694)
      ∷ (call 1 6 1 2 2 false (grid 530120 180160) 3 (needs 1 1 0) (codes "x") 1874) ∷ [];
  vehicles =
      (vehicle A1 7 7 Ambulance (grid 530201 180000) Offered 40000 None 0 2)
      ∷ (vehicle A2 1 1 Support (grid 530300 180400) OffDuty 2000 None 0 4) ∷ [];
  turns = [];
  assignments = [];
  points = [];
  loans = [];
  offers = (offer A1 7 1 1694 2094) ∷ [];
  reports =
      (report A1 2 button.Leave 0 (grid 530100 180000) 1052 7 Wrong Available false)
      ∷ (report A2 2 button.Leave 0 (grid 530201 180000) 1030 1 Wrong Available false)
      ∷ (report A2 4 button.Scene 0 (grid 530300 180400) 1393 1 Wrong OffDuty false) ∷ [];
}

queue_of_1_and_4_and_8 : Steps (at 2054 (Desk 1) ask.Queue) before_queue_of_1_and_4_and_8
    (Ok (answer.Queue ((entry rank.Unserved 1694 1 None) ∷ (entry rank.OutOfTurn 1030 2 (Some A2))
    ∷ (entry rank.OutOfTurn 1393 4 (Some A2)) ∷ (entry rank.Unanswered 1694 7 (Some A1)) ∷ [])))
    before_queue_of_1_and_4_and_8
unfolding machine
queue_of_1_and_4_and_8 = (refl, refl)

abbrev before_queue_of_1_and_5 : Room
before_queue_of_1_and_5 = record {
  plan = two_divisions;
  divisions = (division 1 1) ∷ (division 2 0) ∷ [];
  incidents = (incident 1 1 (grid 530100 180100) 3 (needs 1 0 0) 1005 None Active) ∷ [];
  calls = (call 2 6 1 1 1 false (grid 530100 180100) 3 (needs 1 0 0) (codes "x") 1005) ∷ [];
  vehicles =
      (vehicle A1 1 2 Ambulance (grid 530000 180000) Available 40000 None 0 0)
      ∷ (vehicle A2 1 1 Support (grid 560000 180000) Available 40000 None 0 0) ∷ [];
  turns = [];
  assignments = [];
  points = [];
  loans = (loan A1 1 2 1125 1100 false) ∷ [];
  offers = [];
  reports = [];
}

queue_of_1_and_5 : Steps (at 39999 (Desk 1) ask.Queue) before_queue_of_1_and_5
    (Ok (answer.Queue ((entry rank.Unserved 1005 1 None) ∷ (entry rank.Overdue 1100 2 (Some A1)) ∷ [])))
    before_queue_of_1_and_5
unfolding machine
queue_of_1_and_5 = (refl, refl)

abbrev before_queue_of_1_and_5_and_6 : Room
before_queue_of_1_and_5_and_6 = record {
  plan = overlapping_divisions;
  divisions = (division 1 1) ∷ (division 7 0) ∷ [];
  incidents = (incident 1 1 (grid 530100 180000) 3 (needs 1 0 0) 2576 None Active) ∷ [];
  calls = (call 2 3 1 1 1 false (grid 530100 180000) 3 (needs 1 0 0) [] 2576) ∷ [];
  vehicles =
      (vehicle A1 1 7 Support (grid 530100 180100) Available 40000 None 0 2)
      ∷ (vehicle A2 1 1 Car (grid 530120 180160) Available 2000 None 0 0)
      ∷ (vehicle A3 7 7 Ambulance (grid 560200 180000) Available 2000 None 0 0)
      ∷ (vehicle B1 7 7 Ambulance (grid 530100 180000) OffDuty 0 None 0 2)
      ∷ (vehicle B2 7 7 Support (grid 530120 180160) Available 40000 None 0 1) ∷ [];
  turns = [];
  assignments = [];
  points = [];
  loans = (loan A1 1 7 1642 2100 true) ∷ [];
  offers = [];
  reports =
      (report A1 2 button.Home 0 (grid 530100 180100) 1181 1 Normal Available false)
      ∷ (report B1 1 button.Return 0 (grid 530200 180000) 1672 7 Wrong OffDuty true)
      ∷ (report B1 2 button.Mobile 0 (grid 530000 180000) 2757 7 Wrong OffDuty false)
      ∷ (report B2 1 button.Position 0 (grid 530120 180160) 1061 7 Normal Available false) ∷ [];
}

queue_of_1_and_5_and_6 : Steps (at 2757 (Desk 1) ask.Queue) before_queue_of_1_and_5_and_6
    (Ok (answer.Queue ((entry rank.Unserved 2576 1 None) ∷ (entry rank.Overdue 2100 7 (Some A1))
    ∷ (entry rank.ShiftOver 2000 0 (Some A2)) ∷ []))) before_queue_of_1_and_5_and_6
unfolding machine
queue_of_1_and_5_and_6 = (refl, refl)

abbrev before_queue_of_1_and_5_and_6_and_7 : Room
before_queue_of_1_and_5_and_6_and_7 = record {
  plan = two_divisions;
  divisions = (division 1 1) ∷ (division 2 3) ∷ [];
  incidents = (incident 1 1 (grid 530200 180000) 1 (needs 1 0 0) 2340 None Active) ∷ [];
  calls = (call 2 1 1 1 1 false (grid 530200 180000) 1 (needs 1 1 0) [] 2340) ∷ [];
  vehicles =
      (vehicle A1 1 2 Ambulance (grid 530201 180000) Available 5698 None 0 2)
      ∷ (vehicle A2 2 2 Ambulance (grid 530120 180160) OffDuty 0 None 0 1)
      ∷ (vehicle A3 2 2 Ambulance (grid 531000 180000) OffDuty 0 None 0 2)
      ∷ (vehicle B1 1 1 Ambulance (grid 530120 180160) Available 2966 None 0 0)
      ∷ (vehicle B2 2 2 Ambulance (grid 560200 180000) OffDuty 0 None 0 5) ∷ [];
  turns = [];
  assignments = [];
  points = (point 1 2 (grid 530000 180000) 2) ∷ [];
  loans = (loan A1 1 2 3099 2441 false) ∷ [];
  offers = [];
  reports =
      (report A1 1 button.Home 0 (grid 530100 180000) 2346 1 Normal Offered false)
      ∷ (report A1 2 button.Position 0 (grid 530201 180000) 2768 1 Normal Offered false)
      ∷ (report A2 1 button.Mobile 0 (grid 530100 180000) 3580 2 Wrong OffDuty false)
      ∷ (report A3 1 button.Return 0 (grid 530300 180400) 1517 2 Wrong OffDuty false)
      ∷ (report A3 2 button.Home 0 (grid 530200 180000) 1859 2 Wrong OffDuty false)
      ∷ (report B2 1 button.Leave 0 (grid 530100 180100) 1511 2 Wrong OffDuty false)
      ∷ (report B2 3 button.Leave 0 (grid 530300 180400) 1516 2 Wrong OffDuty false)
      ∷ (report B2 5 button.Leave 0 (grid 530201 180000) 1678 2 Wrong OffDuty false) ∷ [];
}

queue_of_1_and_5_and_6_and_7 : Steps
    (at 3590 (Desk 1) ask.Queue) before_queue_of_1_and_5_and_6_and_7
    (Ok (answer.Queue ((entry rank.Unserved 2340 1 None) ∷ (entry rank.Overdue 2441 2 (Some A1))
    ∷ (entry rank.ShiftOver 2966 0 (Some B1)) ∷ (entry rank.Uncovered 0 2 None) ∷ [])))
    before_queue_of_1_and_5_and_6_and_7
unfolding machine
queue_of_1_and_5_and_6_and_7 = (refl, refl)

abbrev before_queue_of_1_and_5_and_6_and_8 : Room
before_queue_of_1_and_5_and_6_and_8 = record {
  plan = overlapping_divisions;
  divisions = (division 1 0) ∷ (division 7 1) ∷ [];
  incidents = (incident 7 1 (grid 530000 180000) 2 (needs 0 0 1) 1679 None Active) ∷ [];
  calls = (call 2 4 7 1 1 false (grid 530000 180000) 2 (needs 0 0 1) [] 1679) ∷ [];
  vehicles =
      (vehicle A1 1 1 Ambulance (grid 530300 180400) Offered 2000 None 0 0)
      ∷ (vehicle A2 1 7 Car (grid 530000 180000) Available 2000 None 0 1)
      ∷ (vehicle A3 1 1 Ambulance (grid 530100 180000) Available 41613 None 0 2) ∷ [];
  turns = [];
  assignments = [];
  points = [];
  loans = (loan A2 1 7 1613 1312 false) ∷ [];
  offers = (offer A1 1 7 1613 1613) ∷ [];
  reports =
      (report A2 1 button.Mobile 0 (grid 530201 180000) 1281 1 Wrong Available false)
      ∷ (report A3 1 button.Mobile 0 (grid 531000 180000) 1311 1 Wrong OffDuty false)
      ∷ (report A3 2 button.Hospital 0 (grid 530300 180400) 1372 1 Wrong OffDuty false) ∷ [];
}

queue_of_1_and_5_and_6_and_8 : Steps
    (at 2519 (Desk 7) ask.Queue) before_queue_of_1_and_5_and_6_and_8
    (Ok (answer.Queue ((entry rank.Unserved 1679 1 None) ∷ (entry rank.Overdue 1312 1 (Some A2))
    ∷ (entry rank.ShiftOver 2000 0 (Some A2)) ∷ (entry rank.Unanswered 1613 1 (Some A1)) ∷ [])))
    before_queue_of_1_and_5_and_6_and_8
unfolding machine
queue_of_1_and_5_and_6_and_8 = (refl, refl)

abbrev before_queue_of_1_and_5_and_7 : Room
before_queue_of_1_and_5_and_7 = record {
  plan = overlapping_divisions;
  divisions = (division 1 1) ∷ (division 7 3) ∷ [];
  incidents = (incident 1 1 (grid 530201 180000) 2 (needs 2 1 1) 1047 None Active) ∷ [];
  calls = (call 1 5 1 1 1 false (grid 530201 180000) 2 (needs 2 1 1) [] 1047) ∷ [];
  vehicles =
      (vehicle A1 7 7 Ambulance (grid 530000 180000) OffDuty 40000 None 0 1)
      ∷ (vehicle A2 7 7 Ambulance (grid 530100 180000) Available 5000 None 0 2)
      ∷ (vehicle A3 1 7 Car (grid 530100 180000) Available 40000 None 0 0) ∷ [];
  turns = [];
  assignments = [];
  points = (point 1 1 (grid 530100 180000) 2) ∷ [];
  loans = (loan A3 1 7 1510 1608 false) ∷ [];
  offers = [];
  reports =
      (report A1 1 button.Position 0 (grid 530000 180000) 1509 7 Normal Available false)
      ∷ (report A2 1 button.Mobile 0 (grid 530120 180160) 1061 7 Wrong Available true)
      ∷ (report A2 2 button.Home 0 (grid 530100 180000) 1530 7 Normal Available false) ∷ [];
}

queue_of_1_and_5_and_7 : Steps (at 40000 (Desk 1) ask.Queue) before_queue_of_1_and_5_and_7
    (Ok (answer.Queue
    ((entry rank.Unserved 1047 1 None) ∷ (entry rank.Overdue 1608 7 (Some A3)) ∷ (entry rank.Uncovered 0 1 None)
    ∷ []))) before_queue_of_1_and_5_and_7
unfolding machine
queue_of_1_and_5_and_7 = (refl, refl)

abbrev before_queue_of_1_and_5_and_8 : Room
before_queue_of_1_and_5_and_8 = record {
  plan = two_divisions;
  divisions = (division 1 1) ∷ (division 2 0) ∷ [];
  incidents = (incident 1 1 (grid 531000 180000) 2 (needs 1 0 0) 1120 None Active) ∷ [];
  calls = (call 1 3 1 1 1 false (grid 531000 180000) 2 (needs 1 0 0) [] 1120) ∷ [];
  vehicles =
      (vehicle A1 2 1 Support (grid 530200 180000) Available 40000 None 0 0)
      ∷ (vehicle A2 2 2 Support (grid 530100 180000) Offered 2000 None 0 0) ∷ [];
  turns = [];
  assignments = [];
  points = (point 2 1 (grid 530300 180400) 0) ∷ [];
  loans = (loan A1 2 1 1306 1401 false) ∷ [];
  offers = (offer A2 2 1 1612 2612) ∷ [];
  reports = [];
}

queue_of_1_and_5_and_8 : Steps (at 39999 (Desk 1) ask.Queue) before_queue_of_1_and_5_and_8
    (Ok (answer.Queue ((entry rank.Unserved 1120 1 None) ∷ (entry rank.Overdue 1401 2 (Some A1))
    ∷ (entry rank.Unanswered 1612 2 (Some A2)) ∷ []))) before_queue_of_1_and_5_and_8
unfolding machine
queue_of_1_and_5_and_8 = (refl, refl)

abbrev before_queue_of_1_and_6 : Room
before_queue_of_1_and_6 = record {
  plan = two_divisions;
  divisions = (division 1 0) ∷ (division 2 1) ∷ [];
  incidents = (incident 2 1 (grid 560200 180000) 2 (needs 1 0 0) 980 None Active) ∷ [];
  calls = (call 1 1 2 1 1 false (grid 560200 180000) 2 (needs 1 0 0) [] 980) ∷ [];
  vehicles =
      (vehicle A1 1 1 Ambulance (grid 530120 180160) OffDuty 0 None 0 0)
      ∷ (vehicle A2 2 2 Car (grid 530100 180100) Offered 5000 None 0 0)
      ∷ (vehicle A3 2 2 Ambulance (grid 530000 180000) Available 2000 None 0 1) ∷ [];
  turns = [];
  assignments = [];
  points = [];
  loans = [];
  offers = (offer A2 2 1 2001 2001) ∷ [];
  reports = (report A3 1 button.Home 0 (grid 530000 180000) 1250 2 Normal Available false) ∷ [];
}

queue_of_1_and_6 : Steps (at 2301 (Desk 2) ask.Queue) before_queue_of_1_and_6
    (Ok (answer.Queue ((entry rank.Unserved 980 1 None) ∷ (entry rank.ShiftOver 2000 0 (Some A3)) ∷ [])))
    before_queue_of_1_and_6
unfolding machine
queue_of_1_and_6 = (refl, refl)

abbrev before_queue_of_1_and_6_and_7 : Room
before_queue_of_1_and_6_and_7 = record {
  plan = two_divisions;
  divisions = (division 1 1) ∷ (division 2 3) ∷ [];
  incidents = (incident 1 1 (grid 531000 180000) 3 (needs 2 1 1) 1487 None Active) ∷ [];
  calls = (call 2 1 1 1 1 false (grid 531000 180000) 3 (needs 2 1 1) [] 1487) ∷ [];
  vehicles =
      (vehicle A1 2 2 Ambulance (grid 560000 180000) Available 5000 None 0 0)
      ∷ (vehicle A2 1 1 Ambulance (grid 530200 180000) Available 2000 None 0 0)
      ∷ (vehicle A3 2 2 Support (grid 560100 180000) Available 2000 None 0 0)
      ∷ (vehicle B1 1 1 Ambulance (grid 560200 180000) Available 2000 None 0 0) ∷ [];
  turns = [];
  assignments = [];
  points = (point 1 2 (grid 530200 180000) 2) ∷ [];
  loans = [];
  offers = [];
  reports = [];
}

queue_of_1_and_6_and_7 : Steps (at 2129 (Desk 1) ask.Queue) before_queue_of_1_and_6_and_7
    (Ok (answer.Queue ((entry rank.Unserved 1487 1 None) ∷ (entry rank.ShiftOver 2000 0 (Some A2))
    ∷ (entry rank.ShiftOver 2000 0 (Some B1)) ∷ (entry rank.Uncovered 0 2 None) ∷ []))) before_queue_of_1_and_6_and_7
unfolding machine
queue_of_1_and_6_and_7 = (refl, refl)

abbrev before_queue_of_1_and_6_and_7_and_8 : Room
before_queue_of_1_and_6_and_7_and_8 = record {
  plan = two_divisions;
  divisions = (division 1 2) ∷ (division 2 0) ∷ [];
  incidents =
      (incident 1 1 (grid 530300 180400) 3 (needs 1 0 0) 1311 None Active)
      ∷ (incident 1 2 (grid 530200 180000) 2 (needs 2 0 0) 1314 None Active) ∷ [];
  calls =
      (call 1 3 1 2 2 false (grid 530200 180000) 3 (needs 2 0 0) [] 1314)
      ∷ (call 2 1 1 1 1 false (grid 530300 180400) 3 (needs 1 0 0) (codes "x") 1311)
      ∷ (call 2 4 1 2 2 true (grid 530100 180000) 2 (needs 2 0 0) [] 2126) ∷ [];
  vehicles =
      (vehicle A1 1 1 Ambulance (grid 530300 180400) Offered 40000 None 0 1)
      ∷ (vehicle A2 1 1 Ambulance (grid 560000 180000) Available 40000 None 0 2)
      ∷ (vehicle A3 1 1 Ambulance (grid 530000 180000) Available 5000 None 0 0)
      ∷ (vehicle B1 1 1 Ambulance (grid 530200 180000) Available 5000 None 0 0)
      ∷ (vehicle B2 1 1 Support (grid 530201 180000) Available 2000 None 2147483647 1) ∷ [];
  turns = [];
  assignments = [];
  points = (point 1 1 (grid 530300 180400) 1) ∷ [];
  loans = [];
  offers = (offer A1 1 2 1010 2010) ∷ [];
  reports =
      (report A1 1 button.Home 0 (grid 530300 180400) 2589 1 Normal Offered false)
      ∷ (report A2 2 button.Leave 0 (grid 530201 180000) 2770 1 Wrong Available true)
      ∷ (report B2 1 button.Home 2147483646 (grid 530201 180000) 1005 1 Normal Available false) ∷ [];
}

queue_of_1_and_6_and_7_and_8 : Steps
    (at 5001 (Desk 1) ask.Queue) before_queue_of_1_and_6_and_7_and_8
    (Ok (answer.Queue
    ((entry rank.Unserved 1311 1 None) ∷ (entry rank.Unserved 1314 2 None) ∷ (entry rank.ShiftOver 2000 0 (Some B2))
    ∷ (entry rank.ShiftOver 5000 0 (Some A3)) ∷ (entry rank.ShiftOver 5000 0 (Some B1))
    ∷ (entry rank.Uncovered 0 1 None)
    ∷ (entry rank.Unanswered 1010 2 (Some A1)) ∷ []))) before_queue_of_1_and_6_and_7_and_8
unfolding machine
queue_of_1_and_6_and_7_and_8 = (refl, refl)

abbrev before_queue_of_1_and_6_and_8 : Room
before_queue_of_1_and_6_and_8 = record {
  plan = two_divisions;
  divisions = (division 1 1) ∷ (division 2 0) ∷ [];
  incidents = (incident 1 1 (grid 530300 180400) 1 (needs 1 0 0) 2540 None Active) ∷ [];
  calls = (call 1 3 1 1 1 false (grid 530300 180400) 1 (needs 1 0 0) [] 2540) ∷ [];
  vehicles =
      (vehicle A1 2 2 Ambulance (grid 530201 180000) Offered 40000 None 0 1)
      ∷ (vehicle A2 1 1 Support (grid 560200 180000) Available 2000 None 0 0) ∷ [];
  turns = [];
  assignments = [];
  points = (point 2 2 (grid 530200 180000) 2) ∷ [];
  loans = [];
  offers = (offer A1 2 1 2059 2059) ∷ [];
  reports = (report A1 1 button.Return 0 (grid 530120 180160) 1547 2 Wrong Available false) ∷ [];
}

queue_of_1_and_6_and_8 : Steps (at 40000 (Desk 1) ask.Queue) before_queue_of_1_and_6_and_8
    (Ok (answer.Queue ((entry rank.Unserved 2540 1 None) ∷ (entry rank.ShiftOver 2000 0 (Some A2))
    ∷ (entry rank.Unanswered 2059 2 (Some A1)) ∷ []))) before_queue_of_1_and_6_and_8
unfolding machine
queue_of_1_and_6_and_8 = (refl, refl)

abbrev before_queue_of_1_and_7 : Room
before_queue_of_1_and_7 = record {
  plan = two_divisions;
  divisions = (division 1 4) ∷ (division 2 4) ∷ [];
  incidents =
      (incident 1 4 (grid 530300 180400) 3 (needs 1 0 0) 2321 None Active)
      ∷ (incident 2 4 (grid 560000 180000) 1 (needs 1 0 0) 1421 (Some 1421) Active) ∷ [];
  calls =
      (call 1 4 2 4 4 false (grid 560000 180000) 1 (needs 1 0 0) [] 1421)
      ∷ (call 1 5 1 4 4 false (grid 530300 180400) 3 (needs 1 0 0) [] 2321) ∷ [];
  vehicles =
      (vehicle A1 1 1 Support (grid 530100 180100) Available 2000 None 0 1)
      ∷ (vehicle A2 2 2 Ambulance (grid 530100 180000) Returning 5000 None 1 1)
      ∷ (vehicle A3 1 1 Support (grid 560100 180000) OffDuty 2000 None 0 5) ∷ [];
  turns = (turn A2 1 2 4 Ambulance 1421 (Some 2206) None None None (Some 2940) true) ∷ [];
  assignments = [];
  points = (point 1 1 (grid 530120 180160) 1) ∷ (point 2 2 (grid 530100 180000) 2) ∷ [];
  loans = [];
  offers = [];
  reports =
      (report A1 1 button.Hospital 0 (grid 530200 180000) 1573 1 Wrong Available true)
      ∷ (report A2 1 button.Mobile 1 (grid 530100 180000) 2206 2 Normal Mobilised false)
      ∷ (report A3 1 button.Return 0 (grid 530120 180160) 1301 1 Wrong Available false)
      ∷ (report A3 2 button.Hospital 0 (grid 530201 180000) 1421 1 Wrong Available false)
      ∷ (report A3 4 button.Return 0 (grid 530120 180160) 1604 1 Wrong OffDuty true)
      ∷ (report A3 5 button.Leave 0 (grid 530300 180400) 1905 1 Wrong OffDuty false) ∷ [];
}

queue_of_1_and_7 : Steps (at 2940 (Desk 2) ask.Queue) before_queue_of_1_and_7
    (Ok (answer.Queue ((entry rank.Unserved 1421 4 None) ∷ (entry rank.Uncovered 0 2 None) ∷ [])))
    before_queue_of_1_and_7
unfolding machine
queue_of_1_and_7 = (refl, refl)

abbrev before_queue_of_1_and_7_and_8 : Room
before_queue_of_1_and_7_and_8 = record {
  plan = two_divisions;
  divisions = (division 1 1) ∷ (division 2 3) ∷ [];
  incidents = (incident 1 1 (grid 530201 180000) 3 (needs 1 1 0) 1543 None Active) ∷ [];
  calls = (call 2 1 1 1 1 false (grid 530201 180000) 3 (needs 1 1 0) [] 1543) ∷ [];
  vehicles =
      (vehicle A1 2 2 Ambulance (grid 530201 180000) Available 5000 None 0 0)
      ∷ (vehicle A2 2 2 Car (grid 530100 180000) Offered 2000 None 0 0)
      ∷ (vehicle A3 2 2 Ambulance (grid 530000 180000) OffDuty 0 None 0 0) ∷ [];
  turns = [];
  assignments = [];
  points = (point 1 1 (grid 530100 180100) 1) ∷ [];
  loans = [];
  offers = (offer A2 2 1 1482 2482) ∷ [];
  reports = [];
}

queue_of_1_and_7_and_8 : Steps (at 2110 (Desk 1) ask.Queue) before_queue_of_1_and_7_and_8
    (Ok (answer.Queue
    ((entry rank.Unserved 1543 1 None) ∷ (entry rank.Uncovered 0 1 None) ∷ (entry rank.Unanswered 1482 2 (Some A2))
    ∷ []))) before_queue_of_1_and_7_and_8
unfolding machine
queue_of_1_and_7_and_8 = (refl, refl)

abbrev before_queue_of_1_and_8 : Room
before_queue_of_1_and_8 = record {
  plan = two_divisions;
  divisions = (division 1 6) ∷ (division 2 5) ∷ [];
  incidents =
      (incident 1 4 (grid 530100 180000) 3 (needs 1 1 0) 1211 None Active)
      ∷ (incident 1 5 (grid 530300 180400) 2 (needs 2 0 0) 2953 None Active)
      ∷ (incident 1 6 (grid 530200 180000) 2 (needs 0 0 1) 3055 None Active)
      ∷ (incident 2 4 (grid 560000 180000) 2 (needs 0 0 1) 2112 (Some 1348) Active)
      ∷ (incident 2 5 (grid 560100 180000) 1 (needs 2 0 0) 4812 None Active) ∷ [];
  calls =
      (call 1 3 2 5 5 false (grid 560100 180000) 1 (needs 2 0 0) [] 4812)
      ∷ (call 1 6 1 5 5 false (grid 530300 180400) 2 (needs 2 0 0) [] 2953)
      ∷ (call 2 1 2 4 4 false (grid 560000 180000) 2 (needs 0 0 1) [] 2112)
      ∷ (call 2 3 1 6 6 false (grid 530200 180000) 2 (needs 0 0 1) [] 3055)
      ∷ (call 2 6 1 4 4 false (grid 530100 180000) 3 (needs 1 1 0) (codes "x") 1211) ∷ [];
  vehicles =
      (vehicle A1 1 1 Support (grid 530300 180400) Offered 40000 None 0 2)
      ∷ (vehicle A2 2 2 Support (grid 530300 180400) Returning 5000 None 1 2)
      ∷ (vehicle A3 1 1 Car (grid 530100 180000) OffDuty 3157 None 0 1) ∷ [];
  turns = (turn A2 1 2 4 Support 1348 (Some 1814) None None None (Some 3060) true) ∷ [];
  assignments = [];
  points = [];
  loans = [];
  offers = (offer A1 1 2 2688 2688) ∷ [];
  reports =
      (report A1 1 button.Scene 0 (grid 530300 180400) 1211 1 Wrong Available false)
      ∷ (report A1 2 button.Leave 0 (grid 530201 180000) 2994 1 Wrong Offered false)
      ∷ (report A2 1 button.Position 0 (grid 530300 180400) 1287 2 Normal Available false)
      ∷ (report A2 2 button.Mobile 1 (grid 530300 180400) 1814 2 Normal Mobilised false)
      ∷ (report A3 1 button.Leave 0 (grid 530120 180160) 2295 1 Wrong OffDuty false) ∷ [];
}

queue_of_1_and_8 : Steps (at 3133 (Desk 2) ask.Queue) before_queue_of_1_and_8
    (Ok (answer.Queue ((entry rank.Unserved 2112 4 None) ∷ (entry rank.Unanswered 2688 1 (Some A1)) ∷ [])))
    before_queue_of_1_and_8
unfolding machine
queue_of_1_and_8 = (refl, refl)

abbrev before_queue_of_2 : Room
before_queue_of_2 = record {
  plan = overlapping_divisions;
  divisions = (division 1 1) ∷ (division 7 0) ∷ [];
  incidents = (incident 1 1 (grid 530100 180000) 3 (needs 1 0 0) 1632 (Some 2532) Active) ∷ [];
  calls = (call 1 5 1 1 1 false (grid 530100 180000) 3 (needs 1 0 0) [] 1632) ∷ [];
  vehicles =
      (vehicle A1 1 1 Ambulance (grid 530200 180000) Mobilised 5939 None 1 0)
      ∷ (vehicle A2 7 7 Ambulance (grid 530000 180000) OffDuty 0 None 0 2)
      ∷ (vehicle A3 7 7 Ambulance (grid 530300 180400) Available 6150 None 0 1) ∷ [];
  turns = (turn A1 1 1 1 Ambulance 2532 None None None None None false) ∷ [];
  assignments = (assignment A1 1 1 1 (grid 530100 180000) 3) ∷ [];
  points = [];
  loans = [];
  offers = [];
  reports =
      (report A2 1 button.Scene 0 (grid 530100 180000) 1331 7 Wrong OffDuty true)
      ∷ (report A2 2 button.Home 0 (grid 530200 180000) 1632 7 Wrong OffDuty false)
      ∷ (report A3 1 button.Scene 0 (grid 530100 180000) 1969 7 Wrong OffDuty false) ∷ [];
}

queue_of_2 : Steps (at 5232 (Desk 1) ask.Queue) before_queue_of_2
    (Ok (answer.Queue ((entry rank.Unacknowledged 2532 1 (Some A1)) ∷ []))) before_queue_of_2
unfolding machine
queue_of_2 = (refl, refl)

abbrev before_queue_of_2_and_3 : Room
before_queue_of_2_and_3 = record {
  plan = two_divisions;
  divisions = (division 1 0) ∷ (division 2 1) ∷ [];
  incidents = (incident 2 1 (grid 560000 180000) 2 (needs 1 1 0) 1152 (Some 1372) Active) ∷ [];
  calls = (call 1 4 2 1 1 false (grid 560000 180000) 2 (needs 1 1 0) [] 1152) ∷ [];
  vehicles =
      (vehicle A1 2 2 Ambulance (grid 530120 180160) Mobilised 40000 None 1 0)
      ∷ (vehicle A2 2 2 Ambulance (grid 530100 180000) OffDuty 0 None 0 0) ∷ [];
  turns = (turn A1 1 2 1 Ambulance 1372 None None None None None false) ∷ [];
  assignments = (assignment A1 2 1 1 (grid 560000 180000) 2) ∷ [];
  points = [];
  loans = [];
  offers = [];
  reports = [];
}

queue_of_2_and_3 : Steps (at 2052 (Desk 2) ask.Queue) before_queue_of_2_and_3
    (Ok (answer.Queue ((entry rank.Unacknowledged 1372 1 (Some A1)) ∷ (entry rank.LateForScene 1152 1 (Some A1)) ∷ [])))
    before_queue_of_2_and_3
unfolding machine
queue_of_2_and_3 = (refl, refl)

abbrev before_queue_of_2_and_3_and_4 : Room
before_queue_of_2_and_3_and_4 = record {
  plan = two_divisions;
  divisions = (division 1 1) ∷ (division 2 3) ∷ [];
  incidents = (incident 1 1 (grid 530201 180000) 2 (needs 1 0 0) 1061 (Some 1123) Active) ∷ [];
  calls = (call 1 2 1 1 1 false (grid 530201 180000) 2 (needs 1 0 0) [] 1061) ∷ [];
  vehicles =
      (vehicle A1 1 1 Ambulance (grid 530100 180000) Mobilised 40000 None 1 2)
      ∷ (vehicle A2 1 1 Support (grid 530300 180400) OffDuty 0 None 0 1)
      ∷ (vehicle A3 1 1 Ambulance (grid 530000 180000) Available 5000 None 0 0) ∷ [];
  turns = (turn A1 1 1 1 Ambulance 1123 None None None None None false) ∷ [];
  assignments = (assignment A1 1 1 1 (grid 530201 180000) 2) ∷ [];
  points = [];
  loans = [];
  offers = [];
  reports =
      (report A1 1 button.Scene 0 (grid 530100 180000) 1724 1 Stale Mobilised false)
      ∷ (report A1 2 button.Position 1 (grid 530100 180000) 1754 1 Normal Mobilised false)
      ∷ (report A2 1 button.Hospital 0 (grid 530201 180000) 1243 1 Wrong OffDuty false) ∷ [];
}

queue_of_2_and_3_and_4 : Steps (at 2060 (Desk 1) ask.Queue) before_queue_of_2_and_3_and_4
    (Ok (answer.Queue ((entry rank.Unacknowledged 1123 1 (Some A1)) ∷ (entry rank.LateForScene 1061 1 (Some A1))
    ∷ (entry rank.OutOfTurn 1243 1 (Some A2)) ∷ (entry rank.OutOfTurn 1724 1 (Some A1)) ∷ [])))
    before_queue_of_2_and_3_and_4
unfolding machine
queue_of_2_and_3_and_4 = (refl, refl)

abbrev before_queue_of_2_and_3_and_4_and_5 : Room
before_queue_of_2_and_3_and_4_and_5 = record {
  plan = two_divisions;
  divisions = (division 1 2) ∷ (division 2 1) ∷ [];
  incidents =
      (incident 1 1 (grid 530000 180000) 2 (needs 2 1 1) 1573 (Some 1753) Active)
      ∷ (incident 1 2 (grid 530300 180400) 2 (needs 1 1 0) 3341 None Active)
      ∷ (incident 2 1 (grid 560100 180000) 2 (needs 1 0 0) 1272 (Some 3326) Active) ∷ [];
  calls =
      (call 1 1 1 1 1 true (grid 530100 180100) 2 (needs 0 0 1) [] 1754)
      ∷ (call 1 2 2 1 1 false (grid 560100 180000) 2 (needs 1 0 0) [] 1272)
      ∷ (call 1 5 1 2 2 false (grid 530300 180400) 2 (needs 1 1 0) (codes "x") 3341)
      ∷ (call 2 3 1 1 1 false (grid 530000 180000) 3 (needs 2 1 1) [] 1573) ∷ [];
  vehicles =
      (vehicle A1 1 1 Car (grid 530201 180000) AtScene 40000 None 1 2)
      ∷ (vehicle A2 2 2 Ambulance (grid 530200 180000) OffDuty 0 None 0 1)
      ∷ (vehicle A3 1 2 Ambulance (grid 560100 180000) Mobilised 5000 None 1 1)
      ∷ (vehicle B1 2 2 Ambulance (grid 560100 180000) OffDuty 0 None 0 1)
      ∷ (vehicle B2 2 2 Ambulance (grid 530100 180100) OffDuty 0 None 0 1) ∷ [];
  turns =
      (turn A1 1 1 1 Car 1753 None (Some 1935) None None None false)
      ∷ (turn A3 1 2 1 Ambulance 3326 None None None None None false) ∷ [];
  assignments = (assignment A1 1 1 1 (grid 530000 180000) 3) ∷ (assignment A3 2 1 1 (grid 560100 180000) 2) ∷ [];
  points = [];
  loans = (loan A3 1 2 40000 1121 false) ∷ [];
  offers = [];
  reports =
      (report A1 1 button.Mobile 0 (grid 530120 180160) 1753 1 Wrong Available true)
      ∷ (report A1 2 button.Scene 1 (grid 530201 180000) 1935 1 Skipped AtScene false)
      ∷ (report A2 1 button.Leave 0 (grid 530100 180000) 1936 2 Wrong OffDuty false)
      ∷ (report A3 1 button.Return 0 (grid 530100 180000) 3025 2 Wrong Available false)
      ∷ (report B1 1 button.Scene 0 (grid 530100 180100) 1122 2 Wrong OffDuty false)
      ∷ (report B2 1 button.Position 0 (grid 530100 180100) 1152 2 Wrong OffDuty true) ∷ [];
}

queue_of_2_and_3_and_4_and_5 : Steps
    (at 3822 (Desk 2) ask.Queue) before_queue_of_2_and_3_and_4_and_5
    (Ok (answer.Queue ((entry rank.Unacknowledged 3326 1 (Some A3)) ∷ (entry rank.LateForScene 1272 1 (Some A3))
    ∷ (entry rank.OutOfTurn 1122 1 (Some B1)) ∷ (entry rank.OutOfTurn 1936 1 (Some A2))
    ∷ (entry rank.OutOfTurn 3025 1 (Some A3))
    ∷ (entry rank.Overdue 1121 1 (Some A3)) ∷ []))) before_queue_of_2_and_3_and_4_and_5
unfolding machine
queue_of_2_and_3_and_4_and_5 = (refl, refl)

abbrev before_queue_of_2_and_3_and_4_and_5_and_6_and_7 : Room
before_queue_of_2_and_3_and_4_and_5_and_6_and_7 = record {
  plan = two_divisions;
  divisions = (division 1 1) ∷ (division 2 0) ∷ [];
  incidents = (incident 1 1 (grid 530201 180000) 2 (needs 1 1 0) 2197 (Some 3098) Active) ∷ [];
  calls =
      (call 1 3 1 1 1 true (grid 530201 180000) 2 (needs 1 0 0) [] 2378)
      ∷ (call 1 5 1 1 1 false (grid 530201 180000) 2 (needs 1 1 0) [] 2197)
      ∷ (call 2 1 1 1 1 true (grid 530120 180160) 3 (needs 1 0 0) [] 3037) ∷ [];
  vehicles =
      (vehicle A1 1 1 Car (grid 530000 180000) Mobilised 3339 None 1 1)
      ∷ (vehicle A2 2 1 Ambulance (grid 560100 180000) Available 40000 (Some 2) 0 0)
      ∷ (vehicle A3 1 1 Ambulance (grid 530300 180400) Mobilised 40000 None 1 0)
      ∷ (vehicle B1 1 1 Ambulance (grid 560200 180000) Available 2000 None 0 1) ∷ [];
  turns =
      (turn A1 1 1 1 Car 2001 None None None None None false)
      ∷ (turn A3 1 1 1 Ambulance 3098 None None None None None false) ∷ [];
  assignments = (assignment A1 1 1 1 (grid 530201 180000) 2) ∷ (assignment A3 1 1 1 (grid 530201 180000) 2) ∷ [];
  points = (point 1 1 (grid 530100 180000) 1) ∷ (point 1 2 (grid 530000 180000) 1) ∷ [];
  loans = (loan A2 2 1 40000 1764 false) ∷ [];
  offers = [];
  reports =
      (report A1 1 button.Hospital 0 (grid 530100 180000) 1674 1 Wrong OffDuty false)
      ∷ (report B1 1 button.Mobile 0 (grid 530300 180400) 1301 1 Wrong Available false) ∷ [];
}

queue_of_2_and_3_and_4_and_5_and_6_and_7 : Steps
    (at 40001 (Desk 1) ask.Queue) before_queue_of_2_and_3_and_4_and_5_and_6_and_7
    (Ok (answer.Queue ((entry rank.Unacknowledged 2001 1 (Some A1)) ∷ (entry rank.Unacknowledged 3098 1 (Some A3))
    ∷ (entry rank.LateForScene 2197 1 (Some A1)) ∷ (entry rank.LateForScene 2197 1 (Some A3))
    ∷ (entry rank.OutOfTurn 1301 1 (Some B1))
    ∷ (entry rank.OutOfTurn 1674 1 (Some A1)) ∷ (entry rank.Overdue 1764 2 (Some A2))
    ∷ (entry rank.ShiftOver 2000 0 (Some B1))
    ∷ (entry rank.ShiftOver 3339 0 (Some A1)) ∷ (entry rank.ShiftOver 40000 0 (Some A2))
    ∷ (entry rank.ShiftOver 40000 0 (Some A3))
    ∷ (entry rank.Uncovered 0 1 None) ∷ (entry rank.Uncovered 0 2 None) ∷ [])))
    before_queue_of_2_and_3_and_4_and_5_and_6_and_7
unfolding machine
queue_of_2_and_3_and_4_and_5_and_6_and_7 = (refl, refl)

abbrev before_queue_of_2_and_3_and_4_and_5_and_7 : Room
before_queue_of_2_and_3_and_4_and_5_and_7 = record {
  plan = overlapping_divisions;
  divisions = (division 1 1) ∷ (division 7 1) ∷ [];
  incidents =
      (incident 1 1 (grid 530100 180000) 1 (needs 0 1 0) 1247 (Some 2001) Active)
      ∷ (incident 7 1 (grid 530000 180000) 2 (needs 1 0 0) 1727 None Active) ∷ [];
  calls =
      (call 2 4 7 1 1 false (grid 530000 180000) 2 (needs 2 0 0) [] 1727)
      ∷ (call 2 5 1 1 1 false (grid 530100 180000) 1 (needs 1 0 0) [] 1247) ∷ [];
  vehicles =
      (vehicle A1 1 1 Support (grid 560100 180000) OffDuty 0 None 0 1)
      ∷ (vehicle A2 1 1 Car (grid 530300 180400) Mobilised 40000 None 1 2)
      ∷ (vehicle A3 1 7 Car (grid 560200 180000) Available 2000 None 0 3)
      ∷ (vehicle B1 7 7 Ambulance (grid 530200 180000) OffDuty 0 None 0 0) ∷ [];
  turns = (turn A2 1 1 1 Car 2001 None None None None None false) ∷ [];
  assignments = (assignment A2 1 1 1 (grid 530100 180000) 1) ∷ [];
  points = (point 1 1 (grid 530120 180160) 1) ∷ [];
  loans = (loan A3 1 7 1999 1066 false) ∷ [];
  offers = [];
  reports =
      (report A1 1 button.Leave 0 (grid 530000 180000) 1759 1 Wrong OffDuty false)
      ∷ (report A2 2 button.Home 0 (grid 530300 180400) 1728 1 Normal Available false)
      ∷ (report A3 1 button.Leave 0 (grid 530201 180000) 1127 1 Wrong Offered false)
      ∷ (report A3 3 button.Hospital 0 (grid 530120 180160) 1729 1 Wrong Offered false) ∷ [];
}

queue_of_2_and_3_and_4_and_5_and_7 : Steps
    (at 2062 (Desk 1) ask.Queue) before_queue_of_2_and_3_and_4_and_5_and_7
    (Ok (answer.Queue ((entry rank.Unacknowledged 2001 1 (Some A2)) ∷ (entry rank.LateForScene 1247 1 (Some A2))
    ∷ (entry rank.OutOfTurn 1127 1 (Some A3)) ∷ (entry rank.OutOfTurn 1729 3 (Some A3))
    ∷ (entry rank.OutOfTurn 1759 1 (Some A1))
    ∷ (entry rank.Overdue 1066 7 (Some A3)) ∷ (entry rank.Uncovered 0 1 None) ∷ [])))
    before_queue_of_2_and_3_and_4_and_5_and_7
unfolding machine
queue_of_2_and_3_and_4_and_5_and_7 = (refl, refl)

abbrev before_queue_of_2_and_3_and_4_and_6 : Room
before_queue_of_2_and_3_and_4_and_6 = record {
  plan = two_divisions;
  divisions = (division 1 1) ∷ (division 2 1) ∷ [];
  incidents =
      (incident 1 1 (grid 530120 180160) 3 (needs 0 0 1) 2127 (Some 2714) Active)
      ∷ (incident 2 1 (grid 560100 180000) 1 (needs 1 1 0) 2734 None Active) ∷ [];
  calls =
      (call 1 1 1 1 1 false (grid 530120 180160) 3 (needs 0 0 1) [] 2127)
      ∷ (call 2 2 2 1 1 false (grid 560100 180000) 1 (needs 1 1 0) [] 2734) ∷ [];
  vehicles =
      (vehicle A1 1 1 Support (grid 530200 180000) Mobilised 40000 None 1 3)
      ∷ (vehicle A2 2 2 Support (grid 530200 180000) Available 2000 None 0 1)
      ∷ (vehicle A3 1 1 Ambulance (grid 530100 180000) Available 5000 None 0 2) ∷ [];
  turns = (turn A1 1 1 1 Support 2714 None None None None None false) ∷ [];
  assignments = (assignment A1 1 1 1 (grid 530120 180160) 3) ∷ [];
  points = (point 2 1 (grid 530201 180000) 2) ∷ [];
  loans = [];
  offers = [];
  reports =
      (report A1 2 button.Scene 0 (grid 530300 180400) 1001 1 Wrong Available false)
      ∷ (report A1 3 button.Hospital 0 (grid 530100 180000) 2433 1 Wrong Available false)
      ∷ (report A2 1 button.Mobile 0 (grid 530000 180000) 1966 2 Wrong Available false)
      ∷ (report A3 2 button.Position 0 (grid 530100 180000) 1363 1 Normal Available false) ∷ [];
}

queue_of_2_and_3_and_4_and_6 : Steps
    (at 5728 (Desk 1) ask.Queue) before_queue_of_2_and_3_and_4_and_6
    (Ok (answer.Queue ((entry rank.Unacknowledged 2714 1 (Some A1)) ∷ (entry rank.LateForScene 2127 1 (Some A1))
    ∷ (entry rank.OutOfTurn 1001 2 (Some A1)) ∷ (entry rank.OutOfTurn 2433 3 (Some A1))
    ∷ (entry rank.ShiftOver 5000 0 (Some A3))
    ∷ []))) before_queue_of_2_and_3_and_4_and_6
unfolding machine
queue_of_2_and_3_and_4_and_6 = (refl, refl)

abbrev before_queue_of_2_and_3_and_4_and_6_and_7 : Room
before_queue_of_2_and_3_and_4_and_6_and_7 = record {
  plan = two_divisions;
  divisions = (division 1 4) ∷ (division 2 3) ∷ [];
  incidents = (incident 1 4 (grid 530100 180000) 3 (needs 1 1 0) 2105 (Some 2106) Active) ∷ [];
  calls = (call 2 5 1 4 4 false (grid 530100 180000) 3 (needs 1 1 0) [] 2105) ∷ [];
  vehicles =
      (vehicle A1 1 1 Ambulance (grid 560000 180000) OffDuty 0 None 0 0)
      ∷ (vehicle A2 2 2 Car (grid 531000 180000) Available 40000 None 0 2)
      ∷ (vehicle A3 1 1 Ambulance (grid 530300 180400) Mobilised 40000 None 1 1)
      ∷ (vehicle B1 2 2 Ambulance (grid 560000 180000) OffDuty 0 None 0 0) ∷ [];
  turns = (turn A3 1 1 4 Ambulance 2106 None None None None None false) ∷ [];
  assignments = (assignment A3 1 4 1 (grid 530100 180000) 3) ∷ [];
  points = (point 1 1 (grid 530120 180160) 2) ∷ [];
  loans = [];
  offers = [];
  reports =
      (report A2 2 button.Position 0 (grid 531000 180000) 980 2 Normal Available false)
      ∷ (report A3 1 button.Return 0 (grid 531000 180000) 1803 1 Wrong Available false) ∷ [];
}

queue_of_2_and_3_and_4_and_6_and_7 : Steps
    (at 40001 (Desk 1) ask.Queue) before_queue_of_2_and_3_and_4_and_6_and_7
    (Ok (answer.Queue ((entry rank.Unacknowledged 2106 4 (Some A3)) ∷ (entry rank.LateForScene 2105 4 (Some A3))
    ∷ (entry rank.OutOfTurn 1803 1 (Some A3)) ∷ (entry rank.ShiftOver 40000 0 (Some A3))
    ∷ (entry rank.Uncovered 0 1 None) ∷ [])))
    before_queue_of_2_and_3_and_4_and_6_and_7
unfolding machine
queue_of_2_and_3_and_4_and_6_and_7 = (refl, refl)

abbrev before_queue_of_2_and_3_and_4_and_6_and_7_and_8 : Room
before_queue_of_2_and_3_and_4_and_6_and_7_and_8 = record {
  plan = two_divisions;
  divisions = (division 1 1) ∷ (division 2 1) ∷ [];
  incidents =
      (incident 1 1 (grid 530201 180000) 1 (needs 1 1 0) 980 (Some 1678) Active)
      ∷ (incident 2 1 (grid 560100 180000) 3 (needs 0 1 0) 2448 None Active) ∷ [];
  calls =
      (call 1 5 1 1 1 true (grid 530100 180100) 1 (needs 1 0 0) (codes "x") 1880)
      ∷ (call 2 3 2 1 1 false (grid 560100 180000) 3 (needs 0 1 0) [] 2448)
      ∷ (call 2 4 1 1 1 false (grid 530201 180000) 1 (needs 0 1 0) [] 980) ∷ [];
  vehicles =
      (vehicle A1 1 1 Support (grid 530000 180000) Offered 42836 None 0 3)
      ∷ (vehicle A2 2 2 Car (grid 530200 180000) OffDuty 6509 None 0 2)
      ∷ (vehicle A3 1 1 Ambulance (grid 530201 180000) Mobilised 40000 None 1 1) ∷ [];
  turns = (turn A3 1 1 1 Ambulance 1678 None None None None None false) ∷ [];
  assignments = (assignment A3 1 1 1 (grid 530201 180000) 1) ∷ [];
  points = (point 1 1 (grid 530100 180000) 2) ∷ (point 2 1 (grid 530100 180000) 1) ∷ [];
  loans = [];
  offers = (offer A1 1 2 3137 3537) ∷ [];
  reports =
      (report A1 2 button.Position 0 (grid 530200 180000) 1497 1 Wrong OffDuty false)
      ∷ (report A1 3 button.Mobile 0 (grid 530100 180100) 1679 1 Wrong OffDuty false)
      ∷ (report A2 1 button.Return 0 (grid 530120 180160) 1841 2 Wrong OffDuty false)
      ∷ (report A2 2 button.Position 0 (grid 530100 180100) 2836 2 Wrong OffDuty false)
      ∷ (report A3 1 button.Home 0 (grid 530201 180000) 1377 1 Normal Available false) ∷ [];
}

queue_of_2_and_3_and_4_and_6_and_7_and_8 : Steps
    (at 40001 (Desk 1) ask.Queue) before_queue_of_2_and_3_and_4_and_6_and_7_and_8
    (Ok (answer.Queue ((entry rank.Unacknowledged 1678 1 (Some A3)) ∷ (entry rank.LateForScene 980 1 (Some A3))
    ∷ (entry rank.OutOfTurn 1497 2 (Some A1)) ∷ (entry rank.OutOfTurn 1679 3 (Some A1))
    ∷ (entry rank.ShiftOver 40000 0 (Some A3))
    ∷ (entry rank.Uncovered 0 1 None) ∷ (entry rank.Unanswered 3137 2 (Some A1)) ∷ [])))
    before_queue_of_2_and_3_and_4_and_6_and_7_and_8
unfolding machine
queue_of_2_and_3_and_4_and_6_and_7_and_8 = (refl, refl)

abbrev before_queue_of_2_and_3_and_4_and_6_and_8 : Room
before_queue_of_2_and_3_and_4_and_6_and_8 = record {
  plan = two_divisions;
  divisions = (division 1 4) ∷ (division 2 4) ∷ [];
  incidents =
      (incident 1 4 (grid 530100 180100) 3 (needs 0 1 0) 2124 (Some 1999) Active)
      ∷ (incident 2 4 (grid 560200 180000) 2 (needs 2 1 1) 1823 None Active) ∷ [];
  calls =
      (call 1 5 2 4 4 false (grid 560200 180000) 2 (needs 2 1 1) (codes "x") 1823)
      ∷ (call 2 5 1 4 4 false (grid 530100 180100) 3 (needs 0 1 0) [] 2124) ∷ [];
  vehicles =
      (vehicle A1 1 1 Car (grid 530200 180000) Mobilised 43152 None 1 1)
      ∷ (vehicle A2 2 2 Ambulance (grid 530300 180400) Available 2000 None 0 1)
      ∷ (vehicle A3 2 2 Support (grid 530300 180400) OffDuty 42279 None 0 1)
      ∷ (vehicle B1 1 1 Ambulance (grid 560000 180000) Available 5000 None 0 0)
      ∷ (vehicle B2 1 1 Ambulance (grid 560100 180000) Offered 40000 None 0 1) ∷ [];
  turns = (turn A1 1 1 4 Car 1999 None None None None None false) ∷ [];
  assignments = (assignment A1 1 4 1 (grid 530100 180100) 3) ∷ [];
  points = (point 2 1 (grid 530201 180000) 0) ∷ (point 2 2 (grid 530000 180000) 1) ∷ [];
  loans = [];
  offers = (offer B2 1 2 3324 3424) ∷ [];
  reports =
      (report A1 1 button.Scene 0 (grid 530100 180100) 1481 1 Wrong Available true)
      ∷ (report A2 1 button.Scene 0 (grid 530100 180100) 2399 2 Wrong Available false)
      ∷ (report A3 1 button.Leave 0 (grid 530200 180000) 2490 2 Wrong Available false)
      ∷ (report B2 1 button.Hospital 0 (grid 531000 180000) 2274 1 Wrong Available false) ∷ [];
}

queue_of_2_and_3_and_4_and_6_and_8 : Steps
    (at 42280 (Desk 1) ask.Queue) before_queue_of_2_and_3_and_4_and_6_and_8
    (Ok (answer.Queue ((entry rank.Unacknowledged 1999 4 (Some A1)) ∷ (entry rank.LateForScene 2124 4 (Some A1))
    ∷ (entry rank.OutOfTurn 2274 1 (Some B2)) ∷ (entry rank.ShiftOver 5000 0 (Some B1))
    ∷ (entry rank.ShiftOver 40000 0 (Some B2))
    ∷ (entry rank.Unanswered 3324 2 (Some B2)) ∷ []))) before_queue_of_2_and_3_and_4_and_6_and_8
unfolding machine
queue_of_2_and_3_and_4_and_6_and_8 = (refl, refl)

abbrev before_queue_of_2_and_3_and_4_and_7 : Room
before_queue_of_2_and_3_and_4_and_7 = record {
  plan = two_divisions;
  divisions = (division 1 1) ∷ (division 2 0) ∷ [];
  incidents = (incident 1 1 (grid 530300 180400) 2 (needs 2 0 0) 1967 (Some 2867) Active) ∷ [];
  calls = (call 1 5 1 1 1 false (grid 530300 180400) 2 (needs 2 0 0) [] 1967) ∷ [];
  vehicles =
      (vehicle A1 2 2 Support (grid 530201 180000) Available 44447 None 0 3)
      ∷ (vehicle A2 2 1 Ambulance (grid 530100 180000) Mobilised 5000 None 1 1)
      ∷ (vehicle A3 1 1 Ambulance (grid 560100 180000) OffDuty 0 None 0 2) ∷ [];
  turns = (turn A2 1 1 1 Ambulance 2867 None None None None None false) ∷ [];
  assignments = (assignment A2 1 1 1 (grid 530300 180400) 2) ∷ [];
  points = (point 1 1 (grid 530100 180000) 2) ∷ [];
  loans = (loan A2 2 1 4140 5099 false) ∷ [];
  offers = [];
  reports =
      (report A1 1 button.Scene 0 (grid 530300 180400) 1962 2 Wrong OffDuty false)
      ∷ (report A1 3 button.Return 0 (grid 530100 180100) 3353 2 Wrong OffDuty false)
      ∷ (report A2 1 button.Mobile 0 (grid 530300 180400) 4140 1 Wrong Available false)
      ∷ (report A3 1 button.Mobile 0 (grid 530300 180400) 2509 1 Wrong OffDuty false)
      ∷ (report A3 2 button.Hospital 0 (grid 530100 180000) 2510 1 Wrong OffDuty false) ∷ [];
}

queue_of_2_and_3_and_4_and_7 : Steps
    (at 4567 (Desk 1) ask.Queue) before_queue_of_2_and_3_and_4_and_7
    (Ok (answer.Queue ((entry rank.Unacknowledged 2867 1 (Some A2)) ∷ (entry rank.LateForScene 1967 1 (Some A2))
    ∷ (entry rank.OutOfTurn 2509 1 (Some A3)) ∷ (entry rank.OutOfTurn 2510 2 (Some A3))
    ∷ (entry rank.OutOfTurn 4140 1 (Some A2))
    ∷ (entry rank.Uncovered 0 1 None) ∷ []))) before_queue_of_2_and_3_and_4_and_7
unfolding machine
queue_of_2_and_3_and_4_and_7 = (refl, refl)

abbrev before_queue_of_2_and_3_and_4_and_8 : Room
before_queue_of_2_and_3_and_4_and_8 = record {
  plan = two_divisions;
  divisions = (division 1 0) ∷ (division 2 1) ∷ [];
  incidents = (incident 2 1 (grid 560000 180000) 2 (needs 2 1 1) 1888 (Some 2801) Active) ∷ [];
  calls = (call 1 4 2 1 1 false (grid 560000 180000) 2 (needs 2 1 1) [] 1888) ∷ [];
  vehicles =
      (vehicle A1 2 2 Ambulance (grid 560200 180000) Mobilised 5000 None 1 2)
      ∷ (vehicle A2 2 2 Ambulance (grid 530100 180000) Offered 5000 None 0 1)
      ∷ (vehicle A3 2 2 Ambulance (grid 560100 180000) OffDuty 0 None 0 1)
      ∷ (vehicle B1 2 2 Support (grid 530100 180100) OffDuty 0 None 0 4) ∷ [];
  turns = (turn A1 1 2 1 Ambulance 2801 None None None None None false) ∷ [];
  assignments = (assignment A1 2 1 1 (grid 560000 180000) 2) ∷ [];
  points = [];
  loans = [];
  offers = (offer A2 2 1 2013 2113) ∷ [];
  reports =
      (report A1 2 button.Hospital 0 (grid 530300 180400) 1702 2 Wrong Available false)
      ∷ (report A2 1 button.Return 0 (grid 530120 180160) 2921 2 Wrong Offered false)
      ∷ (report A3 1 button.Hospital 0 (grid 530000 180000) 1191 2 Wrong OffDuty false)
      ∷ (report B1 1 button.Mobile 0 (grid 530100 180000) 1161 2 Wrong OffDuty true)
      ∷ (report B1 2 button.Scene 0 (grid 530200 180000) 1191 2 Wrong OffDuty false)
      ∷ (report B1 3 button.Scene 0 (grid 530000 180000) 1707 2 Wrong OffDuty false)
      ∷ (report B1 4 button.Mobile 0 (grid 530300 180400) 2500 2 Wrong OffDuty false) ∷ [];
}

queue_of_2_and_3_and_4_and_8 : Steps
    (at 2922 (Desk 2) ask.Queue) before_queue_of_2_and_3_and_4_and_8
    (Ok (answer.Queue ((entry rank.Unacknowledged 2801 1 (Some A1)) ∷ (entry rank.LateForScene 1888 1 (Some A1))
    ∷ (entry rank.OutOfTurn 1191 1 (Some A3)) ∷ (entry rank.OutOfTurn 1191 2 (Some B1))
    ∷ (entry rank.OutOfTurn 1702 2 (Some A1))
    ∷ (entry rank.OutOfTurn 1707 3 (Some B1)) ∷ (entry rank.OutOfTurn 2500 4 (Some B1))
    ∷ (entry rank.OutOfTurn 2921 1 (Some A2))
    ∷ (entry rank.Unanswered 2013 1 (Some A2)) ∷ []))) before_queue_of_2_and_3_and_4_and_8
unfolding machine
queue_of_2_and_3_and_4_and_8 = (refl, refl)

abbrev before_queue_of_2_and_3_and_5 : Room
before_queue_of_2_and_3_and_5 = record {
  plan = two_divisions;
  divisions = (division 1 4) ∷ (division 2 1) ∷ [];
  incidents =
      (incident 1 4 (grid 530200 180000) 2 (needs 1 0 0) 1786 (Some 2267) Active)
      ∷ (incident 2 1 (grid 560100 180000) 3 (needs 0 0 1) 2424 None Active) ∷ [];
  calls =
      (call 1 2 1 4 4 false (grid 530200 180000) 2 (needs 1 0 0) [] 1786)
      ∷ (call 1 5 2 1 1 false (grid 560100 180000) 3 (needs 0 0 1) [] 2424) ∷ [];
  vehicles =
      (vehicle A1 1 2 Ambulance (grid 530100 180000) Available 2000 None 0 4)
      ∷ (vehicle A2 2 2 Support (grid 530100 180000) Available 2000 None 0 0)
      ∷ (vehicle A3 2 2 Support (grid 530120 180160) Available 5000 None 0 3)
      ∷ (vehicle B1 1 1 Ambulance (grid 560200 180000) Mobilised 40000 None 1 0) ∷ [];
  turns = (turn B1 1 1 4 Ambulance 2267 None None None None None false) ∷ [];
  assignments = (assignment B1 1 4 1 (grid 530200 180000) 2) ∷ [];
  points = [];
  loans = (loan A1 1 2 2272 2542 false) ∷ [];
  offers = [];
  reports =
      (report A1 2 button.Home 0 (grid 530100 180000) 2363 2 Normal Available false)
      ∷ (report A1 4 button.Return 0 (grid 530300 180400) 2490 2 Wrong Available false)
      ∷ (report A3 1 button.Return 0 (grid 530000 180000) 1724 2 Wrong Available false)
      ∷ (report A3 3 button.Return 0 (grid 530201 180000) 2490 2 Wrong Available false) ∷ [];
}

queue_of_2_and_3_and_5 : Steps (at 3032 (Desk 1) ask.Queue) before_queue_of_2_and_3_and_5
    (Ok (answer.Queue ((entry rank.Unacknowledged 2267 4 (Some B1)) ∷ (entry rank.LateForScene 1786 4 (Some B1))
    ∷ (entry rank.Overdue 2542 2 (Some A1)) ∷ []))) before_queue_of_2_and_3_and_5
unfolding machine
queue_of_2_and_3_and_5 = (refl, refl)

abbrev before_queue_of_2_and_3_and_6 : Room
before_queue_of_2_and_3_and_6 = record {
  plan = two_divisions;
  divisions = (division 1 4) ∷ (division 2 0) ∷ [];
  incidents = (incident 1 4 (grid 530100 180000) 1 (needs 1 1 0) 1281 (Some 2305) Active) ∷ [];
  calls = (call 2 4 1 4 4 false (grid 530100 180000) 1 (needs 1 0 0) [] 1281) ∷ [];
  vehicles =
      (vehicle A1 2 2 Ambulance (grid 530201 180000) Available 41592 None 0 0)
      ∷ (vehicle A2 1 1 Car (grid 530100 180000) Mobilised 2326 None 1 0)
      ∷ (vehicle A3 2 2 Ambulance (grid 530100 180000) OffDuty 0 None 0 2) ∷ [];
  turns = (turn A2 1 1 4 Car 2305 None None None None None false) ∷ [];
  assignments = (assignment A2 1 4 1 (grid 530100 180000) 1) ∷ [];
  points = [];
  loans = [];
  offers = [];
  reports =
      (report A3 1 button.Scene 0 (grid 530100 180000) 1582 2 Wrong OffDuty false)
      ∷ (report A3 2 button.Return 0 (grid 530201 180000) 2134 2 Wrong OffDuty false) ∷ [];
}

queue_of_2_and_3_and_6 : Steps (at 2366 (Desk 1) ask.Queue) before_queue_of_2_and_3_and_6
    (Ok (answer.Queue ((entry rank.Unacknowledged 2305 4 (Some A2)) ∷ (entry rank.LateForScene 1281 4 (Some A2))
    ∷ (entry rank.ShiftOver 2326 0 (Some A2)) ∷ []))) before_queue_of_2_and_3_and_6
unfolding machine
queue_of_2_and_3_and_6 = (refl, refl)

abbrev before_queue_of_2_and_3_and_6_and_7 : Room
before_queue_of_2_and_3_and_6_and_7 = record {
  plan = two_divisions;
  divisions = (division 1 1) ∷ (division 2 0) ∷ [];
  incidents = (incident 1 1 (grid 530120 180160) 1 (needs 1 1 0) 1061 (Some 2000) Active) ∷ [];
  calls =
      (call 1 1 1 1 1 false (grid 530120 180160) 1 (needs 1 0 0) [] 1061)
      ∷ (call 1 2 1 1 1 true (grid 530120 180160) 2 (needs 0 1 0) (codes "x") 1610) ∷ [];
  vehicles =
      (vehicle A1 2 2 Car (grid 560000 180000) Available 40000 None 0 0)
      ∷ (vehicle A2 1 1 Ambulance (grid 530120 180160) Available 2000 None 0 0)
      ∷ (vehicle A3 1 1 Ambulance (grid 530120 180160) Available 2000 None 0 0)
      ∷ (vehicle B1 2 2 Ambulance (grid 530000 180000) Available 2000 None 0 3)
      ∷ (vehicle B2 1 1 Ambulance (grid 530300 180400) Mobilised 5000 None 1 1) ∷ [];
  turns = (turn B2 1 1 1 Ambulance 2000 None None None None None false) ∷ [];
  assignments = (assignment B2 1 1 1 (grid 530120 180160) 1) ∷ [];
  points = (point 1 1 (grid 530100 180100) 1) ∷ [];
  loans = [];
  offers = [];
  reports =
      (report B1 1 button.Scene 0 (grid 530201 180000) 1181 2 Wrong Available true)
      ∷ (report B1 3 button.Mobile 0 (grid 530300 180400) 1891 2 Wrong Available false)
      ∷ (report B2 1 button.Position 0 (grid 530300 180400) 1428 1 Normal Available false) ∷ [];
}

queue_of_2_and_3_and_6_and_7 : Steps
    (at 4999 (Desk 1) ask.Queue) before_queue_of_2_and_3_and_6_and_7
    (Ok (answer.Queue ((entry rank.Unacknowledged 2000 1 (Some B2)) ∷ (entry rank.LateForScene 1061 1 (Some B2))
    ∷ (entry rank.ShiftOver 2000 0 (Some A2)) ∷ (entry rank.ShiftOver 2000 0 (Some A3))
    ∷ (entry rank.Uncovered 0 1 None) ∷ [])))
    before_queue_of_2_and_3_and_6_and_7
unfolding machine
queue_of_2_and_3_and_6_and_7 = (refl, refl)

abbrev before_queue_of_2_and_3_and_6_and_7_and_8 : Room
before_queue_of_2_and_3_and_6_and_7_and_8 = record {
  plan = two_divisions;
  divisions = (division 1 1) ∷ (division 2 1) ∷ [];
  incidents =
      (incident 1 1 (grid 530100 180000) 2 (needs 2 1 1) 1513 (Some 1553) Active)
      ∷ (incident 2 1 (grid 560000 180000) 1 (needs 2 0 0) 1512 None Active) ∷ [];
  calls =
      (call 1 3 2 1 1 true (grid 560200 180000) 1 (needs 2 0 0) [] 2353)
      ∷ (call 1 5 1 1 1 true (grid 530200 180000) 2 (needs 0 0 1) [] 2413)
      ∷ (call 1 6 1 1 1 false (grid 530100 180000) 2 (needs 2 1 1) (codes "x") 1513)
      ∷ (call 2 2 1 1 1 true (grid 530200 180000) 2 (needs 0 1 0) (codes "x") 1993)
      ∷ (call 2 6 2 1 1 false (grid 560000 180000) 2 (needs 1 0 0) [] 1512) ∷ [];
  vehicles =
      (vehicle A1 1 1 Ambulance (grid 560200 180000) Mobilised 2000 None 1 0)
      ∷ (vehicle A2 2 2 Car (grid 560100 180000) Offered 2000 None 0 0)
      ∷ (vehicle A3 1 1 Ambulance (grid 531000 180000) Mobilised 5000 None 1 3) ∷ [];
  turns =
      (turn A1 1 1 1 Ambulance 1553 None None None None None false)
      ∷ (turn A3 1 1 1 Ambulance 2412 (Some 1994) None None None None false) ∷ [];
  assignments = (assignment A1 1 1 1 (grid 530100 180000) 2) ∷ (assignment A3 1 1 1 (grid 530100 180000) 2) ∷ [];
  points = (point 1 2 (grid 530120 180160) 2) ∷ (point 2 2 (grid 531000 180000) 1) ∷ [];
  loans = [];
  offers = (offer A2 2 1 1030 2030) ∷ [];
  reports =
      (report A3 1 button.Position 0 (grid 531000 180000) 1523 1 Normal Available false)
      ∷ (report A3 3 button.Mobile 1 (grid 531000 180000) 1994 1 Normal Mobilised false) ∷ [];
}

queue_of_2_and_3_and_6_and_7_and_8 : Steps
    (at 3284 (Desk 1) ask.Queue) before_queue_of_2_and_3_and_6_and_7_and_8
    (Ok (answer.Queue ((entry rank.Unacknowledged 1553 1 (Some A1)) ∷ (entry rank.LateForScene 1513 1 (Some A1))
    ∷ (entry rank.LateForScene 1513 1 (Some A3)) ∷ (entry rank.ShiftOver 2000 0 (Some A1))
    ∷ (entry rank.Uncovered 0 2 None)
    ∷ (entry rank.Unanswered 1030 2 (Some A2)) ∷ []))) before_queue_of_2_and_3_and_6_and_7_and_8
unfolding machine
queue_of_2_and_3_and_6_and_7_and_8 = (refl, refl)

abbrev before_queue_of_2_and_3_and_6_and_8 : Room
before_queue_of_2_and_3_and_6_and_8 = record {
  plan = two_divisions;
  divisions = (division 1 4) ∷ (division 2 1) ∷ [];
  incidents =
      (incident 1 4 (grid 530100 180000) 1 (needs 1 1 0) 1883 None Active)
      ∷ (incident 2 1 (grid 560100 180000) 1 (needs 2 1 1) 1822 (Some 1913) Active) ∷ [];
  calls =
      (call 1 4 1 4 4 false (grid 530100 180000) 1 (needs 1 1 0) [] 1883)
      ∷ (call 2 6 2 1 1 false (grid 560100 180000) 1 (needs 2 1 1) [] 1822) ∷ [];
  vehicles =
      (vehicle A1 2 2 Ambulance (grid 530201 180000) Mobilised 40000 None 1 1)
      ∷ (vehicle A2 2 2 Car (grid 530201 180000) Offered 40000 None 0 0)
      ∷ (vehicle A3 2 2 Ambulance (grid 530200 180000) OffDuty 0 None 0 0)
      ∷ (vehicle B1 1 1 Support (grid 530100 180000) Available 42876 None 0 0)
      ∷ (vehicle B2 1 1 Ambulance (grid 530201 180000) Available 40000 None 0 2) ∷ [];
  turns = (turn A1 1 2 1 Ambulance 1913 None None None None None false) ∷ [];
  assignments = (assignment A1 2 1 1 (grid 560100 180000) 1) ∷ [];
  points = [];
  loans = [];
  offers = (offer A2 2 1 2875 2975) ∷ [];
  reports =
      (report A1 1 button.Hospital 0 (grid 531000 180000) 1035 2 Wrong Available true)
      ∷ (report B2 2 button.Position 0 (grid 530201 180000) 1035 1 Normal Available false) ∷ [];
}

queue_of_2_and_3_and_6_and_8 : Steps
    (at 40000 (Desk 2) ask.Queue) before_queue_of_2_and_3_and_6_and_8
    (Ok (answer.Queue ((entry rank.Unacknowledged 1913 1 (Some A1)) ∷ (entry rank.LateForScene 1822 1 (Some A1))
    ∷ (entry rank.ShiftOver 40000 0 (Some A1)) ∷ (entry rank.ShiftOver 40000 0 (Some A2))
    ∷ (entry rank.Unanswered 2875 1 (Some A2))
    ∷ []))) before_queue_of_2_and_3_and_6_and_8
unfolding machine
queue_of_2_and_3_and_6_and_8 = (refl, refl)

abbrev before_queue_of_2_and_3_and_7 : Room
before_queue_of_2_and_3_and_7 = record {
  plan = two_divisions;
  divisions = (division 1 1) ∷ (division 2 0) ∷ [];
  incidents = (incident 1 1 (grid 530000 180000) 2 (needs 2 0 1) 2130 (Some 2616) Active) ∷ [];
  calls =
      (call 2 1 1 1 1 true (grid 530200 180000) 3 (needs 0 0 1) [] 2311)
      ∷ (call 2 6 1 1 1 false (grid 530000 180000) 2 (needs 2 0 0) [] 2130) ∷ [];
  vehicles =
      (vehicle A1 1 1 Ambulance (grid 531000 180000) Mobilised 5182 None 1 0)
      ∷ (vehicle A2 2 2 Ambulance (grid 530100 180100) Available 5000 None 0 1)
      ∷ (vehicle A3 1 1 Support (grid 530100 180100) OffDuty 2000 None 0 1) ∷ [];
  turns = (turn A1 1 1 1 Ambulance 2616 None None None None None false) ∷ [];
  assignments = (assignment A1 1 1 1 (grid 530000 180000) 2) ∷ [];
  points = (point 1 2 (grid 530120 180160) 1) ∷ [];
  loans = [];
  offers = [];
  reports =
      (report A2 1 button.Home 0 (grid 530100 180100) 2797 1 Normal Available false)
      ∷ (report A3 1 button.Mobile 0 (grid 531000 180000) 1949 1 Wrong OffDuty true) ∷ [];
}

queue_of_2_and_3_and_7 : Steps (at 2971 (Desk 1) ask.Queue) before_queue_of_2_and_3_and_7
    (Ok (answer.Queue ((entry rank.Unacknowledged 2616 1 (Some A1)) ∷ (entry rank.LateForScene 2130 1 (Some A1))
    ∷ (entry rank.Uncovered 0 2 None)
    ∷ []))) before_queue_of_2_and_3_and_7
unfolding machine
queue_of_2_and_3_and_7 = (refl, refl)

abbrev before_queue_of_2_and_3_and_8 : Room
before_queue_of_2_and_3_and_8 = record {
  plan = two_divisions;
  divisions = (division 1 5) ∷ (division 2 1) ∷ [];
  incidents =
      (incident 1 4 (grid 530100 180000) 1 (needs 1 1 1) 1883 None Active)
      ∷ (incident 1 5 (grid 530000 180000) 1 (needs 2 1 1) 3487 None Active)
      ∷ (incident 2 1 (grid 560100 180000) 1 (needs 2 1 1) 1822 (Some 1913) Active) ∷ [];
  calls =
      (call 1 4 1 4 4 false (grid 530100 180000) 1 (needs 1 1 0) [] 1883)
      ∷ (call 2 1 1 4 4 true (grid 530100 180100) 2 (needs 0 0 1) [] 2303)
      ∷ (call 2 5 1 5 5 false (grid 530000 180000) 1 (needs 2 1 1) [] 3487)
      ∷ (call 2 6 2 1 1 false (grid 560100 180000) 1 (needs 2 1 1) [] 1822) ∷ [];
  vehicles =
      (vehicle A1 2 2 Ambulance (grid 530201 180000) Mobilised 40000 None 1 1)
      ∷ (vehicle A2 2 2 Car (grid 530201 180000) Offered 40000 None 0 0)
      ∷ (vehicle A3 2 2 Ambulance (grid 530200 180000) OffDuty 0 None 0 0)
      ∷ (vehicle B1 1 1 Support (grid 530100 180000) Offered 42876 None 0 0)
      ∷ (vehicle B2 1 1 Ambulance (grid 530201 180000) Available 40000 None 0 3) ∷ [];
  turns = (turn A1 1 2 1 Ambulance 1913 None None None None None false) ∷ [];
  assignments = (assignment A1 2 1 1 (grid 560100 180000) 1) ∷ [];
  points = [];
  loans = [];
  offers = (offer A2 2 1 2875 2975) ∷ (offer B1 1 2 2976 3376) ∷ [];
  reports =
      (report A1 1 button.Hospital 0 (grid 531000 180000) 1035 2 Wrong Available true)
      ∷ (report B2 2 button.Position 0 (grid 530201 180000) 1035 1 Normal Available false)
      ∷ (report B2 3 button.Return 0 (grid 530200 180000) 3457 1 Wrong Available false) ∷ [];
}

queue_of_2_and_3_and_8 : Steps (at 4387 (Desk 2) ask.Queue) before_queue_of_2_and_3_and_8
    (Ok (answer.Queue ((entry rank.Unacknowledged 1913 1 (Some A1)) ∷ (entry rank.LateForScene 1822 1 (Some A1))
    ∷ (entry rank.Unanswered 2875 1 (Some A2)) ∷ (entry rank.Unanswered 2976 1 (Some B1)) ∷ [])))
    before_queue_of_2_and_3_and_8
unfolding machine
queue_of_2_and_3_and_8 = (refl, refl)

abbrev before_queue_of_2_and_4 : Room
before_queue_of_2_and_4 = record {
  plan = two_divisions;
  divisions = (division 1 1) ∷ (division 2 1) ∷ [];
  incidents =
      (incident 1 1 (grid 530100 180000) 2 (needs 0 0 1) 1733 None Active)
      ∷ (incident 2 1 (grid 560100 180000) 2 (needs 2 0 0) 2634 (Some 2814) Active) ∷ [];
  calls =
      (call 1 6 1 1 1 false (grid 530100 180000) 2 (needs 0 0 1) (codes "x") 1733)
      ∷ (call 2 1 2 1 1 false (grid 560100 180000) 2 (needs 2 1 1) [] 2634) ∷ [];
  vehicles =
      (vehicle A1 1 1 Support (grid 530100 180000) OffDuty 0 None 0 0)
      ∷ (vehicle A2 2 2 Ambulance (grid 531000 180000) Mobilised 40000 None 1 4)
      ∷ (vehicle A3 1 1 Car (grid 530000 180000) Available 2000 None 0 3) ∷ [];
  turns = (turn A2 1 2 1 Ambulance 2814 None None None None None false) ∷ [];
  assignments = (assignment A2 2 1 1 (grid 560100 180000) 2) ∷ [];
  points = [];
  loans = [];
  offers = [];
  reports =
      (report A2 1 button.Home 0 (grid 531000 180000) 1242 2 Normal Available false)
      ∷ (report A2 3 button.Hospital 0 (grid 530300 180400) 2375 2 Wrong Available true)
      ∷ (report A2 4 button.Leave 0 (grid 530120 180160) 2376 2 Wrong Available false)
      ∷ (report A3 1 button.Home 0 (grid 530100 180100) 1728 1 Normal Available false)
      ∷ (report A3 2 button.Home 0 (grid 530100 180000) 1884 1 Normal Available false)
      ∷ (report A3 3 button.Position 0 (grid 530000 180000) 2411 1 Normal Available false) ∷ [];
}

queue_of_2_and_4 : Steps (at 3474 (Desk 2) ask.Queue) before_queue_of_2_and_4
    (Ok (answer.Queue ((entry rank.Unacknowledged 2814 1 (Some A2)) ∷ (entry rank.OutOfTurn 2376 4 (Some A2)) ∷ [])))
    before_queue_of_2_and_4
unfolding machine
queue_of_2_and_4 = (refl, refl)

abbrev before_queue_of_2_and_4_and_5 : Room
before_queue_of_2_and_4_and_5 = record {
  plan = two_divisions;
  divisions = (division 1 4) ∷ (division 2 0) ∷ [];
  incidents = (incident 1 4 (grid 530200 180000) 3 (needs 2 1 1) 2083 (Some 4807) Active) ∷ [];
  calls = (call 2 6 1 4 4 false (grid 530200 180000) 3 (needs 2 1 1) [] 2083) ∷ [];
  vehicles =
      (vehicle A1 1 1 Ambulance (grid 530100 180000) Available 7128 None 0 0)
      ∷ (vehicle A2 1 1 Ambulance (grid 530201 180000) Offered 5000 None 0 3)
      ∷ (vehicle A3 2 1 Ambulance (grid 530000 180000) Mobilised 6816 None 1 4) ∷ [];
  turns = (turn A3 1 1 4 Ambulance 4807 None None None None None false) ∷ [];
  assignments = (assignment A3 1 4 1 (grid 530200 180000) 3) ∷ [];
  points = (point 2 2 (grid 531000 180000) 1) ∷ [];
  loans = (loan A3 2 1 4211 2917 true) ∷ [];
  offers = (offer A2 1 2 4807 5807) ∷ [];
  reports =
      (report A2 1 button.Mobile 0 (grid 530000 180000) 1662 1 Wrong Available false)
      ∷ (report A2 3 button.Position 0 (grid 530201 180000) 2847 1 Normal Available false)
      ∷ (report A3 2 button.Leave 0 (grid 530100 180000) 2570 2 Wrong OffDuty false)
      ∷ (report A3 3 button.Mobile 0 (grid 530100 180100) 3148 2 Wrong Offered false)
      ∷ (report A3 4 button.Scene 0 (grid 530120 180160) 4291 1 Wrong Available false) ∷ [];
}

queue_of_2_and_4_and_5 : Steps (at 4999 (Desk 1) ask.Queue) before_queue_of_2_and_4_and_5
    (Ok (answer.Queue ((entry rank.Unacknowledged 4807 4 (Some A3)) ∷ (entry rank.OutOfTurn 1662 1 (Some A2))
    ∷ (entry rank.OutOfTurn 4291 4 (Some A3)) ∷ (entry rank.Overdue 2917 2 (Some A3)) ∷ [])))
    before_queue_of_2_and_4_and_5
unfolding machine
queue_of_2_and_4_and_5 = (refl, refl)

abbrev before_queue_of_2_and_4_and_6 : Room
before_queue_of_2_and_4_and_6 = record {
  plan = overlapping_divisions;
  divisions = (division 1 1) ∷ (division 7 0) ∷ [];
  incidents = (incident 1 1 (grid 530200 180000) 2 (needs 2 0 1) 1451 (Some 1643) Active) ∷ [];
  calls =
      (call 1 5 1 1 1 true (grid 530100 180100) 2 (needs 0 0 1) [] 2291)
      ∷ (call 1 6 1 1 1 false (grid 530200 180000) 2 (needs 2 0 0) [] 1451) ∷ [];
  vehicles =
      (vehicle A1 1 1 Support (grid 531000 180000) Available 1151 None 0 1)
      ∷ (vehicle A2 1 1 Ambulance (grid 530200 180000) OffDuty 0 None 0 0)
      ∷ (vehicle A3 1 1 Ambulance (grid 530201 180000) Mobilised 40000 None 1 0)
      ∷ (vehicle B1 1 1 Ambulance (grid 530120 180160) Available 2000 None 0 1) ∷ [];
  turns = (turn A3 1 1 1 Ambulance 1643 None None None None None false) ∷ [];
  assignments = (assignment A3 1 1 1 (grid 530200 180000) 2) ∷ [];
  points = [];
  loans = [];
  offers = [];
  reports =
      (report A1 1 button.Return 0 (grid 531000 180000) 1523 1 Wrong Available false)
      ∷ (report B1 1 button.Scene 0 (grid 530120 180160) 1522 1 Wrong Available false) ∷ [];
}

queue_of_2_and_4_and_6 : Steps (at 1763 (Desk 1) ask.Queue) before_queue_of_2_and_4_and_6
    (Ok (answer.Queue ((entry rank.Unacknowledged 1643 1 (Some A3)) ∷ (entry rank.OutOfTurn 1522 1 (Some B1))
    ∷ (entry rank.OutOfTurn 1523 1 (Some A1)) ∷ (entry rank.ShiftOver 1151 0 (Some A1)) ∷ [])))
    before_queue_of_2_and_4_and_6
unfolding machine
queue_of_2_and_4_and_6 = (refl, refl)

abbrev before_queue_of_2_and_4_and_6_and_7 : Room
before_queue_of_2_and_4_and_6_and_7 = record {
  plan = two_divisions;
  divisions = (division 1 3) ∷ (division 2 1) ∷ [];
  incidents =
      (incident 1 1 (grid 530120 180160) 2 (needs 2 1 1) 1360 None Active)
      ∷ (incident 1 2 (grid 530300 180400) 2 (needs 2 1 1) 1366 None Active)
      ∷ (incident 1 3 (grid 530201 180000) 1 (needs 2 1 1) 3244 None Active)
      ∷ (incident 2 1 (grid 560100 180000) 3 (needs 0 0 1) 2281 (Some 2200) Active) ∷ [];
  calls =
      (call 1 1 1 2 2 false (grid 530300 180400) 2 (needs 2 1 1) [] 1366)
      ∷ (call 1 4 2 1 1 false (grid 560100 180000) 3 (needs 0 0 1) [] 2281)
      ∷ (call 2 1 1 3 3 false (grid 530201 180000) 1 (needs 2 1 1) [] 3244)
      ∷ (call 2 3 1 1 1 false (grid 530120 180160) 2 (needs 2 1 1) [] 1360) ∷ [];
  vehicles =
      (vehicle A1 2 2 Support (grid 530120 180160) Mobilised 5000 None 1 0)
      ∷ (vehicle A2 2 2 Ambulance (grid 530300 180400) Available 2000 None 0 2)
      ∷ (vehicle A3 2 2 Ambulance (grid 560000 180000) Available 5000 None 0 2) ∷ [];
  turns = (turn A1 1 2 1 Support 2200 None None None None None false) ∷ [];
  assignments = (assignment A1 2 1 1 (grid 560100 180000) 3) ∷ [];
  points = (point 1 1 (grid 530100 180000) 0) ∷ (point 2 2 (grid 531000 180000) 1) ∷ [];
  loans = [];
  offers = [];
  reports =
      (report A2 1 button.Scene 0 (grid 530200 180000) 1366 2 Wrong Available false)
      ∷ (report A2 2 button.Position 0 (grid 530300 180400) 2033 2 Normal Available false)
      ∷ (report A3 1 button.Hospital 0 (grid 530201 180000) 2215 2 Wrong Available false)
      ∷ (report A3 2 button.Mobile 0 (grid 530200 180000) 2943 2 Wrong Available false) ∷ [];
}

queue_of_2_and_4_and_6_and_7 : Steps
    (at 3705 (Desk 2) ask.Queue) before_queue_of_2_and_4_and_6_and_7
    (Ok (answer.Queue ((entry rank.Unacknowledged 2200 1 (Some A1)) ∷ (entry rank.OutOfTurn 1366 1 (Some A2))
    ∷ (entry rank.OutOfTurn 2215 1 (Some A3)) ∷ (entry rank.OutOfTurn 2943 2 (Some A3))
    ∷ (entry rank.ShiftOver 2000 0 (Some A2))
    ∷ (entry rank.Uncovered 0 2 None) ∷ []))) before_queue_of_2_and_4_and_6_and_7
unfolding machine
queue_of_2_and_4_and_6_and_7 = (refl, refl)

abbrev before_queue_of_2_and_4_and_6_and_8 : Room
before_queue_of_2_and_4_and_6_and_8 = record {
  plan = two_divisions;
  divisions = (division 1 2) ∷ (division 2 4) ∷ [];
  incidents =
      (incident 1 1 (grid 530200 180000) 1 (needs 1 1 0) 1301 None Active)
      ∷ (incident 1 2 (grid 530120 180160) 3 (needs 2 0 0) 3082 None Active)
      ∷ (incident 2 4 (grid 560200 180000) 3 (needs 2 0 0) 1848 (Some 3051) Active) ∷ [];
  calls =
      (call 2 2 1 1 1 true (grid 530100 180000) 1 (needs 0 1 0) [] 1567)
      ∷ (call 2 3 1 2 2 false (grid 530120 180160) 3 (needs 2 0 0) [] 3082)
      ∷ (call 2 4 1 1 1 false (grid 530200 180000) 2 (needs 1 0 0) [] 1301)
      ∷ (call 2 5 2 4 4 false (grid 560200 180000) 3 (needs 2 0 0) [] 1848) ∷ [];
  vehicles =
      (vehicle A1 1 1 Ambulance (grid 530000 180000) OffDuty 2000 None 0 1)
      ∷ (vehicle A2 2 2 Ambulance (grid 530300 180400) OffDuty 0 None 0 3)
      ∷ (vehicle A3 1 1 Ambulance (grid 530201 180000) Offered 40000 None 0 0)
      ∷ (vehicle B1 2 2 Ambulance (grid 530201 180000) Mobilised 5000 None 1 0)
      ∷ (vehicle B2 2 2 Ambulance (grid 530100 180000) Available 2102 None 0 1) ∷ [];
  turns = (turn B1 1 2 4 Ambulance 3051 None None None None None false) ∷ [];
  assignments = (assignment B1 2 4 1 (grid 560200 180000) 3) ∷ [];
  points = (point 2 1 (grid 530120 180160) 0) ∷ [];
  loans = [];
  offers = (offer A3 1 2 2630 2630) ∷ [];
  reports =
      (report A1 1 button.Mobile 0 (grid 530100 180000) 2750 1 Wrong Available false)
      ∷ (report A2 1 button.Position 0 (grid 530200 180000) 1582 2 Wrong OffDuty false)
      ∷ (report A2 3 button.Scene 0 (grid 531000 180000) 1587 2 Wrong OffDuty false)
      ∷ (report B2 1 button.Mobile 0 (grid 531000 180000) 2870 2 Wrong Available false) ∷ [];
}

queue_of_2_and_4_and_6_and_8 : Steps
    (at 3563 (Desk 2) ask.Queue) before_queue_of_2_and_4_and_6_and_8
    (Ok (answer.Queue ((entry rank.Unacknowledged 3051 4 (Some B1)) ∷ (entry rank.OutOfTurn 1582 1 (Some A2))
    ∷ (entry rank.OutOfTurn 1587 3 (Some A2)) ∷ (entry rank.OutOfTurn 2870 1 (Some B2))
    ∷ (entry rank.ShiftOver 2102 0 (Some B2))
    ∷ (entry rank.Unanswered 2630 1 (Some A3)) ∷ []))) before_queue_of_2_and_4_and_6_and_8
unfolding machine
queue_of_2_and_4_and_6_and_8 = (refl, refl)

abbrev before_queue_of_2_and_4_and_7 : Room
before_queue_of_2_and_4_and_7 = record {
  plan = two_divisions;
  divisions = (division 1 2147483647) ∷ (division 2 2147483647) ∷ [];
  incidents = (incident 1 2147483647 (grid 530100 180000) 2 (needs 2 1 1) 1125 (Some 1245) Active) ∷ [];
  calls =
      (call 1 1 1 2147483647 2147483647 false (grid 530100 180000) 2 (needs 0 1 0) (codes "x") 1125)
      ∷ (call 1 5 1 2147483647 2147483647 true (grid 530120 180160) 3 (needs 2 1 1) [] 1307)
      ∷ (call 2 4 1 2147483647 2147483647 true (grid 530000 180000) 2 (needs 1 1 0) [] 1966) ∷ [];
  vehicles =
      (vehicle A1 1 1 Ambulance (grid 530100 180000) Available 40000 None 0 2)
      ∷ (vehicle A2 1 1 Car (grid 530120 180160) Mobilised 40000 None 1 0)
      ∷ (vehicle A3 2 2 Support (grid 530201 180000) OffDuty 0 None 0 0)
      ∷ (vehicle B1 2 2 Ambulance (grid 530201 180000) OffDuty 0 None 0 0)
      ∷ (vehicle B2 1 1 Support (grid 560200 180000) Available 5000 None 0 0) ∷ [];
  turns = (turn A2 1 1 2147483647 Car 1245 None None None None None false) ∷ [];
  assignments = (assignment A2 1 2147483647 1 (grid 530100 180000) 2) ∷ [];
  points = (point 1 1 (grid 530000 180000) 1) ∷ [];
  loans = [];
  offers = [];
  reports = (report A1 2 button.Hospital 0 (grid 530201 180000) 1005 1 Wrong Available false) ∷ [];
}

queue_of_2_and_4_and_7 : Steps (at 1407 (Desk 1) ask.Queue) before_queue_of_2_and_4_and_7
    (Ok (answer.Queue ((entry rank.Unacknowledged 1245 2147483647 (Some A2)) ∷ (entry rank.OutOfTurn 1005 2 (Some A1))
    ∷ (entry rank.Uncovered 0 1 None) ∷ []))) before_queue_of_2_and_4_and_7
unfolding machine
queue_of_2_and_4_and_7 = (refl, refl)

abbrev before_queue_of_2_and_4_and_7_and_8 : Room
before_queue_of_2_and_4_and_7_and_8 = record {
  plan = two_divisions;
  divisions = (division 1 2) ∷ (division 2 1) ∷ [];
  incidents =
      (incident 1 1 (grid 530120 180160) 3 (needs 1 0 0) 1120 (Some 1220) Active)
      ∷ (incident 1 2 (grid 530100 180000) 2 (needs 2 0 0) 2152 (Some 2449) Active)
      ∷ (incident 2 1 (grid 560000 180000) 2 (needs 0 1 0) 1252 None Active) ∷ [];
  calls =
      (call 1 1 2 1 1 false (grid 560000 180000) 2 (needs 0 1 0) (codes "x") 1252)
      ∷ (call 1 6 1 1 1 false (grid 530120 180160) 3 (needs 1 0 0) [] 1120)
      ∷ (call 2 6 1 2 2 false (grid 530100 180000) 2 (needs 2 0 0) [] 2152) ∷ [];
  vehicles =
      (vehicle A1 1 1 Support (grid 560200 180000) Available 5000 None 0 0)
      ∷ (vehicle A2 2 2 Ambulance (grid 530100 180000) OffDuty 1600 None 0 1)
      ∷ (vehicle A3 1 1 Ambulance (grid 530300 180400) Offered 40000 None 2147483647 0)
      ∷ (vehicle B1 1 1 Ambulance (grid 530200 180000) Mobilised 5000 None 2 6)
      ∷ (vehicle B2 2 2 Ambulance (grid 560200 180000) OffDuty 40000 None 0 0) ∷ [];
  turns =
      (turn B1 1 1 1 Ambulance 1220 None None (Some 1251) (Some 1252) (Some 2148) false)
      ∷ (turn B1 2 1 2 Ambulance 2449 None None None None None false) ∷ [];
  assignments = (assignment B1 1 2 2 (grid 530100 180000) 2) ∷ [];
  points = (point 1 1 (grid 530201 180000) 1) ∷ (point 2 2 (grid 530200 180000) 1) ∷ [];
  loans = [];
  offers = (offer A3 1 2 1717 2117) ∷ [];
  reports =
      (report A2 1 button.Scene 0 (grid 530100 180100) 1253 2 Wrong Available false)
      ∷ (report B1 1 button.Leave 1 (grid 530200 180000) 1251 1 Skipped Leaving false)
      ∷ (report B1 2 button.Hospital 1 (grid 530100 180100) 1252 1 Normal AtHospital false)
      ∷ (report B1 3 button.Hospital 1 (grid 530000 180000) 1554 1 Normal AtHospital false)
      ∷ (report B1 5 button.Position 1 (grid 530200 180000) 1534 1 Normal AtHospital false)
      ∷ (report B1 6 button.Home 1 (grid 530200 180000) 2148 1 Skipped Available false) ∷ [];
}

queue_of_2_and_4_and_7_and_8 : Steps
    (at 2511 (Desk 1) ask.Queue) before_queue_of_2_and_4_and_7_and_8
    (Ok (answer.Queue ((entry rank.Unacknowledged 2449 2 (Some B1)) ∷ (entry rank.OutOfTurn 1251 1 (Some B1))
    ∷ (entry rank.OutOfTurn 2148 6 (Some B1)) ∷ (entry rank.Uncovered 0 1 None)
    ∷ (entry rank.Unanswered 1717 2 (Some A3)) ∷ [])))
    before_queue_of_2_and_4_and_7_and_8
unfolding machine
queue_of_2_and_4_and_7_and_8 = (refl, refl)

abbrev before_queue_of_2_and_6 : Room
before_queue_of_2_and_6 = record {
  plan = two_divisions;
  divisions = (division 1 4) ∷ (division 2 0) ∷ [];
  incidents = (incident 1 4 (grid 530100 180100) 3 (needs 2 1 1) 1000 (Some 1462) Active) ∷ [];
  calls =
      (call 1 1 1 4 4 false (grid 530100 180100) 3 (needs 2 1 1) [] 1000)
      ∷ (call 2 1 1 4 4 true (grid 530120 180160) 3 (needs 1 1 0) (codes "x") 1481) ∷ [];
  vehicles =
      (vehicle A1 2 2 Support (grid 560000 180000) Available 40000 None 0 0)
      ∷ (vehicle A2 2 2 Ambulance (grid 560200 180000) Available 40000 None 0 0)
      ∷ (vehicle A3 1 1 Support (grid 530100 180000) Mobilised 2000 None 1 0)
      ∷ (vehicle B1 2 2 Ambulance (grid 560000 180000) Available 5000 None 0 0)
      ∷ (vehicle B2 2 2 Car (grid 530100 180100) OffDuty 0 None 0 0) ∷ [];
  turns = (turn A3 1 1 4 Support 1462 None None None None None false) ∷ [];
  assignments = (assignment A3 1 4 1 (grid 530100 180100) 3) ∷ [];
  points = [];
  loans = [];
  offers = [];
  reports = [];
}

queue_of_2_and_6 : Steps (at 2000 (Desk 1) ask.Queue) before_queue_of_2_and_6
    (Ok (answer.Queue ((entry rank.Unacknowledged 1462 4 (Some A3)) ∷ (entry rank.ShiftOver 2000 0 (Some A3)) ∷ [])))
    before_queue_of_2_and_6
unfolding machine
queue_of_2_and_6 = (refl, refl)

abbrev before_queue_of_2_and_6_and_7_and_8 : Room
before_queue_of_2_and_6_and_7_and_8 = record {
  plan = overlapping_divisions;
  divisions = (division 1 1) ∷ (division 7 4) ∷ [];
  incidents =
      (incident 1 1 (grid 531000 180000) 2 (needs 0 1 0) 1783 None Active)
      ∷ (incident 7 4 (grid 530000 180000) 3 (needs 2 0 0) 1602 (Some 1632) Active) ∷ [];
  calls =
      (call 1 2 7 4 4 false (grid 530000 180000) 3 (needs 2 0 0) [] 1602)
      ∷ (call 2 2 1 1 1 false (grid 531000 180000) 2 (needs 0 1 0) [] 1783) ∷ [];
  vehicles =
      (vehicle A1 1 1 Ambulance (grid 531000 180000) Offered 41301 None 0 0)
      ∷ (vehicle A2 1 1 Ambulance (grid 531000 180000) Available 2000 None 0 0)
      ∷ (vehicle A3 1 1 Car (grid 530300 180400) Available 1483 None 0 2)
      ∷ (vehicle B1 7 7 Ambulance (grid 530000 180000) Mobilised 2000 None 1 1) ∷ [];
  turns = (turn B1 1 7 4 Ambulance 1632 None None None None None false) ∷ [];
  assignments = (assignment B1 7 4 1 (grid 530000 180000) 3) ∷ [];
  points = (point 7 2 (grid 530300 180400) 2) ∷ [];
  loans = [];
  offers = (offer A1 1 7 2296 2696) ∷ [];
  reports =
      (report A3 2 button.Scene 0 (grid 531000 180000) 1613 1 Wrong Available false)
      ∷ (report B1 1 button.Position 1 (grid 530000 180000) 2857 7 Normal Mobilised false) ∷ [];
}

queue_of_2_and_6_and_7_and_8 : Steps
    (at 3018 (Desk 7) ask.Queue) before_queue_of_2_and_6_and_7_and_8
    (Ok (answer.Queue ((entry rank.Unacknowledged 1632 4 (Some B1)) ∷ (entry rank.ShiftOver 2000 0 (Some B1))
    ∷ (entry rank.Uncovered 0 2 None)
    ∷ (entry rank.Unanswered 2296 1 (Some A1)) ∷ []))) before_queue_of_2_and_6_and_7_and_8
unfolding machine
queue_of_2_and_6_and_7_and_8 = (refl, refl)

abbrev before_queue_of_2_and_6_and_8 : Room
before_queue_of_2_and_6_and_8 = record {
  plan = two_divisions;
  divisions = (division 1 1) ∷ (division 2 1) ∷ [];
  incidents =
      (incident 1 1 (grid 530100 180000) 2 (needs 2 0 0) 1481 (Some 1642) Active)
      ∷ (incident 2 1 (grid 560100 180000) 2 (needs 0 1 0) 2381 (Some 1999) Active) ∷ [];
  calls =
      (call 1 4 2 1 1 false (grid 560100 180000) 2 (needs 0 1 0) [] 2381)
      ∷ (call 2 6 1 1 1 false (grid 530100 180000) 2 (needs 2 0 0) [] 1481) ∷ [];
  vehicles =
      (vehicle A1 1 1 Ambulance (grid 531000 180000) AtHospital 2000 None 1 2)
      ∷ (vehicle A2 2 2 Car (grid 530100 180000) Mobilised 2000 None 1 0)
      ∷ (vehicle A3 1 1 Car (grid 530100 180000) Offered 5000 None 0 4) ∷ [];
  turns =
      (turn A1 1 1 1 Ambulance 1642 None None None (Some 1794) None false)
      ∷ (turn A2 1 2 1 Car 1999 None None None None None false) ∷ [];
  assignments = (assignment A1 1 1 1 (grid 530100 180000) 2) ∷ (assignment A2 2 1 1 (grid 560100 180000) 2) ∷ [];
  points = (point 1 2 (grid 530000 180000) 1) ∷ [];
  loans = [];
  offers = (offer A3 1 2 1703 1803) ∷ [];
  reports =
      (report A1 1 button.Hospital 1 (grid 531000 180000) 1794 1 Skipped AtHospital false)
      ∷ (report A1 2 button.Return 0 (grid 530100 180100) 2463 1 Stale AtHospital false)
      ∷ (report A3 1 button.Hospital 0 (grid 530100 180000) 1662 1 Wrong Available false)
      ∷ (report A3 3 button.Mobile 0 (grid 530201 180000) 1733 1 Wrong Offered false)
      ∷ (report A3 4 button.Mobile 0 (grid 530201 180000) 1795 1 Wrong Offered false) ∷ [];
}

queue_of_2_and_6_and_8 : Steps (at 2562 (Desk 2) ask.Queue) before_queue_of_2_and_6_and_8
    (Ok (answer.Queue ((entry rank.Unacknowledged 1999 1 (Some A2)) ∷ (entry rank.ShiftOver 2000 0 (Some A2))
    ∷ (entry rank.Unanswered 1703 1 (Some A3)) ∷ []))) before_queue_of_2_and_6_and_8
unfolding machine
queue_of_2_and_6_and_8 = (refl, refl)

abbrev before_queue_of_2_and_7 : Room
before_queue_of_2_and_7 = record {
  plan = overlapping_divisions;
  divisions = (division 1 0) ∷ (division 7 4) ∷ [];
  incidents = (incident 7 4 (grid 530000 180000) 3 (needs 2 0 0) 1602 (Some 1632) Active) ∷ [];
  calls = (call 1 2 7 4 4 false (grid 530000 180000) 3 (needs 2 0 0) [] 1602) ∷ [];
  vehicles =
      (vehicle A1 1 1 Ambulance (grid 531000 180000) Available 41301 None 0 0)
      ∷ (vehicle A2 1 1 Ambulance (grid 531000 180000) Available 2000 None 0 0)
      ∷ (vehicle A3 1 1 Car (grid 530300 180400) Available 1483 None 0 2)
      ∷ (vehicle B1 7 7 Ambulance (grid 530300 180400) Mobilised 2000 None 1 0) ∷ [];
  turns = (turn B1 1 7 4 Ambulance 1632 None None None None None false) ∷ [];
  assignments = (assignment B1 7 4 1 (grid 530000 180000) 3) ∷ [];
  points = (point 7 2 (grid 530300 180400) 2) ∷ [];
  loans = [];
  offers = [];
  reports = (report A3 2 button.Scene 0 (grid 531000 180000) 1613 1 Wrong Available false) ∷ [];
}

queue_of_2_and_7 : Steps (at 1693 (Desk 7) ask.Queue) before_queue_of_2_and_7
    (Ok (answer.Queue ((entry rank.Unacknowledged 1632 4 (Some B1)) ∷ (entry rank.Uncovered 0 2 None) ∷ [])))
    before_queue_of_2_and_7
unfolding machine
queue_of_2_and_7 = (refl, refl)

abbrev before_queue_of_3 : Room
before_queue_of_3 = record {
  plan = overlapping_divisions;
  divisions = (division 1 1) ∷ (division 7 0) ∷ [];
  incidents = (incident 1 1 (grid 531000 180000) 2 (needs 2 0 0) 1301 (Some 2141) Active) ∷ [];
  calls = (call 2 2 1 1 1 false (grid 531000 180000) 2 (needs 2 0 0) [] 1301) ∷ [];
  vehicles =
      (vehicle A1 1 1 Support (grid 531000 180000) Offered 40000 None 0 1)
      ∷ (vehicle A2 7 7 Support (grid 530300 180400) Available 5643 None 0 1)
      ∷ (vehicle A3 7 7 Ambulance (grid 560200 180000) Available 5000 None 0 1)
      ∷ (vehicle B1 1 1 Ambulance (grid 560000 180000) Mobilised 40000 None 1 0) ∷ [];
  turns = (turn B1 1 1 1 Ambulance 2141 None None None None None false) ∷ [];
  assignments = (assignment B1 1 1 1 (grid 531000 180000) 2) ∷ [];
  points = [];
  loans = [];
  offers = (offer A1 1 7 1945 2945) ∷ [];
  reports =
      (report A1 1 button.Home 0 (grid 531000 180000) 1644 1 Normal Available false)
      ∷ (report A2 1 button.Scene 0 (grid 530100 180000) 1663 7 Wrong OffDuty false)
      ∷ (report A3 1 button.Scene 0 (grid 530100 180100) 1602 7 Wrong Available false) ∷ [];
}

queue_of_3 : Steps (at 2201 (Desk 1) ask.Queue) before_queue_of_3
    (Ok (answer.Queue ((entry rank.LateForScene 1301 1 (Some B1)) ∷ []))) before_queue_of_3
unfolding machine
queue_of_3 = (refl, refl)
