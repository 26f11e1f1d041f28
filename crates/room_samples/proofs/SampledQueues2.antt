-- Sampled steps: queues with each set of ranks, each limit just met and just passed, and clearing.
-- A program that is independent of this repository, written from the rules in words, made them in
-- random runs; of each kind of step it kept those with the fewest rows.
use Rattle.std.specs.Prelude.{None, Ok, Some, [], codes, false, refl, true, ◌∷◌}
use Rattle.room_types.specs.declared.answers.Answer.TheVariants as answer
use Rattle.room_types.specs.declared.asks.Ask.TheVariants as ask
use Rattle.room_types.specs.declared.asks.Who.TheVariants.{Desk}
use Rattle.room_types.specs.declared.codes.Button.TheVariants as button
use Rattle.room_types.specs.declared.codes.Kind.TheVariants.{Ambulance, Car, Support}
use Rattle.room_types.specs.declared.codes.Outcome.TheVariants.{Late, Normal, Skipped, Stale, Wrong}
use Rattle.room_types.specs.declared.codes.State.TheVariants.{Active, Closed, Merged}
use Rattle.room_types.specs.declared.codes.Status.TheVariants.{AtHospital, AtScene, Available}
use Rattle.room_types.specs.declared.codes.Status.TheVariants.{Leaving, Mobilised, OffDuty, Offered}
use Rattle.room_types.specs.declared.codes.Status.TheVariants.{Returning}
use Rattle.room_model.specs.Room.{Room}
use Rattle.room_model.specs.ComputedDefinitions.{machine}
use Rattle.room_samples.specs.ExampleRows.{assignment, call, division, grid, incident, loan, offer}
use Rattle.room_samples.specs.ExampleRows.{point, report, turn, vehicle}
use Rattle.room_samples.specs.SampledRooms.{A1, A2, A3, B1, B2, overlapping_divisions}
use Rattle.room_samples.specs.SampledRooms.{two_divisions}
use Rattle.room_samples.specs.SampledSteps.{Steps}
use Rattle.room_model.specs.StepWords.{at, entry, needs}
use Rattle.room_types.specs.declared.ranks.Rank.TheVariants as rank

abbrev before_queue_of_3_and_4 : Room
before_queue_of_3_and_4 = record {
  plan = two_divisions;
  divisions = (division 1 1) ∷ (division 2 4) ∷ [];
  incidents =
      (incident 1 1 (grid 530120 180160) 2 (needs 1 1 0) 1602 None Active)
      ∷ (incident 2 4 (grid 560200 180000) 1 (needs 2 1 1) 1783 (Some 3607) Active) ∷ [];
  calls =
      (call 1 3 1 1 1 true (grid 530120 180160) 2 (needs 1 1 0) (codes "x") 2204)
      ∷ (call 1 6 2 4 4 false (grid 560200 180000) 1 (needs 2 1 1) [] 1783)
      ∷ (call 2 4 1 1 1 false (grid 530120 180160) 2 (needs 1 0 0) (codes "x") 1602) ∷ [];
  vehicles =
      (vehicle A1 2 2 Ambulance (grid 530100 180100) Mobilised 5000 None 1 4)
      ∷ (vehicle A2 2 2 Support (grid 530300 180400) Available 3608 None 0 2)
      ∷ (vehicle A3 1 1 Support (grid 530100 180100) Available 40000 None 0 4) ∷ [];
  turns = (turn A1 1 2 4 Ambulance 3607 None None None None None false) ∷ [];
  assignments = (assignment A1 2 4 1 (grid 560200 180000) 1) ∷ [];
  points = [];
  loans = [];
  offers = [];
  reports =
      (report A1 1 button.Position 0 (grid 530100 180100) 1271 2 Normal Available false)
      ∷ (report A1 2 button.Leave 0 (grid 530100 180000) 1572 2 Wrong Available false)
      ∷ (report A1 4 button.Hospital 0 (grid 530100 180100) 1602 2 Wrong Available false)
      ∷ (report A2 2 button.Home 0 (grid 531000 180000) 3505 2 Wrong OffDuty false)
      ∷ (report A3 1 button.Position 0 (grid 530100 180000) 2209 1 Normal Available false)
      ∷ (report A3 2 button.Home 0 (grid 530100 180000) 2540 1 Normal Available false)
      ∷ (report A3 3 button.Position 0 (grid 530100 180100) 3607 1 Normal Available false)
      ∷ (report A3 4 button.Scene 0 (grid 531000 180000) 3788 1 Wrong Available false) ∷ [];
}

queue_of_3_and_4 : Steps (at 2264 (Desk 2) ask.Queue) before_queue_of_3_and_4
    (Ok (answer.Queue ((entry rank.LateForScene 1783 4 (Some A1)) ∷ (entry rank.OutOfTurn 1572 2 (Some A1))
    ∷ (entry rank.OutOfTurn 1602 4 (Some A1)) ∷ (entry rank.OutOfTurn 3505 2 (Some A2)) ∷ []))) before_queue_of_3_and_4
unfolding machine
queue_of_3_and_4 = (refl, refl)

abbrev before_queue_of_3_and_4_2 : Room
before_queue_of_3_and_4_2 = record {
  plan = two_divisions;
  divisions = (division 1 2) ∷ (division 2 4) ∷ [];
  incidents =
      (incident 1 1 (grid 530100 180100) 2 (needs 1 1 0) 2847 (Some 4000) Active)
      ∷ (incident 1 2 (grid 530201 180000) 1 (needs 0 1 0) 4271 None Active)
      ∷ (incident 2 4 (grid 560200 180000) 2 (needs 2 1 1) 2546 None Closed) ∷ [];
  calls =
      (call 1 1 1 2 2 false (grid 530201 180000) 2 (needs 0 1 0) [] 4271)
      ∷ (call 1 2 1 2 2 true (grid 530100 180000) 1 (needs 0 1 0) (codes "x") 4452)
      ∷ (call 1 4 2 4 4 true (grid 560000 180000) 2 (needs 2 1 1) (codes "x") 2947)
      ∷ (call 1 5 1 1 1 false (grid 530100 180100) 2 (needs 1 0 0) [] 2847)
      ∷ (call 2 3 1 1 1 true (grid 530000 180000) 2 (needs 0 1 0) [] 3386)
      ∷ (call 2 6 2 4 4 false (grid 560200 180000) 2 (needs 2 0 0) [] 2546) ∷ [];
  vehicles =
      (vehicle A1 2 2 Ambulance (grid 531000 180000) Available 5000 None 0 3)
      ∷ (vehicle A2 2 2 Support (grid 530000 180000) Available 2000 None 0 3)
      ∷ (vehicle A3 1 1 Ambulance (grid 530120 180160) Mobilised 5000 None 1 7) ∷ [];
  turns = (turn A3 1 1 1 Ambulance 4000 (Some 4030) None None None None false) ∷ [];
  assignments = (assignment A3 1 1 1 (grid 530100 180100) 2) ∷ [];
  points = (point 1 2 (grid 530200 180000) 0) ∷ [];
  loans = [];
  offers = [];
  reports =
      (report A1 1 button.Mobile 0 (grid 530000 180000) 1764 2 Wrong Available false)
      ∷ (report A1 2 button.Return 0 (grid 530200 180000) 4337 2 Wrong Available false)
      ∷ (report A1 3 button.Scene 0 (grid 530201 180000) 4939 2 Wrong Available false)
      ∷ (report A2 1 button.Leave 0 (grid 530120 180160) 980 2 Wrong Available false)
      ∷ (report A2 2 button.Home 0 (grid 530000 180000) 1643 2 Normal Available false)
      ∷ (report A2 3 button.Mobile 0 (grid 530100 180100) 3519 2 Wrong Available false)
      ∷ (report A3 2 button.Scene 0 (grid 530100 180100) 1644 1 Wrong Available false)
      ∷ (report A3 4 button.Hospital 0 (grid 530100 180000) 2546 1 Wrong Available false)
      ∷ (report A3 5 button.Return 0 (grid 530000 180000) 3188 1 Wrong Available false)
      ∷ (report A3 6 button.Mobile 1 (grid 530120 180160) 4030 1 Normal Mobilised false)
      ∷ (report A3 7 button.Mobile 1 (grid 530120 180160) 4758 1 Normal Mobilised false) ∷ [];
}

queue_of_3_and_4_2 : Steps (at 4060 (Desk 1) ask.Queue) before_queue_of_3_and_4_2
    (Ok (answer.Queue ((entry rank.LateForScene 2847 1 (Some A3)) ∷ (entry rank.OutOfTurn 1644 2 (Some A3))
    ∷ (entry rank.OutOfTurn 2546 4 (Some A3)) ∷ (entry rank.OutOfTurn 3188 5 (Some A3)) ∷ [])))
    before_queue_of_3_and_4_2
unfolding machine
queue_of_3_and_4_2 = (refl, refl)

abbrev before_queue_of_3_and_4_and_5_and_6 : Room
before_queue_of_3_and_4_and_5_and_6 = record {
  plan = two_divisions;
  divisions = (division 1 1) ∷ (division 2 0) ∷ [];
  incidents = (incident 1 1 (grid 530100 180000) 2 (needs 1 0 1) 1363 (Some 1575) Active) ∷ [];
  calls =
      (call 1 4 1 1 1 false (grid 530100 180000) 3 (needs 1 0 0) [] 1363)
      ∷ (call 2 6 1 1 1 true (grid 530100 180000) 2 (needs 0 0 1) (codes "x") 2263) ∷ [];
  vehicles =
      (vehicle A1 1 1 Ambulance (grid 530200 180000) Available 3425 (Some 1) 0 0)
      ∷ (vehicle A2 1 1 Ambulance (grid 530200 180000) Available 7593 None 0 2)
      ∷ (vehicle A3 2 1 Ambulance (grid 531000 180000) Available 42056 None 0 1)
      ∷ (vehicle B1 1 1 Support (grid 530300 180400) Available 3599 None 0 0)
      ∷ (vehicle B2 1 1 Ambulance (grid 530100 180000) Mobilised 5000 None 1 4) ∷ [];
  turns = (turn B2 1 1 1 Ambulance 1575 (Some 2036) None None None None false) ∷ [];
  assignments = (assignment B2 1 1 1 (grid 530100 180000) 2) ∷ [];
  points = (point 1 1 (grid 530201 180000) 0) ∷ [];
  loans = (loan A3 2 1 3779 2464 false) ∷ [];
  offers = [];
  reports =
      (report A2 1 button.Position 0 (grid 530300 180400) 1544 1 Wrong OffDuty false)
      ∷ (report A2 2 button.Position 0 (grid 530200 180000) 2156 1 Wrong OffDuty false)
      ∷ (report A3 1 button.Hospital 0 (grid 531000 180000) 3111 2 Wrong Offered false)
      ∷ (report B2 1 button.Hospital 0 (grid 530201 180000) 1544 1 Wrong Available false)
      ∷ (report B2 2 button.Mobile 1 (grid 530100 180000) 2036 1 Normal Mobilised false)
      ∷ (report B2 4 button.Scene 0 (grid 530100 180000) 3412 1 Stale Mobilised false) ∷ [];
}

queue_of_3_and_4_and_5_and_6 : Steps
    (at 3600 (Desk 1) ask.Queue) before_queue_of_3_and_4_and_5_and_6
    (Ok (answer.Queue ((entry rank.LateForScene 1363 1 (Some B2)) ∷ (entry rank.OutOfTurn 1544 1 (Some A2))
    ∷ (entry rank.OutOfTurn 1544 1 (Some B2)) ∷ (entry rank.OutOfTurn 2156 2 (Some A2))
    ∷ (entry rank.OutOfTurn 3412 4 (Some B2))
    ∷ (entry rank.Overdue 2464 2 (Some A3)) ∷ (entry rank.ShiftOver 3425 0 (Some A1))
    ∷ (entry rank.ShiftOver 3599 0 (Some B1))
    ∷ []))) before_queue_of_3_and_4_and_5_and_6
unfolding machine
queue_of_3_and_4_and_5_and_6 = (refl, refl)

abbrev before_queue_of_3_and_4_and_5_and_7 : Room
before_queue_of_3_and_4_and_5_and_7 = record {
  plan = two_divisions;
  divisions = (division 1 1) ∷ (division 2 1) ∷ [];
  incidents =
      (incident 1 1 (grid 530300 180400) 1 (needs 1 0 0) 3219 None Active)
      ∷ (incident 2 1 (grid 560000 180000) 2 (needs 2 1 1) 1187 (Some 4097) Active) ∷ [];
  calls =
      (call 1 3 1 1 1 false (grid 530300 180400) 1 (needs 1 0 0) [] 3219)
      ∷ (call 2 5 2 1 1 false (grid 560000 180000) 2 (needs 2 1 1) [] 1187) ∷ [];
  vehicles =
      (vehicle A1 2 2 Car (grid 531000 180000) Mobilised 5000 None 1 1)
      ∷ (vehicle A2 2 1 Ambulance (grid 530201 180000) Available 40000 None 0 3) ∷ [];
  turns = (turn A1 1 2 1 Car 4097 None None None None None false) ∷ [];
  assignments = (assignment A1 2 1 1 (grid 560000 180000) 2) ∷ [];
  points = (point 2 1 (grid 530100 180100) 2) ∷ (point 2 2 (grid 530200 180000) 1) ∷ [];
  loans = (loan A2 2 1 4031 1373 false) ∷ [];
  offers = [];
  reports =
      (report A1 1 button.Leave 0 (grid 531000 180000) 1439 2 Wrong Available false)
      ∷ (report A2 1 button.Return 0 (grid 531000 180000) 1192 2 Wrong Available false)
      ∷ (report A2 2 button.Scene 0 (grid 530200 180000) 4001 2 Wrong Offered false)
      ∷ (report A2 3 button.Scene 0 (grid 530200 180000) 4092 1 Wrong Available false) ∷ [];
}

queue_of_3_and_4_and_5_and_7 : Steps
    (at 4077 (Desk 2) ask.Queue) before_queue_of_3_and_4_and_5_and_7
    (Ok (answer.Queue ((entry rank.LateForScene 1187 1 (Some A1)) ∷ (entry rank.OutOfTurn 1192 1 (Some A2))
    ∷ (entry rank.OutOfTurn 1439 1 (Some A1)) ∷ (entry rank.OutOfTurn 4001 2 (Some A2))
    ∷ (entry rank.Overdue 1373 1 (Some A2))
    ∷ (entry rank.Uncovered 0 1 None) ∷ (entry rank.Uncovered 0 2 None) ∷ []))) before_queue_of_3_and_4_and_5_and_7
unfolding machine
queue_of_3_and_4_and_5_and_7 = (refl, refl)

abbrev before_queue_of_3_and_4_and_6 : Room
before_queue_of_3_and_4_and_6 = record {
  plan = overlapping_divisions;
  divisions = (division 1 1) ∷ (division 7 0) ∷ [];
  incidents = (incident 1 1 (grid 530200 180000) 2 (needs 2 0 1) 1451 (Some 1643) Active) ∷ [];
  calls =
      (call 1 5 1 1 1 true (grid 530100 180100) 2 (needs 0 0 1) [] 2291)
      ∷ (call 1 6 1 1 1 false (grid 530200 180000) 2 (needs 2 0 0) [] 1451) ∷ [];
  vehicles =
      (vehicle A1 1 1 Support (grid 531000 180000) Available 1151 None 0 1)
      ∷ (vehicle A2 1 1 Ambulance (grid 530200 180000) OffDuty 0 None 0 0)
      ∷ (vehicle A3 1 1 Ambulance (grid 530000 180000) Mobilised 40000 None 1 1)
      ∷ (vehicle B1 1 1 Ambulance (grid 530120 180160) Available 2000 None 0 1) ∷ [];
  turns = (turn A3 1 1 1 Ambulance 1643 (Some 1825) None None None None false) ∷ [];
  assignments = (assignment A3 1 1 1 (grid 530200 180000) 2) ∷ [];
  points = [];
  loans = [];
  offers = [];
  reports =
      (report A1 1 button.Return 0 (grid 531000 180000) 1523 1 Wrong Available true)
      ∷ (report A3 1 button.Mobile 1 (grid 530000 180000) 1825 1 Normal Mobilised false)
      ∷ (report B1 1 button.Scene 0 (grid 530120 180160) 1522 1 Wrong Available false) ∷ [];
}

queue_of_3_and_4_and_6 : Steps (at 2767 (Desk 1) ask.Queue) before_queue_of_3_and_4_and_6
    (Ok (answer.Queue ((entry rank.LateForScene 1451 1 (Some A3)) ∷ (entry rank.OutOfTurn 1522 1 (Some B1))
    ∷ (entry rank.ShiftOver 1151 0 (Some A1)) ∷ (entry rank.ShiftOver 2000 0 (Some B1)) ∷ [])))
    before_queue_of_3_and_4_and_6
unfolding machine
queue_of_3_and_4_and_6 = (refl, refl)

abbrev before_queue_of_3_and_4_and_6_and_7 : Room
before_queue_of_3_and_4_and_6_and_7 = record {
  plan = two_divisions;
  divisions = (division 1 3) ∷ (division 2 0) ∷ [];
  incidents =
      (incident 1 1 (grid 530100 180000) 2 (needs 1 1 0) 1041 (Some 1209) Active)
      ∷ (incident 1 2 (grid 530201 180000) 2 (needs 1 1 0) 2468 None Active)
      ∷ (incident 1 3 (grid 530300 180400) 2 (needs 2 1 1) 3073 None Active) ∷ [];
  calls =
      (call 1 2 1 1 1 true (grid 530120 180160) 2 (needs 1 0 0) [] 1222)
      ∷ (call 1 5 1 1 1 false (grid 530100 180000) 2 (needs 1 0 0) [] 1041)
      ∷ (call 2 1 1 1 1 true (grid 530000 180000) 2 (needs 0 1 0) [] 1882)
      ∷ (call 2 5 1 2 2 false (grid 530201 180000) 2 (needs 1 1 0) (codes "x") 2468)
      ∷ (call 2 6 1 3 3 false (grid 530300 180400) 2 (needs 2 1 1) (codes "x") 3073) ∷ [];
  vehicles =
      (vehicle A1 1 1 Ambulance (grid 560000 180000) OffDuty 0 None 0 6)
      ∷ (vehicle A2 1 1 Ambulance (grid 530000 180000) Mobilised 2000 None 1 5) ∷ [];
  turns = (turn A2 1 1 1 Ambulance 1209 (Some 2433) None None None None false) ∷ [];
  assignments = (assignment A2 1 1 1 (grid 530100 180000) 2) ∷ [];
  points = (point 1 1 (grid 530100 180000) 2) ∷ [];
  loans = [];
  offers = [];
  reports =
      (report A1 1 button.Position 0 (grid 531000 180000) 1102 1 Wrong OffDuty true)
      ∷ (report A1 2 button.Leave 0 (grid 530201 180000) 1149 1 Wrong OffDuty true)
      ∷ (report A1 3 button.Scene 0 (grid 530120 180160) 2618 1 Wrong OffDuty false)
      ∷ (report A1 5 button.Mobile 0 (grid 530300 180400) 3053 1 Wrong OffDuty false)
      ∷ (report A1 6 button.Position 0 (grid 530000 180000) 3173 1 Wrong OffDuty false)
      ∷ (report A2 1 button.Scene 0 (grid 530200 180000) 2297 1 Stale Mobilised false)
      ∷ (report A2 2 button.Mobile 1 (grid 530300 180400) 2433 1 Normal Mobilised false)
      ∷ (report A2 4 button.Mobile 1 (grid 530100 180000) 2648 1 Normal Mobilised false)
      ∷ (report A2 5 button.Position 1 (grid 530000 180000) 2709 1 Normal Mobilised false) ∷ [];
}

queue_of_3_and_4_and_6_and_7 : Steps
    (at 2001 (Desk 1) ask.Queue) before_queue_of_3_and_4_and_6_and_7
    (Ok (answer.Queue ((entry rank.LateForScene 1041 1 (Some A2)) ∷ (entry rank.OutOfTurn 2297 1 (Some A2))
    ∷ (entry rank.OutOfTurn 2618 3 (Some A1)) ∷ (entry rank.OutOfTurn 3053 5 (Some A1))
    ∷ (entry rank.OutOfTurn 3173 6 (Some A1))
    ∷ (entry rank.ShiftOver 2000 0 (Some A2)) ∷ (entry rank.Uncovered 0 1 None) ∷ [])))
    before_queue_of_3_and_4_and_6_and_7
unfolding machine
queue_of_3_and_4_and_6_and_7 = (refl, refl)

abbrev before_queue_of_3_and_4_and_6_and_8 : Room
before_queue_of_3_and_4_and_6_and_8 = record {
  plan = two_divisions;
  divisions = (division 1 1) ∷ (division 2 6) ∷ [];
  incidents =
      (incident 1 1 (grid 530000 180000) 1 (needs 2 1 0) 1211 (Some 1211) Active)
      ∷ (incident 2 4 (grid 560200 180000) 3 (needs 0 0 1) 1031 None Active)
      ∷ (incident 2 5 (grid 560000 180000) 2 (needs 0 0 1) 2113 None Active)
      ∷ (incident 2 6 (grid 560100 180000) 2 (needs 0 0 1) 4817 None Active) ∷ [];
  calls =
      (call 1 2 2 5 5 false (grid 560000 180000) 2 (needs 0 0 1) [] 2113)
      ∷ (call 1 3 1 1 1 false (grid 530000 180000) 2 (needs 1 1 0) (codes "x") 1932)
      ∷ (call 1 5 1 1 1 true (grid 530100 180000) 2 (needs 2 0 0) [] 2112)
      ∷ (call 2 1 2 4 4 false (grid 560200 180000) 3 (needs 0 0 1) [] 1031)
      ∷ (call 2 3 2 6 6 false (grid 560100 180000) 2 (needs 0 0 1) [] 4817)
      ∷ (call 2 5 1 1 1 true (grid 530100 180100) 1 (needs 2 0 0) [] 1211)
      ∷ (call 2 6 1 1 1 true (grid 530200 180000) 1 (needs 0 1 0) [] 1211) ∷ [];
  vehicles =
      (vehicle A1 1 1 Ambulance (grid 531000 180000) Available 2865 None 0 0)
      ∷ (vehicle A2 1 1 Ambulance (grid 530100 180000) Mobilised 5000 None 1 1)
      ∷ (vehicle A3 1 1 Car (grid 530100 180100) Available 5000 None 0 4)
      ∷ (vehicle B1 1 1 Car (grid 530300 180400) Offered 40000 None 0 3)
      ∷ (vehicle B2 2 2 Ambulance (grid 530000 180000) Available 40000 None 2147483647 3) ∷ [];
  turns = (turn A2 1 1 1 Ambulance 1211 (Some 3449) None None None None false) ∷ [];
  assignments = (assignment A2 1 1 1 (grid 530000 180000) 2) ∷ [];
  points = (point 2 1 (grid 530300 180400) 1) ∷ (point 2 2 (grid 530120 180160) 2) ∷ [];
  loans = [];
  offers = (offer B1 1 2 2245 2345) ∷ [];
  reports =
      (report A2 1 button.Mobile 1 (grid 530100 180000) 3449 1 Normal Mobilised false)
      ∷ (report A3 2 button.Mobile 0 (grid 530000 180000) 1036 1 Wrong Available false)
      ∷ (report A3 4 button.Position 0 (grid 530100 180100) 2666 1 Normal Available false)
      ∷ (report B1 1 button.Scene 0 (grid 530300 180400) 1734 1 Wrong Available false)
      ∷ (report B1 2 button.Mobile 0 (grid 530000 180000) 4516 1 Wrong Offered false)
      ∷ (report B1 3 button.Mobile 0 (grid 530300 180400) 5601 1 Wrong Offered false)
      ∷ (report B2 1 button.Position 2147483647 (grid 530000 180000) 1698 2 Normal Available false)
      ∷ (report B2 3 button.Return 2147483647 (grid 530200 180000) 1703 2 Wrong Available true) ∷ [];
}

queue_of_3_and_4_and_6_and_8 : Steps
    (at 5631 (Desk 1) ask.Queue) before_queue_of_3_and_4_and_6_and_8
    (Ok (answer.Queue ((entry rank.LateForScene 1211 1 (Some A2)) ∷ (entry rank.OutOfTurn 1036 2 (Some A3))
    ∷ (entry rank.OutOfTurn 1734 1 (Some B1)) ∷ (entry rank.OutOfTurn 4516 2 (Some B1))
    ∷ (entry rank.OutOfTurn 5601 3 (Some B1))
    ∷ (entry rank.ShiftOver 2865 0 (Some A1)) ∷ (entry rank.ShiftOver 5000 0 (Some A2))
    ∷ (entry rank.ShiftOver 5000 0 (Some A3))
    ∷ (entry rank.Unanswered 2245 2 (Some B1)) ∷ []))) before_queue_of_3_and_4_and_6_and_8
unfolding machine
queue_of_3_and_4_and_6_and_8 = (refl, refl)

abbrev before_queue_of_3_and_4_and_7 : Room
before_queue_of_3_and_4_and_7 = record {
  plan = overlapping_divisions;
  divisions = (division 1 5) ∷ (division 7 0) ∷ [];
  incidents =
      (incident 1 4 (grid 530201 180000) 1 (needs 1 0 0) 1491 (Some 2032) (Merged 5))
      ∷ (incident 1 5 (grid 530200 180000) 1 (needs 1 0 0) 1491 (Some 2032) Active) ∷ [];
  calls =
      (call 1 1 1 5 5 false (grid 530200 180000) 2 (needs 1 0 0) [] 3325)
      ∷ (call 1 3 1 5 4 false (grid 530201 180000) 1 (needs 1 0 0) (codes "x") 1491) ∷ [];
  vehicles =
      (vehicle A1 7 7 Ambulance (grid 530100 180100) Available 40000 None 0 1)
      ∷ (vehicle A2 7 7 Car (grid 530000 180000) Available 41010 None 0 2)
      ∷ (vehicle A3 1 1 Ambulance (grid 530200 180000) Mobilised 5000 None 2 5) ∷ [];
  turns =
      (turn A3 1 1 4 Ambulance 2032 None None None None (Some 3786) false)
      ∷ (turn A3 2 1 5 Ambulance 3967 (Some 3997) None None None None false) ∷ [];
  assignments = (assignment A3 1 5 2 (grid 530200 180000) 2) ∷ [];
  points = (point 1 1 (grid 530300 180400) 0) ∷ (point 1 2 (grid 530100 180000) 2) ∷ [];
  loans = [];
  offers = [];
  reports =
      (report A1 1 button.Return 0 (grid 530120 180160) 2002 7 Wrong Available false)
      ∷ (report A2 2 button.Hospital 0 (grid 531000 180000) 3295 7 Wrong Available false)
      ∷ (report A3 2 button.Mobile 0 (grid 530100 180000) 1491 1 Wrong Available false)
      ∷ (report A3 3 button.Return 1 (grid 530200 180000) 3786 1 Skipped Returning false)
      ∷ (report A3 5 button.Mobile 2 (grid 530200 180000) 3997 1 Normal Mobilised false) ∷ [];
}

queue_of_3_and_4_and_7 : Steps (at 3997 (Desk 1) ask.Queue) before_queue_of_3_and_4_and_7
    (Ok (answer.Queue ((entry rank.LateForScene 1491 5 (Some A3)) ∷ (entry rank.OutOfTurn 1491 2 (Some A3))
    ∷ (entry rank.OutOfTurn 3786 3 (Some A3)) ∷ (entry rank.Uncovered 0 2 None) ∷ []))) before_queue_of_3_and_4_and_7
unfolding machine
queue_of_3_and_4_and_7 = (refl, refl)

abbrev before_queue_of_3_and_7 : Room
before_queue_of_3_and_7 = record {
  plan = two_divisions;
  divisions = (division 1 2147483647) ∷ (division 2 2147483647) ∷ [];
  incidents = (incident 2 2147483647 (grid 560000 180000) 2 (needs 1 0 0) 2177 (Some 2480) Active) ∷ [];
  calls = (call 1 3 2 2147483647 2147483647 false (grid 560000 180000) 2 (needs 1 0 0) [] 2177) ∷ [];
  vehicles =
      (vehicle A1 2 2 Ambulance (grid 531000 180000) Mobilised 5000 None 1 1)
      ∷ (vehicle A2 1 1 Ambulance (grid 560100 180000) OffDuty 0 None 0 0)
      ∷ (vehicle A3 1 1 Support (grid 530300 180400) Available 40000 None 0 1)
      ∷ (vehicle B1 2 2 Ambulance (grid 530100 180100) Available 40000 None 0 0) ∷ [];
  turns = (turn A1 1 2 2147483647 Ambulance 2480 (Some 2600) None None None None false) ∷ [];
  assignments = (assignment A1 2 2147483647 1 (grid 560000 180000) 2) ∷ [];
  points = (point 2 1 (grid 530300 180400) 2) ∷ [];
  loans = [];
  offers = [];
  reports =
      (report A1 1 button.Mobile 1 (grid 531000 180000) 2600 2 Normal Mobilised false)
      ∷ (report A3 1 button.Mobile 0 (grid 530000 180000) 1483 1 Wrong Available true) ∷ [];
}

queue_of_3_and_7 : Steps (at 3081 (Desk 2) ask.Queue) before_queue_of_3_and_7
    (Ok (answer.Queue ((entry rank.LateForScene 2177 2147483647 (Some A1)) ∷ (entry rank.Uncovered 0 1 None) ∷ [])))
    before_queue_of_3_and_7
unfolding machine
queue_of_3_and_7 = (refl, refl)

abbrev before_queue_of_3_and_8 : Room
before_queue_of_3_and_8 = record {
  plan = two_divisions;
  divisions = (division 1 1) ∷ (division 2 0) ∷ [];
  incidents = (incident 1 1 (grid 530201 180000) 1 (needs 2 1 1) 1005 (Some 1615) Active) ∷ [];
  calls =
      (call 1 1 1 1 1 false (grid 530201 180000) 2 (needs 2 1 1) (codes "x") 1005)
      ∷ (call 1 4 1 1 1 true (grid 530201 180000) 1 (needs 0 0 1) [] 1845) ∷ [];
  vehicles =
      (vehicle A1 1 1 Ambulance (grid 530300 180400) Mobilised 5000 None 1 1)
      ∷ (vehicle A2 2 2 Ambulance (grid 530100 180000) Available 5000 None 0 1)
      ∷ (vehicle A3 1 1 Ambulance (grid 530000 180000) Available 41801 None 0 0)
      ∷ (vehicle B1 2 2 Support (grid 560100 180000) Available 5000 None 0 2)
      ∷ (vehicle B2 1 1 Ambulance (grid 560200 180000) Offered 2000 None 0 0) ∷ [];
  turns = (turn A1 1 1 1 Ambulance 1615 (Some 1796) None None None None false) ∷ [];
  assignments = (assignment A1 1 1 1 (grid 530201 180000) 2) ∷ [];
  points = [];
  loans = [];
  offers = (offer B2 1 2 1010 2010) ∷ [];
  reports =
      (report A1 1 button.Mobile 1 (grid 530300 180400) 1796 1 Normal Mobilised false)
      ∷ (report A2 1 button.Mobile 0 (grid 530000 180000) 1012 2 Wrong Available false)
      ∷ (report B1 2 button.Hospital 0 (grid 530120 180160) 1011 2 Wrong Available false) ∷ [];
}

queue_of_3_and_8 : Steps (at 1676 (Desk 1) ask.Queue) before_queue_of_3_and_8
    (Ok (answer.Queue ((entry rank.LateForScene 1005 1 (Some A1)) ∷ (entry rank.Unanswered 1010 2 (Some B2)) ∷ [])))
    before_queue_of_3_and_8
unfolding machine
queue_of_3_and_8 = (refl, refl)

abbrev before_queue_of_4 : Room
before_queue_of_4 = record {
  plan = two_divisions;
  divisions = (division 1 0) ∷ (division 2 0) ∷ [];
  incidents = [];
  calls = [];
  vehicles =
      (vehicle A1 1 1 Ambulance (grid 560100 180000) OffDuty 0 None 0 1)
      ∷ (vehicle A2 1 1 Ambulance (grid 530100 180000) OffDuty 5000 None 0 0)
      ∷ (vehicle A3 1 2 Ambulance (grid 530100 180100) Available 40000 None 0 0) ∷ [];
  turns = [];
  assignments = [];
  points = [];
  loans = (loan A3 1 2 1042 40099 false) ∷ [];
  offers = [];
  reports = (report A1 1 button.Return 0 (grid 530100 180100) 40099 1 Wrong OffDuty false) ∷ [];
}

queue_of_4 : Steps (at 40099 (Desk 1) ask.Queue) before_queue_of_4
    (Ok (answer.Queue ((entry rank.OutOfTurn 40099 1 (Some A1)) ∷ []))) before_queue_of_4
unfolding machine
queue_of_4 = (refl, refl)

abbrev before_queue_of_4_2 : Room
before_queue_of_4_2 = record {
  plan = overlapping_divisions;
  divisions = (division 1 0) ∷ (division 7 0) ∷ [];
  incidents = [];
  calls = [];
  vehicles =
      (vehicle A1 1 1 Support (grid 530300 180400) OffDuty 0 None 2147483647 0)
      ∷ (vehicle A2 1 1 Car (grid 530000 180000) Available 2000 None 0 0)
      ∷ (vehicle A3 7 7 Support (grid 530100 180000) Available 5000 (Some 1) 0 0)
      ∷ (vehicle B1 7 7 Ambulance (grid 560000 180000) Offered 2000 None 0 2) ∷ [];
  turns = [];
  assignments = [];
  points = (point 7 1 (grid 530300 180400) 0) ∷ [];
  loans = [];
  offers = (offer B1 7 1 1150 2150) ∷ [];
  reports = (report B1 2 button.Mobile 0 (grid 530000 180000) 1361 7 Wrong Offered false) ∷ [];
}

queue_of_4_2 : Steps (at 1450 (Desk 7) ask.Queue) before_queue_of_4_2
    (Ok (answer.Queue ((entry rank.OutOfTurn 1361 2 (Some B1)) ∷ []))) before_queue_of_4_2
unfolding machine
queue_of_4_2 = (refl, refl)

abbrev before_queue_of_4_3 : Room
before_queue_of_4_3 = record {
  plan = overlapping_divisions;
  divisions = (division 1 2) ∷ (division 7 0) ∷ [];
  incidents =
      (incident 1 1 (grid 531000 180000) 2 (needs 0 1 0) 1005 (Some 1612) Active)
      ∷ (incident 1 2 (grid 530100 180100) 2 (needs 0 1 0) 2098 None Active) ∷ [];
  calls =
      (call 1 5 1 2 2 false (grid 530100 180100) 2 (needs 0 1 0) [] 2098)
      ∷ (call 2 6 1 1 1 false (grid 531000 180000) 2 (needs 0 1 0) [] 1005) ∷ [];
  vehicles =
      (vehicle A1 1 1 Car (grid 531000 180000) Mobilised 2000 None 1 0)
      ∷ (vehicle A2 1 1 Ambulance (grid 560000 180000) Available 2000 None 0 0)
      ∷ (vehicle A3 1 1 Ambulance (grid 530120 180160) Available 2000 None 0 1) ∷ [];
  turns = (turn A1 1 1 1 Car 1612 None None None None None false) ∷ [];
  assignments = (assignment A1 1 1 1 (grid 531000 180000) 2) ∷ [];
  points = (point 7 1 (grid 530100 180000) 2) ∷ [];
  loans = [];
  offers = [];
  reports = (report A3 1 button.Mobile 0 (grid 530100 180100) 2093 1 Wrong Available false) ∷ [];
}

queue_of_4_3 : Steps (at 1672 (Desk 1) ask.Queue) before_queue_of_4_3
    (Ok (answer.Queue ((entry rank.OutOfTurn 2093 1 (Some A3)) ∷ []))) before_queue_of_4_3
unfolding machine
queue_of_4_3 = (refl, refl)

abbrev before_queue_of_4_4 : Room
before_queue_of_4_4 = record {
  plan = two_divisions;
  divisions = (division 1 1) ∷ (division 2 0) ∷ [];
  incidents = (incident 1 1 (grid 531000 180000) 2 (needs 1 0 0) 1738 (Some 2548) Active) ∷ [];
  calls = (call 2 5 1 1 1 false (grid 531000 180000) 2 (needs 1 0 0) [] 1738) ∷ [];
  vehicles =
      (vehicle A1 1 1 Support (grid 530200 180000) Available 5725 None 0 2)
      ∷ (vehicle A2 1 1 Ambulance (grid 560100 180000) Mobilised 40000 None 1 1)
      ∷ (vehicle A3 1 1 Car (grid 531000 180000) Available 5000 None 0 3)
      ∷ (vehicle B1 2 2 Ambulance (grid 530100 180100) OffDuty 5486 None 0 2) ∷ [];
  turns = (turn A2 1 1 1 Ambulance 2548 None None None None None false) ∷ [];
  assignments = (assignment A2 1 1 1 (grid 531000 180000) 2) ∷ [];
  points = [];
  loans = [];
  offers = [];
  reports =
      (report A1 2 button.Return 0 (grid 530100 180100) 1738 1 Wrong OffDuty false)
      ∷ (report A2 1 button.Return 0 (grid 530120 180160) 1758 1 Wrong Available false)
      ∷ (report A3 1 button.Leave 0 (grid 531000 180000) 1547 1 Wrong Available false)
      ∷ (report A3 3 button.Mobile 0 (grid 530300 180400) 1719 1 Wrong Available false)
      ∷ (report B1 2 button.Position 0 (grid 530100 180100) 1577 2 Normal Available false) ∷ [];
}

queue_of_4_4 : Steps (at 2578 (Desk 1) ask.Queue) before_queue_of_4_4
    (Ok (answer.Queue ((entry rank.OutOfTurn 1547 1 (Some A3)) ∷ (entry rank.OutOfTurn 1719 3 (Some A3))
    ∷ (entry rank.OutOfTurn 1738 2 (Some A1)) ∷ (entry rank.OutOfTurn 1758 1 (Some A2)) ∷ []))) before_queue_of_4_4
unfolding machine
queue_of_4_4 = (refl, refl)

abbrev before_queue_of_4_5 : Room
before_queue_of_4_5 = record {
  plan = two_divisions;
  divisions = (division 1 2147483647) ∷ (division 2 2147483647) ∷ [];
  incidents = (incident 2 2147483647 (grid 560000 180000) 1 (needs 1 0 0) 1240 (Some 1426) Active) ∷ [];
  calls = (call 2 2 2 2147483647 2147483647 false (grid 560000 180000) 1 (needs 1 0 0) [] 1240) ∷ [];
  vehicles =
      (vehicle A1 2 2 Support (grid 530120 180160) Available 5000 None 0 1)
      ∷ (vehicle A2 2 2 Ambulance (grid 560200 180000) Available 40000 None 0 1)
      ∷ (vehicle A3 2 2 Ambulance (grid 530100 180100) Returning 5000 None 1 5)
      ∷ (vehicle B1 2 2 Ambulance (grid 531000 180000) Available 40000 None 0 1) ∷ [];
  turns = (turn A3 1 2 2147483647 Ambulance 1426 None None (Some 1762) None (Some 2439) false) ∷ [];
  assignments = [];
  points = [];
  loans = [];
  offers = [];
  reports =
      (report A1 1 button.Leave 0 (grid 531000 180000) 2981 2 Wrong Available false)
      ∷ (report A2 1 button.Scene 0 (grid 530000 180000) 1727 2 Wrong Available false)
      ∷ (report A3 1 button.Scene 0 (grid 530201 180000) 1120 2 Wrong Available true)
      ∷ (report A3 2 button.Leave 1 (grid 531000 180000) 1762 2 Skipped Leaving false)
      ∷ (report A3 3 button.Position 1 (grid 530201 180000) 1808 2 Normal Leaving false)
      ∷ (report A3 5 button.Return 1 (grid 530100 180100) 2439 2 Skipped Returning false)
      ∷ (report B1 1 button.Leave 0 (grid 530100 180000) 2500 2 Wrong Available false) ∷ [];
}

queue_of_4_5 : Steps (at 4999 (Desk 2) ask.Queue) before_queue_of_4_5
    (Ok (answer.Queue ((entry rank.OutOfTurn 1727 1 (Some A2)) ∷ (entry rank.OutOfTurn 1762 2 (Some A3))
    ∷ (entry rank.OutOfTurn 2439 5 (Some A3)) ∷ (entry rank.OutOfTurn 2500 1 (Some B1))
    ∷ (entry rank.OutOfTurn 2981 1 (Some A1))
    ∷ []))) before_queue_of_4_5
unfolding machine
queue_of_4_5 = (refl, refl)

abbrev before_queue_of_4_6 : Room
before_queue_of_4_6 = record {
  plan = two_divisions;
  divisions = (division 1 2) ∷ (division 2 0) ∷ [];
  incidents =
      (incident 1 1 (grid 530000 180000) 1 (needs 1 0 0) 1186 (Some 1667) Active)
      ∷ (incident 1 2 (grid 530300 180400) 2 (needs 2 1 1) 1367 None Closed) ∷ [];
  calls =
      (call 1 2 1 1 1 false (grid 530000 180000) 2 (needs 1 1 0) (codes "x") 1186)
      ∷ (call 1 4 1 2 2 false (grid 530300 180400) 2 (needs 2 1 1) [] 1367)
      ∷ (call 1 5 1 1 1 true (grid 530120 180160) 3 (needs 1 0 0) (codes "x") 1306)
      ∷ (call 2 2 1 1 1 true (grid 530000 180000) 1 (needs 0 1 0) [] 1769) ∷ [];
  vehicles =
      (vehicle A1 1 1 Ambulance (grid 530100 180000) Available 5607 None 1 3)
      ∷ (vehicle A2 2 2 Ambulance (grid 530200 180000) Available 3558 None 0 3)
      ∷ (vehicle A3 1 1 Ambulance (grid 530200 180000) Available 8023 None 0 1) ∷ [];
  turns = (turn A1 1 1 1 Ambulance 1667 None (Some 4003) None None (Some 4069) false) ∷ [];
  assignments = [];
  points = (point 2 2 (grid 530200 180000) 0) ∷ [];
  loans = [];
  offers = [];
  reports =
      (report A1 1 button.Home 0 (grid 530120 180160) 2353 1 Normal Available false)
      ∷ (report A1 2 button.Scene 1 (grid 530100 180000) 4003 1 Skipped AtScene false)
      ∷ (report A1 3 button.Home 0 (grid 530100 180000) 4069 1 Skipped Available false)
      ∷ (report A2 1 button.Home 0 (grid 530200 180000) 1005 2 Normal Available false)
      ∷ (report A2 3 button.Leave 0 (grid 530200 180000) 2846 2 Wrong OffDuty true)
      ∷ (report A3 1 button.Leave 0 (grid 530100 180000) 4008 1 Wrong Available false) ∷ [];
}

queue_of_4_6 : Steps (at 4049 (Desk 1) ask.Queue) before_queue_of_4_6
    (Ok (answer.Queue ((entry rank.OutOfTurn 4003 2 (Some A1)) ∷ (entry rank.OutOfTurn 4008 1 (Some A3))
    ∷ (entry rank.OutOfTurn 4069 3 (Some A1)) ∷ []))) before_queue_of_4_6
unfolding machine
queue_of_4_6 = (refl, refl)

abbrev before_queue_of_4_7 : Room
before_queue_of_4_7 = record {
  plan = two_divisions;
  divisions = (division 1 1) ∷ (division 2 0) ∷ [];
  incidents = (incident 1 1 (grid 530100 180000) 2 (needs 1 0 1) 1363 (Some 1575) Active) ∷ [];
  calls =
      (call 1 4 1 1 1 false (grid 530100 180000) 3 (needs 1 0 0) [] 1363)
      ∷ (call 2 6 1 1 1 true (grid 530100 180000) 2 (needs 0 0 1) (codes "x") 2263) ∷ [];
  vehicles =
      (vehicle A1 1 1 Ambulance (grid 530200 180000) Available 3425 (Some 1) 0 0)
      ∷ (vehicle A2 1 1 Ambulance (grid 530100 180000) Available 7593 None 0 3)
      ∷ (vehicle A3 2 1 Ambulance (grid 531000 180000) Available 42056 None 0 1)
      ∷ (vehicle B1 1 1 Support (grid 530300 180400) Available 3599 None 0 1)
      ∷ (vehicle B2 1 1 Ambulance (grid 530100 180000) Mobilised 5000 None 1 4) ∷ [];
  turns = (turn B2 1 1 1 Ambulance 1575 (Some 2036) None None None None false) ∷ [];
  assignments = (assignment B2 1 1 1 (grid 530100 180000) 2) ∷ [];
  points = (point 1 1 (grid 530201 180000) 0) ∷ [];
  loans = (loan A3 2 1 3779 2464 false) ∷ [];
  offers = [];
  reports =
      (report A2 1 button.Position 0 (grid 530300 180400) 1544 1 Wrong OffDuty false)
      ∷ (report A2 2 button.Position 0 (grid 530200 180000) 2156 1 Wrong OffDuty false)
      ∷ (report A2 3 button.Home 0 (grid 530100 180000) 2464 1 Normal Available false)
      ∷ (report A3 1 button.Hospital 0 (grid 531000 180000) 3111 2 Wrong Offered false)
      ∷ (report B1 1 button.Leave 0 (grid 530100 180100) 4275 1 Wrong Available false)
      ∷ (report B2 1 button.Hospital 0 (grid 530201 180000) 1544 1 Wrong Available false)
      ∷ (report B2 2 button.Mobile 1 (grid 530100 180000) 2036 1 Normal Mobilised false)
      ∷ (report B2 4 button.Scene 0 (grid 530100 180000) 3412 1 Stale Mobilised false) ∷ [];
}

queue_of_4_7 : Steps (at 2203 (Desk 1) ask.Queue) before_queue_of_4_7
    (Ok (answer.Queue ((entry rank.OutOfTurn 1544 1 (Some A2)) ∷ (entry rank.OutOfTurn 1544 1 (Some B2))
    ∷ (entry rank.OutOfTurn 2156 2 (Some A2)) ∷ (entry rank.OutOfTurn 3412 4 (Some B2))
    ∷ (entry rank.OutOfTurn 4275 1 (Some B1))
    ∷ []))) before_queue_of_4_7
unfolding machine
queue_of_4_7 = (refl, refl)

abbrev before_queue_of_4_and_5 : Room
before_queue_of_4_and_5 = record {
  plan = two_divisions;
  divisions = (division 1 4) ∷ (division 2 0) ∷ [];
  incidents = (incident 1 4 (grid 531000 180000) 2 (needs 2 0 0) 2025 (Some 2061) Active) ∷ [];
  calls = (call 1 2 1 4 4 false (grid 531000 180000) 2 (needs 2 0 0) [] 2025) ∷ [];
  vehicles =
      (vehicle A1 2 2 Ambulance (grid 531000 180000) Available 40000 None 0 0)
      ∷ (vehicle A2 1 1 Ambulance (grid 531000 180000) OffDuty 0 None 0 2)
      ∷ (vehicle A3 2 1 Ambulance (grid 530100 180100) Mobilised 40000 None 1 1) ∷ [];
  turns = (turn A3 1 1 4 Ambulance 2061 (Some 2403) None None None None false) ∷ [];
  assignments = (assignment A3 1 4 1 (grid 531000 180000) 2) ∷ [];
  points = [];
  loans = (loan A3 2 1 40000 1943 true) ∷ [];
  offers = [];
  reports =
      (report A2 2 button.Return 0 (grid 530200 180000) 1481 1 Wrong OffDuty false)
      ∷ (report A3 1 button.Mobile 1 (grid 530100 180100) 2403 1 Normal Mobilised false) ∷ [];
}

queue_of_4_and_5 : Steps (at 2403 (Desk 1) ask.Queue) before_queue_of_4_and_5
    (Ok (answer.Queue ((entry rank.OutOfTurn 1481 2 (Some A2)) ∷ (entry rank.Overdue 1943 2 (Some A3)) ∷ [])))
    before_queue_of_4_and_5
unfolding machine
queue_of_4_and_5 = (refl, refl)

abbrev before_queue_of_4_and_5_and_6 : Room
before_queue_of_4_and_5_and_6 = record {
  plan = two_divisions;
  divisions = (division 1 2147483647) ∷ (division 2 2147483647) ∷ [];
  incidents = (incident 1 2147483647 (grid 531000 180000) 2 (needs 1 1 0) 1100 None Active) ∷ [];
  calls =
      (call 1 3 1 2147483647 2147483647 false (grid 531000 180000) 2 (needs 1 0 0) [] 1100)
      ∷ (call 1 4 1 2147483647 2147483647 true (grid 531000 180000) 3 (needs 1 1 0) [] 2000) ∷ [];
  vehicles =
      (vehicle A1 1 1 Car (grid 530300 180400) OffDuty 0 None 0 0)
      ∷ (vehicle A2 1 2 Support (grid 530201 180000) Available 2000 None 0 1)
      ∷ (vehicle A3 1 1 Ambulance (grid 560200 180000) OffDuty 0 None 0 0)
      ∷ (vehicle B1 1 1 Ambulance (grid 531000 180000) Available 2000 None 0 1)
      ∷ (vehicle B2 2 2 Ambulance (grid 530100 180000) Available 40000 None 0 0) ∷ [];
  turns = [];
  assignments = [];
  points = [];
  loans = (loan A2 1 2 1130 1999 false) ∷ [];
  offers = [];
  reports =
      (report A2 1 button.Leave 0 (grid 530200 180000) 1301 2 Wrong Available false)
      ∷ (report B1 1 button.Home 0 (grid 531000 180000) 1120 1 Normal Available false) ∷ [];
}

queue_of_4_and_5_and_6 : Steps (at 2000 (Desk 2) ask.Queue) before_queue_of_4_and_5_and_6
    (Ok (answer.Queue ((entry rank.OutOfTurn 1301 1 (Some A2)) ∷ (entry rank.Overdue 1999 1 (Some A2))
    ∷ (entry rank.ShiftOver 2000 0 (Some A2)) ∷ []))) before_queue_of_4_and_5_and_6
unfolding machine
queue_of_4_and_5_and_6 = (refl, refl)

abbrev before_queue_of_4_and_5_and_6_and_7 : Room
before_queue_of_4_and_5_and_6_and_7 = record {
  plan = two_divisions;
  divisions = (division 1 0) ∷ (division 2 0) ∷ [];
  incidents = [];
  calls = [];
  vehicles =
      (vehicle A1 1 1 Ambulance (grid 531000 180000) Available 2000 None 0 0)
      ∷ (vehicle A2 1 1 Ambulance (grid 530000 180000) OffDuty 0 None 0 0)
      ∷ (vehicle A3 1 1 Ambulance (grid 530000 180000) Available 2000 None 0 1)
      ∷ (vehicle B1 1 2 Ambulance (grid 530100 180000) OffDuty 5000 None 2147483647 0) ∷ [];
  turns = [];
  assignments = [];
  points = (point 1 2 (grid 530100 180000) 1) ∷ [];
  loans = (loan B1 1 2 1992 1581 false) ∷ [];
  offers = [];
  reports = (report A3 1 button.Leave 0 (grid 530200 180000) 1962 1 Wrong Available false) ∷ [];
}

queue_of_4_and_5_and_6_and_7 : Steps
    (at 2655 (Desk 1) ask.Queue) before_queue_of_4_and_5_and_6_and_7
    (Ok (answer.Queue ((entry rank.OutOfTurn 1962 1 (Some A3)) ∷ (entry rank.Overdue 1581 2 (Some B1))
    ∷ (entry rank.ShiftOver 2000 0 (Some A1)) ∷ (entry rank.ShiftOver 2000 0 (Some A3))
    ∷ (entry rank.Uncovered 0 2 None) ∷ [])))
    before_queue_of_4_and_5_and_6_and_7
unfolding machine
queue_of_4_and_5_and_6_and_7 = (refl, refl)

abbrev before_queue_of_4_and_5_and_6_and_7_and_8 : Room
before_queue_of_4_and_5_and_6_and_7_and_8 = record {
  plan = two_divisions;
  divisions = (division 1 0) ∷ (division 2 1) ∷ [];
  incidents = (incident 2 1 (grid 560200 180000) 1 (needs 2 1 1) 980 None Active) ∷ [];
  calls = (call 1 6 2 1 1 false (grid 560200 180000) 1 (needs 2 1 1) [] 980) ∷ [];
  vehicles =
      (vehicle A1 2 2 Ambulance (grid 531000 180000) Offered 2000 None 0 1)
      ∷ (vehicle A2 1 1 Car (grid 530100 180100) Available 962 None 0 1)
      ∷ (vehicle A3 1 1 Ambulance (grid 530200 180000) Available 5000 None 0 0)
      ∷ (vehicle B1 1 1 Ambulance (grid 530000 180000) Available 2000 None 0 1)
      ∷ (vehicle B2 2 1 Car (grid 530201 180000) Available 40000 None 0 2) ∷ [];
  turns = [];
  assignments = [];
  points = (point 1 2 (grid 530000 180000) 2) ∷ [];
  loans = (loan B2 2 1 1121 1396 false) ∷ [];
  offers = (offer A1 2 1 966 1966) ∷ [];
  reports =
      (report A1 1 button.Hospital 0 (grid 530100 180100) 981 2 Wrong Available false)
      ∷ (report A2 1 button.Home 0 (grid 530100 180100) 961 1 Normal Available false)
      ∷ (report B1 1 button.Mobile 0 (grid 530000 180000) 1001 1 Wrong Available false)
      ∷ (report B2 1 button.Leave 0 (grid 531000 180000) 1101 1 Wrong Available false)
      ∷ (report B2 2 button.Position 0 (grid 530201 180000) 1192 1 Normal Available false) ∷ [];
}

queue_of_4_and_5_and_6_and_7_and_8 : Steps
    (at 1999 (Desk 1) ask.Queue) before_queue_of_4_and_5_and_6_and_7_and_8
    (Ok (answer.Queue ((entry rank.OutOfTurn 1001 1 (Some B1)) ∷ (entry rank.OutOfTurn 1101 1 (Some B2))
    ∷ (entry rank.Overdue 1396 2 (Some B2)) ∷ (entry rank.ShiftOver 962 0 (Some A2)) ∷ (entry rank.Uncovered 0 2 None)
    ∷ (entry rank.Unanswered 966 2 (Some A1)) ∷ []))) before_queue_of_4_and_5_and_6_and_7_and_8
unfolding machine
queue_of_4_and_5_and_6_and_7_and_8 = (refl, refl)

abbrev before_queue_of_4_and_5_and_6_and_8 : Room
before_queue_of_4_and_5_and_6_and_8 = record {
  plan = two_divisions;
  divisions = (division 1 3) ∷ (division 2 0) ∷ [];
  incidents = [];
  calls = [];
  vehicles =
      (vehicle A1 2 1 Ambulance (grid 530100 180100) Available 40000 None 0 1)
      ∷ (vehicle A2 2 2 Car (grid 560200 180000) Available 2000 None 2147483647 1)
      ∷ (vehicle A3 1 1 Ambulance (grid 530100 180000) Offered 40000 None 2147483647 0) ∷ [];
  turns = [];
  assignments = [];
  points = [];
  loans = (loan A1 2 1 40000 1903 false) ∷ [];
  offers = (offer A3 1 2 39999 39999) ∷ [];
  reports =
      (report A1 1 button.Scene 0 (grid 530100 180100) 2270 2 Wrong Offered false)
      ∷ (report A2 1 button.Scene 2147483647 (grid 530100 180000) 2265 2 Wrong Available false) ∷ [];
}

queue_of_4_and_5_and_6_and_8 : Steps
    (at 40300 (Desk 2) ask.Queue) before_queue_of_4_and_5_and_6_and_8
    (Ok (answer.Queue ((entry rank.OutOfTurn 2265 1 (Some A2)) ∷ (entry rank.OutOfTurn 2270 1 (Some A1))
    ∷ (entry rank.Overdue 1903 1 (Some A1)) ∷ (entry rank.ShiftOver 2000 0 (Some A2))
    ∷ (entry rank.Unanswered 39999 1 (Some A3))
    ∷ []))) before_queue_of_4_and_5_and_6_and_8
unfolding machine
queue_of_4_and_5_and_6_and_8 = (refl, refl)

abbrev before_queue_of_4_and_5_and_7 : Room
before_queue_of_4_and_5_and_7 = record {
  plan = two_divisions;
  divisions = (division 1 0) ∷ (division 2 0) ∷ [];
  incidents = [];
  calls = [];
  vehicles =
      (vehicle A1 1 1 Ambulance (grid 530120 180160) Available 5913 None 0 2)
      ∷ (vehicle A2 1 1 Car (grid 530000 180000) Available 42394 None 0 0)
      ∷ (vehicle A3 2 2 Ambulance (grid 530120 180160) OffDuty 0 None 0 0)
      ∷ (vehicle B1 2 1 Car (grid 560200 180000) Available 5000 None 0 0) ∷ [];
  turns = [];
  assignments = [];
  points = (point 1 2 (grid 530201 180000) 1) ∷ [];
  loans = (loan B1 2 1 3151 2331 false) ∷ [];
  offers = [];
  reports =
      (report A1 1 button.Hospital 0 (grid 530000 180000) 1451 1 Wrong OffDuty false)
      ∷ (report A1 2 button.Home 0 (grid 530120 180160) 2700 1 Normal Available false) ∷ [];
}

queue_of_4_and_5_and_7 : Steps (at 3151 (Desk 1) ask.Queue) before_queue_of_4_and_5_and_7
    (Ok (answer.Queue
    ((entry rank.OutOfTurn 1451 1 (Some A1)) ∷ (entry rank.Overdue 2331 2 (Some B1)) ∷ (entry rank.Uncovered 0 2 None)
    ∷ []))) before_queue_of_4_and_5_and_7
unfolding machine
queue_of_4_and_5_and_7 = (refl, refl)

abbrev before_queue_of_4_and_5_and_7_and_8 : Room
before_queue_of_4_and_5_and_7_and_8 = record {
  plan = two_divisions;
  divisions = (division 1 2147483647) ∷ (division 2 2147483647) ∷ [];
  incidents = [];
  calls = [];
  vehicles =
      (vehicle A1 1 1 Support (grid 560200 180000) Offered 40000 None 0 1)
      ∷ (vehicle A2 1 2 Support (grid 530300 180400) Available 2000 None 0 6)
      ∷ (vehicle A3 2 2 Ambulance (grid 530000 180000) Offered 5000 None 0 3) ∷ [];
  turns = [];
  assignments = [];
  points =
      (point 1 2 (grid 530201 180000) 1) ∷ (point 2 1 (grid 530100 180100) 0) ∷ (point 2 2 (grid 530200 180000) 0)
      ∷ [];
  loans = (loan A2 1 2 4897 1952 false) ∷ [];
  offers = (offer A1 1 2 2033 2433) ∷ (offer A3 2 1 2043 3043) ∷ [];
  reports =
      (report A1 1 button.Scene 0 (grid 530000 180000) 2806 1 Wrong Offered true)
      ∷ (report A2 1 button.Scene 0 (grid 530120 180160) 1066 1 Wrong Available false)
      ∷ (report A2 2 button.Leave 0 (grid 530200 180000) 2063 1 Wrong Offered true)
      ∷ (report A2 3 button.Mobile 0 (grid 530120 180160) 4471 1 Wrong Offered false)
      ∷ (report A2 4 button.Position 0 (grid 530300 180400) 4476 1 Normal Offered false)
      ∷ (report A2 6 button.Leave 0 (grid 530100 180000) 4877 2 Wrong Available false)
      ∷ (report A3 1 button.Position 0 (grid 530201 180000) 2063 2 Normal Available false)
      ∷ (report A3 2 button.Position 0 (grid 530000 180000) 2315 2 Normal Offered false)
      ∷ (report A3 3 button.Mobile 0 (grid 530201 180000) 2836 2 Wrong Offered true) ∷ [];
}

queue_of_4_and_5_and_7_and_8 : Steps
    (at 5319 (Desk 1) ask.Queue) before_queue_of_4_and_5_and_7_and_8
    (Ok (answer.Queue ((entry rank.OutOfTurn 1066 1 (Some A2)) ∷ (entry rank.OutOfTurn 4471 3 (Some A2))
    ∷ (entry rank.Overdue 1952 2 (Some A2)) ∷ (entry rank.Uncovered 0 2 None) ∷ (entry rank.Unanswered 2033 2 (Some A1))
    ∷ (entry rank.Unanswered 2043 2 (Some A3)) ∷ []))) before_queue_of_4_and_5_and_7_and_8
unfolding machine
queue_of_4_and_5_and_7_and_8 = (refl, refl)

abbrev before_queue_of_4_and_5_and_8 : Room
before_queue_of_4_and_5_and_8 = record {
  plan = two_divisions;
  divisions = (division 1 0) ∷ (division 2 0) ∷ [];
  incidents = [];
  calls = [];
  vehicles =
      (vehicle A1 1 1 Ambulance (grid 530120 180160) Offered 2000 None 0 0)
      ∷ (vehicle A2 2 2 Ambulance (grid 530100 180000) Available 5000 None 0 0)
      ∷ (vehicle A3 1 2 Ambulance (grid 560200 180000) Available 40000 None 0 1)
      ∷ (vehicle B1 2 2 Ambulance (grid 531000 180000) OffDuty 0 None 0 0)
      ∷ (vehicle B2 2 2 Ambulance (grid 530100 180000) OffDuty 0 None 0 1) ∷ [];
  turns = [];
  assignments = [];
  points = (point 2 2 (grid 530300 180400) 0) ∷ [];
  loans = (loan A3 1 2 2023 2000 false) ∷ [];
  offers = (offer A1 1 2 1381 1381) ∷ [];
  reports =
      (report A3 1 button.Leave 0 (grid 530000 180000) 1842 1 Wrong Offered false)
      ∷ (report B2 1 button.Leave 0 (grid 530300 180400) 1361 2 Wrong OffDuty false) ∷ [];
}

queue_of_4_and_5_and_8 : Steps (at 2324 (Desk 2) ask.Queue) before_queue_of_4_and_5_and_8
    (Ok (answer.Queue ((entry rank.OutOfTurn 1361 1 (Some B2)) ∷ (entry rank.Overdue 2000 1 (Some A3))
    ∷ (entry rank.Unanswered 1381 1 (Some A1)) ∷ []))) before_queue_of_4_and_5_and_8
unfolding machine
queue_of_4_and_5_and_8 = (refl, refl)

abbrev before_queue_of_4_and_6 : Room
before_queue_of_4_and_6 = record {
  plan = overlapping_divisions;
  divisions = (division 1 0) ∷ (division 7 3) ∷ [];
  incidents = [];
  calls = [];
  vehicles =
      (vehicle A1 1 1 Support (grid 560100 180000) OffDuty 0 None 0 1)
      ∷ (vehicle A2 1 1 Ambulance (grid 560000 180000) Available 2000 None 0 0) ∷ [];
  turns = [];
  assignments = [];
  points = (point 1 1 (grid 530200 180000) 0) ∷ [];
  loans = [];
  offers = [];
  reports = (report A1 1 button.Position 0 (grid 530201 180000) 1005 1 Wrong OffDuty false) ∷ [];
}

queue_of_4_and_6 : Steps (at 2000 (Desk 1) ask.Queue) before_queue_of_4_and_6
    (Ok (answer.Queue ((entry rank.OutOfTurn 1005 1 (Some A1)) ∷ (entry rank.ShiftOver 2000 0 (Some A2)) ∷ [])))
    before_queue_of_4_and_6
unfolding machine
queue_of_4_and_6 = (refl, refl)

abbrev before_queue_of_4_and_6_and_7 : Room
before_queue_of_4_and_6_and_7 = record {
  plan = two_divisions;
  divisions = (division 1 3) ∷ (division 2 0) ∷ [];
  incidents = [];
  calls = [];
  vehicles =
      (vehicle A1 2 2 Car (grid 530100 180000) Available 40000 None 0 4)
      ∷ (vehicle A2 2 2 Ambulance (grid 530120 180160) Available 5000 (Some 2) 2147483647 5) ∷ [];
  turns = [];
  assignments = [];
  points = (point 2 1 (grid 530100 180100) 1) ∷ (point 2 2 (grid 530200 180000) 1) ∷ [];
  loans = [];
  offers = [];
  reports =
      (report A1 2 button.Position 0 (grid 530100 180000) 2448 2 Normal Available false)
      ∷ (report A1 4 button.Leave 0 (grid 530000 180000) 3350 2 Wrong Available false)
      ∷ (report A2 2 button.Hospital 2147483647 (grid 530200 180000) 3390 2 Wrong Available false)
      ∷ (report A2 3 button.Mobile 2147483647 (grid 530120 180160) 3832 2 Wrong Available false)
      ∷ (report A2 5 button.Return 2147483647 (grid 530201 180000) 3998 2 Wrong Available false) ∷ [];
}

queue_of_4_and_6_and_7 : Steps (at 39999 (Desk 2) ask.Queue) before_queue_of_4_and_6_and_7
    (Ok (answer.Queue ((entry rank.OutOfTurn 3350 4 (Some A1)) ∷ (entry rank.OutOfTurn 3390 2 (Some A2))
    ∷ (entry rank.OutOfTurn 3832 3 (Some A2)) ∷ (entry rank.OutOfTurn 3998 5 (Some A2))
    ∷ (entry rank.ShiftOver 5000 0 (Some A2))
    ∷ (entry rank.Uncovered 0 1 None) ∷ (entry rank.Uncovered 0 2 None) ∷ []))) before_queue_of_4_and_6_and_7
unfolding machine
queue_of_4_and_6_and_7 = (refl, refl)

abbrev before_queue_of_4_and_6_and_7_and_8 : Room
before_queue_of_4_and_6_and_7_and_8 = record {
  plan = two_divisions;
  divisions = (division 1 0) ∷ (division 2 3) ∷ [];
  incidents = [];
  calls = [];
  vehicles =
      (vehicle A1 1 1 Car (grid 530200 180000) Offered 5000 None 0 2)
      ∷ (vehicle A2 2 2 Ambulance (grid 530201 180000) Offered 40000 None 0 1)
      ∷ (vehicle A3 1 1 Car (grid 560100 180000) OffDuty 40000 None 0 2) ∷ [];
  turns = [];
  assignments = [];
  points = (point 1 1 (grid 530120 180160) 1) ∷ [];
  loans = [];
  offers = (offer A1 1 2 1944 1944) ∷ (offer A2 2 1 1843 2243) ∷ [];
  reports =
      (report A1 1 button.Scene 0 (grid 530300 180400) 2125 1 Late Offered false)
      ∷ (report A1 2 button.Hospital 0 (grid 530120 180160) 1934 1 Wrong Available false)
      ∷ (report A2 1 button.Return 0 (grid 530201 180000) 1813 2 Wrong Available false)
      ∷ (report A3 2 button.Hospital 0 (grid 530201 180000) 1331 1 Wrong Available false) ∷ [];
}

queue_of_4_and_6_and_7_and_8 : Steps
    (at 39999 (Desk 1) ask.Queue) before_queue_of_4_and_6_and_7_and_8
    (Ok (answer.Queue ((entry rank.OutOfTurn 1331 2 (Some A3)) ∷ (entry rank.OutOfTurn 1934 2 (Some A1))
    ∷ (entry rank.OutOfTurn 2125 1 (Some A1)) ∷ (entry rank.ShiftOver 5000 0 (Some A1))
    ∷ (entry rank.Uncovered 0 1 None)
    ∷ (entry rank.Unanswered 1843 2 (Some A2)) ∷ (entry rank.Unanswered 1944 2 (Some A1)) ∷ [])))
    before_queue_of_4_and_6_and_7_and_8
unfolding machine
queue_of_4_and_6_and_7_and_8 = (refl, refl)

abbrev before_queue_of_4_and_6_and_8 : Room
before_queue_of_4_and_6_and_8 = record {
  plan = overlapping_divisions;
  divisions = (division 1 0) ∷ (division 7 0) ∷ [];
  incidents = [];
  calls = [];
  vehicles =
      (vehicle A1 7 7 Ambulance (grid 531000 180000) Available 5000 None 0 0)
      ∷ (vehicle A2 1 1 Ambulance (grid 530120 180160) Offered 5000 None 0 0)
      ∷ (vehicle A3 7 7 Support (grid 530000 180000) Available 2000 (Some 1) 0 1) ∷ [];
  turns = [];
  assignments = [];
  points = (point 7 1 (grid 530100 180100) 0) ∷ [];
  loans = [];
  offers = (offer A2 1 7 2000 2100) ∷ [];
  reports = (report A3 1 button.Hospital 0 (grid 530100 180100) 1302 7 Wrong Available false) ∷ [];
}

queue_of_4_and_6_and_8 : Steps (at 5000 (Desk 7) ask.Queue) before_queue_of_4_and_6_and_8
    (Ok (answer.Queue ((entry rank.OutOfTurn 1302 1 (Some A3)) ∷ (entry rank.ShiftOver 2000 0 (Some A3))
    ∷ (entry rank.ShiftOver 5000 0 (Some A1)) ∷ (entry rank.Unanswered 2000 1 (Some A2)) ∷ [])))
    before_queue_of_4_and_6_and_8
unfolding machine
queue_of_4_and_6_and_8 = (refl, refl)

abbrev before_queue_of_4_and_6_and_8_2 : Room
before_queue_of_4_and_6_and_8_2 = record {
  plan = two_divisions;
  divisions = (division 1 4) ∷ (division 2 1) ∷ [];
  incidents =
      (incident 1 4 (grid 530201 180000) 2 (needs 1 0 0) 1855 None Active)
      ∷ (incident 2 1 (grid 560100 180000) 3 (needs 2 1 1) 1000 (Some 1372) Active) ∷ [];
  calls =
      (call 1 5 2 1 1 false (grid 560100 180000) 3 (needs 2 1 1) [] 1000)
      ∷ (call 2 1 1 4 4 false (grid 530201 180000) 2 (needs 1 0 0) (codes "x") 1855) ∷ [];
  vehicles =
      (vehicle A1 1 1 Support (grid 560200 180000) Available 40000 None 0 0)
      ∷ (vehicle A2 1 1 Ambulance (grid 530000 180000) Available 2361 None 0 0)
      ∷ (vehicle A3 2 2 Car (grid 530100 180000) Available 40000 None 2147483647 1)
      ∷ (vehicle B1 2 2 Car (grid 530120 180160) Offered 5000 None 1 3) ∷ [];
  turns = (turn B1 1 2 1 Car 1372 None None None (Some 1860) (Some 1861) false) ∷ [];
  assignments = [];
  points = (point 1 2 (grid 531000 180000) 0) ∷ [];
  loans = [];
  offers = (offer B1 2 1 1981 1981) ∷ [];
  reports =
      (report A3 1 button.Hospital 2147483647 (grid 530120 180160) 1030 2 Wrong Available false)
      ∷ (report B1 1 button.Hospital 1 (grid 530120 180160) 1860 2 Skipped AtHospital false)
      ∷ (report B1 3 button.Return 1 (grid 530120 180160) 1861 2 Normal Returning false) ∷ [];
}

queue_of_4_and_6_and_8_2 : Steps (at 40001 (Desk 2) ask.Queue) before_queue_of_4_and_6_and_8_2
    (Ok (answer.Queue ((entry rank.OutOfTurn 1030 1 (Some A3)) ∷ (entry rank.OutOfTurn 1860 1 (Some B1))
    ∷ (entry rank.ShiftOver 5000 0 (Some B1)) ∷ (entry rank.ShiftOver 40000 0 (Some A3))
    ∷ (entry rank.Unanswered 1981 1 (Some B1))
    ∷ []))) before_queue_of_4_and_6_and_8_2
unfolding machine
queue_of_4_and_6_and_8_2 = (refl, refl)

abbrev before_queue_of_4_and_7 : Room
before_queue_of_4_and_7 = record {
  plan = overlapping_divisions;
  divisions = (division 1 1) ∷ (division 7 0) ∷ [];
  incidents = (incident 1 1 (grid 530200 180000) 1 (needs 2 1 1) 1821 (Some 2722) Active) ∷ [];
  calls =
      (call 1 2 1 1 1 true (grid 530200 180000) 3 (needs 0 1 0) [] 2528)
      ∷ (call 2 3 1 1 1 false (grid 530200 180000) 1 (needs 2 1 1) (codes "x") 1821) ∷ [];
  vehicles =
      (vehicle A1 7 7 Support (grid 530200 180000) Available 2000 None 0 2)
      ∷ (vehicle A2 1 1 Support (grid 530300 180400) Mobilised 5000 None 1 1)
      ∷ (vehicle A3 7 7 Car (grid 530000 180000) Available 5457 None 0 1)
      ∷ (vehicle B1 7 7 Car (grid 530201 180000) Available 5000 None 0 0) ∷ [];
  turns = (turn A2 1 1 1 Support 2722 None None None None None false) ∷ [];
  assignments = (assignment A2 1 1 1 (grid 530200 180000) 1) ∷ [];
  points = (point 1 2 (grid 530300 180400) 1) ∷ [];
  loans = [];
  offers = [];
  reports =
      (report A1 2 button.Mobile 0 (grid 530200 180000) 1001 7 Wrong Available false)
      ∷ (report A2 1 button.Mobile 0 (grid 530200 180000) 2523 1 Stale Mobilised false)
      ∷ (report A3 1 button.Scene 0 (grid 530100 180100) 1758 7 Wrong Available false) ∷ [];
}

queue_of_4_and_7 : Steps (at 2301 (Desk 1) ask.Queue) before_queue_of_4_and_7
    (Ok (answer.Queue ((entry rank.OutOfTurn 2523 1 (Some A2)) ∷ (entry rank.Uncovered 0 2 None) ∷ [])))
    before_queue_of_4_and_7
unfolding machine
queue_of_4_and_7 = (refl, refl)

abbrev before_queue_of_4_and_7_2 : Room
before_queue_of_4_and_7_2 = record {
  plan = two_divisions;
  divisions = (division 1 2) ∷ (division 2 1) ∷ [];
  incidents =
      (incident 1 1 (grid 530201 180000) 1 (needs 1 0 0) 1676 None Active)
      ∷ (incident 1 2 (grid 531000 180000) 1 (needs 2 0 0) 2370 None Closed)
      ∷ (incident 2 1 (grid 560100 180000) 2 (needs 1 0 0) 2577 (Some 3276) Active) ∷ [];
  calls =
      (call 1 1 2 1 1 false (grid 560100 180000) 2 (needs 1 0 0) (codes "x") 2577)
      ∷ (call 1 4 1 2 2 false (grid 531000 180000) 1 (needs 2 0 0) [] 2370)
      ∷ (call 2 6 1 1 1 false (grid 530201 180000) 1 (needs 1 0 0) [] 1676) ∷ [];
  vehicles =
      (vehicle A1 2 2 Support (grid 530300 180400) OffDuty 0 None 0 3)
      ∷ (vehicle A2 1 1 Car (grid 530000 180000) Available 40000 None 0 2)
      ∷ (vehicle A3 1 1 Support (grid 530000 180000) Available 2000 None 0 0)
      ∷ (vehicle B1 2 2 Ambulance (grid 530201 180000) OffDuty 0 None 0 4)
      ∷ (vehicle B2 2 2 Ambulance (grid 530300 180400) Mobilised 40000 None 1 0) ∷ [];
  turns = (turn B2 1 2 1 Ambulance 3276 None None None None None false) ∷ [];
  assignments = (assignment B2 2 1 1 (grid 560100 180000) 2) ∷ [];
  points = (point 2 1 (grid 530200 180000) 1) ∷ [];
  loans = [];
  offers = [];
  reports =
      (report A1 2 button.Scene 0 (grid 530120 180160) 1121 2 Wrong OffDuty false)
      ∷ (report A1 3 button.Position 0 (grid 530200 180000) 1151 2 Wrong OffDuty false)
      ∷ (report A2 2 button.Scene 0 (grid 530120 180160) 1493 1 Wrong Available false)
      ∷ (report B1 1 button.Home 0 (grid 530100 180000) 1001 2 Wrong OffDuty false)
      ∷ (report B1 2 button.Hospital 0 (grid 530300 180400) 1332 2 Wrong OffDuty false)
      ∷ (report B1 4 button.Scene 0 (grid 530300 180400) 2852 2 Wrong OffDuty false) ∷ [];
}

queue_of_4_and_7_2 : Steps (at 3336 (Desk 2) ask.Queue) before_queue_of_4_and_7_2
    (Ok (answer.Queue ((entry rank.OutOfTurn 1001 1 (Some B1)) ∷ (entry rank.OutOfTurn 1121 2 (Some A1))
    ∷ (entry rank.OutOfTurn 1151 3 (Some A1)) ∷ (entry rank.OutOfTurn 1332 2 (Some B1))
    ∷ (entry rank.OutOfTurn 2852 4 (Some B1))
    ∷ (entry rank.Uncovered 0 1 None) ∷ []))) before_queue_of_4_and_7_2
unfolding machine
queue_of_4_and_7_2 = (refl, refl)

abbrev before_queue_of_4_and_7_and_8 : Room
before_queue_of_4_and_7_and_8 = record {
  plan = two_divisions;
  divisions = (division 1 2147483646) ∷ (division 2 2147483647) ∷ [];
  incidents = [];
  calls = [];
  vehicles =
      (vehicle A1 1 1 Support (grid 530100 180100) Offered 40000 None 0 4)
      ∷ (vehicle A2 1 1 Ambulance (grid 530200 180000) Available 2000 None 0 1) ∷ [];
  turns = [];
  assignments = [];
  points = (point 1 2 (grid 530100 180000) 1) ∷ [];
  loans = [];
  offers = (offer A1 1 2 1093 1493) ∷ [];
  reports =
      (report A1 2 button.Leave 0 (grid 530300 180400) 1002 1 Wrong Available false)
      ∷ (report A1 4 button.Scene 0 (grid 530201 180000) 1154 1 Wrong Offered false)
      ∷ (report A2 1 button.Leave 0 (grid 530100 180000) 1184 1 Wrong Available false) ∷ [];
}

queue_of_4_and_7_and_8 : Steps (at 1999 (Desk 1) ask.Queue) before_queue_of_4_and_7_and_8
    (Ok (answer.Queue ((entry rank.OutOfTurn 1002 2 (Some A1)) ∷ (entry rank.OutOfTurn 1154 4 (Some A1))
    ∷ (entry rank.OutOfTurn 1184 1 (Some A2)) ∷ (entry rank.Uncovered 0 2 None)
    ∷ (entry rank.Unanswered 1093 2 (Some A1)) ∷ [])))
    before_queue_of_4_and_7_and_8
unfolding machine
queue_of_4_and_7_and_8 = (refl, refl)

abbrev before_queue_of_4_and_8 : Room
before_queue_of_4_and_8 = record {
  plan = two_divisions;
  divisions = (division 1 1) ∷ (division 2 0) ∷ [];
  incidents = (incident 1 1 (grid 531000 180000) 3 (needs 1 0 0) 2109 None Active) ∷ [];
  calls = (call 2 4 1 1 1 false (grid 531000 180000) 3 (needs 1 0 0) [] 2109) ∷ [];
  vehicles =
      (vehicle A1 1 1 Ambulance (grid 560200 180000) Offered 2000 None 0 1)
      ∷ (vehicle A2 2 2 Ambulance (grid 530100 180000) Offered 40000 None 0 0)
      ∷ (vehicle A3 2 2 Support (grid 531000 180000) Available 2000 None 0 1) ∷ [];
  turns = [];
  assignments = [];
  points = (point 1 2 (grid 530201 180000) 0) ∷ [];
  loans = [];
  offers = (offer A1 1 2 1466 1466) ∷ (offer A2 2 1 1446 2446) ∷ [];
  reports =
      (report A1 1 button.Leave 0 (grid 530200 180000) 1928 1 Wrong Offered false)
      ∷ (report A3 1 button.Position 0 (grid 531000 180000) 1927 2 Normal Available false) ∷ [];
}

queue_of_4_and_8 : Steps (at 1766 (Desk 1) ask.Queue) before_queue_of_4_and_8
    (Ok (answer.Queue ((entry rank.OutOfTurn 1928 1 (Some A1)) ∷ (entry rank.Unanswered 1446 2 (Some A2)) ∷ [])))
    before_queue_of_4_and_8
unfolding machine
queue_of_4_and_8 = (refl, refl)

abbrev before_queue_of_5 : Room
before_queue_of_5 = record {
  plan = two_divisions;
  divisions = (division 1 1) ∷ (division 2 3) ∷ [];
  incidents = (incident 1 1 (grid 530120 180160) 2 (needs 0 0 1) 1281 None Active) ∷ [];
  calls = (call 1 1 1 1 1 false (grid 530120 180160) 2 (needs 0 0 1) [] 1281) ∷ [];
  vehicles =
      (vehicle A1 2 2 Ambulance (grid 560100 180000) OffDuty 0 None 0 0)
      ∷ (vehicle A2 1 2 Ambulance (grid 530200 180000) Available 2000 None 0 0)
      ∷ (vehicle A3 1 1 Car (grid 530100 180100) OffDuty 0 None 0 0) ∷ [];
  turns = [];
  assignments = [];
  points = [];
  loans = (loan A2 1 2 1281 980 false) ∷ [];
  offers = [];
  reports = [];
}

queue_of_5 : Steps (at 1461 (Desk 1) ask.Queue) before_queue_of_5
    (Ok (answer.Queue ((entry rank.Overdue 980 2 (Some A2)) ∷ []))) before_queue_of_5
unfolding machine
queue_of_5 = (refl, refl)

abbrev before_queue_of_5_and_6 : Room
before_queue_of_5_and_6 = record {
  plan = two_divisions;
  divisions = (division 1 0) ∷ (division 2 1) ∷ [];
  incidents = (incident 2 1 (grid 560100 180000) 1 (needs 1 0 0) 2675 None Closed) ∷ [];
  calls = (call 2 5 2 1 1 false (grid 560100 180000) 1 (needs 1 0 0) [] 2675) ∷ [];
  vehicles =
      (vehicle A1 1 2 Support (grid 530300 180400) Available 40000 None 0 0)
      ∷ (vehicle A2 1 1 Support (grid 560000 180000) OffDuty 0 None 0 0)
      ∷ (vehicle A3 2 2 Support (grid 530201 180000) Available 40000 None 0 5)
      ∷ (vehicle B1 2 1 Car (grid 530100 180100) Available 5000 None 0 1)
      ∷ (vehicle B2 1 1 Support (grid 560100 180000) Available 2000 None 0 0) ∷ [];
  turns = [];
  assignments = [];
  points = [];
  loans = (loan A1 1 2 2001 39999 false) ∷ (loan B1 2 1 3277 3315 false) ∷ [];
  offers = [];
  reports =
      (report A3 2 button.Home 0 (grid 530201 180000) 1543 2 Normal Available false)
      ∷ (report A3 3 button.Scene 0 (grid 530000 180000) 1765 2 Wrong Available false)
      ∷ (report A3 4 button.Leave 0 (grid 530201 180000) 3316 2 Late Available false)
      ∷ (report A3 5 button.Return 0 (grid 530200 180000) 1946 2 Wrong Available true)
      ∷ (report B1 1 button.Position 0 (grid 530100 180100) 2127 2 Normal Available false) ∷ [];
}

queue_of_5_and_6 : Steps (at 40000 (Desk 1) ask.Queue) before_queue_of_5_and_6
    (Ok (answer.Queue ((entry rank.Overdue 3315 2 (Some B1)) ∷ (entry rank.Overdue 39999 2 (Some A1))
    ∷ (entry rank.ShiftOver 2000 0 (Some B2)) ∷ (entry rank.ShiftOver 5000 0 (Some B1)) ∷ []))) before_queue_of_5_and_6
unfolding machine
queue_of_5_and_6 = (refl, refl)

abbrev before_queue_of_5_and_6_and_7 : Room
before_queue_of_5_and_6_and_7 = record {
  plan = overlapping_divisions;
  divisions = (division 1 3) ∷ (division 7 0) ∷ [];
  incidents = [];
  calls = [];
  vehicles =
      (vehicle A1 7 1 Ambulance (grid 560200 180000) Available 40000 None 0 0)
      ∷ (vehicle A2 7 7 Car (grid 530200 180000) OffDuty 0 None 0 0) ∷ [];
  turns = [];
  assignments = [];
  points = (point 1 1 (grid 530100 180000) 2) ∷ [];
  loans = (loan A1 7 1 1943 1980 false) ∷ [];
  offers = [];
  reports = [];
}

queue_of_5_and_6_and_7 : Steps (at 40001 (Desk 1) ask.Queue) before_queue_of_5_and_6_and_7
    (Ok (answer.Queue ((entry rank.Overdue 1980 7 (Some A1)) ∷ (entry rank.ShiftOver 40000 0 (Some A1))
    ∷ (entry rank.Uncovered 0 1 None) ∷ []))) before_queue_of_5_and_6_and_7
unfolding machine
queue_of_5_and_6_and_7 = (refl, refl)

abbrev before_queue_of_5_and_6_and_7_and_8 : Room
before_queue_of_5_and_6_and_7_and_8 = record {
  plan = overlapping_divisions;
  divisions = (division 1 6) ∷ (division 7 0) ∷ [];
  incidents =
      (incident 1 4 (grid 530100 180000) 3 (needs 1 0 0) 2961 None Active)
      ∷ (incident 1 5 (grid 530200 180000) 2 (needs 2 1 1) 3595 None Active)
      ∷ (incident 1 6 (grid 531000 180000) 3 (needs 1 0 0) 3384 None Active) ∷ [];
  calls =
      (call 1 1 1 6 6 false (grid 531000 180000) 3 (needs 1 0 0) [] 3384)
      ∷ (call 1 2 1 4 4 false (grid 530100 180000) 3 (needs 1 0 0) (codes "x") 2961)
      ∷ (call 2 1 1 5 5 false (grid 530200 180000) 3 (needs 1 0 0) [] 6562)
      ∷ (call 2 5 1 5 5 true (grid 530201 180000) 2 (needs 2 1 1) [] 3595) ∷ [];
  vehicles =
      (vehicle A1 7 7 Ambulance (grid 530300 180400) Offered 40000 None 0 0)
      ∷ (vehicle A2 1 1 Ambulance (grid 530000 180000) Available 2500 None 0 2)
      ∷ (vehicle A3 7 1 Ambulance (grid 560100 180000) Available 40000 None 0 2) ∷ [];
  turns = [];
  assignments = [];
  points = (point 7 1 (grid 530100 180000) 1) ∷ [];
  loans = (loan A3 7 1 40001 39999 true) ∷ [];
  offers = (offer A1 7 1 4497 4597) ∷ [];
  reports =
      (report A2 1 button.Return 0 (grid 530201 180000) 980 1 Wrong OffDuty true)
      ∷ (report A2 2 button.Hospital 0 (grid 530201 180000) 1010 1 Wrong OffDuty true)
      ∷ (report A3 1 button.Hospital 0 (grid 530100 180000) 2499 7 Wrong Available true)
      ∷ (report A3 2 button.Mobile 0 (grid 530000 180000) 4196 1 Wrong Available false) ∷ [];
}

queue_of_5_and_6_and_7_and_8 : Steps
    (at 40000 (Desk 7) ask.Queue) before_queue_of_5_and_6_and_7_and_8
    (Ok (answer.Queue ((entry rank.Overdue 39999 1 (Some A3)) ∷ (entry rank.ShiftOver 40000 0 (Some A1))
    ∷ (entry rank.Uncovered 0 1 None) ∷ (entry rank.Unanswered 4497 1 (Some A1)) ∷ [])))
    before_queue_of_5_and_6_and_7_and_8
unfolding machine
queue_of_5_and_6_and_7_and_8 = (refl, refl)

abbrev before_queue_of_5_and_6_and_8 : Room
before_queue_of_5_and_6_and_8 = record {
  plan = two_divisions;
  divisions = (division 1 3) ∷ (division 2 0) ∷ [];
  incidents = [];
  calls = [];
  vehicles =
      (vehicle A1 2 2 Car (grid 530120 180160) Offered 5000 None 0 1)
      ∷ (vehicle A2 1 1 Ambulance (grid 530200 180000) Available 3203 None 0 2)
      ∷ (vehicle A3 1 2 Ambulance (grid 530201 180000) OffDuty 2000 None 0 1) ∷ [];
  turns = [];
  assignments = [];
  points = (point 2 1 (grid 530000 180000) 1) ∷ (point 2 2 (grid 531000 180000) 1) ∷ [];
  loans = (loan A3 1 2 5000 1080 false) ∷ [];
  offers = (offer A1 2 1 2673 3673) ∷ [];
  reports =
      (report A1 1 button.Position 0 (grid 530120 180160) 2693 2 Normal Available false)
      ∷ (report A2 2 button.Scene 0 (grid 530100 180100) 1286 1 Wrong Available true)
      ∷ (report A3 1 button.Position 0 (grid 530201 180000) 1748 1 Normal Offered false) ∷ [];
}

queue_of_5_and_6_and_8 : Steps (at 3867 (Desk 1) ask.Queue) before_queue_of_5_and_6_and_8
    (Ok (answer.Queue ((entry rank.Overdue 1080 2 (Some A3)) ∷ (entry rank.ShiftOver 3203 0 (Some A2))
    ∷ (entry rank.Unanswered 2673 2 (Some A1)) ∷ []))) before_queue_of_5_and_6_and_8
unfolding machine
queue_of_5_and_6_and_8 = (refl, refl)

abbrev before_queue_of_5_and_7 : Room
before_queue_of_5_and_7 = record {
  plan = two_divisions;
  divisions = (division 1 2147483647) ∷ (division 2 2147483646) ∷ [];
  incidents = [];
  calls = [];
  vehicles =
      (vehicle A1 2 2 Ambulance (grid 530100 180000) OffDuty 0 None 0 1)
      ∷ (vehicle A2 2 1 Support (grid 530300 180400) Available 5000 (Some 2) 0 0)
      ∷ (vehicle A3 2 2 Support (grid 530000 180000) Available 5000 None 0 0) ∷ [];
  turns = [];
  assignments = [];
  points = (point 1 2 (grid 530000 180000) 2) ∷ [];
  loans = (loan A2 2 1 1492 1372 false) ∷ [];
  offers = [];
  reports = (report A1 1 button.Leave 0 (grid 530200 180000) 1005 2 Wrong OffDuty false) ∷ [];
}

queue_of_5_and_7 : Steps (at 1803 (Desk 1) ask.Queue) before_queue_of_5_and_7
    (Ok (answer.Queue ((entry rank.Overdue 1372 2 (Some A2)) ∷ (entry rank.Uncovered 0 2 None) ∷ [])))
    before_queue_of_5_and_7
unfolding machine
queue_of_5_and_7 = (refl, refl)

abbrev before_queue_of_5_and_7_and_8 : Room
before_queue_of_5_and_7_and_8 = record {
  plan = overlapping_divisions;
  divisions = (division 1 1) ∷ (division 7 0) ∷ [];
  incidents = (incident 1 1 (grid 530100 180000) 2 (needs 1 0 0) 2550 None Active) ∷ [];
  calls = (call 1 1 1 1 1 false (grid 530100 180000) 2 (needs 1 0 0) [] 2550) ∷ [];
  vehicles =
      (vehicle A1 1 1 Ambulance (grid 560000 180000) Offered 5000 None 0 4)
      ∷ (vehicle A2 7 1 Ambulance (grid 560100 180000) Available 2000 None 0 4) ∷ [];
  turns = [];
  assignments = [];
  points = (point 7 1 (grid 530201 180000) 2) ∷ [];
  loans = (loan A2 7 1 5000 2122 false) ∷ [];
  offers = (offer A1 1 7 2000 3000) ∷ [];
  reports =
      (report A1 2 button.Leave 0 (grid 530120 180160) 1783 1 Wrong Available false)
      ∷ (report A1 3 button.Mobile 0 (grid 530000 180000) 2264 1 Wrong Available false)
      ∷ (report A1 4 button.Mobile 0 (grid 530100 180100) 2545 1 Wrong Offered false)
      ∷ (report A2 2 button.Scene 0 (grid 530201 180000) 2581 1 Wrong Available false)
      ∷ (report A2 4 button.Mobile 0 (grid 530100 180000) 2122 1 Wrong Available false) ∷ [];
}

queue_of_5_and_7_and_8 : Steps (at 3243 (Desk 7) ask.Queue) before_queue_of_5_and_7_and_8
    (Ok (answer.Queue
    ((entry rank.Overdue 2122 1 (Some A2)) ∷ (entry rank.Uncovered 0 1 None) ∷ (entry rank.Unanswered 2000 1 (Some A1))
    ∷ []))) before_queue_of_5_and_7_and_8
unfolding machine
queue_of_5_and_7_and_8 = (refl, refl)

abbrev before_queue_of_5_and_8 : Room
before_queue_of_5_and_8 = record {
  plan = overlapping_divisions;
  divisions = (division 1 0) ∷ (division 7 0) ∷ [];
  incidents = [];
  calls = [];
  vehicles =
      (vehicle A1 1 1 Ambulance (grid 530300 180400) Offered 2000 None 0 0)
      ∷ (vehicle A2 1 7 Car (grid 530000 180000) Available 2000 None 0 1)
      ∷ (vehicle A3 1 1 Ambulance (grid 530100 180000) Available 41613 None 0 2) ∷ [];
  turns = [];
  assignments = [];
  points = [];
  loans = (loan A2 1 7 1613 1312 false) ∷ [];
  offers = (offer A1 1 7 1613 1613) ∷ [];
  reports =
      (report A2 1 button.Mobile 0 (grid 530201 180000) 1281 1 Wrong Available false)
      ∷ (report A3 1 button.Mobile 0 (grid 531000 180000) 1311 1 Wrong OffDuty false)
      ∷ (report A3 2 button.Hospital 0 (grid 530300 180400) 1372 1 Wrong OffDuty false) ∷ [];
}

queue_of_5_and_8 : Steps (at 1999 (Desk 7) ask.Queue) before_queue_of_5_and_8
    (Ok (answer.Queue ((entry rank.Overdue 1312 1 (Some A2)) ∷ (entry rank.Unanswered 1613 1 (Some A1)) ∷ [])))
    before_queue_of_5_and_8
unfolding machine
queue_of_5_and_8 = (refl, refl)

abbrev before_queue_of_6 : Room
before_queue_of_6 = record {
  plan = two_divisions;
  divisions = (division 1 0) ∷ (division 2 3) ∷ [];
  incidents = [];
  calls = [];
  vehicles =
      (vehicle A1 1 1 Ambulance (grid 530000 180000) OffDuty 0 None 0 0)
      ∷ (vehicle A2 2 2 Car (grid 560200 180000) OffDuty 0 None 0 0)
      ∷ (vehicle A3 2 2 Ambulance (grid 530000 180000) Available 5000 None 0 0) ∷ [];
  turns = [];
  assignments = [];
  points = (point 2 1 (grid 530100 180000) 0) ∷ [];
  loans = [];
  offers = [];
  reports = [];
}

queue_of_6 : Steps (at 5000 (Desk 2) ask.Queue) before_queue_of_6
    (Ok (answer.Queue ((entry rank.ShiftOver 5000 0 (Some A3)) ∷ []))) before_queue_of_6
unfolding machine
queue_of_6 = (refl, refl)

abbrev before_queue_of_6_and_7 : Room
before_queue_of_6_and_7 = record {
  plan = overlapping_divisions;
  divisions = (division 1 3) ∷ (division 7 0) ∷ [];
  incidents = [];
  calls = [];
  vehicles =
      (vehicle A1 7 7 Ambulance (grid 560000 180000) Available 5000 None 0 0)
      ∷ (vehicle A2 1 1 Car (grid 560100 180000) Available 5000 None 0 0) ∷ [];
  turns = [];
  assignments = [];
  points = (point 1 1 (grid 530100 180100) 1) ∷ [];
  loans = [];
  offers = [];
  reports = [];
}

queue_of_6_and_7 : Steps (at 5000 (Desk 1) ask.Queue) before_queue_of_6_and_7
    (Ok (answer.Queue ((entry rank.ShiftOver 5000 0 (Some A2)) ∷ (entry rank.Uncovered 0 1 None) ∷ [])))
    before_queue_of_6_and_7
unfolding machine
queue_of_6_and_7 = (refl, refl)

abbrev before_queue_of_6_and_7_and_8 : Room
before_queue_of_6_and_7_and_8 = record {
  plan = overlapping_divisions;
  divisions = (division 1 3) ∷ (division 7 0) ∷ [];
  incidents = [];
  calls = [];
  vehicles =
      (vehicle A1 7 7 Ambulance (grid 530100 180100) Available 40000 None 0 2)
      ∷ (vehicle A2 1 1 Ambulance (grid 530100 180000) Offered 40000 None 0 0)
      ∷ (vehicle A3 1 1 Ambulance (grid 530100 180000) OffDuty 0 None 2147483647 0) ∷ [];
  turns = [];
  assignments = [];
  points = (point 1 1 (grid 530100 180000) 1) ∷ [];
  loans = [];
  offers = (offer A2 1 7 1284 1284) ∷ [];
  reports =
      (report A1 1 button.Scene 0 (grid 530300 180400) 1122 7 Wrong Available true)
      ∷ (report A1 2 button.Scene 0 (grid 531000 180000) 1626 7 Wrong Available false) ∷ [];
}

queue_of_6_and_7_and_8 : Steps (at 40001 (Desk 1) ask.Queue) before_queue_of_6_and_7_and_8
    (Ok (answer.Queue ((entry rank.ShiftOver 40000 0 (Some A2)) ∷ (entry rank.Uncovered 0 1 None)
    ∷ (entry rank.Unanswered 1284 7 (Some A2)) ∷ []))) before_queue_of_6_and_7_and_8
unfolding machine
queue_of_6_and_7_and_8 = (refl, refl)

abbrev before_queue_of_6_and_8 : Room
before_queue_of_6_and_8 = record {
  plan = two_divisions;
  divisions = (division 1 2147483647) ∷ (division 2 2147483647) ∷ [];
  incidents = [];
  calls = [];
  vehicles =
      (vehicle A1 1 1 Support (grid 530000 180000) Offered 2000 None 0 1)
      ∷ (vehicle A2 1 1 Ambulance (grid 560200 180000) Offered 2000 None 0 0) ∷ [];
  turns = [];
  assignments = [];
  points = [];
  loans = [];
  offers = (offer A1 1 2 1721 2121) ∷ (offer A2 1 2 1721 2121) ∷ [];
  reports = (report A1 1 button.Leave 0 (grid 530201 180000) 1481 1 Wrong Available true) ∷ [];
}

queue_of_6_and_8 : Steps (at 2022 (Desk 1) ask.Queue) before_queue_of_6_and_8
    (Ok (answer.Queue ((entry rank.ShiftOver 2000 0 (Some A1)) ∷ (entry rank.ShiftOver 2000 0 (Some A2))
    ∷ (entry rank.Unanswered 1721 2 (Some A1)) ∷ (entry rank.Unanswered 1721 2 (Some A2)) ∷ [])))
    before_queue_of_6_and_8
unfolding machine
queue_of_6_and_8 = (refl, refl)

abbrev before_queue_of_7 : Room
before_queue_of_7 = record {
  plan = two_divisions;
  divisions = (division 1 1) ∷ (division 2 0) ∷ [];
  incidents = (incident 1 1 (grid 530100 180000) 3 (needs 0 0 1) 3226 None Active) ∷ [];
  calls = (call 1 3 1 1 1 false (grid 530100 180000) 3 (needs 0 0 1) [] 3226) ∷ [];
  vehicles =
      (vehicle A1 2 2 Ambulance (grid 560100 180000) Available 5000 None 0 0)
      ∷ (vehicle A2 1 1 Support (grid 530200 180000) OffDuty 2000 None 0 0)
      ∷ (vehicle A3 2 2 Ambulance (grid 530120 180160) Available 2000 None 0 0)
      ∷ (vehicle B1 1 1 Ambulance (grid 560100 180000) OffDuty 0 None 0 0) ∷ [];
  turns = [];
  assignments = [];
  points = (point 1 1 (grid 530201 180000) 2) ∷ (point 1 2 (grid 530100 180100) 0) ∷ [];
  loans = [];
  offers = [];
  reports = [];
}

queue_of_7 : Steps (at 3406 (Desk 1) ask.Queue) before_queue_of_7
    (Ok (answer.Queue ((entry rank.Uncovered 0 1 None) ∷ []))) before_queue_of_7
unfolding machine
queue_of_7 = (refl, refl)

abbrev before_queue_of_7_and_8 : Room
before_queue_of_7_and_8 = record {
  plan = two_divisions;
  divisions = (division 1 2147483647) ∷ (division 2 2147483647) ∷ [];
  incidents = [];
  calls = [];
  vehicles =
      (vehicle A1 1 1 Car (grid 560100 180000) OffDuty 0 None 0 0)
      ∷ (vehicle A2 1 1 Ambulance (grid 530200 180000) Offered 2000 None 0 0) ∷ [];
  turns = [];
  assignments = [];
  points = (point 2 2 (grid 530100 180100) 2) ∷ [];
  loans = [];
  offers = (offer A2 1 2 1005 1005) ∷ [];
  reports = [];
}

queue_of_7_and_8 : Steps (at 1999 (Desk 2) ask.Queue) before_queue_of_7_and_8
    (Ok (answer.Queue ((entry rank.Uncovered 0 2 None) ∷ (entry rank.Unanswered 1005 1 (Some A2)) ∷ [])))
    before_queue_of_7_and_8
unfolding machine
queue_of_7_and_8 = (refl, refl)

abbrev before_queue_of_8 : Room
before_queue_of_8 = record {
  plan = two_divisions;
  divisions = (division 1 3) ∷ (division 2 3) ∷ [];
  incidents = [];
  calls = [];
  vehicles =
      (vehicle A1 1 1 Ambulance (grid 560200 180000) Available 40000 None 0 0)
      ∷ (vehicle A2 2 2 Ambulance (grid 530201 180000) Available 5000 None 0 0)
      ∷ (vehicle A3 2 2 Support (grid 530100 180100) Offered 40000 None 0 0) ∷ [];
  turns = [];
  assignments = [];
  points = [];
  loans = [];
  offers = (offer A3 2 1 1662 1762) ∷ [];
  reports = [];
}

queue_of_8 : Steps (at 1963 (Desk 1) ask.Queue) before_queue_of_8
    (Ok (answer.Queue ((entry rank.Unanswered 1662 2 (Some A3)) ∷ []))) before_queue_of_8
unfolding machine
queue_of_8 = (refl, refl)

abbrev before_queue_of_nothing : Room
before_queue_of_nothing = record {
  plan = overlapping_divisions;
  divisions = (division 1 0) ∷ (division 7 3) ∷ [];
  incidents = [];
  calls = [];
  vehicles =
      (vehicle A1 1 1 Ambulance (grid 531000 180000) Available 2000 None 0 0)
      ∷ (vehicle A2 1 1 Car (grid 530120 180160) Offered 1500 None 0 0) ∷ [];
  turns = [];
  assignments = [];
  points = [];
  loans = [];
  offers = (offer A2 1 7 1000 1000) ∷ [];
  reports = [];
}

queue_of_nothing : Steps (at 1300 (Desk 7) ask.Queue) before_queue_of_nothing
    (Ok (answer.Queue ([]))) before_queue_of_nothing
unfolding machine
queue_of_nothing = (refl, refl)

abbrev before_queue_of_nothing_2 : Room
before_queue_of_nothing_2 = record {
  plan = two_divisions;
  divisions = (division 1 3) ∷ (division 2 0) ∷ [];
  incidents = [];
  calls = [];
  vehicles =
      (vehicle A1 2 2 Car (grid 530000 180000) Available 40000 None 0 0)
      ∷ (vehicle A2 2 2 Ambulance (grid 530201 180000) OffDuty 0 None 0 0)
      ∷ (vehicle A3 1 2 Car (grid 560100 180000) Available 2000 None 0 0) ∷ [];
  turns = [];
  assignments = [];
  points = [];
  loans = (loan A3 1 2 1366 2155 false) ∷ [];
  offers = [];
  reports = [];
}

queue_of_nothing_2 : Steps (at 2155 (Desk 1) ask.Queue) before_queue_of_nothing_2
    (Ok (answer.Queue ([]))) before_queue_of_nothing_2
unfolding machine
queue_of_nothing_2 = (refl, refl)

abbrev before_queue_of_nothing_3 : Room
before_queue_of_nothing_3 = record {
  plan = overlapping_divisions;
  divisions = (division 1 4) ∷ (division 7 4) ∷ [];
  incidents =
      (incident 1 4 (grid 530300 180400) 2 (needs 2 0 0) 1005 (Some 1816) Active)
      ∷ (incident 7 4 (grid 530000 180000) 1 (needs 1 0 0) 1185 (Some 5000) Active) ∷ [];
  calls =
      (call 1 1 7 4 4 false (grid 530000 180000) 1 (needs 1 0 0) [] 1185)
      ∷ (call 1 4 1 4 4 false (grid 530300 180400) 2 (needs 2 0 0) [] 1005) ∷ [];
  vehicles =
      (vehicle A1 1 7 Ambulance (grid 531000 180000) Available 5000 None 0 0)
      ∷ (vehicle A2 7 7 Ambulance (grid 530100 180100) Available 1259 None 0 2)
      ∷ (vehicle A3 7 7 Ambulance (grid 530120 180160) Mobilised 40000 None 1 3)
      ∷ (vehicle B1 1 1 Ambulance (grid 530201 180000) OffDuty 0 None 0 0)
      ∷ (vehicle B2 1 1 Ambulance (grid 560200 180000) Mobilised 2000 None 1 0) ∷ [];
  turns =
      (turn A3 1 7 4 Ambulance 5000 (Some 1997) None None None None false)
      ∷ (turn B2 1 1 4 Ambulance 1816 None None None None None false) ∷ [];
  assignments = (assignment A3 7 4 1 (grid 530000 180000) 1) ∷ (assignment B2 1 4 1 (grid 530300 180400) 2) ∷ [];
  points = [];
  loans = (loan A1 1 7 1319 3001 true) ∷ [];
  offers = [];
  reports =
      (report A2 2 button.Mobile 0 (grid 530100 180100) 1137 7 Wrong OffDuty false)
      ∷ (report A3 1 button.Position 1 (grid 530000 180000) 1635 7 Normal Mobilised false)
      ∷ (report A3 3 button.Mobile 1 (grid 530120 180160) 1997 7 Normal Mobilised false) ∷ [];
}

queue_of_nothing_3 : Steps (at 1845 (Desk 1) ask.Queue) before_queue_of_nothing_3
    (Ok (answer.Queue ([]))) before_queue_of_nothing_3
unfolding machine
queue_of_nothing_3 = (refl, refl)
