-- Sampled steps: loans, recalling and giving back. A program that is independent of this
-- repository, written from the rules in words, made them in random runs; of each kind of step it
-- kept those with the fewest rows.
use Rattle.std.specs.Prelude.{Err, None, Ok, Some, [], codes, false, refl, true, ◌∷◌}
use Rattle.room_types.specs.declared.answers.Answer.TheVariants as answer
use Rattle.room_types.specs.declared.asks.Ask.TheVariants as ask
use Rattle.room_types.specs.declared.asks.Who.TheVariants.{Desk}
use Rattle.room_types.specs.declared.codes.Button.TheVariants as button
use Rattle.room_types.specs.declared.codes.Kind.TheVariants.{Ambulance, Car, Support}
use Rattle.room_types.specs.declared.codes.Outcome.TheVariants.{Late, Normal, Skipped, Stale, Wrong}
use Rattle.room_types.specs.declared.codes.State.TheVariants.{Active, Closed, Merged}
use Rattle.room_types.specs.declared.codes.Status.TheVariants.{AtHospital, AtScene, Available}
use Rattle.room_types.specs.declared.codes.Status.TheVariants.{Leaving, Mobilised, OffDuty, Offered}
use Rattle.room_types.specs.declared.codes.Status.TheVariants.{Returning}
use Rattle.room_types.specs.declared.refusal_statuses.Refusal.TheVariants as refusal
use Rattle.room_model.specs.Room.{Room}
use Rattle.room_model.specs.ComputedDefinitions.{machine}
use Rattle.room_samples.specs.ExampleRows.{assignment, call, division, grid, incident, loan, offer}
use Rattle.room_samples.specs.ExampleRows.{point, report, turn, vehicle}
use Rattle.room_samples.specs.SampledRooms.{A1, A2, A3, B1, B2, Z9, overlapping_divisions}
use Rattle.room_samples.specs.SampledRooms.{two_divisions}
use Rattle.room_samples.specs.SampledSteps.{Steps}
use Rattle.room_model.specs.StepWords.{at, needs}

abbrev before_give_back : Room
before_give_back = record {
  plan = two_divisions;
  divisions = (division 1 3) ∷ (division 2 3) ∷ [];
  incidents = [];
  calls = [];
  vehicles =
      (vehicle A1 2 1 Ambulance (grid 530120 180160) Available 2000 None 0 0)
      ∷ (vehicle A2 2 2 Ambulance (grid 531000 180000) Available 2208 None 0 1) ∷ [];
  turns = [];
  assignments = [];
  points = [];
  loans = (loan A1 2 1 1341 2099 false) ∷ [];
  offers = [];
  reports = (report A2 1 button.Scene 0 (grid 530300 180400) 1522 2 Wrong OffDuty false) ∷ [];
}

give_back : Steps (at 1709 (Desk 1) (ask.GiveBack A1)) before_give_back (Ok answer.Done)
    (record before_give_back {
      vehicles =
          (vehicle A1 2 2 Ambulance (grid 530120 180160) Available 2000 None 0 0)
          ∷ (vehicle A2 2 2 Ambulance (grid 531000 180000) Available 2208 None 0 1)
          ∷ [];
      loans = [];
    })
unfolding machine
give_back = (refl, refl)

abbrev before_give_back_2 : Room
before_give_back_2 = record {
  plan = two_divisions;
  divisions = (division 1 1) ∷ (division 2 3) ∷ [];
  incidents = (incident 1 1 (grid 530300 180400) 2 (needs 2 0 0) 1142 (Some 1203) Active) ∷ [];
  calls = (call 1 2 1 1 1 false (grid 530300 180400) 2 (needs 2 0 0) [] 1142) ∷ [];
  vehicles =
      (vehicle A1 1 1 Ambulance (grid 530201 180000) Returning 5000 None 1 1)
      ∷ (vehicle A2 2 1 Ambulance (grid 530100 180100) Available 2000 (Some 1) 0 1) ∷ [];
  turns = (turn A1 1 1 1 Ambulance 1203 None None None None (Some 1229) true) ∷ [];
  assignments = [];
  points = (point 1 1 (grid 530100 180000) 1) ∷ [];
  loans = (loan A2 2 1 1208 2161 false) ∷ [];
  offers = [];
  reports =
      (report A1 1 button.Mobile 0 (grid 530200 180000) 1181 1 Wrong Available false)
      ∷ (report A2 1 button.Hospital 0 (grid 530100 180000) 1349 1 Wrong Available false) ∷ [];
}

give_back_2 : Steps (at 1650 (Desk 1) (ask.GiveBack A2)) before_give_back_2 (Ok answer.Done)
    (record before_give_back_2 {
      vehicles =
          (vehicle A1 1 1 Ambulance (grid 530201 180000) Returning 5000 None 1 1)
          ∷ (vehicle A2 2 2 Ambulance (grid 530100 180100) Available 2000 None 0 1)
          ∷ [];
      loans = [];
    })
unfolding machine
give_back_2 = (refl, refl)

abbrev before_give_back_3 : Room
before_give_back_3 = record {
  plan = two_divisions;
  divisions = (division 1 1) ∷ (division 2 3) ∷ [];
  incidents = (incident 1 1 (grid 530200 180000) 2 (needs 1 0 0) 1956 (Some 2053) Active) ∷ [];
  calls = (call 1 4 1 1 1 false (grid 530200 180000) 2 (needs 1 0 0) [] 1956) ∷ [];
  vehicles =
      (vehicle A1 2 2 Car (grid 530200 180000) Available 1827 None 0 2)
      ∷ (vehicle A2 2 1 Ambulance (grid 530300 180400) Returning 40000 None 1 3)
      ∷ (vehicle A3 1 1 Ambulance (grid 530200 180000) Available 40000 None 0 1) ∷ [];
  turns = (turn A2 1 1 1 Ambulance 2053 None None None None (Some 2344) true) ∷ [];
  assignments = [];
  points = [];
  loans = (loan A2 2 1 1986 2223 false) ∷ [];
  offers = [];
  reports =
      (report A1 1 button.Mobile 0 (grid 530100 180100) 1061 2 Wrong OffDuty true)
      ∷ (report A1 2 button.Leave 0 (grid 530201 180000) 2223 2 Wrong Available false)
      ∷ (report A2 1 button.Home 0 (grid 530300 180400) 1062 2 Normal Available false)
      ∷ (report A2 3 button.Scene 0 (grid 530120 180160) 2048 1 Wrong Available false)
      ∷ (report A3 1 button.Scene 0 (grid 530120 180160) 1224 1 Wrong Available false) ∷ [];
}

give_back_3 : Steps (at 2375 (Desk 1) (ask.GiveBack A2)) before_give_back_3 (Ok answer.Done)
    (record before_give_back_3 {
      vehicles =
          (vehicle A1 2 2 Car (grid 530200 180000) Available 1827 None 0 2)
          ∷ (vehicle A2 2 2 Ambulance (grid 530300 180400) Returning 40000 None 1 3)
          ∷ (vehicle A3 1 1 Ambulance (grid 530200 180000) Available 40000 None 0 1)
          ∷ [];
      loans = [];
    })
unfolding machine
give_back_3 = (refl, refl)

abbrev before_give_back_4 : Room
before_give_back_4 = record {
  plan = overlapping_divisions;
  divisions = (division 1 2) ∷ (division 7 0) ∷ [];
  incidents =
      (incident 1 1 (grid 560100 180000) 2 (needs 2 1 1) 2037 None Active)
      ∷ (incident 1 2 (grid 530201 180000) 3 (needs 2 0 0) 2098 None Active) ∷ [];
  calls =
      (call 1 2 1 1 1 true (grid 560200 180000) 2 (needs 2 1 1) [] 2279)
      ∷ (call 1 3 1 1 1 false (grid 560100 180000) 2 (needs 1 1 0) [] 2037)
      ∷ (call 1 4 1 2 2 false (grid 530201 180000) 3 (needs 2 0 0) (codes "x") 2098)
      ∷ (call 2 1 1 2 2 true (grid 530120 180160) 3 (needs 1 0 0) [] 2278) ∷ [];
  vehicles =
      (vehicle A1 1 7 Ambulance (grid 530120 180160) Available 5000 (Some 2) 0 5)
      ∷ (vehicle A2 7 7 Ambulance (grid 530100 180000) OffDuty 5125 None 0 3)
      ∷ (vehicle A3 1 1 Car (grid 530300 180400) Available 6900 None 0 2) ∷ [];
  turns = [];
  assignments = [];
  points = (point 7 2 (grid 530100 180000) 1) ∷ [];
  loans = (loan A1 1 7 2291 2706 false) ∷ [];
  offers = [];
  reports =
      (report A1 2 button.Hospital 0 (grid 530100 180000) 1005 1 Wrong Available false)
      ∷ (report A1 3 button.Home 0 (grid 530201 180000) 2382 7 Normal Available false)
      ∷ (report A1 5 button.Home 0 (grid 530120 180160) 2387 7 Normal Available false)
      ∷ (report A2 1 button.Return 0 (grid 530000 180000) 1606 7 Wrong Available false)
      ∷ (report A2 2 button.Leave 0 (grid 530200 180000) 2352 7 Wrong OffDuty false)
      ∷ (report A2 3 button.Return 0 (grid 531000 180000) 2706 7 Wrong OffDuty false)
      ∷ (report A3 2 button.Hospital 0 (grid 530100 180100) 2037 1 Wrong OffDuty true) ∷ [];
}

give_back_4 : Steps (at 2935 (Desk 7) (ask.GiveBack A1)) before_give_back_4 (Ok answer.Done)
    (record before_give_back_4 {
      vehicles =
          (vehicle A1 1 1 Ambulance (grid 530120 180160) Available 5000 None 0 5)
          ∷ (vehicle A2 7 7 Ambulance (grid 530100 180000) OffDuty 5125 None 0 3)
          ∷ (vehicle A3 1 1 Car (grid 530300 180400) Available 6900 None 0 2) ∷ [];
      loans = [];
    })
unfolding machine
give_back_4 = (refl, refl)

abbrev before_give_back_5 : Room
before_give_back_5 = record {
  plan = overlapping_divisions;
  divisions = (division 1 7) ∷ (division 7 0) ∷ [];
  incidents =
      (incident 1 4 (grid 530201 180000) 1 (needs 0 0 1) 1543 None (Merged 6))
      ∷ (incident 1 5 (grid 530300 180400) 2 (needs 2 1 1) 1604 None Active)
      ∷ (incident 1 6 (grid 560100 180000) 1 (needs 0 0 1) 1543 None Active)
      ∷ (incident 1 7 (grid 531000 180000) 3 (needs 1 0 0) 2086 None (Merged 5)) ∷ [];
  calls =
      (call 1 1 1 6 6 false (grid 560100 180000) 2 (needs 0 0 1) [] 2505)
      ∷ (call 1 3 1 6 4 true (grid 530100 180000) 1 (needs 0 0 1) [] 2443)
      ∷ (call 1 4 1 5 7 false (grid 531000 180000) 3 (needs 1 0 0) [] 2086)
      ∷ (call 1 6 1 5 5 false (grid 530300 180400) 2 (needs 2 1 1) [] 1604)
      ∷ (call 2 4 1 6 4 false (grid 530201 180000) 3 (needs 0 0 1) [] 1543) ∷ [];
  vehicles =
      (vehicle A1 1 1 Ambulance (grid 530300 180400) OffDuty 0 None 0 0)
      ∷ (vehicle A2 1 7 Ambulance (grid 530100 180000) Available 40000 (Some 1) 0 2)
      ∷ (vehicle A3 7 7 Ambulance (grid 530300 180400) Available 2000 None 0 4) ∷ [];
  turns = [];
  assignments = [];
  points = (point 7 1 (grid 530120 180160) 0) ∷ [];
  loans = (loan A2 1 7 1999 1100 false) ∷ [];
  offers = [];
  reports =
      (report A2 1 button.Hospital 0 (grid 530100 180000) 2387 7 Wrong Available true)
      ∷ (report A2 2 button.Position 0 (grid 530100 180000) 3300 7 Normal Available false)
      ∷ (report A3 2 button.Scene 0 (grid 530000 180000) 2387 7 Wrong Available false)
      ∷ (report A3 4 button.Return 0 (grid 531000 180000) 2698 7 Wrong Available false) ∷ [];
}

give_back_5 : Steps (at 3636 (Desk 7) (ask.GiveBack A2)) before_give_back_5 (Ok answer.Done)
    (record before_give_back_5 {
      vehicles =
          (vehicle A1 1 1 Ambulance (grid 530300 180400) OffDuty 0 None 0 0)
          ∷ (vehicle A2 1 1 Ambulance (grid 530100 180000) Available 40000 None 0 2)
          ∷ (vehicle A3 7 7 Ambulance (grid 530300 180400) Available 2000 None 0 4)
          ∷ [];
      loans = [];
    })
unfolding machine
give_back_5 = (refl, refl)

abbrev before_give_back_6 : Room
before_give_back_6 = record {
  plan = two_divisions;
  divisions = (division 1 3) ∷ (division 2 1) ∷ [];
  incidents =
      (incident 1 1 (grid 530120 180160) 3 (needs 0 1 0) 1331 None Active)
      ∷ (incident 1 2 (grid 531000 180000) 1 (needs 0 1 0) 2231 None Active)
      ∷ (incident 1 3 (grid 530200 180000) 2 (needs 1 0 0) 3299 None Active)
      ∷ (incident 2 1 (grid 560000 180000) 2 (needs 2 1 0) 4651 None Active) ∷ [];
  calls =
      (call 1 1 1 3 3 true (grid 530100 180100) 2 (needs 1 0 0) [] 4014)
      ∷ (call 1 3 2 1 1 false (grid 560000 180000) 3 (needs 1 1 0) (codes "x") 4932)
      ∷ (call 1 4 1 3 3 false (grid 530200 180000) 2 (needs 1 0 0) (codes "x") 3299)
      ∷ (call 1 6 2 1 1 true (grid 560000 180000) 2 (needs 1 1 0) [] 4651)
      ∷ (call 2 2 1 2 2 false (grid 531000 180000) 1 (needs 0 1 0) [] 2231)
      ∷ (call 2 3 1 1 1 false (grid 530120 180160) 3 (needs 0 1 0) (codes "x") 1331)
      ∷ (call 2 4 2 1 1 true (grid 560100 180000) 2 (needs 1 1 0) [] 4931) ∷ [];
  vehicles =
      (vehicle A1 1 1 Ambulance (grid 530120 180160) Available 40000 None 0 3)
      ∷ (vehicle A2 1 2 Support (grid 530201 180000) Available 5812 (Some 1) 0 4) ∷ [];
  turns = [];
  assignments = [];
  points = (point 2 1 (grid 530100 180000) 0) ∷ [];
  loans = (loan A2 1 2 5811 3418 false) ∷ [];
  offers = [];
  reports =
      (report A1 2 button.Home 0 (grid 530120 180160) 2836 1 Normal Available false)
      ∷ (report A1 3 button.Return 0 (grid 530200 180000) 3419 1 Wrong Available false)
      ∷ (report A2 1 button.Return 0 (grid 530100 180100) 1301 1 Wrong OffDuty true)
      ∷ (report A2 2 button.Leave 0 (grid 531000 180000) 3299 1 Wrong Offered false)
      ∷ (report A2 4 button.Leave 0 (grid 530100 180100) 4345 2 Wrong Available false) ∷ [];
}

give_back_6 : Steps (at 5198 (Desk 2) (ask.GiveBack A2)) before_give_back_6 (Ok answer.Done)
    (record before_give_back_6 {
      vehicles =
          (vehicle A1 1 1 Ambulance (grid 530120 180160) Available 40000 None 0 3)
          ∷ (vehicle A2 1 1 Support (grid 530201 180000) Available 5812 None 0 4) ∷ [];
      loans = [];
    })
unfolding machine
give_back_6 = (refl, refl)

abbrev before_give_back_7 : Room
before_give_back_7 = record {
  plan = two_divisions;
  divisions = (division 1 3) ∷ (division 2 0) ∷ [];
  incidents =
      (incident 1 1 (grid 531000 180000) 3 (needs 0 0 1) 1161 None Active)
      ∷ (incident 1 2 (grid 530000 180000) 3 (needs 2 1 1) 1462 None (Merged 3))
      ∷ (incident 1 3 (grid 531000 180000) 3 (needs 2 1 1) 1462 None Active) ∷ [];
  calls =
      (call 1 3 1 3 3 false (grid 531000 180000) 3 (needs 0 0 1) [] 2362)
      ∷ (call 1 6 1 1 1 false (grid 531000 180000) 3 (needs 0 0 1) [] 1161)
      ∷ (call 2 3 1 3 2 false (grid 530000 180000) 3 (needs 2 1 1) [] 1462) ∷ [];
  vehicles =
      (vehicle A1 1 1 Ambulance (grid 530200 180000) Available 2000 None 0 4)
      ∷ (vehicle A2 1 2 Ambulance (grid 530200 180000) Available 40000 (Some 2) 0 3)
      ∷ (vehicle A3 2 2 Ambulance (grid 531000 180000) Available 4951 None 0 4) ∷ [];
  turns = [];
  assignments = [];
  points = (point 2 2 (grid 530100 180100) 2) ∷ [];
  loans = (loan A2 1 2 5854 5169 false) ∷ [];
  offers = [];
  reports =
      (report A1 1 button.Mobile 0 (grid 530200 180000) 1763 1 Wrong Available false)
      ∷ (report A1 2 button.Mobile 0 (grid 530200 180000) 2516 1 Wrong Available false)
      ∷ (report A1 3 button.Position 0 (grid 530120 180160) 4268 1 Normal Available false)
      ∷ (report A1 4 button.Position 0 (grid 530200 180000) 5011 1 Normal Available false)
      ∷ (report A2 1 button.Return 0 (grid 530100 180000) 2244 1 Wrong Available false)
      ∷ (report A2 2 button.Mobile 0 (grid 530100 180100) 4488 1 Wrong Available false)
      ∷ (report A2 3 button.Leave 0 (grid 530300 180400) 5492 1 Wrong Offered false)
      ∷ (report A3 2 button.Mobile 0 (grid 530000 180000) 2455 2 Wrong Available true)
      ∷ (report A3 3 button.Home 0 (grid 530100 180100) 6216 2 Normal Available false)
      ∷ (report A3 4 button.Home 0 (grid 531000 180000) 6246 2 Normal Available false) ∷ [];
}

give_back_7 : Steps (at 6787 (Desk 2) (ask.GiveBack A2)) before_give_back_7 (Ok answer.Done)
    (record before_give_back_7 {
      vehicles =
          (vehicle A1 1 1 Ambulance (grid 530200 180000) Available 2000 None 0 4)
          ∷ (vehicle A2 1 1 Ambulance (grid 530200 180000) Available 40000 None 0 3)
          ∷ (vehicle A3 2 2 Ambulance (grid 531000 180000) Available 4951 None 0 4)
          ∷ [];
      loans = [];
    })
unfolding machine
give_back_7 = (refl, refl)

abbrev before_give_back_8 : Room
before_give_back_8 = record {
  plan = two_divisions;
  divisions = (division 1 3) ∷ (division 2 1) ∷ [];
  incidents =
      (incident 1 1 (grid 530000 180000) 1 (needs 2 1 1) 1767 None Closed)
      ∷ (incident 1 2 (grid 531000 180000) 1 (needs 2 1 0) 2409 (Some 3153) Active)
      ∷ (incident 1 3 (grid 530000 180000) 2 (needs 1 1 0) 2590 None Active)
      ∷ (incident 2 1 (grid 560000 180000) 1 (needs 1 0 0) 1928 None Active) ∷ [];
  calls =
      (call 1 1 1 3 3 false (grid 530000 180000) 2 (needs 1 1 0) (codes "x") 2590)
      ∷ (call 1 5 2 1 1 false (grid 560000 180000) 1 (needs 1 0 0) [] 2668)
      ∷ (call 2 1 1 1 1 true (grid 530120 180160) 1 (needs 1 0 0) (codes "x") 2667)
      ∷ (call 2 2 1 2 2 false (grid 531000 180000) 1 (needs 2 0 0) [] 3033)
      ∷ (call 2 3 1 1 1 false (grid 530000 180000) 2 (needs 2 1 1) (codes "x") 1767)
      ∷ (call 2 5 1 2 2 true (grid 531000 180000) 2 (needs 0 1 0) [] 2409)
      ∷ (call 2 6 2 1 1 true (grid 560100 180000) 2 (needs 1 0 0) (codes "x") 1928) ∷ [];
  vehicles =
      (vehicle A1 2 2 Ambulance (grid 530120 180160) OffDuty 0 None 0 1)
      ∷ (vehicle A2 2 1 Car (grid 530100 180100) OffDuty 40000 None 1 2)
      ∷ (vehicle A3 2 2 Ambulance (grid 530201 180000) OffDuty 0 None 0 2) ∷ [];
  turns = (turn A2 1 1 2 Car 3153 None None None None (Some 3439) true) ∷ [];
  assignments = [];
  points = (point 2 1 (grid 531000 180000) 1) ∷ (point 2 2 (grid 530100 180100) 0) ∷ [];
  loans = (loan A2 2 1 1777 2767 true) ∷ [];
  offers = [];
  reports =
      (report A1 1 button.Position 0 (grid 530200 180000) 2768 2 Wrong OffDuty true)
      ∷ (report A2 1 button.Position 0 (grid 530100 180100) 1301 2 Normal Available false)
      ∷ (report A2 2 button.Home 1 (grid 530100 180100) 3711 1 Wrong OffDuty true)
      ∷ (report A3 2 button.Mobile 0 (grid 531000 180000) 2768 2 Wrong OffDuty false) ∷ [];
}

give_back_8 : Steps (at 4614 (Desk 1) (ask.GiveBack A2)) before_give_back_8 (Ok answer.Done)
    (record before_give_back_8 {
      vehicles =
          (vehicle A1 2 2 Ambulance (grid 530120 180160) OffDuty 0 None 0 1)
          ∷ (vehicle A2 2 2 Car (grid 530100 180100) OffDuty 40000 None 1 2)
          ∷ (vehicle A3 2 2 Ambulance (grid 530201 180000) OffDuty 0 None 0 2) ∷ [];
      loans = [];
    })
unfolding machine
give_back_8 = (refl, refl)

abbrev before_give_back_9 : Room
before_give_back_9 = record {
  plan = overlapping_divisions;
  divisions = (division 1 3) ∷ (division 7 3) ∷ [];
  incidents =
      (incident 1 1 (grid 530100 180000) 2 (needs 2 1 1) 2235 None Active)
      ∷ (incident 1 2 (grid 531000 180000) 2 (needs 2 0 0) 3136 None Active)
      ∷ (incident 1 3 (grid 530300 180400) 1 (needs 2 1 1) 3615 None Active) ∷ [];
  calls =
      (call 1 3 1 3 3 false (grid 530300 180400) 1 (needs 2 1 1) (codes "x") 3615)
      ∷ (call 1 5 1 1 1 false (grid 530100 180000) 2 (needs 1 0 0) [] 2235)
      ∷ (call 1 6 1 2 2 false (grid 531000 180000) 3 (needs 2 0 0) [] 3136)
      ∷ (call 2 1 1 1 1 true (grid 530200 180000) 3 (needs 2 1 1) [] 2571)
      ∷ (call 2 2 1 1 1 true (grid 530200 180000) 2 (needs 1 0 0) [] 2853)
      ∷ (call 2 4 1 2 2 true (grid 531000 180000) 2 (needs 1 0 0) [] 3317) ∷ [];
  vehicles =
      (vehicle A1 1 1 Ambulance (grid 560100 180000) OffDuty 0 None 0 0)
      ∷ (vehicle A2 1 1 Ambulance (grid 531000 180000) Offered 4276 None 2147483647 3)
      ∷ (vehicle A3 1 7 Ambulance (grid 530100 180000) Available 40000 (Some 2) 0 6) ∷ [];
  turns = [];
  assignments = [];
  points = (point 1 1 (grid 530300 180400) 1) ∷ (point 7 2 (grid 530120 180160) 1) ∷ [];
  loans = (loan A3 1 7 1332 2001 false) ∷ [];
  offers = (offer A2 1 7 3786 3786) ∷ [];
  reports =
      (report A2 1 button.Position 2147483647 (grid 530200 180000) 1000 1 Wrong OffDuty true)
      ∷ (report A2 3 button.Mobile 0 (grid 530120 180160) 3816 1 Stale Offered false)
      ∷ (report A3 2 button.Scene 0 (grid 530120 180160) 1813 7 Wrong Available false)
      ∷ (report A3 4 button.Home 0 (grid 530120 180160) 1934 7 Normal Available false)
      ∷ (report A3 5 button.Hospital 0 (grid 530300 180400) 2541 7 Wrong Available false)
      ∷ (report A3 6 button.Position 0 (grid 530100 180000) 3283 7 Normal Available false) ∷ [];
}

give_back_9 : Steps (at 4780 (Desk 7) (ask.GiveBack A3)) before_give_back_9 (Ok answer.Done)
    (record before_give_back_9 {
      vehicles =
          (vehicle A1 1 1 Ambulance (grid 560100 180000) OffDuty 0 None 0 0)
          ∷ (vehicle A2 1 1 Ambulance (grid 531000 180000) Offered 4276 None 2147483647 3)
          ∷ (vehicle A3 1 1 Ambulance (grid 530100 180000) Available 40000 None 0 6)
          ∷ [];
      loans = [];
    })
unfolding machine
give_back_9 = (refl, refl)

abbrev before_give_back_10 : Room
before_give_back_10 = record {
  plan = two_divisions;
  divisions = (division 1 6) ∷ (division 2 2) ∷ [];
  incidents =
      (incident 1 4 (grid 530100 180000) 2 (needs 1 0 0) 985 None Active)
      ∷ (incident 1 5 (grid 530300 180400) 2 (needs 0 1 0) 3624 None Active)
      ∷ (incident 1 6 (grid 530100 180000) 2 (needs 2 0 0) 5138 None Active)
      ∷ (incident 2 1 (grid 560100 180000) 1 (needs 2 1 1) 1839 (Some 4465) Active)
      ∷ (incident 2 2 (grid 560100 180000) 2 (needs 2 0 0) 6325 None Active) ∷ [];
  calls =
      (call 1 2 2 2 2 false (grid 560100 180000) 2 (needs 2 0 0) [] 6325)
      ∷ (call 1 3 1 6 6 false (grid 530100 180000) 2 (needs 2 0 0) [] 5138)
      ∷ (call 1 4 1 5 5 false (grid 530300 180400) 2 (needs 0 1 0) (codes "x") 3624)
      ∷ (call 1 6 2 1 1 false (grid 560100 180000) 1 (needs 2 1 1) [] 1839)
      ∷ (call 2 3 1 4 4 false (grid 530100 180000) 2 (needs 1 0 0) [] 985)
      ∷ (call 2 5 2 1 1 true (grid 560100 180000) 1 (needs 1 0 0) [] 2739) ∷ [];
  vehicles =
      (vehicle A1 1 2 Car (grid 560100 180000) Available 40000 (Some 2) 0 2)
      ∷ (vehicle A2 1 1 Support (grid 530120 180160) Available 5259 None 0 3)
      ∷ (vehicle A3 2 2 Support (grid 530200 180000) Mobilised 5000 None 1 1) ∷ [];
  turns = (turn A3 1 2 1 Support 4465 None None None None None false) ∷ [];
  assignments = (assignment A3 2 1 1 (grid 560100 180000) 1) ∷ [];
  points =
      (point 1 1 (grid 530120 180160) 1) ∷ (point 1 2 (grid 530100 180000) 1) ∷ (point 2 2 (grid 530120 180160) 2)
      ∷ [];
  loans = (loan A1 1 2 1327 1146 true) ∷ [];
  offers = [];
  reports =
      (report A1 1 button.Return 0 (grid 530100 180100) 1347 1 Wrong Offered true)
      ∷ (report A1 2 button.Return 0 (grid 530200 180000) 3771 2 Wrong Available false)
      ∷ (report A2 1 button.Mobile 0 (grid 530100 180000) 3685 1 Wrong OffDuty true)
      ∷ (report A2 2 button.Scene 0 (grid 530000 180000) 1146 1 Wrong OffDuty false)
      ∷ (report A2 3 button.Leave 0 (grid 530200 180000) 3671 1 Wrong OffDuty false)
      ∷ (report A3 1 button.Position 0 (grid 530200 180000) 1146 2 Normal Available false) ∷ [];
}

give_back_10 : Steps (at 6386 (Desk 2) (ask.GiveBack A1)) before_give_back_10 (Ok answer.Done)
    (record before_give_back_10 {
      vehicles =
          (vehicle A1 1 1 Car (grid 560100 180000) Available 40000 None 0 2)
          ∷ (vehicle A2 1 1 Support (grid 530120 180160) Available 5259 None 0 3)
          ∷ (vehicle A3 2 2 Support (grid 530200 180000) Mobilised 5000 None 1 1) ∷ [];
      loans = [];
    })
unfolding machine
give_back_10 = (refl, refl)

abbrev before_give_back_11 : Room
before_give_back_11 = record {
  plan = two_divisions;
  divisions = (division 1 2) ∷ (division 2 2) ∷ [];
  incidents =
      (incident 1 1 (grid 530100 180100) 2 (needs 2 1 1) 1181 None (Merged 2))
      ∷ (incident 1 2 (grid 530200 180000) 1 (needs 2 1 1) 1181 None Active)
      ∷ (incident 2 1 (grid 560200 180000) 2 (needs 1 1 0) 2021 None Active)
      ∷ (incident 2 2 (grid 560000 180000) 1 (needs 1 0 0) 5920 None Active) ∷ [];
  calls =
      (call 1 3 1 2 1 false (grid 530100 180100) 2 (needs 0 0 1) [] 1181)
      ∷ (call 1 4 1 2 1 true (grid 530100 180000) 2 (needs 2 1 1) [] 2021)
      ∷ (call 2 1 2 1 1 false (grid 560200 180000) 2 (needs 1 1 0) [] 2021)
      ∷ (call 2 3 2 2 2 false (grid 560000 180000) 1 (needs 1 0 0) [] 5920)
      ∷ (call 2 5 1 2 2 true (grid 530201 180000) 1 (needs 0 0 1) (codes "x") 2382)
      ∷ (call 2 6 1 2 2 false (grid 530200 180000) 2 (needs 0 1 0) (codes "x") 2202) ∷ [];
  vehicles =
      (vehicle A1 1 1 Ambulance (grid 530201 180000) Available 4664 (Some 2) 0 3)
      ∷ (vehicle A2 1 2 Ambulance (grid 560100 180000) Available 40000 (Some 1) 0 1)
      ∷ (vehicle A3 2 2 Ambulance (grid 530100 180100) Available 2000 None 0 3)
      ∷ (vehicle B1 1 1 Car (grid 530000 180000) Available 8252 (Some 2) 0 1)
      ∷ (vehicle B2 2 2 Support (grid 530300 180400) Offered 2000 None 0 0) ∷ [];
  turns = [];
  assignments = [];
  points = (point 1 2 (grid 531000 180000) 2) ∷ (point 2 1 (grid 530201 180000) 1) ∷ [];
  loans = (loan A2 1 2 5340 8353 false) ∷ [];
  offers = (offer B2 2 1 1662 2662) ∷ [];
  reports =
      (report A1 1 button.Scene 0 (grid 530300 180400) 1663 1 Wrong OffDuty true)
      ∷ (report A1 2 button.Mobile 0 (grid 530000 180000) 2697 1 Wrong OffDuty false)
      ∷ (report A1 3 button.Hospital 0 (grid 530100 180000) 4658 1 Wrong OffDuty false)
      ∷ (report A2 1 button.Scene 0 (grid 530100 180000) 5709 2 Wrong Available false)
      ∷ (report A3 1 button.Scene 0 (grid 530100 180000) 4477 2 Wrong Available false)
      ∷ (report A3 3 button.Return 0 (grid 531000 180000) 5129 2 Wrong Available false)
      ∷ (report B1 1 button.Home 0 (grid 530000 180000) 5346 1 Normal Available false) ∷ [];
}

give_back_11 : Steps (at 5981 (Desk 2) (ask.GiveBack A2)) before_give_back_11 (Ok answer.Done)
    (record before_give_back_11 {
      vehicles =
          (vehicle A1 1 1 Ambulance (grid 530201 180000) Available 4664 (Some 2) 0 3)
          ∷ (vehicle A2 1 1 Ambulance (grid 560100 180000) Available 40000 None 0 1)
          ∷ (vehicle A3 2 2 Ambulance (grid 530100 180100) Available 2000 None 0 3)
          ∷ (vehicle B1 1 1 Car (grid 530000 180000) Available 8252 (Some 2) 0 1)
          ∷ (vehicle B2 2 2 Support (grid 530300 180400) Offered 2000 None 0 0) ∷ [];
      loans = [];
    })
unfolding machine
give_back_11 = (refl, refl)

abbrev before_give_back_no_such_loan : Room
before_give_back_no_such_loan = record {
  plan = two_divisions;
  divisions = (division 1 2147483647) ∷ (division 2 2147483647) ∷ [];
  incidents = [];
  calls = [];
  vehicles =
      (vehicle A1 1 1 Ambulance (grid 530000 180000) Available 40000 None 0 0)
      ∷ (vehicle A2 1 1 Ambulance (grid 531000 180000) Available 40000 None 0 0) ∷ [];
  turns = [];
  assignments = [];
  points = [];
  loans = [];
  offers = [];
  reports = [];
}

give_back_no_such_loan : Steps (at 1301 (Desk 1) (ask.GiveBack A1)) before_give_back_no_such_loan
    (Err refusal.NoSuchLoan) before_give_back_no_such_loan
unfolding machine
give_back_no_such_loan = (refl, refl)

abbrev before_give_back_no_such_vehicle : Room
before_give_back_no_such_vehicle = record {
  plan = two_divisions;
  divisions = (division 1 0) ∷ (division 2 0) ∷ [];
  incidents = [];
  calls = [];
  vehicles =
      (vehicle A1 1 1 Ambulance (grid 530100 180100) Available 2000 None 0 0)
      ∷ (vehicle A2 1 1 Ambulance (grid 530000 180000) OffDuty 0 None 0 0) ∷ [];
  turns = [];
  assignments = [];
  points = [];
  loans = [];
  offers = [];
  reports = [];
}

give_back_no_such_vehicle : Steps
    (at 1161 (Desk 2) (ask.GiveBack A2)) before_give_back_no_such_vehicle
    (Err refusal.NoSuchVehicle) before_give_back_no_such_vehicle
unfolding machine
give_back_no_such_vehicle = (refl, refl)

abbrev before_give_back_still_assigned : Room
before_give_back_still_assigned = record {
  plan = two_divisions;
  divisions = (division 1 1) ∷ (division 2 0) ∷ [];
  incidents = (incident 1 1 (grid 530100 180100) 2 (needs 2 1 1) 2112 (Some 3715) Active) ∷ [];
  calls =
      (call 2 3 1 1 1 false (grid 530100 180100) 2 (needs 2 1 1) [] 2112)
      ∷ (call 2 5 1 1 1 true (grid 530100 180000) 2 (needs 0 1 0) [] 2564) ∷ [];
  vehicles =
      (vehicle A1 1 1 Ambulance (grid 530100 180100) OffDuty 0 None 0 1)
      ∷ (vehicle A2 2 1 Car (grid 530201 180000) Mobilised 40000 None 1 3)
      ∷ (vehicle A3 2 2 Ambulance (grid 531000 180000) Available 3655 None 0 0) ∷ [];
  turns = (turn A2 1 1 1 Car 3715 None None None None None false) ∷ [];
  assignments = (assignment A2 1 1 1 (grid 530100 180100) 2) ∷ [];
  points = [];
  loans = (loan A2 2 1 40000 2903 false) ∷ [];
  offers = [];
  reports =
      (report A1 1 button.Hospital 0 (grid 530200 180000) 1579 1 Wrong OffDuty false)
      ∷ (report A2 1 button.Return 0 (grid 530201 180000) 1030 2 Wrong Available false)
      ∷ (report A2 2 button.Hospital 0 (grid 530300 180400) 2232 2 Late Available false)
      ∷ (report A2 3 button.Hospital 0 (grid 530200 180000) 1298 2 Wrong Available false) ∷ [];
}

give_back_still_assigned : Steps (at 4016 (Desk 1) (ask.GiveBack A2))
    before_give_back_still_assigned (Err refusal.StillAssigned) before_give_back_still_assigned
unfolding machine
give_back_still_assigned = (refl, refl)

abbrev before_give_back_vehicle_lent : Room
before_give_back_vehicle_lent = record {
  plan = two_divisions;
  divisions = (division 1 3) ∷ (division 2 0) ∷ [];
  incidents = [];
  calls = [];
  vehicles =
      (vehicle A1 1 1 Car (grid 530201 180000) OffDuty 0 None 0 0)
      ∷ (vehicle A2 2 1 Ambulance (grid 530200 180000) Available 5000 None 0 0)
      ∷ (vehicle A3 1 1 Ambulance (grid 560100 180000) Available 5000 None 0 0) ∷ [];
  turns = [];
  assignments = [];
  points = [];
  loans = (loan A2 2 1 1697 2092 false) ∷ [];
  offers = [];
  reports = [];
}

give_back_vehicle_lent : Steps (at 1677 (Desk 2) (ask.GiveBack A2)) before_give_back_vehicle_lent
    (Err refusal.VehicleLent) before_give_back_vehicle_lent
unfolding machine
give_back_vehicle_lent = (refl, refl)

abbrev before_loans_0 : Room
before_loans_0 = record {
  plan = overlapping_divisions;
  divisions = (division 1 3) ∷ (division 7 0) ∷ [];
  incidents = [];
  calls = [];
  vehicles =
      (vehicle A1 1 1 Ambulance (grid 560200 180000) OffDuty 0 None 0 0)
      ∷ (vehicle A2 7 7 Car (grid 560000 180000) Available 2000 None 0 0) ∷ [];
  turns = [];
  assignments = [];
  points = [];
  loans = [];
  offers = [];
  reports = [];
}

loans_0 : Steps (at 1482 (Desk 7) ask.Loans) before_loans_0 (Ok (answer.Loans ([]))) before_loans_0
unfolding machine
loans_0 = (refl, refl)

abbrev before_loans_1 : Room
before_loans_1 = record {
  plan = two_divisions;
  divisions = (division 1 0) ∷ (division 2 0) ∷ [];
  incidents = [];
  calls = [];
  vehicles =
      (vehicle A1 1 1 Ambulance (grid 560100 180000) OffDuty 0 None 0 1)
      ∷ (vehicle A2 1 1 Ambulance (grid 530100 180000) OffDuty 5000 None 0 0)
      ∷ (vehicle A3 1 2 Ambulance (grid 530100 180100) Available 40000 None 0 0) ∷ [];
  turns = [];
  assignments = [];
  points = [];
  loans = (loan A3 1 2 1042 40099 false) ∷ [];
  offers = [];
  reports = (report A1 1 button.Return 0 (grid 530100 180100) 40099 1 Wrong OffDuty false) ∷ [];
}

loans_1 : Steps (at 2005 (Desk 2) ask.Loans) before_loans_1
    (Ok (answer.Loans ((loan A3 1 2 1042 40099 false) ∷ []))) before_loans_1
unfolding machine
loans_1 = (refl, refl)

abbrev before_loans_2 : Room
before_loans_2 = record {
  plan = two_divisions;
  divisions = (division 1 2) ∷ (division 2 0) ∷ [];
  incidents =
      (incident 1 1 (grid 530300 180400) 2 (needs 2 1 1) 1417 None Active)
      ∷ (incident 1 2 (grid 530120 180160) 2 (needs 2 1 1) 2953 None Active) ∷ [];
  calls =
      (call 1 4 1 1 1 false (grid 530300 180400) 2 (needs 2 1 1) [] 1417)
      ∷ (call 2 1 1 2 2 false (grid 530120 180160) 2 (needs 2 1 1) [] 2953) ∷ [];
  vehicles =
      (vehicle A1 2 1 Ambulance (grid 530100 180100) Available 2699 None 0 2)
      ∷ (vehicle A2 1 1 Ambulance (grid 530201 180000) Available 40000 None 0 1)
      ∷ (vehicle A3 2 2 Ambulance (grid 530201 180000) Available 2000 None 0 2)
      ∷ (vehicle B1 2 1 Ambulance (grid 531000 180000) Available 5000 None 0 2) ∷ [];
  turns = [];
  assignments = [];
  points = [];
  loans = (loan A1 2 1 3554 2752 false) ∷ (loan B1 2 1 4188 4066 false) ∷ [];
  offers = [];
  reports =
      (report A1 1 button.Position 0 (grid 530201 180000) 1031 2 Normal Available false)
      ∷ (report A1 2 button.Scene 0 (grid 530120 180160) 1452 2 Wrong Available false)
      ∷ (report A2 1 button.Hospital 0 (grid 530100 180100) 4127 1 Wrong Available false)
      ∷ (report A3 1 button.Position 0 (grid 530100 180100) 3434 2 Normal Available false)
      ∷ (report A3 2 button.Position 0 (grid 530201 180000) 3584 2 Normal Available false)
      ∷ (report B1 2 button.Hospital 0 (grid 530200 180000) 2591 2 Wrong Available false) ∷ [];
}

loans_2 : Steps (at 4229 (Desk 2) ask.Loans) before_loans_2
    (Ok (answer.Loans ((loan A1 2 1 3554 2752 false) ∷ (loan B1 2 1 4188 4066 false) ∷ [])))
    before_loans_2
unfolding machine
loans_2 = (refl, refl)

abbrev before_recall : Room
before_recall = record {
  plan = two_divisions;
  divisions = (division 1 0) ∷ (division 2 0) ∷ [];
  incidents = [];
  calls = [];
  vehicles =
      (vehicle A1 2 1 Ambulance (grid 530200 180000) Available 2000 None 0 3)
      ∷ (vehicle A2 2 2 Car (grid 530100 180100) OffDuty 0 None 0 0) ∷ [];
  turns = [];
  assignments = [];
  points = (point 1 2 (grid 530000 180000) 2) ∷ [];
  loans = (loan A1 2 1 2635 1881 true) ∷ [];
  offers = [];
  reports =
      (report A1 1 button.Leave 0 (grid 530000 180000) 1522 2 Wrong Offered false)
      ∷ (report A1 2 button.Position 0 (grid 530000 180000) 1703 2 Normal Offered false)
      ∷ (report A1 3 button.Home 0 (grid 530200 180000) 2605 2 Normal Offered false) ∷ [];
}

recall : Steps (at 2785 (Desk 2) (ask.Recall A1)) before_recall (Ok answer.Done) before_recall
unfolding machine
recall = (refl, refl)

abbrev before_recall_2 : Room
before_recall_2 = record {
  plan = two_divisions;
  divisions = (division 1 1) ∷ (division 2 0) ∷ [];
  incidents = (incident 1 1 (grid 530100 180000) 3 (needs 2 0 0) 1061 None Active) ∷ [];
  calls = (call 1 5 1 1 1 false (grid 530100 180000) 3 (needs 2 0 0) [] 1061) ∷ [];
  vehicles =
      (vehicle A1 2 1 Support (grid 530201 180000) OffDuty 5000 None 0 2)
      ∷ (vehicle A2 2 2 Support (grid 530100 180000) OffDuty 5000 None 0 1) ∷ [];
  turns = [];
  assignments = [];
  points = [];
  loans = (loan A1 2 1 1333 1242 false) ∷ [];
  offers = [];
  reports =
      (report A1 1 button.Scene 0 (grid 530201 180000) 1573 1 Wrong Available true)
      ∷ (report A1 2 button.Mobile 0 (grid 531000 180000) 2175 1 Wrong OffDuty false)
      ∷ (report A2 1 button.Home 0 (grid 530100 180000) 1303 2 Normal Available false) ∷ [];
}

recall_2 : Steps (at 2180 (Desk 2) (ask.Recall A1)) before_recall_2 (Ok answer.Done)
    (record before_recall_2 { loans = (loan A1 2 1 1333 1242 true) ∷ [] })
unfolding machine
recall_2 = (refl, refl)

abbrev before_recall_3 : Room
before_recall_3 = record {
  plan = two_divisions;
  divisions = (division 1 5) ∷ (division 2 1) ∷ [];
  incidents =
      (incident 1 4 (grid 530300 180400) 2 (needs 1 0 0) 2363 None Active)
      ∷ (incident 1 5 (grid 530201 180000) 3 (needs 1 1 0) 2544 None Active)
      ∷ (incident 2 1 (grid 560000 180000) 2 (needs 0 1 0) 1463 (Some 1583) Active) ∷ [];
  calls =
      (call 1 1 2 1 1 false (grid 560000 180000) 2 (needs 0 1 0) [] 1463)
      ∷ (call 2 1 1 5 5 false (grid 530201 180000) 3 (needs 1 1 0) (codes "x") 2544)
      ∷ (call 2 4 1 4 4 false (grid 530300 180400) 2 (needs 1 0 0) [] 2363) ∷ [];
  vehicles =
      (vehicle A1 2 2 Car (grid 530000 180000) Available 40000 None 0 2)
      ∷ (vehicle A2 2 2 Ambulance (grid 531000 180000) Available 2394 None 0 1)
      ∷ (vehicle A3 1 2 Car (grid 530000 180000) Leaving 2000 None 1 1) ∷ [];
  turns = (turn A3 1 2 1 Car 1583 None None (Some 1889) None None false) ∷ [];
  assignments = (assignment A3 2 1 1 (grid 560000 180000) 2) ∷ [];
  points = (point 1 2 (grid 530200 180000) 1) ∷ [];
  loans = (loan A3 1 2 1366 2155 true) ∷ [];
  offers = [];
  reports =
      (report A1 2 button.Return 0 (grid 530200 180000) 2155 2 Wrong Available false)
      ∷ (report A2 1 button.Return 0 (grid 530201 180000) 2155 2 Wrong Available false)
      ∷ (report A3 1 button.Leave 1 (grid 530000 180000) 1889 2 Skipped Leaving false) ∷ [];
}

recall_3 : Steps (at 3471 (Desk 1) (ask.Recall A3)) before_recall_3 (Ok answer.Done) before_recall_3
unfolding machine
recall_3 = (refl, refl)

abbrev before_recall_4 : Room
before_recall_4 = record {
  plan = two_divisions;
  divisions = (division 1 4) ∷ (division 2 0) ∷ [];
  incidents = (incident 1 4 (grid 530000 180000) 1 (needs 2 0 0) 1404 (Some 1825) Active) ∷ [];
  calls = (call 2 4 1 4 4 false (grid 530000 180000) 1 (needs 2 0 0) (codes "x") 1404) ∷ [];
  vehicles =
      (vehicle A1 2 1 Ambulance (grid 530300 180400) AtHospital 5000 None 1 2)
      ∷ (vehicle A2 1 1 Car (grid 530300 180400) Available 5000 None 0 1)
      ∷ (vehicle A3 1 1 Ambulance (grid 560200 180000) Available 5000 None 0 2)
      ∷ (vehicle B1 1 1 Support (grid 530300 180400) Offered 5000 None 0 0)
      ∷ (vehicle B2 1 1 Support (grid 530000 180000) OffDuty 0 None 0 0) ∷ [];
  turns = (turn A1 1 1 4 Ambulance 1825 None None None (Some 2524) None false) ∷ [];
  assignments = (assignment A1 1 4 1 (grid 530000 180000) 1) ∷ [];
  points = [];
  loans = (loan A1 2 1 1524 2524 false) ∷ [];
  offers = (offer B1 1 2 981 1081) ∷ [];
  reports =
      (report A1 1 button.Home 0 (grid 531000 180000) 1343 2 Normal Available false)
      ∷ (report A1 2 button.Hospital 1 (grid 530300 180400) 2524 1 Skipped AtHospital false)
      ∷ (report A2 1 button.Position 0 (grid 530300 180400) 981 1 Normal Available false)
      ∷ (report A3 2 button.Hospital 0 (grid 530100 180100) 1042 1 Wrong Available false) ∷ [];
}

recall_4 : Steps (at 1886 (Desk 2) (ask.Recall A1)) before_recall_4 (Ok answer.Done)
    (record before_recall_4 { loans = (loan A1 2 1 1524 2524 true) ∷ [] })
unfolding machine
recall_4 = (refl, refl)

abbrev before_recall_5 : Room
before_recall_5 = record {
  plan = two_divisions;
  divisions = (division 1 2) ∷ (division 2 1) ∷ [];
  incidents =
      (incident 1 1 (grid 530100 180100) 2 (needs 1 0 1) 1022 None Active)
      ∷ (incident 1 2 (grid 530201 180000) 2 (needs 2 0 0) 2563 None Active)
      ∷ (incident 2 1 (grid 560200 180000) 2 (needs 1 1 0) 1021 (Some 1028) Active) ∷ [];
  calls =
      (call 1 3 1 2 2 false (grid 530201 180000) 2 (needs 2 0 0) [] 2563)
      ∷ (call 1 5 1 1 1 false (grid 530100 180100) 2 (needs 0 0 1) (codes "x") 1022)
      ∷ (call 2 2 1 1 1 true (grid 530000 180000) 2 (needs 1 0 0) [] 1022)
      ∷ (call 2 4 2 1 1 true (grid 560000 180000) 2 (needs 1 0 0) [] 1921)
      ∷ (call 2 6 2 1 1 false (grid 560200 180000) 2 (needs 1 1 0) [] 1021) ∷ [];
  vehicles =
      (vehicle A1 2 2 Ambulance (grid 530100 180100) Available 2000 None 0 0)
      ∷ (vehicle A2 1 2 Car (grid 531000 180000) AtScene 2000 None 1 2)
      ∷ (vehicle A3 2 2 Ambulance (grid 530200 180000) Available 40000 None 0 1)
      ∷ (vehicle B1 1 1 Ambulance (grid 560100 180000) Available 5000 None 0 0)
      ∷ (vehicle B2 1 1 Ambulance (grid 560000 180000) OffDuty 0 None 0 0) ∷ [];
  turns = (turn A2 1 2 1 Car 1028 None (Some 1029) None None None false) ∷ [];
  assignments = (assignment A2 2 1 1 (grid 560200 180000) 2) ∷ [];
  points = [];
  loans = (loan A2 1 2 1041 980 false) ∷ [];
  offers = [];
  reports =
      (report A2 2 button.Scene 1 (grid 531000 180000) 1029 2 Skipped AtScene false)
      ∷ (report A3 1 button.Home 0 (grid 530200 180000) 2021 2 Normal Available false) ∷ [];
}

recall_5 : Steps (at 2593 (Desk 1) (ask.Recall A2)) before_recall_5 (Ok answer.Done)
    (record before_recall_5 { loans = (loan A2 1 2 1041 980 true) ∷ [] })
unfolding machine
recall_5 = (refl, refl)

abbrev before_recall_6 : Room
before_recall_6 = record {
  plan = two_divisions;
  divisions = (division 1 2) ∷ (division 2 2) ∷ [];
  incidents =
      (incident 1 1 (grid 530120 180160) 1 (needs 2 1 1) 1554 (Some 3226) Active)
      ∷ (incident 1 2 (grid 530120 180160) 1 (needs 1 1 0) 2983 None Active)
      ∷ (incident 2 1 (grid 560000 180000) 1 (needs 2 1 1) 981 None Active)
      ∷ (incident 2 2 (grid 560100 180000) 3 (needs 2 1 1) 5014 None Active) ∷ [];
  calls =
      (call 1 2 2 1 1 false (grid 560000 180000) 1 (needs 1 0 0) [] 981)
      ∷ (call 1 3 1 2 2 true (grid 530200 180000) 1 (needs 2 0 0) [] 3883)
      ∷ (call 2 2 1 1 1 false (grid 530120 180160) 1 (needs 2 1 1) [] 1554)
      ∷ (call 2 4 1 1 1 true (grid 530100 180100) 2 (needs 1 0 0) [] 1615)
      ∷ (call 2 5 2 2 2 false (grid 560100 180000) 3 (needs 2 1 1) [] 5014)
      ∷ (call 2 6 1 2 2 false (grid 530120 180160) 1 (needs 1 0 0) [] 2983) ∷ [];
  vehicles =
      (vehicle A1 2 1 Support (grid 560000 180000) Mobilised 40000 None 1 2)
      ∷ (vehicle A2 1 1 Ambulance (grid 530120 180160) Leaving 40000 None 1 2) ∷ [];
  turns =
      (turn A1 1 1 1 Support 3950 None None None None None false)
      ∷ (turn A2 1 1 1 Ambulance 3226 None None (Some 3226) None None false) ∷ [];
  assignments = (assignment A1 1 1 1 (grid 530120 180160) 1) ∷ (assignment A2 1 1 1 (grid 530120 180160) 1) ∷ [];
  points = (point 2 2 (grid 530100 180000) 0) ∷ [];
  loans = (loan A1 2 1 3287 3625 true) ∷ [];
  offers = [];
  reports =
      (report A1 1 button.Scene 0 (grid 530300 180400) 1553 2 Wrong Available true)
      ∷ (report A1 2 button.Scene 0 (grid 530200 180000) 3225 2 Wrong Offered false)
      ∷ (report A2 1 button.Home 1 (grid 530000 180000) 3287 1 Late Leaving false)
      ∷ (report A2 2 button.Leave 1 (grid 530120 180160) 3226 1 Skipped Leaving false) ∷ [];
}

recall_6 : Steps (at 6373 (Desk 2) (ask.Recall A1)) before_recall_6 (Ok answer.Done) before_recall_6
unfolding machine
recall_6 = (refl, refl)

abbrev before_recall_7 : Room
before_recall_7 = record {
  plan = two_divisions;
  divisions = (division 1 2) ∷ (division 2 3) ∷ [];
  incidents =
      (incident 1 1 (grid 530300 180400) 2 (needs 1 1 0) 1624 None Active)
      ∷ (incident 1 2 (grid 530000 180000) 3 (needs 2 0 0) 2465 None Active) ∷ [];
  calls =
      (call 1 1 1 1 1 true (grid 530300 180400) 3 (needs 1 0 0) (codes "x") 1804)
      ∷ (call 1 6 1 1 1 false (grid 530300 180400) 2 (needs 1 1 0) [] 1624)
      ∷ (call 2 5 1 2 2 false (grid 530000 180000) 3 (needs 2 0 0) [] 2465) ∷ [];
  vehicles =
      (vehicle A1 1 1 Car (grid 530000 180000) OffDuty 0 None 0 2)
      ∷ (vehicle A2 1 2 Car (grid 530201 180000) Available 40000 (Some 2) 0 5)
      ∷ (vehicle A3 2 2 Support (grid 530000 180000) Available 3900 None 0 5)
      ∷ (vehicle B1 1 1 Ambulance (grid 530120 180160) OffDuty 0 None 0 1)
      ∷ (vehicle B2 1 1 Ambulance (grid 530100 180000) OffDuty 0 None 0 0) ∷ [];
  turns = [];
  assignments = [];
  points = (point 2 2 (grid 530100 180100) 1) ∷ [];
  loans = (loan A2 1 2 3300 1693 true) ∷ [];
  offers = [];
  reports =
      (report A1 1 button.Hospital 0 (grid 530100 180100) 3270 1 Wrong OffDuty false)
      ∷ (report A1 2 button.Scene 0 (grid 531000 180000) 3400 1 Wrong OffDuty false)
      ∷ (report A2 1 button.Position 0 (grid 530201 180000) 1341 1 Normal Available false)
      ∷ (report A2 3 button.Return 0 (grid 530200 180000) 2608 1 Wrong Offered true)
      ∷ (report A2 5 button.Scene 0 (grid 530100 180000) 3520 2 Wrong Available false)
      ∷ (report A3 1 button.Mobile 0 (grid 530100 180100) 1040 2 Wrong OffDuty false)
      ∷ (report A3 3 button.Return 0 (grid 530100 180000) 2607 2 Wrong OffDuty false)
      ∷ (report A3 4 button.Leave 0 (grid 530120 180160) 3280 2 Wrong OffDuty false)
      ∷ (report A3 5 button.Mobile 0 (grid 530100 180000) 3887 2 Wrong Available false)
      ∷ (report B1 1 button.Return 0 (grid 530200 180000) 1432 1 Wrong OffDuty false) ∷ [];
}

recall_7 : Steps (at 4250 (Desk 1) (ask.Recall A2)) before_recall_7 (Ok answer.Done) before_recall_7
unfolding machine
recall_7 = (refl, refl)

abbrev before_recall_no_such_loan : Room
before_recall_no_such_loan = record {
  plan = two_divisions;
  divisions = (division 1 0) ∷ (division 2 0) ∷ [];
  incidents = [];
  calls = [];
  vehicles =
      (vehicle A1 2 2 Ambulance (grid 560000 180000) Available 5000 None 0 0)
      ∷ (vehicle A2 2 2 Ambulance (grid 530100 180000) OffDuty 0 None 0 0) ∷ [];
  turns = [];
  assignments = [];
  points = [];
  loans = [];
  offers = [];
  reports = [];
}

recall_no_such_loan : Steps (at 1061 (Desk 2) (ask.Recall A2)) before_recall_no_such_loan
    (Err refusal.NoSuchLoan) before_recall_no_such_loan
unfolding machine
recall_no_such_loan = (refl, refl)

abbrev before_recall_no_such_vehicle : Room
before_recall_no_such_vehicle = record {
  plan = two_divisions;
  divisions = (division 1 0) ∷ (division 2 0) ∷ [];
  incidents = [];
  calls = [];
  vehicles =
      (vehicle A1 2 2 Car (grid 560200 180000) Available 5000 None 0 0)
      ∷ (vehicle A2 1 1 Ambulance (grid 560100 180000) Available 40000 None 0 0) ∷ [];
  turns = [];
  assignments = [];
  points = [];
  loans = [];
  offers = [];
  reports = [];
}

recall_no_such_vehicle : Steps (at 1481 (Desk 2) (ask.Recall Z9)) before_recall_no_such_vehicle
    (Err refusal.NoSuchVehicle) before_recall_no_such_vehicle
unfolding machine
recall_no_such_vehicle = (refl, refl)
