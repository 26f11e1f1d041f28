-- Sampled steps: calls that are kept, linked and new, at each limit of distance and age. A program
-- that is independent of this repository, written from the rules in words, made them in random
-- runs; of each kind of step it kept those with the fewest rows.
use Rattle.std.specs.Prelude.{Err, None, Ok, Some, [], codes, false, refl, true, ◌∷◌}
use Rattle.room_types.specs.declared.answers.Answer.TheVariants as answer
use Rattle.room_types.specs.declared.asks.Ask.TheVariants as ask
use Rattle.room_types.specs.declared.asks.Who.TheVariants.{Position}
use Rattle.room_types.specs.declared.codes.Button.TheVariants as button
use Rattle.room_types.specs.declared.codes.Kind.TheVariants.{Ambulance, Car, Support}
use Rattle.room_types.specs.declared.codes.Outcome.TheVariants.{Normal, Wrong}
use Rattle.room_types.specs.declared.codes.State.TheVariants.{Active, Merged}
use Rattle.room_types.specs.declared.codes.Status.TheVariants.{Available, Mobilised, OffDuty}
use Rattle.room_types.specs.declared.codes.Status.TheVariants.{Offered, Returning}
use Rattle.room_types.specs.declared.refusal_statuses.Refusal.TheVariants as refusal
use Rattle.room_model.specs.Room.{Room}
use Rattle.room_model.specs.ComputedDefinitions.{machine}
use Rattle.room_samples.specs.ExampleRows.{assignment, call, call_form, division, grid, incident}
use Rattle.room_samples.specs.ExampleRows.{loan, offer, point, report, turn, vehicle}
use Rattle.room_samples.specs.SampledRooms.{A1, A2, A3, B1, B2, overlapping_divisions}
use Rattle.room_samples.specs.SampledRooms.{two_divisions}
use Rattle.room_samples.specs.SampledSteps.{Steps}
use Rattle.room_model.specs.StepWords.{at, needs}

abbrev before_call_kept : Room
before_call_kept = record {
  plan = two_divisions;
  divisions = (division 1 2) ∷ (division 2 3) ∷ [];
  incidents =
      (incident 1 1 (grid 530100 180100) 1 (needs 2 0 0) 1121 None Active)
      ∷ (incident 1 2 (grid 531000 180000) 1 (needs 1 0 0) 1962 None (Merged 1)) ∷ [];
  calls =
      (call 1 3 1 1 1 false (grid 530100 180100) 2 (needs 2 0 0) (codes "x") 1121)
      ∷ (call 2 3 1 1 2 false (grid 531000 180000) 1 (needs 1 0 0) [] 1962) ∷ [];
  vehicles =
      (vehicle A1 2 2 Ambulance (grid 530100 180000) OffDuty 0 None 0 0)
      ∷ (vehicle A2 1 1 Ambulance (grid 530200 180000) Available 2000 None 0 0)
      ∷ (vehicle A3 1 1 Support (grid 531000 180000) Available 2000 None 0 2) ∷ [];
  turns = [];
  assignments = [];
  points = [];
  loans = [];
  offers = [];
  reports =
      (report A3 1 button.Return 0 (grid 530100 180100) 1422 1 Wrong Available false)
      ∷ (report A3 2 button.Position 0 (grid 531000 180000) 1814 1 Normal Available false) ∷ [];
}

call_kept : Steps (at 2442 (Position 2)
    (ask.Call (call_form 3 (grid 531000 180000) 1 (needs 1 0 0) []))) before_call_kept
    (Ok (answer.Called 1 2 false)) before_call_kept
unfolding machine
call_kept = (refl, refl)

abbrev before_call_kept_2 : Room
before_call_kept_2 = record {
  plan = overlapping_divisions;
  divisions = (division 1 2) ∷ (division 7 3) ∷ [];
  incidents =
      (incident 1 1 (grid 530300 180400) 1 (needs 0 0 1) 2471 None (Merged 2))
      ∷ (incident 1 2 (grid 530100 180100) 1 (needs 1 1 1) 2471 None Active) ∷ [];
  calls =
      (call 1 1 1 2 2 false (grid 530100 180100) 2 (needs 1 1 0) [] 2952)
      ∷ (call 2 5 1 2 1 false (grid 530300 180400) 1 (needs 0 0 1) [] 2471) ∷ [];
  vehicles =
      (vehicle A1 7 7 Car (grid 530200 180000) Available 40000 None 0 2)
      ∷ (vehicle A2 7 7 Car (grid 530201 180000) Available 5000 None 0 2) ∷ [];
  turns = [];
  assignments = [];
  points = (point 1 2 (grid 530300 180400) 0) ∷ [];
  loans = [];
  offers = [];
  reports =
      (report A1 2 button.Scene 0 (grid 530100 180100) 1927 7 Wrong Available false)
      ∷ (report A2 1 button.Leave 0 (grid 530200 180000) 1947 7 Wrong Available false)
      ∷ (report A2 2 button.Position 0 (grid 530201 180000) 1989 7 Normal Available false) ∷ [];
}

call_kept_2 : Steps (at 2952 (Position 2)
    (ask.Call (call_form 5 (grid 530300 180400) 1 (needs 0 0 1) []))) before_call_kept_2
    (Ok (answer.Called 1 1 false)) before_call_kept_2
unfolding machine
call_kept_2 = (refl, refl)

abbrev before_call_kept_3 : Room
before_call_kept_3 = record {
  plan = two_divisions;
  divisions = (division 1 5) ∷ (division 2 0) ∷ [];
  incidents =
      (incident 1 4 (grid 530120 180160) 2 (needs 1 0 0) 1001 None Active)
      ∷ (incident 1 5 (grid 530300 180400) 3 (needs 1 0 0) 1902 None (Merged 4)) ∷ [];
  calls =
      (call 1 2 1 4 4 false (grid 530120 180160) 2 (needs 1 0 0) (codes "x") 1001)
      ∷ (call 2 6 1 4 5 false (grid 530300 180400) 3 (needs 1 0 0) [] 1902) ∷ [];
  vehicles =
      (vehicle A1 2 2 Ambulance (grid 530300 180400) Available 2000 None 0 1)
      ∷ (vehicle A2 1 1 Ambulance (grid 560100 180000) OffDuty 0 None 0 0)
      ∷ (vehicle A3 2 2 Ambulance (grid 530120 180160) Available 5000 None 0 1)
      ∷ (vehicle B1 1 2 Ambulance (grid 530201 180000) Available 5000 None 0 0) ∷ [];
  turns = [];
  assignments = [];
  points = [];
  loans = (loan B1 1 2 2688 2093 false) ∷ [];
  offers = [];
  reports =
      (report A1 1 button.Hospital 0 (grid 530200 180000) 1694 2 Wrong Available false)
      ∷ (report A3 1 button.Leave 0 (grid 530100 180100) 2176 2 Wrong Available false) ∷ [];
}

call_kept_3 : Steps (at 1182 (Position 2)
    (ask.Call (call_form 6 (grid 530300 180400) 3 (needs 1 0 0) []))) before_call_kept_3
    (Ok (answer.Called 1 5 false)) before_call_kept_3
unfolding machine
call_kept_3 = (refl, refl)

abbrev before_call_kept_4 : Room
before_call_kept_4 = record {
  plan = two_divisions;
  divisions = (division 1 5) ∷ (division 2 0) ∷ [];
  incidents =
      (incident 1 4 (grid 530300 180400) 2 (needs 2 1 1) 1030 None (Merged 5))
      ∷ (incident 1 5 (grid 530100 180100) 2 (needs 2 1 1) 1030 None Active) ∷ [];
  calls =
      (call 2 1 1 5 5 false (grid 530100 180100) 2 (needs 1 1 0) [] 1582)
      ∷ (call 2 3 1 5 4 false (grid 530300 180400) 2 (needs 2 1 1) [] 1030) ∷ [];
  vehicles =
      (vehicle A1 2 2 Ambulance (grid 530000 180000) Available 2000 None 0 1)
      ∷ (vehicle A2 2 2 Support (grid 530000 180000) Available 40000 None 0 4) ∷ [];
  turns = [];
  assignments = [];
  points = (point 1 1 (grid 530300 180400) 1) ∷ (point 1 2 (grid 530120 180160) 1) ∷ [];
  loans = [];
  offers = [];
  reports =
      (report A1 1 button.Return 0 (grid 530100 180100) 2085 2 Wrong Available false)
      ∷ (report A2 2 button.Position 0 (grid 530100 180000) 1035 2 Normal Available false)
      ∷ (report A2 3 button.Position 0 (grid 530100 180000) 1582 2 Normal Available false)
      ∷ (report A2 4 button.Position 0 (grid 530000 180000) 1562 2 Normal Available false) ∷ [];
}

call_kept_4 : Steps (at 2812 (Position 2)
    (ask.Call (call_form 3 (grid 530300 180400) 2 (needs 2 1 1) []))) before_call_kept_4
    (Ok (answer.Called 1 4 false)) before_call_kept_4
unfolding machine
call_kept_4 = (refl, refl)

abbrev before_call_linked : Room
before_call_linked = record {
  plan = overlapping_divisions;
  divisions = (division 1 1) ∷ (division 7 0) ∷ [];
  incidents = (incident 1 1 (grid 530201 180000) 3 (needs 0 1 0) 1167 None Active) ∷ [];
  calls = (call 2 2 1 1 1 false (grid 530201 180000) 3 (needs 0 1 0) [] 1167) ∷ [];
  vehicles =
      (vehicle A1 7 7 Support (grid 530100 180000) OffDuty 5000 None 0 0)
      ∷ (vehicle A2 1 1 Support (grid 530300 180400) Available 1506 None 0 0) ∷ [];
  turns = [];
  assignments = [];
  points = [];
  loans = [];
  offers = [];
  reports = [];
}

call_linked : Steps (at 1147 (Position 1)
    (ask.Call (call_form 5 (grid 530100 180100) 1 (needs 0 1 0) []))) before_call_linked
    (Ok (answer.Called 1 1 true)) (record before_call_linked {
      incidents = (incident 1 1 (grid 530201 180000) 1 (needs 0 1 0) 1147 None Active)
          ∷ [];
      calls = (call 1 5 1 1 1 true (grid 530100 180100) 1 (needs 0 1 0) [] 1147)
          ∷ (call 2 2 1 1 1 false (grid 530201 180000) 3 (needs 0 1 0) [] 1167) ∷ [];
    })
unfolding machine
call_linked = (refl, refl)

abbrev before_call_linked_2 : Room
before_call_linked_2 = record {
  plan = overlapping_divisions;
  divisions = (division 1 1) ∷ (division 7 0) ∷ [];
  incidents = (incident 1 1 (grid 530300 180400) 3 (needs 0 0 1) 1030 None Active) ∷ [];
  calls = (call 2 2 1 1 1 false (grid 530300 180400) 3 (needs 0 0 1) [] 1030) ∷ [];
  vehicles =
      (vehicle A1 1 1 Ambulance (grid 560100 180000) Available 5000 None 2147483647 0)
      ∷ (vehicle A2 7 7 Ambulance (grid 530201 180000) OffDuty 0 None 0 0) ∷ [];
  turns = [];
  assignments = [];
  points = [];
  loans = [];
  offers = [];
  reports = [];
}

call_linked_2 : Steps (at 1010 (Position 2)
    (ask.Call (call_form 4 (grid 530300 180400) 3 (needs 1 0 0) []))) before_call_linked_2
    (Ok (answer.Called 1 1 true)) (record before_call_linked_2 {
      incidents = (incident 1 1 (grid 530300 180400) 3 (needs 1 0 1) 1010 None Active)
          ∷ [];
      calls = (call 2 2 1 1 1 false (grid 530300 180400) 3 (needs 0 0 1) [] 1030)
          ∷ (call 2 4 1 1 1 true (grid 530300 180400) 3 (needs 1 0 0) [] 1010) ∷ [];
    })
unfolding machine
call_linked_2 = (refl, refl)

abbrev before_call_linked_3 : Room
before_call_linked_3 = record {
  plan = two_divisions;
  divisions = (division 1 1) ∷ (division 2 0) ∷ [];
  incidents = (incident 1 1 (grid 530000 180000) 1 (needs 2 1 1) 980 None Active) ∷ [];
  calls = (call 1 3 1 1 1 false (grid 530000 180000) 1 (needs 2 1 1) (codes "x") 980) ∷ [];
  vehicles =
      (vehicle A1 1 1 Ambulance (grid 560200 180000) Available 2000 None 2147483647 0)
      ∷ (vehicle A2 2 2 Ambulance (grid 560000 180000) Available 2000 None 0 0)
      ∷ (vehicle A3 1 1 Car (grid 530300 180400) Available 5000 None 0 0) ∷ [];
  turns = [];
  assignments = [];
  points = [];
  loans = [];
  offers = [];
  reports = [];
}

call_linked_3 : Steps (at 1880 (Position 1)
    (ask.Call (call_form 5 (grid 530200 180000) 1 (needs 2 1 1) (codes "x")))) before_call_linked_3
    (Ok (answer.Called 1 1 true)) (record before_call_linked_3 {
      calls = (call 1 3 1 1 1 false (grid 530000 180000) 1 (needs 2 1 1) (codes "x") 980)
          ∷ (call 1 5 1 1 1 true (grid 530200 180000) 1 (needs 2 1 1) (codes "x") 1880)
          ∷ [];
    })
unfolding machine
call_linked_3 = (refl, refl)

abbrev before_call_linked_4 : Room
before_call_linked_4 = record {
  plan = two_divisions;
  divisions = (division 1 1) ∷ (division 2 0) ∷ [];
  incidents = (incident 1 1 (grid 530120 180160) 3 (needs 1 1 0) 1481 None Active) ∷ [];
  calls = (call 1 5 1 1 1 false (grid 530120 180160) 3 (needs 1 1 0) [] 1481) ∷ [];
  vehicles =
      (vehicle A1 2 2 Support (grid 530100 180000) OffDuty 0 None 0 0)
      ∷ (vehicle A2 1 1 Car (grid 530100 180100) Available 2000 None 0 0)
      ∷ (vehicle A3 1 1 Car (grid 530200 180000) OffDuty 0 None 0 0) ∷ [];
  turns = [];
  assignments = [];
  points = [];
  loans = [];
  offers = [];
  reports = [];
}

call_linked_4 : Steps (at 2381 (Position 1)
    (ask.Call (call_form 3 (grid 530000 180000) 2 (needs 2 0 0) []))) before_call_linked_4
    (Ok (answer.Called 1 1 true)) (record before_call_linked_4 {
      incidents = (incident 1 1 (grid 530120 180160) 2 (needs 2 1 0) 1481 None Active)
          ∷ [];
      calls = (call 1 3 1 1 1 true (grid 530000 180000) 2 (needs 2 0 0) [] 2381)
          ∷ (call 1 5 1 1 1 false (grid 530120 180160) 3 (needs 1 1 0) [] 1481) ∷ [];
    })
unfolding machine
call_linked_4 = (refl, refl)

abbrev before_call_linked_5 : Room
before_call_linked_5 = record {
  plan = two_divisions;
  divisions = (division 1 4) ∷ (division 2 3) ∷ [];
  incidents = (incident 1 4 (grid 530120 180160) 2 (needs 2 1 1) 1608 None Active) ∷ [];
  calls = (call 2 3 1 4 4 false (grid 530120 180160) 2 (needs 2 1 1) [] 1608) ∷ [];
  vehicles =
      (vehicle A1 2 2 Ambulance (grid 530201 180000) Available 5000 None 0 0)
      ∷ (vehicle A2 1 1 Car (grid 530120 180160) Available 40000 None 0 2)
      ∷ (vehicle A3 1 1 Support (grid 530100 180100) Available 1505 None 0 0) ∷ [];
  turns = [];
  assignments = [];
  points = [];
  loans = [];
  offers = [];
  reports = (report A2 2 button.Hospital 0 (grid 530000 180000) 1066 1 Wrong Available false) ∷ [];
}

call_linked_5 : Steps (at 2508 (Position 1)
    (ask.Call (call_form 4 (grid 530000 180000) 3 (needs 1 0 0) (codes "x")))) before_call_linked_5
    (Ok (answer.Called 1 4 true)) (record before_call_linked_5 {
      calls = (call 1 4 1 4 4 true (grid 530000 180000) 3 (needs 1 0 0) (codes "x") 2508)
          ∷ (call 2 3 1 4 4 false (grid 530120 180160) 2 (needs 2 1 1) [] 1608) ∷ [];
    })
unfolding machine
call_linked_5 = (refl, refl)

abbrev before_call_linked_6 : Room
before_call_linked_6 = record {
  plan = overlapping_divisions;
  divisions = (division 1 5) ∷ (division 7 0) ∷ [];
  incidents =
      (incident 1 4 (grid 530201 180000) 3 (needs 1 0 0) 1030 None Active)
      ∷ (incident 1 5 (grid 530100 180100) 1 (needs 0 1 0) 4630 None Active) ∷ [];
  calls =
      (call 1 2 1 4 4 false (grid 530201 180000) 3 (needs 1 0 0) [] 1030)
      ∷ (call 1 6 1 5 5 false (grid 530100 180100) 1 (needs 0 1 0) [] 4630) ∷ [];
  vehicles =
      (vehicle A1 7 7 Ambulance (grid 530200 180000) Available 5000 None 0 0)
      ∷ (vehicle A2 1 1 Support (grid 530100 180000) Available 5000 None 0 0) ∷ [];
  turns = [];
  assignments = [];
  points = [];
  loans = [];
  offers = [];
  reports = [];
}

call_linked_6 : Steps (at 1762 (Position 1)
    (ask.Call (call_form 5 (grid 530120 180160) 2 (needs 2 0 0) (codes "x")))) before_call_linked_6
    (Ok (answer.Called 1 5 true)) (record before_call_linked_6 {
      incidents = (incident 1 4 (grid 530201 180000) 3 (needs 1 0 0) 1030 None Active)
          ∷ (incident 1 5 (grid 530100 180100) 1 (needs 2 1 0) 1762 None Active)
          ∷ [];
      calls = (call 1 2 1 4 4 false (grid 530201 180000) 3 (needs 1 0 0) [] 1030)
          ∷ (call 1 5 1 5 5 true (grid 530120 180160) 2 (needs 2 0 0) (codes "x") 1762)
          ∷ (call 1 6 1 5 5 false (grid 530100 180100) 1 (needs 0 1 0) [] 4630) ∷ [];
    })
unfolding machine
call_linked_6 = (refl, refl)

abbrev before_call_linked_7 : Room
before_call_linked_7 = record {
  plan = overlapping_divisions;
  divisions = (division 1 2) ∷ (division 7 0) ∷ [];
  incidents =
      (incident 1 1 (grid 530201 180000) 2 (needs 0 0 1) 1962 None Active)
      ∷ (incident 1 2 (grid 530100 180000) 3 (needs 1 1 0) 2863 None Active) ∷ [];
  calls =
      (call 1 6 1 2 2 false (grid 530100 180000) 3 (needs 1 1 0) [] 2863)
      ∷ (call 2 4 1 1 1 false (grid 530201 180000) 2 (needs 0 0 1) [] 1962) ∷ [];
  vehicles =
      (vehicle A1 1 1 Ambulance (grid 530100 180100) OffDuty 0 None 0 0)
      ∷ (vehicle A2 7 7 Support (grid 530100 180000) Available 5000 None 2147483647 1) ∷ [];
  turns = [];
  assignments = [];
  points = [];
  loans = [];
  offers = [];
  reports = (report A2 1 button.Hospital 2147483647 (grid 530200 180000) 2383 7 Wrong Available false) ∷ [];
}

call_linked_7 : Steps (at 2844 (Position 1)
    (ask.Call (call_form 2 (grid 530120 180160) 1 (needs 2 1 1) []))) before_call_linked_7
    (Ok (answer.Called 1 2 true)) (record before_call_linked_7 {
      incidents = (incident 1 1 (grid 530201 180000) 2 (needs 0 0 1) 1962 None Active)
          ∷ (incident 1 2 (grid 530100 180000) 1 (needs 2 1 1) 2844 None Active)
          ∷ [];
      calls = (call 1 2 1 2 2 true (grid 530120 180160) 1 (needs 2 1 1) [] 2844)
          ∷ (call 1 6 1 2 2 false (grid 530100 180000) 3 (needs 1 1 0) [] 2863)
          ∷ (call 2 4 1 1 1 false (grid 530201 180000) 2 (needs 0 0 1) [] 1962) ∷ [];
    })
unfolding machine
call_linked_7 = (refl, refl)

abbrev before_call_linked_8 : Room
before_call_linked_8 = record {
  plan = two_divisions;
  divisions = (division 1 2) ∷ (division 2 0) ∷ [];
  incidents =
      (incident 1 1 (grid 530000 180000) 3 (needs 1 1 0) 1903 None Active)
      ∷ (incident 1 2 (grid 530000 180000) 2 (needs 2 1 1) 5504 None Active) ∷ [];
  calls =
      (call 2 1 1 1 1 false (grid 530000 180000) 3 (needs 1 1 0) [] 1903)
      ∷ (call 2 4 1 2 2 false (grid 530000 180000) 2 (needs 2 1 1) [] 5504) ∷ [];
  vehicles =
      (vehicle A1 1 1 Ambulance (grid 530120 180160) OffDuty 0 None 0 0)
      ∷ (vehicle A2 1 1 Ambulance (grid 530201 180000) Available 2000 None 0 1) ∷ [];
  turns = [];
  assignments = [];
  points = [];
  loans = [];
  offers = [];
  reports = (report A2 1 button.Home 0 (grid 530201 180000) 1722 1 Normal Available false) ∷ [];
}

call_linked_8 : Steps (at 2803 (Position 1)
    (ask.Call (call_form 2 (grid 530120 180160) 1 (needs 0 1 0) []))) before_call_linked_8
    (Ok (answer.Called 1 1 true)) (record before_call_linked_8 {
      incidents = (incident 1 1 (grid 530000 180000) 1 (needs 1 1 0) 1903 None Active)
          ∷ (incident 1 2 (grid 530000 180000) 2 (needs 2 1 1) 5504 None Active)
          ∷ [];
      calls = (call 1 2 1 1 1 true (grid 530120 180160) 1 (needs 0 1 0) [] 2803)
          ∷ (call 2 1 1 1 1 false (grid 530000 180000) 3 (needs 1 1 0) [] 1903)
          ∷ (call 2 4 1 2 2 false (grid 530000 180000) 2 (needs 2 1 1) [] 5504) ∷ [];
    })
unfolding machine
call_linked_8 = (refl, refl)

abbrev before_call_linked_9 : Room
before_call_linked_9 = record {
  plan = two_divisions;
  divisions = (division 1 2) ∷ (division 2 0) ∷ [];
  incidents =
      (incident 1 1 (grid 530000 180000) 3 (needs 2 1 1) 1092 None Active)
      ∷ (incident 1 2 (grid 530201 180000) 2 (needs 1 0 0) 1573 None Active) ∷ [];
  calls =
      (call 1 4 1 2 2 false (grid 530201 180000) 2 (needs 1 0 0) (codes "x") 1573)
      ∷ (call 1 5 1 1 1 false (grid 530000 180000) 3 (needs 2 1 1) [] 1092) ∷ [];
  vehicles =
      (vehicle A1 2 2 Ambulance (grid 530300 180400) OffDuty 0 None 0 1)
      ∷ (vehicle A2 1 1 Ambulance (grid 560100 180000) Available 2000 None 0 2) ∷ [];
  turns = [];
  assignments = [];
  points = [];
  loans = [];
  offers = [];
  reports =
      (report A1 1 button.Return 0 (grid 530100 180000) 1062 2 Wrong OffDuty false)
      ∷ (report A2 2 button.Scene 0 (grid 531000 180000) 1693 1 Wrong Available false) ∷ [];
}

call_linked_9 : Steps (at 1678 (Position 2)
    (ask.Call (call_form 2 (grid 530120 180160) 2 (needs 1 0 0) []))) before_call_linked_9
    (Ok (answer.Called 1 2 true)) (record before_call_linked_9 {
      calls = (call 1 4 1 2 2 false (grid 530201 180000) 2 (needs 1 0 0) (codes "x") 1573)
          ∷ (call 1 5 1 1 1 false (grid 530000 180000) 3 (needs 2 1 1) [] 1092)
          ∷ (call 2 2 1 2 2 true (grid 530120 180160) 2 (needs 1 0 0) [] 1678) ∷ [];
    })
unfolding machine
call_linked_9 = (refl, refl)

abbrev before_call_linked_10 : Room
before_call_linked_10 = record {
  plan = overlapping_divisions;
  divisions = (division 1 2) ∷ (division 7 0) ∷ [];
  incidents =
      (incident 1 1 (grid 530100 180100) 2 (needs 2 0 0) 1333 None Active)
      ∷ (incident 1 2 (grid 530201 180000) 2 (needs 2 1 1) 2234 None Active) ∷ [];
  calls =
      (call 1 4 1 1 1 false (grid 530100 180100) 2 (needs 2 0 0) [] 1333)
      ∷ (call 1 6 1 2 2 false (grid 530201 180000) 2 (needs 2 1 1) [] 2234) ∷ [];
  vehicles =
      (vehicle A1 7 7 Car (grid 560200 180000) Offered 40000 None 0 0)
      ∷ (vehicle A2 1 1 Support (grid 530120 180160) Available 5000 None 0 1) ∷ [];
  turns = [];
  assignments = [];
  points = [];
  loans = [];
  offers = (offer A1 7 1 1061 1161) ∷ [];
  reports = (report A2 1 button.Mobile 0 (grid 530100 180000) 1303 1 Wrong Available false) ∷ [];
}

call_linked_10 : Steps (at 2233 (Position 2)
    (ask.Call (call_form 5 (grid 530200 180000) 2 (needs 2 1 1) (codes "x"))))
    before_call_linked_10 (Ok (answer.Called 1 2 true))
    (record before_call_linked_10 {
      incidents =
          (incident 1 1 (grid 530100 180100) 2 (needs 2 0 0) 1333 None Active)
          ∷ (incident 1 2 (grid 530201 180000) 2 (needs 2 1 1) 2233 None Active)
          ∷ [];
      calls = (call 1 4 1 1 1 false (grid 530100 180100) 2 (needs 2 0 0) [] 1333)
          ∷ (call 1 6 1 2 2 false (grid 530201 180000) 2 (needs 2 1 1) [] 2234)
          ∷ (call 2 5 1 2 2 true (grid 530200 180000) 2 (needs 2 1 1) (codes "x") 2233) ∷ [];
    })
unfolding machine
call_linked_10 = (refl, refl)

abbrev before_call_linked_11 : Room
before_call_linked_11 = record {
  plan = two_divisions;
  divisions = (division 1 2) ∷ (division 2 0) ∷ [];
  incidents =
      (incident 1 1 (grid 530000 180000) 1 (needs 1 1 0) 1030 None Active)
      ∷ (incident 1 2 (grid 530201 180000) 2 (needs 0 1 0) 1210 None Active) ∷ [];
  calls =
      (call 1 3 1 2 2 false (grid 530201 180000) 2 (needs 0 1 0) [] 1210)
      ∷ (call 2 3 1 1 1 false (grid 530000 180000) 1 (needs 1 1 0) (codes "x") 1030) ∷ [];
  vehicles =
      (vehicle A1 2 2 Ambulance (grid 530300 180400) Available 2000 None 0 0)
      ∷ (vehicle A2 2 2 Ambulance (grid 530100 180100) Available 5000 None 0 0)
      ∷ (vehicle A3 2 2 Support (grid 530300 180400) Available 40000 None 0 0) ∷ [];
  turns = [];
  assignments = [];
  points = (point 2 2 (grid 530120 180160) 1) ∷ [];
  loans = [];
  offers = [];
  reports = [];
}

call_linked_11 : Steps (at 1411 (Position 2)
    (ask.Call (call_form 4 (grid 530200 180000) 2 (needs 2 1 1) []))) before_call_linked_11
    (Ok (answer.Called 1 2 true)) (record before_call_linked_11 {
      incidents = (incident 1 1 (grid 530000 180000) 1 (needs 1 1 0) 1030 None Active)
          ∷ (incident 1 2 (grid 530201 180000) 2 (needs 2 1 1) 1210 None Active)
          ∷ [];
      calls = (call 1 3 1 2 2 false (grid 530201 180000) 2 (needs 0 1 0) [] 1210)
          ∷ (call 2 3 1 1 1 false (grid 530000 180000) 1 (needs 1 1 0) (codes "x") 1030)
          ∷ (call 2 4 1 2 2 true (grid 530200 180000) 2 (needs 2 1 1) [] 1411) ∷ [];
    })
unfolding machine
call_linked_11 = (refl, refl)

abbrev before_call_linked_12 : Room
before_call_linked_12 = record {
  plan = two_divisions;
  divisions = (division 1 2) ∷ (division 2 0) ∷ [];
  incidents =
      (incident 1 1 (grid 530120 180160) 3 (needs 1 1 0) 1240 (Some 1421) Active)
      ∷ (incident 1 2 (grid 530100 180000) 2 (needs 0 1 0) 2141 None Active) ∷ [];
  calls =
      (call 2 1 1 1 1 false (grid 530120 180160) 3 (needs 1 1 0) (codes "x") 1240)
      ∷ (call 2 2 1 2 2 false (grid 530100 180000) 2 (needs 0 1 0) (codes "x") 2141) ∷ [];
  vehicles =
      (vehicle A1 2 2 Ambulance (grid 560200 180000) OffDuty 0 None 0 0)
      ∷ (vehicle A2 1 1 Ambulance (grid 530000 180000) Mobilised 5000 None 1 0) ∷ [];
  turns = (turn A2 1 1 1 Ambulance 1421 None None None None None false) ∷ [];
  assignments = (assignment A2 1 1 1 (grid 530120 180160) 3) ∷ [];
  points = [];
  loans = [];
  offers = [];
  reports = [];
}

call_linked_12 : Steps (at 1406 (Position 1)
    (ask.Call (call_form 3 (grid 530201 180000) 1 (needs 0 1 0) []))) before_call_linked_12
    (Ok (answer.Called 1 2 true)) (record before_call_linked_12 {
      incidents = (incident 1 1 (grid 530120 180160) 3 (needs 1 1 0) 1240
          (Some 1421) Active) ∷ (incident 1 2 (grid 530100 180000) 1
          (needs 0 1 0) 1406 None Active) ∷ [];
      calls =
          (call 1 3 1 2 2 true (grid 530201 180000) 1 (needs 0 1 0) [] 1406)
          ∷ (call 2 1 1 1 1 false (grid 530120 180160) 3 (needs 1 1 0) (codes "x") 1240)
          ∷ (call 2 2 1 2 2 false (grid 530100 180000) 2 (needs 0 1 0) (codes "x") 2141)
          ∷ [];
    })
unfolding machine
call_linked_12 = (refl, refl)

abbrev before_call_linked_13 : Room
before_call_linked_13 = record {
  plan = two_divisions;
  divisions = (division 1 2) ∷ (division 2 0) ∷ [];
  incidents =
      (incident 1 1 (grid 530000 180000) 3 (needs 0 1 0) 1005 None Active)
      ∷ (incident 1 2 (grid 530120 180160) 2 (needs 0 0 1) 1906 None Active) ∷ [];
  calls =
      (call 2 3 1 2 2 false (grid 530120 180160) 2 (needs 0 0 1) [] 1906)
      ∷ (call 2 4 1 1 1 false (grid 530000 180000) 3 (needs 0 1 0) [] 1005) ∷ [];
  vehicles =
      (vehicle A1 2 2 Ambulance (grid 560000 180000) OffDuty 0 None 0 0)
      ∷ (vehicle A2 2 2 Ambulance (grid 530100 180100) Available 5371 None 0 0)
      ∷ (vehicle A3 2 2 Car (grid 530100 180000) OffDuty 0 None 0 0)
      ∷ (vehicle B1 2 2 Car (grid 530000 180000) Available 5000 None 2147483647 0)
      ∷ (vehicle B2 1 1 Ambulance (grid 530201 180000) OffDuty 0 None 0 0) ∷ [];
  turns = [];
  assignments = [];
  points = [];
  loans = [];
  offers = [];
  reports = [];
}

call_linked_13 : Steps (at 1906 (Position 1)
    (ask.Call (call_form 5 (grid 530100 180000) 2 (needs 1 0 0) []))) before_call_linked_13
    (Ok (answer.Called 1 2 true)) (record before_call_linked_13 {
      incidents = (incident 1 1 (grid 530000 180000) 3 (needs 0 1 0) 1005 None Active)
          ∷ (incident 1 2 (grid 530120 180160) 2 (needs 1 0 1) 1906 None Active)
          ∷ [];
      calls = (call 1 5 1 2 2 true (grid 530100 180000) 2 (needs 1 0 0) [] 1906)
          ∷ (call 2 3 1 2 2 false (grid 530120 180160) 2 (needs 0 0 1) [] 1906)
          ∷ (call 2 4 1 1 1 false (grid 530000 180000) 3 (needs 0 1 0) [] 1005) ∷ [];
    })
unfolding machine
call_linked_13 = (refl, refl)

abbrev before_call_linked_14 : Room
before_call_linked_14 = record {
  plan = two_divisions;
  divisions = (division 1 6) ∷ (division 2 0) ∷ [];
  incidents =
      (incident 1 4 (grid 530000 180000) 1 (needs 2 1 1) 2295 None Active)
      ∷ (incident 1 5 (grid 530100 180000) 3 (needs 2 1 1) 3196 None Active)
      ∷ (incident 1 6 (grid 530100 180100) 1 (needs 1 0 0) 6797 None Active) ∷ [];
  calls =
      (call 1 5 1 5 5 false (grid 530100 180000) 3 (needs 2 1 1) [] 3196)
      ∷ (call 2 2 1 6 6 false (grid 530100 180100) 1 (needs 1 0 0) (codes "x") 6797)
      ∷ (call 2 4 1 4 4 false (grid 530000 180000) 1 (needs 2 1 1) (codes "x") 2295) ∷ [];
  vehicles =
      (vehicle A1 2 2 Car (grid 531000 180000) Available 1591 None 0 1)
      ∷ (vehicle A2 2 2 Ambulance (grid 530100 180000) Offered 2000 None 0 1)
      ∷ (vehicle A3 1 1 Ambulance (grid 530120 180160) Available 2000 None 0 0) ∷ [];
  turns = [];
  assignments = [];
  points = (point 2 2 (grid 530100 180100) 1) ∷ [];
  loans = [];
  offers = (offer A2 2 1 1592 1592) ∷ [];
  reports =
      (report A1 1 button.Mobile 0 (grid 531000 180000) 1994 2 Wrong Available false)
      ∷ (report A2 1 button.Scene 0 (grid 530201 180000) 2638 2 Wrong Available false) ∷ [];
}

call_linked_14 : Steps (at 2758 (Position 1)
    (ask.Call (call_form 4 (grid 530200 180000) 2 (needs 1 1 0) (codes "x"))))
    before_call_linked_14 (Ok (answer.Called 1 5 true))
    (record before_call_linked_14 {
      incidents =
          (incident 1 4 (grid 530000 180000) 1 (needs 2 1 1) 2295 None Active)
          ∷ (incident 1 5 (grid 530100 180000) 2 (needs 2 1 1) 2758 None Active)
          ∷ (incident 1 6 (grid 530100 180100) 1 (needs 1 0 0) 6797 None Active)
          ∷ [];
      calls = (call 1 4 1 5 5 true (grid 530200 180000) 2 (needs 1 1 0)
          (codes "x") 2758) ∷ (call 1 5 1 5 5 false (grid 530100 180000) 3
          (needs 2 1 1) [] 3196) ∷ (call 2 2 1 6 6 false (grid 530100 180100) 1 (needs 1 0 0)
          (codes "x") 6797) ∷ (call 2 4 1 4 4 false (grid 530000 180000) 1 (needs 2 1 1)
          (codes "x") 2295) ∷ [];
    })
unfolding machine
call_linked_14 = (refl, refl)

abbrev before_call_linked_15 : Room
before_call_linked_15 = record {
  plan = two_divisions;
  divisions = (division 1 3) ∷ (division 2 4) ∷ [];
  incidents =
      (incident 1 1 (grid 530120 180160) 1 (needs 2 1 1) 1939 (Some 41306) Active)
      ∷ (incident 1 2 (grid 530201 180000) 3 (needs 1 1 0) 3532 None Active)
      ∷ (incident 1 3 (grid 530000 180000) 1 (needs 2 0 0) 3593 None Active)
      ∷ (incident 2 4 (grid 560100 180000) 3 (needs 0 0 1) 3815 None Active) ∷ [];
  calls =
      (call 1 2 1 1 1 true (grid 530100 180100) 1 (needs 2 1 1) [] 2462)
      ∷ (call 1 3 1 2 2 false (grid 530201 180000) 3 (needs 1 1 0) [] 3532)
      ∷ (call 2 2 2 4 4 false (grid 560100 180000) 3 (needs 0 0 1) (codes "x") 3815)
      ∷ (call 2 3 1 1 1 false (grid 530120 180160) 1 (needs 1 0 0) [] 1939)
      ∷ (call 2 4 1 3 3 false (grid 530000 180000) 1 (needs 2 0 0) (codes "x") 3593) ∷ [];
  vehicles =
      (vehicle A1 1 1 Ambulance (grid 530200 180000) Available 3304 None 0 0)
      ∷ (vehicle A2 1 1 Car (grid 530200 180000) Returning 41307 None 2 1)
      ∷ (vehicle A3 2 2 Ambulance (grid 531000 180000) OffDuty 2000 None 0 0) ∷ [];
  turns =
      (turn A2 1 1 1 Car 41306 None None None None (Some 2564) true)
      ∷ (turn A2 2 1 1 Car 2419 None None None None (Some 3996) true) ∷ [];
  assignments = [];
  points = (point 2 1 (grid 530100 180000) 0) ∷ [];
  loans = [];
  offers = [];
  reports = (report A2 1 button.Position 1 (grid 530200 180000) 2584 1 Normal Mobilised false) ∷ [];
}

call_linked_15 : Steps (at 2839 (Position 1)
    (ask.Call (call_form 6 (grid 530201 180000) 1 (needs 1 0 0) (codes "x"))))
    before_call_linked_15 (Ok (answer.Called 1 2 true))
    (record before_call_linked_15 {
      incidents =
          (incident 1 1 (grid 530120 180160) 1 (needs 2 1 1) 1939 (Some 41306) Active)
          ∷ (incident 1 2 (grid 530201 180000) 1 (needs 1 1 0) 2839 None Active)
          ∷ (incident 1 3 (grid 530000 180000) 1 (needs 2 0 0) 3593 None Active)
          ∷ (incident 2 4 (grid 560100 180000) 3 (needs 0 0 1) 3815 None Active)
          ∷ [];
      calls = (call 1 2 1 1 1 true (grid 530100 180100) 1 (needs 2 1 1) [] 2462)
          ∷ (call 1 3 1 2 2 false (grid 530201 180000) 3 (needs 1 1 0) [] 3532)
          ∷ (call 1 6 1 2 2 true (grid 530201 180000) 1 (needs 1 0 0) (codes "x") 2839)
          ∷ (call 2 2 2 4 4 false (grid 560100 180000) 3 (needs 0 0 1) (codes "x") 3815)
          ∷ (call 2 3 1 1 1 false (grid 530120 180160) 1 (needs 1 0 0) [] 1939)
          ∷ (call 2 4 1 3 3 false (grid 530000 180000) 1 (needs 2 0 0) (codes "x") 3593) ∷ [];
    })
unfolding machine
call_linked_15 = (refl, refl)

abbrev before_call_new : Room
before_call_new = record {
  plan = overlapping_divisions;
  divisions = (division 1 0) ∷ (division 7 3) ∷ [];
  incidents = [];
  calls = [];
  vehicles =
      (vehicle A1 7 7 Car (grid 560100 180000) Available 5000 None 0 0)
      ∷ (vehicle A2 7 7 Ambulance (grid 560100 180000) Available 2000 None 0 0) ∷ [];
  turns = [];
  assignments = [];
  points = [];
  loans = [];
  offers = [];
  reports = [];
}

call_new : Steps (at 1182 (Position 1)
    (ask.Call (call_form 4 (grid 530200 180000) 1 (needs 0 0 1) []))) before_call_new
    (Ok (answer.Called 1 1 false)) (record before_call_new {
      divisions = (division 1 1) ∷ (division 7 3)
          ∷ [];
      incidents = (incident 1 1 (grid 530200 180000) 1
          (needs 0 0 1) 1182 None Active) ∷ [];
      calls =
          (call 1 4 1 1 1 false (grid 530200 180000) 1 (needs 0 0 1) [] 1182) ∷ [];
    })
unfolding machine
call_new = (refl, refl)

abbrev before_call_new_2 : Room
before_call_new_2 = record {
  plan = two_divisions;
  divisions = (division 1 2147483647) ∷ (division 2 2147483646) ∷ [];
  incidents = [];
  calls = [];
  vehicles =
      (vehicle A1 1 1 Ambulance (grid 530300 180400) Available 2000 None 0 0)
      ∷ (vehicle A2 2 2 Support (grid 560100 180000) Available 5000 None 0 0) ∷ [];
  turns = [];
  assignments = [];
  points = [];
  loans = [];
  offers = [];
  reports = [];
}

call_new_2 : Steps (at 1522 (Position 1)
    (ask.Call (call_form 6 (grid 560200 180000) 1 (needs 2 1 1) []))) before_call_new_2
    (Ok (answer.Called 2 2147483647 false))
    (record before_call_new_2 {
      divisions = (division 1 2147483647) ∷ (division 2 2147483647)
          ∷ [];
      incidents = (incident 2 2147483647 (grid 560200 180000) 1
          (needs 2 1 1) 1522 None Active) ∷ [];
      calls =
          (call 1 6 2 2147483647 2147483647 false (grid 560200 180000) 1
          (needs 2 1 1) [] 1522) ∷ [];
    })
unfolding machine
call_new_2 = (refl, refl)

abbrev before_call_new_3 : Room
before_call_new_3 = record {
  plan = two_divisions;
  divisions = (division 1 1) ∷ (division 2 3) ∷ [];
  incidents = (incident 1 1 (grid 530120 180160) 1 (needs 1 1 0) 1762 None Active) ∷ [];
  calls = (call 2 5 1 1 1 false (grid 530120 180160) 1 (needs 1 1 0) [] 1762) ∷ [];
  vehicles =
      (vehicle A1 1 1 Ambulance (grid 530100 180100) Available 5000 None 0 0)
      ∷ (vehicle A2 1 1 Support (grid 531000 180000) Available 40000 None 0 1) ∷ [];
  turns = [];
  assignments = [];
  points = [];
  loans = [];
  offers = [];
  reports = (report A2 1 button.Home 0 (grid 531000 180000) 1581 1 Normal Available false) ∷ [];
}

call_new_3 : Steps (at 2663 (Position 2)
    (ask.Call (call_form 1 (grid 530200 180000) 2 (needs 1 0 0) (codes "x")))) before_call_new_3
    (Ok (answer.Called 1 2 false)) (record before_call_new_3 {
      divisions = (division 1 2) ∷ (division 2 3)
          ∷ [];
      incidents = (incident 1 1 (grid 530120 180160) 1
          (needs 1 1 0) 1762 None Active) ∷ (incident 1 2 (grid 530200 180000) 2
          (needs 1 0 0) 2663 None Active) ∷ [];
      calls =
          (call 2 1 1 2 2 false (grid 530200 180000) 2 (needs 1 0 0)
          (codes "x") 2663) ∷ (call 2 5 1 1 1 false (grid 530120 180160) 1
          (needs 1 1 0) [] 1762) ∷ [];
    })
unfolding machine
call_new_3 = (refl, refl)

abbrev before_call_new_4 : Room
before_call_new_4 = record {
  plan = two_divisions;
  divisions = (division 1 1) ∷ (division 2 3) ∷ [];
  incidents = (incident 1 1 (grid 530000 180000) 2 (needs 2 0 0) 1181 None Active) ∷ [];
  calls = (call 2 3 1 1 1 false (grid 530000 180000) 2 (needs 2 0 0) [] 1181) ∷ [];
  vehicles =
      (vehicle A1 2 2 Support (grid 560100 180000) OffDuty 0 None 0 0)
      ∷ (vehicle A2 1 1 Support (grid 560200 180000) Available 5000 None 0 0)
      ∷ (vehicle A3 2 2 Ambulance (grid 531000 180000) Available 5000 None 0 0) ∷ [];
  turns = [];
  assignments = [];
  points = [];
  loans = [];
  offers = [];
  reports = [];
}

call_new_4 : Steps (at 2021 (Position 1)
    (ask.Call (call_form 2 (grid 530201 180000) 3 (needs 2 1 1) []))) before_call_new_4
    (Ok (answer.Called 1 2 false)) (record before_call_new_4 {
      divisions = (division 1 2) ∷ (division 2 3)
          ∷ [];
      incidents = (incident 1 1 (grid 530000 180000) 2
          (needs 2 0 0) 1181 None Active) ∷ (incident 1 2 (grid 530201 180000) 3
          (needs 2 1 1) 2021 None Active) ∷ [];
      calls =
          (call 1 2 1 2 2 false (grid 530201 180000) 3 (needs 2 1 1) [] 2021)
          ∷ (call 2 3 1 1 1 false (grid 530000 180000) 2 (needs 2 0 0) [] 1181)
          ∷ [];
    })
unfolding machine
call_new_4 = (refl, refl)

abbrev before_call_numbers_used_up : Room
before_call_numbers_used_up = record {
  plan = two_divisions;
  divisions = (division 1 2147483647) ∷ (division 2 2147483646) ∷ [];
  incidents = [];
  calls = [];
  vehicles =
      (vehicle A1 2 2 Ambulance (grid 530100 180000) Available 2000 None 0 0)
      ∷ (vehicle A2 2 2 Ambulance (grid 560100 180000) Available 40000 None 0 0) ∷ [];
  turns = [];
  assignments = [];
  points = [];
  loans = [];
  offers = [];
  reports = [];
}

call_numbers_used_up : Steps (at 1061 (Position 1)
    (ask.Call (call_form 3 (grid 530100 180100) 2 (needs 0 1 0) (codes "x"))))
    before_call_numbers_used_up (Err refusal.NumbersUsedUp) before_call_numbers_used_up
unfolding machine
call_numbers_used_up = (refl, refl)

abbrev before_call_outside_area : Room
before_call_outside_area = record {
  plan = two_divisions;
  divisions = (division 1 0) ∷ (division 2 3) ∷ [];
  incidents = [];
  calls = [];
  vehicles =
      (vehicle A1 1 1 Support (grid 530300 180400) Available 5000 None 0 0)
      ∷ (vehicle A2 2 2 Ambulance (grid 530000 180000) OffDuty 0 None 0 0) ∷ [];
  turns = [];
  assignments = [];
  points = [];
  loans = [];
  offers = [];
  reports = [];
}

call_outside_area : Steps (at 1301 (Position 1)
    (ask.Call (call_form 1 (grid 530000 200800) 3 (needs 1 0 0) []))) before_call_outside_area
    (Err refusal.OutsideArea) before_call_outside_area
unfolding machine
call_outside_area = (refl, refl)

abbrev before_call_serial_reused : Room
before_call_serial_reused = record {
  plan = two_divisions;
  divisions = (division 1 1) ∷ (division 2 0) ∷ [];
  incidents = (incident 1 1 (grid 530100 180000) 2 (needs 2 0 0) 1120 None Active) ∷ [];
  calls = (call 2 4 1 1 1 false (grid 530100 180000) 2 (needs 2 0 0) (codes "x") 1120) ∷ [];
  vehicles =
      (vehicle A1 2 2 Car (grid 560100 180000) Available 2000 None 0 0)
      ∷ (vehicle A2 2 2 Car (grid 530100 180000) OffDuty 40000 None 0 0) ∷ [];
  turns = [];
  assignments = [];
  points = [];
  loans = [];
  offers = [];
  reports = [];
}

call_serial_reused : Steps (at 1782 (Position 2)
    (ask.Call (call_form 4 (grid 530100 180100) 2 (needs 1 1 0) []))) before_call_serial_reused
    (Err refusal.SerialReused) before_call_serial_reused
unfolding machine
call_serial_reused = (refl, refl)
