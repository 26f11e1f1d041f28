-- Sampled steps: offering, withdrawing, declining and accepting. A program that is independent of
-- this repository, written from the rules in words, made them in random runs; of each kind of step
-- it kept those with the fewest rows.
use Rattle.std.specs.Prelude.{Err, None, Ok, Some, [], codes, false, refl, true, ◌∷◌}
use Rattle.room_types.specs.declared.answers.Answer.TheVariants as answer
use Rattle.room_types.specs.declared.asks.Ask.TheVariants as ask
use Rattle.room_types.specs.declared.asks.Who.TheVariants.{Desk}
use Rattle.room_types.specs.declared.codes.Button.TheVariants as button
use Rattle.room_types.specs.declared.codes.Kind.TheVariants.{Ambulance, Car, Support}
use Rattle.room_types.specs.declared.codes.Outcome.TheVariants.{Late, Normal, Skipped, Stale, Wrong}
use Rattle.room_types.specs.declared.codes.State.TheVariants.{Active}
use Rattle.room_types.specs.declared.codes.Status.TheVariants.{AtHospital, AtScene, Available}
use Rattle.room_types.specs.declared.codes.Status.TheVariants.{Leaving, Mobilised, OffDuty, Offered}
use Rattle.room_types.specs.declared.codes.Status.TheVariants.{Returning}
use Rattle.room_types.specs.declared.refusal_statuses.Refusal.TheVariants as refusal
use Rattle.room_model.specs.Room.{Room}
use Rattle.room_model.specs.ComputedDefinitions.{machine}
use Rattle.room_samples.specs.ExampleRows.{assignment, call, division, grid, incident, loan, offer}
use Rattle.room_samples.specs.ExampleRows.{point, report, turn, vehicle}
use Rattle.room_samples.specs.SampledRooms.{A1, A2, A3, B1, B2, Z9, overlapping_divisions}
use Rattle.room_samples.specs.SampledRooms.{two_divisions}
use Rattle.room_samples.specs.SampledSteps.{Steps}
use Rattle.room_model.specs.StepWords.{at, needs}

abbrev before_accept : Room
before_accept = record {
  plan = two_divisions;
  divisions = (division 1 3) ∷ (division 2 0) ∷ [];
  incidents = [];
  calls = [];
  vehicles =
      (vehicle A1 1 1 Ambulance (grid 530100 180000) Offered 2000 None 2147483647 0)
      ∷ (vehicle A2 1 1 Car (grid 530100 180100) OffDuty 0 None 0 0) ∷ [];
  turns = [];
  assignments = [];
  points = [];
  loans = [];
  offers = (offer A1 1 2 980 1080) ∷ [];
  reports = [];
}

accept : Steps (at 2001 (Desk 2) (ask.Accept A1)) before_accept (Ok answer.Done)
    (record before_accept {
      vehicles =
          (vehicle A1 1 2 Ambulance (grid 530100 180000) Available 2000 None 2147483647 0)
          ∷ (vehicle A2 1 1 Car (grid 530100 180100) OffDuty 0 None 0 0)
          ∷ [];
      loans = (loan A1 1 2 2001 1080 false) ∷ [];
      offers = [];
    })
unfolding machine
accept = (refl, refl)

abbrev before_accept_2 : Room
before_accept_2 = record {
  plan = overlapping_divisions;
  divisions = (division 1 0) ∷ (division 7 3) ∷ [];
  incidents = [];
  calls = [];
  vehicles =
      (vehicle A1 1 1 Ambulance (grid 530300 180400) Offered 5000 None 0 0)
      ∷ (vehicle A2 1 1 Car (grid 560200 180000) Available 5000 None 0 0) ∷ [];
  turns = [];
  assignments = [];
  points = [];
  loans = [];
  offers = (offer A1 1 7 1001 1401) ∷ [];
  reports = [];
}

accept_2 : Steps (at 1121 (Desk 7) (ask.Accept A1)) before_accept_2 (Ok answer.Done)
    (record before_accept_2 {
      vehicles =
          (vehicle A1 1 7 Ambulance (grid 530300 180400) Available 5000 None 0 0)
          ∷ (vehicle A2 1 1 Car (grid 560200 180000) Available 5000 None 0 0)
          ∷ [];
      loans = (loan A1 1 7 1121 1401 false) ∷ [];
      offers = [];
    })
unfolding machine
accept_2 = (refl, refl)

abbrev before_accept_3 : Room
before_accept_3 = record {
  plan = overlapping_divisions;
  divisions = (division 1 0) ∷ (division 7 3) ∷ [];
  incidents = [];
  calls = [];
  vehicles =
      (vehicle A1 1 1 Ambulance (grid 531000 180000) Available 2000 None 0 0)
      ∷ (vehicle A2 1 1 Car (grid 530120 180160) Offered 1500 None 0 0) ∷ [];
  turns = [];
  assignments = [];
  points = [];
  loans = [];
  offers = (offer A2 1 7 1000 1000) ∷ [];
  reports = [];
}

accept_3 : Steps (at 1542 (Desk 7) (ask.Accept A2)) before_accept_3 (Ok answer.Done)
    (record before_accept_3 {
      vehicles =
          (vehicle A1 1 1 Ambulance (grid 531000 180000) Available 2000 None 0 0)
          ∷ (vehicle A2 1 7 Car (grid 530120 180160) Available 1500 None 0 0)
          ∷ [];
      loans = (loan A2 1 7 1542 1000 false) ∷ [];
      offers = [];
    })
unfolding machine
accept_3 = (refl, refl)

abbrev before_accept_4 : Room
before_accept_4 = record {
  plan = two_divisions;
  divisions = (division 1 0) ∷ (division 2 0) ∷ [];
  incidents = [];
  calls = [];
  vehicles =
      (vehicle A1 1 1 Ambulance (grid 530000 180000) Offered 40000 None 0 0)
      ∷ (vehicle A2 1 1 Ambulance (grid 531000 180000) Available 5000 None 0 0)
      ∷ (vehicle A3 1 1 Car (grid 560000 180000) OffDuty 0 None 2147483647 0) ∷ [];
  turns = [];
  assignments = [];
  points = [];
  loans = [];
  offers = (offer A1 1 2 1001 1101) ∷ [];
  reports = [];
}

accept_4 : Steps (at 40000 (Desk 2) (ask.Accept A1)) before_accept_4 (Ok answer.Done)
    (record before_accept_4 {
      vehicles =
          (vehicle A1 1 2 Ambulance (grid 530000 180000) Available 40000 None 0 0)
          ∷ (vehicle A2 1 1 Ambulance (grid 531000 180000) Available 5000 None 0 0)
          ∷ (vehicle A3 1 1 Car (grid 560000 180000) OffDuty 0 None 2147483647 0)
          ∷ [];
      loans = (loan A1 1 2 40000 1101 false) ∷ [];
      offers = [];
    })
unfolding machine
accept_4 = (refl, refl)

abbrev before_accept_no_such_offer : Room
before_accept_no_such_offer = record {
  plan = two_divisions;
  divisions = (division 1 3) ∷ (division 2 3) ∷ [];
  incidents = [];
  calls = [];
  vehicles =
      (vehicle A1 2 2 Ambulance (grid 531000 180000) Available 2000 None 0 0)
      ∷ (vehicle A2 1 1 Ambulance (grid 530100 180000) OffDuty 0 None 0 0) ∷ [];
  turns = [];
  assignments = [];
  points = [];
  loans = [];
  offers = [];
  reports = [];
}

accept_no_such_offer : Steps (at 1062 (Desk 1) (ask.Accept A2)) before_accept_no_such_offer
    (Err refusal.NoSuchOffer) before_accept_no_such_offer
unfolding machine
accept_no_such_offer = (refl, refl)

abbrev before_decline : Room
before_decline = record {
  plan = overlapping_divisions;
  divisions = (division 1 2147483647) ∷ (division 7 2147483646) ∷ [];
  incidents = [];
  calls = [];
  vehicles =
      (vehicle A1 1 1 Ambulance (grid 560000 180000) OffDuty 0 None 0 0)
      ∷ (vehicle A2 7 7 Ambulance (grid 530120 180160) Offered 2000 None 0 1) ∷ [];
  turns = [];
  assignments = [];
  points = (point 1 1 (grid 530100 180100) 2) ∷ (point 7 1 (grid 530000 180000) 1) ∷ [];
  loans = [];
  offers = (offer A2 7 1 1993 2993) ∷ [];
  reports = (report A2 1 button.Position 0 (grid 530120 180160) 2299 7 Normal Offered false) ∷ [];
}

decline : Steps (at 2480 (Desk 1) (ask.Decline A2)) before_decline (Ok answer.Done)
    (record before_decline {
      vehicles =
          (vehicle A1 1 1 Ambulance (grid 560000 180000) OffDuty 0 None 0 0)
          ∷ (vehicle A2 7 7 Ambulance (grid 530120 180160) Available 2000 None 0 1)
          ∷ [];
      offers = [];
    })
unfolding machine
decline = (refl, refl)

abbrev before_decline_no_such_offer : Room
before_decline_no_such_offer = record {
  plan = two_divisions;
  divisions = (division 1 0) ∷ (division 2 0) ∷ [];
  incidents = [];
  calls = [];
  vehicles =
      (vehicle A1 2 2 Support (grid 560200 180000) OffDuty 0 None 0 0)
      ∷ (vehicle A2 2 2 Car (grid 530201 180000) OffDuty 0 None 0 0) ∷ [];
  turns = [];
  assignments = [];
  points = [];
  loans = [];
  offers = [];
  reports = [];
}

decline_no_such_offer : Steps (at 1005 (Desk 2) (ask.Decline A2)) before_decline_no_such_offer
    (Err refusal.NoSuchOffer) before_decline_no_such_offer
unfolding machine
decline_no_such_offer = (refl, refl)

abbrev before_lend : Room
before_lend = record {
  plan = overlapping_divisions;
  divisions = (division 1 3) ∷ (division 7 0) ∷ [];
  incidents = [];
  calls = [];
  vehicles =
      (vehicle A1 7 7 Ambulance (grid 531000 180000) Available 5000 None 0 0)
      ∷ (vehicle A2 1 1 Ambulance (grid 530201 180000) Available 5000 None 0 0) ∷ [];
  turns = [];
  assignments = [];
  points = [];
  loans = [];
  offers = [];
  reports = [];
}

lend : Steps (at 980 (Desk 1) (ask.Lend A2 7 980)) before_lend (Ok answer.Done)
    (record before_lend {
      vehicles = (vehicle A1 7 7 Ambulance
          (grid 531000 180000) Available 5000 None 0 0)
          ∷ (vehicle A2 1 1 Ambulance (grid 530201 180000) Offered 5000 None 0 0)
          ∷ [];
      offers = (offer A2 1 7 980 980) ∷ [];
    })
unfolding machine
lend = (refl, refl)

abbrev before_lend_2 : Room
before_lend_2 = record {
  plan = two_divisions;
  divisions = (division 1 0) ∷ (division 2 0) ∷ [];
  incidents = [];
  calls = [];
  vehicles =
      (vehicle A1 2 2 Ambulance (grid 560000 180000) OffDuty 0 None 0 0)
      ∷ (vehicle A2 1 1 Ambulance (grid 530120 180160) Available 2000 None 0 1)
      ∷ (vehicle A3 1 1 Support (grid 530201 180000) Available 2000 (Some 2) 0 0) ∷ [];
  turns = [];
  assignments = [];
  points = (point 1 2 (grid 530100 180000) 2) ∷ [];
  loans = [];
  offers = [];
  reports = (report A2 1 button.Position 0 (grid 530120 180160) 1766 1 Normal Available false) ∷ [];
}

lend_2 : Steps (at 1746 (Desk 1) (ask.Lend A3 2 1746)) before_lend_2 (Ok answer.Done)
    (record before_lend_2 {
      vehicles =
          (vehicle A1 2 2 Ambulance (grid 560000 180000) OffDuty 0 None 0 0)
          ∷ (vehicle A2 1 1 Ambulance (grid 530120 180160) Available 2000 None 0 1)
          ∷ (vehicle A3 1 1 Support (grid 530201 180000) Offered 2000 None 0 0)
          ∷ [];
      offers = (offer A3 1 2 1746 1746) ∷ [];
    })
unfolding machine
lend_2 = (refl, refl)

abbrev before_lend_3 : Room
before_lend_3 = record {
  plan = two_divisions;
  divisions = (division 1 2147483647) ∷ (division 2 2147483646) ∷ [];
  incidents = [];
  calls = [];
  vehicles =
      (vehicle A1 2 2 Support (grid 530201 180000) Available 5000 None 0 0)
      ∷ (vehicle A2 2 2 Ambulance (grid 530201 180000) OffDuty 0 None 0 0)
      ∷ (vehicle A3 1 1 Car (grid 560100 180000) Available 40000 None 0 0)
      ∷ (vehicle B1 2 2 Ambulance (grid 530100 180000) Available 5000 (Some 2) 0 0) ∷ [];
  turns = [];
  assignments = [];
  points = (point 1 1 (grid 531000 180000) 0) ∷ (point 2 2 (grid 530200 180000) 1) ∷ [];
  loans = [];
  offers = [];
  reports = [];
}

lend_3 : Steps (at 1793 (Desk 2) (ask.Lend B1 1 1893)) before_lend_3 (Ok answer.Done)
    (record before_lend_3 {
      vehicles =
          (vehicle A1 2 2 Support (grid 530201 180000) Available 5000 None 0 0)
          ∷ (vehicle A2 2 2 Ambulance (grid 530201 180000) OffDuty 0 None 0 0)
          ∷ (vehicle A3 1 1 Car (grid 560100 180000) Available 40000 None 0 0)
          ∷ (vehicle B1 2 2 Ambulance (grid 530100 180000) Offered 5000 None 0 0)
          ∷ [];
      offers = (offer B1 2 1 1793 1893) ∷ [];
    })
unfolding machine
lend_3 = (refl, refl)

abbrev before_lend_4 : Room
before_lend_4 = record {
  plan = two_divisions;
  divisions = (division 1 0) ∷ (division 2 3) ∷ [];
  incidents = [];
  calls = [];
  vehicles =
      (vehicle A1 2 2 Support (grid 530200 180000) Available 40000 (Some 2) 0 0)
      ∷ (vehicle A2 1 1 Ambulance (grid 530200 180000) Available 41186 None 0 1)
      ∷ (vehicle A3 1 1 Ambulance (grid 530100 180000) Available 40000 None 0 2) ∷ [];
  turns = [];
  assignments = [];
  points = (point 2 2 (grid 530120 180160) 0) ∷ [];
  loans = [];
  offers = [];
  reports =
      (report A2 1 button.Position 0 (grid 530200 180000) 1793 1 Normal Available false)
      ∷ (report A3 1 button.Hospital 0 (grid 530100 180000) 1612 1 Wrong Available false)
      ∷ (report A3 2 button.Leave 0 (grid 531000 180000) 2280 1 Wrong Available false) ∷ [];
}

lend_4 : Steps (at 2430 (Desk 2) (ask.Lend A1 1 2430)) before_lend_4 (Ok answer.Done)
    (record before_lend_4 {
      vehicles =
          (vehicle A1 2 2 Support (grid 530200 180000) Offered 40000 None 0 0)
          ∷ (vehicle A2 1 1 Ambulance (grid 530200 180000) Available 41186 None 0 1)
          ∷ (vehicle A3 1 1 Ambulance (grid 530100 180000) Available 40000 None 0 2)
          ∷ [];
      offers = (offer A1 2 1 2430 2430) ∷ [];
    })
unfolding machine
lend_4 = (refl, refl)

abbrev before_lend_5 : Room
before_lend_5 = record {
  plan = two_divisions;
  divisions = (division 1 0) ∷ (division 2 0) ∷ [];
  incidents = [];
  calls = [];
  vehicles =
      (vehicle A1 1 1 Ambulance (grid 530201 180000) OffDuty 0 None 0 2)
      ∷ (vehicle A2 1 1 Car (grid 530300 180400) Available 40000 (Some 1) 0 2) ∷ [];
  turns = [];
  assignments = [];
  points = (point 1 1 (grid 530120 180160) 1) ∷ [];
  loans = [];
  offers = [];
  reports =
      (report A1 1 button.Home 0 (grid 530100 180100) 1163 1 Wrong OffDuty false)
      ∷ (report A1 2 button.Scene 0 (grid 530300 180400) 1204 1 Wrong OffDuty false)
      ∷ (report A2 1 button.Home 0 (grid 530300 180400) 1001 1 Normal Available false)
      ∷ (report A2 2 button.Position 0 (grid 530300 180400) 1324 1 Normal Available false) ∷ [];
}

lend_5 : Steps (at 1314 (Desk 1) (ask.Lend A2 2 1714)) before_lend_5 (Ok answer.Done)
    (record before_lend_5 {
      vehicles =
          (vehicle A1 1 1 Ambulance (grid 530201 180000) OffDuty 0 None 0 2)
          ∷ (vehicle A2 1 1 Car (grid 530300 180400) Offered 40000 None 0 2)
          ∷ [];
      offers = (offer A2 1 2 1314 1714) ∷ [];
    })
unfolding machine
lend_5 = (refl, refl)

abbrev before_lend_6 : Room
before_lend_6 = record {
  plan = two_divisions;
  divisions = (division 1 1) ∷ (division 2 0) ∷ [];
  incidents = (incident 1 1 (grid 530120 180160) 2 (needs 2 0 0) 1040 (Some 1402) Active) ∷ [];
  calls = (call 2 4 1 1 1 false (grid 530120 180160) 2 (needs 2 0 0) [] 1040) ∷ [];
  vehicles =
      (vehicle A1 1 1 Ambulance (grid 530100 180000) Returning 5000 None 1 3)
      ∷ (vehicle A2 1 1 Ambulance (grid 530100 180000) OffDuty 0 None 0 0)
      ∷ (vehicle A3 2 2 Ambulance (grid 560000 180000) Available 2000 None 0 1)
      ∷ (vehicle B1 1 1 Car (grid 560200 180000) OffDuty 0 None 0 0) ∷ [];
  turns = (turn A1 1 1 1 Ambulance 1402 None None None None (Some 1574) false) ∷ [];
  assignments = [];
  points = (point 1 2 (grid 530201 180000) 1) ∷ [];
  loans = [];
  offers = [];
  reports =
      (report A1 1 button.Leave 0 (grid 530200 180000) 1040 1 Wrong Available true)
      ∷ (report A1 3 button.Return 1 (grid 530100 180000) 1574 1 Skipped Returning false)
      ∷ (report A3 1 button.Leave 0 (grid 530000 180000) 1341 2 Wrong Available false) ∷ [];
}

lend_6 : Steps (at 1724 (Desk 1) (ask.Lend A1 2 1824)) before_lend_6 (Ok answer.Done)
    (record before_lend_6 {
      vehicles =
          (vehicle A1 1 1 Ambulance (grid 530100 180000) Offered 5000 None 1 3)
          ∷ (vehicle A2 1 1 Ambulance (grid 530100 180000) OffDuty 0 None 0 0)
          ∷ (vehicle A3 2 2 Ambulance (grid 560000 180000) Available 2000 None 0 1)
          ∷ (vehicle B1 1 1 Car (grid 560200 180000) OffDuty 0 None 0 0)
          ∷ [];
      offers = (offer A1 1 2 1724 1824) ∷ [];
    })
unfolding machine
lend_6 = (refl, refl)

abbrev before_lend_no_such_division : Room
before_lend_no_such_division = record {
  plan = two_divisions;
  divisions = (division 1 0) ∷ (division 2 0) ∷ [];
  incidents = [];
  calls = [];
  vehicles =
      (vehicle A1 2 2 Ambulance (grid 530000 180000) OffDuty 0 None 2147483647 0)
      ∷ (vehicle A2 1 1 Ambulance (grid 530201 180000) Available 2000 None 0 0) ∷ [];
  turns = [];
  assignments = [];
  points = [];
  loans = [];
  offers = [];
  reports = [];
}

lend_no_such_division : Steps (at 1181 (Desk 1) (ask.Lend A2 9 2181)) before_lend_no_such_division
    (Err refusal.NoSuchDivision) before_lend_no_such_division
unfolding machine
lend_no_such_division = (refl, refl)

abbrev before_lend_no_such_division_2 : Room
before_lend_no_such_division_2 = record {
  plan = two_divisions;
  divisions = (division 1 0) ∷ (division 2 0) ∷ [];
  incidents = [];
  calls = [];
  vehicles =
      (vehicle A1 2 2 Car (grid 560100 180000) OffDuty 0 None 0 0)
      ∷ (vehicle A2 1 1 Ambulance (grid 530201 180000) Available 40000 None 0 0) ∷ [];
  turns = [];
  assignments = [];
  points = [];
  loans = [];
  offers = [];
  reports = [];
}

lend_no_such_division_2 : Steps (at 1302 (Desk 2) (ask.Lend A1 2 1702))
    before_lend_no_such_division_2 (Err refusal.NoSuchDivision) before_lend_no_such_division_2
unfolding machine
lend_no_such_division_2 = (refl, refl)

abbrev before_lend_no_such_division_3 : Room
before_lend_no_such_division_3 = record {
  plan = two_divisions;
  divisions = (division 1 0) ∷ (division 2 3) ∷ [];
  incidents = [];
  calls = [];
  vehicles =
      (vehicle A1 2 2 Ambulance (grid 530200 180000) Available 5000 None 0 0)
      ∷ (vehicle A2 1 1 Support (grid 560100 180000) Offered 40000 None 0 0)
      ∷ (vehicle A3 2 2 Ambulance (grid 530100 180100) Available 40000 None 0 0) ∷ [];
  turns = [];
  assignments = [];
  points = (point 1 1 (grid 530201 180000) 0) ∷ [];
  loans = [];
  offers = (offer A2 1 2 1010 2010) ∷ [];
  reports = [];
}

lend_no_such_division_3 : Steps (at 1491 (Desk 1) (ask.Lend A2 9 1591))
    before_lend_no_such_division_3 (Err refusal.NoSuchDivision) before_lend_no_such_division_3
unfolding machine
lend_no_such_division_3 = (refl, refl)

abbrev before_lend_no_such_division_4 : Room
before_lend_no_such_division_4 = record {
  plan = overlapping_divisions;
  divisions = (division 1 1) ∷ (division 7 0) ∷ [];
  incidents = (incident 1 1 (grid 530201 180000) 2 (needs 2 0 0) 1246 (Some 1366) Active) ∷ [];
  calls = (call 2 1 1 1 1 false (grid 530201 180000) 2 (needs 2 0 0) (codes "x") 1246) ∷ [];
  vehicles =
      (vehicle A1 1 1 Ambulance (grid 530300 180400) Returning 2000 None 1 1)
      ∷ (vehicle A2 7 7 Ambulance (grid 560000 180000) Available 5000 None 0 0)
      ∷ (vehicle A3 7 7 Car (grid 530200 180000) Available 2000 None 0 0) ∷ [];
  turns = (turn A1 1 1 1 Ambulance 1366 None None None None (Some 1672) true) ∷ [];
  assignments = [];
  points = [];
  loans = [];
  offers = [];
  reports = (report A1 1 button.Leave 0 (grid 530200 180000) 1245 1 Wrong Available false) ∷ [];
}

lend_no_such_division_4 : Steps (at 1853 (Desk 1) (ask.Lend A1 9 1953))
    before_lend_no_such_division_4 (Err refusal.NoSuchDivision) before_lend_no_such_division_4
unfolding machine
lend_no_such_division_4 = (refl, refl)

abbrev before_lend_no_such_division_5 : Room
before_lend_no_such_division_5 = record {
  plan = overlapping_divisions;
  divisions = (division 1 1) ∷ (division 7 0) ∷ [];
  incidents = (incident 1 1 (grid 530100 180000) 1 (needs 2 0 0) 1257 (Some 1258) Active) ∷ [];
  calls = (call 2 1 1 1 1 false (grid 530100 180000) 1 (needs 2 0 0) (codes "x") 1257) ∷ [];
  vehicles =
      (vehicle A1 1 1 Ambulance (grid 530100 180100) Mobilised 5000 None 1 0)
      ∷ (vehicle A2 7 7 Ambulance (grid 531000 180000) Available 40000 None 0 0)
      ∷ (vehicle A3 7 7 Ambulance (grid 531000 180000) Available 2000 None 0 2) ∷ [];
  turns = (turn A1 1 1 1 Ambulance 1258 None None None None None false) ∷ [];
  assignments = (assignment A1 1 1 1 (grid 530100 180000) 1) ∷ [];
  points = (point 1 1 (grid 530200 180000) 1) ∷ [];
  loans = [];
  offers = [];
  reports = (report A3 2 button.Position 0 (grid 531000 180000) 985 7 Normal Available false) ∷ [];
}

lend_no_such_division_5 : Steps (at 1263 (Desk 1) (ask.Lend A1 9 2263))
    before_lend_no_such_division_5 (Err refusal.NoSuchDivision) before_lend_no_such_division_5
unfolding machine
lend_no_such_division_5 = (refl, refl)

abbrev before_lend_no_such_division_6 : Room
before_lend_no_such_division_6 = record {
  plan = two_divisions;
  divisions = (division 1 1) ∷ (division 2 0) ∷ [];
  incidents = (incident 1 1 (grid 530201 180000) 1 (needs 1 0 0) 1247 (Some 1373) Active) ∷ [];
  calls = (call 2 2 1 1 1 false (grid 530201 180000) 1 (needs 1 0 0) [] 1247) ∷ [];
  vehicles =
      (vehicle A1 1 1 Ambulance (grid 530120 180160) AtHospital 5000 None 1 4)
      ∷ (vehicle A2 1 1 Ambulance (grid 530200 180000) OffDuty 40000 None 0 1)
      ∷ (vehicle A3 2 2 Ambulance (grid 530120 180160) Available 5000 None 0 1) ∷ [];
  turns = (turn A1 1 1 1 Ambulance 1373 None None None (Some 1554) None false) ∷ [];
  assignments = (assignment A1 1 1 1 (grid 530201 180000) 1) ∷ [];
  points = [];
  loans = [];
  offers = [];
  reports =
      (report A1 1 button.Leave 0 (grid 530100 180100) 1061 1 Wrong Available false)
      ∷ (report A1 2 button.Return 0 (grid 530300 180400) 1253 1 Wrong Available false)
      ∷ (report A1 4 button.Hospital 1 (grid 530120 180160) 1554 1 Skipped AtHospital false)
      ∷ (report A2 1 button.Position 0 (grid 530200 180000) 1242 1 Normal Available false)
      ∷ (report A3 1 button.Hospital 0 (grid 530000 180000) 1000 2 Wrong Available false) ∷ [];
}

lend_no_such_division_6 : Steps (at 1621 (Desk 1) (ask.Lend A1 1 2621))
    before_lend_no_such_division_6 (Err refusal.NoSuchDivision) before_lend_no_such_division_6
unfolding machine
lend_no_such_division_6 = (refl, refl)

abbrev before_lend_no_such_division_7 : Room
before_lend_no_such_division_7 = record {
  plan = overlapping_divisions;
  divisions = (division 1 5) ∷ (division 7 4) ∷ [];
  incidents =
      (incident 1 4 (grid 531000 180000) 2 (needs 0 1 0) 1643 None Active)
      ∷ (incident 1 5 (grid 530100 180000) 3 (needs 0 1 0) 2093 None Active)
      ∷ (incident 7 4 (grid 530000 180000) 1 (needs 1 1 0) 1613 (Some 1793) Active) ∷ [];
  calls =
      (call 1 1 7 4 4 false (grid 530000 180000) 1 (needs 1 0 0) (codes "x") 1613)
      ∷ (call 2 2 1 4 4 false (grid 531000 180000) 2 (needs 0 1 0) [] 1643)
      ∷ (call 2 3 7 4 4 true (grid 530000 180000) 2 (needs 0 1 0) [] 1793)
      ∷ (call 2 5 1 5 5 false (grid 530100 180000) 3 (needs 0 1 0) [] 2093) ∷ [];
  vehicles =
      (vehicle A1 7 7 Ambulance (grid 530200 180000) AtScene 5000 None 1 1)
      ∷ (vehicle A2 7 7 Ambulance (grid 530300 180400) Available 6165 None 0 2)
      ∷ (vehicle A3 1 1 Support (grid 560200 180000) OffDuty 0 None 0 3)
      ∷ (vehicle B1 1 1 Ambulance (grid 560200 180000) OffDuty 0 None 0 3)
      ∷ (vehicle B2 1 1 Support (grid 530120 180160) Available 5000 None 0 3) ∷ [];
  turns = (turn A1 1 7 4 Ambulance 1793 None (Some 2467) None None None false) ∷ [];
  assignments = (assignment A1 7 4 1 (grid 530000 180000) 1) ∷ [];
  points = (point 1 1 (grid 530300 180400) 1) ∷ [];
  loans = [];
  offers = [];
  reports =
      (report A1 1 button.Scene 1 (grid 530200 180000) 2467 7 Skipped AtScene false)
      ∷ (report A2 2 button.Position 0 (grid 530100 180000) 1402 7 Wrong OffDuty false)
      ∷ (report A3 1 button.Position 0 (grid 530200 180000) 1361 1 Wrong OffDuty true)
      ∷ (report A3 3 button.Leave 0 (grid 530000 180000) 1341 1 Wrong OffDuty false)
      ∷ (report B1 1 button.Return 0 (grid 531000 180000) 2159 1 Wrong OffDuty false)
      ∷ (report B1 3 button.Position 0 (grid 530300 180400) 2472 1 Wrong OffDuty false)
      ∷ (report B2 1 button.Mobile 0 (grid 531000 180000) 1180 1 Wrong Available false)
      ∷ (report B2 3 button.Position 0 (grid 530120 180160) 1361 1 Normal Available false) ∷ [];
}

lend_no_such_division_7 : Steps (at 2653 (Desk 7) (ask.Lend A1 7 3053))
    before_lend_no_such_division_7 (Err refusal.NoSuchDivision) before_lend_no_such_division_7
unfolding machine
lend_no_such_division_7 = (refl, refl)

abbrev before_lend_no_such_vehicle : Room
before_lend_no_such_vehicle = record {
  plan = two_divisions;
  divisions = (division 1 0) ∷ (division 2 0) ∷ [];
  incidents = [];
  calls = [];
  vehicles =
      (vehicle A1 1 1 Support (grid 530201 180000) Available 40000 None 0 0)
      ∷ (vehicle A2 1 1 Ambulance (grid 531000 180000) Available 5000 None 0 0) ∷ [];
  turns = [];
  assignments = [];
  points = [];
  loans = [];
  offers = [];
  reports = [];
}

lend_no_such_vehicle : Steps (at 1481 (Desk 2) (ask.Lend A2 9 1581)) before_lend_no_such_vehicle
    (Err refusal.NoSuchVehicle) before_lend_no_such_vehicle
unfolding machine
lend_no_such_vehicle = (refl, refl)

abbrev before_lend_no_such_vehicle_2 : Room
before_lend_no_such_vehicle_2 = record {
  plan = overlapping_divisions;
  divisions = (division 1 3) ∷ (division 7 0) ∷ [];
  incidents = [];
  calls = [];
  vehicles =
      (vehicle A1 1 1 Ambulance (grid 530300 180400) OffDuty 0 None 0 0)
      ∷ (vehicle A2 1 1 Ambulance (grid 530201 180000) OffDuty 0 None 0 0) ∷ [];
  turns = [];
  assignments = [];
  points = [];
  loans = [];
  offers = [];
  reports = [];
}

lend_no_such_vehicle_2 : Steps (at 1120 (Desk 7) (ask.Lend A2 9 1520))
    before_lend_no_such_vehicle_2 (Err refusal.NoSuchVehicle) before_lend_no_such_vehicle_2
unfolding machine
lend_no_such_vehicle_2 = (refl, refl)

abbrev before_lend_no_such_vehicle_3 : Room
before_lend_no_such_vehicle_3 = record {
  plan = two_divisions;
  divisions = (division 1 0) ∷ (division 2 0) ∷ [];
  incidents = [];
  calls = [];
  vehicles =
      (vehicle A1 1 1 Support (grid 530000 180000) Available 40000 None 0 0)
      ∷ (vehicle A2 1 1 Ambulance (grid 530300 180400) OffDuty 0 None 0 0) ∷ [];
  turns = [];
  assignments = [];
  points = [];
  loans = [];
  offers = [];
  reports = [];
}

lend_no_such_vehicle_3 : Steps (at 1005 (Desk 2) (ask.Lend Z9 1 1405))
    before_lend_no_such_vehicle_3 (Err refusal.NoSuchVehicle) before_lend_no_such_vehicle_3
unfolding machine
lend_no_such_vehicle_3 = (refl, refl)

abbrev before_lend_no_such_vehicle_4 : Room
before_lend_no_such_vehicle_4 = record {
  plan = two_divisions;
  divisions = (division 1 0) ∷ (division 2 0) ∷ [];
  incidents = [];
  calls = [];
  vehicles =
      (vehicle A1 2 2 Ambulance (grid 530100 180100) Available 1602 None 0 1)
      ∷ (vehicle A2 2 2 Ambulance (grid 530100 180000) Offered 40000 None 0 0) ∷ [];
  turns = [];
  assignments = [];
  points = [];
  loans = [];
  offers = (offer A2 2 1 1481 1481) ∷ [];
  reports = (report A1 1 button.Home 0 (grid 530100 180100) 1591 2 Normal Available false) ∷ [];
}

lend_no_such_vehicle_4 : Steps (at 1596 (Desk 1) (ask.Lend A2 2 1696))
    before_lend_no_such_vehicle_4 (Err refusal.NoSuchVehicle) before_lend_no_such_vehicle_4
unfolding machine
lend_no_such_vehicle_4 = (refl, refl)

abbrev before_lend_no_such_vehicle_5 : Room
before_lend_no_such_vehicle_5 = record {
  plan = two_divisions;
  divisions = (division 1 1) ∷ (division 2 0) ∷ [];
  incidents = (incident 1 1 (grid 530100 180000) 2 (needs 1 1 0) 1542 (Some 1823) Active) ∷ [];
  calls = (call 1 3 1 1 1 false (grid 530100 180000) 2 (needs 1 1 0) (codes "x") 1542) ∷ [];
  vehicles =
      (vehicle A1 1 1 Ambulance (grid 530201 180000) Available 5000 None 0 0)
      ∷ (vehicle A2 1 1 Ambulance (grid 530100 180000) Mobilised 40000 None 1 0) ∷ [];
  turns = (turn A2 1 1 1 Ambulance 1823 None None None None None false) ∷ [];
  assignments = (assignment A2 1 1 1 (grid 530100 180000) 2) ∷ [];
  points = (point 2 2 (grid 530201 180000) 1) ∷ [];
  loans = [];
  offers = [];
  reports = [];
}

lend_no_such_vehicle_5 : Steps (at 1824 (Desk 2) (ask.Lend A2 1 2824))
    before_lend_no_such_vehicle_5 (Err refusal.NoSuchVehicle) before_lend_no_such_vehicle_5
unfolding machine
lend_no_such_vehicle_5 = (refl, refl)

abbrev before_lend_no_such_vehicle_6 : Room
before_lend_no_such_vehicle_6 = record {
  plan = overlapping_divisions;
  divisions = (division 1 1) ∷ (division 7 0) ∷ [];
  incidents = (incident 1 1 (grid 530300 180400) 2 (needs 2 1 1) 1302 (Some 1282) Active) ∷ [];
  calls = (call 1 3 1 1 1 false (grid 530300 180400) 2 (needs 2 1 1) (codes "x") 1302) ∷ [];
  vehicles =
      (vehicle A1 1 1 Ambulance (grid 560000 180000) OffDuty 0 None 0 0)
      ∷ (vehicle A2 1 1 Ambulance (grid 530100 180000) Leaving 5000 None 1 4)
      ∷ (vehicle A3 1 1 Ambulance (grid 530100 180100) OffDuty 0 None 0 1) ∷ [];
  turns = (turn A2 1 1 1 Ambulance 1282 None None (Some 1886) None None false) ∷ [];
  assignments = (assignment A2 1 1 1 (grid 530300 180400) 2) ∷ [];
  points = (point 7 1 (grid 530000 180000) 1) ∷ [];
  loans = [];
  offers = [];
  reports =
      (report A2 2 button.Home 0 (grid 530300 180400) 1181 1 Normal Available false)
      ∷ (report A2 3 button.Scene 0 (grid 530000 180000) 1301 1 Wrong Available false)
      ∷ (report A2 4 button.Leave 1 (grid 530100 180000) 1886 1 Skipped Leaving false)
      ∷ (report A3 1 button.Position 0 (grid 530201 180000) 1584 1 Wrong OffDuty false) ∷ [];
}

lend_no_such_vehicle_6 : Steps (at 2669 (Desk 7) (ask.Lend A2 1 3669))
    before_lend_no_such_vehicle_6 (Err refusal.NoSuchVehicle) before_lend_no_such_vehicle_6
unfolding machine
lend_no_such_vehicle_6 = (refl, refl)

abbrev before_lend_no_such_vehicle_7 : Room
before_lend_no_such_vehicle_7 = record {
  plan = two_divisions;
  divisions = (division 1 2) ∷ (division 2 0) ∷ [];
  incidents =
      (incident 1 1 (grid 531000 180000) 1 (needs 1 0 0) 1511 None Active)
      ∷ (incident 1 2 (grid 530100 180000) 3 (needs 1 1 0) 2536 (Some 2602) Active) ∷ [];
  calls =
      (call 1 3 1 1 1 false (grid 531000 180000) 1 (needs 1 0 0) (codes "x") 1511)
      ∷ (call 2 2 1 2 2 false (grid 530100 180000) 3 (needs 1 1 0) (codes "x") 2536) ∷ [];
  vehicles =
      (vehicle A1 1 1 Ambulance (grid 530300 180400) Returning 40000 (Some 1) 1 4)
      ∷ (vehicle A2 2 2 Support (grid 531000 180000) OffDuty 0 None 0 3) ∷ [];
  turns = (turn A1 1 1 2 Ambulance 2602 None None None None (Some 2783) false) ∷ [];
  assignments = [];
  points = (point 1 1 (grid 530000 180000) 2) ∷ [];
  loans = [];
  offers = [];
  reports =
      (report A1 1 button.Mobile 0 (grid 530100 180000) 1633 1 Late Available false)
      ∷ (report A1 2 button.Home 0 (grid 530201 180000) 1512 1 Normal Available false)
      ∷ (report A1 3 button.Scene 0 (grid 530300 180400) 2541 1 Wrong Available false)
      ∷ (report A1 4 button.Return 1 (grid 530300 180400) 2783 1 Skipped Returning false)
      ∷ (report A2 1 button.Return 0 (grid 531000 180000) 2416 2 Wrong OffDuty false)
      ∷ (report A2 3 button.Return 0 (grid 530120 180160) 3146 2 Wrong OffDuty false) ∷ [];
}

lend_no_such_vehicle_7 : Steps (at 40001 (Desk 2) (ask.Lend A1 1 40101))
    before_lend_no_such_vehicle_7 (Err refusal.NoSuchVehicle) before_lend_no_such_vehicle_7
unfolding machine
lend_no_such_vehicle_7 = (refl, refl)

abbrev before_lend_no_such_vehicle_8 : Room
before_lend_no_such_vehicle_8 = record {
  plan = two_divisions;
  divisions = (division 1 1) ∷ (division 2 1) ∷ [];
  incidents =
      (incident 1 1 (grid 530100 180000) 1 (needs 2 0 0) 1482 (Some 2142) Active)
      ∷ (incident 2 1 (grid 560200 180000) 1 (needs 2 1 1) 1662 None Active) ∷ [];
  calls =
      (call 1 1 1 1 1 false (grid 530100 180000) 1 (needs 2 0 0) (codes "x") 1482)
      ∷ (call 1 5 2 1 1 false (grid 560200 180000) 1 (needs 2 1 1) [] 1662) ∷ [];
  vehicles =
      (vehicle A1 2 2 Car (grid 531000 180000) OffDuty 2000 None 0 0)
      ∷ (vehicle A2 2 2 Support (grid 531000 180000) OffDuty 5000 None 0 4)
      ∷ (vehicle A3 1 1 Ambulance (grid 530100 180100) AtHospital 40000 None 1 3) ∷ [];
  turns = (turn A3 1 1 1 Ambulance 2142 None None None (Some 2748) None false) ∷ [];
  assignments = (assignment A3 1 1 1 (grid 530100 180000) 1) ∷ [];
  points = (point 1 1 (grid 530201 180000) 0) ∷ [];
  loans = [];
  offers = [];
  reports =
      (report A2 1 button.Mobile 0 (grid 530201 180000) 1963 2 Wrong Available false)
      ∷ (report A2 3 button.Scene 0 (grid 530100 180000) 2748 2 Wrong OffDuty false)
      ∷ (report A2 4 button.Leave 0 (grid 530100 180000) 2758 2 Wrong OffDuty false)
      ∷ (report A3 2 button.Position 1 (grid 530120 180160) 2462 1 Normal Mobilised false)
      ∷ (report A3 3 button.Hospital 1 (grid 530100 180100) 2748 1 Skipped AtHospital false) ∷ [];
}

lend_no_such_vehicle_8 : Steps (at 4354 (Desk 2) (ask.Lend A3 1 5354))
    before_lend_no_such_vehicle_8 (Err refusal.NoSuchVehicle) before_lend_no_such_vehicle_8
unfolding machine
lend_no_such_vehicle_8 = (refl, refl)

abbrev before_lend_not_home : Room
before_lend_not_home = record {
  plan = two_divisions;
  divisions = (division 1 0) ∷ (division 2 0) ∷ [];
  incidents = [];
  calls = [];
  vehicles =
      (vehicle A1 1 2 Ambulance (grid 560000 180000) Available 2000 None 0 1)
      ∷ (vehicle A2 1 1 Ambulance (grid 530100 180100) OffDuty 0 None 0 0)
      ∷ (vehicle A3 2 2 Support (grid 530201 180000) OffDuty 2000 None 0 0) ∷ [];
  turns = [];
  assignments = [];
  points = [];
  loans = (loan A1 1 2 1844 1362 false) ∷ [];
  offers = [];
  reports = (report A1 1 button.Return 0 (grid 530200 180000) 1061 1 Wrong Available false) ∷ [];
}

lend_not_home : Steps (at 2806 (Desk 2) (ask.Lend A1 1 3806)) before_lend_not_home
    (Err refusal.NotHome) before_lend_not_home
unfolding machine
lend_not_home = (refl, refl)

abbrev before_lend_not_home_2 : Room
before_lend_not_home_2 = record {
  plan = two_divisions;
  divisions = (division 1 1) ∷ (division 2 0) ∷ [];
  incidents = (incident 1 1 (grid 531000 180000) 1 (needs 2 1 1) 1010 (Some 1341) Active) ∷ [];
  calls =
      (call 1 3 1 1 1 true (grid 531000 180000) 1 (needs 2 0 0) [] 1191)
      ∷ (call 1 5 1 1 1 false (grid 531000 180000) 2 (needs 2 1 1) [] 1010) ∷ [];
  vehicles =
      (vehicle A1 1 2 Support (grid 530100 180100) OffDuty 40000 None 0 1)
      ∷ (vehicle A2 1 1 Ambulance (grid 530200 180000) Mobilised 40000 None 1 1)
      ∷ (vehicle A3 2 2 Ambulance (grid 530000 180000) OffDuty 0 None 0 0)
      ∷ (vehicle B1 1 1 Ambulance (grid 560200 180000) Available 2000 None 0 0)
      ∷ (vehicle B2 2 1 Ambulance (grid 530120 180160) Returning 2000 None 1 1) ∷ [];
  turns =
      (turn A2 1 1 1 Ambulance 1341 (Some 1919) None None None None false)
      ∷ (turn B2 1 1 1 Ambulance 1372 None None None None (Some 2672) true) ∷ [];
  assignments = (assignment A2 1 1 1 (grid 531000 180000) 2) ∷ [];
  points = (point 1 1 (grid 530100 180100) 2) ∷ (point 2 2 (grid 530100 180000) 2) ∷ [];
  loans = (loan A1 1 2 1853 2040 false) ∷ (loan B2 2 1 1005 1000 false) ∷ [];
  offers = [];
  reports =
      (report A1 1 button.Hospital 0 (grid 530100 180000) 2386 2 Wrong OffDuty false)
      ∷ (report A2 1 button.Mobile 1 (grid 530200 180000) 1919 1 Normal Mobilised false)
      ∷ (report B2 1 button.Home 0 (grid 530120 180160) 1000 2 Normal Available false) ∷ [];
}

lend_not_home_2 : Steps (at 2792 (Desk 2) (ask.Lend A1 1 2892)) before_lend_not_home_2
    (Err refusal.NotHome) before_lend_not_home_2
unfolding machine
lend_not_home_2 = (refl, refl)

abbrev before_lend_not_home_3 : Room
before_lend_not_home_3 = record {
  plan = overlapping_divisions;
  divisions = (division 1 4) ∷ (division 7 1) ∷ [];
  incidents =
      (incident 1 1 (grid 560000 180000) 2 (needs 1 0 0) 1426 (Some 2256) Active)
      ∷ (incident 1 2 (grid 530300 180400) 2 (needs 1 1 0) 1794 None Active)
      ∷ (incident 1 3 (grid 530201 180000) 3 (needs 1 0 0) 2694 None Active)
      ∷ (incident 1 4 (grid 560100 180000) 1 (needs 1 0 0) 4901 None Active)
      ∷ (incident 7 1 (grid 530000 180000) 2 (needs 0 1 0) 2634 None Active) ∷ [];
  calls =
      (call 1 4 1 3 3 false (grid 530201 180000) 3 (needs 1 0 0) (codes "x") 2694)
      ∷ (call 1 5 7 1 1 false (grid 530000 180000) 2 (needs 0 1 0) [] 2634)
      ∷ (call 2 3 1 1 1 false (grid 560000 180000) 2 (needs 1 0 0) [] 1426)
      ∷ (call 2 4 1 2 2 false (grid 530300 180400) 2 (needs 0 1 0) [] 1794)
      ∷ (call 2 6 1 4 4 false (grid 560100 180000) 1 (needs 1 0 0) [] 4901) ∷ [];
  vehicles =
      (vehicle A1 7 7 Ambulance (grid 560200 180000) OffDuty 0 None 0 1)
      ∷ (vehicle A2 1 1 Ambulance (grid 530000 180000) OffDuty 0 None 0 2)
      ∷ (vehicle A3 7 1 Ambulance (grid 530100 180100) AtHospital 5486 None 1 2) ∷ [];
  turns = (turn A3 1 1 1 Ambulance 2256 None None (Some 3590) (Some 5585) None false) ∷ [];
  assignments = (assignment A3 1 1 1 (grid 560000 180000) 2) ∷ [];
  points = (point 7 1 (grid 530201 180000) 0) ∷ [];
  loans = (loan A3 7 1 2075 5585 false) ∷ [];
  offers = [];
  reports =
      (report A1 1 button.Leave 0 (grid 530000 180000) 2095 7 Wrong OffDuty false)
      ∷ (report A2 1 button.Scene 0 (grid 530200 180000) 1608 1 Wrong OffDuty false)
      ∷ (report A2 2 button.Leave 0 (grid 530100 180100) 5586 1 Wrong OffDuty false)
      ∷ (report A3 1 button.Leave 1 (grid 531000 180000) 3590 1 Skipped Leaving false)
      ∷ (report A3 2 button.Hospital 1 (grid 530100 180100) 5585 1 Normal AtHospital false) ∷ [];
}

lend_not_home_3 : Steps (at 5254 (Desk 1) (ask.Lend A3 7 6254)) before_lend_not_home_3
    (Err refusal.NotHome) before_lend_not_home_3
unfolding machine
lend_not_home_3 = (refl, refl)

abbrev before_lend_shift_over : Room
before_lend_shift_over = record {
  plan = two_divisions;
  divisions = (division 1 0) ∷ (division 2 3) ∷ [];
  incidents = [];
  calls = [];
  vehicles =
      (vehicle A1 2 2 Ambulance (grid 560100 180000) Available 40000 None 0 0)
      ∷ (vehicle A2 2 2 Ambulance (grid 530120 180160) OffDuty 0 None 0 0) ∷ [];
  turns = [];
  assignments = [];
  points = [];
  loans = [];
  offers = [];
  reports = [];
}

lend_shift_over : Steps (at 40000 (Desk 2) (ask.Lend A1 1 41000)) before_lend_shift_over
    (Err refusal.ShiftOver) before_lend_shift_over
unfolding machine
lend_shift_over = (refl, refl)

abbrev before_lend_shift_over_2 : Room
before_lend_shift_over_2 = record {
  plan = two_divisions;
  divisions = (division 1 0) ∷ (division 2 0) ∷ [];
  incidents = [];
  calls = [];
  vehicles =
      (vehicle A1 1 1 Ambulance (grid 560100 180000) Available 5000 None 2147483647 0)
      ∷ (vehicle A2 1 1 Ambulance (grid 530100 180000) OffDuty 0 None 0 0) ∷ [];
  turns = [];
  assignments = [];
  points = [];
  loans = [];
  offers = [];
  reports = [];
}

lend_shift_over_2 : Steps (at 5001 (Desk 1) (ask.Lend A1 2 5101)) before_lend_shift_over_2
    (Err refusal.ShiftOver) before_lend_shift_over_2
unfolding machine
lend_shift_over_2 = (refl, refl)

abbrev before_lend_shift_over_3 : Room
before_lend_shift_over_3 = record {
  plan = two_divisions;
  divisions = (division 1 0) ∷ (division 2 0) ∷ [];
  incidents = [];
  calls = [];
  vehicles =
      (vehicle A1 2 2 Ambulance (grid 530100 180000) Available 40000 None 0 0)
      ∷ (vehicle A2 1 1 Support (grid 560100 180000) OffDuty 0 None 0 0) ∷ [];
  turns = [];
  assignments = [];
  points = [];
  loans = [];
  offers = [];
  reports = [];
}

lend_shift_over_3 : Steps (at 40000 (Desk 2) (ask.Lend A1 1 41000)) before_lend_shift_over_3
    (Err refusal.ShiftOver) before_lend_shift_over_3
unfolding machine
lend_shift_over_3 = (refl, refl)

abbrev before_lend_shift_over_4 : Room
before_lend_shift_over_4 = record {
  plan = overlapping_divisions;
  divisions = (division 1 1) ∷ (division 7 0) ∷ [];
  incidents = (incident 1 1 (grid 560100 180000) 3 (needs 1 0 0) 1005 (Some 1709) Active) ∷ [];
  calls = (call 2 2 1 1 1 false (grid 560100 180000) 3 (needs 2 1 1) [] 1005) ∷ [];
  vehicles =
      (vehicle A1 1 1 Ambulance (grid 531000 180000) Returning 2000 None 1 5)
      ∷ (vehicle A2 1 1 Ambulance (grid 530200 180000) Available 3172 (Some 2) 0 0)
      ∷ (vehicle A3 7 7 Car (grid 530000 180000) OffDuty 0 None 0 0) ∷ [];
  turns = (turn A1 1 1 1 Ambulance 1709 (Some 2190) None None (Some 2993) (Some 3113) false) ∷ [];
  assignments = [];
  points = (point 1 1 (grid 530300 180400) 2) ∷ (point 1 2 (grid 530000 180000) 0) ∷ [];
  loans = [];
  offers = [];
  reports =
      (report A1 1 button.Home 0 (grid 530200 180000) 1046 1 Normal Available false)
      ∷ (report A1 3 button.Mobile 1 (grid 530120 180160) 2190 1 Normal Mobilised false)
      ∷ (report A1 4 button.Hospital 1 (grid 530300 180400) 2993 1 Skipped AtHospital false)
      ∷ (report A1 5 button.Return 1 (grid 531000 180000) 3113 1 Normal Returning false) ∷ [];
}

lend_shift_over_4 : Steps (at 3233 (Desk 1) (ask.Lend A1 7 3333)) before_lend_shift_over_4
    (Err refusal.ShiftOver) before_lend_shift_over_4
unfolding machine
lend_shift_over_4 = (refl, refl)

abbrev before_lend_still_assigned : Room
before_lend_still_assigned = record {
  plan = two_divisions;
  divisions = (division 1 1) ∷ (division 2 0) ∷ [];
  incidents = (incident 1 1 (grid 531000 180000) 1 (needs 2 1 1) 1865 (Some 1870) Active) ∷ [];
  calls = (call 2 4 1 1 1 false (grid 531000 180000) 1 (needs 2 1 1) [] 1865) ∷ [];
  vehicles =
      (vehicle A1 1 1 Support (grid 530300 180400) Mobilised 2000 None 1 2)
      ∷ (vehicle A2 2 2 Car (grid 531000 180000) OffDuty 0 None 0 0) ∷ [];
  turns = (turn A1 1 1 1 Support 1870 None None None None None false) ∷ [];
  assignments = (assignment A1 1 1 1 (grid 531000 180000) 1) ∷ [];
  points = [];
  loans = [];
  offers = [];
  reports =
      (report A1 1 button.Scene 0 (grid 531000 180000) 981 1 Wrong Available false)
      ∷ (report A1 2 button.Home 0 (grid 530300 180400) 1865 1 Normal Available false) ∷ [];
}

lend_still_assigned : Steps (at 2356 (Desk 1) (ask.Lend A1 2 2756)) before_lend_still_assigned
    (Err refusal.StillAssigned) before_lend_still_assigned
unfolding machine
lend_still_assigned = (refl, refl)

abbrev before_lend_still_assigned_2 : Room
before_lend_still_assigned_2 = record {
  plan = two_divisions;
  divisions = (division 1 1) ∷ (division 2 0) ∷ [];
  incidents = (incident 1 1 (grid 530120 180160) 1 (needs 2 0 0) 2725 (Some 3492) Active) ∷ [];
  calls =
      (call 1 3 1 1 1 false (grid 530120 180160) 1 (needs 2 0 0) (codes "x") 2725)
      ∷ (call 2 5 1 1 1 true (grid 530120 180160) 2 (needs 1 0 0) [] 3205) ∷ [];
  vehicles =
      (vehicle A1 1 1 Ambulance (grid 530201 180000) Leaving 40000 None 1 5)
      ∷ (vehicle A2 2 2 Support (grid 560200 180000) Available 5000 None 0 1) ∷ [];
  turns = (turn A1 1 1 1 Ambulance 3492 None None (Some 4034) None None false) ∷ [];
  assignments = (assignment A1 1 1 1 (grid 530120 180160) 1) ∷ [];
  points = (point 1 2 (grid 530000 180000) 0) ∷ [];
  loans = [];
  offers = [];
  reports =
      (report A1 2 button.Mobile 0 (grid 530000 180000) 1181 1 Wrong Available false)
      ∷ (report A1 3 button.Home 0 (grid 530100 180000) 3026 1 Normal Available false)
      ∷ (report A1 5 button.Leave 1 (grid 530201 180000) 4034 1 Skipped Leaving false)
      ∷ (report A2 1 button.Scene 0 (grid 530201 180000) 2264 2 Wrong Available true) ∷ [];
}

lend_still_assigned_2 : Steps (at 4556 (Desk 1) (ask.Lend A1 2 4556)) before_lend_still_assigned_2
    (Err refusal.StillAssigned) before_lend_still_assigned_2
unfolding machine
lend_still_assigned_2 = (refl, refl)

abbrev before_lend_still_assigned_3 : Room
before_lend_still_assigned_3 = record {
  plan = two_divisions;
  divisions = (division 1 2147483647) ∷ (division 2 2147483647) ∷ [];
  incidents = (incident 1 2147483647 (grid 530100 180100) 1 (needs 1 1 0) 1005 (Some 4014) Active) ∷ [];
  calls = (call 1 3 1 2147483647 2147483647 false (grid 530100 180100) 1 (needs 1 1 0) [] 1005) ∷ [];
  vehicles =
      (vehicle A1 2 2 Ambulance (grid 530201 180000) Available 5000 (Some 2) 0 0)
      ∷ (vehicle A2 1 1 Car (grid 530100 180000) AtScene 5000 None 1 4)
      ∷ (vehicle A3 2 2 Ambulance (grid 530200 180000) OffDuty 5000 None 0 4) ∷ [];
  turns = (turn A2 1 1 2147483647 Car 4014 None (Some 5013) None None None false) ∷ [];
  assignments = (assignment A2 1 2147483647 1 (grid 530100 180100) 1) ∷ [];
  points = (point 1 1 (grid 530200 180000) 1) ∷ (point 2 2 (grid 531000 180000) 0) ∷ [];
  loans = [];
  offers = [];
  reports =
      (report A2 2 button.Return 0 (grid 530100 180000) 2269 1 Wrong Available true)
      ∷ (report A2 3 button.Hospital 0 (grid 530000 180000) 3051 1 Wrong Available false)
      ∷ (report A2 4 button.Scene 1 (grid 530100 180000) 5013 1 Skipped AtScene false)
      ∷ (report A3 1 button.Mobile 0 (grid 530200 180000) 2750 2 Wrong Available false)
      ∷ (report A3 3 button.Hospital 0 (grid 530200 180000) 4495 2 Wrong Available false)
      ∷ (report A3 4 button.Hospital 0 (grid 530100 180000) 4525 2 Wrong Available false) ∷ [];
}

lend_still_assigned_3 : Steps (at 5294 (Desk 1) (ask.Lend A2 2 5694)) before_lend_still_assigned_3
    (Err refusal.StillAssigned) before_lend_still_assigned_3
unfolding machine
lend_still_assigned_3 = (refl, refl)

abbrev before_lend_still_assigned_4 : Room
before_lend_still_assigned_4 = record {
  plan = two_divisions;
  divisions = (division 1 1) ∷ (division 2 0) ∷ [];
  incidents = (incident 1 1 (grid 530100 180100) 2 (needs 2 1 1) 1703 (Some 2603) Active) ∷ [];
  calls =
      (call 1 2 1 1 1 false (grid 530100 180100) 2 (needs 2 1 1) [] 1703)
      ∷ (call 2 3 1 1 1 true (grid 530120 180160) 2 (needs 1 1 0) [] 2544)
      ∷ (call 2 4 1 1 1 true (grid 530100 180100) 2 (needs 0 0 1) [] 2125) ∷ [];
  vehicles =
      (vehicle A1 1 1 Ambulance (grid 530100 180100) Offered 5000 None 0 0)
      ∷ (vehicle A2 1 1 Car (grid 530200 180000) Available 2000 None 0 1)
      ∷ (vehicle A3 1 1 Ambulance (grid 530000 180000) OffDuty 0 None 0 1)
      ∷ (vehicle B1 1 1 Ambulance (grid 530000 180000) AtHospital 5000 None 1 5) ∷ [];
  turns = (turn B1 1 1 1 Ambulance 2603 None None None (Some 2606) None false) ∷ [];
  assignments = (assignment B1 1 1 1 (grid 530100 180100) 2) ∷ [];
  points = [];
  loans = [];
  offers = (offer A1 1 2 2787 3187) ∷ [];
  reports =
      (report A2 1 button.Leave 0 (grid 530120 180160) 1642 1 Wrong Available false)
      ∷ (report A3 1 button.Return 0 (grid 530120 180160) 1704 1 Wrong OffDuty false)
      ∷ (report B1 1 button.Leave 0 (grid 530120 180160) 1461 1 Wrong Available false)
      ∷ (report B1 2 button.Hospital 1 (grid 530100 180000) 2606 1 Skipped AtHospital false)
      ∷ (report B1 3 button.Position 0 (grid 530000 180000) 2757 1 Normal AtHospital false)
      ∷ (report B1 5 button.Leave 1 (grid 530120 180160) 3089 1 Wrong AtHospital false) ∷ [];
}

lend_still_assigned_4 : Steps (at 3390 (Desk 1) (ask.Lend B1 2 4390)) before_lend_still_assigned_4
    (Err refusal.StillAssigned) before_lend_still_assigned_4
unfolding machine
lend_still_assigned_4 = (refl, refl)

abbrev before_lend_vehicle_lent : Room
before_lend_vehicle_lent = record {
  plan = two_divisions;
  divisions = (division 1 4) ∷ (division 2 0) ∷ [];
  incidents = (incident 1 4 (grid 530100 180100) 3 (needs 0 1 0) 2722 None Active) ∷ [];
  calls = (call 1 2 1 4 4 false (grid 530100 180100) 3 (needs 0 1 0) (codes "x") 2722) ∷ [];
  vehicles =
      (vehicle A1 2 1 Support (grid 530201 180000) Available 5000 None 0 3)
      ∷ (vehicle A2 1 1 Ambulance (grid 530200 180000) OffDuty 0 None 0 0)
      ∷ (vehicle A3 1 1 Support (grid 560000 180000) OffDuty 0 None 0 2) ∷ [];
  turns = [];
  assignments = [];
  points = (point 1 1 (grid 530200 180000) 1) ∷ (point 1 2 (grid 530100 180000) 1) ∷ [];
  loans = (loan A1 2 1 5000 2519 false) ∷ [];
  offers = [];
  reports =
      (report A1 1 button.Hospital 0 (grid 530100 180000) 2120 2 Wrong Offered false)
      ∷ (report A1 3 button.Hospital 0 (grid 530300 180400) 2241 2 Wrong Offered false)
      ∷ (report A3 2 button.Mobile 0 (grid 530201 180000) 2118 1 Wrong OffDuty false) ∷ [];
}

lend_vehicle_lent : Steps (at 2763 (Desk 2) (ask.Lend A1 1 2763)) before_lend_vehicle_lent
    (Err refusal.VehicleLent) before_lend_vehicle_lent
unfolding machine
lend_vehicle_lent = (refl, refl)

abbrev before_lend_vehicle_lent_2 : Room
before_lend_vehicle_lent_2 = record {
  plan = two_divisions;
  divisions = (division 1 1) ∷ (division 2 0) ∷ [];
  incidents = (incident 1 1 (grid 530100 180100) 2 (needs 2 0 0) 2637 (Some 3469) Active) ∷ [];
  calls = (call 2 3 1 1 1 false (grid 530100 180100) 2 (needs 2 0 0) [] 2637) ∷ [];
  vehicles =
      (vehicle A1 2 1 Ambulance (grid 530120 180160) Mobilised 5000 None 1 3)
      ∷ (vehicle A2 1 1 Ambulance (grid 530300 180400) OffDuty 2000 None 0 4)
      ∷ (vehicle A3 1 1 Ambulance (grid 530000 180000) Available 6824 None 0 5) ∷ [];
  turns = (turn A1 1 1 1 Ambulance 3469 None None None None None false) ∷ [];
  assignments = (assignment A1 1 1 1 (grid 530100 180100) 2) ∷ [];
  points = (point 1 2 (grid 530120 180160) 1) ∷ [];
  loans = (loan A1 2 1 3349 2999 false) ∷ [];
  offers = [];
  reports =
      (report A1 1 button.Leave 0 (grid 530200 180000) 2025 2 Wrong Available false)
      ∷ (report A1 2 button.Home 0 (grid 531000 180000) 2657 2 Normal Available false)
      ∷ (report A1 3 button.Home 0 (grid 530120 180160) 3048 2 Normal Offered false)
      ∷ (report A2 1 button.Home 0 (grid 530300 180400) 982 1 Normal Available false)
      ∷ (report A2 2 button.Scene 0 (grid 530100 180100) 1413 1 Wrong Available false)
      ∷ (report A2 4 button.Scene 0 (grid 531000 180000) 2657 1 Wrong Available false)
      ∷ (report A3 1 button.Leave 0 (grid 530201 180000) 1001 1 Wrong OffDuty false)
      ∷ (report A3 2 button.Hospital 0 (grid 530100 180100) 1403 1 Wrong OffDuty false)
      ∷ (report A3 3 button.Position 0 (grid 530200 180000) 1433 1 Wrong OffDuty false)
      ∷ (report A3 4 button.Home 0 (grid 530100 180100) 1543 1 Wrong OffDuty false)
      ∷ (report A3 5 button.Mobile 0 (grid 530120 180160) 3067 1 Wrong Available false) ∷ [];
}

lend_vehicle_lent_2 : Steps (at 5001 (Desk 2) (ask.Lend A1 1 6001)) before_lend_vehicle_lent_2
    (Err refusal.VehicleLent) before_lend_vehicle_lent_2
unfolding machine
lend_vehicle_lent_2 = (refl, refl)

abbrev before_lend_vehicle_lent_3 : Room
before_lend_vehicle_lent_3 = record {
  plan = two_divisions;
  divisions = (division 1 4) ∷ (division 2 3) ∷ [];
  incidents =
      (incident 1 1 (grid 530120 180160) 1 (needs 1 1 0) 2471 None Active)
      ∷ (incident 1 2 (grid 530300 180400) 2 (needs 1 0 0) 2951 None Active)
      ∷ (incident 1 3 (grid 530201 180000) 2 (needs 2 1 1) 4181 None Active)
      ∷ (incident 1 4 (grid 531000 180000) 2 (needs 1 1 0) 5081 None Active) ∷ [];
  calls =
      (call 1 3 1 3 3 false (grid 530201 180000) 2 (needs 2 1 1) (codes "x") 4181)
      ∷ (call 1 4 1 2 2 false (grid 530300 180400) 2 (needs 1 0 0) [] 2951)
      ∷ (call 1 5 1 1 1 false (grid 530120 180160) 2 (needs 1 0 0) [] 2471)
      ∷ (call 1 6 1 1 1 true (grid 530120 180160) 1 (needs 0 1 0) [] 3132)
      ∷ (call 2 2 1 4 4 false (grid 531000 180000) 2 (needs 1 1 0) [] 5081)
      ∷ (call 2 4 1 1 1 true (grid 530200 180000) 1 (needs 1 0 0) (codes "x") 2651) ∷ [];
  vehicles =
      (vehicle A1 1 1 Support (grid 530100 180000) Offered 40000 None 0 6)
      ∷ (vehicle A2 2 1 Support (grid 560200 180000) OffDuty 5000 None 0 6) ∷ [];
  turns = [];
  assignments = [];
  points = (point 2 2 (grid 530201 180000) 1) ∷ [];
  loans = (loan A2 2 1 40000 4628 false) ∷ [];
  offers = (offer A1 1 2 5342 5742) ∷ [];
  reports =
      (report A1 1 button.Home 0 (grid 530000 180000) 1481 1 Normal Available false)
      ∷ (report A1 2 button.Home 0 (grid 530000 180000) 2024 1 Normal Available false)
      ∷ (report A1 3 button.Scene 0 (grid 530300 180400) 2205 1 Wrong Available false)
      ∷ (report A1 4 button.Hospital 0 (grid 531000 180000) 2351 1 Late Available false)
      ∷ (report A1 5 button.Home 0 (grid 530100 180000) 2366 1 Normal Available false)
      ∷ (report A1 6 button.Mobile 0 (grid 530100 180100) 3433 1 Wrong Available true)
      ∷ (report A2 1 button.Scene 0 (grid 530300 180400) 1662 2 Wrong Available false)
      ∷ (report A2 3 button.Mobile 0 (grid 530201 180000) 2471 2 Wrong Available true)
      ∷ (report A2 5 button.Scene 0 (grid 530200 180000) 4120 1 Wrong Available false)
      ∷ (report A2 6 button.Home 0 (grid 530300 180400) 4675 1 Wrong OffDuty false) ∷ [];
}

lend_vehicle_lent_3 : Steps (at 4999 (Desk 2) (ask.Lend A2 1 5999)) before_lend_vehicle_lent_3
    (Err refusal.VehicleLent) before_lend_vehicle_lent_3
unfolding machine
lend_vehicle_lent_3 = (refl, refl)

abbrev before_lend_wrong_status : Room
before_lend_wrong_status = record {
  plan = two_divisions;
  divisions = (division 1 0) ∷ (division 2 3) ∷ [];
  incidents = [];
  calls = [];
  vehicles =
      (vehicle A1 1 1 Support (grid 530300 180400) Available 5000 None 0 0)
      ∷ (vehicle A2 2 2 Ambulance (grid 530000 180000) OffDuty 0 None 0 0) ∷ [];
  turns = [];
  assignments = [];
  points = [];
  loans = [];
  offers = [];
  reports = [];
}

lend_wrong_status : Steps (at 4999 (Desk 2) (ask.Lend A2 1 4999)) before_lend_wrong_status
    (Err refusal.WrongStatus) before_lend_wrong_status
unfolding machine
lend_wrong_status = (refl, refl)

abbrev before_lend_wrong_status_2 : Room
before_lend_wrong_status_2 = record {
  plan = two_divisions;
  divisions = (division 1 0) ∷ (division 2 0) ∷ [];
  incidents = [];
  calls = [];
  vehicles =
      (vehicle A1 2 2 Ambulance (grid 530100 180100) Offered 2000 None 0 0)
      ∷ (vehicle A2 2 2 Car (grid 530100 180100) OffDuty 0 None 0 0) ∷ [];
  turns = [];
  assignments = [];
  points = [];
  loans = [];
  offers = (offer A1 2 1 1481 1881) ∷ [];
  reports = [];
}

lend_wrong_status_2 : Steps (at 2001 (Desk 2) (ask.Lend A1 1 2101)) before_lend_wrong_status_2
    (Err refusal.WrongStatus) before_lend_wrong_status_2
unfolding machine
lend_wrong_status_2 = (refl, refl)

abbrev before_offers_0 : Room
before_offers_0 = record {
  plan = two_divisions;
  divisions = (division 1 3) ∷ (division 2 0) ∷ [];
  incidents = [];
  calls = [];
  vehicles =
      (vehicle A1 2 2 Ambulance (grid 530201 180000) Available 2000 None 2147483647 0)
      ∷ (vehicle A2 2 2 Ambulance (grid 530200 180000) Available 5000 None 0 0) ∷ [];
  turns = [];
  assignments = [];
  points = [];
  loans = [];
  offers = [];
  reports = [];
}

offers_0 : Steps (at 1030 (Desk 2) ask.Offers) before_offers_0
    (Ok (answer.Offers ([]))) before_offers_0
unfolding machine
offers_0 = (refl, refl)

abbrev before_offers_1 : Room
before_offers_1 = record {
  plan = overlapping_divisions;
  divisions = (division 1 0) ∷ (division 7 0) ∷ [];
  incidents = [];
  calls = [];
  vehicles =
      (vehicle A1 7 7 Support (grid 530120 180160) Available 40000 None 0 0)
      ∷ (vehicle A2 1 1 Ambulance (grid 560100 180000) Offered 2000 None 0 0) ∷ [];
  turns = [];
  assignments = [];
  points = [];
  loans = [];
  offers = (offer A2 1 7 1005 1005) ∷ [];
  reports = [];
}

offers_1 : Steps (at 1186 (Desk 1) ask.Offers) before_offers_1
    (Ok (answer.Offers ((offer A2 1 7 1005 1005) ∷ []))) before_offers_1
unfolding machine
offers_1 = (refl, refl)

abbrev before_offers_2 : Room
before_offers_2 = record {
  plan = two_divisions;
  divisions = (division 1 1) ∷ (division 2 3) ∷ [];
  incidents = (incident 1 1 (grid 530100 180100) 3 (needs 1 0 0) 1362 None Active) ∷ [];
  calls = (call 2 6 1 1 1 false (grid 530100 180100) 3 (needs 1 0 0) (codes "x") 1362) ∷ [];
  vehicles =
      (vehicle A1 1 1 Ambulance (grid 530120 180160) Offered 5000 None 0 1)
      ∷ (vehicle A2 2 2 Car (grid 560000 180000) Offered 40000 None 0 1) ∷ [];
  turns = [];
  assignments = [];
  points = (point 1 2 (grid 530300 180400) 1) ∷ [];
  loans = [];
  offers = (offer A1 1 2 1392 1392) ∷ (offer A2 2 1 1402 1402) ∷ [];
  reports =
      (report A1 1 button.Home 0 (grid 530120 180160) 1397 1 Normal Offered false)
      ∷ (report A2 1 button.Scene 0 (grid 530300 180400) 1120 2 Wrong Available false) ∷ [];
}

offers_2 : Steps (at 1403 (Desk 1) ask.Offers) before_offers_2
    (Ok (answer.Offers ((offer A1 1 2 1392 1392) ∷ (offer A2 2 1 1402 1402) ∷ []))) before_offers_2
unfolding machine
offers_2 = (refl, refl)

abbrev before_withdraw : Room
before_withdraw = record {
  plan = two_divisions;
  divisions = (division 1 0) ∷ (division 2 0) ∷ [];
  incidents = [];
  calls = [];
  vehicles =
      (vehicle A1 1 1 Ambulance (grid 530000 180000) Available 2287 None 0 0)
      ∷ (vehicle A2 1 1 Ambulance (grid 530100 180000) Offered 41136 None 0 1) ∷ [];
  turns = [];
  assignments = [];
  points = [];
  loans = [];
  offers = (offer A2 1 2 1437 2437) ∷ [];
  reports = (report A2 1 button.Hospital 0 (grid 530201 180000) 1131 1 Wrong OffDuty true) ∷ [];
}

withdraw : Steps (at 2467 (Desk 1) (ask.Withdraw A2)) before_withdraw (Ok answer.Done)
    (record before_withdraw {
      vehicles =
          (vehicle A1 1 1 Ambulance (grid 530000 180000) Available 2287 None 0 0)
          ∷ (vehicle A2 1 1 Ambulance (grid 530100 180000) Available 41136 None 0 1)
          ∷ [];
      offers = [];
    })
unfolding machine
withdraw = (refl, refl)

abbrev before_withdraw_no_such_offer : Room
before_withdraw_no_such_offer = record {
  plan = two_divisions;
  divisions = (division 1 3) ∷ (division 2 0) ∷ [];
  incidents = [];
  calls = [];
  vehicles =
      (vehicle A1 1 1 Ambulance (grid 530300 180400) Available 40000 None 0 0)
      ∷ (vehicle A2 2 2 Ambulance (grid 530201 180000) OffDuty 0 None 0 0) ∷ [];
  turns = [];
  assignments = [];
  points = [];
  loans = [];
  offers = [];
  reports = [];
}

withdraw_no_such_offer : Steps (at 1481 (Desk 2) (ask.Withdraw A2)) before_withdraw_no_such_offer
    (Err refusal.NoSuchOffer) before_withdraw_no_such_offer
unfolding machine
withdraw_no_such_offer = (refl, refl)

abbrev before_withdraw_no_such_vehicle : Room
before_withdraw_no_such_vehicle = record {
  plan = two_divisions;
  divisions = (division 1 0) ∷ (division 2 0) ∷ [];
  incidents = [];
  calls = [];
  vehicles =
      (vehicle A1 1 1 Support (grid 530100 180000) OffDuty 0 None 0 0)
      ∷ (vehicle A2 2 2 Ambulance (grid 530120 180160) OffDuty 5000 None 0 0) ∷ [];
  turns = [];
  assignments = [];
  points = [];
  loans = [];
  offers = [];
  reports = [];
}

withdraw_no_such_vehicle : Steps (at 1486 (Desk 1) (ask.Withdraw Z9))
    before_withdraw_no_such_vehicle (Err refusal.NoSuchVehicle) before_withdraw_no_such_vehicle
unfolding machine
withdraw_no_such_vehicle = (refl, refl)

abbrev before_withdraw_vehicle_lent : Room
before_withdraw_vehicle_lent = record {
  plan = two_divisions;
  divisions = (division 1 5) ∷ (division 2 3) ∷ [];
  incidents =
      (incident 1 4 (grid 530000 180000) 2 (needs 2 1 1) 1301 None Active)
      ∷ (incident 1 5 (grid 530100 180100) 1 (needs 1 1 0) 3341 None Active) ∷ [];
  calls =
      (call 1 1 1 5 5 true (grid 530100 180100) 1 (needs 1 1 0) [] 4008)
      ∷ (call 2 2 1 5 5 false (grid 530100 180100) 3 (needs 1 0 0) [] 3341)
      ∷ (call 2 4 1 4 4 false (grid 530000 180000) 2 (needs 2 1 1) [] 1301) ∷ [];
  vehicles =
      (vehicle A1 2 2 Support (grid 560200 180000) Available 40000 None 2147483647 4)
      ∷ (vehicle A2 1 2 Support (grid 530100 180100) OffDuty 5000 None 0 5) ∷ [];
  turns = [];
  assignments = [];
  points = [];
  loans = (loan A2 1 2 39999 1443 true) ∷ [];
  offers = [];
  reports =
      (report A1 1 button.Hospital 2147483647 (grid 530100 180100) 2006 2 Wrong Available true)
      ∷ (report A1 3 button.Hospital 2147483646 (grid 531000 180000) 2487 2 Stale Available false)
      ∷ (report A1 4 button.Return 0 (grid 530100 180100) 2914 2 Stale Available false)
      ∷ (report A2 1 button.Home 0 (grid 530100 180100) 1362 1 Normal Available false)
      ∷ (report A2 2 button.Hospital 0 (grid 530200 180000) 1824 1 Wrong Offered false)
      ∷ (report A2 4 button.Scene 0 (grid 530100 180100) 2487 1 Wrong Offered false)
      ∷ (report A2 5 button.Scene 0 (grid 530100 180000) 3215 2 Wrong Available false) ∷ [];
}

withdraw_vehicle_lent : Steps (at 4489 (Desk 1) (ask.Withdraw A2)) before_withdraw_vehicle_lent
    (Err refusal.VehicleLent) before_withdraw_vehicle_lent
unfolding machine
withdraw_vehicle_lent = (refl, refl)
