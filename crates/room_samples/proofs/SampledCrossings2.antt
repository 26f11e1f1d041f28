-- Sampled steps: what an event hands to a division, what its desk is answered, and its share after
-- it. A program that is independent of this repository, written from the rules in words, made them
-- in random runs; of each kind of step it kept those with the fewest rows.
use Rattle.std.specs.Prelude.{None, Some, [], codes, false, refl, true, ◌∷◌}
use Rattle.room_types.specs.declared.asks.Ask.TheVariants as ask
use Rattle.room_types.specs.declared.asks.Who.TheVariants.{Crew, Desk, Position}
use Rattle.room_types.specs.declared.codes.Button.TheVariants as button
use Rattle.room_types.specs.declared.codes.Kind.TheVariants.{Ambulance, Car, Support}
use Rattle.room_types.specs.declared.codes.Outcome.TheVariants.{Late, Normal, Stale, Wrong}
use Rattle.room_types.specs.declared.codes.State.TheVariants.{Active}
use Rattle.room_types.specs.declared.codes.Status.TheVariants.{Available, OffDuty, Offered}
use Rattle.room_model.specs.Crossing.{Declined, Left, OfferIn, Recalled, ReportIn, Withdrawn}
use Rattle.room_model.specs.Room.{Room}
use Rattle.room_model.specs.ComputedDefinitions.{machine}
use Rattle.room_samples.specs.ExampleRows.{call, call_form, division, grid, incident, loan, offer}
use Rattle.room_samples.specs.ExampleRows.{point, pressed, report, vehicle}
use Rattle.room_samples.specs.SampledRooms.{A1, A2, A3, B1, Z9, overlapping_divisions}
use Rattle.room_samples.specs.SampledRooms.{two_divisions}
use Rattle.room_samples.specs.SampledSteps.{Hands}
use Rattle.room_model.specs.StepWords.{at, needs}

abbrev before_decline_is_handed_declined_5 : Room
before_decline_is_handed_declined_5 = record {
  plan = two_divisions;
  divisions = (division 1 0) ∷ (division 2 0) ∷ [];
  incidents = [];
  calls = [];
  vehicles =
      (vehicle A1 2 2 Ambulance (grid 560100 180000) Offered 40000 None 0 0)
      ∷ (vehicle A2 1 1 Ambulance (grid 560100 180000) Available 2000 None 0 0)
      ∷ (vehicle A3 2 2 Ambulance (grid 530000 180000) Available 40000 None 0 0) ∷ [];
  turns = [];
  assignments = [];
  points = [];
  loans = [];
  offers = (offer A1 2 1 1662 1762) ∷ [];
  reports = [];
}

decline_is_handed_declined_5 : Hands 2
    (at 1723 (Desk 1) (ask.Decline A1)) before_decline_is_handed_declined_5 (Some (Declined A1)) []
    (record before_decline_is_handed_declined_5 {
      divisions = (division 2 0) ∷ [];
      vehicles =
          (vehicle A1 2 2 Ambulance (grid 560100 180000) Available 40000 None 0 0)
          ∷ (vehicle A3 2 2 Ambulance (grid 530000 180000) Available 40000 None 0 0)
          ∷ [];
      offers = [];
    })
unfolding machine
decline_is_handed_declined_5 = (refl, refl, refl, refl)

abbrev before_decline_is_handed_declined_6 : Room
before_decline_is_handed_declined_6 = record {
  plan = overlapping_divisions;
  divisions = (division 1 2147483646) ∷ (division 7 2147483647) ∷ [];
  incidents = [];
  calls = [];
  vehicles =
      (vehicle A1 1 1 Ambulance (grid 560100 180000) Offered 5000 None 0 0)
      ∷ (vehicle A2 7 7 Ambulance (grid 530120 180160) Available 40000 None 0 0)
      ∷ (vehicle A3 7 7 Ambulance (grid 530000 180000) Available 5000 None 0 0) ∷ [];
  turns = [];
  assignments = [];
  points = [];
  loans = [];
  offers = (offer A1 1 7 1001 2001) ∷ [];
  reports = [];
}

decline_is_handed_declined_6 : Hands 1
    (at 1006 (Desk 7) (ask.Decline A1)) before_decline_is_handed_declined_6 (Some (Declined A1)) []
    (record before_decline_is_handed_declined_6 {
      divisions = (division 1 2147483646)
          ∷ [];
      vehicles = (vehicle A1 1 1 Ambulance
          (grid 560100 180000) Available 5000 None 0 0) ∷ [];
      offers = [];
    })
unfolding machine
decline_is_handed_declined_6 = (refl, refl, refl, refl)

abbrev before_decline_is_handed_declined_7 : Room
before_decline_is_handed_declined_7 = record {
  plan = two_divisions;
  divisions = (division 1 3) ∷ (division 2 0) ∷ [];
  incidents = [];
  calls = [];
  vehicles =
      (vehicle A1 1 1 Ambulance (grid 560100 180000) Available 5000 None 0 0)
      ∷ (vehicle A2 2 2 Ambulance (grid 530120 180160) Available 2000 None 2147483647 0)
      ∷ (vehicle A3 1 1 Ambulance (grid 560200 180000) Offered 5000 None 0 0) ∷ [];
  turns = [];
  assignments = [];
  points = [];
  loans = [];
  offers = (offer A3 1 2 2000 2000) ∷ [];
  reports = [];
}

decline_is_handed_declined_7 : Hands 1
    (at 1581 (Desk 2) (ask.Decline A3)) before_decline_is_handed_declined_7 (Some (Declined A3)) []
    (record before_decline_is_handed_declined_7 {
      divisions = (division 1 3) ∷ [];
      vehicles =
          (vehicle A1 1 1 Ambulance (grid 560100 180000) Available 5000 None 0 0)
          ∷ (vehicle A3 1 1 Ambulance (grid 560200 180000) Available 5000 None 0 0)
          ∷ [];
      offers = [];
    })
unfolding machine
decline_is_handed_declined_7 = (refl, refl, refl, refl)

abbrev before_decline_is_handed_declined_8 : Room
before_decline_is_handed_declined_8 = record {
  plan = two_divisions;
  divisions = (division 1 0) ∷ (division 2 0) ∷ [];
  incidents = [];
  calls = [];
  vehicles =
      (vehicle A1 1 1 Support (grid 530200 180000) Available 5000 None 0 0)
      ∷ (vehicle A2 1 1 Ambulance (grid 530120 180160) Available 5000 None 0 0)
      ∷ (vehicle A3 1 1 Ambulance (grid 531000 180000) OffDuty 0 None 0 0)
      ∷ (vehicle B1 2 2 Car (grid 530100 180000) Offered 2000 None 0 0) ∷ [];
  turns = [];
  assignments = [];
  points = [];
  loans = [];
  offers = (offer B1 2 1 1005 1105) ∷ [];
  reports = [];
}

decline_is_handed_declined_8 : Hands 2
    (at 1787 (Desk 1) (ask.Decline B1)) before_decline_is_handed_declined_8 (Some (Declined B1)) []
    (record before_decline_is_handed_declined_8 {
      divisions = (division 2 0) ∷ [];
      vehicles =
          (vehicle B1 2 2 Car (grid 530100 180000) Available 2000 None 0 0) ∷ [];
      offers = [];
    })
unfolding machine
decline_is_handed_declined_8 = (refl, refl, refl, refl)

abbrev before_decline_is_handed_declined_9 : Room
before_decline_is_handed_declined_9 = record {
  plan = two_divisions;
  divisions = (division 1 3) ∷ (division 2 3) ∷ [];
  incidents = [];
  calls = [];
  vehicles =
      (vehicle A1 1 1 Ambulance (grid 560100 180000) OffDuty 0 None 0 0)
      ∷ (vehicle A2 2 2 Support (grid 531000 180000) Offered 40000 None 0 0)
      ∷ (vehicle A3 2 2 Car (grid 530200 180000) Available 2000 None 0 0)
      ∷ (vehicle B1 2 2 Car (grid 530200 180000) OffDuty 0 None 2147483647 0) ∷ [];
  turns = [];
  assignments = [];
  points = [];
  loans = [];
  offers = (offer A2 2 1 1181 1581) ∷ [];
  reports = [];
}

decline_is_handed_declined_9 : Hands 2
    (at 1677 (Desk 1) (ask.Decline A2)) before_decline_is_handed_declined_9 (Some (Declined A2)) []
    (record before_decline_is_handed_declined_9 {
      divisions = (division 2 3) ∷ [];
      vehicles =
          (vehicle A2 2 2 Support (grid 531000 180000) Available 40000 None 0 0)
          ∷ (vehicle A3 2 2 Car (grid 530200 180000) Available 2000 None 0 0)
          ∷ (vehicle B1 2 2 Car (grid 530200 180000) OffDuty 0 None 2147483647 0)
          ∷ [];
      offers = [];
    })
unfolding machine
decline_is_handed_declined_9 = (refl, refl, refl, refl)

abbrev before_decline_is_handed_declined_10 : Room
before_decline_is_handed_declined_10 = record {
  plan = two_divisions;
  divisions = (division 1 0) ∷ (division 2 0) ∷ [];
  incidents = [];
  calls = [];
  vehicles =
      (vehicle A1 1 1 Ambulance (grid 530200 180000) Available 40000 None 0 0)
      ∷ (vehicle A2 2 2 Ambulance (grid 530201 180000) Available 40000 None 0 0)
      ∷ (vehicle A3 2 2 Ambulance (grid 530100 180100) Offered 40000 None 0 0)
      ∷ (vehicle B1 2 2 Support (grid 530100 180000) Available 5000 None 0 0) ∷ [];
  turns = [];
  assignments = [];
  points = [];
  loans = [];
  offers = (offer A3 2 1 1030 2030) ∷ [];
  reports = [];
}

decline_is_handed_declined_10 : Hands 2
    (at 1150 (Desk 1) (ask.Decline A3)) before_decline_is_handed_declined_10
    (Some (Declined A3)) [] (record before_decline_is_handed_declined_10 {
      divisions = (division 2 0) ∷ [];
      vehicles =
          (vehicle A2 2 2 Ambulance (grid 530201 180000) Available 40000 None 0 0)
          ∷ (vehicle A3 2 2 Ambulance (grid 530100 180100) Available 40000 None 0 0)
          ∷ (vehicle B1 2 2 Support (grid 530100 180000) Available 5000 None 0 0)
          ∷ [];
      offers = [];
    })
unfolding machine
decline_is_handed_declined_10 = (refl, refl, refl, refl)

abbrev before_decline_is_handed_declined_11 : Room
before_decline_is_handed_declined_11 = record {
  plan = two_divisions;
  divisions = (division 1 2147483647) ∷ (division 2 2147483647) ∷ [];
  incidents = [];
  calls = [];
  vehicles =
      (vehicle A1 2 2 Ambulance (grid 530300 180400) Available 5000 None 0 0)
      ∷ (vehicle A2 2 2 Ambulance (grid 530201 180000) Available 2000 None 0 0)
      ∷ (vehicle A3 2 2 Ambulance (grid 531000 180000) Offered 40000 None 0 1) ∷ [];
  turns = [];
  assignments = [];
  points = [];
  loans = [];
  offers = (offer A3 2 1 1521 1621) ∷ [];
  reports = (report A3 1 button.Position 0 (grid 531000 180000) 1030 2 Normal Available false) ∷ [];
}

decline_is_handed_declined_11 : Hands 2
    (at 2604 (Desk 1) (ask.Decline A3)) before_decline_is_handed_declined_11
    (Some (Declined A3)) [] (record before_decline_is_handed_declined_11 {
      divisions = (division 2 2147483647)
          ∷ [];
      vehicles = (vehicle A1 2 2 Ambulance
          (grid 530300 180400) Available 5000 None 0 0)
          ∷ (vehicle A2 2 2 Ambulance (grid 530201 180000) Available 2000 None 0 0)
          ∷ (vehicle A3 2 2 Ambulance (grid 531000 180000) Available 40000 None 0 1)
          ∷ [];
      offers = [];
    })
unfolding machine
decline_is_handed_declined_11 = (refl, refl, refl, refl)

abbrev before_decline_is_handed_declined_12 : Room
before_decline_is_handed_declined_12 = record {
  plan = two_divisions;
  divisions = (division 1 0) ∷ (division 2 3) ∷ [];
  incidents = [];
  calls = [];
  vehicles =
      (vehicle A1 2 2 Ambulance (grid 531000 180000) OffDuty 0 None 0 0)
      ∷ (vehicle A2 2 2 Ambulance (grid 530100 180000) Offered 5000 None 0 0)
      ∷ (vehicle A3 2 2 Support (grid 530300 180400) Available 2000 None 0 0) ∷ [];
  turns = [];
  assignments = [];
  points = (point 2 2 (grid 530120 180160) 2) ∷ [];
  loans = [];
  offers = (offer A2 2 1 1462 2462) ∷ [];
  reports = [];
}

decline_is_handed_declined_12 : Hands 2
    (at 1442 (Desk 1) (ask.Decline A2)) before_decline_is_handed_declined_12
    (Some (Declined A2)) [] (record before_decline_is_handed_declined_12 {
      divisions = (division 2 3) ∷ [];
      vehicles =
          (vehicle A1 2 2 Ambulance (grid 531000 180000) OffDuty 0 None 0 0)
          ∷ (vehicle A2 2 2 Ambulance (grid 530100 180000) Available 5000 None 0 0)
          ∷ (vehicle A3 2 2 Support (grid 530300 180400) Available 2000 None 0 0)
          ∷ [];
      offers = [];
    })
unfolding machine
decline_is_handed_declined_12 = (refl, refl, refl, refl)

abbrev before_decline_is_handed_declined_13 : Room
before_decline_is_handed_declined_13 = record {
  plan = two_divisions;
  divisions = (division 1 0) ∷ (division 2 1) ∷ [];
  incidents = (incident 2 1 (grid 560000 180000) 1 (needs 1 0 0) 981 None Active) ∷ [];
  calls = (call 1 2 2 1 1 false (grid 560000 180000) 1 (needs 1 0 0) [] 981) ∷ [];
  vehicles =
      (vehicle A1 2 2 Support (grid 560000 180000) Offered 40000 None 0 0)
      ∷ (vehicle A2 1 1 Ambulance (grid 560000 180000) Available 40000 None 0 0) ∷ [];
  turns = [];
  assignments = [];
  points = [];
  loans = [];
  offers = (offer A1 2 1 980 980) ∷ [];
  reports = [];
}

decline_is_handed_declined_13 : Hands 2
    (at 1011 (Desk 1) (ask.Decline A1)) before_decline_is_handed_declined_13
    (Some (Declined A1)) [] (record before_decline_is_handed_declined_13 {
      divisions = (division 2 1) ∷ [];
      vehicles =
          (vehicle A1 2 2 Support (grid 560000 180000) Available 40000 None 0 0)
          ∷ [];
      offers = [];
    })
unfolding machine
decline_is_handed_declined_13 = (refl, refl, refl, refl)

abbrev before_decline_is_handed_declined_14 : Room
before_decline_is_handed_declined_14 = record {
  plan = two_divisions;
  divisions = (division 1 0) ∷ (division 2 0) ∷ [];
  incidents = [];
  calls = [];
  vehicles =
      (vehicle A1 2 2 Support (grid 530200 180000) Available 41612 None 0 1)
      ∷ (vehicle A2 1 1 Support (grid 530201 180000) Offered 5000 None 2147483647 0)
      ∷ (vehicle A3 2 2 Car (grid 530100 180100) Available 40000 None 0 0) ∷ [];
  turns = [];
  assignments = [];
  points = [];
  loans = [];
  offers = (offer A2 1 2 1186 1186) ∷ [];
  reports = (report A1 1 button.Leave 0 (grid 530120 180160) 1191 2 Wrong OffDuty false) ∷ [];
}

decline_is_handed_declined_14 : Hands 1
    (at 1612 (Desk 2) (ask.Decline A2)) before_decline_is_handed_declined_14
    (Some (Declined A2)) [] (record before_decline_is_handed_declined_14 {
      divisions = (division 1 0) ∷ [];
      vehicles =
          (vehicle A2 1 1 Support (grid 530201 180000) Available 5000 None 2147483647 0)
          ∷ [];
      offers = [];
      reports = [];
    })
unfolding machine
decline_is_handed_declined_14 = (refl, refl, refl, refl)

abbrev before_accept_is_handed_left : Room
before_accept_is_handed_left = record {
  plan = overlapping_divisions;
  divisions = (division 1 0) ∷ (division 7 3) ∷ [];
  incidents = [];
  calls = [];
  vehicles =
      (vehicle A1 1 1 Ambulance (grid 530300 180400) Offered 5000 None 0 0)
      ∷ (vehicle A2 1 1 Car (grid 560200 180000) Available 5000 None 0 0) ∷ [];
  turns = [];
  assignments = [];
  points = [];
  loans = [];
  offers = (offer A1 1 7 1001 1401) ∷ [];
  reports = [];
}

accept_is_handed_left : Hands 1 (at 1121 (Desk 7) (ask.Accept A1)) before_accept_is_handed_left
    (Some (Left (loan A1 1 7 1121 1401 false))) []
    (record before_accept_is_handed_left {
      divisions = (division 1 0) ∷ [];
      vehicles =
          (vehicle A2 1 1 Car (grid 560200 180000) Available 5000 None 0 0)
          ∷ [];
      loans = (loan A1 1 7 1121 1401 false) ∷ [];
      offers = [];
    })
unfolding machine
accept_is_handed_left = (refl, refl, refl, refl)

abbrev before_accept_is_handed_left_2 : Room
before_accept_is_handed_left_2 = record {
  plan = two_divisions;
  divisions = (division 1 3) ∷ (division 2 3) ∷ [];
  incidents = [];
  calls = [];
  vehicles =
      (vehicle A1 2 2 Ambulance (grid 530120 180160) Offered 2000 None 0 0)
      ∷ (vehicle A2 2 2 Ambulance (grid 530100 180000) OffDuty 0 None 0 0) ∷ [];
  turns = [];
  assignments = [];
  points = [];
  loans = [];
  offers = (offer A1 2 1 1999 2099) ∷ [];
  reports = [];
}

accept_is_handed_left_2 : Hands 2 (at 1341 (Desk 1) (ask.Accept A1)) before_accept_is_handed_left_2
    (Some (Left (loan A1 2 1 1341 2099 false))) []
    (record before_accept_is_handed_left_2 {
      divisions = (division 2 3) ∷ [];
      vehicles =
          (vehicle A2 2 2 Ambulance (grid 530100 180000) OffDuty 0 None 0 0)
          ∷ [];
      loans = (loan A1 2 1 1341 2099 false) ∷ [];
      offers = [];
    })
unfolding machine
accept_is_handed_left_2 = (refl, refl, refl, refl)

abbrev before_accept_is_handed_left_3 : Room
before_accept_is_handed_left_3 = record {
  plan = two_divisions;
  divisions = (division 1 0) ∷ (division 2 0) ∷ [];
  incidents = [];
  calls = [];
  vehicles =
      (vehicle A1 2 2 Support (grid 530120 180160) Offered 2000 None 0 0)
      ∷ (vehicle A2 2 2 Ambulance (grid 530120 180160) Available 41135 None 0 0) ∷ [];
  turns = [];
  assignments = [];
  points = [];
  loans = [];
  offers = (offer A1 2 1 1646 2646) ∷ [];
  reports = [];
}

accept_is_handed_left_3 : Hands 2 (at 1999 (Desk 1) (ask.Accept A1)) before_accept_is_handed_left_3
    (Some (Left (loan A1 2 1 1999 2646 false))) []
    (record before_accept_is_handed_left_3 {
      divisions = (division 2 0) ∷ [];
      vehicles =
          (vehicle A2 2 2 Ambulance (grid 530120 180160) Available 41135 None 0 0)
          ∷ [];
      loans = (loan A1 2 1 1999 2646 false) ∷ [];
      offers = [];
    })
unfolding machine
accept_is_handed_left_3 = (refl, refl, refl, refl)

abbrev before_accept_is_handed_left_4 : Room
before_accept_is_handed_left_4 = record {
  plan = two_divisions;
  divisions = (division 1 3) ∷ (division 2 0) ∷ [];
  incidents = [];
  calls = [];
  vehicles =
      (vehicle A1 1 1 Ambulance (grid 530100 180000) Offered 2000 None 2147483647 0)
      ∷ (vehicle A2 1 1 Car (grid 530100 180100) OffDuty 0 None 0 0) ∷ [];
  turns = [];
  assignments = [];
  points = [];
  loans = [];
  offers = (offer A1 1 2 980 1080) ∷ [];
  reports = [];
}

accept_is_handed_left_4 : Hands 1 (at 2001 (Desk 2) (ask.Accept A1)) before_accept_is_handed_left_4
    (Some (Left (loan A1 1 2 2001 1080 false))) []
    (record before_accept_is_handed_left_4 {
      divisions = (division 1 3) ∷ [];
      vehicles =
          (vehicle A2 1 1 Car (grid 530100 180100) OffDuty 0 None 0 0)
          ∷ [];
      loans = (loan A1 1 2 2001 1080 false) ∷ [];
      offers = [];
    })
unfolding machine
accept_is_handed_left_4 = (refl, refl, refl, refl)

abbrev before_accept_is_handed_left_5 : Room
before_accept_is_handed_left_5 = record {
  plan = overlapping_divisions;
  divisions = (division 1 0) ∷ (division 7 3) ∷ [];
  incidents = [];
  calls = [];
  vehicles =
      (vehicle A1 1 1 Ambulance (grid 531000 180000) Available 2000 None 0 0)
      ∷ (vehicle A2 1 1 Car (grid 530120 180160) Offered 1500 None 0 0) ∷ [];
  turns = [];
  assignments = [];
  points = [];
  loans = [];
  offers = (offer A2 1 7 1000 1000) ∷ [];
  reports = [];
}

accept_is_handed_left_5 : Hands 1 (at 1542 (Desk 7) (ask.Accept A2)) before_accept_is_handed_left_5
    (Some (Left (loan A2 1 7 1542 1000 false))) []
    (record before_accept_is_handed_left_5 {
      divisions = (division 1 0) ∷ [];
      vehicles =
          (vehicle A1 1 1 Ambulance (grid 531000 180000) Available 2000 None 0 0)
          ∷ [];
      loans = (loan A2 1 7 1542 1000 false) ∷ [];
      offers = [];
    })
unfolding machine
accept_is_handed_left_5 = (refl, refl, refl, refl)

abbrev before_accept_is_handed_left_6 : Room
before_accept_is_handed_left_6 = record {
  plan = two_divisions;
  divisions = (division 1 0) ∷ (division 2 0) ∷ [];
  incidents = [];
  calls = [];
  vehicles =
      (vehicle A1 1 1 Support (grid 530100 180000) Offered 5000 None 0 0)
      ∷ (vehicle A2 1 1 Ambulance (grid 530200 180000) Available 2000 None 0 0)
      ∷ (vehicle A3 2 2 Car (grid 531000 180000) OffDuty 0 None 0 0) ∷ [];
  turns = [];
  assignments = [];
  points = [];
  loans = [];
  offers = (offer A1 1 2 1601 2601) ∷ [];
  reports = [];
}

accept_is_handed_left_6 : Hands 1 (at 2143 (Desk 2) (ask.Accept A1)) before_accept_is_handed_left_6
    (Some (Left (loan A1 1 2 2143 2601 false))) []
    (record before_accept_is_handed_left_6 {
      divisions = (division 1 0) ∷ [];
      vehicles =
          (vehicle A2 1 1 Ambulance (grid 530200 180000) Available 2000 None 0 0)
          ∷ [];
      loans = (loan A1 1 2 2143 2601 false) ∷ [];
      offers = [];
    })
unfolding machine
accept_is_handed_left_6 = (refl, refl, refl, refl)

abbrev before_accept_is_handed_left_7 : Room
before_accept_is_handed_left_7 = record {
  plan = two_divisions;
  divisions = (division 1 0) ∷ (division 2 0) ∷ [];
  incidents = [];
  calls = [];
  vehicles =
      (vehicle A1 1 1 Ambulance (grid 560100 180000) OffDuty 0 None 0 0)
      ∷ (vehicle A2 1 1 Ambulance (grid 530100 180000) OffDuty 5000 None 0 0)
      ∷ (vehicle A3 1 1 Ambulance (grid 530100 180100) Offered 40000 None 0 0) ∷ [];
  turns = [];
  assignments = [];
  points = [];
  loans = [];
  offers = (offer A3 1 2 39999 40099) ∷ [];
  reports = [];
}

accept_is_handed_left_7 : Hands 1 (at 1042 (Desk 2) (ask.Accept A3)) before_accept_is_handed_left_7
    (Some (Left (loan A3 1 2 1042 40099 false))) []
    (record before_accept_is_handed_left_7 {
      divisions = (division 1 0) ∷ [];
      vehicles =
          (vehicle A1 1 1 Ambulance (grid 560100 180000) OffDuty 0 None 0 0)
          ∷ (vehicle A2 1 1 Ambulance (grid 530100 180000) OffDuty 5000 None 0 0)
          ∷ [];
      loans = (loan A3 1 2 1042 40099 false) ∷ [];
      offers = [];
    })
unfolding machine
accept_is_handed_left_7 = (refl, refl, refl, refl)

abbrev before_accept_is_handed_left_8 : Room
before_accept_is_handed_left_8 = record {
  plan = two_divisions;
  divisions = (division 1 0) ∷ (division 2 0) ∷ [];
  incidents = [];
  calls = [];
  vehicles =
      (vehicle A1 1 1 Ambulance (grid 560100 180000) OffDuty 0 None 0 0)
      ∷ (vehicle A2 1 1 Ambulance (grid 530120 180160) Offered 2000 None 0 0)
      ∷ (vehicle A3 2 2 Support (grid 530300 180400) OffDuty 0 None 0 0) ∷ [];
  turns = [];
  assignments = [];
  points = [];
  loans = [];
  offers = (offer A2 1 2 1511 1911) ∷ [];
  reports = [];
}

accept_is_handed_left_8 : Hands 1 (at 1697 (Desk 2) (ask.Accept A2)) before_accept_is_handed_left_8
    (Some (Left (loan A2 1 2 1697 1911 false))) []
    (record before_accept_is_handed_left_8 {
      divisions = (division 1 0) ∷ [];
      vehicles =
          (vehicle A1 1 1 Ambulance (grid 560100 180000) OffDuty 0 None 0 0)
          ∷ [];
      loans = (loan A2 1 2 1697 1911 false) ∷ [];
      offers = [];
    })
unfolding machine
accept_is_handed_left_8 = (refl, refl, refl, refl)

abbrev before_accept_is_handed_left_9 : Room
before_accept_is_handed_left_9 = record {
  plan = overlapping_divisions;
  divisions = (division 1 0) ∷ (division 7 0) ∷ [];
  incidents = [];
  calls = [];
  vehicles =
      (vehicle A1 7 7 Support (grid 530200 180000) OffDuty 5000 None 0 0)
      ∷ (vehicle A2 7 7 Ambulance (grid 531000 180000) Offered 2000 None 0 0)
      ∷ (vehicle A3 1 1 Ambulance (grid 530000 180000) OffDuty 0 None 0 0) ∷ [];
  turns = [];
  assignments = [];
  points = [];
  loans = [];
  offers = (offer A2 7 1 1005 1405) ∷ [];
  reports = [];
}

accept_is_handed_left_9 : Hands 7 (at 1307 (Desk 1) (ask.Accept A2)) before_accept_is_handed_left_9
    (Some (Left (loan A2 7 1 1307 1405 false))) []
    (record before_accept_is_handed_left_9 {
      divisions = (division 7 0) ∷ [];
      vehicles =
          (vehicle A1 7 7 Support (grid 530200 180000) OffDuty 5000 None 0 0)
          ∷ [];
      loans = (loan A2 7 1 1307 1405 false) ∷ [];
      offers = [];
    })
unfolding machine
accept_is_handed_left_9 = (refl, refl, refl, refl)

abbrev before_accept_is_handed_left_10 : Room
before_accept_is_handed_left_10 = record {
  plan = two_divisions;
  divisions = (division 1 0) ∷ (division 2 0) ∷ [];
  incidents = [];
  calls = [];
  vehicles =
      (vehicle A1 1 1 Car (grid 531000 180000) Available 40000 None 0 0)
      ∷ (vehicle A2 1 1 Support (grid 530300 180400) OffDuty 0 None 0 0)
      ∷ (vehicle A3 1 1 Ambulance (grid 530000 180000) Offered 5000 None 0 0) ∷ [];
  turns = [];
  assignments = [];
  points = [];
  loans = [];
  offers = (offer A3 1 2 1721 2721) ∷ [];
  reports = [];
}

accept_is_handed_left_10 : Hands 1
    (at 1721 (Desk 2) (ask.Accept A3)) before_accept_is_handed_left_10
    (Some (Left (loan A3 1 2 1721 2721 false))) []
    (record before_accept_is_handed_left_10 {
      divisions = (division 1 0) ∷ [];
      vehicles =
          (vehicle A1 1 1 Car (grid 531000 180000) Available 40000 None 0 0)
          ∷ (vehicle A2 1 1 Support (grid 530300 180400) OffDuty 0 None 0 0)
          ∷ [];
      loans = (loan A3 1 2 1721 2721 false) ∷ [];
      offers = [];
    })
unfolding machine
accept_is_handed_left_10 = (refl, refl, refl, refl)

abbrev before_accept_is_handed_left_11 : Room
before_accept_is_handed_left_11 = record {
  plan = two_divisions;
  divisions = (division 1 0) ∷ (division 2 0) ∷ [];
  incidents = [];
  calls = [];
  vehicles =
      (vehicle A1 2 2 Ambulance (grid 530000 180000) Offered 2000 None 0 0)
      ∷ (vehicle A2 1 1 Support (grid 530201 180000) Available 2000 None 0 0)
      ∷ (vehicle A3 1 1 Support (grid 560100 180000) Available 5000 None 0 0) ∷ [];
  turns = [];
  assignments = [];
  points = [];
  loans = [];
  offers = (offer A1 2 1 1035 2035) ∷ [];
  reports = [];
}

accept_is_handed_left_11 : Hands 2
    (at 1155 (Desk 1) (ask.Accept A1)) before_accept_is_handed_left_11
    (Some (Left (loan A1 2 1 1155 2035 false))) []
    (record before_accept_is_handed_left_11 {
      divisions = (division 2 0) ∷ [];
      vehicles = [];
      loans = (loan A1 2 1 1155 2035 false)
          ∷ [];
      offers = [];
    })
unfolding machine
accept_is_handed_left_11 = (refl, refl, refl, refl)

abbrev before_accept_is_handed_left_12 : Room
before_accept_is_handed_left_12 = record {
  plan = two_divisions;
  divisions = (division 1 3) ∷ (division 2 0) ∷ [];
  incidents = [];
  calls = [];
  vehicles =
      (vehicle A1 1 1 Ambulance (grid 560100 180000) Available 5000 None 0 0)
      ∷ (vehicle A2 2 2 Ambulance (grid 530200 180000) Available 2000 None 0 0)
      ∷ (vehicle A3 1 1 Ambulance (grid 531000 180000) Offered 41968 None 0 0) ∷ [];
  turns = [];
  assignments = [];
  points = [];
  loans = [];
  offers = (offer A3 1 2 1968 1968) ∷ [];
  reports = [];
}

accept_is_handed_left_12 : Hands 1
    (at 1968 (Desk 2) (ask.Accept A3)) before_accept_is_handed_left_12
    (Some (Left (loan A3 1 2 1968 1968 false))) []
    (record before_accept_is_handed_left_12 {
      divisions = (division 1 3) ∷ [];
      vehicles =
          (vehicle A1 1 1 Ambulance (grid 560100 180000) Available 5000 None 0 0)
          ∷ [];
      loans = (loan A3 1 2 1968 1968 false) ∷ [];
      offers = [];
    })
unfolding machine
accept_is_handed_left_12 = (refl, refl, refl, refl)

abbrev before_accept_is_handed_left_13 : Room
before_accept_is_handed_left_13 = record {
  plan = two_divisions;
  divisions = (division 1 3) ∷ (division 2 3) ∷ [];
  incidents = [];
  calls = [];
  vehicles =
      (vehicle A1 2 2 Ambulance (grid 560200 180000) Offered 2000 None 0 0)
      ∷ (vehicle A2 1 1 Ambulance (grid 560200 180000) Available 40000 None 0 0)
      ∷ (vehicle A3 1 1 Support (grid 530201 180000) Available 40000 None 0 0) ∷ [];
  turns = [];
  assignments = [];
  points = [];
  loans = [];
  offers = (offer A1 2 1 1005 2005) ∷ [];
  reports = [];
}

accept_is_handed_left_13 : Hands 2
    (at 1428 (Desk 1) (ask.Accept A1)) before_accept_is_handed_left_13
    (Some (Left (loan A1 2 1 1428 2005 false))) []
    (record before_accept_is_handed_left_13 {
      divisions = (division 2 3) ∷ [];
      vehicles = [];
      loans = (loan A1 2 1 1428 2005 false)
          ∷ [];
      offers = [];
    })
unfolding machine
accept_is_handed_left_13 = (refl, refl, refl, refl)

abbrev before_accept_is_handed_left_14 : Room
before_accept_is_handed_left_14 = record {
  plan = two_divisions;
  divisions = (division 1 0) ∷ (division 2 0) ∷ [];
  incidents = [];
  calls = [];
  vehicles =
      (vehicle A1 1 1 Support (grid 531000 180000) OffDuty 0 None 0 0)
      ∷ (vehicle A2 1 1 Ambulance (grid 530000 180000) Offered 5000 None 0 0)
      ∷ (vehicle A3 2 2 Ambulance (grid 530200 180000) OffDuty 0 None 0 0) ∷ [];
  turns = [];
  assignments = [];
  points = [];
  loans = [];
  offers = (offer A2 1 2 1041 2041) ∷ [];
  reports = [];
}

accept_is_handed_left_14 : Hands 1
    (at 1071 (Desk 2) (ask.Accept A2)) before_accept_is_handed_left_14
    (Some (Left (loan A2 1 2 1071 2041 false))) []
    (record before_accept_is_handed_left_14 {
      divisions = (division 1 0) ∷ [];
      vehicles =
          (vehicle A1 1 1 Support (grid 531000 180000) OffDuty 0 None 0 0)
          ∷ [];
      loans = (loan A2 1 2 1071 2041 false) ∷ [];
      offers = [];
    })
unfolding machine
accept_is_handed_left_14 = (refl, refl, refl, refl)

abbrev before_lend_is_handed_offer_in : Room
before_lend_is_handed_offer_in = record {
  plan = overlapping_divisions;
  divisions = (division 1 3) ∷ (division 7 0) ∷ [];
  incidents = [];
  calls = [];
  vehicles =
      (vehicle A1 7 7 Ambulance (grid 531000 180000) Available 5000 None 0 0)
      ∷ (vehicle A2 1 1 Ambulance (grid 530201 180000) Available 5000 None 0 0) ∷ [];
  turns = [];
  assignments = [];
  points = [];
  loans = [];
  offers = [];
  reports = [];
}

lend_is_handed_offer_in : Hands 7
    (at 980 (Desk 1) (ask.Lend A2 7 980)) before_lend_is_handed_offer_in
    (Some (OfferIn (offer A2 1 7 980 980))) []
    (record before_lend_is_handed_offer_in {
      divisions = (division 7 0) ∷ [];
      vehicles =
          (vehicle A1 7 7 Ambulance (grid 531000 180000) Available 5000 None 0 0)
          ∷ [];
      offers = (offer A2 1 7 980 980) ∷ [];
    })
unfolding machine
lend_is_handed_offer_in = (refl, refl, refl, refl)

abbrev before_lend_is_handed_offer_in_2 : Room
before_lend_is_handed_offer_in_2 = record {
  plan = two_divisions;
  divisions = (division 1 0) ∷ (division 2 0) ∷ [];
  incidents = [];
  calls = [];
  vehicles =
      (vehicle A1 1 1 Ambulance (grid 560000 180000) OffDuty 0 None 0 0)
      ∷ (vehicle A2 1 1 Ambulance (grid 530201 180000) Available 2000 None 0 0) ∷ [];
  turns = [];
  assignments = [];
  points = [];
  loans = [];
  offers = [];
  reports = [];
}

lend_is_handed_offer_in_2 : Hands 2
    (at 1999 (Desk 1) (ask.Lend A2 2 2999)) before_lend_is_handed_offer_in_2
    (Some (OfferIn (offer A2 1 2 1999 2999))) []
    (record before_lend_is_handed_offer_in_2
    { divisions = (division 2 0) ∷ []; vehicles = []; offers = (offer A2 1 2 1999 2999) ∷ [] })
unfolding machine
lend_is_handed_offer_in_2 = (refl, refl, refl, refl)

abbrev before_lend_is_handed_offer_in_3 : Room
before_lend_is_handed_offer_in_3 = record {
  plan = two_divisions;
  divisions = (division 1 0) ∷ (division 2 0) ∷ [];
  incidents = [];
  calls = [];
  vehicles =
      (vehicle A1 1 1 Ambulance (grid 530200 180000) Available 5000 None 0 0)
      ∷ (vehicle A2 2 2 Car (grid 531000 180000) Available 40000 None 0 0) ∷ [];
  turns = [];
  assignments = [];
  points = [];
  loans = [];
  offers = [];
  reports = [];
}

lend_is_handed_offer_in_3 : Hands 1
    (at 4999 (Desk 2) (ask.Lend A2 1 5399)) before_lend_is_handed_offer_in_3
    (Some (OfferIn (offer A2 2 1 4999 5399))) []
    (record before_lend_is_handed_offer_in_3 {
      divisions = (division 1 0) ∷ [];
      vehicles =
          (vehicle A1 1 1 Ambulance (grid 530200 180000) Available 5000 None 0 0)
          ∷ [];
      offers = (offer A2 2 1 4999 5399) ∷ [];
    })
unfolding machine
lend_is_handed_offer_in_3 = (refl, refl, refl, refl)

abbrev before_lend_is_handed_offer_in_4 : Room
before_lend_is_handed_offer_in_4 = record {
  plan = overlapping_divisions;
  divisions = (division 1 0) ∷ (division 7 3) ∷ [];
  incidents = [];
  calls = [];
  vehicles =
      (vehicle A1 1 1 Ambulance (grid 530300 180400) Available 5000 None 0 0)
      ∷ (vehicle A2 1 1 Car (grid 560200 180000) Available 5000 None 0 0) ∷ [];
  turns = [];
  assignments = [];
  points = [];
  loans = [];
  offers = [];
  reports = [];
}

lend_is_handed_offer_in_4 : Hands 7
    (at 1001 (Desk 1) (ask.Lend A1 7 1401)) before_lend_is_handed_offer_in_4
    (Some (OfferIn (offer A1 1 7 1001 1401))) []
    (record before_lend_is_handed_offer_in_4
    { divisions = (division 7 3) ∷ []; vehicles = []; offers = (offer A1 1 7 1001 1401) ∷ [] })
unfolding machine
lend_is_handed_offer_in_4 = (refl, refl, refl, refl)

abbrev before_lend_is_handed_offer_in_5 : Room
before_lend_is_handed_offer_in_5 = record {
  plan = two_divisions;
  divisions = (division 1 0) ∷ (division 2 0) ∷ [];
  incidents = [];
  calls = [];
  vehicles =
      (vehicle A1 1 1 Support (grid 530200 180000) Available 5000 None 0 0)
      ∷ (vehicle A2 1 1 Car (grid 560000 180000) Available 40000 None 0 0) ∷ [];
  turns = [];
  assignments = [];
  points = [];
  loans = [];
  offers = [];
  reports = [];
}

lend_is_handed_offer_in_5 : Hands 2
    (at 39999 (Desk 1) (ask.Lend A2 2 40999)) before_lend_is_handed_offer_in_5
    (Some (OfferIn (offer A2 1 2 39999 40999))) []
    (record before_lend_is_handed_offer_in_5 {
      divisions = (division 2 0) ∷ [];
      vehicles = [];
      offers = (offer A2 1 2 39999 40999)
          ∷ [];
    })
unfolding machine
lend_is_handed_offer_in_5 = (refl, refl, refl, refl)

abbrev before_lend_is_handed_offer_in_6 : Room
before_lend_is_handed_offer_in_6 = record {
  plan = two_divisions;
  divisions = (division 1 0) ∷ (division 2 3) ∷ [];
  incidents = [];
  calls = [];
  vehicles =
      (vehicle A1 2 2 Support (grid 560000 180000) Available 5000 None 0 0)
      ∷ (vehicle A2 2 2 Ambulance (grid 530201 180000) Available 40000 None 0 0) ∷ [];
  turns = [];
  assignments = [];
  points = [];
  loans = [];
  offers = [];
  reports = [];
}

lend_is_handed_offer_in_6 : Hands 1
    (at 1005 (Desk 2) (ask.Lend A1 1 1105)) before_lend_is_handed_offer_in_6
    (Some (OfferIn (offer A1 2 1 1005 1105))) []
    (record before_lend_is_handed_offer_in_6
    { divisions = (division 1 0) ∷ []; vehicles = []; offers = (offer A1 2 1 1005 1105) ∷ [] })
unfolding machine
lend_is_handed_offer_in_6 = (refl, refl, refl, refl)

abbrev before_lend_is_handed_offer_in_7 : Room
before_lend_is_handed_offer_in_7 = record {
  plan = two_divisions;
  divisions = (division 1 3) ∷ (division 2 3) ∷ [];
  incidents = [];
  calls = [];
  vehicles =
      (vehicle A1 2 2 Ambulance (grid 530120 180160) Available 2000 None 0 0)
      ∷ (vehicle A2 2 2 Ambulance (grid 530100 180000) OffDuty 0 None 0 0) ∷ [];
  turns = [];
  assignments = [];
  points = [];
  loans = [];
  offers = [];
  reports = [];
}

lend_is_handed_offer_in_7 : Hands 1
    (at 1999 (Desk 2) (ask.Lend A1 1 2099)) before_lend_is_handed_offer_in_7
    (Some (OfferIn (offer A1 2 1 1999 2099))) []
    (record before_lend_is_handed_offer_in_7
    { divisions = (division 1 3) ∷ []; vehicles = []; offers = (offer A1 2 1 1999 2099) ∷ [] })
unfolding machine
lend_is_handed_offer_in_7 = (refl, refl, refl, refl)

abbrev before_lend_is_handed_offer_in_8 : Room
before_lend_is_handed_offer_in_8 = record {
  plan = two_divisions;
  divisions = (division 1 0) ∷ (division 2 3) ∷ [];
  incidents = [];
  calls = [];
  vehicles =
      (vehicle A1 1 1 Support (grid 531000 180000) OffDuty 0 None 0 0)
      ∷ (vehicle A2 1 1 Ambulance (grid 530120 180160) Available 1302 None 0 0) ∷ [];
  turns = [];
  assignments = [];
  points = [];
  loans = [];
  offers = [];
  reports = [];
}

lend_is_handed_offer_in_8 : Hands 2
    (at 1301 (Desk 1) (ask.Lend A2 2 1301)) before_lend_is_handed_offer_in_8
    (Some (OfferIn (offer A2 1 2 1301 1301))) []
    (record before_lend_is_handed_offer_in_8
    { divisions = (division 2 3) ∷ []; vehicles = []; offers = (offer A2 1 2 1301 1301) ∷ [] })
unfolding machine
lend_is_handed_offer_in_8 = (refl, refl, refl, refl)

abbrev before_lend_is_handed_offer_in_9 : Room
before_lend_is_handed_offer_in_9 = record {
  plan = two_divisions;
  divisions = (division 1 0) ∷ (division 2 0) ∷ [];
  incidents = [];
  calls = [];
  vehicles =
      (vehicle A1 1 1 Car (grid 531000 180000) Available 40000 None 0 0)
      ∷ (vehicle A2 1 1 Support (grid 530200 180000) Available 40000 None 0 0) ∷ [];
  turns = [];
  assignments = [];
  points = [];
  loans = [];
  offers = [];
  reports = [];
}

lend_is_handed_offer_in_9 : Hands 2
    (at 1481 (Desk 1) (ask.Lend A2 2 2481)) before_lend_is_handed_offer_in_9
    (Some (OfferIn (offer A2 1 2 1481 2481))) []
    (record before_lend_is_handed_offer_in_9
    { divisions = (division 2 0) ∷ []; vehicles = []; offers = (offer A2 1 2 1481 2481) ∷ [] })
unfolding machine
lend_is_handed_offer_in_9 = (refl, refl, refl, refl)

abbrev before_lend_is_handed_offer_in_10 : Room
before_lend_is_handed_offer_in_10 = record {
  plan = two_divisions;
  divisions = (division 1 0) ∷ (division 2 0) ∷ [];
  incidents = [];
  calls = [];
  vehicles =
      (vehicle A1 2 2 Car (grid 560200 180000) Available 2000 None 0 0)
      ∷ (vehicle A2 1 1 Ambulance (grid 530200 180000) Available 5000 None 0 0) ∷ [];
  turns = [];
  assignments = [];
  points = [];
  loans = [];
  offers = [];
  reports = [];
}

lend_is_handed_offer_in_10 : Hands 1
    (at 1120 (Desk 2) (ask.Lend A1 1 1220)) before_lend_is_handed_offer_in_10
    (Some (OfferIn (offer A1 2 1 1120 1220))) []
    (record before_lend_is_handed_offer_in_10 {
      divisions = (division 1 0) ∷ [];
      vehicles =
          (vehicle A2 1 1 Ambulance (grid 530200 180000) Available 5000 None 0 0)
          ∷ [];
      offers = (offer A1 2 1 1120 1220) ∷ [];
    })
unfolding machine
lend_is_handed_offer_in_10 = (refl, refl, refl, refl)

abbrev before_lend_is_handed_offer_in_11 : Room
before_lend_is_handed_offer_in_11 = record {
  plan = overlapping_divisions;
  divisions = (division 1 3) ∷ (division 7 0) ∷ [];
  incidents = [];
  calls = [];
  vehicles =
      (vehicle A1 1 1 Ambulance (grid 530201 180000) Available 2000 None 0 0)
      ∷ (vehicle A2 1 1 Ambulance (grid 530300 180400) OffDuty 40000 None 0 0) ∷ [];
  turns = [];
  assignments = [];
  points = [];
  loans = [];
  offers = [];
  reports = [];
}

lend_is_handed_offer_in_11 : Hands 7
    (at 992 (Desk 1) (ask.Lend A1 7 1392)) before_lend_is_handed_offer_in_11
    (Some (OfferIn (offer A1 1 7 992 1392))) []
    (record before_lend_is_handed_offer_in_11
    { divisions = (division 7 0) ∷ []; vehicles = []; offers = (offer A1 1 7 992 1392) ∷ [] })
unfolding machine
lend_is_handed_offer_in_11 = (refl, refl, refl, refl)

abbrev before_lend_is_handed_offer_in_12 : Room
before_lend_is_handed_offer_in_12 = record {
  plan = overlapping_divisions;
  divisions = (division 1 0) ∷ (division 7 3) ∷ [];
  incidents = [];
  calls = [];
  vehicles =
      (vehicle A1 1 1 Ambulance (grid 560100 180000) Available 40000 None 0 0)
      ∷ (vehicle A2 7 7 Ambulance (grid 530000 180000) Available 40000 None 0 0) ∷ [];
  turns = [];
  assignments = [];
  points = [];
  loans = [];
  offers = [];
  reports = [];
}

lend_is_handed_offer_in_12 : Hands 1
    (at 1000 (Desk 7) (ask.Lend A2 1 1400)) before_lend_is_handed_offer_in_12
    (Some (OfferIn (offer A2 7 1 1000 1400))) []
    (record before_lend_is_handed_offer_in_12 {
      divisions = (division 1 0) ∷ [];
      vehicles =
          (vehicle A1 1 1 Ambulance (grid 560100 180000) Available 40000 None 0 0)
          ∷ [];
      offers = (offer A2 7 1 1000 1400) ∷ [];
    })
unfolding machine
lend_is_handed_offer_in_12 = (refl, refl, refl, refl)

abbrev before_lend_is_handed_offer_in_13 : Room
before_lend_is_handed_offer_in_13 = record {
  plan = overlapping_divisions;
  divisions = (division 1 0) ∷ (division 7 0) ∷ [];
  incidents = [];
  calls = [];
  vehicles =
      (vehicle A1 1 1 Support (grid 560100 180000) Available 5000 None 0 0)
      ∷ (vehicle A2 7 7 Ambulance (grid 530100 180000) Available 40000 None 0 0) ∷ [];
  turns = [];
  assignments = [];
  points = [];
  loans = [];
  offers = [];
  reports = [];
}

lend_is_handed_offer_in_13 : Hands 7
    (at 4999 (Desk 1) (ask.Lend A1 7 5099)) before_lend_is_handed_offer_in_13
    (Some (OfferIn (offer A1 1 7 4999 5099))) []
    (record before_lend_is_handed_offer_in_13 {
      divisions = (division 7 0) ∷ [];
      vehicles =
          (vehicle A2 7 7 Ambulance (grid 530100 180000) Available 40000 None 0 0)
          ∷ [];
      offers = (offer A1 1 7 4999 5099) ∷ [];
    })
unfolding machine
lend_is_handed_offer_in_13 = (refl, refl, refl, refl)

abbrev before_lend_is_handed_offer_in_14 : Room
before_lend_is_handed_offer_in_14 = record {
  plan = two_divisions;
  divisions = (division 1 0) ∷ (division 2 0) ∷ [];
  incidents = [];
  calls = [];
  vehicles =
      (vehicle A1 2 2 Ambulance (grid 530000 180000) Available 2000 None 0 0)
      ∷ (vehicle A2 2 2 Car (grid 530201 180000) Available 2000 None 0 0) ∷ [];
  turns = [];
  assignments = [];
  points = [];
  loans = [];
  offers = [];
  reports = [];
}

lend_is_handed_offer_in_14 : Hands 1
    (at 1227 (Desk 2) (ask.Lend A2 1 1627)) before_lend_is_handed_offer_in_14
    (Some (OfferIn (offer A2 2 1 1227 1627))) []
    (record before_lend_is_handed_offer_in_14
    { divisions = (division 1 0) ∷ []; vehicles = []; offers = (offer A2 2 1 1227 1627) ∷ [] })
unfolding machine
lend_is_handed_offer_in_14 = (refl, refl, refl, refl)

abbrev before_recall_is_handed_recalled : Room
before_recall_is_handed_recalled = record {
  plan = two_divisions;
  divisions = (division 1 0) ∷ (division 2 0) ∷ [];
  incidents = [];
  calls = [];
  vehicles =
      (vehicle A1 1 1 Ambulance (grid 560100 180000) OffDuty 0 None 0 0)
      ∷ (vehicle A2 1 2 Ambulance (grid 530120 180160) Available 2000 None 0 0)
      ∷ (vehicle A3 2 2 Support (grid 530300 180400) OffDuty 0 None 0 0) ∷ [];
  turns = [];
  assignments = [];
  points = [];
  loans = (loan A2 1 2 1697 1911 false) ∷ [];
  offers = [];
  reports = [];
}

recall_is_handed_recalled : Hands 2
    (at 1817 (Desk 1) (ask.Recall A2)) before_recall_is_handed_recalled (Some (Recalled A2)) []
    (record before_recall_is_handed_recalled {
      divisions = (division 2 0) ∷ [];
      vehicles =
          (vehicle A2 1 2 Ambulance (grid 530120 180160) Available 2000 None 0 0)
          ∷ (vehicle A3 2 2 Support (grid 530300 180400) OffDuty 0 None 0 0)
          ∷ [];
      loans = (loan A2 1 2 1697 1911 true) ∷ [];
    })
unfolding machine
recall_is_handed_recalled = (refl, refl, refl, refl)

abbrev before_recall_is_handed_recalled_2 : Room
before_recall_is_handed_recalled_2 = record {
  plan = two_divisions;
  divisions = (division 1 0) ∷ (division 2 0) ∷ [];
  incidents = [];
  calls = [];
  vehicles =
      (vehicle A1 1 2 Ambulance (grid 530201 180000) Available 2000 None 0 0)
      ∷ (vehicle A2 2 2 Support (grid 531000 180000) Available 5000 None 0 0)
      ∷ (vehicle A3 2 2 Ambulance (grid 530000 180000) Available 2000 None 0 0) ∷ [];
  turns = [];
  assignments = [];
  points = [];
  loans = (loan A1 1 2 1883 1682 false) ∷ [];
  offers = [];
  reports = [];
}

recall_is_handed_recalled_2 : Hands 2
    (at 1888 (Desk 1) (ask.Recall A1)) before_recall_is_handed_recalled_2 (Some (Recalled A1)) []
    (record before_recall_is_handed_recalled_2
    { divisions = (division 2 0) ∷ []; loans = (loan A1 1 2 1883 1682 true) ∷ [] })
unfolding machine
recall_is_handed_recalled_2 = (refl, refl, refl, refl)

abbrev before_recall_is_handed_recalled_3 : Room
before_recall_is_handed_recalled_3 = record {
  plan = overlapping_divisions;
  divisions = (division 1 3) ∷ (division 7 0) ∷ [];
  incidents = [];
  calls = [];
  vehicles =
      (vehicle A1 1 1 Car (grid 530201 180000) OffDuty 0 None 0 0)
      ∷ (vehicle A2 7 7 Car (grid 530120 180160) OffDuty 5000 None 0 0)
      ∷ (vehicle A3 7 1 Ambulance (grid 530100 180000) Available 5000 None 0 0) ∷ [];
  turns = [];
  assignments = [];
  points = [];
  loans = (loan A3 7 1 1150 1030 false) ∷ [];
  offers = [];
  reports = [];
}

recall_is_handed_recalled_3 : Hands 1
    (at 1211 (Desk 7) (ask.Recall A3)) before_recall_is_handed_recalled_3 (Some (Recalled A3)) []
    (record before_recall_is_handed_recalled_3 {
      divisions = (division 1 3) ∷ [];
      vehicles =
          (vehicle A1 1 1 Car (grid 530201 180000) OffDuty 0 None 0 0)
          ∷ (vehicle A3 7 1 Ambulance (grid 530100 180000) Available 5000 None 0 0)
          ∷ [];
      loans = (loan A3 7 1 1150 1030 true) ∷ [];
    })
unfolding machine
recall_is_handed_recalled_3 = (refl, refl, refl, refl)

abbrev before_recall_is_handed_recalled_4 : Room
before_recall_is_handed_recalled_4 = record {
  plan = two_divisions;
  divisions = (division 1 0) ∷ (division 2 0) ∷ [];
  incidents = [];
  calls = [];
  vehicles =
      (vehicle A1 1 1 Car (grid 530300 180400) Available 40000 None 0 1)
      ∷ (vehicle A2 2 2 Ambulance (grid 530200 180000) Available 1502 None 0 0)
      ∷ (vehicle A3 1 2 Ambulance (grid 530200 180000) Available 40000 None 0 0) ∷ [];
  turns = [];
  assignments = [];
  points = [];
  loans = (loan A3 1 2 1516 1005 false) ∷ [];
  offers = [];
  reports = (report A1 1 button.Hospital 0 (grid 530100 180000) 1035 1 Wrong Available false) ∷ [];
}

recall_is_handed_recalled_4 : Hands 2
    (at 1481 (Desk 1) (ask.Recall A3)) before_recall_is_handed_recalled_4 (Some (Recalled A3)) []
    (record before_recall_is_handed_recalled_4 {
      divisions = (division 2 0) ∷ [];
      vehicles =
          (vehicle A2 2 2 Ambulance (grid 530200 180000) Available 1502 None 0 0)
          ∷ (vehicle A3 1 2 Ambulance (grid 530200 180000) Available 40000 None 0 0)
          ∷ [];
      loans = (loan A3 1 2 1516 1005 true) ∷ [];
      reports = [];
    })
unfolding machine
recall_is_handed_recalled_4 = (refl, refl, refl, refl)

abbrev before_recall_is_handed_recalled_5 : Room
before_recall_is_handed_recalled_5 = record {
  plan = two_divisions;
  divisions = (division 1 2147483647) ∷ (division 2 2147483647) ∷ [];
  incidents = [];
  calls = [];
  vehicles =
      (vehicle A1 1 1 Ambulance (grid 530201 180000) OffDuty 5854 None 0 0)
      ∷ (vehicle A2 2 1 Support (grid 531000 180000) Available 40000 None 0 0)
      ∷ (vehicle A3 2 2 Support (grid 530300 180400) Offered 40000 None 0 0) ∷ [];
  turns = [];
  assignments = [];
  points = [];
  loans = (loan A2 2 1 2337 1581 false) ∷ [];
  offers = (offer A3 2 1 39999 40999) ∷ [];
  reports = [];
}

recall_is_handed_recalled_5 : Hands 1
    (at 2518 (Desk 2) (ask.Recall A2)) before_recall_is_handed_recalled_5 (Some (Recalled A2)) []
    (record before_recall_is_handed_recalled_5 {
      divisions = (division 1 2147483647)
          ∷ [];
      vehicles = (vehicle A1 1 1 Ambulance (grid 530201 180000) OffDuty 5854 None 0 0)
          ∷ (vehicle A2 2 1 Support (grid 531000 180000) Available 40000 None 0 0)
          ∷ [];
      loans = (loan A2 2 1 2337 1581 true) ∷ [];
    })
unfolding machine
recall_is_handed_recalled_5 = (refl, refl, refl, refl)

abbrev before_recall_is_handed_recalled_6 : Room
before_recall_is_handed_recalled_6 = record {
  plan = two_divisions;
  divisions = (division 1 0) ∷ (division 2 0) ∷ [];
  incidents = [];
  calls = [];
  vehicles =
      (vehicle A1 2 1 Car (grid 530000 180000) Available 41302 None 0 1)
      ∷ (vehicle A2 2 2 Ambulance (grid 530100 180100) OffDuty 0 None 0 0)
      ∷ (vehicle A3 2 2 Ambulance (grid 530120 180160) Available 5000 None 0 0) ∷ [];
  turns = [];
  assignments = [];
  points = [];
  loans = (loan A1 2 1 5000 5001 false) ∷ [];
  offers = [];
  reports = (report A1 1 button.Return 0 (grid 530100 180100) 1763 2 Wrong Offered false) ∷ [];
}

recall_is_handed_recalled_6 : Hands 1
    (at 1888 (Desk 2) (ask.Recall A1)) before_recall_is_handed_recalled_6 (Some (Recalled A1)) []
    (record before_recall_is_handed_recalled_6 {
      divisions = (division 1 0) ∷ [];
      vehicles =
          (vehicle A1 2 1 Car (grid 530000 180000) Available 41302 None 0 1)
          ∷ [];
      loans = (loan A1 2 1 5000 5001 true) ∷ [];
      reports = [];
    })
unfolding machine
recall_is_handed_recalled_6 = (refl, refl, refl, refl)

abbrev before_recall_is_handed_recalled_7 : Room
before_recall_is_handed_recalled_7 = record {
  plan = two_divisions;
  divisions = (division 1 0) ∷ (division 2 0) ∷ [];
  incidents = [];
  calls = [];
  vehicles =
      (vehicle A1 2 2 Car (grid 531000 180000) Offered 2000 None 0 0)
      ∷ (vehicle A2 1 2 Support (grid 530000 180000) Available 40000 None 0 2)
      ∷ (vehicle A3 2 2 Car (grid 560000 180000) Available 5000 None 0 0) ∷ [];
  turns = [];
  assignments = [];
  points = [];
  loans = (loan A2 1 2 1306 1586 false) ∷ [];
  offers = (offer A1 2 1 1307 1407) ∷ [];
  reports = (report A2 2 button.Scene 0 (grid 531000 180000) 1181 1 Wrong Available false) ∷ [];
}

recall_is_handed_recalled_7 : Hands 2
    (at 1730 (Desk 1) (ask.Recall A2)) before_recall_is_handed_recalled_7 (Some (Recalled A2)) []
    (record before_recall_is_handed_recalled_7 {
      divisions = (division 2 0) ∷ [];
      loans = (loan A2 1 2 1306 1586 true)
          ∷ [];
      reports = [];
    })
unfolding machine
recall_is_handed_recalled_7 = (refl, refl, refl, refl)

abbrev before_recall_is_handed_recalled_8 : Room
before_recall_is_handed_recalled_8 = record {
  plan = overlapping_divisions;
  divisions = (division 1 1) ∷ (division 7 0) ∷ [];
  incidents = (incident 1 1 (grid 530100 180100) 2 (needs 0 0 1) 1182 None Active) ∷ [];
  calls = (call 2 5 1 1 1 false (grid 530100 180100) 2 (needs 0 0 1) [] 1182) ∷ [];
  vehicles =
      (vehicle A1 1 1 Ambulance (grid 530120 180160) OffDuty 0 None 0 0)
      ∷ (vehicle A2 1 1 Ambulance (grid 530000 180000) Available 40000 None 0 0)
      ∷ (vehicle A3 7 1 Ambulance (grid 530300 180400) Available 40000 None 0 0) ∷ [];
  turns = [];
  assignments = [];
  points = [];
  loans = (loan A3 7 1 1544 1060 false) ∷ [];
  offers = [];
  reports = [];
}

recall_is_handed_recalled_8 : Hands 1
    (at 1545 (Desk 7) (ask.Recall A3)) before_recall_is_handed_recalled_8 (Some (Recalled A3)) []
    (record before_recall_is_handed_recalled_8
    { divisions = (division 1 1) ∷ []; loans = (loan A3 7 1 1544 1060 true) ∷ [] })
unfolding machine
recall_is_handed_recalled_8 = (refl, refl, refl, refl)

abbrev before_recall_is_handed_recalled_9 : Room
before_recall_is_handed_recalled_9 = record {
  plan = two_divisions;
  divisions = (division 1 0) ∷ (division 2 3) ∷ [];
  incidents = [];
  calls = [];
  vehicles =
      (vehicle A1 2 2 Ambulance (grid 530000 180000) OffDuty 0 None 0 1)
      ∷ (vehicle A2 2 2 Ambulance (grid 530000 180000) OffDuty 0 None 0 0)
      ∷ (vehicle A3 2 1 Ambulance (grid 530000 180000) Available 5000 None 0 1) ∷ [];
  turns = [];
  assignments = [];
  points = [];
  loans = (loan A3 2 1 5001 3056 false) ∷ [];
  offers = [];
  reports =
      (report A1 1 button.Mobile 0 (grid 530100 180000) 1603 2 Wrong OffDuty false)
      ∷ (report A3 1 button.Position 0 (grid 530000 180000) 3176 2 Normal Offered false) ∷ [];
}

recall_is_handed_recalled_9 : Hands 1
    (at 3388 (Desk 2) (ask.Recall A3)) before_recall_is_handed_recalled_9 (Some (Recalled A3)) []
    (record before_recall_is_handed_recalled_9 {
      divisions = (division 1 0) ∷ [];
      vehicles =
          (vehicle A3 2 1 Ambulance (grid 530000 180000) Available 5000 None 0 1)
          ∷ [];
      loans = (loan A3 2 1 5001 3056 true) ∷ [];
      reports = [];
    })
unfolding machine
recall_is_handed_recalled_9 = (refl, refl, refl, refl)

abbrev before_recall_is_handed_recalled_10 : Room
before_recall_is_handed_recalled_10 = record {
  plan = two_divisions;
  divisions = (division 1 3) ∷ (division 2 3) ∷ [];
  incidents = [];
  calls = [];
  vehicles =
      (vehicle A1 2 2 Ambulance (grid 560200 180000) Available 40000 None 0 0)
      ∷ (vehicle A2 1 2 Ambulance (grid 530000 180000) Available 5000 None 0 2)
      ∷ (vehicle A3 1 1 Ambulance (grid 531000 180000) OffDuty 0 None 0 0) ∷ [];
  turns = [];
  assignments = [];
  points = [];
  loans = (loan A2 1 2 39999 1431 false) ∷ [];
  offers = [];
  reports =
      (report A2 1 button.Home 0 (grid 530200 180000) 1432 2 Late Available false)
      ∷ (report A2 2 button.Mobile 0 (grid 530100 180100) 1000 1 Wrong Available true) ∷ [];
}

recall_is_handed_recalled_10 : Hands 2
    (at 1756 (Desk 1) (ask.Recall A2)) before_recall_is_handed_recalled_10 (Some (Recalled A2)) []
    (record before_recall_is_handed_recalled_10 {
      divisions = (division 2 3) ∷ [];
      vehicles =
          (vehicle A1 2 2 Ambulance (grid 560200 180000) Available 40000 None 0 0)
          ∷ (vehicle A2 1 2 Ambulance (grid 530000 180000) Available 5000 None 0 2)
          ∷ [];
      loans = (loan A2 1 2 39999 1431 true)
          ∷ [];
      reports = (report A2 1 button.Home 0
          (grid 530200 180000) 1432 2 Late Available false) ∷ [];
    })
unfolding machine
recall_is_handed_recalled_10 = (refl, refl, refl, refl)

abbrev before_recall_is_handed_recalled_11 : Room
before_recall_is_handed_recalled_11 = record {
  plan = two_divisions;
  divisions = (division 1 0) ∷ (division 2 4) ∷ [];
  incidents = (incident 2 4 (grid 560100 180000) 2 (needs 0 1 0) 2025 None Active) ∷ [];
  calls = (call 1 5 2 4 4 false (grid 560100 180000) 2 (needs 0 1 0) (codes "x") 2025) ∷ [];
  vehicles =
      (vehicle A1 1 1 Ambulance (grid 530000 180000) Available 40000 None 0 0)
      ∷ (vehicle A2 2 1 Ambulance (grid 530100 180000) Available 5000 None 0 1) ∷ [];
  turns = [];
  assignments = [];
  points = [];
  loans = (loan A2 2 1 39999 1703 false) ∷ [];
  offers = [];
  reports = (report A2 1 button.Home 0 (grid 530100 180000) 1604 2 Normal Offered false) ∷ [];
}

recall_is_handed_recalled_11 : Hands 1
    (at 2573 (Desk 2) (ask.Recall A2)) before_recall_is_handed_recalled_11 (Some (Recalled A2)) []
    (record before_recall_is_handed_recalled_11 {
      divisions = (division 1 0) ∷ [];
      incidents = [];
      calls = [];
      loans =
          (loan A2 2 1 39999 1703 true) ∷ [];
      reports = [];
    })
unfolding machine
recall_is_handed_recalled_11 = (refl, refl, refl, refl)

abbrev before_recall_is_handed_recalled_12 : Room
before_recall_is_handed_recalled_12 = record {
  plan = two_divisions;
  divisions = (division 1 3) ∷ (division 2 0) ∷ [];
  incidents = [];
  calls = [];
  vehicles =
      (vehicle A1 1 1 Ambulance (grid 531000 180000) OffDuty 0 None 0 0)
      ∷ (vehicle A2 1 2 Ambulance (grid 531000 180000) Available 5000 None 0 1)
      ∷ (vehicle A3 1 1 Ambulance (grid 530000 180000) Available 2000 None 0 1) ∷ [];
  turns = [];
  assignments = [];
  points = [];
  loans = (loan A2 1 2 1312 2030 false) ∷ [];
  offers = [];
  reports =
      (report A2 1 button.Leave 0 (grid 530300 180400) 1151 1 Wrong Offered false)
      ∷ (report A3 1 button.Scene 0 (grid 530300 180400) 1031 1 Wrong Available false) ∷ [];
}

recall_is_handed_recalled_12 : Hands 2
    (at 1493 (Desk 1) (ask.Recall A2)) before_recall_is_handed_recalled_12 (Some (Recalled A2)) []
    (record before_recall_is_handed_recalled_12 {
      divisions = (division 2 0) ∷ [];
      vehicles =
          (vehicle A2 1 2 Ambulance (grid 531000 180000) Available 5000 None 0 1)
          ∷ [];
      loans = (loan A2 1 2 1312 2030 true) ∷ [];
      reports = [];
    })
unfolding machine
recall_is_handed_recalled_12 = (refl, refl, refl, refl)

abbrev before_recall_is_handed_recalled_13 : Room
before_recall_is_handed_recalled_13 = record {
  plan = two_divisions;
  divisions = (division 1 2147483647) ∷ (division 2 2147483646) ∷ [];
  incidents = [];
  calls = [];
  vehicles =
      (vehicle A1 2 2 Ambulance (grid 560100 180000) Available 2000 None 0 3)
      ∷ (vehicle A2 2 1 Car (grid 530100 180000) Available 40000 None 0 2) ∷ [];
  turns = [];
  assignments = [];
  points = [];
  loans = (loan A2 2 1 2374 2093 false) ∷ [];
  offers = [];
  reports =
      (report A1 2 button.Leave 0 (grid 530000 180000) 2088 2 Wrong Available false)
      ∷ (report A1 3 button.Return 0 (grid 530120 180160) 2394 2 Wrong Available false)
      ∷ (report A2 2 button.Home 0 (grid 530100 180000) 1001 2 Normal Available false) ∷ [];
}

recall_is_handed_recalled_13 : Hands 1
    (at 2494 (Desk 2) (ask.Recall A2)) before_recall_is_handed_recalled_13 (Some (Recalled A2)) []
    (record before_recall_is_handed_recalled_13 {
      divisions = (division 1 2147483647)
          ∷ [];
      vehicles = (vehicle A2 2 1 Car (grid 530100 180000) Available 40000 None 0 2)
          ∷ [];
      loans = (loan A2 2 1 2374 2093 true) ∷ [];
      reports = [];
    })
unfolding machine
recall_is_handed_recalled_13 = (refl, refl, refl, refl)

abbrev before_recall_is_handed_recalled_14 : Room
before_recall_is_handed_recalled_14 = record {
  plan = two_divisions;
  divisions = (division 1 0) ∷ (division 2 0) ∷ [];
  incidents = [];
  calls = [];
  vehicles =
      (vehicle A1 1 2 Ambulance (grid 530201 180000) Available 2000 None 0 1)
      ∷ (vehicle A2 2 2 Ambulance (grid 560000 180000) OffDuty 0 None 2147483647 1)
      ∷ (vehicle A3 1 1 Ambulance (grid 560200 180000) OffDuty 0 None 0 1) ∷ [];
  turns = [];
  assignments = [];
  points = [];
  loans = (loan A1 1 2 1964 1401 false) ∷ [];
  offers = [];
  reports =
      (report A1 1 button.Home 0 (grid 530201 180000) 1843 1 Normal Offered false)
      ∷ (report A2 1 button.Scene 2147483647 (grid 530100 180100) 1362 2 Wrong OffDuty false)
      ∷ (report A3 1 button.Mobile 0 (grid 530200 180000) 1963 1 Wrong OffDuty false) ∷ [];
}

recall_is_handed_recalled_14 : Hands 2
    (at 2084 (Desk 1) (ask.Recall A1)) before_recall_is_handed_recalled_14 (Some (Recalled A1)) []
    (record before_recall_is_handed_recalled_14 {
      divisions = (division 2 0) ∷ [];
      vehicles =
          (vehicle A1 1 2 Ambulance (grid 530201 180000) Available 2000 None 0 1)
          ∷ (vehicle A2 2 2 Ambulance (grid 560000 180000) OffDuty 0 None 2147483647 1)
          ∷ [];
      loans = (loan A1 1 2 1964 1401 true)
          ∷ [];
      reports = (report A2 1 button.Scene 2147483647
          (grid 530100 180100) 1362 2 Wrong OffDuty false) ∷ [];
    })
unfolding machine
recall_is_handed_recalled_14 = (refl, refl, refl, refl)

abbrev before_report_is_handed_report_in : Room
before_report_is_handed_report_in = record {
  plan = two_divisions;
  divisions = (division 1 0) ∷ (division 2 0) ∷ [];
  incidents = [];
  calls = [];
  vehicles =
      (vehicle A1 2 2 Car (grid 530300 180400) OffDuty 0 None 0 0)
      ∷ (vehicle A2 1 1 Ambulance (grid 530300 180400) Available 2000 None 2147483647 0) ∷ [];
  turns = [];
  assignments = [];
  points = [];
  loans = [];
  offers = [];
  reports = [];
}

report_is_handed_report_in : Hands 2
    (at 1030 (Crew A1) (ask.Report (pressed 2 button.Return 0 (grid 531000 180000))))
    before_report_is_handed_report_in
    (Some (ReportIn (at 1030 (Crew A1)
    (ask.Report (pressed 2 button.Return 0 (grid 531000 180000)))))) []
    (record before_report_is_handed_report_in {
      divisions = (division 2 0) ∷ [];
      vehicles =
          (vehicle A1 2 2 Car (grid 530300 180400) OffDuty 0 None 0 2)
          ∷ [];
      reports = (report A1 2 button.Return 0
          (grid 531000 180000) 1030 2 Wrong OffDuty false) ∷ [];
    })
unfolding machine
report_is_handed_report_in = (refl, refl, refl, refl)

abbrev before_report_is_handed_report_in_2 : Room
before_report_is_handed_report_in_2 = record {
  plan = two_divisions;
  divisions = (division 1 0) ∷ (division 2 0) ∷ [];
  incidents = [];
  calls = [];
  vehicles =
      (vehicle A1 1 1 Ambulance (grid 530100 180000) OffDuty 0 None 0 0)
      ∷ (vehicle A2 1 1 Car (grid 531000 180000) Available 5000 None 0 0) ∷ [];
  turns = [];
  assignments = [];
  points = [];
  loans = [];
  offers = [];
  reports = [];
}

report_is_handed_report_in_2 : Hands 1
    (at 1601 (Crew A1) (ask.Report (pressed 2 button.Return 0 (grid 531000 180000))))
    before_report_is_handed_report_in_2
    (Some (ReportIn (at 1601 (Crew A1)
    (ask.Report (pressed 2 button.Return 0 (grid 531000 180000)))))) []
    (record before_report_is_handed_report_in_2 {
      divisions = (division 1 0) ∷ [];
      vehicles =
          (vehicle A1 1 1 Ambulance (grid 530100 180000) OffDuty 0 None 0 2)
          ∷ (vehicle A2 1 1 Car (grid 531000 180000) Available 5000 None 0 0)
          ∷ [];
      reports = (report A1 2 button.Return 0
          (grid 531000 180000) 1601 1 Wrong OffDuty false) ∷ [];
    })
unfolding machine
report_is_handed_report_in_2 = (refl, refl, refl, refl)

abbrev before_report_is_handed_report_in_3 : Room
before_report_is_handed_report_in_3 = record {
  plan = two_divisions;
  divisions = (division 1 0) ∷ (division 2 0) ∷ [];
  incidents = [];
  calls = [];
  vehicles =
      (vehicle A1 1 1 Ambulance (grid 530100 180000) Available 2000 None 0 0)
      ∷ (vehicle A2 1 1 Ambulance (grid 560000 180000) OffDuty 0 None 0 0) ∷ [];
  turns = [];
  assignments = [];
  points = [];
  loans = [];
  offers = [];
  reports = [];
}

report_is_handed_report_in_3 : Hands 1
    (at 1181 (Crew A2) (ask.Report (pressed 1 button.Leave 0 (grid 530201 180000))))
    before_report_is_handed_report_in_3
    (Some (ReportIn (at 1181 (Crew A2)
    (ask.Report (pressed 1 button.Leave 0 (grid 530201 180000)))))) []
    (record before_report_is_handed_report_in_3 {
      divisions = (division 1 0) ∷ [];
      vehicles =
          (vehicle A1 1 1 Ambulance (grid 530100 180000) Available 2000 None 0 0)
          ∷ (vehicle A2 1 1 Ambulance (grid 560000 180000) OffDuty 0 None 0 1)
          ∷ [];
      reports = (report A2 1 button.Leave 0
          (grid 530201 180000) 1181 1 Wrong OffDuty false) ∷ [];
    })
unfolding machine
report_is_handed_report_in_3 = (refl, refl, refl, refl)

abbrev before_report_is_handed_report_in_4 : Room
before_report_is_handed_report_in_4 = record {
  plan = two_divisions;
  divisions = (division 1 3) ∷ (division 2 0) ∷ [];
  incidents = [];
  calls = [];
  vehicles =
      (vehicle A1 2 2 Car (grid 530000 180000) Available 40000 None 0 0)
      ∷ (vehicle A2 1 1 Ambulance (grid 530201 180000) Available 40000 None 0 0) ∷ [];
  turns = [];
  assignments = [];
  points = [];
  loans = [];
  offers = [];
  reports = [];
}

report_is_handed_report_in_4 : Hands 1
    (at 1186 (Crew A2) (ask.Report (pressed 2 button.Hospital 0 (grid 531000 180000))))
    before_report_is_handed_report_in_4
    (Some (ReportIn (at 1186 (Crew A2)
    (ask.Report (pressed 2 button.Hospital 0 (grid 531000 180000)))))) []
    (record before_report_is_handed_report_in_4 {
      divisions = (division 1 3) ∷ [];
      vehicles =
          (vehicle A2 1 1 Ambulance (grid 530201 180000) Available 40000 None 0 2)
          ∷ [];
      reports = (report A2 2 button.Hospital 0
          (grid 531000 180000) 1186 1 Wrong Available false) ∷ [];
    })
unfolding machine
report_is_handed_report_in_4 = (refl, refl, refl, refl)

abbrev before_report_is_handed_report_in_5 : Room
before_report_is_handed_report_in_5 = record {
  plan = overlapping_divisions;
  divisions = (division 1 0) ∷ (division 7 0) ∷ [];
  incidents = [];
  calls = [];
  vehicles =
      (vehicle A1 7 7 Support (grid 531000 180000) OffDuty 0 None 0 0)
      ∷ (vehicle A2 1 1 Support (grid 560200 180000) Available 2000 None 0 0) ∷ [];
  turns = [];
  assignments = [];
  points = [];
  loans = [];
  offers = [];
  reports = [];
}

report_is_handed_report_in_5 : Hands 1
    (at 1643 (Crew A2) (ask.Report (pressed 1 button.Return 0 (grid 531000 180000))))
    before_report_is_handed_report_in_5
    (Some (ReportIn (at 1643 (Crew A2)
    (ask.Report (pressed 1 button.Return 0 (grid 531000 180000)))))) []
    (record before_report_is_handed_report_in_5 {
      divisions = (division 1 0) ∷ [];
      vehicles =
          (vehicle A2 1 1 Support (grid 560200 180000) Available 2000 None 0 1)
          ∷ [];
      reports = (report A2 1 button.Return 0
          (grid 531000 180000) 1643 1 Wrong Available false) ∷ [];
    })
unfolding machine
report_is_handed_report_in_5 = (refl, refl, refl, refl)

abbrev before_report_is_handed_report_in_6 : Room
before_report_is_handed_report_in_6 = record {
  plan = two_divisions;
  divisions = (division 1 3) ∷ (division 2 3) ∷ [];
  incidents = [];
  calls = [];
  vehicles =
      (vehicle A1 1 1 Ambulance (grid 530100 180100) Available 40000 None 0 0)
      ∷ (vehicle A2 1 1 Ambulance (grid 530000 180000) Available 5000 None 0 0) ∷ [];
  turns = [];
  assignments = [];
  points = [];
  loans = [];
  offers = [];
  reports = [];
}

report_is_handed_report_in_6 : Hands 1
    (at 1121 (Crew A2) (ask.Report (pressed 1 button.Leave 0 (grid 530100 180100))))
    before_report_is_handed_report_in_6
    (Some (ReportIn (at 1121 (Crew A2)
    (ask.Report (pressed 1 button.Leave 0 (grid 530100 180100)))))) []
    (record before_report_is_handed_report_in_6 {
      divisions = (division 1 3) ∷ [];
      vehicles =
          (vehicle A1 1 1 Ambulance (grid 530100 180100) Available 40000 None 0 0)
          ∷ (vehicle A2 1 1 Ambulance (grid 530000 180000) Available 5000 None 0 1)
          ∷ [];
      reports = (report A2 1 button.Leave 0
          (grid 530100 180100) 1121 1 Wrong Available false) ∷ [];
    })
unfolding machine
report_is_handed_report_in_6 = (refl, refl, refl, refl)

abbrev before_report_is_handed_report_in_7 : Room
before_report_is_handed_report_in_7 = record {
  plan = two_divisions;
  divisions = (division 1 0) ∷ (division 2 3) ∷ [];
  incidents = [];
  calls = [];
  vehicles =
      (vehicle A1 1 1 Support (grid 560100 180000) Available 2000 None 0 0)
      ∷ (vehicle A2 2 2 Ambulance (grid 531000 180000) OffDuty 0 None 0 0) ∷ [];
  turns = [];
  assignments = [];
  points = [];
  loans = [];
  offers = [];
  reports = [];
}

report_is_handed_report_in_7 : Hands 2
    (at 1041 (Crew A2) (ask.Report (pressed 1 button.Position 0 (grid 530100 180000))))
    before_report_is_handed_report_in_7
    (Some (ReportIn (at 1041 (Crew A2)
    (ask.Report (pressed 1 button.Position 0 (grid 530100 180000)))))) []
    (record before_report_is_handed_report_in_7 {
      divisions = (division 2 3) ∷ [];
      vehicles =
          (vehicle A2 2 2 Ambulance (grid 531000 180000) OffDuty 0 None 0 1)
          ∷ [];
      reports = (report A2 1 button.Position 0
          (grid 530100 180000) 1041 2 Wrong OffDuty false) ∷ [];
    })
unfolding machine
report_is_handed_report_in_7 = (refl, refl, refl, refl)

abbrev before_report_is_handed_report_in_8 : Room
before_report_is_handed_report_in_8 = record {
  plan = two_divisions;
  divisions = (division 1 3) ∷ (division 2 0) ∷ [];
  incidents = [];
  calls = [];
  vehicles =
      (vehicle A1 2 2 Ambulance (grid 560100 180000) Available 2000 None 0 0)
      ∷ (vehicle A2 1 1 Support (grid 530201 180000) OffDuty 0 None 0 0) ∷ [];
  turns = [];
  assignments = [];
  points = [];
  loans = [];
  offers = [];
  reports = [];
}

report_is_handed_report_in_8 : Hands 2
    (at 1843 (Crew A1) (ask.Report (pressed 1 button.Mobile 0 (grid 530300 180400))))
    before_report_is_handed_report_in_8
    (Some (ReportIn (at 1843 (Crew A1)
    (ask.Report (pressed 1 button.Mobile 0 (grid 530300 180400)))))) []
    (record before_report_is_handed_report_in_8 {
      divisions = (division 2 0) ∷ [];
      vehicles =
          (vehicle A1 2 2 Ambulance (grid 560100 180000) Available 2000 None 0 1)
          ∷ [];
      reports = (report A1 1 button.Mobile 0
          (grid 530300 180400) 1843 2 Wrong Available false) ∷ [];
    })
unfolding machine
report_is_handed_report_in_8 = (refl, refl, refl, refl)

abbrev before_report_is_handed_report_in_9 : Room
before_report_is_handed_report_in_9 = record {
  plan = two_divisions;
  divisions = (division 1 0) ∷ (division 2 3) ∷ [];
  incidents = [];
  calls = [];
  vehicles =
      (vehicle A1 2 2 Support (grid 560000 180000) Offered 5000 None 0 0)
      ∷ (vehicle A2 2 2 Ambulance (grid 530201 180000) Available 40000 None 0 0) ∷ [];
  turns = [];
  assignments = [];
  points = [];
  loans = [];
  offers = (offer A1 2 1 1005 1105) ∷ [];
  reports = [];
}

report_is_handed_report_in_9 : Hands 2
    (at 1166 (Crew A1) (ask.Report (pressed 1 button.Position 0 (grid 530100 180000))))
    before_report_is_handed_report_in_9
    (Some (ReportIn (at 1166 (Crew A1)
    (ask.Report (pressed 1 button.Position 0 (grid 530100 180000)))))) []
    (record before_report_is_handed_report_in_9 {
      divisions = (division 2 3) ∷ [];
      vehicles =
          (vehicle A1 2 2 Support (grid 530100 180000) Offered 5000 None 0 1)
          ∷ (vehicle A2 2 2 Ambulance (grid 530201 180000) Available 40000 None 0 0)
          ∷ [];
      reports = (report A1 1 button.Position 0
          (grid 530100 180000) 1166 2 Normal Offered false) ∷ [];
    })
unfolding machine
report_is_handed_report_in_9 = (refl, refl, refl, refl)

abbrev before_report_is_handed_report_in_10 : Room
before_report_is_handed_report_in_10 = record {
  plan = two_divisions;
  divisions = (division 1 0) ∷ (division 2 0) ∷ [];
  incidents = [];
  calls = [];
  vehicles =
      (vehicle A1 2 2 Ambulance (grid 531000 180000) Available 5000 None 2147483647 0)
      ∷ (vehicle A2 1 1 Ambulance (grid 530200 180000) Offered 40000 None 0 0)
      ∷ (vehicle A3 2 2 Ambulance (grid 530100 180100) Available 2000 None 0 0) ∷ [];
  turns = [];
  assignments = [];
  points = [];
  loans = [];
  offers = (offer A2 1 2 1181 2181) ∷ [];
  reports = [];
}

report_is_handed_report_in_10 : Hands 1
    (at 1182 (Crew A2) (ask.Report (pressed 1 button.Position 0 (grid 530300 180400))))
    before_report_is_handed_report_in_10
    (Some (ReportIn (at 1182 (Crew A2)
    (ask.Report (pressed 1 button.Position 0 (grid 530300 180400)))))) []
    (record before_report_is_handed_report_in_10 {
      divisions = (division 1 0) ∷ [];
      vehicles =
          (vehicle A2 1 1 Ambulance (grid 530300 180400) Offered 40000 None 0 1)
          ∷ [];
      reports = (report A2 1 button.Position 0
          (grid 530300 180400) 1182 1 Normal Offered false) ∷ [];
    })
unfolding machine
report_is_handed_report_in_10 = (refl, refl, refl, refl)

abbrev before_report_is_handed_report_in_11 : Room
before_report_is_handed_report_in_11 = record {
  plan = two_divisions;
  divisions = (division 1 1) ∷ (division 2 0) ∷ [];
  incidents = (incident 1 1 (grid 530100 180000) 3 (needs 2 1 1) 1181 None Active) ∷ [];
  calls = (call 2 3 1 1 1 false (grid 530100 180000) 3 (needs 2 1 1) [] 1181) ∷ [];
  vehicles =
      (vehicle A1 1 1 Car (grid 530100 180000) Available 5000 None 2147483647 0)
      ∷ (vehicle A2 1 1 Ambulance (grid 560100 180000) Available 40000 None 2147483647 0)
      ∷ (vehicle A3 1 1 Support (grid 560100 180000) Available 40000 None 0 0) ∷ [];
  turns = [];
  assignments = [];
  points = [];
  loans = [];
  offers = [];
  reports = [];
}

report_is_handed_report_in_11 : Hands 1
    (at 1662 (Crew A2) (ask.Report (pressed 1 button.Scene 0 (grid 530120 180160))))
    before_report_is_handed_report_in_11
    (Some (ReportIn (at 1662 (Crew A2)
    (ask.Report (pressed 1 button.Scene 0 (grid 530120 180160)))))) []
    (record before_report_is_handed_report_in_11 {
      divisions = (division 1 1) ∷ [];
      vehicles =
          (vehicle A1 1 1 Car (grid 530100 180000) Available 5000 None 2147483647 0)
          ∷ (vehicle A2 1 1 Ambulance (grid 560100 180000) Available 40000 None
          2147483647 1) ∷ (vehicle A3 1 1 Support
          (grid 560100 180000) Available 40000 None 0 0)
          ∷ [];
      reports = (report A2 1 button.Scene 0
          (grid 530120 180160) 1662 1 Stale Available false) ∷ [];
    })
unfolding machine
report_is_handed_report_in_11 = (refl, refl, refl, refl)

abbrev before_report_is_handed_report_in_12 : Room
before_report_is_handed_report_in_12 = record {
  plan = two_divisions;
  divisions = (division 1 1) ∷ (division 2 0) ∷ [];
  incidents = (incident 1 1 (grid 530100 180000) 1 (needs 0 0 1) 1030 None Active) ∷ [];
  calls = (call 2 1 1 1 1 false (grid 530100 180000) 1 (needs 0 0 1) [] 1030) ∷ [];
  vehicles =
      (vehicle A1 2 2 Ambulance (grid 530200 180000) Available 40000 None 0 0)
      ∷ (vehicle A2 2 2 Ambulance (grid 530100 180000) OffDuty 0 None 0 2)
      ∷ (vehicle A3 1 1 Ambulance (grid 560100 180000) Available 2000 None 0 0) ∷ [];
  turns = [];
  assignments = [];
  points = [];
  loans = [];
  offers = [];
  reports = (report A2 2 button.Return 0 (grid 531000 180000) 1060 2 Wrong OffDuty false) ∷ [];
}

report_is_handed_report_in_12 : Hands 2
    (at 1241 (Crew A2) (ask.Report (pressed 1 button.Home 0 (grid 530120 180160))))
    before_report_is_handed_report_in_12
    (Some (ReportIn (at 1241 (Crew A2)
    (ask.Report (pressed 1 button.Home 0 (grid 530120 180160)))))) []
    (record before_report_is_handed_report_in_12 {
      divisions = (division 2 0) ∷ [];
      incidents = [];
      calls = [];
      vehicles =
          (vehicle A1 2 2 Ambulance (grid 530200 180000) Available 40000 None 0 0)
          ∷ (vehicle A2 2 2 Ambulance (grid 530100 180000) OffDuty 0 None 0 2)
          ∷ [];
      reports = (report A2 1 button.Home 0
          (grid 530120 180160) 1241 2 Late OffDuty false)
          ∷ (report A2 2 button.Return 0 (grid 531000 180000) 1060 2 Wrong
          OffDuty false) ∷ [];
    })
unfolding machine
report_is_handed_report_in_12 = (refl, refl, refl, refl)

abbrev before_report_is_handed_report_in_13 : Room
before_report_is_handed_report_in_13 = record {
  plan = two_divisions;
  divisions = (division 1 1) ∷ (division 2 3) ∷ [];
  incidents = (incident 1 1 (grid 530100 180100) 2 (needs 2 0 0) 1091 None Active) ∷ [];
  calls = (call 2 2 1 1 1 false (grid 530100 180100) 2 (needs 2 0 0) [] 1091) ∷ [];
  vehicles =
      (vehicle A1 1 1 Ambulance (grid 530300 180400) Available 2000 None 0 2)
      ∷ (vehicle A2 2 2 Ambulance (grid 530300 180400) OffDuty 41000 None 0 1) ∷ [];
  turns = [];
  assignments = [];
  points = (point 1 2 (grid 530100 180000) 2) ∷ [];
  loans = [];
  offers = [];
  reports =
      (report A1 2 button.Position 0 (grid 530300 180400) 2265 1 Normal Available false)
      ∷ (report A2 1 button.Return 0 (grid 530300 180400) 2174 2 Wrong OffDuty false) ∷ [];
}

report_is_handed_report_in_13 : Hands 1
    (at 2370 (Crew A1) (ask.Report (pressed 1 button.Return 0 (grid 530200 180000))))
    before_report_is_handed_report_in_13
    (Some (ReportIn (at 2370 (Crew A1)
    (ask.Report (pressed 1 button.Return 0 (grid 530200 180000)))))) []
    (record before_report_is_handed_report_in_13 {
      divisions = (division 1 1) ∷ [];
      vehicles =
          (vehicle A1 1 1 Ambulance (grid 530300 180400) Available 2000 None 0 2)
          ∷ [];
      reports = (report A1 1 button.Return 0
          (grid 530200 180000) 2370 1 Late Available false)
          ∷ (report A1 2 button.Position 0 (grid 530300 180400) 2265 1 Normal
          Available false) ∷ [];
    })
unfolding machine
report_is_handed_report_in_13 = (refl, refl, refl, refl)

abbrev before_report_is_handed_report_in_14 : Room
before_report_is_handed_report_in_14 = record {
  plan = two_divisions;
  divisions = (division 1 0) ∷ (division 2 0) ∷ [];
  incidents = [];
  calls = [];
  vehicles =
      (vehicle A1 2 2 Car (grid 530201 180000) OffDuty 0 None 0 0)
      ∷ (vehicle A2 2 2 Ambulance (grid 560200 180000) Offered 2000 None 0 0)
      ∷ (vehicle A3 1 1 Ambulance (grid 530100 180100) OffDuty 0 None 0 2) ∷ [];
  turns = [];
  assignments = [];
  points = [];
  loans = [];
  offers = (offer A2 2 1 1999 1999) ∷ [];
  reports =
      (report A3 1 button.Mobile 0 (grid 530100 180000) 1030 1 Wrong OffDuty false)
      ∷ (report A3 2 button.Position 0 (grid 530000 180000) 1511 1 Wrong OffDuty false) ∷ [];
}

report_is_handed_report_in_14 : Hands 2
    (at 2178 (Crew A2) (ask.Report (pressed 1 button.Return 0 (grid 531000 180000))))
    before_report_is_handed_report_in_14
    (Some (ReportIn (at 2178 (Crew A2)
    (ask.Report (pressed 1 button.Return 0 (grid 531000 180000)))))) []
    (record before_report_is_handed_report_in_14 {
      divisions = (division 2 0) ∷ [];
      vehicles =
          (vehicle A1 2 2 Car (grid 530201 180000) OffDuty 0 None 0 0)
          ∷ (vehicle A2 2 2 Ambulance (grid 560200 180000) Offered 2000 None 0 1)
          ∷ [];
      reports = (report A2 1 button.Return 0
          (grid 531000 180000) 2178 2 Wrong Offered false) ∷ [];
    })
unfolding machine
report_is_handed_report_in_14 = (refl, refl, refl, refl)

abbrev before_withdraw_is_handed_withdrawn : Room
before_withdraw_is_handed_withdrawn = record {
  plan = two_divisions;
  divisions = (division 1 0) ∷ (division 2 0) ∷ [];
  incidents = [];
  calls = [];
  vehicles =
      (vehicle A1 1 1 Ambulance (grid 530000 180000) Available 2287 None 0 0)
      ∷ (vehicle A2 1 1 Ambulance (grid 530100 180000) Offered 41136 None 0 1) ∷ [];
  turns = [];
  assignments = [];
  points = [];
  loans = [];
  offers = (offer A2 1 2 1437 2437) ∷ [];
  reports = (report A2 1 button.Hospital 0 (grid 530201 180000) 1131 1 Wrong OffDuty true) ∷ [];
}

withdraw_is_handed_withdrawn : Hands 2
    (at 2467 (Desk 1) (ask.Withdraw A2)) before_withdraw_is_handed_withdrawn
    (Some (Withdrawn A2)) [] (record before_withdraw_is_handed_withdrawn
    { divisions = (division 2 0) ∷ []; vehicles = []; offers = []; reports = [] })
unfolding machine
withdraw_is_handed_withdrawn = (refl, refl, refl, refl)

abbrev before_withdraw_is_handed_withdrawn_2 : Room
before_withdraw_is_handed_withdrawn_2 = record {
  plan = two_divisions;
  divisions = (division 1 0) ∷ (division 2 0) ∷ [];
  incidents = [];
  calls = [];
  vehicles =
      (vehicle A1 1 1 Ambulance (grid 530201 180000) Offered 2000 None 0 0)
      ∷ (vehicle A2 2 2 Support (grid 531000 180000) Available 5000 None 0 0)
      ∷ (vehicle A3 2 2 Ambulance (grid 530000 180000) Available 2000 None 0 0) ∷ [];
  turns = [];
  assignments = [];
  points = [];
  loans = [];
  offers = (offer A1 1 2 1000 1100) ∷ [];
  reports = [];
}

withdraw_is_handed_withdrawn_2 : Hands 2
    (at 1001 (Desk 1) (ask.Withdraw A1)) before_withdraw_is_handed_withdrawn_2
    (Some (Withdrawn A1)) [] (record before_withdraw_is_handed_withdrawn_2 {
      divisions = (division 2 0) ∷ [];
      vehicles =
          (vehicle A2 2 2 Support (grid 531000 180000) Available 5000 None 0 0)
          ∷ (vehicle A3 2 2 Ambulance (grid 530000 180000) Available 2000 None 0 0)
          ∷ [];
      offers = [];
    })
unfolding machine
withdraw_is_handed_withdrawn_2 = (refl, refl, refl, refl)

abbrev before_withdraw_is_handed_withdrawn_3 : Room
before_withdraw_is_handed_withdrawn_3 = record {
  plan = two_divisions;
  divisions = (division 1 3) ∷ (division 2 0) ∷ [];
  incidents = [];
  calls = [];
  vehicles =
      (vehicle A1 2 2 Ambulance (grid 530100 180100) Available 40000 None 0 0)
      ∷ (vehicle A2 2 2 Car (grid 560200 180000) Offered 2000 None 2147483647 0)
      ∷ (vehicle A3 1 1 Ambulance (grid 530100 180000) Available 40000 None 2147483647 0) ∷ [];
  turns = [];
  assignments = [];
  points = [];
  loans = [];
  offers = (offer A2 2 1 1421 1821) ∷ [];
  reports = [];
}

withdraw_is_handed_withdrawn_3 : Hands 1
    (at 1722 (Desk 2) (ask.Withdraw A2)) before_withdraw_is_handed_withdrawn_3
    (Some (Withdrawn A2)) [] (record before_withdraw_is_handed_withdrawn_3 {
      divisions = (division 1 3) ∷ [];
      vehicles =
          (vehicle A3 1 1 Ambulance (grid 530100 180000) Available 40000 None 2147483647 0)
          ∷ [];
      offers = [];
    })
unfolding machine
withdraw_is_handed_withdrawn_3 = (refl, refl, refl, refl)

abbrev before_withdraw_is_handed_withdrawn_4 : Room
before_withdraw_is_handed_withdrawn_4 = record {
  plan = two_divisions;
  divisions = (division 1 0) ∷ (division 2 0) ∷ [];
  incidents = [];
  calls = [];
  vehicles =
      (vehicle A1 2 2 Ambulance (grid 530100 180000) Available 5000 None 0 0)
      ∷ (vehicle A2 1 1 Ambulance (grid 531000 180000) Offered 2000 None 0 0)
      ∷ (vehicle A3 1 1 Car (grid 560100 180000) Available 40000 None 0 0) ∷ [];
  turns = [];
  assignments = [];
  points = [];
  loans = [];
  offers = (offer A2 1 2 1001 2001) ∷ [];
  reports = [];
}

withdraw_is_handed_withdrawn_4 : Hands 2
    (at 1062 (Desk 1) (ask.Withdraw A2)) before_withdraw_is_handed_withdrawn_4
    (Some (Withdrawn A2)) [] (record before_withdraw_is_handed_withdrawn_4 {
      divisions = (division 2 0) ∷ [];
      vehicles =
          (vehicle A1 2 2 Ambulance (grid 530100 180000) Available 5000 None 0 0)
          ∷ [];
      offers = [];
    })
unfolding machine
withdraw_is_handed_withdrawn_4 = (refl, refl, refl, refl)

abbrev before_withdraw_is_handed_withdrawn_5 : Room
before_withdraw_is_handed_withdrawn_5 = record {
  plan = two_divisions;
  divisions = (division 1 0) ∷ (division 2 0) ∷ [];
  incidents = [];
  calls = [];
  vehicles =
      (vehicle A1 2 2 Car (grid 531000 180000) Offered 5005 None 0 0)
      ∷ (vehicle A2 1 1 Ambulance (grid 560200 180000) OffDuty 2000 None 0 0)
      ∷ (vehicle A3 1 1 Ambulance (grid 560200 180000) OffDuty 0 None 0 0) ∷ [];
  turns = [];
  assignments = [];
  points = [];
  loans = [];
  offers = (offer A1 2 1 1010 1010) ∷ [];
  reports = [];
}

withdraw_is_handed_withdrawn_5 : Hands 1
    (at 1301 (Desk 2) (ask.Withdraw A1)) before_withdraw_is_handed_withdrawn_5
    (Some (Withdrawn A1)) [] (record before_withdraw_is_handed_withdrawn_5 {
      divisions = (division 1 0) ∷ [];
      vehicles =
          (vehicle A2 1 1 Ambulance (grid 560200 180000) OffDuty 2000 None 0 0)
          ∷ (vehicle A3 1 1 Ambulance (grid 560200 180000) OffDuty 0 None 0 0)
          ∷ [];
      offers = [];
    })
unfolding machine
withdraw_is_handed_withdrawn_5 = (refl, refl, refl, refl)

abbrev before_withdraw_is_handed_withdrawn_6 : Room
before_withdraw_is_handed_withdrawn_6 = record {
  plan = two_divisions;
  divisions = (division 1 0) ∷ (division 2 3) ∷ [];
  incidents = [];
  calls = [];
  vehicles =
      (vehicle A1 2 2 Car (grid 530120 180160) Offered 2000 None 0 0)
      ∷ (vehicle A2 1 1 Ambulance (grid 560000 180000) Available 2000 None 0 0)
      ∷ (vehicle A3 1 1 Ambulance (grid 560000 180000) Available 5000 None 0 0) ∷ [];
  turns = [];
  assignments = [];
  points = [];
  loans = [];
  offers = (offer A1 2 1 1181 2181) ∷ [];
  reports = [];
}

withdraw_is_handed_withdrawn_6 : Hands 1
    (at 1247 (Desk 2) (ask.Withdraw A1)) before_withdraw_is_handed_withdrawn_6
    (Some (Withdrawn A1)) [] (record before_withdraw_is_handed_withdrawn_6 {
      divisions = (division 1 0) ∷ [];
      vehicles =
          (vehicle A2 1 1 Ambulance (grid 560000 180000) Available 2000 None 0 0)
          ∷ (vehicle A3 1 1 Ambulance (grid 560000 180000) Available 5000 None 0 0)
          ∷ [];
      offers = [];
    })
unfolding machine
withdraw_is_handed_withdrawn_6 = (refl, refl, refl, refl)

abbrev before_withdraw_is_handed_withdrawn_7 : Room
before_withdraw_is_handed_withdrawn_7 = record {
  plan = two_divisions;
  divisions = (division 1 3) ∷ (division 2 0) ∷ [];
  incidents = [];
  calls = [];
  vehicles =
      (vehicle A1 1 1 Ambulance (grid 530120 180160) Available 5128 None 0 0)
      ∷ (vehicle A2 2 2 Car (grid 530201 180000) Offered 2000 None 0 1) ∷ [];
  turns = [];
  assignments = [];
  points = (point 2 1 (grid 530201 180000) 1) ∷ [];
  loans = [];
  offers = (offer A2 2 1 1037 1037) ∷ [];
  reports = (report A2 1 button.Home 0 (grid 530201 180000) 1007 2 Normal Available false) ∷ [];
}

withdraw_is_handed_withdrawn_7 : Hands 1
    (at 1158 (Desk 2) (ask.Withdraw A2)) before_withdraw_is_handed_withdrawn_7
    (Some (Withdrawn A2)) [] (record before_withdraw_is_handed_withdrawn_7 {
      divisions = (division 1 3) ∷ [];
      vehicles =
          (vehicle A1 1 1 Ambulance (grid 530120 180160) Available 5128 None 0 0)
          ∷ [];
      points = [];
      offers = [];
      reports = [];
    })
unfolding machine
withdraw_is_handed_withdrawn_7 = (refl, refl, refl, refl)

abbrev before_withdraw_is_handed_withdrawn_8 : Room
before_withdraw_is_handed_withdrawn_8 = record {
  plan = two_divisions;
  divisions = (division 1 3) ∷ (division 2 0) ∷ [];
  incidents = [];
  calls = [];
  vehicles =
      (vehicle A1 2 2 Ambulance (grid 530100 180100) Available 41196 None 0 4)
      ∷ (vehicle A2 1 1 Ambulance (grid 530100 180100) Offered 5000 None 0 0) ∷ [];
  turns = [];
  assignments = [];
  points = [];
  loans = [];
  offers = (offer A2 1 2 1316 1716) ∷ [];
  reports =
      (report A1 2 button.Mobile 0 (grid 530201 180000) 1191 2 Wrong OffDuty false)
      ∷ (report A1 4 button.Mobile 0 (grid 530000 180000) 1436 2 Wrong Available false) ∷ [];
}

withdraw_is_handed_withdrawn_8 : Hands 2
    (at 1437 (Desk 1) (ask.Withdraw A2)) before_withdraw_is_handed_withdrawn_8
    (Some (Withdrawn A2)) [] (record before_withdraw_is_handed_withdrawn_8 {
      divisions = (division 2 0) ∷ [];
      vehicles =
          (vehicle A1 2 2 Ambulance (grid 530100 180100) Available 41196 None 0 4)
          ∷ [];
      offers = [];
    })
unfolding machine
withdraw_is_handed_withdrawn_8 = (refl, refl, refl, refl)

abbrev before_withdraw_is_handed_withdrawn_9 : Room
before_withdraw_is_handed_withdrawn_9 = record {
  plan = two_divisions;
  divisions = (division 1 0) ∷ (division 2 3) ∷ [];
  incidents = [];
  calls = [];
  vehicles =
      (vehicle A1 2 2 Ambulance (grid 530201 180000) Available 2000 None 0 0)
      ∷ (vehicle A2 1 1 Ambulance (grid 531000 180000) Available 2000 None 0 0)
      ∷ (vehicle A3 1 1 Ambulance (grid 530000 180000) Offered 2000 None 0 1) ∷ [];
  turns = [];
  assignments = [];
  points = [];
  loans = [];
  offers = (offer A3 1 2 1272 2272) ∷ [];
  reports = (report A3 1 button.Home 0 (grid 530000 180000) 1573 1 Normal Offered false) ∷ [];
}

withdraw_is_handed_withdrawn_9 : Hands 2
    (at 1879 (Desk 1) (ask.Withdraw A3)) before_withdraw_is_handed_withdrawn_9
    (Some (Withdrawn A3)) [] (record before_withdraw_is_handed_withdrawn_9 {
      divisions = (division 2 3) ∷ [];
      vehicles =
          (vehicle A1 2 2 Ambulance (grid 530201 180000) Available 2000 None 0 0)
          ∷ [];
      offers = [];
      reports = [];
    })
unfolding machine
withdraw_is_handed_withdrawn_9 = (refl, refl, refl, refl)

abbrev before_withdraw_is_handed_withdrawn_10 : Room
before_withdraw_is_handed_withdrawn_10 = record {
  plan = overlapping_divisions;
  divisions = (division 1 0) ∷ (division 7 0) ∷ [];
  incidents = [];
  calls = [];
  vehicles =
      (vehicle A1 7 7 Ambulance (grid 560000 180000) Offered 2000 None 0 2)
      ∷ (vehicle A2 7 7 Car (grid 530100 180100) Available 5000 None 0 2) ∷ [];
  turns = [];
  assignments = [];
  points = [];
  loans = [];
  offers = (offer A1 7 1 1665 1665) ∷ [];
  reports =
      (report A1 2 button.Hospital 0 (grid 530100 180100) 1664 7 Wrong Available false)
      ∷ (report A2 2 button.Mobile 0 (grid 530120 180160) 1663 7 Wrong Available true) ∷ [];
}

withdraw_is_handed_withdrawn_10 : Hands 1
    (at 1967 (Desk 7) (ask.Withdraw A1)) before_withdraw_is_handed_withdrawn_10
    (Some (Withdrawn A1)) [] (record before_withdraw_is_handed_withdrawn_10
    { divisions = (division 1 0) ∷ []; vehicles = []; offers = []; reports = [] })
unfolding machine
withdraw_is_handed_withdrawn_10 = (refl, refl, refl, refl)

abbrev before_withdraw_is_handed_withdrawn_11 : Room
before_withdraw_is_handed_withdrawn_11 = record {
  plan = two_divisions;
  divisions = (division 1 0) ∷ (division 2 0) ∷ [];
  incidents = [];
  calls = [];
  vehicles =
      (vehicle A1 1 1 Support (grid 560100 180000) Available 40000 None 0 0)
      ∷ (vehicle A2 1 1 Car (grid 530200 180000) Available 2000 None 0 0)
      ∷ (vehicle A3 1 1 Support (grid 530100 180000) Available 5000 None 0 0)
      ∷ (vehicle B1 2 2 Support (grid 530100 180000) Offered 40000 None 0 0) ∷ [];
  turns = [];
  assignments = [];
  points = [];
  loans = [];
  offers = (offer B1 2 1 1005 1105) ∷ [];
  reports = [];
}

withdraw_is_handed_withdrawn_11 : Hands 1
    (at 1336 (Desk 2) (ask.Withdraw B1)) before_withdraw_is_handed_withdrawn_11
    (Some (Withdrawn B1)) [] (record before_withdraw_is_handed_withdrawn_11 {
      divisions = (division 1 0) ∷ [];
      vehicles =
          (vehicle A1 1 1 Support (grid 560100 180000) Available 40000 None 0 0)
          ∷ (vehicle A2 1 1 Car (grid 530200 180000) Available 2000 None 0 0)
          ∷ (vehicle A3 1 1 Support (grid 530100 180000) Available 5000 None 0 0)
          ∷ [];
      offers = [];
    })
unfolding machine
withdraw_is_handed_withdrawn_11 = (refl, refl, refl, refl)

abbrev before_withdraw_is_handed_withdrawn_12 : Room
before_withdraw_is_handed_withdrawn_12 = record {
  plan = overlapping_divisions;
  divisions = (division 1 1) ∷ (division 7 0) ∷ [];
  incidents = (incident 1 1 (grid 530100 180000) 2 (needs 1 0 0) 1306 None Active) ∷ [];
  calls = (call 1 3 1 1 1 false (grid 530100 180000) 2 (needs 1 0 0) [] 1306) ∷ [];
  vehicles =
      (vehicle A1 7 7 Support (grid 530120 180160) Available 40000 None 0 0)
      ∷ (vehicle A2 1 1 Ambulance (grid 560100 180000) Offered 2000 None 0 0) ∷ [];
  turns = [];
  assignments = [];
  points = [];
  loans = [];
  offers = (offer A2 1 7 1005 1005) ∷ [];
  reports = [];
}

withdraw_is_handed_withdrawn_12 : Hands 7
    (at 1908 (Desk 1) (ask.Withdraw A2)) before_withdraw_is_handed_withdrawn_12
    (Some (Withdrawn A2)) [] (record before_withdraw_is_handed_withdrawn_12 {
      divisions = (division 7 0) ∷ [];
      incidents = [];
      calls = [];
      vehicles =
          (vehicle A1 7 7 Support (grid 530120 180160) Available 40000 None 0 0)
          ∷ [];
      offers = [];
    })
unfolding machine
withdraw_is_handed_withdrawn_12 = (refl, refl, refl, refl)

abbrev before_withdraw_is_handed_withdrawn_13 : Room
before_withdraw_is_handed_withdrawn_13 = record {
  plan = two_divisions;
  divisions = (division 1 0) ∷ (division 2 0) ∷ [];
  incidents = [];
  calls = [];
  vehicles =
      (vehicle A1 1 1 Ambulance (grid 530100 180000) Available 41403 None 0 0)
      ∷ (vehicle A2 2 2 Ambulance (grid 560000 180000) OffDuty 0 None 0 0)
      ∷ (vehicle A3 2 2 Ambulance (grid 560100 180000) Offered 40000 None 0 1) ∷ [];
  turns = [];
  assignments = [];
  points = [];
  loans = [];
  offers = (offer A3 2 1 1423 1423) ∷ [];
  reports = (report A3 1 button.Mobile 0 (grid 530100 180000) 1121 2 Wrong Available false) ∷ [];
}

withdraw_is_handed_withdrawn_13 : Hands 1
    (at 1405 (Desk 2) (ask.Withdraw A3)) before_withdraw_is_handed_withdrawn_13
    (Some (Withdrawn A3)) [] (record before_withdraw_is_handed_withdrawn_13 {
      divisions = (division 1 0) ∷ [];
      vehicles =
          (vehicle A1 1 1 Ambulance (grid 530100 180000) Available 41403 None 0 0)
          ∷ [];
      offers = [];
      reports = [];
    })
unfolding machine
withdraw_is_handed_withdrawn_13 = (refl, refl, refl, refl)

abbrev before_withdraw_is_handed_withdrawn_14 : Room
before_withdraw_is_handed_withdrawn_14 = record {
  plan = two_divisions;
  divisions = (division 1 3) ∷ (division 2 0) ∷ [];
  incidents = [];
  calls = [];
  vehicles =
      (vehicle A1 2 2 Car (grid 530000 180000) OffDuty 0 None 0 0)
      ∷ (vehicle A2 1 1 Support (grid 530100 180000) Available 40000 None 0 0)
      ∷ (vehicle A3 1 1 Car (grid 560100 180000) Offered 5000 None 0 0)
      ∷ (vehicle B1 2 2 Ambulance (grid 530120 180160) Available 40000 None 0 1) ∷ [];
  turns = [];
  assignments = [];
  points = [];
  loans = [];
  offers = (offer A3 1 2 1161 2161) ∷ [];
  reports = (report B1 1 button.Return 0 (grid 531000 180000) 1181 2 Wrong Available false) ∷ [];
}

withdraw_is_handed_withdrawn_14 : Hands 2
    (at 1343 (Desk 1) (ask.Withdraw A3)) before_withdraw_is_handed_withdrawn_14
    (Some (Withdrawn A3)) [] (record before_withdraw_is_handed_withdrawn_14 {
      divisions = (division 2 0) ∷ [];
      vehicles =
          (vehicle A1 2 2 Car (grid 530000 180000) OffDuty 0 None 0 0)
          ∷ (vehicle B1 2 2 Ambulance (grid 530120 180160) Available 40000 None 0 1)
          ∷ [];
      offers = [];
    })
unfolding machine
withdraw_is_handed_withdrawn_14 = (refl, refl, refl, refl)

abbrev before_accept_is_handed_nothing : Room
before_accept_is_handed_nothing = record {
  plan = two_divisions;
  divisions = (division 1 3) ∷ (division 2 3) ∷ [];
  incidents = [];
  calls = [];
  vehicles =
      (vehicle A1 2 2 Ambulance (grid 531000 180000) Available 2000 None 0 0)
      ∷ (vehicle A2 1 1 Ambulance (grid 530100 180000) OffDuty 0 None 0 0) ∷ [];
  turns = [];
  assignments = [];
  points = [];
  loans = [];
  offers = [];
  reports = [];
}

accept_is_handed_nothing : Hands 2
    (at 1062 (Desk 1) (ask.Accept A2)) before_accept_is_handed_nothing None []
    (record before_accept_is_handed_nothing {
      divisions = (division 2 3) ∷ [];
      vehicles =
          (vehicle A1 2 2 Ambulance (grid 531000 180000) Available 2000 None 0 0) ∷ [];
    })
unfolding machine
accept_is_handed_nothing = (refl, refl, refl, refl)

abbrev before_accept_is_handed_nothing_2 : Room
before_accept_is_handed_nothing_2 = record {
  plan = two_divisions;
  divisions = (division 1 3) ∷ (division 2 3) ∷ [];
  incidents = [];
  calls = [];
  vehicles =
      (vehicle A1 1 1 Ambulance (grid 530201 180000) Available 2000 None 0 0)
      ∷ (vehicle A2 1 1 Car (grid 530120 180160) Available 40000 None 0 0) ∷ [];
  turns = [];
  assignments = [];
  points = [];
  loans = [];
  offers = [];
  reports = [];
}

accept_is_handed_nothing_2 : Hands 1
    (at 1181 (Desk 2) (ask.Accept A1)) before_accept_is_handed_nothing_2 None []
    (record before_accept_is_handed_nothing_2 { divisions = (division 1 3) ∷ [] })
unfolding machine
accept_is_handed_nothing_2 = (refl, refl, refl, refl)

abbrev before_call_is_handed_nothing : Room
before_call_is_handed_nothing = record {
  plan = two_divisions;
  divisions = (division 1 0) ∷ (division 2 0) ∷ [];
  incidents = [];
  calls = [];
  vehicles =
      (vehicle A1 1 1 Car (grid 560000 180000) Available 5000 None 0 0)
      ∷ (vehicle A2 1 1 Ambulance (grid 530120 180160) Available 40000 None 0 0) ∷ [];
  turns = [];
  assignments = [];
  points = [];
  loans = [];
  offers = [];
  reports = [];
}

call_is_handed_nothing : Hands 2 (at 1181 (Position 2)
    (ask.Call (call_form 6 (grid 530100 180000) 3 (needs 1 0 0) []))) before_call_is_handed_nothing
    None [] (record before_call_is_handed_nothing
    { divisions = (division 2 0) ∷ []; vehicles = [] })
unfolding machine
call_is_handed_nothing = (refl, refl, refl, refl)

abbrev before_call_is_handed_nothing_2 : Room
before_call_is_handed_nothing_2 = record {
  plan = overlapping_divisions;
  divisions = (division 1 0) ∷ (division 7 0) ∷ [];
  incidents = [];
  calls = [];
  vehicles =
      (vehicle A1 1 1 Support (grid 530000 180000) OffDuty 0 None 0 0)
      ∷ (vehicle A2 7 7 Ambulance (grid 530300 180400) Available 2000 None 0 0) ∷ [];
  turns = [];
  assignments = [];
  points = [];
  loans = [];
  offers = [];
  reports = [];
}

call_is_handed_nothing_2 : Hands 7
    (at 1481 (Position 2) (ask.Call (call_form 4 (grid 530100 180000) 2 (needs 2 1 1) [])))
    before_call_is_handed_nothing_2 None []
    (record before_call_is_handed_nothing_2 {
      divisions = (division 7 0) ∷ [];
      vehicles =
          (vehicle A2 7 7 Ambulance (grid 530300 180400) Available 2000 None 0 0) ∷ [];
    })
unfolding machine
call_is_handed_nothing_2 = (refl, refl, refl, refl)

abbrev before_call_is_handed_nothing_3 : Room
before_call_is_handed_nothing_3 = record {
  plan = two_divisions;
  divisions = (division 1 4) ∷ (division 2 3) ∷ [];
  incidents = (incident 1 4 (grid 530000 180000) 2 (needs 2 1 1) 1301 None Active) ∷ [];
  calls = (call 1 1 1 4 4 false (grid 530000 180000) 2 (needs 2 1 1) [] 1301) ∷ [];
  vehicles =
      (vehicle A1 2 2 Ambulance (grid 530100 180000) Available 2000 None 0 0)
      ∷ (vehicle A2 1 1 Ambulance (grid 530100 180100) Available 5000 None 0 0) ∷ [];
  turns = [];
  assignments = [];
  points = [];
  loans = [];
  offers = [];
  reports = [];
}

call_is_handed_nothing_3 : Hands 1
    (at 1722 (Position 1) (ask.Call (call_form 1 (grid 530000 180000) 2 (needs 2 1 1) [])))
    before_call_is_handed_nothing_3 None []
    (record before_call_is_handed_nothing_3 {
      divisions = (division 1 4) ∷ [];
      vehicles =
          (vehicle A2 1 1 Ambulance (grid 530100 180100) Available 5000 None 0 0) ∷ [];
    })
unfolding machine
call_is_handed_nothing_3 = (refl, refl, refl, refl)

abbrev before_call_is_handed_nothing_4 : Room
before_call_is_handed_nothing_4 = record {
  plan = two_divisions;
  divisions = (division 1 1) ∷ (division 2 3) ∷ [];
  incidents = (incident 1 1 (grid 530100 180100) 3 (needs 2 1 1) 1000 None Active) ∷ [];
  calls = (call 1 5 1 1 1 false (grid 530100 180100) 3 (needs 2 1 1) [] 1000) ∷ [];
  vehicles =
      (vehicle A1 2 2 Ambulance (grid 530100 180100) OffDuty 0 None 0 0)
      ∷ (vehicle A2 2 2 Ambulance (grid 530201 180000) OffDuty 0 None 0 0)
      ∷ (vehicle A3 1 1 Ambulance (grid 530201 180000) Available 2000 None 0 0) ∷ [];
  turns = [];
  assignments = [];
  points = [];
  loans = [];
  offers = [];
  reports = [];
}

call_is_handed_nothing_4 : Hands 1
    (at 1150 (Position 1) (ask.Call (call_form 5 (grid 530100 180100) 3 (needs 2 1 1) [])))
    before_call_is_handed_nothing_4 None []
    (record before_call_is_handed_nothing_4 {
      divisions = (division 1 1) ∷ [];
      vehicles =
          (vehicle A3 1 1 Ambulance (grid 530201 180000) Available 2000 None 0 0) ∷ [];
    })
unfolding machine
call_is_handed_nothing_4 = (refl, refl, refl, refl)

abbrev before_call_is_handed_nothing_5 : Room
before_call_is_handed_nothing_5 = record {
  plan = two_divisions;
  divisions = (division 1 2147483647) ∷ (division 2 2147483646) ∷ [];
  incidents = [];
  calls = [];
  vehicles =
      (vehicle A1 2 2 Ambulance (grid 530100 180000) Available 2000 None 0 0)
      ∷ (vehicle A2 2 2 Ambulance (grid 560100 180000) Available 40000 None 0 0) ∷ [];
  turns = [];
  assignments = [];
  points = [];
  loans = [];
  offers = [];
  reports = [];
}

call_is_handed_nothing_5 : Hands 2
    (at 1061 (Position 1) (ask.Call (call_form 3 (grid 530100 180100) 2 (needs 0 1 0)
    (codes "x")))) before_call_is_handed_nothing_5 None []
    (record before_call_is_handed_nothing_5 { divisions = (division 2 2147483646) ∷ [] })
unfolding machine
call_is_handed_nothing_5 = (refl, refl, refl, refl)

abbrev before_call_is_handed_nothing_6 : Room
before_call_is_handed_nothing_6 = record {
  plan = two_divisions;
  divisions = (division 1 0) ∷ (division 2 0) ∷ [];
  incidents = [];
  calls = [];
  vehicles =
      (vehicle A1 1 1 Ambulance (grid 560100 180000) Available 5000 None 0 0)
      ∷ (vehicle A2 1 1 Ambulance (grid 530100 180000) OffDuty 0 None 0 0)
      ∷ (vehicle A3 1 1 Ambulance (grid 530200 180000) Available 40000 None 0 0) ∷ [];
  turns = [];
  assignments = [];
  points = [];
  loans = [];
  offers = [];
  reports = [];
}

call_is_handed_nothing_6 : Hands 2
    (at 1002 (Position 2) (ask.Call (call_form 1 (grid 530000 200800) 2 (needs 1 1 0) [])))
    before_call_is_handed_nothing_6 None []
    (record before_call_is_handed_nothing_6 { divisions = (division 2 0) ∷ []; vehicles = [] })
unfolding machine
call_is_handed_nothing_6 = (refl, refl, refl, refl)

abbrev before_clear_is_handed_nothing : Room
before_clear_is_handed_nothing = record {
  plan = two_divisions;
  divisions = (division 1 2147483647) ∷ (division 2 2147483647) ∷ [];
  incidents = [];
  calls = [];
  vehicles =
      (vehicle A1 1 1 Ambulance (grid 531000 180000) Available 2000 None 0 1)
      ∷ (vehicle A2 2 2 Car (grid 531000 180000) Available 2000 None 0 0) ∷ [];
  turns = [];
  assignments = [];
  points = [];
  loans = [];
  offers = [];
  reports = (report A1 1 button.Return 0 (grid 530120 180160) 1362 1 Wrong Available false) ∷ [];
}

clear_is_handed_nothing : Hands 2
    (at 2066 (Desk 1) (ask.Clear A1 1)) before_clear_is_handed_nothing None []
    (record before_clear_is_handed_nothing {
      divisions = (division 2 2147483647)
          ∷ [];
      vehicles = (vehicle A2 2 2 Car (grid 531000 180000) Available 2000 None 0 0)
          ∷ [];
      reports = [];
    })
unfolding machine
clear_is_handed_nothing = (refl, refl, refl, refl)

abbrev before_clear_is_handed_nothing_2 : Room
before_clear_is_handed_nothing_2 = record {
  plan = two_divisions;
  divisions = (division 1 0) ∷ (division 2 0) ∷ [];
  incidents = [];
  calls = [];
  vehicles =
      (vehicle A1 1 1 Ambulance (grid 560100 180000) OffDuty 0 None 2147483647 2)
      ∷ (vehicle A2 2 2 Support (grid 530100 180000) Available 40000 None 0 0) ∷ [];
  turns = [];
  assignments = [];
  points = [];
  loans = [];
  offers = [];
  reports = (report A1 2 button.Scene 2147483647 (grid 530100 180100) 1181 1 Wrong OffDuty false) ∷ [];
}

clear_is_handed_nothing_2 : Hands 2
    (at 1662 (Desk 1) (ask.Clear A1 2)) before_clear_is_handed_nothing_2 None []
    (record before_clear_is_handed_nothing_2 {
      divisions = (division 2 0) ∷ [];
      vehicles =
          (vehicle A2 2 2 Support (grid 530100 180000) Available 40000 None 0 0)
          ∷ [];
      reports = [];
    })
unfolding machine
clear_is_handed_nothing_2 = (refl, refl, refl, refl)

abbrev before_clear_is_handed_nothing_3 : Room
before_clear_is_handed_nothing_3 = record {
  plan = overlapping_divisions;
  divisions = (division 1 0) ∷ (division 7 0) ∷ [];
  incidents = [];
  calls = [];
  vehicles =
      (vehicle A1 1 1 Ambulance (grid 530100 180100) Available 5000 None 0 0)
      ∷ (vehicle A2 1 1 Car (grid 560100 180000) Available 5000 None 0 0) ∷ [];
  turns = [];
  assignments = [];
  points = [];
  loans = [];
  offers = [];
  reports = [];
}

clear_is_handed_nothing_3 : Hands 1
    (at 1061 (Desk 7) (ask.Clear A1 1)) before_clear_is_handed_nothing_3 None []
    (record before_clear_is_handed_nothing_3 { divisions = (division 1 0) ∷ [] })
unfolding machine
clear_is_handed_nothing_3 = (refl, refl, refl, refl)

abbrev before_clear_is_handed_nothing_4 : Room
before_clear_is_handed_nothing_4 = record {
  plan = overlapping_divisions;
  divisions = (division 1 0) ∷ (division 7 3) ∷ [];
  incidents = [];
  calls = [];
  vehicles =
      (vehicle A1 1 1 Support (grid 530300 180400) OffDuty 0 None 0 0)
      ∷ (vehicle A2 1 1 Car (grid 530200 180000) OffDuty 0 None 0 0) ∷ [];
  turns = [];
  assignments = [];
  points = [];
  loans = [];
  offers = [];
  reports = [];
}

clear_is_handed_nothing_4 : Hands 1
    (at 1481 (Desk 7) (ask.Clear A1 2)) before_clear_is_handed_nothing_4 None []
    (record before_clear_is_handed_nothing_4 { divisions = (division 1 0) ∷ [] })
unfolding machine
clear_is_handed_nothing_4 = (refl, refl, refl, refl)

abbrev before_close_is_handed_nothing : Room
before_close_is_handed_nothing = record {
  plan = two_divisions;
  divisions = (division 1 1) ∷ (division 2 0) ∷ [];
  incidents = (incident 1 1 (grid 530100 180100) 1 (needs 0 1 0) 1481 None Active) ∷ [];
  calls = (call 2 3 1 1 1 false (grid 530100 180100) 1 (needs 0 1 0) [] 1481) ∷ [];
  vehicles =
      (vehicle A1 2 2 Support (grid 530100 180100) Available 2000 None 0 0)
      ∷ (vehicle A2 2 2 Support (grid 530100 180100) Available 5000 None 2147483647 0) ∷ [];
  turns = [];
  assignments = [];
  points = [];
  loans = [];
  offers = [];
  reports = [];
}

close_is_handed_nothing : Hands 2
    (at 1482 (Desk 1) (ask.Close 1)) before_close_is_handed_nothing None []
    (record before_close_is_handed_nothing
    { divisions = (division 2 0) ∷ []; incidents = []; calls = [] })
unfolding machine
close_is_handed_nothing = (refl, refl, refl, refl)

abbrev before_close_is_handed_nothing_2 : Room
before_close_is_handed_nothing_2 = record {
  plan = two_divisions;
  divisions = (division 1 0) ∷ (division 2 1) ∷ [];
  incidents = (incident 2 1 (grid 560000 180000) 3 (needs 2 1 1) 980 None Active) ∷ [];
  calls = (call 2 1 2 1 1 false (grid 560000 180000) 3 (needs 2 1 1) [] 980) ∷ [];
  vehicles =
      (vehicle A1 1 1 Ambulance (grid 530120 180160) Available 5000 None 0 0)
      ∷ (vehicle A2 1 1 Car (grid 530300 180400) Available 2000 None 0 0)
      ∷ (vehicle A3 2 2 Car (grid 531000 180000) OffDuty 0 None 0 0) ∷ [];
  turns = [];
  assignments = [];
  points = [];
  loans = [];
  offers = [];
  reports = [];
}

close_is_handed_nothing_2 : Hands 1
    (at 1100 (Desk 2) (ask.Close 1)) before_close_is_handed_nothing_2 None []
    (record before_close_is_handed_nothing_2 {
      divisions = (division 1 0) ∷ [];
      incidents = [];
      calls = [];
      vehicles =
          (vehicle A1 1 1 Ambulance (grid 530120 180160) Available 5000 None 0 0)
          ∷ (vehicle A2 1 1 Car (grid 530300 180400) Available 2000 None 0 0) ∷ [];
    })
unfolding machine
close_is_handed_nothing_2 = (refl, refl, refl, refl)

abbrev before_close_is_handed_nothing_3 : Room
before_close_is_handed_nothing_3 = record {
  plan = two_divisions;
  divisions = (division 1 2147483646) ∷ (division 2 2147483646) ∷ [];
  incidents = [];
  calls = [];
  vehicles =
      (vehicle A1 2 2 Ambulance (grid 560100 180000) OffDuty 0 None 0 0)
      ∷ (vehicle A2 2 2 Ambulance (grid 531000 180000) OffDuty 0 None 0 0) ∷ [];
  turns = [];
  assignments = [];
  points = [];
  loans = [];
  offers = [];
  reports = [];
}

close_is_handed_nothing_3 : Hands 1
    (at 1211 (Desk 2) (ask.Close 9)) before_close_is_handed_nothing_3 None []
    (record before_close_is_handed_nothing_3
    { divisions = (division 1 2147483646) ∷ []; vehicles = [] })
unfolding machine
close_is_handed_nothing_3 = (refl, refl, refl, refl)

abbrev before_close_is_handed_nothing_4 : Room
before_close_is_handed_nothing_4 = record {
  plan = overlapping_divisions;
  divisions = (division 1 0) ∷ (division 7 3) ∷ [];
  incidents = [];
  calls = [];
  vehicles =
      (vehicle A1 7 7 Ambulance (grid 531000 180000) OffDuty 0 None 0 0)
      ∷ (vehicle A2 7 7 Ambulance (grid 560000 180000) OffDuty 0 None 0 0)
      ∷ (vehicle A3 1 1 Ambulance (grid 560200 180000) Available 40000 None 0 0) ∷ [];
  turns = [];
  assignments = [];
  points = [];
  loans = [];
  offers = [];
  reports = [];
}

close_is_handed_nothing_4 : Hands 7
    (at 1005 (Desk 1) (ask.Close 9)) before_close_is_handed_nothing_4 None []
    (record before_close_is_handed_nothing_4 {
      divisions = (division 7 3) ∷ [];
      vehicles =
          (vehicle A1 7 7 Ambulance (grid 531000 180000) OffDuty 0 None 0 0)
          ∷ (vehicle A2 7 7 Ambulance (grid 560000 180000) OffDuty 0 None 0 0) ∷ [];
    })
unfolding machine
close_is_handed_nothing_4 = (refl, refl, refl, refl)

abbrev before_decline_is_handed_nothing : Room
before_decline_is_handed_nothing = record {
  plan = two_divisions;
  divisions = (division 1 0) ∷ (division 2 0) ∷ [];
  incidents = [];
  calls = [];
  vehicles =
      (vehicle A1 2 2 Support (grid 560200 180000) OffDuty 0 None 0 0)
      ∷ (vehicle A2 2 2 Car (grid 530201 180000) OffDuty 0 None 0 0) ∷ [];
  turns = [];
  assignments = [];
  points = [];
  loans = [];
  offers = [];
  reports = [];
}

decline_is_handed_nothing : Hands 1
    (at 1005 (Desk 2) (ask.Decline A2)) before_decline_is_handed_nothing None []
    (record before_decline_is_handed_nothing { divisions = (division 1 0) ∷ []; vehicles = [] })
unfolding machine
decline_is_handed_nothing = (refl, refl, refl, refl)

abbrev before_decline_is_handed_nothing_2 : Room
before_decline_is_handed_nothing_2 = record {
  plan = two_divisions;
  divisions = (division 1 0) ∷ (division 2 0) ∷ [];
  incidents = [];
  calls = [];
  vehicles =
      (vehicle A1 1 1 Car (grid 530300 180400) Available 5000 None 0 0)
      ∷ (vehicle A2 2 2 Ambulance (grid 531000 180000) OffDuty 0 None 0 0) ∷ [];
  turns = [];
  assignments = [];
  points = [];
  loans = [];
  offers = [];
  reports = [];
}

decline_is_handed_nothing_2 : Hands 1
    (at 1061 (Desk 2) (ask.Decline A2)) before_decline_is_handed_nothing_2 None []
    (record before_decline_is_handed_nothing_2 {
      divisions = (division 1 0) ∷ [];
      vehicles =
          (vehicle A1 1 1 Car (grid 530300 180400) Available 5000 None 0 0) ∷ [];
    })
unfolding machine
decline_is_handed_nothing_2 = (refl, refl, refl, refl)

abbrev before_duty_is_handed_nothing : Room
before_duty_is_handed_nothing = record {
  plan = two_divisions;
  divisions = (division 1 0) ∷ (division 2 0) ∷ [];
  incidents = [];
  calls = [];
  vehicles =
      (vehicle A1 1 1 Ambulance (grid 530100 180000) OffDuty 0 None 0 0)
      ∷ (vehicle A2 2 2 Ambulance (grid 530201 180000) OffDuty 0 None 0 0) ∷ [];
  turns = [];
  assignments = [];
  points = [];
  loans = [];
  offers = [];
  reports = [];
}

duty_is_handed_nothing : Hands 2 (at 1482 (Desk 1) (ask.Duty A1 (grid 530120 180160) 41482))
    before_duty_is_handed_nothing None []
    (record before_duty_is_handed_nothing {
      divisions = (division 2 0) ∷ [];
      vehicles =
          (vehicle A2 2 2 Ambulance (grid 530201 180000) OffDuty 0 None 0 0) ∷ [];
    })
unfolding machine
duty_is_handed_nothing = (refl, refl, refl, refl)

abbrev before_duty_is_handed_nothing_2 : Room
before_duty_is_handed_nothing_2 = record {
  plan = two_divisions;
  divisions = (division 1 0) ∷ (division 2 0) ∷ [];
  incidents = [];
  calls = [];
  vehicles =
      (vehicle A1 2 2 Support (grid 530120 180160) Available 1121 None 0 0)
      ∷ (vehicle A2 2 2 Car (grid 560000 180000) OffDuty 0 None 0 0) ∷ [];
  turns = [];
  assignments = [];
  points = [];
  loans = [];
  offers = [];
  reports = [];
}

duty_is_handed_nothing_2 : Hands 1
    (at 1121 (Desk 2) (ask.Duty A2 (grid 530200 180000) 1122)) before_duty_is_handed_nothing_2 None
    [] (record before_duty_is_handed_nothing_2 { divisions = (division 1 0) ∷ []; vehicles = [] })
unfolding machine
duty_is_handed_nothing_2 = (refl, refl, refl, refl)

abbrev before_duty_is_handed_nothing_3 : Room
before_duty_is_handed_nothing_3 = record {
  plan = overlapping_divisions;
  divisions = (division 1 0) ∷ (division 7 0) ∷ [];
  incidents = [];
  calls = [];
  vehicles =
      (vehicle A1 7 7 Support (grid 530300 180400) OffDuty 0 None 0 0)
      ∷ (vehicle A2 1 1 Ambulance (grid 560100 180000) Available 5000 None 0 0) ∷ [];
  turns = [];
  assignments = [];
  points = [];
  loans = [];
  offers = [];
  reports = [];
}

duty_is_handed_nothing_3 : Hands 1
    (at 1005 (Desk 7) (ask.Duty Z9 (grid 530201 180000) 41005)) before_duty_is_handed_nothing_3
    None [] (record before_duty_is_handed_nothing_3 {
      divisions = (division 1 0) ∷ [];
      vehicles =
          (vehicle A2 1 1 Ambulance (grid 560100 180000) Available 5000 None 0 0) ∷ [];
    })
unfolding machine
duty_is_handed_nothing_3 = (refl, refl, refl, refl)

abbrev before_duty_is_handed_nothing_4 : Room
before_duty_is_handed_nothing_4 = record {
  plan = two_divisions;
  divisions = (division 1 0) ∷ (division 2 3) ∷ [];
  incidents = [];
  calls = [];
  vehicles =
      (vehicle A1 1 1 Car (grid 560100 180000) Available 2000 None 0 0)
      ∷ (vehicle A2 2 2 Car (grid 530000 180000) OffDuty 0 None 0 0) ∷ [];
  turns = [];
  assignments = [];
  points = [];
  loans = [];
  offers = [];
  reports = [];
}

duty_is_handed_nothing_4 : Hands 2
    (at 1001 (Desk 1) (ask.Duty A1 (grid 530300 180400) 1002)) before_duty_is_handed_nothing_4 None
    [] (record before_duty_is_handed_nothing_4 {
      divisions = (division 2 3) ∷ [];
      vehicles =
          (vehicle A2 2 2 Car (grid 530000 180000) OffDuty 0 None 0 0) ∷ [];
    })
unfolding machine
duty_is_handed_nothing_4 = (refl, refl, refl, refl)

abbrev before_give_back_is_handed_nothing : Room
before_give_back_is_handed_nothing = record {
  plan = two_divisions;
  divisions = (division 1 2147483647) ∷ (division 2 2147483647) ∷ [];
  incidents = [];
  calls = [];
  vehicles =
      (vehicle A1 1 1 Ambulance (grid 530000 180000) Available 40000 None 0 0)
      ∷ (vehicle A2 1 1 Ambulance (grid 531000 180000) Available 40000 None 0 0) ∷ [];
  turns = [];
  assignments = [];
  points = [];
  loans = [];
  offers = [];
  reports = [];
}

give_back_is_handed_nothing : Hands 2
    (at 1301 (Desk 1) (ask.GiveBack A1)) before_give_back_is_handed_nothing None []
    (record before_give_back_is_handed_nothing
    { divisions = (division 2 2147483647) ∷ []; vehicles = [] })
unfolding machine
give_back_is_handed_nothing = (refl, refl, refl, refl)

abbrev before_give_back_is_handed_nothing_2 : Room
before_give_back_is_handed_nothing_2 = record {
  plan = two_divisions;
  divisions = (division 1 3) ∷ (division 2 0) ∷ [];
  incidents = [];
  calls = [];
  vehicles =
      (vehicle A1 2 2 Ambulance (grid 530120 180160) OffDuty 0 None 0 0)
      ∷ (vehicle A2 1 1 Car (grid 530000 180000) Available 40000 None 0 0) ∷ [];
  turns = [];
  assignments = [];
  points = [];
  loans = [];
  offers = [];
  reports = [];
}

give_back_is_handed_nothing_2 : Hands 1
    (at 1031 (Desk 2) (ask.GiveBack A1)) before_give_back_is_handed_nothing_2 None []
    (record before_give_back_is_handed_nothing_2 {
      divisions = (division 1 3) ∷ [];
      vehicles =
          (vehicle A2 1 1 Car (grid 530000 180000) Available 40000 None 0 0) ∷ [];
    })
unfolding machine
give_back_is_handed_nothing_2 = (refl, refl, refl, refl)

abbrev before_incidents_is_handed_nothing : Room
before_incidents_is_handed_nothing = record {
  plan = two_divisions;
  divisions = (division 1 0) ∷ (division 2 0) ∷ [];
  incidents = [];
  calls = [];
  vehicles =
      (vehicle A1 1 1 Ambulance (grid 530100 180000) OffDuty 0 None 0 0)
      ∷ (vehicle A2 2 2 Ambulance (grid 530201 180000) OffDuty 0 None 0 0) ∷ [];
  turns = [];
  assignments = [];
  points = [];
  loans = [];
  offers = [];
  reports = [];
}

incidents_is_handed_nothing : Hands 2
    (at 1001 (Desk 1) ask.Incidents) before_incidents_is_handed_nothing None []
    (record before_incidents_is_handed_nothing {
      divisions = (division 2 0) ∷ [];
      vehicles =
          (vehicle A2 2 2 Ambulance (grid 530201 180000) OffDuty 0 None 0 0) ∷ [];
    })
unfolding machine
incidents_is_handed_nothing = (refl, refl, refl, refl)

abbrev before_incidents_is_handed_nothing_2 : Room
before_incidents_is_handed_nothing_2 = record {
  plan = two_divisions;
  divisions = (division 1 0) ∷ (division 2 0) ∷ [];
  incidents = [];
  calls = [];
  vehicles =
      (vehicle A1 1 1 Support (grid 560000 180000) OffDuty 0 None 0 0)
      ∷ (vehicle A2 2 2 Car (grid 530120 180160) Available 2000 None 0 0) ∷ [];
  turns = [];
  assignments = [];
  points = [];
  loans = [];
  offers = [];
  reports = [];
}

incidents_is_handed_nothing_2 : Hands 2
    (at 1301 (Desk 1) ask.Incidents) before_incidents_is_handed_nothing_2 None []
    (record before_incidents_is_handed_nothing_2 {
      divisions = (division 2 0) ∷ [];
      vehicles =
          (vehicle A2 2 2 Car (grid 530120 180160) Available 2000 None 0 0) ∷ [];
    })
unfolding machine
incidents_is_handed_nothing_2 = (refl, refl, refl, refl)

abbrev before_lend_is_handed_nothing : Room
before_lend_is_handed_nothing = record {
  plan = two_divisions;
  divisions = (division 1 0) ∷ (division 2 0) ∷ [];
  incidents = [];
  calls = [];
  vehicles =
      (vehicle A1 2 2 Ambulance (grid 530000 180000) OffDuty 0 None 2147483647 0)
      ∷ (vehicle A2 1 1 Ambulance (grid 530201 180000) Available 2000 None 0 0) ∷ [];
  turns = [];
  assignments = [];
  points = [];
  loans = [];
  offers = [];
  reports = [];
}

lend_is_handed_nothing : Hands 2 (at 1181 (Desk 1) (ask.Lend A2 9 2181))
    before_lend_is_handed_nothing None []
    (record before_lend_is_handed_nothing {
      divisions = (division 2 0) ∷ [];
      vehicles =
          (vehicle A1 2 2 Ambulance (grid 530000 180000) OffDuty 0 None 2147483647 0) ∷ [];
    })
unfolding machine
lend_is_handed_nothing = (refl, refl, refl, refl)

abbrev before_lend_is_handed_nothing_2 : Room
before_lend_is_handed_nothing_2 = record {
  plan = two_divisions;
  divisions = (division 1 0) ∷ (division 2 0) ∷ [];
  incidents = [];
  calls = [];
  vehicles =
      (vehicle A1 2 2 Ambulance (grid 560200 180000) Available 40000 None 0 0)
      ∷ (vehicle A2 2 2 Ambulance (grid 560100 180000) OffDuty 0 None 0 0)
      ∷ (vehicle A3 2 2 Support (grid 530100 180000) OffDuty 0 None 0 0) ∷ [];
  turns = [];
  assignments = [];
  points = [];
  loans = [];
  offers = [];
  reports = [];
}

lend_is_handed_nothing_2 : Hands 1
    (at 1061 (Desk 2) (ask.Lend A1 9 1161)) before_lend_is_handed_nothing_2 None []
    (record before_lend_is_handed_nothing_2 { divisions = (division 1 0) ∷ []; vehicles = [] })
unfolding machine
lend_is_handed_nothing_2 = (refl, refl, refl, refl)
