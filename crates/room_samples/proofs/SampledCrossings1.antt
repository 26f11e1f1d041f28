-- Sampled steps: what an event hands to a division, what its desk is answered, and its share after
-- it. A program that is independent of this repository, written from the rules in words, made them
-- in random runs; of each kind of step it kept those with the fewest rows.
use Rattle.std.specs.Prelude.{Err, None, Ok, Some, [], codes, false, negsuc, pos, refl, true, ◌∷◌}
use Rattle.room_types.specs.declared.answers.Answer.TheVariants as answer
use Rattle.room_types.specs.declared.asks.Ask.TheVariants as ask
use Rattle.room_types.specs.declared.asks.Who.TheVariants.{Crew, Desk, Position}
use Rattle.room_types.specs.declared.codes.Button.TheVariants as button
use Rattle.room_types.specs.declared.codes.Kind.TheVariants.{Ambulance, Car, Support}
use Rattle.room_types.specs.declared.codes.Outcome.TheVariants.{Normal, Stale, Wrong}
use Rattle.room_types.specs.declared.codes.State.TheVariants.{Active}
use Rattle.room_types.specs.declared.codes.Status.TheVariants.{Available, OffDuty, Offered}
use Rattle.room_types.specs.declared.refusal_statuses.Refusal.TheVariants as refusal
use Rattle.room_model.specs.Crossing.{Accepted, Arrive, Asked, CallIn, Declined}
use Rattle.room_model.specs.Room.{Room}
use Rattle.room_model.specs.ComputedDefinitions.{machine}
use Rattle.room_samples.specs.ExampleRows.{call, call_form, division, grid, incident, loan, offer}
use Rattle.room_samples.specs.ExampleRows.{point, pressed, report, times, times_line, vehicle}
use Rattle.room_samples.specs.ExampleRows.{vehicle_line}
use Rattle.room_samples.specs.SampledRooms.{A1, A2, A3, B1, B2, Z9, overlapping_divisions}
use Rattle.room_samples.specs.SampledRooms.{two_divisions}
use Rattle.room_samples.specs.SampledSteps.{Hands}
use Rattle.room_model.specs.StepWords.{at, needs}

abbrev before_accept_is_handed_accepted : Room
before_accept_is_handed_accepted = record {
  plan = overlapping_divisions;
  divisions = (division 1 0) ∷ (division 7 3) ∷ [];
  incidents = [];
  calls = [];
  vehicles =
      (vehicle A1 1 1 Ambulance (grid 530300 180400) Offered 5000 None 0 0)
      ∷ (vehicle A2 1 1 Car (grid 560200 180000) Available 5000 None 0 0) ∷ [];
  turns = [];
  assignments = [];
  points = [];
  loans = [];
  offers = (offer A1 1 7 1001 1401) ∷ [];
  reports = [];
}

accept_is_handed_accepted : Hands 7
    (at 1121 (Desk 7) (ask.Accept A1)) before_accept_is_handed_accepted
    (Some (Accepted (at 1121 (Desk 7) (ask.Accept A1))
    (vehicle A1 1 1 Ambulance (grid 530300 180400) Offered 5000 None 0 0)))
    ((Ok answer.Done) ∷ []) (record before_accept_is_handed_accepted {
      divisions = (division 7 3) ∷ [];
      vehicles =
          (vehicle A1 1 7 Ambulance (grid 530300 180400) Available 5000 None 0 0)
          ∷ [];
      loans = (loan A1 1 7 1121 1401 false) ∷ [];
      offers = [];
    })
unfolding machine
accept_is_handed_accepted = (refl, refl, refl, refl)

abbrev before_accept_is_handed_accepted_2 : Room
before_accept_is_handed_accepted_2 = record {
  plan = two_divisions;
  divisions = (division 1 3) ∷ (division 2 3) ∷ [];
  incidents = [];
  calls = [];
  vehicles =
      (vehicle A1 2 2 Ambulance (grid 530120 180160) Offered 2000 None 0 0)
      ∷ (vehicle A2 2 2 Ambulance (grid 530100 180000) OffDuty 0 None 0 0) ∷ [];
  turns = [];
  assignments = [];
  points = [];
  loans = [];
  offers = (offer A1 2 1 1999 2099) ∷ [];
  reports = [];
}

accept_is_handed_accepted_2 : Hands 1
    (at 1341 (Desk 1) (ask.Accept A1)) before_accept_is_handed_accepted_2
    (Some (Accepted (at 1341 (Desk 1) (ask.Accept A1))
    (vehicle A1 2 2 Ambulance (grid 530120 180160) Offered 2000 None 0 0)))
    ((Ok answer.Done) ∷ []) (record before_accept_is_handed_accepted_2 {
      divisions = (division 1 3) ∷ [];
      vehicles =
          (vehicle A1 2 1 Ambulance (grid 530120 180160) Available 2000 None 0 0)
          ∷ [];
      loans = (loan A1 2 1 1341 2099 false) ∷ [];
      offers = [];
    })
unfolding machine
accept_is_handed_accepted_2 = (refl, refl, refl, refl)

abbrev before_accept_is_handed_accepted_3 : Room
before_accept_is_handed_accepted_3 = record {
  plan = two_divisions;
  divisions = (division 1 0) ∷ (division 2 0) ∷ [];
  incidents = [];
  calls = [];
  vehicles =
      (vehicle A1 2 2 Support (grid 530120 180160) Offered 2000 None 0 0)
      ∷ (vehicle A2 2 2 Ambulance (grid 530120 180160) Available 41135 None 0 0) ∷ [];
  turns = [];
  assignments = [];
  points = [];
  loans = [];
  offers = (offer A1 2 1 1646 2646) ∷ [];
  reports = [];
}

accept_is_handed_accepted_3 : Hands 1
    (at 1999 (Desk 1) (ask.Accept A1)) before_accept_is_handed_accepted_3
    (Some (Accepted (at 1999 (Desk 1) (ask.Accept A1))
    (vehicle A1 2 2 Support (grid 530120 180160) Offered 2000 None 0 0)))
    ((Ok answer.Done) ∷ []) (record before_accept_is_handed_accepted_3 {
      divisions = (division 1 0) ∷ [];
      vehicles =
          (vehicle A1 2 1 Support (grid 530120 180160) Available 2000 None 0 0)
          ∷ [];
      loans = (loan A1 2 1 1999 2646 false) ∷ [];
      offers = [];
    })
unfolding machine
accept_is_handed_accepted_3 = (refl, refl, refl, refl)

abbrev before_accept_is_handed_accepted_4 : Room
before_accept_is_handed_accepted_4 = record {
  plan = two_divisions;
  divisions = (division 1 3) ∷ (division 2 0) ∷ [];
  incidents = [];
  calls = [];
  vehicles =
      (vehicle A1 1 1 Ambulance (grid 530100 180000) Offered 2000 None 2147483647 0)
      ∷ (vehicle A2 1 1 Car (grid 530100 180100) OffDuty 0 None 0 0) ∷ [];
  turns = [];
  assignments = [];
  points = [];
  loans = [];
  offers = (offer A1 1 2 980 1080) ∷ [];
  reports = [];
}

accept_is_handed_accepted_4 : Hands 2
    (at 2001 (Desk 2) (ask.Accept A1)) before_accept_is_handed_accepted_4
    (Some (Accepted (at 2001 (Desk 2) (ask.Accept A1))
    (vehicle A1 1 1 Ambulance (grid 530100 180000) Offered 2000 None 2147483647 0)))
    ((Ok answer.Done) ∷ []) (record before_accept_is_handed_accepted_4 {
      divisions = (division 2 0) ∷ [];
      vehicles =
          (vehicle A1 1 2 Ambulance (grid 530100 180000) Available 2000 None 2147483647
          0) ∷ [];
      loans = (loan A1 1 2 2001 1080 false) ∷ [];
      offers = [];
    })
unfolding machine
accept_is_handed_accepted_4 = (refl, refl, refl, refl)

abbrev before_accept_is_handed_accepted_5 : Room
before_accept_is_handed_accepted_5 = record {
  plan = overlapping_divisions;
  divisions = (division 1 0) ∷ (division 7 3) ∷ [];
  incidents = [];
  calls = [];
  vehicles =
      (vehicle A1 1 1 Ambulance (grid 531000 180000) Available 2000 None 0 0)
      ∷ (vehicle A2 1 1 Car (grid 530120 180160) Offered 1500 None 0 0) ∷ [];
  turns = [];
  assignments = [];
  points = [];
  loans = [];
  offers = (offer A2 1 7 1000 1000) ∷ [];
  reports = [];
}

accept_is_handed_accepted_5 : Hands 7
    (at 1542 (Desk 7) (ask.Accept A2)) before_accept_is_handed_accepted_5
    (Some (Accepted (at 1542 (Desk 7) (ask.Accept A2))
    (vehicle A2 1 1 Car (grid 530120 180160) Offered 1500 None 0 0))) ((Ok answer.Done) ∷ [])
    (record before_accept_is_handed_accepted_5 {
      divisions = (division 7 3) ∷ [];
      vehicles =
          (vehicle A2 1 7 Car (grid 530120 180160) Available 1500 None 0 0)
          ∷ [];
      loans = (loan A2 1 7 1542 1000 false) ∷ [];
      offers = [];
    })
unfolding machine
accept_is_handed_accepted_5 = (refl, refl, refl, refl)

abbrev before_accept_is_handed_accepted_6 : Room
before_accept_is_handed_accepted_6 = record {
  plan = two_divisions;
  divisions = (division 1 0) ∷ (division 2 0) ∷ [];
  incidents = [];
  calls = [];
  vehicles =
      (vehicle A1 1 1 Support (grid 530100 180000) Offered 5000 None 0 0)
      ∷ (vehicle A2 1 1 Ambulance (grid 530200 180000) Available 2000 None 0 0)
      ∷ (vehicle A3 2 2 Car (grid 531000 180000) OffDuty 0 None 0 0) ∷ [];
  turns = [];
  assignments = [];
  points = [];
  loans = [];
  offers = (offer A1 1 2 1601 2601) ∷ [];
  reports = [];
}

accept_is_handed_accepted_6 : Hands 2
    (at 2143 (Desk 2) (ask.Accept A1)) before_accept_is_handed_accepted_6
    (Some (Accepted (at 2143 (Desk 2) (ask.Accept A1))
    (vehicle A1 1 1 Support (grid 530100 180000) Offered 5000 None 0 0)))
    ((Ok answer.Done) ∷ []) (record before_accept_is_handed_accepted_6 {
      divisions = (division 2 0) ∷ [];
      vehicles =
          (vehicle A1 1 2 Support (grid 530100 180000) Available 5000 None 0 0)
          ∷ (vehicle A3 2 2 Car (grid 531000 180000) OffDuty 0 None 0 0)
          ∷ [];
      loans = (loan A1 1 2 2143 2601 false) ∷ [];
      offers = [];
    })
unfolding machine
accept_is_handed_accepted_6 = (refl, refl, refl, refl)

abbrev before_accept_is_handed_accepted_7 : Room
before_accept_is_handed_accepted_7 = record {
  plan = two_divisions;
  divisions = (division 1 0) ∷ (division 2 0) ∷ [];
  incidents = [];
  calls = [];
  vehicles =
      (vehicle A1 1 1 Ambulance (grid 560100 180000) OffDuty 0 None 0 0)
      ∷ (vehicle A2 1 1 Ambulance (grid 530100 180000) OffDuty 5000 None 0 0)
      ∷ (vehicle A3 1 1 Ambulance (grid 530100 180100) Offered 40000 None 0 0) ∷ [];
  turns = [];
  assignments = [];
  points = [];
  loans = [];
  offers = (offer A3 1 2 39999 40099) ∷ [];
  reports = [];
}

accept_is_handed_accepted_7 : Hands 2
    (at 1042 (Desk 2) (ask.Accept A3)) before_accept_is_handed_accepted_7
    (Some (Accepted (at 1042 (Desk 2) (ask.Accept A3))
    (vehicle A3 1 1 Ambulance (grid 530100 180100) Offered 40000 None 0 0)))
    ((Ok answer.Done) ∷ []) (record before_accept_is_handed_accepted_7 {
      divisions = (division 2 0) ∷ [];
      vehicles =
          (vehicle A3 1 2 Ambulance (grid 530100 180100) Available 40000 None 0 0)
          ∷ [];
      loans = (loan A3 1 2 1042 40099 false) ∷ [];
      offers = [];
    })
unfolding machine
accept_is_handed_accepted_7 = (refl, refl, refl, refl)

abbrev before_accept_is_handed_accepted_8 : Room
before_accept_is_handed_accepted_8 = record {
  plan = two_divisions;
  divisions = (division 1 0) ∷ (division 2 0) ∷ [];
  incidents = [];
  calls = [];
  vehicles =
      (vehicle A1 1 1 Ambulance (grid 560100 180000) OffDuty 0 None 0 0)
      ∷ (vehicle A2 1 1 Ambulance (grid 530120 180160) Offered 2000 None 0 0)
      ∷ (vehicle A3 2 2 Support (grid 530300 180400) OffDuty 0 None 0 0) ∷ [];
  turns = [];
  assignments = [];
  points = [];
  loans = [];
  offers = (offer A2 1 2 1511 1911) ∷ [];
  reports = [];
}

accept_is_handed_accepted_8 : Hands 2
    (at 1697 (Desk 2) (ask.Accept A2)) before_accept_is_handed_accepted_8
    (Some (Accepted (at 1697 (Desk 2) (ask.Accept A2))
    (vehicle A2 1 1 Ambulance (grid 530120 180160) Offered 2000 None 0 0)))
    ((Ok answer.Done) ∷ []) (record before_accept_is_handed_accepted_8 {
      divisions = (division 2 0) ∷ [];
      vehicles =
          (vehicle A2 1 2 Ambulance (grid 530120 180160) Available 2000 None 0 0)
          ∷ (vehicle A3 2 2 Support (grid 530300 180400) OffDuty 0 None 0 0)
          ∷ [];
      loans = (loan A2 1 2 1697 1911 false) ∷ [];
      offers = [];
    })
unfolding machine
accept_is_handed_accepted_8 = (refl, refl, refl, refl)

abbrev before_accept_is_handed_accepted_9 : Room
before_accept_is_handed_accepted_9 = record {
  plan = overlapping_divisions;
  divisions = (division 1 0) ∷ (division 7 0) ∷ [];
  incidents = [];
  calls = [];
  vehicles =
      (vehicle A1 7 7 Support (grid 530200 180000) OffDuty 5000 None 0 0)
      ∷ (vehicle A2 7 7 Ambulance (grid 531000 180000) Offered 2000 None 0 0)
      ∷ (vehicle A3 1 1 Ambulance (grid 530000 180000) OffDuty 0 None 0 0) ∷ [];
  turns = [];
  assignments = [];
  points = [];
  loans = [];
  offers = (offer A2 7 1 1005 1405) ∷ [];
  reports = [];
}

accept_is_handed_accepted_9 : Hands 1
    (at 1307 (Desk 1) (ask.Accept A2)) before_accept_is_handed_accepted_9
    (Some (Accepted (at 1307 (Desk 1) (ask.Accept A2))
    (vehicle A2 7 7 Ambulance (grid 531000 180000) Offered 2000 None 0 0)))
    ((Ok answer.Done) ∷ []) (record before_accept_is_handed_accepted_9 {
      divisions = (division 1 0) ∷ [];
      vehicles =
          (vehicle A2 7 1 Ambulance (grid 531000 180000) Available 2000 None 0 0)
          ∷ (vehicle A3 1 1 Ambulance (grid 530000 180000) OffDuty 0 None 0 0)
          ∷ [];
      loans = (loan A2 7 1 1307 1405 false) ∷ [];
      offers = [];
    })
unfolding machine
accept_is_handed_accepted_9 = (refl, refl, refl, refl)

abbrev before_accept_is_handed_accepted_10 : Room
before_accept_is_handed_accepted_10 = record {
  plan = two_divisions;
  divisions = (division 1 0) ∷ (division 2 0) ∷ [];
  incidents = [];
  calls = [];
  vehicles =
      (vehicle A1 1 1 Car (grid 531000 180000) Available 40000 None 0 0)
      ∷ (vehicle A2 1 1 Support (grid 530300 180400) OffDuty 0 None 0 0)
      ∷ (vehicle A3 1 1 Ambulance (grid 530000 180000) Offered 5000 None 0 0) ∷ [];
  turns = [];
  assignments = [];
  points = [];
  loans = [];
  offers = (offer A3 1 2 1721 2721) ∷ [];
  reports = [];
}

accept_is_handed_accepted_10 : Hands 2
    (at 1721 (Desk 2) (ask.Accept A3)) before_accept_is_handed_accepted_10
    (Some (Accepted (at 1721 (Desk 2) (ask.Accept A3))
    (vehicle A3 1 1 Ambulance (grid 530000 180000) Offered 5000 None 0 0)))
    ((Ok answer.Done) ∷ []) (record before_accept_is_handed_accepted_10 {
      divisions = (division 2 0) ∷ [];
      vehicles =
          (vehicle A3 1 2 Ambulance (grid 530000 180000) Available 5000 None 0 0)
          ∷ [];
      loans = (loan A3 1 2 1721 2721 false) ∷ [];
      offers = [];
    })
unfolding machine
accept_is_handed_accepted_10 = (refl, refl, refl, refl)

abbrev before_accept_is_handed_accepted_11 : Room
before_accept_is_handed_accepted_11 = record {
  plan = two_divisions;
  divisions = (division 1 0) ∷ (division 2 0) ∷ [];
  incidents = [];
  calls = [];
  vehicles =
      (vehicle A1 2 2 Ambulance (grid 530000 180000) Offered 2000 None 0 0)
      ∷ (vehicle A2 1 1 Support (grid 530201 180000) Available 2000 None 0 0)
      ∷ (vehicle A3 1 1 Support (grid 560100 180000) Available 5000 None 0 0) ∷ [];
  turns = [];
  assignments = [];
  points = [];
  loans = [];
  offers = (offer A1 2 1 1035 2035) ∷ [];
  reports = [];
}

accept_is_handed_accepted_11 : Hands 1
    (at 1155 (Desk 1) (ask.Accept A1)) before_accept_is_handed_accepted_11
    (Some (Accepted (at 1155 (Desk 1) (ask.Accept A1))
    (vehicle A1 2 2 Ambulance (grid 530000 180000) Offered 2000 None 0 0)))
    ((Ok answer.Done) ∷ []) (record before_accept_is_handed_accepted_11 {
      divisions = (division 1 0) ∷ [];
      vehicles =
          (vehicle A1 2 1 Ambulance (grid 530000 180000) Available 2000 None 0 0)
          ∷ (vehicle A2 1 1 Support (grid 530201 180000) Available 2000 None 0 0)
          ∷ (vehicle A3 1 1 Support (grid 560100 180000) Available 5000 None 0 0)
          ∷ [];
      loans = (loan A1 2 1 1155 2035 false) ∷ [];
      offers = [];
    })
unfolding machine
accept_is_handed_accepted_11 = (refl, refl, refl, refl)

abbrev before_accept_is_handed_accepted_12 : Room
before_accept_is_handed_accepted_12 = record {
  plan = two_divisions;
  divisions = (division 1 3) ∷ (division 2 0) ∷ [];
  incidents = [];
  calls = [];
  vehicles =
      (vehicle A1 1 1 Ambulance (grid 560100 180000) Available 5000 None 0 0)
      ∷ (vehicle A2 2 2 Ambulance (grid 530200 180000) Available 2000 None 0 0)
      ∷ (vehicle A3 1 1 Ambulance (grid 531000 180000) Offered 41968 None 0 0) ∷ [];
  turns = [];
  assignments = [];
  points = [];
  loans = [];
  offers = (offer A3 1 2 1968 1968) ∷ [];
  reports = [];
}

accept_is_handed_accepted_12 : Hands 2
    (at 1968 (Desk 2) (ask.Accept A3)) before_accept_is_handed_accepted_12
    (Some (Accepted (at 1968 (Desk 2) (ask.Accept A3))
    (vehicle A3 1 1 Ambulance (grid 531000 180000) Offered 41968 None 0 0)))
    ((Ok answer.Done) ∷ []) (record before_accept_is_handed_accepted_12 {
      divisions = (division 2 0) ∷ [];
      vehicles =
          (vehicle A2 2 2 Ambulance (grid 530200 180000) Available 2000 None 0 0)
          ∷ (vehicle A3 1 2 Ambulance (grid 531000 180000) Available 41968 None 0 0)
          ∷ [];
      loans = (loan A3 1 2 1968 1968 false) ∷ [];
      offers = [];
    })
unfolding machine
accept_is_handed_accepted_12 = (refl, refl, refl, refl)

abbrev before_accept_is_handed_accepted_13 : Room
before_accept_is_handed_accepted_13 = record {
  plan = two_divisions;
  divisions = (division 1 3) ∷ (division 2 3) ∷ [];
  incidents = [];
  calls = [];
  vehicles =
      (vehicle A1 2 2 Ambulance (grid 560200 180000) Offered 2000 None 0 0)
      ∷ (vehicle A2 1 1 Ambulance (grid 560200 180000) Available 40000 None 0 0)
      ∷ (vehicle A3 1 1 Support (grid 530201 180000) Available 40000 None 0 0) ∷ [];
  turns = [];
  assignments = [];
  points = [];
  loans = [];
  offers = (offer A1 2 1 1005 2005) ∷ [];
  reports = [];
}

accept_is_handed_accepted_13 : Hands 1
    (at 1428 (Desk 1) (ask.Accept A1)) before_accept_is_handed_accepted_13
    (Some (Accepted (at 1428 (Desk 1) (ask.Accept A1))
    (vehicle A1 2 2 Ambulance (grid 560200 180000) Offered 2000 None 0 0)))
    ((Ok answer.Done) ∷ []) (record before_accept_is_handed_accepted_13 {
      divisions = (division 1 3) ∷ [];
      vehicles =
          (vehicle A1 2 1 Ambulance (grid 560200 180000) Available 2000 None 0 0)
          ∷ (vehicle A2 1 1 Ambulance (grid 560200 180000) Available 40000 None 0 0)
          ∷ (vehicle A3 1 1 Support (grid 530201 180000) Available 40000 None 0 0)
          ∷ [];
      loans = (loan A1 2 1 1428 2005 false) ∷ [];
      offers = [];
    })
unfolding machine
accept_is_handed_accepted_13 = (refl, refl, refl, refl)

abbrev before_accept_is_handed_accepted_14 : Room
before_accept_is_handed_accepted_14 = record {
  plan = two_divisions;
  divisions = (division 1 0) ∷ (division 2 0) ∷ [];
  incidents = [];
  calls = [];
  vehicles =
      (vehicle A1 1 1 Support (grid 531000 180000) OffDuty 0 None 0 0)
      ∷ (vehicle A2 1 1 Ambulance (grid 530000 180000) Offered 5000 None 0 0)
      ∷ (vehicle A3 2 2 Ambulance (grid 530200 180000) OffDuty 0 None 0 0) ∷ [];
  turns = [];
  assignments = [];
  points = [];
  loans = [];
  offers = (offer A2 1 2 1041 2041) ∷ [];
  reports = [];
}

accept_is_handed_accepted_14 : Hands 2
    (at 1071 (Desk 2) (ask.Accept A2)) before_accept_is_handed_accepted_14
    (Some (Accepted (at 1071 (Desk 2) (ask.Accept A2))
    (vehicle A2 1 1 Ambulance (grid 530000 180000) Offered 5000 None 0 0)))
    ((Ok answer.Done) ∷ []) (record before_accept_is_handed_accepted_14 {
      divisions = (division 2 0) ∷ [];
      vehicles =
          (vehicle A2 1 2 Ambulance (grid 530000 180000) Available 5000 None 0 0)
          ∷ (vehicle A3 2 2 Ambulance (grid 530200 180000) OffDuty 0 None 0 0)
          ∷ [];
      loans = (loan A2 1 2 1071 2041 false) ∷ [];
      offers = [];
    })
unfolding machine
accept_is_handed_accepted_14 = (refl, refl, refl, refl)

abbrev before_report_is_handed_arrive : Room
before_report_is_handed_arrive = record {
  plan = two_divisions;
  divisions = (division 1 0) ∷ (division 2 0) ∷ [];
  incidents = [];
  calls = [];
  vehicles =
      (vehicle A1 1 2 Ambulance (grid 530000 180000) Available 40000 None 0 0)
      ∷ (vehicle A2 1 1 Ambulance (grid 531000 180000) Available 5000 None 0 0)
      ∷ (vehicle A3 1 1 Car (grid 530000 180000) Available 5849 None 2147483647 0) ∷ [];
  turns = [];
  assignments = [];
  points = [];
  loans = (loan A1 1 2 40000 1101 false) ∷ [];
  offers = [];
  reports = [];
}

report_is_handed_arrive : Hands 1
    (at 2330 (Crew A1) (ask.Report (pressed 1 button.Home 0 (grid 530300 180400))))
    before_report_is_handed_arrive (Some
    (Arrive (vehicle A1 1 1 Ambulance (grid 530300 180400) Available 40000 None 0 1))) []
    (record before_report_is_handed_arrive {
      divisions = (division 1 0) ∷ [];
      vehicles =
          (vehicle A1 1 1 Ambulance (grid 530300 180400) Available 40000 None 0 1)
          ∷ (vehicle A2 1 1 Ambulance (grid 531000 180000) Available 5000 None 0 0)
          ∷ (vehicle A3 1 1 Car (grid 530000 180000) Available 5849 None 2147483647 0)
          ∷ [];
      loans = [];
    })
unfolding machine
report_is_handed_arrive = (refl, refl, refl, refl)

abbrev before_report_is_handed_arrive_2 : Room
before_report_is_handed_arrive_2 = record {
  plan = two_divisions;
  divisions = (division 1 0) ∷ (division 2 0) ∷ [];
  incidents = [];
  calls = [];
  vehicles =
      (vehicle A1 1 2 Ambulance (grid 560000 180000) Available 40000 None 0 1)
      ∷ (vehicle A2 1 1 Ambulance (grid 530201 180000) Available 40000 None 0 0) ∷ [];
  turns = [];
  assignments = [];
  points = [];
  loans = (loan A1 1 2 1193 1292 false) ∷ [];
  offers = [];
  reports = (report A1 1 button.Scene 0 (grid 530200 180000) 1011 1 Wrong Available true) ∷ [];
}

report_is_handed_arrive_2 : Hands 1
    (at 1494 (Crew A1) (ask.Report (pressed 2 button.Home 0 (grid 530100 180100))))
    before_report_is_handed_arrive_2 (Some
    (Arrive (vehicle A1 1 1 Ambulance (grid 530100 180100) Available 40000 None 0 2))) []
    (record before_report_is_handed_arrive_2 {
      divisions = (division 1 0) ∷ [];
      vehicles =
          (vehicle A1 1 1 Ambulance (grid 530100 180100) Available 40000 None 0 2)
          ∷ (vehicle A2 1 1 Ambulance (grid 530201 180000) Available 40000 None 0 0)
          ∷ [];
      loans = [];
    })
unfolding machine
report_is_handed_arrive_2 = (refl, refl, refl, refl)

abbrev before_report_is_handed_arrive_3 : Room
before_report_is_handed_arrive_3 = record {
  plan = overlapping_divisions;
  divisions = (division 1 2147483647) ∷ (division 7 2147483646) ∷ [];
  incidents = [];
  calls = [];
  vehicles =
      (vehicle A1 7 7 Ambulance (grid 530201 180000) Available 40000 None 0 1)
      ∷ (vehicle A2 1 1 Car (grid 560100 180000) OffDuty 0 None 0 0)
      ∷ (vehicle A3 1 7 Ambulance (grid 560000 180000) Available 40000 None 0 0) ∷ [];
  turns = [];
  assignments = [];
  points = [];
  loans = (loan A3 1 7 40001 1061 false) ∷ [];
  offers = [];
  reports = (report A1 1 button.Home 0 (grid 530201 180000) 1242 7 Normal Available false) ∷ [];
}

report_is_handed_arrive_3 : Hands 1
    (at 1222 (Crew A3) (ask.Report (pressed 2 button.Home 0 (grid 530100 180100))))
    before_report_is_handed_arrive_3 (Some
    (Arrive (vehicle A3 1 1 Ambulance (grid 530100 180100) Available 40000 None 0 2))) []
    (record before_report_is_handed_arrive_3 {
      divisions = (division 1 2147483647)
          ∷ [];
      vehicles = (vehicle A2 1 1 Car (grid 560100 180000) OffDuty 0 None 0 0)
          ∷ (vehicle A3 1 1 Ambulance (grid 530100 180100) Available 40000 None 0 2)
          ∷ [];
      loans = [];
      reports = [];
    })
unfolding machine
report_is_handed_arrive_3 = (refl, refl, refl, refl)

abbrev before_report_is_handed_arrive_4 : Room
before_report_is_handed_arrive_4 = record {
  plan = two_divisions;
  divisions = (division 1 0) ∷ (division 2 0) ∷ [];
  incidents = [];
  calls = [];
  vehicles =
      (vehicle A1 1 2 Support (grid 530100 180000) Available 5000 None 0 1)
      ∷ (vehicle A2 1 1 Ambulance (grid 530200 180000) Available 2000 None 0 0)
      ∷ (vehicle A3 2 2 Car (grid 531000 180000) OffDuty 0 None 0 2) ∷ [];
  turns = [];
  assignments = [];
  points = [];
  loans = (loan A1 1 2 2143 2601 false) ∷ [];
  offers = [];
  reports =
      (report A1 1 button.Hospital 0 (grid 530201 180000) 2925 2 Wrong Available false)
      ∷ (report A3 2 button.Home 0 (grid 530100 180000) 2986 2 Wrong OffDuty false) ∷ [];
}

report_is_handed_arrive_4 : Hands 1
    (at 3141 (Crew A1) (ask.Report (pressed 3 button.Home 0 (grid 530100 180100))))
    before_report_is_handed_arrive_4 (Some
    (Arrive (vehicle A1 1 1 Support (grid 530100 180100) Available 5000 None 0 3))) []
    (record before_report_is_handed_arrive_4 {
      divisions = (division 1 0) ∷ [];
      vehicles =
          (vehicle A1 1 1 Support (grid 530100 180100) Available 5000 None 0 3)
          ∷ (vehicle A2 1 1 Ambulance (grid 530200 180000) Available 2000 None 0 0)
          ∷ [];
      loans = [];
      reports = [];
    })
unfolding machine
report_is_handed_arrive_4 = (refl, refl, refl, refl)

abbrev before_report_is_handed_arrive_5 : Room
before_report_is_handed_arrive_5 = record {
  plan = overlapping_divisions;
  divisions = (division 1 3) ∷ (division 7 0) ∷ [];
  incidents = [];
  calls = [];
  vehicles =
      (vehicle A1 1 1 Car (grid 530201 180000) OffDuty 0 None 0 1)
      ∷ (vehicle A2 7 7 Car (grid 530120 180160) OffDuty 5000 None 0 0)
      ∷ (vehicle A3 7 1 Ambulance (grid 530100 180000) Available 5000 None 0 1) ∷ [];
  turns = [];
  assignments = [];
  points = [];
  loans = (loan A3 7 1 1150 1030 true) ∷ [];
  offers = [];
  reports =
      (report A1 1 button.Leave 0 (grid 530200 180000) 1212 1 Wrong OffDuty true)
      ∷ (report A3 1 button.Scene 0 (grid 531000 180000) 1523 1 Wrong Available false) ∷ [];
}

report_is_handed_arrive_5 : Hands 7
    (at 1553 (Crew A3) (ask.Report (pressed 2 button.Home 0 (grid 531000 180000))))
    before_report_is_handed_arrive_5 (Some
    (Arrive (vehicle A3 7 7 Ambulance (grid 531000 180000) Available 5000 None 0 2))) []
    (record before_report_is_handed_arrive_5 {
      divisions = (division 7 0) ∷ [];
      vehicles =
          (vehicle A2 7 7 Car (grid 530120 180160) OffDuty 5000 None 0 0)
          ∷ (vehicle A3 7 7 Ambulance (grid 531000 180000) Available 5000 None 0 2)
          ∷ [];
      loans = [];
      reports = [];
    })
unfolding machine
report_is_handed_arrive_5 = (refl, refl, refl, refl)

abbrev before_report_is_handed_arrive_6 : Room
before_report_is_handed_arrive_6 = record {
  plan = two_divisions;
  divisions = (division 1 3) ∷ (division 2 0) ∷ [];
  incidents = [];
  calls = [];
  vehicles =
      (vehicle A1 2 2 Ambulance (grid 560100 180000) Offered 40000 None 0 0)
      ∷ (vehicle A2 2 1 Ambulance (grid 560200 180000) Available 40000 None 0 3) ∷ [];
  turns = [];
  assignments = [];
  points = [];
  loans = (loan A2 2 1 39999 1041 false) ∷ [];
  offers = (offer A1 2 1 1960 1960) ∷ [];
  reports =
      (report A2 1 button.Hospital 0 (grid 530300 180400) 980 2 Wrong Available false)
      ∷ (report A2 3 button.Return 0 (grid 530300 180400) 1955 2 Wrong Offered false) ∷ [];
}

report_is_handed_arrive_6 : Hands 2
    (at 2262 (Crew A2) (ask.Report (pressed 5 button.Home 0 (grid 530000 180000))))
    before_report_is_handed_arrive_6 (Some
    (Arrive (vehicle A2 2 2 Ambulance (grid 530000 180000) Available 40000 None 0 5))) []
    (record before_report_is_handed_arrive_6 {
      divisions = (division 2 0) ∷ [];
      vehicles =
          (vehicle A1 2 2 Ambulance (grid 560100 180000) Offered 40000 None 0 0)
          ∷ (vehicle A2 2 2 Ambulance (grid 530000 180000) Available 40000 None 0 5)
          ∷ [];
      loans = [];
    })
unfolding machine
report_is_handed_arrive_6 = (refl, refl, refl, refl)

abbrev before_report_is_handed_arrive_7 : Room
before_report_is_handed_arrive_7 = record {
  plan = two_divisions;
  divisions = (division 1 2147483647) ∷ (division 2 2147483646) ∷ [];
  incidents = [];
  calls = [];
  vehicles =
      (vehicle A1 2 2 Ambulance (grid 560100 180000) Available 2000 None 0 3)
      ∷ (vehicle A2 2 1 Car (grid 530100 180000) Available 40000 None 0 2) ∷ [];
  turns = [];
  assignments = [];
  points = [];
  loans = (loan A2 2 1 2374 2093 true) ∷ [];
  offers = [];
  reports =
      (report A1 2 button.Leave 0 (grid 530000 180000) 2088 2 Wrong Available false)
      ∷ (report A1 3 button.Return 0 (grid 530120 180160) 2394 2 Wrong Available false)
      ∷ (report A2 2 button.Home 0 (grid 530100 180000) 1001 2 Normal Available false) ∷ [];
}

report_is_handed_arrive_7 : Hands 2
    (at 2795 (Crew A2) (ask.Report (pressed 4 button.Home 0 (grid 530000 180000))))
    before_report_is_handed_arrive_7 (Some
    (Arrive (vehicle A2 2 2 Car (grid 530000 180000) Available 40000 None 0 4))) []
    (record before_report_is_handed_arrive_7 {
      divisions = (division 2 2147483646)
          ∷ [];
      vehicles = (vehicle A1 2 2 Ambulance
          (grid 560100 180000) Available 2000 None 0 3)
          ∷ (vehicle A2 2 2 Car (grid 530000 180000) Available 40000 None 0 4)
          ∷ [];
      loans = [];
    })
unfolding machine
report_is_handed_arrive_7 = (refl, refl, refl, refl)

abbrev before_report_is_handed_arrive_8 : Room
before_report_is_handed_arrive_8 = record {
  plan = two_divisions;
  divisions = (division 1 1) ∷ (division 2 0) ∷ [];
  incidents = (incident 1 1 (grid 530120 180160) 2 (needs 1 1 0) 1311 None Active) ∷ [];
  calls = (call 2 3 1 1 1 false (grid 530120 180160) 2 (needs 1 1 0) [] 1311) ∷ [];
  vehicles =
      (vehicle A1 2 1 Ambulance (grid 530200 180000) Available 40000 None 0 0)
      ∷ (vehicle A2 2 1 Ambulance (grid 530201 180000) Available 2000 None 0 1) ∷ [];
  turns = [];
  assignments = [];
  points = [];
  loans = (loan A1 2 1 1402 1530 false) ∷ (loan A2 2 1 1130 1520 false) ∷ [];
  offers = [];
  reports = (report A2 1 button.Leave 0 (grid 530000 180000) 1100 2 Wrong Offered false) ∷ [];
}

report_is_handed_arrive_8 : Hands 2
    (at 1531 (Crew A1) (ask.Report (pressed 1 button.Home 0 (grid 530000 180000))))
    before_report_is_handed_arrive_8 (Some
    (Arrive (vehicle A1 2 2 Ambulance (grid 530000 180000) Available 40000 None 0 1))) []
    (record before_report_is_handed_arrive_8 {
      divisions = (division 2 0) ∷ [];
      incidents = [];
      calls = [];
      vehicles =
          (vehicle A1 2 2 Ambulance (grid 530000 180000) Available 40000 None 0 1)
          ∷ [];
      loans = (loan A2 2 1 1130 1520 false) ∷ [];
    })
unfolding machine
report_is_handed_arrive_8 = (refl, refl, refl, refl)

abbrev before_report_is_handed_arrive_9 : Room
before_report_is_handed_arrive_9 = record {
  plan = two_divisions;
  divisions = (division 1 0) ∷ (division 2 0) ∷ [];
  incidents = [];
  calls = [];
  vehicles =
      (vehicle A1 2 2 Support (grid 530100 180000) Available 40000 None 0 1)
      ∷ (vehicle A2 2 2 Ambulance (grid 530100 180000) Available 5000 None 0 0)
      ∷ (vehicle A3 1 2 Ambulance (grid 531000 180000) Available 5000 None 0 0)
      ∷ (vehicle B1 2 2 Ambulance (grid 530200 180000) Available 5000 None 0 1) ∷ [];
  turns = [];
  assignments = [];
  points = [];
  loans = (loan A3 1 2 5000 2098 false) ∷ [];
  offers = [];
  reports =
      (report A1 1 button.Leave 0 (grid 530300 180400) 1787 2 Wrong Available false)
      ∷ (report B1 1 button.Mobile 0 (grid 530300 180400) 1907 2 Wrong Available false) ∷ [];
}

report_is_handed_arrive_9 : Hands 1
    (at 2240 (Crew A3) (ask.Report (pressed 1 button.Home 0 (grid 530201 180000))))
    before_report_is_handed_arrive_9 (Some
    (Arrive (vehicle A3 1 1 Ambulance (grid 530201 180000) Available 5000 None 0 1))) []
    (record before_report_is_handed_arrive_9 {
      divisions = (division 1 0) ∷ [];
      vehicles =
          (vehicle A3 1 1 Ambulance (grid 530201 180000) Available 5000 None 0 1)
          ∷ [];
      loans = [];
      reports = [];
    })
unfolding machine
report_is_handed_arrive_9 = (refl, refl, refl, refl)

abbrev before_report_is_handed_arrive_10 : Room
before_report_is_handed_arrive_10 = record {
  plan = two_divisions;
  divisions = (division 1 2147483646) ∷ (division 2 2147483647) ∷ [];
  incidents = [];
  calls = [];
  vehicles =
      (vehicle A1 2 1 Support (grid 560000 180000) Available 5000 None 0 0)
      ∷ (vehicle A2 2 2 Ambulance (grid 560200 180000) Available 2000 None 0 2)
      ∷ (vehicle A3 2 2 Ambulance (grid 530100 180100) OffDuty 0 None 0 1) ∷ [];
  turns = [];
  assignments = [];
  points = [];
  loans = (loan A1 2 1 4999 1707 false) ∷ [];
  offers = [];
  reports =
      (report A2 1 button.Scene 0 (grid 530120 180160) 1602 2 Wrong Available false)
      ∷ (report A2 2 button.Hospital 0 (grid 530120 180160) 1637 2 Wrong Available false)
      ∷ (report A3 1 button.Hospital 0 (grid 530300 180400) 1000 2 Wrong OffDuty true) ∷ [];
}

report_is_handed_arrive_10 : Hands 2
    (at 1708 (Crew A1) (ask.Report (pressed 1 button.Home 0 (grid 530000 180000))))
    before_report_is_handed_arrive_10
    (Some (Arrive (vehicle A1 2 2 Support (grid 530000 180000) Available 5000 None 0 1))) []
    (record before_report_is_handed_arrive_10 {
      divisions = (division 2 2147483647)
          ∷ [];
      vehicles = (vehicle A1 2 2 Support (grid 530000 180000) Available 5000 None 0 1)
          ∷ (vehicle A2 2 2 Ambulance (grid 560200 180000) Available 2000 None 0 2)
          ∷ (vehicle A3 2 2 Ambulance (grid 530100 180100) OffDuty 0 None 0 1) ∷ [];
      loans = [];
    })
unfolding machine
report_is_handed_arrive_10 = (refl, refl, refl, refl)

abbrev before_report_is_handed_arrive_11 : Room
before_report_is_handed_arrive_11 = record {
  plan = two_divisions;
  divisions = (division 1 1) ∷ (division 2 0) ∷ [];
  incidents = (incident 1 1 (grid 530201 180000) 1 (needs 1 1 0) 1716 None Active) ∷ [];
  calls = (call 2 2 1 1 1 false (grid 530201 180000) 1 (needs 1 1 0) [] 1716) ∷ [];
  vehicles =
      (vehicle A1 1 1 Ambulance (grid 530120 180160) Available 40000 None 0 0)
      ∷ (vehicle A2 1 1 Car (grid 560200 180000) OffDuty 0 None 0 1)
      ∷ (vehicle A3 2 1 Support (grid 530100 180100) Available 2000 None 0 1) ∷ [];
  turns = [];
  assignments = [];
  points = [];
  loans = (loan A3 2 1 1715 1611 false) ∷ [];
  offers = [];
  reports =
      (report A2 1 button.Return 0 (grid 530201 180000) 1533 1 Wrong OffDuty false)
      ∷ (report A3 1 button.Leave 0 (grid 530200 180000) 1000 2 Wrong Available true) ∷ [];
}

report_is_handed_arrive_11 : Hands 2
    (at 1778 (Crew A3) (ask.Report (pressed 2 button.Home 0 (grid 530120 180160))))
    before_report_is_handed_arrive_11
    (Some (Arrive (vehicle A3 2 2 Support (grid 530120 180160) Available 2000 None 0 2))) []
    (record before_report_is_handed_arrive_11 {
      divisions = (division 2 0) ∷ [];
      incidents = [];
      calls = [];
      vehicles =
          (vehicle A3 2 2 Support (grid 530120 180160) Available 2000 None 0 2)
          ∷ [];
      loans = [];
      reports = (report A3 1 button.Leave 0
          (grid 530200 180000) 1000 2 Wrong Available true) ∷ [];
    })
unfolding machine
report_is_handed_arrive_11 = (refl, refl, refl, refl)

abbrev before_report_is_handed_arrive_12 : Room
before_report_is_handed_arrive_12 = record {
  plan = two_divisions;
  divisions = (division 1 2147483647) ∷ (division 2 2147483646) ∷ [];
  incidents = [];
  calls = [];
  vehicles =
      (vehicle A1 2 2 Ambulance (grid 530200 180000) Available 2610 None 0 1)
      ∷ (vehicle A2 2 1 Support (grid 530300 180400) Available 5000 (Some 2) 0 2)
      ∷ (vehicle A3 2 2 Support (grid 530100 180100) Available 5000 None 0 1) ∷ [];
  turns = [];
  assignments = [];
  points = (point 1 2 (grid 530000 180000) 2) ∷ [];
  loans = (loan A2 2 1 1492 1372 false) ∷ [];
  offers = [];
  reports =
      (report A1 1 button.Leave 0 (grid 530200 180000) 1005 2 Wrong OffDuty false)
      ∷ (report A2 2 button.Return 0 (grid 530120 180160) 1372 1 Wrong Available false)
      ∷ (report A3 1 button.Position 0 (grid 530100 180100) 2109 2 Normal Available false) ∷ [];
}

report_is_handed_arrive_12 : Hands 2
    (at 3163 (Crew A2) (ask.Report (pressed 3 button.Home 0 (grid 530100 180000))))
    before_report_is_handed_arrive_12
    (Some (Arrive (vehicle A2 2 2 Support (grid 530100 180000) Available 5000 None 0 3))) []
    (record before_report_is_handed_arrive_12 {
      divisions = (division 2 2147483646)
          ∷ [];
      vehicles = (vehicle A1 2 2 Ambulance
          (grid 530200 180000) Available 2610 None 0 1)
          ∷ (vehicle A2 2 2 Support (grid 530100 180000) Available 5000 None 0 3)
          ∷ (vehicle A3 2 2 Support (grid 530100 180100) Available 5000 None 0 1)
          ∷ [];
      points = [];
      loans = [];
      reports =
          (report A1 1 button.Leave 0 (grid 530200 180000) 1005 2 Wrong OffDuty false)
          ∷ (report A3 1 button.Position 0 (grid 530100 180100) 2109 2 Normal Available
          false) ∷ [];
    })
unfolding machine
report_is_handed_arrive_12 = (refl, refl, refl, refl)

abbrev before_report_is_handed_arrive_13 : Room
before_report_is_handed_arrive_13 = record {
  plan = overlapping_divisions;
  divisions = (division 1 0) ∷ (division 7 0) ∷ [];
  incidents = [];
  calls = [];
  vehicles =
      (vehicle A1 1 7 Car (grid 530100 180100) Available 2000 None 0 2)
      ∷ (vehicle A2 7 7 Support (grid 530000 180000) Available 5000 None 0 1)
      ∷ (vehicle A3 1 1 Ambulance (grid 560000 180000) OffDuty 0 None 0 2) ∷ [];
  turns = [];
  assignments = [];
  points = [];
  loans = (loan A1 1 7 1066 2005 false) ∷ [];
  offers = [];
  reports =
      (report A1 1 button.Leave 0 (grid 530000 180000) 1248 7 Wrong Available false)
      ∷ (report A1 2 button.Leave 0 (grid 530000 180000) 2005 7 Wrong Available false)
      ∷ (report A2 1 button.Mobile 0 (grid 530300 180400) 1339 7 Wrong Available false)
      ∷ (report A3 2 button.Leave 0 (grid 530200 180000) 1247 1 Wrong OffDuty false) ∷ [];
}

report_is_handed_arrive_13 : Hands 1
    (at 2006 (Crew A1) (ask.Report (pressed 4 button.Home 0 (grid 530120 180160))))
    before_report_is_handed_arrive_13
    (Some (Arrive (vehicle A1 1 1 Car (grid 530120 180160) Available 2000 None 0 4))) []
    (record before_report_is_handed_arrive_13 {
      divisions = (division 1 0) ∷ [];
      vehicles =
          (vehicle A1 1 1 Car (grid 530120 180160) Available 2000 None 0 4)
          ∷ (vehicle A3 1 1 Ambulance (grid 560000 180000) OffDuty 0 None 0 2)
          ∷ [];
      loans = [];
      reports = (report A3 2 button.Leave 0
          (grid 530200 180000) 1247 1 Wrong OffDuty false) ∷ [];
    })
unfolding machine
report_is_handed_arrive_13 = (refl, refl, refl, refl)

abbrev before_report_is_handed_arrive_14 : Room
before_report_is_handed_arrive_14 = record {
  plan = two_divisions;
  divisions = (division 1 3) ∷ (division 2 1) ∷ [];
  incidents = (incident 2 1 (grid 560000 180000) 1 (needs 1 0 0) 1306 None Active) ∷ [];
  calls = (call 2 6 2 1 1 false (grid 560000 180000) 1 (needs 1 0 0) [] 1306) ∷ [];
  vehicles =
      (vehicle A1 1 1 Car (grid 530200 180000) Available 5000 None 0 0)
      ∷ (vehicle A2 2 1 Ambulance (grid 530100 180100) Available 5000 None 0 0)
      ∷ (vehicle A3 2 2 Support (grid 530000 180000) OffDuty 0 None 0 0)
      ∷ (vehicle B1 2 2 Support (grid 560000 180000) Available 5000 None 0 0)
      ∷ (vehicle B2 1 1 Ambulance (grid 560200 180000) Available 40000 None 0 0) ∷ [];
  turns = [];
  assignments = [];
  points = [];
  loans = (loan A2 2 1 2273 1400 false) ∷ [];
  offers = [];
  reports = [];
}

report_is_handed_arrive_14 : Hands 2
    (at 2283 (Crew A2) (ask.Report (pressed 1 button.Home 0 (grid 530300 180400))))
    before_report_is_handed_arrive_14
    (Some (Arrive (vehicle A2 2 2 Ambulance (grid 530300 180400) Available 5000 None 0 1))) []
    (record before_report_is_handed_arrive_14 {
      divisions = (division 2 1) ∷ [];
      vehicles =
          (vehicle A2 2 2 Ambulance (grid 530300 180400) Available 5000 None 0 1)
          ∷ (vehicle A3 2 2 Support (grid 530000 180000) OffDuty 0 None 0 0)
          ∷ (vehicle B1 2 2 Support (grid 560000 180000) Available 5000 None 0 0)
          ∷ [];
      loans = [];
    })
unfolding machine
report_is_handed_arrive_14 = (refl, refl, refl, refl)

abbrev before_give_back_is_handed_arrive : Room
before_give_back_is_handed_arrive = record {
  plan = two_divisions;
  divisions = (division 1 3) ∷ (division 2 3) ∷ [];
  incidents = [];
  calls = [];
  vehicles =
      (vehicle A1 2 1 Ambulance (grid 530120 180160) Available 2000 None 0 0)
      ∷ (vehicle A2 2 2 Ambulance (grid 531000 180000) Available 2208 None 0 1) ∷ [];
  turns = [];
  assignments = [];
  points = [];
  loans = (loan A1 2 1 1341 2099 false) ∷ [];
  offers = [];
  reports = (report A2 1 button.Scene 0 (grid 530300 180400) 1522 2 Wrong OffDuty false) ∷ [];
}

give_back_is_handed_arrive : Hands 2
    (at 1709 (Desk 1) (ask.GiveBack A1)) before_give_back_is_handed_arrive
    (Some (Arrive (vehicle A1 2 2 Ambulance (grid 530120 180160) Available 2000 None 0 0))) []
    (record before_give_back_is_handed_arrive {
      divisions = (division 2 3) ∷ [];
      vehicles =
          (vehicle A1 2 2 Ambulance (grid 530120 180160) Available 2000 None 0 0)
          ∷ (vehicle A2 2 2 Ambulance (grid 531000 180000) Available 2208 None 0 1)
          ∷ [];
      loans = [];
    })
unfolding machine
give_back_is_handed_arrive = (refl, refl, refl, refl)

abbrev before_give_back_is_handed_arrive_2 : Room
before_give_back_is_handed_arrive_2 = record {
  plan = two_divisions;
  divisions = (division 1 0) ∷ (division 2 0) ∷ [];
  incidents = [];
  calls = [];
  vehicles =
      (vehicle A1 2 2 Car (grid 560000 180000) Available 2000 None 0 0)
      ∷ (vehicle A2 1 1 Car (grid 530200 180000) Available 2000 None 0 1)
      ∷ (vehicle A3 2 1 Car (grid 531000 180000) Available 5000 None 0 0) ∷ [];
  turns = [];
  assignments = [];
  points = [];
  loans = (loan A3 2 1 2000 1000 false) ∷ [];
  offers = [];
  reports = (report A2 1 button.Mobile 0 (grid 530000 180000) 1061 1 Wrong Available false) ∷ [];
}

give_back_is_handed_arrive_2 : Hands 2
    (at 1423 (Desk 1) (ask.GiveBack A3)) before_give_back_is_handed_arrive_2
    (Some (Arrive (vehicle A3 2 2 Car (grid 531000 180000) Available 5000 None 0 0))) []
    (record before_give_back_is_handed_arrive_2 {
      divisions = (division 2 0) ∷ [];
      vehicles =
          (vehicle A1 2 2 Car (grid 560000 180000) Available 2000 None 0 0)
          ∷ (vehicle A3 2 2 Car (grid 531000 180000) Available 5000 None 0 0)
          ∷ [];
      loans = [];
      reports = [];
    })
unfolding machine
give_back_is_handed_arrive_2 = (refl, refl, refl, refl)

abbrev before_give_back_is_handed_arrive_3 : Room
before_give_back_is_handed_arrive_3 = record {
  plan = two_divisions;
  divisions = (division 1 1) ∷ (division 2 0) ∷ [];
  incidents = (incident 1 1 (grid 530201 180000) 2 (needs 2 1 1) 2889 None Active) ∷ [];
  calls = (call 1 6 1 1 1 false (grid 530201 180000) 2 (needs 2 1 1) (codes "x") 2889) ∷ [];
  vehicles =
      (vehicle A1 2 1 Support (grid 530120 180160) Available 2000 None 0 0)
      ∷ (vehicle A2 2 2 Ambulance (grid 530120 180160) OffDuty 41135 None 0 0) ∷ [];
  turns = [];
  assignments = [];
  points = [];
  loans = (loan A1 2 1 1999 2646 false) ∷ [];
  offers = [];
  reports = [];
}

give_back_is_handed_arrive_3 : Hands 2
    (at 2869 (Desk 1) (ask.GiveBack A1)) before_give_back_is_handed_arrive_3
    (Some (Arrive (vehicle A1 2 2 Support (grid 530120 180160) Available 2000 None 0 0))) []
    (record before_give_back_is_handed_arrive_3 {
      divisions = (division 2 0) ∷ [];
      incidents = [];
      calls = [];
      vehicles =
          (vehicle A1 2 2 Support (grid 530120 180160) Available 2000 None 0 0)
          ∷ (vehicle A2 2 2 Ambulance (grid 530120 180160) OffDuty 41135 None 0 0)
          ∷ [];
      loans = [];
    })
unfolding machine
give_back_is_handed_arrive_3 = (refl, refl, refl, refl)

abbrev before_give_back_is_handed_arrive_4 : Room
before_give_back_is_handed_arrive_4 = record {
  plan = two_divisions;
  divisions = (division 1 1) ∷ (division 2 0) ∷ [];
  incidents = (incident 1 1 (grid 530120 180160) 2 (needs 0 0 1) 1782 None Active) ∷ [];
  calls = (call 2 5 1 1 1 false (grid 530120 180160) 2 (needs 0 0 1) (codes "x") 1782) ∷ [];
  vehicles =
      (vehicle A1 1 1 Ambulance (grid 530201 180000) Available 2000 None 0 0)
      ∷ (vehicle A2 2 2 Ambulance (grid 530201 180000) OffDuty 0 None 0 0)
      ∷ (vehicle A3 1 2 Ambulance (grid 530200 180000) Available 5000 None 0 0) ∷ [];
  turns = [];
  assignments = [];
  points = [];
  loans = (loan A3 1 2 2063 2099 false) ∷ [];
  offers = [];
  reports = [];
}

give_back_is_handed_arrive_4 : Hands 1
    (at 2093 (Desk 2) (ask.GiveBack A3)) before_give_back_is_handed_arrive_4
    (Some (Arrive (vehicle A3 1 1 Ambulance (grid 530200 180000) Available 5000 None 0 0))) []
    (record before_give_back_is_handed_arrive_4 {
      divisions = (division 1 1) ∷ [];
      vehicles =
          (vehicle A1 1 1 Ambulance (grid 530201 180000) Available 2000 None 0 0)
          ∷ (vehicle A3 1 1 Ambulance (grid 530200 180000) Available 5000 None 0 0)
          ∷ [];
      loans = [];
    })
unfolding machine
give_back_is_handed_arrive_4 = (refl, refl, refl, refl)

abbrev before_give_back_is_handed_arrive_5 : Room
before_give_back_is_handed_arrive_5 = record {
  plan = two_divisions;
  divisions = (division 1 3) ∷ (division 2 0) ∷ [];
  incidents = [];
  calls = [];
  vehicles =
      (vehicle A1 1 2 Support (grid 530300 180400) Available 2000 None 0 1)
      ∷ (vehicle A2 2 2 Ambulance (grid 560200 180000) OffDuty 5000 None 0 1) ∷ [];
  turns = [];
  assignments = [];
  points = (point 2 1 (grid 530120 180160) 0) ∷ [];
  loans = (loan A1 1 2 1963 1782 false) ∷ [];
  offers = [];
  reports =
      (report A1 1 button.Home 0 (grid 530300 180400) 1120 1 Normal Available false)
      ∷ (report A2 1 button.Scene 0 (grid 530200 180000) 2083 2 Wrong OffDuty false) ∷ [];
}

give_back_is_handed_arrive_5 : Hands 1
    (at 2204 (Desk 2) (ask.GiveBack A1)) before_give_back_is_handed_arrive_5
    (Some (Arrive (vehicle A1 1 1 Support (grid 530300 180400) Available 2000 None 0 1))) []
    (record before_give_back_is_handed_arrive_5 {
      divisions = (division 1 3) ∷ [];
      vehicles =
          (vehicle A1 1 1 Support (grid 530300 180400) Available 2000 None 0 1)
          ∷ [];
      points = [];
      loans = [];
      reports =
          (report A1 1 button.Home 0 (grid 530300 180400) 1120 1 Normal Available false) ∷ [];
    })
unfolding machine
give_back_is_handed_arrive_5 = (refl, refl, refl, refl)

abbrev before_give_back_is_handed_arrive_6 : Room
before_give_back_is_handed_arrive_6 = record {
  plan = two_divisions;
  divisions = (division 1 1) ∷ (division 2 0) ∷ [];
  incidents = (incident 1 1 (grid 530000 180000) 1 (needs 2 0 0) 1186 None Active) ∷ [];
  calls = (call 1 6 1 1 1 false (grid 530000 180000) 1 (needs 2 0 0) (codes "x") 1186) ∷ [];
  vehicles =
      (vehicle A1 1 2 Ambulance (grid 530201 180000) OffDuty 5000 None 0 0)
      ∷ (vehicle A2 1 1 Support (grid 530300 180400) OffDuty 0 None 0 2) ∷ [];
  turns = [];
  assignments = [];
  points = [];
  loans = (loan A1 1 2 1187 1286 false) ∷ [];
  offers = [];
  reports = (report A2 2 button.Hospital 0 (grid 530100 180000) 1120 1 Wrong OffDuty true) ∷ [];
}

give_back_is_handed_arrive_6 : Hands 1
    (at 1493 (Desk 2) (ask.GiveBack A1)) before_give_back_is_handed_arrive_6
    (Some (Arrive (vehicle A1 1 1 Ambulance (grid 530201 180000) OffDuty 5000 None 0 0))) []
    (record before_give_back_is_handed_arrive_6 {
      divisions = (division 1 1) ∷ [];
      vehicles =
          (vehicle A1 1 1 Ambulance (grid 530201 180000) OffDuty 5000 None 0 0)
          ∷ (vehicle A2 1 1 Support (grid 530300 180400) OffDuty 0 None 0 2) ∷ [];
      loans = [];
    })
unfolding machine
give_back_is_handed_arrive_6 = (refl, refl, refl, refl)

abbrev before_give_back_is_handed_arrive_7 : Room
before_give_back_is_handed_arrive_7 = record {
  plan = overlapping_divisions;
  divisions = (division 1 1) ∷ (division 7 0) ∷ [];
  incidents = (incident 1 1 (grid 531000 180000) 2 (needs 0 1 0) 2574 None Active) ∷ [];
  calls = (call 1 5 1 1 1 false (grid 531000 180000) 2 (needs 0 1 0) [] 2574) ∷ [];
  vehicles =
      (vehicle A1 1 7 Car (grid 530100 180000) Available 5000 None 0 0)
      ∷ (vehicle A2 1 1 Car (grid 530120 180160) Available 40000 None 0 3) ∷ [];
  turns = [];
  assignments = [];
  points = [];
  loans = (loan A1 1 7 2635 1561 false) ∷ [];
  offers = [];
  reports =
      (report A2 2 button.Hospital 0 (grid 530300 180400) 980 1 Wrong Available false)
      ∷ (report A2 3 button.Home 0 (grid 530120 180160) 1972 1 Normal Available false) ∷ [];
}

give_back_is_handed_arrive_7 : Hands 1
    (at 2760 (Desk 7) (ask.GiveBack A1)) before_give_back_is_handed_arrive_7
    (Some (Arrive (vehicle A1 1 1 Car (grid 530100 180000) Available 5000 None 0 0))) []
    (record before_give_back_is_handed_arrive_7 {
      divisions = (division 1 1) ∷ [];
      vehicles =
          (vehicle A1 1 1 Car (grid 530100 180000) Available 5000 None 0 0)
          ∷ (vehicle A2 1 1 Car (grid 530120 180160) Available 40000 None 0 3) ∷ [];
      loans = [];
    })
unfolding machine
give_back_is_handed_arrive_7 = (refl, refl, refl, refl)

abbrev before_give_back_is_handed_arrive_8 : Room
before_give_back_is_handed_arrive_8 = record {
  plan = two_divisions;
  divisions = (division 1 2147483647) ∷ (division 2 2147483647) ∷ [];
  incidents = [];
  calls = [];
  vehicles =
      (vehicle A1 2 2 Ambulance (grid 560200 180000) OffDuty 0 None 0 0)
      ∷ (vehicle A2 1 2 Car (grid 530000 180000) Available 5000 None 0 0)
      ∷ (vehicle A3 1 1 Ambulance (grid 530100 180000) Offered 5000 None 0 0)
      ∷ (vehicle B1 1 1 Ambulance (grid 530300 180400) Available 40000 None 0 0)
      ∷ (vehicle B2 1 1 Ambulance (grid 530120 180160) Available 2000 None 2147483647 0) ∷ [];
  turns = [];
  assignments = [];
  points = [];
  loans = (loan A2 1 2 40000 2578 false) ∷ [];
  offers = (offer A3 1 2 4999 4999) ∷ [];
  reports = [];
}

give_back_is_handed_arrive_8 : Hands 1
    (at 1940 (Desk 2) (ask.GiveBack A2)) before_give_back_is_handed_arrive_8
    (Some (Arrive (vehicle A2 1 1 Car (grid 530000 180000) Available 5000 None 0 0))) []
    (record before_give_back_is_handed_arrive_8 {
      divisions = (division 1 2147483647)
          ∷ [];
      vehicles = (vehicle A2 1 1 Car (grid 530000 180000) Available 5000 None 0 0)
          ∷ (vehicle A3 1 1 Ambulance (grid 530100 180000) Offered 5000 None 0 0)
          ∷ (vehicle B1 1 1 Ambulance (grid 530300 180400) Available 40000 None 0 0)
          ∷ (vehicle B2 1 1 Ambulance (grid 530120 180160) Available 2000 None 2147483647 0)
          ∷ [];
      loans = [];
    })
unfolding machine
give_back_is_handed_arrive_8 = (refl, refl, refl, refl)

abbrev before_give_back_is_handed_arrive_9 : Room
before_give_back_is_handed_arrive_9 = record {
  plan = two_divisions;
  divisions = (division 1 2147483647) ∷ (division 2 2147483647) ∷ [];
  incidents = [];
  calls = [];
  vehicles =
      (vehicle A1 2 1 Ambulance (grid 530000 180000) Available 1962 None 0 2)
      ∷ (vehicle A2 1 1 Ambulance (grid 530201 180000) OffDuty 0 None 0 0)
      ∷ (vehicle A3 2 2 Car (grid 530200 180000) Available 5000 None 0 1) ∷ [];
  turns = [];
  assignments = [];
  points = [];
  loans = (loan A1 2 1 1788 1623 true) ∷ [];
  offers = [];
  reports =
      (report A1 1 button.Scene 0 (grid 530000 180000) 1442 2 Wrong Available true)
      ∷ (report A1 2 button.Leave 0 (grid 530120 180160) 1623 2 Wrong Available false)
      ∷ (report A3 1 button.Hospital 0 (grid 530120 180160) 1482 2 Wrong Available false) ∷ [];
}

give_back_is_handed_arrive_9 : Hands 2
    (at 2677 (Desk 1) (ask.GiveBack A1)) before_give_back_is_handed_arrive_9
    (Some (Arrive (vehicle A1 2 2 Ambulance (grid 530000 180000) Available 1962 None 0 2))) []
    (record before_give_back_is_handed_arrive_9 {
      divisions = (division 2 2147483647)
          ∷ [];
      vehicles = (vehicle A1 2 2 Ambulance
          (grid 530000 180000) Available 1962 None 0 2)
          ∷ (vehicle A3 2 2 Car (grid 530200 180000) Available 5000 None 0 1)
          ∷ [];
      loans = [];
    })
unfolding machine
give_back_is_handed_arrive_9 = (refl, refl, refl, refl)

abbrev before_give_back_is_handed_arrive_10 : Room
before_give_back_is_handed_arrive_10 = record {
  plan = two_divisions;
  divisions = (division 1 1) ∷ (division 2 0) ∷ [];
  incidents = (incident 1 1 (grid 530300 180400) 2 (needs 2 1 1) 2243 None Active) ∷ [];
  calls = (call 1 1 1 1 1 false (grid 530300 180400) 2 (needs 2 1 1) (codes "x") 2243) ∷ [];
  vehicles =
      (vehicle A1 1 1 Car (grid 531000 180000) Available 40000 None 0 0)
      ∷ (vehicle A2 1 1 Support (grid 530300 180400) OffDuty 0 None 0 0)
      ∷ (vehicle A3 1 2 Ambulance (grid 530000 180000) OffDuty 5000 None 0 1) ∷ [];
  turns = [];
  assignments = [];
  points = [];
  loans = (loan A3 1 2 1721 2721 false) ∷ [];
  offers = [];
  reports = (report A3 1 button.Mobile 0 (grid 530100 180100) 1842 2 Wrong Available false) ∷ [];
}

give_back_is_handed_arrive_10 : Hands 1
    (at 2274 (Desk 2) (ask.GiveBack A3)) before_give_back_is_handed_arrive_10
    (Some (Arrive (vehicle A3 1 1 Ambulance (grid 530000 180000) OffDuty 5000 None 0 1))) []
    (record before_give_back_is_handed_arrive_10 {
      divisions = (division 1 1) ∷ [];
      vehicles =
          (vehicle A1 1 1 Car (grid 531000 180000) Available 40000 None 0 0)
          ∷ (vehicle A2 1 1 Support (grid 530300 180400) OffDuty 0 None 0 0)
          ∷ (vehicle A3 1 1 Ambulance (grid 530000 180000) OffDuty 5000 None 0 1)
          ∷ [];
      loans = [];
      reports = [];
    })
unfolding machine
give_back_is_handed_arrive_10 = (refl, refl, refl, refl)

abbrev before_give_back_is_handed_arrive_11 : Room
before_give_back_is_handed_arrive_11 = record {
  plan = two_divisions;
  divisions = (division 1 2147483647) ∷ (division 2 2147483647) ∷ [];
  incidents = [];
  calls = [];
  vehicles =
      (vehicle A1 1 1 Support (grid 560100 180000) OffDuty 0 None 0 0)
      ∷ (vehicle A2 1 2 Support (grid 530100 180100) Available 40000 None 0 0)
      ∷ (vehicle A3 1 1 Support (grid 530100 180000) OffDuty 0 None 0 1)
      ∷ (vehicle B1 1 1 Ambulance (grid 530201 180000) Available 42455 None 0 1) ∷ [];
  turns = [];
  assignments = [];
  points = (point 1 2 (grid 530300 180400) 0) ∷ [];
  loans = (loan A2 1 2 1662 1181 false) ∷ [];
  offers = [];
  reports =
      (report A3 1 button.Scene 0 (grid 531000 180000) 2269 1 Wrong OffDuty false)
      ∷ (report B1 1 button.Leave 0 (grid 530000 180000) 1181 1 Wrong OffDuty false) ∷ [];
}

give_back_is_handed_arrive_11 : Hands 1
    (at 2941 (Desk 2) (ask.GiveBack A2)) before_give_back_is_handed_arrive_11
    (Some (Arrive (vehicle A2 1 1 Support (grid 530100 180100) Available 40000 None 0 0))) []
    (record before_give_back_is_handed_arrive_11 {
      divisions = (division 1 2147483647)
          ∷ [];
      vehicles = (vehicle A1 1 1 Support (grid 560100 180000) OffDuty 0 None 0 0)
          ∷ (vehicle A2 1 1 Support (grid 530100 180100) Available 40000 None 0 0)
          ∷ (vehicle A3 1 1 Support (grid 530100 180000) OffDuty 0 None 0 1)
          ∷ (vehicle B1 1 1 Ambulance (grid 530201 180000) Available 42455 None 0 1)
          ∷ [];
      loans = [];
    })
unfolding machine
give_back_is_handed_arrive_11 = (refl, refl, refl, refl)

abbrev before_give_back_is_handed_arrive_12 : Room
before_give_back_is_handed_arrive_12 = record {
  plan = two_divisions;
  divisions = (division 1 0) ∷ (division 2 0) ∷ [];
  incidents = [];
  calls = [];
  vehicles =
      (vehicle A1 2 2 Ambulance (grid 530120 180160) Available 1423 None 2147483647 2)
      ∷ (vehicle A2 1 2 Car (grid 530100 180000) Available 2000 None 0 0)
      ∷ (vehicle A3 1 1 Ambulance (grid 530000 180000) Available 40000 None 0 1) ∷ [];
  turns = [];
  assignments = [];
  points = (point 1 2 (grid 530200 180000) 0) ∷ [];
  loans = (loan A2 1 2 2176 2814 false) ∷ [];
  offers = [];
  reports =
      (report A1 1 button.Return 0 (grid 530120 180160) 1001 2 Stale Available false)
      ∷ (report A1 2 button.Position 2147483647 (grid 530120 180160) 1875 2 Normal Available false)
      ∷ (report A3 1 button.Scene 0 (grid 530100 180000) 1452 1 Wrong Available false) ∷ [];
}

give_back_is_handed_arrive_12 : Hands 1
    (at 2157 (Desk 2) (ask.GiveBack A2)) before_give_back_is_handed_arrive_12
    (Some (Arrive (vehicle A2 1 1 Car (grid 530100 180000) Available 2000 None 0 0))) []
    (record before_give_back_is_handed_arrive_12 {
      divisions = (division 1 0) ∷ [];
      vehicles =
          (vehicle A2 1 1 Car (grid 530100 180000) Available 2000 None 0 0)
          ∷ (vehicle A3 1 1 Ambulance (grid 530000 180000) Available 40000 None 0 1)
          ∷ [];
      loans = [];
      reports = (report A3 1 button.Scene 0
          (grid 530100 180000) 1452 1 Wrong Available false) ∷ [];
    })
unfolding machine
give_back_is_handed_arrive_12 = (refl, refl, refl, refl)

abbrev before_give_back_is_handed_arrive_13 : Room
before_give_back_is_handed_arrive_13 = record {
  plan = overlapping_divisions;
  divisions = (division 1 1) ∷ (division 7 3) ∷ [];
  incidents = (incident 1 1 (grid 530300 180400) 1 (needs 2 0 0) 1390 None Active) ∷ [];
  calls = (call 2 3 1 1 1 false (grid 530300 180400) 1 (needs 2 0 0) (codes "x") 1390) ∷ [];
  vehicles =
      (vehicle A1 7 1 Ambulance (grid 560100 180000) Available 40000 None 0 4)
      ∷ (vehicle A2 7 7 Ambulance (grid 530120 180160) Available 5000 None 0 1) ∷ [];
  turns = [];
  assignments = [];
  points = [];
  loans = (loan A1 7 1 1511 1250 false) ∷ [];
  offers = [];
  reports =
      (report A1 2 button.Scene 0 (grid 531000 180000) 1270 7 Wrong Offered false)
      ∷ (report A1 4 button.Scene 0 (grid 530300 180400) 1420 7 Wrong Offered false)
      ∷ (report A2 1 button.Position 0 (grid 530120 180160) 1120 7 Normal Available false) ∷ [];
}

give_back_is_handed_arrive_13 : Hands 7
    (at 2053 (Desk 1) (ask.GiveBack A1)) before_give_back_is_handed_arrive_13
    (Some (Arrive (vehicle A1 7 7 Ambulance (grid 560100 180000) Available 40000 None 0 4))) []
    (record before_give_back_is_handed_arrive_13 {
      divisions = (division 7 3) ∷ [];
      incidents = [];
      calls = [];
      vehicles =
          (vehicle A1 7 7 Ambulance (grid 560100 180000) Available 40000 None 0 4)
          ∷ (vehicle A2 7 7 Ambulance (grid 530120 180160) Available 5000 None 0 1)
          ∷ [];
      loans = [];
    })
unfolding machine
give_back_is_handed_arrive_13 = (refl, refl, refl, refl)

abbrev before_give_back_is_handed_arrive_14 : Room
before_give_back_is_handed_arrive_14 = record {
  plan = two_divisions;
  divisions = (division 1 1) ∷ (division 2 0) ∷ [];
  incidents = (incident 1 1 (grid 530120 180160) 3 (needs 0 0 1) 2117 None Active) ∷ [];
  calls = (call 1 4 1 1 1 false (grid 530120 180160) 3 (needs 0 0 1) [] 2117) ∷ [];
  vehicles =
      (vehicle A1 1 1 Ambulance (grid 530200 180000) Available 5000 None 0 1)
      ∷ (vehicle A2 2 1 Car (grid 530300 180400) Available 40000 None 0 2) ∷ [];
  turns = [];
  assignments = [];
  points = (point 1 1 (grid 530120 180160) 0) ∷ [];
  loans = (loan A2 2 1 1904 5399 false) ∷ [];
  offers = [];
  reports =
      (report A1 1 button.Scene 0 (grid 531000 180000) 1603 1 Wrong Available false)
      ∷ (report A2 1 button.Position 0 (grid 530300 180400) 1512 2 Normal Offered false)
      ∷ (report A2 2 button.Return 0 (grid 530100 180000) 2418 1 Wrong Available false) ∷ [];
}

give_back_is_handed_arrive_14 : Hands 2
    (at 2418 (Desk 1) (ask.GiveBack A2)) before_give_back_is_handed_arrive_14
    (Some (Arrive (vehicle A2 2 2 Car (grid 530300 180400) Available 40000 None 0 2))) []
    (record before_give_back_is_handed_arrive_14 {
      divisions = (division 2 0) ∷ [];
      incidents = [];
      calls = [];
      vehicles =
          (vehicle A2 2 2 Car (grid 530300 180400) Available 40000 None 0 2)
          ∷ [];
      points = [];
      loans = [];
      reports =
          (report A2 1 button.Position 0 (grid 530300 180400) 1512 2 Normal Offered false) ∷ [];
    })
unfolding machine
give_back_is_handed_arrive_14 = (refl, refl, refl, refl)

abbrev before_accept_is_handed_asked : Room
before_accept_is_handed_asked = record {
  plan = two_divisions;
  divisions = (division 1 3) ∷ (division 2 3) ∷ [];
  incidents = [];
  calls = [];
  vehicles =
      (vehicle A1 2 2 Ambulance (grid 531000 180000) Available 2000 None 0 0)
      ∷ (vehicle A2 1 1 Ambulance (grid 530100 180000) OffDuty 0 None 0 0) ∷ [];
  turns = [];
  assignments = [];
  points = [];
  loans = [];
  offers = [];
  reports = [];
}

accept_is_handed_asked : Hands 1 (at 1062 (Desk 1) (ask.Accept A2)) before_accept_is_handed_asked
    (Some (Asked (at 1062 (Desk 1) (ask.Accept A2)))) ((Err refusal.NoSuchOffer) ∷ [])
    (record before_accept_is_handed_asked {
      divisions = (division 1 3) ∷ [];
      vehicles =
          (vehicle A2 1 1 Ambulance (grid 530100 180000) OffDuty 0 None 0 0) ∷ [];
    })
unfolding machine
accept_is_handed_asked = (refl, refl, refl, refl)

abbrev before_accept_is_handed_asked_2 : Room
before_accept_is_handed_asked_2 = record {
  plan = two_divisions;
  divisions = (division 1 3) ∷ (division 2 3) ∷ [];
  incidents = [];
  calls = [];
  vehicles =
      (vehicle A1 1 1 Ambulance (grid 530201 180000) Available 2000 None 0 0)
      ∷ (vehicle A2 1 1 Car (grid 530120 180160) Available 40000 None 0 0) ∷ [];
  turns = [];
  assignments = [];
  points = [];
  loans = [];
  offers = [];
  reports = [];
}

accept_is_handed_asked_2 : Hands 2
    (at 1181 (Desk 2) (ask.Accept A1)) before_accept_is_handed_asked_2
    (Some (Asked (at 1181 (Desk 2) (ask.Accept A1)))) ((Err refusal.NoSuchOffer) ∷ [])
    (record before_accept_is_handed_asked_2 { divisions = (division 2 3) ∷ []; vehicles = [] })
unfolding machine
accept_is_handed_asked_2 = (refl, refl, refl, refl)

abbrev before_clear_is_handed_asked : Room
before_clear_is_handed_asked = record {
  plan = overlapping_divisions;
  divisions = (division 1 0) ∷ (division 7 0) ∷ [];
  incidents = [];
  calls = [];
  vehicles =
      (vehicle A1 1 1 Ambulance (grid 530100 180100) Available 5000 None 0 0)
      ∷ (vehicle A2 1 1 Car (grid 560100 180000) Available 5000 None 0 0) ∷ [];
  turns = [];
  assignments = [];
  points = [];
  loans = [];
  offers = [];
  reports = [];
}

clear_is_handed_asked : Hands 7 (at 1061 (Desk 7) (ask.Clear A1 1)) before_clear_is_handed_asked
    (Some (Asked (at 1061 (Desk 7) (ask.Clear A1 1)))) ((Err refusal.NoSuchException) ∷ [])
    (record before_clear_is_handed_asked { divisions = (division 7 0) ∷ []; vehicles = [] })
unfolding machine
clear_is_handed_asked = (refl, refl, refl, refl)

abbrev before_clear_is_handed_asked_2 : Room
before_clear_is_handed_asked_2 = record {
  plan = two_divisions;
  divisions = (division 1 3) ∷ (division 2 0) ∷ [];
  incidents = [];
  calls = [];
  vehicles =
      (vehicle A1 2 2 Support (grid 530300 180400) OffDuty 0 None 0 0)
      ∷ (vehicle A2 2 2 Ambulance (grid 530200 180000) Available 2000 None 0 0) ∷ [];
  turns = [];
  assignments = [];
  points = [];
  loans = [];
  offers = [];
  reports = [];
}

clear_is_handed_asked_2 : Hands 1
    (at 1061 (Desk 1) (ask.Clear A1 2)) before_clear_is_handed_asked_2
    (Some (Asked (at 1061 (Desk 1) (ask.Clear A1 2)))) ((Err refusal.NoSuchException) ∷ [])
    (record before_clear_is_handed_asked_2 { divisions = (division 1 3) ∷ []; vehicles = [] })
unfolding machine
clear_is_handed_asked_2 = (refl, refl, refl, refl)

abbrev before_close_is_handed_asked : Room
before_close_is_handed_asked = record {
  plan = two_divisions;
  divisions = (division 1 2147483646) ∷ (division 2 2147483646) ∷ [];
  incidents = [];
  calls = [];
  vehicles =
      (vehicle A1 2 2 Ambulance (grid 560100 180000) OffDuty 0 None 0 0)
      ∷ (vehicle A2 2 2 Ambulance (grid 531000 180000) OffDuty 0 None 0 0) ∷ [];
  turns = [];
  assignments = [];
  points = [];
  loans = [];
  offers = [];
  reports = [];
}

close_is_handed_asked : Hands 2 (at 1211 (Desk 2) (ask.Close 9)) before_close_is_handed_asked
    (Some (Asked (at 1211 (Desk 2) (ask.Close 9)))) ((Err refusal.NoSuchIncident) ∷ [])
    (record before_close_is_handed_asked { divisions = (division 2 2147483646) ∷ [] })
unfolding machine
close_is_handed_asked = (refl, refl, refl, refl)

abbrev before_close_is_handed_asked_2 : Room
before_close_is_handed_asked_2 = record {
  plan = two_divisions;
  divisions = (division 1 3) ∷ (division 2 3) ∷ [];
  incidents = [];
  calls = [];
  vehicles =
      (vehicle A1 2 2 Ambulance (grid 530300 180400) OffDuty 0 None 0 0)
      ∷ (vehicle A2 2 2 Ambulance (grid 530200 180000) OffDuty 0 None 0 0)
      ∷ (vehicle A3 1 1 Ambulance (grid 530100 180000) Available 2000 None 0 0) ∷ [];
  turns = [];
  assignments = [];
  points = [];
  loans = [];
  offers = [];
  reports = [];
}

close_is_handed_asked_2 : Hands 1 (at 1030 (Desk 1) (ask.Close 1)) before_close_is_handed_asked_2
    (Some (Asked (at 1030 (Desk 1) (ask.Close 1)))) ((Err refusal.NoSuchIncident) ∷ [])
    (record before_close_is_handed_asked_2 {
      divisions = (division 1 3) ∷ [];
      vehicles =
          (vehicle A3 1 1 Ambulance (grid 530100 180000) Available 2000 None 0 0) ∷ [];
    })
unfolding machine
close_is_handed_asked_2 = (refl, refl, refl, refl)

abbrev before_decline_is_handed_asked : Room
before_decline_is_handed_asked = record {
  plan = two_divisions;
  divisions = (division 1 0) ∷ (division 2 0) ∷ [];
  incidents = [];
  calls = [];
  vehicles =
      (vehicle A1 2 2 Support (grid 560200 180000) OffDuty 0 None 0 0)
      ∷ (vehicle A2 2 2 Car (grid 530201 180000) OffDuty 0 None 0 0) ∷ [];
  turns = [];
  assignments = [];
  points = [];
  loans = [];
  offers = [];
  reports = [];
}

decline_is_handed_asked : Hands 2
    (at 1005 (Desk 2) (ask.Decline A2)) before_decline_is_handed_asked
    (Some (Asked (at 1005 (Desk 2) (ask.Decline A2)))) ((Err refusal.NoSuchOffer) ∷ [])
    (record before_decline_is_handed_asked { divisions = (division 2 0) ∷ [] })
unfolding machine
decline_is_handed_asked = (refl, refl, refl, refl)

abbrev before_decline_is_handed_asked_2 : Room
before_decline_is_handed_asked_2 = record {
  plan = two_divisions;
  divisions = (division 1 0) ∷ (division 2 0) ∷ [];
  incidents = [];
  calls = [];
  vehicles =
      (vehicle A1 2 2 Car (grid 560200 180000) Available 40000 None 0 0)
      ∷ (vehicle A2 2 2 Car (grid 560100 180000) Available 5000 None 0 0)
      ∷ (vehicle A3 2 2 Ambulance (grid 530300 180400) Available 40000 None 0 0) ∷ [];
  turns = [];
  assignments = [];
  points = [];
  loans = [];
  offers = [];
  reports = [];
}

decline_is_handed_asked_2 : Hands 2
    (at 1302 (Desk 2) (ask.Decline A2)) before_decline_is_handed_asked_2
    (Some (Asked (at 1302 (Desk 2) (ask.Decline A2)))) ((Err refusal.NoSuchOffer) ∷ [])
    (record before_decline_is_handed_asked_2 { divisions = (division 2 0) ∷ [] })
unfolding machine
decline_is_handed_asked_2 = (refl, refl, refl, refl)

abbrev before_duty_is_handed_asked : Room
before_duty_is_handed_asked = record {
  plan = overlapping_divisions;
  divisions = (division 1 0) ∷ (division 7 0) ∷ [];
  incidents = [];
  calls = [];
  vehicles =
      (vehicle A1 7 7 Support (grid 530300 180400) OffDuty 0 None 0 0)
      ∷ (vehicle A2 1 1 Ambulance (grid 560100 180000) Available 5000 None 0 0) ∷ [];
  turns = [];
  assignments = [];
  points = [];
  loans = [];
  offers = [];
  reports = [];
}

duty_is_handed_asked : Hands 7 (at 1005 (Desk 7) (ask.Duty Z9 (grid 530201 180000) 41005))
    before_duty_is_handed_asked (Some
    (Asked (at 1005 (Desk 7) (ask.Duty Z9 (grid 530201 180000) 41005))))
    ((Err refusal.NoSuchVehicle) ∷ [])
    (record before_duty_is_handed_asked {
      divisions = (division 7 0) ∷ [];
      vehicles =
          (vehicle A1 7 7 Support (grid 530300 180400) OffDuty 0 None 0 0) ∷ [];
    })
unfolding machine
duty_is_handed_asked = (refl, refl, refl, refl)

abbrev before_duty_is_handed_asked_2 : Room
before_duty_is_handed_asked_2 = record {
  plan = two_divisions;
  divisions = (division 1 2147483646) ∷ (division 2 2147483646) ∷ [];
  incidents = [];
  calls = [];
  vehicles =
      (vehicle A1 1 1 Ambulance (grid 531000 180000) Available 40000 None 0 0)
      ∷ (vehicle A2 1 1 Support (grid 530300 180400) OffDuty 0 None 0 0) ∷ [];
  turns = [];
  assignments = [];
  points = [];
  loans = [];
  offers = [];
  reports = [];
}

duty_is_handed_asked_2 : Hands 2 (at 1362 (Desk 2) (ask.Duty A1 (grid 530300 180400) 41362))
    before_duty_is_handed_asked_2 (Some
    (Asked (at 1362 (Desk 2) (ask.Duty A1 (grid 530300 180400) 41362))))
    ((Err refusal.NoSuchVehicle) ∷ [])
    (record before_duty_is_handed_asked_2
    { divisions = (division 2 2147483646) ∷ []; vehicles = [] })
unfolding machine
duty_is_handed_asked_2 = (refl, refl, refl, refl)

abbrev before_give_back_is_handed_asked : Room
before_give_back_is_handed_asked = record {
  plan = two_divisions;
  divisions = (division 1 2147483647) ∷ (division 2 2147483647) ∷ [];
  incidents = [];
  calls = [];
  vehicles =
      (vehicle A1 1 1 Ambulance (grid 530000 180000) Available 40000 None 0 0)
      ∷ (vehicle A2 1 1 Ambulance (grid 531000 180000) Available 40000 None 0 0) ∷ [];
  turns = [];
  assignments = [];
  points = [];
  loans = [];
  offers = [];
  reports = [];
}

give_back_is_handed_asked : Hands 1
    (at 1301 (Desk 1) (ask.GiveBack A1)) before_give_back_is_handed_asked
    (Some (Asked (at 1301 (Desk 1) (ask.GiveBack A1)))) ((Err refusal.NoSuchLoan) ∷ [])
    (record before_give_back_is_handed_asked { divisions = (division 1 2147483647) ∷ [] })
unfolding machine
give_back_is_handed_asked = (refl, refl, refl, refl)

abbrev before_give_back_is_handed_asked_2 : Room
before_give_back_is_handed_asked_2 = record {
  plan = two_divisions;
  divisions = (division 1 0) ∷ (division 2 0) ∷ [];
  incidents = [];
  calls = [];
  vehicles =
      (vehicle A1 1 1 Ambulance (grid 530300 180400) OffDuty 0 None 0 0)
      ∷ (vehicle A2 2 2 Car (grid 530120 180160) Available 2000 None 0 0) ∷ [];
  turns = [];
  assignments = [];
  points = [];
  loans = [];
  offers = [];
  reports = [];
}

give_back_is_handed_asked_2 : Hands 1
    (at 1001 (Desk 1) (ask.GiveBack Z9)) before_give_back_is_handed_asked_2
    (Some (Asked (at 1001 (Desk 1) (ask.GiveBack Z9)))) ((Err refusal.NoSuchVehicle) ∷ [])
    (record before_give_back_is_handed_asked_2 {
      divisions = (division 1 0) ∷ [];
      vehicles =
          (vehicle A1 1 1 Ambulance (grid 530300 180400) OffDuty 0 None 0 0) ∷ [];
    })
unfolding machine
give_back_is_handed_asked_2 = (refl, refl, refl, refl)

abbrev before_incidents_is_handed_asked : Room
before_incidents_is_handed_asked = record {
  plan = two_divisions;
  divisions = (division 1 0) ∷ (division 2 0) ∷ [];
  incidents = [];
  calls = [];
  vehicles =
      (vehicle A1 1 1 Ambulance (grid 530100 180000) OffDuty 0 None 0 0)
      ∷ (vehicle A2 2 2 Ambulance (grid 530201 180000) OffDuty 0 None 0 0) ∷ [];
  turns = [];
  assignments = [];
  points = [];
  loans = [];
  offers = [];
  reports = [];
}

incidents_is_handed_asked : Hands 1
    (at 1001 (Desk 1) ask.Incidents) before_incidents_is_handed_asked
    (Some (Asked (at 1001 (Desk 1) ask.Incidents))) ((Ok (answer.Incidents ([]))) ∷ [])
    (record before_incidents_is_handed_asked {
      divisions = (division 1 0) ∷ [];
      vehicles =
          (vehicle A1 1 1 Ambulance (grid 530100 180000) OffDuty 0 None 0 0) ∷ [];
    })
unfolding machine
incidents_is_handed_asked = (refl, refl, refl, refl)

abbrev before_incidents_is_handed_asked_2 : Room
before_incidents_is_handed_asked_2 = record {
  plan = two_divisions;
  divisions = (division 1 0) ∷ (division 2 0) ∷ [];
  incidents = [];
  calls = [];
  vehicles =
      (vehicle A1 1 1 Support (grid 560000 180000) OffDuty 0 None 0 0)
      ∷ (vehicle A2 2 2 Car (grid 530120 180160) Available 2000 None 0 0) ∷ [];
  turns = [];
  assignments = [];
  points = [];
  loans = [];
  offers = [];
  reports = [];
}

incidents_is_handed_asked_2 : Hands 1
    (at 1301 (Desk 1) ask.Incidents) before_incidents_is_handed_asked_2
    (Some (Asked (at 1301 (Desk 1) ask.Incidents))) ((Ok (answer.Incidents ([]))) ∷ [])
    (record before_incidents_is_handed_asked_2 {
      divisions = (division 1 0) ∷ [];
      vehicles =
          (vehicle A1 1 1 Support (grid 560000 180000) OffDuty 0 None 0 0) ∷ [];
    })
unfolding machine
incidents_is_handed_asked_2 = (refl, refl, refl, refl)

abbrev before_lend_is_handed_asked : Room
before_lend_is_handed_asked = record {
  plan = two_divisions;
  divisions = (division 1 0) ∷ (division 2 0) ∷ [];
  incidents = [];
  calls = [];
  vehicles =
      (vehicle A1 2 2 Ambulance (grid 530000 180000) OffDuty 0 None 2147483647 0)
      ∷ (vehicle A2 1 1 Ambulance (grid 530201 180000) Available 2000 None 0 0) ∷ [];
  turns = [];
  assignments = [];
  points = [];
  loans = [];
  offers = [];
  reports = [];
}

lend_is_handed_asked : Hands 1 (at 1181 (Desk 1) (ask.Lend A2 9 2181)) before_lend_is_handed_asked
    (Some (Asked (at 1181 (Desk 1) (ask.Lend A2 9 2181)))) ((Err refusal.NoSuchDivision) ∷ [])
    (record before_lend_is_handed_asked {
      divisions = (division 1 0) ∷ [];
      vehicles =
          (vehicle A2 1 1 Ambulance (grid 530201 180000) Available 2000 None 0 0) ∷ [];
    })
unfolding machine
lend_is_handed_asked = (refl, refl, refl, refl)

abbrev before_lend_is_handed_asked_2 : Room
before_lend_is_handed_asked_2 = record {
  plan = overlapping_divisions;
  divisions = (division 1 3) ∷ (division 7 0) ∷ [];
  incidents = [];
  calls = [];
  vehicles =
      (vehicle A1 1 1 Ambulance (grid 530300 180400) OffDuty 0 None 0 1)
      ∷ (vehicle A2 1 1 Ambulance (grid 530201 180000) OffDuty 0 None 0 0) ∷ [];
  turns = [];
  assignments = [];
  points = [];
  loans = [];
  offers = [];
  reports = (report A1 1 button.Return 0 (grid 530300 180400) 1155 1 Wrong OffDuty false) ∷ [];
}

lend_is_handed_asked_2 : Hands 7 (at 1817 (Desk 7) (ask.Lend A1 7 2217))
    before_lend_is_handed_asked_2 (Some (Asked (at 1817 (Desk 7) (ask.Lend A1 7 2217))))
    ((Err refusal.NoSuchVehicle) ∷ [])
    (record before_lend_is_handed_asked_2
    { divisions = (division 7 0) ∷ []; vehicles = []; reports = [] })
unfolding machine
lend_is_handed_asked_2 = (refl, refl, refl, refl)

abbrev before_loans_is_handed_asked : Room
before_loans_is_handed_asked = record {
  plan = overlapping_divisions;
  divisions = (division 1 3) ∷ (division 7 0) ∷ [];
  incidents = [];
  calls = [];
  vehicles =
      (vehicle A1 1 1 Ambulance (grid 560200 180000) OffDuty 0 None 0 0)
      ∷ (vehicle A2 7 7 Car (grid 560000 180000) Available 2000 None 0 0) ∷ [];
  turns = [];
  assignments = [];
  points = [];
  loans = [];
  offers = [];
  reports = [];
}

loans_is_handed_asked : Hands 7 (at 1482 (Desk 7) ask.Loans) before_loans_is_handed_asked
    (Some (Asked (at 1482 (Desk 7) ask.Loans))) ((Ok (answer.Loans ([]))) ∷ [])
    (record before_loans_is_handed_asked {
      divisions = (division 7 0) ∷ [];
      vehicles =
          (vehicle A2 7 7 Car (grid 560000 180000) Available 2000 None 0 0) ∷ [];
    })
unfolding machine
loans_is_handed_asked = (refl, refl, refl, refl)

abbrev before_loans_is_handed_asked_2 : Room
before_loans_is_handed_asked_2 = record {
  plan = overlapping_divisions;
  divisions = (division 1 0) ∷ (division 7 0) ∷ [];
  incidents = [];
  calls = [];
  vehicles =
      (vehicle A1 7 7 Ambulance (grid 530201 180000) OffDuty 0 None 0 0)
      ∷ (vehicle A2 1 1 Car (grid 530200 180000) OffDuty 0 None 0 0) ∷ [];
  turns = [];
  assignments = [];
  points = [];
  loans = [];
  offers = [];
  reports = [];
}

loans_is_handed_asked_2 : Hands 7 (at 1001 (Desk 7) ask.Loans) before_loans_is_handed_asked_2
    (Some (Asked (at 1001 (Desk 7) ask.Loans))) ((Ok (answer.Loans ([]))) ∷ [])
    (record before_loans_is_handed_asked_2 {
      divisions = (division 7 0) ∷ [];
      vehicles =
          (vehicle A1 7 7 Ambulance (grid 530201 180000) OffDuty 0 None 0 0) ∷ [];
    })
unfolding machine
loans_is_handed_asked_2 = (refl, refl, refl, refl)

abbrev before_merge_is_handed_asked : Room
before_merge_is_handed_asked = record {
  plan = two_divisions;
  divisions = (division 1 3) ∷ (division 2 3) ∷ [];
  incidents = [];
  calls = [];
  vehicles =
      (vehicle A1 2 2 Ambulance (grid 531000 180000) Available 2000 None 0 0)
      ∷ (vehicle A2 1 1 Ambulance (grid 530100 180000) OffDuty 0 None 0 0) ∷ [];
  turns = [];
  assignments = [];
  points = [];
  loans = [];
  offers = [];
  reports = [];
}

merge_is_handed_asked : Hands 1 (at 1061 (Desk 1) (ask.Merge 1 9)) before_merge_is_handed_asked
    (Some (Asked (at 1061 (Desk 1) (ask.Merge 1 9)))) ((Err refusal.NoSuchIncident) ∷ [])
    (record before_merge_is_handed_asked {
      divisions = (division 1 3) ∷ [];
      vehicles =
          (vehicle A2 1 1 Ambulance (grid 530100 180000) OffDuty 0 None 0 0) ∷ [];
    })
unfolding machine
merge_is_handed_asked = (refl, refl, refl, refl)

abbrev before_merge_is_handed_asked_2 : Room
before_merge_is_handed_asked_2 = record {
  plan = two_divisions;
  divisions = (division 1 4) ∷ (division 2 0) ∷ [];
  incidents = (incident 1 4 (grid 530300 180400) 1 (needs 1 0 0) 1066 None Active) ∷ [];
  calls = (call 1 3 1 4 4 false (grid 530300 180400) 1 (needs 1 0 0) [] 1066) ∷ [];
  vehicles =
      (vehicle A1 2 2 Ambulance (grid 530300 180400) Available 40000 None 0 0)
      ∷ (vehicle A2 1 1 Ambulance (grid 560200 180000) OffDuty 0 None 0 0)
      ∷ (vehicle A3 1 1 Car (grid 530120 180160) OffDuty 0 None 0 0) ∷ [];
  turns = [];
  assignments = [];
  points = [];
  loans = [];
  offers = [];
  reports = [];
}

merge_is_handed_asked_2 : Hands 1 (at 1066 (Desk 1) (ask.Merge 4 4)) before_merge_is_handed_asked_2
    (Some (Asked (at 1066 (Desk 1) (ask.Merge 4 4)))) ((Err refusal.SameIncident) ∷ [])
    (record before_merge_is_handed_asked_2 {
      divisions = (division 1 4) ∷ [];
      vehicles =
          (vehicle A2 1 1 Ambulance (grid 560200 180000) OffDuty 0 None 0 0)
          ∷ (vehicle A3 1 1 Car (grid 530120 180160) OffDuty 0 None 0 0) ∷ [];
    })
unfolding machine
merge_is_handed_asked_2 = (refl, refl, refl, refl)

abbrev before_mobilise_is_handed_asked : Room
before_mobilise_is_handed_asked = record {
  plan = two_divisions;
  divisions = (division 1 0) ∷ (division 2 3) ∷ [];
  incidents = [];
  calls = [];
  vehicles =
      (vehicle A1 1 1 Ambulance (grid 530120 180160) Available 40000 None 0 0)
      ∷ (vehicle A2 1 1 Ambulance (grid 530000 180000) Available 5000 None 0 0) ∷ [];
  turns = [];
  assignments = [];
  points = [];
  loans = [];
  offers = [];
  reports = [];
}

mobilise_is_handed_asked : Hands 2
    (at 1181 (Desk 2) (ask.Mobilise 9 A1)) before_mobilise_is_handed_asked
    (Some (Asked (at 1181 (Desk 2) (ask.Mobilise 9 A1)))) ((Err refusal.NoSuchIncident) ∷ [])
    (record before_mobilise_is_handed_asked { divisions = (division 2 3) ∷ []; vehicles = [] })
unfolding machine
mobilise_is_handed_asked = (refl, refl, refl, refl)

abbrev before_mobilise_is_handed_asked_2 : Room
before_mobilise_is_handed_asked_2 = record {
  plan = two_divisions;
  divisions = (division 1 1) ∷ (division 2 3) ∷ [];
  incidents = (incident 1 1 (grid 530200 180000) 2 (needs 1 0 0) 1001 None Active) ∷ [];
  calls = (call 2 5 1 1 1 false (grid 530200 180000) 2 (needs 1 0 0) [] 1001) ∷ [];
  vehicles =
      (vehicle A1 2 2 Support (grid 560100 180000) Available 40000 None 0 0)
      ∷ (vehicle A2 2 2 Ambulance (grid 530201 180000) OffDuty 0 None 0 0)
      ∷ (vehicle A3 1 1 Ambulance (grid 530100 180100) Available 5000 None 0 0)
      ∷ (vehicle B1 2 2 Car (grid 560000 180000) Available 40000 None 0 0) ∷ [];
  turns = [];
  assignments = [];
  points = [];
  loans = [];
  offers = [];
  reports = [];
}

mobilise_is_handed_asked_2 : Hands 1
    (at 5001 (Desk 1) (ask.Mobilise 1 A3)) before_mobilise_is_handed_asked_2
    (Some (Asked (at 5001 (Desk 1) (ask.Mobilise 1 A3)))) ((Err refusal.ShiftOver) ∷ [])
    (record before_mobilise_is_handed_asked_2 {
      divisions = (division 1 1) ∷ [];
      vehicles =
          (vehicle A3 1 1 Ambulance (grid 530100 180100) Available 5000 None 0 0) ∷ [];
    })
unfolding machine
mobilise_is_handed_asked_2 = (refl, refl, refl, refl)

abbrev before_needs_is_handed_asked : Room
before_needs_is_handed_asked = record {
  plan = two_divisions;
  divisions = (division 1 2147483646) ∷ (division 2 2147483646) ∷ [];
  incidents = [];
  calls = [];
  vehicles =
      (vehicle A1 2 2 Ambulance (grid 560100 180000) OffDuty 0 None 0 0)
      ∷ (vehicle A2 2 2 Ambulance (grid 531000 180000) OffDuty 0 None 0 0) ∷ [];
  turns = [];
  assignments = [];
  points = [];
  loans = [];
  offers = [];
  reports = [];
}

needs_is_handed_asked : Hands 2 (at 1512 (Desk 2) (ask.Needs 9 (needs 2 0 0)))
    before_needs_is_handed_asked (Some (Asked (at 1512 (Desk 2) (ask.Needs 9 (needs 2 0 0)))))
    ((Err refusal.NoSuchIncident) ∷ [])
    (record before_needs_is_handed_asked { divisions = (division 2 2147483646) ∷ [] })
unfolding machine
needs_is_handed_asked = (refl, refl, refl, refl)

abbrev before_needs_is_handed_asked_2 : Room
before_needs_is_handed_asked_2 = record {
  plan = two_divisions;
  divisions = (division 1 0) ∷ (division 2 0) ∷ [];
  incidents = [];
  calls = [];
  vehicles =
      (vehicle A1 2 2 Car (grid 531000 180000) Available 40000 None 0 0)
      ∷ (vehicle A2 2 2 Ambulance (grid 530120 180160) Available 5000 None 0 0) ∷ [];
  turns = [];
  assignments = [];
  points = [];
  loans = [];
  offers = [];
  reports = [];
}

needs_is_handed_asked_2 : Hands 2
    (at 1481 (Desk 2) (ask.Needs 1 (needs 1 0 0))) before_needs_is_handed_asked_2
    (Some (Asked (at 1481 (Desk 2) (ask.Needs 1 (needs 1 0 0)))))
    ((Err refusal.NoSuchIncident) ∷ [])
    (record before_needs_is_handed_asked_2 { divisions = (division 2 0) ∷ [] })
unfolding machine
needs_is_handed_asked_2 = (refl, refl, refl, refl)

abbrev before_off_is_handed_asked : Room
before_off_is_handed_asked = record {
  plan = two_divisions;
  divisions = (division 1 0) ∷ (division 2 0) ∷ [];
  incidents = [];
  calls = [];
  vehicles =
      (vehicle A1 2 2 Ambulance (grid 530000 180000) OffDuty 0 None 2147483647 0)
      ∷ (vehicle A2 1 1 Ambulance (grid 530201 180000) Available 2000 None 0 0) ∷ [];
  turns = [];
  assignments = [];
  points = [];
  loans = [];
  offers = [];
  reports = [];
}

off_is_handed_asked : Hands 2 (at 1061 (Desk 2) (ask.Off A2)) before_off_is_handed_asked
    (Some (Asked (at 1061 (Desk 2) (ask.Off A2)))) ((Err refusal.NoSuchVehicle) ∷ [])
    (record before_off_is_handed_asked {
      divisions = (division 2 0) ∷ [];
      vehicles =
          (vehicle A1 2 2 Ambulance (grid 530000 180000) OffDuty 0 None 2147483647 0) ∷ [];
    })
unfolding machine
off_is_handed_asked = (refl, refl, refl, refl)

abbrev before_off_is_handed_asked_2 : Room
before_off_is_handed_asked_2 = record {
  plan = overlapping_divisions;
  divisions = (division 1 0) ∷ (division 7 0) ∷ [];
  incidents = [];
  calls = [];
  vehicles =
      (vehicle A1 7 7 Support (grid 530200 180000) Available 2000 None 0 0)
      ∷ (vehicle A2 1 1 Support (grid 530100 180000) Available 5000 None 0 0) ∷ [];
  turns = [];
  assignments = [];
  points = [];
  loans = [];
  offers = [];
  reports = [];
}

off_is_handed_asked_2 : Hands 7 (at 1091 (Desk 7) (ask.Off A1)) before_off_is_handed_asked_2
    (Some (Asked (at 1091 (Desk 7) (ask.Off A1)))) ((Ok answer.Done) ∷ [])
    (record before_off_is_handed_asked_2 {
      divisions = (division 7 0) ∷ [];
      vehicles =
          (vehicle A1 7 7 Support (grid 530200 180000) OffDuty 2000 None 0 0) ∷ [];
    })
unfolding machine
off_is_handed_asked_2 = (refl, refl, refl, refl)

abbrev before_offers_is_handed_asked : Room
before_offers_is_handed_asked = record {
  plan = two_divisions;
  divisions = (division 1 3) ∷ (division 2 0) ∷ [];
  incidents = [];
  calls = [];
  vehicles =
      (vehicle A1 2 2 Ambulance (grid 530201 180000) Available 2000 None 2147483647 0)
      ∷ (vehicle A2 2 2 Ambulance (grid 530200 180000) Available 5000 None 0 0) ∷ [];
  turns = [];
  assignments = [];
  points = [];
  loans = [];
  offers = [];
  reports = [];
}

offers_is_handed_asked : Hands 2 (at 1030 (Desk 2) ask.Offers) before_offers_is_handed_asked
    (Some (Asked (at 1030 (Desk 2) ask.Offers))) ((Ok (answer.Offers ([]))) ∷ [])
    (record before_offers_is_handed_asked { divisions = (division 2 0) ∷ [] })
unfolding machine
offers_is_handed_asked = (refl, refl, refl, refl)

abbrev before_offers_is_handed_asked_2 : Room
before_offers_is_handed_asked_2 = record {
  plan = two_divisions;
  divisions = (division 1 0) ∷ (division 2 0) ∷ [];
  incidents = [];
  calls = [];
  vehicles =
      (vehicle A1 2 2 Ambulance (grid 560000 180000) Available 40000 None 0 0)
      ∷ (vehicle A2 2 2 Ambulance (grid 530200 180000) OffDuty 0 None 0 0) ∷ [];
  turns = [];
  assignments = [];
  points = [];
  loans = [];
  offers = [];
  reports = [];
}

offers_is_handed_asked_2 : Hands 2 (at 1001 (Desk 2) ask.Offers) before_offers_is_handed_asked_2
    (Some (Asked (at 1001 (Desk 2) ask.Offers))) ((Ok (answer.Offers ([]))) ∷ [])
    (record before_offers_is_handed_asked_2 { divisions = (division 2 0) ∷ [] })
unfolding machine
offers_is_handed_asked_2 = (refl, refl, refl, refl)

abbrev before_points_is_handed_asked : Room
before_points_is_handed_asked = record {
  plan = overlapping_divisions;
  divisions = (division 1 0) ∷ (division 7 0) ∷ [];
  incidents = [];
  calls = [];
  vehicles =
      (vehicle A1 7 7 Car (grid 531000 180000) OffDuty 0 None 0 0)
      ∷ (vehicle A2 7 7 Ambulance (grid 530300 180400) Available 2000 None 0 0) ∷ [];
  turns = [];
  assignments = [];
  points = [];
  loans = [];
  offers = [];
  reports = [];
}

points_is_handed_asked : Hands 1 (at 1272 (Desk 1) ask.Points) before_points_is_handed_asked
    (Some (Asked (at 1272 (Desk 1) ask.Points))) ((Ok (answer.Points ([]))) ∷ [])
    (record before_points_is_handed_asked { divisions = (division 1 0) ∷ []; vehicles = [] })
unfolding machine
points_is_handed_asked = (refl, refl, refl, refl)

abbrev before_points_is_handed_asked_2 : Room
before_points_is_handed_asked_2 = record {
  plan = two_divisions;
  divisions = (division 1 0) ∷ (division 2 0) ∷ [];
  incidents = [];
  calls = [];
  vehicles =
      (vehicle A1 1 1 Ambulance (grid 530200 180000) OffDuty 0 None 0 0)
      ∷ (vehicle A2 1 1 Ambulance (grid 530201 180000) Available 40000 None 0 0)
      ∷ (vehicle A3 1 1 Support (grid 560200 180000) Available 5000 None 0 0) ∷ [];
  turns = [];
  assignments = [];
  points = [];
  loans = [];
  offers = [];
  reports = [];
}

points_is_handed_asked_2 : Hands 2 (at 1001 (Desk 2) ask.Points) before_points_is_handed_asked_2
    (Some (Asked (at 1001 (Desk 2) ask.Points))) ((Ok (answer.Points ([]))) ∷ [])
    (record before_points_is_handed_asked_2 { divisions = (division 2 0) ∷ []; vehicles = [] })
unfolding machine
points_is_handed_asked_2 = (refl, refl, refl, refl)

abbrev before_propose_is_handed_asked : Room
before_propose_is_handed_asked = record {
  plan = two_divisions;
  divisions = (division 1 2147483646) ∷ (division 2 2147483646) ∷ [];
  incidents = [];
  calls = [];
  vehicles =
      (vehicle A1 2 2 Ambulance (grid 530120 180160) OffDuty 0 None 0 0)
      ∷ (vehicle A2 2 2 Support (grid 530100 180100) OffDuty 0 None 0 0) ∷ [];
  turns = [];
  assignments = [];
  points = [];
  loans = [];
  offers = [];
  reports = [];
}

propose_is_handed_asked : Hands 2 (at 980 (Desk 2) (ask.Propose 2)) before_propose_is_handed_asked
    (Some (Asked (at 980 (Desk 2) (ask.Propose 2)))) ((Err refusal.NoSuchIncident) ∷ [])
    (record before_propose_is_handed_asked { divisions = (division 2 2147483646) ∷ [] })
unfolding machine
propose_is_handed_asked = (refl, refl, refl, refl)

abbrev before_propose_is_handed_asked_2 : Room
before_propose_is_handed_asked_2 = record {
  plan = two_divisions;
  divisions = (division 1 1) ∷ (division 2 0) ∷ [];
  incidents = (incident 1 1 (grid 530201 180000) 1 (needs 0 1 0) 1181 None Active) ∷ [];
  calls = (call 1 1 1 1 1 false (grid 530201 180000) 1 (needs 0 1 0) (codes "x") 1181) ∷ [];
  vehicles =
      (vehicle A1 1 1 Ambulance (grid 530100 180100) Available 2000 None 2147483647 0)
      ∷ (vehicle A2 1 1 Ambulance (grid 560100 180000) Available 5000 None 0 0)
      ∷ (vehicle A3 2 2 Ambulance (grid 560000 180000) OffDuty 0 None 0 0) ∷ [];
  turns = [];
  assignments = [];
  points = [];
  loans = [];
  offers = [];
  reports = [];
}

propose_is_handed_asked_2 : Hands 1
    (at 1272 (Desk 1) (ask.Propose 1)) before_propose_is_handed_asked_2
    (Some (Asked (at 1272 (Desk 1) (ask.Propose 1)))) ((Ok (answer.Proposals ([]))) ∷ [])
    (record before_propose_is_handed_asked_2 {
      divisions = (division 1 1) ∷ [];
      vehicles =
          (vehicle A1 1 1 Ambulance (grid 530100 180100) Available 2000 None 2147483647 0)
          ∷ (vehicle A2 1 1 Ambulance (grid 560100 180000) Available 5000 None 0 0) ∷ [];
    })
unfolding machine
propose_is_handed_asked_2 = (refl, refl, refl, refl)

abbrev before_queue_is_handed_asked : Room
before_queue_is_handed_asked = record {
  plan = two_divisions;
  divisions = (division 1 0) ∷ (division 2 0) ∷ [];
  incidents = [];
  calls = [];
  vehicles =
      (vehicle A1 1 1 Ambulance (grid 530100 180000) OffDuty 0 None 0 0)
      ∷ (vehicle A2 1 1 Ambulance (grid 560000 180000) OffDuty 0 None 0 0) ∷ [];
  turns = [];
  assignments = [];
  points = [];
  loans = [];
  offers = [];
  reports = [];
}

queue_is_handed_asked : Hands 1 (at 1481 (Desk 1) ask.Queue) before_queue_is_handed_asked
    (Some (Asked (at 1481 (Desk 1) ask.Queue))) ((Ok (answer.Queue ([]))) ∷ [])
    (record before_queue_is_handed_asked { divisions = (division 1 0) ∷ [] })
unfolding machine
queue_is_handed_asked = (refl, refl, refl, refl)

abbrev before_queue_is_handed_asked_2 : Room
before_queue_is_handed_asked_2 = record {
  plan = overlapping_divisions;
  divisions = (division 1 1) ∷ (division 7 0) ∷ [];
  incidents = (incident 1 1 (grid 530100 180100) 3 (needs 0 1 0) 1036 None Active) ∷ [];
  calls = (call 1 6 1 1 1 false (grid 530100 180100) 3 (needs 0 1 0) [] 1036) ∷ [];
  vehicles =
      (vehicle A1 1 1 Ambulance (grid 530120 180160) OffDuty 0 None 0 0)
      ∷ (vehicle A2 7 7 Ambulance (grid 560000 180000) OffDuty 0 None 0 0)
      ∷ (vehicle A3 1 1 Ambulance (grid 530000 180000) OffDuty 0 None 0 0) ∷ [];
  turns = [];
  assignments = [];
  points = [];
  loans = [];
  offers = [];
  reports = [];
}

queue_is_handed_asked_2 : Hands 1 (at 1001 (Desk 1) ask.Queue) before_queue_is_handed_asked_2
    (Some (Asked (at 1001 (Desk 1) ask.Queue))) ((Ok (answer.Queue ([]))) ∷ [])
    (record before_queue_is_handed_asked_2 {
      divisions = (division 1 1) ∷ [];
      vehicles =
          (vehicle A1 1 1 Ambulance (grid 530120 180160) OffDuty 0 None 0 0)
          ∷ (vehicle A3 1 1 Ambulance (grid 530000 180000) OffDuty 0 None 0 0) ∷ [];
    })
unfolding machine
queue_is_handed_asked_2 = (refl, refl, refl, refl)

abbrev before_recall_is_handed_asked : Room
before_recall_is_handed_asked = record {
  plan = two_divisions;
  divisions = (division 1 0) ∷ (division 2 0) ∷ [];
  incidents = [];
  calls = [];
  vehicles =
      (vehicle A1 2 2 Car (grid 560200 180000) Available 5000 None 0 0)
      ∷ (vehicle A2 1 1 Ambulance (grid 560100 180000) Available 40000 None 0 0) ∷ [];
  turns = [];
  assignments = [];
  points = [];
  loans = [];
  offers = [];
  reports = [];
}

recall_is_handed_asked : Hands 2 (at 1481 (Desk 2) (ask.Recall Z9)) before_recall_is_handed_asked
    (Some (Asked (at 1481 (Desk 2) (ask.Recall Z9)))) ((Err refusal.NoSuchVehicle) ∷ [])
    (record before_recall_is_handed_asked {
      divisions = (division 2 0) ∷ [];
      vehicles =
          (vehicle A1 2 2 Car (grid 560200 180000) Available 5000 None 0 0) ∷ [];
    })
unfolding machine
recall_is_handed_asked = (refl, refl, refl, refl)

abbrev before_recall_is_handed_asked_2 : Room
before_recall_is_handed_asked_2 = record {
  plan = two_divisions;
  divisions = (division 1 0) ∷ (division 2 0) ∷ [];
  incidents = [];
  calls = [];
  vehicles =
      (vehicle A1 2 2 Ambulance (grid 530300 180400) Available 40000 None 0 0)
      ∷ (vehicle A2 2 2 Ambulance (grid 531000 180000) Available 40000 None 0 0) ∷ [];
  turns = [];
  assignments = [];
  points = [];
  loans = [];
  offers = [];
  reports = [];
}

recall_is_handed_asked_2 : Hands 1
    (at 1301 (Desk 1) (ask.Recall A1)) before_recall_is_handed_asked_2
    (Some (Asked (at 1301 (Desk 1) (ask.Recall A1)))) ((Err refusal.NoSuchVehicle) ∷ [])
    (record before_recall_is_handed_asked_2 { divisions = (division 1 0) ∷ []; vehicles = [] })
unfolding machine
recall_is_handed_asked_2 = (refl, refl, refl, refl)

abbrev before_set_point_is_handed_asked : Room
before_set_point_is_handed_asked = record {
  plan = two_divisions;
  divisions = (division 1 3) ∷ (division 2 0) ∷ [];
  incidents = [];
  calls = [];
  vehicles =
      (vehicle A1 2 2 Support (grid 530300 180400) Available 40000 None 0 0)
      ∷ (vehicle A2 1 1 Support (grid 530100 180100) Available 40000 None 2147483647 0) ∷ [];
  turns = [];
  assignments = [];
  points = [];
  loans = [];
  offers = [];
  reports = [];
}

set_point_is_handed_asked : Hands 1
    (at 1125 (Desk 1) (ask.SetPoint 2 (grid 531000 180000) 2)) before_set_point_is_handed_asked
    (Some (Asked (at 1125 (Desk 1) (ask.SetPoint 2 (grid 531000 180000) 2))))
    ((Ok answer.Done) ∷ []) (record before_set_point_is_handed_asked {
      divisions = (division 1 3) ∷ [];
      vehicles =
          (vehicle A2 1 1 Support (grid 530100 180100) Available 40000 None 2147483647 0)
          ∷ [];
      points = (point 1 2 (grid 531000 180000) 2) ∷ [];
    })
unfolding machine
set_point_is_handed_asked = (refl, refl, refl, refl)

abbrev before_set_point_is_handed_asked_2 : Room
before_set_point_is_handed_asked_2 = record {
  plan = two_divisions;
  divisions = (division 1 0) ∷ (division 2 3) ∷ [];
  incidents = [];
  calls = [];
  vehicles =
      (vehicle A1 2 2 Car (grid 530100 180000) OffDuty 0 None 0 0)
      ∷ (vehicle A2 1 1 Ambulance (grid 530100 180100) Available 5000 None 0 0) ∷ [];
  turns = [];
  assignments = [];
  points = [];
  loans = [];
  offers = [];
  reports = [];
}

set_point_is_handed_asked_2 : Hands 1
    (at 1181 (Desk 1) (ask.SetPoint 2 (grid 530200 180000) 1)) before_set_point_is_handed_asked_2
    (Some (Asked (at 1181 (Desk 1) (ask.SetPoint 2 (grid 530200 180000) 1))))
    ((Ok answer.Done) ∷ []) (record before_set_point_is_handed_asked_2 {
      divisions = (division 1 0) ∷ [];
      vehicles =
          (vehicle A2 1 1 Ambulance (grid 530100 180100) Available 5000 None 0 0)
          ∷ [];
      points = (point 1 2 (grid 530200 180000) 1) ∷ [];
    })
unfolding machine
set_point_is_handed_asked_2 = (refl, refl, refl, refl)

abbrev before_stand_down_is_handed_asked : Room
before_stand_down_is_handed_asked = record {
  plan = overlapping_divisions;
  divisions = (division 1 2147483647) ∷ (division 7 2147483646) ∷ [];
  incidents = [];
  calls = [];
  vehicles =
      (vehicle A1 7 7 Support (grid 560100 180000) OffDuty 0 None 0 0)
      ∷ (vehicle A2 1 1 Ambulance (grid 530201 180000) Available 5000 None 0 0) ∷ [];
  turns = [];
  assignments = [];
  points = [];
  loans = [];
  offers = [];
  reports = [];
}

stand_down_is_handed_asked : Hands 7
    (at 1482 (Desk 7) (ask.StandDown Z9)) before_stand_down_is_handed_asked
    (Some (Asked (at 1482 (Desk 7) (ask.StandDown Z9)))) ((Err refusal.NoSuchVehicle) ∷ [])
    (record before_stand_down_is_handed_asked {
      divisions = (division 7 2147483646)
          ∷ [];
      vehicles = (vehicle A1 7 7 Support (grid 560100 180000) OffDuty 0 None 0 0)
          ∷ [];
    })
unfolding machine
stand_down_is_handed_asked = (refl, refl, refl, refl)

abbrev before_stand_down_is_handed_asked_2 : Room
before_stand_down_is_handed_asked_2 = record {
  plan = two_divisions;
  divisions = (division 1 0) ∷ (division 2 3) ∷ [];
  incidents = [];
  calls = [];
  vehicles =
      (vehicle A1 2 2 Support (grid 530120 180160) OffDuty 0 None 0 0)
      ∷ (vehicle A2 1 1 Car (grid 531000 180000) OffDuty 0 None 0 0)
      ∷ (vehicle A3 1 1 Ambulance (grid 530201 180000) Available 2000 None 0 0) ∷ [];
  turns = [];
  assignments = [];
  points = [];
  loans = [];
  offers = [];
  reports = [];
}

stand_down_is_handed_asked_2 : Hands 1
    (at 1005 (Desk 1) (ask.StandDown A2)) before_stand_down_is_handed_asked_2
    (Some (Asked (at 1005 (Desk 1) (ask.StandDown A2)))) ((Err refusal.WrongStatus) ∷ [])
    (record before_stand_down_is_handed_asked_2 {
      divisions = (division 1 0) ∷ [];
      vehicles =
          (vehicle A2 1 1 Car (grid 531000 180000) OffDuty 0 None 0 0)
          ∷ (vehicle A3 1 1 Ambulance (grid 530201 180000) Available 2000 None 0 0) ∷ [];
    })
unfolding machine
stand_down_is_handed_asked_2 = (refl, refl, refl, refl)

abbrev before_standby_is_handed_asked : Room
before_standby_is_handed_asked = record {
  plan = overlapping_divisions;
  divisions = (division 1 3) ∷ (division 7 0) ∷ [];
  incidents = [];
  calls = [];
  vehicles =
      (vehicle A1 1 1 Ambulance (grid 560200 180000) OffDuty 0 None 0 0)
      ∷ (vehicle A2 7 7 Car (grid 560000 180000) Available 2000 None 0 0) ∷ [];
  turns = [];
  assignments = [];
  points = [];
  loans = [];
  offers = [];
  reports = [];
}

standby_is_handed_asked : Hands 7
    (at 1301 (Desk 7) (ask.Standby A2 None)) before_standby_is_handed_asked
    (Some (Asked (at 1301 (Desk 7) (ask.Standby A2 None)))) ((Ok answer.Done) ∷ [])
    (record before_standby_is_handed_asked {
      divisions = (division 7 0) ∷ [];
      vehicles =
          (vehicle A2 7 7 Car (grid 560000 180000) Available 2000 None 0 0) ∷ [];
    })
unfolding machine
standby_is_handed_asked = (refl, refl, refl, refl)

abbrev before_standby_is_handed_asked_2 : Room
before_standby_is_handed_asked_2 = record {
  plan = overlapping_divisions;
  divisions = (division 1 0) ∷ (division 7 0) ∷ [];
  incidents = [];
  calls = [];
  vehicles =
      (vehicle A1 1 1 Ambulance (grid 560100 180000) Available 2000 None 0 0)
      ∷ (vehicle A2 1 1 Support (grid 530300 180400) OffDuty 0 None 0 0) ∷ [];
  turns = [];
  assignments = [];
  points = [];
  loans = [];
  offers = [];
  reports = [];
}

standby_is_handed_asked_2 : Hands 7
    (at 1301 (Desk 7) (ask.Standby A1 None)) before_standby_is_handed_asked_2
    (Some (Asked (at 1301 (Desk 7) (ask.Standby A1 None)))) ((Err refusal.NoSuchVehicle) ∷ [])
    (record before_standby_is_handed_asked_2 { divisions = (division 7 0) ∷ []; vehicles = [] })
unfolding machine
standby_is_handed_asked_2 = (refl, refl, refl, refl)

abbrev before_times_is_handed_asked : Room
before_times_is_handed_asked = record {
  plan = overlapping_divisions;
  divisions = (division 1 0) ∷ (division 7 3) ∷ [];
  incidents = [];
  calls = [];
  vehicles =
      (vehicle A1 7 7 Car (grid 560100 180000) Available 5000 None 0 0)
      ∷ (vehicle A2 7 7 Ambulance (grid 560100 180000) Available 2000 None 0 0) ∷ [];
  turns = [];
  assignments = [];
  points = [];
  loans = [];
  offers = [];
  reports = [];
}

times_is_handed_asked : Hands 7 (at 1181 (Desk 7) (ask.Times (negsuc 0) (pos 5000)))
    before_times_is_handed_asked (Some
    (Asked (at 1181 (Desk 7) (ask.Times (negsuc 0) (pos 5000)))))
    ((Ok (answer.Times (times (negsuc 0) (pos 5000) 0 0 ([])))) ∷ [])
    (record before_times_is_handed_asked { divisions = (division 7 3) ∷ [] })
unfolding machine
times_is_handed_asked = (refl, refl, refl, refl)

abbrev before_times_is_handed_asked_2 : Room
before_times_is_handed_asked_2 = record {
  plan = two_divisions;
  divisions = (division 1 1) ∷ (division 2 0) ∷ [];
  incidents = (incident 1 1 (grid 530100 180000) 2 (needs 2 0 0) 1041 None Active) ∷ [];
  calls = (call 2 6 1 1 1 false (grid 530100 180000) 2 (needs 2 0 0) [] 1041) ∷ [];
  vehicles =
      (vehicle A1 1 1 Support (grid 560000 180000) Available 2000 None 0 0)
      ∷ (vehicle A2 2 2 Support (grid 530100 180000) Available 5061 None 0 0) ∷ [];
  turns = [];
  assignments = [];
  points = [];
  loans = [];
  offers = [];
  reports = [];
}

times_is_handed_asked_2 : Hands 1
    (at 1041 (Desk 1) (ask.Times (pos 1041) (pos 6041))) before_times_is_handed_asked_2
    (Some (Asked (at 1041 (Desk 1) (ask.Times (pos 1041) (pos 6041)))))
    ((Ok (answer.Times (times (pos 1041) (pos 6041) 0 0 ((times_line 1 1041 None) ∷ [])))) ∷ [])
    (record before_times_is_handed_asked_2 {
      divisions = (division 1 1) ∷ [];
      vehicles =
          (vehicle A1 1 1 Support (grid 560000 180000) Available 2000 None 0 0) ∷ [];
    })
unfolding machine
times_is_handed_asked_2 = (refl, refl, refl, refl)

abbrev before_vehicles_is_handed_asked : Room
before_vehicles_is_handed_asked = record {
  plan = overlapping_divisions;
  divisions = (division 1 2147483646) ∷ (division 7 2147483646) ∷ [];
  incidents = [];
  calls = [];
  vehicles =
      (vehicle A1 1 1 Car (grid 560000 180000) OffDuty 0 None 0 0)
      ∷ (vehicle A2 7 7 Ambulance (grid 560200 180000) OffDuty 0 None 0 0) ∷ [];
  turns = [];
  assignments = [];
  points = [];
  loans = [];
  offers = [];
  reports = [];
}

vehicles_is_handed_asked : Hands 7 (at 1481 (Desk 7) ask.Vehicles) before_vehicles_is_handed_asked
    (Some (Asked (at 1481 (Desk 7) ask.Vehicles)))
    ((Ok (answer.Vehicles ((vehicle_line A2 7 None Ambulance (grid 560200 180000) None 0 OffDuty)
    ∷ []))) ∷ []) (record before_vehicles_is_handed_asked {
      divisions = (division 7 2147483646)
          ∷ [];
      vehicles = (vehicle A2 7 7 Ambulance (grid 560200 180000) OffDuty 0 None 0 0)
          ∷ [];
    })
unfolding machine
vehicles_is_handed_asked = (refl, refl, refl, refl)

abbrev before_vehicles_is_handed_asked_2 : Room
before_vehicles_is_handed_asked_2 = record {
  plan = overlapping_divisions;
  divisions = (division 1 0) ∷ (division 7 0) ∷ [];
  incidents = [];
  calls = [];
  vehicles =
      (vehicle A1 1 1 Ambulance (grid 560000 180000) Available 5000 None 0 0)
      ∷ (vehicle A2 7 7 Ambulance (grid 560100 180000) Available 2000 None 0 0) ∷ [];
  turns = [];
  assignments = [];
  points = (point 7 1 (grid 530120 180160) 2) ∷ [];
  loans = [];
  offers = [];
  reports = [];
}

vehicles_is_handed_asked_2 : Hands 7
    (at 1241 (Desk 7) ask.Vehicles) before_vehicles_is_handed_asked_2
    (Some (Asked (at 1241 (Desk 7) ask.Vehicles)))
    ((Ok (answer.Vehicles ((vehicle_line A2 7 None Ambulance
    (grid 560100 180000) None 2000 Available) ∷ []))) ∷ [])
    (record before_vehicles_is_handed_asked_2 {
      divisions = (division 7 0) ∷ [];
      vehicles =
          (vehicle A2 7 7 Ambulance (grid 560100 180000) Available 2000 None 0 0) ∷ [];
    })
unfolding machine
vehicles_is_handed_asked_2 = (refl, refl, refl, refl)

abbrev before_withdraw_is_handed_asked : Room
before_withdraw_is_handed_asked = record {
  plan = two_divisions;
  divisions = (division 1 0) ∷ (division 2 0) ∷ [];
  incidents = [];
  calls = [];
  vehicles =
      (vehicle A1 1 1 Support (grid 530100 180000) OffDuty 0 None 0 0)
      ∷ (vehicle A2 2 2 Ambulance (grid 530120 180160) OffDuty 5000 None 0 0) ∷ [];
  turns = [];
  assignments = [];
  points = [];
  loans = [];
  offers = [];
  reports = [];
}

withdraw_is_handed_asked : Hands 1
    (at 1486 (Desk 1) (ask.Withdraw Z9)) before_withdraw_is_handed_asked
    (Some (Asked (at 1486 (Desk 1) (ask.Withdraw Z9)))) ((Err refusal.NoSuchVehicle) ∷ [])
    (record before_withdraw_is_handed_asked {
      divisions = (division 1 0) ∷ [];
      vehicles =
          (vehicle A1 1 1 Support (grid 530100 180000) OffDuty 0 None 0 0) ∷ [];
    })
unfolding machine
withdraw_is_handed_asked = (refl, refl, refl, refl)

abbrev before_withdraw_is_handed_asked_2 : Room
before_withdraw_is_handed_asked_2 = record {
  plan = two_divisions;
  divisions = (division 1 0) ∷ (division 2 0) ∷ [];
  incidents = [];
  calls = [];
  vehicles =
      (vehicle A1 1 1 Support (grid 560200 180000) Available 2000 None 0 0)
      ∷ (vehicle A2 1 1 Car (grid 530100 180100) OffDuty 0 None 0 0)
      ∷ (vehicle A3 2 2 Car (grid 530120 180160) Available 2000 None 0 0) ∷ [];
  turns = [];
  assignments = [];
  points = [];
  loans = [];
  offers = [];
  reports = [];
}

withdraw_is_handed_asked_2 : Hands 2
    (at 1060 (Desk 2) (ask.Withdraw Z9)) before_withdraw_is_handed_asked_2
    (Some (Asked (at 1060 (Desk 2) (ask.Withdraw Z9)))) ((Err refusal.NoSuchVehicle) ∷ [])
    (record before_withdraw_is_handed_asked_2 {
      divisions = (division 2 0) ∷ [];
      vehicles =
          (vehicle A3 2 2 Car (grid 530120 180160) Available 2000 None 0 0) ∷ [];
    })
unfolding machine
withdraw_is_handed_asked_2 = (refl, refl, refl, refl)

abbrev before_call_is_handed_call_in : Room
before_call_is_handed_call_in = record {
  plan = two_divisions;
  divisions = (division 1 2147483647) ∷ (division 2 2147483646) ∷ [];
  incidents = [];
  calls = [];
  vehicles =
      (vehicle A1 2 2 Ambulance (grid 530100 180000) Available 2000 None 0 0)
      ∷ (vehicle A2 2 2 Ambulance (grid 560100 180000) Available 40000 None 0 0) ∷ [];
  turns = [];
  assignments = [];
  points = [];
  loans = [];
  offers = [];
  reports = [];
}

call_is_handed_call_in : Hands 1 (at 1061 (Position 1)
    (ask.Call (call_form 3 (grid 530100 180100) 2 (needs 0 1 0) (codes "x"))))
    before_call_is_handed_call_in (Some
    (CallIn (at 1061 (Position 1) (ask.Call
    (call_form 3 (grid 530100 180100) 2 (needs 0 1 0) (codes "x")))))) []
    (record before_call_is_handed_call_in
    { divisions = (division 1 2147483647) ∷ []; vehicles = [] })
unfolding machine
call_is_handed_call_in = (refl, refl, refl, refl)

abbrev before_call_is_handed_call_in_2 : Room
before_call_is_handed_call_in_2 = record {
  plan = two_divisions;
  divisions = (division 1 2147483647) ∷ (division 2 2147483646) ∷ [];
  incidents = [];
  calls = [];
  vehicles =
      (vehicle A1 2 2 Ambulance (grid 530100 180100) OffDuty 0 None 0 0)
      ∷ (vehicle A2 2 2 Ambulance (grid 560000 180000) Available 5000 None 0 0) ∷ [];
  turns = [];
  assignments = [];
  points = [];
  loans = [];
  offers = [];
  reports = [];
}

call_is_handed_call_in_2 : Hands 1
    (at 1010 (Position 2) (ask.Call (call_form 3 (grid 530200 180000) 3 (needs 2 0 0) [])))
    before_call_is_handed_call_in_2 (Some
    (CallIn (at 1010 (Position 2) (ask.Call
    (call_form 3 (grid 530200 180000) 3 (needs 2 0 0) []))))) []
    (record before_call_is_handed_call_in_2
    { divisions = (division 1 2147483647) ∷ []; vehicles = [] })
unfolding machine
call_is_handed_call_in_2 = (refl, refl, refl, refl)

abbrev before_call_is_handed_call_in_3 : Room
before_call_is_handed_call_in_3 = record {
  plan = overlapping_divisions;
  divisions = (division 1 2147483646) ∷ (division 7 2147483647) ∷ [];
  incidents = [];
  calls = [];
  vehicles =
      (vehicle A1 1 1 Ambulance (grid 530200 180000) Available 41302 None 0 0)
      ∷ (vehicle A2 1 1 Ambulance (grid 531000 180000) OffDuty 0 None 0 1) ∷ [];
  turns = [];
  assignments = [];
  points = [];
  loans = [];
  offers = [];
  reports = (report A2 1 button.Mobile 0 (grid 530200 180000) 1001 1 Wrong OffDuty false) ∷ [];
}

call_is_handed_call_in_3 : Hands 7
    (at 1282 (Position 2) (ask.Call (call_form 6 (grid 530000 180000) 2 (needs 0 1 0) [])))
    before_call_is_handed_call_in_3 (Some
    (CallIn (at 1282 (Position 2) (ask.Call
    (call_form 6 (grid 530000 180000) 2 (needs 0 1 0) []))))) []
    (record before_call_is_handed_call_in_3
    { divisions = (division 7 2147483647) ∷ []; vehicles = []; reports = [] })
unfolding machine
call_is_handed_call_in_3 = (refl, refl, refl, refl)

abbrev before_call_is_handed_call_in_4 : Room
before_call_is_handed_call_in_4 = record {
  plan = overlapping_divisions;
  divisions = (division 1 2147483647) ∷ (division 7 2147483646) ∷ [];
  incidents = [];
  calls = [];
  vehicles =
      (vehicle A1 7 7 Ambulance (grid 531000 180000) OffDuty 0 None 0 0)
      ∷ (vehicle A2 7 7 Ambulance (grid 530100 180100) Available 2000 None 0 2)
      ∷ (vehicle A3 7 7 Ambulance (grid 530100 180100) OffDuty 0 None 0 0) ∷ [];
  turns = [];
  assignments = [];
  points = [];
  loans = [];
  offers = [];
  reports = (report A2 2 button.Leave 0 (grid 530000 180000) 1240 7 Wrong Available false) ∷ [];
}

call_is_handed_call_in_4 : Hands 1
    (at 1521 (Position 2) (ask.Call (call_form 2 (grid 530300 180400) 2 (needs 1 0 0) [])))
    before_call_is_handed_call_in_4 (Some
    (CallIn (at 1521 (Position 2) (ask.Call
    (call_form 2 (grid 530300 180400) 2 (needs 1 0 0) []))))) []
    (record before_call_is_handed_call_in_4
    { divisions = (division 1 2147483647) ∷ []; vehicles = []; reports = [] })
unfolding machine
call_is_handed_call_in_4 = (refl, refl, refl, refl)

abbrev before_call_is_handed_call_in_5 : Room
before_call_is_handed_call_in_5 = record {
  plan = overlapping_divisions;
  divisions = (division 1 0) ∷ (division 7 0) ∷ [];
  incidents = [];
  calls = [];
  vehicles =
      (vehicle A1 1 1 Ambulance (grid 530300 180400) Available 2000 None 0 0)
      ∷ (vehicle A2 1 1 Ambulance (grid 530100 180100) OffDuty 0 None 2147483647 0) ∷ [];
  turns = [];
  assignments = [];
  points = [];
  loans = [];
  offers = [];
  reports = [];
}

call_is_handed_call_in_5 : Hands 1
    (at 1362 (Position 1) (ask.Call (call_form 1 (grid 530100 180000) 1 (needs 1 0 0) [])))
    before_call_is_handed_call_in_5 (Some
    (CallIn (at 1362 (Position 1) (ask.Call
    (call_form 1 (grid 530100 180000) 1 (needs 1 0 0) []))))) []
    (record before_call_is_handed_call_in_5 {
      divisions = (division 1 1) ∷ [];
      incidents =
          (incident 1 1 (grid 530100 180000) 1 (needs 1 0 0) 1362 None Active)
          ∷ [];
      calls = (call 1 1 1 1 1 false (grid 530100 180000) 1
          (needs 1 0 0) [] 1362) ∷ [];
    })
unfolding machine
call_is_handed_call_in_5 = (refl, refl, refl, refl)

abbrev before_call_is_handed_call_in_6 : Room
before_call_is_handed_call_in_6 = record {
  plan = overlapping_divisions;
  divisions = (division 1 0) ∷ (division 7 0) ∷ [];
  incidents = [];
  calls = [];
  vehicles =
      (vehicle A1 1 1 Ambulance (grid 560000 180000) OffDuty 0 None 0 0)
      ∷ (vehicle A2 7 7 Car (grid 530120 180160) Available 5000 None 0 0) ∷ [];
  turns = [];
  assignments = [];
  points = [];
  loans = [];
  offers = [];
  reports = [];
}

call_is_handed_call_in_6 : Hands 1
    (at 1005 (Position 2) (ask.Call (call_form 1 (grid 531000 180000) 2 (needs 1 1 0)
    (codes "x")))) before_call_is_handed_call_in_6
    (Some (CallIn (at 1005 (Position 2)
    (ask.Call (call_form 1 (grid 531000 180000) 2 (needs 1 1 0) (codes "x")))))) []
    (record before_call_is_handed_call_in_6 {
      divisions = (division 1 1) ∷ [];
      incidents =
          (incident 1 1 (grid 531000 180000) 2 (needs 1 1 0) 1005 None Active)
          ∷ [];
      calls = (call 2 1 1 1 1 false (grid 531000 180000) 2
          (needs 1 1 0) (codes "x") 1005) ∷ [];
      vehicles =
          (vehicle A1 1 1 Ambulance (grid 560000 180000) OffDuty 0 None 0
          0) ∷ [];
    })
unfolding machine
call_is_handed_call_in_6 = (refl, refl, refl, refl)

abbrev before_call_is_handed_call_in_7 : Room
before_call_is_handed_call_in_7 = record {
  plan = two_divisions;
  divisions = (division 1 0) ∷ (division 2 0) ∷ [];
  incidents = [];
  calls = [];
  vehicles =
      (vehicle A1 1 1 Ambulance (grid 530100 180000) Available 5000 None 0 0)
      ∷ (vehicle A2 2 2 Car (grid 560200 180000) Available 2000 None 0 0) ∷ [];
  turns = [];
  assignments = [];
  points = [];
  loans = [];
  offers = [];
  reports = [];
}

call_is_handed_call_in_7 : Hands 1
    (at 2022 (Position 1) (ask.Call (call_form 1 (grid 531000 180000) 3 (needs 0 0 1) [])))
    before_call_is_handed_call_in_7 (Some
    (CallIn (at 2022 (Position 1) (ask.Call
    (call_form 1 (grid 531000 180000) 3 (needs 0 0 1) []))))) []
    (record before_call_is_handed_call_in_7 {
      divisions = (division 1 1) ∷ [];
      incidents =
          (incident 1 1 (grid 531000 180000) 3 (needs 0 0 1) 2022 None Active)
          ∷ [];
      calls = (call 1 1 1 1 1 false (grid 531000 180000) 3
          (needs 0 0 1) [] 2022) ∷ [];
      vehicles =
          (vehicle A1 1 1 Ambulance (grid 530100 180000) Available 5000 None
          0 0) ∷ [];
    })
unfolding machine
call_is_handed_call_in_7 = (refl, refl, refl, refl)

abbrev before_call_is_handed_call_in_8 : Room
before_call_is_handed_call_in_8 = record {
  plan = two_divisions;
  divisions = (division 1 0) ∷ (division 2 3) ∷ [];
  incidents = [];
  calls = [];
  vehicles =
      (vehicle A1 2 2 Car (grid 560200 180000) Available 5000 None 0 0)
      ∷ (vehicle A2 1 1 Ambulance (grid 530100 180000) Available 2000 None 0 0) ∷ [];
  turns = [];
  assignments = [];
  points = [];
  loans = [];
  offers = [];
  reports = [];
}

call_is_handed_call_in_8 : Hands 1
    (at 1120 (Position 2) (ask.Call (call_form 6 (grid 531000 180000) 2 (needs 1 1 0)
    (codes "x")))) before_call_is_handed_call_in_8
    (Some (CallIn (at 1120 (Position 2)
    (ask.Call (call_form 6 (grid 531000 180000) 2 (needs 1 1 0) (codes "x")))))) []
    (record before_call_is_handed_call_in_8 {
      divisions = (division 1 1) ∷ [];
      incidents =
          (incident 1 1 (grid 531000 180000) 2 (needs 1 1 0) 1120 None Active)
          ∷ [];
      calls = (call 2 6 1 1 1 false (grid 531000 180000) 2
          (needs 1 1 0) (codes "x") 1120) ∷ [];
      vehicles =
          (vehicle A2 1 1 Ambulance (grid 530100 180000) Available 2000
          None 0 0) ∷ [];
    })
unfolding machine
call_is_handed_call_in_8 = (refl, refl, refl, refl)

abbrev before_call_is_handed_call_in_9 : Room
before_call_is_handed_call_in_9 = record {
  plan = overlapping_divisions;
  divisions = (division 1 0) ∷ (division 7 3) ∷ [];
  incidents = [];
  calls = [];
  vehicles =
      (vehicle A1 1 1 Support (grid 530300 180400) OffDuty 0 None 0 0)
      ∷ (vehicle A2 1 1 Car (grid 530200 180000) OffDuty 0 None 0 0) ∷ [];
  turns = [];
  assignments = [];
  points = [];
  loans = [];
  offers = [];
  reports = [];
}

call_is_handed_call_in_9 : Hands 1
    (at 1601 (Position 2) (ask.Call (call_form 4 (grid 530300 180400) 1 (needs 1 0 0) [])))
    before_call_is_handed_call_in_9 (Some
    (CallIn (at 1601 (Position 2) (ask.Call
    (call_form 4 (grid 530300 180400) 1 (needs 1 0 0) []))))) []
    (record before_call_is_handed_call_in_9 {
      divisions = (division 1 1) ∷ [];
      incidents =
          (incident 1 1 (grid 530300 180400) 1 (needs 1 0 0) 1601 None Active)
          ∷ [];
      calls = (call 2 4 1 1 1 false (grid 530300 180400) 1
          (needs 1 0 0) [] 1601) ∷ [];
    })
unfolding machine
call_is_handed_call_in_9 = (refl, refl, refl, refl)

abbrev before_call_is_handed_call_in_10 : Room
before_call_is_handed_call_in_10 = record {
  plan = overlapping_divisions;
  divisions = (division 1 1) ∷ (division 7 0) ∷ [];
  incidents = (incident 1 1 (grid 530120 180160) 1 (needs 2 1 1) 980 None Active) ∷ [];
  calls = (call 2 4 1 1 1 false (grid 530120 180160) 1 (needs 2 1 1) (codes "x") 980) ∷ [];
  vehicles =
      (vehicle A1 1 1 Ambulance (grid 560200 180000) Available 40000 None 0 0)
      ∷ (vehicle A2 1 1 Ambulance (grid 530100 180000) OffDuty 0 None 0 0) ∷ [];
  turns = [];
  assignments = [];
  points = [];
  loans = [];
  offers = [];
  reports = [];
}

call_is_handed_call_in_10 : Hands 1
    (at 1161 (Position 1) (ask.Call (call_form 6 (grid 530100 180000) 2 (needs 0 0 1) [])))
    before_call_is_handed_call_in_10 (Some
    (CallIn (at 1161 (Position 1) (ask.Call
    (call_form 6 (grid 530100 180000) 2 (needs 0 0 1) []))))) []
    (record before_call_is_handed_call_in_10 {
      divisions = (division 1 1) ∷ [];
      calls =
          (call 1 6 1 1 1 true (grid 530100 180000) 2 (needs 0 0 1) [] 1161)
          ∷ (call 2 4 1 1 1 false (grid 530120 180160) 1 (needs 2 1 1)
          (codes "x") 980) ∷ [];
    })
unfolding machine
call_is_handed_call_in_10 = (refl, refl, refl, refl)

abbrev before_call_is_handed_call_in_11 : Room
before_call_is_handed_call_in_11 = record {
  plan = overlapping_divisions;
  divisions = (division 1 3) ∷ (division 7 0) ∷ [];
  incidents = [];
  calls = [];
  vehicles =
      (vehicle A1 1 1 Support (grid 531000 180000) OffDuty 40000 None 0 0)
      ∷ (vehicle A2 1 1 Support (grid 530300 180400) Available 40000 None 0 0) ∷ [];
  turns = [];
  assignments = [];
  points = [];
  loans = [];
  offers = [];
  reports = [];
}

call_is_handed_call_in_11 : Hands 1
    (at 1006 (Position 2) (ask.Call (call_form 2 (grid 530120 180160) 2 (needs 1 1 0) [])))
    before_call_is_handed_call_in_11 (Some
    (CallIn (at 1006 (Position 2) (ask.Call
    (call_form 2 (grid 530120 180160) 2 (needs 1 1 0) []))))) []
    (record before_call_is_handed_call_in_11 {
      divisions = (division 1 4) ∷ [];
      incidents =
          (incident 1 4 (grid 530120 180160) 2 (needs 1 1 0) 1006 None Active)
          ∷ [];
      calls = (call 2 2 1 4 4 false (grid 530120 180160) 2
          (needs 1 1 0) [] 1006) ∷ [];
    })
unfolding machine
call_is_handed_call_in_11 = (refl, refl, refl, refl)

abbrev before_call_is_handed_call_in_12 : Room
before_call_is_handed_call_in_12 = record {
  plan = two_divisions;
  divisions = (division 1 4) ∷ (division 2 3) ∷ [];
  incidents = (incident 1 4 (grid 530300 180400) 2 (needs 2 1 1) 1301 None Active) ∷ [];
  calls = (call 2 2 1 4 4 false (grid 530300 180400) 2 (needs 2 1 1) (codes "x") 1301) ∷ [];
  vehicles =
      (vehicle A1 2 2 Ambulance (grid 560100 180000) Available 40000 None 0 0)
      ∷ (vehicle A2 1 1 Ambulance (grid 560000 180000) Available 2000 None 0 0)
      ∷ (vehicle A3 1 1 Support (grid 560200 180000) Available 2000 None 0 0) ∷ [];
  turns = [];
  assignments = [];
  points = [];
  loans = [];
  offers = [];
  reports = [];
}

call_is_handed_call_in_12 : Hands 1
    (at 1602 (Position 1) (ask.Call (call_form 1 (grid 530300 180400) 2 (needs 0 0 1) [])))
    before_call_is_handed_call_in_12 (Some
    (CallIn (at 1602 (Position 1) (ask.Call
    (call_form 1 (grid 530300 180400) 2 (needs 0 0 1) []))))) []
    (record before_call_is_handed_call_in_12 {
      divisions = (division 1 4) ∷ [];
      calls =
          (call 1 1 1 4 4 true (grid 530300 180400) 2 (needs 0 0 1) [] 1602)
          ∷ (call 2 2 1 4 4 false (grid 530300 180400) 2 (needs 2 1 1)
          (codes "x") 1301) ∷ [];
      vehicles =
          (vehicle A2 1 1 Ambulance (grid 560000 180000) Available 2000 None
          0 0) ∷ (vehicle A3 1 1 Support (grid 560200 180000) Available
          2000 None 0 0) ∷ [];
    })
unfolding machine
call_is_handed_call_in_12 = (refl, refl, refl, refl)

abbrev before_call_is_handed_call_in_13 : Room
before_call_is_handed_call_in_13 = record {
  plan = two_divisions;
  divisions = (division 1 1) ∷ (division 2 3) ∷ [];
  incidents = (incident 1 1 (grid 530100 180100) 2 (needs 0 1 0) 1041 None Active) ∷ [];
  calls = (call 1 4 1 1 1 false (grid 530100 180100) 2 (needs 0 1 0) [] 1041) ∷ [];
  vehicles =
      (vehicle A1 2 2 Ambulance (grid 530120 180160) Available 40000 None 0 1)
      ∷ (vehicle A2 2 2 Ambulance (grid 530100 180000) Available 5000 None 0 0) ∷ [];
  turns = [];
  assignments = [];
  points = [];
  loans = [];
  offers = [];
  reports = (report A1 1 button.Scene 0 (grid 530201 180000) 1082 2 Wrong Available false) ∷ [];
}

call_is_handed_call_in_13 : Hands 1
    (at 1143 (Position 2) (ask.Call (call_form 1 (grid 530100 180000) 3 (needs 0 1 0) [])))
    before_call_is_handed_call_in_13 (Some
    (CallIn (at 1143 (Position 2) (ask.Call
    (call_form 1 (grid 530100 180000) 3 (needs 0 1 0) []))))) []
    (record before_call_is_handed_call_in_13 {
      divisions = (division 1 1) ∷ [];
      calls =
          (call 1 4 1 1 1 false (grid 530100 180100) 2 (needs 0 1 0) [] 1041)
          ∷ (call 2 1 1 1 1 true (grid 530100 180000) 3 (needs 0 1 0) [] 1143)
          ∷ [];
      vehicles = [];
      reports = [];
    })
unfolding machine
call_is_handed_call_in_13 = (refl, refl, refl, refl)

abbrev before_call_is_handed_call_in_14 : Room
before_call_is_handed_call_in_14 = record {
  plan = two_divisions;
  divisions = (division 1 4) ∷ (division 2 0) ∷ [];
  incidents = (incident 1 4 (grid 530000 180000) 2 (needs 1 0 0) 1030 None Active) ∷ [];
  calls = (call 2 3 1 4 4 false (grid 530000 180000) 2 (needs 1 0 0) [] 1030) ∷ [];
  vehicles =
      (vehicle A1 1 1 Car (grid 530100 180000) Available 40000 None 0 0)
      ∷ (vehicle A2 1 1 Car (grid 560100 180000) Available 2000 None 0 0) ∷ [];
  turns = [];
  assignments = [];
  points = [];
  loans = [];
  offers = [];
  reports = [];
}

call_is_handed_call_in_14 : Hands 1
    (at 1090 (Position 2) (ask.Call (call_form 4 (grid 530120 180160) 2 (needs 0 1 0) [])))
    before_call_is_handed_call_in_14 (Some
    (CallIn (at 1090 (Position 2) (ask.Call
    (call_form 4 (grid 530120 180160) 2 (needs 0 1 0) []))))) []
    (record before_call_is_handed_call_in_14 {
      divisions = (division 1 4) ∷ [];
      incidents =
          (incident 1 4 (grid 530000 180000) 2 (needs 1 1 0) 1030 None Active)
          ∷ [];
      calls = (call 2 3 1 4 4 false (grid 530000 180000) 2
          (needs 1 0 0) [] 1030) ∷ (call 2 4 1 4 4 true (grid 530120 180160) 2
          (needs 0 1 0) [] 1090) ∷ [];
    })
unfolding machine
call_is_handed_call_in_14 = (refl, refl, refl, refl)

abbrev before_decline_is_handed_declined : Room
before_decline_is_handed_declined = record {
  plan = two_divisions;
  divisions = (division 1 0) ∷ (division 2 0) ∷ [];
  incidents = [];
  calls = [];
  vehicles =
      (vehicle A1 2 2 Support (grid 530100 180100) Offered 2000 None 0 0)
      ∷ (vehicle A2 1 1 Ambulance (grid 560200 180000) Available 40000 None 0 0) ∷ [];
  turns = [];
  assignments = [];
  points = [];
  loans = [];
  offers = (offer A1 2 1 1030 1430) ∷ [];
  reports = [];
}

decline_is_handed_declined : Hands 2
    (at 1542 (Desk 1) (ask.Decline A1)) before_decline_is_handed_declined (Some (Declined A1)) []
    (record before_decline_is_handed_declined {
      divisions = (division 2 0) ∷ [];
      vehicles =
          (vehicle A1 2 2 Support (grid 530100 180100) Available 2000 None 0 0)
          ∷ [];
      offers = [];
    })
unfolding machine
decline_is_handed_declined = (refl, refl, refl, refl)

abbrev before_decline_is_handed_declined_2 : Room
before_decline_is_handed_declined_2 = record {
  plan = two_divisions;
  divisions = (division 1 0) ∷ (division 2 3) ∷ [];
  incidents = [];
  calls = [];
  vehicles =
      (vehicle A1 2 2 Car (grid 530100 180100) Offered 5000 None 0 2)
      ∷ (vehicle A2 1 1 Ambulance (grid 530200 180000) OffDuty 0 None 0 0) ∷ [];
  turns = [];
  assignments = [];
  points = [];
  loans = [];
  offers = (offer A1 2 1 980 1980) ∷ [];
  reports = (report A1 2 button.Leave 0 (grid 530120 180160) 1401 2 Wrong Offered false) ∷ [];
}

decline_is_handed_declined_2 : Hands 2
    (at 1406 (Desk 1) (ask.Decline A1)) before_decline_is_handed_declined_2 (Some (Declined A1)) []
    (record before_decline_is_handed_declined_2 {
      divisions = (division 2 3) ∷ [];
      vehicles =
          (vehicle A1 2 2 Car (grid 530100 180100) Available 5000 None 0 2) ∷ [];
      offers = [];
    })
unfolding machine
decline_is_handed_declined_2 = (refl, refl, refl, refl)

abbrev before_decline_is_handed_declined_3 : Room
before_decline_is_handed_declined_3 = record {
  plan = two_divisions;
  divisions = (division 1 0) ∷ (division 2 0) ∷ [];
  incidents = [];
  calls = [];
  vehicles =
      (vehicle A1 2 2 Car (grid 530300 180400) Offered 5000 None 0 1)
      ∷ (vehicle A2 1 1 Car (grid 530000 180000) Available 5000 None 0 0) ∷ [];
  turns = [];
  assignments = [];
  points = [];
  loans = [];
  offers = (offer A1 2 1 1130 1230) ∷ [];
  reports = (report A1 1 button.Leave 0 (grid 530201 180000) 1135 2 Wrong Offered false) ∷ [];
}

decline_is_handed_declined_3 : Hands 2
    (at 1316 (Desk 1) (ask.Decline A1)) before_decline_is_handed_declined_3 (Some (Declined A1)) []
    (record before_decline_is_handed_declined_3 {
      divisions = (division 2 0) ∷ [];
      vehicles =
          (vehicle A1 2 2 Car (grid 530300 180400) Available 5000 None 0 1) ∷ [];
      offers = [];
    })
unfolding machine
decline_is_handed_declined_3 = (refl, refl, refl, refl)

abbrev before_decline_is_handed_declined_4 : Room
before_decline_is_handed_declined_4 = record {
  plan = two_divisions;
  divisions = (division 1 2147483647) ∷ (division 2 2147483647) ∷ [];
  incidents = [];
  calls = [];
  vehicles =
      (vehicle A1 1 1 Support (grid 530100 180100) OffDuty 0 None 0 0)
      ∷ (vehicle A2 2 2 Ambulance (grid 531000 180000) OffDuty 0 None 0 0)
      ∷ (vehicle A3 2 2 Support (grid 530100 180100) Offered 5000 None 0 0) ∷ [];
  turns = [];
  assignments = [];
  points = [];
  loans = [];
  offers = (offer A3 2 1 4999 5399) ∷ [];
  reports = [];
}

decline_is_handed_declined_4 : Hands 2
    (at 1301 (Desk 1) (ask.Decline A3)) before_decline_is_handed_declined_4 (Some (Declined A3)) []
    (record before_decline_is_handed_declined_4 {
      divisions = (division 2 2147483647)
          ∷ [];
      vehicles = (vehicle A2 2 2 Ambulance (grid 531000 180000) OffDuty 0 None 0 0)
          ∷ (vehicle A3 2 2 Support (grid 530100 180100) Available 5000 None 0 0)
          ∷ [];
      offers = [];
    })
unfolding machine
decline_is_handed_declined_4 = (refl, refl, refl, refl)
