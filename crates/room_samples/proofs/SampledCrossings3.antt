-- Sampled steps: what an event hands to a division, what its desk is answered, and its share after
-- it. A program that is independent of this repository, written from the rules in words, made them
-- in random runs; of each kind of step it kept those with the fewest rows.
use Rattle.std.specs.Prelude.{None, Some, [], codes, false, negsuc, pos, refl, true, ◌∷◌}
use Rattle.room_types.specs.declared.asks.Ask.TheVariants as ask
use Rattle.room_types.specs.declared.asks.Who.TheVariants.{Crew, Desk}
use Rattle.room_types.specs.declared.codes.Button.TheVariants as button
use Rattle.room_types.specs.declared.codes.Kind.TheVariants.{Ambulance, Car, Support}
use Rattle.room_types.specs.declared.codes.Outcome.TheVariants.{Normal, Wrong}
use Rattle.room_types.specs.declared.codes.State.TheVariants.{Active}
use Rattle.room_types.specs.declared.codes.Status.TheVariants.{Available, Mobilised, OffDuty}
use Rattle.room_types.specs.declared.codes.Status.TheVariants.{Offered}
use Rattle.room_model.specs.Room.{Room}
use Rattle.room_model.specs.ComputedDefinitions.{machine}
use Rattle.room_samples.specs.ExampleRows.{assignment, call, division, grid, incident, loan, offer}
use Rattle.room_samples.specs.ExampleRows.{point, pressed, report, turn, vehicle}
use Rattle.room_samples.specs.SampledRooms.{A1, A2, A3, B1, B2, Z9, overlapping_divisions}
use Rattle.room_samples.specs.SampledRooms.{two_divisions}
use Rattle.room_samples.specs.SampledSteps.{Hands}
use Rattle.room_model.specs.StepWords.{at, needs}

abbrev before_lend_is_handed_nothing_3 : Room
before_lend_is_handed_nothing_3 = record {
  plan = two_divisions;
  divisions = (division 1 0) ∷ (division 2 0) ∷ [];
  incidents = [];
  calls = [];
  vehicles =
      (vehicle A1 2 2 Ambulance (grid 530100 180100) Offered 2000 None 0 0)
      ∷ (vehicle A2 2 2 Car (grid 530100 180100) OffDuty 0 None 0 0) ∷ [];
  turns = [];
  assignments = [];
  points = [];
  loans = [];
  offers = (offer A1 2 1 1481 1881) ∷ [];
  reports = [];
}

lend_is_handed_nothing_3 : Hands 1
    (at 2001 (Desk 2) (ask.Lend A1 1 2101)) before_lend_is_handed_nothing_3 None []
    (record before_lend_is_handed_nothing_3 { divisions = (division 1 0) ∷ []; vehicles = [] })
unfolding machine
lend_is_handed_nothing_3 = (refl, refl, refl, refl)

abbrev before_lend_is_handed_nothing_4 : Room
before_lend_is_handed_nothing_4 = record {
  plan = two_divisions;
  divisions = (division 1 0) ∷ (division 2 0) ∷ [];
  incidents = [];
  calls = [];
  vehicles =
      (vehicle A1 1 1 Car (grid 530100 180100) Offered 40000 None 0 1)
      ∷ (vehicle A2 2 2 Ambulance (grid 530000 180000) Available 2000 None 0 3)
      ∷ (vehicle A3 2 2 Ambulance (grid 560100 180000) Available 5000 None 0 0) ∷ [];
  turns = [];
  assignments = [];
  points = [];
  loans = [];
  offers = (offer A1 1 2 1542 1942) ∷ [];
  reports =
      (report A1 1 button.Hospital 0 (grid 530200 180000) 1522 1 Wrong Offered false)
      ∷ (report A2 1 button.Home 0 (grid 530000 180000) 1522 2 Normal Available false)
      ∷ (report A2 3 button.Leave 0 (grid 530200 180000) 1552 2 Wrong Available false) ∷ [];
}

lend_is_handed_nothing_4 : Hands 2
    (at 1648 (Desk 1) (ask.Lend A1 2 1748)) before_lend_is_handed_nothing_4 None []
    (record before_lend_is_handed_nothing_4 {
      divisions = (division 2 0) ∷ [];
      vehicles =
          (vehicle A2 2 2 Ambulance (grid 530000 180000) Available 2000 None 0 3)
          ∷ (vehicle A3 2 2 Ambulance (grid 560100 180000) Available 5000 None 0 0)
          ∷ [];
      reports = (report A2 1 button.Home 0
          (grid 530000 180000) 1522 2 Normal Available false)
          ∷ (report A2 3 button.Leave 0 (grid 530200 180000) 1552 2 Wrong Available
          false) ∷ [];
    })
unfolding machine
lend_is_handed_nothing_4 = (refl, refl, refl, refl)

abbrev before_loans_is_handed_nothing : Room
before_loans_is_handed_nothing = record {
  plan = overlapping_divisions;
  divisions = (division 1 3) ∷ (division 7 0) ∷ [];
  incidents = [];
  calls = [];
  vehicles =
      (vehicle A1 1 1 Ambulance (grid 560200 180000) OffDuty 0 None 0 0)
      ∷ (vehicle A2 7 7 Car (grid 560000 180000) Available 2000 None 0 0) ∷ [];
  turns = [];
  assignments = [];
  points = [];
  loans = [];
  offers = [];
  reports = [];
}

loans_is_handed_nothing : Hands 1
    (at 1482 (Desk 7) ask.Loans) before_loans_is_handed_nothing None []
    (record before_loans_is_handed_nothing {
      divisions = (division 1 3) ∷ [];
      vehicles =
          (vehicle A1 1 1 Ambulance (grid 560200 180000) OffDuty 0 None 0 0) ∷ [];
    })
unfolding machine
loans_is_handed_nothing = (refl, refl, refl, refl)

abbrev before_loans_is_handed_nothing_2 : Room
before_loans_is_handed_nothing_2 = record {
  plan = overlapping_divisions;
  divisions = (division 1 0) ∷ (division 7 0) ∷ [];
  incidents = [];
  calls = [];
  vehicles =
      (vehicle A1 7 7 Ambulance (grid 530201 180000) OffDuty 0 None 0 0)
      ∷ (vehicle A2 1 1 Car (grid 530200 180000) OffDuty 0 None 0 0) ∷ [];
  turns = [];
  assignments = [];
  points = [];
  loans = [];
  offers = [];
  reports = [];
}

loans_is_handed_nothing_2 : Hands 1
    (at 1001 (Desk 7) ask.Loans) before_loans_is_handed_nothing_2 None []
    (record before_loans_is_handed_nothing_2 {
      divisions = (division 1 0) ∷ [];
      vehicles =
          (vehicle A2 1 1 Car (grid 530200 180000) OffDuty 0 None 0 0) ∷ [];
    })
unfolding machine
loans_is_handed_nothing_2 = (refl, refl, refl, refl)

abbrev before_merge_is_handed_nothing : Room
before_merge_is_handed_nothing = record {
  plan = overlapping_divisions;
  divisions = (division 1 2) ∷ (division 7 0) ∷ [];
  incidents =
      (incident 1 1 (grid 530201 180000) 3 (needs 0 1 0) 1301 None Active)
      ∷ (incident 1 2 (grid 531000 180000) 1 (needs 1 0 0) 1432 None Active) ∷ [];
  calls =
      (call 2 1 1 1 1 false (grid 530201 180000) 3 (needs 0 1 0) [] 1301)
      ∷ (call 2 4 1 2 2 false (grid 531000 180000) 1 (needs 1 0 0) (codes "x") 1432) ∷ [];
  vehicles =
      (vehicle A1 7 7 Ambulance (grid 530100 180000) Available 40000 None 0 0)
      ∷ (vehicle A2 7 7 Ambulance (grid 530120 180160) OffDuty 0 None 0 0) ∷ [];
  turns = [];
  assignments = [];
  points = [];
  loans = [];
  offers = [];
  reports = [];
}

merge_is_handed_nothing : Hands 7
    (at 1437 (Desk 1) (ask.Merge 2 1)) before_merge_is_handed_nothing None []
    (record before_merge_is_handed_nothing
    { divisions = (division 7 0) ∷ []; incidents = []; calls = [] })
unfolding machine
merge_is_handed_nothing = (refl, refl, refl, refl)

abbrev before_merge_is_handed_nothing_2 : Room
before_merge_is_handed_nothing_2 = record {
  plan = two_divisions;
  divisions = (division 1 2) ∷ (division 2 0) ∷ [];
  incidents =
      (incident 1 1 (grid 530000 180000) 3 (needs 0 0 1) 1632 None Active)
      ∷ (incident 1 2 (grid 530000 180000) 2 (needs 1 0 0) 5233 None Active) ∷ [];
  calls =
      (call 1 6 1 1 1 false (grid 530000 180000) 3 (needs 0 0 1) [] 1632)
      ∷ (call 2 4 1 2 2 false (grid 530000 180000) 2 (needs 1 0 0) (codes "x") 5233) ∷ [];
  vehicles =
      (vehicle A1 2 2 Ambulance (grid 530000 180000) OffDuty 0 None 0 1)
      ∷ (vehicle A2 2 2 Ambulance (grid 560200 180000) Available 5000 None 2147483647 0)
      ∷ (vehicle A3 1 1 Ambulance (grid 560000 180000) OffDuty 5000 None 0 0)
      ∷ (vehicle B1 2 2 Ambulance (grid 560000 180000) OffDuty 0 None 0 0) ∷ [];
  turns = [];
  assignments = [];
  points = [];
  loans = [];
  offers = [];
  reports = (report A1 1 button.Return 0 (grid 530300 180400) 1181 2 Wrong OffDuty false) ∷ [];
}

merge_is_handed_nothing_2 : Hands 2
    (at 1943 (Desk 1) (ask.Merge 1 2)) before_merge_is_handed_nothing_2 None []
    (record before_merge_is_handed_nothing_2 {
      divisions = (division 2 0) ∷ [];
      incidents = [];
      calls = [];
      vehicles =
          (vehicle A1 2 2 Ambulance (grid 530000 180000) OffDuty 0 None 0 1)
          ∷ (vehicle A2 2 2 Ambulance (grid 560200 180000) Available 5000 None 2147483647 0)
          ∷ (vehicle B1 2 2 Ambulance (grid 560000 180000) OffDuty 0 None 0 0) ∷ [];
    })
unfolding machine
merge_is_handed_nothing_2 = (refl, refl, refl, refl)

abbrev before_merge_is_handed_nothing_3 : Room
before_merge_is_handed_nothing_3 = record {
  plan = two_divisions;
  divisions = (division 1 3) ∷ (division 2 3) ∷ [];
  incidents = [];
  calls = [];
  vehicles =
      (vehicle A1 2 2 Ambulance (grid 531000 180000) Available 2000 None 0 0)
      ∷ (vehicle A2 1 1 Ambulance (grid 530100 180000) OffDuty 0 None 0 0) ∷ [];
  turns = [];
  assignments = [];
  points = [];
  loans = [];
  offers = [];
  reports = [];
}

merge_is_handed_nothing_3 : Hands 2
    (at 1061 (Desk 1) (ask.Merge 1 9)) before_merge_is_handed_nothing_3 None []
    (record before_merge_is_handed_nothing_3 {
      divisions = (division 2 3) ∷ [];
      vehicles =
          (vehicle A1 2 2 Ambulance (grid 531000 180000) Available 2000 None 0 0) ∷ [];
    })
unfolding machine
merge_is_handed_nothing_3 = (refl, refl, refl, refl)

abbrev before_merge_is_handed_nothing_4 : Room
before_merge_is_handed_nothing_4 = record {
  plan = two_divisions;
  divisions = (division 1 0) ∷ (division 2 0) ∷ [];
  incidents = [];
  calls = [];
  vehicles =
      (vehicle A1 1 1 Car (grid 530100 180000) Available 2000 None 0 0)
      ∷ (vehicle A2 1 1 Car (grid 530100 180100) Available 2000 None 0 0) ∷ [];
  turns = [];
  assignments = [];
  points = [];
  loans = [];
  offers = [];
  reports = [];
}

merge_is_handed_nothing_4 : Hands 1
    (at 1421 (Desk 2) (ask.Merge 2 9)) before_merge_is_handed_nothing_4 None []
    (record before_merge_is_handed_nothing_4 { divisions = (division 1 0) ∷ [] })
unfolding machine
merge_is_handed_nothing_4 = (refl, refl, refl, refl)

abbrev before_mobilise_is_handed_nothing : Room
before_mobilise_is_handed_nothing = record {
  plan = two_divisions;
  divisions = (division 1 0) ∷ (division 2 4) ∷ [];
  incidents = (incident 2 4 (grid 560100 180000) 1 (needs 0 0 1) 1061 None Active) ∷ [];
  calls = (call 2 5 2 4 4 false (grid 560100 180000) 1 (needs 0 0 1) [] 1061) ∷ [];
  vehicles =
      (vehicle A1 2 2 Support (grid 560200 180000) Available 40000 None 0 0)
      ∷ (vehicle A2 2 2 Car (grid 531000 180000) OffDuty 0 None 0 0) ∷ [];
  turns = [];
  assignments = [];
  points = [];
  loans = [];
  offers = [];
  reports = [];
}

mobilise_is_handed_nothing : Hands 1
    (at 1066 (Desk 2) (ask.Mobilise 4 A1)) before_mobilise_is_handed_nothing None []
    (record before_mobilise_is_handed_nothing
    { divisions = (division 1 0) ∷ []; incidents = []; calls = []; vehicles = [] })
unfolding machine
mobilise_is_handed_nothing = (refl, refl, refl, refl)

abbrev before_mobilise_is_handed_nothing_2 : Room
before_mobilise_is_handed_nothing_2 = record {
  plan = two_divisions;
  divisions = (division 1 4) ∷ (division 2 0) ∷ [];
  incidents = (incident 1 4 (grid 530120 180160) 1 (needs 2 0 0) 2124 None Active) ∷ [];
  calls = (call 1 4 1 4 4 false (grid 530120 180160) 1 (needs 2 0 0) (codes "x") 2124) ∷ [];
  vehicles =
      (vehicle A1 1 1 Ambulance (grid 530201 180000) Available 40000 None 0 1)
      ∷ (vehicle A2 1 1 Ambulance (grid 530120 180160) Available 5000 None 0 0) ∷ [];
  turns = [];
  assignments = [];
  points = [];
  loans = [];
  offers = [];
  reports = (report A1 1 button.Mobile 0 (grid 530201 180000) 1461 1 Wrong Available false) ∷ [];
}

mobilise_is_handed_nothing_2 : Hands 2
    (at 2125 (Desk 1) (ask.Mobilise 4 A1)) before_mobilise_is_handed_nothing_2 None []
    (record before_mobilise_is_handed_nothing_2 {
      divisions = (division 2 0) ∷ [];
      incidents = [];
      calls = [];
      vehicles = [];
      reports =
          [];
    })
unfolding machine
mobilise_is_handed_nothing_2 = (refl, refl, refl, refl)

abbrev before_mobilise_is_handed_nothing_3 : Room
before_mobilise_is_handed_nothing_3 = record {
  plan = two_divisions;
  divisions = (division 1 0) ∷ (division 2 3) ∷ [];
  incidents = [];
  calls = [];
  vehicles =
      (vehicle A1 1 1 Ambulance (grid 530120 180160) Available 40000 None 0 0)
      ∷ (vehicle A2 1 1 Ambulance (grid 530000 180000) Available 5000 None 0 0) ∷ [];
  turns = [];
  assignments = [];
  points = [];
  loans = [];
  offers = [];
  reports = [];
}

mobilise_is_handed_nothing_3 : Hands 1
    (at 1181 (Desk 2) (ask.Mobilise 9 A1)) before_mobilise_is_handed_nothing_3 None []
    (record before_mobilise_is_handed_nothing_3 { divisions = (division 1 0) ∷ [] })
unfolding machine
mobilise_is_handed_nothing_3 = (refl, refl, refl, refl)

abbrev before_mobilise_is_handed_nothing_4 : Room
before_mobilise_is_handed_nothing_4 = record {
  plan = two_divisions;
  divisions = (division 1 0) ∷ (division 2 1) ∷ [];
  incidents = (incident 2 1 (grid 560200 180000) 2 (needs 1 0 0) 2390 None Active) ∷ [];
  calls = (call 1 4 2 1 1 false (grid 560200 180000) 2 (needs 1 0 0) [] 2390) ∷ [];
  vehicles =
      (vehicle A1 2 2 Car (grid 560100 180000) OffDuty 0 None 0 0)
      ∷ (vehicle A2 1 1 Ambulance (grid 530201 180000) Available 40000 None 0 2) ∷ [];
  turns = [];
  assignments = [];
  points = [];
  loans = [];
  offers = [];
  reports = (report A2 2 button.Position 0 (grid 530201 180000) 1783 1 Normal Available false) ∷ [];
}

mobilise_is_handed_nothing_4 : Hands 1
    (at 2871 (Desk 2) (ask.Mobilise 1 A2)) before_mobilise_is_handed_nothing_4 None []
    (record before_mobilise_is_handed_nothing_4 {
      divisions = (division 1 0) ∷ [];
      incidents = [];
      calls = [];
      vehicles =
          (vehicle A2 1 1 Ambulance (grid 530201 180000) Available 40000 None 0 2) ∷ [];
    })
unfolding machine
mobilise_is_handed_nothing_4 = (refl, refl, refl, refl)

abbrev before_needs_is_handed_nothing : Room
before_needs_is_handed_nothing = record {
  plan = two_divisions;
  divisions = (division 1 0) ∷ (division 2 1) ∷ [];
  incidents = (incident 2 1 (grid 560200 180000) 3 (needs 0 1 0) 1031 None Active) ∷ [];
  calls = (call 1 4 2 1 1 false (grid 560200 180000) 3 (needs 0 1 0) [] 1031) ∷ [];
  vehicles =
      (vehicle A1 2 2 Ambulance (grid 530120 180160) Available 5000 None 0 0)
      ∷ (vehicle A2 2 2 Ambulance (grid 530100 180100) Available 2000 None 0 0) ∷ [];
  turns = [];
  assignments = [];
  points = [];
  loans = [];
  offers = [];
  reports = [];
}

needs_is_handed_nothing : Hands 1
    (at 1036 (Desk 2) (ask.Needs 1 (needs 0 1 0))) before_needs_is_handed_nothing None []
    (record before_needs_is_handed_nothing
    { divisions = (division 1 0) ∷ []; incidents = []; calls = []; vehicles = [] })
unfolding machine
needs_is_handed_nothing = (refl, refl, refl, refl)

abbrev before_needs_is_handed_nothing_2 : Room
before_needs_is_handed_nothing_2 = record {
  plan = two_divisions;
  divisions = (division 1 1) ∷ (division 2 0) ∷ [];
  incidents = (incident 1 1 (grid 530200 180000) 2 (needs 0 0 1) 1030 None Active) ∷ [];
  calls = (call 1 2 1 1 1 false (grid 530200 180000) 2 (needs 0 0 1) (codes "x") 1030) ∷ [];
  vehicles =
      (vehicle A1 1 1 Ambulance (grid 530100 180100) Available 5000 None 0 0)
      ∷ (vehicle A2 2 2 Ambulance (grid 530300 180400) OffDuty 0 None 0 0) ∷ [];
  turns = [];
  assignments = [];
  points = [];
  loans = [];
  offers = [];
  reports = [];
}

needs_is_handed_nothing_2 : Hands 2
    (at 1035 (Desk 1) (ask.Needs 1 (needs 1 1 0))) before_needs_is_handed_nothing_2 None []
    (record before_needs_is_handed_nothing_2 {
      divisions = (division 2 0) ∷ [];
      incidents = [];
      calls = [];
      vehicles =
          (vehicle A2 2 2 Ambulance (grid 530300 180400) OffDuty 0 None 0 0) ∷ [];
    })
unfolding machine
needs_is_handed_nothing_2 = (refl, refl, refl, refl)

abbrev before_needs_is_handed_nothing_3 : Room
before_needs_is_handed_nothing_3 = record {
  plan = two_divisions;
  divisions = (division 1 2147483646) ∷ (division 2 2147483646) ∷ [];
  incidents = [];
  calls = [];
  vehicles =
      (vehicle A1 2 2 Ambulance (grid 560100 180000) OffDuty 0 None 0 0)
      ∷ (vehicle A2 2 2 Ambulance (grid 531000 180000) OffDuty 0 None 0 0) ∷ [];
  turns = [];
  assignments = [];
  points = [];
  loans = [];
  offers = [];
  reports = [];
}

needs_is_handed_nothing_3 : Hands 1
    (at 1512 (Desk 2) (ask.Needs 9 (needs 2 0 0))) before_needs_is_handed_nothing_3 None []
    (record before_needs_is_handed_nothing_3
    { divisions = (division 1 2147483646) ∷ []; vehicles = [] })
unfolding machine
needs_is_handed_nothing_3 = (refl, refl, refl, refl)

abbrev before_needs_is_handed_nothing_4 : Room
before_needs_is_handed_nothing_4 = record {
  plan = two_divisions;
  divisions = (division 1 3) ∷ (division 2 3) ∷ [];
  incidents = [];
  calls = [];
  vehicles =
      (vehicle A1 2 2 Ambulance (grid 530201 180000) Available 40000 None 0 0)
      ∷ (vehicle A2 1 1 Ambulance (grid 530000 180000) OffDuty 0 None 0 0) ∷ [];
  turns = [];
  assignments = [];
  points = [];
  loans = [];
  offers = [];
  reports = [];
}

needs_is_handed_nothing_4 : Hands 1
    (at 1553 (Desk 2) (ask.Needs 9 (needs 1 1 0))) before_needs_is_handed_nothing_4 None []
    (record before_needs_is_handed_nothing_4 {
      divisions = (division 1 3) ∷ [];
      vehicles =
          (vehicle A2 1 1 Ambulance (grid 530000 180000) OffDuty 0 None 0 0) ∷ [];
    })
unfolding machine
needs_is_handed_nothing_4 = (refl, refl, refl, refl)

abbrev before_off_is_handed_nothing : Room
before_off_is_handed_nothing = record {
  plan = overlapping_divisions;
  divisions = (division 1 0) ∷ (division 7 0) ∷ [];
  incidents = [];
  calls = [];
  vehicles =
      (vehicle A1 1 1 Ambulance (grid 530100 180000) Available 40000 None 0 0)
      ∷ (vehicle A2 7 7 Ambulance (grid 560200 180000) Available 40000 None 0 0) ∷ [];
  turns = [];
  assignments = [];
  points = [];
  loans = [];
  offers = [];
  reports = [];
}

off_is_handed_nothing : Hands 1 (at 1487 (Desk 7) (ask.Off A2)) before_off_is_handed_nothing None
    [] (record before_off_is_handed_nothing {
      divisions = (division 1 0) ∷ [];
      vehicles =
          (vehicle A1 1 1 Ambulance (grid 530100 180000) Available 40000 None 0 0) ∷ [];
    })
unfolding machine
off_is_handed_nothing = (refl, refl, refl, refl)

abbrev before_off_is_handed_nothing_2 : Room
before_off_is_handed_nothing_2 = record {
  plan = two_divisions;
  divisions = (division 1 0) ∷ (division 2 0) ∷ [];
  incidents = [];
  calls = [];
  vehicles =
      (vehicle A1 1 1 Support (grid 530000 180000) Available 40000 None 0 0)
      ∷ (vehicle A2 1 1 Ambulance (grid 560200 180000) Available 5000 None 0 0) ∷ [];
  turns = [];
  assignments = [];
  points = [];
  loans = [];
  offers = [];
  reports = [];
}

off_is_handed_nothing_2 : Hands 2
    (at 1301 (Desk 1) (ask.Off A1)) before_off_is_handed_nothing_2 None []
    (record before_off_is_handed_nothing_2 { divisions = (division 2 0) ∷ []; vehicles = [] })
unfolding machine
off_is_handed_nothing_2 = (refl, refl, refl, refl)

abbrev before_off_is_handed_nothing_3 : Room
before_off_is_handed_nothing_3 = record {
  plan = two_divisions;
  divisions = (division 1 0) ∷ (division 2 0) ∷ [];
  incidents = [];
  calls = [];
  vehicles =
      (vehicle A1 2 2 Ambulance (grid 530000 180000) OffDuty 0 None 2147483647 0)
      ∷ (vehicle A2 1 1 Ambulance (grid 530201 180000) Available 2000 None 0 0) ∷ [];
  turns = [];
  assignments = [];
  points = [];
  loans = [];
  offers = [];
  reports = [];
}

off_is_handed_nothing_3 : Hands 1
    (at 1061 (Desk 2) (ask.Off A2)) before_off_is_handed_nothing_3 None []
    (record before_off_is_handed_nothing_3 {
      divisions = (division 1 0) ∷ [];
      vehicles =
          (vehicle A2 1 1 Ambulance (grid 530201 180000) Available 2000 None 0 0) ∷ [];
    })
unfolding machine
off_is_handed_nothing_3 = (refl, refl, refl, refl)

abbrev before_off_is_handed_nothing_4 : Room
before_off_is_handed_nothing_4 = record {
  plan = two_divisions;
  divisions = (division 1 0) ∷ (division 2 0) ∷ [];
  incidents = [];
  calls = [];
  vehicles =
      (vehicle A1 1 1 Car (grid 560100 180000) OffDuty 0 None 0 0)
      ∷ (vehicle A2 2 2 Support (grid 560000 180000) OffDuty 0 None 0 0)
      ∷ (vehicle A3 1 1 Ambulance (grid 560200 180000) Available 5000 None 0 0) ∷ [];
  turns = [];
  assignments = [];
  points = [];
  loans = [];
  offers = [];
  reports = [];
}

off_is_handed_nothing_4 : Hands 1
    (at 1486 (Desk 2) (ask.Off A3)) before_off_is_handed_nothing_4 None []
    (record before_off_is_handed_nothing_4 {
      divisions = (division 1 0) ∷ [];
      vehicles =
          (vehicle A1 1 1 Car (grid 560100 180000) OffDuty 0 None 0 0)
          ∷ (vehicle A3 1 1 Ambulance (grid 560200 180000) Available 5000 None 0 0) ∷ [];
    })
unfolding machine
off_is_handed_nothing_4 = (refl, refl, refl, refl)

abbrev before_offers_is_handed_nothing : Room
before_offers_is_handed_nothing = record {
  plan = two_divisions;
  divisions = (division 1 3) ∷ (division 2 0) ∷ [];
  incidents = [];
  calls = [];
  vehicles =
      (vehicle A1 2 2 Ambulance (grid 530201 180000) Available 2000 None 2147483647 0)
      ∷ (vehicle A2 2 2 Ambulance (grid 530200 180000) Available 5000 None 0 0) ∷ [];
  turns = [];
  assignments = [];
  points = [];
  loans = [];
  offers = [];
  reports = [];
}

offers_is_handed_nothing : Hands 1
    (at 1030 (Desk 2) ask.Offers) before_offers_is_handed_nothing None []
    (record before_offers_is_handed_nothing { divisions = (division 1 3) ∷ []; vehicles = [] })
unfolding machine
offers_is_handed_nothing = (refl, refl, refl, refl)

abbrev before_offers_is_handed_nothing_2 : Room
before_offers_is_handed_nothing_2 = record {
  plan = two_divisions;
  divisions = (division 1 0) ∷ (division 2 0) ∷ [];
  incidents = [];
  calls = [];
  vehicles =
      (vehicle A1 2 2 Ambulance (grid 560000 180000) Available 40000 None 0 0)
      ∷ (vehicle A2 2 2 Ambulance (grid 530200 180000) OffDuty 0 None 0 0) ∷ [];
  turns = [];
  assignments = [];
  points = [];
  loans = [];
  offers = [];
  reports = [];
}

offers_is_handed_nothing_2 : Hands 1
    (at 1001 (Desk 2) ask.Offers) before_offers_is_handed_nothing_2 None []
    (record before_offers_is_handed_nothing_2 { divisions = (division 1 0) ∷ []; vehicles = [] })
unfolding machine
offers_is_handed_nothing_2 = (refl, refl, refl, refl)

abbrev before_order_is_handed_nothing : Room
before_order_is_handed_nothing = record {
  plan = overlapping_divisions;
  divisions = (division 1 3) ∷ (division 7 0) ∷ [];
  incidents = [];
  calls = [];
  vehicles =
      (vehicle A1 7 7 Support (grid 530000 180000) OffDuty 40000 None 0 0)
      ∷ (vehicle A2 7 7 Ambulance (grid 560200 180000) OffDuty 0 None 0 0) ∷ [];
  turns = [];
  assignments = [];
  points = [];
  loans = [];
  offers = [];
  reports = [];
}

order_is_handed_nothing : Hands 1
    (at 1397 (Crew A1) ask.Order) before_order_is_handed_nothing None []
    (record before_order_is_handed_nothing { divisions = (division 1 3) ∷ []; vehicles = [] })
unfolding machine
order_is_handed_nothing = (refl, refl, refl, refl)

abbrev before_order_is_handed_nothing_2 : Room
before_order_is_handed_nothing_2 = record {
  plan = two_divisions;
  divisions = (division 1 0) ∷ (division 2 0) ∷ [];
  incidents = [];
  calls = [];
  vehicles =
      (vehicle A1 2 2 Ambulance (grid 530000 180000) Available 5000 None 0 0)
      ∷ (vehicle A2 1 1 Ambulance (grid 530100 180000) Available 5000 None 0 0) ∷ [];
  turns = [];
  assignments = [];
  points = [];
  loans = [];
  offers = [];
  reports = [];
}

order_is_handed_nothing_2 : Hands 2
    (at 1481 (Crew A2) ask.Order) before_order_is_handed_nothing_2 None []
    (record before_order_is_handed_nothing_2 {
      divisions = (division 2 0) ∷ [];
      vehicles =
          (vehicle A1 2 2 Ambulance (grid 530000 180000) Available 5000 None 0 0) ∷ [];
    })
unfolding machine
order_is_handed_nothing_2 = (refl, refl, refl, refl)

abbrev before_points_is_handed_nothing : Room
before_points_is_handed_nothing = record {
  plan = overlapping_divisions;
  divisions = (division 1 0) ∷ (division 7 0) ∷ [];
  incidents = [];
  calls = [];
  vehicles =
      (vehicle A1 7 7 Car (grid 531000 180000) OffDuty 0 None 0 0)
      ∷ (vehicle A2 7 7 Ambulance (grid 530300 180400) Available 2000 None 0 0) ∷ [];
  turns = [];
  assignments = [];
  points = [];
  loans = [];
  offers = [];
  reports = [];
}

points_is_handed_nothing : Hands 7
    (at 1272 (Desk 1) ask.Points) before_points_is_handed_nothing None []
    (record before_points_is_handed_nothing { divisions = (division 7 0) ∷ [] })
unfolding machine
points_is_handed_nothing = (refl, refl, refl, refl)

abbrev before_points_is_handed_nothing_2 : Room
before_points_is_handed_nothing_2 = record {
  plan = two_divisions;
  divisions = (division 1 0) ∷ (division 2 0) ∷ [];
  incidents = [];
  calls = [];
  vehicles =
      (vehicle A1 1 1 Ambulance (grid 530200 180000) OffDuty 0 None 0 0)
      ∷ (vehicle A2 1 1 Ambulance (grid 530201 180000) Available 40000 None 0 0)
      ∷ (vehicle A3 1 1 Support (grid 560200 180000) Available 5000 None 0 0) ∷ [];
  turns = [];
  assignments = [];
  points = [];
  loans = [];
  offers = [];
  reports = [];
}

points_is_handed_nothing_2 : Hands 1
    (at 1001 (Desk 2) ask.Points) before_points_is_handed_nothing_2 None []
    (record before_points_is_handed_nothing_2 { divisions = (division 1 0) ∷ [] })
unfolding machine
points_is_handed_nothing_2 = (refl, refl, refl, refl)

abbrev before_propose_is_handed_nothing : Room
before_propose_is_handed_nothing = record {
  plan = two_divisions;
  divisions = (division 1 1) ∷ (division 2 0) ∷ [];
  incidents = (incident 1 1 (grid 530200 180000) 3 (needs 0 1 0) 1181 None Active) ∷ [];
  calls = (call 1 2 1 1 1 false (grid 530200 180000) 3 (needs 0 1 0) [] 1181) ∷ [];
  vehicles =
      (vehicle A1 2 2 Car (grid 530120 180160) Available 2000 None 0 0)
      ∷ (vehicle A2 1 1 Ambulance (grid 530100 180100) OffDuty 0 None 0 0) ∷ [];
  turns = [];
  assignments = [];
  points = [];
  loans = [];
  offers = [];
  reports = [];
}

propose_is_handed_nothing : Hands 2
    (at 1422 (Desk 1) (ask.Propose 1)) before_propose_is_handed_nothing None []
    (record before_propose_is_handed_nothing {
      divisions = (division 2 0) ∷ [];
      incidents = [];
      calls = [];
      vehicles =
          (vehicle A1 2 2 Car (grid 530120 180160) Available 2000 None 0 0) ∷ [];
    })
unfolding machine
propose_is_handed_nothing = (refl, refl, refl, refl)

abbrev before_propose_is_handed_nothing_2 : Room
before_propose_is_handed_nothing_2 = record {
  plan = two_divisions;
  divisions = (division 1 1) ∷ (division 2 0) ∷ [];
  incidents = (incident 1 1 (grid 531000 180000) 3 (needs 1 0 0) 1122 None Active) ∷ [];
  calls = (call 1 1 1 1 1 false (grid 531000 180000) 3 (needs 1 0 0) [] 1122) ∷ [];
  vehicles =
      (vehicle A1 1 1 Car (grid 560000 180000) Available 5000 None 0 1)
      ∷ (vehicle A2 1 1 Ambulance (grid 530120 180160) Available 40000 None 0 2) ∷ [];
  turns = [];
  assignments = [];
  points = [];
  loans = [];
  offers = [];
  reports =
      (report A1 1 button.Hospital 0 (grid 530120 180160) 1723 1 Wrong Available false)
      ∷ (report A2 2 button.Hospital 0 (grid 530100 180100) 1061 1 Wrong Available false) ∷ [];
}

propose_is_handed_nothing_2 : Hands 2
    (at 1728 (Desk 1) (ask.Propose 1)) before_propose_is_handed_nothing_2 None []
    (record before_propose_is_handed_nothing_2 {
      divisions = (division 2 0) ∷ [];
      incidents = [];
      calls = [];
      vehicles = [];
      reports =
          [];
    })
unfolding machine
propose_is_handed_nothing_2 = (refl, refl, refl, refl)

abbrev before_propose_is_handed_nothing_3 : Room
before_propose_is_handed_nothing_3 = record {
  plan = two_divisions;
  divisions = (division 1 2147483646) ∷ (division 2 2147483646) ∷ [];
  incidents = [];
  calls = [];
  vehicles =
      (vehicle A1 2 2 Ambulance (grid 530120 180160) OffDuty 0 None 0 0)
      ∷ (vehicle A2 2 2 Support (grid 530100 180100) OffDuty 0 None 0 0) ∷ [];
  turns = [];
  assignments = [];
  points = [];
  loans = [];
  offers = [];
  reports = [];
}

propose_is_handed_nothing_3 : Hands 1
    (at 980 (Desk 2) (ask.Propose 2)) before_propose_is_handed_nothing_3 None []
    (record before_propose_is_handed_nothing_3
    { divisions = (division 1 2147483646) ∷ []; vehicles = [] })
unfolding machine
propose_is_handed_nothing_3 = (refl, refl, refl, refl)

abbrev before_propose_is_handed_nothing_4 : Room
before_propose_is_handed_nothing_4 = record {
  plan = overlapping_divisions;
  divisions = (division 1 0) ∷ (division 7 0) ∷ [];
  incidents = [];
  calls = [];
  vehicles =
      (vehicle A1 1 1 Support (grid 530100 180000) Available 5000 None 0 0)
      ∷ (vehicle A2 1 1 Support (grid 530300 180400) Available 2000 None 0 0) ∷ [];
  turns = [];
  assignments = [];
  points = [];
  loans = [];
  offers = [];
  reports = [];
}

propose_is_handed_nothing_4 : Hands 1
    (at 1181 (Desk 7) (ask.Propose 1)) before_propose_is_handed_nothing_4 None []
    (record before_propose_is_handed_nothing_4 { divisions = (division 1 0) ∷ [] })
unfolding machine
propose_is_handed_nothing_4 = (refl, refl, refl, refl)

abbrev before_queue_is_handed_nothing : Room
before_queue_is_handed_nothing = record {
  plan = two_divisions;
  divisions = (division 1 0) ∷ (division 2 0) ∷ [];
  incidents = [];
  calls = [];
  vehicles =
      (vehicle A1 1 1 Ambulance (grid 530100 180000) OffDuty 0 None 0 0)
      ∷ (vehicle A2 1 1 Ambulance (grid 560000 180000) OffDuty 0 None 0 0) ∷ [];
  turns = [];
  assignments = [];
  points = [];
  loans = [];
  offers = [];
  reports = [];
}

queue_is_handed_nothing : Hands 2
    (at 1481 (Desk 1) ask.Queue) before_queue_is_handed_nothing None []
    (record before_queue_is_handed_nothing { divisions = (division 2 0) ∷ []; vehicles = [] })
unfolding machine
queue_is_handed_nothing = (refl, refl, refl, refl)

abbrev before_queue_is_handed_nothing_2 : Room
before_queue_is_handed_nothing_2 = record {
  plan = overlapping_divisions;
  divisions = (division 1 1) ∷ (division 7 0) ∷ [];
  incidents = (incident 1 1 (grid 530100 180100) 3 (needs 0 1 0) 1036 None Active) ∷ [];
  calls = (call 1 6 1 1 1 false (grid 530100 180100) 3 (needs 0 1 0) [] 1036) ∷ [];
  vehicles =
      (vehicle A1 1 1 Ambulance (grid 530120 180160) OffDuty 0 None 0 0)
      ∷ (vehicle A2 7 7 Ambulance (grid 560000 180000) OffDuty 0 None 0 0)
      ∷ (vehicle A3 1 1 Ambulance (grid 530000 180000) OffDuty 0 None 0 0) ∷ [];
  turns = [];
  assignments = [];
  points = [];
  loans = [];
  offers = [];
  reports = [];
}

queue_is_handed_nothing_2 : Hands 7
    (at 1001 (Desk 1) ask.Queue) before_queue_is_handed_nothing_2 None []
    (record before_queue_is_handed_nothing_2 {
      divisions = (division 7 0) ∷ [];
      incidents = [];
      calls = [];
      vehicles =
          (vehicle A2 7 7 Ambulance (grid 560000 180000) OffDuty 0 None 0 0) ∷ [];
    })
unfolding machine
queue_is_handed_nothing_2 = (refl, refl, refl, refl)

abbrev before_recall_is_handed_nothing : Room
before_recall_is_handed_nothing = record {
  plan = two_divisions;
  divisions = (division 1 0) ∷ (division 2 0) ∷ [];
  incidents = [];
  calls = [];
  vehicles =
      (vehicle A1 2 1 Ambulance (grid 530200 180000) Available 2000 None 0 3)
      ∷ (vehicle A2 2 2 Car (grid 530100 180100) OffDuty 0 None 0 0) ∷ [];
  turns = [];
  assignments = [];
  points = (point 1 2 (grid 530000 180000) 2) ∷ [];
  loans = (loan A1 2 1 2635 1881 true) ∷ [];
  offers = [];
  reports =
      (report A1 1 button.Leave 0 (grid 530000 180000) 1522 2 Wrong Offered false)
      ∷ (report A1 2 button.Position 0 (grid 530000 180000) 1703 2 Normal Offered false)
      ∷ (report A1 3 button.Home 0 (grid 530200 180000) 2605 2 Normal Offered false) ∷ [];
}

recall_is_handed_nothing : Hands 1
    (at 2785 (Desk 2) (ask.Recall A1)) before_recall_is_handed_nothing None []
    (record before_recall_is_handed_nothing {
      divisions = (division 1 0) ∷ [];
      vehicles =
          (vehicle A1 2 1 Ambulance (grid 530200 180000) Available 2000 None 0 3)
          ∷ [];
      reports = [];
    })
unfolding machine
recall_is_handed_nothing = (refl, refl, refl, refl)

abbrev before_recall_is_handed_nothing_2 : Room
before_recall_is_handed_nothing_2 = record {
  plan = two_divisions;
  divisions = (division 1 1) ∷ (division 2 0) ∷ [];
  incidents = (incident 1 1 (grid 531000 180000) 2 (needs 1 0 0) 1304 None Active) ∷ [];
  calls = (call 1 4 1 1 1 false (grid 531000 180000) 2 (needs 1 0 0) [] 1304) ∷ [];
  vehicles =
      (vehicle A1 2 2 Ambulance (grid 530300 180400) Available 5000 None 0 2)
      ∷ (vehicle A2 2 2 Ambulance (grid 530200 180000) Available 40000 None 0 0)
      ∷ (vehicle A3 2 2 Car (grid 560200 180000) Available 40000 None 0 1)
      ∷ (vehicle B1 2 2 Ambulance (grid 530100 180000) Offered 5000 None 0 0)
      ∷ (vehicle B2 2 1 Ambulance (grid 530100 180100) Available 2000 None 0 0) ∷ [];
  turns = [];
  assignments = [];
  points = [];
  loans = (loan B2 2 1 39999 1161 true) ∷ [];
  offers = (offer B1 2 1 2868 2968) ∷ [];
  reports =
      (report A1 2 button.Hospital 0 (grid 530200 180000) 2869 2 Wrong Available false)
      ∷ (report A3 1 button.Hospital 0 (grid 530000 180000) 2748 2 Wrong Available false) ∷ [];
}

recall_is_handed_nothing_2 : Hands 1
    (at 2930 (Desk 2) (ask.Recall B2)) before_recall_is_handed_nothing_2 None []
    (record before_recall_is_handed_nothing_2 {
      divisions = (division 1 1) ∷ [];
      vehicles =
          (vehicle B2 2 1 Ambulance (grid 530100 180100) Available 2000 None 0 0)
          ∷ [];
      reports = [];
    })
unfolding machine
recall_is_handed_nothing_2 = (refl, refl, refl, refl)

abbrev before_recall_is_handed_nothing_3 : Room
before_recall_is_handed_nothing_3 = record {
  plan = two_divisions;
  divisions = (division 1 0) ∷ (division 2 0) ∷ [];
  incidents = [];
  calls = [];
  vehicles =
      (vehicle A1 2 2 Car (grid 560200 180000) Available 5000 None 0 0)
      ∷ (vehicle A2 1 1 Ambulance (grid 560100 180000) Available 40000 None 0 0) ∷ [];
  turns = [];
  assignments = [];
  points = [];
  loans = [];
  offers = [];
  reports = [];
}

recall_is_handed_nothing_3 : Hands 1
    (at 1481 (Desk 2) (ask.Recall Z9)) before_recall_is_handed_nothing_3 None []
    (record before_recall_is_handed_nothing_3 {
      divisions = (division 1 0) ∷ [];
      vehicles =
          (vehicle A2 1 1 Ambulance (grid 560100 180000) Available 40000 None 0 0) ∷ [];
    })
unfolding machine
recall_is_handed_nothing_3 = (refl, refl, refl, refl)

abbrev before_recall_is_handed_nothing_4 : Room
before_recall_is_handed_nothing_4 = record {
  plan = two_divisions;
  divisions = (division 1 0) ∷ (division 2 0) ∷ [];
  incidents = [];
  calls = [];
  vehicles =
      (vehicle A1 1 1 Ambulance (grid 530100 180100) OffDuty 0 None 0 0)
      ∷ (vehicle A2 2 2 Support (grid 530300 180400) Available 40000 None 0 0) ∷ [];
  turns = [];
  assignments = [];
  points = [];
  loans = [];
  offers = [];
  reports = [];
}

recall_is_handed_nothing_4 : Hands 2
    (at 1481 (Desk 1) (ask.Recall A1)) before_recall_is_handed_nothing_4 None []
    (record before_recall_is_handed_nothing_4 {
      divisions = (division 2 0) ∷ [];
      vehicles =
          (vehicle A2 2 2 Support (grid 530300 180400) Available 40000 None 0 0) ∷ [];
    })
unfolding machine
recall_is_handed_nothing_4 = (refl, refl, refl, refl)

abbrev before_report_is_handed_nothing : Room
before_report_is_handed_nothing = record {
  plan = two_divisions;
  divisions = (division 1 0) ∷ (division 2 0) ∷ [];
  incidents = [];
  calls = [];
  vehicles =
      (vehicle A1 2 2 Car (grid 530300 180400) OffDuty 0 None 0 0)
      ∷ (vehicle A2 1 1 Ambulance (grid 530300 180400) Available 2000 None 2147483647 0) ∷ [];
  turns = [];
  assignments = [];
  points = [];
  loans = [];
  offers = [];
  reports = [];
}

report_is_handed_nothing : Hands 1
    (at 1030 (Crew A1) (ask.Report (pressed 2 button.Return 0 (grid 531000 180000))))
    before_report_is_handed_nothing None []
    (record before_report_is_handed_nothing {
      divisions = (division 1 0) ∷ [];
      vehicles =
          (vehicle A2 1 1 Ambulance (grid 530300 180400) Available 2000 None 2147483647 0) ∷ [];
    })
unfolding machine
report_is_handed_nothing = (refl, refl, refl, refl)

abbrev before_report_is_handed_nothing_2 : Room
before_report_is_handed_nothing_2 = record {
  plan = two_divisions;
  divisions = (division 1 3) ∷ (division 2 0) ∷ [];
  incidents = [];
  calls = [];
  vehicles =
      (vehicle A1 1 1 Ambulance (grid 530201 180000) Available 40000 None 0 0)
      ∷ (vehicle A2 1 1 Ambulance (grid 530120 180160) Available 5000 None 0 0) ∷ [];
  turns = [];
  assignments = [];
  points = [];
  loans = [];
  offers = [];
  reports = [];
}

report_is_handed_nothing_2 : Hands 2
    (at 1461 (Crew A1) (ask.Report (pressed 1 button.Mobile 0 (grid 530201 180000))))
    before_report_is_handed_nothing_2 None []
    (record before_report_is_handed_nothing_2 { divisions = (division 2 0) ∷ []; vehicles = [] })
unfolding machine
report_is_handed_nothing_2 = (refl, refl, refl, refl)

abbrev before_report_is_handed_nothing_3 : Room
before_report_is_handed_nothing_3 = record {
  plan = two_divisions;
  divisions = (division 1 2147483646) ∷ (division 2 2147483646) ∷ [];
  incidents = [];
  calls = [];
  vehicles =
      (vehicle A1 1 1 Car (grid 530100 180000) OffDuty 2000 None 0 1)
      ∷ (vehicle A2 2 2 Car (grid 530000 180000) OffDuty 0 None 0 0) ∷ [];
  turns = [];
  assignments = [];
  points = [];
  loans = [];
  offers = [];
  reports = (report A1 1 button.Mobile 0 (grid 531000 180000) 1242 1 Wrong OffDuty false) ∷ [];
}

report_is_handed_nothing_3 : Hands 1
    (at 1543 (Crew A1) (ask.Report (pressed 1 button.Mobile 0 (grid 531000 180000))))
    before_report_is_handed_nothing_3 None []
    (record before_report_is_handed_nothing_3 {
      divisions = (division 1 2147483646)
          ∷ [];
      vehicles = (vehicle A1 1 1 Car (grid 530100 180000) OffDuty 2000 None 0 1) ∷ [];
    })
unfolding machine
report_is_handed_nothing_3 = (refl, refl, refl, refl)

abbrev before_report_is_handed_nothing_4 : Room
before_report_is_handed_nothing_4 = record {
  plan = two_divisions;
  divisions = (division 1 0) ∷ (division 2 0) ∷ [];
  incidents = [];
  calls = [];
  vehicles =
      (vehicle A1 2 2 Ambulance (grid 530200 180000) Available 5000 None 0 0)
      ∷ (vehicle A2 2 2 Car (grid 560000 180000) OffDuty 0 None 0 1)
      ∷ (vehicle A3 1 1 Ambulance (grid 560200 180000) OffDuty 0 None 0 0) ∷ [];
  turns = [];
  assignments = [];
  points = [];
  loans = [];
  offers = [];
  reports = (report A2 1 button.Return 0 (grid 530000 180000) 1301 2 Wrong OffDuty false) ∷ [];
}

report_is_handed_nothing_4 : Hands 1
    (at 1301 (Crew A2) (ask.Report (pressed 1 button.Return 0 (grid 530000 180000))))
    before_report_is_handed_nothing_4 None []
    (record before_report_is_handed_nothing_4 {
      divisions = (division 1 0) ∷ [];
      vehicles =
          (vehicle A3 1 1 Ambulance (grid 560200 180000) OffDuty 0 None 0 0) ∷ [];
      reports = [];
    })
unfolding machine
report_is_handed_nothing_4 = (refl, refl, refl, refl)

abbrev before_report_is_handed_nothing_5 : Room
before_report_is_handed_nothing_5 = record {
  plan = two_divisions;
  divisions = (division 1 3) ∷ (division 2 3) ∷ [];
  incidents = [];
  calls = [];
  vehicles =
      (vehicle A1 2 2 Ambulance (grid 560100 180000) OffDuty 0 None 0 0)
      ∷ (vehicle A2 2 2 Car (grid 530100 180100) Available 40000 None 0 1) ∷ [];
  turns = [];
  assignments = [];
  points = [];
  loans = [];
  offers = [];
  reports = (report A2 1 button.Mobile 0 (grid 530100 180100) 1061 2 Wrong Available false) ∷ [];
}

report_is_handed_nothing_5 : Hands 1
    (at 1066 (Crew A2) (ask.Report (pressed 1 button.Leave 0 (grid 530201 180000))))
    before_report_is_handed_nothing_5 None []
    (record before_report_is_handed_nothing_5
    { divisions = (division 1 3) ∷ []; vehicles = []; reports = [] })
unfolding machine
report_is_handed_nothing_5 = (refl, refl, refl, refl)

abbrev before_report_is_handed_nothing_6 : Room
before_report_is_handed_nothing_6 = record {
  plan = two_divisions;
  divisions = (division 1 0) ∷ (division 2 0) ∷ [];
  incidents = [];
  calls = [];
  vehicles =
      (vehicle A1 2 2 Ambulance (grid 530120 180160) Available 5000 None 0 0)
      ∷ (vehicle A2 1 1 Ambulance (grid 531000 180000) Available 5000 None 0 1) ∷ [];
  turns = [];
  assignments = [];
  points = [];
  loans = [];
  offers = [];
  reports = (report A2 1 button.Return 0 (grid 530000 180000) 1061 1 Wrong Available false) ∷ [];
}

report_is_handed_nothing_6 : Hands 1
    (at 1062 (Crew A2) (ask.Report (pressed 1 button.Position 0 (grid 530100 180100))))
    before_report_is_handed_nothing_6 None []
    (record before_report_is_handed_nothing_6 {
      divisions = (division 1 0) ∷ [];
      vehicles =
          (vehicle A2 1 1 Ambulance (grid 531000 180000) Available 5000 None 0 1) ∷ [];
    })
unfolding machine
report_is_handed_nothing_6 = (refl, refl, refl, refl)

abbrev before_set_point_is_handed_nothing : Room
before_set_point_is_handed_nothing = record {
  plan = two_divisions;
  divisions = (division 1 3) ∷ (division 2 0) ∷ [];
  incidents = [];
  calls = [];
  vehicles =
      (vehicle A1 2 2 Support (grid 530300 180400) Available 40000 None 0 0)
      ∷ (vehicle A2 1 1 Support (grid 530100 180100) Available 40000 None 2147483647 0) ∷ [];
  turns = [];
  assignments = [];
  points = [];
  loans = [];
  offers = [];
  reports = [];
}

set_point_is_handed_nothing : Hands 2
    (at 1125 (Desk 1) (ask.SetPoint 2 (grid 531000 180000) 2)) before_set_point_is_handed_nothing
    None [] (record before_set_point_is_handed_nothing {
      divisions = (division 2 0) ∷ [];
      vehicles =
          (vehicle A1 2 2 Support (grid 530300 180400) Available 40000 None 0 0) ∷ [];
    })
unfolding machine
set_point_is_handed_nothing = (refl, refl, refl, refl)

abbrev before_set_point_is_handed_nothing_2 : Room
before_set_point_is_handed_nothing_2 = record {
  plan = two_divisions;
  divisions = (division 1 0) ∷ (division 2 3) ∷ [];
  incidents = [];
  calls = [];
  vehicles =
      (vehicle A1 2 2 Car (grid 530100 180000) OffDuty 0 None 0 0)
      ∷ (vehicle A2 1 1 Ambulance (grid 530100 180100) Available 5000 None 0 0) ∷ [];
  turns = [];
  assignments = [];
  points = [];
  loans = [];
  offers = [];
  reports = [];
}

set_point_is_handed_nothing_2 : Hands 2
    (at 1181 (Desk 1) (ask.SetPoint 2 (grid 530200 180000) 1)) before_set_point_is_handed_nothing_2
    None [] (record before_set_point_is_handed_nothing_2 {
      divisions = (division 2 3) ∷ [];
      vehicles =
          (vehicle A1 2 2 Car (grid 530100 180000) OffDuty 0 None 0 0) ∷ [];
    })
unfolding machine
set_point_is_handed_nothing_2 = (refl, refl, refl, refl)

abbrev before_stand_down_is_handed_nothing : Room
before_stand_down_is_handed_nothing = record {
  plan = two_divisions;
  divisions = (division 1 2147483647) ∷ (division 2 2147483647) ∷ [];
  incidents = (incident 1 2147483647 (grid 530300 180400) 3 (needs 2 1 1) 1161 (Some 1342) Active) ∷ [];
  calls = (call 2 2 1 2147483647 2147483647 false (grid 530300 180400) 3 (needs 2 1 1) [] 1161) ∷ [];
  vehicles =
      (vehicle A1 2 2 Ambulance (grid 530200 180000) Available 40000 None 0 0)
      ∷ (vehicle A2 1 1 Ambulance (grid 560000 180000) OffDuty 0 None 0 0)
      ∷ (vehicle A3 1 1 Ambulance (grid 531000 180000) Mobilised 40000 None 1 0) ∷ [];
  turns = (turn A3 1 1 2147483647 Ambulance 1342 None None None None None false) ∷ [];
  assignments = (assignment A3 1 2147483647 1 (grid 530300 180400) 3) ∷ [];
  points = [];
  loans = [];
  offers = [];
  reports = [];
}

stand_down_is_handed_nothing : Hands 2
    (at 1282 (Desk 1) (ask.StandDown A3)) before_stand_down_is_handed_nothing None []
    (record before_stand_down_is_handed_nothing {
      divisions = (division 2 2147483647)
          ∷ [];
      incidents = [];
      calls = [];
      vehicles =
          (vehicle A1 2 2 Ambulance (grid 530200 180000) Available 40000 None 0 0)
          ∷ [];
      turns = [];
      assignments = [];
    })
unfolding machine
stand_down_is_handed_nothing = (refl, refl, refl, refl)

abbrev before_stand_down_is_handed_nothing_2 : Room
before_stand_down_is_handed_nothing_2 = record {
  plan = overlapping_divisions;
  divisions = (division 1 1) ∷ (division 7 0) ∷ [];
  incidents = (incident 1 1 (grid 530100 180000) 1 (needs 1 1 0) 2205 (Some 2185) Active) ∷ [];
  calls = (call 2 2 1 1 1 false (grid 530100 180000) 1 (needs 1 1 0) [] 2205) ∷ [];
  vehicles =
      (vehicle A1 1 1 Ambulance (grid 530120 180160) Available 40000 None 0 2)
      ∷ (vehicle A2 1 1 Ambulance (grid 530200 180000) Mobilised 5000 None 1 1) ∷ [];
  turns = (turn A2 1 1 1 Ambulance 2185 None None None None None false) ∷ [];
  assignments = (assignment A2 1 1 1 (grid 530100 180000) 1) ∷ [];
  points = [];
  loans = [];
  offers = [];
  reports =
      (report A1 1 button.Return 0 (grid 530120 180160) 1543 1 Wrong Available false)
      ∷ (report A1 2 button.Home 0 (grid 530120 180160) 1904 1 Normal Available false)
      ∷ (report A2 1 button.Home 0 (grid 530200 180000) 1874 1 Normal Available false) ∷ [];
}

stand_down_is_handed_nothing_2 : Hands 7
    (at 2486 (Desk 1) (ask.StandDown A2)) before_stand_down_is_handed_nothing_2 None []
    (record before_stand_down_is_handed_nothing_2 {
      divisions = (division 7 0) ∷ [];
      incidents = [];
      calls = [];
      vehicles = [];
      turns =
          [];
      assignments = [];
      reports = [];
    })
unfolding machine
stand_down_is_handed_nothing_2 = (refl, refl, refl, refl)

abbrev before_stand_down_is_handed_nothing_3 : Room
before_stand_down_is_handed_nothing_3 = record {
  plan = overlapping_divisions;
  divisions = (division 1 2147483647) ∷ (division 7 2147483646) ∷ [];
  incidents = [];
  calls = [];
  vehicles =
      (vehicle A1 7 7 Support (grid 560100 180000) OffDuty 0 None 0 0)
      ∷ (vehicle A2 1 1 Ambulance (grid 530201 180000) Available 5000 None 0 0) ∷ [];
  turns = [];
  assignments = [];
  points = [];
  loans = [];
  offers = [];
  reports = [];
}

stand_down_is_handed_nothing_3 : Hands 1
    (at 1482 (Desk 7) (ask.StandDown Z9)) before_stand_down_is_handed_nothing_3 None []
    (record before_stand_down_is_handed_nothing_3 {
      divisions = (division 1 2147483647)
          ∷ [];
      vehicles = (vehicle A2 1 1 Ambulance
          (grid 530201 180000) Available 5000 None 0 0) ∷ [];
    })
unfolding machine
stand_down_is_handed_nothing_3 = (refl, refl, refl, refl)

abbrev before_stand_down_is_handed_nothing_4 : Room
before_stand_down_is_handed_nothing_4 = record {
  plan = two_divisions;
  divisions = (division 1 3) ∷ (division 2 0) ∷ [];
  incidents = [];
  calls = [];
  vehicles =
      (vehicle A1 1 1 Support (grid 530000 180000) OffDuty 0 None 0 0)
      ∷ (vehicle A2 2 2 Ambulance (grid 530000 180000) OffDuty 0 None 0 0) ∷ [];
  turns = [];
  assignments = [];
  points = [];
  loans = [];
  offers = [];
  reports = [];
}

stand_down_is_handed_nothing_4 : Hands 1
    (at 1005 (Desk 2) (ask.StandDown A1)) before_stand_down_is_handed_nothing_4 None []
    (record before_stand_down_is_handed_nothing_4 {
      divisions = (division 1 3) ∷ [];
      vehicles =
          (vehicle A1 1 1 Support (grid 530000 180000) OffDuty 0 None 0 0) ∷ [];
    })
unfolding machine
stand_down_is_handed_nothing_4 = (refl, refl, refl, refl)

abbrev before_standby_is_handed_nothing : Room
before_standby_is_handed_nothing = record {
  plan = overlapping_divisions;
  divisions = (division 1 3) ∷ (division 7 0) ∷ [];
  incidents = [];
  calls = [];
  vehicles =
      (vehicle A1 1 1 Ambulance (grid 560200 180000) OffDuty 0 None 0 0)
      ∷ (vehicle A2 7 7 Car (grid 560000 180000) Available 2000 None 0 0) ∷ [];
  turns = [];
  assignments = [];
  points = [];
  loans = [];
  offers = [];
  reports = [];
}

standby_is_handed_nothing : Hands 1
    (at 1301 (Desk 7) (ask.Standby A2 None)) before_standby_is_handed_nothing None []
    (record before_standby_is_handed_nothing {
      divisions = (division 1 3) ∷ [];
      vehicles =
          (vehicle A1 1 1 Ambulance (grid 560200 180000) OffDuty 0 None 0 0) ∷ [];
    })
unfolding machine
standby_is_handed_nothing = (refl, refl, refl, refl)

abbrev before_standby_is_handed_nothing_2 : Room
before_standby_is_handed_nothing_2 = record {
  plan = two_divisions;
  divisions = (division 1 3) ∷ (division 2 0) ∷ [];
  incidents = [];
  calls = [];
  vehicles =
      (vehicle A1 1 1 Support (grid 530100 180000) Available 2000 None 0 0)
      ∷ (vehicle A2 1 1 Ambulance (grid 531000 180000) Available 2000 None 0 0) ∷ [];
  turns = [];
  assignments = [];
  points = [];
  loans = [];
  offers = [];
  reports = [];
}

standby_is_handed_nothing_2 : Hands 2
    (at 1782 (Desk 1) (ask.Standby A2 None)) before_standby_is_handed_nothing_2 None []
    (record before_standby_is_handed_nothing_2 { divisions = (division 2 0) ∷ []; vehicles = [] })
unfolding machine
standby_is_handed_nothing_2 = (refl, refl, refl, refl)

abbrev before_standby_is_handed_nothing_3 : Room
before_standby_is_handed_nothing_3 = record {
  plan = overlapping_divisions;
  divisions = (division 1 0) ∷ (division 7 3) ∷ [];
  incidents = [];
  calls = [];
  vehicles =
      (vehicle A1 1 1 Car (grid 560200 180000) Available 40000 None 0 0)
      ∷ (vehicle A2 7 7 Ambulance (grid 530201 180000) Available 2000 None 0 0) ∷ [];
  turns = [];
  assignments = [];
  points = [];
  loans = [];
  offers = [];
  reports = [];
}

standby_is_handed_nothing_3 : Hands 1
    (at 1481 (Desk 7) (ask.Standby A2 (Some 2))) before_standby_is_handed_nothing_3 None []
    (record before_standby_is_handed_nothing_3 {
      divisions = (division 1 0) ∷ [];
      vehicles =
          (vehicle A1 1 1 Car (grid 560200 180000) Available 40000 None 0 0) ∷ [];
    })
unfolding machine
standby_is_handed_nothing_3 = (refl, refl, refl, refl)

abbrev before_standby_is_handed_nothing_4 : Room
before_standby_is_handed_nothing_4 = record {
  plan = two_divisions;
  divisions = (division 1 0) ∷ (division 2 3) ∷ [];
  incidents = [];
  calls = [];
  vehicles =
      (vehicle A1 1 1 Ambulance (grid 530200 180000) Available 5000 None 0 0)
      ∷ (vehicle A2 2 2 Car (grid 531000 180000) Available 2000 None 0 0) ∷ [];
  turns = [];
  assignments = [];
  points = [];
  loans = [];
  offers = [];
  reports = [];
}

standby_is_handed_nothing_4 : Hands 1
    (at 1030 (Desk 2) (ask.Standby A2 (Some 2))) before_standby_is_handed_nothing_4 None []
    (record before_standby_is_handed_nothing_4 {
      divisions = (division 1 0) ∷ [];
      vehicles =
          (vehicle A1 1 1 Ambulance (grid 530200 180000) Available 5000 None 0 0) ∷ [];
    })
unfolding machine
standby_is_handed_nothing_4 = (refl, refl, refl, refl)

abbrev before_times_is_handed_nothing : Room
before_times_is_handed_nothing = record {
  plan = overlapping_divisions;
  divisions = (division 1 0) ∷ (division 7 3) ∷ [];
  incidents = [];
  calls = [];
  vehicles =
      (vehicle A1 7 7 Car (grid 560100 180000) Available 5000 None 0 0)
      ∷ (vehicle A2 7 7 Ambulance (grid 560100 180000) Available 2000 None 0 0) ∷ [];
  turns = [];
  assignments = [];
  points = [];
  loans = [];
  offers = [];
  reports = [];
}

times_is_handed_nothing : Hands 1
    (at 1181 (Desk 7) (ask.Times (negsuc 0) (pos 5000))) before_times_is_handed_nothing None []
    (record before_times_is_handed_nothing { divisions = (division 1 0) ∷ []; vehicles = [] })
unfolding machine
times_is_handed_nothing = (refl, refl, refl, refl)

abbrev before_times_is_handed_nothing_2 : Room
before_times_is_handed_nothing_2 = record {
  plan = two_divisions;
  divisions = (division 1 1) ∷ (division 2 0) ∷ [];
  incidents = (incident 1 1 (grid 530100 180000) 2 (needs 2 0 0) 1041 None Active) ∷ [];
  calls = (call 2 6 1 1 1 false (grid 530100 180000) 2 (needs 2 0 0) [] 1041) ∷ [];
  vehicles =
      (vehicle A1 1 1 Support (grid 560000 180000) Available 2000 None 0 0)
      ∷ (vehicle A2 2 2 Support (grid 530100 180000) Available 5061 None 0 0) ∷ [];
  turns = [];
  assignments = [];
  points = [];
  loans = [];
  offers = [];
  reports = [];
}

times_is_handed_nothing_2 : Hands 2
    (at 1041 (Desk 1) (ask.Times (pos 1041) (pos 6041))) before_times_is_handed_nothing_2 None []
    (record before_times_is_handed_nothing_2 {
      divisions = (division 2 0) ∷ [];
      incidents = [];
      calls = [];
      vehicles =
          (vehicle A2 2 2 Support (grid 530100 180000) Available 5061 None 0 0) ∷ [];
    })
unfolding machine
times_is_handed_nothing_2 = (refl, refl, refl, refl)

abbrev before_vehicles_is_handed_nothing : Room
before_vehicles_is_handed_nothing = record {
  plan = overlapping_divisions;
  divisions = (division 1 2147483646) ∷ (division 7 2147483646) ∷ [];
  incidents = [];
  calls = [];
  vehicles =
      (vehicle A1 1 1 Car (grid 560000 180000) OffDuty 0 None 0 0)
      ∷ (vehicle A2 7 7 Ambulance (grid 560200 180000) OffDuty 0 None 0 0) ∷ [];
  turns = [];
  assignments = [];
  points = [];
  loans = [];
  offers = [];
  reports = [];
}

vehicles_is_handed_nothing : Hands 1
    (at 1481 (Desk 7) ask.Vehicles) before_vehicles_is_handed_nothing None []
    (record before_vehicles_is_handed_nothing {
      divisions = (division 1 2147483646)
          ∷ [];
      vehicles = (vehicle A1 1 1 Car (grid 560000 180000) OffDuty 0 None 0 0) ∷ [];
    })
unfolding machine
vehicles_is_handed_nothing = (refl, refl, refl, refl)

abbrev before_vehicles_is_handed_nothing_2 : Room
before_vehicles_is_handed_nothing_2 = record {
  plan = overlapping_divisions;
  divisions = (division 1 0) ∷ (division 7 0) ∷ [];
  incidents = [];
  calls = [];
  vehicles =
      (vehicle A1 1 1 Ambulance (grid 560000 180000) Available 5000 None 0 0)
      ∷ (vehicle A2 7 7 Ambulance (grid 560100 180000) Available 2000 None 0 0) ∷ [];
  turns = [];
  assignments = [];
  points = (point 7 1 (grid 530120 180160) 2) ∷ [];
  loans = [];
  offers = [];
  reports = [];
}

vehicles_is_handed_nothing_2 : Hands 1
    (at 1241 (Desk 7) ask.Vehicles) before_vehicles_is_handed_nothing_2 None []
    (record before_vehicles_is_handed_nothing_2 {
      divisions = (division 1 0) ∷ [];
      vehicles =
          (vehicle A1 1 1 Ambulance (grid 560000 180000) Available 5000 None 0 0)
          ∷ [];
      points = [];
    })
unfolding machine
vehicles_is_handed_nothing_2 = (refl, refl, refl, refl)

abbrev before_withdraw_is_handed_nothing : Room
before_withdraw_is_handed_nothing = record {
  plan = two_divisions;
  divisions = (division 1 0) ∷ (division 2 0) ∷ [];
  incidents = [];
  calls = [];
  vehicles =
      (vehicle A1 1 1 Support (grid 530100 180000) OffDuty 0 None 0 0)
      ∷ (vehicle A2 2 2 Ambulance (grid 530120 180160) OffDuty 5000 None 0 0) ∷ [];
  turns = [];
  assignments = [];
  points = [];
  loans = [];
  offers = [];
  reports = [];
}

withdraw_is_handed_nothing : Hands 2
    (at 1486 (Desk 1) (ask.Withdraw Z9)) before_withdraw_is_handed_nothing None []
    (record before_withdraw_is_handed_nothing {
      divisions = (division 2 0) ∷ [];
      vehicles =
          (vehicle A2 2 2 Ambulance (grid 530120 180160) OffDuty 5000 None 0 0) ∷ [];
    })
unfolding machine
withdraw_is_handed_nothing = (refl, refl, refl, refl)

abbrev before_withdraw_is_handed_nothing_2 : Room
before_withdraw_is_handed_nothing_2 = record {
  plan = two_divisions;
  divisions = (division 1 3) ∷ (division 2 0) ∷ [];
  incidents = [];
  calls = [];
  vehicles =
      (vehicle A1 1 1 Ambulance (grid 530120 180160) Available 5000 None 0 0)
      ∷ (vehicle A2 1 1 Ambulance (grid 530000 180000) Available 1862 None 0 1) ∷ [];
  turns = [];
  assignments = [];
  points = [];
  loans = [];
  offers = [];
  reports = (report A2 1 button.Home 0 (grid 530000 180000) 1392 1 Normal Available false) ∷ [];
}

withdraw_is_handed_nothing_2 : Hands 1
    (at 1398 (Desk 2) (ask.Withdraw A2)) before_withdraw_is_handed_nothing_2 None []
    (record before_withdraw_is_handed_nothing_2 { divisions = (division 1 3) ∷ [] })
unfolding machine
withdraw_is_handed_nothing_2 = (refl, refl, refl, refl)
