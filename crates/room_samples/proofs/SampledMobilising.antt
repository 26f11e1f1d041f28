-- Sampled steps: mobilising from each status, standing down, and crews' orders. A program that is
-- independent of this repository, written from the rules in words, made them in random runs; of
-- each kind of step it kept those with the fewest rows.
use Rattle.std.specs.Prelude.{Err, None, Ok, Some, [], codes, false, refl, true, ◌∷◌}
use Rattle.room_types.specs.declared.answers.Answer.TheVariants as answer
use Rattle.room_types.specs.declared.asks.Ask.TheVariants as ask
use Rattle.room_types.specs.declared.asks.Who.TheVariants.{Crew, Desk}
use Rattle.room_types.specs.declared.codes.Button.TheVariants as button
use Rattle.room_types.specs.declared.codes.Kind.TheVariants.{Ambulance, Car, Support}
use Rattle.room_types.specs.declared.codes.Outcome.TheVariants.{Late, Normal, Skipped, Stale, Wrong}
use Rattle.room_types.specs.declared.codes.State.TheVariants.{Active, Merged}
use Rattle.room_types.specs.declared.codes.Status.TheVariants.{AtHospital, AtScene, Available}
use Rattle.room_types.specs.declared.codes.Status.TheVariants.{Leaving, Mobilised, OffDuty, Offered}
use Rattle.room_types.specs.declared.codes.Status.TheVariants.{Returning}
use Rattle.room_types.specs.declared.refusal_statuses.Refusal.TheVariants as refusal
use Rattle.room_model.specs.Room.{Room}
use Rattle.room_model.specs.ComputedDefinitions.{machine}
use Rattle.room_samples.specs.ExampleRows.{assignment, call, division, grid, incident, loan, offer}
use Rattle.room_samples.specs.ExampleRows.{point, report, turn, vehicle}
use Rattle.room_samples.specs.SampledRooms.{A1, A2, A3, B1, B2, Z9, overlapping_divisions}
use Rattle.room_samples.specs.SampledRooms.{two_divisions}
use Rattle.room_samples.specs.SampledSteps.{Steps}
use Rattle.room_model.specs.StepWords.{at, needs}

abbrev before_mobilise : Room
before_mobilise = record {
  plan = two_divisions;
  divisions = (division 1 4) ∷ (division 2 0) ∷ [];
  incidents = (incident 1 4 (grid 531000 180000) 2 (needs 2 0 0) 2025 None Active) ∷ [];
  calls = (call 1 2 1 4 4 false (grid 531000 180000) 2 (needs 2 0 0) [] 2025) ∷ [];
  vehicles =
      (vehicle A1 2 2 Ambulance (grid 531000 180000) Available 40000 None 0 0)
      ∷ (vehicle A2 1 1 Ambulance (grid 531000 180000) OffDuty 0 None 0 2)
      ∷ (vehicle A3 2 1 Ambulance (grid 530100 180000) Available 40000 None 0 0) ∷ [];
  turns = [];
  assignments = [];
  points = [];
  loans = (loan A3 2 1 40000 1943 false) ∷ [];
  offers = [];
  reports = (report A2 2 button.Return 0 (grid 530200 180000) 1481 1 Wrong OffDuty false) ∷ [];
}

mobilise : Steps (at 2061 (Desk 1) (ask.Mobilise 4 A3)) before_mobilise
    (Ok (answer.Mobilised 1 A3)) (record before_mobilise {
      incidents = (incident 1 4 (grid 531000 180000) 2 (needs 2 0 0) 2025 (Some 2061) Active)
          ∷ [];
      vehicles = (vehicle A1 2 2 Ambulance
          (grid 531000 180000) Available 40000 None 0 0)
          ∷ (vehicle A2 1 1 Ambulance (grid 531000 180000) OffDuty 0 None 0 2)
          ∷ (vehicle A3 2 1 Ambulance (grid 530100 180000) Mobilised 40000 None 1 0)
          ∷ [];
      turns = (turn A3 1 1 4 Ambulance 2061 None None None None None false)
          ∷ [];
      assignments = (assignment A3 1 4 1 (grid 531000 180000) 2) ∷ [];
    })
unfolding machine
mobilise = (refl, refl)

abbrev before_mobilise_2 : Room
before_mobilise_2 = record {
  plan = two_divisions;
  divisions = (division 1 0) ∷ (division 2 1) ∷ [];
  incidents = (incident 2 1 (grid 560200 180000) 1 (needs 2 1 1) 1000 None Active) ∷ [];
  calls =
      (call 2 1 2 1 1 false (grid 560200 180000) 1 (needs 1 1 0) (codes "x") 1000)
      ∷ (call 2 2 2 1 1 true (grid 560200 180000) 2 (needs 2 1 1) [] 1181) ∷ [];
  vehicles =
      (vehicle A1 2 2 Ambulance (grid 530201 180000) Available 40000 (Some 2) 0 1)
      ∷ (vehicle A2 1 1 Support (grid 560000 180000) Available 40000 None 0 0) ∷ [];
  turns = [];
  assignments = [];
  points = (point 2 2 (grid 530120 180160) 1) ∷ [];
  loans = [];
  offers = [];
  reports = (report A1 1 button.Return 0 (grid 530200 180000) 1181 2 Wrong Available false) ∷ [];
}

mobilise_2 : Steps (at 1708 (Desk 2) (ask.Mobilise 1 A1)) before_mobilise_2
    (Ok (answer.Mobilised 1 A1)) (record before_mobilise_2 {
      incidents = (incident 2 1 (grid 560200 180000) 1 (needs 2 1 1) 1000 (Some 1708) Active)
          ∷ [];
      vehicles = (vehicle A1 2 2 Ambulance
          (grid 530201 180000) Mobilised 40000 None 1 1)
          ∷ (vehicle A2 1 1 Support (grid 560000 180000) Available 40000 None 0 0)
          ∷ [];
      turns = (turn A1 1 2 1 Ambulance 1708 None None None None None false)
          ∷ [];
      assignments = (assignment A1 2 1 1 (grid 560200 180000) 1) ∷ [];
    })
unfolding machine
mobilise_2 = (refl, refl)

abbrev before_mobilise_3 : Room
before_mobilise_3 = record {
  plan = overlapping_divisions;
  divisions = (division 1 1) ∷ (division 7 0) ∷ [];
  incidents = (incident 1 1 (grid 530120 180160) 2 (needs 2 1 1) 2457 (Some 3065) Active) ∷ [];
  calls = (call 2 5 1 1 1 false (grid 530120 180160) 2 (needs 2 1 1) [] 2457) ∷ [];
  vehicles =
      (vehicle A1 7 7 Car (grid 530201 180000) OffDuty 0 None 0 1)
      ∷ (vehicle A2 1 1 Support (grid 530200 180000) Available 40000 (Some 1) 0 0)
      ∷ (vehicle A3 1 1 Ambulance (grid 530300 180400) Mobilised 5000 None 1 2) ∷ [];
  turns = (turn A3 1 1 1 Ambulance 3065 None None None None None false) ∷ [];
  assignments = (assignment A3 1 1 1 (grid 530120 180160) 2) ∷ [];
  points = (point 1 1 (grid 530100 180100) 1) ∷ [];
  loans = [];
  offers = [];
  reports =
      (report A1 1 button.Hospital 0 (grid 530120 180160) 1976 7 Wrong OffDuty false)
      ∷ (report A3 2 button.Position 0 (grid 530300 180400) 2522 1 Normal Available false) ∷ [];
}

mobilise_3 : Steps (at 3045 (Desk 1) (ask.Mobilise 1 A2)) before_mobilise_3
    (Ok (answer.Mobilised 1 A2)) (record before_mobilise_3 {
      vehicles = (vehicle A1 7 7 Car (grid 530201 180000) OffDuty 0 None 0 1)
          ∷ (vehicle A2 1 1 Support (grid 530200 180000) Mobilised 40000 None 1 0)
          ∷ (vehicle A3 1 1 Ambulance (grid 530300 180400) Mobilised 5000 None 1 2)
          ∷ [];
      turns = (turn A2 1 1 1 Support 3045 None None None None None false)
          ∷ (turn A3 1 1 1 Ambulance 3065 None None None None None false)
          ∷ [];
      assignments = (assignment A2 1 1 1 (grid 530120 180160) 2)
          ∷ (assignment A3 1 1 1 (grid 530120 180160) 2) ∷ [];
    })
unfolding machine
mobilise_3 = (refl, refl)

abbrev before_mobilise_4 : Room
before_mobilise_4 = record {
  plan = two_divisions;
  divisions = (division 1 1) ∷ (division 2 0) ∷ [];
  incidents = (incident 1 1 (grid 530000 180000) 2 (needs 1 0 0) 1061 (Some 1392) Active) ∷ [];
  calls = (call 1 3 1 1 1 false (grid 530000 180000) 2 (needs 1 0 0) (codes "x") 1061) ∷ [];
  vehicles =
      (vehicle A1 1 1 Ambulance (grid 530100 180100) Available 5000 None 0 1)
      ∷ (vehicle A2 2 2 Ambulance (grid 530100 180000) Offered 40000 None 0 1)
      ∷ (vehicle A3 1 1 Ambulance (grid 530300 180400) Returning 40000 None 1 1) ∷ [];
  turns = (turn A3 1 1 1 Ambulance 1392 (Some 1393) None None None (Some 1854) true) ∷ [];
  assignments = [];
  points = (point 1 2 (grid 530000 180000) 0) ∷ [];
  loans = [];
  offers = (offer A2 2 1 1885 1985) ∷ [];
  reports =
      (report A1 1 button.Position 0 (grid 530100 180100) 2401 1 Normal Available false)
      ∷ (report A2 1 button.Scene 0 (grid 530100 180000) 1884 2 Wrong Available false)
      ∷ (report A3 1 button.Mobile 1 (grid 530300 180400) 1393 1 Normal Mobilised false) ∷ [];
}

mobilise_4 : Steps (at 2463 (Desk 1) (ask.Mobilise 1 A3)) before_mobilise_4
    (Ok (answer.Mobilised 2 A3)) (record before_mobilise_4 {
      vehicles = (vehicle A1 1 1 Ambulance (grid 530100 180100) Available 5000 None 0 1)
          ∷ (vehicle A2 2 2 Ambulance (grid 530100 180000) Offered 40000 None 0 1)
          ∷ (vehicle A3 1 1 Ambulance (grid 530300 180400) Mobilised 40000 None 2 1)
          ∷ [];
      turns = (turn A3 1 1 1 Ambulance 1392 (Some 1393) None None None
          (Some 1854) true) ∷ (turn A3 2 1 1 Ambulance 2463 None None None None None false)
          ∷ [];
      assignments = (assignment A3 1 1 2 (grid 530000 180000) 2) ∷ [];
    })
unfolding machine
mobilise_4 = (refl, refl)

abbrev before_mobilise_5 : Room
before_mobilise_5 = record {
  plan = overlapping_divisions;
  divisions = (division 1 5) ∷ (division 7 0) ∷ [];
  incidents =
      (incident 1 4 (grid 530201 180000) 2 (needs 2 0 0) 1001 None Active)
      ∷ (incident 1 5 (grid 560000 180000) 1 (needs 1 0 0) 1902 (Some 1041) Active) ∷ [];
  calls =
      (call 2 2 1 4 4 false (grid 530201 180000) 2 (needs 2 0 0) [] 1001)
      ∷ (call 2 5 1 5 5 false (grid 560000 180000) 1 (needs 2 0 0) [] 1902) ∷ [];
  vehicles =
      (vehicle A1 1 1 Ambulance (grid 560000 180000) OffDuty 0 None 0 0)
      ∷ (vehicle A2 1 1 Car (grid 530120 180160) OffDuty 0 None 0 0)
      ∷ (vehicle A3 7 7 Ambulance (grid 530120 180160) Available 40000 None 0 1)
      ∷ (vehicle B1 1 1 Ambulance (grid 530100 180100) Available 5000 (Some 1) 1 2)
      ∷ (vehicle B2 7 7 Car (grid 530300 180400) OffDuty 0 None 0 2) ∷ [];
  turns = (turn B1 1 1 5 Ambulance 1041 (Some 1163) None None None (Some 1193) false) ∷ [];
  assignments = [];
  points = (point 1 1 (grid 530300 180400) 1) ∷ [];
  loans = [];
  offers = [];
  reports =
      (report A3 1 button.Leave 0 (grid 530120 180160) 1494 7 Wrong Available false)
      ∷ (report B1 1 button.Mobile 1 (grid 530100 180000) 1163 1 Normal Mobilised false)
      ∷ (report B1 2 button.Home 1 (grid 530100 180100) 1193 1 Skipped Available false)
      ∷ (report B2 2 button.Position 0 (grid 530200 180000) 1193 7 Wrong OffDuty false) ∷ [];
}

mobilise_5 : Steps (at 1800 (Desk 1) (ask.Mobilise 5 B1)) before_mobilise_5
    (Ok (answer.Mobilised 2 B1)) (record before_mobilise_5 {
      vehicles = (vehicle A1 1 1 Ambulance (grid 560000 180000) OffDuty 0 None 0 0)
          ∷ (vehicle A2 1 1 Car (grid 530120 180160) OffDuty 0 None 0 0)
          ∷ (vehicle A3 7 7 Ambulance (grid 530120 180160) Available 40000 None 0 1)
          ∷ (vehicle B1 1 1 Ambulance (grid 530100 180100) Mobilised 5000 None 2 2)
          ∷ (vehicle B2 7 7 Car (grid 530300 180400) OffDuty 0 None 0 2)
          ∷ [];
      turns = (turn B1 1 1 5 Ambulance 1041 (Some 1163) None None None
          (Some 1193) false) ∷ (turn B1 2 1 5 Ambulance 1800 None None None None None false)
          ∷ [];
      assignments = (assignment B1 1 5 2 (grid 560000 180000) 1) ∷ [];
    })
unfolding machine
mobilise_5 = (refl, refl)

abbrev before_mobilise_6 : Room
before_mobilise_6 = record {
  plan = two_divisions;
  divisions = (division 1 2) ∷ (division 2 0) ∷ [];
  incidents =
      (incident 1 1 (grid 530200 180000) 1 (needs 1 0 0) 1788 None Active)
      ∷ (incident 1 2 (grid 531000 180000) 2 (needs 1 0 0) 1968 (Some 3909) Active) ∷ [];
  calls =
      (call 1 1 1 1 1 true (grid 530000 180000) 1 (needs 1 0 0) [] 2251)
      ∷ (call 2 2 1 1 1 false (grid 530200 180000) 2 (needs 1 0 0) [] 1788)
      ∷ (call 2 3 1 2 2 false (grid 531000 180000) 2 (needs 2 0 0) [] 1968) ∷ [];
  vehicles =
      (vehicle A1 2 2 Support (grid 560200 180000) OffDuty 0 None 2147483647 4)
      ∷ (vehicle A2 2 2 Support (grid 530000 180000) OffDuty 0 None 0 4)
      ∷ (vehicle A3 1 1 Ambulance (grid 530200 180000) Returning 40000 (Some 2) 1 1)
      ∷ (vehicle B1 2 2 Ambulance (grid 530300 180400) OffDuty 0 None 0 4) ∷ [];
  turns = (turn A3 1 1 2 Ambulance 3909 None None None None (Some 3910) true) ∷ [];
  assignments = [];
  points = (point 1 2 (grid 530120 180160) 2) ∷ [];
  loans = [];
  offers = [];
  reports =
      (report A1 2 button.Leave 0 (grid 530120 180160) 2762 2 Stale OffDuty false)
      ∷ (report A1 4 button.Position 2147483647 (grid 530100 180100) 3305 2 Wrong OffDuty false)
      ∷ (report A2 1 button.Mobile 0 (grid 531000 180000) 1306 2 Late OffDuty false)
      ∷ (report A2 2 button.Home 0 (grid 530100 180000) 1005 2 Wrong OffDuty false)
      ∷ (report A2 3 button.Mobile 0 (grid 530000 180000) 1830 2 Wrong OffDuty false)
      ∷ (report A2 4 button.Hospital 0 (grid 530000 180000) 3952 2 Wrong OffDuty false)
      ∷ (report A3 1 button.Position 1 (grid 530200 180000) 3993 1 Normal Returning false)
      ∷ (report B1 1 button.Home 0 (grid 530201 180000) 1789 2 Wrong OffDuty false)
      ∷ (report B1 3 button.Scene 0 (grid 531000 180000) 3304 2 Wrong OffDuty false)
      ∷ (report B1 4 button.Return 0 (grid 530200 180000) 3973 2 Wrong OffDuty false) ∷ [];
}

mobilise_6 : Steps (at 4009 (Desk 1) (ask.Mobilise 2 A3)) before_mobilise_6
    (Ok (answer.Mobilised 2 A3)) (record before_mobilise_6 {
      vehicles = (vehicle A1 2 2 Support (grid 560200 180000) OffDuty 0 None 2147483647 4)
          ∷ (vehicle A2 2 2 Support (grid 530000 180000) OffDuty 0 None 0 4)
          ∷ (vehicle A3 1 1 Ambulance (grid 530200 180000) Mobilised 40000 None 2 1)
          ∷ (vehicle B1 2 2 Ambulance (grid 530300 180400) OffDuty 0 None 0 4)
          ∷ [];
      turns = (turn A3 1 1 2 Ambulance 3909 None None None None (Some 3910) true)
          ∷ (turn A3 2 1 2 Ambulance 4009 None None None None None false)
          ∷ [];
      assignments = (assignment A3 1 2 2 (grid 531000 180000) 2) ∷ [];
    })
unfolding machine
mobilise_6 = (refl, refl)

abbrev before_mobilise_incident_not_open : Room
before_mobilise_incident_not_open = record {
  plan = overlapping_divisions;
  divisions = (division 1 2) ∷ (division 7 0) ∷ [];
  incidents =
      (incident 1 1 (grid 530100 180000) 1 (needs 0 1 0) 1000 None (Merged 2))
      ∷ (incident 1 2 (grid 531000 180000) 1 (needs 0 1 1) 1000 None Active) ∷ [];
  calls =
      (call 2 3 1 2 1 false (grid 530100 180000) 1 (needs 0 1 0) [] 1000)
      ∷ (call 2 6 1 2 2 false (grid 531000 180000) 3 (needs 0 0 1) (codes "x") 1306) ∷ [];
  vehicles =
      (vehicle A1 7 7 Car (grid 530300 180400) Available 5000 None 0 0)
      ∷ (vehicle A2 7 7 Support (grid 530120 180160) Available 2000 None 0 2)
      ∷ (vehicle A3 1 1 Ambulance (grid 531000 180000) Available 40000 None 0 1) ∷ [];
  turns = [];
  assignments = [];
  points = [];
  loans = [];
  offers = [];
  reports =
      (report A2 2 button.Home 0 (grid 530120 180160) 1608 7 Normal Available false)
      ∷ (report A3 1 button.Return 0 (grid 530100 180000) 1307 1 Wrong Available false) ∷ [];
}

mobilise_incident_not_open : Steps
    (at 1879 (Desk 1) (ask.Mobilise 1 A3)) before_mobilise_incident_not_open
    (Err refusal.IncidentNotOpen) before_mobilise_incident_not_open
unfolding machine
mobilise_incident_not_open = (refl, refl)

abbrev before_mobilise_no_such_incident : Room
before_mobilise_no_such_incident = record {
  plan = two_divisions;
  divisions = (division 1 0) ∷ (division 2 3) ∷ [];
  incidents = [];
  calls = [];
  vehicles =
      (vehicle A1 1 1 Ambulance (grid 530120 180160) Available 40000 None 0 0)
      ∷ (vehicle A2 1 1 Ambulance (grid 530000 180000) Available 5000 None 0 0) ∷ [];
  turns = [];
  assignments = [];
  points = [];
  loans = [];
  offers = [];
  reports = [];
}

mobilise_no_such_incident : Steps
    (at 1181 (Desk 2) (ask.Mobilise 9 A1)) before_mobilise_no_such_incident
    (Err refusal.NoSuchIncident) before_mobilise_no_such_incident
unfolding machine
mobilise_no_such_incident = (refl, refl)

abbrev before_mobilise_no_such_vehicle : Room
before_mobilise_no_such_vehicle = record {
  plan = two_divisions;
  divisions = (division 1 4) ∷ (division 2 3) ∷ [];
  incidents = (incident 1 4 (grid 530100 180100) 2 (needs 1 1 0) 1001 None Active) ∷ [];
  calls = (call 2 2 1 4 4 false (grid 530100 180100) 2 (needs 1 1 0) [] 1001) ∷ [];
  vehicles =
      (vehicle A1 2 2 Ambulance (grid 560100 180000) Available 5000 None 0 0)
      ∷ (vehicle A2 2 2 Ambulance (grid 530100 180100) Available 40000 None 0 0) ∷ [];
  turns = [];
  assignments = [];
  points = [];
  loans = [];
  offers = [];
  reports = [];
}

mobilise_no_such_vehicle : Steps (at 1182 (Desk 1) (ask.Mobilise 4 A1))
    before_mobilise_no_such_vehicle (Err refusal.NoSuchVehicle) before_mobilise_no_such_vehicle
unfolding machine
mobilise_no_such_vehicle = (refl, refl)

abbrev before_mobilise_not_needed : Room
before_mobilise_not_needed = record {
  plan = two_divisions;
  divisions = (division 1 1) ∷ (division 2 0) ∷ [];
  incidents = (incident 1 1 (grid 530100 180100) 1 (needs 1 0 1) 1242 (Some 1303) Active) ∷ [];
  calls =
      (call 1 1 1 1 1 false (grid 530100 180100) 1 (needs 1 0 0) (codes "x") 1242)
      ∷ (call 1 4 1 1 1 true (grid 530200 180000) 2 (needs 0 0 1) [] 1303) ∷ [];
  vehicles =
      (vehicle A1 1 1 Ambulance (grid 530100 180000) Returning 40000 None 1 3)
      ∷ (vehicle A2 2 2 Ambulance (grid 530100 180100) Available 5000 None 0 0)
      ∷ (vehicle A3 2 2 Ambulance (grid 530100 180100) Available 40000 None 0 0)
      ∷ (vehicle B1 2 2 Ambulance (grid 560200 180000) Offered 40000 None 0 1)
      ∷ (vehicle B2 2 2 Car (grid 530201 180000) Available 40000 None 0 0) ∷ [];
  turns = (turn A1 1 1 1 Ambulance 1303 None (Some 1308) None None (Some 1886) false) ∷ [];
  assignments = [];
  points = [];
  loans = [];
  offers = (offer B1 2 1 1061 1461) ∷ [];
  reports =
      (report A1 2 button.Scene 1 (grid 530201 180000) 1308 1 Skipped AtScene true)
      ∷ (report A1 3 button.Return 1 (grid 530100 180000) 1886 1 Normal Returning false)
      ∷ (report B1 1 button.Hospital 0 (grid 530120 180160) 1855 2 Wrong Offered false) ∷ [];
}

mobilise_not_needed : Steps (at 1947 (Desk 1) (ask.Mobilise 1 A1)) before_mobilise_not_needed
    (Err refusal.NotNeeded) before_mobilise_not_needed
unfolding machine
mobilise_not_needed = (refl, refl)

abbrev before_mobilise_not_needed_2 : Room
before_mobilise_not_needed_2 = record {
  plan = two_divisions;
  divisions = (division 1 4) ∷ (division 2 1) ∷ [];
  incidents =
      (incident 1 4 (grid 530201 180000) 2 (needs 1 0 0) 1855 None Active)
      ∷ (incident 2 1 (grid 560100 180000) 3 (needs 2 1 1) 1000 (Some 1372) Active) ∷ [];
  calls =
      (call 1 5 2 1 1 false (grid 560100 180000) 3 (needs 2 1 1) [] 1000)
      ∷ (call 2 1 1 4 4 false (grid 530201 180000) 2 (needs 1 0 0) (codes "x") 1855) ∷ [];
  vehicles =
      (vehicle A1 1 1 Support (grid 560200 180000) Available 40000 None 0 0)
      ∷ (vehicle A2 1 1 Ambulance (grid 530000 180000) Available 2361 None 0 0)
      ∷ (vehicle A3 2 2 Car (grid 530100 180000) Available 40000 None 2147483647 1)
      ∷ (vehicle B1 2 2 Car (grid 530120 180160) Offered 5000 None 1 3) ∷ [];
  turns = (turn B1 1 2 1 Car 1372 None None None (Some 1860) (Some 1861) false) ∷ [];
  assignments = [];
  points = (point 1 2 (grid 531000 180000) 0) ∷ [];
  loans = [];
  offers = (offer B1 2 1 1981 1981) ∷ [];
  reports =
      (report A3 1 button.Hospital 2147483647 (grid 530120 180160) 1030 2 Wrong Available false)
      ∷ (report B1 1 button.Hospital 1 (grid 530120 180160) 1860 2 Skipped AtHospital false)
      ∷ (report B1 3 button.Return 1 (grid 530120 180160) 1861 2 Normal Returning false) ∷ [];
}

mobilise_not_needed_2 : Steps (at 2283 (Desk 2) (ask.Mobilise 1 A3)) before_mobilise_not_needed_2
    (Err refusal.NotNeeded) before_mobilise_not_needed_2
unfolding machine
mobilise_not_needed_2 = (refl, refl)

abbrev before_mobilise_not_needed_3 : Room
before_mobilise_not_needed_3 = record {
  plan = two_divisions;
  divisions = (division 1 2147483647) ∷ (division 2 2147483646) ∷ [];
  incidents = (incident 1 2147483647 (grid 530100 180100) 2 (needs 2 1 1) 1062 (Some 1072) Active) ∷ [];
  calls =
      (call 1 4 1 2147483647 2147483647 false (grid 530100 180100) 2 (needs 2 1 1) [] 1062)
      ∷ (call 1 5 1 2147483647 2147483647 true (grid 530100 180100) 2 (needs 1 1 0) [] 1243) ∷ [];
  vehicles =
      (vehicle A1 2 1 Ambulance (grid 530120 180160) Available 40000 None 0 3)
      ∷ (vehicle A2 1 1 Ambulance (grid 530100 180000) Available 5000 None 2 10)
      ∷ (vehicle A3 2 2 Ambulance (grid 531000 180000) OffDuty 0 None 0 2) ∷ [];
  turns =
      (turn A2 1 1 2147483647 Ambulance 1072 None (Some 1052) None None (Some 1194) false)
      ∷ (turn A2 2 1 2147483647 Ambulance 1405 None None (Some 2072) None (Some 2073) false) ∷ [];
  assignments = [];
  points = [];
  loans = (loan A1 2 1 5000 1173 false) ∷ [];
  offers = [];
  reports =
      (report A1 1 button.Home 0 (grid 530100 180000) 1173 1 Normal Available false)
      ∷ (report A1 2 button.Position 0 (grid 530100 180000) 3432 1 Normal Available false)
      ∷ (report A1 3 button.Position 0 (grid 530120 180160) 4140 1 Normal Available false)
      ∷ (report A2 2 button.Scene 1 (grid 530201 180000) 1052 1 Skipped AtScene false)
      ∷ (report A2 4 button.Return 1 (grid 530200 180000) 1194 1 Normal Returning false)
      ∷ (report A2 6 button.Leave 2 (grid 530100 180100) 2072 1 Skipped Leaving false)
      ∷ (report A2 7 button.Home 2 (grid 530100 180000) 2073 1 Skipped Available false)
      ∷ (report A2 8 button.Scene 2 (grid 531000 180000) 2374 1 Wrong Available false)
      ∷ (report A2 10 button.Return 0 (grid 530201 180000) 3277 1 Stale Available false)
      ∷ (report A3 1 button.Scene 0 (grid 530201 180000) 4074 2 Wrong OffDuty false)
      ∷ (report A3 2 button.Hospital 0 (grid 530201 180000) 4135 2 Wrong OffDuty false) ∷ [];
}

mobilise_not_needed_3 : Steps (at 4260 (Desk 1) (ask.Mobilise 2147483647 A1))
    before_mobilise_not_needed_3 (Err refusal.NotNeeded) before_mobilise_not_needed_3
unfolding machine
mobilise_not_needed_3 = (refl, refl)

abbrev before_mobilise_numbers_used_up : Room
before_mobilise_numbers_used_up = record {
  plan = two_divisions;
  divisions = (division 1 1) ∷ (division 2 3) ∷ [];
  incidents = (incident 1 1 (grid 530120 180160) 2 (needs 0 0 1) 1062 None Active) ∷ [];
  calls = (call 1 1 1 1 1 false (grid 530120 180160) 2 (needs 0 0 1) (codes "x") 1062) ∷ [];
  vehicles =
      (vehicle A1 2 2 Ambulance (grid 530100 180100) Available 5000 None 0 1)
      ∷ (vehicle A2 1 1 Support (grid 530100 180000) Available 2526 None 2147483647 0) ∷ [];
  turns = [];
  assignments = [];
  points = [];
  loans = [];
  offers = [];
  reports = (report A1 1 button.Position 0 (grid 530100 180100) 2056 2 Normal Available false) ∷ [];
}

mobilise_numbers_used_up : Steps (at 2056 (Desk 1) (ask.Mobilise 1 A2))
    before_mobilise_numbers_used_up (Err refusal.NumbersUsedUp) before_mobilise_numbers_used_up
unfolding machine
mobilise_numbers_used_up = (refl, refl)

abbrev before_mobilise_shift_over : Room
before_mobilise_shift_over = record {
  plan = two_divisions;
  divisions = (division 1 1) ∷ (division 2 0) ∷ [];
  incidents = (incident 1 1 (grid 530201 180000) 1 (needs 1 0 0) 980 None Active) ∷ [];
  calls = (call 2 4 1 1 1 false (grid 530201 180000) 1 (needs 0 1 0) [] 980) ∷ [];
  vehicles =
      (vehicle A1 1 1 Support (grid 530100 180100) OffDuty 0 None 0 0)
      ∷ (vehicle A2 2 2 Car (grid 530000 180000) Available 2000 None 0 0)
      ∷ (vehicle A3 1 1 Ambulance (grid 531000 180000) Available 40000 None 0 0) ∷ [];
  turns = [];
  assignments = [];
  points = [];
  loans = [];
  offers = [];
  reports = [];
}

mobilise_shift_over : Steps (at 40000 (Desk 1) (ask.Mobilise 1 A3)) before_mobilise_shift_over
    (Err refusal.ShiftOver) before_mobilise_shift_over
unfolding machine
mobilise_shift_over = (refl, refl)

abbrev before_mobilise_shift_over_2 : Room
before_mobilise_shift_over_2 = record {
  plan = two_divisions;
  divisions = (division 1 1) ∷ (division 2 0) ∷ [];
  incidents = (incident 1 1 (grid 530120 180160) 2 (needs 1 0 0) 1709 None Active) ∷ [];
  calls = (call 2 2 1 1 1 false (grid 530120 180160) 2 (needs 1 0 0) [] 1709) ∷ [];
  vehicles =
      (vehicle A1 2 2 Car (grid 530000 180000) OffDuty 0 None 0 2)
      ∷ (vehicle A2 2 2 Ambulance (grid 531000 180000) Available 40000 None 0 0)
      ∷ (vehicle A3 2 2 Ambulance (grid 530000 180000) Available 40000 None 0 0)
      ∷ (vehicle B1 1 1 Ambulance (grid 530200 180000) Available 40000 None 0 0)
      ∷ (vehicle B2 2 2 Ambulance (grid 560100 180000) OffDuty 2000 None 2147483647 2) ∷ [];
  turns = [];
  assignments = [];
  points = [];
  loans = [];
  offers = [];
  reports =
      (report A1 2 button.Scene 0 (grid 530300 180400) 1408 2 Wrong OffDuty false)
      ∷ (report B2 2 button.Position 2147483647 (grid 531000 180000) 1403 2 Wrong OffDuty false) ∷ [];
}

mobilise_shift_over_2 : Steps (at 40000 (Desk 1) (ask.Mobilise 1 B1)) before_mobilise_shift_over_2
    (Err refusal.ShiftOver) before_mobilise_shift_over_2
unfolding machine
mobilise_shift_over_2 = (refl, refl)

abbrev before_mobilise_shift_over_3 : Room
before_mobilise_shift_over_3 = record {
  plan = two_divisions;
  divisions = (division 1 0) ∷ (division 2 4) ∷ [];
  incidents = (incident 2 4 (grid 560000 180000) 2 (needs 0 1 0) 2513 None Active) ∷ [];
  calls = (call 2 6 2 4 4 false (grid 560000 180000) 2 (needs 0 1 0) [] 2513) ∷ [];
  vehicles =
      (vehicle A1 2 2 Ambulance (grid 530100 180000) Available 6273 None 0 2)
      ∷ (vehicle A2 2 2 Car (grid 560100 180000) Available 5000 None 0 0)
      ∷ (vehicle A3 2 2 Ambulance (grid 530000 180000) Available 2000 None 0 0)
      ∷ (vehicle B1 2 2 Ambulance (grid 530100 180100) Available 2000 None 0 3) ∷ [];
  turns = [];
  assignments = [];
  points = [];
  loans = [];
  offers = [];
  reports =
      (report A1 2 button.Leave 0 (grid 530120 180160) 2393 2 Wrong Available false)
      ∷ (report B1 2 button.Hospital 0 (grid 530300 180400) 1150 2 Wrong Available true)
      ∷ (report B1 3 button.Position 0 (grid 530100 180100) 1191 2 Normal Available false) ∷ [];
}

mobilise_shift_over_3 : Steps (at 2000 (Desk 2) (ask.Mobilise 4 B1)) before_mobilise_shift_over_3
    (Err refusal.ShiftOver) before_mobilise_shift_over_3
unfolding machine
mobilise_shift_over_3 = (refl, refl)

abbrev before_mobilise_shift_over_4 : Room
before_mobilise_shift_over_4 = record {
  plan = overlapping_divisions;
  divisions = (division 1 2) ∷ (division 7 0) ∷ [];
  incidents =
      (incident 1 1 (grid 531000 180000) 1 (needs 1 1 0) 1843 None Active)
      ∷ (incident 1 2 (grid 530100 180000) 1 (needs 0 0 1) 2324 None Active) ∷ [];
  calls =
      (call 1 3 1 2 2 false (grid 530100 180000) 1 (needs 0 0 1) [] 2324)
      ∷ (call 2 1 1 1 1 false (grid 531000 180000) 1 (needs 2 0 0) (codes "x") 1843) ∷ [];
  vehicles =
      (vehicle A1 1 1 Ambulance (grid 560200 180000) Available 40000 None 0 3)
      ∷ (vehicle A2 1 1 Ambulance (grid 530000 180000) Available 2000 None 0 1) ∷ [];
  turns = [];
  assignments = [];
  points = (point 1 1 (grid 530100 180000) 1) ∷ [];
  loans = [];
  offers = [];
  reports =
      (report A1 2 button.Leave 0 (grid 530100 180100) 1061 1 Wrong Available true)
      ∷ (report A1 3 button.Return 0 (grid 530201 180000) 1121 1 Wrong Available false)
      ∷ (report A2 1 button.Position 0 (grid 530000 180000) 1582 1 Normal Available false) ∷ [];
}

mobilise_shift_over_4 : Steps (at 40000 (Desk 1) (ask.Mobilise 1 A1)) before_mobilise_shift_over_4
    (Err refusal.ShiftOver) before_mobilise_shift_over_4
unfolding machine
mobilise_shift_over_4 = (refl, refl)

abbrev before_mobilise_vehicle_lent : Room
before_mobilise_vehicle_lent = record {
  plan = two_divisions;
  divisions = (division 1 1) ∷ (division 2 0) ∷ [];
  incidents = (incident 1 1 (grid 530100 180100) 1 (needs 1 0 0) 2038 None Active) ∷ [];
  calls = (call 2 4 1 1 1 false (grid 530100 180100) 1 (needs 1 0 0) [] 2038) ∷ [];
  vehicles =
      (vehicle A1 1 2 Ambulance (grid 530201 180000) Available 2000 None 0 0)
      ∷ (vehicle A2 2 2 Support (grid 531000 180000) Available 5000 None 0 0)
      ∷ (vehicle A3 2 2 Ambulance (grid 530000 180000) Available 2000 None 0 0) ∷ [];
  turns = [];
  assignments = [];
  points = [];
  loans = (loan A1 1 2 1883 1682 true) ∷ [];
  offers = [];
  reports = [];
}

mobilise_vehicle_lent : Steps (at 2550 (Desk 1) (ask.Mobilise 1 A1)) before_mobilise_vehicle_lent
    (Err refusal.VehicleLent) before_mobilise_vehicle_lent
unfolding machine
mobilise_vehicle_lent = (refl, refl)

abbrev before_mobilise_wrong_status : Room
before_mobilise_wrong_status = record {
  plan = two_divisions;
  divisions = (division 1 0) ∷ (division 2 1) ∷ [];
  incidents = (incident 2 1 (grid 560200 180000) 1 (needs 2 1 1) 1071 None Active) ∷ [];
  calls = (call 2 4 2 1 1 false (grid 560200 180000) 1 (needs 2 1 1) [] 1071) ∷ [];
  vehicles =
      (vehicle A1 2 2 Support (grid 530201 180000) OffDuty 0 None 0 0)
      ∷ (vehicle A2 2 2 Ambulance (grid 530000 180000) OffDuty 0 None 0 0) ∷ [];
  turns = [];
  assignments = [];
  points = [];
  loans = [];
  offers = [];
  reports = [];
}

mobilise_wrong_status : Steps (at 1372 (Desk 2) (ask.Mobilise 1 A2)) before_mobilise_wrong_status
    (Err refusal.WrongStatus) before_mobilise_wrong_status
unfolding machine
mobilise_wrong_status = (refl, refl)

abbrev before_mobilise_wrong_status_2 : Room
before_mobilise_wrong_status_2 = record {
  plan = two_divisions;
  divisions = (division 1 1) ∷ (division 2 0) ∷ [];
  incidents = (incident 1 1 (grid 530100 180000) 1 (needs 2 1 1) 1061 None Active) ∷ [];
  calls = (call 1 3 1 1 1 false (grid 530100 180000) 1 (needs 2 1 1) [] 1061) ∷ [];
  vehicles =
      (vehicle A1 1 1 Ambulance (grid 530300 180400) Offered 40000 None 0 0)
      ∷ (vehicle A2 1 1 Ambulance (grid 560100 180000) OffDuty 0 None 0 0) ∷ [];
  turns = [];
  assignments = [];
  points = [];
  loans = [];
  offers = (offer A1 1 2 1242 1242) ∷ [];
  reports = [];
}

mobilise_wrong_status_2 : Steps (at 40001 (Desk 1) (ask.Mobilise 1 A1))
    before_mobilise_wrong_status_2 (Err refusal.WrongStatus) before_mobilise_wrong_status_2
unfolding machine
mobilise_wrong_status_2 = (refl, refl)

abbrev before_mobilise_wrong_status_3 : Room
before_mobilise_wrong_status_3 = record {
  plan = two_divisions;
  divisions = (division 1 2147483647) ∷ (division 2 2147483647) ∷ [];
  incidents = (incident 1 2147483647 (grid 530100 180100) 2 (needs 1 0 0) 1362 (Some 1524) Active) ∷ [];
  calls = (call 1 3 1 2147483647 2147483647 false (grid 530100 180100) 2 (needs 1 0 0) (codes "x") 1362) ∷ [];
  vehicles =
      (vehicle A1 2 2 Car (grid 530200 180000) Available 40000 None 0 1)
      ∷ (vehicle A2 1 1 Ambulance (grid 530200 180000) Mobilised 2000 None 1 0)
      ∷ (vehicle A3 2 2 Car (grid 560000 180000) Available 40000 None 0 0) ∷ [];
  turns = (turn A2 1 1 2147483647 Ambulance 1524 None None None None None false) ∷ [];
  assignments = (assignment A2 1 2147483647 1 (grid 530100 180100) 2) ∷ [];
  points = [];
  loans = [];
  offers = [];
  reports = (report A1 1 button.Return 0 (grid 530100 180000) 2486 2 Wrong Available false) ∷ [];
}

mobilise_wrong_status_3 : Steps (at 2787 (Desk 1) (ask.Mobilise 2147483647 A2))
    before_mobilise_wrong_status_3 (Err refusal.WrongStatus) before_mobilise_wrong_status_3
unfolding machine
mobilise_wrong_status_3 = (refl, refl)

abbrev before_mobilise_wrong_status_4 : Room
before_mobilise_wrong_status_4 = record {
  plan = two_divisions;
  divisions = (division 1 2) ∷ (division 2 0) ∷ [];
  incidents =
      (incident 1 1 (grid 531000 180000) 2 (needs 2 0 0) 1581 (Some 1882) Active)
      ∷ (incident 1 2 (grid 530201 180000) 2 (needs 2 0 0) 2481 None Active) ∷ [];
  calls =
      (call 1 2 1 1 1 false (grid 531000 180000) 2 (needs 2 0 0) [] 1581)
      ∷ (call 2 3 1 2 2 false (grid 530201 180000) 2 (needs 2 0 0) [] 2481) ∷ [];
  vehicles =
      (vehicle A1 1 1 Ambulance (grid 530100 180100) AtScene 5000 None 1 1)
      ∷ (vehicle A2 2 2 Car (grid 531000 180000) Available 1620 None 0 0)
      ∷ (vehicle A3 2 2 Car (grid 530000 180000) Available 1620 None 0 0) ∷ [];
  turns = (turn A1 1 1 1 Ambulance 1882 None (Some 2424) None None None false) ∷ [];
  assignments = (assignment A1 1 1 1 (grid 531000 180000) 2) ∷ [];
  points = (point 2 1 (grid 531000 180000) 1) ∷ [];
  loans = [];
  offers = [];
  reports = (report A1 1 button.Scene 1 (grid 530100 180100) 2424 1 Skipped AtScene true) ∷ [];
}

mobilise_wrong_status_4 : Steps (at 1621 (Desk 1) (ask.Mobilise 2 A1))
    before_mobilise_wrong_status_4 (Err refusal.WrongStatus) before_mobilise_wrong_status_4
unfolding machine
mobilise_wrong_status_4 = (refl, refl)

abbrev before_mobilise_wrong_status_5 : Room
before_mobilise_wrong_status_5 = record {
  plan = two_divisions;
  divisions = (division 1 5) ∷ (division 2 0) ∷ [];
  incidents =
      (incident 1 4 (grid 530300 180400) 1 (needs 1 0 0) 1481 (Some 1631) Active)
      ∷ (incident 1 5 (grid 531000 180000) 1 (needs 0 0 1) 2382 None Active) ∷ [];
  calls =
      (call 2 4 1 4 4 false (grid 530300 180400) 1 (needs 1 0 0) [] 1481)
      ∷ (call 2 6 1 5 5 false (grid 531000 180000) 1 (needs 0 0 1) (codes "x") 2382) ∷ [];
  vehicles =
      (vehicle A1 1 1 Ambulance (grid 530200 180000) AtHospital 40000 None 1 3)
      ∷ (vehicle A2 2 2 Ambulance (grid 530000 180000) Offered 5000 None 0 0)
      ∷ (vehicle A3 2 2 Support (grid 530300 180400) Available 40000 None 0 0) ∷ [];
  turns = (turn A1 1 1 4 Ambulance 1631 None None (Some 1636) (Some 2398) None false) ∷ [];
  assignments = (assignment A1 1 4 1 (grid 530300 180400) 1) ∷ [];
  points = [];
  loans = [];
  offers = (offer A2 2 1 2418 2418) ∷ [];
  reports =
      (report A1 2 button.Leave 1 (grid 530200 180000) 1636 1 Skipped Leaving false)
      ∷ (report A1 3 button.Hospital 1 (grid 530200 180000) 2398 1 Normal AtHospital false) ∷ [];
}

mobilise_wrong_status_5 : Steps (at 2518 (Desk 1) (ask.Mobilise 4 A1))
    before_mobilise_wrong_status_5 (Err refusal.WrongStatus) before_mobilise_wrong_status_5
unfolding machine
mobilise_wrong_status_5 = (refl, refl)

abbrev before_mobilise_wrong_status_6 : Room
before_mobilise_wrong_status_6 = record {
  plan = two_divisions;
  divisions = (division 1 1) ∷ (division 2 0) ∷ [];
  incidents = (incident 1 1 (grid 530300 180400) 2 (needs 1 0 0) 1080 (Some 1391) Active) ∷ [];
  calls =
      (call 1 1 1 1 1 true (grid 530300 180400) 2 (needs 1 0 0) [] 1411)
      ∷ (call 1 5 1 1 1 false (grid 530300 180400) 3 (needs 1 0 0) [] 1080) ∷ [];
  vehicles =
      (vehicle A1 1 1 Ambulance (grid 530201 180000) Leaving 2000 None 1 3)
      ∷ (vehicle A2 2 2 Ambulance (grid 530120 180160) OffDuty 0 None 0 1)
      ∷ (vehicle A3 2 2 Support (grid 530200 180000) OffDuty 0 None 0 1) ∷ [];
  turns = (turn A1 1 1 1 Ambulance 1391 None None (Some 1878) None None false) ∷ [];
  assignments = (assignment A1 1 1 1 (grid 530300 180400) 2) ∷ [];
  points = [];
  loans = [];
  offers = [];
  reports =
      (report A1 1 button.Scene 0 (grid 530100 180000) 1100 1 Wrong Available false)
      ∷ (report A1 3 button.Leave 1 (grid 530201 180000) 1878 1 Skipped Leaving false)
      ∷ (report A2 1 button.Leave 0 (grid 530120 180160) 1908 2 Wrong OffDuty false)
      ∷ (report A3 1 button.Mobile 0 (grid 530300 180400) 980 2 Wrong OffDuty true) ∷ [];
}

mobilise_wrong_status_6 : Steps (at 1909 (Desk 1) (ask.Mobilise 1 A1))
    before_mobilise_wrong_status_6 (Err refusal.WrongStatus) before_mobilise_wrong_status_6
unfolding machine
mobilise_wrong_status_6 = (refl, refl)

abbrev before_order : Room
before_order = record {
  plan = overlapping_divisions;
  divisions = (division 1 3) ∷ (division 7 0) ∷ [];
  incidents = [];
  calls = [];
  vehicles =
      (vehicle A1 7 7 Support (grid 530000 180000) OffDuty 40000 None 0 0)
      ∷ (vehicle A2 7 7 Ambulance (grid 560200 180000) OffDuty 0 None 0 0) ∷ [];
  turns = [];
  assignments = [];
  points = [];
  loans = [];
  offers = [];
  reports = [];
}

order : Steps (at 1397 (Crew A1) ask.Order) before_order
    (Ok (answer.Order None None OffDuty)) before_order
unfolding machine
order = (refl, refl)

abbrev before_order_2 : Room
before_order_2 = record {
  plan = two_divisions;
  divisions = (division 1 2147483647) ∷ (division 2 2147483647) ∷ [];
  incidents = [];
  calls = [];
  vehicles =
      (vehicle A1 1 1 Ambulance (grid 531000 180000) Available 2000 None 0 0)
      ∷ (vehicle A2 2 2 Car (grid 531000 180000) Available 2000 None 0 0) ∷ [];
  turns = [];
  assignments = [];
  points = [];
  loans = [];
  offers = [];
  reports = [];
}

order_2 : Steps (at 1362 (Crew A1) ask.Order) before_order_2
    (Ok (answer.Order None None Available)) before_order_2
unfolding machine
order_2 = (refl, refl)

abbrev before_order_3 : Room
before_order_3 = record {
  plan = two_divisions;
  divisions = (division 1 2147483647) ∷ (division 2 2147483647) ∷ [];
  incidents = [];
  calls = [];
  vehicles =
      (vehicle A1 1 1 Car (grid 560100 180000) OffDuty 0 None 0 0)
      ∷ (vehicle A2 1 1 Ambulance (grid 530200 180000) Offered 2000 None 0 0) ∷ [];
  turns = [];
  assignments = [];
  points = [];
  loans = [];
  offers = (offer A2 1 2 1005 1005) ∷ [];
  reports = [];
}

order_3 : Steps (at 1135 (Crew A2) ask.Order) before_order_3
    (Ok (answer.Order None None Offered)) before_order_3
unfolding machine
order_3 = (refl, refl)

abbrev before_order_4 : Room
before_order_4 = record {
  plan = two_divisions;
  divisions = (division 1 3) ∷ (division 2 0) ∷ [];
  incidents = [];
  calls = [];
  vehicles =
      (vehicle A1 1 1 Ambulance (grid 531000 180000) Available 5000 (Some 1) 0 0)
      ∷ (vehicle A2 1 1 Support (grid 560100 180000) Available 40000 None 0 0)
      ∷ (vehicle A3 2 2 Ambulance (grid 530100 180100) Available 5000 None 0 0) ∷ [];
  turns = [];
  assignments = [];
  points = (point 1 1 (grid 531000 180000) 0) ∷ [];
  loans = [];
  offers = [];
  reports = [];
}

order_4 : Steps (at 1253 (Crew A1) ask.Order) before_order_4
    (Ok (answer.Order None (Some 1) Available)) before_order_4
unfolding machine
order_4 = (refl, refl)

abbrev before_order_5 : Room
before_order_5 = record {
  plan = two_divisions;
  divisions = (division 1 2147483647) ∷ (division 2 2147483647) ∷ [];
  incidents = (incident 1 2147483647 (grid 530300 180400) 3 (needs 2 1 1) 1161 (Some 1342) Active) ∷ [];
  calls = (call 2 2 1 2147483647 2147483647 false (grid 530300 180400) 3 (needs 2 1 1) [] 1161) ∷ [];
  vehicles =
      (vehicle A1 2 2 Ambulance (grid 530200 180000) Available 40000 None 0 0)
      ∷ (vehicle A2 1 1 Ambulance (grid 560000 180000) OffDuty 0 None 0 0)
      ∷ (vehicle A3 1 1 Ambulance (grid 531000 180000) Returning 40000 None 1 0) ∷ [];
  turns = (turn A3 1 1 2147483647 Ambulance 1342 None None None None (Some 1282) true) ∷ [];
  assignments = [];
  points = [];
  loans = [];
  offers = [];
  reports = [];
}

order_5 : Steps (at 1312 (Crew A3) ask.Order) before_order_5
    (Ok (answer.Order None None Returning)) before_order_5
unfolding machine
order_5 = (refl, refl)

abbrev before_order_6 : Room
before_order_6 = record {
  plan = two_divisions;
  divisions = (division 1 0) ∷ (division 2 0) ∷ [];
  incidents = [];
  calls = [];
  vehicles =
      (vehicle A1 1 1 Ambulance (grid 531000 180000) Available 5000 None 0 5)
      ∷ (vehicle A2 2 2 Car (grid 530000 180000) Available 42390 (Some 2) 0 0) ∷ [];
  turns = [];
  assignments = [];
  points = (point 2 2 (grid 530100 180000) 0) ∷ [];
  loans = [];
  offers = [];
  reports =
      (report A1 1 button.Return 0 (grid 530201 180000) 1121 1 Wrong Available false)
      ∷ (report A1 2 button.Leave 0 (grid 530200 180000) 2084 1 Wrong Offered true)
      ∷ (report A1 4 button.Home 0 (grid 531000 180000) 2390 2 Normal Available false)
      ∷ (report A1 5 button.Scene 0 (grid 530200 180000) 2390 1 Wrong Available false) ∷ [];
}

order_6 : Steps (at 2752 (Crew A2) ask.Order) before_order_6
    (Ok (answer.Order None (Some 2) Available)) before_order_6
unfolding machine
order_6 = (refl, refl)

abbrev before_order_7 : Room
before_order_7 = record {
  plan = two_divisions;
  divisions = (division 1 1) ∷ (division 2 1) ∷ [];
  incidents =
      (incident 1 1 (grid 530120 180160) 1 (needs 1 0 0) 1606 None Active)
      ∷ (incident 2 1 (grid 560200 180000) 2 (needs 0 0 1) 2507 None Active) ∷ [];
  calls =
      (call 1 1 1 1 1 true (grid 530100 180000) 1 (needs 1 0 0) [] 2268)
      ∷ (call 1 5 2 1 1 false (grid 560200 180000) 2 (needs 0 0 1) [] 2507)
      ∷ (call 1 6 1 1 1 false (grid 530120 180160) 2 (needs 1 0 0) [] 1606) ∷ [];
  vehicles =
      (vehicle A1 1 1 Support (grid 530100 180000) Available 40000 (Some 1) 0 2)
      ∷ (vehicle A2 2 2 Ambulance (grid 531000 180000) Available 6268 None 0 0) ∷ [];
  turns = [];
  assignments = [];
  points = (point 1 1 (grid 530000 180000) 0) ∷ [];
  loans = [];
  offers = [];
  reports = (report A1 2 button.Home 0 (grid 530100 180000) 1001 1 Normal Available false) ∷ [];
}

order_7 : Steps (at 3200 (Crew A1) ask.Order) before_order_7
    (Ok (answer.Order None (Some 1) Available)) before_order_7
unfolding machine
order_7 = (refl, refl)

abbrev before_order_8 : Room
before_order_8 = record {
  plan = two_divisions;
  divisions = (division 1 1) ∷ (division 2 0) ∷ [];
  incidents = (incident 1 1 (grid 530201 180000) 2 (needs 2 1 0) 1337 (Some 1801) Active) ∷ [];
  calls =
      (call 1 4 1 1 1 true (grid 530200 180000) 2 (needs 2 0 0) [] 1831)
      ∷ (call 2 4 1 1 1 false (grid 530201 180000) 3 (needs 0 1 0) [] 1337) ∷ [];
  vehicles =
      (vehicle A1 2 2 Car (grid 531000 180000) Available 5339 None 0 1)
      ∷ (vehicle A2 1 1 Ambulance (grid 530201 180000) Available 2000 None 0 1)
      ∷ (vehicle A3 1 1 Car (grid 530300 180400) Mobilised 41150 None 1 0)
      ∷ (vehicle B1 1 1 Support (grid 530201 180000) Available 2000 None 0 0) ∷ [];
  turns = (turn A3 1 1 1 Car 1801 None None None None None false) ∷ [];
  assignments = (assignment A3 1 1 1 (grid 530201 180000) 3) ∷ [];
  points = (point 2 1 (grid 530100 180000) 0) ∷ [];
  loans = [];
  offers = [];
  reports =
      (report A1 1 button.Home 0 (grid 530100 180100) 1338 2 Wrong OffDuty false)
      ∷ (report A2 1 button.Hospital 0 (grid 530120 180160) 1338 1 Wrong Available false) ∷ [];
}

order_8 : Steps (at 1831 (Crew A3) ask.Order) before_order_8
    (Ok (answer.Order (Some (assignment A3 1 1 1 (grid 530201 180000) 3)) None Mobilised))
    before_order_8
unfolding machine
order_8 = (refl, refl)

abbrev before_order_9 : Room
before_order_9 = record {
  plan = overlapping_divisions;
  divisions = (division 1 1) ∷ (division 7 0) ∷ [];
  incidents = (incident 1 1 (grid 530120 180160) 1 (needs 1 1 0) 1242 (Some 1279) Active) ∷ [];
  calls =
      (call 2 2 1 1 1 true (grid 530200 180000) 1 (needs 1 0 0) [] 1760)
      ∷ (call 2 5 1 1 1 false (grid 530120 180160) 2 (needs 1 1 0) [] 1242)
      ∷ (call 2 6 1 1 1 true (grid 530100 180100) 2 (needs 1 0 0) [] 1885) ∷ [];
  vehicles =
      (vehicle A1 1 1 Car (grid 530120 180160) OffDuty 5000 None 0 0)
      ∷ (vehicle A2 7 7 Ambulance (grid 530100 180100) Available 2000 None 0 0)
      ∷ (vehicle A3 1 1 Ambulance (grid 530100 180100) AtHospital 5000 None 1 2) ∷ [];
  turns = (turn A3 1 1 1 Ambulance 1279 None None None (Some 1765) None false) ∷ [];
  assignments = (assignment A3 1 1 1 (grid 530120 180160) 2) ∷ [];
  points = (point 1 1 (grid 530100 180000) 1) ∷ [];
  loans = [];
  offers = [];
  reports =
      (report A3 1 button.Position 0 (grid 530200 180000) 1272 1 Normal Available false)
      ∷ (report A3 2 button.Hospital 1 (grid 530100 180100) 1765 1 Skipped AtHospital false) ∷ [];
}

order_9 : Steps (at 1890 (Crew A3) ask.Order) before_order_9
    (Ok (answer.Order (Some (assignment A3 1 1 1 (grid 530120 180160) 2)) None AtHospital))
    before_order_9
unfolding machine
order_9 = (refl, refl)

abbrev before_order_10 : Room
before_order_10 = record {
  plan = two_divisions;
  divisions = (division 1 2) ∷ (division 2 0) ∷ [];
  incidents =
      (incident 1 1 (grid 531000 180000) 2 (needs 2 0 0) 1581 (Some 1882) Active)
      ∷ (incident 1 2 (grid 530201 180000) 2 (needs 2 0 0) 2481 None Active) ∷ [];
  calls =
      (call 1 2 1 1 1 false (grid 531000 180000) 2 (needs 2 0 0) [] 1581)
      ∷ (call 2 3 1 2 2 false (grid 530201 180000) 2 (needs 2 0 0) [] 2481) ∷ [];
  vehicles =
      (vehicle A1 1 1 Ambulance (grid 530100 180100) AtScene 5000 None 1 1)
      ∷ (vehicle A2 2 2 Car (grid 531000 180000) Available 1620 None 0 0)
      ∷ (vehicle A3 2 2 Car (grid 530000 180000) Available 1620 None 0 0) ∷ [];
  turns = (turn A1 1 1 1 Ambulance 1882 None (Some 2424) None None None false) ∷ [];
  assignments = (assignment A1 1 1 1 (grid 531000 180000) 2) ∷ [];
  points = (point 2 1 (grid 531000 180000) 1) ∷ (point 2 2 (grid 530300 180400) 2) ∷ [];
  loans = [];
  offers = [];
  reports = (report A1 1 button.Scene 1 (grid 530100 180100) 2424 1 Skipped AtScene true) ∷ [];
}

order_10 : Steps (at 2767 (Crew A1) ask.Order) before_order_10
    (Ok (answer.Order (Some (assignment A1 1 1 1 (grid 531000 180000) 2)) None AtScene))
    before_order_10
unfolding machine
order_10 = (refl, refl)

abbrev before_order_11 : Room
before_order_11 = record {
  plan = two_divisions;
  divisions = (division 1 1) ∷ (division 2 1) ∷ [];
  incidents =
      (incident 1 1 (grid 530300 180400) 1 (needs 1 0 0) 1932 None Active)
      ∷ (incident 2 1 (grid 560200 180000) 2 (needs 1 1 0) 1091 (Some 1211) Active) ∷ [];
  calls =
      (call 1 5 2 1 1 false (grid 560200 180000) 3 (needs 1 1 0) [] 1091)
      ∷ (call 2 1 1 1 1 false (grid 530300 180400) 1 (needs 1 0 0) (codes "x") 1932)
      ∷ (call 2 5 2 1 1 true (grid 560200 180000) 2 (needs 1 0 0) [] 1991) ∷ [];
  vehicles =
      (vehicle A1 1 1 Ambulance (grid 530100 180000) Available 5000 None 0 2)
      ∷ (vehicle A2 2 2 Ambulance (grid 560000 180000) Mobilised 2000 None 1 1)
      ∷ (vehicle A3 2 2 Ambulance (grid 530100 180000) Available 40000 None 0 1) ∷ [];
  turns = (turn A2 1 2 1 Ambulance 1211 None None None None None false) ∷ [];
  assignments = (assignment A2 2 1 1 (grid 560200 180000) 3) ∷ [];
  points = [];
  loans = [];
  offers = [];
  reports =
      (report A1 2 button.Home 0 (grid 530100 180000) 1798 1 Normal Available false)
      ∷ (report A2 1 button.Return 0 (grid 531000 180000) 1331 2 Stale Mobilised false)
      ∷ (report A3 1 button.Return 0 (grid 530200 180000) 1798 2 Wrong Available false) ∷ [];
}

order_11 : Steps (at 1828 (Crew A2) ask.Order) before_order_11
    (Ok (answer.Order (Some (assignment A2 2 1 1 (grid 560200 180000) 3)) None Mobilised))
    before_order_11
unfolding machine
order_11 = (refl, refl)

abbrev before_order_12 : Room
before_order_12 = record {
  plan = two_divisions;
  divisions = (division 1 2) ∷ (division 2 0) ∷ [];
  incidents =
      (incident 1 1 (grid 530100 180100) 2 (needs 2 1 1) 1693 (Some 1874) Active)
      ∷ (incident 1 2 (grid 531000 180000) 3 (needs 2 0 0) 2547 None Active) ∷ [];
  calls =
      (call 1 1 1 1 1 true (grid 530201 180000) 2 (needs 1 0 0) [] 2593)
      ∷ (call 1 3 1 1 1 true (grid 530100 180100) 2 (needs 2 1 1) (codes "x") 2366)
      ∷ (call 1 6 1 2 2 false (grid 531000 180000) 3 (needs 2 0 0) [] 2547)
      ∷ (call 2 5 1 1 1 false (grid 530100 180100) 3 (needs 2 1 1) (codes "x") 1693) ∷ [];
  vehicles =
      (vehicle A1 2 2 Ambulance (grid 530201 180000) Available 40000 None 0 0)
      ∷ (vehicle A2 2 2 Car (grid 530100 180000) Available 5000 None 0 0)
      ∷ (vehicle A3 1 1 Support (grid 560100 180000) Mobilised 40000 None 1 0)
      ∷ (vehicle B1 2 2 Ambulance (grid 560000 180000) Available 2000 None 0 0)
      ∷ (vehicle B2 1 1 Ambulance (grid 560100 180000) OffDuty 0 None 0 0) ∷ [];
  turns = (turn A3 1 1 1 Support 1874 None None None None None false) ∷ [];
  assignments = (assignment A3 1 1 1 (grid 530100 180100) 3) ∷ [];
  points = [];
  loans = [];
  offers = [];
  reports = [];
}

order_12 : Steps (at 2577 (Crew A3) ask.Order) before_order_12
    (Ok (answer.Order (Some (assignment A3 1 1 1 (grid 530100 180100) 3)) None Mobilised))
    before_order_12
unfolding machine
order_12 = (refl, refl)

abbrev before_order_13 : Room
before_order_13 = record {
  plan = two_divisions;
  divisions = (division 1 2) ∷ (division 2 0) ∷ [];
  incidents =
      (incident 1 1 (grid 530100 180000) 1 (needs 0 1 0) 1301 None Active)
      ∷ (incident 1 2 (grid 531000 180000) 2 (needs 1 1 0) 2202 (Some 1482) Active) ∷ [];
  calls =
      (call 1 5 1 1 1 false (grid 530100 180000) 2 (needs 0 1 0) [] 1301)
      ∷ (call 2 1 1 2 2 false (grid 531000 180000) 2 (needs 1 1 0) [] 2202)
      ∷ (call 2 6 1 1 1 true (grid 530100 180100) 1 (needs 0 1 0) [] 1783) ∷ [];
  vehicles =
      (vehicle A1 1 1 Ambulance (grid 530100 180100) OffDuty 0 None 0 1)
      ∷ (vehicle A2 2 2 Car (grid 560100 180000) OffDuty 0 None 0 0)
      ∷ (vehicle A3 1 1 Car (grid 530120 180160) Leaving 5000 None 1 3) ∷ [];
  turns = (turn A3 1 1 2 Car 1482 None None (Some 2114) None None false) ∷ [];
  assignments = (assignment A3 1 2 1 (grid 531000 180000) 2) ∷ [];
  points = (point 1 2 (grid 530120 180160) 1) ∷ [];
  loans = [];
  offers = [];
  reports =
      (report A1 1 button.Home 0 (grid 530201 180000) 1301 1 Wrong OffDuty false)
      ∷ (report A3 2 button.Leave 0 (grid 530200 180000) 1903 1 Wrong Available false)
      ∷ (report A3 3 button.Leave 1 (grid 530120 180160) 2114 1 Skipped Leaving false) ∷ [];
}

order_13 : Steps (at 2512 (Crew A3) ask.Order) before_order_13
    (Ok (answer.Order (Some (assignment A3 1 2 1 (grid 531000 180000) 2)) None Leaving))
    before_order_13
unfolding machine
order_13 = (refl, refl)

abbrev before_order_14 : Room
before_order_14 = record {
  plan = two_divisions;
  divisions = (division 1 3) ∷ (division 2 0) ∷ [];
  incidents =
      (incident 1 1 (grid 530100 180000) 2 (needs 0 0 1) 980 None Active)
      ∷ (incident 1 2 (grid 530200 180000) 2 (needs 1 1 1) 1881 (Some 1880) Active)
      ∷ (incident 1 3 (grid 531000 180000) 2 (needs 0 0 1) 2061 None Active) ∷ [];
  calls =
      (call 1 3 1 1 1 false (grid 530100 180000) 2 (needs 0 0 1) [] 980)
      ∷ (call 1 6 1 2 2 true (grid 530200 180000) 2 (needs 1 1 0) [] 2781)
      ∷ (call 2 1 1 3 3 false (grid 531000 180000) 2 (needs 0 0 1) [] 2061)
      ∷ (call 2 4 1 2 2 false (grid 530200 180000) 2 (needs 0 0 1) [] 1881) ∷ [];
  vehicles =
      (vehicle A1 1 1 Support (grid 530200 180000) Returning 40000 (Some 1) 1 3)
      ∷ (vehicle A2 2 2 Support (grid 530201 180000) Available 5000 None 0 1)
      ∷ (vehicle A3 2 2 Ambulance (grid 530100 180000) Available 6831 None 0 1) ∷ [];
  turns = (turn A1 1 1 2 Support 1880 None None None None (Some 1683) true) ∷ [];
  assignments = [];
  points = (point 1 1 (grid 531000 180000) 0) ∷ [];
  loans = [];
  offers = [];
  reports =
      (report A1 1 button.Position 1 (grid 531000 180000) 2164 1 Normal Returning false)
      ∷ (report A1 3 button.Position 1 (grid 530200 180000) 3494 1 Normal Returning false)
      ∷ (report A2 1 button.Mobile 0 (grid 530300 180400) 2650 2 Wrong Available false)
      ∷ (report A3 1 button.Leave 0 (grid 530100 180000) 2645 2 Wrong OffDuty true) ∷ [];
}

order_14 : Steps (at 3644 (Crew A1) ask.Order) before_order_14
    (Ok (answer.Order None (Some 1) Returning)) before_order_14
unfolding machine
order_14 = (refl, refl)

abbrev before_stand_down : Room
before_stand_down = record {
  plan = two_divisions;
  divisions = (division 1 2147483647) ∷ (division 2 2147483647) ∷ [];
  incidents = (incident 1 2147483647 (grid 530300 180400) 3 (needs 2 1 1) 1161 (Some 1342) Active) ∷ [];
  calls = (call 2 2 1 2147483647 2147483647 false (grid 530300 180400) 3 (needs 2 1 1) [] 1161) ∷ [];
  vehicles =
      (vehicle A1 2 2 Ambulance (grid 530200 180000) Available 40000 None 0 0)
      ∷ (vehicle A2 1 1 Ambulance (grid 560000 180000) OffDuty 0 None 0 0)
      ∷ (vehicle A3 1 1 Ambulance (grid 531000 180000) Mobilised 40000 None 1 0) ∷ [];
  turns = (turn A3 1 1 2147483647 Ambulance 1342 None None None None None false) ∷ [];
  assignments = (assignment A3 1 2147483647 1 (grid 530300 180400) 3) ∷ [];
  points = [];
  loans = [];
  offers = [];
  reports = [];
}

stand_down : Steps (at 1282 (Desk 1) (ask.StandDown A3)) before_stand_down (Ok answer.Done)
    (record before_stand_down {
      vehicles =
          (vehicle A1 2 2 Ambulance (grid 530200 180000) Available 40000 None 0 0)
          ∷ (vehicle A2 1 1 Ambulance (grid 560000 180000) OffDuty 0 None 0 0)
          ∷ (vehicle A3 1 1 Ambulance (grid 531000 180000) Returning 40000 None 1 0)
          ∷ [];
      turns = (turn A3 1 1 2147483647 Ambulance 1342 None None None None (Some 1282) true)
          ∷ [];
      assignments = [];
    })
unfolding machine
stand_down = (refl, refl)

abbrev before_stand_down_2 : Room
before_stand_down_2 = record {
  plan = overlapping_divisions;
  divisions = (division 1 4) ∷ (division 7 0) ∷ [];
  incidents = (incident 1 4 (grid 530100 180000) 3 (needs 1 1 0) 1461 (Some 1581) Active) ∷ [];
  calls = (call 1 4 1 4 4 false (grid 530100 180000) 3 (needs 1 1 0) [] 1461) ∷ [];
  vehicles =
      (vehicle A1 1 1 Ambulance (grid 530201 180000) Mobilised 2000 None 1 0)
      ∷ (vehicle A2 1 1 Support (grid 531000 180000) Available 5000 None 0 1) ∷ [];
  turns = (turn A1 1 1 4 Ambulance 1581 None None None None None false) ∷ [];
  assignments = (assignment A1 1 4 1 (grid 530100 180000) 3) ∷ [];
  points = [];
  loans = [];
  offers = [];
  reports = (report A2 1 button.Position 0 (grid 531000 180000) 980 1 Normal Available false) ∷ [];
}

stand_down_2 : Steps (at 1742 (Desk 1) (ask.StandDown A1)) before_stand_down_2 (Ok answer.Done)
    (record before_stand_down_2 {
      vehicles =
          (vehicle A1 1 1 Ambulance (grid 530201 180000) Returning 2000 None 1 0)
          ∷ (vehicle A2 1 1 Support (grid 531000 180000) Available 5000 None 0 1)
          ∷ [];
      turns = (turn A1 1 1 4 Ambulance 1581 None None None None (Some 1742) true)
          ∷ [];
      assignments = [];
    })
unfolding machine
stand_down_2 = (refl, refl)

abbrev before_stand_down_3 : Room
before_stand_down_3 = record {
  plan = two_divisions;
  divisions = (division 1 1) ∷ (division 2 0) ∷ [];
  incidents = (incident 1 1 (grid 530000 180000) 3 (needs 1 0 0) 980 (Some 1441) Active) ∷ [];
  calls = (call 2 4 1 1 1 false (grid 530000 180000) 3 (needs 1 0 0) [] 980) ∷ [];
  vehicles =
      (vehicle A1 1 1 Ambulance (grid 530201 180000) Mobilised 2000 None 1 0)
      ∷ (vehicle A2 2 2 Ambulance (grid 530100 180000) Available 4960 None 0 0)
      ∷ (vehicle A3 1 1 Car (grid 531000 180000) OffDuty 0 None 0 0) ∷ [];
  turns = (turn A1 1 1 1 Ambulance 1441 None None None None None false) ∷ [];
  assignments = (assignment A1 1 1 1 (grid 530000 180000) 3) ∷ [];
  points = [];
  loans = [];
  offers = [];
  reports = [];
}

stand_down_3 : Steps (at 1532 (Desk 1) (ask.StandDown A1)) before_stand_down_3 (Ok answer.Done)
    (record before_stand_down_3 {
      vehicles =
          (vehicle A1 1 1 Ambulance (grid 530201 180000) Returning 2000 None 1 0)
          ∷ (vehicle A2 2 2 Ambulance (grid 530100 180000) Available 4960 None 0 0)
          ∷ (vehicle A3 1 1 Car (grid 531000 180000) OffDuty 0 None 0 0)
          ∷ [];
      turns = (turn A1 1 1 1 Ambulance 1441 None None None None (Some 1532) true)
          ∷ [];
      assignments = [];
    })
unfolding machine
stand_down_3 = (refl, refl)

abbrev before_stand_down_4 : Room
before_stand_down_4 = record {
  plan = two_divisions;
  divisions = (division 1 1) ∷ (division 2 0) ∷ [];
  incidents = (incident 1 1 (grid 530000 180000) 2 (needs 1 0 0) 1061 (Some 1392) Active) ∷ [];
  calls = (call 1 3 1 1 1 false (grid 530000 180000) 2 (needs 1 0 0) (codes "x") 1061) ∷ [];
  vehicles =
      (vehicle A1 1 1 Ambulance (grid 530300 180400) Available 5000 None 0 0)
      ∷ (vehicle A2 2 2 Ambulance (grid 530100 180000) Available 40000 None 0 0)
      ∷ (vehicle A3 1 1 Ambulance (grid 530300 180400) Mobilised 40000 None 1 1) ∷ [];
  turns = (turn A3 1 1 1 Ambulance 1392 (Some 1393) None None None None false) ∷ [];
  assignments = (assignment A3 1 1 1 (grid 530000 180000) 2) ∷ [];
  points = [];
  loans = [];
  offers = [];
  reports = (report A3 1 button.Mobile 1 (grid 530300 180400) 1393 1 Normal Mobilised false) ∷ [];
}

stand_down_4 : Steps (at 1854 (Desk 1) (ask.StandDown A3)) before_stand_down_4 (Ok answer.Done)
    (record before_stand_down_4 {
      vehicles =
          (vehicle A1 1 1 Ambulance (grid 530300 180400) Available 5000 None 0 0)
          ∷ (vehicle A2 2 2 Ambulance (grid 530100 180000) Available 40000 None 0 0)
          ∷ (vehicle A3 1 1 Ambulance (grid 530300 180400) Returning 40000 None 1 1)
          ∷ [];
      turns = (turn A3 1 1 1 Ambulance 1392 (Some 1393) None None None (Some 1854) true)
          ∷ [];
      assignments = [];
    })
unfolding machine
stand_down_4 = (refl, refl)

abbrev before_stand_down_no_such_vehicle : Room
before_stand_down_no_such_vehicle = record {
  plan = overlapping_divisions;
  divisions = (division 1 2147483647) ∷ (division 7 2147483646) ∷ [];
  incidents = [];
  calls = [];
  vehicles =
      (vehicle A1 7 7 Support (grid 560100 180000) OffDuty 0 None 0 0)
      ∷ (vehicle A2 1 1 Ambulance (grid 530201 180000) Available 5000 None 0 0) ∷ [];
  turns = [];
  assignments = [];
  points = [];
  loans = [];
  offers = [];
  reports = [];
}

stand_down_no_such_vehicle : Steps
    (at 1482 (Desk 7) (ask.StandDown Z9)) before_stand_down_no_such_vehicle
    (Err refusal.NoSuchVehicle) before_stand_down_no_such_vehicle
unfolding machine
stand_down_no_such_vehicle = (refl, refl)

abbrev before_stand_down_vehicle_lent : Room
before_stand_down_vehicle_lent = record {
  plan = two_divisions;
  divisions = (division 1 0) ∷ (division 2 1) ∷ [];
  incidents = (incident 2 1 (grid 560000 180000) 2 (needs 0 0 1) 2173 None Active) ∷ [];
  calls = (call 1 5 2 1 1 false (grid 560000 180000) 2 (needs 0 0 1) [] 2173) ∷ [];
  vehicles =
      (vehicle A1 2 2 Ambulance (grid 560100 180000) Available 40000 (Some 2) 0 0)
      ∷ (vehicle A2 2 1 Ambulance (grid 530100 180100) Available 2000 None 0 1) ∷ [];
  turns = [];
  assignments = [];
  points = (point 2 2 (grid 531000 180000) 0) ∷ [];
  loans = (loan A2 2 1 1722 1702 false) ∷ [];
  offers = [];
  reports = (report A2 1 button.Return 0 (grid 531000 180000) 1872 1 Wrong Available false) ∷ [];
}

stand_down_vehicle_lent : Steps (at 2328 (Desk 2) (ask.StandDown A2))
    before_stand_down_vehicle_lent (Err refusal.VehicleLent) before_stand_down_vehicle_lent
unfolding machine
stand_down_vehicle_lent = (refl, refl)

abbrev before_stand_down_wrong_status : Room
before_stand_down_wrong_status = record {
  plan = overlapping_divisions;
  divisions = (division 1 0) ∷ (division 7 0) ∷ [];
  incidents = [];
  calls = [];
  vehicles =
      (vehicle A1 1 1 Ambulance (grid 530300 180400) OffDuty 0 None 0 0)
      ∷ (vehicle A2 1 1 Ambulance (grid 531000 180000) OffDuty 0 None 0 0) ∷ [];
  turns = [];
  assignments = [];
  points = [];
  loans = [];
  offers = [];
  reports = [];
}

stand_down_wrong_status : Steps (at 1301 (Desk 1) (ask.StandDown A1))
    before_stand_down_wrong_status (Err refusal.WrongStatus) before_stand_down_wrong_status
unfolding machine
stand_down_wrong_status = (refl, refl)

abbrev before_stand_down_wrong_status_2 : Room
before_stand_down_wrong_status_2 = record {
  plan = overlapping_divisions;
  divisions = (division 1 3) ∷ (division 7 0) ∷ [];
  incidents = [];
  calls = [];
  vehicles =
      (vehicle A1 1 1 Support (grid 530100 180100) Available 2000 None 0 0)
      ∷ (vehicle A2 7 7 Ambulance (grid 560000 180000) Available 40000 None 0 0) ∷ [];
  turns = [];
  assignments = [];
  points = [];
  loans = [];
  offers = [];
  reports = [];
}

stand_down_wrong_status_2 : Steps
    (at 1481 (Desk 1) (ask.StandDown A1)) before_stand_down_wrong_status_2
    (Err refusal.WrongStatus) before_stand_down_wrong_status_2
unfolding machine
stand_down_wrong_status_2 = (refl, refl)

abbrev before_stand_down_wrong_status_3 : Room
before_stand_down_wrong_status_3 = record {
  plan = two_divisions;
  divisions = (division 1 0) ∷ (division 2 0) ∷ [];
  incidents = [];
  calls = [];
  vehicles =
      (vehicle A1 2 2 Ambulance (grid 530300 180400) Available 2000 None 2147483647 1)
      ∷ (vehicle A2 1 1 Ambulance (grid 560000 180000) Offered 40000 None 0 0) ∷ [];
  turns = [];
  assignments = [];
  points = [];
  loans = [];
  offers = (offer A2 1 2 1242 1242) ∷ [];
  reports = (report A1 1 button.Return 2147483647 (grid 531000 180000) 1061 2 Wrong Available false) ∷ [];
}

stand_down_wrong_status_3 : Steps
    (at 1303 (Desk 1) (ask.StandDown A2)) before_stand_down_wrong_status_3
    (Err refusal.WrongStatus) before_stand_down_wrong_status_3
unfolding machine
stand_down_wrong_status_3 = (refl, refl)

abbrev before_stand_down_wrong_status_4 : Room
before_stand_down_wrong_status_4 = record {
  plan = two_divisions;
  divisions = (division 1 1) ∷ (division 2 0) ∷ [];
  incidents = (incident 1 1 (grid 530201 180000) 2 (needs 2 0 0) 2172 (Some 3320) Active) ∷ [];
  calls = (call 2 4 1 1 1 false (grid 530201 180000) 2 (needs 2 0 0) [] 2172) ∷ [];
  vehicles =
      (vehicle A1 1 1 Ambulance (grid 530100 180000) Available 6839 None 0 1)
      ∷ (vehicle A2 1 1 Ambulance (grid 530200 180000) Returning 5000 None 1 1)
      ∷ (vehicle A3 2 2 Support (grid 531000 180000) Available 2000 None 0 1) ∷ [];
  turns = (turn A2 1 1 1 Ambulance 3320 None None None None (Some 3801) true) ∷ [];
  assignments = [];
  points = [];
  loans = [];
  offers = [];
  reports =
      (report A1 1 button.Leave 0 (grid 530300 180400) 2052 1 Wrong OffDuty false)
      ∷ (report A2 1 button.Mobile 0 (grid 530300 180400) 1782 1 Wrong Available false)
      ∷ (report A3 1 button.Return 0 (grid 530000 180000) 2022 2 Wrong Available false) ∷ [];
}

stand_down_wrong_status_4 : Steps
    (at 4082 (Desk 1) (ask.StandDown A2)) before_stand_down_wrong_status_4
    (Err refusal.WrongStatus) before_stand_down_wrong_status_4
unfolding machine
stand_down_wrong_status_4 = (refl, refl)

abbrev before_stand_down_wrong_status_5 : Room
before_stand_down_wrong_status_5 = record {
  plan = overlapping_divisions;
  divisions = (division 1 1) ∷ (division 7 0) ∷ [];
  incidents = (incident 1 1 (grid 531000 180000) 1 (needs 1 0 0) 985 (Some 1647) Active) ∷ [];
  calls = (call 1 5 1 1 1 false (grid 531000 180000) 1 (needs 1 0 0) [] 985) ∷ [];
  vehicles =
      (vehicle A1 1 1 Ambulance (grid 530100 180100) AtScene 2000 None 1 2)
      ∷ (vehicle A2 7 7 Ambulance (grid 530100 180000) OffDuty 0 None 0 0)
      ∷ (vehicle A3 1 1 Ambulance (grid 560100 180000) Available 40000 None 0 0)
      ∷ (vehicle B1 7 7 Ambulance (grid 530100 180100) Offered 2000 None 0 0) ∷ [];
  turns = (turn A1 1 1 1 Ambulance 1647 None (Some 2630) None None None false) ∷ [];
  assignments = (assignment A1 1 1 1 (grid 531000 180000) 1) ∷ [];
  points = (point 1 1 (grid 530000 180000) 2) ∷ [];
  loans = [];
  offers = (offer B1 7 1 1999 2999) ∷ [];
  reports =
      (report A1 1 button.Scene 0 (grid 530100 180100) 2670 1 Stale Mobilised false)
      ∷ (report A1 2 button.Scene 1 (grid 530100 180100) 2630 1 Skipped AtScene false) ∷ [];
}

stand_down_wrong_status_5 : Steps
    (at 2812 (Desk 1) (ask.StandDown A1)) before_stand_down_wrong_status_5
    (Err refusal.WrongStatus) before_stand_down_wrong_status_5
unfolding machine
stand_down_wrong_status_5 = (refl, refl)

abbrev before_stand_down_wrong_status_6 : Room
before_stand_down_wrong_status_6 = record {
  plan = two_divisions;
  divisions = (division 1 2147483647) ∷ (division 2 2147483647) ∷ [];
  incidents = (incident 1 2147483647 (grid 530120 180160) 2 (needs 1 1 0) 1120 (Some 1222) Active) ∷ [];
  calls =
      (call 1 2 1 2147483647 2147483647 true (grid 530000 180000) 2 (needs 1 1 0) [] 1866)
      ∷ (call 1 5 1 2147483647 2147483647 false (grid 530120 180160) 2 (needs 2 1 1) [] 1120) ∷ [];
  vehicles =
      (vehicle A1 1 1 Ambulance (grid 530300 180400) Leaving 40000 None 1 1)
      ∷ (vehicle A2 1 1 Ambulance (grid 560200 180000) Available 40000 None 2147483647 3)
      ∷ (vehicle A3 2 1 Ambulance (grid 530000 180000) Available 40000 None 0 1)
      ∷ (vehicle B1 2 2 Car (grid 530201 180000) Available 40000 None 0 3) ∷ [];
  turns = (turn A1 1 1 2147483647 Ambulance 1222 None None (Some 1836) None None false) ∷ [];
  assignments = (assignment A1 1 2147483647 1 (grid 530120 180160) 2) ∷ [];
  points = (point 2 1 (grid 530100 180000) 1) ∷ [];
  loans = (loan A3 2 1 1962 1896 false) ∷ [];
  offers = [];
  reports =
      (report A1 1 button.Leave 1 (grid 530300 180400) 1836 1 Skipped Leaving false)
      ∷ (report A2 2 button.Leave 2147483647 (grid 530000 180000) 1211 1 Wrong Available true)
      ∷ (report A2 3 button.Leave 2147483647 (grid 530200 180000) 2443 1 Wrong Available false)
      ∷ (report A3 1 button.Mobile 0 (grid 531000 180000) 1202 2 Wrong Available false)
      ∷ (report B1 1 button.Home 0 (grid 530201 180000) 1181 2 Normal Available false)
      ∷ (report B1 3 button.Mobile 0 (grid 530300 180400) 1263 2 Wrong Available false) ∷ [];
}

stand_down_wrong_status_6 : Steps
    (at 2624 (Desk 1) (ask.StandDown A1)) before_stand_down_wrong_status_6
    (Err refusal.WrongStatus) before_stand_down_wrong_status_6
unfolding machine
stand_down_wrong_status_6 = (refl, refl)

abbrev before_stand_down_wrong_status_7 : Room
before_stand_down_wrong_status_7 = record {
  plan = two_divisions;
  divisions = (division 1 1) ∷ (division 2 1) ∷ [];
  incidents =
      (incident 1 1 (grid 530200 180000) 1 (needs 2 0 1) 1437 (Some 1931) Active)
      ∷ (incident 2 1 (grid 560200 180000) 1 (needs 0 0 1) 1030 None Active) ∷ [];
  calls =
      (call 1 1 1 1 1 true (grid 530100 180100) 2 (needs 2 0 0) [] 1784)
      ∷ (call 1 3 1 1 1 false (grid 530200 180000) 1 (needs 0 0 1) [] 1437)
      ∷ (call 1 4 2 1 1 false (grid 560200 180000) 1 (needs 0 0 1) (codes "x") 1030) ∷ [];
  vehicles =
      (vehicle A1 1 1 Ambulance (grid 531000 180000) OffDuty 0 None 0 1)
      ∷ (vehicle A2 2 2 Ambulance (grid 530200 180000) Available 5000 None 0 2)
      ∷ (vehicle A3 1 1 Support (grid 530200 180000) AtHospital 40000 None 1 5) ∷ [];
  turns = (turn A3 1 1 1 Support 1931 None None None (Some 1799) None false) ∷ [];
  assignments = (assignment A3 1 1 1 (grid 530200 180000) 1) ∷ [];
  points = [];
  loans = [];
  offers = [];
  reports =
      (report A1 1 button.Scene 0 (grid 530000 180000) 1769 1 Wrong OffDuty false)
      ∷ (report A2 1 button.Scene 0 (grid 530300 180400) 1010 2 Wrong Available false)
      ∷ (report A2 2 button.Mobile 0 (grid 530100 180100) 1436 2 Wrong Available false)
      ∷ (report A3 1 button.Scene 0 (grid 530201 180000) 1015 1 Wrong Available true)
      ∷ (report A3 2 button.Hospital 0 (grid 530201 180000) 1436 1 Wrong Available false)
      ∷ (report A3 3 button.Return 0 (grid 530100 180000) 1557 1 Wrong Available false)
      ∷ (report A3 4 button.Return 1 (grid 530300 180400) 2337 1 Late AtHospital false)
      ∷ (report A3 5 button.Hospital 1 (grid 530200 180000) 1799 1 Skipped AtHospital false) ∷ [];
}

stand_down_wrong_status_7 : Steps
    (at 2342 (Desk 1) (ask.StandDown A3)) before_stand_down_wrong_status_7
    (Err refusal.WrongStatus) before_stand_down_wrong_status_7
unfolding machine
stand_down_wrong_status_7 = (refl, refl)
