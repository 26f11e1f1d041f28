-- Sampled steps: lists of incidents, changed needs, merging, closing and times. A program that is
-- independent of this repository, written from the rules in words, made them in random runs; of
-- each kind of step it kept those with the fewest rows.
use Rattle.std.specs.Prelude.{Err, None, Ok, Some, [], codes, false, negsuc, pos, refl, true, ◌∷◌}
use Rattle.room_types.specs.declared.answers.Answer.TheVariants as answer
use Rattle.room_types.specs.declared.asks.Ask.TheVariants as ask
use Rattle.room_types.specs.declared.asks.Who.TheVariants.{Desk}
use Rattle.room_types.specs.declared.codes.Button.TheVariants as button
use Rattle.room_types.specs.declared.codes.Kind.TheVariants.{Ambulance, Car, Support}
use Rattle.room_types.specs.declared.codes.Outcome.TheVariants.{Late, Normal, Skipped, Stale, Wrong}
use Rattle.room_types.specs.declared.codes.State.TheVariants.{Active, Closed, Merged}
use Rattle.room_types.specs.declared.codes.Status.TheVariants.{AtHospital, AtScene, Available}
use Rattle.room_types.specs.declared.codes.Status.TheVariants.{Leaving, Mobilised, OffDuty, Offered}
use Rattle.room_types.specs.declared.codes.Status.TheVariants.{Returning}
use Rattle.room_types.specs.declared.refusal_statuses.Refusal.TheVariants as refusal
use Rattle.room_model.specs.Room.{Room}
use Rattle.room_model.specs.ComputedDefinitions.{machine}
use Rattle.room_samples.specs.ExampleRows.{assignment, call, division, grid, incident}
use Rattle.room_samples.specs.ExampleRows.{incident_line, loan, offer, point, report, times}
use Rattle.room_samples.specs.ExampleRows.{times_line, turn, vehicle}
use Rattle.room_samples.specs.SampledRooms.{A1, A2, A3, B1, B2, overlapping_divisions}
use Rattle.room_samples.specs.SampledRooms.{two_divisions}
use Rattle.room_samples.specs.SampledSteps.{Steps}
use Rattle.room_model.specs.StepWords.{at, needs}

abbrev before_change_needs : Room
before_change_needs = record {
  plan = two_divisions;
  divisions = (division 1 0) ∷ (division 2 1) ∷ [];
  incidents = (incident 2 1 (grid 560200 180000) 3 (needs 0 1 0) 1031 None Active) ∷ [];
  calls = (call 1 4 2 1 1 false (grid 560200 180000) 3 (needs 0 1 0) [] 1031) ∷ [];
  vehicles =
      (vehicle A1 2 2 Ambulance (grid 530120 180160) Available 5000 None 0 0)
      ∷ (vehicle A2 2 2 Ambulance (grid 530100 180100) Available 2000 None 0 0) ∷ [];
  turns = [];
  assignments = [];
  points = [];
  loans = [];
  offers = [];
  reports = [];
}

change_needs : Steps (at 1036 (Desk 2) (ask.Needs 1 (needs 0 1 0))) before_change_needs
    (Ok answer.Done) before_change_needs
unfolding machine
change_needs = (refl, refl)

abbrev before_change_needs_2 : Room
before_change_needs_2 = record {
  plan = two_divisions;
  divisions = (division 1 4) ∷ (division 2 0) ∷ [];
  incidents = (incident 1 4 (grid 530100 180000) 2 (needs 2 1 1) 1005 None Active) ∷ [];
  calls = (call 1 4 1 4 4 false (grid 530100 180000) 2 (needs 2 1 1) [] 1005) ∷ [];
  vehicles =
      (vehicle A1 1 1 Car (grid 530000 180000) Available 2000 None 0 0)
      ∷ (vehicle A2 1 1 Ambulance (grid 530120 180160) Available 2000 None 0 0) ∷ [];
  turns = [];
  assignments = [];
  points = [];
  loans = [];
  offers = [];
  reports = [];
}

change_needs_2 : Steps (at 985 (Desk 1) (ask.Needs 4 (needs 1 1 0))) before_change_needs_2
    (Ok answer.Done) (record before_change_needs_2
    { incidents = (incident 1 4 (grid 530100 180000) 2 (needs 1 1 0) 1005 None Active) ∷ [] })
unfolding machine
change_needs_2 = (refl, refl)

abbrev before_change_needs_3 : Room
before_change_needs_3 = record {
  plan = two_divisions;
  divisions = (division 1 4) ∷ (division 2 0) ∷ [];
  incidents = (incident 1 4 (grid 530200 180000) 1 (needs 0 1 0) 1451 None Active) ∷ [];
  calls = (call 1 4 1 4 4 false (grid 530200 180000) 1 (needs 0 1 0) [] 1451) ∷ [];
  vehicles =
      (vehicle A1 2 2 Support (grid 560100 180000) OffDuty 5000 None 0 0)
      ∷ (vehicle A2 2 2 Ambulance (grid 530100 180100) OffDuty 0 None 0 0)
      ∷ (vehicle A3 1 1 Car (grid 560000 180000) OffDuty 0 None 0 0) ∷ [];
  turns = [];
  assignments = [];
  points = [];
  loans = [];
  offers = [];
  reports = [];
}

change_needs_3 : Steps (at 1456 (Desk 1) (ask.Needs 4 (needs 0 1 0))) before_change_needs_3
    (Ok answer.Done) before_change_needs_3
unfolding machine
change_needs_3 = (refl, refl)

abbrev before_change_needs_4 : Room
before_change_needs_4 = record {
  plan = two_divisions;
  divisions = (division 1 1) ∷ (division 2 3) ∷ [];
  incidents = (incident 1 1 (grid 530200 180000) 2 (needs 0 1 0) 1181 None Active) ∷ [];
  calls = (call 2 4 1 1 1 false (grid 530200 180000) 2 (needs 0 1 0) (codes "x") 1181) ∷ [];
  vehicles =
      (vehicle A1 2 2 Ambulance (grid 530100 180100) OffDuty 0 None 0 0)
      ∷ (vehicle A2 1 1 Ambulance (grid 560000 180000) Available 5000 None 0 0) ∷ [];
  turns = [];
  assignments = [];
  points = [];
  loans = [];
  offers = [];
  reports = [];
}

change_needs_4 : Steps (at 1182 (Desk 1) (ask.Needs 1 (needs 2 0 0))) before_change_needs_4
    (Ok answer.Done) (record before_change_needs_4
    { incidents = (incident 1 1 (grid 530200 180000) 2 (needs 2 0 0) 1181 None Active) ∷ [] })
unfolding machine
change_needs_4 = (refl, refl)

abbrev before_close : Room
before_close = record {
  plan = two_divisions;
  divisions = (division 1 1) ∷ (division 2 0) ∷ [];
  incidents = (incident 1 1 (grid 530100 180100) 1 (needs 0 1 0) 1481 None Active) ∷ [];
  calls = (call 2 3 1 1 1 false (grid 530100 180100) 1 (needs 0 1 0) [] 1481) ∷ [];
  vehicles =
      (vehicle A1 2 2 Support (grid 530100 180100) Available 2000 None 0 0)
      ∷ (vehicle A2 2 2 Support (grid 530100 180100) Available 5000 None 2147483647 0) ∷ [];
  turns = [];
  assignments = [];
  points = [];
  loans = [];
  offers = [];
  reports = [];
}

close : Steps (at 1482 (Desk 1) (ask.Close 1)) before_close (Ok answer.Done)
    (record before_close {
      incidents =
          (incident 1 1 (grid 530100 180100) 1 (needs 0 1 0) 1481 None Closed) ∷ [];
    })
unfolding machine
close = (refl, refl)

abbrev before_close_incident_not_open : Room
before_close_incident_not_open = record {
  plan = two_divisions;
  divisions = (division 1 2) ∷ (division 2 1) ∷ [];
  incidents =
      (incident 1 1 (grid 530300 180400) 1 (needs 0 0 1) 1904 None Active)
      ∷ (incident 1 2 (grid 530120 180160) 1 (needs 0 0 1) 1412 None Active)
      ∷ (incident 2 1 (grid 560000 180000) 1 (needs 2 0 0) 1231 None Closed) ∷ [];
  calls =
      (call 1 4 1 2 2 true (grid 530120 180160) 3 (needs 0 0 1) [] 1412)
      ∷ (call 1 6 2 1 1 false (grid 560000 180000) 1 (needs 1 0 0) [] 1231)
      ∷ (call 2 4 1 1 1 false (grid 530300 180400) 1 (needs 0 0 1) (codes "x") 1904)
      ∷ (call 2 6 1 2 2 false (grid 530120 180160) 1 (needs 0 0 1) [] 2465) ∷ [];
  vehicles =
      (vehicle A1 1 1 Ambulance (grid 530300 180400) Available 5000 None 0 5)
      ∷ (vehicle A2 2 2 Ambulance (grid 530200 180000) Available 1671 None 0 2)
      ∷ (vehicle A3 1 1 Car (grid 530200 180000) OffDuty 0 None 0 3) ∷ [];
  turns = [];
  assignments = [];
  points = [];
  loans = [];
  offers = [];
  reports =
      (report A1 1 button.Mobile 0 (grid 530201 180000) 1186 1 Wrong Available false)
      ∷ (report A1 2 button.Hospital 0 (grid 531000 180000) 1236 1 Wrong Available false)
      ∷ (report A1 3 button.Hospital 0 (grid 530300 180400) 1884 1 Wrong Available false)
      ∷ (report A1 5 button.Home 0 (grid 530300 180400) 2471 1 Normal Available false)
      ∷ (report A2 2 button.Mobile 0 (grid 530201 180000) 2470 2 Wrong Available false)
      ∷ (report A3 2 button.Mobile 0 (grid 530120 180160) 1537 1 Wrong OffDuty false)
      ∷ (report A3 3 button.Mobile 0 (grid 530000 180000) 2465 1 Wrong OffDuty false) ∷ [];
}

close_incident_not_open : Steps (at 2633 (Desk 2) (ask.Close 1)) before_close_incident_not_open
    (Err refusal.IncidentNotOpen) before_close_incident_not_open
unfolding machine
close_incident_not_open = (refl, refl)

abbrev before_close_no_such_incident : Room
before_close_no_such_incident = record {
  plan = two_divisions;
  divisions = (division 1 2147483646) ∷ (division 2 2147483646) ∷ [];
  incidents = [];
  calls = [];
  vehicles =
      (vehicle A1 2 2 Ambulance (grid 560100 180000) OffDuty 0 None 0 0)
      ∷ (vehicle A2 2 2 Ambulance (grid 531000 180000) OffDuty 0 None 0 0) ∷ [];
  turns = [];
  assignments = [];
  points = [];
  loans = [];
  offers = [];
  reports = [];
}

close_no_such_incident : Steps (at 1211 (Desk 2) (ask.Close 9)) before_close_no_such_incident
    (Err refusal.NoSuchIncident) before_close_no_such_incident
unfolding machine
close_no_such_incident = (refl, refl)

abbrev before_close_still_assigned : Room
before_close_still_assigned = record {
  plan = two_divisions;
  divisions = (division 1 1) ∷ (division 2 0) ∷ [];
  incidents = (incident 1 1 (grid 530200 180000) 2 (needs 1 0 0) 1878 (Some 2059) Active) ∷ [];
  calls = (call 2 2 1 1 1 false (grid 530200 180000) 2 (needs 1 0 0) (codes "x") 1878) ∷ [];
  vehicles =
      (vehicle A1 1 1 Ambulance (grid 530100 180100) OffDuty 5030 None 0 0)
      ∷ (vehicle A2 1 1 Ambulance (grid 560100 180000) Mobilised 5000 None 1 0)
      ∷ (vehicle A3 2 2 Support (grid 530100 180000) Available 40000 None 0 1)
      ∷ (vehicle B1 2 2 Ambulance (grid 530100 180100) OffDuty 0 None 0 0) ∷ [];
  turns = (turn A2 1 1 1 Ambulance 2059 None None None None None false) ∷ [];
  assignments = (assignment A2 1 1 1 (grid 530200 180000) 2) ∷ [];
  points = [];
  loans = [];
  offers = [];
  reports = (report A3 1 button.Home 0 (grid 530100 180000) 2059 2 Normal Available false) ∷ [];
}

close_still_assigned : Steps (at 2186 (Desk 1) (ask.Close 1)) before_close_still_assigned
    (Err refusal.StillAssigned) before_close_still_assigned
unfolding machine
close_still_assigned = (refl, refl)

abbrev before_incidents_0 : Room
before_incidents_0 = record {
  plan = two_divisions;
  divisions = (division 1 0) ∷ (division 2 0) ∷ [];
  incidents = [];
  calls = [];
  vehicles =
      (vehicle A1 1 1 Ambulance (grid 530100 180000) OffDuty 0 None 0 0)
      ∷ (vehicle A2 2 2 Ambulance (grid 530201 180000) OffDuty 0 None 0 0) ∷ [];
  turns = [];
  assignments = [];
  points = [];
  loans = [];
  offers = [];
  reports = [];
}

incidents_0 : Steps (at 1001 (Desk 1) ask.Incidents) before_incidents_0
    (Ok (answer.Incidents ([]))) before_incidents_0
unfolding machine
incidents_0 = (refl, refl)

abbrev before_incidents_1 : Room
before_incidents_1 = record {
  plan = two_divisions;
  divisions = (division 1 4) ∷ (division 2 0) ∷ [];
  incidents = (incident 1 4 (grid 530120 180160) 1 (needs 0 1 0) 1000 None Active) ∷ [];
  calls = (call 2 4 1 4 4 false (grid 530120 180160) 1 (needs 0 1 0) (codes "x") 1000) ∷ [];
  vehicles =
      (vehicle A1 1 1 Ambulance (grid 530200 180000) Available 40000 None 0 0)
      ∷ (vehicle A2 2 2 Car (grid 560000 180000) Available 40000 None 2147483647 0) ∷ [];
  turns = [];
  assignments = [];
  points = [];
  loans = [];
  offers = [];
  reports = [];
}

incidents_1 : Steps (at 1030 (Desk 1) ask.Incidents) before_incidents_1
    (Ok (answer.Incidents ((incident_line 4 (grid 530120 180160) 1 (needs 0 1 0)
    (needs 0 1 0) 1000 1) ∷ []))) before_incidents_1
unfolding machine
incidents_1 = (refl, refl)

abbrev before_incidents_1_2 : Room
before_incidents_1_2 = record {
  plan = two_divisions;
  divisions = (division 1 2147483647) ∷ (division 2 2147483647) ∷ [];
  incidents = (incident 1 2147483647 (grid 530100 180100) 1 (needs 1 0 0) 1362 (Some 1524) Active) ∷ [];
  calls =
      (call 1 2 1 2147483647 2147483647 true (grid 530100 180000) 1 (needs 1 0 0) [] 2203)
      ∷ (call 1 3 1 2147483647 2147483647 false (grid 530100 180100) 2 (needs 1 0 0) (codes "x") 1362) ∷ [];
  vehicles =
      (vehicle A1 2 2 Car (grid 530200 180000) Available 40000 None 0 2)
      ∷ (vehicle A2 1 1 Ambulance (grid 530120 180160) Returning 2000 None 1 4)
      ∷ (vehicle A3 2 2 Car (grid 530300 180400) OffDuty 40000 None 0 1) ∷ [];
  turns = (turn A2 1 1 2147483647 Ambulance 1524 None (Some 2792) None None (Some 2782) false) ∷ [];
  assignments = [];
  points = (point 1 1 (grid 530201 180000) 1) ∷ (point 2 2 (grid 530000 180000) 2) ∷ [];
  loans = [];
  offers = [];
  reports =
      (report A1 1 button.Return 0 (grid 530100 180000) 2486 2 Wrong Available true)
      ∷ (report A1 2 button.Return 0 (grid 530201 180000) 3774 2 Wrong Available true)
      ∷ (report A2 1 button.Scene 1 (grid 530300 180400) 2792 1 Skipped AtScene true)
      ∷ (report A2 2 button.Scene 1 (grid 530100 180000) 2802 1 Normal AtScene false)
      ∷ (report A2 3 button.Return 1 (grid 530100 180000) 3243 1 Late Returning true)
      ∷ (report A2 4 button.Return 1 (grid 530120 180160) 2782 1 Normal Returning false)
      ∷ (report A3 1 button.Home 0 (grid 530300 180400) 3373 2 Normal Available false) ∷ [];
}

incidents_1_2 : Steps (at 5369 (Desk 1) ask.Incidents) before_incidents_1_2
    (Ok (answer.Incidents ((incident_line 2147483647 (grid 530100 180100) 1 (needs 1 0 0)
    (needs 0 0 0) 1362 2) ∷ []))) before_incidents_1_2
unfolding machine
incidents_1_2 = (refl, refl)

abbrev before_incidents_3 : Room
before_incidents_3 = record {
  plan = two_divisions;
  divisions = (division 1 3) ∷ (division 2 0) ∷ [];
  incidents =
      (incident 1 1 (grid 530100 180100) 2 (needs 2 1 1) 1693 (Some 1874) Active)
      ∷ (incident 1 2 (grid 531000 180000) 3 (needs 2 0 0) 2547 None Active)
      ∷ (incident 1 3 (grid 530200 180000) 2 (needs 1 0 0) 3480 None Active) ∷ [];
  calls =
      (call 1 1 1 1 1 true (grid 530201 180000) 2 (needs 1 0 0) [] 2593)
      ∷ (call 1 3 1 1 1 true (grid 530100 180100) 2 (needs 2 1 1) (codes "x") 2366)
      ∷ (call 1 4 1 3 3 false (grid 530200 180000) 2 (needs 1 0 0) [] 3480)
      ∷ (call 1 6 1 2 2 false (grid 531000 180000) 3 (needs 2 0 0) [] 2547)
      ∷ (call 2 5 1 1 1 false (grid 530100 180100) 3 (needs 2 1 1) (codes "x") 1693) ∷ [];
  vehicles =
      (vehicle A1 2 2 Ambulance (grid 530201 180000) Available 40000 None 0 0)
      ∷ (vehicle A2 2 2 Car (grid 530100 180000) Available 5000 None 0 1)
      ∷ (vehicle A3 1 1 Support (grid 530100 180100) Offered 40000 None 1 3)
      ∷ (vehicle B1 2 2 Ambulance (grid 560000 180000) Available 2000 None 0 0)
      ∷ (vehicle B2 1 1 Ambulance (grid 560100 180000) OffDuty 0 None 0 0) ∷ [];
  turns = (turn A3 1 1 1 Support 1874 None None None (Some 2999) (Some 3600) false) ∷ [];
  assignments = [];
  points = [];
  loans = [];
  offers = (offer A3 1 2 3902 3902) ∷ [];
  reports =
      (report A2 1 button.Return 0 (grid 530000 180000) 3601 2 Wrong Available false)
      ∷ (report A3 1 button.Hospital 1 (grid 530201 180000) 2999 1 Skipped AtHospital false)
      ∷ (report A3 3 button.Return 1 (grid 530100 180100) 3600 1 Normal Returning false) ∷ [];
}

incidents_3 : Steps (at 4022 (Desk 1) ask.Incidents) before_incidents_3
    (Ok (answer.Incidents ((incident_line 1 (grid 530100 180100) 2 (needs 2 1 1)
    (needs 2 1 0) 1693 3) ∷ (incident_line 2 (grid 531000 180000) 3 (needs 2 0 0)
    (needs 2 0 0) 2547 1) ∷ (incident_line 3 (grid 530200 180000) 2 (needs 1 0 0)
    (needs 1 0 0) 3480 1) ∷ []))) before_incidents_3
unfolding machine
incidents_3 = (refl, refl)

abbrev before_merge : Room
before_merge = record {
  plan = two_divisions;
  divisions = (division 1 2) ∷ (division 2 3) ∷ [];
  incidents =
      (incident 1 1 (grid 530120 180160) 1 (needs 1 1 0) 1762 None Active)
      ∷ (incident 1 2 (grid 530200 180000) 2 (needs 1 0 0) 2663 None Active) ∷ [];
  calls =
      (call 2 1 1 2 2 false (grid 530200 180000) 2 (needs 1 0 0) (codes "x") 2663)
      ∷ (call 2 5 1 1 1 false (grid 530120 180160) 1 (needs 1 1 0) [] 1762) ∷ [];
  vehicles =
      (vehicle A1 1 1 Ambulance (grid 530100 180100) Available 5000 None 0 0)
      ∷ (vehicle A2 1 1 Support (grid 531000 180000) Available 40000 None 0 1) ∷ [];
  turns = [];
  assignments = [];
  points = [];
  loans = [];
  offers = [];
  reports = (report A2 1 button.Home 0 (grid 531000 180000) 1581 1 Normal Available false) ∷ [];
}

merge : Steps (at 1887 (Desk 1) (ask.Merge 1 2)) before_merge (Ok answer.Done)
    (record before_merge {
      incidents =
          (incident 1 1 (grid 530120 180160) 1 (needs 1 1 0) 1762 None (Merged 2))
          ∷ (incident 1 2 (grid 530200 180000) 1 (needs 1 1 0) 1762 None Active)
          ∷ [];
      calls = (call 2 1 1 2 2 false (grid 530200 180000) 2 (needs 1 0 0) (codes "x") 2663)
          ∷ (call 2 5 1 2 1 false (grid 530120 180160) 1 (needs 1 1 0) [] 1762) ∷ [];
    })
unfolding machine
merge = (refl, refl)

abbrev before_merge_2 : Room
before_merge_2 = record {
  plan = overlapping_divisions;
  divisions = (division 1 5) ∷ (division 7 0) ∷ [];
  incidents =
      (incident 1 4 (grid 530100 180100) 2 (needs 1 1 0) 1061 None Active)
      ∷ (incident 1 5 (grid 530300 180400) 2 (needs 2 0 0) 1122 None Active) ∷ [];
  calls =
      (call 1 1 1 5 5 false (grid 530300 180400) 2 (needs 2 0 0) [] 1122)
      ∷ (call 2 6 1 4 4 false (grid 530100 180100) 2 (needs 1 1 0) [] 1061) ∷ [];
  vehicles =
      (vehicle A1 1 1 Ambulance (grid 560100 180000) OffDuty 0 None 0 0)
      ∷ (vehicle A2 1 1 Ambulance (grid 530200 180000) OffDuty 0 None 0 0)
      ∷ (vehicle A3 1 1 Support (grid 530200 180000) Available 40000 None 0 0) ∷ [];
  turns = [];
  assignments = [];
  points = [];
  loans = [];
  offers = [];
  reports = [];
}

merge_2 : Steps (at 1725 (Desk 1) (ask.Merge 4 5)) before_merge_2 (Ok answer.Done)
    (record before_merge_2 {
      incidents =
          (incident 1 4 (grid 530100 180100) 2 (needs 1 1 0) 1061 None (Merged 5))
          ∷ (incident 1 5 (grid 530300 180400) 2 (needs 2 1 0) 1061 None Active)
          ∷ [];
      calls = (call 1 1 1 5 5 false (grid 530300 180400) 2 (needs 2 0 0) [] 1122)
          ∷ (call 2 6 1 5 4 false (grid 530100 180100) 2 (needs 1 1 0) [] 1061) ∷ [];
    })
unfolding machine
merge_2 = (refl, refl)

abbrev before_merge_3 : Room
before_merge_3 = record {
  plan = two_divisions;
  divisions = (division 1 2) ∷ (division 2 0) ∷ [];
  incidents =
      (incident 1 1 (grid 530200 180000) 3 (needs 1 0 0) 1615 None Active)
      ∷ (incident 1 2 (grid 531000 180000) 1 (needs 0 1 0) 1795 None Active) ∷ [];
  calls =
      (call 1 6 1 1 1 false (grid 530200 180000) 3 (needs 1 0 0) [] 1615)
      ∷ (call 2 1 1 2 2 false (grid 531000 180000) 1 (needs 0 1 0) [] 1795) ∷ [];
  vehicles =
      (vehicle A1 2 2 Ambulance (grid 560100 180000) OffDuty 0 None 0 1)
      ∷ (vehicle A2 1 1 Support (grid 560100 180000) OffDuty 0 None 0 0)
      ∷ (vehicle A3 2 2 Car (grid 530000 180000) Available 5000 None 0 0) ∷ [];
  turns = [];
  assignments = [];
  points = [];
  loans = [];
  offers = [];
  reports = (report A1 1 button.Leave 0 (grid 530000 180000) 1061 2 Wrong OffDuty true) ∷ [];
}

merge_3 : Steps (at 2036 (Desk 1) (ask.Merge 1 2)) before_merge_3 (Ok answer.Done)
    (record before_merge_3 {
      incidents =
          (incident 1 1 (grid 530200 180000) 3 (needs 1 0 0) 1615 None (Merged 2))
          ∷ (incident 1 2 (grid 531000 180000) 1 (needs 1 1 0) 1615 None Active)
          ∷ [];
      calls = (call 1 6 1 2 1 false (grid 530200 180000) 3 (needs 1 0 0) [] 1615)
          ∷ (call 2 1 1 2 2 false (grid 531000 180000) 1 (needs 0 1 0) [] 1795) ∷ [];
    })
unfolding machine
merge_3 = (refl, refl)

abbrev before_merge_4 : Room
before_merge_4 = record {
  plan = two_divisions;
  divisions = (division 1 2) ∷ (division 2 3) ∷ [];
  incidents =
      (incident 1 1 (grid 530000 180000) 2 (needs 1 0 0) 980 (Some 1947) Active)
      ∷ (incident 1 2 (grid 530120 180160) 1 (needs 0 1 0) 1947 None Active) ∷ [];
  calls =
      (call 1 6 1 1 1 false (grid 530000 180000) 2 (needs 1 0 0) [] 980)
      ∷ (call 2 1 1 2 2 false (grid 530120 180160) 1 (needs 0 1 0) [] 1947) ∷ [];
  vehicles =
      (vehicle A1 2 2 Car (grid 531000 180000) OffDuty 0 None 0 0)
      ∷ (vehicle A2 1 1 Ambulance (grid 530300 180400) Mobilised 2000 None 1 1) ∷ [];
  turns = (turn A2 1 1 1 Ambulance 1947 (Some 1982) None None None None false) ∷ [];
  assignments = (assignment A2 1 1 1 (grid 530000 180000) 2) ∷ [];
  points = [];
  loans = [];
  offers = [];
  reports = (report A2 1 button.Mobile 1 (grid 530300 180400) 1982 1 Normal Mobilised false) ∷ [];
}

merge_4 : Steps (at 2043 (Desk 1) (ask.Merge 2 1)) before_merge_4 (Ok answer.Done)
    (record before_merge_4 {
      incidents =
          (incident 1 1 (grid 530000 180000) 1 (needs 1 1 0) 980 (Some 1947) Active)
          ∷ (incident 1 2 (grid 530120 180160) 1 (needs 0 1 0) 1947 None (Merged 1))
          ∷ [];
      calls = (call 1 6 1 1 1 false (grid 530000 180000) 2 (needs 1 0 0) [] 980)
          ∷ (call 2 1 1 1 2 false (grid 530120 180160) 1 (needs 0 1 0) [] 1947) ∷ [];
    })
unfolding machine
merge_4 = (refl, refl)

abbrev before_merge_5 : Room
before_merge_5 = record {
  plan = overlapping_divisions;
  divisions = (division 1 2) ∷ (division 7 0) ∷ [];
  incidents =
      (incident 1 1 (grid 560100 180000) 2 (needs 1 0 0) 1120 None Active)
      ∷ (incident 1 2 (grid 530120 180160) 3 (needs 1 0 0) 1120 None Active) ∷ [];
  calls =
      (call 1 4 1 2 2 false (grid 530120 180160) 3 (needs 1 0 0) (codes "x") 1120)
      ∷ (call 1 5 1 1 1 false (grid 560100 180000) 2 (needs 1 0 0) [] 1120) ∷ [];
  vehicles =
      (vehicle A1 1 1 Car (grid 560200 180000) OffDuty 0 None 0 0)
      ∷ (vehicle A2 1 1 Support (grid 560000 180000) Available 40000 None 0 0)
      ∷ (vehicle A3 7 7 Ambulance (grid 531000 180000) Available 5000 None 0 0)
      ∷ (vehicle B1 1 1 Support (grid 530100 180000) OffDuty 0 None 0 0)
      ∷ (vehicle B2 1 1 Car (grid 530200 180000) Available 5000 None 0 1) ∷ [];
  turns = [];
  assignments = [];
  points = [];
  loans = [];
  offers = [];
  reports = (report B2 1 button.Position 0 (grid 530200 180000) 1245 1 Normal Available false) ∷ [];
}

merge_5 : Steps (at 1306 (Desk 1) (ask.Merge 1 2)) before_merge_5 (Ok answer.Done)
    (record before_merge_5 {
      incidents =
          (incident 1 1 (grid 560100 180000) 2 (needs 1 0 0) 1120 None (Merged 2))
          ∷ (incident 1 2 (grid 530120 180160) 2 (needs 1 0 0) 1120 None Active)
          ∷ [];
      calls = (call 1 4 1 2 2 false (grid 530120 180160) 3 (needs 1 0 0) (codes "x") 1120)
          ∷ (call 1 5 1 2 1 false (grid 560100 180000) 2 (needs 1 0 0) [] 1120) ∷ [];
    })
unfolding machine
merge_5 = (refl, refl)

abbrev before_merge_6 : Room
before_merge_6 = record {
  plan = two_divisions;
  divisions = (division 1 2) ∷ (division 2 0) ∷ [];
  incidents =
      (incident 1 1 (grid 531000 180000) 2 (needs 2 1 1) 1125 (Some 1670) Active)
      ∷ (incident 1 2 (grid 530120 180160) 3 (needs 2 0 0) 1853 None Active) ∷ [];
  calls =
      (call 1 1 1 1 1 false (grid 531000 180000) 2 (needs 2 1 1) [] 1125)
      ∷ (call 1 6 1 2 2 false (grid 530120 180160) 3 (needs 2 0 0) [] 1853) ∷ [];
  vehicles =
      (vehicle A1 2 2 Car (grid 530201 180000) Available 40000 None 0 1)
      ∷ (vehicle A2 1 1 Car (grid 530100 180000) Returning 5000 None 1 2)
      ∷ (vehicle A3 1 1 Car (grid 530300 180400) Available 5000 None 0 1) ∷ [];
  turns = (turn A2 1 1 1 Car 1670 None None None None (Some 1672) false) ∷ [];
  assignments = [];
  points = (point 2 2 (grid 531000 180000) 2) ∷ [];
  loans = [];
  offers = [];
  reports =
      (report A1 1 button.Position 0 (grid 530201 180000) 1854 2 Normal Available false)
      ∷ (report A2 2 button.Return 1 (grid 530100 180000) 1672 1 Skipped Returning false)
      ∷ (report A3 1 button.Scene 0 (grid 530100 180000) 1607 1 Wrong Available false) ∷ [];
}

merge_6 : Steps (at 1855 (Desk 1) (ask.Merge 1 2)) before_merge_6 (Ok answer.Done)
    (record before_merge_6 {
      incidents =
          (incident 1 1 (grid 531000 180000) 2 (needs 2 1 1) 1125 (Some 1670) (Merged 2))
          ∷ (incident 1 2 (grid 530120 180160) 2 (needs 2 1 1) 1125 (Some 1670) Active)
          ∷ [];
      calls = (call 1 1 1 2 1 false (grid 531000 180000) 2 (needs 2 1 1) [] 1125)
          ∷ (call 1 6 1 2 2 false (grid 530120 180160) 3 (needs 2 0 0) [] 1853) ∷ [];
    })
unfolding machine
merge_6 = (refl, refl)

abbrev before_merge_7 : Room
before_merge_7 = record {
  plan = overlapping_divisions;
  divisions = (division 1 2) ∷ (division 7 0) ∷ [];
  incidents =
      (incident 1 1 (grid 530100 180000) 1 (needs 1 1 0) 1362 (Some 1844) Active)
      ∷ (incident 1 2 (grid 530120 180160) 1 (needs 2 0 0) 2400 None Active) ∷ [];
  calls =
      (call 1 1 1 1 1 false (grid 530100 180000) 1 (needs 1 0 0) [] 1362)
      ∷ (call 1 5 1 2 2 false (grid 530120 180160) 1 (needs 2 0 0) [] 2400)
      ∷ (call 2 4 1 1 1 true (grid 530201 180000) 1 (needs 1 1 0) [] 1543) ∷ [];
  vehicles =
      (vehicle A1 1 1 Ambulance (grid 530100 180100) Returning 2000 None 1 2)
      ∷ (vehicle A2 1 1 Ambulance (grid 530100 180100) OffDuty 0 None 2147483647 4) ∷ [];
  turns = (turn A1 1 1 1 Ambulance 1844 None None None None (Some 2132) false) ∷ [];
  assignments = [];
  points = [];
  loans = [];
  offers = [];
  reports =
      (report A1 2 button.Return 1 (grid 530100 180100) 2132 1 Skipped Returning false)
      ∷ (report A2 2 button.Home 2147483647 (grid 530100 180000) 1663 1 Wrong OffDuty false)
      ∷ (report A2 3 button.Leave 2147483647 (grid 531000 180000) 2152 1 Wrong OffDuty false)
      ∷ (report A2 4 button.Mobile 2147483647 (grid 530201 180000) 2339 1 Wrong OffDuty false) ∷ [];
}

merge_7 : Steps (at 2581 (Desk 1) (ask.Merge 1 2)) before_merge_7 (Ok answer.Done)
    (record before_merge_7 {
      incidents =
          (incident 1 1 (grid 530100 180000) 1 (needs 1 1 0) 1362 (Some 1844) (Merged 2))
          ∷ (incident 1 2 (grid 530120 180160) 1 (needs 2 1 0) 1362 (Some 1844) Active)
          ∷ [];
      calls = (call 1 1 1 2 1 false (grid 530100 180000) 1 (needs 1 0 0) [] 1362)
          ∷ (call 1 5 1 2 2 false (grid 530120 180160) 1 (needs 2 0 0) [] 2400)
          ∷ (call 2 4 1 2 1 true (grid 530201 180000) 1 (needs 1 1 0) [] 1543) ∷ [];
    })
unfolding machine
merge_7 = (refl, refl)

abbrev before_merge_8 : Room
before_merge_8 = record {
  plan = overlapping_divisions;
  divisions = (division 1 7) ∷ (division 7 3) ∷ [];
  incidents =
      (incident 1 4 (grid 560000 180000) 3 (needs 1 1 0) 1061 (Some 1242) Active)
      ∷ (incident 1 5 (grid 530100 180100) 2 (needs 2 0 0) 1241 None (Merged 6))
      ∷ (incident 1 6 (grid 530300 180400) 2 (needs 2 0 0) 1241 None Active)
      ∷ (incident 1 7 (grid 530120 180160) 2 (needs 2 1 1) 1914 None Active) ∷ [];
  calls =
      (call 1 4 1 6 5 false (grid 530100 180100) 2 (needs 2 0 0) [] 1241)
      ∷ (call 1 6 1 6 6 false (grid 530300 180400) 3 (needs 1 0 0) [] 1397)
      ∷ (call 2 2 1 4 4 false (grid 560000 180000) 3 (needs 1 1 0) [] 1061)
      ∷ (call 2 6 1 7 7 false (grid 530120 180160) 2 (needs 2 1 1) [] 1914) ∷ [];
  vehicles =
      (vehicle A1 7 7 Support (grid 531000 180000) OffDuty 0 None 0 1)
      ∷ (vehicle A2 7 7 Car (grid 531000 180000) OffDuty 0 None 0 0)
      ∷ (vehicle A3 1 1 Support (grid 530100 180100) Available 6425 None 0 0)
      ∷ (vehicle B1 1 1 Ambulance (grid 530200 180000) Returning 5000 None 1 1) ∷ [];
  turns = (turn B1 1 1 4 Ambulance 1242 None None None None (Some 2726) false) ∷ [];
  assignments = [];
  points = [];
  loans = [];
  offers = [];
  reports =
      (report A1 1 button.Return 0 (grid 530000 180000) 1402 7 Wrong OffDuty false)
      ∷ (report B1 1 button.Return 1 (grid 530200 180000) 2726 1 Skipped Returning false) ∷ [];
}

merge_8 : Steps (at 3207 (Desk 1) (ask.Merge 4 7)) before_merge_8 (Ok answer.Done)
    (record before_merge_8 {
      incidents =
          (incident 1 4 (grid 560000 180000) 3 (needs 1 1 0) 1061 (Some 1242) (Merged 7))
          ∷ (incident 1 5 (grid 530100 180100) 2 (needs 2 0 0) 1241 None (Merged 6))
          ∷ (incident 1 6 (grid 530300 180400) 2 (needs 2 0 0) 1241 None Active)
          ∷ (incident 1 7 (grid 530120 180160) 2 (needs 2 1 1) 1061 (Some 1242) Active)
          ∷ [];
      calls = (call 1 4 1 6 5 false (grid 530100 180100) 2 (needs 2 0 0) [] 1241)
          ∷ (call 1 6 1 6 6 false (grid 530300 180400) 3 (needs 1 0 0) [] 1397)
          ∷ (call 2 2 1 7 4 false (grid 560000 180000) 3 (needs 1 1 0) [] 1061)
          ∷ (call 2 6 1 7 7 false (grid 530120 180160) 2 (needs 2 1 1) [] 1914) ∷ [];
    })
unfolding machine
merge_8 = (refl, refl)

abbrev before_merge_9 : Room
before_merge_9 = record {
  plan = two_divisions;
  divisions = (division 1 2) ∷ (division 2 0) ∷ [];
  incidents =
      (incident 1 1 (grid 530000 180000) 1 (needs 0 0 1) 960 (Some 1051) Active)
      ∷ (incident 1 2 (grid 530200 180000) 3 (needs 2 1 1) 2297 None Active) ∷ [];
  calls =
      (call 2 4 1 2 2 false (grid 530200 180000) 3 (needs 2 1 1) [] 2297)
      ∷ (call 2 5 1 1 1 false (grid 530000 180000) 1 (needs 1 1 0) (codes "x") 960) ∷ [];
  vehicles =
      (vehicle A1 1 1 Car (grid 530201 180000) Available 2000 None 1 8)
      ∷ (vehicle A2 2 2 Ambulance (grid 530201 180000) Available 40000 None 0 2) ∷ [];
  turns = (turn A1 1 1 1 Car 1051 None None None None (Some 1232) false) ∷ [];
  assignments = [];
  points = [];
  loans = [];
  offers = [];
  reports =
      (report A1 2 button.Home 1 (grid 530201 180000) 1232 1 Skipped Available false)
      ∷ (report A1 3 button.Mobile 1 (grid 530100 180000) 1233 1 Wrong Available false)
      ∷ (report A1 4 button.Mobile 0 (grid 530120 180160) 1239 1 Stale Available true)
      ∷ (report A1 5 button.Mobile 1 (grid 530100 180000) 1305 1 Wrong Available false)
      ∷ (report A1 6 button.Return 1 (grid 530100 180000) 2267 1 Wrong Available false)
      ∷ (report A1 8 button.Scene 1 (grid 530120 180160) 2267 1 Wrong Available false)
      ∷ (report A2 1 button.Mobile 0 (grid 530300 180400) 980 2 Wrong Available false)
      ∷ (report A2 2 button.Mobile 0 (grid 530100 180000) 1305 2 Wrong Available false) ∷ [];
}

merge_9 : Steps (at 2302 (Desk 1) (ask.Merge 1 2)) before_merge_9 (Ok answer.Done)
    (record before_merge_9 {
      incidents =
          (incident 1 1 (grid 530000 180000) 1 (needs 0 0 1) 960 (Some 1051) (Merged 2))
          ∷ (incident 1 2 (grid 530200 180000) 1 (needs 2 1 1) 960 (Some 1051) Active)
          ∷ [];
      calls = (call 2 4 1 2 2 false (grid 530200 180000) 3 (needs 2 1 1) [] 2297)
          ∷ (call 2 5 1 2 1 false (grid 530000 180000) 1 (needs 1 1 0) (codes "x") 960) ∷ [];
    })
unfolding machine
merge_9 = (refl, refl)

abbrev before_merge_10 : Room
before_merge_10 = record {
  plan = two_divisions;
  divisions = (division 1 2) ∷ (division 2 1) ∷ [];
  incidents =
      (incident 1 1 (grid 530120 180160) 2 (needs 1 1 0) 1041 (Some 4999) Active)
      ∷ (incident 1 2 (grid 530100 180100) 2 (needs 0 1 0) 2521 None Active)
      ∷ (incident 2 1 (grid 560200 180000) 1 (needs 0 1 0) 2040 None Active) ∷ [];
  calls =
      (call 1 3 1 2 2 false (grid 530100 180100) 2 (needs 0 1 0) [] 2521)
      ∷ (call 2 1 1 1 1 false (grid 530120 180160) 2 (needs 1 1 0) (codes "x") 1041)
      ∷ (call 2 4 2 1 1 false (grid 560200 180000) 1 (needs 0 1 0) (codes "x") 2040) ∷ [];
  vehicles =
      (vehicle A1 1 1 Ambulance (grid 530100 180100) Returning 5000 None 1 1)
      ∷ (vehicle A2 1 1 Ambulance (grid 530120 180160) Offered 4980 None 0 1)
      ∷ (vehicle A3 2 2 Ambulance (grid 560100 180000) Available 40000 (Some 2) 0 0)
      ∷ (vehicle B1 2 2 Ambulance (grid 530200 180000) Available 5000 None 2147483647 0) ∷ [];
  turns = (turn A1 1 1 1 Ambulance 4999 None None None None (Some 1709) false) ∷ [];
  assignments = [];
  points = (point 2 2 (grid 530200 180000) 2) ∷ [];
  loans = [];
  offers = (offer A2 1 2 2521 2521) ∷ [];
  reports =
      (report A1 1 button.Return 1 (grid 530100 180100) 1709 1 Skipped Returning false)
      ∷ (report A2 1 button.Position 0 (grid 530120 180160) 1107 1 Normal Available false) ∷ [];
}

merge_10 : Steps (at 2526 (Desk 1) (ask.Merge 1 2)) before_merge_10 (Ok answer.Done)
    (record before_merge_10 {
      incidents =
          (incident 1 1 (grid 530120 180160) 2 (needs 1 1 0) 1041 (Some 4999) (Merged 2))
          ∷ (incident 1 2 (grid 530100 180100) 2 (needs 1 1 0) 1041 (Some 4999) Active)
          ∷ (incident 2 1 (grid 560200 180000) 1 (needs 0 1 0) 2040 None Active)
          ∷ [];
      calls = (call 1 3 1 2 2 false (grid 530100 180100) 2 (needs 0 1 0) [] 2521)
          ∷ (call 2 1 1 2 1 false (grid 530120 180160) 2 (needs 1 1 0) (codes "x") 1041)
          ∷ (call 2 4 2 1 1 false (grid 560200 180000) 1 (needs 0 1 0) (codes "x") 2040) ∷ [];
    })
unfolding machine
merge_10 = (refl, refl)

abbrev before_merge_11 : Room
before_merge_11 = record {
  plan = overlapping_divisions;
  divisions = (division 1 5) ∷ (division 7 0) ∷ [];
  incidents =
      (incident 1 4 (grid 530201 180000) 1 (needs 1 0 0) 1491 (Some 2032) Active)
      ∷ (incident 1 5 (grid 530200 180000) 2 (needs 1 0 0) 3325 (Some 3967) Active) ∷ [];
  calls =
      (call 1 1 1 5 5 false (grid 530200 180000) 2 (needs 1 0 0) [] 3325)
      ∷ (call 1 3 1 4 4 false (grid 530201 180000) 1 (needs 1 0 0) (codes "x") 1491) ∷ [];
  vehicles =
      (vehicle A1 7 7 Ambulance (grid 530100 180100) Available 40000 None 0 1)
      ∷ (vehicle A2 7 7 Car (grid 530000 180000) Available 41010 None 0 2)
      ∷ (vehicle A3 1 1 Ambulance (grid 530200 180000) Mobilised 5000 None 2 3) ∷ [];
  turns =
      (turn A3 1 1 4 Ambulance 2032 None None None None (Some 3786) false)
      ∷ (turn A3 2 1 5 Ambulance 3967 None None None None None false) ∷ [];
  assignments = (assignment A3 1 5 2 (grid 530200 180000) 2) ∷ [];
  points = (point 1 1 (grid 530300 180400) 0) ∷ (point 1 2 (grid 530100 180000) 2) ∷ [];
  loans = [];
  offers = [];
  reports =
      (report A1 1 button.Return 0 (grid 530120 180160) 2002 7 Wrong Available false)
      ∷ (report A2 2 button.Hospital 0 (grid 531000 180000) 3295 7 Wrong Available false)
      ∷ (report A3 2 button.Mobile 0 (grid 530100 180000) 1491 1 Wrong Available false)
      ∷ (report A3 3 button.Return 1 (grid 530200 180000) 3786 1 Skipped Returning false) ∷ [];
}

merge_11 : Steps (at 3967 (Desk 1) (ask.Merge 4 5)) before_merge_11 (Ok answer.Done)
    (record before_merge_11 {
      incidents =
          (incident 1 4 (grid 530201 180000) 1 (needs 1 0 0) 1491 (Some 2032) (Merged 5))
          ∷ (incident 1 5 (grid 530200 180000) 1 (needs 1 0 0) 1491 (Some 2032) Active)
          ∷ [];
      calls = (call 1 1 1 5 5 false (grid 530200 180000) 2 (needs 1 0 0) [] 3325)
          ∷ (call 1 3 1 5 4 false (grid 530201 180000) 1 (needs 1 0 0) (codes "x") 1491) ∷ [];
    })
unfolding machine
merge_11 = (refl, refl)

abbrev before_merge_12 : Room
before_merge_12 = record {
  plan = overlapping_divisions;
  divisions = (division 1 6) ∷ (division 7 0) ∷ [];
  incidents =
      (incident 1 4 (grid 530201 180000) 1 (needs 1 0 1) 1603 None Active)
      ∷ (incident 1 5 (grid 530120 180160) 3 (needs 2 1 1) 5203 (Some 2302) Active)
      ∷ (incident 1 6 (grid 531000 180000) 1 (needs 2 1 1) 2302 None Active) ∷ [];
  calls =
      (call 1 2 1 5 5 false (grid 530120 180160) 3 (needs 2 1 1) (codes "x") 5203)
      ∷ (call 1 3 1 4 4 true (grid 530201 180000) 1 (needs 1 0 0) [] 1939)
      ∷ (call 2 4 1 4 4 false (grid 530201 180000) 3 (needs 0 0 1) [] 1603)
      ∷ (call 2 5 1 6 6 false (grid 531000 180000) 1 (needs 2 1 1) [] 2302) ∷ [];
  vehicles =
      (vehicle A1 1 1 Ambulance (grid 530100 180000) Available 2000 None 0 2)
      ∷ (vehicle A2 1 1 Car (grid 530201 180000) Available 5000 None 1 4)
      ∷ (vehicle A3 1 1 Ambulance (grid 530100 180100) Available 2803 None 0 0) ∷ [];
  turns = (turn A2 1 1 5 Car 2302 None None None None (Some 2604) false) ∷ [];
  assignments = [];
  points = (point 1 2 (grid 530120 180160) 0) ∷ (point 7 2 (grid 530100 180000) 2) ∷ [];
  loans = [];
  offers = [];
  reports =
      (report A1 1 button.Return 0 (grid 530300 180400) 1121 1 Wrong Available true)
      ∷ (report A1 2 button.Mobile 0 (grid 530200 180000) 2182 1 Wrong Available false)
      ∷ (report A2 1 button.Return 0 (grid 531000 180000) 1001 1 Wrong Available false)
      ∷ (report A2 3 button.Position 0 (grid 530300 180400) 2000 1 Normal Available false)
      ∷ (report A2 4 button.Home 1 (grid 530201 180000) 2604 1 Skipped Available false) ∷ [];
}

merge_12 : Steps (at 3357 (Desk 1) (ask.Merge 5 4)) before_merge_12 (Ok answer.Done)
    (record before_merge_12 {
      incidents =
          (incident 1 4 (grid 530201 180000) 1 (needs 2 1 1) 1603 (Some 2302) Active)
          ∷ (incident 1 5 (grid 530120 180160) 3 (needs 2 1 1) 5203 (Some 2302) (Merged 4))
          ∷ (incident 1 6 (grid 531000 180000) 1 (needs 2 1 1) 2302 None Active)
          ∷ [];
      calls = (call 1 2 1 4 5 false (grid 530120 180160) 3 (needs 2 1 1) (codes "x") 5203)
          ∷ (call 1 3 1 4 4 true (grid 530201 180000) 1 (needs 1 0 0) [] 1939)
          ∷ (call 2 4 1 4 4 false (grid 530201 180000) 3 (needs 0 0 1) [] 1603)
          ∷ (call 2 5 1 6 6 false (grid 531000 180000) 1 (needs 2 1 1) [] 2302) ∷ [];
    })
unfolding machine
merge_12 = (refl, refl)

abbrev before_merge_13 : Room
before_merge_13 = record {
  plan = two_divisions;
  divisions = (division 1 3) ∷ (division 2 0) ∷ [];
  incidents =
      (incident 1 1 (grid 530300 180400) 2 (needs 0 1 0) 2641 None Active)
      ∷ (incident 1 2 (grid 531000 180000) 2 (needs 2 1 1) 2821 (Some 3550) Active)
      ∷ (incident 1 3 (grid 530201 180000) 1 (needs 2 0 0) 2822 (Some 3605) Active) ∷ [];
  calls =
      (call 1 1 1 3 3 false (grid 530201 180000) 1 (needs 2 0 0) (codes "x") 2822)
      ∷ (call 1 3 1 2 2 true (grid 531000 180000) 2 (needs 2 1 1) (codes "x") 2822)
      ∷ (call 1 4 1 1 1 false (grid 530300 180400) 2 (needs 0 1 0) [] 2641)
      ∷ (call 2 3 1 2 2 false (grid 531000 180000) 2 (needs 1 0 0) [] 2821) ∷ [];
  vehicles =
      (vehicle A1 2 1 Ambulance (grid 530000 180000) Returning 40000 None 1 6)
      ∷ (vehicle A2 1 1 Ambulance (grid 531000 180000) AtHospital 42460 None 1 9) ∷ [];
  turns =
      (turn A1 1 1 3 Ambulance 3605 None None None None (Some 4303) true)
      ∷ (turn A2 1 1 2 Ambulance 3550 (Some 3635) None None (Some 4283) None false) ∷ [];
  assignments = (assignment A2 1 2 1 (grid 531000 180000) 2) ∷ [];
  points = [];
  loans = (loan A1 2 1 39999 40099 false) ∷ [];
  offers = [];
  reports =
      (report A1 1 button.Mobile 0 (grid 530201 180000) 1601 2 Wrong Offered false)
      ∷ (report A1 2 button.Hospital 0 (grid 530100 180100) 1667 2 Wrong Offered false)
      ∷ (report A1 4 button.Leave 0 (grid 530300 180400) 2642 2 Wrong Offered false)
      ∷ (report A1 6 button.Return 0 (grid 530300 180400) 3159 1 Wrong Available false)
      ∷ (report A2 1 button.Home 0 (grid 530200 180000) 1949 1 Wrong OffDuty false)
      ∷ (report A2 3 button.Mobile 0 (grid 530100 180100) 3189 1 Wrong Available false)
      ∷ (report A2 4 button.Position 1 (grid 530100 180100) 3575 1 Normal Mobilised false)
      ∷ (report A2 6 button.Mobile 1 (grid 530300 180400) 3635 1 Normal Mobilised false)
      ∷ (report A2 7 button.Hospital 1 (grid 530000 180000) 4283 1 Skipped AtHospital false)
      ∷ (report A2 9 button.Hospital 1 (grid 531000 180000) 4764 1 Normal AtHospital false) ∷ [];
}

merge_13 : Steps (at 4794 (Desk 1) (ask.Merge 3 2)) before_merge_13 (Ok answer.Done)
    (record before_merge_13 {
      incidents =
          (incident 1 1 (grid 530300 180400) 2 (needs 0 1 0) 2641 None Active)
          ∷ (incident 1 2 (grid 531000 180000) 1 (needs 2 1 1) 2821 (Some 3550) Active)
          ∷ (incident 1 3 (grid 530201 180000) 1 (needs 2 0 0) 2822 (Some 3605) (Merged 2))
          ∷ [];
      calls = (call 1 1 1 2 3 false (grid 530201 180000) 1 (needs 2 0 0) (codes "x") 2822)
          ∷ (call 1 3 1 2 2 true (grid 531000 180000) 2 (needs 2 1 1) (codes "x") 2822)
          ∷ (call 1 4 1 1 1 false (grid 530300 180400) 2 (needs 0 1 0) [] 2641)
          ∷ (call 2 3 1 2 2 false (grid 531000 180000) 2 (needs 1 0 0) [] 2821) ∷ [];
    })
unfolding machine
merge_13 = (refl, refl)

abbrev before_merge_14 : Room
before_merge_14 = record {
  plan = two_divisions;
  divisions = (division 1 5) ∷ (division 2 1) ∷ [];
  incidents =
      (incident 1 1 (grid 530100 180100) 2 (needs 1 0 1) 1301 (Some 2911) Active)
      ∷ (incident 1 2 (grid 531000 180000) 2 (needs 1 0 1) 1331 (Some 3436) Active)
      ∷ (incident 1 3 (grid 530200 180000) 3 (needs 0 0 1) 4902 None Active)
      ∷ (incident 1 4 (grid 530300 180400) 2 (needs 1 0 0) 8502 None (Merged 2))
      ∷ (incident 1 5 (grid 530200 180000) 2 (needs 0 0 1) 9343 None Active)
      ∷ (incident 2 1 (grid 560200 180000) 3 (needs 1 0 0) 1511 None Active) ∷ [];
  calls =
      (call 1 2 1 5 5 false (grid 530200 180000) 2 (needs 0 0 1) (codes "x") 9343)
      ∷ (call 1 3 1 3 3 false (grid 530200 180000) 3 (needs 0 0 1) [] 4902)
      ∷ (call 1 4 1 2 4 false (grid 530300 180400) 2 (needs 1 0 0) (codes "x") 8502)
      ∷ (call 1 6 1 2 2 false (grid 531000 180000) 2 (needs 0 0 1) (codes "x") 1331)
      ∷ (call 2 1 2 1 1 false (grid 560200 180000) 3 (needs 1 0 0) [] 1511)
      ∷ (call 2 3 1 1 1 true (grid 530100 180100) 2 (needs 1 0 0) [] 1714)
      ∷ (call 2 4 1 1 1 false (grid 530100 180100) 3 (needs 0 0 1) [] 1301) ∷ [];
  vehicles =
      (vehicle A1 2 2 Support (grid 530000 180000) Available 2000 None 0 2)
      ∷ (vehicle A2 1 1 Ambulance (grid 531000 180000) Mobilised 40000 None 2 4)
      ∷ (vehicle A3 2 2 Ambulance (grid 530200 180000) OffDuty 0 None 0 1) ∷ [];
  turns =
      (turn A2 1 1 1 Ambulance 2911 None None None None (Some 3213) false)
      ∷ (turn A2 2 1 2 Ambulance 3436 (Some 4218) None None None None false) ∷ [];
  assignments = (assignment A2 1 2 2 (grid 531000 180000) 2) ∷ [];
  points = (point 2 1 (grid 530100 180100) 1) ∷ [];
  loans = [];
  offers = [];
  reports =
      (report A1 1 button.Home 0 (grid 530000 180000) 2671 2 Normal Available false)
      ∷ (report A1 2 button.Return 0 (grid 530300 180400) 3315 2 Wrong Available false)
      ∷ (report A2 1 button.Mobile 0 (grid 530201 180000) 3345 1 Late Available false)
      ∷ (report A2 2 button.Home 0 (grid 530201 180000) 3213 1 Skipped Available false)
      ∷ (report A2 4 button.Mobile 2 (grid 531000 180000) 4218 1 Normal Mobilised false)
      ∷ (report A3 1 button.Leave 0 (grid 530120 180160) 1673 2 Wrong OffDuty false) ∷ [];
}

merge_14 : Steps (at 4223 (Desk 1) (ask.Merge 1 2)) before_merge_14 (Ok answer.Done)
    (record before_merge_14 {
      incidents =
          (incident 1 1 (grid 530100 180100) 2 (needs 1 0 1) 1301 (Some 2911) (Merged 2))
          ∷ (incident 1 2 (grid 531000 180000) 2 (needs 1 0 1) 1301 (Some 2911) Active)
          ∷ (incident 1 3 (grid 530200 180000) 3 (needs 0 0 1) 4902 None Active)
          ∷ (incident 1 4 (grid 530300 180400) 2 (needs 1 0 0) 8502 None (Merged 2))
          ∷ (incident 1 5 (grid 530200 180000) 2 (needs 0 0 1) 9343 None Active)
          ∷ (incident 2 1 (grid 560200 180000) 3 (needs 1 0 0) 1511 None Active)
          ∷ [];
      calls = (call 1 2 1 5 5 false (grid 530200 180000) 2 (needs 0 0 1) (codes "x") 9343)
          ∷ (call 1 3 1 3 3 false (grid 530200 180000) 3 (needs 0 0 1) [] 4902)
          ∷ (call 1 4 1 2 4 false (grid 530300 180400) 2 (needs 1 0 0) (codes "x") 8502)
          ∷ (call 1 6 1 2 2 false (grid 531000 180000) 2 (needs 0 0 1) (codes "x") 1331)
          ∷ (call 2 1 2 1 1 false (grid 560200 180000) 3 (needs 1 0 0) [] 1511)
          ∷ (call 2 3 1 2 1 true (grid 530100 180100) 2 (needs 1 0 0) [] 1714)
          ∷ (call 2 4 1 2 1 false (grid 530100 180100) 3 (needs 0 0 1) [] 1301) ∷ [];
    })
unfolding machine
merge_14 = (refl, refl)

abbrev before_merge_incident_not_open : Room
before_merge_incident_not_open = record {
  plan = two_divisions;
  divisions = (division 1 2) ∷ (division 2 3) ∷ [];
  incidents =
      (incident 1 1 (grid 530200 180000) 2 (needs 0 1 0) 1774 None Closed)
      ∷ (incident 1 2 (grid 530100 180000) 1 (needs 2 0 0) 1954 None Active) ∷ [];
  calls =
      (call 1 6 1 2 2 false (grid 530100 180000) 1 (needs 2 0 0) [] 1954)
      ∷ (call 2 6 1 1 1 false (grid 530200 180000) 2 (needs 0 1 0) [] 1774) ∷ [];
  vehicles =
      (vehicle A1 2 2 Ambulance (grid 530300 180400) Offered 40000 None 0 0)
      ∷ (vehicle A2 1 2 Support (grid 531000 180000) Available 2000 None 0 3)
      ∷ (vehicle A3 1 1 Ambulance (grid 531000 180000) Offered 5000 None 0 1) ∷ [];
  turns = [];
  assignments = [];
  points = [];
  loans = (loan A2 1 2 1493 2301 false) ∷ [];
  offers = (offer A1 2 1 1937 2937) ∷ (offer A3 1 2 1997 2997) ∷ [];
  reports =
      (report A2 2 button.Leave 0 (grid 531000 180000) 1281 1 Wrong Offered true)
      ∷ (report A2 3 button.Mobile 0 (grid 531000 180000) 1312 1 Wrong Offered false)
      ∷ (report A3 1 button.Position 0 (grid 531000 180000) 2302 1 Normal Available false) ∷ [];
}

merge_incident_not_open : Steps (at 2301 (Desk 1) (ask.Merge 1 2)) before_merge_incident_not_open
    (Err refusal.IncidentNotOpen) before_merge_incident_not_open
unfolding machine
merge_incident_not_open = (refl, refl)

abbrev before_merge_no_such_incident : Room
before_merge_no_such_incident = record {
  plan = two_divisions;
  divisions = (division 1 3) ∷ (division 2 3) ∷ [];
  incidents = [];
  calls = [];
  vehicles =
      (vehicle A1 2 2 Ambulance (grid 531000 180000) Available 2000 None 0 0)
      ∷ (vehicle A2 1 1 Ambulance (grid 530100 180000) OffDuty 0 None 0 0) ∷ [];
  turns = [];
  assignments = [];
  points = [];
  loans = [];
  offers = [];
  reports = [];
}

merge_no_such_incident : Steps (at 1061 (Desk 1) (ask.Merge 1 9)) before_merge_no_such_incident
    (Err refusal.NoSuchIncident) before_merge_no_such_incident
unfolding machine
merge_no_such_incident = (refl, refl)

abbrev before_merge_same_incident : Room
before_merge_same_incident = record {
  plan = two_divisions;
  divisions = (division 1 4) ∷ (division 2 3) ∷ [];
  incidents = (incident 1 4 (grid 530000 180000) 2 (needs 2 1 1) 1301 None Active) ∷ [];
  calls = (call 1 1 1 4 4 false (grid 530000 180000) 2 (needs 2 1 1) [] 1301) ∷ [];
  vehicles =
      (vehicle A1 2 2 Ambulance (grid 530100 180000) Available 2000 None 0 0)
      ∷ (vehicle A2 1 1 Ambulance (grid 530100 180100) Available 5000 None 0 0) ∷ [];
  turns = [];
  assignments = [];
  points = [];
  loans = [];
  offers = [];
  reports = [];
}

merge_same_incident : Steps (at 1421 (Desk 1) (ask.Merge 4 4)) before_merge_same_incident
    (Err refusal.SameIncident) before_merge_same_incident
unfolding machine
merge_same_incident = (refl, refl)

abbrev before_merge_still_assigned : Room
before_merge_still_assigned = record {
  plan = overlapping_divisions;
  divisions = (division 1 2) ∷ (division 7 3) ∷ [];
  incidents =
      (incident 1 1 (grid 530201 180000) 1 (needs 1 1 0) 1903 (Some 2390) Active)
      ∷ (incident 1 2 (grid 530120 180160) 2 (needs 2 0 0) 3136 None Active) ∷ [];
  calls =
      (call 1 3 1 2 2 false (grid 530120 180160) 2 (needs 1 0 0) [] 3136)
      ∷ (call 2 1 1 2 2 true (grid 530100 180100) 2 (needs 2 0 0) (codes "x") 3537)
      ∷ (call 2 5 1 1 1 false (grid 530201 180000) 1 (needs 1 1 0) (codes "x") 1903) ∷ [];
  vehicles =
      (vehicle A1 7 7 Car (grid 531000 180000) Available 5302 None 0 1)
      ∷ (vehicle A2 1 1 Ambulance (grid 531000 180000) Mobilised 40000 None 1 1)
      ∷ (vehicle A3 7 7 Ambulance (grid 530201 180000) Available 2390 None 0 3) ∷ [];
  turns = (turn A2 1 1 1 Ambulance 2390 None None None None None false) ∷ [];
  assignments = (assignment A2 1 1 1 (grid 530201 180000) 1) ∷ [];
  points = [];
  loans = [];
  offers = [];
  reports =
      (report A1 1 button.Leave 0 (grid 530200 180000) 1001 7 Wrong OffDuty false)
      ∷ (report A2 1 button.Return 0 (grid 530100 180000) 2384 1 Wrong Available false)
      ∷ (report A3 1 button.Return 0 (grid 530100 180000) 2384 7 Wrong OffDuty true)
      ∷ (report A3 3 button.Home 0 (grid 530201 180000) 2850 7 Normal Available false) ∷ [];
}

merge_still_assigned : Steps (at 4018 (Desk 1) (ask.Merge 1 2)) before_merge_still_assigned
    (Err refusal.StillAssigned) before_merge_still_assigned
unfolding machine
merge_still_assigned = (refl, refl)

abbrev before_needs_below_served : Room
before_needs_below_served = record {
  plan = two_divisions;
  divisions = (division 1 4) ∷ (division 2 0) ∷ [];
  incidents = (incident 1 4 (grid 530200 180000) 1 (needs 1 1 0) 980 (Some 1775) Active) ∷ [];
  calls =
      (call 1 4 1 4 4 false (grid 530200 180000) 2 (needs 1 0 0) [] 980)
      ∷ (call 1 6 1 4 4 true (grid 530100 180000) 2 (needs 0 1 0) [] 1820)
      ∷ (call 2 2 1 4 4 true (grid 530201 180000) 2 (needs 0 1 0) [] 981)
      ∷ (call 2 3 1 4 4 true (grid 530120 180160) 1 (needs 1 1 0) (codes "x") 1821) ∷ [];
  vehicles =
      (vehicle A1 1 1 Ambulance (grid 530120 180160) Offered 42458 None 0 1)
      ∷ (vehicle A2 1 1 Car (grid 530300 180400) Returning 40000 None 1 4)
      ∷ (vehicle A3 1 1 Ambulance (grid 530100 180000) OffDuty 5011 None 0 3) ∷ [];
  turns = (turn A2 1 1 4 Car 1775 None None None (Some 1780) (Some 2459) false) ∷ [];
  assignments = [];
  points = [];
  loans = [];
  offers = (offer A1 1 2 42457 42457) ∷ [];
  reports =
      (report A1 1 button.Position 0 (grid 530100 180000) 1439 1 Wrong OffDuty true)
      ∷ (report A2 1 button.Scene 0 (grid 530120 180160) 980 1 Wrong Available false)
      ∷ (report A2 3 button.Hospital 1 (grid 530200 180000) 1780 1 Skipped AtHospital false)
      ∷ (report A2 4 button.Return 1 (grid 530300 180400) 2459 1 Normal Returning false)
      ∷ (report A3 2 button.Position 0 (grid 530200 180000) 1041 1 Normal Available false)
      ∷ (report A3 3 button.Home 0 (grid 530100 180000) 1046 1 Normal Available false) ∷ [];
}

needs_below_served : Steps (at 2489 (Desk 1) (ask.Needs 4 (needs 1 0 0))) before_needs_below_served
    (Err refusal.BelowServed) before_needs_below_served
unfolding machine
needs_below_served = (refl, refl)

abbrev before_needs_incident_not_open : Room
before_needs_incident_not_open = record {
  plan = two_divisions;
  divisions = (division 1 1) ∷ (division 2 3) ∷ [];
  incidents = (incident 1 1 (grid 530100 180100) 2 (needs 0 1 0) 1222 None Closed) ∷ [];
  calls = (call 2 3 1 1 1 false (grid 530100 180100) 2 (needs 0 1 0) (codes "x") 1222) ∷ [];
  vehicles =
      (vehicle A1 2 2 Ambulance (grid 560100 180000) Offered 40000 None 0 0)
      ∷ (vehicle A2 2 2 Ambulance (grid 530000 180000) OffDuty 0 None 0 2)
      ∷ (vehicle A3 2 2 Ambulance (grid 530120 180160) OffDuty 40000 None 0 0) ∷ [];
  turns = [];
  assignments = [];
  points = [];
  loans = [];
  offers = (offer A1 2 1 1643 2043) ∷ [];
  reports = (report A2 2 button.Mobile 0 (grid 531000 180000) 1041 2 Wrong OffDuty true) ∷ [];
}

needs_incident_not_open : Steps (at 2725 (Desk 1) (ask.Needs 1 (needs 2 1 1)))
    before_needs_incident_not_open (Err refusal.IncidentNotOpen) before_needs_incident_not_open
unfolding machine
needs_incident_not_open = (refl, refl)

abbrev before_times_0 : Room
before_times_0 = record {
  plan = two_divisions;
  divisions = (division 1 1) ∷ (division 2 0) ∷ [];
  incidents = (incident 1 1 (grid 530120 180160) 2 (needs 2 0 0) 1030 None Active) ∷ [];
  calls = (call 1 5 1 1 1 false (grid 530120 180160) 2 (needs 2 0 0) [] 1030) ∷ [];
  vehicles =
      (vehicle A1 2 2 Ambulance (grid 560100 180000) Available 2000 None 0 0)
      ∷ (vehicle A2 2 2 Support (grid 530120 180160) Available 2000 None 0 0) ∷ [];
  turns = [];
  assignments = [];
  points = [];
  loans = [];
  offers = [];
  reports = [];
}

times_0 : Steps (at 1190 (Desk 1) (ask.Times (pos 1029) (pos 1030))) before_times_0
    (Ok (answer.Times (times (pos 1029) (pos 1030) 0 0 ([])))) before_times_0
unfolding machine
times_0 = (refl, refl)

abbrev before_times_1 : Room
before_times_1 = record {
  plan = two_divisions;
  divisions = (division 1 4) ∷ (division 2 0) ∷ [];
  incidents = (incident 1 4 (grid 530000 180000) 2 (needs 1 0 0) 1030 None Active) ∷ [];
  calls = (call 2 3 1 4 4 false (grid 530000 180000) 2 (needs 1 0 0) [] 1030) ∷ [];
  vehicles =
      (vehicle A1 1 1 Car (grid 530100 180000) Available 40000 None 0 0)
      ∷ (vehicle A2 1 1 Car (grid 560100 180000) Available 2000 None 0 0) ∷ [];
  turns = [];
  assignments = [];
  points = [];
  loans = [];
  offers = [];
  reports = [];
}

times_1 : Steps (at 1060 (Desk 1) (ask.Times (negsuc 3969) (pos 6030))) before_times_1
    (Ok (answer.Times (times (negsuc 3969) (pos 6030) 0 0 ((times_line 4 1030 None) ∷ []))))
    before_times_1
unfolding machine
times_1 = (refl, refl)

abbrev before_times_1_2 : Room
before_times_1_2 = record {
  plan = two_divisions;
  divisions = (division 1 0) ∷ (division 2 4) ∷ [];
  incidents = (incident 2 4 (grid 560100 180000) 1 (needs 0 0 1) 1061 (Some 1066) Active) ∷ [];
  calls = (call 2 5 2 4 4 false (grid 560100 180000) 1 (needs 0 0 1) [] 1061) ∷ [];
  vehicles =
      (vehicle A1 2 2 Support (grid 560200 180000) Mobilised 40000 None 1 0)
      ∷ (vehicle A2 2 2 Car (grid 531000 180000) OffDuty 0 None 0 0) ∷ [];
  turns = (turn A1 1 2 4 Support 1066 None None None None None false) ∷ [];
  assignments = (assignment A1 2 4 1 (grid 560100 180000) 1) ∷ [];
  points = [];
  loans = [];
  offers = [];
  reports = [];
}

times_1_2 : Steps (at 1157 (Desk 2) (ask.Times (pos 1060) (pos 6061))) before_times_1_2
    (Ok (answer.Times (times (pos 1060) (pos 6061) 1 1 ((times_line 4 1061 (Some 5)) ∷ []))))
    before_times_1_2
unfolding machine
times_1_2 = (refl, refl)

abbrev before_times_1_3 : Room
before_times_1_3 = record {
  plan = two_divisions;
  divisions = (division 1 2) ∷ (division 2 0) ∷ [];
  incidents =
      (incident 1 1 (grid 530100 180100) 1 (needs 1 0 0) 1721 (Some 2024) Active)
      ∷ (incident 1 2 (grid 530300 180400) 2 (needs 2 1 1) 2621 None Active) ∷ [];
  calls =
      (call 1 4 1 2 2 false (grid 530300 180400) 2 (needs 2 1 1) [] 2621)
      ∷ (call 2 5 1 1 1 false (grid 530100 180100) 1 (needs 1 0 0) [] 1721) ∷ [];
  vehicles =
      (vehicle A1 1 1 Ambulance (grid 530100 180100) Mobilised 2025 None 1 0)
      ∷ (vehicle A2 2 2 Support (grid 530300 180400) Available 40000 None 0 2) ∷ [];
  turns = (turn A1 1 1 1 Ambulance 2024 None None None None None false) ∷ [];
  assignments = (assignment A1 1 1 1 (grid 530100 180100) 1) ∷ [];
  points = [];
  loans = [];
  offers = [];
  reports = (report A2 2 button.Leave 0 (grid 531000 180000) 1601 2 Wrong Available false) ∷ [];
}

times_1_3 : Steps (at 2631 (Desk 1) (ask.Times (negsuc 97378) (pos 2621))) before_times_1_3
    (Ok (answer.Times (times (negsuc 97378) (pos 2621) 1 0 ((times_line 1 1721 (Some 303)) ∷ []))))
    before_times_1_3
unfolding machine
times_1_3 = (refl, refl)

abbrev before_times_1_4 : Room
before_times_1_4 = record {
  plan = overlapping_divisions;
  divisions = (division 1 3) ∷ (division 7 1) ∷ [];
  incidents =
      (incident 1 1 (grid 530200 180000) 2 (needs 1 1 0) 1698 None Active)
      ∷ (incident 1 2 (grid 530100 180100) 2 (needs 1 0 0) 2627 None Active)
      ∷ (incident 1 3 (grid 530300 180400) 2 (needs 2 1 1) 2598 None Active)
      ∷ (incident 7 1 (grid 530000 180000) 2 (needs 2 0 0) 1879 (Some 2059) Active) ∷ [];
  calls =
      (call 1 1 7 1 1 false (grid 530000 180000) 2 (needs 2 0 0) (codes "x") 1879)
      ∷ (call 1 2 1 1 1 false (grid 530200 180000) 2 (needs 1 1 0) (codes "x") 1698)
      ∷ (call 1 4 1 3 3 false (grid 530300 180400) 2 (needs 2 1 1) [] 2598)
      ∷ (call 1 5 1 2 2 false (grid 530100 180100) 2 (needs 1 0 0) (codes "x") 2627) ∷ [];
  vehicles =
      (vehicle A1 7 7 Ambulance (grid 531000 180000) OffDuty 0 None 0 5)
      ∷ (vehicle A2 7 7 Ambulance (grid 530100 180100) Offered 3489 None 0 3)
      ∷ (vehicle A3 7 7 Ambulance (grid 530200 180000) Returning 40000 None 1 5) ∷ [];
  turns = (turn A3 1 7 1 Ambulance 2059 None None None None (Some 2928) false) ∷ [];
  assignments = [];
  points = (point 7 2 (grid 531000 180000) 1) ∷ [];
  loans = [];
  offers = (offer A2 7 1 3291 4291) ∷ [];
  reports =
      (report A1 1 button.Mobile 0 (grid 531000 180000) 1001 7 Wrong OffDuty false)
      ∷ (report A1 2 button.Hospital 0 (grid 530120 180160) 1061 7 Wrong OffDuty false)
      ∷ (report A1 4 button.Mobile 0 (grid 530201 180000) 1818 7 Wrong OffDuty false)
      ∷ (report A1 5 button.Position 0 (grid 531000 180000) 3290 7 Wrong OffDuty false)
      ∷ (report A2 2 button.Leave 0 (grid 530000 180000) 1001 7 Wrong OffDuty false)
      ∷ (report A2 3 button.Scene 0 (grid 530100 180100) 1879 7 Wrong OffDuty false)
      ∷ (report A3 1 button.Return 0 (grid 530100 180000) 2345 7 Wrong Available false)
      ∷ (report A3 3 button.Leave 0 (grid 530100 180000) 2587 7 Wrong Available false)
      ∷ (report A3 4 button.Leave 0 (grid 530300 180400) 2622 7 Wrong Available false)
      ∷ (report A3 5 button.Return 1 (grid 530200 180000) 2928 7 Skipped Returning false) ∷ [];
}

times_1_4 : Steps (at 3411 (Desk 7) (ask.Times (negsuc 98120) (pos 2599))) before_times_1_4
    (Ok (answer.Times (times (negsuc 98120) (pos 2599) 1 1 ((times_line 1 1879 (Some 180)) ∷ []))))
    before_times_1_4
unfolding machine
times_1_4 = (refl, refl)

abbrev before_times_2 : Room
before_times_2 = record {
  plan = two_divisions;
  divisions = (division 1 6) ∷ (division 2 3) ∷ [];
  incidents =
      (incident 1 4 (grid 530201 180000) 1 (needs 0 1 0) 980 None Active)
      ∷ (incident 1 5 (grid 530000 180000) 3 (needs 1 1 0) 1527 None Active)
      ∷ (incident 1 6 (grid 530000 180000) 2 (needs 0 0 1) 2521 None Active) ∷ [];
  calls =
      (call 1 3 1 5 5 false (grid 530000 180000) 3 (needs 1 1 0) [] 1527)
      ∷ (call 1 5 1 6 6 false (grid 530000 180000) 2 (needs 0 0 1) [] 2521)
      ∷ (call 2 2 1 4 4 true (grid 530120 180160) 1 (needs 0 1 0) (codes "x") 985)
      ∷ (call 2 6 1 4 4 false (grid 530201 180000) 2 (needs 0 1 0) [] 980) ∷ [];
  vehicles =
      (vehicle A1 2 2 Support (grid 530200 180000) OffDuty 0 None 0 4)
      ∷ (vehicle A2 1 1 Car (grid 530200 180000) Available 40000 None 0 0) ∷ [];
  turns = [];
  assignments = [];
  points = [];
  loans = [];
  offers = [];
  reports =
      (report A1 1 button.Leave 0 (grid 530201 180000) 1046 2 Wrong OffDuty false)
      ∷ (report A1 3 button.Leave 0 (grid 530120 180160) 1528 2 Wrong OffDuty false)
      ∷ (report A1 4 button.Scene 0 (grid 530100 180100) 1528 2 Wrong OffDuty false) ∷ [];
}

times_2 : Steps (at 2526 (Desk 1) (ask.Times (negsuc 2478) (pos 2521))) before_times_2
    (Ok (answer.Times (times (negsuc 2478) (pos 2521) 0 0
    ((times_line 4 980 None) ∷ (times_line 5 1527 None) ∷ [])))) before_times_2
unfolding machine
times_2 = (refl, refl)

abbrev before_times_2_2 : Room
before_times_2_2 = record {
  plan = two_divisions;
  divisions = (division 1 3) ∷ (division 2 0) ∷ [];
  incidents =
      (incident 1 1 (grid 530201 180000) 1 (needs 2 1 0) 1306 (Some 39999) Active)
      ∷ (incident 1 2 (grid 531000 180000) 2 (needs 1 0 0) 1365 None Active)
      ∷ (incident 1 3 (grid 530000 180000) 1 (needs 2 1 1) 1667 None Active) ∷ [];
  calls =
      (call 1 3 1 1 1 false (grid 530201 180000) 2 (needs 0 1 0) [] 1306)
      ∷ (call 1 4 1 3 3 false (grid 530000 180000) 1 (needs 2 1 1) [] 1667)
      ∷ (call 1 5 1 2 2 false (grid 531000 180000) 2 (needs 1 0 0) [] 1365)
      ∷ (call 2 1 1 1 1 true (grid 530100 180100) 1 (needs 2 0 0) [] 1372)
      ∷ (call 2 6 1 1 1 true (grid 530100 180000) 3 (needs 2 0 0) [] 1486) ∷ [];
  vehicles =
      (vehicle A1 1 1 Ambulance (grid 530201 180000) Available 5005 None 0 1)
      ∷ (vehicle A2 1 1 Ambulance (grid 560000 180000) OffDuty 0 None 0 0)
      ∷ (vehicle A3 1 1 Ambulance (grid 531000 180000) Mobilised 40000 None 1 1)
      ∷ (vehicle B1 1 1 Support (grid 530100 180000) Available 40000 None 0 0) ∷ [];
  turns = (turn A3 1 1 1 Ambulance 39999 None None None None None false) ∷ [];
  assignments = (assignment A3 1 1 1 (grid 530201 180000) 1) ∷ [];
  points = [];
  loans = [];
  offers = [];
  reports =
      (report A1 1 button.Home 0 (grid 530201 180000) 1385 1 Normal Available false)
      ∷ (report A3 1 button.Position 1 (grid 531000 180000) 1666 1 Normal Mobilised false) ∷ [];
}

times_2_2 : Steps (at 1878 (Desk 1) (ask.Times (negsuc 3693) (pos 1667))) before_times_2_2
    (Ok (answer.Times (times (negsuc 3693) (pos 1667) 1 0
    ((times_line 1 1306 (Some 38693)) ∷ (times_line 2 1365 None) ∷ [])))) before_times_2_2
unfolding machine
times_2_2 = (refl, refl)

abbrev before_times_2_3 : Room
before_times_2_3 = record {
  plan = overlapping_divisions;
  divisions = (division 1 2) ∷ (division 7 1) ∷ [];
  incidents =
      (incident 1 1 (grid 530100 180000) 2 (needs 1 0 0) 1661 None Closed)
      ∷ (incident 1 2 (grid 530300 180400) 2 (needs 1 1 0) 3184 (Some 3364) Active)
      ∷ (incident 7 1 (grid 530000 180000) 1 (needs 1 1 0) 1481 (Some 3435) Active) ∷ [];
  calls =
      (call 1 3 1 1 1 false (grid 530100 180000) 2 (needs 1 0 0) [] 1661)
      ∷ (call 1 5 7 1 1 false (grid 530000 180000) 1 (needs 1 1 0) [] 1481)
      ∷ (call 1 6 1 2 2 false (grid 530300 180400) 2 (needs 1 1 0) [] 3184) ∷ [];
  vehicles =
      (vehicle A1 1 1 Ambulance (grid 530100 180000) Available 7179 None 0 2)
      ∷ (vehicle A2 1 1 Car (grid 530200 180000) Mobilised 40000 None 1 2)
      ∷ (vehicle A3 7 7 Car (grid 530200 180000) Mobilised 5000 None 1 0)
      ∷ (vehicle B1 7 7 Ambulance (grid 530100 180000) Available 40000 None 0 1)
      ∷ (vehicle B2 7 7 Ambulance (grid 530100 180000) OffDuty 5000 None 0 3) ∷ [];
  turns =
      (turn A2 1 1 2 Car 3364 None None None None None false) ∷ (turn A3 1 7 1 Car 3435 None None None None None false)
      ∷ [];
  assignments = (assignment A2 1 2 1 (grid 530300 180400) 2) ∷ (assignment A3 7 1 1 (grid 530000 180000) 1) ∷ [];
  points = (point 1 2 (grid 530100 180000) 2) ∷ (point 7 1 (grid 530300 180400) 2) ∷ [];
  loans = [];
  offers = [];
  reports =
      (report A1 1 button.Hospital 0 (grid 530000 180000) 1662 1 Wrong OffDuty true)
      ∷ (report A1 2 button.Position 0 (grid 530100 180000) 3165 1 Normal Available false)
      ∷ (report A2 2 button.Scene 0 (grid 531000 180000) 3285 1 Stale Mobilised false)
      ∷ (report B1 1 button.Hospital 0 (grid 530100 180100) 2265 7 Wrong Available false)
      ∷ (report B2 1 button.Home 0 (grid 530100 180000) 1963 7 Normal Available false)
      ∷ (report B2 3 button.Scene 0 (grid 530201 180000) 2266 7 Wrong Available false) ∷ [];
}

times_2_3 : Steps (at 4097 (Desk 1) (ask.Times (pos 1480) (pos 6481))) before_times_2_3
    (Ok (answer.Times (times (pos 1480) (pos 6481) 1 1
    ((times_line 1 1661 None) ∷ (times_line 2 3184 (Some 180)) ∷ [])))) before_times_2_3
unfolding machine
times_2_3 = (refl, refl)

abbrev before_times_3 : Room
before_times_3 = record {
  plan = two_divisions;
  divisions = (division 1 2) ∷ (division 2 6) ∷ [];
  incidents =
      (incident 1 1 (grid 530100 180000) 2 (needs 1 0 0) 3392 None Active)
      ∷ (incident 1 2 (grid 530100 180100) 1 (needs 0 1 0) 4817 None Active)
      ∷ (incident 2 4 (grid 560200 180000) 1 (needs 2 0 0) 1301 (Some 1481) Closed)
      ∷ (incident 2 5 (grid 560200 180000) 3 (needs 1 0 0) 3573 None Active)
      ∷ (incident 2 6 (grid 560200 180000) 3 (needs 2 0 0) 4636 None Closed) ∷ [];
  calls =
      (call 1 1 2 6 6 false (grid 560200 180000) 3 (needs 1 1 0) [] 4636)
      ∷ (call 1 2 2 4 4 false (grid 560200 180000) 1 (needs 2 0 0) (codes "x") 1301)
      ∷ (call 1 3 1 1 1 false (grid 530100 180000) 2 (needs 1 0 0) (codes "x") 3392)
      ∷ (call 2 2 1 2 2 false (grid 530100 180100) 1 (needs 0 1 0) [] 4817)
      ∷ (call 2 6 2 5 5 false (grid 560200 180000) 3 (needs 1 0 0) [] 3573) ∷ [];
  vehicles =
      (vehicle A1 1 1 Support (grid 560100 180000) OffDuty 0 None 0 3)
      ∷ (vehicle A2 2 2 Ambulance (grid 530000 180000) OffDuty 5166 None 1 1) ∷ [];
  turns = (turn A2 1 2 4 Ambulance 1481 None None None None (Some 1512) false) ∷ [];
  assignments = [];
  points = [];
  loans = [];
  offers = [];
  reports =
      (report A1 1 button.Hospital 0 (grid 530100 180000) 2504 1 Wrong OffDuty false)
      ∷ (report A1 2 button.Position 0 (grid 530201 180000) 4646 1 Wrong OffDuty false)
      ∷ (report A1 3 button.Mobile 0 (grid 530100 180100) 4772 1 Wrong OffDuty false)
      ∷ (report A2 1 button.Home 1 (grid 530200 180000) 1512 2 Skipped Available false) ∷ [];
}

times_3 : Steps (at 6036 (Desk 2) (ask.Times (negsuc 98698) (pos 8392))) before_times_3
    (Ok (answer.Times (times (negsuc 98698) (pos 8392) 1 1
    ((times_line 4 1301 (Some 180)) ∷ (times_line 5 3573 None) ∷ (times_line 6 4636 None)
    ∷ [])))) before_times_3
unfolding machine
times_3 = (refl, refl)

abbrev before_times_3_2 : Room
before_times_3_2 = record {
  plan = overlapping_divisions;
  divisions = (division 1 3) ∷ (division 7 1) ∷ [];
  incidents =
      (incident 1 1 (grid 530100 180100) 2 (needs 1 1 1) 1182 (Some 2186) Active)
      ∷ (incident 1 2 (grid 531000 180000) 3 (needs 1 1 0) 2448 (Some 2146) Active)
      ∷ (incident 1 3 (grid 560200 180000) 2 (needs 1 0 0) 2141 None Active)
      ∷ (incident 7 1 (grid 530000 180000) 2 (needs 2 1 1) 1607 None Active) ∷ [];
  calls =
      (call 1 3 7 1 1 false (grid 530000 180000) 2 (needs 2 1 1) [] 1607)
      ∷ (call 1 4 1 2 2 false (grid 531000 180000) 3 (needs 1 1 0) [] 2448)
      ∷ (call 1 5 1 3 3 false (grid 560200 180000) 2 (needs 1 0 0) [] 2141)
      ∷ (call 2 3 1 1 1 true (grid 530120 180160) 2 (needs 1 1 0) (codes "x") 2082)
      ∷ (call 2 5 1 1 1 false (grid 530100 180100) 2 (needs 0 0 1) [] 1182) ∷ [];
  vehicles =
      (vehicle A1 1 1 Ambulance (grid 530100 180100) Available 6226 None 0 1)
      ∷ (vehicle A2 1 1 Ambulance (grid 531000 180000) Mobilised 40000 None 1 2)
      ∷ (vehicle A3 7 1 Ambulance (grid 530300 180400) Mobilised 40000 None 1 1) ∷ [];
  turns =
      (turn A2 1 1 2 Ambulance 2146 (Some 2191) None None None None false)
      ∷ (turn A3 1 1 1 Ambulance 2186 None None None None None false) ∷ [];
  assignments = (assignment A2 1 2 1 (grid 531000 180000) 3) ∷ (assignment A3 1 1 1 (grid 530100 180100) 2) ∷ [];
  points = (point 7 2 (grid 530300 180400) 1) ∷ [];
  loans = (loan A3 7 1 1544 1060 true) ∷ [];
  offers = [];
  reports =
      (report A1 1 button.Home 0 (grid 530000 180000) 2079 1 Wrong OffDuty false)
      ∷ (report A2 1 button.Mobile 1 (grid 530200 180000) 2191 1 Normal Mobilised false)
      ∷ (report A2 2 button.Position 1 (grid 531000 180000) 2346 1 Normal Mobilised false)
      ∷ (report A3 1 button.Return 0 (grid 530200 180000) 1061 1 Wrong Available false) ∷ [];
}

times_3_2 : Steps (at 3038 (Desk 1) (ask.Times (negsuc 98817) (pos 7448))) before_times_3_2
    (Ok (answer.Times (times (negsuc 98817) (pos 7448) 2 1
    ((times_line 1 1182 (Some 1004)) ∷ (times_line 2 2448 (Some 0)) ∷ (times_line 3 2141 None)
    ∷ [])))) before_times_3_2
unfolding machine
times_3_2 = (refl, refl)

abbrev before_times_3_3 : Room
before_times_3_3 = record {
  plan = two_divisions;
  divisions = (division 1 3) ∷ (division 2 1) ∷ [];
  incidents =
      (incident 1 1 (grid 530100 180000) 1 (needs 1 1 0) 1487 (Some 1667) Active)
      ∷ (incident 1 2 (grid 530300 180400) 3 (needs 0 0 1) 3566 None Active)
      ∷ (incident 1 3 (grid 530200 180000) 1 (needs 1 0 1) 1967 None Active)
      ∷ (incident 2 1 (grid 560000 180000) 3 (needs 2 0 0) 4467 None Active) ∷ [];
  calls =
      (call 1 3 1 2 2 false (grid 530300 180400) 3 (needs 0 0 1) [] 3566)
      ∷ (call 1 5 1 3 3 false (grid 530200 180000) 1 (needs 1 0 0) [] 3567)
      ∷ (call 2 1 1 1 1 false (grid 530100 180000) 1 (needs 0 1 0) [] 1487)
      ∷ (call 2 4 1 3 3 true (grid 530200 180000) 2 (needs 0 0 1) [] 1967)
      ∷ (call 2 5 2 1 1 false (grid 560000 180000) 3 (needs 2 0 0) [] 4467) ∷ [];
  vehicles =
      (vehicle A1 2 2 Ambulance (grid 530100 180100) Available 5000 None 0 2)
      ∷ (vehicle A2 1 1 Car (grid 530100 180000) Returning 40000 None 1 2)
      ∷ (vehicle A3 1 1 Ambulance (grid 530100 180000) OffDuty 5000 None 1 4) ∷ [];
  turns =
      (turn A2 1 1 1 Car 2902 None None None None (Some 5473) true)
      ∷ (turn A3 1 1 1 Ambulance 1667 None (Some 3385) None None (Some 4049) false) ∷ [];
  assignments = [];
  points = (point 1 2 (grid 530100 180000) 1) ∷ (point 2 2 (grid 530000 180000) 1) ∷ [];
  loans = [];
  offers = [];
  reports =
      (report A1 1 button.Scene 0 (grid 530000 180000) 1482 2 Wrong Available false)
      ∷ (report A1 2 button.Leave 0 (grid 530100 180000) 1617 2 Wrong Available false)
      ∷ (report A2 1 button.Mobile 0 (grid 530201 180000) 1517 1 Wrong Available false)
      ∷ (report A2 2 button.Leave 0 (grid 530100 180100) 3384 1 Stale Mobilised false)
      ∷ (report A3 1 button.Hospital 0 (grid 531000 180000) 1928 1 Wrong Available false)
      ∷ (report A3 2 button.Mobile 0 (grid 530300 180400) 2290 1 Wrong Available false)
      ∷ (report A3 3 button.Scene 1 (grid 530100 180100) 3385 1 Skipped AtScene false)
      ∷ (report A3 4 button.Return 1 (grid 530100 180000) 4049 1 Normal Returning false) ∷ [];
}

times_3_3 : Steps (at 5654 (Desk 1) (ask.Times (negsuc 1433) (pos 9467))) before_times_3_3
    (Ok (answer.Times (times (negsuc 1433) (pos 9467) 1 1
    ((times_line 1 1487 (Some 180)) ∷ (times_line 2 3566 None) ∷ (times_line 3 1967 None)
    ∷ [])))) before_times_3_3
unfolding machine
times_3_3 = (refl, refl)

abbrev before_times_4 : Room
before_times_4 = record {
  plan = two_divisions;
  divisions = (division 1 4) ∷ (division 2 1) ∷ [];
  incidents =
      (incident 1 1 (grid 530200 180000) 1 (needs 1 0 0) 1607 (Some 2209) Active)
      ∷ (incident 1 2 (grid 530300 180400) 2 (needs 2 1 1) 1788 (Some 3576) Active)
      ∷ (incident 1 3 (grid 530201 180000) 2 (needs 1 1 0) 2813 None Active)
      ∷ (incident 1 4 (grid 531000 180000) 3 (needs 2 0 0) 3275 None Active)
      ∷ (incident 2 1 (grid 560100 180000) 1 (needs 1 0 0) 1607 None Active) ∷ [];
  calls =
      (call 1 2 1 2 2 false (grid 530300 180400) 2 (needs 2 1 1) [] 1788)
      ∷ (call 1 4 1 4 4 false (grid 531000 180000) 3 (needs 2 0 0) [] 3275)
      ∷ (call 2 1 1 1 1 true (grid 530201 180000) 1 (needs 1 1 0) [] 2210)
      ∷ (call 2 2 2 1 1 false (grid 560100 180000) 1 (needs 1 0 0) [] 1607)
      ∷ (call 2 4 1 1 1 false (grid 530200 180000) 1 (needs 2 1 1) (codes "x") 1607)
      ∷ (call 2 5 1 3 3 false (grid 530201 180000) 2 (needs 1 1 0) [] 2813) ∷ [];
  vehicles =
      (vehicle A1 2 1 Ambulance (grid 560100 180000) Available 5000 None 0 0)
      ∷ (vehicle A2 1 1 Ambulance (grid 530100 180100) Leaving 5306 None 2 4)
      ∷ (vehicle A3 2 2 Support (grid 531000 180000) Available 8239 None 0 3) ∷ [];
  turns =
      (turn A2 1 1 1 Ambulance 2209 None None None None (Some 3294) false)
      ∷ (turn A2 2 1 2 Ambulance 3576 None None (Some 4244) None None false) ∷ [];
  assignments = (assignment A2 1 2 2 (grid 530300 180400) 2) ∷ [];
  points = [];
  loans = (loan A1 2 1 4910 4785 false) ∷ [];
  offers = [];
  reports =
      (report A2 1 button.Home 0 (grid 530100 180100) 3294 1 Skipped Available false)
      ∷ (report A2 2 button.Leave 2 (grid 530100 180100) 4244 1 Skipped Leaving false)
      ∷ (report A2 4 button.Hospital 0 (grid 530300 180400) 4941 1 Stale Leaving false)
      ∷ (report A3 2 button.Mobile 0 (grid 530200 180000) 1908 2 Wrong OffDuty true)
      ∷ (report A3 3 button.Mobile 0 (grid 531000 180000) 4790 2 Wrong Available true) ∷ [];
}

times_4 : Steps (at 4972 (Desk 1) (ask.Times (negsuc 97186) (pos 6607))) before_times_4
    (Ok (answer.Times (times (negsuc 97186) (pos 6607) 2 0
    ((times_line 1 1607 (Some 602)) ∷ (times_line 2 1788 (Some 1788))
    ∷ (times_line 3 2813 None) ∷ (times_line 4 3275 None) ∷ [])))) before_times_4
unfolding machine
times_4 = (refl, refl)
