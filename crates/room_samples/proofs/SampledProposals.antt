-- Sampled steps: proposals of each number, with and without broken cover. A program that is
-- independent of this repository, written from the rules in words, made them in random runs; of
-- each kind of step it kept those with the fewest rows.
use Rattle.std.specs.Prelude.{Err, None, Ok, Some, [], codes, false, refl, true, ◌∷◌}
use Rattle.room_types.specs.declared.answers.Answer.TheVariants as answer
use Rattle.room_types.specs.declared.asks.Ask.TheVariants as ask
use Rattle.room_types.specs.declared.asks.Who.TheVariants.{Desk}
use Rattle.room_types.specs.declared.codes.Button.TheVariants as button
use Rattle.room_types.specs.declared.codes.Kind.TheVariants.{Ambulance, Car, Support}
use Rattle.room_types.specs.declared.codes.Outcome.TheVariants.{Normal, Skipped, Wrong}
use Rattle.room_types.specs.declared.codes.State.TheVariants.{Active, Closed}
use Rattle.room_types.specs.declared.codes.Status.TheVariants.{Available, Leaving, OffDuty, Offered}
use Rattle.room_types.specs.declared.codes.Status.TheVariants.{Returning}
use Rattle.room_types.specs.declared.refusal_statuses.Refusal.TheVariants as refusal
use Rattle.room_model.specs.Room.{Room}
use Rattle.room_model.specs.ComputedDefinitions.{machine}
use Rattle.room_samples.specs.ExampleRows.{call, division, grid, incident, loan, offer, point}
use Rattle.room_samples.specs.ExampleRows.{proposal, report, turn, vehicle}
use Rattle.room_samples.specs.SampledRooms.{A1, A2, A3, B1, B2, overlapping_divisions}
use Rattle.room_samples.specs.SampledRooms.{two_divisions}
use Rattle.room_samples.specs.SampledSteps.{Steps}
use Rattle.room_model.specs.StepWords.{at, needs}

abbrev before_propose_0 : Room
before_propose_0 = record {
  plan = overlapping_divisions;
  divisions = (division 1 1) ∷ (division 7 0) ∷ [];
  incidents = (incident 1 1 (grid 560100 180000) 3 (needs 2 1 1) 1030 None Active) ∷ [];
  calls = (call 1 3 1 1 1 false (grid 560100 180000) 3 (needs 2 1 1) [] 1030) ∷ [];
  vehicles =
      (vehicle A1 1 1 Ambulance (grid 560200 180000) Available 2000 None 0 0)
      ∷ (vehicle A2 7 7 Ambulance (grid 530100 180000) OffDuty 0 None 0 0)
      ∷ (vehicle A3 7 7 Ambulance (grid 560100 180000) OffDuty 0 None 0 0) ∷ [];
  turns = [];
  assignments = [];
  points = [];
  loans = [];
  offers = [];
  reports = [];
}

propose_0 : Steps (at 2000 (Desk 1) (ask.Propose 1)) before_propose_0
    (Ok (answer.Proposals ([]))) before_propose_0
unfolding machine
propose_0 = (refl, refl)

abbrev before_propose_0_2 : Room
before_propose_0_2 = record {
  plan = overlapping_divisions;
  divisions = (division 1 1) ∷ (division 7 0) ∷ [];
  incidents = (incident 1 1 (grid 530200 180000) 3 (needs 1 0 0) 1161 None Active) ∷ [];
  calls = (call 2 4 1 1 1 false (grid 530200 180000) 3 (needs 1 0 0) [] 1161) ∷ [];
  vehicles =
      (vehicle A1 1 1 Car (grid 530200 180000) OffDuty 0 None 0 0)
      ∷ (vehicle A2 1 1 Ambulance (grid 530100 180000) OffDuty 5000 None 0 0)
      ∷ (vehicle A3 1 1 Support (grid 560000 180000) Available 40000 None 0 1) ∷ [];
  turns = [];
  assignments = [];
  points = [];
  loans = [];
  offers = [];
  reports = (report A3 1 button.Return 0 (grid 530200 180000) 980 1 Wrong Available false) ∷ [];
}

propose_0_2 : Steps (at 1373 (Desk 1) (ask.Propose 1)) before_propose_0_2
    (Ok (answer.Proposals ([]))) before_propose_0_2
unfolding machine
propose_0_2 = (refl, refl)

abbrev before_propose_0_3 : Room
before_propose_0_3 = record {
  plan = two_divisions;
  divisions = (division 1 1) ∷ (division 2 0) ∷ [];
  incidents = (incident 1 1 (grid 530200 180000) 2 (needs 2 0 0) 1312 None Active) ∷ [];
  calls = (call 1 3 1 1 1 false (grid 530200 180000) 2 (needs 2 0 0) (codes "x") 1312) ∷ [];
  vehicles =
      (vehicle A1 2 2 Ambulance (grid 560100 180000) OffDuty 0 None 0 0)
      ∷ (vehicle A2 2 2 Ambulance (grid 530120 180160) OffDuty 0 None 0 0)
      ∷ (vehicle A3 1 1 Ambulance (grid 531000 180000) Available 2000 None 0 0) ∷ [];
  turns = [];
  assignments = [];
  points = (point 2 1 (grid 530120 180160) 0) ∷ [];
  loans = [];
  offers = [];
  reports = [];
}

propose_0_3 : Steps (at 2000 (Desk 1) (ask.Propose 1)) before_propose_0_3
    (Ok (answer.Proposals ([]))) before_propose_0_3
unfolding machine
propose_0_3 = (refl, refl)

abbrev before_propose_0_4 : Room
before_propose_0_4 = record {
  plan = overlapping_divisions;
  divisions = (division 1 4) ∷ (division 7 0) ∷ [];
  incidents = (incident 1 4 (grid 560200 180000) 2 (needs 1 0 0) 1222 None Active) ∷ [];
  calls =
      (call 1 1 1 4 4 false (grid 560200 180000) 3 (needs 1 0 0) [] 1222)
      ∷ (call 1 6 1 4 4 true (grid 560200 180000) 2 (needs 1 0 0) [] 1402) ∷ [];
  vehicles =
      (vehicle A1 1 1 Ambulance (grid 530100 180100) OffDuty 40000 None 0 0)
      ∷ (vehicle A2 7 7 Support (grid 530200 180000) OffDuty 0 None 0 1)
      ∷ (vehicle A3 7 7 Car (grid 530200 180000) Available 40000 None 0 0) ∷ [];
  turns = [];
  assignments = [];
  points = [];
  loans = [];
  offers = [];
  reports = (report A2 1 button.Hospital 0 (grid 530300 180400) 1222 7 Wrong OffDuty false) ∷ [];
}

propose_0_4 : Steps (at 1474 (Desk 1) (ask.Propose 4)) before_propose_0_4
    (Ok (answer.Proposals ([]))) before_propose_0_4
unfolding machine
propose_0_4 = (refl, refl)

abbrev before_propose_0_5 : Room
before_propose_0_5 = record {
  plan = overlapping_divisions;
  divisions = (division 1 2) ∷ (division 7 0) ∷ [];
  incidents =
      (incident 1 1 (grid 530100 180100) 2 (needs 1 1 0) 1422 None Active)
      ∷ (incident 1 2 (grid 560200 180000) 2 (needs 1 0 0) 1602 None Active) ∷ [];
  calls =
      (call 1 4 1 2 2 false (grid 560200 180000) 2 (needs 1 0 0) [] 1602)
      ∷ (call 2 3 1 1 1 false (grid 530100 180100) 2 (needs 1 1 0) [] 1422) ∷ [];
  vehicles =
      (vehicle A1 1 1 Ambulance (grid 530300 180400) OffDuty 0 None 0 0)
      ∷ (vehicle A2 1 1 Ambulance (grid 560100 180000) OffDuty 5000 None 0 1) ∷ [];
  turns = [];
  assignments = [];
  points = [];
  loans = [];
  offers = [];
  reports = (report A2 1 button.Position 0 (grid 530100 180000) 1121 1 Wrong OffDuty false) ∷ [];
}

propose_0_5 : Steps (at 4999 (Desk 1) (ask.Propose 2)) before_propose_0_5
    (Ok (answer.Proposals ([]))) before_propose_0_5
unfolding machine
propose_0_5 = (refl, refl)

abbrev before_propose_0_6 : Room
before_propose_0_6 = record {
  plan = two_divisions;
  divisions = (division 1 1) ∷ (division 2 0) ∷ [];
  incidents = (incident 1 1 (grid 530100 180000) 1 (needs 2 1 1) 1362 None Active) ∷ [];
  calls =
      (call 1 1 1 1 1 false (grid 530100 180000) 3 (needs 2 1 1) [] 1362)
      ∷ (call 2 5 1 1 1 true (grid 530100 180000) 1 (needs 1 0 0) [] 2150) ∷ [];
  vehicles =
      (vehicle A1 1 1 Ambulance (grid 560200 180000) OffDuty 5000 None 2147483647 0)
      ∷ (vehicle A2 1 1 Ambulance (grid 531000 180000) OffDuty 0 None 0 2) ∷ [];
  turns = [];
  assignments = [];
  points = [];
  loans = [];
  offers = [];
  reports =
      (report A2 1 button.Home 0 (grid 531000 180000) 1783 1 Wrong OffDuty false)
      ∷ (report A2 2 button.Return 0 (grid 530201 180000) 1844 1 Wrong OffDuty false) ∷ [];
}

propose_0_6 : Steps (at 2190 (Desk 1) (ask.Propose 1)) before_propose_0_6
    (Ok (answer.Proposals ([]))) before_propose_0_6
unfolding machine
propose_0_6 = (refl, refl)

abbrev before_propose_0_7 : Room
before_propose_0_7 = record {
  plan = two_divisions;
  divisions = (division 1 4) ∷ (division 2 0) ∷ [];
  incidents = (incident 1 4 (grid 531000 180000) 1 (needs 2 0 0) 1120 None Active) ∷ [];
  calls = (call 2 5 1 4 4 false (grid 531000 180000) 1 (needs 1 0 0) [] 1120) ∷ [];
  vehicles =
      (vehicle A1 1 1 Ambulance (grid 530100 180100) Offered 5000 None 0 0)
      ∷ (vehicle A2 2 2 Car (grid 530000 180000) Available 40000 None 0 0)
      ∷ (vehicle A3 1 1 Ambulance (grid 530300 180400) OffDuty 5000 None 0 0)
      ∷ (vehicle B1 2 2 Car (grid 530100 180000) Offered 5121 None 0 0) ∷ [];
  turns = [];
  assignments = [];
  points = [];
  loans = [];
  offers = (offer A1 1 2 1722 2722) ∷ (offer B1 2 1 1241 1341) ∷ [];
  reports = [];
}

propose_0_7 : Steps (at 1969 (Desk 1) (ask.Propose 4)) before_propose_0_7
    (Ok (answer.Proposals ([]))) before_propose_0_7
unfolding machine
propose_0_7 = (refl, refl)

abbrev before_propose_0_8 : Room
before_propose_0_8 = record {
  plan = two_divisions;
  divisions = (division 1 2147483647) ∷ (division 2 2147483647) ∷ [];
  incidents = (incident 2 2147483647 (grid 560000 180000) 1 (needs 1 0 0) 1240 (Some 1426) Active) ∷ [];
  calls = (call 2 2 2 2147483647 2147483647 false (grid 560000 180000) 1 (needs 1 0 0) [] 1240) ∷ [];
  vehicles =
      (vehicle A1 2 2 Support (grid 530120 180160) Available 5000 None 0 1)
      ∷ (vehicle A2 2 2 Ambulance (grid 560200 180000) Available 40000 None 0 1)
      ∷ (vehicle A3 2 2 Ambulance (grid 530100 180100) Returning 5000 None 1 5)
      ∷ (vehicle B1 2 2 Ambulance (grid 531000 180000) Available 40000 None 0 1) ∷ [];
  turns = (turn A3 1 2 2147483647 Ambulance 1426 None None (Some 1762) None (Some 2439) false) ∷ [];
  assignments = [];
  points = (point 1 1 (grid 531000 180000) 1) ∷ [];
  loans = [];
  offers = [];
  reports =
      (report A1 1 button.Leave 0 (grid 531000 180000) 2981 2 Wrong Available false)
      ∷ (report A2 1 button.Scene 0 (grid 530000 180000) 1727 2 Wrong Available false)
      ∷ (report A3 1 button.Scene 0 (grid 530201 180000) 1120 2 Wrong Available true)
      ∷ (report A3 2 button.Leave 1 (grid 531000 180000) 1762 2 Skipped Leaving false)
      ∷ (report A3 3 button.Position 1 (grid 530201 180000) 1808 2 Normal Leaving false)
      ∷ (report A3 5 button.Return 1 (grid 530100 180100) 2439 2 Skipped Returning false)
      ∷ (report B1 1 button.Leave 0 (grid 530100 180000) 2500 2 Wrong Available false) ∷ [];
}

propose_0_8 : Steps (at 5199 (Desk 2) (ask.Propose 2147483647)) before_propose_0_8
    (Ok (answer.Proposals ([]))) before_propose_0_8
unfolding machine
propose_0_8 = (refl, refl)

abbrev before_propose_1 : Room
before_propose_1 = record {
  plan = two_divisions;
  divisions = (division 1 1) ∷ (division 2 0) ∷ [];
  incidents = (incident 1 1 (grid 530100 180000) 2 (needs 2 1 1) 1306 None Active) ∷ [];
  calls = (call 1 2 1 1 1 false (grid 530100 180000) 2 (needs 2 1 1) (codes "x") 1306) ∷ [];
  vehicles =
      (vehicle A1 1 1 Car (grid 531000 180000) Available 2000 None 0 0)
      ∷ (vehicle A2 1 1 Support (grid 530100 180100) OffDuty 5000 None 0 1) ∷ [];
  turns = [];
  assignments = [];
  points = (point 1 1 (grid 530000 180000) 1) ∷ [];
  loans = [];
  offers = [];
  reports = (report A2 1 button.Scene 0 (grid 530000 180000) 1301 1 Wrong Available false) ∷ [];
}

propose_1 : Steps (at 1978 (Desk 1) (ask.Propose 1)) before_propose_1
    (Ok (answer.Proposals ((proposal false 900 Car A1) ∷ []))) before_propose_1
unfolding machine
propose_1 = (refl, refl)

abbrev before_propose_1_2 : Room
before_propose_1_2 = record {
  plan = two_divisions;
  divisions = (division 1 1) ∷ (division 2 0) ∷ [];
  incidents = (incident 1 1 (grid 530100 180100) 1 (needs 1 1 0) 980 None Active) ∷ [];
  calls =
      (call 1 6 1 1 1 false (grid 530100 180100) 2 (needs 1 0 0) (codes "x") 980)
      ∷ (call 2 2 1 1 1 true (grid 530100 180000) 1 (needs 1 1 0) [] 1821) ∷ [];
  vehicles =
      (vehicle A1 1 1 Ambulance (grid 530300 180400) Available 40000 None 0 1)
      ∷ (vehicle A2 1 1 Ambulance (grid 530300 180400) Available 40000 None 0 1)
      ∷ (vehicle A3 2 2 Support (grid 530300 180400) Available 2000 None 0 0) ∷ [];
  turns = [];
  assignments = [];
  points = [];
  loans = [];
  offers = [];
  reports =
      (report A1 1 button.Scene 0 (grid 531000 180000) 1342 1 Wrong Available false)
      ∷ (report A2 1 button.Leave 0 (grid 530200 180000) 1041 1 Wrong Available false) ∷ [];
}

propose_1_2 : Steps (at 1648 (Desk 1) (ask.Propose 1)) before_propose_1_2
    (Ok (answer.Proposals ((proposal false 360 Ambulance A1) ∷ []))) before_propose_1_2
unfolding machine
propose_1_2 = (refl, refl)

abbrev before_propose_1_3 : Room
before_propose_1_3 = record {
  plan = two_divisions;
  divisions = (division 1 1) ∷ (division 2 3) ∷ [];
  incidents = (incident 1 1 (grid 530300 180400) 2 (needs 1 0 0) 1242 None Active) ∷ [];
  calls = (call 2 6 1 1 1 false (grid 530300 180400) 2 (needs 1 0 0) (codes "x") 1242) ∷ [];
  vehicles =
      (vehicle A1 2 2 Car (grid 530000 180000) OffDuty 0 None 0 0)
      ∷ (vehicle A2 2 2 Ambulance (grid 530100 180100) OffDuty 0 None 0 1)
      ∷ (vehicle A3 2 2 Ambulance (grid 530100 180100) OffDuty 0 None 0 0)
      ∷ (vehicle B1 1 1 Ambulance (grid 530201 180000) OffDuty 2000 None 0 0)
      ∷ (vehicle B2 1 1 Ambulance (grid 560100 180000) Available 5000 None 0 0) ∷ [];
  turns = [];
  assignments = [];
  points = [];
  loans = [];
  offers = [];
  reports = (report A2 1 button.Home 0 (grid 530100 180000) 1122 2 Wrong OffDuty false) ∷ [];
}

propose_1_3 : Steps (at 1362 (Desk 1) (ask.Propose 1)) before_propose_1_3
    (Ok (answer.Proposals ((proposal false 29802 Ambulance B2) ∷ []))) before_propose_1_3
unfolding machine
propose_1_3 = (refl, refl)

abbrev before_propose_1_4 : Room
before_propose_1_4 = record {
  plan = overlapping_divisions;
  divisions = (division 1 1) ∷ (division 7 0) ∷ [];
  incidents = (incident 1 1 (grid 530100 180000) 3 (needs 1 0 0) 982 None Active) ∷ [];
  calls = (call 1 6 1 1 1 false (grid 530100 180000) 3 (needs 1 0 0) [] 982) ∷ [];
  vehicles =
      (vehicle A1 7 7 Ambulance (grid 530000 180000) Available 5000 None 0 0)
      ∷ (vehicle A2 1 1 Support (grid 530300 180400) Available 2000 None 0 0)
      ∷ (vehicle A3 7 7 Ambulance (grid 531000 180000) OffDuty 0 None 0 0)
      ∷ (vehicle B1 1 1 Ambulance (grid 530201 180000) Available 40000 None 0 0)
      ∷ (vehicle B2 1 1 Ambulance (grid 530201 180000) Available 5523 None 0 0) ∷ [];
  turns = [];
  assignments = [];
  points = (point 1 2 (grid 530201 180000) 2) ∷ [];
  loans = [];
  offers = [];
  reports = [];
}

propose_1_4 : Steps (at 1854 (Desk 1) (ask.Propose 1)) before_propose_1_4
    (Ok (answer.Proposals ((proposal false 101 Ambulance B1) ∷ []))) before_propose_1_4
unfolding machine
propose_1_4 = (refl, refl)

abbrev before_propose_1_5 : Room
before_propose_1_5 = record {
  plan = overlapping_divisions;
  divisions = (division 1 1) ∷ (division 7 0) ∷ [];
  incidents = (incident 1 1 (grid 530100 180000) 2 (needs 1 0 0) 2182 None Active) ∷ [];
  calls = (call 1 1 1 1 1 false (grid 530100 180000) 2 (needs 1 0 0) [] 2182) ∷ [];
  vehicles =
      (vehicle A1 1 1 Car (grid 530100 180000) Available 40000 (Some 1) 0 0)
      ∷ (vehicle A2 7 7 Support (grid 530120 180160) Available 5000 None 0 1)
      ∷ (vehicle A3 1 1 Ambulance (grid 530201 180000) Available 40000 (Some 2) 0 1) ∷ [];
  turns = [];
  assignments = [];
  points =
      (point 1 1 (grid 530100 180000) 0) ∷ (point 1 2 (grid 530201 180000) 1) ∷ (point 7 1 (grid 530200 180000) 0)
      ∷ [];
  loans = [];
  offers = [];
  reports =
      (report A2 1 button.Return 0 (grid 530120 180160) 1912 7 Wrong Available false)
      ∷ (report A3 1 button.Return 0 (grid 530100 180000) 1301 1 Wrong Available false) ∷ [];
}

propose_1_5 : Steps (at 2197 (Desk 1) (ask.Propose 1)) before_propose_1_5
    (Ok (answer.Proposals ((proposal true 101 Ambulance A3) ∷ []))) before_propose_1_5
unfolding machine
propose_1_5 = (refl, refl)

abbrev before_propose_1_6 : Room
before_propose_1_6 = record {
  plan = two_divisions;
  divisions = (division 1 1) ∷ (division 2 0) ∷ [];
  incidents = (incident 1 1 (grid 530201 180000) 2 (needs 1 1 0) 1773 None Active) ∷ [];
  calls =
      (call 1 6 1 1 1 false (grid 530201 180000) 3 (needs 1 0 0) [] 1773)
      ∷ (call 2 3 1 1 1 true (grid 530100 180100) 2 (needs 0 1 0) [] 1954) ∷ [];
  vehicles =
      (vehicle A1 2 2 Ambulance (grid 530120 180160) Available 40000 None 0 0)
      ∷ (vehicle A2 2 2 Car (grid 531000 180000) Available 1793 None 0 0)
      ∷ (vehicle A3 1 1 Ambulance (grid 530100 180000) Available 40000 (Some 1) 0 3) ∷ [];
  turns = [];
  assignments = [];
  points = (point 1 1 (grid 530300 180400) 1) ∷ (point 1 2 (grid 531000 180000) 2) ∷ [];
  loans = [];
  offers = [];
  reports =
      (report A3 2 button.Scene 0 (grid 530201 180000) 1772 1 Wrong Available false)
      ∷ (report A3 3 button.Hospital 0 (grid 530300 180400) 2782 1 Wrong Available false) ∷ [];
}

propose_1_6 : Steps (at 2783 (Desk 1) (ask.Propose 1)) before_propose_1_6
    (Ok (answer.Proposals ((proposal true 101 Ambulance A3) ∷ []))) before_propose_1_6
unfolding machine
propose_1_6 = (refl, refl)

abbrev before_propose_1_7 : Room
before_propose_1_7 = record {
  plan = overlapping_divisions;
  divisions = (division 1 1) ∷ (division 7 0) ∷ [];
  incidents = (incident 1 1 (grid 530100 180000) 2 (needs 1 0 0) 2182 None Active) ∷ [];
  calls = (call 1 1 1 1 1 false (grid 530100 180000) 2 (needs 1 0 0) [] 2182) ∷ [];
  vehicles =
      (vehicle A1 1 1 Car (grid 530100 180000) Available 40000 (Some 1) 0 0)
      ∷ (vehicle A2 7 7 Support (grid 530120 180160) Available 5000 None 0 1)
      ∷ (vehicle A3 1 1 Ambulance (grid 530201 180000) Available 40000 (Some 2) 0 1) ∷ [];
  turns = [];
  assignments = [];
  points =
      (point 1 1 (grid 530100 180000) 0) ∷ (point 1 2 (grid 530201 180000) 1) ∷ (point 7 1 (grid 530200 180000) 0)
      ∷ [];
  loans = [];
  offers = [];
  reports =
      (report A2 1 button.Return 0 (grid 530120 180160) 1912 7 Wrong Available false)
      ∷ (report A3 1 button.Return 0 (grid 530100 180000) 1301 1 Wrong Available false) ∷ [];
}

propose_1_7 : Steps (at 4999 (Desk 1) (ask.Propose 1)) before_propose_1_7
    (Ok (answer.Proposals ((proposal true 101 Ambulance A3) ∷ []))) before_propose_1_7
unfolding machine
propose_1_7 = (refl, refl)

abbrev before_propose_1_8 : Room
before_propose_1_8 = record {
  plan = two_divisions;
  divisions = (division 1 4) ∷ (division 2 1) ∷ [];
  incidents =
      (incident 1 4 (grid 530300 180400) 2 (needs 2 1 1) 1060 None Active)
      ∷ (incident 2 1 (grid 560100 180000) 2 (needs 2 0 0) 1241 None Active) ∷ [];
  calls =
      (call 1 2 1 4 4 false (grid 530300 180400) 2 (needs 1 1 0) [] 1060)
      ∷ (call 2 4 2 1 1 false (grid 560100 180000) 2 (needs 2 0 0) [] 1241) ∷ [];
  vehicles =
      (vehicle A1 1 1 Car (grid 530200 180000) Available 2000 None 0 1)
      ∷ (vehicle A2 2 2 Support (grid 530000 180000) Available 2000 None 0 0)
      ∷ (vehicle A3 1 1 Support (grid 531000 180000) Available 5000 None 0 0)
      ∷ (vehicle B1 2 2 Support (grid 530100 180100) Available 5710 None 0 1) ∷ [];
  turns = [];
  assignments = [];
  points = (point 1 1 (grid 530200 180000) 0) ∷ (point 2 1 (grid 530100 180100) 0) ∷ [];
  loans = [];
  offers = [];
  reports =
      (report A1 1 button.Return 0 (grid 530000 180000) 1246 1 Wrong Available false)
      ∷ (report B1 1 button.Mobile 0 (grid 530000 180000) 1529 2 Wrong OffDuty false) ∷ [];
}

propose_1_8 : Steps (at 2000 (Desk 1) (ask.Propose 4)) before_propose_1_8
    (Ok (answer.Proposals ((proposal false 806 Support A3) ∷ []))) before_propose_1_8
unfolding machine
propose_1_8 = (refl, refl)

abbrev before_propose_1_9 : Room
before_propose_1_9 = record {
  plan = overlapping_divisions;
  divisions = (division 1 2) ∷ (division 7 0) ∷ [];
  incidents =
      (incident 1 1 (grid 531000 180000) 1 (needs 2 0 0) 1120 None Active)
      ∷ (incident 1 2 (grid 530300 180400) 2 (needs 1 1 0) 2481 None Active) ∷ [];
  calls =
      (call 1 1 1 2 2 false (grid 530300 180400) 2 (needs 1 1 0) [] 2481)
      ∷ (call 1 3 1 1 1 false (grid 531000 180000) 1 (needs 2 0 0) (codes "x") 1120) ∷ [];
  vehicles =
      (vehicle A1 1 1 Support (grid 560200 180000) OffDuty 0 None 0 2)
      ∷ (vehicle A2 1 1 Car (grid 530100 180100) Available 40000 (Some 2) 0 3)
      ∷ (vehicle A3 7 7 Ambulance (grid 530100 180000) OffDuty 0 None 0 1) ∷ [];
  turns = [];
  assignments = [];
  points = (point 1 2 (grid 531000 180000) 2) ∷ [];
  loans = [];
  offers = [];
  reports =
      (report A1 1 button.Position 0 (grid 530201 180000) 1758 1 Wrong OffDuty false)
      ∷ (report A1 2 button.Home 0 (grid 530100 180100) 1940 1 Wrong OffDuty false)
      ∷ (report A2 1 button.Hospital 0 (grid 530201 180000) 1759 1 Wrong Available false)
      ∷ (report A2 2 button.Leave 0 (grid 531000 180000) 1920 1 Wrong Available false)
      ∷ (report A2 3 button.Scene 0 (grid 530120 180160) 2501 1 Wrong Available false)
      ∷ (report A3 1 button.Home 0 (grid 530201 180000) 2577 7 Wrong OffDuty false) ∷ [];
}

propose_1_9 : Steps (at 3359 (Desk 1) (ask.Propose 2)) before_propose_1_9
    (Ok (answer.Proposals ((proposal true 360 Car A2) ∷ []))) before_propose_1_9
unfolding machine
propose_1_9 = (refl, refl)

abbrev before_propose_1_10 : Room
before_propose_1_10 = record {
  plan = overlapping_divisions;
  divisions = (division 1 4) ∷ (division 7 0) ∷ [];
  incidents =
      (incident 1 1 (grid 560000 180000) 2 (needs 1 0 0) 1021 None Active)
      ∷ (incident 1 2 (grid 560100 180000) 2 (needs 0 1 0) 2076 None Active)
      ∷ (incident 1 3 (grid 530201 180000) 3 (needs 0 1 1) 1861 None Active)
      ∷ (incident 1 4 (grid 530120 180160) 1 (needs 1 1 0) 5779 None Active) ∷ [];
  calls =
      (call 1 5 1 3 3 false (grid 530201 180000) 3 (needs 0 1 0) [] 3940)
      ∷ (call 1 6 1 4 4 true (grid 530201 180000) 2 (needs 1 0 0) [] 6453)
      ∷ (call 2 1 1 3 3 true (grid 530120 180160) 3 (needs 0 0 1) [] 1861)
      ∷ (call 2 2 1 2 2 false (grid 560100 180000) 2 (needs 0 1 0) (codes "x") 2076)
      ∷ (call 2 3 1 4 4 false (grid 530120 180160) 1 (needs 0 1 0) [] 5779)
      ∷ (call 2 6 1 1 1 false (grid 560000 180000) 2 (needs 1 0 0) [] 1021) ∷ [];
  vehicles =
      (vehicle A1 1 1 Support (grid 530100 180000) OffDuty 40000 None 0 1)
      ∷ (vehicle A2 1 1 Support (grid 530100 180100) Available 40000 (Some 2) 0 2)
      ∷ (vehicle A3 7 7 Support (grid 530300 180400) Available 5000 None 0 3) ∷ [];
  turns = [];
  assignments = [];
  points =
      (point 1 1 (grid 531000 180000) 1) ∷ (point 1 2 (grid 530100 180000) 2) ∷ (point 7 2 (grid 530300 180400) 0)
      ∷ [];
  loans = [];
  offers = [];
  reports =
      (report A1 1 button.Scene 0 (grid 530120 180160) 4460 1 Wrong Available false)
      ∷ (report A2 1 button.Home 0 (grid 530300 180400) 980 1 Normal Available false)
      ∷ (report A2 2 button.Home 0 (grid 530100 180100) 4332 7 Normal Available false)
      ∷ (report A3 1 button.Scene 0 (grid 530300 180400) 1202 7 Wrong Available false)
      ∷ (report A3 2 button.Return 0 (grid 530120 180160) 1683 7 Wrong Available false)
      ∷ (report A3 3 button.Hospital 0 (grid 530100 180100) 2196 7 Wrong Available false) ∷ [];
}

propose_1_10 : Steps (at 7055 (Desk 1) (ask.Propose 3)) before_propose_1_10
    (Ok (answer.Proposals ((proposal true 142 Support A2) ∷ []))) before_propose_1_10
unfolding machine
propose_1_10 = (refl, refl)

abbrev before_propose_2 : Room
before_propose_2 = record {
  plan = two_divisions;
  divisions = (division 1 1) ∷ (division 2 0) ∷ [];
  incidents = (incident 1 1 (grid 531000 180000) 2 (needs 2 1 1) 1301 None Active) ∷ [];
  calls = (call 1 4 1 1 1 false (grid 531000 180000) 2 (needs 2 1 1) [] 1301) ∷ [];
  vehicles =
      (vehicle A1 1 1 Car (grid 530201 180000) Available 5845 None 0 0)
      ∷ (vehicle A2 1 1 Ambulance (grid 530201 180000) OffDuty 0 None 0 1)
      ∷ (vehicle A3 1 1 Ambulance (grid 531000 180000) Available 2000 None 0 0)
      ∷ (vehicle B1 1 1 Support (grid 530000 180000) Available 40000 None 0 0) ∷ [];
  turns = [];
  assignments = [];
  points = [];
  loans = [];
  offers = [];
  reports = (report A2 1 button.Home 0 (grid 530201 180000) 1784 1 Wrong OffDuty false) ∷ [];
}

propose_2 : Steps (at 2146 (Desk 1) (ask.Propose 1)) before_propose_2
    (Ok (answer.Proposals ((proposal false 799 Car A1) ∷ (proposal false 1000 Support B1) ∷ [])))
    before_propose_2
unfolding machine
propose_2 = (refl, refl)

abbrev before_propose_2_2 : Room
before_propose_2_2 = record {
  plan = overlapping_divisions;
  divisions = (division 1 1) ∷ (division 7 0) ∷ [];
  incidents = (incident 1 1 (grid 530300 180400) 1 (needs 1 1 0) 1542 None Active) ∷ [];
  calls = (call 1 1 1 1 1 false (grid 530300 180400) 1 (needs 1 1 0) (codes "x") 1542) ∷ [];
  vehicles =
      (vehicle A1 1 1 Ambulance (grid 530200 180000) Available 2000 None 0 0)
      ∷ (vehicle A2 7 7 Ambulance (grid 531000 180000) OffDuty 0 None 0 2)
      ∷ (vehicle A3 1 1 Ambulance (grid 530201 180000) Available 40000 None 0 0)
      ∷ (vehicle B1 7 7 Car (grid 530120 180160) OffDuty 0 None 0 0)
      ∷ (vehicle B2 1 1 Car (grid 530100 180100) Available 2000 None 0 0) ∷ [];
  turns = [];
  assignments = [];
  points = [];
  loans = [];
  offers = [];
  reports = (report A2 2 button.Home 0 (grid 530300 180400) 1061 7 Wrong OffDuty false) ∷ [];
}

propose_2_2 : Steps (at 1753 (Desk 1) (ask.Propose 1)) before_propose_2_2
    (Ok (answer.Proposals ((proposal false 412 Ambulance A1) ∷ (proposal false 360 Car B2) ∷ [])))
    before_propose_2_2
unfolding machine
propose_2_2 = (refl, refl)

abbrev before_propose_2_3 : Room
before_propose_2_3 = record {
  plan = two_divisions;
  divisions = (division 1 1) ∷ (division 2 0) ∷ [];
  incidents = (incident 1 1 (grid 530000 180000) 2 (needs 2 0 1) 2130 None Active) ∷ [];
  calls =
      (call 2 1 1 1 1 true (grid 530200 180000) 3 (needs 0 0 1) [] 2311)
      ∷ (call 2 6 1 1 1 false (grid 530000 180000) 2 (needs 2 0 0) [] 2130) ∷ [];
  vehicles =
      (vehicle A1 1 1 Ambulance (grid 531000 180000) Available 5182 (Some 2) 0 0)
      ∷ (vehicle A2 2 1 Ambulance (grid 560200 180000) Available 5000 None 0 0)
      ∷ (vehicle A3 1 1 Support (grid 530100 180100) OffDuty 2000 None 0 1) ∷ [];
  turns = [];
  assignments = [];
  points = (point 1 2 (grid 530120 180160) 1) ∷ [];
  loans = (loan A2 2 1 5001 2049 false) ∷ [];
  offers = [];
  reports = (report A3 1 button.Mobile 0 (grid 531000 180000) 1949 1 Wrong OffDuty true) ∷ [];
}

propose_2_3 : Steps (at 2616 (Desk 1) (ask.Propose 1)) before_propose_2_3
    (Ok (answer.Proposals ((proposal false 30200 Ambulance A2) ∷ (proposal true 1000 Ambulance A1)
    ∷ []))) before_propose_2_3
unfolding machine
propose_2_3 = (refl, refl)

abbrev before_propose_2_4 : Room
before_propose_2_4 = record {
  plan = two_divisions;
  divisions = (division 1 5) ∷ (division 2 0) ∷ [];
  incidents =
      (incident 1 4 (grid 530120 180160) 3 (needs 2 1 1) 1030 None Active)
      ∷ (incident 1 5 (grid 530300 180400) 3 (needs 2 1 1) 1030 None Active) ∷ [];
  calls =
      (call 1 2 1 4 4 false (grid 530120 180160) 3 (needs 2 1 1) (codes "x") 1030)
      ∷ (call 1 5 1 5 5 false (grid 530300 180400) 3 (needs 2 1 1) [] 1030) ∷ [];
  vehicles =
      (vehicle A1 1 1 Support (grid 530120 180160) OffDuty 0 None 0 2)
      ∷ (vehicle A2 1 1 Ambulance (grid 530000 180000) Available 2000 None 0 0)
      ∷ (vehicle A3 1 1 Support (grid 530120 180160) Available 2000 None 0 0) ∷ [];
  turns = [];
  assignments = [];
  points = (point 2 1 (grid 530100 180100) 2) ∷ [];
  loans = [];
  offers = [];
  reports = (report A1 2 button.Home 0 (grid 530000 180000) 1492 1 Wrong OffDuty false) ∷ [];
}

propose_2_4 : Steps (at 1612 (Desk 1) (ask.Propose 4)) before_propose_2_4
    (Ok (answer.Proposals ((proposal false 200 Ambulance A2) ∷ (proposal false 0 Support A3)
    ∷ []))) before_propose_2_4
unfolding machine
propose_2_4 = (refl, refl)

abbrev before_propose_2_5 : Room
before_propose_2_5 = record {
  plan = two_divisions;
  divisions = (division 1 2) ∷ (division 2 0) ∷ [];
  incidents =
      (incident 1 1 (grid 530300 180400) 1 (needs 0 0 1) 1472 None Active)
      ∷ (incident 1 2 (grid 530100 180100) 3 (needs 2 0 0) 1773 None Active) ∷ [];
  calls =
      (call 2 1 1 1 1 false (grid 530300 180400) 1 (needs 0 0 1) (codes "x") 1472)
      ∷ (call 2 5 1 2 2 false (grid 530100 180100) 3 (needs 2 0 0) [] 1773) ∷ [];
  vehicles =
      (vehicle A1 1 1 Ambulance (grid 530200 180000) Available 5000 None 0 0)
      ∷ (vehicle A2 1 1 Car (grid 530120 180160) Available 2000 None 0 1)
      ∷ (vehicle A3 2 2 Ambulance (grid 530200 180000) OffDuty 0 None 0 1)
      ∷ (vehicle B1 1 1 Ambulance (grid 530000 180000) Available 2000 None 0 0)
      ∷ (vehicle B2 2 2 Ambulance (grid 530100 180100) OffDuty 0 None 0 0) ∷ [];
  turns = [];
  assignments = [];
  points = [];
  loans = [];
  offers = [];
  reports =
      (report A2 1 button.Home 0 (grid 530120 180160) 1005 1 Normal Available false)
      ∷ (report A3 1 button.Home 0 (grid 530100 180000) 1487 2 Wrong OffDuty false) ∷ [];
}

propose_2_5 : Steps (at 1774 (Desk 1) (ask.Propose 2)) before_propose_2_5
    (Ok (answer.Proposals ((proposal false 141 Ambulance A1) ∷ (proposal false 141 Ambulance B1)
    ∷ []))) before_propose_2_5
unfolding machine
propose_2_5 = (refl, refl)

abbrev before_propose_3 : Room
before_propose_3 = record {
  plan = two_divisions;
  divisions = (division 1 1) ∷ (division 2 0) ∷ [];
  incidents = (incident 1 1 (grid 531000 180000) 2 (needs 2 1 1) 1061 None Active) ∷ [];
  calls = (call 2 5 1 1 1 false (grid 531000 180000) 2 (needs 2 1 1) [] 1061) ∷ [];
  vehicles =
      (vehicle A1 1 1 Ambulance (grid 530300 180400) Available 2000 None 0 0)
      ∷ (vehicle A2 1 1 Ambulance (grid 530201 180000) Available 40000 None 0 0)
      ∷ (vehicle A3 1 1 Ambulance (grid 530120 180160) Available 2000 None 0 0)
      ∷ (vehicle B1 1 1 Car (grid 531000 180000) Available 2000 None 0 0)
      ∷ (vehicle B2 2 2 Ambulance (grid 530100 180100) OffDuty 0 None 0 0) ∷ [];
  turns = [];
  assignments = [];
  points = [];
  loans = [];
  offers = [];
  reports = [];
}

propose_3 : Steps (at 1122 (Desk 1) (ask.Propose 1)) before_propose_3
    (Ok (answer.Proposals ((proposal false 799 Ambulance A2) ∷ (proposal false 806 Ambulance A1)
    ∷ (proposal false 0 Car B1) ∷ []))) before_propose_3
unfolding machine
propose_3 = (refl, refl)

abbrev before_propose_3_2 : Room
before_propose_3_2 = record {
  plan = two_divisions;
  divisions = (division 1 2) ∷ (division 2 0) ∷ [];
  incidents =
      (incident 1 1 (grid 530000 180000) 2 (needs 2 1 1) 1252 None Active)
      ∷ (incident 1 2 (grid 530120 180160) 3 (needs 1 0 0) 2397 None Active) ∷ [];
  calls =
      (call 1 4 1 1 1 true (grid 530100 180100) 2 (needs 1 0 0) (codes "x") 1432)
      ∷ (call 1 6 1 1 1 true (grid 530100 180000) 2 (needs 2 0 0) [] 1974)
      ∷ (call 2 4 1 1 1 false (grid 530000 180000) 3 (needs 2 1 1) [] 1252)
      ∷ (call 2 5 1 2 2 false (grid 530120 180160) 3 (needs 1 0 0) [] 2397) ∷ [];
  vehicles =
      (vehicle A1 1 1 Ambulance (grid 560000 180000) Available 2000 None 0 0)
      ∷ (vehicle A2 1 1 Car (grid 530100 180100) Available 5000 (Some 1) 0 0)
      ∷ (vehicle A3 1 1 Support (grid 530200 180000) Available 5553 None 0 1)
      ∷ (vehicle B1 2 2 Car (grid 530000 180000) Available 5000 None 0 0) ∷ [];
  turns = [];
  assignments = [];
  points = (point 1 1 (grid 530300 180400) 2) ∷ [];
  loans = [];
  offers = [];
  reports = (report A3 1 button.Scene 0 (grid 531000 180000) 1272 1 Wrong OffDuty false) ∷ [];
}

propose_3_2 : Steps (at 1999 (Desk 1) (ask.Propose 1)) before_propose_3_2
    (Ok (answer.Proposals ((proposal false 30000 Ambulance A1) ∷ (proposal true 141 Car A2)
    ∷ (proposal false 200 Support A3) ∷ []))) before_propose_3_2
unfolding machine
propose_3_2 = (refl, refl)

abbrev before_propose_3_3 : Room
before_propose_3_3 = record {
  plan = two_divisions;
  divisions = (division 1 1) ∷ (division 2 1) ∷ [];
  incidents =
      (incident 1 1 (grid 530100 180100) 2 (needs 2 1 1) 1231 None Active)
      ∷ (incident 2 1 (grid 560100 180000) 3 (needs 0 0 1) 980 None Active) ∷ [];
  calls =
      (call 1 2 1 1 1 true (grid 530100 180100) 2 (needs 1 0 0) [] 1231)
      ∷ (call 1 3 2 1 1 false (grid 560100 180000) 3 (needs 0 0 1) [] 980)
      ∷ (call 2 6 1 1 1 false (grid 530100 180100) 2 (needs 2 1 1) [] 1881) ∷ [];
  vehicles =
      (vehicle A1 1 1 Support (grid 530000 180000) Available 40000 None 0 0)
      ∷ (vehicle A2 1 1 Ambulance (grid 560200 180000) Available 40000 None 0 0)
      ∷ (vehicle A3 1 1 Ambulance (grid 530100 180100) Available 40000 None 0 1)
      ∷ (vehicle B1 1 1 Ambulance (grid 530200 180000) Available 5000 None 0 1)
      ∷ (vehicle B2 1 1 Ambulance (grid 530201 180000) Available 2000 None 0 0) ∷ [];
  turns = [];
  assignments = [];
  points = [];
  loans = [];
  offers = [];
  reports =
      (report A3 1 button.Home 0 (grid 530100 180100) 1160 1 Normal Available false)
      ∷ (report B1 1 button.Hospital 0 (grid 530201 180000) 1010 1 Wrong Available false) ∷ [];
}

propose_3_3 : Steps (at 2000 (Desk 1) (ask.Propose 1)) before_propose_3_3
    (Ok (answer.Proposals ((proposal false 0 Ambulance A3) ∷ (proposal false 141 Ambulance B1)
    ∷ (proposal false 141 Support A1) ∷ []))) before_propose_3_3
unfolding machine
propose_3_3 = (refl, refl)

abbrev before_propose_incident_not_open : Room
before_propose_incident_not_open = record {
  plan = two_divisions;
  divisions = (division 1 4) ∷ (division 2 1) ∷ [];
  incidents =
      (incident 1 4 (grid 531000 180000) 3 (needs 2 0 0) 5083 None Active)
      ∷ (incident 2 1 (grid 560100 180000) 3 (needs 1 0 0) 1482 None Closed) ∷ [];
  calls =
      (call 1 1 1 4 4 false (grid 531000 180000) 3 (needs 2 0 0) [] 5083)
      ∷ (call 2 6 2 1 1 false (grid 560100 180000) 3 (needs 1 0 0) [] 1482) ∷ [];
  vehicles =
      (vehicle A1 2 2 Ambulance (grid 560100 180000) OffDuty 0 None 0 0)
      ∷ (vehicle A2 2 2 Support (grid 531000 180000) OffDuty 0 None 0 2)
      ∷ (vehicle A3 2 2 Ambulance (grid 530120 180160) OffDuty 1493 None 0 3)
      ∷ (vehicle B1 1 1 Car (grid 530100 180100) Available 1801 None 0 3) ∷ [];
  turns = [];
  assignments = [];
  points = (point 1 2 (grid 530201 180000) 2) ∷ [];
  loans = [];
  offers = [];
  reports =
      (report A2 1 button.Leave 0 (grid 530201 180000) 1953 2 Wrong OffDuty false)
      ∷ (report A2 2 button.Leave 0 (grid 530100 180100) 3939 2 Wrong OffDuty false)
      ∷ (report A3 2 button.Leave 0 (grid 530000 180000) 4425 2 Wrong OffDuty false)
      ∷ (report A3 3 button.Position 0 (grid 530300 180400) 4430 2 Wrong OffDuty false)
      ∷ (report B1 2 button.Mobile 0 (grid 530100 180000) 1462 1 Wrong Available false)
      ∷ (report B1 3 button.Scene 0 (grid 530300 180400) 2876 1 Wrong Available false) ∷ [];
}

propose_incident_not_open : Steps
    (at 1494 (Desk 2) (ask.Propose 1)) before_propose_incident_not_open
    (Err refusal.IncidentNotOpen) before_propose_incident_not_open
unfolding machine
propose_incident_not_open = (refl, refl)

abbrev before_propose_no_such_incident : Room
before_propose_no_such_incident = record {
  plan = two_divisions;
  divisions = (division 1 2147483646) ∷ (division 2 2147483646) ∷ [];
  incidents = [];
  calls = [];
  vehicles =
      (vehicle A1 2 2 Ambulance (grid 530120 180160) OffDuty 0 None 0 0)
      ∷ (vehicle A2 2 2 Support (grid 530100 180100) OffDuty 0 None 0 0) ∷ [];
  turns = [];
  assignments = [];
  points = [];
  loans = [];
  offers = [];
  reports = [];
}

propose_no_such_incident : Steps (at 980 (Desk 2) (ask.Propose 2)) before_propose_no_such_incident
    (Err refusal.NoSuchIncident) before_propose_no_such_incident
unfolding machine
propose_no_such_incident = (refl, refl)
