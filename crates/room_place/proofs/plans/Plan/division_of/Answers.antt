use Rattle.std.proofs.Common.{IsTrue, None, Some, lit<, ◌≡◌}
use Rattle.room_place.specs.Plans.{division_of, has_place}
use Rattle.room_place.specs.declared.plans.Area.{Area}
use Rattle.room_place.proofs.PlanLaws.{inside, lowest, numbered, outside}
use Rattle.room_place.proofs.plans.Plan.division_of.Goals as goal

pub of-requires : goal.of-requires
of-requires c =
    let plan = c.args.self.now in
    let found : Some c.in-Some.division ≡ division_of plan.areas c.args.place = cc in
    let range = numbered plan.areas plan.zone (λ (area : Area). IsTrue (has_place c.args.place area.rect))
    c.in-Some.division plan.sound (inside c.args.place plan.areas (Some c.in-Some.division) found) in
    (lit< tt, range)

pub returns-in-Some-clause-inside : goal.returns-in-Some-clause-inside
returns-in-Some-clause-inside c =
    let found : Some c.of.result ≡ division_of c.args.self.now.areas c.args.place = cc in
    inside c.args.place c.args.self.now.areas (Some c.of.result) found

pub returns-in-Some-clause-lowest : goal.returns-in-Some-clause-lowest
returns-in-Some-clause-lowest c =
    let found : Some c.of.result ≡ division_of c.args.self.now.areas c.args.place = cc in
    lowest c.args.place c.args.self.now.areas (Some c.of.result) found

pub returns-in-None-clause-outside : goal.returns-in-None-clause-outside
returns-in-None-clause-outside c =
    let found : None ≡ division_of c.args.self.now.areas c.args.place = cc in
    outside c.args.place c.args.self.now.areas None found
