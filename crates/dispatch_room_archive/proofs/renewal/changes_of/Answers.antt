use Rattle.std.proofs.Common.{List, false, rules, subst, sym, true, ℕ, ◌≡◌}
use Rattle.std.specs.Prelude.{IsSome}
use Rattle.jiff.specs.Placed.{IsPosixZone}
use Rattle.jiff.specs.Words.{read_whole}
use Rattle.room_http_time.specs.Days.{zone_of}
use Rattle.dispatch_room_archive.proofs.renewal.changes_of.Goals as goal

pub returns-in-Ok-puts_since-clause-since : goal.returns-in-Ok-puts_since-clause-since
returns-in-Ok-puts_since-clause-since c =
    let text : c.zone.result.now ≡ c.args.plan.now.zone = search rules in
    record {
      zone = zone_of c.in-Ok.zone;
      of_plan = subst (λ (rule : List ℕ). IsPosixZone rule (zone_of c.in-Ok.zone)) text c.in-Ok.ensures.zone;
      since = c.in-Some.since;
      start = c.in-Some.ensures.found;
      puts = λ order. c.in-Ok-puts_since.ensures c.args.plan.now.areas order;
    }

pub returns-in-None-clause-fault : goal.returns-in-None-clause-fault
returns-in-None-clause-fault c =
    let text : c.zone.result.now ≡ c.args.plan.now.zone = search rules in (
      zone_of c.in-Ok.zone,
      subst (λ (rule : List ℕ). IsPosixZone rule (zone_of c.in-Ok.zone)) text c.in-Ok.ensures.zone,
      c.in-None.ensures.none,
    )

pub returns-in-Err-clause-fault : goal.returns-in-Err-clause-fault
returns-in-Err-clause-fault c =
    let text : c.zone.result.now ≡ c.args.plan.now.zone = search rules in
    λ some.
    let no : false
    ≡ true = c.in-Err.ensures.read.1 (subst (λ (rule : List ℕ). IsSome (read_whole rule)) (sym text) some) in
    cc
