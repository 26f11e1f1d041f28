use Rattle.std.proofs.Common.{FitsSigned, false, inl, rules, true, w64, ◌≡◌}
use Rattle.std.proofs.lemmas.Int.{to_z-of_z}
use Rattle.room_http_time.specs.Days.{zone_of}
use Rattle.dispatch_room_archive.proofs.RenewalLemmas.{none_there, not_started, started}
use Rattle.dispatch_room_archive.proofs.renewal.start.Goals as goal

pub returns-in-Some-clause-found : goal.returns-in-Some-clause-found
returns-in-Some-clause-found c =
    let fits : FitsSigned w64 c.in-Some.second = search rules in
    started c.early.result (zone_of c.args.zone.now) c.args.newest c.moment_of.result c.args.day.now
    (c.in-Some.second, c.in-Some._next) c.in-Some.ensures.span
    (rw (to_z-of_z w64 c.in-Some.second fits) at c.moment_of.ensures) c.early.ensures.found

pub returns-in-Some-clause-none : goal.returns-in-Some-clause-none
returns-in-Some-clause-none c =
    let fits : FitsSigned w64 c.in-Some.second = search rules in
    not_started c.early.result (zone_of c.args.zone.now) c.args.newest c.moment_of.result c.args.day.now
    (c.in-Some.second, c.in-Some._next) c.in-Some.ensures.span
    (rw (to_z-of_z w64 c.in-Some.second fits) at c.moment_of.ensures) c.early.ensures.none

pub returns-in-None-clause-none : goal.returns-in-None-clause-none
returns-in-None-clause-none c =
    inl (none_there _ (λ some. let no : false ≡ true = c.in-None.ensures.found.1 some in cc))
