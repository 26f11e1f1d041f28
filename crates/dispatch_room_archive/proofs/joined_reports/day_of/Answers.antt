use Rattle.std.proofs.Common.{FitsSigned, List, refl, rules, subst, sym, true, w64, ℕ, ◌≡◌}
use Rattle.std.proofs.lemmas.Int.{to_z-of_z}
use Rattle.std.specs.List.{list_all}
use Rattle.jiff.specs.Placed.{IsPosixZone}
use Rattle.room_types.specs.Keys.{incident_key, owns_incident, pair_cmp}
use Rattle.room_http_time.specs.Days.{zone_of}
use Rattle.dispatch_room_archive.proofs.JoinedLemmas.{all_passing}
use Rattle.dispatch_room_archive.proofs.joined_reports.day_of.Goals as goal

pub invariant_of-result : goal.invariant_of-result
invariant_of-result c =
    let owned = owns_incident c.args.division in
    record {
      owned =
          subst (λ xs. list_all owned xs ≡ true) (sym c.in-Ok-owned_by.ensures.ok)
          (all_passing pair_cmp incident_key owned c.args.whole.now.rows.incidents);
    }

pub returns-in-Ok-owned_by-clause-day : goal.returns-in-Ok-owned_by-clause-day
returns-in-Ok-owned_by-clause-day c =
    let text : c.zone.result.now ≡ c.args.whole.now.config.plan.zone = search rules in
    let from : FitsSigned w64 c.in-Some.from = search rules in
    let to : FitsSigned w64 c.in-Some.to = search rules in
    record {
      has = search rules;
      zone = zone_of c.in-Ok.zone;
      of_plan = subst (λ (rule : List ℕ). IsPosixZone rule (zone_of c.in-Ok.zone)) text c.in-Ok.ensures.zone;
      span = rw (to_z-of_z w64 c.in-Some.from from, to_z-of_z w64 c.in-Some.to to) c.in-Some.ensures.span;
      of_division = refl;
      incidents = c.in-Ok-owned_by.ensures.ok;
    }
