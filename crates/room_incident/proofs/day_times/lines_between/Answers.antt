use Rattle.std.proofs.Common.{arith, map, of_z, subst, sym, to_z, true, w64, ◌≡◌}
use Rattle.std.proofs.lemmas.Grind.{common_steps}
use Rattle.std.specs.List.{list_all}
use Rattle.std.specs.Ordering.{nat_cmp}
use Rattle.std.specs.Prelude.{filter}
use Rattle.room_types.specs.KeyedRows.{IsKeyed}
use Rattle.room_types.specs.Keys.{incident_key, owns_incident, pair_cmp}
use Rattle.room_incident.proofs.TimesLaws.{climbs, lines_rise}
use Rattle.room_model.specs.DayTimes.{times_line}
use Rattle.room_incident.specs.DayIncidents.{is_opened_between, line_number}
use Rattle.room_incident.proofs.day_times.lines_between.Goals as goal

-- an incident's number is no less than its place
pub prove-unreachable-requires : goal.prove-unreachable-requires
prove-unreachable-requires c =
    let items = c.as_slice-incident-items in
    let same = sym items.ensures.all in
    let owned = subst (λ xs. list_all (owns_incident c.requires.0) xs ≡ true) same c.requires.1 in
    let keyed = subst (IsKeyed pair_cmp incident_key) same items.ensures.keyed in
    let place = climbs c.requires.0 items.result.now owned keyed c.loop-incident.incident-index c.incident-item.result
    c.loop-incident-test.true c.incident-item.is in
    omega (arith, place)

pub returns-clause-rising : goal.returns-clause-rising
returns-clause-rising c =
    let is_listed = is_opened_between (to_z w64 (of_z w64 c.args.from)) (to_z w64 (of_z w64 c.args.to)) in
    let listed : c.loop-incident.lines
    ≡ map times_line (filter is_listed c.args.incidents.now) = grind (arith, common_steps) in
    subst (IsKeyed nat_cmp line_number) (sym listed)
    (lines_rise c.requires.0 is_listed c.args.incidents.now c.requires.1 c.as_slice-incident-items.ensures.keyed)
