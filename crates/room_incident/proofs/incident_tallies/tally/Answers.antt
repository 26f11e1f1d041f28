use Rattle.std.proofs.Common.{ap, arith, length, refl, take, ◌∙◌}
use Rattle.std.proofs.lemmas.List.{length-map}
use Rattle.std.proofs.lemmas.Simd.{splat_is_map}
use Rattle.room_types.specs.Keys.{incident_key, pair_cmp}
use Rattle.room_types.proofs.Search.{at_within}
use Rattle.room_types.specs.KeyedRows.{IsKeyed}
use Rattle.room_incident.specs.Tallies.{times}
use Rattle.room_incident.proofs.TallyLaws.{none_counted, one_counted, tally_within}
use Rattle.room_incident.proofs.incident_tallies.tally.Goals.{in-Ok, in_default}
use Rattle.room_incident.proofs.incident_tallies.tally.Goals as goal

pub loop-number-init : goal.loop-number-init
loop-number-init c =
    c.in_ok-counts.ensures.items_if_clones_equal (λ a e. e) ∙ splat_is_map c.as_slice-rows.result.now _ 0 refl

pub place_of-requires : goal.place_of-requires
place_of-requires c = rw c.as_slice-rows.ensures.all c.as_slice-rows.ensures.keyed

pub index_mut-requires : goal.index_mut-requires
index_mut-requires c =
    let rows = c.as_slice-rows.result.now in
    omega (
      arith,
      at_within pair_cmp incident_key rows _ c.in-Ok.at c.in-Ok.ensures.found,
      ap length c.loop-number.invariant,
      length-map rows (times c.args.division (take c.loop-number.number-index c.args.numbers.now)),
    )

pub overflow_add-index_mut : goal.overflow_add-index_mut
overflow_add-index_mut c =
    let numbers = c.args.numbers.now in
    let rows = c.as_slice-rows.result.now in
    let j = c.loop-number.number-index in
    let few = tally_within c.args.division numbers j rows c.loop-number.counts.items c.in-Ok.at c.index_mut.result.now _
    c.loop-number.invariant (at_within pair_cmp incident_key rows _ c.in-Ok.at c.in-Ok.ensures.found)
    c.index_mut.ensures.value in
    omega (arith, few, c.loop-number-test.true, c.loop-number.auto.number-index-end)

pub loop-number-preserved : goal.loop-number-preserved
loop-number-preserved c =
    let rows = c.as_slice-rows.result.now in
    let keyed : IsKeyed pair_cmp incident_key rows = rw c.as_slice-rows.ensures.all c.as_slice-rows.ensures.keyed in
    elim c.match-place_of.branch [
      | in-Ok w ↦
          rw w.counts-is (one_counted c.args.division c.args.numbers.now c.loop-number.number-index _
          c.number-item.result rows c.loop-number.counts.items w.in-Ok.at c.loop-number-test.true c.number-item.is keyed
          c.loop-number.invariant w.index_mut.result.now _ w.in-Ok.ensures.found w.index_mut.ensures.value)
      | in_default w ↦
          rw w.counts-is (none_counted c.args.division c.args.numbers.now c.loop-number.number-index _
          c.number-item.result rows c.loop-number.counts.items _ c.loop-number-test.true c.number-item.is keyed
          c.loop-number.invariant w.in_default.ensures.absent)
    ]
