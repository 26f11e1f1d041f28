use Rattle.std.proofs.Common.{rules}
use Rattle.std.proofs.lemmas.List.Sorted.{answers_always}
use Rattle.room_types.specs.Keys.{incident_key, pair_cmp}
use Rattle.room_types.specs.KeyLemmas.{pairs_total}
use Rattle.room_types.proofs.Search.{searched}
use Rattle.room_incident.proofs.incident_tallies.place_of.Goals as goal

pub returns : goal.returns
returns c =
    let by_key = c.binary_search_by_key.ensures.position incident_key
    (answers_always _ _ _ (λ f a r h called. search rules)) in
    let found = searched pair_cmp incident_key pairs_total c.args.incidents.now c.args.key.now
    c.binary_search_by_key.result c.requires c.binary_search_by_key.ensures.bound by_key in
    record { found = found.0; absent = found.1 }
