use Rattle.std.proofs.Common.{rules}
use Rattle.std.proofs.lemmas.List.Sorted.{answers_always}
use Rattle.room_types.proofs.Search.{searched, gap_at_end}
use Rattle.room_types.proofs.rows.search.Goals as goal

pub returns-clause-absent : goal.returns-clause-absent
returns-clause-absent g c =
    gap_at_end g.R.Key.Ord.cmp g.R.Row.key_of g.met.R.Key.Ord.total c.args.rows.now c.args.key.now c.in-Some.last.now
    c.requires c.in-Some.ensures.value (cc)

pub returns-2 : goal.returns-2
returns-2 g c =
    let by_key = c.binary_search_by_key.ensures.position g.R.Row.key_of
    (answers_always _ _ _ (λ f a r h called. search rules)) in
    let found = searched g.R.Key.Ord.cmp g.R.Row.key_of g.met.R.Key.Ord.total c.args.rows.now c.args.key.now
    c.binary_search_by_key.result c.requires c.binary_search_by_key.ensures.bound by_key in
    record { found = found.0; absent = found.1 }
