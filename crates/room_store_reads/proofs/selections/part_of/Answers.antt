use Rattle.std.proofs.Common.{refl, sym, ◌∙◌}
use Rattle.room_store_cache.proofs.Filters.{filter_as}
use Rattle.room_store_reads.proofs.ReadFilters.{and_all, filter_never}
use Rattle.room_store_reads.proofs.KeyedUnions.{only_found}
use Rattle.room_store_reads.proofs.selections.part_of.Goals as goal

pub returns-in-Nothing-clause-rows : goal.returns-in-Nothing-clause-rows
returns-in-Nothing-clause-rows g c keyed =
    rw c.in-Nothing.is
    (c.none.ensures ∙ sym (filter_never (g.R.Row.owned c.args.division) _ c.args.rows.now (λ y. refl)))

pub returns-in-One-clause-rows : goal.returns-in-One-clause-rows
returns-in-One-clause-rows g c keyed =
    rw c.in-One.is (c.lend.ensures
    ∙ only_found g.R.Key.Ord.cmp g.R.Row.key_of g.met.R.Key.Ord.total (g.R.Row.owned c.args.division) c.args.rows.now
    c.in-One.key _ keyed refl)

pub returns-in_ok-own_rows-in-Everything-clause-rows : goal.returns-in_ok-own_rows-in-Everything-clause-rows
returns-in_ok-own_rows-in-Everything-clause-rows g c keyed =
    rw c.in-Everything.is (c.own.ensures ∙ c.in_ok-own_rows-in-Everything.ensures.rows
    ∙ filter_as _ _ c.args.rows.now (λ y. sym (and_all (g.R.Row.owned c.args.division y))))
