use Rattle.std.proofs.Common.{◌≡◌, [], true, refl, sym, ◌∙◌}
use Rattle.std.specs.Prelude.{filter}
use Rattle.std.proofs.lemmas.Result.{on_ok_weaker}
use Rattle.room_store_check_tables.proofs.HistoryLaws.{passing_keyed, passing_last}
use Rattle.room_store_check_tables.proofs.judged_histories.keep_if.Goals as goal

pub returns-then-passes-clause-kept : goal.returns-then-passes-clause-kept
returns-then-passes-clause-kept g c =
    let row = c.args.row in
    on_ok_weaker c.take.result (λ taken p before is keyed so_far.
    let passes : p row ≡ true = sym is ∙ c.if-passes.true in
    taken [] (filter p before)
    (passing_keyed p before row passes g.X.Key.Ord.cmp g.X.Row.key_of g.met.X.Key.Ord.total keyed) (λ _. so_far) refl
    ∙ sym (passing_last p before row passes)) c.take.ensures.taken
