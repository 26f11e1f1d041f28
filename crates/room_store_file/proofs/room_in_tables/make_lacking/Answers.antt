use Rattle.std.proofs.lemmas.Result.{IfErr-weaker}
use Rattle.room_store_file.proofs.room_in_tables.make_lacking.Goals as goal

pub returns-in-Unindexed-clause-why : goal.returns-in-Unindexed-clause-why
returns-in-Unindexed-clause-why g c clean =
    rw c.in-Unindexed.is
    (IfErr-weaker c.make_indexes.result _ _ (λ fault is. (_, is.0, is.1)) (c.make_indexes.ensures.why clean))
