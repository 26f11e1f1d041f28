use Rattle.std.proofs.lemmas.Result.{IfErr-weaker}
use Rattle.room_store_file.proofs.examined_file.read_tables.Goals as goal

pub returns-in-Some-clause-why : goal.returns-in-Some-clause-why
returns-in-Some-clause-why g c clean =
    IfErr-weaker c.read_sound.result _ _ (λ e why storage. (c.in-Some.tables, c.in-Some.ensures.tables.1, why storage))
    (c.read_sound.ensures.why clean)
