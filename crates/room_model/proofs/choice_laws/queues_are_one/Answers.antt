use Rattle.room_types.specs.Keys.{entry_cmp, entry_key}
use Rattle.room_types.specs.KeyLemmas.{entries_total}
use Rattle.room_model.proofs.OneList.{one_keyed}
use Rattle.room_model.proofs.choice_laws.queues_are_one.Goals as goal

pub returns : goal.returns
returns g entries p q h f =
    one_keyed entry_cmp entry_key entries_total p q h.increasing f.increasing (λ e a. f.there e (h.only e a))
    (λ e a. h.there e (f.only e a))
