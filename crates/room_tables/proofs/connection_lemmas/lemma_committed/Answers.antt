use Rattle.std.proofs.Common.{ap, ◌∙◌}
use Rattle.std.specs.Prelude.{not}
use Rattle.room_tables.proofs.connection_lemmas.lemma_committed.Goals as goal

pub returns : goal.returns
returns g c outside = c.is_autocommit.ensures.settled (c.is_autocommit.ensures.value ∙ ap not outside)
