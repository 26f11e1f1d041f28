use Rattle.std.proofs.Common.{◌∙◌}
use Rattle.std.proofs.lemmas.Option.{IfSome_then}
use Rattle.room_store_cache.proofs.recent_incidents.RecentIncidents.fill.Goals as goal

pub returns-clause-so : goal.returns-clause-so
returns-clause-so c room read = IfSome_then c.new.result c.new.ensures.same (λ x is. is.1 ∙ rw is.0 read)
