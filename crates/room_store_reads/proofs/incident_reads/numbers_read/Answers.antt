use Rattle.std.proofs.Common.{ap, map, sym, ◌∙◌}
use Rattle.std.proofs.lemmas.Result.{IfOk-weaker}
use Rattle.room_types.specs.Codes.{is_active}
use Rattle.room_model.specs.Queries.{incident_of}
use Rattle.room_store_cache.specs.IncidentNumbers.{contains}
use Rattle.room_store_cache.proofs.Filters.{or_none}
use Rattle.room_store_cache.proofs.QueueReads.{number_of, numbers_of}
use Rattle.room_store_reads.proofs.incident_reads.numbers_read.Goals as goal

pub returns-in-Active-clause-ok : goal.returns-in-Active-clause-ok
unfolding incident_of
returns-in-Active-clause-ok c =
    IfOk-weaker c.numbers_of.result _ _ (λ numbers all d at room in_order are n.
    rw c.in-Active.is (ap (contains n) (all ∙ ap (map number_of) (rw c.in-Active.is at are))
    ∙ numbers_of d (λ i. is_active i.state) room.incidents n in_order.incidents ∙ sym (or_none _)))
    c.numbers_of.ensures.ok
