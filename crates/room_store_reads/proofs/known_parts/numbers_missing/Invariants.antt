use Rattle.std.proofs.Common.{drop, map, not, ◌++◌, ◌≡◌}
use Rattle.std.specs.Prelude.{filter}
use Rattle.room_store_cache.specs.ShownLists.{has}
use Rattle.room_store_cache.proofs.QueueReads.{number_of}
use Rattle.room_store_reads.proofs.known_parts.numbers_missing.Given as goal

abbrev pub invariant-loop-incident : goal.invariant-loop-incident
invariant-loop-incident l =
    l.numbers.items ++ map number_of (filter (λ i. not (has l.list i.number)) (drop l.incident-index l.incidents))
    ≡ map number_of (filter (λ i. not (has l.list i.number)) l.incidents)
