use Rattle.std.proofs.Common.{map, take, ◌≡◌}
use Rattle.room_store_cache.proofs.QueueReads.{number_of}
use Rattle.room_store_reads.proofs.incident_reads.numbers_of.Given as goal

abbrev pub invariant-loop-incident : goal.invariant-loop-incident
invariant-loop-incident l = l.numbers.items ≡ map number_of (take l.incident-index l.rows)
