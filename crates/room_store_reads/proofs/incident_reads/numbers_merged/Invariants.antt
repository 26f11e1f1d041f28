use Rattle.std.proofs.Common.{take, ℕ, ◌≡◌}
use Rattle.room_store_cache.specs.IncidentNumbers.{contains}
use Rattle.room_store_reads.specs.RequestReads.{is_merged}
use Rattle.room_store_reads.proofs.incident_reads.numbers_merged.Given as goal

abbrev pub invariant-loop-call : goal.invariant-loop-call
invariant-loop-call l = (n : ℕ) →
    contains n l.numbers.items ≡ is_merged l.number (take l.call-index l.calls) n
