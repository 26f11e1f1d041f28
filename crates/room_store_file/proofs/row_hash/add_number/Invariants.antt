use Rattle.room_store_file.specs.DigestTexts.{number_text}
use Rattle.room_store_file.proofs.Added.{Adding}
use Rattle.room_store_file.proofs.row_hash.add_number.Given as goal

abbrev pub invariant-loop-rest : goal.invariant-loop-rest
invariant-loop-rest l = Adding l.fn.hasher l.hasher (number_text l.number) (number_text l.rest)

abbrev pub decreases-loop-rest : goal.decreases-loop-rest
decreases-loop-rest l = l.rest
