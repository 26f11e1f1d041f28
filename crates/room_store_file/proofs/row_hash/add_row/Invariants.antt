use Rattle.std.proofs.Common.{drop}
use Rattle.std.specs.List.{flat_map}
use Rattle.room_store_file.specs.DigestTexts.{row_text, value_text}
use Rattle.room_store_file.proofs.Added.{Adding}
use Rattle.room_store_file.proofs.row_hash.add_row.Given as goal

abbrev pub invariant-loop-at : goal.invariant-loop-at
invariant-loop-at l = Adding l.fn.hasher l.hasher (row_text l.row) (flat_map value_text (drop l.at l.row))
