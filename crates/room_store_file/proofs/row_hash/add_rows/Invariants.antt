use Rattle.std.proofs.Common.{drop}
use Rattle.std.specs.List.{flat_map}
use Rattle.room_store_file.specs.DigestTexts.{row_text, table_text}
use Rattle.room_store_file.proofs.Added.{Adding}
use Rattle.room_store_file.proofs.row_hash.add_rows.Given as goal

abbrev pub invariant-loop-row : goal.invariant-loop-row
invariant-loop-row l = Adding l.fn.hasher l.hasher (table_text l.rows) (flat_map row_text (drop l.row-index l.rows))
