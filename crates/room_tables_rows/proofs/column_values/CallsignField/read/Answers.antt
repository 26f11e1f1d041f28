use Rattle.std.proofs.Common.{rules}
use Rattle.room_tables_rows.proofs.ReadLaws.{no_letters}
use Rattle.room_types.proofs.Letters.{callsign_text}
use Rattle.room_types.specs.Texts.{is_callsign}
use Rattle.room_tables_rows.proofs.column_values.CallsignField.read.Goals as goal

pub returns-in_err-text-clause-has_one : goal.returns-in_err-text-clause-has_one
returns-in_err-text-clause-has_one c =
    search (rules, no_letters is_callsign callsign_text _ c.in_err-text.ensures.has_one)
