use Rattle.std.proofs.Common.{rules}
use Rattle.room_tables_rows.proofs.ReadLaws.{no_letters}
use Rattle.room_types.proofs.Letters.{token_text}
use Rattle.room_types.specs.Texts.{is_token}
use Rattle.room_tables_rows.proofs.column_values.TokenField.read.Goals as goal

pub returns-in_err-text-clause-has_one : goal.returns-in_err-text-clause-has_one
returns-in_err-text-clause-has_one c = search (rules, no_letters is_token token_text _ c.in_err-text.ensures.has_one)
