use Rattle.std.proofs.Common.{◌∙◌, sym}
use Rattle.dispatch_room_csv.proofs.FieldLemmas.{number_read}
use Rattle.dispatch_room_csv.proofs.row_fields.number.Goals as goal

pub returns : goal.returns
returns c =
    c.ok.ensures.value ∙ number_read c.args.text.now c.parse.result
    (rw c.as_bytes.ensures.value at (sym c.is_numeral.ensures ∙ c.if-not-is_numeral.false)) c.parse.ensures.value.0
