use Rattle.std.proofs.Common.{◌∙◌, sym, arith}
use Rattle.room_http_requests.proofs.ParameterLemmas.{not_read}
use Rattle.room_http_requests.proofs.parameters.whole.Goals as goal

pub returns-in-Err : goal.returns-in-Err
returns-in-Err g c =
    not_read c.parse.result c.in-Err.field-0 g.row.LEAST g.row.GREATEST c.args.text.now (omega (arith, g.GREATEST.fits))
    (rw c.as_bytes.ensures.value at (sym c.is_plain_numeral.ensures ∙ c.if-not-is_plain_numeral.false))
    c.in-Err.is c.parse.ensures.value.0
