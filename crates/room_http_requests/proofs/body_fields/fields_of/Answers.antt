use Rattle.std.proofs.Common.{◌∙◌, sym}
use Rattle.room_http_requests.proofs.FieldLemmas.{fields_of-read}
use Rattle.room_http_requests.proofs.body_fields.fields_of.Goals as goal

pub returns-in-Ok-from_str : goal.returns-in-Ok-from_str
returns-in-Ok-from_str c =
    fields_of-read c.args.body.now _ (sym c.is_empty.ensures ∙ c.if-is_empty.false) c.in-Ok.ensures.cases.1
    (rw c.in-Ok.ensures.cases.0 at c.in-Ok-from_str.ensures.ok)
