use Rattle.std.proofs.Common.{◌∙◌, ap}
use Rattle.std.specs.Prelude.{option_and_then}
use Rattle.serde_json.specs.Find.{as_str}
use Rattle.room_http_requests.specs.BodyFields.{button_at, button_of, text_at}
use Rattle.room_http_requests.proofs.FieldLemmas.{decodes_to}
use Rattle.room_http_requests.proofs.body_fields.button.Goals as goal

pub returns : goal.returns
unfolding button_at text_at
returns c =
    decodes_to _ _ c.parse.ensures
    ∙ ap (option_and_then button_of) (c.in_ok-as_str.ensures ∙ ap (option_and_then as_str) c.in_ok-get.ensures)
