use Rattle.std.proofs.Common.{◌∙◌, ap, lit<, []}
use Rattle.std.specs.Prelude.{unwrap_or}
use Rattle.std.proofs.lemmas.Iterator.Consumers.{nth_from_yields_List}
use Rattle.std.proofs.lemmas.Iterator.Splits.{YieldsList-from_str_split}
use Rattle.room_http_requests.proofs.ParameterLemmas.{unwrap_or-now}
use Rattle.room_http_requests.proofs.parameters.segment.Goals as goal

pub returns : goal.returns
returns c =
    ap (λ text. text.now) c.unwrap_or.ensures ∙ unwrap_or-now c.nth.result _
    ∙ ap (λ text. unwrap_or text []) (nth_from_yields_List _ _ _ c.nth.ensures.ran
    (YieldsList-from_str_split 47 c.args.target.now (lit< tt) c.split.ensures.text c.split.ensures.has_more
    c.split.ensures.pattern))
