use Rattle.std.proofs.Common.{◌≡◌, ◌∙◌, ap, sym, true, Some, rules, tests}
use Rattle.std.proofs.lemmas.Iterator.{YieldsList-from_slice}
use Rattle.std.proofs.lemmas.Iterator.Search.{all_from_yields_List}
use Rattle.room_http_requests.specs.Parameters.{are_ascii, is_ascii}
use Rattle.room_http_requests.proofs.ParameterLemmas.{ascii_is_text, reads_text}
use Rattle.room_http_requests.proofs.parameters.text_of.Goals as goal

pub unwrap-requires : goal.unwrap-requires
unwrap-requires c =
    let tested = all_from_yields_List is_ascii _ _ _ c.all.ensures.ran (YieldsList-from_slice c.args.target.now cc)
    (λ x b q k. search (rules, tests)) in
    reads_text _ _ _ c.from_utf8.result c.from_utf8.ensures.cases
    (ascii_is_text c.args.target.now (sym tested ∙ c.if-all.true))

pub returns-then-all : goal.returns-then-all
returns-then-all c =
    let tested = all_from_yields_List is_ascii _ _ _ c.all.ensures.ran (YieldsList-from_slice c.args.target.now cc)
    (λ x b q k. search (rules, tests)) in
    let ascii : are_ascii c.args.target.now ≡ true = sym tested ∙ c.if-all.true in
    rw ascii (ap Some (rw c.unwrap.ensures at c.from_utf8.ensures.cases).0)
