use Rattle.std.proofs.Common.{Some, ap, arith, codes, length, map, sym, ◌∙◌, ◌≡◌, ◌≤◌}
use Rattle.std.specs.Prelude.{slice_get}
use Rattle.std.specs.String.{string_bytes}
use Rattle.std.proofs.lemmas.List.{length-map}
use Rattle.dispatch_room_cli.proofs.ExplainLemmas.{ended, found, is_other, is_same, neither_first}
use Rattle.dispatch_room_cli.proofs.ExplainLemmas.{neither_more, unfound, word_at}
use Rattle.dispatch_room_cli.proofs.argument_parser.explains.Goals as goal

pub loop-word-init : goal.loop-word-init
loop-word-init c = neither_first (map string_bytes c.args.words.now)

pub loop-word-preserved : goal.loop-word-preserved
loop-word-preserved c =
    let i = c.loop-word.word-index in
    let text = c.as_str-word.result.now in
    let words = map string_bytes c.args.words.now in
    let here : slice_get words i ≡ Some text =
    word_at string_bytes c.args.words.now i c.word-item.result c.loop-word-test.true
    ∙ ap (λ x. Some (string_bytes x)) (sym c.word-item.is) ∙ ap Some (sym c.as_str-word.ensures.value) in
    neither_more words i text c.loop-word.invariant here
    (is_other text (codes "--explain") _ c.eq.ensures c.if-eq.false)
    (is_other text (codes "--") _ c.eq-in-loop-word.ensures c.if-eq-2.false)

pub returns-then-eq : goal.returns-then-eq
returns-then-eq c =
    let i = c.loop-word.word-index in
    let text = c.as_str-word.result.now in
    let words = map string_bytes c.args.words.now in
    let here : slice_get words i ≡ Some text =
    word_at string_bytes c.args.words.now i c.word-item.result c.loop-word-test.true
    ∙ ap (λ x. Some (string_bytes x)) (sym c.word-item.is) ∙ ap Some (sym c.as_str-word.ensures.value) in
    found words i c.loop-word.invariant (here ∙ ap Some (is_same text (codes "--explain") _ c.eq.ensures c.if-eq.true))

pub returns-then-eq-2 : goal.returns-then-eq-2
returns-then-eq-2 c =
    let i = c.loop-word.word-index in
    let text = c.as_str-word.result.now in
    let words = map string_bytes c.args.words.now in
    let here : slice_get words i ≡ Some text =
    word_at string_bytes c.args.words.now i c.word-item.result c.loop-word-test.true
    ∙ ap (λ x. Some (string_bytes x)) (sym c.word-item.is) ∙ ap Some (sym c.as_str-word.ensures.value) in
    ended words i c.loop-word.invariant
    (here ∙ ap Some (is_same text (codes "--") _ c.eq-in-loop-word.ensures c.if-eq-2.true))

pub returns : goal.returns
returns c =
    let words = map string_bytes c.args.words.now in
    let same : length words ≡ length c.args.words.now = length-map c.args.words.now string_bytes in
    let past : length c.args.words.now ≤ c.loop-word.word-index = omega (arith, c.loop-word-test.false) in
    unfound words c.loop-word.word-index c.loop-word.invariant (omega (arith, same, past))
