use Rattle.std.proofs.Common.{◌≡◌, ◌∙◌, ◌+◌, [], ◌∷◌, ap, drop, map, Some, sym, refl, subst, arith}
use Rattle.std.proofs.lemmas.List.{drop_all, drop_more}
use Rattle.std.proofs.lemmas.Result.{on_ok_weaker}
use Rattle.serde.specs.Event.{Logs, seq_begins}
use Rattle.serde_json.specs.View.{items_of}
use Rattle.room_http.specs.Objects.{Sends, SendsLater}
use Rattle.room_http.proofs.Sending.{items_len-map}
use Rattle.room_http.proofs.json_values.list.Goals as goal

pub returns : goal.returns
unfolding Sends
returns g c =
    let json = g.T.ToJson.json in
    let items = c.args.items.now in
    let first = g.S.Serializer.written c.begin_seq.new.self in
    let end = g.S.Serializer.written c.end_seq.new.self in
    let begun = subst (λ n. Logs (g.S.Serializer.written c.args.out.now) first (seq_begins (Some n)))
    (sym (items_len-map json items)) c.in_ok-begin_seq.ensures in
    let none : drop c.loop-item.item-index items ≡ [] = drop_all c.loop-item.item-index items (omega arith) in
    on_ok_weaker c.end_seq.result (λ ended.
    let all = c.loop-item.invariant end
    (subst (λ xs. SendsLater (items_of (map json xs)) (g.S.Serializer.written c.loop-item.out) end) (sym none)
    (ended, refl)) in ((first, begun, all.0), all.1)) c.end_seq.ensures

pub loop-item-preserved : goal.loop-item-preserved
unfolding Sends
loop-item-preserved g c = λ end later.
    let items = c.args.items.now in
    let at = c.loop-item.item-index in
    let item = c.item-item.result in
    let here : drop at items ≡ item ∷ drop (at + 1) items =
    drop_more items at item (omega arith) ∙ ap (λ x. x ∷ drop (at + 1) items) (sym c.item-item.is) in
    let sent = c.in_ok-write_json.ensures in
    c.loop-item.invariant end (rw here
    ((g.S.Serializer.written c.write_json.new.out, sent.0, later.0), rw (sent.1, later.1) refl))
