use Rattle.std.proofs.Common.{Some, ap, sym, ◌∙◌, ◌≡◌}
use Rattle.std.specs.Prelude.{option_map}
use Rattle.serde_json.proofs.Views.{get_item_past, get_item_within}
use Rattle.serde_json.specs.Find.{get_item}
use Rattle.serde_json.specs.View.{items_view, view}
use Rattle.room_http_requests.specs.Bodies.{move_at, move_if}
use Rattle.room_http_requests.proofs.bodies.move_at.Goals as goal

pub returns-in_err-move_in-in-Some : goal.returns-in_err-move_in-in-Some
unfolding move_at
returns-in_err-move_in-in-Some c =
    let found = c.in-Some.ensures.lookup in
    let here : Some (view c.in-Some.fields.now) ≡ get_item c.args.place (items_view c.args.items.now) =
    ap (λ v. Some (view v)) found.1 ∙ get_item_within c.args.items.now c.args.place c.in-Some.fields.now found.3.0 in
    c.from_residual.ensures ∙ ap (option_map Some) c.in_err-move_in-in-Some.ensures ∙ ap move_if here

pub returns-in_ok-move_in-in-Some : goal.returns-in_ok-move_in-in-Some
unfolding move_at
returns-in_ok-move_in-in-Some c =
    let found = c.in-Some.ensures.lookup in
    let here : Some (view c.in-Some.fields.now) ≡ get_item c.args.place (items_view c.args.items.now) =
    ap (λ v. Some (view v)) found.1 ∙ get_item_within c.args.items.now c.args.place c.in-Some.fields.now found.3.0 in
    ap (option_map Some) c.in_ok-move_in-in-Some.ensures ∙ ap move_if here

pub returns-in-None : goal.returns-in-None
unfolding move_at
returns-in-None c =
    ap move_if (get_item_past c.args.items.now c.args.place c.in-None.ensures.lookup.3)
