use Rattle.std.proofs.Common.{Some, ap, arith, sym, ◌∙◌}
use Rattle.serde_json.specs.View.{items_view}
use Rattle.room_http_requests.proofs.FieldLemmas.{few_enough, too_many}
use Rattle.room_http_requests.proofs.body_fields.few.Goals as goal

pub returns-then-items-most : goal.returns-then-items-most
returns-then-items-most c =
    ap (λ vs. Some (items_view vs)) c.as_slice-items.ensures.value
    ∙ few_enough c.args.most c.args.name.now _ _ c.in_ok-as_array.field-0.now.items (sym c.in_ok-get.ensures)
    (sym c.in_ok-as_array.ensures) (rw c.as_slice-items.ensures.value at c.if-items-most.true)

pub returns-else-items-most : goal.returns-else-items-most
returns-else-items-most c =
    too_many c.args.most c.args.name.now _ _ c.in_ok-as_array.field-0.now.items (sym c.in_ok-get.ensures)
    (sym c.in_ok-as_array.ensures) (rw c.as_slice-items.ensures.value at c.if-items-most.false)
