use Rattle.serde_json.specs.View.{view}
use Rattle.std.proofs.lemmas.Result.{IfOk-weaker}
use Rattle.dispatch_room_board.proofs.RowLists.{list_read}
use Rattle.dispatch_room_board.proofs.answer_rows.rows_in.Goals as goal

pub returns : goal.returns
returns g c =
    IfOk-weaker c.rows_from.result _ _
    (λ o h.
    list_read g.T.FromJson.says c.args.name.now (view c.args.value.now) (view c.in-Some.list.now) _ o
    (rw c.in-Some.is at c.get.ensures) (rw c.in-Some-as_array.is at c.as_array.ensures)
    (rw c.as_slice.ensures.value at h))
    c.rows_from.ensures
