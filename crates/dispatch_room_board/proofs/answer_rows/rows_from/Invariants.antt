use Rattle.std.proofs.Common.{take}
use Rattle.serde_json.specs.View.{items_view}
use Rattle.dispatch_room_board.specs.AnswerRows.{AreRows}
use Rattle.dispatch_room_board.proofs.answer_rows.rows_from.Given as goal

abbrev pub invariant-loop-item : goal.invariant-loop-item
invariant-loop-item g l = AreRows g.T.FromJson.says (items_view (take l.item-index l.items)) l.rows
