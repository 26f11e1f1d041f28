use Rattle.dispatch_room_board.proofs.RowLists.{not_rows, rows_more}
use Rattle.dispatch_room_board.proofs.answer_rows.rows_from.Goals as goal

pub loop-item-preserved : goal.loop-item-preserved
loop-item-preserved g c =
    rw c.in_ok-push-in-Some.ensures.ok
    (rows_more g.T.FromJson.says _ _ _ _ _ c.loop-item-test.true c.item-item.is c.loop-item.invariant
    c.in-Some.ensures.is)

pub returns-in-None : goal.returns-in-None
returns-in-None g c =
    record {
      is =
          not_rows g.T.FromJson.says _ _ _ c.loop-item-test.true c.item-item.is
          (rw c.in-None.is at c.from_json.ensures);
    }
