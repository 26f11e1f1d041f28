use Rattle.std.proofs.Common.{inr}
use Rattle.std.proofs.lemmas.Result.{on_ok_weaker}
use Rattle.dispatch_room_board.proofs.renderer.Renderer.put_table.Goals as goal

pub returns-in-Err : goal.returns-in-Err
returns-in-Err g c =
    on_ok_weaker c.put_board_error.result
    (λ h. inr (record {
      board_error = c.in-Err.board_error;
      befalls = rw c.put_board_error.ensures.rest (rw c.in-Err.is at c.in_ok-rows.ensures.found);
      page = rw (c.in_ok-rows.ensures.page.0, c.layout.ensures.title) at h;
      reached = rw c.in_ok-rows.ensures.page.1 at c.put_board_error.ensures.reached;
    }))
    c.put_board_error.ensures.page
