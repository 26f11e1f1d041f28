use Rattle.std.proofs.Common.{inl, inr}
use Rattle.std.proofs.lemmas.Result.{on_ok_weaker}
use Rattle.dispatch_room_board.proofs.renderer.Renderer.put_history.Goals as goal

pub returns-in-Ok : goal.returns-in-Ok
returns-in-Ok c =
    on_ok_weaker c.put_history.result
    (λ h. inl (record {
      given = c.in-Ok.history;
      now = c.in-Ok.now;
      next = rw c.in-Ok.is at c.in_ok-history.ensures.found;
      page = rw c.in_ok-history.ensures.page.0 at h;
      reached = c.in_ok-history.ensures.page.1;
    }))
    c.put_history.ensures

pub returns-in-Err : goal.returns-in-Err
returns-in-Err c =
    on_ok_weaker c.put_board_error.result
    (λ h. inr (record {
      board_error = c.in-Err.board_error;
      befalls = rw c.put_board_error.ensures.rest (rw c.in-Err.is at c.in_ok-history.ensures.found);
      page = rw c.in_ok-history.ensures.page.0 at h;
      reached = rw c.in_ok-history.ensures.page.1 at c.put_board_error.ensures.reached;
    }))
    c.put_board_error.ensures.page
