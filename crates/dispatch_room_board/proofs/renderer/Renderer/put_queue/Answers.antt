use Rattle.std.proofs.Common.{inl, inr}
use Rattle.std.proofs.lemmas.Result.{on_ok_weaker}
use Rattle.dispatch_room_board.proofs.renderer.Renderer.put_queue.Goals as goal

pub returns-in-Ok : goal.returns-in-Ok
returns-in-Ok c =
    on_ok_weaker c.put_lines.result
    (λ h. inl (record {
      lines = c.in-Ok.lines;
      now = c.in-Ok.now;
      next = rw c.put_lines.ensures.rest.0 (rw c.in-Ok.is at c.in_ok-lines.ensures.found);
      reports = h.0;
      are_told = rw c.as_slice.ensures at h.1;
      page = rw (c.in_ok-lines.ensures.page.0, c.as_slice.ensures) at h.2;
      reached = rw c.in_ok-lines.ensures.page.1 at c.put_lines.ensures.rest.1;
    }))
    c.put_lines.ensures.shown

pub returns-in-Err : goal.returns-in-Err
returns-in-Err c =
    on_ok_weaker c.put_board_error.result
    (λ h. inr (record {
      board_error = c.in-Err.board_error;
      befalls = rw c.put_board_error.ensures.rest (rw c.in-Err.is at c.in_ok-lines.ensures.found);
      page = rw c.in_ok-lines.ensures.page.0 at h;
      reached = rw c.in_ok-lines.ensures.page.1 at c.put_board_error.ensures.reached;
    }))
    c.put_board_error.ensures.page
