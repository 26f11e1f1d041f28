use Rattle.std.proofs.lemmas.Result.{on_ok_weaker}
use Rattle.dispatch_room_board.proofs.renderer.Renderer.put_incident.Goals as goal

pub returns-then-named : goal.returns-then-named
returns-then-named c =
    on_ok_weaker c.put_table.result
    (λ h. rw c.if-named.true (record {
      history = c.put_history.new.self;
      is_history = c.in_ok-put_history.ensures;
      is_proposals = h;
    }))
    c.put_table.ensures
