use Rattle.std.proofs.Common.{inl, refl}
use Rattle.std.proofs.lemmas.Result.{on_ok_weaker}
use Rattle.dispatch_room_board.proofs.renderer.Renderer.put_moment.Goals as goal

pub returns : goal.returns
returns c =
    on_ok_weaker c.put_line-2.result
    (λ h.
    inl (
      c.date_of-date.result,
      rw c.date_of-date.ensures c.in-Some.ensures.is,
      ((rw (c.as_str.ensures.value, c.in_ok-line.ensures.ok) at h.0, h.1), refl, refl),
    ))
    c.put_line-2.ensures
