use Rattle.std.proofs.Common.{refl, sym}
use Rattle.std.proofs.lemmas.List.{append-nil, take_all}
use Rattle.dispatch_room_board.proofs.Notes.{visible_more}
use Rattle.dispatch_room_board.proofs.board_pages.Page.put_visible.Goals as goal

pub loop-byte-init : goal.loop-byte-init
loop-byte-init c = (sym (append-nil _), refl)

pub loop-byte-preserved : goal.loop-byte-preserved
loop-byte-preserved c = (
  visible_more _ _ _ _ _ _ c.loop-byte-test.true c.visible.ensures c.loop-byte.invariant.0 c.in_ok-push.ensures.items,
  c.loop-byte.invariant.1,
)

pub returns : goal.returns
returns c = rw (take_all _ _ c.loop-byte-test.false) at c.loop-byte.invariant
