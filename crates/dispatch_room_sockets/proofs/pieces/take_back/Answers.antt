use Rattle.std.proofs.Common.{◌∙◌, inl, inr, sym, true≢false}
use Rattle.dispatch_room_sockets.proofs.PieceTurnLaws.{gone_taken}
use Rattle.dispatch_room_sockets.proofs.pieces.take_back.Goals.{else-is_open-via-then-is_open+else-shut}
use Rattle.dispatch_room_sockets.proofs.pieces.take_back.Goals.{else-is_open-via-else-is_open}
use Rattle.dispatch_room_sockets.proofs.pieces.take_back.Goals as goal

pub returns-in_default-clause-taken : goal.returns-in_default-clause-taken
returns-in_default-clause-taken g c = gone_taken _ _ _ _ _ _ _ _ _ _ _ (inl (sym c.in_default.ensures))

pub returns-clause-taken : goal.returns-clause-taken
returns-clause-taken g c = gone_taken _ _ _ _ _ _ _ _ _ _ _
    (inr (
      c.if-is_paused.false,
      λ unended. elim c.else-is_open.branch [
        | else-is_open-via-then-is_open+else-shut w ↦ w.shut.ensures w.if-shut.false
        | else-is_open-via-else-is_open w ↦
            absurd (true≢false (sym unended ∙ sym c.is_open-is_open.ensures ∙ w.if-is_open.false))
      ],
    ))
