use Rattle.std.proofs.Common.{Ok, ap, refl, None, [], ◌∷◌, false}
use Rattle.room_http_messages.proofs.StreamLemmas.{Appends-none}
use Rattle.dispatch_room_journal.specs.ReplayedTurns.{compared, IsPlayed}
use Rattle.dispatch_room_journal.proofs.FaultLemmas.{unless_after, due_with}
use Rattle.dispatch_room_journal.proofs.TurnLemmas.{no_progress, passes_none, next_stops, head_turn}
use Rattle.dispatch_room_journal.proofs.TurnLemmas.{stops_message}
use Rattle.dispatch_room_journal.proofs.FrameLemmas.{each_turn}
use Rattle.dispatch_room_journal.specs.Replays.{digits_of}
use Rattle.dispatch_room_journal.proofs.streamed_messages.answer_turn.Goals as goal

pub returns-in-Err-clause-turn : goal.returns-in-Err-clause-turn
returns-in-Err-clause-turn g c =
    let next = c.in-Err.ensures.next in (
      [],
      next_stops false _ _ _ _ _ _ _ _ _ c.in-Err.fault _ _ next.0 (next.1 false)
          (due_with _ _ _ c.requires.writer next.2),
      refl {a = c.args.progress.now},
      [],
      ([], refl),
      Appends-none (g.O.Write.contents c.args.writer.now.output.now),
    )

pub returns-in-End-clause-turn : goal.returns-in-End-clause-turn
returns-in-End-clause-turn g c =
    let next = rw c.in-End.is at c.in-Ok.ensures.next in (
      [],
      passes_none _ _ _ _ _ _ _ _ _ IsPlayed next.0 next.2,
      no_progress c.args.progress.now,
      λ never. absurd (cc never),
      λ _. next.1,
      Appends-none (g.O.Write.contents c.args.writer.now.output.now),
    )

pub returns-in-StartDigest-clause-turn : goal.returns-in-StartDigest-clause-turn
returns-in-StartDigest-clause-turn g c =
    let x = head_turn _ _ (digits_of g.M.Digested.digest_of (g.M.Room.zone c.args.room.now)) _ _ _ _ _ None IsPlayed
    (λ head. tt) _ _ _ _ c.note_head.ensures _ c.in-StartDigest.is c.in-Ok.ensures.next in (
      compared x.0 ∷ [],
      x.1,
      x.2,
      λ _. (x.3, c.requires.writer, refl {a = 1}),
      λ never. absurd (cc never),
      Appends-none (g.O.Write.contents c.args.writer.now.output.now),
    )

pub returns-in-Err-answer_message-clause-turn : goal.returns-in-Err-answer_message-clause-turn
returns-in-Err-answer_message-clause-turn g c =
    let turn = (rw c.next_entry.ensures.zone at c.in-Err-answer_message.ensures.turn) in (
      turn.0,
      stops_message _ _ (digits_of g.M.Digested.digest_of (g.M.Room.zone c.args.room.now)) _ _
          c.answer_message.ensures.trusted _ _ _ _ _ None _ _ c.in-Message.entry.at _ _ c.in-Message.is
          c.args.progress.now c.in-Ok.ensures.next
          false c.in-Err-answer_message.fault _ _ turn.0 turn.1,
      refl {a = c.args.progress.now},
      turn.2,
      turn.3,
      turn.4,
    )

pub returns-in-Ok-answer_message-clause-turn : goal.returns-in-Ok-answer_message-clause-turn
returns-in-Ok-answer_message-clause-turn g c =
    each_turn _ _ (digits_of g.M.Digested.digest_of (g.M.Room.zone c.args.room.now)) _ _
    c.answer_message.ensures.trusted _ _ _ _ _ _ _ _ _ _ _ _ c.in-Message.entry.at _ _ c.in-Message.is
    c.args.progress.now _ c.note_message.ensures
    c.in-Ok.ensures.next (rw c.next_entry.ensures.zone at c.in-Ok-answer_message.ensures.turn)

pub returns-in-Err-answer_message-clause-kept : goal.returns-in-Err-answer_message-clause-kept
returns-in-Err-answer_message-clause-kept g c = λ trust.
    unless_after c.in-Err-answer_message.fault (g.M.Room.is_kept c.args.room.now)
    (g.M.Room.is_kept c.next_entry.new.room) (g.M.Room.is_kept c.answer_message.new.room)
    (c.in-Ok.ensures.kept (c.answer_message.ensures.trusted trust)) (c.in-Err-answer_message.ensures.kept trust)

pub returns-in-End-clause-ended : goal.returns-in-End-clause-ended
returns-in-End-clause-ended g c = λ is. c.in-Ok.ensures.ended refl (ap Ok c.in-End.is)
