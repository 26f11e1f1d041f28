use Rattle.std.proofs.Common.{Ok, ap, refl, [], ◌∷◌, true}
use Rattle.dispatch_room_journal.specs.declared.journal_messages.MessageOutcome.TheVariants.{Played}
use Rattle.dispatch_room_journal.specs.declared.journal_messages.MessageOutcome.TheVariants.{LeftOut}
use Rattle.dispatch_room_journal.specs.declared.journal_messages.MessageOutcome.TheVariants.{Last}
use Rattle.dispatch_room_journal.specs.ReplayedTurns.{compared, IsReplayed}
use Rattle.dispatch_room_journal.proofs.FaultLemmas.{unless_after}
use Rattle.dispatch_room_journal.proofs.TurnLemmas.{no_progress, passes_none, next_stops, head_turn}
use Rattle.dispatch_room_journal.proofs.TurnLemmas.{takes_message, stops_message}
use Rattle.dispatch_room_journal.specs.Replays.{digits_of}
use Rattle.dispatch_room_journal.proofs.replayed_journal.replay_turn.Goals as goal

pub returns-in-Err-clause-turn : goal.returns-in-Err-clause-turn
returns-in-Err-clause-turn g c =
    let next = c.in-Err.ensures.next in
    ([], next_stops true _ _ _ _ _ _ _ _ _ c.in-Err.fault _ _ next.0 (next.1 true) next.2, refl)

pub returns-in-End-clause-turn : goal.returns-in-End-clause-turn
returns-in-End-clause-turn g c =
    let next = rw c.in-End.is at c.in-Ok.ensures.next in (
      [],
      passes_none _ _ _ _ _ _ _ _ _ IsReplayed next.0 next.2,
      no_progress c.args.progress.now,
      λ never. absurd (cc never),
      λ _. next.1,
    )

pub returns-in-StartDigest-clause-turn : goal.returns-in-StartDigest-clause-turn
returns-in-StartDigest-clause-turn g c =
    let x = head_turn _ _ (digits_of g.M.Digested.digest_of (g.M.Room.zone c.args.room.now)) _ _ _ _ _ _ IsReplayed
    (λ head. tt) _ _ _ _ c.note_head.ensures _ c.in-StartDigest.is c.in-Ok.ensures.next in
    (compared x.0 ∷ [], x.1, x.2, λ _. (x.3, refl {a = 1}), λ never. absurd (cc never))

pub returns-in-Err-replay_message-clause-turn : goal.returns-in-Err-replay_message-clause-turn
returns-in-Err-replay_message-clause-turn g c =
    let turn = (rw c.next_entry.ensures.zone at c.in-Err-replay_message.ensures.turn) in (
      turn.0,
      stops_message _ _ (digits_of g.M.Digested.digest_of (g.M.Room.zone c.args.room.now)) _ _
          c.replay_message.ensures.trusted _ _ _ _ _ _ _ _ c.in-Message.entry.at _ _ c.in-Message.is
          c.args.progress.now c.in-Ok.ensures.next
          true c.in-Err-replay_message.fault _ _ turn.0 turn.1,
      refl,
    )

pub returns-in-Ok-Played-clause-turn : goal.returns-in-Ok-Played-clause-turn
returns-in-Ok-Played-clause-turn g c =
    takes_message _ _ (digits_of g.M.Digested.digest_of (g.M.Room.zone c.args.room.now)) _ _
    c.replay_message.ensures.trusted _ _ _ _ _ _ _ _ c.in-Message.entry.at _ _ c.in-Message.is _ c.in-Ok.ensures.next
    _ _ _ Played _ refl (rw (c.in-Ok-Played.field-0-is, c.next_entry.ensures.zone) at c.in-Ok-Played.ensures.turn)
    c.note_message.ensures

pub returns-in-Ok-LeftOut-clause-turn : goal.returns-in-Ok-LeftOut-clause-turn
returns-in-Ok-LeftOut-clause-turn g c =
    takes_message _ _ (digits_of g.M.Digested.digest_of (g.M.Room.zone c.args.room.now)) _ _
    c.replay_message.ensures.trusted _ _ _ _ _ _ _ _ c.in-Message.entry.at _ _ c.in-Message.is _ c.in-Ok.ensures.next
    _ _ _ LeftOut _ refl (rw (c.in-Ok-LeftOut.field-0-is, c.next_entry.ensures.zone) at c.in-Ok-LeftOut.ensures.turn)
    c.note_message-in-Ok-LeftOut.ensures

pub returns-in-Ok-Last-clause-turn : goal.returns-in-Ok-Last-clause-turn
returns-in-Ok-Last-clause-turn g c =
    takes_message _ _ (digits_of g.M.Digested.digest_of (g.M.Room.zone c.args.room.now)) _ _
    c.replay_message.ensures.trusted _ _ _ _ _ _ _ _ c.in-Message.entry.at _ _ c.in-Message.is _ c.in-Ok.ensures.next
    _ _ _ Last _ refl (rw (c.in-Ok-Last.field-0-is, c.next_entry.ensures.zone) at c.in-Ok-Last.ensures.turn)
    c.note_message-in-Ok-Last.ensures

pub returns-in-Err-replay_message-clause-kept : goal.returns-in-Err-replay_message-clause-kept
returns-in-Err-replay_message-clause-kept g c = λ trust.
    unless_after c.in-Err-replay_message.fault (g.M.Room.is_kept c.args.room.now)
    (g.M.Room.is_kept c.next_entry.new.room) (g.M.Room.is_kept c.replay_message.new.room)
    (c.in-Ok.ensures.kept (c.replay_message.ensures.trusted trust)) (c.in-Err-replay_message.ensures.kept trust)

pub returns-in-End-clause-ended : goal.returns-in-End-clause-ended
returns-in-End-clause-ended g c = λ none is. c.in-Ok.ensures.ended none (ap Ok c.in-End.is)

pub returns-in-Ok-Last-clause-ended : goal.returns-in-Ok-Last-clause-ended
returns-in-Ok-Last-clause-ended g c = λ none is. c.in-Ok-Last.ensures.ended (ap Ok c.in-Ok-Last.field-0-is)
