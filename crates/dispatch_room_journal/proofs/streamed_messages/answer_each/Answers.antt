use Rattle.std.proofs.Common.{refl, [], None, false}
use Rattle.room_http_messages.proofs.StreamLemmas.{Appends-none}
use Rattle.room_types.specs.declared.refusal_statuses.Refusal.TheVariants.{Memory}
use Rattle.dispatch_room_journal.specs.declared.replay_faults.ReplayFault.TheVariants.{Unavailable}
use Rattle.dispatch_room_journal.specs.ReplayedTurns.{IsPlayed}
use Rattle.dispatch_room_journal.proofs.FaultLemmas.{stopped_kept}
use Rattle.dispatch_room_journal.proofs.TurnLemmas.{nothing_done}
use Rattle.dispatch_room_journal.proofs.streamed_messages.answer_each.Goals as goal

pub returns-in_default-clause-answers : goal.returns-in_default-clause-answers
returns-in_default-clause-answers g c = (
  [],
  [],
  nothing_done false _ _ _ _ _ _ None IsPlayed _ _ c.memory.result c.memory.ensures c.requires.reader c.requires.writer,
  ([], ([], refl), Appends-none (g.O.Write.contents c.args.writer.now.output.now)),
)

pub returns-clause-answers : goal.returns-clause-answers
returns-clause-answers g c = (
  [],
  [],
  nothing_done false _ _ _ _ _ _ None IsPlayed _ _ c.memory-in-Err.result c.memory-in-Err.ensures c.requires.reader
      c.requires.writer,
  ([], ([], refl), Appends-none (g.O.Write.contents c.args.writer.now.output.now)),
)

pub returns-in_default-clause-kept : goal.returns-in_default-clause-kept
returns-in_default-clause-kept g c =
    λ trust.
    stopped_kept _ (Unavailable Memory) _ (g.M.Room.is_kept c.args.room.now → g.M.Room.is_kept c.args.room.now)
    c.memory.ensures tt

pub returns-clause-kept : goal.returns-clause-kept
returns-clause-kept g c =
    λ trust.
    stopped_kept _ (Unavailable Memory) _ (g.M.Room.is_kept c.args.room.now → g.M.Room.is_kept c.args.room.now)
    c.memory-in-Err.ensures tt
