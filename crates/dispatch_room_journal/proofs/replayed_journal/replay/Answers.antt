use Rattle.std.proofs.Common.{refl, [], true}
use Rattle.room_types.specs.declared.refusal_statuses.Refusal.TheVariants.{Memory}
use Rattle.dispatch_room_journal.specs.declared.replay_faults.ReplayFault.TheVariants.{Unavailable}
use Rattle.dispatch_room_journal.specs.ReplayedTurns.{IsReplayed}
use Rattle.dispatch_room_journal.proofs.FaultLemmas.{stopped_kept}
use Rattle.dispatch_room_journal.proofs.TurnLemmas.{nothing_done}
use Rattle.dispatch_room_journal.proofs.replayed_journal.replay.Goals as goal

pub returns-in_default-clause-replay : goal.returns-in_default-clause-replay
returns-in_default-clause-replay g c =
    ([], [], nothing_done true _ _ _ _ _ _ _ IsReplayed _ _ c.memory.result c.memory.ensures c.requires.reader refl)

pub returns-clause-replay : goal.returns-clause-replay
returns-clause-replay g c = (
  [],
  [],
  nothing_done true _ _ _ _ _ _ _ IsReplayed _ _ c.memory-in-Err.result c.memory-in-Err.ensures c.requires.reader refl,
)

pub returns-in_default-clause-kept : goal.returns-in_default-clause-kept
returns-in_default-clause-kept g c =
    λ trust.
    stopped_kept _ (Unavailable Memory) _ (g.M.Room.is_kept c.args.room.now → g.M.Room.is_kept c.args.room.now)
    c.memory.ensures tt

pub returns-clause-kept : goal.returns-clause-kept
returns-clause-kept g c =
    λ trust.
    stopped_kept _ (Unavailable Memory) _ (g.M.Room.is_kept c.args.room.now → g.M.Room.is_kept c.args.room.now)
    c.memory-in-Err.ensures tt
