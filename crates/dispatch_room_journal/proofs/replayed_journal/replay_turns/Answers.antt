use Rattle.std.proofs.Common.{Ok, ◌∙◌, refl, ap, arith, ◌+◌, ◌-◌, ◌^◌, min, [], ◌++◌, length-append}
use Rattle.std.proofs.Common.{true}
use Rattle.room_http.proofs.StreamLemmas.{Keeps-prepend}
use Rattle.dispatch_room_journal.specs.declared.replay_faults.ReplayFault.TheVariants.{Bad}
use Rattle.dispatch_room_journal.specs.declared.replay_progress.Progress.{Progress}
use Rattle.dispatch_room_journal.specs.ReplayedTurns.{IsReplayed}
use Rattle.dispatch_room_journal.proofs.FaultLemmas.{unless_after, stopped_kept}
use Rattle.dispatch_room_journal.proofs.TurnLemmas.{new_progress, passes_none, passes_more, ended}
use Rattle.dispatch_room_journal.proofs.TurnLemmas.{stopped, exhausted}
use Rattle.dispatch_room_journal.specs.Replays.{digits_of}
use Rattle.dispatch_room_journal.proofs.replayed_journal.replay_turns.Goals as goal

pub turns-init : goal.turns-init
turns-init g c = record {
  going = (
    [],
    passes_none _ _ _ _ _ _ _ _ _ IsReplayed (Keeps-prepend c.args.inbox.now.kept _ c.requires.empty)
        (λ trust terminals room stood. stood),
    new_progress _ c.new-progress.ensures,
    refl,
  );
  zone = refl;
  trusted = λ trust. trust;
  kept = λ trust was. was;
  reader = c.requires.reader;
  ready = c.requires.ready;
}

pub turns-preserved : goal.turns-preserved
turns-preserved g c =
    let going = c.turns.invariant.going in
    let turn = (rw c.turns.invariant.zone at c.in-Ok-true.ensures.turn) in
    let earlier = c.replay_turn.ensures.trusted in record {
      going = (
        going.0 ++ turn.0,
        passes_more _ _ _ _ _ earlier _ _ _ going.0 turn.0 _ _ _ IsReplayed going.1 _
            (turn.3 c.in-Ok-true.field-0-test).1 turn.1,
        turn.2 going.0 going.2,
        omega (arith, length-append going.0 turn.0, going.3, (turn.3 c.in-Ok-true.field-0-test).1),
      );
      zone = c.replay_turn.ensures.zone ∙ c.turns.invariant.zone;
      trusted = λ trust. c.turns.invariant.trusted (earlier trust);
      kept = λ trust was. c.in-Ok-true.ensures.kept trust (c.turns.invariant.kept (earlier trust) was);
      reader = (turn.3 c.in-Ok-true.field-0-test).0;
      ready = c.replay_turn.ensures.ready;
    }

pub returns-in-Ok-false-clause-replay : goal.returns-in-Ok-false-clause-replay
returns-in-Ok-false-clause-replay g c =
    let going = c.turns.invariant.going in
    let turn = (rw c.turns.invariant.zone at c.in-Ok-false.ensures.turn) in
    let progress = turn.2 going.0 going.2 in
    let x = ended _ _ _ _ _ c.replay_turn.ensures.trusted _ _ _ going.0 turn.0 _ _ _ IsReplayed going.1 _ _ turn.1
    (turn.4 c.in-Ok-false.field-0-test) progress in (
      going.0 ++ turn.0,
      x.0,
      x.1,
      x.2,
      ap (λ r. r.messages) c.done.ensures ∙ progress.messages,
      ap (λ r. r.is_open) c.done.ensures ∙ progress.opens,
    )

pub returns-in-Err-clause-replay : goal.returns-in-Err-clause-replay
returns-in-Err-clause-replay g c =
    let going = c.turns.invariant.going in
    let turn = (rw c.turns.invariant.zone at c.in-Err.ensures.turn) in
    let stops = stopped _ _ _ _ _ c.replay_turn.ensures.trusted _ _ _ going.0 turn.0 _ _ _ IsReplayed going.1 true
    c.turns.progress going.2 c.in-Err.fault _ _ _
    (c.stopped.ensures
    ∙ ap (λ (p : Progress). record { fault = c.in-Err.fault; number = min (p.messages + 1) (2 ^ 64 - 1) }) turn.2)
    turn.1 in
    (going.0, turn.0, stops)

pub returns-clause-replay : goal.returns-clause-replay
returns-clause-replay g c =
    let going = c.turns.invariant.going in
    let stops = exhausted _ _ (digits_of g.M.Digested.digest_of (g.M.Room.zone c.args.room.now)) _ _ _ _ _ _ IsReplayed
    going.0 true c.turns.progress _ _ _ going.1 going.2
    c.stopped-2.ensures (omega (arith, going.3))
    c.turns.invariant.reader refl in
    (going.0, [], stops)

pub returns-in-Err-clause-kept : goal.returns-in-Err-clause-kept
returns-in-Err-clause-kept g c = λ trust.
    stopped_kept _ c.in-Err.fault _ (g.M.Room.is_kept c.args.room.now → g.M.Room.is_kept c.replay_turn.new.room)
    c.stopped.ensures
    (unless_after c.in-Err.fault (g.M.Room.is_kept c.args.room.now) (g.M.Room.is_kept c.turns.room)
    (g.M.Room.is_kept c.replay_turn.new.room)
    (c.turns.invariant.kept (c.replay_turn.ensures.trusted trust)) (c.in-Err.ensures.kept trust))

pub returns-clause-kept : goal.returns-clause-kept
returns-clause-kept g c =
    λ trust.
    stopped_kept _ Bad _ (g.M.Room.is_kept c.args.room.now → g.M.Room.is_kept c.turns.room) c.stopped-2.ensures
    (c.turns.invariant.kept trust)

pub returns-in-Ok-false-clause-ended : goal.returns-in-Ok-false-clause-ended
returns-in-Ok-false-clause-ended g c = λ none. c.in-Ok-false.ensures.ended none (ap Ok c.in-Ok-false.field-0-test)
