use Rattle.std.proofs.Common.{Ok, ◌∙◌, refl, ap, subst, sym, arith, ℕ, ◌+◌, ◌-◌, ◌^◌, min, List, []}
use Rattle.std.proofs.Common.{◌++◌, append-nil, length-append, None, false}
use Rattle.std.specs.Io.KnownBytes.{Appends}
use Rattle.room_http_messages.proofs.StreamLemmas.{Appends-more, Appends-none}
use Rattle.room_http.proofs.StreamLemmas.{Keeps-prepend}
use Rattle.dispatch_room_journal.specs.declared.replay_faults.ReplayFault.TheVariants.{Bad}
use Rattle.dispatch_room_journal.specs.AnswerFrames.{frames_of}
use Rattle.dispatch_room_journal.specs.declared.replay_progress.Progress.{Progress}
use Rattle.dispatch_room_journal.specs.ReplayedTurns.{IsPlayed}
use Rattle.dispatch_room_journal.proofs.FaultLemmas.{unless_after, stopped_kept}
use Rattle.dispatch_room_journal.proofs.FrameLemmas.{frames_more}
use Rattle.dispatch_room_journal.proofs.TurnLemmas.{new_progress, passes_none, passes_more, ended}
use Rattle.dispatch_room_journal.proofs.TurnLemmas.{stopped, exhausted}
use Rattle.dispatch_room_journal.specs.Replays.{digits_of}
use Rattle.dispatch_room_journal.proofs.streamed_messages.answer_turns.Goals as goal

pub turns-init : goal.turns-init
turns-init g c = record {
  same_reference = refl;
  going = (
    [],
    passes_none _ _ _ _ _ _ _ _ _ IsPlayed (Keeps-prepend c.args.inbox.now.kept _ c.requires.empty)
        (λ trust terminals room stood. stood),
    new_progress _ c.new-progress.ensures,
    Appends-none (g.O.Write.contents c.args.writer.now.output.now),
    refl,
  );
  zone = refl;
  trusted = λ trust. trust;
  kept = λ trust was. was;
  reader = c.requires.reader;
  writer = c.requires.writer;
  ready = c.requires.ready;
}

pub turns-preserved : goal.turns-preserved
turns-preserved g c =
    let going = c.turns.invariant.going in
    let turn = (rw c.turns.invariant.zone at c.in-Ok-true.ensures.turn) in
    let earlier = c.answer_turn.ensures.trusted in record {
      same_reference = c.answer_turn.ensures.same_reference ∙ c.turns.invariant.same_reference;
      going = (
        going.0 ++ turn.0,
        passes_more _ _ _ _ _ earlier _ _ _ going.0 turn.0 _ _ _ IsPlayed going.1 _ (turn.3 c.in-Ok-true.field-0-test).2
            turn.1,
        turn.2 going.0 going.2,
        frames_more _ _ _ going.0 turn.0 going.3 turn.5,
        omega (arith, length-append going.0 turn.0, going.4, (turn.3 c.in-Ok-true.field-0-test).2),
      );
      zone = c.answer_turn.ensures.zone ∙ c.turns.invariant.zone;
      trusted = λ trust. c.turns.invariant.trusted (earlier trust);
      kept = λ trust was. c.in-Ok-true.ensures.kept trust (c.turns.invariant.kept (earlier trust) was);
      reader = (turn.3 c.in-Ok-true.field-0-test).0;
      writer = (turn.3 c.in-Ok-true.field-0-test).1;
      ready = c.answer_turn.ensures.ready;
    }

pub returns-in-Ok-false-clause-answers : goal.returns-in-Ok-false-clause-answers
returns-in-Ok-false-clause-answers g c =
    let going = c.turns.invariant.going in
    let turn = (rw c.turns.invariant.zone at c.in-Ok-false.ensures.turn) in
    let progress = turn.2 going.0 going.2 in
    let x = ended _ _ _ _ _ c.answer_turn.ensures.trusted _ _ _ going.0 turn.0 _ _ _ IsPlayed going.1 _ _ turn.1
    (turn.4 c.in-Ok-false.field-0-test) progress in
    (going.0 ++ turn.0, x.0, x.1, x.2, progress.messages, frames_more _ _ _ going.0 turn.0 going.3 turn.5)

pub returns-in-Err-clause-answers : goal.returns-in-Err-clause-answers
returns-in-Err-clause-answers g c =
    let going = c.turns.invariant.going in
    let turn = (rw c.turns.invariant.zone at c.in-Err.ensures.turn) in
    let stops = stopped _ _ _ _ _ c.answer_turn.ensures.trusted _ _ _ going.0 turn.0 _ _ _ IsPlayed going.1 false
    c.turns.progress going.2 c.in-Err.fault _ _ _
    (c.stopped.ensures
    ∙ ap (λ (p : Progress). record { fault = c.in-Err.fault; number = min (p.messages + 1) (2 ^ 64 - 1) }) turn.2)
    turn.1 in
    (going.0, turn.0, stops, (turn.3, turn.4, Appends-more _ _ _ (frames_of going.0) turn.3 going.3 turn.5))

pub returns-clause-answers : goal.returns-clause-answers
returns-clause-answers g c =
    let going = c.turns.invariant.going in
    let stops = exhausted _ _ (digits_of g.M.Digested.digest_of (g.M.Room.zone c.args.room.now)) _ _ _ _ _ None IsPlayed
    going.0 false c.turns.progress _ _ _ going.1 going.2
    c.stopped-2.ensures (omega (arith, going.4))
    c.turns.invariant.reader c.turns.invariant.writer in (
      going.0,
      [],
      stops,
      (
        [],
        ([], refl),
        subst
            (λ (t : List ℕ). Appends (g.O.Write.contents c.args.writer.now.output.now)
            (g.O.Write.contents c.turns.writer.output.now) t)
            (sym (append-nil (frames_of going.0))) going.3,
      ),
    )

pub returns-in-Err-clause-kept : goal.returns-in-Err-clause-kept
returns-in-Err-clause-kept g c = λ trust.
    stopped_kept _ c.in-Err.fault _ (g.M.Room.is_kept c.args.room.now → g.M.Room.is_kept c.answer_turn.new.room)
    c.stopped.ensures
    (unless_after c.in-Err.fault (g.M.Room.is_kept c.args.room.now) (g.M.Room.is_kept c.turns.room)
    (g.M.Room.is_kept c.answer_turn.new.room)
    (c.turns.invariant.kept (c.answer_turn.ensures.trusted trust)) (c.in-Err.ensures.kept trust))

pub returns-clause-kept : goal.returns-clause-kept
returns-clause-kept g c =
    λ trust.
    stopped_kept _ Bad _ (g.M.Room.is_kept c.args.room.now → g.M.Room.is_kept c.turns.room) c.stopped-2.ensures
    (c.turns.invariant.kept trust)

pub returns-in-Ok-false-clause-ended : goal.returns-in-Ok-false-clause-ended
returns-in-Ok-false-clause-ended g c = c.in-Ok-false.ensures.ended (ap Ok c.in-Ok-false.field-0-test)
