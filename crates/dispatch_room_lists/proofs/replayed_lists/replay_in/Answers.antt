use Rattle.std.proofs.Common.{◌≡◌, Err, Ok, refl, rules}
use Rattle.dispatch_room_journal.proofs.FaultLemmas.{not_both}
use Rattle.room_tables.proofs.ReadFailures.{holds_on}
use Rattle.dispatch_room_lists.proofs.replayed_lists.replay_in.Goals as goal

pub returns-in_err-came-clause-lost : goal.returns-in_err-came-clause-lost
returns-in_err-came-clause-lost g c =
    let same : c.replay_legs.new.out.output.now ≡ c.out-1.given.0 = search rules in
    holds_on c.from_residual.result _ _ c.from_residual.ensures.1
    (record {
      unprinted = λ unasked. absurd (not_both _ unasked c.if-course.true);
      answered = λ asked. rw same at rw c.new-writer.ensures.output at c.in_err-came.ensures.lost;
    })

pub returns-in_err-came-2-clause-lost : goal.returns-in_err-came-2-clause-lost
returns-in_err-came-2-clause-lost g c =
    holds_on c.from_residual-in_err-came-2.result _ _ c.from_residual-in_err-came-2.ensures.1
    (record {
      unprinted = λ unasked. (refl, c.in_err-came-2.ensures.lost);
      answered = λ asked. absurd (not_both _ c.if-course.false asked);
    })

pub returns-then-course-clause-played : goal.returns-then-course-clause-played
returns-then-course-clause-played g c =
    let same : c.replay_legs.new.out.output.now ≡ c.out-1.given.0 = search rules in
    let played = rw same at rw c.new-writer.ensures.output at c.in_ok-came.ensures.played in
    record {
      ready = played.ready;
      trusted = played.trusted;
      replayed = λ unasked. absurd (not_both _ unasked c.if-course.true);
      answered =
          λ asked. record { write_failed = _; result = c.in_ok-came.came; is = played.segments; ends = c.answered.ensures };
    }

pub returns-in-Ok-clause-played : goal.returns-in-Ok-clause-played
returns-in-Ok-clause-played g c =
    let played = rw c.in-Ok.is at c.in_ok-came-2.ensures.played in
    record {
      ready = played.ready;
      trusted = played.trusted;
      replayed =
          λ unasked. record {
            write_failed = _;
            result = Ok c.in-Ok.replayed;
            is = played.segments;
            printed = c.print_replayed.ensures;
          };
      answered = λ asked. absurd (not_both _ c.if-course.false asked);
    }

pub returns-in-Err-clause-played : goal.returns-in-Err-clause-played
returns-in-Err-clause-played g c =
    let played = rw c.in-Err.is at c.in_ok-came-2.ensures.played in
    record {
      ready = played.ready;
      trusted = played.trusted;
      replayed = λ unasked.
          record { write_failed = _; result = Err c.in-Err.stopped; is = played.segments; printed = c.failure_of.ensures };
      answered = λ asked. absurd (not_both _ c.if-course.false asked);
    }
