use Rattle.std.proofs.Common.{List, [], arith, inl, length, subst, sym, take, ◌++◌, ◌+◌, ◌∙◌, ◌∷◌}
use Rattle.std.proofs.Common.{◌≡◌}
use Rattle.std.proofs.lemmas.List.{take_more}
use Rattle.sqlite.specs.Held.{state}
use Rattle.sqlite.specs.State.{HasCleanDisk}
use Rattle.room_model.specs.Run.{room_run}
use Rattle.room_store.proofs.EventLaws.{answers_more, events_left, events_survive, next_addressed}
use Rattle.room_store.proofs.EventLaws.{run_more}
use Rattle.room_store.proofs.KnownLaws.{knows_nothing}
use Rattle.room_store.proofs.StoreLaws.{kept_stands, room_left}
use Rattle.room_store.specs.StoredRoom.{IsRoom}
use Rattle.room_tables_schema.specs.FileConnections.{IsClean}
use Rattle.room_store.proofs.store.Store.run.Goals as goal

pub loop-event-preserved : goal.loop-event-preserved
loop-event-preserved g c =
    let first = c.args.self.now in
    let mid = c.loop-event.self in
    let new = c.answer.new.self in
    let before = c.loop-event.invariant in
    let events = c.args.events.now in
    let i = c.loop-event.event-index in
    let event = c.event-item.result in
    let more : take (i + 1) events
    ≡ take i events ++ event ∷ [] = rw c.event-item.is (take_more events i _ c.loop-event-test.true) in
    let early = λ (clean : IsClean g.S.Store new.conn).
    let h : IsClean g.S.Store mid.conn = omega (arith, c.answer.ensures.survives.clean) in h in
    record {
      ready = c.answer.ensures.ready;
      plan = c.answer.ensures.plan ∙ before.plan;
      known = c.answer.ensures.known ∙ before.known;
      still_open = λ clean is_open. (c.in-Ok.ensures.settled clean).is_open;
      kept =
          λ clean kept.
          record { is_open = (c.in-Ok.ensures.settled clean).is_open; only_left = c.in-Ok.ensures.only_left clean };
      done = λ clean terminals room is all.
          let done = before.done (early clean) terminals room is all in
          let at = room_run (take i events) room in
          let addressed = next_addressed events i event more room all in (
            subst (λ r. IsRoom g.S.Store new terminals r) (sym (run_more events i event more room))
                (c.in-Ok.ensures.ok clean terminals at done.0 addressed),
            answers_more events i event more room _ _ _ done.1
                (c.in-Ok.ensures.answer clean terminals at done.0 addressed),
          );
      survives =
          events_survive events i event more g.S.Store first mid new before.plan before.still_open
          (λ clean terminals room is all. (before.done clean terminals room is all).0) before.survives
          c.answer.ensures.survives;
    }

pub returns-in-Err-clause-run : goal.returns-in-Err-clause-run
returns-in-Err-clause-run g c clean terminals room is all =
    let early : HasCleanDisk (state g.S.Store c.loop-event.self.conn) = omega
    (arith, c.answer.ensures.survives.clean) in
    let done = c.loop-event.invariant.done early terminals room is all in
    let events = c.args.events.now in
    let i = c.loop-event.event-index in
    let event = c.event-item.result in
    let more : take (i + 1) events
    ≡ take i events ++ event ∷ [] = rw c.event-item.is (take_more events i _ c.loop-event-test.true) in (
      record {
        count = i;
        within = omega (arith, c.loop-event-test.true);
        added = rw c.in-Err.ensures.kept done.1;
        stands =
            room_left g.S.Store c.loop-event.self c.answer.new.self terminals (room_run (take i events) room)
            (c.in-Err.ensures.err clean) c.answer.ensures.plan (rw c.answer.ensures.known done.0.known)
            (knows_nothing c.answer.new.self.cache (room_run (take i events) room) c.in-Err.ensures.failed) done.0;
        left =
            λ kept.
            events_left events i event more g.S.Store c.args.self.now c.loop-event.self c.answer.new.self terminals room
            c.loop-event.invariant.plan (c.loop-event.invariant.kept early kept) done.0 all clean
            c.answer.ensures.survives;
      },
      tt,
    )

pub returns-in-Err-clause-survives : goal.returns-in-Err-clause-survives
returns-in-Err-clause-survives g c =
    let before = c.loop-event.invariant in
    let events = c.args.events.now in
    let i = c.loop-event.event-index in
    let event = c.event-item.result in
    let more : take (i + 1) events
    ≡ take i events ++ event ∷ [] = rw c.event-item.is (take_more events i _ c.loop-event-test.true) in
    events_survive events i event more g.S.Store c.args.self.now c.loop-event.self c.answer.new.self before.plan
    before.still_open (λ clean terminals room is all. (before.done clean terminals room is all).0) before.survives
    c.answer.ensures.survives

pub returns-clause-run : goal.returns-clause-run
returns-clause-run g c clean terminals room is all =
    let done = c.loop-event.invariant.done clean terminals room is all in
    let whole : c.loop-event.event-index
    ≡ length c.args.events.now = omega (arith, c.loop-event-test.false, c.loop-event.auto.event-index-end) in (
      record {
        count = c.loop-event.event-index;
        within = omega (arith, whole);
        added = done.1;
        stands = done.0;
        left =
            λ kept db left.
            inl (rw (sym c.loop-event.invariant.plan)
            (kept_stands g.S.Store c.loop-event.self _ _ (c.loop-event.invariant.kept clean kept) done.0 db left));
      },
      whole,
    )
