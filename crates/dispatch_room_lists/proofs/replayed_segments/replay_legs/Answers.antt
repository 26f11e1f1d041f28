use Rattle.std.proofs.Common.{◌∙◌, Ok, arith, inl, inr, refl}
use Rattle.dispatch_room_lists.proofs.LegLemmas.{ends_here, first_leg, next_leg, so_many, spent_by}
use Rattle.dispatch_room_lists.proofs.LegLemmas.{whole_leg}
use Rattle.dispatch_room_lists.specs.ReplayedLegs.{StandsBehind}
use Rattle.room_tables.proofs.ReadFailures.{holds_on}
use Rattle.dispatch_room_lists.proofs.replayed_segments.replay_legs.Goals as goal

pub loop-segment-init : goal.loop-segment-init
loop-segment-init g c =
    let first = first_leg _ _
    (StandsBehind g.L.Source.left g.L.Source.has_ended g.L.Segments.takes c.args.course.now.replay.now) _ _ _ _ _ _
    (c.replay_leg-came.ensures.segment 0) in
    record {
      same_reference = c.replay_leg-came.ensures.same_reference;
      ready = c.replay_leg-came.ensures.goes.ready;
      set = rw (c.replay_leg-came.ensures.goes.zone, c.replay_leg-came.ensures.setting) c.requires.set;
      trusted = c.replay_leg-came.ensures.goes.trusted;
      segments = first.0;
      read = c.replay_leg-came.ensures.ended;
      many = first.1;
    }

pub loop-segment-preserved : goal.loop-segment-preserved
loop-segment-preserved g c =
    let before = c.loop-segment.invariant in
    let next = c.replay_leg-came-in-loop-segment.ensures in
    let followed = c.in_ok-goes_on.ensures in
    let between = rw c.in-Ok-true.is at followed.between in
    let set = followed.goes.set _ before.set in
    let more =
    next_leg _ _ _ _ c.loop-segment.stage.room c.loop-segment.before c.in-Ok.replayed _ between.0 between.1 _ _ _ _ _ _ _ _ _
    before.segments c.in-Ok.is before.many (rw c.in-Ok-true.field-0-test at between.3) followed.goes.trusted set
    c.saturating_add-before.ensures (next.segment c.saturating_add-before.result)
    (record {
      read = c.loop-segment.list;
      now = _;
      ended = λ all. rw c.in-Ok.is at before.read all;
      takes = between.2;
      is_left = refl;
    }) in
    record {
      same_reference = next.same_reference ∙ before.same_reference;
      ready = next.goes.ready;
      set = rw (next.goes.zone, next.setting) set;
      trusted = λ clean. before.trusted (followed.goes.trusted (next.goes.trusted clean));
      segments = more.0;
      read = next.ended;
      many = more.1;
    }

pub returns-in-Err-clause-played : goal.returns-in-Err-clause-played
returns-in-Err-clause-played g c =
    let goes = c.in_ok-goes_on.ensures.goes in
    rw c.room_of-in-Err.ensures (record {
      ready = goes.ready;
      trusted = λ clean. c.loop-segment.invariant.trusted (goes.trusted clean);
      segments = inr (record {
        stood = c.loop-segment.stage.room;
        before = c.loop-segment.before;
        replayed = c.in-Ok.replayed;
        segment = whole_leg _ _ _ _ _ _ _ _ _ _ _ _ (rw c.in-Ok.is at c.loop-segment.invariant.segments);
        clean = goes.trusted;
        fault = c.in-Err.fault;
        why = elim (rw c.in-Err.is at c.in_ok-goes_on.ensures.fault) [
          | inl unread ↦ inl unread
          | inr other ↦ elim other [
            | inl memory ↦ inr (inl memory)
            | inr is ↦ inr (inr (
              is.0,
              is.1,
              (
                _,
                record {
                  read = c.loop-segment.list;
                  now = _;
                  ended = λ all. rw c.in-Ok.is at c.loop-segment.invariant.read all;
                  takes = is.2;
                  is_left = refl;
                },
              ),
              is.3,
            ))
          ]
        ];
        failed = c.stopped_behind.ensures;
      });
    })

pub returns-in_default-clause-played : goal.returns-in_default-clause-played
returns-in_default-clause-played g c =
    let before = c.loop-segment.invariant in
    rw c.room_of.ensures (record {
      ready = before.ready;
      trusted = before.trusted;
      segments = inl (c.loop-segment.before, c.loop-segment.came, before.segments, c.in_all.ensures, cc);
    })

pub returns-in_err-goes_on-clause-lost : goal.returns-in_err-goes_on-clause-lost
returns-in_err-goes_on-clause-lost g c =
    let lost = c.in_err-goes_on.ensures.lost in
    holds_on c.from_residual.result _ _ c.from_residual.ensures.1 (record {
      stood = c.loop-segment.stage.room;
      before = c.loop-segment.before;
      replayed = c.in-Ok.replayed;
      segment = whole_leg _ _ _ _ _ _ _ _ _ _ _ _ (rw c.in-Ok.is at c.loop-segment.invariant.segments);
      rows = lost.0;
      head = lost.1;
      next = _;
      stands = record {
        read = c.loop-segment.list;
        now = _;
        ended = λ all. rw c.in-Ok.is at c.loop-segment.invariant.read all;
        takes = lost.2;
        is_left = refl;
      };
      lost = lost.3;
    })

pub returns-in-Ok-false-clause-played : goal.returns-in-Ok-false-clause-played
returns-in-Ok-false-clause-played g c =
    let before = c.loop-segment.invariant in
    let goes = c.in_ok-goes_on.ensures.goes in
    let between = rw c.in-Ok-false.is at c.in_ok-goes_on.ensures.between in
    let by = rw c.in-Ok-false.field-0-test at between.3 in
    rw c.room_of-in-Ok-false.ensures (record {
      ready = goes.ready;
      trusted = λ clean. before.trusted (goes.trusted clean);
      segments = inl (
        c.loop-segment.before,
        Ok c.in-Ok.replayed,
        ends_here _ _ _ _ _ _ _ _ _ _ _ _ _ between.0 between.1 (rw c.in-Ok.is at before.segments) by,
        c.in_all-in-Ok-false.ensures,
        inl (spent_by _ _ _ _ between.0 between.1 _ (record {
          read = c.loop-segment.list;
          now = _;
          ended = λ all. rw c.in-Ok.is at before.read all;
          takes = between.2;
          is_left = refl;
        }) by),
      );
    })

pub returns-clause-played : goal.returns-clause-played
returns-clause-played g c =
    let before = c.loop-segment.invariant in
    rw c.room_of-2.ensures (record {
      ready = before.ready;
      trusted = before.trusted;
      segments = inl (
        c.loop-segment.before,
        c.loop-segment.came,
        before.segments,
        c.in_all-2.ensures,
        so_many _ _ _ (omega (arith, before.many, c.loop-segment-test.false)),
      );
    })
