use Rattle.std.proofs.Common.{◌≡◌, refl, inl, subst}
use Rattle.room_model.specs.declared.digests.StartDigest.{StartDigest}
use Rattle.dispatch_room_journal.specs.Entries.{room}
use Rattle.dispatch_room_journal.proofs.FaultLemmas.{unless_after}
use Rattle.dispatch_room_journal.proofs.StepLemmas.{left_turn, caught_turn, stops_open}
use Rattle.dispatch_room_journal.specs.Replays.{IsHeadOf, digits_of}
use Rattle.dispatch_room_journal.proofs.replay_outcomes.replay_unanswered.Goals as goal

pub returns-in-Ok-true-clause-turn : goal.returns-in-Ok-true-clause-turn
returns-in-Ok-true-clause-turn g c = (
  left_turn _ _ _ _ _ _ _ _ c.is_at.ensures.same,
  λ status is. absurd (cc is),
  λ head is trust terminals held stood.
      let same : c.args.head.now ≡ head = cc is in
      subst (λ (h : StartDigest). IsHeadOf (digits_of g.M.Digested.digest_of (g.M.Room.zone c.args.room.now)) h terminals held)
      same
      ((c.in-Ok-true.ensures.says trust terminals held stood).0 c.in-Ok-true.field-0-test),
)

pub returns-in-Ok-clause-turn : goal.returns-in-Ok-clause-turn
returns-in-Ok-clause-turn g c = (
  room c.args.head.now,
  tt,
  refl,
  caught_turn _ _ _ _ _ c.play_towards.ensures.trusted _ _ _ _ _ _ c.in-Ok-false.field-0 c.is_at.ensures.same
      c.in-Ok-false.ensures.says c.in-Ok-false.field-0-test
      (rw c.is_at.ensures.zone at c.in-Ok.ensures.plays),
)

pub returns-in-Err-play_towards-clause-turn : goal.returns-in-Err-play_towards-clause-turn
returns-in-Err-play_towards-clause-turn g c =
    stops_open _ _ (digits_of g.M.Digested.digest_of (g.M.Room.zone c.args.room.now)) _ _ c.play_towards.ensures.trusted
    _ _ _ _ _ _ c.in-Ok-false.field-0 c.in-Err-play_towards.fault
    c.is_at.ensures.same c.in-Ok-false.ensures.says c.in-Ok-false.field-0-test
    (rw c.is_at.ensures.zone at c.in-Err-play_towards.ensures.plays)

pub returns-in-Err-clause-turn : goal.returns-in-Err-clause-turn
returns-in-Err-clause-turn g c = inl (c.is_at.ensures.same, inl (inl c.in-Err.ensures.unavailable))

pub returns-in-Err-play_towards-clause-kept : goal.returns-in-Err-play_towards-clause-kept
returns-in-Err-play_towards-clause-kept g c = λ trust.
    unless_after c.in-Err-play_towards.fault (g.M.Room.is_kept c.args.room.now) (g.M.Room.is_kept c.is_at.new.room)
    (g.M.Room.is_kept c.play_towards.new.room)
    (c.in-Ok-false.ensures.kept (c.play_towards.ensures.trusted trust)) (c.in-Err-play_towards.ensures.kept trust)
