use Rattle.std.proofs.Common.{refl, sym, ap, ◌∙◌, inl}
use Rattle.dispatch_room_journal.specs.Entries.{answer}
use Rattle.dispatch_room_journal.specs.JournalRecords.{status_in}
use Rattle.dispatch_room_journal.proofs.FaultLemmas.{not_both}
use Rattle.dispatch_room_journal.proofs.StepLemmas.{answered_turn, differs_stops, refuses_at}
use Rattle.dispatch_room_journal.specs.Replays.{digits_of}
use Rattle.dispatch_room_journal.proofs.replay_outcomes.play_answered.Goals as goal

pub returns-then-has_status-clause-turn : goal.returns-then-has_status-clause-turn
returns-then-has_status-clause-turn g c = (
  answer c.args.status,
  tt,
  refl,
  answered_turn _ _ _ _ _ _ _ _ c.in-Ok.response.items c.args.status c.in-Ok.ensures.plays
      (ap status_in (sym c.as_slice.ensures.value) ∙ c.has_status.ensures.0 c.if-has_status.true),
)

pub returns-in-Ok-clause-turn : goal.returns-in-Ok-clause-turn
returns-in-Ok-clause-turn g c =
    differs_stops _ _ (digits_of g.M.Digested.digest_of (g.M.Room.zone c.args.room.now)) _ _ _ _ _
    c.in-Ok.response.items
    c.args.status c.in-Ok.ensures.plays
    (λ same. not_both _ c.if-has_status.false (c.has_status.ensures.1 (ap status_in c.as_slice.ensures.value ∙ same)))

pub returns-clause-turn : goal.returns-clause-turn
returns-clause-turn g c =
    let refused = c.in-Err.ensures.plays in
    inl (
      refused.0,
      inl (refuses_at g.M.Room.step c.args.handler.now.setting
          (digits_of g.M.Digested.digest_of (g.M.Room.zone c.args.room.now)) _ _ _ c.args.at _ _ c.in-Err.fault
          (inl (c.args.status, refl)) refused.1),
    )
