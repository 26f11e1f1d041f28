use Rattle.std.proofs.Common.{◌∙◌, refl, [], false, inl, inr, true}
use Rattle.std.proofs.KnownBytes.{Consumes-kept, Keeps-refl}
use Rattle.room_types.specs.declared.refusal_statuses.Refusal.TheVariants.{Memory}
use Rattle.dispatch_room_journal.specs.Entries.{message}
use Rattle.dispatch_room_journal.specs.declared.replay_faults.ReplayFault.TheVariants.{Unavailable}
use Rattle.dispatch_room_journal.proofs.FaultLemmas.{unless_known, read_due}
use Rattle.dispatch_room_journal.proofs.NextEntryLemmas.{taken, at_end, no_status_end, head_end}
use Rattle.dispatch_room_journal.proofs.StepLemmas.{left_turn, refused_stops, unread_stops, copied}
use Rattle.dispatch_room_journal.proofs.StepLemmas.{settled_played, settled_left, settled_fault}
use Rattle.dispatch_room_journal.specs.Replays.{digits_of}
use Rattle.dispatch_room_journal.specs.ReplaySteps.{IsAt}
use Rattle.dispatch_room_journal.proofs.journal_messages.replay_message.Goals as goal

pub returns-in_default-clause-turn : goal.returns-in_default-clause-turn
returns-in_default-clause-turn g c =
    let x = c.requires.front in
    let gone = taken _ (g.R.Source.left c.args.reader.now) _ _ c.args.entry.now.layout _ x.1 (Keeps-refl _) refl in (
      [],
      refused_stops true _ _ (digits_of g.M.Digested.digest_of (g.M.Room.zone c.args.room.now)) _ _ _ _
          c.args.entry.now.at x.0
          x.1.begins.0 _ false _ gone (Unavailable Memory) c.requires.sound refl
          (λ trust terminals room stood. stood)
          (inr (Memory, refl, inl refl)) (λ rest known wait bad. absurd (cc bad)),
    )

pub returns-in-Err-clause-turn : goal.returns-in-Err-clause-turn
returns-in-Err-clause-turn g c =
    let x = c.requires.front in
    let read = c.in-Err.ensures.read in
    let gone = taken _ (g.R.Source.left c.args.reader.now) _ _ c.args.entry.now.layout _ x.1 (Keeps-refl _)
    c.remove.ensures.kept in
    rw c.read_fault.ensures (
      [],
      unread_stops true _ _ (digits_of g.M.Digested.digest_of (g.M.Room.zone c.args.room.now)) _ _ _ _
          c.args.entry.now.at x.0
          x.1.begins.0 _ false _ gone c.in-Err.fault refl
          (λ trust terminals room stood. stood) read.first
          (read_due _ _ _ _ c.in-Err.fault read.says),
    )

pub returns-in-Ok-None-clause-turn : goal.returns-in-Ok-None-clause-turn
returns-in-Ok-None-clause-turn g c =
    let x = c.requires.front in
    let read = rw c.in-Ok-None.field-0-is at c.in-Ok-None.ensures.read in
    let says = read.says in
    let gone = taken _ _ _ _ c.args.entry.now.layout _ x.1 (Keeps-refl _) c.remove.ensures.kept in
    let end = at_end _ _ says.0 says.2 in (
      (
        x.0,
        left_turn _ _ _ _ _ _ _ _ (λ trust terminals room stood. stood),
        x.1.begins.0,
        Consumes-kept _ _ _ _ gone read.same,
        says.3,
        no_status_end _ end,
        head_end (IsAt (digits_of g.M.Digested.digest_of (g.M.Room.zone c.args.room.now)) _ _) _ end,
      ),
      end,
    )

pub settle-requires-clause-fits : goal.settle-requires-clause-fits
settle-requires-clause-fits g c =
    (copied _ _ c.args.entry.now.at _ _ c.requires.front.1
    (c.as_slice.ensures.value ∙ c.in-Ok.ensures.items_if_clones_equal (λ a b e. e)
    ∙ c.message.ensures (message c.args.entry.now.at c.requires.front.0) c.requires.front.1)).begins.0.2

pub returns-in-Ok-true-clause-turn : goal.returns-in-Ok-true-clause-turn
returns-in-Ok-true-clause-turn g c =
    settled_played _ g.R.Source.has_failed g.R.Source.has_ended _ _ _ _
    (digits_of g.M.Digested.digest_of (g.M.Room.zone c.args.room.now)) _ _ _ _ _ _ c.args.entry.now.at _ _ _ _
    c.requires.front.1
    (c.as_slice.ensures.value ∙ c.in-Ok.ensures.items_if_clones_equal (λ a b e. e)
    ∙ c.message.ensures (message c.args.entry.now.at c.requires.front.0) c.requires.front.1)
    c.remove.ensures.kept _ c.in-Ok-Some.field-0-is c.in-Ok-Some.ensures.read
    _ _ c.in-Ok-true.field-0-test c.in-Ok-true.ensures.turn c.remove-in-Ok-true.ensures.kept

pub returns-in-Ok-false-clause-turn : goal.returns-in-Ok-false-clause-turn
returns-in-Ok-false-clause-turn g c =
    settled_left _ g.R.Source.has_failed g.R.Source.has_ended _ _ _ _
    (digits_of g.M.Digested.digest_of (g.M.Room.zone c.args.room.now)) _ _ _ _ _ _ c.args.entry.now.at _ _ _ _
    c.requires.front.1
    (c.as_slice.ensures.value ∙ c.in-Ok.ensures.items_if_clones_equal (λ a b e. e)
    ∙ c.message.ensures (message c.args.entry.now.at c.requires.front.0) c.requires.front.1)
    c.remove.ensures.kept _ c.in-Ok-Some.field-0-is c.in-Ok-Some.ensures.read
    _ c.in-Ok-false.field-0-test c.in-Ok-false.ensures.turn

pub returns-clause-turn : goal.returns-clause-turn
returns-clause-turn g c =
    settled_fault _ g.R.Source.has_failed g.R.Source.has_ended _ _ _ _
    (digits_of g.M.Digested.digest_of (g.M.Room.zone c.args.room.now)) _ _ _ _ _ _ c.args.entry.now.at _ _ _ _
    c.requires.front.1
    (c.as_slice.ensures.value ∙ c.in-Ok.ensures.items_if_clones_equal (λ a b e. e)
    ∙ c.message.ensures (message c.args.entry.now.at c.requires.front.0) c.requires.front.1)
    c.remove.ensures.kept _ c.in-Ok-Some.field-0-is c.in-Ok-Some.ensures.read
    c.in-Err-settle.fault c.in-Err-settle.ensures.turn

pub returns-in-Err-clause-kept : goal.returns-in-Err-clause-kept
returns-in-Err-clause-kept g c =
    λ trust.
    unless_known c.read_fault.result (g.M.Room.is_kept c.args.room.now → g.M.Room.is_kept c.args.room.now) (λ was. was)

pub returns-in-Ok-None-clause-ended : goal.returns-in-Ok-None-clause-ended
returns-in-Ok-None-clause-ended g c = λ is. (rw c.in-Ok-None.field-0-is at c.in-Ok-None.ensures.read).says.1
