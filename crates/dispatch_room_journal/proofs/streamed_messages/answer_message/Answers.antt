use Rattle.std.proofs.Common.{◌∙◌, sym, subst, refl, Ok, ℕ, List, [], append-nil, false}
use Rattle.std.specs.Io.KnownBytes.{prepend_known}
use Rattle.std.proofs.KnownBytes.{Keeps-refl}
use Rattle.room_http_messages.proofs.StreamLemmas.{Appends-none}
use Rattle.dispatch_room_journal.specs.Entries.{message}
use Rattle.dispatch_room_journal.specs.EntryPrefixes.{IsLayout}
use Rattle.dispatch_room_journal.specs.declared.replay_faults.ReplayFault.TheVariants.{WriteFailed}
use Rattle.dispatch_room_journal.specs.AnswerFrames.{frame_of, FollowIs}
use Rattle.dispatch_room_journal.proofs.FaultLemmas.{unless_known, due_with}
use Rattle.dispatch_room_journal.proofs.NextEntryLemmas.{taken, begins_front}
use Rattle.dispatch_room_journal.proofs.StepLemmas.{refused_stops}
use Rattle.dispatch_room_journal.proofs.FrameLemmas.{each_stops, each_follows, each_done}
use Rattle.dispatch_room_journal.specs.Replays.{digits_of}
use Rattle.dispatch_room_journal.proofs.streamed_messages.answer_message.Goals as goal

pub play-requires-clause-fits : goal.play-requires-clause-fits
play-requires-clause-fits g c =
    let x = c.requires.front in
    let same = c.message.ensures (message c.args.entry.now.at x.0) x.1 in
    let front : IsLayout c.args.inbox.now.kept c.args.entry.now.layout
    (message c.args.entry.now.at c.message.result.now) =
    subst (λ (t : List ℕ). IsLayout c.args.inbox.now.kept c.args.entry.now.layout (message c.args.entry.now.at t))
    (sym same) x.1 in
    front.begins.0.2

pub returns-in-Err-clause-turn : goal.returns-in-Err-clause-turn
returns-in-Err-clause-turn g c =
    let x = c.requires.front in
    let same = c.message.ensures (message c.args.entry.now.at x.0) x.1 in
    let front : IsLayout c.args.inbox.now.kept c.args.entry.now.layout
    (message c.args.entry.now.at c.message.result.now) =
    subst (λ (t : List ℕ). IsLayout c.args.inbox.now.kept c.args.entry.now.layout (message c.args.entry.now.at t))
    (sym same) x.1 in
    let gone = taken _ (g.R.Source.left c.args.reader.now) _ _ c.args.entry.now.layout _ front (Keeps-refl _) refl in
    let plays = c.in-Err.ensures.plays in (
      [],
      refused_stops false _ _ (digits_of g.M.Digested.digest_of (g.M.Room.zone c.args.room.now)) _ _ _ _
          c.args.entry.now.at
          c.message.result.now front.begins.0 _ _ _ gone c.in-Err.fault
          c.requires.reader c.requires.writer plays.0 plays.1
          (λ rest known never bad. absurd (cc never)),
      [],
      ([], refl),
      Appends-none (g.O.Write.contents c.args.writer.now.output.now),
    )

pub returns-in-Err-put_frame-clause-turn : goal.returns-in-Err-put_frame-clause-turn
returns-in-Err-put_frame-clause-turn g c =
    let x = c.requires.front in
    let same = c.message.ensures (message c.args.entry.now.at x.0) x.1 in
    let front : IsLayout c.args.inbox.now.kept c.args.entry.now.layout
    (message c.args.entry.now.at c.message.result.now) =
    subst (λ (t : List ℕ). IsLayout c.args.inbox.now.kept c.args.entry.now.layout (message c.args.entry.now.at t))
    (sym same) x.1 in
    let part = c.in-Err-put_frame.ensures.written.part in
    each_stops _ _ (digits_of g.M.Digested.digest_of (g.M.Room.zone c.args.room.now)) _ _ _ _ _ _ c.args.entry.now.at
    c.message.result.now c.in-Ok.response.items c.as_slice.result.now
    c.in-Ok.ensures.plays c.as_slice.ensures.value
    front.begins.0 WriteFailed _ _
    (begins_front _ _ c.args.entry.now.layout _ front) (c.requires.reader, part.4) part.0 part.1 part.2 part.3

pub returns-in-Ok-follow-clause-turn : goal.returns-in-Ok-follow-clause-turn
returns-in-Ok-follow-clause-turn g c =
    let x = c.requires.front in
    let same = c.message.ensures (message c.args.entry.now.at x.0) x.1 in
    let front : IsLayout c.args.inbox.now.kept c.args.entry.now.layout
    (message c.args.entry.now.at c.message.result.now) =
    subst (λ (t : List ℕ). IsLayout c.args.inbox.now.kept c.args.entry.now.layout (message c.args.entry.now.at t))
    (sym same) x.1 in
    let wrote = c.in-Ok-put_frame.ensures.written.all in
    let gone = taken _ (g.R.Source.left c.args.reader.now) _ _ c.args.entry.now.layout _ front (Keeps-refl _)
    c.remove.ensures.kept in
    let again = sym (c.as_slice-in-Ok-put_frame.ensures.value ∙ sym c.as_slice.ensures.value) in
    let followed = subst
    (λ (t : List ℕ). FollowIs (prepend_known c.remove.new.self.kept (g.R.Source.left c.args.reader.now))
    (prepend_known c.follow.new.inbox.kept (g.R.Source.left c.follow.new.reader))
    (g.R.Source.has_failed c.follow.new.reader) t (Ok c.in-Ok-follow.field-0)) (sym again) c.in-Ok-follow.ensures in
    let done = each_done _ _ (digits_of g.M.Digested.digest_of (g.M.Room.zone c.args.room.now)) _ _ _ _ _ _
    c.args.entry.now.at
    c.message.result.now c.in-Ok.response.items c.as_slice.result.now
    c.in-Ok.ensures.plays c.as_slice.ensures.value front.begins.0
    _ _ (g.R.Source.has_failed c.follow.new.reader) gone wrote.0 c.in-Ok-follow.field-0 followed in
    (done.0, done.1, done.2, done.3, done.4, wrote.1, done.5)

pub returns-clause-turn : goal.returns-clause-turn
returns-clause-turn g c =
    let x = c.requires.front in
    let same = c.message.ensures (message c.args.entry.now.at x.0) x.1 in
    let front : IsLayout c.args.inbox.now.kept c.args.entry.now.layout
    (message c.args.entry.now.at c.message.result.now) =
    subst (λ (t : List ℕ). IsLayout c.args.inbox.now.kept c.args.entry.now.layout (message c.args.entry.now.at t))
    (sym same) x.1 in
    let wrote = c.in-Ok-put_frame.ensures.written.all in
    let gone = taken _ (g.R.Source.left c.args.reader.now) _ _ c.args.entry.now.layout _ front (Keeps-refl _)
    c.remove.ensures.kept in
    let again = sym (c.as_slice-in-Ok-put_frame.ensures.value ∙ sym c.as_slice.ensures.value) in
    let stops = c.in-Err-follow.ensures in
    each_stops _ _ (digits_of g.M.Digested.digest_of (g.M.Room.zone c.args.room.now)) _ _ _ _ _ _ c.args.entry.now.at
    c.message.result.now c.in-Ok.response.items c.as_slice.result.now
    c.in-Ok.ensures.plays c.as_slice.ensures.value
    front.begins.0 c.in-Err-follow.fault _ _
    (each_follows _ _ (digits_of g.M.Digested.digest_of (g.M.Room.zone c.args.room.now)) _ _ _ _ _ c.args.entry.now.at
    c.message.result.now c.as_slice.result.now c.in-Ok.ensures.plays.0 c.in-Err-follow.fault
    (c.in-Ok.ensures.plays.3 ∙ sym c.as_slice.ensures.value) gone (λ p response. stops.0 p (response ∙ again)))
    (due_with _ _ _ wrote.1 stops.1) (frame_of c.as_slice.result.now) []
    (sym (append-nil (frame_of c.as_slice.result.now))) wrote.0

pub returns-clause-kept : goal.returns-clause-kept
returns-clause-kept g c =
    λ trust.
    unless_known c.in-Err-follow.fault (g.M.Room.is_kept c.args.room.now → g.M.Room.is_kept c.play.new.room)
    (c.in-Ok.ensures.kept trust)
