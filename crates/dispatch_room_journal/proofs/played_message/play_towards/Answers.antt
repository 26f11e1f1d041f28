use Rattle.std.proofs.Common.{refl}
use Rattle.room_http.specs.Arrivals.{message}
use Rattle.dispatch_room_journal.specs.Replays.{digits_of}
use Rattle.dispatch_room_journal.specs.ReplayedTurns.{Play}
use Rattle.dispatch_room_journal.proofs.FaultLemmas.{unless_missed}
use Rattle.dispatch_room_journal.proofs.StepLemmas.{missed}
use Rattle.dispatch_room_journal.proofs.played_message.play_towards.Goals as goal

pub returns-in-Ok-clause-plays : goal.returns-in-Ok-clause-plays
returns-in-Ok-clause-plays g c =
    let shown = c.in-Some.ensures in
    let p :
    Play = record { at = c.args.at; sent = c.args.sent.now; whole = shown.0; response = c.in-Ok.response.items } in (
      p,
      refl,
      refl,
      shown.1,
      λ trust terminals room stood. c.in-Ok.ensures.reply.says trust terminals room stood (message shown.0)
          (shown.2, record { whole = shown.1; some = shown.3; fits = c.requires.fits }),
    )

pub returns-in-Err-clause-plays : goal.returns-in-Err-clause-plays
returns-in-Err-clause-plays g c =
    let shown = c.in-Some.ensures in
    let says = c.in-Err.ensures.reply.says in
    missed _ _ (digits_of g.M.Digested.digest_of (g.M.Room.zone c.args.room.now)) _ _ _ _ _ _ c.in-Err.miss _
    c.fault_of.ensures c.in-Err.ensures.reply.unavailable
    (λ trust terminals room stood. (says trust terminals room stood).0)
    (λ is trust terminals room stood elsewhere. (
      shown.0,
      shown.1,
      (says trust terminals room stood).1 is elsewhere (message shown.0)
          (shown.2, record { whole = shown.1; some = shown.3; fits = c.requires.fits }),
    ))

pub returns-in-Err-clause-kept : goal.returns-in-Err-clause-kept
returns-in-Err-clause-kept g c = λ trust.
    unless_missed c.in-Err.miss _ (g.M.Room.is_kept c.args.room.now → g.M.Room.is_kept c.reply_towards.new.room)
    c.fault_of.ensures (λ is kept. c.in-Err.ensures.reply.kept trust kept is)
