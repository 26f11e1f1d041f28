use Rattle.std.proofs.Common.{inr, refl}
use Rattle.room_http.specs.Arrivals.{message}
use Rattle.dispatch_room_journal.specs.ReplayedTurns.{Play}
use Rattle.dispatch_room_journal.proofs.FaultLemmas.{caused_unavailable}
use Rattle.dispatch_room_journal.proofs.played_message.play.Goals as goal

pub returns-in-Ok-clause-plays : goal.returns-in-Ok-clause-plays
returns-in-Ok-clause-plays g c =
    let shown = c.in-Some.ensures in
    let p :
    Play = record { at = c.args.at; sent = c.args.sent.now; whole = shown.0; response = c.in-Ok.response.items } in (
      p,
      refl,
      refl,
      refl,
      shown.1,
      λ trust terminals room stood. c.in-Ok.ensures.reply.says trust terminals room stood (message shown.0)
          (shown.2, record { whole = shown.1; some = shown.3; fits = c.requires.fits }),
    )

pub returns-in-Err-clause-plays : goal.returns-in-Err-clause-plays
returns-in-Err-clause-plays g c = (
  c.in-Err.ensures.reply.says,
  inr (c.in-Err.refusal, refl, caused_unavailable c.in-Err.refusal c.in-Err.ensures.reply.unavailable),
)
