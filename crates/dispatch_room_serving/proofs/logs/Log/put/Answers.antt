use Rattle.std.proofs.Common.{refl, [], ◌∷◌, ◌++◌}
use Rattle.room_http_messages.proofs.StreamLemmas.{Appends-none}
use Rattle.dispatch_room_journal.specs.JournalRecords.{status_in}
use Rattle.dispatch_room_serving.specs.LoggedLines.{request_of}
use Rattle.dispatch_room_serving.specs.Logs.{line_text}
use Rattle.dispatch_room_serving.proofs.logs.Log.put.Goals as goal

pub returns-in-Ok : goal.returns-in-Ok
returns-in-Ok g c =
    let asked = c.request_of.ensures in
    let status = c.status_in.ensures.value in
    let written = c.in-Ok.ensures.ok in
    let bytes = c.as_bytes.ensures.value in (
      c.as_bytes.result.now,
      record { at = c.utc.result; millis = c.millis_between.result; moment = c.utc.ensures; is = cc },
      c.put_all.ensures,
    )

pub returns-in-Err : goal.returns-in-Err
returns-in-Err g c =
    let text = line_text c.utc.result c.args.asked.now.who (request_of c.args.asked.now.arrived.now)
    (status_in c.args.answer.now) c.millis_between.result ++ 10 ∷ [] in (
      text,
      record { at = c.utc.result; millis = c.millis_between.result; moment = c.utc.ensures; is = refl },
      ([], (text, refl), Appends-none _),
    )
