use Rattle.std.proofs.lemmas.Result.{on_ok_weaker}
use Rattle.room_http.proofs.HeadLines.{field_added}
use Rattle.room_http.proofs.reply_messages.put_field.Goals as goal

pub returns : goal.returns
returns g c = on_ok_weaker c.write.result (field_added _ _ _ _) c.write.ensures.bytes
