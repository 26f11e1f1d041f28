use Rattle.room_http.proofs.DatedMoments.{always_there_law}
use Rattle.room_http.proofs.reply_laws.a_reply_is_there.Goals as goal

pub returns : goal.returns
returns c = always_there_law
