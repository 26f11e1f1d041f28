use Rattle.room_http.proofs.Dates.{one_reply_law}
use Rattle.room_http.proofs.reply_laws.one_reply.Goals as goal

pub returns : goal.returns
returns c = one_reply_law
