use Rattle.room_http_messages.proofs.LawLemmas.{one_message_law}
use Rattle.room_http_messages.proofs.laws.one_message.Goals as goal

pub returns : goal.returns
returns c = one_message_law
