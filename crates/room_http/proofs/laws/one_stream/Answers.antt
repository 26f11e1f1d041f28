use Rattle.room_http.proofs.LawLemmas.{one_stream_law}
use Rattle.room_http.proofs.laws.one_stream.Goals as goal

pub returns : goal.returns
returns c = one_stream_law
