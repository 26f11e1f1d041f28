use Rattle.room_http_time.proofs.SpanLaws.{one_span_law}
use Rattle.room_http_time.proofs.laws.one_span.Goals as goal

pub returns : goal.returns
returns c = one_span_law
