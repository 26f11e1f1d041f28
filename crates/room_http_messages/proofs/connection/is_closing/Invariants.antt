use Rattle.std.proofs.Common.{◌≡◌, map, take, false}
use Rattle.httparse.specs.Spans.{header_bytes}
use Rattle.room_http_messages.specs.ConnectionOptions.{asks_for_close}
use Rattle.room_http_messages.proofs.connection.is_closing.Given as goal

abbrev pub invariant-loop-header : goal.invariant-loop-header
invariant-loop-header l = asks_for_close (map (header_bytes l.buf) (take l.header-index l.headers)) ≡ false
