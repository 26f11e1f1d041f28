use Rattle.std.proofs.Common.{map, take}
use Rattle.httparse.specs.Spans.{header_bytes}
use Rattle.room_http_messages.specs.HeadFields.{FoundIs, values_of}
use Rattle.room_http_messages.proofs.head_fields.find_field.Given as goal

abbrev pub invariant-loop-header : goal.invariant-loop-header
invariant-loop-header l =
    FoundIs l.buf (values_of l.name (map (header_bytes l.buf) (take l.header-index l.headers))) l.found
