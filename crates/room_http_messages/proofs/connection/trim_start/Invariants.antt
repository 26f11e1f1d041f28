use Rattle.std.proofs.Common.{◌≡◌, length}
use Rattle.httparse.specs.Grammar.{skip_ows}
use Rattle.room_http_messages.proofs.connection.trim_start.Given as goal

abbrev pub invariant-spaces : goal.invariant-spaces
invariant-spaces l = skip_ows l.fn.bytes ≡ skip_ows l.rest

abbrev pub decreases-spaces : goal.decreases-spaces
decreases-spaces l = length l.rest
