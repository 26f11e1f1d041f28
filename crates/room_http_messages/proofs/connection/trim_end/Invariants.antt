use Rattle.std.proofs.Common.{◌≡◌, length, reverse}
use Rattle.httparse.specs.Grammar.{skip_ows}
use Rattle.room_http_messages.proofs.connection.trim_end.Given as goal

abbrev pub invariant-spaces : goal.invariant-spaces
invariant-spaces l = skip_ows (reverse l.fn.bytes) ≡ skip_ows (reverse l.rest)

abbrev pub decreases-spaces : goal.decreases-spaces
decreases-spaces l = length l.rest
