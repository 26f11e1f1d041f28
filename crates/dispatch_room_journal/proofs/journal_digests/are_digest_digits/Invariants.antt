use Rattle.std.proofs.Common.{◌≡◌, true, take, All}
use Rattle.dispatch_room_journal.specs.Entries.{is_digest_digit}
use Rattle.dispatch_room_journal.proofs.journal_digests.are_digest_digits.Given as goal

abbrev pub invariant-loop-byte : goal.invariant-loop-byte
invariant-loop-byte l = All (λ byte. is_digest_digit byte ≡ true) (take l.byte-index l.bytes)
