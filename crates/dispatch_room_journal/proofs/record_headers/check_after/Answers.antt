use Rattle.std.proofs.Common.{◌∙◌, ◌++◌, ap}
use Rattle.hex.specs.Hex.{encode_lower}
use Rattle.sha2.specs.Sha256.{sha256}
use Rattle.dispatch_room_journal.specs.Chains.{sha256_digits}
use Rattle.dispatch_room_journal.proofs.record_headers.check_after.Goals as goal

pub returns : goal.returns
unfolding sha256_digits
returns c =
    c.digest_of.ensures.written
    ∙ ap encode_lower (c.hash_of.ensures ∙ ap (λ t. sha256 (t ++ c.args.body.now)) c.as_slice.ensures)
