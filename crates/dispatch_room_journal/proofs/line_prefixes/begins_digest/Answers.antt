use Rattle.dispatch_room_journal.proofs.PartLemmas.{digest_part, digest_begun}
use Rattle.dispatch_room_journal.proofs.line_prefixes.begins_digest.Goals as goal

pub returns-then-bytes-le-DIGEST_DIGITS : goal.returns-then-bytes-le-DIGEST_DIGITS
returns-then-bytes-le-DIGEST_DIGITS c =
    let all = c.are_digest_digits.ensures in (
      λ is. digest_part c.args.bytes.now c.if-bytes-le-DIGEST_DIGITS.true (all.0 is),
      λ has. all.1 (digest_begun c.args.bytes.now has).1,
    )
