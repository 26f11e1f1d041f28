use Rattle.std.proofs.Common.{rules, ◌≡◌, ◌∙◌, ap, length, ◌*◌, ◌<◌, All, true}
use Rattle.std.proofs.lemmas.List.Elements.{All-same, All-from_get_or}
use Rattle.hex.specs.Hex.{lower_digits, encode_lower}
use Rattle.hex.proofs.HexLemmas.{length-encode_with}
use Rattle.dispatch_room_journal.specs.Entries.{is_digest_digit}
use Rattle.dispatch_room_journal.proofs.DigestLemmas.{digits_of}
use Rattle.dispatch_room_journal.proofs.journal_digests.digest_of.Goals as goal

pub returns-clause-is_one : goal.returns-clause-is_one
returns-clause-is_one c =
    let bytes : All (λ byte. byte < 256) c.args.hash.now = All-from_get_or (λ byte. byte < 256) c.args.hash.now 0
    (λ i _. c.fits-hash i) in
    let written : c.encode_to_slice.new.output ≡ encode_lower c.args.hash.now = search rules in (
      ap length written ∙ length-encode_with lower_digits c.args.hash.now ∙ ap (λ n. 2 * n) c.told-hash,
      All-same (λ byte. is_digest_digit byte ≡ true) _ _ written (digits_of c.args.hash.now bytes),
    )
