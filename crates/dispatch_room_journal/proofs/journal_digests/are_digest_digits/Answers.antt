use Rattle.std.proofs.Common.{◌≡◌, true, sym, ◌∙◌, refl, take_all}
use Rattle.std.proofs.lemmas.List.Elements.{All-more, All-same}
use Rattle.dispatch_room_journal.specs.Entries.{is_digest_digit}
use Rattle.dispatch_room_journal.proofs.journal_digests.are_digest_digits.Goals as goal

pub loop-byte-preserved : goal.loop-byte-preserved
loop-byte-preserved c =
    All-more (λ byte. is_digest_digit byte ≡ true) c.args.bytes.now c.loop-byte.byte-index 0 c.loop-byte-test.true
    c.loop-byte.invariant
    (sym c.is_digest_digit.ensures ∙ c.if-not-is_digest_digit.false)

pub returns : goal.returns
returns c = (
  λ _.
      All-same (λ byte. is_digest_digit byte ≡ true) c.args.bytes.now _
      (sym (take_all c.loop-byte.byte-index c.args.bytes.now c.loop-byte-test.false)) c.loop-byte.invariant,
  λ _. refl,
)
