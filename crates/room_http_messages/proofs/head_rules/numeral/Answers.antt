use Rattle.std.proofs.Common.{◌∙◌, sym}
use Rattle.room_http_messages.proofs.RuleLemmas.{all_digits_more, bounded_more, digit_is}
use Rattle.room_http_messages.proofs.head_rules.numeral.Goals as goal

pub loop-digit-preserved : goal.loop-digit-preserved
loop-digit-preserved c = record {
  digits =
      all_digits_more _ _ c.loop-digit-test.true (sym c.is_ascii_digit.ensures.value ∙ c.if-not-is_ascii_digit.false)
      c.loop-digit.invariant.digits;
  value =
      bounded_more _ _ _ _ _ _ c.loop-digit-test.true c.loop-digit.invariant.value
      (digit_is _ _ (sym c.is_ascii_digit.ensures.value ∙ c.if-not-is_ascii_digit.false) c.from.ensures)
      c.min-number.ensures;
}
