use Rattle.std.proofs.Common.{sym, subst}
use Rattle.std.specs.Prelude.{IsUtf8}
use Rattle.std.proofs.Math.Seq.{take-append_seam}
use Rattle.room_types.proofs.TextLaws.{filled, zeros_left}
use Rattle.room_types.proofs.text.Text.new.Goals as goal

pub invariant_of-result : goal.invariant_of-result
invariant_of-result g c = rw c.copy_from_slice.ensures.after (
  c.if-text.false,
  filled _ _ c.if-text.false,
  zeros_left _ _,
  ∣ subst IsUtf8 (sym (take-append_seam _ _)) c.as_bytes-text.ensures.utf8 ∣₁,
)
