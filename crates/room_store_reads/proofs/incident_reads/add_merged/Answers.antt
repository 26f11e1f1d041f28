use Rattle.std.proofs.Common.{ap, sym, ◌∙◌, ◌||◌}
use Rattle.std.specs.Prelude.{◌==◌}
use Rattle.room_store_reads.proofs.MergedNumbers.{contained, with_other, without_other}
use Rattle.room_store_reads.proofs.incident_reads.add_merged.Goals as goal

pub returns-then-is_known : goal.returns-then-is_known
returns-then-is_known c n =
    let ns = c.args.numbers.now.items in
    let g = c.args.given in
    without_other n c.args.number g ns
    (ap (λ b. (c.args.number == g) || b) (sym (contained g ns))
    ∙ sym (rw c.as_slice.ensures.value at c.is_known.ensures) ∙ c.if-is_known.true)

pub returns : goal.returns
returns c n =
    let ns = c.args.numbers.now.items in
    let g = c.args.given in
    rw c.in_ok-push.ensures.items
    (with_other n c.args.number g ns
    (ap (λ b. (c.args.number == g) || b) (sym (contained g ns))
    ∙ sym (rw c.as_slice.ensures.value at c.is_known.ensures) ∙ c.if-is_known.false))
