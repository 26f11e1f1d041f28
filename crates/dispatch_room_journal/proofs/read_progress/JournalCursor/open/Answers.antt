use Rattle.std.proofs.Common.{◌≡◌, ◌∙◌, refl, sym, ap, arith, inr, length, length-drop, take, true}
use Rattle.std.proofs.Common.{false}
use Rattle.std.specs.Str.{bytes_eq}
use Rattle.dispatch_room_journal.specs.Chains.{opening, sha256_digits}
use Rattle.dispatch_room_journal.proofs.SaysLemmas.{list_short, list_chain, list_plain}
use Rattle.dispatch_room_journal.proofs.read_progress.JournalCursor.open.Goals as goal

pub returns-then-bytes-lt7-clause-step : goal.returns-then-bytes-lt7-clause-step
returns-then-bytes-lt7-clause-step c =
    let kept = c.args.self.now.inbox in
    let len = ap length c.bytes.ensures.value in
    rw c.requires.fresh (
      refl,
      c.requires.none,
      refl,
      omega (arith, len, c.if-bytes-lt7.true),
      list_short sha256_digits c.args.reach kept (omega (arith, len, c.if-bytes-lt7.true)),
    )

pub returns-then-eq-clause-step : goal.returns-then-eq-clause-step
returns-then-eq-clause-step c =
    let kept = c.args.self.now.inbox in
    let len = ap length c.bytes.ensures.value in
    let same : bytes_eq (take 7 kept) opening ≡ true =
    ap (λ t. bytes_eq (take 7 t) opening) (sym c.bytes-2.ensures.value) ∙ sym c.eq.ensures ∙ c.if-eq.true in
    rw (c.requires.fresh, c.requires.none, c.remove.ensures) (
      λ more. sym (list_chain sha256_digits c.args.reach kept more (omega (arith, len, c.if-bytes-lt7.false)) same),
      inr (omega (arith, len, c.bytes.ensures.fits, length-drop 7 kept)),
    )

pub returns-else-eq-clause-step : goal.returns-else-eq-clause-step
returns-else-eq-clause-step c =
    let kept = c.args.self.now.inbox in
    let len = ap length c.bytes.ensures.value in
    let other : bytes_eq (take 7 kept) opening ≡ false =
    ap (λ t. bytes_eq (take 7 t) opening) (sym c.bytes-2.ensures.value) ∙ sym c.eq.ensures ∙ c.if-eq.false in
    rw (c.requires.fresh, c.requires.none) (
      λ more. sym (list_plain sha256_digits c.args.reach kept more (omega (arith, len, c.if-bytes-lt7.false)) other),
      inr (omega (arith, len, c.bytes.ensures.fits)),
    )
