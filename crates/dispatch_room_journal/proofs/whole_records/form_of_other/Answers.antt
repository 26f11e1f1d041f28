use Rattle.std.proofs.Common.{◌∙◌, sym, subst, List, ℕ}
use Rattle.std.proofs.lemmas.Bool.{false≢true}
use Rattle.dispatch_room_journal.specs.CutRecords.{IsTruncated}
use Rattle.dispatch_room_journal.proofs.FormLemmas.{full_plain, keeps_known, truncated_kept}
use Rattle.dispatch_room_journal.proofs.WholeLemmas.{begins_kept}
use Rattle.dispatch_room_journal.proofs.whole_records.form_of_other.Goals as goal

pub returns-then-is_truncated : goal.returns-then-is_truncated
returns-then-is_truncated g c = λ text known.
    let fill = c.in_ok-fill_to.ensures in
    let is = keeps_known _ _ text known fill.same in
    let begins = c.is_truncated.ensures.0 c.if-is_truncated.true in
    (truncated_kept _ text _ _ fill.enough is).0
    (subst (λ (t : List ℕ). IsTruncated t) c.bytes.ensures.value begins)

pub returns : goal.returns
returns g c = λ text known.
    let fill = c.in_ok-fill_to.ensures in
    let is = keeps_known _ _ text known fill.same in
    let kept = truncated_kept _ text _ _ fill.enough is in
    let more = begins_kept _ text _ known in
    full_plain _ more.0 text more.1 c.requires.long c.requires.other
    (λ x. false≢true (sym c.if-is_truncated.false ∙ c.is_truncated.ensures.1
    (subst (λ (t : List ℕ). IsTruncated t) (sym c.bytes.ensures.value) (kept.1 x))))
