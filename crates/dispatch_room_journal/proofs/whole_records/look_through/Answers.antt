use Rattle.std.proofs.Common.{◌∙◌, subst, sym, List, ℕ}
use Rattle.dispatch_room_journal.specs.WholeRecords.{IsForm}
use Rattle.dispatch_room_journal.proofs.FormLemmas.{filled_is}
use Rattle.dispatch_room_journal.proofs.WholeLemmas.{rest_kept}
use Rattle.dispatch_room_journal.proofs.whole_records.look_through.Goals as goal

pub returns-then-not-branch : goal.returns-then-not-branch
returns-then-not-branch g c = λ text known.
    let fill = c.in_ok-fill_to.ensures in
    let few = (rw c.if-not-branch.true at fill.enough) in
    let is = filled_is _ _ text _ _ c.requires.none known fill.same in
    let all = rest_kept _ text _ few.1 is in
    subst (λ (t : List ℕ). IsForm t c.form_of_few.result) (c.bytes.ensures.value ∙ sym all) c.form_of_few.ensures

pub returns-then-not-begins_chain : goal.returns-then-not-begins_chain
returns-then-not-begins_chain g c = λ text known.
    c.form_of_other.ensures text (filled_is _ _ text _ _ c.requires.none known c.in_ok-fill_to.ensures.same)
