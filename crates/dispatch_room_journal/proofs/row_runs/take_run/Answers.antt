use Rattle.std.proofs.Common.{◌≡◌, ◌∙◌, ap, subst, sym, ◌++◌, ◌∷◌, [], false, List, ℕ}
use Rattle.dispatch_room_journal.specs.Chains.{is_row}
use Rattle.dispatch_room_journal.specs.RecordFronts.{body_in}
use Rattle.dispatch_room_journal.specs.RowRuns.{HeadIs, IsRow}
use Rattle.dispatch_room_journal.proofs.RowLemmas.{behind_end, behind_short, behind_whole}
use Rattle.dispatch_room_journal.proofs.RowLemmas.{behind_wrong, no_rows, rows_end, rows_kept}
use Rattle.dispatch_room_journal.proofs.RowLemmas.{rows_more}
use Rattle.dispatch_room_journal.proofs.WholeLemmas.{given_on}
use Rattle.dispatch_room_journal.proofs.row_runs.take_run.Goals as goal

pub looks-init : goal.looks-init
looks-init g c = record { taken = ([], no_rows _ _ _); sound = c.requires.sound }

pub returns-then-not-is_row-clause-taken : goal.returns-then-not-is_row-clause-taken
returns-then-not-is_row-clause-taken g c =
    let kept = c.looks.inbox in
    let stays = (rw c.bytes.ensures.value at c.in-Whole.ensures) in
    let size = c.in-Whole.size in
    let body : c.body_of-body.result.now
    ≡ body_in size kept = c.body_of-body.ensures ∙ ap (body_in size) c.bytes-in-Whole.ensures.value in
    let none : is_row (body_in size kept)
    ≡ false = ap is_row (sym body) ∙ sym c.is_row.ensures ∙ c.if-not-is_row.true in
    let taken = c.looks.invariant.taken in
    rows_end _ _ _ _ _ _ taken.0 c.head_in.result taken.1
    (behind_whole c.looks.link kept size c.in-Whole.check stays none (g.R.Source.left c.looks.reader) c.head_in.result
    (subst (λ (b : List ℕ). HeadIs b c.head_in.result) body c.head_in.ensures))

pub returns-then-not-branch-clause-taken : goal.returns-then-not-branch-clause-taken
returns-then-not-branch-clause-taken g c =
    let none = (rw c.bytes.ensures.value at c.in-Empty.ensures) in
    let gave = (rw c.if-not-branch.true at c.in_ok-read_rows-in-Empty.ensures.gave) in
    let taken = c.looks.invariant.taken in
    rows_end _ _ _ _ _ _ taken.0 _
    (rows_kept _ _ _ _ _ _ _ taken.0 taken.1
    (given_on c.looks.inbox _ _ _ _ c.in_ok-read_rows-in-Empty.ensures.gave))
    (behind_end c.looks.link c.looks.inbox _ _ gave.0 none gave.2)

pub returns-then-not-branch-2-clause-taken : goal.returns-then-not-branch-2-clause-taken
returns-then-not-branch-2-clause-taken g c =
    let short = (rw c.bytes.ensures.value at c.in-Short.ensures) in
    let gave = (rw c.if-not-branch-2.true at c.in_ok-read_rows-in-Short.ensures.gave) in
    let taken = c.looks.invariant.taken in
    rows_end _ _ _ _ _ _ taken.0 _
    (rows_kept _ _ _ _ _ _ _ taken.0 taken.1
    (given_on c.looks.inbox _ _ _ _ c.in_ok-read_rows-in-Short.ensures.gave))
    (behind_short c.looks.link c.looks.inbox _ _ gave.0 short.0 short.2 gave.2)

pub returns-in-Wrong-clause-taken : goal.returns-in-Wrong-clause-taken
returns-in-Wrong-clause-taken g c =
    let taken = c.looks.invariant.taken in
    rows_end _ _ _ _ _ _ taken.0 _ taken.1
    (behind_wrong c.looks.link c.looks.inbox (g.R.Source.left c.looks.reader)
    (rw c.bytes.ensures.value at c.in-Wrong.ensures))

pub looks-preserved-in-Whole : goal.looks-preserved-in-Whole
looks-preserved-in-Whole g c =
    let kept = c.looks.inbox in
    let taken = c.looks.invariant.taken in
    let stays = (rw c.bytes.ensures.value at c.in-Whole.ensures) in
    let size = c.in-Whole.size in
    let body : c.body_of-body.result.now
    ≡ body_in size kept = c.body_of-body.ensures ∙ ap (body_in size) c.bytes-in-Whole.ensures.value in
    let row : IsRow (body_in size kept) =
    ap is_row (sym body) ∙ sym c.is_row.ensures ∙ c.if-not-is_row.false in
    rw (c.remove.ensures, c.in_ok-add_line-in-Whole.ensures.items, c.is_end-has_ended.ensures, body)
    (record {
      taken = (
        taken.0 ++ body_in size kept ∷ [],
        rows_more _ _ c.looks.link _ _ kept taken.0 size c.in-Whole.check stays row
            (g.R.Source.left c.looks.reader) taken.1,
      );
      sound = c.looks.invariant.sound;
    })

pub looks-preserved : goal.looks-preserved
looks-preserved g c =
    let taken = c.looks.invariant.taken in
    record {
      taken = (
        taken.0,
        rows_kept _ _ _ _ _ _ _ taken.0 taken.1
            (given_on c.looks.inbox _ _ _ _ c.in_ok-read_rows-in-Short.ensures.gave),
      );
      sound = c.in_ok-read_rows-in-Short.ensures.failed;
    }
