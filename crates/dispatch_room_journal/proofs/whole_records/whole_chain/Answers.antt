use Rattle.std.proofs.Common.{◌≡◌, ◌∙◌, arith, ap, inl, inr, length, length-append, subst, sym, ◌+◌}
use Rattle.std.proofs.Common.{◌++◌, ◌∷◌, []}
use Rattle.std.proofs.lemmas.Bool.{false≢true}
use Rattle.dispatch_room_journal.specs.RecordFronts.{body_in}
use Rattle.dispatch_room_journal.specs.CutRecords.{SaysEntry}
use Rattle.dispatch_room_journal.proofs.EntryRecordLemmas.{nothing_left}
use Rattle.dispatch_room_journal.proofs.WholeLemmas.{all_spent, chain_cut, chain_ends, chain_kept}
use Rattle.dispatch_room_journal.proofs.WholeLemmas.{chain_more, given_on, no_entry, wrong_next}
use Rattle.dispatch_room_journal.proofs.whole_records.whole_chain.Goals as goal
use Rattle.dispatch_room_journal.proofs.whole_records.whole_chain.Goals.{in-Whole+else-not-says_entry}
use Rattle.dispatch_room_journal.proofs.whole_records.whole_chain.Goals.{in-Empty+in_ok-read_more-in-Empty+else-not-branch}
use Rattle.dispatch_room_journal.proofs.whole_records.whole_chain.Goals.{in-Short+in_ok-read_more-in-Short+else-not-branch-2}

pub returns-then-not-says_entry : goal.returns-then-not-says_entry
returns-then-not-says_entry g c = λ text known.
    let kept = c.looks.inbox in
    let stays = (rw c.bytes.ensures.value at c.in-Whole.ensures) in
    let size = c.in-Whole.size in
    let body : c.body_of-body.result.now
    ≡ body_in size kept = c.body_of-body.ensures ∙ ap (body_in size) c.bytes-in-Whole.ensures.value in
    let taken = c.looks.invariant.taken in
    no_entry _ (g.R.Source.left c.looks.reader) c.looks.whole kept _ taken.0 taken.1 text known
    (g.R.Source.has_failed c.looks.reader) size c.in-Whole.check stays
    (λ says. false≢true (sym c.if-not-says_entry.true ∙ c.says_entry.ensures.1 (subst SaysEntry (sym body) says)))

pub returns-then-not-branch : goal.returns-then-not-branch
returns-then-not-branch g c = λ text known.
    let none = (rw c.bytes.ensures.value at c.in-Empty.ensures) in
    let gave = (rw c.if-not-branch.true at c.in_ok-read_more-in-Empty.ensures.gave) in
    let taken = c.looks.invariant.taken in
    chain_ends _ (g.R.Source.left c.looks.reader) c.looks.whole c.looks.inbox _ taken.0 taken.1 text known _ gave.1
    gave.2
    (inl (nothing_left c.looks.inbox (omega (arith, none))))

pub returns-then-not-branch-2 : goal.returns-then-not-branch-2
returns-then-not-branch-2 g c = λ text known.
    let short = (rw c.bytes.ensures.value at c.in-Short.ensures) in
    let gave = (rw c.if-not-branch-2.true at c.in_ok-read_more-in-Short.ensures.gave) in
    let taken = c.looks.invariant.taken in
    chain_cut _ (g.R.Source.left c.looks.reader) c.looks.whole c.looks.inbox _ taken.0 taken.1 text known _ gave.1
    gave.2 short.2 _ _ (rw (c.bytes-then-not-branch-2.ensures.value, gave.0) at c.cut_to.ensures)

pub returns-in-Wrong : goal.returns-in-Wrong
returns-in-Wrong g c = λ text known.
    let taken = c.looks.invariant.taken in
    wrong_next _ (g.R.Source.left c.looks.reader) c.looks.whole c.looks.inbox _ taken.0 taken.1 text known
    (g.R.Source.has_failed c.looks.reader) (rw c.bytes.ensures.value at c.in-Wrong.ensures)

pub looks-preserved : goal.looks-preserved
looks-preserved g c =
    let kept = c.looks.inbox in
    let taken = c.looks.invariant.taken in
    elim c.match-look_at.branch [
      | in-Whole+else-not-says_entry w ↦
          let stays = (rw c.bytes.ensures.value at w.in-Whole.ensures) in
          let size = w.in-Whole.size in
          let body : w.body_of-body.result.now
          ≡ body_in size kept = w.body_of-body.ensures ∙ ap (body_in size) w.bytes-in-Whole.ensures.value in
          rw (w.inbox-is, w.reader-is, w.whole-is, w.remove.ensures, w.is_end-has_ended.ensures, body)
          (record {
            taken = (
              taken.0 ++ body_in size kept ∷ [],
              chain_more c.looks.whole kept size w.in-Whole.check stays taken.0 _ (g.R.Source.left c.looks.reader) _
                  c.looks._look _ taken.1
                  (subst SaysEntry body (w.says_entry.ensures.0 w.if-not-says_entry.false))
                  (omega (arith, w.saturating_add.ensures)) (omega arith),
            );
            sound = c.looks.invariant.sound;
          })
      | in-Empty+in_ok-read_more-in-Empty+else-not-branch w ↦
          let gave = (rw w.if-not-branch.false at w.in_ok-read_more-in-Empty.ensures.gave) in
          rw (w.inbox-is, w.reader-is, w.whole-is)
          (record {
            taken = (
              taken.0,
              chain_kept _ _ _ c.looks.whole (length kept) c.looks._look _ _ taken.0 taken.1
                  (given_on kept _ _ _ _ w.in_ok-read_more-in-Empty.ensures.gave) (omega arith)
                  (omega (arith, ap length gave.2, length-append kept gave.0, gave.1)),
            );
            sound = w.in_ok-read_more-in-Empty.ensures.failed;
          })
      | in-Short+in_ok-read_more-in-Short+else-not-branch-2 w ↦
          let gave = (rw w.if-not-branch-2.false at w.in_ok-read_more-in-Short.ensures.gave) in
          rw (w.inbox-is, w.reader-is, w.whole-is)
          (record {
            taken = (
              taken.0,
              chain_kept _ _ _ c.looks.whole (length kept) c.looks._look _ _ taken.0 taken.1
                  (given_on kept _ _ _ _ w.in_ok-read_more-in-Short.ensures.gave) (omega arith)
                  (omega (arith, ap length gave.2, length-append kept gave.0, gave.1)),
            );
            sound = w.in_ok-read_more-in-Short.ensures.failed;
          })
    ]

pub returns : goal.returns
returns g c = λ text known.
    let taken = c.looks.invariant.taken in
    inr (all_spent _ (g.R.Source.left c.looks.reader) c.looks.whole c.looks.inbox c.looks._look taken.0
    (omega (arith, c.looks-test.false)) taken.1 text known)
