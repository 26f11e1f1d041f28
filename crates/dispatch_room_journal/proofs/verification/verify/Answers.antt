use Rattle.std.proofs.Common.{◌∙◌, ap, sym, arith, refl, subst, ◌+◌, ◌++◌, ◌∷◌, [], List, ℕ}
use Rattle.std.proofs.Common.{length-append, append-nil, min, inr}
use Rattle.dispatch_room_journal.specs.WholeEntries.{most_bytes}
use Rattle.dispatch_room_journal.specs.Entries.{texts_of}
use Rattle.dispatch_room_journal.proofs.EndLemmas.{nothing_taken, taken_kept, taken_more}
use Rattle.dispatch_room_journal.specs.ListTallies.{Tallies, moments_by, moments_of}
use Rattle.dispatch_room_journal.proofs.TallyLemmas.{ends_as, failed_by, moments-push, no_entries}
use Rattle.dispatch_room_journal.proofs.verification.verify.Goals as goal

pub entries-init : goal.entries-init
entries-init g c = record {
  taken = (
    [],
    rw (c.requires.kept, c.requires.taken) (nothing_taken _),
    refl,
    rw c.new-tally.ensures (record { messages = refl; span = refl }),
  );
  sound = c.requires.sound;
}

pub entries-preserved : goal.entries-preserved
entries-preserved g c =
    let read = c.in-Ok-Some.ensures.read in
    let says = (rw c.in-Ok-Some.field-0-is at read.says) in
    let found = says.0 in
    let taken = c.entries.invariant.taken in
    let kept = taken_kept _ _ _ _ _ taken.1 read.same in
    let moments = moments_of taken.0 in
    record {
      taken = (
        taken.0 ++ found.0 ∷ [],
        rw c.remove.ensures.kept
            (taken_more _ _ _ _ _ taken.0 _ found.0 kept found.1
            (c.remove.ensures.taken
            ∙ ap (λ n. min (n + c.in-Ok-Some.layout.end) most_bytes) c.in-Ok-Some.ensures.taken)),
        omega (arith, length-append taken.0 (found.0 ∷ []), taken.2),
        subst (λ (ms : List ℕ). Tallies c.note.new.self ms)
            (ap (λ line. moments ++ moments_by line) found.1.line ∙ sym (moments-push taken.0 found.0))
            (c.note.ensures moments taken.3),
      );
      sound = says.1;
    }

pub returns-then-entry-eq0 : goal.returns-then-entry-eq0
returns-then-entry-eq0 g c = λ text known.
    let taken = c.entries.invariant.taken in
    let follows = taken.1.follows text known in
    let first = (rw c.in-Ok-None.field-0-is at (c.in-Ok-None.ensures.read.first follows.0 follows.1)) in
    follows.2 ∙ ap (λ t. texts_of taken.0 ++ t) first ∙ append-nil (texts_of taken.0)
    ∙ ap texts_of (no_entries taken.0 c.entries.entry taken.2 c.if-entry-eq0.true)

pub returns-in-Ok-None : goal.returns-in-Ok-None
returns-in-Ok-None g c = λ text known.
    let taken = c.entries.invariant.taken in
    let follows = taken.1.follows text known in
    let first = (rw c.in-Ok-None.field-0-is at (c.in-Ok-None.ensures.read.first follows.0 follows.1)) in (
      taken.0,
      omega (arith, taken.2, c.if-entry-eq0.false),
      taken.1.are_entries,
      follows.2 ∙ ap (λ t. texts_of taken.0 ++ t) first ∙ append-nil (texts_of taken.0),
      taken.3,
    )

pub returns-in-Err : goal.returns-in-Err
returns-in-Err g c = λ text known.
    let taken = c.entries.invariant.taken in
    let follows = taken.1.follows text known in
    let read = c.in-Err.ensures.read in
    rw c.defect.ensures (
      taken.0,
      follows.0,
      (taken.1.are_entries, follows.2),
      ends_as _ taken.0 follows.0 c.in-Err.fault (failed_by _ _ _ _ c.in-Err.fault read.says)
          (read.first follows.0 follows.1),
      omega (arith, taken.3.messages),
    )

pub returns : goal.returns
returns g c = λ text known.
    let taken = c.entries.invariant.taken in
    let follows = taken.1.follows text known in
    rw c.defect-2.ensures (
      taken.0,
      follows.0,
      (taken.1.are_entries, follows.2),
      inr (omega (arith, taken.2)),
      omega (arith, taken.3.messages),
    )
