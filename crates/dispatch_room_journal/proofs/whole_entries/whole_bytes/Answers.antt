use Rattle.std.proofs.Common.{◌∙◌, ap, arith, refl, ◌+◌, ◌++◌, ◌∷◌, [], length-append, min, inl}
use Rattle.std.proofs.Common.{inr}
use Rattle.dispatch_room_journal.specs.WholeEntries.{IsCutTo, most_bytes}
use Rattle.dispatch_room_journal.specs.Entries.{texts_of}
use Rattle.dispatch_room_journal.proofs.EndLemmas.{nothing_taken, taken_kept, taken_more}
use Rattle.dispatch_room_journal.proofs.whole_entries.whole_bytes.Goals as goal

pub entries-init : goal.entries-init
entries-init g c = record {
  taken = ([], rw (c.requires.kept, c.requires.taken) (nothing_taken _), refl);
  sound = c.requires.sound;
}

pub entries-preserved : goal.entries-preserved
entries-preserved g c =
    let read = c.in-Ok-Some.ensures.read in
    let says = (rw c.in-Ok-Some.field-0-is at read.says) in
    let found = says.0 in
    let taken = c.entries.invariant.taken in
    let kept = taken_kept _ _ _ _ _ taken.1 read.same in
    record {
      taken = (
        taken.0 ++ found.0 ∷ [],
        rw c.remove.ensures.kept
            (taken_more _ _ _ _ _ taken.0 _ found.0 kept found.1
            (c.remove.ensures.taken
            ∙ ap (λ n. min (n + c.in-Ok-Some.layout.end) most_bytes) c.in-Ok-Some.ensures.taken)),
        omega (arith, length-append taken.0 (found.0 ∷ []), taken.2),
      );
      sound = says.1;
    }

pub returns-in-Ok-None : goal.returns-in-Ok-None
returns-in-Ok-None g c = λ text known.
    let taken = c.entries.invariant.taken in
    let follows = taken.1.follows text known in
    let first = (rw c.in-Ok-None.field-0-is at (c.in-Ok-None.ensures.read.first follows.0 follows.1)) in
    let whole : IsCutTo text
    (texts_of taken.0) = (taken.0, follows.0, (taken.1.are_entries, follows.2), refl, inl first) in
    (texts_of taken.0, whole, c.taken.ensures ∙ c.in-Ok-None.ensures.taken ∙ taken.1.count)

pub returns-in-Err-Cut : goal.returns-in-Err-Cut
returns-in-Err-Cut g c = λ text known.
    let taken = c.entries.invariant.taken in
    let follows = taken.1.follows text known in
    let first = (rw c.in-Err-Cut.field-0-is at (c.in-Err-Cut.ensures.read.first follows.0 follows.1)) in
    let whole : IsCutTo text
    (texts_of taken.0) = (taken.0, follows.0, (taken.1.are_entries, follows.2), refl, inr first.1) in
    (texts_of taken.0, whole, c.taken-in-Err-Cut.ensures ∙ c.in-Err-Cut.ensures.taken ∙ taken.1.count)

-- why no number is returned
pub returns-in-Err-Foreign : goal.returns-in-Err-Foreign
returns-in-Err-Foreign g c = λ text known.
    let taken = c.entries.invariant.taken in
    let follows = taken.1.follows text known in
    let first = (rw c.in-Err-Foreign.field-0-is at (c.in-Err-Foreign.ensures.read.first follows.0 follows.1)) in
    (taken.0, follows.0, (taken.1.are_entries, follows.2), first)

pub returns-in-Err-Read : goal.returns-in-Err-Read
returns-in-Err-Read g c = λ text known. inl (rw c.in-Err-Read.field-0-is at c.in-Err-Read.ensures.read.says)

pub returns : goal.returns
returns g c = λ text known.
    let taken = c.entries.invariant.taken in
    let follows = taken.1.follows text known in
    inr (taken.0, follows.0, (taken.1.are_entries, follows.2), omega (arith, taken.2))
