use Rattle.std.proofs.Common.{List, ◌++◌, ◌≡◌, ◌⊎◌, drop, false, inl, inr, length, refl, true, ℕ}
use Rattle.std.proofs.Common.{IsTrue}
use Rattle.std.proofs.lemmas.Bool.{false≢true}
use Rattle.std.proofs.lemmas.Bool.Decides.{Decides-eqb}
use Rattle.std.proofs.lemmas.Slice.Eq.{starts_is}
use Rattle.dispatch_room_journal.specs.Chains.{end_body, row_word}
use Rattle.dispatch_room_journal.proofs.CutLemmas.{begun_by, end_begun, row_begun, row_goes}
use Rattle.dispatch_room_journal.proofs.cut_records.begins_no_entry.Goals as goal

pub returns-then-starts_with : goal.returns-then-starts_with
returns-then-starts_with c =
    let part = c.args.part.now in (
      λ _.
          row_begun part c.requires (drop (length part) row_word)
          ((starts_is Decides-eqb row_word part true c.if-starts_with.ensures.value).0 refl),
      λ _. c.if-starts_with.true,
    )

pub returns-then-starts_with-2 : goal.returns-then-starts_with-2
returns-then-starts_with-2 c =
    let part = c.args.part.now in (
      λ _.
          row_goes part c.requires (drop 4 part)
          ((starts_is Decides-eqb part row_word true c.if-starts_with-2.ensures.value).0 refl),
      λ _. c.if-starts_with-2.true,
    )

pub returns-else-starts_with-2 : goal.returns-else-starts_with-2
returns-else-starts_with-2 c = (
  λ is.
      end_begun part c.requires (drop (length part) end_body)
      ((starts_is Decides-eqb end_body part _ c.starts_with-else-starts_with-2.ensures.value).0 is),
  λ begins. go (begun_by part c.requires begins),
)
  where
    part : List ℕ
    part = c.args.part.now

    go : ((more : List ℕ) × (row_word ≡ part ++ more))
        ⊎ (((more : List ℕ) × (part ≡ row_word ++ more)) ⊎ ((more : List ℕ) × (end_body ≡ part ++ more)))
        → IsTrue c.starts_with-else-starts_with-2.result
    go (inl (more, is)) =
        absurd (false≢true ((starts_is Decides-eqb row_word part false c.if-starts_with.ensures.value).1 more is))
    go (inr (inl (more, is))) =
        absurd (false≢true ((starts_is Decides-eqb part row_word false c.if-starts_with-2.ensures.value).1 more is))
    go (inr (inr (more, is))) =
        (starts_is Decides-eqb end_body part _ c.starts_with-else-starts_with-2.ensures.value).1 more is
