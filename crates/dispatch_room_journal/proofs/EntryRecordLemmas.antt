-- Lemmas on a record that is one entry.
use Rattle.std.proofs.Common.{◌≡◌, ◌∙◌, refl, sym, ap, arith, ℕ, List, [], ◌∷◌, ◌++◌, length}
use Rattle.std.proofs.Common.{length-append, drop, append-nil, true, false, inl, inr, ◌↔◌, IsTrue}
use Rattle.std.proofs.lemmas.Bool.{false≢true}
use Rattle.dispatch_room_journal.specs.declared.entry_prefixes.EntryLayout.{EntryLayout}
use Rattle.room_model.specs.declared.digests.StartDigest.{StartDigest}
use Rattle.dispatch_room_journal.specs.declared.entry_lines.EntryLine.TheVariants.{Room}
use Rattle.dispatch_room_journal.specs.declared.row_runs.Behind.TheVariants.{Other}
use Rattle.dispatch_room_journal.specs.Entries.{Begins, Entry, IsEntry, IsForeign, IsPart, line_of}
use Rattle.dispatch_room_journal.specs.Entries.{room, text_of}
use Rattle.dispatch_room_journal.specs.RowRuns.{HeadIs}
use Rattle.dispatch_room_journal.specs.EntryPrefixes.{IsLayout}
use Rattle.dispatch_room_journal.proofs.EntryLemmas.{no_end_law, one_entry_law}
use Rattle.dispatch_room_journal.proofs.NextEntryLemmas.{layout_of_room}
use Rattle.dispatch_room_journal.specs.Chains.{is_no_entry}
use Rattle.dispatch_room_journal.specs.CutRecords.{SaysEntry}

pub nothing_left : (rest : List ℕ) → length rest ≡ 0 → rest ≡ []
nothing_left [] none = refl
nothing_left (x ∷ rest) none = absurd (omega (arith, none))

-- the entry at the front of a record is all of it where it ends at its end
pub whole_entry : (body : List ℕ) (layout : EntryLayout) (e : Entry) → IsLayout body layout e
    → layout.end ≡ length body → SaysEntry body
whole_entry body layout e is all =
    let rest = drop layout.end body in
    let none : rest ≡ [] = nothing_left rest
    (omega (arith, all, is.end, ap length is.begins.1, length-append (text_of e) rest)) in
    inr (e, is.begins.0, is.begins.1 ∙ ap (λ t. text_of e ++ t) none ∙ append-nil (text_of e))

begins_all : (body : List ℕ) (e : Entry) → IsEntry e → body ≡ text_of e → Begins body e []
begins_all body e is all = (is, all ∙ sym (append-nil (text_of e)))

-- and the other way round
pub entry_whole : (body : List ℕ) (layout : EntryLayout) (e : Entry) → IsLayout body layout e
    → is_no_entry body ≡ false → SaysEntry body → layout.end ≡ length body
entry_whole body layout e is none (inl ends) = absurd (false≢true (sym none ∙ ends))
entry_whole body layout e is none (inr (f, is_one, all)) =
    let same = (one_entry_law body e f (drop layout.end body) [] is.begins (begins_all body f is_one all)).0 in
    is.end ∙ ap (λ x. length (text_of x)) same ∙ sym (ap length all)

pub no_part : (body : List ℕ) → IsPart body → is_no_entry body ≡ false → SaysEntry body → ⊥
no_part body part none (inl ends) = false≢true (sym none ∙ ends)
no_part body part none (inr (f, is_one, all)) = (no_end_law body f [] (begins_all body f is_one all)).1 part

pub no_foreign : (body : List ℕ) → IsForeign body → is_no_entry body ≡ false → SaysEntry body → ⊥
no_foreign body foreign none (inl ends) = false≢true (sym none ∙ ends)
no_foreign body foreign none (inr (f, is_one, all)) = (no_end_law body f [] (begins_all body f is_one all)).2 foreign

-- what begins with no whole entry is none
pub not_part : (body : List ℕ) → IsPart body → is_no_entry body ≡ false → IsTrue false ↔ SaysEntry body
not_part body part none = (λ is. absurd (false≢true is), λ says. absurd (no_part body part none says))

pub not_foreign : (body : List ℕ) → IsForeign body → is_no_entry body ≡ false → IsTrue false ↔ SaysEntry body
not_foreign body foreign none = (λ is. absurd (false≢true is), λ says. absurd (no_foreign body foreign none says))

-- a record that is no whole entry is no head
pub part_head : (body : List ℕ) → IsPart body → HeadIs body Other
part_head body part = λ head is all. (no_end_law body (room head) [] (begins_all body (room head) is all)).1 part

pub foreign_head : (body : List ℕ) → IsForeign body → HeadIs body Other
foreign_head body foreign = λ head is all.
    (no_end_law body (room head) [] (begins_all body (room head) is all)).2 foreign

module _ (body : List ℕ) (layout : EntryLayout) (e : Entry) (is : IsLayout body layout e) where
  same_entry : (head : StartDigest) → IsEntry (room head) → body ≡ text_of (room head) → e ≡ room head
  same_entry head is_head all =
      (one_entry_law body e (room head) (drop layout.end body) [] is.begins (begins_all body (room head) is_head all)).0

  -- nor is one with more than an entry
  pub longer_head : ((layout.end ≡ length body) → ⊥) → HeadIs body Other
  longer_head more = λ head is_head all.
      more (is.end ∙ ap (λ x. length (text_of x)) (same_entry head is_head all) ∙ sym (ap length all))

  -- nor one whose line is another
  pub other_head : ((head : StartDigest) → (layout.line ≡ Room head) → ⊥) → HeadIs body Other
  other_head other = λ head is_head all. other head (is.line ∙ ap line_of (same_entry head is_head all))

  pub is_head : (head : StartDigest) → layout.line ≡ Room head → layout.end ≡ length body
      → IsEntry (room head) × (body ≡ text_of (room head))
  is_head head line all =
      let found = layout_of_room body layout e head is line in
      let rest = drop layout.end body in
      let none : rest ≡ [] = nothing_left rest
      (omega (arith, all, found.end, ap length found.begins.1, length-append (text_of (room head)) rest)) in (
        found.begins.0,
        found.begins.1 ∙ ap (λ t. text_of (room head) ++ t) none ∙ append-nil (text_of (room head)),
      )
