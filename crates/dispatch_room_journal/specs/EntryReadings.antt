-- What one call of `read_entry` gives, and how it leaves the reader and the bytes that were read.
use Rattle.std.specs.Prelude.{◌≡◌, ℕ, ◌<◌, ◌≤◌, ◌||◌, List, [], ◌∷◌, ◌++◌, length, is_err}
use Rattle.std.specs.Prelude.{MatchResult, ⊤, Bool, true, false, Option, Some, None, Result, Ok}
use Rattle.std.specs.Prelude.{Err}
use Rattle.std.specs.Io.KnownBytes.{IsAtEnd, Keeps, Consumes, prepend_known}
use Rattle.dispatch_room_journal.specs.declared.journal_inbox.TheConstants.{ENTRY_ROOM}
use Rattle.dispatch_room_journal.specs.declared.entry_prefixes.EntryLayout.{EntryLayout}
use Rattle.dispatch_room_journal.specs.declared.entry_reader.EntryFault.{EntryFault}
use Rattle.dispatch_room_journal.specs.declared.entry_reader.EntryFault.TheVariants.{Cut, Foreign}
use Rattle.dispatch_room_journal.specs.declared.entry_reader.EntryFault.TheVariants.{Read}
use Rattle.dispatch_room_journal.specs.Entries.{Entry, IsPart, IsForeign}
use Rattle.dispatch_room_journal.specs.EntryPrefixes.{IsLayout}

-- a journal that ends with these bytes ends between entries, or within one
abbrev pub end_of : List ℕ → Result (Option EntryLayout) EntryFault
end_of [] = Ok None
end_of (byte ∷ more) = Err Cut

-- one read to the back of the bytes that were kept: what it gave, and whether it failed or found
-- the end
pub record Fills {R E : Type 0} (left : R → Option (List ℕ)) (has_failed has_ended : R → Bool)
    (old new : R) (before after : List ℕ) (result : Result ℕ E) : Type 0 where
  pub fits : length after ≤ ENTRY_ROOM
  pub failed : has_failed new ≡ (has_failed old || is_err result)
  pub bytes : MatchResult result
      (λ n. (more : List ℕ) × (length more ≡ n) × (after ≡ before ++ more)
      × Consumes (left old) (left new) more
      × (n ≡ 0 → (has_ended new ≡ true) × IsAtEnd (left new)))
      (λ _. (after ≡ before) × Keeps (left old) (left new))

-- what holds of the bytes that were read and not taken, and of the reader
abbrev pub SaysOf : List ℕ → Bool → Bool → Option (List ℕ)
    → Result (Option EntryLayout) EntryFault → Type 0
SaysOf kept failed ended left (Ok (Some layout)) =
    ((e : Entry) × IsLayout kept layout e) × (failed ≡ false)
SaysOf kept failed ended left (Ok None) =
    (kept ≡ []) × (ended ≡ true) × IsAtEnd left × (failed ≡ false)
SaysOf kept failed ended left (Err Cut) =
    (0 < length kept) × IsPart kept × (ended ≡ true) × IsAtEnd left × (failed ≡ false)
SaysOf kept failed ended left (Err Foreign) = IsForeign kept × (failed ≡ false)
SaysOf kept failed ended left (Err Read) = failed ≡ true

-- what was found is what the journal's text begins with, and its end where there was nothing more
abbrev pub FirstIs : List ℕ → Result (Option EntryLayout) EntryFault → Type 0
FirstIs text (Ok (Some layout)) = (e : Entry) × IsLayout text layout e
FirstIs text (Ok None) = text ≡ []
FirstIs text (Err Cut) = (0 < length text) × IsPart text
FirstIs text (Err Foreign) = IsForeign text
FirstIs text (Err Read) = ⊤

-- A call of `read_entry`: the bytes that were kept, and then what is left, stay the same text. The
-- entry at its front was found, or why there is none.
pub record ReadsEntry {R : Type 0} (left : R → Option (List ℕ)) (has_failed has_ended : R → Bool)
    (old new : R) (before after : List ℕ)
    (result : Result (Option EntryLayout) EntryFault) : Type 0 where
  pub same : Keeps (prepend_known before (left old)) (prepend_known after (left new))
  pub says : SaysOf after (has_failed new) (has_ended new) (left new) result
  pub first : (text : List ℕ) → prepend_known before (left old) ≡ Some text → FirstIs text result
