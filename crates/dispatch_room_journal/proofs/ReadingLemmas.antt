-- Lemmas on reads.
use Rattle.std.proofs.Common.{◌≡◌, ◌∙◌, ap, sym, subst, refl, arith, ℕ, ◌+◌, ◌-◌, ◌<◌, ◌≤◌, List}
use Rattle.std.proofs.Common.{[], ◌∷◌, ◌++◌, length, drop, append-nil, append_assoc, length-append}
use Rattle.std.proofs.Common.{Bool, true, false, Option, Some, None, Result, Ok, Err}
use Rattle.std.specs.Io.KnownBytes.{prepend_known, Keeps, Consumes, IsAtEnd}
use Rattle.std.proofs.lemmas.List.{drop-append-le, nil_from_length}
use Rattle.dispatch_room_journal.specs.declared.journal_inbox.TheConstants.{ENTRY_ROOM}
use Rattle.dispatch_room_journal.specs.declared.entry_prefixes.EntryLayout.{EntryLayout}
use Rattle.dispatch_room_journal.specs.declared.entry_reader.EntryFault.{EntryFault}
use Rattle.dispatch_room_journal.specs.declared.entry_reader.EntryFault.TheVariants.{Cut, Foreign}
use Rattle.dispatch_room_journal.specs.declared.entry_reader.EntryFault.TheVariants.{Read}
use Rattle.dispatch_room_journal.specs.Entries.{Entry, text_of, IsPart}
use Rattle.dispatch_room_journal.specs.EntryPrefixes.{IsLayout}
use Rattle.dispatch_room_journal.specs.EntryReadings.{SaysOf, FirstIs, end_of}
use Rattle.dispatch_room_journal.proofs.WritingLemmas.{entry_fits}

-- the text that bytes go from to the inbox stays the same
pub same_text : (old new : Option (List ℕ)) (before more after : List ℕ) → after ≡ before ++ more
    → Consumes old new more
    → Keeps (prepend_known before old) (prepend_known after new)
same_text None new before more after is taken = tt
same_text (Some old) None before more after is taken = taken
same_text (Some old) (Some new) before more after is taken = rw (is, taken) (append_assoc before more new)

pub same_kept : (old new : Option (List ℕ)) (before after : List ℕ) → after ≡ before → Keeps old new
    → Keeps (prepend_known before old) (prepend_known after new)
same_kept None new before after is keeps = tt
same_kept (Some old) None before after is keeps = keeps
same_kept (Some old) (Some new) before after is keeps = rw (is, keeps) refl

-- there is room for more of an entry that is cut short
pub part_fits : (kept : List ℕ) → IsPart kept → length kept < ENTRY_ROOM
part_fits kept (e, more, is_one, goes_on, some) =
    omega (arith, entry_fits e is_one, some, sym (length-append kept more) ∙ ap length (sym goes_on))

-- a read that found the end ends the journal
pub ends : (before kept more : List ℕ) (failed ended : Bool) (left : Option (List ℕ))
    → length more ≡ 0 → kept ≡ before ++ more → IsPart before
    → failed ≡ false → ended ≡ true → IsAtEnd left → SaysOf kept failed ended left (end_of kept)
ends before kept more failed ended left none is part sound found end =
    go kept (is ∙ ap (λ t. before ++ t) (nil_from_length more none) ∙ append-nil before)
  where
    go : (kept : List ℕ) → kept ≡ before → SaysOf kept failed ended left (end_of kept)
    go [] same = (refl, found, end, sound)
    go (byte ∷ rest) same = (omega arith, subst (λ (t : List ℕ). IsPart t) (sym same) part, found, end, sound)

-- an entry at the front of the bytes ends within them
pub layout_fits : (kept : List ℕ) (layout : EntryLayout) (e : Entry) → IsLayout kept layout e
    → layout.end ≤ length kept
layout_fits kept layout e x =
    omega (arith, x.end, length-append (text_of e) (drop layout.end kept), ap length x.begins.1)

-- bytes that follow leave the entry at the front
layout-append : (kept more : List ℕ) (layout : EntryLayout) (e : Entry) → IsLayout kept layout e
    → IsLayout (kept ++ more) layout e
layout-append kept more layout e x =
    record {
      begins = (
        x.begins.0,
        ap (λ t. t ++ more) x.begins.1 ∙ append_assoc (text_of e) (drop layout.end kept) more
            ∙ ap (λ t. text_of e ++ t) (sym (drop-append-le layout.end kept more (layout_fits kept layout e x))),
      );
      line = x.line;
      start = x.start;
      end = x.end;
    }

-- what is said of the bytes that are kept holds of the text
says_first : (kept more : List ℕ) (failed ended : Bool) (result : Result (Option EntryLayout) EntryFault)
    → SaysOf kept failed ended (Some more) result → FirstIs (kept ++ more) result
says_first kept more failed ended (Ok (Some layout)) says = (says.0.0, layout-append kept more layout says.0.0 says.0.1)
says_first kept more failed ended (Ok None) says = rw (says.0, says.2) refl
says_first kept more failed ended (Err Cut) says =
    let same : kept ++ more ≡ kept = ap (λ t. kept ++ t) says.3 ∙ append-nil kept in
    (omega (arith, says.0, ap length same), subst (λ (t : List ℕ). IsPart t) (sym same) says.1)
says_first kept more failed ended (Err Foreign) says =
    λ after e rest begun. says.0 (more ++ after) e rest (begun.0, sym (append_assoc kept more after) ∙ begun.1)
says_first kept more failed ended (Err Read) says = tt

pub first_found : (old new : Option (List ℕ)) (before after : List ℕ) (failed ended : Bool)
    (result : Result (Option EntryLayout) EntryFault)
    → Keeps (prepend_known before old) (prepend_known after new)
    → SaysOf after failed ended new result
    → (text : List ℕ) → prepend_known before old ≡ Some text → FirstIs text result
first_found None new before after failed ended result same says text is = absurd (cc)
first_found (Some old) None before after failed ended result same says text is = absurd same
first_found (Some old) (Some new) before after failed ended result same says text is =
    let whole : before ++ old ≡ text = cc in
    subst (λ (t : List ℕ). FirstIs t result) (same ∙ whole) (says_first after new failed ended result says)
