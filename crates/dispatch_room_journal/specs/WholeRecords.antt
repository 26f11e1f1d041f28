-- Where the whole records of a list end.
use Rattle.std.specs.Prelude.{◌≡◌, ◌≢◌, ◌⊎◌, ◌≤◌, ◌<◌, ◌*◌, ◌+◌, ℕ, List, [], ◌∷◌, ◌++◌, length}
use Rattle.std.specs.Prelude.{min, Bool, true, false, Option}
use Rattle.std.specs.Io.KnownBytes.{Consumes, IsAtEnd, Keeps}
use Rattle.dispatch_room_journal.specs.CutRecords.{IsCutRecord, IsTruncated, SaysEntry}
use Rattle.dispatch_room_journal.specs.WholeEntries.{most_bytes}
use Rattle.dispatch_room_journal.specs.declared.entry_reader.EntryFault.{EntryFault}
use Rattle.dispatch_room_journal.specs.declared.entry_reader.EntryFault.TheVariants.{Cut, Foreign}
use Rattle.dispatch_room_journal.specs.declared.entry_reader.EntryFault.TheVariants.{Read}
use Rattle.dispatch_room_journal.specs.declared.record_fronts.Front.TheVariants.{Short, Wrong}
use Rattle.dispatch_room_journal.specs.declared.record_fronts.Link.{Link}
use Rattle.dispatch_room_journal.specs.declared.whole_records.ListForm.{ListForm}
use Rattle.dispatch_room_journal.specs.declared.whole_records.ListForm.TheVariants.{Chain, New}
use Rattle.dispatch_room_journal.specs.declared.whole_records.ListForm.TheVariants.{Plain}
use Rattle.dispatch_room_journal.specs.declared.whole_records.ListForm.TheVariants.{Truncated}
use Rattle.dispatch_room_journal.specs.declared.whole_records.WholeChain.{WholeChain}
use Rattle.dispatch_room_journal.specs.Chains.{chain_text, first_check, opening, sha256_digits}
use Rattle.dispatch_room_journal.specs.RecordFronts.{front_of}
use Rattle.dispatch_room_journal.specs.RecordRuns.{Runs, first_link}

-- the text after a chain's first line begins with these records, and this rest follows them; and
-- how far the chain has come after them
abbrev pub GoesOnTo : List ℕ → List (List ℕ) → List ℕ → Link → Type 0
GoesOnTo text bodies rest link = Runs SaysEntry first_link text bodies rest link

-- so many bytes of the text are whole records: after them there is nothing, or the beginning of one
-- record that comes next
abbrev pub EndsChain : List ℕ → WholeChain → Type 0
EndsChain text whole =
    (bodies : List (List ℕ)) × (rest : List ℕ) × GoesOnTo text bodies rest whole.link
    × (whole.bytes ≡ min (length (chain_text sha256_digits first_check bodies)) most_bytes)
    × ((rest ≡ []) ⊎ ((front_of sha256_digits whole.link.check whole.link.has_ended rest ≡ Short)
    × IsCutRecord rest))

-- Why a text does not end so: what follows its first records is not the one that comes next, or the
-- next one is no entry, or all that follows is too short for the next one and not the beginning of
-- one; or a read failed, or the text is too long.
abbrev pub FailsChain : Bool → List ℕ → EntryFault → Type 0
FailsChain read_failed text Cut = ⊥
FailsChain read_failed text Foreign =
    (bodies : List (List ℕ)) × (rest : List ℕ) × (link : Link) × GoesOnTo text bodies rest link
    × ((front_of sha256_digits link.check link.has_ended rest ≡ Wrong)
    ⊎ (((body : List ℕ) × (more : List ℕ)
    × (rest ≡ chain_text sha256_digits link.check (body ∷ []) ++ more) × (SaysEntry body → ⊥))
    ⊎ ((front_of sha256_digits link.check link.has_ended rest ≡ Short) × ¬ (IsCutRecord rest))))
FailsChain read_failed text Read = (read_failed ≡ true) ⊎ (most_bytes ≤ 2 * length text)

-- What a list is: none yet, where it is some first bytes of the line with which a chain begins and
-- not all of it; what is left of a truncated chain, where it begins with the line of a record; no
-- chain, where it begins otherwise; or a chain, of which so much is whole.
abbrev pub IsForm : List ℕ → ListForm → Type 0
IsForm text New = (more : List ℕ) × (opening ≡ text ++ more) × (0 < length more)
IsForm text Truncated = IsTruncated text
IsForm text Plain = ((more : List ℕ) → opening ≢ text ++ more)
    × ((rest : List ℕ) → text ≢ opening ++ rest) × ¬ (IsTruncated text)
IsForm text (Chain whole) = (rest : List ℕ) × (text ≡ opening ++ rest) × EndsChain rest whole

-- why that is not known: a read failed, or it is a chain that does not end so
abbrev pub FailsForm : Bool → List ℕ → EntryFault → Type 0
FailsForm read_failed text fault = ((read_failed ≡ true) × (fault ≡ Read))
    ⊎ ((rest : List ℕ) × (text ≡ opening ++ rest) × FailsChain read_failed rest fault)

-- a read gave some bytes more, or found the end
abbrev pub GivesMore : List ℕ → List ℕ → Option (List ℕ) → Option (List ℕ) → Bool → Type 0
GivesMore before after left now true = (more : List ℕ) × (1 ≤ length more)
    × (after ≡ before ++ more) × Consumes left now more
GivesMore before after left now false = (after ≡ before) × Keeps left now × IsAtEnd now

-- there are so many bytes, or nothing more is read
abbrev pub IsFull : ℕ → List ℕ → Option (List ℕ) → Bool → Type 0
IsFull count kept left true = count ≤ length kept
IsFull count kept left false = (length kept < count) × IsAtEnd left
