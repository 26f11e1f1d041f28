-- What a list holds.
use Rattle.std.specs.Prelude.{◌≡◌, ◌⊎◌, ◌<◌, ℕ, ◌+◌, List, [], ◌∷◌, ◌++◌, length, min, All, Bool}
use Rattle.std.specs.Prelude.{true, Option, Some, None}
use Rattle.std.specs.List.{flat_map}
use Rattle.dispatch_room_journal.specs.declared.entry_lines.EntryLine.{EntryLine}
use Rattle.dispatch_room_journal.specs.declared.entry_lines.EntryLine.TheVariants.{Room, Message}
use Rattle.dispatch_room_journal.specs.declared.entry_lines.EntryLine.TheVariants.{Answer}
use Rattle.dispatch_room_journal.specs.declared.entry_reader.EntryFault.{EntryFault}
use Rattle.dispatch_room_journal.specs.declared.entry_reader.EntryFault.TheVariants.{Cut, Foreign}
use Rattle.dispatch_room_journal.specs.declared.entry_reader.EntryFault.TheVariants.{Read}
use Rattle.dispatch_room_journal.specs.WholeEntries.{Follows, most_bytes}
use Rattle.dispatch_room_journal.specs.Entries.{Entry, IsEntry, IsForeign, IsPart, line_of}
use Rattle.dispatch_room_journal.specs.Entries.{texts_of}
use Rattle.dispatch_room_journal.specs.declared.list_tallies.Defect.{Defect}
use Rattle.dispatch_room_journal.specs.declared.list_tallies.Span.{Span}
use Rattle.dispatch_room_journal.specs.declared.list_tallies.Tally.{Tally}

-- the moment at which a message came
abbrev pub moments_by : EntryLine → List ℕ
moments_by (Room head) = []
moments_by (Message at size) = at ∷ []
moments_by (Answer status) = []

-- the moments of the messages of a list
abbrev pub moments_of : List Entry → List ℕ
moments_of entries = flat_map (λ e. moments_by (line_of e)) entries

-- the first of these moments and the last, where there are any
abbrev pub SpanIs : Option Span → List ℕ → Type 0
SpanIs None moments = moments ≡ []
SpanIs (Some span) moments =
    ((more : List ℕ) × (moments ≡ span.first ∷ more))
    × ((front : List ℕ) × (moments ≡ front ++ span.last ∷ []))

-- so many messages came, from then to then
pub record Tallies (tally : Tally) (moments : List ℕ) : Type 0 where
  pub messages : tally.messages ≡ min (length moments) most_bytes
  pub span : SpanIs tally.span moments

-- the text is empty: nothing was begun; or it is entries, one at least, and these are their
-- messages
abbrev pub IsVerified : List ℕ → Option Tally → Type 0
IsVerified text None = text ≡ []
IsVerified text (Some tally) =
    (entries : List Entry) × (0 < length entries) × All IsEntry entries
    × (text ≡ texts_of entries) × Tallies tally (moments_of entries)

-- what follows a text's first entries, by the fault
abbrev pub EndsAs : Bool → List Entry → List ℕ → EntryFault → Type 0
EndsAs read_failed entries rest Cut = (0 < length rest) × IsPart rest
EndsAs read_failed entries rest Foreign = IsForeign rest
EndsAs read_failed entries rest Read = (read_failed ≡ true) ⊎ (length entries ≡ most_bytes)

-- the text's first entries are followed by none, at the message after theirs
abbrev pub IsFlawed : Bool → List ℕ → Defect → Type 0
IsFlawed read_failed text defect =
    (entries : List Entry) × (rest : List ℕ) × Follows text entries rest
    × EndsAs read_failed entries rest defect.fault
    × (defect.number ≡ min (length (moments_of entries) + 1) most_bytes)
