-- Where the whole entries of a journal end.
use Rattle.std.specs.Prelude.{◌≡◌, ◌⊎◌, ℕ, List, [], ◌++◌, length, min, All, Bool, true}
use Rattle.dispatch_room_journal.specs.declared.entry_reader.EntryFault.{EntryFault}
use Rattle.dispatch_room_journal.specs.declared.entry_reader.EntryFault.TheVariants.{Cut, Foreign}
use Rattle.dispatch_room_journal.specs.declared.entry_reader.EntryFault.TheVariants.{Read}
use Rattle.dispatch_room_journal.specs.Entries.{Entry, IsEntry, IsForeign, IsPart, texts_of}

-- the greatest number of bytes that is counted
abbrev pub most_bytes : ℕ
most_bytes = 18446744073709551615

-- the text is entries, and this follows them
abbrev pub Follows : List ℕ → List Entry → List ℕ → Type 0
Follows text entries rest = All IsEntry entries × (text ≡ texts_of entries ++ rest)

-- what is whole of a text: its entries, and after them there is nothing, or an entry that is cut
-- short
abbrev pub IsCutTo : List ℕ → List ℕ → Type 0
IsCutTo text whole = (entries : List Entry) × (rest : List ℕ) × Follows text entries rest
    × (whole ≡ texts_of entries) × ((rest ≡ []) ⊎ IsPart rest)

-- so many bytes of the text are whole
abbrev pub EndsWhole : List ℕ → ℕ → Type 0
EndsWhole text bytes =
    (whole : List ℕ) × IsCutTo text whole × (bytes ≡ min (length whole) most_bytes)

-- Why a text does not end so: what follows its first entries begins with none; or a read failed, or
-- no more entries are looked at. An entry that is cut short is no fault.
abbrev pub FailsIn : Bool → List ℕ → EntryFault → Type 0
FailsIn read_failed text Cut = ⊥
FailsIn read_failed text Foreign =
    (entries : List Entry) × (rest : List ℕ) × Follows text entries rest × IsForeign rest
FailsIn read_failed text Read =
    (read_failed ≡ true) ⊎ ((entries : List Entry) × (rest : List ℕ) × Follows text entries rest
    × (length entries ≡ most_bytes))
