-- What the text of a journal decides by itself.
use Rattle.std.specs.Prelude.{◌≡◌, ℕ, List, [], All}
use Rattle.dispatch_room_journal.specs.Entries.{Entry, IsEntry, texts_of, Begins, IsPart, IsForeign}

-- a text begins with at most one entry
abbrev pub IsOneEntry : Type 0
IsOneEntry =
    (text : List ℕ) (e f : Entry) (rest left : List ℕ) → Begins text e rest → Begins text f left
    → (e ≡ f) × (rest ≡ left)

-- a text that begins with an entry is not empty, nor is it cut short, nor foreign
abbrev pub IsNoEnd : Type 0
IsNoEnd =
    (text : List ℕ) (e : Entry) (rest : List ℕ) → Begins text e rest
    → (¬ (text ≡ [])) × (¬ (IsPart text)) × (¬ (IsForeign text))

-- a text is the text of at most one list of entries
abbrev pub IsOneJournal : Type 0
IsOneJournal =
    (entries others : List Entry) → All IsEntry entries → All IsEntry others
    → texts_of entries ≡ texts_of others → entries ≡ others
