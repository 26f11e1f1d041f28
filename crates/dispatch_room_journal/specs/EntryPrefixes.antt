-- What the first bytes of a journal are.
use Rattle.std.specs.Prelude.{◌≡◌, ℕ, ◌+◌, List, length, drop}
use Rattle.dispatch_room_journal.specs.declared.entry_prefixes.EntryLayout.{EntryLayout}
use Rattle.dispatch_room_journal.specs.declared.entry_prefixes.EntryPrefix.{EntryPrefix}
use Rattle.dispatch_room_journal.specs.declared.entry_prefixes.EntryPrefix.TheVariants.{Whole, Part}
use Rattle.dispatch_room_journal.specs.declared.entry_prefixes.EntryPrefix.TheVariants.{Foreign}
use Rattle.dispatch_room_journal.specs.Entries.{Entry, line_text, line_of, text_of, IsPart}
use Rattle.dispatch_room_journal.specs.Entries.{IsForeign, Begins}

-- where the entry at the front of the bytes is: what its line says, where its line has ended, and
-- where it ends
pub record IsLayout (bytes : List ℕ) (layout : EntryLayout) (e : Entry) : Type 0 where
  pub begins : Begins bytes e (drop layout.end bytes)
  pub line : layout.line ≡ line_of e
  pub start : layout.start ≡ length (line_text (line_of e)) + 1
  pub end : layout.end ≡ length (text_of e)

-- the bytes begin with an entry, or end within one, or begin with none, whatever follows
abbrev pub LookIs : List ℕ → EntryPrefix → Type 0
LookIs bytes (Whole layout) = (e : Entry) × IsLayout bytes layout e
LookIs bytes Part = IsPart bytes
LookIs bytes Foreign = IsForeign bytes
