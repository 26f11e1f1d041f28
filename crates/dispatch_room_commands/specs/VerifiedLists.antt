-- What is printed of a list that was looked through.
use Rattle.std.specs.Prelude.{◌≡◌, ℕ, List, [], ◌∷◌, ◌++◌, codes, decimal, Bool, true, false}
use Rattle.std.specs.Prelude.{Option, Some, None}
use Rattle.dispatch_room_journal.specs.ListTallies.{IsFlawed}
use Rattle.dispatch_room_journal.specs.declared.entry_reader.EntryFault.{EntryFault}
use Rattle.dispatch_room_journal.specs.declared.entry_reader.EntryFault.TheVariants.{Cut, Foreign}
use Rattle.dispatch_room_journal.specs.declared.entry_reader.EntryFault.TheVariants.{Read}
use Rattle.dispatch_room_journal.specs.declared.list_tallies.Defect.{Defect}
use Rattle.dispatch_room_journal.specs.declared.list_tallies.Span.{Span}
use Rattle.dispatch_room_journal.specs.declared.list_tallies.Tally.{Tally}
use Rattle.dispatch_room_exit.specs.declared.exit_status.Failure.{Failure}
use Rattle.dispatch_room_exit.specs.declared.exit_status.Failure.TheVariants.{Network, Record}

-- how many messages the list has
abbrev pub messages_text : ℕ → List ℕ
messages_text messages = codes "verified " ++ decimal messages ++ 10 ∷ []

-- when the first of them came, and the last
abbrev pub span_text : Option Span → List ℕ
span_text None = []
span_text (Some span) =
    codes "from " ++ decimal span.first ++ codes " to " ++ decimal span.last ++ 10 ∷ []

-- whether the list ended well
abbrev pub end_text : Bool → List ℕ
end_text true = codes "ended\n"
end_text false = codes "not ended\n"

-- a line for each
abbrev pub tally_text : Tally → Bool → List ℕ
tally_text tally has_ended =
    messages_text tally.messages ++ span_text tally.span ++ end_text has_ended

-- or that nothing was begun
abbrev pub none_text : List ℕ
none_text = codes "nothing was begun\n"

-- how the program fails by a defect of a list: as the record at which it is no list, or as a read
-- that failed
abbrev pub fails_by : EntryFault → ℕ → Failure
fails_by Cut number = Record number
fails_by Foreign number = Record number
fails_by Read number = Network

-- a list has a defect, by which the program fails
abbrev pub FlawsList : Option (List ℕ) → Bool → Failure → Type 0
FlawsList list read_failed fault = (defect : Defect) × (fault ≡ fails_by defect.fault defect.number)
    × ((text : List ℕ) → list ≡ Some text → IsFlawed read_failed text defect)
