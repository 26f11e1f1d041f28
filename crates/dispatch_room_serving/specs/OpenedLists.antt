-- How a list is opened, and goes on.
use Rattle.std.specs.Prelude.{◌≡◌, ◌⊎◌, ◌≤◌, ◌+◌, ◌*◌, ◌==◌, ⊤, ℕ, List, [], ◌∷◌, ◌++◌, length}
use Rattle.std.specs.Prelude.{take, Bool, true, false, if◌then◌else◌, is_some, min, unwrap_or, Err}
use Rattle.std.specs.Prelude.{None, Ok, Option, Result, Some}
use Rattle.dispatch_room_exit.specs.declared.exit_status.Failure.{Failure}
use Rattle.dispatch_room_exit.specs.declared.exit_status.Failure.TheVariants.{Journal, Memory}
use Rattle.room_http_messages.specs.Streams.{Grows}
use Rattle.dispatch_room_journal.specs.RecordRuns.{first_link}
use Rattle.dispatch_room_journal.specs.WholeEntries.{EndsWhole, most_bytes}
use Rattle.dispatch_room_journal.specs.Chains.{opening as first_line}
use Rattle.dispatch_room_journal.specs.WholeRecords.{FailsChain, FailsForm, IsForm}
use Rattle.dispatch_room_journal.specs.declared.entry_reader.EntryFault.{EntryFault}
use Rattle.dispatch_room_journal.specs.declared.entry_reader.EntryFault.TheVariants.{Foreign}
use Rattle.dispatch_room_journal.specs.declared.list_ends.ListEnd.{ListEnd}
use Rattle.dispatch_room_journal.specs.declared.list_ends.ListEnd.TheVariants as lists
use Rattle.dispatch_room_journal.specs.declared.whole_records.ListForm.{ListForm}
use Rattle.dispatch_room_journal.specs.declared.whole_records.ListForm.TheVariants as forms
use Rattle.dispatch_room_serving.specs.declared.opened_lists.Rest.{Rest}
use Rattle.dispatch_room_serving.specs.declared.opened_lists.Rest.TheVariants.{Change, Cut}
use Rattle.dispatch_room_serving.specs.declared.opened_lists.Rest.TheVariants.{Truncated}
use Rattle.dispatch_room_serving.specs.declared.opened_lists.WholeList.{WholeList}

-- a mark beside the file of a list has as many bytes as the file, by what is known of them
abbrev pub IsMarked : {F : Type 0} → (F → Option (List ℕ)) → (F → Option ℕ → Type 0) → F → Type 0
IsMarked contents marks file = (text : List ℕ) → contents file ≡ Some text
    → marks file (Some (length text))

-- why a list can't be opened
abbrev pub IsListFault : Failure → Type 0
IsListFault fault = (fault ≡ Memory) ⊎ (fault ≡ Journal)

-- What of a list of this form is whole, and how the list goes on behind that. Of a new list nothing
-- is, and it is not begun; nor is anything of one that was truncated. Of a list that is no chain,
-- its entries say what is whole. Of a chain, its first line is, and so many bytes of records, and
-- it goes on from the link after them.
abbrev pub IsWholeOf : ListForm → WholeList → Type 0
IsWholeOf forms.New list = (list.whole ≡ 0) × (list.end ≡ None)
IsWholeOf forms.Truncated list = (list.whole ≡ 0) × (list.end ≡ None)
IsWholeOf forms.Plain list = list.end ≡ Some lists.Plain
IsWholeOf (forms.Chain chain) list = (list.whole ≡ min (chain.bytes + 7) most_bytes)
    × (list.end ≡ Some (lists.Chain chain.link))

-- So many bytes of a text of this form are whole: of one that is no chain, its whole entries. Of
-- the others their form says it.
abbrev pub IsWholeTo : List ℕ → ListForm → ℕ → Type 0
IsWholeTo text forms.New whole = ⊤
IsWholeTo text forms.Truncated whole = ⊤
IsWholeTo text forms.Plain whole = EndsWhole text whole
IsWholeTo text (forms.Chain chain) whole = ⊤

-- what follows the whole records of a list of this form: all of a truncated one, or the beginning
-- of one record
abbrev pub rest_in : ListForm → Rest
rest_in forms.New = Cut
rest_in forms.Truncated = Truncated
rest_in forms.Plain = Cut
rest_in (forms.Chain chain) = Cut

-- what of a list of this form is whole, by its text, where that is known, and what follows
abbrev pub IsWholeAs : Option (List ℕ) → ListForm → WholeList → Type 0
IsWholeAs known form list = IsWholeOf form list × (list.rest ≡ rest_in form)
    × ((text : List ℕ) → known ≡ Some text → IsWholeTo text form list.whole)

-- the same of a list, which has the form that its text has
pub record IsWholeList (known : Option (List ℕ)) (list : WholeList) : Type 0 where
  pub form : ListForm
  pub is_form : (text : List ℕ) → known ≡ Some text → IsForm text form
  pub whole : IsWholeAs known form list

-- a list is a chain, and what follows its whole records is not the beginning of one: as a change of
-- any byte leaves it, and a power cut behind a record that lasted
abbrev pub IsForeign : Option (List ℕ) → Type 0
IsForeign known = (text : List ℕ) → known ≡ Some text
    → (rest : List ℕ) × (text ≡ first_line ++ rest) × FailsChain false rest Foreign

-- a read of a list failed, or it is too long
abbrev pub IsLost : Option (List ℕ) → Bool → Type 0
IsLost known failed = (failed ≡ true)
    ⊎ ((text : List ℕ) → known ≡ Some text → most_bytes ≤ 2 * length text)

-- What of such a list is whole whose first bytes, up to a mark, have this form: these, if they are
-- the whole records of a chain, and nothing else. What follows was left by a change.
abbrev pub marked_in : ℕ → ListForm → Option WholeList
marked_in bytes forms.New = None
marked_in bytes forms.Truncated = None
marked_in bytes forms.Plain = None
marked_in bytes (forms.Chain chain) = if min (chain.bytes + 7) most_bytes == bytes
    then Some (record { whole = bytes; rest = Change; end = Some (lists.Chain chain.link) })
    else None

-- where it is known of a list what stands in it, and when a read of its first bytes failed
module _ {P : Type 0} (part_failed : P → Bool) (known : Option (List ℕ)) where
  -- what is found by so many first bytes of a list: by the form that they have, or nothing, as none
  -- is known of them
  abbrev pub FindsBefore : ℕ → Option WholeList → Type 0
  FindsBefore bytes found =
      ((form : ListForm) × ((text : List ℕ) → known ≡ Some text → IsForm (take bytes text) form)
      × (found ≡ marked_in bytes form))
      ⊎ ((part : P) × (fault : EntryFault) × ((text : List ℕ) → known ≡ Some text
      → FailsForm (part_failed part) (take bytes text) fault) × (found ≡ None))

  -- the same by what is marked: nothing, where no mark stands beside the list
  abbrev pub FindsMarked : Option ℕ → Option WholeList → Type 0
  FindsMarked None found = found ≡ None
  FindsMarked (Some bytes) found = FindsBefore bytes found

  -- This of a list is whole: what its form says; or, where it has none for what follows its whole
  -- records, what its mark says.
  abbrev pub IsFound : Option ℕ → WholeList → Type 0
  IsFound mark list =
      IsWholeList known list ⊎ (IsForeign known × FindsMarked mark (Some list))

  -- Why that is not known of a list: a read of it fails, or it is no chain; or it is one in which
  -- something else follows its whole records, and no mark says what of it is whole.
  abbrev pub IsUnfound : {R : Type 0} → (R → Bool) → Option ℕ → Type 0
  IsUnfound {R} read_failed mark = ((reader : R) × IsLost known (read_failed reader))
      ⊎ (((text : List ℕ) → known ≡ Some text → IsForm text forms.Plain)
      ⊎ (IsForeign known × FindsMarked mark None))

-- A list goes on where its whole records end. One of which nothing is whole begins anew.
abbrev pub goes_on_at : WholeList → Option ListEnd
goes_on_at list = if list.whole == 0 then None else list.end

-- A step that was tried with the file of a list, and whether it could be done: to make what stands
-- in it last; to copy what follows so many bytes of it to a new file beside it, which is named by
-- what that is; to cut it off; to take the mark beside it away; to write the line with which a chain
-- begins.
pub data Step : Type 0 where
  settled : Bool → Step
  copied : ℕ → Rest → Bool → Step
  cut : ℕ → Bool → Step
  unmarked : Bool → Step
  begun : Bool → Step

-- what is done first with a list: what follows its whole records is copied to a new file, and only
-- then cut off, and no other byte; and only then its mark is taken away
abbrev pub clearing : WholeList → List Step
clearing list = copied list.whole list.rest true ∷ cut list.whole true ∷ unmarked true ∷ []

-- and then a list that goes on nowhere is begun, and no other one
abbrev pub opening : WholeList → List Step
opening list = clearing list ++ (if is_some (goes_on_at list) then [] else begun true ∷ [])

-- what was tried where one of the first could not be done, with which it ends
abbrev pub BreaksClearing : WholeList → List Step → Type 0
BreaksClearing list steps = (steps ≡ copied list.whole list.rest false ∷ [])
    ⊎ (steps ≡ copied list.whole list.rest true ∷ cut list.whole false ∷ [])
    ⊎ (steps ≡ copied list.whole list.rest true ∷ cut list.whole true ∷ unmarked false ∷ [])

-- or of all
abbrev pub BreaksOff : WholeList → List Step → Type 0
BreaksOff list steps = BreaksClearing list steps
    ⊎ ((goes_on_at list ≡ None) × (steps ≡ clearing list ++ begun false ∷ []))

-- what was done first, or could not be
abbrev pub Clears : {F : Type 0} → (F → Option (List Step)) → F → F → WholeList
    → Result (Unit {0}) Failure → Type 0
Clears tried old new list (Ok _) = Grows (tried old) (tried new) (clearing list)
Clears tried old new list (Err fault) = (steps : List Step) × BreaksClearing list steps
    × Grows (tried old) (tried new) steps

-- what is known of the file of a list: what was tried with it, what stands in it, what is marked
-- beside it, that it can't be read, and when a read of it failed
module _ {F R P : Type 0} (tried : F → Option (List Step)) (text : F → Option (List ℕ))
    (marks : F → Option ℕ → Type 0) (unread : F → Type 0) (read_failed : R → Bool)
    (part_failed : P → Bool) where
  -- What stands in the file was made to last, and only then were it and its mark read: this is whole
  -- of it. Then these steps were tried.
  pub record IsTried (old new : F) (list : WholeList) (steps : List Step) : Type 0 where
    pub lasting : F
    pub settles : Grows (tried old) (tried lasting) (settled true ∷ [])
    pub mark : Option ℕ
    pub marked : marks lasting mark
    pub found : IsFound part_failed (text lasting) mark list
    pub tries : Grows (tried lasting) (tried new) steps

  -- What stands in the file was made to last, and nothing else was done: memory fails, the file or
  -- its mark can't be read, or it is not known what of the list is whole.
  pub record IsLeft (old new : F) (fault : Failure) : Type 0 where
    pub settles : Grows (tried old) (tried new) (settled true ∷ [])
    pub why : (fault ≡ Memory) ⊎ ((fault ≡ Journal) × (unread new ⊎ ((mark : Option ℕ)
        × marks new mark × IsUnfound part_failed (text new) read_failed mark)))

  -- The list was opened, by all its steps, and it goes on where its whole records end. Or it was
  -- not: nothing was cut off or begun, or one of these steps could not be done.
  abbrev pub Opens : F → F → Result ListEnd Failure → Type 0
  Opens old new (Ok end) = (list : WholeList) × IsTried old new list (opening list)
      × (end ≡ unwrap_or (goes_on_at list) (lists.Chain first_link))
  Opens old new (Err fault) = Grows (tried old) (tried new) (settled false ∷ [])
      ⊎ (IsLeft old new fault
      ⊎ ((list : WholeList) × (steps : List Step) × BreaksOff list steps
      × IsTried old new list steps))
