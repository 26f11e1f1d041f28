-- What a journal holds, what of it lasts, and when it has failed.
use Rattle.std.specs.Prelude.{◌≡◌, ◌⊎◌, ℕ, List, Bool, true, false, Option, None, Some}
use Rattle.std.specs.Prelude.{option_and_then, Err, IsErr, IsNone, Ok, Result}
use Rattle.dispatch_room_exit.specs.declared.exit_status.Done.{Done}
use Rattle.dispatch_room_exit.specs.declared.exit_status.Failure.{Failure}
use Rattle.dispatch_room_exit.specs.declared.exit_status.Failure.TheVariants as failure
use Rattle.std.specs.Option.{option_map}
use Rattle.dispatch_room_journal.specs.Chains.{sha256_digits}
use Rattle.dispatch_room_journal.specs.PlainTexts.{plain_of}
use Rattle.dispatch_room_journal.specs.RowRuns.{PutsEnd}
use Rattle.dispatch_room_journal.specs.WholeEntries.{FailsIn}
use Rattle.dispatch_room_journal.specs.declared.entry_reader.EntryFault.{EntryFault}
use Rattle.dispatch_room_journal.specs.declared.list_ends.ListEnd.{ListEnd}
use Rattle.dispatch_room_serving.specs.declared.journal_files.SystemFile.{SystemFile}
use Rattle.dispatch_room_serving.specs.declared.journal_files.WrittenFile.{WrittenFile}
use Rattle.dispatch_room_serving.specs.declared.journals.Journal.{Journal}

-- What a journal holds is known as the list of all that came only where questions are kept too.
abbrev pub known_where : Bool → Option (List ℕ) → Option (List ℕ)
known_where true held = held
known_where false held = None

abbrev pub known_by : {W : Type 0} → (W → Option (List ℕ)) → Journal W → Option (List ℕ)
known_by held journal = known_where journal.keeps_questions (held journal.out)

-- what a journal holds, where there is one
abbrev pub held_by : {W : Type 0} → (W → Option (List ℕ)) → Option (Journal W) → Option (List ℕ)
held_by held journal = option_and_then (known_by held) journal

-- what a file of the system holds, by what is known of files
abbrev pub shown_in : {F : Type 0} → (F → Option (List ℕ)) → SystemFile F → Option (List ℕ)
shown_in contents system = contents system.file

-- by what is known of what a file holds
module _ {F : Type 0} (contents : F → Option (List ℕ)) where
  -- what is held by the file of a journal, as a list of the first version
  abbrev pub held_in : WrittenFile F × ListEnd → Option (List ℕ)
  held_in out = option_map (plain_of sha256_digits) (contents out.0.file)

  -- an end was put behind the list of such a journal
  abbrev pub puts_end : WrittenFile F × ListEnd → WrittenFile F × ListEnd → Type 0
  puts_end old new = PutsEnd old.1 new.1 (contents old.0.file) (contents new.0.file)

-- that it ended well was kept, where there is a journal
abbrev pub EndsBy : {W : Type 0} → (W → W → Type 0) → Option (Journal W) → Option (Journal W)
    → Type 0
EndsBy ends None new = IsNone new
EndsBy ends (Some old) None = ⊥
EndsBy ends (Some old) (Some new) = ends old.out new.out

-- whether it has failed
abbrev pub failed_by : {W : Type 0} → Option (Journal W) → Bool
failed_by None = false
failed_by (Some journal) = journal.has_failed

-- How a service ends with its journal, where serving ended so. Well: serving did, and that was
-- kept. With a fault: it is that of serving, and nothing more is kept; or serving ended well, that
-- could not be kept, and the journal has failed.
abbrev pub EndsAfter : {W : Type 0} → (W → W → Type 0) → Option (Journal W) → Option (Journal W)
    → Result Done Failure → Result Done Failure → Type 0
EndsAfter ends old new (Ok done) (Ok whole) = (whole ≡ done) × EndsBy ends old new
EndsAfter ends old new (Ok done) (Err fault) = (fault ≡ failure.Journal) × (failed_by new ≡ true)
EndsAfter ends old new (Err fault) result = (result ≡ Err fault) × (new ≡ old)

-- An entry that is to be kept was appended to a keeper, and nothing else was, so no end; one that
-- is not leaves the keeper as it is.
abbrev pub PutsKept : {W : Type 0} → (W → W → List ℕ → Type 0) → Bool → W → W → List ℕ → Type 0
PutsKept puts true old new entry = puts old new entry
PutsKept puts false old new entry = new ≡ old

-- the same of the journal, where there is one, by whether questions are kept in it
abbrev pub PutsBy : {W : Type 0} → (W → W → List ℕ → Type 0) → (Bool → Bool)
    → Option (Journal W) → Option (Journal W) → List ℕ → Type 0
PutsBy puts is_kept None new entry = IsNone new
PutsBy puts is_kept (Some old) None entry = ⊥
PutsBy puts is_kept (Some old) (Some new) entry =
    PutsKept puts (is_kept old.keeps_questions) old.out new.out entry

-- where records are to last, all that is held does
abbrev pub Lasts : Bool → Option (List ℕ) → Option (List ℕ) → Type 0
Lasts is_synced lasting held = is_synced ≡ true → lasting ≡ held

-- A journal has failed once something could not be kept. Then nothing more is, and it says so.
-- Whether its messages are to last, and whether questions are kept, stays the same.
pub record FailsForGood {W E : Type 0} (old new : Journal W)
    (result : Result (Unit {0}) E) : Type 0 where
  pub for_good : old.has_failed ≡ true → (new.out ≡ old.out) × IsErr result
  pub is_synced : new.is_synced ≡ old.is_synced
  pub keeps_questions : new.keeps_questions ≡ old.keeps_questions

-- Why something was not kept: the journal had failed before, or what keeps its entries has.
abbrev pub HasCause : {W : Type 0} → (W → Bool) → Journal W → Journal W → Type 0
HasCause has_failed old new = (old.has_failed ≡ true) ⊎ (has_failed new.out ≡ true)

-- Why it is not known how much of a text is whole records: memory fails, or the text is no
-- list of such, or a read failed.
abbrev pub IsUnread : Bool → List ℕ → Failure → Type 0
IsUnread read_failed text fault = (fault ≡ failure.Memory)
    ⊎ ((fault ≡ failure.Journal) × ((cause : EntryFault) × FailsIn read_failed text cause))
