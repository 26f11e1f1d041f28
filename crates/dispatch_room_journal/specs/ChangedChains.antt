-- What a byte that changed takes from a chain.
use Rattle.std.specs.Prelude.{◌≡◌, ◌≢◌, ◌⊎◌, ◌≤◌, ℕ, List, ◌∷◌, ◌++◌, length, min, All, false}
use Rattle.dispatch_room_journal.specs.declared.whole_records.WholeChain.{WholeChain}
use Rattle.dispatch_room_journal.specs.Chains.{chain_text, first_check, opening, sha256_digits}
use Rattle.dispatch_room_journal.specs.ChainLaws.{AreBodies, HasTwin}
use Rattle.dispatch_room_journal.specs.CutRecords.{IsTruncated, SaysEntry}
use Rattle.dispatch_room_journal.specs.Entries.{Entry, IsEntry, text_of}
use Rattle.dispatch_room_journal.specs.WholeEntries.{most_bytes}
use Rattle.dispatch_room_journal.specs.WholeRecords.{EndsChain}

-- a text in which one byte of another became another one
pub record IsChanged (text now : List ℕ) : Type 0 where
  pub front : List ℕ
  pub back : List ℕ
  pub byte : ℕ
  pub other : ℕ
  pub before : text ≡ front ++ byte ∷ back
  pub after : now ≡ front ++ other ∷ back
  pub differ : byte ≢ other

-- Where one byte of a chain was changed, whichever, behind its first line, and it still is one, at
-- least as many bytes of it are found to be whole as its whole records had, unless the hash has a
-- twin: none of them is taken away.
abbrev pub IsNeverLost : Type 0
IsNeverLost =
    (bodies : List (List ℕ)) (rest now : List ℕ) → AreBodies false bodies → All SaysEntry bodies
    → IsChanged (chain_text sha256_digits first_check bodies ++ rest) now
    → (whole : WholeChain) → EndsChain now whole
    → (min (length (chain_text sha256_digits first_check bodies)) most_bytes ≤ whole.bytes)
    ⊎ HasTwin sha256_digits

-- a text begins as a list does: with the line of a chain, or with an entry
abbrev pub BeginsList : List ℕ → Type 0
BeginsList text = ((rest : List ℕ) × (text ≡ opening ++ rest))
    ⊎ ((e : Entry) × (rest : List ℕ) × IsEntry e × (text ≡ text_of e ++ rest))

-- A list, and one in which one byte was changed, whichever, is never taken for what is left of a
-- truncated one.
abbrev pub IsNeverTruncated : Type 0
IsNeverTruncated =
    (text now : List ℕ) → BeginsList text → (text ≡ now) ⊎ IsChanged text now
    → ¬ (IsTruncated now)
